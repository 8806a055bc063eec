-- What a clause sees of a record of a completion.
use Rattle.domain.specs.declared.deliver.Record.TheInside.{Inside}
use Rattle.domain_state.specs.State.{Delivery}

abbrev pub delivery_in : Inside → Delivery
delivery_in r = record { owner = r.owner; tag = r.tag; status = r.status; bytes = r.bytes.items }
