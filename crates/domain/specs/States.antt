-- What a clause sees of a domain's state.
use Rattle.std.specs.Prelude.{◌+◌, ◌≤◌, length, vec_capacity}
use Rattle.domain.specs.declared.state.State.TheInside.{Inside}
use Rattle.domain_state.specs.State.{Alone}

abbrev pub alone_of : Inside → Alone
alone_of s = record {
  frames = s.contents.memory;
  registers = s.contents.registers;
  open_tags = s.open_tags.items;
  deliveries = s.records.items;
  counts = s.contents.counts;
  flight = s.flight;
}

-- each open Tag has room for the record of its completion
pub record HasRoom (s : Inside) : Type 0 where
  pub records : length s.open_tags.items + length s.records.items ≤ vec_capacity s.records
