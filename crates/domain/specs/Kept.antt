-- What every domain keeps: its state is what its journal leaves, and its journal has room for the end of
-- each packet that its budget and its alien packets lead to.
use Rattle.std.specs.Prelude.{◌≡◌, ◌+◌, ◌*◌, ◌≤◌, Some, vec_capacity}
use Rattle.platform.specs.Share.{IsShare}
use Rattle.domain.specs.declared.domain.Domain.TheInside.{Inside}
use Rattle.domain.specs.Domains.{DomainView}
use Rattle.domain.specs.Machine.{aliens_in, replay}

abbrev pub domain_view : Inside → DomainView
domain_view d = record { share = d.start; state = d.state; journal = d.journal.items }

pub record Kept (d : Inside) : Type 0 where
  pub share : IsShare d.start
  pub table : d.table ≡ d.start.maps
  pub replays : replay d.start d.journal.items ≡ Some d.state
  pub entries : d.entries ≡ 4 * d.start.budget + 3 * aliens_in d.journal.items
  pub room : d.entries ≤ vec_capacity d.journal
