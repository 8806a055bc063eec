-- What a replay of a journal makes of a domain.
use Rattle.std.specs.Prelude.{◌≡◌, ℕ, List, [], ◌∷◌, ◌++◌, take, slice_get, Option, Some, None}
use Rattle.platform.specs.Share.{Share}
use Rattle.domain.specs.declared.entry.Entry.{Entry}
use Rattle.domain.specs.Domains.{DomainView}
use Rattle.domain.specs.Machine.{change, replay}
use Rattle.request_handling.specs.Emissions.{Emission}
use Rattle.domain_state.specs.State.{Alone}

-- the entry was legal, and is the last of the journal now
pub record Follows (old : DomainView) (entry : Entry) (new : DomainView) : Type 0 where
  pub share : new.share ≡ old.share
  pub journal : new.journal ≡ old.journal ++ entry ∷ []
  pub emission : Option Emission
  pub step : change old.share old.state entry ≡ Some (record { state = new.state; emission = emission })

-- the entries before this one are legal, and it is not
pub record IsFirstIllegal (share : Share) (entries : List Entry) (i : ℕ) : Type 0 where
  pub before : Alone
  pub legal : replay share (take i entries) ≡ Some before
  pub entry : Entry
  pub there : slice_get entries i ≡ Some entry
  pub illegal : change share before entry ≡ None
