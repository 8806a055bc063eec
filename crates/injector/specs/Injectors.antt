-- What an injector does.
use Rattle.std.specs.Prelude.{◌≡◌, ℕ, ◌+◌, ◌^◌, ◌⊎◌, ◌<◌, ◌≤◌, ◌++◌, ◌∷◌, [], None, length}
use Rattle.fab_types.specs.declared.origin.Origin.{Origin}
use Rattle.rtrb.specs.Ring.{known_free, producer_capacity, received, sent, SameConsumer, SameProducer}
use Rattle.injector.specs.declared.begin.Ask.{Ask}
use Rattle.injector.specs.declared.injector.Injector.{Injector}
use Rattle.injector.specs.declared.injector.WorkerEnds.{WorkerEnds}
use Rattle.injector.specs.Records.{given_out}

-- the injector is the same but for the begins that it sent
pub record SameButBegins (old new : Injector) : Type 0 where
  pub origin : new.origin ≡ old.origin
  pub ring : SameProducer old.begins new.begins
  pub records : new.records ≡ old.records

-- It sent this one begin, which bears the next number and takes one place.
pub record Injects (old : Injector) (ask : Ask) (new : Injector) : Type 0 where
  pub same : SameButBegins old new
  pub sends : sent new.begins ≡ sent old.begins ++ record { number = length (sent old.begins); what = ask } ∷ []
  pub place : known_free old.begins ≤ known_free new.begins + 1

pub record SendsNothing (old new : Injector) : Type 0 where
  pub same : SameButBegins old new
  pub sends : sent new.begins ≡ sent old.begins

-- the injector is the same but for the records that it took
pub record SameButRecords (old new : Injector) : Type 0 where
  pub origin : new.origin ≡ old.origin
  pub begins : new.begins ≡ old.begins
  pub ring : SameConsumer old.records new.records

-- it knows of a place in the ring, and the next number isn't the last that there is
abbrev pub HasPlace : Injector → Type 0
HasPlace injector = (0 < known_free injector.begins) × (length (sent injector.begins) + 1 < 2 ^ 64)

-- it knows of no place in the ring, or the next number is the last that there is
abbrev pub HasNoPlace : Injector → Type 0
HasNoPlace injector = (known_free injector.begins ≡ 0) ⊎ (length (sent injector.begins) + 1 ≡ 2 ^ 64)

-- Nothing went through the rings yet, and they have these places.
pub record IsOpened (origin : Origin) (budget : ℕ) (injector : Injector) (ends : WorkerEnds) : Type 0 where
  pub origin_is : injector.origin ≡ origin
  pub sent_is : sent injector.begins ≡ []
  pub taken_is : received ends.begins.consumer ≡ []
  pub counts : (ends.begins.held ≡ None) × (ends.begins.accepted ≡ 0) × (ends.begins.refused ≡ 0)
  pub places : (producer_capacity injector.begins ≡ 16384) × (known_free injector.begins ≡ 16384)
  pub given : given_out ends.records ≡ []
  pub received_is : received injector.records ≡ []
  pub room : (producer_capacity ends.records.producer ≡ budget) × (known_free ends.records.producer ≡ budget)
