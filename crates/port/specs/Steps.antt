-- The steps of a turn, each over the parts that it changes.
use Rattle.std.specs.Prelude.{◌≡◌, ℕ, ⊤, ◌⊎◌, Bool, true, false, List, [], ◌∷◌, ◌++◌, Option, Some, option_to_list, slice_set, slice_index_or}
use Rattle.fab_types.specs.declared.class.Class.{Class}
use Rattle.fab_types.specs.declared.outcome.Outcome.{Outcome}
use Rattle.fab_types.specs.declared.outcome.Outcome.TheVariants.{Moved, Idle, Refused, NoMemory}
use Rattle.frame_log.specs.Descriptor.{Descriptor}
use Rattle.lane.specs.Lanes.{eligible}

-- a turn begins nothing, so nothing is refused in it
abbrev pub IsOfTurn : Outcome → Type 0
IsOfTurn Moved = ⊤
IsOfTurn Idle = ⊤
IsOfTurn (Refused fault) = ⊥
IsOfTurn NoMemory = ⊤

-- the eligible packet went on, or is kept as one that may not
pub record Forwards (class : Class) (may : Descriptor → Bool) (waiting sent strays waiting' sent' strays' : List Descriptor) : Type 0 where
  pub frame : Descriptor
  pub taken : eligible class waiting ≡ Some (frame, waiting')
  pub went : ((may frame ≡ true) × (sent' ≡ sent ++ frame ∷ []) × (strays' ≡ strays))
      ⊎ ((may frame ≡ false) × (sent' ≡ sent) × (strays' ≡ strays ++ frame ∷ []))

-- the eligible packet was refused, and its answer was put or is kept
pub record Refuses (class : Class) (refused : Descriptor → Option Descriptor → Type 0) (waiting sent waiting' sent' : List Descriptor) (kept' : Option Descriptor) : Type 0 where
  pub frame : Descriptor
  pub answer : Option Descriptor
  pub put : List Descriptor
  pub taken : eligible class waiting ≡ Some (frame, waiting')
  pub given : refused frame answer
  pub added : sent' ≡ sent ++ put
  pub answered : put ++ option_to_list kept' ≡ option_to_list answer

-- the eligible packet is kept as a stray
pub record Strays (class : Class) (unknown : Descriptor → Type 0) (waiting strays waiting' strays' : List Descriptor) : Type 0 where
  pub frame : Descriptor
  pub taken : eligible class waiting ≡ Some (frame, waiting')
  pub given : unknown frame
  pub added : strays' ≡ strays ++ frame ∷ []

-- more packets in a lane
abbrev pub with_put : List (List Descriptor) → ℕ → List Descriptor → List (List Descriptor)
with_put outs lane frames = slice_set outs lane (slice_index_or outs lane [] ++ frames)

-- the same, where the lane is one of several
pub record ForwardsAt (class : Class) (may : Descriptor → Bool) (lane : ℕ) (waiting : List Descriptor) (outs : List (List Descriptor)) (strays waiting' : List Descriptor) (outs' : List (List Descriptor)) (strays' : List Descriptor) : Type 0 where
  pub frame : Descriptor
  pub taken : eligible class waiting ≡ Some (frame, waiting')
  pub went : ((may frame ≡ true) × (outs' ≡ with_put outs lane (frame ∷ [])) × (strays' ≡ strays))
      ⊎ ((may frame ≡ false) × (outs' ≡ outs) × (strays' ≡ strays ++ frame ∷ []))

pub record RefusesAt (class : Class) (refused : Descriptor → Option Descriptor → Type 0) (own : ℕ) (waiting : List Descriptor) (outs : List (List Descriptor)) (waiting' : List Descriptor) (outs' : List (List Descriptor)) (kept' : Option Descriptor) : Type 0 where
  pub frame : Descriptor
  pub answer : Option Descriptor
  pub put : List Descriptor
  pub taken : eligible class waiting ≡ Some (frame, waiting')
  pub given : refused frame answer
  pub added : outs' ≡ with_put outs own put
  pub answered : put ++ option_to_list kept' ≡ option_to_list answer
