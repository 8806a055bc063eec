-- PCIe 4.0, 2.4.1: what waits in a queue, and what may leave it.
use Rattle.std.specs.Prelude.{ℕ, List, insert, Option, Some, None, option_map, ◌+◌, [], ◌∷◌, if◌then◌else◌}
use Rattle.ordering.specs.Ordering.{Class, same_class, take_one}

-- what waits, from the oldest to the newest, and where the item stood that the last call took
pub record Queue (T : Type 0) : Type 0 where
  pub waiting : List (Class × T)
  pub gap : Option (Class × ℕ)

module _ {T : Type 0} where
  -- how many of a class wait
  abbrev pub count_of : Class → List (Class × T) → ℕ
  count_of class [] = 0
  count_of class (w ∷ ws) = if same_class class w.0 then 1 + count_of class ws else count_of class ws

  -- the eligible item of a class, with its class, and what is left without it
  abbrev pub taken_of : Class → List (Class × T) → Option ((Class × T) × List (Class × T))
  taken_of class waiting = take_one (λ w. w.0) class waiting

  -- the eligible item of a class
  abbrev pub head_of : Class → List (Class × T) → Option T
  head_of class waiting = option_map (λ r. r.0.1) (taken_of class waiting)

  abbrev pub restored_at : Option (Class × ℕ) → Class → T → List (Class × T) → Option (List (Class × T))
  restored_at None class item waiting = None
  restored_at (Some gap) class item waiting = if same_class gap.0 class then Some (insert waiting gap.1 (class, item)) else None

  -- what waits once the item is put back where the last call took one of its class; None where it took none
  abbrev pub restored : Queue T → Class → T → Option (List (Class × T))
  restored q class item = restored_at q.gap class item q.waiting
