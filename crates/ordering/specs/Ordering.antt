-- Which packets may pass which (PCIe 4.0, 2.4.1), and what of a queue may leave it. Relaxed Ordering and ID-Based Ordering
-- let no packet pass here, which the standard leaves open.
use Rattle.std.specs.Prelude.{◌≡◌, ◌↔◌, Bool, true, false, List, [], ◌∷◌, ◌++◌, All, Option, Some, None, is_some}
pub use Rattle.fab_types.specs.declared.class.Class.{Class}

-- may a later packet of the first class pass an earlier one of the second?
abbrev pub passes : Class → Class → Bool
passes Class.Posted Class.NonPosted = true
passes Class.Posted Class.Completion = true
passes Class.NonPosted Class.Completion = true
passes Class.Completion Class.NonPosted = true
passes _ _ = false

abbrev pub same_class : Class → Class → Bool
same_class Class.Posted Class.Posted = true
same_class Class.NonPosted Class.NonPosted = true
same_class Class.Completion Class.Completion = true
same_class _ _ = false

-- a queue is a list of items, from the oldest to the newest; class_of gives the class of each
module _ {T : Type 0} where
  -- the older item stays in front of what is left
  abbrev pub behind : T → Option (T × List T) → Option (T × List T)
  behind older None = None
  behind older (Some r) = Some (r.0, older ∷ r.1)

  -- at an item: it is of the class, or it may be passed, or nothing may leave
  abbrev pub at_item : Bool → Bool → T → List T → Option (T × List T) → Option (T × List T)
  at_item true over x later found = Some (x, later)
  at_item false true x later found = behind x found
  at_item false false x later found = None

  -- the eligible item of a class, and what is left of the queue without it
  abbrev pub take_one : (T → Class) → Class → List T → Option (T × List T)
  take_one class_of class [] = None
  take_one class_of class (x ∷ xs) = at_item (same_class class (class_of x)) (passes class (class_of x)) x xs (take_one class_of class xs)

  -- may one item of the class leave?
  abbrev pub has_eligible : (T → Class) → Class → List T → Bool
  has_eligible class_of class xs = is_some (take_one class_of class xs)

  -- x is of the class and may pass every older item, and rest is the queue without it
  pub record Leaves (class_of : T → Class) (class : Class) (xs : List T) (x : T) (rest : List T) : Type 0 where
    pub older : List T
    pub newer : List T
    pub queue : xs ≡ older ++ x ∷ newer
    pub is_left : rest ≡ older ++ newer
    pub of_class : class_of x ≡ class
    pub passes_older : All (λ y. passes class (class_of y) ≡ true) older

-- what take_one gives is exactly the item that may pass every older one
abbrev pub TakesTheEligible : Type 0 → Type 0
TakesTheEligible T = (class_of : T → Class) (class : Class) (xs rest : List T) (x : T) →
    (take_one class_of class xs ≡ Some (x, rest)) ↔ Leaves class_of class xs x rest
