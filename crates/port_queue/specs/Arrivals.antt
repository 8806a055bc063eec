-- Three queues whose entries bear arrival numbers, and the one list that they stand for.
use Rattle.std.specs.Prelude.{◌≡◌, ◌≢◌, ℕ, ◌+◌, ◌<◌, ◌≤◌, nat_lt, nat_le, Bool, true, false, if◌then◌else◌, List, [], ◌∷◌, map, Option, Some, None, option_map, length, ◌^◌, ◌-◌}
use Rattle.ordering.specs.Ordering.{Class, same_class}
use Rattle.port_queue.specs.Queue.{Queue}
pub use Rattle.port_queue.specs.declared.entry.Entry.{Entry}
pub use Rattle.port_queue.specs.declared.entry.Gap.{Gap}

module _ {A : Type 0} where
  abbrev pub Each : (A → Type 0) → List A → Type 0
  Each P [] = Unit {0}
  Each P (x ∷ xs) = P x × Each P xs

module _ {A : Type 0} where
  -- put before the first of a greater number
  abbrev pub insert_in : ℕ × A → List (ℕ × A) → List (ℕ × A)
  insert_in x [] = x ∷ []
  insert_in x (y ∷ ys) = if nat_lt x.0 y.0 then x ∷ y ∷ ys else y ∷ insert_in x ys

  abbrev pub all_in : List (ℕ × A) → List (ℕ × A) → List (ℕ × A)
  all_in [] ys = ys
  all_in (x ∷ xs) ys = insert_in x (all_in xs ys)

  -- how many stand before the first of a greater number
  abbrev pub place_of : ℕ → List (ℕ × A) → ℕ
  place_of n [] = 0
  place_of n (y ∷ ys) = if nat_lt n y.0 then 0 else 1 + place_of n ys

module _ {T : Type 0} where
  abbrev pub tagged : Class → Entry T → ℕ × (Class × T)
  tagged class e = (e.number, (class, e.item))

  -- all entries of the three queues, by their numbers
  abbrev pub arrivals : (Class → List (Entry T)) → List (ℕ × (Class × T))
  arrivals queues =
      all_in (map (tagged Class.Posted) (queues Class.Posted))
      (all_in (map (tagged Class.NonPosted) (queues Class.NonPosted))
      (all_in (map (tagged Class.Completion) (queues Class.Completion)) []))

  abbrev pub waiting_of : (Class → List (Entry T)) → List (Class × T)
  waiting_of queues = map (λ y. y.1) (arrivals queues)

  abbrev pub gap_of : Option Gap → (Class → List (Entry T)) → Option (Class × ℕ)
  gap_of gap queues = option_map (λ g. (g.class, place_of g.number (arrivals queues))) gap

  abbrev pub queue_of : (Class → List (Entry T)) → Option Gap → Queue T
  queue_of queues gap = record { waiting = waiting_of queues; gap = gap_of gap queues }

  abbrev pub numbers_of : (Class → List (Entry T)) → Class → List ℕ
  numbers_of queues class = map (λ e. e.number) (queues class)

-- may the first entry of a class leave beside the first posted one?
abbrev pub may_leave : {T : Type 0} → Option (Entry T) → Option (Entry T) → Bool
may_leave None posted = false
may_leave (Some e) None = true
may_leave (Some e) (Some posted) = nat_le e.number posted.number

-- the number of an entry, or for none the last number, which no entry has
abbrev pub number_or_last_of : {T : Type 0} → Option (Entry T) → ℕ
number_or_last_of None = 2 ^ 64 - 1
number_or_last_of (Some e) = e.number

-- of three numbers, one for each class, that of this class is the least
abbrev pub IsLeast : ℕ → ℕ → ℕ → Class → Type 0
IsLeast p n c Class.Posted = (p ≤ n) × (p ≤ c)
IsLeast p n c Class.NonPosted = (n ≤ p) × (n ≤ c)
IsLeast p n c Class.Completion = (c ≤ p) × (c ≤ n)

-- the numbers, with that of the gap as if its entry were still there
abbrev pub with_gap : Option Gap → (Class → List ℕ) → Class → List ℕ
with_gap None numbers class = numbers class
with_gap (Some g) numbers class = if same_class class g.class then g.number ∷ numbers class else numbers class

abbrev pub Rising : List ℕ → Type 0
Rising [] = Unit {0}
Rising (x ∷ xs) = Each (λ y. x < y) xs × Rising xs

-- each queue is in order, no number stands in two, and all are below the next
pub record AreNumbered (numbers : Class → List ℕ) (next : ℕ) : Type 0 where
  pub rising : (c : Class) → Rising (numbers c)
  pub apart : (c d : Class) → same_class c d ≡ false → Each (λ x. Each (λ y. y ≢ x) (numbers d)) (numbers c)
  pub below : (c : Class) → Each (λ x. x < next) (numbers c)

-- three queues of at most cap entries each, and of numbers below the next
pub record AreClassQueues {T : Type 0} (cap : ℕ) (queues : Class → List (Entry T)) (next : ℕ) (gap : Option Gap) : Type 0 where
  pub sound : AreNumbered (with_gap gap (numbers_of queues)) next
  pub fits : (c : Class) → length (with_gap gap (numbers_of queues) c) ≤ cap
  pub small : cap < 2 ^ 62
