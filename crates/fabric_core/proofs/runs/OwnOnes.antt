-- The packets of one domain in a queue, where a packet of its own comes or leaves.
use Rattle.std.proofs.Common.{◌≡◌, ℕ, ◌+◌, ◌≤◌, ◌==◌, Bool, true, false, cond, List, [], ◌∷◌, ◌++◌, Some, refl, sym, ap, ◌∙◌, arith}
use Rattle.std.specs.Prelude.{filter}
use Rattle.std.proofs.lemmas.List.Elements.{All-filter}
use Rattle.frame_log.specs.Descriptor.{Descriptor}
use Rattle.credit.specs.Kinds.{Kind, cost_of}
use Rattle.link.specs.Channels.{count_in, total}
use Rattle.link.proofs.Totals.{count_in-total}
use Rattle.ordering.proofs.Leaving.{take_one-older, taken_leaves}
use Rattle.ordering.specs.Ordering.{passes}
use Rattle.lane.specs.Lanes.{Class, class_of, eligible}
use Rattle.fabric_core.specs.Isolation.{own}
use Rattle.fabric_core.proofs.apart.Owning.{own_append}

-- a packet of the domain
abbrev pub IsOwn : ℕ → Descriptor → Type 0
IsOwn d frame = (frame.domain == d) ≡ true

abbrev is_own : ℕ → Descriptor → Bool
is_own d frame = frame.domain == d

-- ---- what is filtered twice

if_kept : {X : Type 0} (b : Bool) (x : X) (xs : List X) → b ≡ true → cond b (x ∷ xs) xs ≡ x ∷ xs
if_kept true x xs e = refl
if_kept false x xs e = absurd cc

pub filter_twice : {X : Type 0} (p : X → Bool) (xs : List X) → filter p (filter p xs) ≡ filter p xs
filter_twice p [] = refl
filter_twice {X} p (x ∷ xs) = by (p x) refl (filter_twice p xs)
  where
    by : (b : Bool) → p x ≡ b → filter p (filter p xs) ≡ filter p xs → filter p (cond b (x ∷ filter p xs) (filter p xs)) ≡ cond b (x ∷ filter p xs) (filter p xs)
    by true e later = if_kept (p x) x (filter p (filter p xs)) e ∙ ap (λ (ys : List X). x ∷ ys) later
    by false e later = later

pub filter_same : {X : Type 0} (p q : X → Bool) (xs : List X) → ((x : X) → p x ≡ q x) → filter p xs ≡ filter q xs
filter_same p q [] same = refl
filter_same {X} p q (x ∷ xs) same = ap (λ (b : Bool). cond b (x ∷ filter p xs) (filter p xs)) (same x) ∙ ap (λ (ys : List X). cond (q x) (x ∷ ys) ys) (filter_same p q xs same)

-- ---- in a queue

module _ (d : ℕ) where
  pub own_twice : (xs : List Descriptor) → own d (own d xs) ≡ own d xs
  own_twice xs = filter_twice (is_own d) xs

  -- the oldest is of the domain
  pub own_first : (frame : Descriptor) (frames : List Descriptor) → IsOwn d frame → own d (frame ∷ frames) ≡ frame ∷ own d frames
  own_first frame frames is = if_kept (frame.domain == d) frame (own d frames) is

  -- one of the domain is put behind them
  pub own_last : (frames : List Descriptor) (frame : Descriptor) → IsOwn d frame → own d (frames ++ frame ∷ []) ≡ own d frames ++ frame ∷ []
  own_last frames frame is = own_append d frames (frame ∷ []) ∙ ap (λ (xs : List Descriptor). own d frames ++ xs) (own_first frame [] is)

  -- the eligible one is of the domain
  pub own_eligible : (class : Class) (frames left : List Descriptor) (frame : Descriptor) → eligible class frames ≡ Some (frame, left) → IsOwn d frame → eligible class (own d frames) ≡ Some (frame, own d left)
  own_eligible class frames left frame e is =
      let l = taken_leaves class_of class frames frame left e in
      let queue = ap (own d) l.queue ∙ (own_append d l.older (frame ∷ l.newer) ∙ ap (λ (xs : List Descriptor). own d l.older ++ xs) (own_first frame l.newer is)) in
      let rest = ap (own d) l.is_left ∙ own_append d l.older l.newer in
      let over = All-filter (is_own d) (λ (y : Descriptor). passes class (class_of y) ≡ true) l.older l.passes_older in
      ap (eligible class) queue ∙ (take_one-older class_of class (own d l.older) (own d l.newer) frame l.of_class over ∙ ap (λ (xs : List Descriptor). Some (frame, xs)) (sym rest))

  -- ---- what they cost

  pub own_total : (k : Kind) (frames : List Descriptor) → total k (own d frames) ≤ total k frames
  own_total k [] = omega arith
  own_total k (frame ∷ frames) = by (frame.domain == d) (own_total k frames)
    where
      by : (b : Bool) → total k (own d frames) ≤ total k frames → total k (cond b (frame ∷ own d frames) (own d frames)) ≤ cost_of frame.head.cost k + total k frames
      by true less = omega (arith, less)
      by false less = omega (arith, less)

  pub own_count : (class : Class) (frames : List Descriptor) → count_in class (own d frames) ≤ count_in class frames
  own_count class frames =
      let less = own_total (Kind.Headers class) frames in
      let few = count_in-total class (own d frames) in
      let all = count_in-total class frames in
      omega (arith, less, few, all)
