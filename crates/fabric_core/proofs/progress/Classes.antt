-- Queues in which no packet of a class waits, and what of a queue may leave it (PCIe 4.0, 2.4.1).
use Rattle.std.proofs.Common.{◌≡◌, ℕ, ◌+◌, ◌==◌, Bool, true, false, cond, List, [], ◌∷◌, Option, Some, None, refl, ap, ◌∙◌, arith}
use Rattle.std.specs.Prelude.{⊤}
use Rattle.frame_log.specs.Descriptor.{Descriptor}
use Rattle.ordering.specs.Ordering.{at_item, passes, same_class}
use Rattle.lane.specs.Lanes.{Class, class_of, eligible}
use Rattle.link.specs.Channels.{Channel, count_in, is_full}

-- a packet of the class may pass each that isn't of the class
abbrev pub MayPass : Class → List Descriptor → Type 0
MayPass c [] = ⊤
MayPass c (f ∷ fs) = (same_class c (class_of f) ≡ false → passes c (class_of f) ≡ true) × MayPass c fs

pub counted : (c : Class) (f : Descriptor) (fs : List Descriptor) → count_in c (f ∷ fs) ≡ 0 → (same_class c (class_of f) ≡ false) × (count_in c fs ≡ 0)
counted c f fs e = go (same_class c (class_of f)) refl e
  where
    go : (b : Bool) → same_class c (class_of f) ≡ b → cond b (1 + count_in c fs) (count_in c fs) ≡ 0 → (same_class c (class_of f) ≡ false) × (count_in c fs ≡ 0)
    go true i e = absurd (omega (arith, e))
    go false i e = (i, e)

-- where none of the class may leave, none waits
pub none_of : (c : Class) (fs : List Descriptor) → MayPass c fs → eligible c fs ≡ None → count_in c fs ≡ 0
none_of c [] opens e = refl
none_of c (f ∷ fs) opens e = go (same_class c (class_of f)) refl (passes c (class_of f)) refl (eligible c fs) refl e (none_of c fs opens.1)
  where
    go : (a : Bool) → same_class c (class_of f) ≡ a → (b : Bool) → passes c (class_of f) ≡ b → (o : Option (Descriptor × List Descriptor)) → eligible c fs ≡ o → at_item a b f fs o ≡ None → (eligible c fs ≡ None → count_in c fs ≡ 0)
        → cond (same_class c (class_of f)) (1 + count_in c fs) (count_in c fs) ≡ 0
    go true i b j o k e ih = absurd cc
    go false i true j None k e ih = ap (λ (b : Bool). cond b (1 + count_in c fs) (count_in c fs)) i ∙ ih k
    go false i true j (Some x) k e ih = absurd cc
    go false i false j o k e ih = let may = opens.0 i in absurd cc

-- a queue without packets of a class has a place for one
pub not_full : (c : Class) (channel : Channel) → count_in c channel.egress ≡ 0 → is_full c channel ≡ false
not_full c channel none = ap (λ (n : ℕ). n == 16) none

-- posted packets may pass all others, completions all but posted ones, and so may non-posted ones
pub posted_pass : (fs : List Descriptor) → MayPass Class.Posted fs
posted_pass [] = tt
posted_pass (f ∷ fs) = (go (class_of f), posted_pass fs)
  where
    go : (d : Class) → same_class Class.Posted d ≡ false → passes Class.Posted d ≡ true
    go Class.Posted e = absurd cc
    go Class.NonPosted e = refl
    go Class.Completion e = refl

pub completions_pass : (fs : List Descriptor) → count_in Class.Posted fs ≡ 0 → MayPass Class.Completion fs
completions_pass [] none = tt
completions_pass (f ∷ fs) none = let at = counted Class.Posted f fs none in (go (class_of f) at.0, completions_pass fs at.1)
  where
    go : (d : Class) → same_class Class.Posted d ≡ false → same_class Class.Completion d ≡ false → passes Class.Completion d ≡ true
    go Class.Posted p e = absurd cc
    go Class.NonPosted p e = refl
    go Class.Completion p e = absurd cc

pub non_posted_pass : (fs : List Descriptor) → count_in Class.Posted fs ≡ 0 → MayPass Class.NonPosted fs
non_posted_pass [] none = tt
non_posted_pass (f ∷ fs) none = let at = counted Class.Posted f fs none in (go (class_of f) at.0, non_posted_pass fs at.1)
  where
    go : (d : Class) → same_class Class.Posted d ≡ false → same_class Class.NonPosted d ≡ false → passes Class.NonPosted d ≡ true
    go Class.Posted p e = absurd cc
    go Class.NonPosted p e = absurd cc
    go Class.Completion p e = refl

-- a queue without packets of any class is empty
pub none_at_all : (fs : List Descriptor) → ((c : Class) → count_in c fs ≡ 0) → fs ≡ []
none_at_all [] none = refl
none_at_all (f ∷ fs) none = absurd (clash (class_of f) (counted (class_of f) f fs (none (class_of f))).0)
  where
    clash : (d : Class) → same_class d d ≡ false → ⊥
    clash Class.Posted e = cc
    clash Class.NonPosted e = cc
    clash Class.Completion e = cc
