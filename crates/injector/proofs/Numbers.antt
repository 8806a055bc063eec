-- Begins that are taken in turn.
use Rattle.std.proofs.Common.{◌≡◌, ℕ, zero, suc, ◌+◌, List, [], ◌∷◌, ◌++◌, length, map, ap, sym, ◌∙◌, add-zero, arith, length-append, Option, Some, subst, refl}
use Rattle.std.specs.Prelude.{is_some, true, false, None}
use Rattle.std.proofs.lemmas.List.{map-append}
use Rattle.std.specs.List.{range_with_len}
use Rattle.injector.specs.Begins.{IsNext}
use Rattle.injector.specs.declared.begin.Begin.{Begin}

range_snoc : (a n : ℕ) → range_with_len a (suc n) ≡ range_with_len a n ++ (a + n) ∷ []
range_snoc a zero = ap (λ (k : ℕ). k ∷ []) (sym (add-zero a))
range_snoc a (suc n) = let e : (a + 1) + n ≡ a + suc n = omega arith in
    ap (λ (ks : List ℕ). a ∷ ks) (range_snoc (a + 1) n ∙ ap (λ (k : ℕ). range_with_len (a + 1) n ++ k ∷ []) e)

-- one begin more, which bears the next number
pub still_in_turn : (taken taken' : List Begin) (b : Begin) → taken' ≡ taken ++ b ∷ [] → b.number ≡ length taken
    → map (λ (b : Begin). b.number) taken ≡ range_with_len 0 (length taken) → map (λ (b : Begin). b.number) taken' ≡ range_with_len 0 (length taken')
still_in_turn taken taken' b grown number before =
    let longer : length taken' ≡ suc (length taken) = omega (arith, ap length grown, length-append taken (b ∷ [])) in
    let last : b.number ≡ 0 + length taken = omega arith in
    ap (map (λ (b : Begin). b.number)) grown
    ∙ (map-append (λ (b : Begin). b.number) taken (b ∷ [])
    ∙ (ap (λ (ks : List ℕ). ks ++ b.number ∷ []) before
    ∙ (ap (λ (k : ℕ). range_with_len 0 (length taken) ++ k ∷ []) last
    ∙ (sym (range_snoc 0 (length taken)) ∙ ap (range_with_len 0) (sym longer)))))

-- the begin that is held is the next one, also after the ring has lost no further begin
pub next_held : {B : Type 0} (held : Option B) (taken now later : List B) (o : Option B) (b : B)
    → ((x : B) × IsNext held taken now x × (o ≡ Some x)) → o ≡ Some b → later ≡ now → IsNext held taken later b
next_held {B} held taken now later o b (x, n, e) is same =
    let it : x ≡ b = cc in subst (λ (l : List B). IsNext held taken l b) (sym same) (subst (λ (z : B). IsNext held taken now z) it n)

pub some_of : {T : Type 0} (o : Option T) → is_some o ≡ true → (x : T) × (o ≡ Some x)
some_of None e = cc
some_of (Some x) e = (x, refl)

pub none_of : {T : Type 0} (o : Option T) → is_some o ≡ false → o ≡ None
none_of None e = refl
none_of (Some x) e = cc
