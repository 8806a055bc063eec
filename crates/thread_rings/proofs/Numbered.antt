-- Where a ring stands in a table whose rings are numbered, and what has been tallied once it is taken back.
use Rattle.std.proofs.Common.{◌≡◌, ℕ, zero, suc, ◌+◌, ◌<◌, List, [], ◌∷◌, ◌++◌, map, length, get_or, drop, sym, refl, ap, ◌∙◌, arith}
use Rattle.std.specs.Prelude.{reverse}
use Rattle.std.proofs.lemmas.List.{length-map, map-append, drop_all, reverse-append}
use Rattle.thread_rings.specs.Names.{RingName}
use Rattle.thread_rings.specs.Wired.{Row, numbered_from, numbered}
use Rattle.thread_rings.specs.declared.wire.Wire.{Wire}

pub drop-numbered : (n m k : ℕ) (rs : List (Wire × RingName)) (d : Wire × RingName) → m < length rs → k ≡ m + 1
    → drop m (numbered_from n rs) ≡ (n + m, get_or rs m d) ∷ drop k (numbered_from n rs)
drop-numbered n m k [] d lt is = absurd (omega arith)
drop-numbered n m zero (r ∷ rs) d lt is = absurd (omega (is, arith))
drop-numbered n zero (suc k) (r ∷ rs) d lt is =
    let none : k ≡ 0 = omega (is, arith) in
    let same : n ≡ n + 0 = omega arith in
    ap (λ (x : ℕ). (x, r) ∷ numbered_from (n + 1) rs) same ∙ ap (λ (x : ℕ). (n + 0, r) ∷ drop x (numbered_from (n + 1) rs)) (sym none)
drop-numbered n (suc m) (suc k) (r ∷ rs) d lt is =
    let same : n + 1 + m ≡ n + suc m = omega arith in
    drop-numbered (n + 1) m k rs d (omega (lt, arith)) (omega (is, arith)) ∙ ap (λ (x : ℕ). (x, get_or rs m d) ∷ drop k (numbered_from (n + 1) rs)) same

length-numbered : (n : ℕ) (rs : List (Wire × RingName)) → length (numbered_from n rs) ≡ length rs
length-numbered n [] = refl
length-numbered n (r ∷ rs) = let e = length-numbered (n + 1) rs in omega (e, arith)

-- before any ring is taken back, none is tallied
pub none_tallied : (table : List (Wire × RingName)) (wires : List Wire) (k : ℕ) → map (λ r. r.0) table ≡ wires → k ≡ length wires → [] ≡ reverse (drop k (numbered table))
none_tallied table wires k same is =
    let lm : length (map (λ (r : Wire × RingName). r.0) table) ≡ length table = length-map table (λ (r : Wire × RingName). r.0) in
    let ls : length (map (λ (r : Wire × RingName). r.0) table) ≡ length wires = ap length same in
    let n = length-numbered 0 table in
    ap reverse (sym (drop_all k (numbered table) (omega (lm, ls, n, is, arith))))

-- one ring more is tallied
pub tallied_more : {A : Type 0} (row_of : A → Row) (rows : List Row) (is was : List A) (tally : A) (m k next : ℕ) (row : Row) → is ≡ was ++ tally ∷ [] → row_of tally ≡ row
    → map row_of was ≡ reverse (drop k rows) → drop m rows ≡ row ∷ drop k rows → m ≡ next → map row_of is ≡ reverse (drop next rows)
tallied_more row_of rows is was tally m k next row more so before at same =
    ap (map row_of) more ∙ map-append row_of was (tally ∷ [])
    ∙ ap (λ (t : Row). map row_of was ++ t ∷ []) so
    ∙ ap (λ (l : List Row). l ++ row ∷ []) before
    ∙ sym (reverse-append (row ∷ []) (drop k rows))
    ∙ ap reverse (sym at)
    ∙ ap (λ (n : ℕ). reverse (drop n rows)) same
