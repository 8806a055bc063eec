-- What a worker is dealt from a table: an end of each ring that leads from it, and one of each that leads to it.
use Rattle.std.proofs.Common.{◌≡◌, ℕ, zero, suc, ◌+◌, ◌<◌, ◌==◌, Bool, true, false, cond, List, [], ◌∷◌, ◌++◌, All, map, length, set, get_or, refl, sym, ap, ◌∙◌, subst, arith, append_assoc, append-nil, length-set, get_or-set_same, get_or-set_other}
use Rattle.std.specs.Prelude.{replicate}
use Rattle.std.specs.List.{filter}
use Rattle.std.proofs.lemmas.Bool.{eqb-true, eq-eqb}
use Rattle.std.proofs.lemmas.List.{length-map, length-replicate}
use Rattle.thread_rings.specs.Names.{RingName}
use Rattle.thread_rings.specs.Wired.{Tag, Tags, Row, AreWithin, no_tags, out_given, in_given, given, dealt_from, dealt, numbered_from, numbered, rows_from, rows_to, tag_of}
use Rattle.thread_rings.specs.declared.wire.Wire.{Wire}

never : true ≡ false → ⊥
never e = cc

abbrev outs_at : List Tags → ℕ → List Tag
outs_at workers n = (get_or workers n no_tags).outs

abbrev ins_at : List Tags → ℕ → List Tag
ins_at workers n = (get_or workers n no_tags).ins

abbrev wires_of : List (Wire × RingName) → List Wire
wires_of table = map (λ r. r.0) table

-- the ends of one worker, once some worker has other ends
changed : (workers : List Tags) (i n : ℕ) (tags : Tags) (b : Bool) → (i == n) ≡ b → i < length workers → get_or (set workers i tags) n no_tags ≡ cond b tags (get_or workers n no_tags)
changed workers i n tags true e lt =
    let same : i ≡ n = eqb-true i n e in
    subst (λ (k : ℕ). get_or (set workers i tags) k no_tags ≡ tags) same (get_or-set_same workers i tags no_tags lt)
changed workers i n tags false e lt = get_or-set_other workers i n tags no_tags (λ same. never (sym (eq-eqb i n (sym same)) ∙ e))

-- ---- an end to put into

out_outs : (workers : List Tags) (i n : ℕ) (tag : Tag) (b : Bool) → (i == n) ≡ b → i < length workers → outs_at (out_given workers i tag) n ≡ outs_at workers n ++ cond b (tag ∷ []) []
out_outs workers i n tag true e lt =
    ap (λ (t : Tags). t.outs) (changed workers i n _ true e lt) ∙ ap (λ (k : ℕ). outs_at workers k ++ tag ∷ []) (eqb-true i n e)
out_outs workers i n tag false e lt = ap (λ (t : Tags). t.outs) (changed workers i n _ false e lt) ∙ sym (append-nil (outs_at workers n))

out_ins : (workers : List Tags) (i n : ℕ) (tag : Tag) (b : Bool) → (i == n) ≡ b → i < length workers → ins_at (out_given workers i tag) n ≡ ins_at workers n
out_ins workers i n tag true e lt = ap (λ (t : Tags). t.ins) (changed workers i n _ true e lt) ∙ ap (ins_at workers) (eqb-true i n e)
out_ins workers i n tag false e lt = ap (λ (t : Tags). t.ins) (changed workers i n _ false e lt)

-- ---- an end to take from

in_ins : (workers : List Tags) (i n : ℕ) (tag : Tag) (b : Bool) → (i == n) ≡ b → i < length workers → ins_at (in_given workers i tag) n ≡ ins_at workers n ++ cond b (tag ∷ []) []
in_ins workers i n tag true e lt =
    ap (λ (t : Tags). t.ins) (changed workers i n _ true e lt) ∙ ap (λ (k : ℕ). ins_at workers k ++ tag ∷ []) (eqb-true i n e)
in_ins workers i n tag false e lt = ap (λ (t : Tags). t.ins) (changed workers i n _ false e lt) ∙ sym (append-nil (ins_at workers n))

in_outs : (workers : List Tags) (i n : ℕ) (tag : Tag) (b : Bool) → (i == n) ≡ b → i < length workers → outs_at (in_given workers i tag) n ≡ outs_at workers n
in_outs workers i n tag true e lt = ap (λ (t : Tags). t.outs) (changed workers i n _ true e lt) ∙ ap (outs_at workers) (eqb-true i n e)
in_outs workers i n tag false e lt = ap (λ (t : Tags). t.outs) (changed workers i n _ false e lt)

-- ---- the ends of a ring

given_length : (workers : List Tags) (m : ℕ) (r : Wire × RingName) → length (given workers m r) ≡ length workers
given_length workers m r =
    length-set (out_given workers r.0.from (m, r.1)) r.0.to _ ∙ length-set workers r.0.from _

given_outs : (workers : List Tags) (m n : ℕ) (r : Wire × RingName) → r.0.from < length workers → r.0.to < length workers
    → outs_at (given workers m r) n ≡ outs_at workers n ++ cond (r.0.from == n) ((m, r.1) ∷ []) []
given_outs workers m n r from to =
    let long : length (out_given workers r.0.from (m, r.1)) ≡ length workers = length-set workers r.0.from _ in
    in_outs (out_given workers r.0.from (m, r.1)) r.0.to n (m, r.1) (r.0.to == n) refl (omega (long, to, arith))
    ∙ out_outs workers r.0.from n (m, r.1) (r.0.from == n) refl from

given_ins : (workers : List Tags) (m n : ℕ) (r : Wire × RingName) → r.0.from < length workers → r.0.to < length workers
    → ins_at (given workers m r) n ≡ ins_at workers n ++ cond (r.0.to == n) ((m, r.1) ∷ []) []
given_ins workers m n r from to =
    let long : length (out_given workers r.0.from (m, r.1)) ≡ length workers = length-set workers r.0.from _ in
    in_ins (out_given workers r.0.from (m, r.1)) r.0.to n (m, r.1) (r.0.to == n) refl (omega (long, to, arith))
    ∙ ap (λ (l : List Tag). l ++ cond (r.0.to == n) ((m, r.1) ∷ []) []) (out_ins workers r.0.from n (m, r.1) (r.0.from == n) refl from)

-- ---- a table

one_row : (b : Bool) (row : Row) (rows : List Row) → map tag_of (cond b (row ∷ rows) rows) ≡ cond b (tag_of row ∷ []) [] ++ map tag_of rows
one_row true row rows = refl
one_row false row rows = refl

-- one ring more before those that are still to be dealt out
more_rows : (here after : List Tag) (b : Bool) (row : Row) (rows : List Row) → after ≡ here ++ cond b (tag_of row ∷ []) [] → after ++ map tag_of rows ≡ here ++ map tag_of (cond b (row ∷ rows) rows)
more_rows here after b row rows is =
    ap (λ (l : List Tag). l ++ map tag_of rows) is
    ∙ append_assoc here (cond b (tag_of row ∷ []) []) (map tag_of rows)
    ∙ ap (λ (l : List Tag). here ++ l) (sym (one_row b row rows))

first_of : (count : ℕ) (r : Wire × RingName) (rs : List (Wire × RingName)) → AreWithin count (wires_of (r ∷ rs)) → (r.0.from < count) × (r.0.to < count)
first_of count r rs within = within 0 r.0 (omega arith)

rest_of : (count : ℕ) (r : Wire × RingName) (rs : List (Wire × RingName)) → AreWithin count (wires_of (r ∷ rs)) → AreWithin count (wires_of rs)
rest_of count r rs within = λ k d lt. within (suc k) d (omega (lt, arith))

outs_from : (m n : ℕ) (workers : List Tags) (rs : List (Wire × RingName)) → AreWithin (length workers) (wires_of rs) → outs_at (dealt_from m workers rs) n ≡ outs_at workers n ++ map tag_of (rows_from n (numbered_from m rs))
outs_from m n workers [] within = sym (append-nil (outs_at workers n))
outs_from m n workers (r ∷ rs) within =
    let first = first_of (length workers) r rs within in
    let rest : AreWithin (length (given workers m r)) (wires_of rs) = subst (λ (k : ℕ). AreWithin k (wires_of rs)) (sym (given_length workers m r)) (rest_of (length workers) r rs within) in
    outs_from (m + 1) n (given workers m r) rs rest
    ∙ more_rows (outs_at workers n) (outs_at (given workers m r) n) (r.0.from == n) (m, r) (rows_from n (numbered_from (m + 1) rs)) (given_outs workers m n r first.0 first.1)

ins_from : (m n : ℕ) (workers : List Tags) (rs : List (Wire × RingName)) → AreWithin (length workers) (wires_of rs) → ins_at (dealt_from m workers rs) n ≡ ins_at workers n ++ map tag_of (rows_to n (numbered_from m rs))
ins_from m n workers [] within = sym (append-nil (ins_at workers n))
ins_from m n workers (r ∷ rs) within =
    let first = first_of (length workers) r rs within in
    let rest : AreWithin (length (given workers m r)) (wires_of rs) = subst (λ (k : ℕ). AreWithin k (wires_of rs)) (sym (given_length workers m r)) (rest_of (length workers) r rs within) in
    ins_from (m + 1) n (given workers m r) rs rest
    ∙ more_rows (ins_at workers n) (ins_at (given workers m r) n) (r.0.to == n) (m, r) (rows_to n (numbered_from (m + 1) rs)) (given_ins workers m n r first.0 first.1)

-- ---- from the start

none_at : (count n : ℕ) → get_or (replicate count no_tags) n no_tags ≡ no_tags
none_at zero zero = refl
none_at zero (suc n) = refl
none_at (suc count) zero = refl
none_at (suc count) (suc n) = none_at count n

as_many : (count : ℕ) (table : List (Wire × RingName)) → AreWithin count (wires_of table) → AreWithin (length (replicate count no_tags)) (wires_of table)
as_many count table within = subst (λ (k : ℕ). AreWithin k (wires_of table)) (sym (length-replicate count no_tags)) within

pub dealt_outs : (count n : ℕ) (table : List (Wire × RingName)) → AreWithin count (wires_of table) → outs_at (dealt count table) n ≡ map tag_of (rows_from n (numbered table))
dealt_outs count n table within =
    outs_from 0 n (replicate count no_tags) table (as_many count table within)
    ∙ ap (λ (t : Tags). t.outs ++ map tag_of (rows_from n (numbered table))) (none_at count n)

pub dealt_ins : (count n : ℕ) (table : List (Wire × RingName)) → AreWithin count (wires_of table) → ins_at (dealt count table) n ≡ map tag_of (rows_to n (numbered table))
dealt_ins count n table within =
    ins_from 0 n (replicate count no_tags) table (as_many count table within)
    ∙ ap (λ (t : Tags). t.ins ++ map tag_of (rows_to n (numbered table))) (none_at count n)

-- ---- how many

one_longer : {A B : Type 0} (b : Bool) (x : A) (y : B) (xs : List A) (ys : List B) → length xs ≡ length ys → length (cond b (x ∷ xs) xs) ≡ length (cond b (y ∷ ys) ys)
one_longer true x y xs ys e = ap suc e
one_longer false x y xs ys e = e

many_from : (m n : ℕ) (rs : List (Wire × RingName)) → length (rows_from n (numbered_from m rs)) ≡ length (filter (λ (wire : Wire). wire.from == n) (wires_of rs))
many_from m n [] = refl
many_from m n (r ∷ rs) = one_longer (r.0.from == n) (m, r) r.0 (rows_from n (numbered_from (m + 1) rs)) (filter (λ (wire : Wire). wire.from == n) (wires_of rs)) (many_from (m + 1) n rs)

many_to : (m n : ℕ) (rs : List (Wire × RingName)) → length (rows_to n (numbered_from m rs)) ≡ length (filter (λ (wire : Wire). wire.to == n) (wires_of rs))
many_to m n [] = refl
many_to m n (r ∷ rs) = one_longer (r.0.to == n) (m, r) r.0 (rows_to n (numbered_from (m + 1) rs)) (filter (λ (wire : Wire). wire.to == n) (wires_of rs)) (many_to (m + 1) n rs)

pub many_outs : (count n : ℕ) (table : List (Wire × RingName)) → AreWithin count (wires_of table) → length (outs_at (dealt count table) n) ≡ length (filter (λ (wire : Wire). wire.from == n) (wires_of table))
many_outs count n table within =
    ap (λ (l : List Tag). length l) (dealt_outs count n table within) ∙ (length-map (rows_from n (numbered table)) tag_of ∙ many_from 0 n table)

pub many_ins : (count n : ℕ) (table : List (Wire × RingName)) → AreWithin count (wires_of table) → length (ins_at (dealt count table) n) ≡ length (filter (λ (wire : Wire). wire.to == n) (wires_of table))
many_ins count n table within =
    ap (λ (l : List Tag). length l) (dealt_ins count n table within) ∙ (length-map (rows_to n (numbered table)) tag_of ∙ many_to 0 n table)
