-- An end that was given last can be taken back, and nothing else changes.
use Rattle.std.proofs.Common.{◌≡◌, ◌≢◌, ℕ, zero, suc, ◌+◌, ◌-◌, ◌<◌, List, [], ◌∷◌, ◌++◌, map, length, set, get_or, drop, sym, refl, ap, ◌∙◌, arith, length-append}
use Rattle.std.specs.Prelude.{replicate, reverse, take}
use Rattle.std.proofs.lemmas.List.{get_or-map, length-set, length-map, length-take-le, length-replicate, take_all, take_more}
use Rattle.thread_rings.specs.Names.{RingName}
use Rattle.thread_rings.specs.Wired.{Tag, Tags, Row, tag_of, no_tags, with_out, with_in, out_given, in_given, given, dealt_from, dealt, numbered, tags_of, table_of}
use Rattle.thread_rings.proofs.Numbered.{drop-numbered, none_tallied}
use Rattle.thread_rings.specs.declared.wire.Wire.{Wire}
use Rattle.thread_rings.specs.declared.laid.Laid.{Laid}
use Rattle.thread_rings.specs.declared.ends.Ends.{Ends}

head_same : {A : Type 0} (x y : A) (xs ys : List A) → x ∷ xs ≡ y ∷ ys → x ≡ y
head_same x y xs ys e = ap (λ l. get_or l 0 x) e

tail_same : {A : Type 0} (x y : A) (xs ys : List A) → x ∷ xs ≡ y ∷ ys → xs ≡ ys
tail_same x y xs ys e = ap (λ l. drop 1 l) e

-- of two lists that are the same with an item behind them, the lists are the same and the items
pub snoc_same : {A : Type 0} (xs ys : List A) (x y : A) → xs ++ x ∷ [] ≡ ys ++ y ∷ [] → (xs ≡ ys) × (x ≡ y)
snoc_same [] [] x y e = (refl, head_same x y [] [] e)
snoc_same [] (b ∷ ys) x y e = let n = ap length e in let m = length-append ys (y ∷ []) in absurd (omega arith)
snoc_same (a ∷ xs) [] x y e = let n = ap length e in let m = length-append xs (x ∷ []) in absurd (omega arith)
snoc_same (a ∷ xs) (b ∷ ys) x y e = let rest = snoc_same xs ys x y (tail_same a b (xs ++ x ∷ []) (ys ++ y ∷ []) e) in
    ((λ i. head_same a b (xs ++ x ∷ []) (ys ++ y ∷ []) e i ∷ rest.0 i), rest.1)

out_same : (a b : Tags) (s t : Tag) → with_out a s ≡ with_out b t → (a ≡ b) × (s ≡ t)
out_same a b s t e = let outs = snoc_same a.outs b.outs s t (ap (λ (x : Tags). x.outs) e) in let ins : a.ins ≡ b.ins = ap (λ (x : Tags). x.ins) e in
    ((λ i. record { outs = outs.0 i; ins = ins i }), outs.1)

in_same : (a b : Tags) (s t : Tag) → with_in a s ≡ with_in b t → (a ≡ b) × (s ≡ t)
in_same a b s t e = let ins = snoc_same a.ins b.ins s t (ap (λ (x : Tags). x.ins) e) in let outs : a.outs ≡ b.outs = ap (λ (x : Tags). x.outs) e in
    ((λ i. record { outs = outs i; ins = ins.0 i }), ins.1)

pub out_given_same : (i : ℕ) (ws us : List Tags) (s t : Tag) → i < length ws → i < length us → out_given ws i s ≡ out_given us i t → (ws ≡ us) × (s ≡ t)
out_given_same i [] us s t lt mt e = absurd (omega arith)
out_given_same i (w ∷ ws) [] s t lt mt e = absurd (omega arith)
out_given_same zero (w ∷ ws) (u ∷ us) s t lt mt e =
    let h = out_same w u s t (head_same (with_out w s) (with_out u t) ws us e) in let r = tail_same (with_out w s) (with_out u t) ws us e in
    ((λ i. h.0 i ∷ r i), h.1)
out_given_same (suc i) (w ∷ ws) (u ∷ us) s t lt mt e =
    let h = head_same w u (out_given ws i s) (out_given us i t) e in
    let r = out_given_same i ws us s t (omega arith) (omega arith) (tail_same w u (out_given ws i s) (out_given us i t) e) in
    ((λ i. h i ∷ r.0 i), r.1)

pub in_given_same : (i : ℕ) (ws us : List Tags) (s t : Tag) → i < length ws → i < length us → in_given ws i s ≡ in_given us i t → (ws ≡ us) × (s ≡ t)
in_given_same i [] us s t lt mt e = absurd (omega arith)
in_given_same i (w ∷ ws) [] s t lt mt e = absurd (omega arith)
in_given_same zero (w ∷ ws) (u ∷ us) s t lt mt e =
    let h = in_same w u s t (head_same (with_in w s) (with_in u t) ws us e) in let r = tail_same (with_in w s) (with_in u t) ws us e in
    ((λ i. h.0 i ∷ r i), h.1)
in_given_same (suc i) (w ∷ ws) (u ∷ us) s t lt mt e =
    let h = head_same w u (in_given ws i s) (in_given us i t) e in
    let r = in_given_same i ws us s t (omega arith) (omega arith) (tail_same w u (in_given ws i s) (in_given us i t) e) in
    ((λ i. h i ∷ r.0 i), r.1)

pub taken_out : {T : Type 0} (workers : List (Ends T)) (i : ℕ) (was is : Ends T) (tag : Tag) → i < length workers → was ≡ get_or workers i was → tags_of was ≡ with_out (tags_of is) tag
    → map tags_of workers ≡ out_given (map tags_of (set workers i is)) i tag
taken_out [] i was is tag lt at took = absurd (omega arith)
taken_out (w ∷ ws) zero was is tag lt at took = ap (λ (t : Tags). t ∷ map tags_of ws) (ap tags_of (sym at) ∙ took)
taken_out (w ∷ ws) (suc i) was is tag lt at took = ap (λ (l : List Tags). tags_of w ∷ l) (taken_out ws i was is tag (omega arith) at took)

pub taken_in : {T : Type 0} (workers : List (Ends T)) (i : ℕ) (was is : Ends T) (tag : Tag) → i < length workers → was ≡ get_or workers i was → tags_of was ≡ with_in (tags_of is) tag
    → map tags_of workers ≡ in_given (map tags_of (set workers i is)) i tag
taken_in [] i was is tag lt at took = absurd (omega arith)
taken_in (w ∷ ws) zero was is tag lt at took = ap (λ (t : Tags). t ∷ map tags_of ws) (ap tags_of (sym at) ∙ took)
taken_in (w ∷ ws) (suc i) was is tag lt at took = ap (λ (l : List Tags). tags_of w ∷ l) (taken_in ws i was is tag (omega arith) at took)

some_out : (i : ℕ) (ws : List Tags) (t : Tag) → i < length ws → (get_or (out_given ws i t) i no_tags).outs ≢ []
some_out i [] t lt e = absurd (omega arith)
some_out zero (w ∷ ws) t lt e = let n = ap length e in let m = length-append w.outs (t ∷ []) in absurd (omega arith)
some_out (suc i) (w ∷ ws) t lt e = some_out i ws t (omega arith) e

pub has_out : (i : ℕ) (us ws : List Tags) (t : Tag) → i < length ws → us ≡ out_given ws i t → (get_or us i no_tags).outs ≢ []
has_out i us ws t lt e none = some_out i ws t lt (ap (λ (l : List Tags). (get_or l i no_tags).outs) (sym e) ∙ none)

pub half_taken : (w0 w1 before : List Tags) (from to : ℕ) (t tag : Tag) → to < length before → length w1 ≡ length before → w0 ≡ in_given w1 to t → w0 ≡ in_given (out_given before from tag) to tag
    → (w1 ≡ out_given before from tag) × (t ≡ tag)
half_taken w0 w1 before from to t tag lt n one two = let m = length-set before from (with_out (get_or before from no_tags) tag) in
    in_given_same to w1 (out_given before from tag) t tag (omega arith) (omega arith) (sym one ∙ two)

pub both_taken : (w0 w1 w2 before : List Tags) (from to : ℕ) (s t tag : Tag) → from < length before → to < length before → length w1 ≡ length before → length w2 ≡ length before
    → w0 ≡ in_given w1 to t → w1 ≡ out_given w2 from s → w0 ≡ in_given (out_given before from tag) to tag
    → (w2 ≡ before) × (s ≡ tag) × (t ≡ tag)
both_taken w0 w1 w2 before from to s t tag lf lt n m one two three =
    let h = half_taken w0 w1 before from to t tag lt n one three in
    let g = out_given_same from w2 before s tag (omega arith) lf (sym two ∙ h.0) in
    (g.0, g.1, h.1)

length-given : (ws : List Tags) (n : ℕ) (r : Wire × RingName) → length (given ws n r) ≡ length ws
length-given ws n r = length-set (out_given ws r.0.from (n, r.1)) r.0.to _ ∙ length-set ws r.0.from _

pub length-dealt_from : (n : ℕ) (ws : List Tags) (rs : List (Wire × RingName)) → length (dealt_from n ws rs) ≡ length ws
length-dealt_from n ws [] = refl
length-dealt_from n ws (r ∷ rs) = length-dealt_from (n + 1) (given ws n r) rs ∙ length-given ws n r

pub length-dealt : (count : ℕ) (rs : List (Wire × RingName)) → length (dealt count rs) ≡ count
length-dealt count rs = length-dealt_from 0 (replicate count no_tags) rs ∙ length-replicate count no_tags

dealt-snoc : (n : ℕ) (ws : List Tags) (rs : List (Wire × RingName)) (r : Wire × RingName) → dealt_from n ws (rs ++ r ∷ []) ≡ given (dealt_from n ws rs) (n + length rs) r
dealt-snoc n ws [] r = ap (λ (k : ℕ). given ws k r) (omega arith)
dealt-snoc n ws (q ∷ rs) r = dealt-snoc (n + 1) (given ws n q) rs r ∙ ap (λ (k : ℕ). given (dealt_from (n + 1) (given ws n q) rs) k r) (omega arith)

-- the ring that was dealt last, and its row in the table
pub last_given : (count : ℕ) (table : List (Wire × RingName)) (wires : List Wire) (m k : ℕ) (d : Wire) → map (λ r. r.0) table ≡ wires → m < length wires → k ≡ m + 1
    → (row : Row)
    × (dealt count (take k table) ≡ in_given (out_given (dealt count (take m table)) (get_or wires m d).from (tag_of row)) (get_or wires m d).to (tag_of row))
    × (get_or wires m d ≡ row.1.0)
    × (drop m (numbered table) ≡ row ∷ drop k (numbered table))
last_given count [] wires m k d same lt is = let ls = ap length same in absurd (omega arith)
last_given count (t ∷ ts) wires m k d same lt is =
    let table : List (Wire × RingName) = t ∷ ts in
    let lm : length (map (λ (r : Wire × RingName). r.0) table) ≡ length table = length-map table (λ (r : Wire × RingName). r.0) in
    let ls : length (map (λ (r : Wire × RingName). r.0) table) ≡ length wires = ap length same in
    let lt' : m < length table = omega (lm, ls, lt, arith) in
    let r : Wire × RingName = get_or table m t in
    let w : get_or wires m d ≡ r.0 = ap (λ (l : List Wire). get_or l m d) (sym same) ∙ get_or-map (λ (x : Wire × RingName). x.0) table m t d lt' in
    let more : take k table ≡ take m table ++ r ∷ [] = ap (λ (n : ℕ). take n table) is ∙ take_more table m t lt' in
    let row : Row = (0 + length (take m table), r) in
    let whole : dealt count (take k table) ≡ given (dealt count (take m table)) (0 + length (take m table)) r = ap (dealt count) more ∙ dealt-snoc 0 (replicate count no_tags) (take m table) r in
    let n : length (take m table) ≡ m = length-take-le m table (omega (lt', arith)) in
    let place : drop m (numbered table) ≡ row ∷ drop k (numbered table) = drop-numbered 0 m k table t lt' is ∙ ap (λ (x : ℕ). (0 + x, r) ∷ drop k (numbered table)) (sym n) in
    (row, whole ∙ ap (λ (x : Wire). in_given (out_given (dealt count (take m table)) x.from (tag_of row)) x.to (tag_of row)) (sym w), w, place)

pub wires_of : {T : Type 0} (rings : List (Laid T)) → map (λ (r : Wire × RingName). r.0) (table_of rings) ≡ map (λ (r : Laid T). r.wire) rings
wires_of [] = refl
wires_of (r ∷ rs) = ap (λ (l : List Wire). r.wire ∷ l) (wires_of rs)

-- the ring that is taken back next, once so many were
pub next_back : {T : Type 0} (count done : ℕ) (made : List (Laid T)) (wires : List Wire) (d : Wire) → map (λ r. r.wire) made ≡ wires → done < length wires
    → (row : Row)
    × (dealt count (take (length wires - done) (table_of made)) ≡ in_given (out_given (dealt count (take (length wires - 1 - done) (table_of made))) (get_or wires (length wires - 1 - done) d).from (tag_of row)) (get_or wires (length wires - 1 - done) d).to (tag_of row))
    × (get_or wires (length wires - 1 - done) d ≡ row.1.0)
    × (drop (length wires - 1 - done) (numbered (table_of made)) ≡ row ∷ drop (length wires - done) (numbered (table_of made)))
next_back count done made wires d same lt = last_given count (table_of made) wires (length wires - 1 - done) (length wires - done) d (wires_of made ∙ same) (omega (lt, arith)) (omega (lt, arith))

-- before any ring is taken back all are dealt out, and none is tallied
pub none_back : {T A : Type 0} (count : ℕ) (made : List (Laid T)) (wires : List Wire) (workers : List Tags) (row_of : A → Row) (tally : List A) → map (λ r. r.wire) made ≡ wires
    → workers ≡ dealt count (table_of made) → tally ≡ []
    → (workers ≡ dealt count (take (length wires - 0) (table_of made))) × (map row_of tally ≡ reverse (drop (length wires - 0) (numbered (table_of made))))
none_back count made wires workers row_of tally same dealt_out none =
    let table : List (Wire × RingName) = table_of made in
    let lm : length (map (λ (r : Wire × RingName). r.0) table) ≡ length table = length-map table (λ (r : Wire × RingName). r.0) in
    let ls : length (map (λ (r : Wire × RingName). r.0) table) ≡ length wires = ap length (wires_of made ∙ same) in
    let k : length wires - 0 ≡ length wires = omega arith in
    let all : take (length wires - 0) table ≡ table = take_all (length wires - 0) table (omega (lm, ls, arith)) in
    (dealt_out ∙ ap (dealt count) (sym all), ap (map row_of) none ∙ none_tallied table wires (length wires - 0) (wires_of made ∙ same) k)
