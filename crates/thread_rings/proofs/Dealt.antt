-- What is dealt out is of the rings of the table.
use Rattle.std.proofs.Common.{◌≡◌, ℕ, suc, ◌+◌, ◌<◌, List, ◌∷◌, All, map, length, set, get_or, sym, ap, ◌∙◌, subst, arith}
use Rattle.std.proofs.lemmas.List.{map-set, get_or-map}
use Rattle.thread_rings.specs.Names.{out_name}
use Rattle.thread_rings.specs.Wired.{Tag, Tags, AreWithin, no_tags, with_out, with_in, out_given, in_given, dealt_from, tags_of, table_of}
use Rattle.thread_rings.specs.declared.ends.Ends.{Ends}
use Rattle.thread_rings.specs.declared.laid.Laid.{Laid}
use Rattle.thread_rings.specs.declared.wire.Wire.{Wire}

pub given_out : {T : Type 0} (workers : List (Ends T)) (i : ℕ) (was is : Ends T) (tag : Tag) → i < length workers → was ≡ get_or workers i was → tags_of is ≡ with_out (tags_of was) tag
    → map tags_of (set workers i is) ≡ out_given (map tags_of workers) i tag
given_out workers i was is tag lt at given = let here = get_or-map tags_of workers i was no_tags lt in map-set tags_of workers i is ∙ ap (λ (t : Tags). set (map tags_of workers) i t) (given ∙ ap (λ (t : Tags). with_out t tag) (ap tags_of at ∙ sym here))

pub given_in : {T : Type 0} (workers : List (Ends T)) (i : ℕ) (was is : Ends T) (tag : Tag) → i < length workers → was ≡ get_or workers i was → tags_of is ≡ with_in (tags_of was) tag
    → map tags_of (set workers i is) ≡ in_given (map tags_of workers) i tag
given_in workers i was is tag lt at given = let here = get_or-map tags_of workers i was no_tags lt in map-set tags_of workers i is ∙ ap (λ (t : Tags). set (map tags_of workers) i t) (given ∙ ap (λ (t : Tags). with_in t tag) (ap tags_of at ∙ sym here))

all_rest : {A : Type 0} (P : A → Type 0) (l rest : List A) (a : A) → l ≡ a ∷ rest → All P l → All P rest
all_rest {A = A} P l rest a is all k d lt = let more : All P (a ∷ rest) = subst (λ (x : List A). All P x) is all in more (suc k) d (omega (lt, arith))

all_first : {A : Type 0} (P : A → Type 0) (l rest : List A) (a : A) → l ≡ a ∷ rest → All P l → P a
all_first {A = A} P l rest a is all = let more : All P (a ∷ rest) = subst (λ (x : List A). All P x) is all in more 0 a (omega arith)

-- of wires that each join two workers, the first does
pub first_within : {T : Type 0} (count : ℕ) (all rest : List (Laid T)) (laid : Laid T) → all ≡ laid ∷ rest → AreWithin count (map (λ r. r.wire) all) → (laid.wire.from < count) × (laid.wire.to < count)
first_within {T = T} count all rest laid is within =
    all_first (λ (w : Wire). (w.from < count) × (w.to < count)) (map (λ (r : Laid T). r.wire) all) (map (λ (r : Laid T). r.wire) rest) laid.wire (ap (λ (l : List (Laid T)). map (λ r. r.wire) l) is) within

-- and the rest do
pub rest_within : {T : Type 0} (count : ℕ) (all rest : List (Laid T)) (laid : Laid T) → all ≡ laid ∷ rest → AreWithin count (map (λ r. r.wire) all) → AreWithin count (map (λ r. r.wire) rest)
rest_within {T = T} count all rest laid is within =
    all_rest (λ (w : Wire). (w.from < count) × (w.to < count)) (map (λ (r : Laid T). r.wire) all) (map (λ (r : Laid T). r.wire) rest) laid.wire (ap (λ (l : List (Laid T)). map (λ r. r.wire) l) is) within

-- once the first ring is dealt out, the rest are dealt out from the next number on
pub dealt_on : {T : Type 0} (n : ℕ) (before after whole : List Tags) (all rest : List (Laid T)) (laid : Laid T) → all ≡ laid ∷ rest
    → after ≡ in_given (out_given before laid.wire.from (n, out_name laid.ring.out)) laid.wire.to (n, out_name laid.ring.out)
    → dealt_from n before (table_of all) ≡ whole → dealt_from (n + 1) after (table_of rest) ≡ whole
dealt_on {T = T} n before after whole all rest laid is given so =
    ap (λ (ws : List Tags). dealt_from (n + 1) ws (table_of rest)) given ∙ ap (λ (l : List (Laid T)). dealt_from n before (table_of l)) (sym is) ∙ so
