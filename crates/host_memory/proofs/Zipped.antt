-- Pages as numbers and bytes that stand beside each other.
use Rattle.std.proofs.Common.{◌≡◌, ℕ, suc, zero, ◌<◌, List, [], ◌∷◌, length, get_or, set, Some, None, arith, ap, refl, eq-eqb, sym, ◌∙◌, map, replicate}
use Rattle.std.specs.List.{zip}
use Rattle.std.specs.List.Sorted.{IsStrictlyIncreasing}
use Rattle.std.proofs.lemmas.Bool.{ne_eqb}
use Rattle.host_memory.specs.Pages.{page_of, written}
use Rattle.fab_types.specs.Bytes.{overwritten}
use Rattle.host_memory.proofs.Rising.{IsAbsent, IsOnlyAt, only_at}

-- the places after the first
absent_after : (n : ℕ) (ns : List ℕ) (k : ℕ) → IsOnlyAt (n ∷ ns) k 0 → IsAbsent ns k
absent_after n ns k is = λ j lt. is.only (suc j) (omega (arith, lt)) (omega arith)

only_after : (n : ℕ) (ns : List ℕ) (k at : ℕ) → IsOnlyAt (n ∷ ns) k (suc at) → IsOnlyAt ns k at
only_after n ns k at is = record {
  within = omega (arith, is.within);
  here = is.here;
  only = λ j lt apart. is.only (suc j) (omega (arith, lt)) (omega (arith, apart));
}

-- where no page has the number, nothing is written
pub written_absent : (numbers : List ℕ) (pages : List (List ℕ)) (k offset : ℕ) (bytes : List ℕ) → IsAbsent numbers k → written (zip numbers pages) k offset bytes ≡ zip numbers pages
written_absent [] pages k offset bytes absent = refl
written_absent (n ∷ ns) [] k offset bytes absent = refl
written_absent (n ∷ ns) (p ∷ ps) k offset bytes absent =
    let head = ne_eqb n k (absent 0 (omega arith)) in
    rw head (ap (λ rest. (n, p) ∷ rest) (written_absent ns ps k offset bytes (λ j lt. absent (suc j) (omega arith))))

-- where one has, it is written there
written_at : (numbers : List ℕ) (pages : List (List ℕ)) (k at offset : ℕ) (bytes d : List ℕ) → IsOnlyAt numbers k at → length pages ≡ length numbers → written (zip numbers pages) k offset bytes ≡ zip numbers (set pages at (overwritten (get_or pages at d) offset bytes))
written_at [] pages k at offset bytes d is same = refl
written_at (n ∷ ns) [] k at offset bytes d is same = refl
written_at (n ∷ ns) (p ∷ ps) k zero offset bytes d is same =
    let head = eq-eqb n k is.here in
    rw head (ap (λ rest. (n, overwritten p offset bytes) ∷ rest) (written_absent ns ps k offset bytes (absent_after n ns k is)))
written_at (n ∷ ns) (p ∷ ps) k (suc at) offset bytes d is same =
    let head = ne_eqb n k (is.only 0 (omega arith) (omega arith)) in
    rw head (ap (λ rest. (n, p) ∷ rest) (written_at ns ps k at offset bytes d (only_after n ns k at is) (omega (arith, same))))

pub page_of_absent : (numbers : List ℕ) (pages : List (List ℕ)) (k : ℕ) → IsAbsent numbers k → page_of (zip numbers pages) k ≡ None
page_of_absent [] pages k absent = refl
page_of_absent (n ∷ ns) [] k absent = refl
page_of_absent (n ∷ ns) (p ∷ ps) k absent =
    let head = ne_eqb n k (absent 0 (omega arith)) in
    rw head (page_of_absent ns ps k (λ j lt. absent (suc j) (omega arith)))

page_of_at : (numbers : List ℕ) (pages : List (List ℕ)) (k at : ℕ) (d : List ℕ) → IsOnlyAt numbers k at → length pages ≡ length numbers → page_of (zip numbers pages) k ≡ Some (get_or pages at d)
page_of_at [] pages k at d is same = absurd (omega (arith, is.within))
page_of_at (n ∷ ns) [] k at d is same = absurd (omega (arith, same))
page_of_at (n ∷ ns) (p ∷ ps) k zero d is same = let head = eq-eqb n k is.here in rw head
page_of_at (n ∷ ns) (p ∷ ps) k (suc at) d is same =
    let head = ne_eqb n k (is.only 0 (omega arith) (omega arith)) in
    rw head (page_of_at ns ps k at d (only_after n ns k at is) (omega (arith, same)))

-- a page that stands beside its number
pub record StandsAt (numbers : List ℕ) (pages : List (List ℕ)) (k at : ℕ) (page : List ℕ) : Type 0 where
  pub rising : IsStrictlyIncreasing numbers
  pub paired : length pages ≡ length numbers
  pub within : at < length numbers
  pub number : get_or numbers at 0 ≡ k
  pub bytes : page ≡ get_or pages at page

pub page_of_standing : (numbers : List ℕ) (pages : List (List ℕ)) (k at : ℕ) (page : List ℕ) → StandsAt numbers pages k at page → Some page ≡ page_of (zip numbers pages) k
page_of_standing numbers pages k at page is =
    ap Some is.bytes ∙ sym (page_of_at numbers pages k at page (only_at numbers k at is.rising is.within is.number) is.paired)

pub written_standing : (numbers : List ℕ) (pages : List (List ℕ)) (k at offset : ℕ) (bytes page : List ℕ) → StandsAt numbers pages k at page → zip numbers (set pages at (overwritten page offset bytes)) ≡ written (zip numbers pages) k offset bytes
written_standing numbers pages k at offset bytes page is =
    ap (λ old. zip numbers (set pages at (overwritten old offset bytes))) is.bytes
    ∙ sym (written_at numbers pages k at offset bytes page (only_at numbers k at is.rising is.within is.number) is.paired)

-- pages that are all the same
pub zip-replicate : (numbers : List ℕ) (page : List ℕ) → zip numbers (replicate (length numbers) page) ≡ map (λ k. (k, page)) numbers
zip-replicate [] page = refl
zip-replicate (n ∷ ns) page = ap (λ rest. (n, page) ∷ rest) (zip-replicate ns page)
