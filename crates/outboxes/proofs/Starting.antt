-- The hosts of one domain more.
use Rattle.std.proofs.Common.{◌≡◌, ℕ, zero, suc, ◌+◌, ◌-◌, ◌≤◌, List, [], ◌∷◌, ◌++◌, map, sym, ap, ◌∙◌, add-zero, arith, append_assoc, append-nil}
use Rattle.std.specs.Prelude.{filter}
use Rattle.std.specs.List.{range_with_len}
use Rattle.std.proofs.lemmas.List.{map-append}
use Rattle.std.proofs.lemmas.List.Elements.{filter-append}
use Rattle.platform.specs.Owners.{owns_port}
use Rattle.platform.specs.Platform.{Platform}
use Rattle.outboxes.specs.Outboxes.{BoxView, host_box, host_boxes}

range_more : (a n : ℕ) → range_with_len a (n + 1) ≡ range_with_len a n ++ (a + n) ∷ []
range_more a zero = ap (λ (k : ℕ). k ∷ []) (sym (add-zero a))
range_more a (suc n) =
    let more : suc n + 1 ≡ suc (n + 1) = omega arith in
    let last : a + 1 + n ≡ a + suc n = omega arith in
    ap (range_with_len a) more ∙ ap (λ (ns : List ℕ). a ∷ ns) (range_more (a + 1) n ∙ ap (λ (k : ℕ). range_with_len (a + 1) n ++ k ∷ []) last)

abbrev pub host_of : Platform → ℕ → List BoxView
host_of platform number = map (host_box platform) (filter (owns_port platform.ports) (number ∷ []))

pub hosts_more : (platform : Platform) (n : ℕ) → host_boxes platform (n + 1) ≡ host_boxes platform n ++ host_of platform (1 + n)
unfolding host_boxes
hosts_more platform n =
    ap (λ (ns : List ℕ). map (host_box platform) (filter (owns_port platform.ports) ns)) (range_more 1 n)
    ∙ ap (map (host_box platform)) (filter-append (owns_port platform.ports) (range_with_len 1 n) ((1 + n) ∷ []))
    ∙ map-append (host_box platform) (filter (owns_port platform.ports) (range_with_len 1 n)) (filter (owns_port platform.ports) ((1 + n) ∷ []))

pub hosts_none : (platform : Platform) (boxes : List BoxView) → boxes ≡ boxes ++ host_boxes platform 0
unfolding host_boxes
hosts_none platform boxes = sym (append-nil boxes)

-- the hosts up to a number, and the one of that number
pub hosts_next : (platform : Platform) (n m : ℕ) (first before after : List BoxView) → 1 ≤ n → m ≡ n → before ≡ first ++ host_boxes platform (n - 1)
    → after ≡ before ++ host_of platform m → after ≡ first ++ host_boxes platform (n + 1 - 1)
hosts_next platform n m first before after least same was more =
    let next : n - 1 + 1 ≡ n + 1 - 1 = omega arith in
    let last : m ≡ 1 + (n - 1) = omega arith in
    more ∙ ap (λ (bs : List BoxView). bs ++ host_of platform m) was
    ∙ append_assoc first (host_boxes platform (n - 1)) (host_of platform m)
    ∙ ap (λ (k : ℕ). first ++ (host_boxes platform (n - 1) ++ host_of platform k)) last
    ∙ ap (λ (bs : List BoxView). first ++ bs) (sym (hosts_more platform (n - 1)) ∙ ap (host_boxes platform) next)
