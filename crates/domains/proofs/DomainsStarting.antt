-- The domains of one number more.
use Rattle.std.proofs.Common.{◌≡◌, ℕ, zero, suc, ◌+◌, ◌-◌, ◌≤◌, Bool, true, false, List, [], ◌∷◌, ◌++◌, map, Option, refl, sym, ap, ◌∙◌, add-zero, arith}
use Rattle.std.specs.Prelude.{filter, option_map}
use Rattle.std.specs.List.{range_with_len}
use Rattle.std.specs.Option.{option_to_list}
use Rattle.std.proofs.lemmas.List.{map-append}
use Rattle.std.proofs.lemmas.List.Elements.{filter-append}
use Rattle.platform.specs.Owners.{owns_port}
use Rattle.platform.specs.Platform.{Platform}
use Rattle.layout.specs.Views.{share_of_domain, share_of_owner}
use Rattle.domain.specs.Domains.{DomainView}
use Rattle.domains.specs.Domains.{fresh, starting_domains_among}

range_more : (a n : ℕ) → range_with_len a (n + 1) ≡ range_with_len a n ++ (a + n) ∷ []
range_more a zero = ap (λ (k : ℕ). k ∷ []) (sym (add-zero a))
range_more a (suc n) =
    let more : suc n + 1 ≡ suc (n + 1) = omega arith in
    let last : a + 1 + n ≡ a + suc n = omega arith in
    ap (range_with_len a) more ∙ ap (λ (ns : List ℕ). a ∷ ns) (range_more (a + 1) n ∙ ap (λ (k : ℕ). range_with_len (a + 1) n ++ k ∷ []) last)

one_more : (platform : Platform) (number : ℕ) (b : Bool) → owns_port platform.ports number ≡ b
    → map (λ n. fresh (share_of_domain platform n)) (filter (owns_port platform.ports) (number ∷ [])) ≡ option_to_list (option_map fresh (share_of_owner platform number))
one_more platform number true is = rw is refl
one_more platform number false is = rw is refl

pub starting_domains_more : (platform : Platform) (n : ℕ) → starting_domains_among platform (n + 1) ≡ starting_domains_among platform n ++ option_to_list (option_map fresh (share_of_owner platform (1 + n)))
unfolding starting_domains_among
starting_domains_more platform n =
    ap (λ (ns : List ℕ). map (λ number. fresh (share_of_domain platform number)) (filter (owns_port platform.ports) ns)) (range_more 1 n)
    ∙ ap (λ (ns : List ℕ). map (λ number. fresh (share_of_domain platform number)) ns) (filter-append (owns_port platform.ports) (range_with_len 1 n) ((1 + n) ∷ []))
    ∙ map-append (λ number. fresh (share_of_domain platform number)) (filter (owns_port platform.ports) (range_with_len 1 n)) (filter (owns_port platform.ports) ((1 + n) ∷ []))
    ∙ ap (λ (ds : List DomainView). map (λ number. fresh (share_of_domain platform number)) (filter (owns_port platform.ports) (range_with_len 1 n)) ++ ds) (one_more platform (1 + n) _ refl)

pub starting_domains_none : (platform : Platform) → starting_domains_among platform 0 ≡ []
unfolding starting_domains_among
starting_domains_none platform = refl

-- each domain up to a number, and the one of that number
pub starting_domains_next : (platform : Platform) (n m : ℕ) (before after : List DomainView) (o : Option DomainView) → 1 ≤ n → m ≡ n → before ≡ starting_domains_among platform (n - 1)
    → o ≡ option_map fresh (share_of_owner platform m) → after ≡ before ++ option_to_list o → after ≡ starting_domains_among platform (n + 1 - 1)
starting_domains_next platform n m before after o least same was is more =
    let next : n - 1 + 1 ≡ n + 1 - 1 = omega arith in
    let last : m ≡ 1 + (n - 1) = omega arith in
    more ∙ ap (λ (ds : List DomainView). ds ++ option_to_list o) was
    ∙ ap (λ (x : Option DomainView). starting_domains_among platform (n - 1) ++ option_to_list x) (is ∙ ap (λ (k : ℕ). option_map fresh (share_of_owner platform k)) last)
    ∙ sym (starting_domains_more platform (n - 1)) ∙ ap (starting_domains_among platform) next
