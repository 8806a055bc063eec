-- A fabric has the domains that own a port of its layout, at its start.
use Rattle.std.proofs.Common.{◌≡◌, ℕ, ◌-◌, ◌≤◌, ◌==◌, Bool, true, false, cond, List, [], ◌∷◌, length, map, Option, Some, None, refl, sym, ap, ◌∙◌, arith}
use Rattle.std.specs.Prelude.{◌&&◌, ◌||◌, filter, is_some, nat_lt, slice_get}
use Rattle.std.specs.List.{find, list_any, position, position_or_len, range_with_len}
use Rattle.std.proofs.lemmas.Bool.{eq-eqb, eqb-true, ltb-false}
use Rattle.std.proofs.lemmas.List.Folds.{find_at, list_any_at}
use Rattle.std.proofs.lemmas.List.FromFn.{get_or-range_with_len, length-range_with_len}
use Rattle.std.proofs.lemmas.Map.Views.{any-filter_same}
use Rattle.std.proofs.lemmas.Option.{slice_get_past}
use Rattle.platform.specs.Owners.{owns_port}
use Rattle.platform.specs.Platform.{Platform}
use Rattle.layout.specs.Views.{share_of_domain}
use Rattle.domain.specs.Domains.{DomainView}
use Rattle.domains.specs.Domains.{domain_at, fresh, place_of, starting_domains_among}
use Rattle.fabric_core.specs.Isolation.{domain_of}
use Rattle.fabric_core.specs.World.{world_of}

-- ---- what a search finds

at_first : (ds : List DomainView) (n : ℕ) (b : Bool) → nat_lt n (length ds) ≡ b → domain_at ds (cond b (Some n) None) ≡ slice_get ds n
at_first ds n true within = refl
at_first ds n false within = sym (slice_get_past ds n (ltb-false n (length ds) within))

-- the domain at the place that a search finds is what it finds
found_at : (ds : List DomainView) (p : DomainView → Bool) → domain_at ds (position p ds) ≡ find p ds
found_at ds p = at_first ds (position_or_len p ds) (nat_lt (position_or_len p ds) (length ds)) refl ∙ sym (find_at p ds)

found_or : {X : Type 0} (b r : Bool) (x : X) (o : Option X) → is_some o ≡ r → is_some (cond b (Some x) o) ≡ (b || r)
found_or true r x o rest = refl
found_or false r x o rest = rest

found_any : {X : Type 0} (p : X → Bool) (xs : List X) → is_some (find p xs) ≡ list_any p xs
found_any p [] = refl
found_any p (x ∷ xs) = found_or (p x) (list_any p xs) x (find p xs) (found_any p xs)

any_map : {X Y : Type 0} (p : Y → Bool) (f : X → Y) (xs : List X) → list_any p (map f xs) ≡ list_any (λ x. p (f x)) xs
any_map p f [] = refl
any_map p f (x ∷ xs) = ap (λ (b : Bool). p (f x) || b) (any_map p f xs)

-- ---- the numbers of domains

in_range : (d : ℕ) → 1 ≤ d → d ≤ 31 → list_any (λ n. n == d) (range_with_len 1 31) ≡ true
in_range d least most =
    let long = length-range_with_len 1 31 in
    let here = get_or-range_with_len 1 31 (d - 1) 0 (omega (arith, least, most)) in
    list_any_at (λ n. n == d) (range_with_len 1 31) (d - 1) 0 (omega (arith, long, least, most)) (eq-eqb _ d (omega (arith, here, least)))

pub has_domain : (platform : Platform) (d : ℕ) → 1 ≤ d → d ≤ 31 → is_some (domain_of (world_of platform) d) ≡ owns_port platform.ports d
unfolding place_of starting_domains_among
has_domain platform d least most =
    let owns : ℕ → Bool = λ n. owns_port platform.ports n in
    let is : ℕ → Bool = λ n. n == d in
    let start : ℕ → DomainView = λ n. fresh (share_of_domain platform n) in
    let ns : List ℕ = filter owns (range_with_len 1 31) in
    let numbered : DomainView → Bool = λ x. x.share.domain == d in
    ap is_some (found_at (map start ns) numbered) ∙ found_any numbered (map start ns) ∙ any_map numbered start ns
    ∙ any-filter_same is owns (owns d) (λ n same. ap owns (eqb-true n d same)) (range_with_len 1 31)
    ∙ ap (λ (b : Bool). owns d && b) (in_range d least most) ∙ and_true (owns d)
  where
    and_true : (b : Bool) → (b && true) ≡ b
    and_true true = refl
    and_true false = refl
