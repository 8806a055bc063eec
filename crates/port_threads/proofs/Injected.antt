-- Injectors, and whose they are.
use Rattle.std.proofs.Common.{◌≡◌, ℕ, ◌+◌, ◌<◌, ◌++◌, Bool, true, cond, not, List, [], ◌∷◌, Some, None, map, length, take, drop, get_or, suc, refl, sym, ap, ◌∙◌}
use Rattle.std.specs.Prelude.{nat_lt}
use Rattle.std.specs.List.{position, prefix_len, remove}
use Rattle.std.proofs.lemmas.List.{drop-map, length-map, map-append, take-map}
use Rattle.std.proofs.lemmas.List.Quantifiers.{position-Some}
use Rattle.fab_types.specs.Origins.{same_origin}
use Rattle.fab_types.specs.declared.origin.Origin.{Origin}
use Rattle.injector.specs.declared.injector.Injector.{Injector}
use Rattle.thread_staff.specs.Origins.{origin_place, origins_in}

module _ {X Y : Type 0} (f : X → Y) where
  prefix_len-map : (p : Y → Bool) (xs : List X) → prefix_len (λ x. p (f x)) xs ≡ prefix_len p (map f xs)
  prefix_len-map p [] = refl
  prefix_len-map p (x ∷ xs) = ap (λ (n : ℕ). cond (p (f x)) (1 + n) 0) (prefix_len-map p xs)

  pub position-map : (p : Y → Bool) (xs : List X) → position (λ x. p (f x)) xs ≡ position p (map f xs)
  position-map p xs =
      let first = prefix_len-map (λ y. not (p y)) xs in
      let count = sym (length-map xs f) in
      λ i. cond (nat_lt (first i) (count i)) (Some (first i)) None

  pub map-remove : (xs : List X) (i : ℕ) → map f (remove xs i) ≡ remove (map f xs) i
  map-remove xs i = map-append f (take i xs) (drop (suc i) xs) ∙ (λ j. sym (take-map f i xs) j ++ sym (drop-map f (suc i) xs) j)

  -- the one at the place that was found
  pub found_passes : (p : Y → Bool) (xs : List X) (i : ℕ) (d : X) → position p (map f xs) ≡ Some i → p (f (get_or xs i d)) ≡ true
  found_passes p xs i d at = (position-Some (λ x. p (f x)) xs i d (position-map p xs ∙ at)).1

-- an origin stands at the same place among the injectors and among their origins
pub placed : (injectors : List Injector) (origin : Origin) → position (λ injector. same_origin injector.origin origin) injectors ≡ origin_place (origins_in injectors) origin
placed injectors origin = position-map (λ (injector : Injector). injector.origin) (λ (other : Origin). same_origin other origin) injectors
