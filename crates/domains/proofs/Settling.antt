-- The agents are settled, as their invariant says.
use Rattle.std.proofs.Common.{◌≡◌, ℕ, zero, suc, ◌<◌, ◌==◌, Bool, Bor, List, [], ◌∷◌, length, Option, Some, None, arith, refl, sym, ap, ◌∙◌, slice_get}
use Rattle.std.specs.Prelude.{IsSome, is_some, map}
use Rattle.std.specs.List.{position}
use Rattle.std.specs.Option.{option_copied}
use Rattle.std.proofs.lemmas.List.Quantifiers.{position-Some}
use Rattle.fab_types.specs.declared.origin.Origin.{Origin}
use Rattle.fab_types.specs.declared.origin.Origin.TheVariants.{Function, Host}
use Rattle.platform.specs.Owners.{is_own_function}
use Rattle.domain.specs.Domains.{DomainView}
use Rattle.outboxes.specs.Outboxes.{BoxView, box_at, box_place}
use Rattle.domains.specs.Domains.{domain_at, place_of, place_of_function}
use Rattle.domains.proofs.Viewing.{same_place}
use Rattle.domains.specs.Agents.{IsSettled, home_of, outbox_place}
use Rattle.domains.specs.AgentsKept.{Keeps, outbox_of, seen}

-- ---- what was found is there

inside : {X : Type 0} (xs : List X) (i : ℕ) → i < length xs → IsSome (slice_get xs i)
inside [] i less = absurd (omega arith)
inside (x ∷ xs) zero less = refl
inside (x ∷ xs) (suc i) less = inside xs i (omega arith)

found_inside : {X : Type 0} (p : X → Bool) (xs : List X) (i : ℕ) (o : Option X) → slice_get xs i ≡ o → position p xs ≡ Some i → IsSome o
found_inside p [] i o there is = absurd cc
found_inside p (x ∷ xs) i o there is = ap is_some (sym there) ∙ inside (x ∷ xs) i (position-Some p (x ∷ xs) i x is).0

home_inside : (ds : List DomainView) (origin : Origin) (i : ℕ) (o : Option DomainView) → slice_get ds i ≡ o → home_of ds origin ≡ Some i → IsSome o
unfolding place_of place_of_function
home_inside ds (Function f) i o there is = found_inside (λ (d : DomainView). is_own_function d.share f) ds i o there is
home_inside ds (Host n) i o there is = found_inside (λ (d : DomainView). d.share.domain == n) ds i o there is

-- the domain of a function, if it has one
pub function_there : (ds : List DomainView) (f : ℕ) (o : Option ℕ) → place_of_function ds f ≡ o → is_some (domain_at ds o) ≡ is_some o
function_there ds f None is = refl
function_there ds f (Some i) is = home_inside ds (Function f) i (slice_get ds i) refl is

pub is_copied : {X : Type 0} (o : Option (Bor X)) → is_some (option_copied o) ≡ is_some o
is_copied None = refl
is_copied (Some x) = refl

-- ---- each origin has an outbox

placed : (boxes : List BoxView) (o : Option ℕ) (box : BoxView) → box_at boxes o ≡ Some box → IsSome o
placed boxes None box is = absurd cc
placed boxes (Some i) box is = refl

boxed : (ds : List DomainView) (boxes : List BoxView) (origin : Origin) (i : ℕ) (o : Option DomainView) → Keeps ds boxes → slice_get ds i ≡ o → home_of ds origin ≡ Some i → IsSome o → IsSome (outbox_place (map outbox_of boxes) origin)
boxed ds boxes origin i None k there home some = absurd cc
boxed ds boxes origin i (Some d) k there home some =
    let h = k.roomy origin i d home there in
    ap is_some (same_place boxes origin) ∙ placed boxes (box_place boxes origin) h.box h.is_there

pub settled : (ds : List DomainView) (boxes : List BoxView) → Keeps ds boxes → IsSettled (seen ds boxes)
settled ds boxes k = record {
  numbered = k.numbered;
  boxed = λ origin place home. boxed ds boxes origin place (slice_get ds place) k refl home (home_inside ds origin place (slice_get ds place) refl home);
}
