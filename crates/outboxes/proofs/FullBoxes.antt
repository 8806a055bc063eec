-- What waits anywhere waits in a box that is found by its origin, whatever box is changed.
use Rattle.std.proofs.Common.{◌≡◌, inl, inr, ℕ, ◌<◌, List, [], length, get_or, map, set, Some, refl, sym, ap, ◌∙◌, subst, slice_get}
use Rattle.std.specs.Prelude.{All, filter}
use Rattle.std.specs.List.{range_with_len}
use Rattle.std.proofs.lemmas.Bool.{cases_eq}
use Rattle.std.proofs.lemmas.List.Elements.{All-append, All-map}
use Rattle.std.proofs.lemmas.Option.{get_or_from_slice_get, same_Some, slice_get_within}
use Rattle.fab_types.specs.declared.origin.Origin.{Origin}
use Rattle.fab_types.proofs.Origins.{one_origin}
use Rattle.platform.specs.Platform.{Platform}
use Rattle.platform.specs.Owners.{owns_port}
use Rattle.outboxes.specs.Outboxes.{AreFound, BoxView, box_place, boxes_of, function_box, host_box, host_boxes, waiting}
use Rattle.outboxes.proofs.Changing.{found_is, get_other, same_place, set_there}

-- ---- the start

abbrev IsEmpty : BoxView → Type 0
IsEmpty box = waiting box ≡ []

all_empty : (platform : Platform) → All IsEmpty (boxes_of platform)
unfolding host_boxes
all_empty platform =
    All-append IsEmpty (map (function_box platform) platform.functions) (host_boxes platform 31)
    (All-map IsEmpty (function_box platform) platform.functions (λ i line within. refl))
    (All-map IsEmpty (host_box platform) (filter (owns_port platform.ports) (range_with_len 1 31)) (λ i domain within. refl))

pub found_start : (platform : Platform) (boxes : List BoxView) → boxes ≡ boxes_of platform → AreFound boxes
found_start platform boxes is = λ i box there.
    let empty : All IsEmpty boxes = subst (All IsEmpty) (sym is) (all_empty platform) in
    inl (subst IsEmpty (get_or_from_slice_get boxes i box box there) (empty i box (slice_get_within boxes i box there)))

-- ---- a box is another one, of the same origin

module _ (boxes : List BoxView) (p : ℕ) (read new : BoxView) (origin : Origin) (within : p < length boxes) (e : box_place boxes origin ≡ Some p) (same : new.origin ≡ (get_or boxes p read).origin) (found : AreFound boxes) where
  places : (other : Origin) → box_place (set boxes p new) other ≡ box_place boxes other
  places other = same_place boxes p read new same other

  here : (box : BoxView) → slice_get (set boxes p new) p ≡ Some box → box_place (set boxes p new) box.origin ≡ Some p
  here box there =
      let is : new ≡ box = same_Some new box (sym (set_there boxes p new within) ∙ there) in
      let of : box.origin ≡ origin = ap (λ (x : BoxView). x.origin) (sym is) ∙ (same ∙ one_origin (get_or boxes p read).origin origin (found_is boxes origin p read e)) in
      places box.origin ∙ (ap (box_place boxes) of ∙ e)

  pub found_set : AreFound (set boxes p new)
  found_set i box there = elim (cases_eq i p) [
    | inl at ↦ inr (ap (λ (k : ℕ). box_place (set boxes k new) box.origin) refl ∙ (here box (ap (slice_get (set boxes p new)) (sym at) ∙ there) ∙ ap (λ (k : ℕ). Some k) (sym at)))
    | inr apart ↦ elim (found i box (sym (get_other boxes p i new apart) ∙ there)) [
      | inl none ↦ inl none
      | inr is ↦ inr (places box.origin ∙ is)
    ]
  ]
