-- In a guarded fabric the packets that are named with their places are all that are in flight, and each stands at one place.
use Rattle.std.proofs.Common.{◌≡◌, ℕ, ◌<◌, ◌≤◌, ◌==◌, Bool, true, false, List, [], ◌∷◌, ◌++◌, length, get_or, Option, Some, None, refl, sym, ap, ◌∙◌, subst, arith, eqb-true, ◌⊎◌, inl, inr}
use Rattle.std.specs.Prelude.{◌&&◌, ◌||◌, count_by, is_some, option_map, slice_get}
use Rattle.std.specs.List.{flat_map, list_all, list_any}
use Rattle.std.proofs.lemmas.List.{append-nil}
use Rattle.std.proofs.lemmas.List.Quantifiers.{position-Some}
use Rattle.std.proofs.lemmas.Option.{slice_get-get_or}
use Rattle.fab_types.proofs.Origins.{one_origin}
use Rattle.fab_types.specs.Origins.{same_origin}
use Rattle.fab_types.specs.declared.origin.Origin.{Origin}
use Rattle.fab_types.specs.declared.origin.Origin.TheVariants.{Host}
use Rattle.fab_types.specs.declared.place.Direction.{Direction}
use Rattle.fab_types.specs.declared.place.Place.{Place}
use Rattle.fab_types.specs.declared.place.Place.TheVariants.{Egress, Ingress, Outbox, Wire}
use Rattle.frame_log.specs.Descriptor.{Descriptor}
use Rattle.domain.specs.Consumed.{times_waiting}
use Rattle.request_handling.specs.Emissions.{Emission}
use Rattle.domains.specs.Agents.{AreFound, Outbox as Box, outbox_place, waiting_at, waiting_in as waiting_found}
use Rattle.link.specs.Channels.{Channel}
use Rattle.topology.specs.Links.{sender_of}
use Rattle.topology.specs.declared.nodes.LinkEnd.{LinkEnd}
use Rattle.interconnect.specs.Moves.{channel_at, no_channel}
use Rattle.fabric_core.specs.Invariant.{IsFabric}
use Rattle.fabric_core.specs.Places.{AreFlown, ArePartition, ArePlaced, ArePacketPlaces, PacketPlace, flown, frames_from, frames_of, frames_on, is_named, is_numbered, stands_at, strays_of, waiting_in}
use Rattle.fabric_core.specs.Soundness.{IsGuardedFabric}
use Rattle.fabric_core.specs.Trails.{egress_of, ingress_of, standing_at, wire_of}
use Rattle.fabric_core.specs.World.{World, is_guarded}
use Rattle.fabric_core.proofs.places.Named.{named_flown}
use Rattle.fabric_core.proofs.places.Once.{any_back, any_at, any_front, few_at, few_back, few_front, none_at, none_both, none_in, not_both, same_one, uncounted}
use Rattle.fabric_core.proofs.soundness.Guarding.{one_direction}

-- where on a link
data Part : Type 0 where
  sending : Part
  flying : Part
  arriving : Part

abbrev segment : Part → Channel → List Descriptor
segment sending c = c.egress
segment flying c = c.wire
segment arriving c = c.ingress

abbrev place_at : Part → Direction → Place
place_at sending direction = Egress direction
place_at flying direction = Wire direction
place_at arriving direction = Ingress direction

-- packets under one number, of which there is at most one
module _ (w : World) (g : IsGuardedFabric w) (domain n : ℕ) where
  abbrev boxes : List Box
  boxes = w.agents.outboxes

  abbrev linked : List Descriptor
  linked = flat_map frames_from w.channels

  abbrev boxed : List Descriptor
  boxed = flat_map waiting_in boxes

  abbrev others : List Descriptor
  others = flat_map strays_of w.ports ++ w.strays

  abbrev is : Descriptor → Bool
  is = is_numbered domain n

  abbrev on : LinkEnd → Channel
  on end = channel_at w.channels end

  -- ---- it stands on a link, or in an outbox

  record OnLink (place : Place) : Type 0 where
    pub kind : Part
    pub direction : Direction
    pub end : LinkEnd
    pub at : place ≡ place_at kind direction
    pub from : sender_of w.tree.links direction ≡ Some end
    pub there : list_any is (segment kind (on end)) ≡ true

  record InBox (place : Place) : Type 0 where
    pub origin : Origin
    pub box : ℕ
    pub at : place ≡ Outbox origin
    pub found : outbox_place boxes origin ≡ Some box
    pub there : list_any is (waiting_found (slice_get boxes box)) ≡ true

  at_egress : (d : Direction) (o : Option LinkEnd) → sender_of w.tree.links d ≡ o → list_any is (egress_of (option_map on o)) ≡ true → OnLink (Egress d)
  at_egress d None from h = absurd cc
  at_egress d (Some e) from h = record { kind = sending; direction = d; end = e; at = refl; from = from; there = h }

  at_wire : (d : Direction) (o : Option LinkEnd) → sender_of w.tree.links d ≡ o → list_any is (wire_of (option_map on o)) ≡ true → OnLink (Wire d)
  at_wire d None from h = absurd cc
  at_wire d (Some e) from h = record { kind = flying; direction = d; end = e; at = refl; from = from; there = h }

  at_ingress : (d : Direction) (o : Option LinkEnd) → sender_of w.tree.links d ≡ o → list_any is (ingress_of (option_map on o)) ≡ true → OnLink (Ingress d)
  at_ingress d None from h = absurd cc
  at_ingress d (Some e) from h = record { kind = arriving; direction = d; end = e; at = refl; from = from; there = h }

  in_box : (origin : Origin) (o : Option ℕ) → outbox_place boxes origin ≡ o → list_any is (waiting_at boxes o) ≡ true → InBox (Outbox origin)
  in_box origin None found h = absurd cc
  in_box origin (Some box) found h = record { origin = origin; box = box; at = refl; found = found; there = h }

  spot : (place : Place) → stands_at (standing_at w) domain n place ≡ true → OnLink place ⊎ InBox place
  spot (Outbox origin) h = inr (in_box origin (outbox_place boxes origin) refl h)
  spot (Egress d) h = inl (at_egress d (sender_of w.tree.links d) refl h)
  spot (Wire d) h = inl (at_wire d (sender_of w.tree.links d) refl h)
  spot (Ingress d) h = inl (at_ingress d (sender_of w.tree.links d) refl h)

  -- ---- and in one of them alone

  on_segment : (kind : Part) (c : Channel) → list_any is (segment kind c) ≡ true → list_any is (frames_on c) ≡ true
  on_segment sending c h = any_front is c.egress (c.wire ++ c.ingress) h
  on_segment flying c h = any_back is c.egress (c.wire ++ c.ingress) (any_front is c.wire c.ingress h)
  on_segment arriving c h = any_back is c.egress (c.wire ++ c.ingress) (any_back is c.wire c.ingress h)

  one_segment : (a b : Part) (c : Channel) → list_any is (segment a c) ≡ true → list_any is (segment b c) ≡ true → count_by is (frames_on c) ≤ 1 → a ≡ b
  one_segment sending sending c h k few = refl
  one_segment sending flying c h k few = absurd (not_both is c.egress (c.wire ++ c.ingress) few h (any_front is c.wire c.ingress k))
  one_segment sending arriving c h k few = absurd (not_both is c.egress (c.wire ++ c.ingress) few h (any_back is c.wire c.ingress k))
  one_segment flying sending c h k few = absurd (not_both is c.egress (c.wire ++ c.ingress) few k (any_front is c.wire c.ingress h))
  one_segment flying flying c h k few = refl
  one_segment flying arriving c h k few = absurd (not_both is c.wire c.ingress (few_back is c.egress (c.wire ++ c.ingress) few) h k)
  one_segment arriving sending c h k few = absurd (not_both is c.egress (c.wire ++ c.ingress) few k (any_back is c.wire c.ingress h))
  one_segment arriving flying c h k few = absurd (not_both is c.wire c.ingress (few_back is c.egress (c.wire ++ c.ingress) few) k h)
  one_segment arriving arriving c h k few = refl

  abbrev outputs_at : ℕ → List Channel
  outputs_at node = get_or w.channels node []

  on_outputs : (end : LinkEnd) → list_any is (frames_on (on end)) ≡ true → list_any is (frames_from (outputs_at end.node)) ≡ true
  on_outputs end h = any_at is frames_on (outputs_at end.node) end.output no_channel refl h

  on_links : (end : LinkEnd) → list_any is (frames_on (on end)) ≡ true → list_any is linked ≡ true
  on_links end h = any_at is frames_from w.channels end.node [] refl (on_outputs end h)

  abbrev no_box : Box
  no_box = record { origin = Host 0; waiting = [] }

  module _ (few : count_by is (frames_of w) ≤ 1) where
    few_linked : count_by is linked ≤ 1
    few_linked = few_front is linked (boxed ++ others) few

    few_boxed : count_by is boxed ≤ 1
    few_boxed = few_front is boxed others (few_back is linked (boxed ++ others) few)

    one_end : (a b : LinkEnd) → list_any is (frames_on (on a)) ≡ true → list_any is (frames_on (on b)) ≡ true → a ≡ b
    one_end a b h k =
        let node : a.node ≡ b.node = same_one is frames_from w.channels a.node b.node [] refl (on_outputs a h) (on_outputs b k) few_linked in
        let there : list_any is (frames_on (get_or (outputs_at a.node) b.output no_channel)) ≡ true = subst (λ (node : ℕ). list_any is (frames_on (get_or (outputs_at node) b.output no_channel)) ≡ true) (sym node) k in
        let output : a.output ≡ b.output = same_one is frames_on (outputs_at a.node) a.output b.output no_channel refl h there (few_at is frames_from w.channels a.node [] refl few_linked) in
        λ i. record { node = node i; output = output i }

    few_on : (end : LinkEnd) → count_by is (frames_on (on end)) ≤ 1
    few_on end = few_at is frames_on (outputs_at end.node) end.output no_channel refl (few_at is frames_from w.channels end.node [] refl few_linked)

    both_linked : (one other : Place) → OnLink one → OnLink other → one ≡ other
    both_linked one other a b =
        let ends : a.end ≡ b.end = one_end a.end b.end (on_segment a.kind (on a.end) a.there) (on_segment b.kind (on b.end) b.there) in
        let directions : a.direction ≡ b.direction = one_direction w g a.direction b.direction b.end (a.from ∙ ap (λ (end : LinkEnd). Some end) ends) b.from in
        let there : list_any is (segment b.kind (on a.end)) ≡ true = subst (λ (end : LinkEnd). list_any is (segment b.kind (on end)) ≡ true) (sym ends) b.there in
        let kinds : a.kind ≡ b.kind = one_segment a.kind b.kind (on a.end) a.there there (few_on a.end) in
        a.at ∙ ap (λ (kind : Part). place_at kind a.direction) kinds ∙ ap (place_at b.kind) directions ∙ sym b.at

    found_at : (origin : Origin) (box : ℕ) → outbox_place boxes origin ≡ Some box → (box < length boxes) × (same_origin (get_or boxes box no_box).origin origin ≡ true)
    unfolding outbox_place
    found_at origin box found = let h = position-Some (λ (one : Box). same_origin one.origin origin) boxes box no_box found in (h.0, h.1)

    boxed_at : (place : Place) (a : InBox place) → (same_origin (get_or boxes a.box no_box).origin a.origin ≡ true) × (list_any is (waiting_in (get_or boxes a.box no_box)) ≡ true)
    boxed_at place a =
        let h = found_at a.origin a.box a.found in
        (h.1, subst (λ (o : Option Box). list_any is (waiting_found o) ≡ true) (slice_get-get_or boxes a.box no_box h.0) a.there)

    both_boxed : (one other : Place) → InBox one → InBox other → one ≡ other
    both_boxed one other a b =
        let h = boxed_at one a in
        let k = boxed_at other b in
        let box : a.box ≡ b.box = same_one is waiting_in boxes a.box b.box no_box refl h.1 k.1 few_boxed in
        let first : (get_or boxes a.box no_box).origin ≡ a.origin = one_origin _ a.origin h.0 in
        let second : (get_or boxes b.box no_box).origin ≡ b.origin = one_origin _ b.origin k.0 in
        let origins : a.origin ≡ b.origin = sym first ∙ ap (λ (at : ℕ). (get_or boxes at no_box).origin) box ∙ second in
        a.at ∙ ap Outbox origins ∙ sym b.at

    not_linked_and_boxed : (one other : Place) → OnLink one → InBox other → ⊥
    not_linked_and_boxed one other a b =
        let waits = any_at is waiting_in boxes b.box no_box refl (let h = boxed_at other b in h.1) in
        not_both is linked (boxed ++ others) few (on_links a.end (on_segment a.kind (on a.end) a.there)) (any_front is boxed others waits)

    same_place : (one other : Place) → OnLink one ⊎ InBox one → OnLink other ⊎ InBox other → one ≡ other
    same_place one other (inl a) (inl b) = both_linked one other a b
    same_place one other (inl a) (inr b) = absurd (not_linked_and_boxed one other a b)
    same_place one other (inr a) (inl b) = absurd (not_linked_and_boxed other one b a)
    same_place one other (inr a) (inr b) = both_boxed one other a b

    stands_alone : (one other : Place) → stands_at (standing_at w) domain n one ≡ true → stands_at (standing_at w) domain n other ≡ true → one ≡ other
    stands_alone one other h k = same_place one other (spot one h) (spot other k)

  -- ---- where it stands at no place it is nowhere

  module _ (found : AreFound boxes) (nowhere : (place : Place) → stands_at (standing_at w) domain n place ≡ false) where
    unsent : (end : LinkEnd) → list_any is (frames_on (on end)) ≡ true → (direction : Direction) → sender_of w.tree.links direction ≡ Some end → ⊥
    unsent end h direction from =
        let at = ap (option_map on) from in
        let c = on end in
        let egress : list_any is c.egress ≡ false = sym (ap (λ (o : Option Channel). list_any is (egress_of o)) at) ∙ nowhere (Egress direction) in
        let wire : list_any is c.wire ≡ false = sym (ap (λ (o : Option Channel). list_any is (wire_of o)) at) ∙ nowhere (Wire direction) in
        let ingress : list_any is c.ingress ≡ false = sym (ap (λ (o : Option Channel). list_any is (ingress_of o)) at) ∙ nowhere (Ingress direction) in
        let none : list_any is (frames_on c) ≡ false = none_both is c.egress (c.wire ++ c.ingress) egress (none_both is c.wire c.ingress wire ingress) in
        absurd (let both = sym h ∙ none in cc)

    none_on_of : (end : LinkEnd) (b : Bool) → list_any is (frames_on (on end)) ≡ b → list_any is (frames_on (on end)) ≡ false
    none_on_of end true h = absurd (let none = ap (list_any is) (g.sound.elsewhere end (unsent end h)) in let both = sym h ∙ none in cc)
    none_on_of end false h = h

    none_on : (end : LinkEnd) → list_any is (frames_on (on end)) ≡ false
    none_on end = none_on_of end (list_any is (frames_on (on end))) refl

    none_linked : list_any is linked ≡ false
    none_linked = none_at is frames_from w.channels [] (λ node. none_at is frames_on (outputs_at node) no_channel (λ output. none_on (record { node = node; output = output })))

    none_in_box : (box : ℕ) (x : Box) → slice_get boxes box ≡ Some x → (x.waiting ≡ []) ⊎ (outbox_place boxes x.origin ≡ Some box) → list_any is x.waiting ≡ false
    none_in_box box x at (inl empty) = ap (list_any is) empty
    none_in_box box x at (inr place) =
        sym (ap (λ (o : Option ℕ). list_any is (waiting_at boxes o)) place ∙ ap (λ (o : Option Box). list_any is (waiting_found o)) at) ∙ nowhere (Outbox x.origin)

    none_boxed : list_any is boxed ≡ false
    none_boxed = none_in is waiting_in boxes (λ box x at. none_in_box box x at (found box x at))

    none_other : list_any is others ≡ false
    none_other = none_both is (flat_map strays_of w.ports) w.strays (ap (list_any is) g.sound.ports) (ap (list_any is) g.sound.strays)

    pub none_at_all : list_any is (frames_of w) ≡ false
    none_at_all = none_both is linked (boxed ++ others) none_linked (none_both is boxed others none_boxed none_other)

-- ---- the partition

module _ (w : World) (fabric : IsFabric w) (guarded : is_guarded w ≡ true) (found : AreFound w.agents.outboxes) (domain : ℕ) (named : List PacketPlace) (where_they_are : ArePacketPlaces (standing_at w) domain named) where
  placed : ArePlaced w
  placed = fabric.kept.placed

  all_placed : frames_of w ++ placed.lost ≡ frames_of w
  all_placed = ap (λ (lost : List Descriptor). frames_of w ++ lost) (placed.whole guarded) ∙ append-nil (frames_of w)

  abbrev in_flight : ℕ → Option Emission
  in_flight n = flown w.agents.domains domain n

  once : (n : ℕ) → count_by (is_numbered domain n) (frames_of w) ≡ times_waiting (in_flight n)
  once n = ap (count_by (is_numbered domain n)) (sym all_placed) ∙ placed.once domain n

  at_most_once : (o : Option Emission) → times_waiting o ≤ 1
  at_most_once None = omega arith
  at_most_once (Some e) = omega arith

  few_of : (n : ℕ) → count_by (is_numbered domain n) (frames_of w) ≤ 1
  few_of n = omega (arith, once n, at_most_once (in_flight n))

  -- one that is named is in flight
  own_or_later : (k n : ℕ) (rest same : Bool) → (k == n) ≡ same → (f : Bool) → is_some (in_flight k) ≡ f → (others : Bool) → (others ≡ true → rest ≡ true → is_some (in_flight n) ≡ true) → (f && others) ≡ true → (same || rest) ≡ true → is_some (in_flight n) ≡ true
  own_or_later k n rest true is true flies others later all h = subst (λ (m : ℕ). is_some (in_flight m) ≡ true) (eqb-true k n is) flies
  own_or_later k n rest false is true flies others later all h = later all h
  own_or_later k n rest same is false flies others later all h = absurd cc

  flown_of : (ones : List PacketPlace) → AreFlown w domain ones → (n : ℕ) → is_named ones n ≡ true → is_some (in_flight n) ≡ true
  flown_of [] all n h = absurd cc
  flown_of (one ∷ ones) all n h =
      own_or_later one.0 n (is_named ones n) (one.0 == n) refl (is_some (in_flight one.0)) refl (list_all (λ other. is_some (in_flight other.0)) ones) (λ later named_later. flown_of ones later n named_later) all h

  -- one that isn't named stands nowhere, and so isn't
  unnamed : (n : ℕ) → is_named named n ≡ false → (place : Place) → stands_at (standing_at w) domain n place ≡ false
  unnamed n none place = by (stands_at (standing_at w) domain n place) refl
    where
      by : (b : Bool) → stands_at (standing_at w) domain n place ≡ b → stands_at (standing_at w) domain n place ≡ false
      by true h = absurd (let both = sym (where_they_are.all n place h) ∙ none in cc)
      by false h = h

  not_waiting : (o : Option Emission) → times_waiting o ≡ 0 → is_some o ≡ false
  not_waiting None h = refl
  not_waiting (Some e) h = absurd cc

  same_of : (n : ℕ) (b : Bool) → is_named named n ≡ b → is_named named n ≡ is_some (in_flight n)
  same_of n true h = h ∙ sym (flown_of named (named_flown w placed domain named where_they_are.there) n h)
  same_of n false h =
      let none = none_at_all w (fabric.guarded guarded) domain n found (unnamed n h) in
      h ∙ sym (not_waiting (in_flight n) (sym (once n) ∙ uncounted (is_numbered domain n) (frames_of w) none))

  pub partition : ArePartition w domain named
  partition = record {
    in_flight = λ n. same_of n (is_named named n) refl;
    alone = λ n one other h k. stands_alone w (fabric.guarded guarded) domain n (few_of n) one other h k;
  }
