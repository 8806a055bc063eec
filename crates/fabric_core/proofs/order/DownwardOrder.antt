-- Two kinds of packets from a domain's host to one function stay in turn on the way down through every motion, and the
-- second isn't taken out of flight before the first.
use Rattle.std.proofs.Common.{◌≡◌, inl, inr, ℕ, Bool, true, false, List, ◌∷◌, ◌++◌, refl, sym, ap, ◌∙◌, subst, ⊎_elim}
use Rattle.std.specs.Prelude.{All}
use Rattle.std.proofs.lemmas.Bool.{false≢true}
use Rattle.fab_types.specs.declared.class.Class.TheVariants.{Posted}
use Rattle.fab_types.specs.declared.head.Header.{Header}
use Rattle.fab_types.specs.declared.head.Header.TheVariants as header
use Rattle.fab_types.specs.declared.head.Parties.{Parties}
use Rattle.fab_types.specs.declared.place.Direction.{Direction}
use Rattle.fab_types.specs.declared.place.Place.{Place}
use Rattle.fab_types.specs.declared.place.Place.TheVariants.{Ingress}
use Rattle.fab_types.specs.declared.place.Way.TheVariants.{Up, Down}
use Rattle.frame_log.specs.Descriptor.{Descriptor}
use Rattle.platform.specs.Platform.{Platform}
use Rattle.platform.specs.Tree.{id_below}
use Rattle.domain.specs.declared.entry.Entry.{Entry}
use Rattle.domain.specs.Orders.{IsTo}
use Rattle.lane.specs.Lanes.{class_of}
use Rattle.guarded_routes.specs.Guarded.{IsFunctionOf, is_below}
use Rattle.guarded_routes.specs.Links.{IsWay}
use Rattle.guarded_routes.specs.Sound.{IsAsked, IsMeantFor}
use Rattle.fabric_core.specs.Soundness.{IsGuardedFabric}
use Rattle.fabric_core.specs.Trails.{In, InOrderOnWay, down, from_host, standing_at, up}
use Rattle.fabric_core.specs.World.{World}
use Rattle.fabric_core.proofs.invariant.Changing.{all_front}
use Rattle.fabric_core.proofs.order.Motions.{Finishes, IsLast, Leaps}
use Rattle.fabric_core.proofs.order.WayOrder.{IsNo, moved_stood, none_older, not_taken, stood, order_along, order_moved}
use Rattle.fabric_core.proofs.order.AtPlaces.{Leaving, MayPass, Moving, Standings}
use Rattle.fabric_core.proofs.order.Tracks.{host_distinct, host_enters, host_falls, host_first, host_ingress, host_received, host_sent}
use Rattle.fabric_core.proofs.order.Trails.{Adjoin}

-- wherever they stand both kinds are for this function, and the first is posted
pub record AreDown (function : ℕ) (f : Standings) (p q : Descriptor → Bool) : Type 0 where
  pub firsts : (r : Place) → All (λ (x : Descriptor). p x ≡ true → class_of x ≡ Posted) (f r)
  pub first_to : (r : Place) → All (λ (x : Descriptor). p x ≡ true → IsTo function x.head.parties) (f r)
  pub second_to : (r : Place) → All (λ (x : Descriptor). q x ≡ true → IsTo function x.head.parties) (f r)

-- whom a falling packet is meant for
pub meant_for : (platform : Platform) (domain function other : ℕ) (parties : Parties) (h : Header) → IsMeantFor platform domain other parties h → IsTo function parties → other ≡ function
meant_for platform domain function other parties header.Malformed meant to = absurd meant
meant_for platform domain function other parties (header.Memory requester address_type address) meant to = asked_for meant.0
  where
    asked_for : IsAsked platform domain other requester address_type address parties → other ≡ function
    asked_for (IsAsked.ByHost is) = subst (IsTo function) is to
    asked_for (IsAsked.Directly sender own is cleared direct) = absurd (subst (IsTo function) is to)
meant_for platform domain function other parties (header.OtherRequest requester) meant to = absurd meant
meant_for platform domain function other parties (header.Completion target relaxed_ordering) meant to = subst (IsTo function) meant.1 to

module _ (w : World) (g : IsGuardedFabric w) (domain function : ℕ) (links : List ℕ) (own : IsFunctionOf g.platform domain function) (way : IsWay g.platform function links) (p q : Descriptor → Bool) (are : AreDown function (standing_at w) p q) where
  abbrev places : List Place
  places = from_host domain links

  abbrev f : Standings
  f = standing_at w

  -- ---- on

  on_way_down : (a : Direction) → In (Ingress a) places → a.way ≡ Up → ⊥
  on_way_down a at e = let falls = host_ingress g.platform g.guarded domain function links own way a at in absurd (let both : ◌≡◌ Down Up = sym falls ∙ e in cc)

  leaps_along : (source target : Place) (y : Descriptor) → Leaps g.platform y source target → In source places → IsTo function y.head.parties → Adjoin target source places
  leaps_along _ _ y (Leaps.Enters a) at to = host_enters g.platform g.guarded domain function links own way a at
  leaps_along _ _ y (Leaps.Sent a) at to = host_sent g.platform g.guarded domain function links own way a at
  leaps_along _ _ y (Leaps.Received a) at to = host_received g.platform g.guarded domain function links own way a at
  leaps_along _ _ y (Leaps.Rises line above listed is none) at to = absurd (on_way_down (up (id_below line)) at refl)
  leaps_along _ _ y (Leaps.Falls lower above is r) at to =
      let same = meant_for g.platform y.domain function r.function y.head.parties y.head.header r.meant to in
      host_falls g.platform g.guarded domain function links own way lower above is (ap (is_below g.platform lower) (sym same) ∙ r.below) at
  leaps_along _ _ y (Leaps.Crosses lower direction relaxed) at to = absurd (on_way_down (up lower) at refl)
  leaps_along _ _ y (Leaps.Turns line sender peer requester address address_type listed held parties same cleared here direct) at to = absurd (on_way_down (up (id_below line)) at refl)
  leaps_along _ _ y (Leaps.Returns reply) at to = absurd (on_way_down _ at refl)

  none_passed : (source : Place) (y : Descriptor) (older newer : List Descriptor) → f source ≡ older ++ y ∷ newer → MayPass y older → All (IsNo p) older
  none_passed source y older newer was passed =
      none_older p q y older passed (all_front (λ (x : Descriptor). p x ≡ true → class_of x ≡ Posted) older (y ∷ newer) (subst (All (λ (x : Descriptor). p x ≡ true → class_of x ≡ Posted)) was (are.firsts source)))

  pub down_goes : (f' : Standings) (source target : Place) (y : Descriptor) → Leaps g.platform y source target → Moving f f' source target y → InOrderOnWay f places p q → InOrderOnWay f' places p q
  down_goes f' source target y leaps mv t = by (p y) (q y) refl refl
    where
      along : In source places → IsTo function y.head.parties → InOrderOnWay f' places p q
      along at to =
          order_along p q f f' places source target y mv (host_distinct g.platform domain function links way) (leaps_along source target y leaps at to)
          (λ is. none_passed source y mv.older mv.newer mv.moved.was mv.passed) t

      by : (first second : Bool) → p y ≡ first → q y ≡ second → InOrderOnWay f' places p q
      by true second is_p is_q =
          ⊎_elim (λ at. along at (moved_stood f f' source target y mv (λ (x : Descriptor). p x ≡ true → IsTo function x.head.parties) (are.first_to source) is_p))
          (λ none_here. absurd (false≢true (sym (moved_stood f f' source target y mv (IsNo p) none_here) ∙ is_p))) (t.first_on source)
      by false true is_p is_q =
          ⊎_elim (λ at. along at (moved_stood f f' source target y mv (λ (x : Descriptor). q x ≡ true → IsTo function x.head.parties) (are.second_to source) is_q))
          (λ none_here. absurd (false≢true (sym (moved_stood f f' source target y mv (IsNo q) none_here) ∙ is_q))) (t.second_on source)
      by false false is_p is_q = order_moved p q f f' places source target y mv is_p is_q t

  -- ---- out of flight

  module _ (f' : Standings) (direction : Direction) (y : Descriptor) (l : Leaving f f' (Ingress direction) y) (t : InOrderOnWay f places p q) (is_p : p y ≡ false) (is_q : q y ≡ true) where
    listed_there : In (Ingress direction) places
    listed_there = ⊎_elim (λ at. at) (λ none_here. absurd (false≢true (sym (stood f f' (Ingress direction) y l (IsNo q) none_here) ∙ is_q))) (t.second_on (Ingress direction))

    at_function : direction ≡ down function → ⊥
    at_function e =
        let first = host_first g.platform g.guarded domain function links own way in
        not_taken p q f places first.0 (Ingress direction) y l.older l.newer l.was (first.1 ∙ ap (λ (d : Direction). Ingress d ∷ first.0) (sym e)) (none_passed (Ingress direction) y l.older l.newer l.was l.passed) is_p is_q t.ahead

    is_to : IsTo function y.head.parties
    is_to = stood f f' (Ingress direction) y l (λ (x : Descriptor). q x ≡ true → IsTo function x.head.parties) (are.second_to (Ingress direction)) is_q

    upward : direction.way ≡ Up → ⊥
    upward e = on_way_down direction listed_there e

    pub down_delivers : IsLast y direction → ⊥
    down_delivers last = by direction last refl
      where
        by : (d : Direction) → IsLast y d → direction ≡ d → ⊥
        by _ IsLast.AtHost e = upward (ap (λ (d : Direction). d.way) e)
        by _ (IsLast.AtFunction h for) e = at_function (e ∙ ap down (subst (IsTo function) for.1 is_to))

    pub down_ends : (entry : Entry) (target : Place) → Finishes g.platform y direction entry target → ⊥
    down_ends entry target finishes = by direction entry target finishes refl
      where
        by : (d : Direction) (entry : Entry) (target : Place) → Finishes g.platform y d entry target → direction ≡ d → ⊥
        by _ _ _ (Finishes.Stopped line report listed parties course sound) e = upward (ap (λ (d : Direction). d.way) e)
        by _ _ _ (Finishes.CarriedByHost own) e = upward (ap (λ (d : Direction). d.way) e)
        by _ _ _ (Finishes.CarriedByFunction h (inl to)) e = at_function (e ∙ ap down (subst (IsTo function) to is_to))
        by _ _ _ (Finishes.CarriedByFunction h (inr r)) e = absurd (subst (IsTo function) r.parties is_to)
