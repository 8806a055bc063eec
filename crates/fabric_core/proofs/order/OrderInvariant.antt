-- In a guarded fabric every event keeps what the order law rests on: each posted packet in flight stands on its way, and a
-- packet that keeps its order behind it stands in turn with it.
use Rattle.std.proofs.Common.{◌≡◌, ℕ, ◌<◌, ◌≤◌, Bool, true, false, List, length, Option, Some, None, refl, sym, subst, arith, ltb-true, ltb-false}
use Rattle.std.specs.Prelude.{IsSome, nat_lt, slice_get}
use Rattle.std.proofs.lemmas.Option.{slice_get_within}
use Rattle.fab_types.specs.declared.place.Place.{Place}
use Rattle.platform.specs.declared.parts.DownstreamPort.{DownstreamPort}
use Rattle.platform.specs.Share.{Share}
use Rattle.domain.specs.Consumed.{is_in_order}
use Rattle.domain.specs.Domains.{DomainView}
use Rattle.domain.specs.Machine.{replay}
use Rattle.domain.specs.Orders.{DownFromHost, IsPosted, KeepOrder, UpFromFunction}
use Rattle.domain.specs.Sent.{Sent, sent}
use Rattle.request_handling.specs.Emissions.{Emission}
use Rattle.domain_state.specs.State.{item_at}
use Rattle.domain.proofs.OneOutbox.{first_posted}
use Rattle.domain.proofs.Sending.{are_sent}
use Rattle.fabric_core.specs.declared.event.Event.{Event}
use Rattle.fabric_core.specs.Events.{effect}
use Rattle.fabric_core.specs.Invariant.{IsFabric}
use Rattle.fabric_core.specs.Orders.{KeepWayOrder, AreOrdered, GoesBy, HasWay, KeepsWayOrder, KeepsToWay, StandsOnWay, StayOrdered, OrderOf}
use Rattle.fabric_core.specs.Places.{is_numbered}
use Rattle.fabric_core.specs.Soundness.{IsGuardedFabric}
use Rattle.fabric_core.specs.Trails.{InOrderOnWay, never, standing_at}
use Rattle.fabric_core.specs.World.{World, is_guarded}
use Rattle.fabric_core.proofs.order.AloneSteps.{way_kept}
use Rattle.fabric_core.proofs.order.MotionOf.{motion_of}
use Rattle.fabric_core.proofs.order.Entered.{Stepped, before, flying_before, gone_consumed, listed_before, one_new, order_after, order_new, same_share}
use Rattle.fabric_core.proofs.order.NewPairs.{new_turn}
use Rattle.fabric_core.proofs.order.NewWays.{new_way}
use Rattle.fabric_core.proofs.order.OneWay.{one_places}
use Rattle.fabric_core.proofs.order.OrderedSteps.{ordered_step, well_kept}
use Rattle.fabric_core.proofs.soundness.Routes.{routes_stay}
use Rattle.fabric_core.proofs.order.SamePlatforms.{AreSame, goes_same, platforms_same, same_back}

-- the first of two packets that keep their order has a way
first_way : (ports : List DownstreamPort) (domain : ℕ) (first second : Sent) → KeepOrder ports domain first second → HasWay domain first
first_way ports domain first second (UpFromFunction pair) = HasWay.FromFunction pair.function pair.first_source
first_way ports domain first second (DownFromHost pair) = HasWay.ToFunction pair.function pair.first_source pair.first_to

module _ (w w' : World) (event : Event) (fabric : IsFabric w) (guarded : is_guarded w ≡ true) (moved : effect w event ≡ Some w') (g' : IsGuardedFabric w') (place : ℕ) (d d' : DomainView) (at : slice_get w.agents.domains place ≡ Some d) (at' : slice_get w'.agents.domains place ≡ Some d')
    (stepped : Stepped d d') where
  g : IsGuardedFabric w
  g = fabric.guarded guarded

  abbrev turns : KeepsWayOrder (fabric.guarded guarded).platform w d
  turns = fabric.ordered guarded place d at

  old : replay d.share d.journal ≡ Some d.state
  old = (well_kept w (fabric.guarded guarded) place d at).replayed

  new : replay d'.share d'.journal ≡ Some d'.state
  new = (well_kept w' g' place d' at').replayed

  share : d'.share ≡ d.share
  share = same_share d d' stepped

  many : length (sent d.share d.journal) ≡ length d.state.flight
  many = (are_sent d.share d.journal d.state old).many

  platforms : AreSame (fabric.guarded guarded).platform g'.platform
  platforms = platforms_same w w' (fabric.guarded guarded) g' (routes_stay w w' event moved) place d d' at at' share

  -- the domain has its number and its ports
  turn_now : (places : List Place) (n m : ℕ) → OrderOf w' d places n m → OrderOf w' d' places n m
  turn_now places n m t = subst (λ (s : Share). InOrderOnWay (standing_at w') places (is_numbered s.domain n) (is_numbered s.domain m)) (sym share) t

  goes_then : (packet : Sent) (places : List Place) → GoesBy g'.platform d'.share.domain packet places → GoesBy (fabric.guarded guarded).platform d.share.domain packet places
  goes_then packet places goes =
      let p = (fabric.guarded guarded).platform in
      goes_same g'.platform p (same_back p g'.platform platforms) d.share.domain packet places (subst (λ (s : Share). GoesBy g'.platform s.domain packet places) share goes)

  stands_now : (n : ℕ) (packet : Sent) (places : List Place) → GoesBy (fabric.guarded guarded).platform d.share.domain packet places → KeepsToWay w' d' places n → StandsOnWay g'.platform w' d' n packet
  stands_now n packet places goes keeps = record {
    places = places;
    goes = subst (λ (s : Share). GoesBy g'.platform s.domain packet places) (sym share) (goes_same (fabric.guarded guarded).platform g'.platform platforms d.share.domain packet places goes);
    keeps = keeps;
  }

  way_then : (packet : Sent) → HasWay d'.share.domain packet → HasWay d.share.domain packet
  way_then packet has = subst (λ (s : Share). HasWay s.domain packet) share has

  flies_then : (n : ℕ) → n < length (sent d.share d.journal) → IsSome (item_at d'.state.flight n) → IsSome (item_at d.state.flight n)
  flies_then n less some = let same = many in flying_before d d' old new stepped n (omega (arith, less, same)) some

  -- ---- one packet

  module _ (n : ℕ) (packet : Sent) (listed : slice_get (sent d'.share d'.journal) n ≡ Some packet) (posted : IsPosted packet.emission) (has : HasWay d'.share.domain packet) (flies : IsSome (item_at d'.state.flight n)) where
    -- that was made before
    stood : n < length (sent d.share d.journal) → StandsOnWay (fabric.guarded guarded).platform w d n packet
    stood less = turns.ways n packet (listed_before d d' old stepped n packet less listed) posted (way_then packet has) (flies_then n less flies)

    on_way : (b : Bool) → nat_lt n (length (sent d.share d.journal)) ≡ b → StandsOnWay g'.platform w' d' n packet
    on_way true e =
        let less = ltb-true n (length (sent d.share d.journal)) e in
        let s = stood less in
        stands_now n packet s.places s.goes
        (way_kept w w' event fabric guarded moved place d d' at at' n packet (listed_before d d' old stepped n packet less listed) posted (flies_then n less flies) s.places s.goes s.keeps flies)
    on_way false e =
        let s = new_way w w' fabric guarded g' platforms place d d' at at' n packet listed (ltb-false n (length (sent d.share d.journal)) e) (way_then packet has) (motion_of w w' event fabric.kept (fabric.guarded guarded) moved) in
        stands_now n packet s.places s.goes (subst (λ (x : Share). InOrderOnWay (standing_at w') s.places (is_numbered x.domain n) never) (sym share) s.keeps)

    ways : StandsOnWay g'.platform w' d' n packet
    ways = on_way (nat_lt n (length (sent d.share d.journal))) refl

  -- ---- two packets

  module _ (n m : ℕ) (pair : AreOrdered d' n m) where
    posted : IsPosted pair.first.emission
    posted = first_posted d'.share.ports d'.share.domain pair.first pair.second pair.keep

    has : HasWay d'.share.domain pair.first
    has = first_way d'.share.ports d'.share.domain pair.first pair.second pair.keep

    first_before : m < length (sent d.share d.journal) → n < length (sent d.share d.journal)
    first_before less = let order = pair.less in omega (arith, less, order)

    -- both were made before
    pair_then : m < length (sent d.share d.journal) → AreOrdered d n m
    pair_then less = record {
      less = pair.less;
      first = pair.first;
      second = pair.second;
      first_at = listed_before d d' old stepped n pair.first (first_before less) pair.first_at;
      second_at = listed_before d d' old stepped m pair.second less pair.second_at;
      keep = subst (λ (s : Share). KeepOrder s.ports s.domain pair.first pair.second) share pair.keep;
    }

    -- or the second is new, and the first isn't
    first_older : length (sent d.share d.journal) ≤ m → n < length (sent d.share d.journal)
    first_older long =
        let order = pair.less in
        let less = slice_get_within (sent d'.share d'.journal) m pair.second pair.second_at in
        let one = one_new d d' old stepped in
        omega (arith, long, order, less, one)

    stay : (less : m < length (sent d.share d.journal)) → IsSome (item_at d.state.flight n) → (places : List Place) → GoesBy (fabric.guarded guarded).platform d.share.domain pair.first places → StayOrdered w' d' places n m
    unfolding pair_then
    stay less some places goes =
        let p = pair_then less in
        ordered_step w w' event fabric guarded moved place d d' at at' n m p some places goes (turns.turns n m p some places goes) (turns.order n m p)

    turned : (b : Bool) → nat_lt m (length (sent d.share d.journal)) ≡ b → IsSome (item_at d'.state.flight n) → (places : List Place) → GoesBy g'.platform d'.share.domain pair.first places → OrderOf w' d' places n m
    turned true e some places goes =
        let less = ltb-true m (length (sent d.share d.journal)) e in
        (stay less (flies_then n (first_before less) some) places (goes_then pair.first places goes)).turn some
    turned false e some places goes =
        let long = ltb-false m (length (sent d.share d.journal)) e in
        let before = goes_then pair.first places goes in
        let s = stood n pair.first pair.first_at posted has some (first_older long) in
        let here = one_places (fabric.guarded guarded).platform (fabric.guarded guarded).guarded d.share.domain pair.first s.places places s.goes before in
        turn_now places n m
        (new_turn w w' event fabric guarded moved place d d' at at' n m pair long (flies_then n (first_older long) some) some places before (subst (λ (q : List Place). KeepsToWay w d q n) here s.keeps))

    kept_order : m < length (sent d.share d.journal) → (o : Option Emission) → item_at d.state.flight n ≡ o → is_in_order n m d'.journal ≡ true
    kept_order less None flies =
        let same = many in
        let order = first_before less in
        order_after d d' stepped n m (gone_consumed d old n (omega (arith, same, order)) flies) (turns.order n m (pair_then less))
    kept_order less (Some e) flies =
        let some = subst IsSome (sym flies) refl in
        let s = turns.ways n pair.first (listed_before d d' old stepped n pair.first (first_before less) pair.first_at) posted (way_then pair.first has) some in
        (stay less some s.places s.goes).order

    ordered : (b : Bool) → nat_lt m (length (sent d.share d.journal)) ≡ b → is_in_order n m d'.journal ≡ true
    ordered true e = kept_order (ltb-true m (length (sent d.share d.journal)) e) (item_at d.state.flight n) refl
    ordered false e = let long = ltb-false m (length (sent d.share d.journal)) e in let same = many in order_new d d' old stepped n m (omega (arith, long, same))

  pub in_turn : KeepsWayOrder g'.platform w' d'
  in_turn = record {
    ways = ways;
    turns = λ n m pair some places goes. turned n m pair (nat_lt m (length (sent d.share d.journal))) refl some places goes;
    order = λ n m pair. ordered n m pair (nat_lt m (length (sent d.share d.journal))) refl;
  }

pub way_order_after : (w w' : World) (event : Event) (fabric : IsFabric w) → is_guarded w ≡ true → effect w event ≡ Some w' → (g' : IsGuardedFabric w') → KeepWayOrder g'.platform w'
way_order_after w w' event fabric guarded moved g' place d' at' =
    let g = fabric.guarded guarded in
    let b = before g.platform w w' (motion_of w w' event fabric.kept g moved) place d' at' in
    in_turn w w' event fabric guarded moved g' place b.d d' b.at at' b.stepped
