-- In a guarded fabric a posted packet keeps to its way through every event while it is in flight.
use Rattle.std.proofs.Common.{◌≡◌, ℕ, ◌+◌, true, cond, List, [], ◌∷◌, ◌++◌, length, Option, Some, None, refl, sym, ap, ◌∙◌, subst, arith, eq-eqb}
use Rattle.std.specs.Prelude.{IsSome, nat_lt, option_map, slice_get}
use Rattle.std.proofs.lemmas.Bool.{false≢true}
use Rattle.std.proofs.lemmas.List.Sums.{sum_by-append}
use Rattle.std.proofs.lemmas.Option.{same_Some}
use Rattle.fab_types.specs.declared.place.Place.{Place}
use Rattle.platform.specs.Share.{Share}
use Rattle.domain.specs.Consumed.{consumes, times_consumed}
use Rattle.domain.specs.Domains.{DomainView}
use Rattle.domain.specs.Orders.{IsPosted}
use Rattle.domain.specs.Sent.{IsBySource, Sent, sent}
use Rattle.request_handling.specs.Heads.{head_of}
use Rattle.request_handling.specs.Emissions.{Emission}
use Rattle.domain_state.specs.State.{item_at}
use Rattle.domain.specs.declared.entry.Entry.{Entry}
use Rattle.domain.proofs.Consuming.{consumed_once}
use Rattle.domain.proofs.Sending.{are_sent, sender_of_sent}
use Rattle.domains.specs.Domains.{place_of}
use Rattle.fabric_core.specs.declared.event.Event.{Event}
use Rattle.fabric_core.specs.Events.{effect}
use Rattle.fabric_core.specs.Invariant.{IsFabric}
use Rattle.fabric_core.specs.Orders.{GoesBy, KeepsToWay}
use Rattle.fabric_core.specs.Places.{flown, is_numbered}
use Rattle.fabric_core.specs.Soundness.{IsGuardedFabric}
use Rattle.fabric_core.specs.Trails.{InOrderOnWay, never, standing_at}
use Rattle.fabric_core.specs.World.{World, is_guarded}
use Rattle.fabric_core.proofs.order.AfterMotions.{After, Keeps, after_motion}
use Rattle.fabric_core.proofs.order.MotionOf.{motion_of}
use Rattle.fabric_core.proofs.order.DownwardOrder.{down_goes}
use Rattle.fabric_core.proofs.invariant.Flying.{one_if, within}
use Rattle.fabric_core.proofs.soundness.Guarded.{guarded_after}
use Rattle.fabric_core.proofs.order.KeptOrder.{is_domain, posted_across, posted_down, posted_up}
use Rattle.fabric_core.proofs.order.AcrossOrder.{across_goes, let_peer}
use Rattle.fabric_core.proofs.places.OnePlace.{one_place}
use Rattle.fabric_core.proofs.order.OrderedSteps.{Next, at_most_one, flown_here, fresh, next, next_here, some_waits, still, well_kept}
use Rattle.fabric_core.proofs.order.UpwardOrder.{up_goes}

-- what an entry consumed is in flight no more
pub not_flying : (w : World) (g : IsGuardedFabric w) (place : ℕ) (d : DomainView) → slice_get w.agents.domains place ≡ Some d → (journal : List Entry) (entry : Entry) (n : ℕ) → d.journal ≡ journal ++ entry ∷ [] → consumes n entry ≡ true → IsSome (item_at d.state.flight n) → ⊥
not_flying w g place d at journal entry n grown is some =
    let once = consumed_once d.share d.journal d.state (well_kept w g place d at).replayed n in
    let counted : times_consumed n d.journal ≡ times_consumed n journal + times_consumed n (entry ∷ []) = ap (times_consumed n) grown ∙ sum_by-append (λ (x : Entry). cond (consumes n x) 1 0) journal (entry ∷ []) in
    let one : one_if (consumes n entry) ≡ one_if true = ap one_if is in
    let last : times_consumed n (entry ∷ []) ≡ one_if (consumes n entry) = omega arith in
    let waits = some_waits (item_at d.state.flight n) some in
    let most = at_most_one (nat_lt n (length d.state.flight)) in
    absurd (omega (arith, once, counted, one, last, waits, most))

module _ (w w' : World) (fabric : IsFabric w) (guarded : is_guarded w ≡ true) (place : ℕ) (d d' : DomainView) (at : slice_get w.agents.domains place ≡ Some d) (at' : slice_get w'.agents.domains place ≡ Some d') (g' : IsGuardedFabric w') (n : ℕ)
    (first : Sent) (listed : slice_get (sent d.share d.journal) n ≡ Some first) (posted : IsPosted first.emission) (e : Emission) (flies : item_at d.state.flight n ≡ Some e) where
  first_is : flown w.agents.domains d.share.domain n ≡ Some first.emission
  first_is =
      flown_here w fabric.kept place d at n ∙ (flies
      ∙ (sym ((are_sent d.share d.journal d.state (well_kept w (fabric.guarded guarded) place d at).replayed).each n e flies) ∙ ap (option_map (λ (s : Sent). s.emission)) listed))

  by_source : IsBySource first
  by_source = sender_of_sent d.share d.journal d.state (well_kept w (fabric.guarded guarded) place d at).replayed n first listed

  keeps : (places : List Place) → GoesBy (fabric.guarded guarded).platform d.share.domain first places → Keeps w w' (fabric.guarded guarded) places (is_numbered d.share.domain n) never
  keeps _ (GoesBy.Up function links source none own way) =
      let g = fabric.guarded guarded in
      let number = d.share.domain in
      let are = posted_up w g (one_place w fabric guarded).shown number n n first first first_is (λ y there. same_Some y first.emission (sym there ∙ first_is)) by_source by_source posted function source none in record {
        goes = λ f' source target y leaps mv t. up_goes w g number function links own way (is_numbered number n) never are f' source target y leaps mv t;
        ends = λ f' direction y l t is_p is_q entry target finishes. false≢true is_q;
        delivers = λ f' direction y l t is_p is_q last. false≢true is_q;
        fresh = λ entry o made is z sent. (fresh w fabric.kept place d at n (within d.state.flight n e flies) entry o made is z sent, refl);
      }
  keeps _ (GoesBy.Across function peer line links source some own listed_line held lets path) =
      let g = fabric.guarded guarded in
      let number = d.share.domain in
      let beyond = let_peer g.platform g.guarded line listed_line peer (head_of first.emission).header lets in
      let are = posted_across w g (one_place w fabric guarded).shown number n n first first first_is (λ y there. same_Some y first.emission (sym there ∙ first_is)) by_source by_source posted function peer source some in record {
        goes = λ f' source target y leaps mv t. across_goes w g number function peer line links own listed_line held path beyond.0 beyond.1 (is_numbered number n) never are f' source target y leaps mv t;
        ends = λ f' direction y l t is_p is_q entry target finishes. false≢true is_q;
        delivers = λ f' direction y l t is_p is_q last. false≢true is_q;
        fresh = λ entry o made is z sent. (fresh w fabric.kept place d at n (within d.state.flight n e flies) entry o made is z sent, refl);
      }
  keeps _ (GoesBy.Down function links source to own way) =
      let g = fabric.guarded guarded in
      let number = d.share.domain in
      let are = posted_down w g (one_place w fabric guarded).shown number n n first first first_is (λ y there. same_Some y first.emission (sym there ∙ first_is)) by_source by_source posted function to in record {
        goes = λ f' source target y leaps mv t. down_goes w g number function links own way (is_numbered number n) never are f' source target y leaps mv t;
        ends = λ f' direction y l t is_p is_q entry target finishes. false≢true is_q;
        delivers = λ f' direction y l t is_p is_q last. false≢true is_q;
        fresh = λ entry o made is z sent. (fresh w fabric.kept place d at n (within d.state.flight n e flies) entry o made is z sent, refl);
      }

  named : (places : List Place) (share : d'.share ≡ d.share) → KeepsToWay w' d places n → KeepsToWay w' d' places n
  named places share t = subst (λ (k : ℕ). InOrderOnWay (standing_at w') places (is_numbered k n) never) (ap (λ (s : Share). s.domain) (sym share)) t

  after_next : (places : List Place) (entry : Entry) (home : Type 0) → KeepsToWay w' d places n → Next d d' entry home → KeepsToWay w' d' places n
  after_next places entry home t (Next.Same is) = named places (ap (λ (x : DomainView). x.share) is) t
  after_next places entry home t (Next.More x) = named places x.share t

  stays : (places : List Place) → After w w' places (is_numbered d.share.domain n) never → IsSome (item_at d'.state.flight n) → KeepsToWay w' d' places n
  stays places (After.Still t domains) some = named places (ap (λ (x : DomainView). x.share) (still w fabric.kept place d at w' d' at' domains)) t
  stays places (After.Begun t b) some = after_next places b.entry (b.place ≡ Some place) t (next w fabric.kept place d at w' d' at' b.entry b.place b.m b.is b.domains)
  stays places (After.Other t frame no_p no_q k) some =
      after_next places k.entry (place_of w.agents.domains frame.domain ≡ Some place) t (next w fabric.kept place d at w' d' at' k.entry (place_of w.agents.domains frame.domain) k.m k.is k.domains)
  stays places (After.Gone frame is_p k) some =
      let at_home = is_domain d.share.domain n frame is_p in
      let x = next_here w fabric.kept place d at w' d' at' k.entry (place_of w.agents.domains frame.domain) k.m k.is k.domains (ap (place_of w.agents.domains) at_home.0 ∙ fabric.kept.settled.numbered place d at) in
      absurd (not_flying w' g' place d' at' d.journal k.entry n x.journal (k.ends n ∙ eq-eqb frame.number n at_home.1) some)

pub way_kept : (w w' : World) (event : Event) (fabric : IsFabric w) (guarded : is_guarded w ≡ true) → effect w event ≡ Some w' → (place : ℕ) (d d' : DomainView) → slice_get w.agents.domains place ≡ Some d → slice_get w'.agents.domains place ≡ Some d' → (n : ℕ) (first : Sent)
    → slice_get (sent d.share d.journal) n ≡ Some first → IsPosted first.emission → IsSome (item_at d.state.flight n) → (places : List Place) → GoesBy (fabric.guarded guarded).platform d.share.domain first places → KeepsToWay w d places n
    → IsSome (item_at d'.state.flight n) → KeepsToWay w' d' places n
way_kept w w' event fabric guarded moved place d d' at at' n first listed posted some places goes turn then = by (item_at d.state.flight n) refl some
  where
    by : (o : Option Emission) → item_at d.state.flight n ≡ o → IsSome o → KeepsToWay w' d' places n
    by None flies some = absurd cc
    by (Some e) flies some =
        let g = fabric.guarded guarded in
        let g' = guarded_after w w' event fabric.kept g moved in
        stays w w' fabric guarded place d d' at at' g' n first listed posted e flies places
        (after_motion w w' g places (is_numbered d.share.domain n) never (keeps w w' fabric guarded place d d' at at' g' n first listed posted e flies places goes) (motion_of w w' event fabric.kept g moved) turn) then
