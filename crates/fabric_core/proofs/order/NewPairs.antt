-- In a guarded fabric a new packet that is to keep its order behind a posted one stands in turn with it.
use Rattle.std.proofs.Common.{◌≡◌, ℕ, ◌≤◌, ◌==◌, Bool, true, false, List, [], ◌∷◌, ◌++◌, length, Option, Some, None, refl, sym, ap, ◌∙◌, subst, eq-eqb}
use Rattle.std.specs.Prelude.{IsSome, slice_get}
use Rattle.fab_types.specs.declared.place.Direction.{Direction}
use Rattle.fab_types.specs.declared.origin.Origin.{Origin}
use Rattle.fab_types.specs.declared.origin.Origin.TheVariants as origin
use Rattle.fab_types.specs.declared.place.Place.{Place}
use Rattle.fab_types.specs.declared.place.Place.TheVariants.{Ingress, Outbox}
use Rattle.frame_log.specs.Descriptor.{Descriptor}
use Rattle.domain.specs.Consumed.{consumes}
use Rattle.domain.specs.Domains.{DomainView}
use Rattle.domain.specs.Sent.{carrier, sent, source}
use Rattle.request_handling.specs.Emissions.{Emission}
use Rattle.domain_state.specs.State.{item_at}
use Rattle.domain.specs.declared.entry.Entry.{Entry}
use Rattle.domain.specs.declared.entry.Entry.TheVariants.{Carry, Deliver, Refuse}
use Rattle.domain.proofs.OneOutbox.{one_outbox}
use Rattle.domains.specs.Domains.{Made, made_at, place_of}
use Rattle.fabric_core.specs.declared.event.Event.{Event}
use Rattle.fabric_core.specs.Events.{effect}
use Rattle.fabric_core.specs.Invariant.{IsFabric}
use Rattle.fabric_core.specs.Orders.{AreOrdered, GoesBy, KeepsToWay, OrderOf}
use Rattle.fabric_core.specs.Places.{IsFlown, is_numbered}
use Rattle.fabric_core.specs.Soundness.{IsGuardedFabric}
use Rattle.fabric_core.specs.Trails.{standing_at}
use Rattle.fabric_core.specs.World.{World, is_guarded}
use Rattle.fabric_core.proofs.order.AloneSteps.{not_flying}
use Rattle.fabric_core.proofs.order.Carriers.{function_carries, host_carries}
use Rattle.fabric_core.proofs.order.MotionOf.{motion_of}
use Rattle.fabric_core.proofs.order.Motions.{Motion, Finishes, JoiningIf, Starts}
use Rattle.fabric_core.proofs.invariant.Flying.{within}
use Rattle.fabric_core.proofs.soundness.Guarded.{guarded_after}
use Rattle.fabric_core.proofs.order.KeptOrder.{is_domain}
use Rattle.fabric_core.proofs.order.NewPackets.{answer_behind, new_behind}
use Rattle.fabric_core.proofs.order.NewSent.{New, carried_parties, frame_of, m_new, new_by, not_same, starts_at}
use Rattle.fabric_core.proofs.order.OrderedSteps.{Next, fresh, next, still}
use Rattle.fabric_core.proofs.invariant.Settling.{is_home}
use Rattle.fabric_core.proofs.order.AtPlaces.{Leaving, Standings}

none_some : (o : Origin) → ◌≡◌ {A = Option Origin} None (Some o) → ⊥
none_some o e = cc

module _ (w w' : World) (fabric : IsFabric w) (guarded : is_guarded w ≡ true) (g' : IsGuardedFabric w') (place : ℕ) (d d' : DomainView) (at : slice_get w.agents.domains place ≡ Some d) (at' : slice_get w'.agents.domains place ≡ Some d') (n m : ℕ) (pair : AreOrdered d' n m)
    (long : length (sent d.share d.journal) ≤ m) (e : Emission) (flies : item_at d.state.flight n ≡ Some e) (later : IsSome (item_at d'.state.flight n)) (places : List Place) (goes : GoesBy (fabric.guarded guarded).platform d.share.domain pair.first places) (t : KeepsToWay w d places n) where
  abbrev Turn : Type 0
  Turn = OrderOf w' d places n m

  abbrev IsNew : Entry → Option ℕ → Made → Type 0
  IsNew entry o made = New d d' place m pair.second entry o made

  second_new : length d.state.flight ≤ m
  second_new = m_new w w' fabric guarded place d d' at at' m pair.second pair.second_at long

  unchanged : d' ≡ d → ⊥
  unchanged = not_same w w' fabric guarded place d d' at at' m pair.second pair.second_at long

  sent_by : (entry : Entry) (o : Option ℕ) (made : Made) → made_at w.agents.domains entry o ≡ Some made → Next d d' entry (o ≡ Some place) → IsNew entry o made
  sent_by = new_by w w' fabric guarded place d d' at at' m pair.second pair.second_at long

  -- the first was put where the second is
  first_from : (entry : Entry) (o : Option ℕ) (made : Made) → IsNew entry o made → source d.share d.state entry ≡ pair.first.source
  first_from entry o made x = x.from ∙ sym (one_outbox d'.share.ports d'.share.domain pair.first pair.second pair.keep)

  is_fresh : (entry : Entry) (o : Option ℕ) (made : Made) → made_at w.agents.domains entry o ≡ Some made → (z : Descriptor) → made.sent ≡ Some z → is_numbered d.share.domain n z ≡ false
  is_fresh entry o made is z sent = fresh w fabric.kept place d at n (within d.state.flight n e flies) entry o made is z sent

  -- ---- a begin

  begins : (entry : Entry) (o : Option ℕ) (from : Origin) (made : Made) → Starts w entry o from → made_at w.agents.domains entry o ≡ Some made → JoiningIf (standing_at w) (standing_at w') (Outbox from) made.sent → IsNew entry o made → Turn
  begins entry o from made starts is j x =
      new_behind w fabric guarded place d at w' pair.first from n m places (frame_of d m pair.second) (within d.state.flight n e flies) second_new goes (sym (first_from entry o made x) ∙ starts_at w w' fabric guarded place d d' at at' entry o from starts x.here)
      (subst (JoiningIf (standing_at w) (standing_at w') (Outbox from)) x.sent j) (is_fresh entry o made is (frame_of d m pair.second) x.sent) t

  -- ---- an end

  goes_source : (q : List Place) → GoesBy (fabric.guarded guarded).platform d.share.domain pair.first q → (o : Origin) × (pair.first.source ≡ Some o)
  goes_source _ (GoesBy.Up function links from straight own way) = (origin.Function function, from)
  goes_source _ (GoesBy.Across function peer line links from some own listed held lets path) = (origin.Function function, from)
  goes_source _ (GoesBy.Down function links from to own way) = (origin.Host d.share.domain, from)

  module _ (frame : Descriptor) (f : IsFlown w.agents.domains frame) (made : Made) (between : Standings) (direction : Direction) (l : Leaving (standing_at w) between (Ingress direction) frame) where
    not_first : (entry : Entry) → consumes n entry ≡ (frame.number == n) → d'.journal ≡ d.journal ++ entry ∷ [] → is_numbered d.share.domain n frame ≡ false
    not_first entry ends journal = by (is_numbered d.share.domain n frame) refl
      where
        by : (b : Bool) → is_numbered d.share.domain n frame ≡ b → is_numbered d.share.domain n frame ≡ false
        by false is = is
        by true is = absurd (not_flying w' g' place d' at' d.journal entry n journal (ends ∙ eq-eqb frame.number n (is_domain d.share.domain n frame is).1) later)

    answers : (from : Origin) → made_at w.agents.domains (Carry frame.number) (place_of w.agents.domains frame.domain) ≡ Some made → carrier d.share f.emission.bytes f.emission.parties ≡ Some from → JoiningIf between (standing_at w') (Outbox from) made.sent
        → IsNew (Carry frame.number) (place_of w.agents.domains frame.domain) made → Turn
    answers from is sender j x =
        answer_behind w fabric guarded place d at w' pair.first from n m places (frame_of d m pair.second) between direction frame second_new goes (sym (first_from (Carry frame.number) (place_of w.agents.domains frame.domain) made x) ∙ (carried_parties w w' fabric guarded place d d' at at' frame f x.here ∙ sender)) l
        (not_first (Carry frame.number) refl x.journal) (subst (JoiningIf between (standing_at w') (Outbox from)) x.sent j) (is_fresh (Carry frame.number) (place_of w.agents.domains frame.domain) made is (frame_of d m pair.second) x.sent) t

  ends : (frame : Descriptor) → IsFlown w.agents.domains frame → (made : Made) (between : Standings) (direction : Direction) (entry : Entry) (target : Place) → Finishes (fabric.guarded guarded).platform frame direction entry target
      → Leaving (standing_at w) between (Ingress direction) frame → made_at w.agents.domains entry (place_of w.agents.domains frame.domain) ≡ Some made → JoiningIf between (standing_at w') target made.sent → IsNew entry (place_of w.agents.domains frame.domain) made → Turn
  ends frame f made between _ _ _ (Finishes.Stopped line report listed parties course sound) l is j x = let o = goes_source places goes in absurd (none_some o.0 (first_from (Refuse frame.number) (place_of w.agents.domains frame.domain) made x ∙ o.1))
  ends frame f made between _ _ _ (Finishes.CarriedByHost own) l is j x =
      let home : frame.domain ≡ d.share.domain = is_home w.agents.domains frame.domain place d at x.here in
      answers frame f made between _ l (origin.Host frame.domain) is (host_carries w (fabric.guarded guarded) place d at frame f own ∙ ap (λ (k : ℕ). Some (origin.Host k)) (sym home)) j x
  ends frame f made between _ _ _ (Finishes.CarriedByFunction function request) l is j x = answers frame f made between _ l (origin.Function function) is (function_carries w (fabric.guarded guarded) place d at frame f function request) j x

  -- ---- any motion

  turn_of : Motion (fabric.guarded guarded).platform w w' → Turn
  turn_of (Motion.Stays same domains) = absurd (unchanged (still w fabric.kept place d at w' d' at' domains))
  turn_of (Motion.Goes source target frame leaps mv domains) = absurd (unchanged (still w fabric.kept place d at w' d' at' domains))
  turn_of (Motion.Begins entry o from made starts is j domains) = begins entry o from made starts is j (sent_by entry o made is (next w fabric.kept place d at w' d' at' entry o made is domains))
  turn_of (Motion.Ends direction entry target frame made between finishes f is l j domains) =
      ends frame f made between direction entry target finishes l is j (sent_by entry (place_of w.agents.domains frame.domain) made is (next w fabric.kept place d at w' d' at' entry (place_of w.agents.domains frame.domain) made is domains))
  turn_of (Motion.Delivers direction frame made last f is l domains) =
      let o = goes_source places goes in
      let x = sent_by (Deliver frame.number) (place_of w.agents.domains frame.domain) made is (next w fabric.kept place d at w' d' at' (Deliver frame.number) (place_of w.agents.domains frame.domain) made is domains) in
      absurd (none_some o.0 (first_from (Deliver frame.number) (place_of w.agents.domains frame.domain) made x ∙ o.1))

pub new_turn : (w w' : World) (event : Event) (fabric : IsFabric w) (guarded : is_guarded w ≡ true) → effect w event ≡ Some w' → (place : ℕ) (d d' : DomainView) → slice_get w.agents.domains place ≡ Some d → slice_get w'.agents.domains place ≡ Some d' → (n m : ℕ) (pair : AreOrdered d' n m)
    → length (sent d.share d.journal) ≤ m → IsSome (item_at d.state.flight n) → IsSome (item_at d'.state.flight n) → (places : List Place) → GoesBy (fabric.guarded guarded).platform d.share.domain pair.first places → KeepsToWay w d places n → OrderOf w' d places n m
new_turn w w' event fabric guarded moved place d d' at at' n m pair long some later places goes t = by (item_at d.state.flight n) refl some
  where
    by : (o : Option Emission) → item_at d.state.flight n ≡ o → IsSome o → OrderOf w' d places n m
    by None flies some = absurd cc
    by (Some e) flies some =
        let g = fabric.guarded guarded in
        turn_of w w' fabric guarded (guarded_after w w' event fabric.kept g moved) place d d' at at' n m pair long e flies later places goes t (motion_of w w' event fabric.kept g moved)
