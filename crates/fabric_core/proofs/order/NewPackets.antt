-- In a guarded fabric a packet that a domain makes stands behind each posted one whose way begins at the same outbox.
use Rattle.std.proofs.Common.{◌≡◌, ℕ, ◌<◌, ◌≤◌, true, false, List, ◌++◌, length, Some, refl, sym, ap, ◌∙◌, subst, arith}
use Rattle.std.specs.Prelude.{All, slice_get}
use Rattle.std.proofs.lemmas.List.Elements.{All-weaker}
use Rattle.std.proofs.lemmas.Option.{same_Some}
use Rattle.fab_types.specs.declared.place.Direction.{Direction}
use Rattle.fab_types.specs.declared.origin.Origin.{Origin}
use Rattle.fab_types.specs.declared.origin.Origin.TheVariants as origin
use Rattle.fab_types.specs.declared.place.Place.{Place}
use Rattle.fab_types.specs.declared.place.Place.TheVariants.{Ingress, Outbox}
use Rattle.frame_log.specs.Descriptor.{Descriptor}
use Rattle.domain.specs.Domains.{DomainView}
use Rattle.domain.specs.Sent.{Sent, source}
use Rattle.domain_state.specs.State.{item_at}
use Rattle.fabric_core.specs.Invariant.{IsFabric}
use Rattle.fabric_core.specs.Orders.{GoesBy, KeepsToWay, OrderOf}
use Rattle.fabric_core.specs.Places.{IsFlown, flown, is_numbered}
use Rattle.fabric_core.specs.Trails.{InOrderOnWay, down, never, places_down, places_on, places_up, standing_at}
use Rattle.fabric_core.specs.World.{World, is_guarded}
use Rattle.fabric_core.proofs.order.Behind.{joins_behind, starts_there}
use Rattle.fabric_core.proofs.invariant.Flying.{within}
use Rattle.fabric_core.proofs.order.WayOrder.{IsNo, all_left, none_of, order_left}
use Rattle.fabric_core.proofs.order.KeptOrder.{all_standing, is_domain}
use Rattle.fabric_core.proofs.places.OnePlace.{one_place}
use Rattle.fabric_core.proofs.order.OrderedSteps.{flown_here}
use Rattle.fabric_core.proofs.order.AtPlaces.{Joining, Leaving, Standings}
use Rattle.fabric_core.proofs.order.Tracks.{not_across, not_down, not_up}

module _ (w : World) (fabric : IsFabric w) (guarded : is_guarded w ≡ true) (place : ℕ) (d : DomainView) (at : slice_get w.agents.domains place ≡ Some d) where
  -- no packet has the number that is next
  pub none_next : (m : ℕ) → length d.state.flight ≤ m → (r : Place) → All (IsNo (is_numbered d.share.domain m)) (standing_at w r)
  none_next m long r =
      All-weaker (IsFlown w.agents.domains) (IsNo (is_numbered d.share.domain m))
      (λ x f. none_of (is_numbered d.share.domain m) never (is_numbered d.share.domain m x) (λ is.
      let at_home = is_domain d.share.domain m x is in
      let flying : item_at d.state.flight m ≡ Some f.emission =
      sym (flown_here w fabric.kept place d at m) ∙ (sym (ap (λ (k : ℕ). flown w.agents.domains k m) at_home.0) ∙ (sym (ap (λ (k : ℕ). flown w.agents.domains x.domain k) at_home.1) ∙ f.in_flight)) in
      let less = within d.state.flight m f.emission flying in
      absurd (omega (arith, less, long))))
      (standing_at w r) (all_standing (IsFlown w.agents.domains) w (one_place w fabric guarded).shown r)

  -- what joins the outbox where the way of a packet begins stands behind that
  behind : (f' : Standings) (first : Sent) (o : Origin) (n m : ℕ) (places : List Place) (z : Descriptor) → GoesBy (fabric.guarded guarded).platform d.share.domain first places → first.source ≡ Some o
      → (f : Standings) → ((r : Place) → All (IsNo (is_numbered d.share.domain m)) (f r)) → Joining f f' (Outbox o) z → is_numbered d.share.domain n z ≡ false
      → InOrderOnWay f places (is_numbered d.share.domain n) never → InOrderOnWay f' places (is_numbered d.share.domain n) (is_numbered d.share.domain m)
  behind f' first o n m _ z (GoesBy.Up function links from straight own way) source f none j is_no t =
      let same : o ≡ origin.Function function = same_Some o (origin.Function function) (sym source ∙ from) in
      joins_behind (is_numbered d.share.domain n) (is_numbered d.share.domain m) f f' (Outbox (origin.Function function)) z (subst (λ (x : Origin). Joining f f' (Outbox x) z) same j) is_no none (places_up links) (not_up (origin.Function function) links) t
  behind f' first o n m _ z (GoesBy.Across function peer line links from some own listed held lets path) source f none j is_no t =
      let same : o ≡ origin.Function function = same_Some o (origin.Function function) (sym source ∙ from) in
      joins_behind (is_numbered d.share.domain n) (is_numbered d.share.domain m) f f' (Outbox (origin.Function function)) z (subst (λ (x : Origin). Joining f f' (Outbox x) z) same j) is_no none (places_on (down peer) ++ places_up links) (not_across function peer links) t
  behind f' first o n m _ z (GoesBy.Down function links from to own way) source f none j is_no t =
      let same : o ≡ origin.Host d.share.domain = same_Some o (origin.Host d.share.domain) (sym source ∙ from) in
      joins_behind (is_numbered d.share.domain n) (is_numbered d.share.domain m) f f' (Outbox (origin.Host d.share.domain)) z (subst (λ (x : Origin). Joining f f' (Outbox x) z) same j) is_no none (places_down links) (not_down (origin.Host d.share.domain) links) t

  -- a packet of a new number that joins an outbox, stands behind each posted one whose way begins there
  pub new_behind : (w' : World) (first : Sent) (o : Origin) (n m : ℕ) (places : List Place) (z : Descriptor) → n < length d.state.flight → length d.state.flight ≤ m → GoesBy (fabric.guarded guarded).platform d.share.domain first places → first.source ≡ Some o
      → Joining (standing_at w) (standing_at w') (Outbox o) z → is_numbered d.share.domain n z ≡ false → KeepsToWay w d places n → OrderOf w' d places n m
  new_behind w' first o n m places z n_made m_new goes source j is_no t = behind (standing_at w') first o n m places z goes source (standing_at w) (none_next m m_new) j is_no t

  -- the same where another packet left its place for it
  pub answer_behind : (w' : World) (first : Sent) (o : Origin) (n m : ℕ) (places : List Place) (z : Descriptor) (between : Standings) (direction : Direction) (frame : Descriptor) → length d.state.flight ≤ m → GoesBy (fabric.guarded guarded).platform d.share.domain first places → first.source ≡ Some o
      → Leaving (standing_at w) between (Ingress direction) frame → is_numbered d.share.domain n frame ≡ false → Joining between (standing_at w') (Outbox o) z → is_numbered d.share.domain n z ≡ false → KeepsToWay w d places n → OrderOf w' d places n m
  answer_behind w' first o n m places z between direction frame m_new goes source l not_frame j is_no t =
      behind (standing_at w') first o n m places z goes source between (λ r. all_left (standing_at w) between (Ingress direction) frame l (IsNo (is_numbered d.share.domain m)) r (none_next m m_new r)) j is_no
      (order_left (is_numbered d.share.domain n) never (standing_at w) between places (Ingress direction) frame l not_frame refl t)

  -- a packet of a new number that joins an outbox stands on the way that begins there
  pub starts : (f' : Standings) (packet : Sent) (o : Origin) (n : ℕ) (places : List Place) (z : Descriptor) → GoesBy (fabric.guarded guarded).platform d.share.domain packet places → packet.source ≡ Some o
      → (f : Standings) → ((r : Place) → All (IsNo (is_numbered d.share.domain n)) (f r)) → Joining f f' (Outbox o) z → is_numbered d.share.domain n z ≡ true → InOrderOnWay f' places (is_numbered d.share.domain n) never
  starts f' packet o n _ z (GoesBy.Up function links from straight own way) source f none j is =
      let same : o ≡ origin.Function function = same_Some o (origin.Function function) (sym source ∙ from) in
      starts_there (is_numbered d.share.domain n) f f' (Outbox (origin.Function function)) z (subst (λ (x : Origin). Joining f f' (Outbox x) z) same j) is none (places_up links) (not_up (origin.Function function) links)
  starts f' packet o n _ z (GoesBy.Across function peer line links from some own listed held lets path) source f none j is =
      let same : o ≡ origin.Function function = same_Some o (origin.Function function) (sym source ∙ from) in
      starts_there (is_numbered d.share.domain n) f f' (Outbox (origin.Function function)) z (subst (λ (x : Origin). Joining f f' (Outbox x) z) same j) is none (places_on (down peer) ++ places_up links) (not_across function peer links)
  starts f' packet o n _ z (GoesBy.Down function links from to own way) source f none j is =
      let same : o ≡ origin.Host d.share.domain = same_Some o (origin.Host d.share.domain) (sym source ∙ from) in
      starts_there (is_numbered d.share.domain n) f f' (Outbox (origin.Host d.share.domain)) z (subst (λ (x : Origin). Joining f f' (Outbox x) z) same j) is none (places_down links) (not_down (origin.Host d.share.domain) links)
