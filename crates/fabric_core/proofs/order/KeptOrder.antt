-- In a guarded fabric every event leaves two packets in turn that keep their order, and consumes the second only after the
-- first.
use Rattle.std.proofs.Common.{◌≡◌, inl, inr, ℕ, zero, suc, ◌==◌, ◌&&◌, Bool, true, false, List, [], ◌∷◌, ◌++◌, get_or, Option, Some, None, refl, sym, ap, ◌∙◌, subst, ⊎_elim, eqb-true}
use Rattle.std.specs.Prelude.{All, option_map, slice_get}
use Rattle.std.specs.List.{flat_map}
use Rattle.std.proofs.lemmas.List.Elements.{All-nil, All-weaker}
use Rattle.std.proofs.lemmas.Option.{same_Some}
use Rattle.std.proofs.lemmas.Bool.{false≢true}
use Rattle.fab_types.specs.declared.head.Head.{Head}
use Rattle.fab_types.specs.declared.head.Header.{Header}
use Rattle.fab_types.specs.declared.head.Header.TheVariants as header
use Rattle.fab_types.specs.declared.head.Parties.{Parties}
use Rattle.fab_types.specs.declared.head.Parties.TheVariants.{Upward}
use Rattle.fab_types.specs.declared.origin.Origin.TheVariants as origin
use Rattle.fab_types.specs.declared.place.Place.{Place}
use Rattle.fab_types.specs.declared.place.Place.TheVariants.{Outbox, Egress, Wire, Ingress}
use Rattle.frame_log.specs.Descriptor.{Descriptor}
use Rattle.platform.specs.declared.parts.DownstreamPort.{DownstreamPort}
use Rattle.platform.specs.Egress.{direct_to}
use Rattle.platform.specs.Tree.{id_below}
use Rattle.bridge.specs.Bridges.{of_platform}
use Rattle.port.specs.Configs.{downstream_config}
use Rattle.port.specs.Courses.{course_of}
use Rattle.lane.specs.Lanes.{class_of}
use Rattle.port.specs.declared.course.Forwarding.TheVariants.{Stop}
use Rattle.fab_types.specs.declared.class.Class.TheVariants.{Posted}
use Rattle.fab_types.specs.declared.violation.Violation.{Violation}
use Rattle.guarded_routes.proofs.Trees.{IsPort}
use Rattle.domain.specs.Domains.{DomainView}
use Rattle.request_handling.specs.Heads.{head_of}
use Rattle.domain.specs.Orders.{FromFunction, FromHost, IsCompletion, IsPassed, IsTo, IsUnrelaxed, IsPosted, direct_from}
use Rattle.domain.specs.Sent.{IsBySource, Sent}
use Rattle.request_handling.specs.Emissions.{Emission}
use Rattle.request_handling.specs.Fates.{direct_in, fate, goes_to}
use Rattle.request_handling.specs.declared.fate.Fate.TheVariants.{ToHost}
use Rattle.domains.specs.Agents.{Outbox as Box, outbox_place, waiting_at, waiting_in as waiting_found}
use Rattle.topology.specs.Links.{sender_of}
use Rattle.topology.specs.declared.nodes.LinkEnd.{LinkEnd}
use Rattle.interconnect.specs.Moves.{channel_at, no_channel}
use Rattle.guarded_routes.specs.Guarded.{IsFunctionOf}
use Rattle.guarded_routes.specs.Sound.{IsCleared, is_reply}
use Rattle.fabric_core.specs.Places.{IsFlown, flown, frames_from, frames_of, frames_on, is_numbered, strays_of, waiting_in}
use Rattle.fabric_core.specs.Soundness.{IsGuardedFabric}
use Rattle.fabric_core.specs.Trails.{never, egress_of, ingress_of, standing_at, wire_of}
use Rattle.fabric_core.specs.World.{World}
use Rattle.fabric_core.proofs.invariant.Changing.{all_back, all_front}
use Rattle.fabric_core.proofs.order.DownwardOrder.{AreDown}
use Rattle.fabric_core.proofs.order.KeptHeads.{cleared_goes, direct_head, not_stopped, posted_request}
use Rattle.fabric_core.proofs.order.AcrossOrder.{AreAcross, IsDirect, NeverStops}
use Rattle.fabric_core.proofs.order.UpwardOrder.{AreUp, IsFirst, IsStraight}

-- ---- what all packets are, those at a place are

module _ (P : Descriptor → Type 0) where
  one_of : {X : Type 0} (f : X → List Descriptor) (xs : List X) (i : ℕ) (d : X) → f d ≡ [] → All P (flat_map f xs) → All P (f (get_or xs i d))
  one_of f [] i d none all = subst (All P) (sym none) (All-nil P)
  one_of f (x ∷ xs) zero d none all = all_front P (f x) (flat_map f xs) all
  one_of f (x ∷ xs) (suc i) d none all = one_of f xs i d none (all_back P (f x) (flat_map f xs) all)

  found_of : (boxes : List Box) (i : ℕ) → All P (flat_map waiting_in boxes) → All P (waiting_found (slice_get boxes i))
  found_of [] i all = All-nil P
  found_of (x ∷ xs) zero all = all_front P x.waiting (flat_map waiting_in xs) all
  found_of (x ∷ xs) (suc i) all = found_of xs i (all_back P x.waiting (flat_map waiting_in xs) all)

  box_of : (boxes : List Box) (o : Option ℕ) → All P (flat_map waiting_in boxes) → All P (waiting_at boxes o)
  box_of boxes None all = All-nil P
  box_of boxes (Some i) all = found_of boxes i all

  module _ (w : World) (all : All P (frames_of w)) where
    all_on : (end : LinkEnd) → All P (frames_on (channel_at w.channels end))
    all_on end =
        one_of frames_on (get_or w.channels end.node []) end.output no_channel refl
        (one_of frames_from w.channels end.node [] refl (all_front P (flat_map frames_from w.channels) (flat_map waiting_in w.agents.outboxes ++ (flat_map strays_of w.ports ++ w.strays)) all))

    at_egress : (o : Option LinkEnd) → All P (egress_of (option_map (channel_at w.channels) o))
    at_egress None = All-nil P
    at_egress (Some e) = let c = channel_at w.channels e in all_front P c.egress (c.wire ++ c.ingress) (all_on e)

    at_wire : (o : Option LinkEnd) → All P (wire_of (option_map (channel_at w.channels) o))
    at_wire None = All-nil P
    at_wire (Some e) = let c = channel_at w.channels e in all_front P c.wire c.ingress (all_back P c.egress (c.wire ++ c.ingress) (all_on e))

    at_ingress : (o : Option LinkEnd) → All P (ingress_of (option_map (channel_at w.channels) o))
    at_ingress None = All-nil P
    at_ingress (Some e) = let c = channel_at w.channels e in all_back P c.wire c.ingress (all_back P c.egress (c.wire ++ c.ingress) (all_on e))

    pub all_standing : (r : Place) → All P (standing_at w r)
    all_standing (Outbox o) =
        box_of w.agents.outboxes (outbox_place w.agents.outboxes o)
        (all_front P (flat_map waiting_in w.agents.outboxes) (flat_map strays_of w.ports ++ w.strays) (all_back P (flat_map frames_from w.channels) (flat_map waiting_in w.agents.outboxes ++ (flat_map strays_of w.ports ++ w.strays)) all))
    all_standing (Egress d) = at_egress (sender_of w.tree.links d)
    all_standing (Wire d) = at_wire (sender_of w.tree.links d)
    all_standing (Ingress d) = at_ingress (sender_of w.tree.links d)

-- ---- what a number says of a packet

and_both : (a b : Bool) → (a && b) ≡ true → (a ≡ true) × (b ≡ true)
and_both true true e = (refl, refl)
and_both true false e = cc
and_both false b e = cc

pub is_domain : (domain n : ℕ) (x : Descriptor) → is_numbered domain n x ≡ true → (x.domain ≡ domain) × (x.number ≡ n)
is_domain domain n x is = let both = and_both (x.domain == domain) (x.number == n) is in (eqb-true x.domain domain both.0, eqb-true x.number n both.1)

-- its head is that of what is in flight
shown_head : (domains : List DomainView) (domain n : ℕ) (x : Descriptor) (f : IsFlown domains x) → is_numbered domain n x ≡ true → (flown domains domain n ≡ Some f.emission) × (x.head ≡ head_of f.emission)
shown_head domains domain n x f is =
    let at = is_domain domain n x is in
    (sym (ap (λ (k : ℕ). flown domains k n) at.0) ∙ (sym (ap (λ (k : ℕ). flown domains x.domain k) at.1) ∙ f.in_flight), ap (λ (y : Descriptor). y.head) f.shown)

completion_reply : (h : Header) → IsCompletion h → is_reply h ≡ true
completion_reply header.Malformed c = absurd c
completion_reply (header.Memory requester address_type address) c = absurd c
completion_reply (header.OtherRequest requester) c = absurd c
completion_reply (header.Completion target relaxed_ordering) c = refl

module _ (w : World) (g : IsGuardedFabric w) (all : All (IsFlown w.agents.domains) (frames_of w)) (domain n m : ℕ) (first second : Sent) (first_is : flown w.agents.domains domain n ≡ Some first.emission)
    (second_is : (e : Emission) → flown w.agents.domains domain m ≡ Some e → e ≡ second.emission) (first_by : IsBySource first) (second_by : IsBySource second) where
  first_head : (x : Descriptor) → IsFlown w.agents.domains x → is_numbered domain n x ≡ true → x.head ≡ head_of first.emission
  first_head x f is = let h = shown_head w.agents.domains domain n x f is in h.1 ∙ ap head_of (same_Some f.emission first.emission (sym h.0 ∙ first_is))

  second_head : (x : Descriptor) → IsFlown w.agents.domains x → is_numbered domain m x ≡ true → x.head ≡ head_of second.emission
  second_head x f is = let h = shown_head w.agents.domains domain m x f is in h.1 ∙ ap head_of (second_is f.emission h.0)

  -- what holds of a packet that is in flight, wherever it stands
  wherever : (Q : Descriptor → Type 0) → ((x : Descriptor) → IsFlown w.agents.domains x → Q x) → (r : Place) → All Q (standing_at w r)
  wherever Q holds r = All-weaker (IsFlown w.agents.domains) Q holds (standing_at w r) (all_standing (IsFlown w.agents.domains) w all r)

  -- a packet of a function that goes directly to no other is let through to none
  straight : (x : Descriptor) (packet : Sent) → IsBySource packet → x.head ≡ head_of packet.emission → (function : ℕ) → packet.source ≡ Some (origin.Function function) → direct_from g.platform.ports function packet.emission ≡ None → IsStraight g.platform x
  straight x packet by h function source none sender peer requester address address_type parties same cleared direct =
      let is : sender ≡ function = by function sender source (ap (λ (y : Head). y.parties) (sym h) ∙ parties) in
      let goes = cleared_goes g.platform g.guarded sender packet.emission requester address address_type (ap (λ (y : Head). y.header) (sym h) ∙ same) cleared in
      let some : direct_from g.platform.ports function packet.emission ≡ Some peer = ap (λ (k : ℕ). direct_from g.platform.ports k packet.emission) (sym is) ∙ (ap direct_in (goes ∙ ap goes_to direct)) in
      let both : None ≡ Some peer = sym none ∙ some in absurd cc

  -- what its first port lets pass goes to the host
  goes_up : (packet : Sent) (function : ℕ) → direct_from g.platform.ports function packet.emission ≡ None → (h : Header) → (head_of packet.emission).header ≡ h → IsCleared g.platform function h → fate g.platform.ports function packet.emission.bytes ≡ ToHost
  goes_up packet function none header.Malformed same cleared = absurd cleared
  goes_up packet function none (header.OtherRequest requester) same cleared = absurd cleared
  goes_up packet function none (header.Completion target relaxed_ordering) same cleared = absurd cleared
  goes_up packet function none (header.Memory requester address_type address) same cleared =
      let goes = cleared_goes g.platform g.guarded function packet.emission requester address address_type same cleared in
      goes ∙ to_host (direct_to g.platform.ports function address) (ap direct_in (sym goes) ∙ none)
    where
      to_host : (o : Option ℕ) → direct_in (goes_to o) ≡ None → goes_to o ≡ ToHost
      to_host None e = refl
      to_host (Some peer) e = absurd cc

  -- ---- up from a function

  module _ (pair : FromFunction g.platform.ports first second) (none : direct_from g.platform.ports pair.function first.emission ≡ None) where
    abbrev NeverStopped : Descriptor → Type 0
    NeverStopped x = (line : DownstreamPort) (report : Option Violation) → IsPort g.platform line → IsFunctionOf g.platform x.domain (id_below line) → is_reply x.head.header ≡ false → x.head.parties ≡ Upward (id_below line) → course_of (of_platform g.platform) (downstream_config g.platform line) x.head ≡ Stop report → ⊥

    abbrev NeverCleared : Descriptor → Type 0
    NeverCleared x = (sender : ℕ) → x.head.parties ≡ Upward sender → IsCleared g.platform sender x.head.header → ⊥

    passes_too : IsPassed g.platform.ports second.emission.bytes second.emission.parties → (x : Descriptor) → IsFlown w.agents.domains x → is_numbered domain m x ≡ true → NeverStopped x
    passes_too goes x f is line report listed own request parties course =
        let h = second_head x f is in
        let sender : second.emission.parties ≡ Upward (id_below line) = ap (λ (y : Head). y.parties) (sym h) ∙ parties in
        not_stopped g.platform g.guarded line x.domain second.emission report listed own sender (ap (λ (y : Head). is_reply y.header) (sym h) ∙ request) None
        (subst (λ (q : Parties). IsPassed g.platform.ports second.emission.bytes q) sender goes) (ap (course_of (of_platform g.platform) (downstream_config g.platform line)) (sym h) ∙ course)

    passes_never : (IsPassed g.platform.ports first.emission.bytes first.emission.parties → ⊥) → (x : Descriptor) → IsFlown w.agents.domains x → is_numbered domain n x ≡ true → NeverCleared x
    passes_never never x f is sender parties cleared =
        let h = first_head x f is in
        let by : first.emission.parties ≡ Upward sender = ap (λ (y : Head). y.parties) (sym h) ∙ parties in
        let own : sender ≡ pair.function = first_by pair.function sender pair.first_source by in
        let straight_on : direct_from g.platform.ports sender first.emission ≡ None = ap (λ (k : ℕ). direct_from g.platform.ports k first.emission) own ∙ none in
        never (subst (λ (q : Parties). IsPassed g.platform.ports first.emission.bytes q) (sym by) (goes_up first sender straight_on (head_of first.emission).header refl (subst (λ (y : Head). IsCleared g.platform sender y.header) h cleared)))

    pub are_up : AreUp g.platform (standing_at w) (is_numbered domain n) (is_numbered domain m)
    are_up = record {
      firsts = wherever (λ x. is_numbered domain n x ≡ true → IsFirst x) (λ x f is.
          let h = first_head x f is in
          record { posted = ap (λ (y : Head). y.cost.class) h ∙ pair.posted; request = ap (λ (y : Head). is_reply y.header) h ∙ posted_request first.emission pair.posted });
      seconds = wherever (λ x. is_numbered domain m x ≡ true → IsUnrelaxed x.head.header) (λ x f is. subst (λ (y : Head). IsUnrelaxed y.header) (sym (second_head x f is)) pair.unrelaxed);
      firsts_straight = wherever (λ x. is_numbered domain n x ≡ true → IsStraight g.platform x) (λ x f is. straight x first first_by (first_head x f is) pair.function pair.first_source none);
      seconds_straight = wherever (λ x. is_numbered domain m x ≡ true → IsStraight g.platform x) (λ x f is. straight x second second_by (second_head x f is) pair.function pair.second_source (sym pair.same_way ∙ none));
      further =
          ⊎_elim (λ completes. inl (wherever (λ x. is_numbered domain m x ≡ true → is_reply x.head.header ≡ true) (λ x f is. ap (λ (y : Head). is_reply y.header) (second_head x f is) ∙ completion_reply (head_of second.emission).header completes)))
          (λ other. inr (⊎_elim (λ goes. inl (wherever (λ x. is_numbered domain m x ≡ true → NeverStopped x) (passes_too goes))) (λ never. inr (wherever (λ x. is_numbered domain n x ≡ true → NeverCleared x) (passes_never never))) other))
          pair.further;
    }

  -- ---- directly to another function

  -- where its line lets it through
  direct_there : (x : Descriptor) (packet : Sent) → IsBySource packet → x.head ≡ head_of packet.emission → (function peer : ℕ) → packet.source ≡ Some (origin.Function function) → direct_from g.platform.ports function packet.emission ≡ Some peer → IsDirect g.platform function peer x
  direct_there x packet by h function peer source some =
      let d = direct_head g.platform g.guarded function packet.emission peer some in
      record {
        requester = d.requester;
        address = d.address;
        address_type = d.address_type;
        same = ap (λ (y : Head). y.header) h ∙ d.same;
        cleared = d.cleared;
        direct = d.direct;
        sender = λ sender parties. by function sender source (ap (λ (y : Head). y.parties) (sym h) ∙ parties);
      }

  never_stopped : (x : Descriptor) (packet : Sent) → IsBySource packet → x.head ≡ head_of packet.emission → (function peer : ℕ) → packet.source ≡ Some (origin.Function function) → direct_from g.platform.ports function packet.emission ≡ Some peer
      → (line : DownstreamPort) (report : Option Violation) → IsPort g.platform line → IsFunctionOf g.platform x.domain (id_below line) → is_reply x.head.header ≡ false → x.head.parties ≡ Upward (id_below line)
      → course_of (of_platform g.platform) (downstream_config g.platform line) x.head ≡ Stop report → ⊥
  never_stopped x packet by h function peer source some line report listed own request parties course =
      let sender : packet.emission.parties ≡ Upward (id_below line) = ap (λ (y : Head). y.parties) (sym h) ∙ parties in
      let is : id_below line ≡ function = by function (id_below line) source sender in
      let d = direct_head g.platform g.guarded function packet.emission peer some in
      let goes : fate g.platform.ports (id_below line) packet.emission.bytes ≡ goes_to (Some peer) =
      ap (λ (k : ℕ). fate g.platform.ports k packet.emission.bytes) is ∙ (cleared_goes g.platform g.guarded function packet.emission d.requester d.address d.address_type d.same d.cleared ∙ ap goes_to d.direct) in
      not_stopped g.platform g.guarded line x.domain packet.emission report listed own sender (ap (λ (y : Head). is_reply y.header) (sym h) ∙ request) (Some peer) goes (ap (course_of (of_platform g.platform) (downstream_config g.platform line)) (sym h) ∙ course)

  pub are_across : (pair : FromFunction g.platform.ports first second) (peer : ℕ) → direct_from g.platform.ports pair.function first.emission ≡ Some peer → AreAcross g.platform pair.function peer (standing_at w) (is_numbered domain n) (is_numbered domain m)
  are_across pair peer some = record {
    firsts = wherever (λ x. is_numbered domain n x ≡ true → class_of x ≡ Posted) (λ x f is. ap (λ (y : Head). y.cost.class) (first_head x f is) ∙ pair.posted);
    first_direct = wherever (λ x. is_numbered domain n x ≡ true → IsDirect g.platform pair.function peer x) (λ x f is. direct_there x first first_by (first_head x f is) pair.function peer pair.first_source some);
    second_direct = wherever (λ x. is_numbered domain m x ≡ true → IsDirect g.platform pair.function peer x) (λ x f is. direct_there x second second_by (second_head x f is) pair.function peer pair.second_source (sym pair.same_way ∙ some));
    second_passes = wherever (λ x. is_numbered domain m x ≡ true → NeverStops g.platform x) (λ x f is. never_stopped x second second_by (second_head x f is) pair.function peer pair.second_source (sym pair.same_way ∙ some));
  }

  -- down from the host
  pub are_down : (pair : FromHost domain first second) → AreDown pair.function (standing_at w) (is_numbered domain n) (is_numbered domain m)
  are_down pair = record {
    firsts = wherever (λ x. is_numbered domain n x ≡ true → class_of x ≡ Posted) (λ x f is. ap (λ (y : Head). y.cost.class) (first_head x f is) ∙ pair.posted);
    first_to = wherever (λ x. is_numbered domain n x ≡ true → IsTo pair.function x.head.parties) (λ x f is. subst (λ (y : Head). IsTo pair.function y.parties) (sym (first_head x f is)) pair.first_to);
    second_to = wherever (λ x. is_numbered domain m x ≡ true → IsTo pair.function x.head.parties) (λ x f is. subst (λ (y : Head). IsTo pair.function y.parties) (sym (second_head x f is)) pair.second_to);
  }

  -- ---- the first alone

  pub posted_up : IsPosted first.emission → (function : ℕ) → first.source ≡ Some (origin.Function function) → direct_from g.platform.ports function first.emission ≡ None → AreUp g.platform (standing_at w) (is_numbered domain n) never
  posted_up posted function source none = record {
    firsts = wherever (λ x. is_numbered domain n x ≡ true → IsFirst x) (λ x f is.
        let h = first_head x f is in
        record { posted = ap (λ (y : Head). y.cost.class) h ∙ posted; request = ap (λ (y : Head). is_reply y.header) h ∙ posted_request first.emission posted });
    seconds = wherever (λ x. never x ≡ true → IsUnrelaxed x.head.header) (λ x f is. absurd (false≢true is));
    firsts_straight = wherever (λ x. is_numbered domain n x ≡ true → IsStraight g.platform x) (λ x f is. straight x first first_by (first_head x f is) function source none);
    seconds_straight = wherever (λ x. never x ≡ true → IsStraight g.platform x) (λ x f is. absurd (false≢true is));
    further = inl (wherever (λ x. never x ≡ true → is_reply x.head.header ≡ true) (λ x f is. absurd (false≢true is)));
  }

  pub posted_across : IsPosted first.emission → (function peer : ℕ) → first.source ≡ Some (origin.Function function) → direct_from g.platform.ports function first.emission ≡ Some peer → AreAcross g.platform function peer (standing_at w) (is_numbered domain n) never
  posted_across posted function peer source some = record {
    firsts = wherever (λ x. is_numbered domain n x ≡ true → class_of x ≡ Posted) (λ x f is. ap (λ (y : Head). y.cost.class) (first_head x f is) ∙ posted);
    first_direct = wherever (λ x. is_numbered domain n x ≡ true → IsDirect g.platform function peer x) (λ x f is. direct_there x first first_by (first_head x f is) function peer source some);
    second_direct = wherever (λ x. never x ≡ true → IsDirect g.platform function peer x) (λ x f is. absurd (false≢true is));
    second_passes = wherever (λ x. never x ≡ true → NeverStops g.platform x) (λ x f is. absurd (false≢true is));
  }

  pub posted_down : IsPosted first.emission → (function : ℕ) → IsTo function first.emission.parties → AreDown function (standing_at w) (is_numbered domain n) never
  posted_down posted function to = record {
    firsts = wherever (λ x. is_numbered domain n x ≡ true → class_of x ≡ Posted) (λ x f is. ap (λ (y : Head). y.cost.class) (first_head x f is) ∙ posted);
    first_to = wherever (λ x. is_numbered domain n x ≡ true → IsTo function x.head.parties) (λ x f is. subst (λ (y : Head). IsTo function y.parties) (sym (first_head x f is)) to);
    second_to = wherever (λ x. never x ≡ true → IsTo function x.head.parties) (λ x f is. absurd (false≢true is));
  }
