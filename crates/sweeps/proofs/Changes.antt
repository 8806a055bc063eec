-- What an event changes in a guarded fabric: at which ends a place becomes free, what is received, and which outboxes change.
use Rattle.std.proofs.Common.{◌≡◌, ◌⊎◌, inl, inr, ℕ, ◌<◌, ◌==◌, Bool, true, false, cond, List, [], ◌∷◌, ◌++◌, length, get_or, Option, Some, None, refl, sym, ap, ◌∙◌, subst, arith}
use Rattle.std.specs.Prelude.{IfSome, is_some, option_map}
use Rattle.std.specs.Option.{option_and_then}
use Rattle.std.proofs.lemmas.Bool.{false≢true}
use Rattle.std.proofs.lemmas.List.Quantifiers.{position-Some}
use Rattle.fab_types.specs.declared.class.Class.{Class}
use Rattle.fab_types.specs.declared.class.Class.TheVariants.{Posted, NonPosted, Completion}
use Rattle.fab_types.specs.Id.{bus_of, host_of}
use Rattle.fab_types.specs.declared.head.Header.{Header}
use Rattle.fab_types.specs.declared.head.Header.TheVariants as header
use Rattle.fab_types.specs.declared.head.Parties.{Parties}
use Rattle.fab_types.specs.declared.head.Parties.TheVariants.{Upward, Downward, Answer}
use Rattle.fab_types.specs.declared.origin.Origin.{Origin}
use Rattle.fab_types.specs.declared.origin.Origin.TheVariants as origin
use Rattle.fab_types.specs.declared.place.Direction.{Direction}
use Rattle.fab_types.specs.declared.violation.Violation.{Violation}
use Rattle.frame_log.specs.Descriptor.{Descriptor}
use Rattle.credit.specs.Kinds.{Kind, cost_of, where_same}
use Rattle.credit.specs.declared.counters.Counters.{Counters}
use Rattle.domain.specs.declared.entry.Entry.TheVariants as entry
use Rattle.domains.specs.Agents.{AgentsView, Outbox, emitted_if, is_function_of, joined, waiting_of, with_waiting}
use Rattle.lane.specs.Lanes.{class_of, eligible}
use Rattle.lane.proofs.Waiting.{class_of-taken}
use Rattle.link.specs.Channels.{Channel, count_in, deliver, has_room, is_full, received_of, same_counters, send, sent_on, spent, unspent, update_fc}
use Rattle.link.proofs.Totals.{count_in-total, total-append}
use Rattle.port.specs.Courses.{course_of}
use Rattle.port.specs.declared.course.Forwarding.{Forwarding}
use Rattle.port.specs.declared.course.Forwarding.TheVariants.{To, Stop, NoCase}
use Rattle.domains.specs.Domains.{Made, made, made_at, place_of, place_of_function}
use Rattle.platform.specs.declared.parts.DownstreamPort.{DownstreamPort}
use Rattle.platform.specs.Egress.{goes_directly}
use Rattle.topology.specs.Links.{sender_of}
use Rattle.topology.specs.Topologies.{Tree}
use Rattle.topology.specs.declared.nodes.LinkEnd.{LinkEnd}
use Rattle.topology.specs.declared.places.PortPlace.{PortPlace}
use Rattle.interconnect.specs.Moves.{channel_at, left_at, on_channel, put_at, with_channel}
use Rattle.interconnect.specs.Passes.{index_of, input_of, input_number, no_place}
use Rattle.interconnect.proofs.Room.{full_left}
use Rattle.switch_output.specs.Vetted.{may_go_on}
use Rattle.fabric_core.specs.declared.event.Event.{Event}
use Rattle.fabric_core.specs.declared.event.Event.TheVariants.{Arrive, Credit, Enter, Mmio, Pass, Root, Send, Submit, Take, Tick}
use Rattle.fabric_core.specs.Arrivals.{Taken, agents_by_host, arrived, arrived_by, ended, from_host, own_by_function, own_by_host, received_at, received_in, relayed, arrived_at_host, arrived_at_host_by, taken, taken_at, taken_from, to_function, to_host}
use Rattle.received.specs.Received.{memory_at_function, received_at_host, received_by_function, received_by_host, request_at_function, request_at_host}
use Rattle.fabric_core.specs.Events.{effect, entered_at, link_of}
use Rattle.fabric_core.specs.Invariant.{IsConsistent}
use Rattle.fabric_core.specs.Misrouting.{pass}
use Rattle.fabric_core.specs.Passing.{Site, answer_waits, answered_at, is_full_at, output_end, passed, passed_by, passed_number, refused_by, site_at, strayed}
use Rattle.fabric_core.specs.Places.{IsFlown}
use Rattle.fabric_core.specs.Soundness.{IsGuardedFabric}
use Rattle.sweeps.specs.Waking.{port_node}
use Rattle.fabric_core.specs.World.{World, with_agents, with_channels}
use Rattle.fabric_core.proofs.effect.Answered.{only_non_posted_are_answered}
use Rattle.fabric_core.proofs.invariant.Renewing.{taken_flown, taken_out_of}
use Rattle.fabric_core.proofs.invariant.Turning.{inputs_there}
use Rattle.fabric_core.proofs.soundness.GuardedAliens.{home_at_function, home_at_host, passes_as_turned}
use Rattle.fabric_core.proofs.soundness.SoundBoxes.{either_waiting}
use Rattle.fabric_core.proofs.soundness.SoundLinks.{Either, either_channel}

-- ---- where an event changes something

-- a place becomes free at the sender
abbrev pub Frees : Tree → Event → LinkEnd → Type 0
Frees tree (Send direction class) end = sender_of tree.links direction ≡ Some end
Frees tree event end = ⊥

-- what waits at the receiver changes
abbrev pub Brings : Tree → Event → LinkEnd → Type 0
Brings tree (Pass port class) end = input_of tree.places port ≡ Some end
Brings tree (Take direction) end = sender_of tree.links direction ≡ Some end
Brings tree (Root class) end = sender_of tree.links to_host ≡ Some end
Brings tree (Arrive function class) end = sender_of tree.links (to_function function) ≡ Some end
Brings tree event end = ⊥

-- anything of the direction changes
abbrev pub Touches : Tree → Event → LinkEnd → Type 0
Touches tree (Enter o class) end = sender_of tree.links (link_of o) ≡ Some end
Touches tree (Pass port class) end = (input_of tree.places port ≡ Some end) ⊎ (port_node tree.places (index_of tree.places port) ≡ Some end.node)
Touches tree (Send direction class) end = sender_of tree.links direction ≡ Some end
Touches tree (Take direction) end = sender_of tree.links direction ≡ Some end
Touches tree (Credit direction) end = sender_of tree.links direction ≡ Some end
Touches tree (Root class) end = (sender_of tree.links to_host ≡ Some end) ⊎ (sender_of tree.links from_host ≡ Some end)
Touches tree (Arrive function class) end = sender_of tree.links (to_function function) ≡ Some end
Touches tree event end = ⊥

-- what waits in the outbox of an origin changes
abbrev pub Fills : Event → Origin → Type 0
Fills (Submit function bytes) o = o ≡ origin.Function function
Fills (Tick function) o = o ≡ origin.Function function
Fills (Mmio domain access) o = o ≡ origin.Host domain
Fills (Enter from class) o = o ≡ from
Fills (Root class) o = (domain : ℕ) × (o ≡ origin.Host domain)
Fills (Arrive function class) o = o ≡ origin.Function function
Fills event o = ⊥

-- ---- the directions of links

module _ (Free Bring Touch : LinkEnd → Type 0) where
  -- but at such ends full senders stay full, and what waits at receivers and the whole direction stay as they were
  pub record LinksChange (old new : List (List Channel)) : Type 0 where
    pub full : (end : LinkEnd) (class : Class) → is_full class (channel_at old end) ≡ true → Free end ⊎ (is_full class (channel_at new end) ≡ true)
    pub ingress : (end : LinkEnd) → Bring end ⊎ ((channel_at new end).ingress ≡ (channel_at old end).ingress)
    pub whole : (end : LinkEnd) → Touch end ⊎ (channel_at new end ≡ channel_at old end)

  links_same : (cs : List (List Channel)) → LinksChange cs cs
  links_same cs = record { full = λ end class full. inr full; ingress = λ end. inr refl; whole = λ end. inr refl }

  links_then : (a b c : List (List Channel)) → LinksChange a b → LinksChange b c → LinksChange a c
  links_then a b c one other = record {
    full = λ end class full. full_then end class (one.full end class full);
    ingress = λ end. ingress_then end (one.ingress end) (other.ingress end);
    whole = λ end. whole_then end (one.whole end) (other.whole end);
  }
    where
      full_then : (end : LinkEnd) (class : Class) → Free end ⊎ (is_full class (channel_at b end) ≡ true) → Free end ⊎ (is_full class (channel_at c end) ≡ true)
      full_then end class (inl free) = inl free
      full_then end class (inr full) = other.full end class full

      ingress_then : (end : LinkEnd) → Bring end ⊎ ((channel_at b end).ingress ≡ (channel_at a end).ingress) → Bring end ⊎ ((channel_at c end).ingress ≡ (channel_at b end).ingress) → Bring end ⊎ ((channel_at c end).ingress ≡ (channel_at a end).ingress)
      ingress_then end (inl bring) second = inl bring
      ingress_then end (inr first) (inl bring) = inl bring
      ingress_then end (inr first) (inr second) = inr (second ∙ first)

      whole_then : (end : LinkEnd) → Touch end ⊎ (channel_at b end ≡ channel_at a end) → Touch end ⊎ (channel_at c end ≡ channel_at b end) → Touch end ⊎ (channel_at c end ≡ channel_at a end)
      whole_then end (inl touch) second = inl touch
      whole_then end (inr first) (inl touch) = inl touch
      whole_then end (inr first) (inr second) = inr (second ∙ first)

  -- one direction becomes another
  pub record Becomes (end : LinkEnd) (c d : Channel) : Type 0 where
    pub full : (class : Class) → is_full class c ≡ true → Free end ⊎ (is_full class d ≡ true)
    pub ingress : Bring end ⊎ (d.ingress ≡ c.ingress)

  links_with : (cs : List (List Channel)) (end : LinkEnd) (c : Channel) → Touch end → Becomes end (channel_at cs end) c → LinksChange cs (with_channel cs end c)
  links_with cs end c touch becomes = record {
    full = λ other class full. full_by other class full (either_channel cs end other c);
    ingress = λ other. ingress_by other (either_channel cs end other c);
    whole = λ other. whole_by other (either_channel cs end other c);
  }
    where
      full_by : (other : LinkEnd) (class : Class) → is_full class (channel_at cs other) ≡ true → Either cs end other c → Free other ⊎ (is_full class (channel_at (with_channel cs end c) other) ≡ true)
      full_by other class full (inl same) = inr (ap (is_full class) same ∙ full)
      full_by other class full (inr h) = go (becomes.full class (ap (λ (e : LinkEnd). is_full class (channel_at cs e)) (sym h.0) ∙ full))
        where
          go : Free end ⊎ (is_full class c ≡ true) → Free other ⊎ (is_full class (channel_at (with_channel cs end c) other) ≡ true)
          go (inl free) = inl (subst Free (sym h.0) free)
          go (inr full) = inr (ap (is_full class) h.1 ∙ full)

      ingress_by : (other : LinkEnd) → Either cs end other c → Bring other ⊎ ((channel_at (with_channel cs end c) other).ingress ≡ (channel_at cs other).ingress)
      ingress_by other (inl same) = inr (ap (λ (x : Channel). x.ingress) same)
      ingress_by other (inr h) = go becomes.ingress
        where
          go : Bring end ⊎ (c.ingress ≡ (channel_at cs end).ingress) → Bring other ⊎ ((channel_at (with_channel cs end c) other).ingress ≡ (channel_at cs other).ingress)
          go (inl bring) = inl (subst Bring (sym h.0) bring)
          go (inr same) = inr (ap (λ (x : Channel). x.ingress) h.1 ∙ (same ∙ ap (λ (e : LinkEnd). (channel_at cs e).ingress) (sym h.0)))

      whole_by : (other : LinkEnd) → Either cs end other c → Touch other ⊎ (channel_at (with_channel cs end c) other ≡ channel_at cs other)
      whole_by other (inl same) = inr same
      whole_by other (inr h) = inl (subst Touch (sym h.0) touch)

  same_or_none : (one other : Class) → (one ≡ other) ⊎ (where_same one other 1 ≡ 0)
  same_or_none Posted Posted = inl refl
  same_or_none NonPosted NonPosted = inl refl
  same_or_none Completion Completion = inl refl
  same_or_none Posted NonPosted = inr refl
  same_or_none Posted Completion = inr refl
  same_or_none NonPosted Posted = inr refl
  same_or_none NonPosted Completion = inr refl
  same_or_none Completion Posted = inr refl
  same_or_none Completion NonPosted = inr refl

  -- one more packet of another class leaves as many of this one
  others_stay : (k : Class) (waiting : List Descriptor) (frame : Descriptor) → where_same (class_of frame) k 1 ≡ 0 → count_in k (waiting ++ frame ∷ []) ≡ count_in k waiting
  others_stay k waiting frame none =
      let all = total-append (Kind.Headers k) waiting (frame ∷ []) in
      let before = count_in-total k waiting in
      let after = count_in-total k (waiting ++ frame ∷ []) in
      let cost : cost_of frame.head.cost (Kind.Headers k) ≡ 0 = none in
      omega (arith, all, before, after, cost)

  put_full : (waiting : List Descriptor) (frame : Descriptor) (k : Class) → (count_in (class_of frame) waiting == 16) ≡ false → (count_in k waiting == 16) ≡ true → (count_in k (waiting ++ frame ∷ []) == 16) ≡ true
  put_full waiting frame k free full = by (same_or_none (class_of frame) k)
    where
      by : (class_of frame ≡ k) ⊎ (where_same (class_of frame) k 1 ≡ 0) → (count_in k (waiting ++ frame ∷ []) == 16) ≡ true
      by (inl same) = absurd (false≢true (sym free ∙ (ap (λ (c : Class). count_in c waiting == 16) same ∙ full)))
      by (inr none) = ap (λ (n : ℕ). n == 16) (others_stay k waiting frame none) ∙ full

  links_put : (cs : List (List Channel)) (end : LinkEnd) (frame : Descriptor) → Touch end → is_full (class_of frame) (channel_at cs end) ≡ false → LinksChange cs (put_at cs end frame)
  links_put cs end frame touch free = links_with cs end _ touch (record { full = λ k full. inr (put_full (channel_at cs end).egress frame k free full); ingress = inr refl })

  links_left : (cs : List (List Channel)) (end : LinkEnd) (left : List Descriptor) → Touch end → Bring end → LinksChange cs (left_at cs end left)
  links_left cs end left touch bring = links_with cs end _ touch (record { full = λ k full. inr full; ingress = inl bring })

-- ---- the whole fabric

module _ (Free Bring Touch : LinkEnd → Type 0) (Fill : Origin → Type 0) where
  pub record BoxesChange (old new : List Outbox) : Type 0 where
    pub waiting : (o : Origin) → Fill o ⊎ (waiting_of new o ≡ waiting_of old o)

  pub record Changes (w v : World) : Type 0 where
    pub links : LinksChange Free Bring Touch w.channels v.channels
    pub boxes : BoxesChange w.agents.outboxes v.agents.outboxes

  abbrev pub Change : World → Option World → Type 0
  Change w all = IfSome all (Changes w)

  abbrev Linked : List (List Channel) → List (List Channel) → Type 0
  Linked old new = LinksChange Free Bring Touch old new

  boxes_same : (boxes : List Outbox) → BoxesChange boxes boxes
  boxes_same boxes = record { waiting = λ o. inr refl }

  boxes_with : (boxes : List Outbox) (from : Origin) (waiting : List Descriptor) → Fill from → BoxesChange boxes (with_waiting boxes from waiting)
  boxes_with boxes from waiting fill = record { waiting = λ o. by o (either_waiting boxes from o waiting) }
    where
      by : (o : Origin) → (waiting_of (with_waiting boxes from waiting) o ≡ waiting_of boxes o) ⊎ ((o ≡ from) × (waiting_of (with_waiting boxes from waiting) o ≡ waiting)) → Fill o ⊎ (waiting_of (with_waiting boxes from waiting) o ≡ waiting_of boxes o)
      by o (inl same) = inr same
      by o (inr h) = inl (subst Fill (sym h.0) fill)

  boxes_joined : (boxes : List Outbox) (from : Origin) (sent : Option Descriptor) → Fill from → BoxesChange boxes (joined boxes from sent)
  boxes_joined boxes from None fill = boxes_same boxes
  boxes_joined boxes from (Some frame) fill = boxes_with boxes from (waiting_of boxes from ++ frame ∷ []) fill

  unless : (w v : World) (b : Bool) → (b ≡ false → Changes w v) → Change w (cond b None (Some v))
  unless w v true changes = tt
  unless w v false changes = changes refl

  chained : {X : Type 0} (w : World) (P : X → Type 0) (f : X → Option World) (o : Option X) → ((x : X) → P x → Change w (f x)) → IfSome o P → Change w (option_and_then f o)
  chained w P f None each some = tt
  chained w P f (Some x) each some = each x some

  -- ---- begins

  begun : (w : World) (from : Origin) (o : Option Made) → Fill from → Change w (option_map (with_agents w) (emitted_if w.agents from o))
  begun w from None fill = tt
  begun w from (Some m) fill = record { links = links_same Free Bring Touch w.channels; boxes = boxes_joined w.agents.outboxes from m.sent fill }

  -- ---- within a link, and onto it

  linked : (w : World) (cs : List (List Channel)) → Linked w.channels cs → Changes w (with_channels w cs)
  linked w cs links = record { links = links; boxes = boxes_same w.agents.outboxes }

  stepped : (w : World) (end : LinkEnd) (o : Option Channel) → Touch end → IfSome o (Becomes Free Bring Touch end (channel_at w.channels end)) → Change w (option_map (with_channels w) (option_map (with_channel w.channels end) o))
  stepped w end None touch becomes = tt
  stepped w end (Some c) touch becomes = linked w (with_channel w.channels end c) (links_with Free Bring Touch w.channels end c touch becomes)

  on_link : (w : World) (found : Option LinkEnd) (step : Channel → Option Channel) → ((end : LinkEnd) → found ≡ Some end → Touch end) → ((end : LinkEnd) (c : Channel) → found ≡ Some end → IfSome (step c) (Becomes Free Bring Touch end c))
      → Change w (option_map (with_channels w) (on_channel w.channels found step))
  on_link w None step touch becomes = tt
  on_link w (Some end) step touch becomes = stepped w end (step (channel_at w.channels end)) (touch end refl) (becomes end (channel_at w.channels end) refl)

  abbrev IsOfClass : Class → Descriptor × List Descriptor → Type 0
  IsOfClass class t = class_of t.0 ≡ class

  of_class : (class : Class) (waiting : List Descriptor) (o : Option (Descriptor × List Descriptor)) → eligible class waiting ≡ o → IfSome o (IsOfClass class)
  of_class class waiting None e = tt
  of_class class waiting (Some t) e = class_of-taken class waiting t.1 t.0 e

  entered : (w : World) (from : Origin) (class : Class) (found : Option LinkEnd) (t : Descriptor × List Descriptor) → Fill from → ((end : LinkEnd) → found ≡ Some end → Touch end) → IsOfClass class t → Change w (entered_at w from class found t)
  entered w from class None t fill touch is = tt
  entered w from class (Some end) t fill touch is =
      unless w _ (is_full class (channel_at w.channels end)) (λ free. record {
        links = links_put Free Bring Touch w.channels end t.0 (touch end refl) (ap (λ (k : Class). is_full k (channel_at w.channels end)) is ∙ free);
        boxes = boxes_with w.agents.outboxes from t.1 fill;
      })

  -- ---- what was taken goes on

  -- it is of the class, and senders have the places that they had
  pub record IsTaken (cs : List (List Channel)) (class : Class) (t : Taken) : Type 0 where
    pub links : Linked cs t.channels
    pub places : (end : LinkEnd) (k : Class) → is_full k (channel_at t.channels end) ≡ is_full k (channel_at cs end)
    pub class_is : class_of t.frame ≡ class

  taken_if : (cs : List (List Channel)) (class : Class) (end : LinkEnd) (o : Option (Descriptor × List Descriptor)) → Touch end → Bring end → eligible class (channel_at cs end).ingress ≡ o → IfSome (option_map (taken_from cs end) o) (IsTaken cs class)
  taken_if cs class end None touch bring e = tt
  taken_if cs class end (Some r) touch bring e = record {
    links = links_left Free Bring Touch cs end r.1 touch bring;
    places = λ other k. full_left cs end other r.1 k;
    class_is = class_of-taken class (channel_at cs end).ingress r.1 r.0 e;
  }

  is_taken : (cs : List (List Channel)) (class : Class) (found : Option LinkEnd) → ((end : LinkEnd) → found ≡ Some end → Touch end) → ((end : LinkEnd) → found ≡ Some end → Bring end) → IfSome (taken_at cs class found) (IsTaken cs class)
  is_taken cs class None touch bring = tt
  is_taken cs class (Some end) touch bring = taken_if cs class end (eligible class (channel_at cs end).ingress) (touch end refl) (bring end refl) refl

  put_on : (w : World) (class : Class) (t : Taken) → IsTaken w.channels class t → (end : LinkEnd) → Touch end → is_full class (channel_at w.channels end) ≡ false → Changes w (with_channels w (put_at t.channels end t.frame))
  put_on w class t is end touch free =
      linked w (put_at t.channels end t.frame) (links_then Free Bring Touch w.channels t.channels _ is.links
      (links_put Free Bring Touch t.channels end t.frame touch (is.places end (class_of t.frame) ∙ (ap (λ (k : Class). is_full k (channel_at w.channels end)) is.class_is ∙ free))))

  sent_down : (w : World) (class : Class) (t : Taken) → IsTaken w.channels class t → (found : Option LinkEnd) → ((end : LinkEnd) → found ≡ Some end → Touch end) → Change w (relayed w t class found)
  sent_down w class t is None touch = tt
  sent_down w class t is (Some end) touch = unless w _ (is_full class (channel_at w.channels end)) (put_on w class t is end (touch end refl))

  -- ---- at the host and at functions

  abbrev Emits : AgentsView → AgentsView → Type 0
  Emits old new = BoxesChange old.outboxes new.outboxes

  emits : (agents : AgentsView) (from : Origin) (o : Option Made) → Fill from → IfSome (emitted_if agents from o) (Emits agents)
  emits agents from None fill = tt
  emits agents from (Some m) fill = boxes_joined agents.outboxes from m.sent fill

  silent : (agents : AgentsView) (o : Option Made) → IfSome (option_map (λ (m : Made). record { domains = m.domains; outboxes = agents.outboxes }) o) (Emits agents)
  silent agents None = tt
  silent agents (Some m) = boxes_same agents.outboxes

  -- of the two whichever it is
  of_either : {X : Type 0} (P : X → Type 0) (b : Bool) (x y : X) → P x → P y → P (cond b x y)
  of_either P true x y first second = first
  of_either P false x y first second = second

  module _ (agents : AgentsView) (frame : Descriptor) where
    module _ (fill : Fill (origin.Host frame.domain)) where
      request_emits : (parties : Parties) → IfSome (own_by_host agents frame (request_at_host parties)) (Emits agents)
      request_emits (Upward function) = emits agents (origin.Host frame.domain) (made agents.domains frame.domain (entry.Carry frame.number)) fill
      request_emits (Downward function) = tt
      request_emits (Answer answerer addressee) = tt

      host_emits : (domain : ℕ) (parties : Parties) (head : Header) → IfSome (own_by_host agents frame (received_by_host domain parties head)) (Emits agents)
      host_emits domain parties header.Malformed = tt
      host_emits domain parties (header.Memory requester address_type address) = request_emits parties
      host_emits domain parties (header.OtherRequest requester) = request_emits parties
      host_emits domain parties (header.Completion target relaxed_ordering) =
          of_either (λ received. IfSome (own_by_host agents frame received) (Emits agents)) (bus_of target == 0) _ _
          (of_either (λ received. IfSome (own_by_host agents frame received) (Emits agents)) (target == host_of domain) _ _ (silent agents (made agents.domains frame.domain (entry.Deliver frame.number))) tt) tt

    module _ (function : ℕ) (fill : Fill (origin.Function function)) where
      carry_emits : IfSome (emitted_if agents (origin.Function function) (cond (is_function_of agents.domains function frame.domain) (made agents.domains frame.domain (entry.Carry frame.number)) None)) (Emits agents)
      carry_emits = emits agents (origin.Function function) (cond (is_function_of agents.domains function frame.domain) (made agents.domains frame.domain (entry.Carry frame.number)) None) fill

      own_request_emits : (parties : Parties) → IfSome (own_by_function agents function frame (request_at_function parties)) (Emits agents)
      own_request_emits (Upward sender) = tt
      own_request_emits (Downward completer) = carry_emits
      own_request_emits (Answer answerer addressee) = tt

      memory_emits : (ports : List DownstreamPort) (address : ℕ) (parties : Parties) → IfSome (own_by_function agents function frame (memory_at_function ports function address parties)) (Emits agents)
      memory_emits ports address (Upward sender) =
          of_either (λ received. IfSome (own_by_function agents function frame received) (Emits agents)) (goes_directly ports sender address function) _ _ carry_emits tt
      memory_emits ports address (Downward completer) = own_request_emits (Downward completer)
      memory_emits ports address (Answer answerer addressee) = own_request_emits (Answer answerer addressee)

      taken_emits : (ports : List DownstreamPort) (parties : Parties) (head : Header) → IfSome (own_by_function agents function frame (received_by_function ports function parties head)) (Emits agents)
      taken_emits ports parties header.Malformed = tt
      taken_emits ports parties (header.Memory requester address_type address) = memory_emits ports address parties
      taken_emits ports parties (header.OtherRequest requester) = own_request_emits parties
      taken_emits ports parties (header.Completion target relaxed_ordering) = silent agents (made agents.domains frame.domain (entry.Deliver frame.number))

      function_emits : (ports : List DownstreamPort) → IfSome (own_by_function agents function frame (received_in ports agents.domains function frame)) (Emits agents)
      function_emits ports =
          of_either (λ received. IfSome (own_by_function agents function frame received) (Emits agents)) (is_function_of agents.domains function frame.domain) _ _ (taken_emits ports frame.head.parties frame.head.header) tt

  ended_changes : (w : World) (t : Taken) (o : Option AgentsView) → Linked w.channels t.channels → IfSome o (Emits w.agents) → Changes w (ended w t o)
  ended_changes w t None links emits = record { links = links; boxes = boxes_same w.agents.outboxes }
  ended_changes w t (Some agents) links emits = record { links = links; boxes = emits }

  module _ (w : World) (g : IsGuardedFabric w) where
    at_host : (class : Class) (t : Taken) → IsTaken w.channels class t → Fill (origin.Host t.frame.domain) → Changes w (ended w t (agents_by_host w.routes.ports w.agents t.frame (received_at_host t.frame)))
    at_host class t is fill =
        subst (λ (o : Option AgentsView). Changes w (ended w t o)) (sym (home_at_host w g t.frame (received_at_host t.frame)))
        (ended_changes w t (own_by_host w.agents t.frame (received_at_host t.frame)) is.links (host_emits w.agents t.frame fill t.frame.domain t.frame.head.parties t.frame.head.header))

    module _ (class : Class) (t : Taken) (is : IsTaken w.channels class t) (touch : (end : LinkEnd) → sender_of w.tree.links from_host ≡ Some end → Touch end) where
      request_changes : (parties : Parties) → Changes w (ended w t (agents_by_host w.routes.ports w.agents t.frame (request_at_host parties))) → Change w (arrived_at_host_by w class t (request_at_host parties))
      request_changes (Upward function) ended = ended
      request_changes (Downward function) ended = ended
      request_changes (Answer answerer addressee) ended = ended

      -- it is sent down, or it ends there
      at_host_changes : (domain : ℕ) (parties : Parties) (head : Header) → Changes w (ended w t (agents_by_host w.routes.ports w.agents t.frame (received_by_host domain parties head))) → Change w (arrived_at_host_by w class t (received_by_host domain parties head))
      at_host_changes domain parties header.Malformed = λ ended. ended
      at_host_changes domain parties (header.Memory requester address_type address) = request_changes parties
      at_host_changes domain parties (header.OtherRequest requester) = request_changes parties
      at_host_changes domain parties (header.Completion target relaxed_ordering) =
          of_either (λ received. Changes w (ended w t (agents_by_host w.routes.ports w.agents t.frame received)) → Change w (arrived_at_host_by w class t received)) (bus_of target == 0) _ _
          (of_either (λ received. Changes w (ended w t (agents_by_host w.routes.ports w.agents t.frame received)) → Change w (arrived_at_host_by w class t received)) (target == host_of domain) _ _ (λ ended. ended) (λ ended. ended))
          (λ ended. sent_down w class t is (sender_of w.tree.links from_host) touch)

    at_host_if : (class : Class) (o : Option Taken) → ((domain : ℕ) → Fill (origin.Host domain)) → ((end : LinkEnd) → sender_of w.tree.links from_host ≡ Some end → Touch end) → IfSome o (IsTaken w.channels class) → Change w (arrived_at_host w class o)
    at_host_if class None fill touch is = tt
    at_host_if class (Some t) fill touch is = at_host_changes class t is touch t.frame.domain t.frame.head.parties t.frame.head.header (at_host class t is (fill t.frame.domain))

    arrived_changes : (function : ℕ) (class : Class) (t : Taken) → Fill (origin.Function function) → IsTaken w.channels class t → Changes w (arrived_by w function t (received_at w function t.frame))
    arrived_changes function class t fill is =
        subst (λ (o : Option AgentsView). Changes w (ended w t o)) (sym (home_at_function w g function t.frame (received_at w function t.frame)))
        (ended_changes w t (own_by_function w.agents function t.frame (received_at w function t.frame)) is.links (function_emits w.agents t.frame function fill w.routes.ports))

    arrive_if : (function : ℕ) (class : Class) (b : Bool) (o : Option Taken) → Fill (origin.Function function) → IfSome o (IsTaken w.channels class) → Change w (cond b (arrived w function o) None)
    arrive_if function class false o fill is = tt
    arrive_if function class true None fill is = tt
    arrive_if function class true (Some t) fill is = arrived_changes function class t fill is

  -- ---- at a port

  module _ (w : World) (site : Site) (class : Class) (t : Taken) (is : IsTaken w.channels class t) (flown : IsFlown w.agents.domains t.frame) (touch : (end : LinkEnd) → end.node ≡ site.node → Touch end) where
    strayed_changes : Changes w (strayed w site t)
    strayed_changes = record { links = is.links; boxes = boxes_same w.agents.outboxes }

    forward_changes : (output : ℕ) (full may : Bool) → is_full_at w site output class ≡ full → Change w (cond full None (cond may (Some (with_channels w (put_at t.channels (output_end site output) t.frame))) (Some (strayed w site t))))
    forward_changes output true may e = tt
    forward_changes output false true e = put_on w class t is (output_end site output) (touch (output_end site output) refl) e
    forward_changes output false false e = strayed_changes

    -- what answers it has a place
    answer_place : (m : Made) → made w.agents.domains t.frame.domain (entry.Refuse t.frame.number) ≡ Some m → answer_waits w site class ≡ false → (answer : Descriptor) → m.sent ≡ Some answer → is_full (class_of answer) (channel_at t.channels (output_end site site.config.own)) ≡ false
    answer_place m e free answer sent =
        let classes = only_non_posted_are_answered w.agents.domains t.frame m flown e answer sent in
        let non_posted : class ≡ NonPosted = sym is.class_is ∙ classes.0 in
        is.places (output_end site site.config.own) (class_of answer)
        ∙ (ap (λ (k : Class). is_full k (channel_at w.channels (output_end site site.config.own))) classes.1 ∙ (ap (answer_waits w site) (sym non_posted) ∙ free))

    answered_links : (sent : Option Descriptor) → ((answer : Descriptor) → sent ≡ Some answer → is_full (class_of answer) (channel_at t.channels (output_end site site.config.own)) ≡ false) → Linked w.channels (answered_at t.channels (output_end site site.config.own) sent)
    answered_links None free = is.links
    answered_links (Some answer) free =
        let own = output_end site site.config.own in
        links_then Free Bring Touch w.channels t.channels _ is.links (links_put Free Bring Touch t.channels own answer (touch own refl) (free answer refl))

    refused_changes : (report : Option Violation) (o : Option Made) → made w.agents.domains t.frame.domain (entry.Refuse t.frame.number) ≡ o → answer_waits w site class ≡ false → Changes w (refused_by w site report t o)
    refused_changes report None e free = strayed_changes
    refused_changes report (Some m) e free = record { links = answered_links m.sent (answer_place m e free); boxes = boxes_same w.agents.outboxes }

    course_changes : (course : Forwarding) → Change w (passed_by w site class t course)
    course_changes (To output) = forward_changes output (is_full_at w site output class) (may_go_on w.routes.ports t.frame) refl
    course_changes (Stop report) = unless w _ (answer_waits w site class) (refused_changes report (made w.agents.domains t.frame.domain (entry.Refuse t.frame.number)) refl)
    course_changes NoCase = strayed_changes

  module _ (w : World) (kept : IsConsistent w) (class : Class) where
    passed_changes : (site : Site) (o : Option Taken) → ((end : LinkEnd) → end.node ≡ site.node → Touch end) → IfSome o (IsTaken w.channels class) → ((t : Taken) → o ≡ Some t → IsFlown w.agents.domains t.frame) → Change w (option_and_then (passed w site class) o)
    passed_changes site None touch is flown = tt
    passed_changes site (Some t) touch is flown = course_changes w site class t is (flown t refl) touch (course_of w.routes site.config t.frame.head)

    turned_changes : (found : Option ℕ) → ((i : ℕ) → found ≡ Some i → i < length w.tree.places) → ((end : LinkEnd) → input_number w.tree.places found ≡ Some end → Touch end) → ((end : LinkEnd) → input_number w.tree.places found ≡ Some end → Bring end)
        → ((end : LinkEnd) → port_node w.tree.places found ≡ Some end.node → Touch end) → Change w (passed_number w class found)
    turned_changes None less touch bring puts = tt
    turned_changes (Some i) less touch bring puts =
        let place = get_or w.tree.places i no_place in
        passed_changes (site_at w i place) (taken_at w.channels class place.input) (λ end node. puts end (ap (λ (n : ℕ). Some n) (sym node))) (is_taken w.channels class place.input touch bring)
        (λ t e. taken_flown w t kept (taken_out_of w class place.input t (inputs_there w i kept (less i refl)) e))

-- ---- one direction

send_becomes : (tree : Tree) (direction : Direction) (class : Class) (end : LinkEnd) (c : Channel) → sender_of tree.links direction ≡ Some end
    → IfSome (send class c) (Becomes (Frees tree (Send direction class)) (Brings tree (Send direction class)) (Touches tree (Send direction class)) end c)
send_becomes tree direction class end c from = by (eligible class c.egress)
  where
    room : (b : Bool) (d : Channel) → d.ingress ≡ c.ingress → IfSome (cond b (Some d) None) (Becomes (Frees tree (Send direction class)) (Brings tree (Send direction class)) (Touches tree (Send direction class)) end c)
    room false d same = tt
    room true d same = record { full = λ k full. inl from; ingress = inr same }

    by : (o : Option (Descriptor × List Descriptor)) → IfSome (sent_on c o) (Becomes (Frees tree (Send direction class)) (Brings tree (Send direction class)) (Touches tree (Send direction class)) end c)
    by None = tt
    by (Some t) = room (has_room c.left t.0.head.cost) (record { start = c.start; left = spent c.left t.0.head.cost; egress = t.1; wire = c.wire ++ t.0 ∷ []; ingress = c.ingress }) refl

receive_becomes : (tree : Tree) (direction : Direction) (end : LinkEnd) (c : Channel) → sender_of tree.links direction ≡ Some end
    → IfSome (deliver c) (Becomes (Frees tree (Take direction)) (Brings tree (Take direction)) (Touches tree (Take direction)) end c)
receive_becomes tree direction end c from = by c.wire
  where
    by : (wire : List Descriptor) → IfSome (received_of c wire) (Becomes (Frees tree (Take direction)) (Brings tree (Take direction)) (Touches tree (Take direction)) end c)
    by [] = tt
    by (frame ∷ frames) = record { full = λ k full. inr full; ingress = inl from }

updated_becomes : (tree : Tree) (direction : Direction) (end : LinkEnd) (c : Channel) → IfSome (update_fc c) (Becomes (Frees tree (Credit direction)) (Brings tree (Credit direction)) (Touches tree (Credit direction)) end c)
updated_becomes tree direction end c = by (same_counters c.left most)
  where
    most : Counters
    most = unspent c.start (c.wire ++ c.ingress)

    by : (b : Bool) → IfSome (cond b None (Some (record { start = c.start; left = most; egress = c.egress; wire = c.wire; ingress = c.ingress })))
        (Becomes (Frees tree (Credit direction)) (Brings tree (Credit direction)) (Touches tree (Credit direction)) end c)
    by true = tt
    by false = record { full = λ k full. inr full; ingress = inr refl }

-- ---- each event

module _ (w : World) (kept : IsConsistent w) (g : IsGuardedFabric w) where
  abbrev pub ChangesBy : Event → Option World → Type 0
  ChangesBy event all = Change (Frees w.tree event) (Brings w.tree event) (Touches w.tree event) (Fills event) w all

  pass_changes : (port : ℕ) (class : Class) → ChangesBy (Pass port class) (pass w port class)
  pass_changes port class =
      let event = Pass port class in
      subst (ChangesBy event) (sym (passes_as_turned w g port class))
      (turned_changes (Frees w.tree event) (Brings w.tree event) (Touches w.tree event) (Fills event) w kept class (index_of w.tree.places port)
      (λ i e. (position-Some (λ (place : PortPlace). place.id == port) w.tree.places i no_place e).0) (λ end from. inl from) (λ end from. from) (λ end node. inr node))

  pub event_changes : (event : Event) → ChangesBy event (effect w event)
  event_changes (Submit function bytes) =
      let event = Submit function bytes in
      begun (Frees w.tree event) (Brings w.tree event) (Touches w.tree event) (Fills event) w (origin.Function function) (made_at w.agents.domains (entry.Submit function bytes) (place_of_function w.agents.domains function)) refl
  event_changes (Tick function) =
      let event = Tick function in
      begun (Frees w.tree event) (Brings w.tree event) (Touches w.tree event) (Fills event) w (origin.Function function) (made_at w.agents.domains (entry.Tick function) (place_of_function w.agents.domains function)) refl
  event_changes (Mmio domain access) =
      let event = Mmio domain access in
      begun (Frees w.tree event) (Brings w.tree event) (Touches w.tree event) (Fills event) w (origin.Host domain) (made_at w.agents.domains (entry.Mmio access) (place_of w.agents.domains domain)) refl
  event_changes (Enter from class) =
      let event = Enter from class in
      let found = sender_of w.tree.links (link_of from) in
      let waiting = waiting_of w.agents.outboxes from in
      chained (Frees w.tree event) (Brings w.tree event) (Touches w.tree event) (Fills event) w (IsOfClass (Frees w.tree event) (Brings w.tree event) (Touches w.tree event) (Fills event) class) (entered_at w from class found) (eligible class waiting)
      (λ t is. entered (Frees w.tree event) (Brings w.tree event) (Touches w.tree event) (Fills event) w from class found t refl (λ end at. at) is)
      (of_class (Frees w.tree event) (Brings w.tree event) (Touches w.tree event) (Fills event) class waiting (eligible class waiting) refl)
  event_changes (Pass port class) = pass_changes port class
  event_changes (Send direction class) =
      let event = Send direction class in
      on_link (Frees w.tree event) (Brings w.tree event) (Touches w.tree event) (Fills event) w (sender_of w.tree.links direction) (send class) (λ end at. at) (λ end c at. send_becomes w.tree direction class end c at)
  event_changes (Take direction) =
      let event = Take direction in
      on_link (Frees w.tree event) (Brings w.tree event) (Touches w.tree event) (Fills event) w (sender_of w.tree.links direction) deliver (λ end at. at) (λ end c at. receive_becomes w.tree direction end c at)
  event_changes (Credit direction) =
      let event = Credit direction in
      on_link (Frees w.tree event) (Brings w.tree event) (Touches w.tree event) (Fills event) w (sender_of w.tree.links direction) update_fc (λ end at. at) (λ end c at. updated_becomes w.tree direction end c)
  event_changes (Root class) =
      let event = Root class in
      at_host_if (Frees w.tree event) (Brings w.tree event) (Touches w.tree event) (Fills event) w g class (taken w to_host class) (λ domain. (domain, refl)) (λ end at. inr at)
      (is_taken (Frees w.tree event) (Brings w.tree event) (Touches w.tree event) (Fills event) w.channels class (sender_of w.tree.links to_host) (λ end at. inl at) (λ end at. at))
  event_changes (Arrive function class) =
      let event = Arrive function class in
      arrive_if (Frees w.tree event) (Brings w.tree event) (Touches w.tree event) (Fills event) w g function class (is_some (place_of_function w.agents.domains function)) (taken w (to_function function) class) refl
      (is_taken (Frees w.tree event) (Brings w.tree event) (Touches w.tree event) (Fills event) w.channels class (sender_of w.tree.links (to_function function)) (λ end at. at) (λ end at. at))
