-- What becomes of a packet that was taken from a link.
use Rattle.std.proofs.Common.{◌≡◌, ◌≢◌, ℕ, Bool, true, false, not, cond, List, [], ◌∷◌, ◌++◌, Option, Some, None, Result, Ok, Err, refl, sym, ap, ◌∙◌, subst}
use Rattle.std.specs.Prelude.{◌==◌}
use Rattle.std.specs.Option.{IsSome, is_some, option_map}
use Rattle.fab_types.specs.Id.{bus_of, host_of}
use Rattle.fab_types.specs.declared.class.Class.{Class}
use Rattle.fab_types.specs.declared.head.Head.{Head}
use Rattle.fab_types.specs.declared.head.Header.{Header}
use Rattle.fab_types.specs.declared.head.Header.TheVariants.{Malformed, Memory, OtherRequest, Completion}
use Rattle.fab_types.specs.declared.head.Parties.{Parties}
use Rattle.fab_types.specs.declared.head.Parties.TheVariants.{Upward, Downward, Answer}
use Rattle.fab_types.specs.declared.outcome.Outcome.{Outcome}
use Rattle.fab_types.specs.declared.outcome.Outcome.TheVariants.{Moved, Idle, Refused, NoMemory}
use Rattle.fab_types.specs.declared.violation.Violation.{Violation}
use Rattle.frame_log.specs.Descriptor.{Descriptor}
use Rattle.frame_log.specs.declared.fault.FrameFault.{FrameFault}
use Rattle.frame_log.specs.declared.fault.FrameFault.TheVariants as fault
use Rattle.domains.specs.Agents.{AgentsView}
use Rattle.link.specs.Channels.{Channel}
use Rattle.link.specs.Simplexes.{simplex_restored}
use Rattle.lane.specs.Lanes.{eligible}
use Rattle.domains.specs.Domains.{place_of_function}
use Rattle.topology.specs.Links.{sender_of}
use Rattle.topology.specs.declared.nodes.LinkEnd.{LinkEnd}
use Rattle.interconnect.specs.Moves.{channel_at, left_at}
use Rattle.interconnect.specs.Views.{InterconnectView, IsSameRest, channels, simplex_at}
use Rattle.fabric_core.specs.declared.event.Event.{Event}
use Rattle.fabric_core.specs.declared.event.Event.TheVariants.{Arrive, Root}
use Rattle.fabric_core.specs.Arrivals.{Taken, arrived, arrived_by, agents_by_function, agents_by_host, ended, received_in, arrived_at_host, arrived_at_host_by, taken_at, taken_from, to_function, to_host}
use Rattle.received.specs.declared.received.Received.{Received}
use Rattle.received.specs.Received.{is_relayed, received_at_host, received_by_host, request_at_host}
use Rattle.fabric_core.specs.Events.{StepsTo, effect}
use Rattle.fabric_core.specs.Settling.{EntryWants, IsBack, Settles, Strays, Takes, entry_by_function, entry_by_host}
use Rattle.fabric_core.specs.Wanting.{ArriveWants, OfTaken, HostWants, HostWantsBy, WantsMemory}
use Rattle.fabric_core.specs.World.{World, with_channels, world_over}
use Rattle.fabric_core.proofs.effect.Outputs.{left_back}
use Rattle.fabric_core.proofs.effect.Over.{over_channels, over_same, rest_after}

-- a packet was taken at an end, and can be put back
pub record Took (h new : InterconnectView) (end : LinkEnd) (class : Class) (frame : Descriptor) : Type 0 where
  pub left : List Descriptor
  pub found : eligible class (channel_at (channels h) end).ingress ≡ Some (frame, left)
  pub now : channels new ≡ left_at (channels h) end left
  pub restores : simplex_restored (simplex_at new.nodes end) frame ≡ Some (channel_at (channels h) end).ingress
  pub rest : IsSameRest h new

-- its head was looked at before
pub took_after : (h looked new : InterconnectView) (end : LinkEnd) (class : Class) (frame : Descriptor) → channels looked ≡ channels h → IsSameRest h looked → Took looked new end class frame → Took h new end class frame
took_after h looked new end class frame same rest t = record {
  left = t.left;
  found = subst (λ (cs : List (List Channel)). eligible class (channel_at cs end).ingress ≡ Some (frame, t.left)) same t.found;
  now = t.now ∙ ap (λ (cs : List (List Channel)). left_at cs end t.left) same;
  restores = t.restores ∙ ap (λ (cs : List (List Channel)). Some (channel_at cs end).ingress) same;
  rest = rest_after h looked new rest t.rest;
}

module _ (h taking new : InterconnectView) (agents agents' : AgentsView) (violations : List Violation) (strays strays' : List Descriptor) (end : LinkEnd) (class : Class) (frame : Descriptor) (all : Option AgentsView) (wants : Type 0)
    (stray_wants : all ≡ None → wants) (t : Took h taking end class frame) where
  abbrev here : World
  here = world_over h agents violations strays

  abbrev there : World
  there = world_over new agents' violations strays'

  abbrev taken : Taken
  taken = record { frame = frame; channels = left_at (channels h) end t.left }

  -- the packet ended, or nothing changed for want of memory, which it may want
  abbrev Ends : Outcome → Type 0
  Ends Moved = there ≡ ended here taken all
  Ends Idle = ⊥
  Ends (Refused fault) = ⊥
  Ends NoMemory = wants × (there ≡ here)

  -- it was put back
  back : IsBack taking new end frame → agents' ≡ agents → strays' ≡ strays → there ≡ here
  back b same kept =
      ap (λ (e : AgentsView). world_over new e violations strays') same
      ∙ (ap (λ (s : List Descriptor). world_over new agents violations s) kept
      ∙ over_same h new agents violations strays (rest_after h taking new t.rest b.rest)
      (b.waiting (channel_at (channels h) end).ingress t.restores
      ∙ (ap (λ (cs : List (List Channel)). left_at cs end (channel_at (channels h) end).ingress) t.now ∙ left_back (channels h) end t.left)))

  -- it is gone from the link
  gone : (e : AgentsView) (s : List Descriptor) → new ≡ taking → agents' ≡ e → strays' ≡ s → there ≡ with_channels (world_over h e violations s) (left_at (channels h) end t.left)
  gone e s same is kept =
      ap (λ (x : InterconnectView). world_over x agents' violations strays') same
      ∙ (ap (λ (x : AgentsView). world_over taking x violations strays') is
      ∙ (ap (λ (x : List Descriptor). world_over taking e violations x) kept
      ∙ over_channels h taking (left_at (channels h) end t.left) e violations s t.rest t.now))

  strayed : (outcome : Outcome) (given : Descriptor) → given ≡ frame → all ≡ None → agents' ≡ agents → Strays taking new strays strays' end given outcome → Ends outcome
  strayed Moved given is none same s =
      gone agents (strays ++ given ∷ []) s.0 same s.1
      ∙ (ap (λ (f : Descriptor). with_channels (world_over h agents violations (strays ++ f ∷ [])) (left_at (channels h) end t.left)) is ∙ ap (ended here taken) (sym none))
  strayed Idle given is none same s = s
  strayed (Refused fault) given is none same s = s
  strayed NoMemory given is none same s = (stray_wants none, back (subst (IsBack taking new end) is s.0) same s.1)

  pub settled : (outcome : Outcome) (result : Result (Unit {0}) FrameFault) → Takes all wants frame agents agents' result → Settles taking new strays strays' end outcome result → Ends outcome
  settled outcome (Ok done) takes s = subst Ends (sym s.0) (gone agents' strays s.1 refl s.2 ∙ ap (ended here taken) (sym takes))
  settled outcome (Err (fault.Stray given)) takes s = strayed outcome given takes.0 takes.1 takes.2 s
  settled outcome (Err (fault.NoMemory given)) takes s = subst Ends (sym s.0) (takes.2, back (subst (IsBack taking new end) takes.0 s.1) takes.1 s.2)

  -- the step of an event that ends it
  pub ends_step : (event : Event) (outcome : Outcome) → effect here event ≡ Some (ended here taken all) → (wants → WantsMemory here event) → Ends outcome → StepsTo here event outcome there
  ends_step event Moved effects memory ends = effects ∙ ap (λ (w : World). Some w) (sym ends)
  ends_step event Idle effects memory ends = absurd ends
  ends_step event (Refused fault) effects memory ends = absurd ends
  ends_step event NoMemory effects memory ends = (subst IsSome (sym effects) refl, memory ends.0, ends.1)

-- ---- at the host

by_received : (w : World) (class : Class) (t : Taken) (x : Received) → x ≢ Received.Relayed → arrived_at_host_by w class t x ≡ Some (ended w t (agents_by_host w.routes.ports w.agents t.frame x))
by_received w class t Received.Relayed other = absurd (other refl)
by_received w class t Received.Request other = refl
by_received w class t Received.Completion other = refl
by_received w class t Received.Unknown other = refl

host_wants_by : (w : World) (t : Taken) (x : Received) → x ≢ Received.Relayed → EntryWants (entry_by_host w.agents.domains t.frame x) → HostWantsBy w t x
host_wants_by w t Received.Relayed other wants = absurd (other refl)
host_wants_by w t Received.Request other wants = wants
host_wants_by w t Received.Completion other wants = wants
host_wants_by w t Received.Unknown other wants = wants

request_stays : (parties : Parties) → request_at_host parties ≢ Received.Relayed
request_stays (Upward function) e = absurd cc
request_stays (Downward function) e = absurd cc
request_stays (Answer answerer addressee) e = absurd cc

completion_stays : (ours own : Bool) → not ours ≡ false → cond ours (cond own Received.Completion Received.Unknown) Received.Relayed ≢ Received.Relayed
completion_stays true true h e = absurd cc
completion_stays true false h e = absurd cc
completion_stays false own h e = absurd cc

stays : (domain : ℕ) (parties : Parties) (header : Header) → is_relayed header ≡ false → received_by_host domain parties header ≢ Received.Relayed
stays domain parties Malformed h = λ e. absurd cc
stays domain parties (Memory requester address_type address) h = request_stays parties
stays domain parties (OtherRequest requester) h = request_stays parties
stays domain parties (Completion target relaxed_ordering) h = completion_stays (bus_of target == 0) (target == host_of domain) h

-- what was found at the sender of a direction
found_at : (cs : List (List Channel)) (class : Class) (end : LinkEnd) (o : Option LinkEnd) (frame : Descriptor) (left : List Descriptor) → Some end ≡ o → eligible class (channel_at cs end).ingress ≡ Some (frame, left)
    → taken_at cs class o ≡ Some (record { frame = frame; channels = left_at cs end left })
found_at cs class end o frame left is found = ap (taken_at cs class) (sym is) ∙ ap (option_map (taken_from cs end)) found

pub host_ends : (h taking : InterconnectView) (agents : AgentsView) (violations : List Violation) (strays : List Descriptor) (end : LinkEnd) (class : Class) (frame : Descriptor) (t : Took h taking end class frame)
    → Some end ≡ sender_of h.tree.links to_host → is_relayed frame.head.header ≡ false
    → effect (world_over h agents violations strays) (Root class) ≡ Some (ended (world_over h agents violations strays) (record { frame = frame; channels = left_at (channels h) end t.left }) (agents_by_host h.routes.ports agents frame (received_at_host frame)))
host_ends h taking agents violations strays end class frame t is here =
    let w = world_over h agents violations strays in
    ap (arrived_at_host w class) (found_at (channels h) class end (sender_of h.tree.links to_host) frame t.left is t.found)
    ∙ by_received w class (record { frame = frame; channels = left_at (channels h) end t.left }) (received_at_host frame) (stays frame.domain frame.head.parties frame.head.header here)

-- what wants memory there
pub host_wants : (h taking : InterconnectView) (agents : AgentsView) (violations : List Violation) (strays : List Descriptor) (end : LinkEnd) (class : Class) (frame : Descriptor) (t : Took h taking end class frame)
    → Some end ≡ sender_of h.tree.links to_host → is_relayed frame.head.header ≡ false → EntryWants (entry_by_host agents.domains frame (received_at_host frame))
    → WantsMemory (world_over h agents violations strays) (Root class)
host_wants h taking agents violations strays end class frame t is here wants =
    let w = world_over h agents violations strays in
    let taken : Taken = record { frame = frame; channels = left_at (channels h) end t.left } in
    subst (OfTaken (HostWants w)) (sym (found_at (channels h) class end (sender_of h.tree.links to_host) frame t.left is t.found))
    (host_wants_by w taken (received_at_host frame) (stays frame.domain frame.head.parties frame.head.header here) wants)

-- ---- at a function

arrived_is : (w : World) (function : ℕ) (t : Taken) (x : Received) → arrived_by w function t x ≡ ended w t (agents_by_function w.agents function t.frame x)
arrived_is w function t Received.Relayed = refl
arrived_is w function t Received.Request = refl
arrived_is w function t Received.Completion = refl
arrived_is w function t Received.Unknown = refl

pub arrive_ends : (h taking : InterconnectView) (agents : AgentsView) (violations : List Violation) (strays : List Descriptor) (function : ℕ) (end : LinkEnd) (class : Class) (frame : Descriptor) (t : Took h taking end class frame)
    → Some end ≡ sender_of h.tree.links (to_function function) → is_some (place_of_function agents.domains function) ≡ true
    → effect (world_over h agents violations strays) (Arrive function class)
    ≡ Some (ended (world_over h agents violations strays) (record { frame = frame; channels = left_at (channels h) end t.left }) (agents_by_function agents function frame (received_in h.routes.ports agents.domains function frame)))
arrive_ends h taking agents violations strays function end class frame t is there =
    let w = world_over h agents violations strays in
    ap (λ (b : Bool). cond b (arrived w function (taken_at w.channels class (sender_of w.tree.links (to_function function)))) None) there
    ∙ (ap (arrived w function) (found_at (channels h) class end (sender_of h.tree.links (to_function function)) frame t.left is t.found)
    ∙ ap (λ (x : World). Some x) (arrived_is w function (record { frame = frame; channels = left_at (channels h) end t.left }) (received_in h.routes.ports agents.domains function frame)))

pub arrive_wants : (h taking : InterconnectView) (agents : AgentsView) (violations : List Violation) (strays : List Descriptor) (function : ℕ) (end : LinkEnd) (class : Class) (frame : Descriptor) (t : Took h taking end class frame)
    → Some end ≡ sender_of h.tree.links (to_function function) → EntryWants (entry_by_function agents.domains function frame (received_in h.routes.ports agents.domains function frame))
    → WantsMemory (world_over h agents violations strays) (Arrive function class)
arrive_wants h taking agents violations strays function end class frame t is wants =
    subst (OfTaken (ArriveWants (world_over h agents violations strays) function)) (sym (found_at (channels h) class end (sender_of h.tree.links (to_function function)) frame t.left is t.found)) wants

-- the head that was looked at is that of the packet that was taken
pub looked_head : (h : InterconnectView) (end : LinkEnd) (class : Class) (frame : Descriptor) (left : List Descriptor) (head : Head) → eligible class (channel_at (channels h) end).ingress ≡ Some (frame, left)
    → Some head ≡ option_map (λ taken. taken.0.head) (eligible class (channel_at (channels h) end).ingress) → frame.head ≡ head
looked_head h end class frame left head found looked =
    let e : ◌≡◌ {A = Option Head} (Some frame.head) (Some head) = sym (looked ∙ ap (option_map (λ (taken : Descriptor × List Descriptor). taken.0.head)) found) in
    cc
