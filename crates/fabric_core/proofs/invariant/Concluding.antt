-- What a fabric keeps where the host or a function takes a packet.
use Rattle.std.proofs.Common.{◌≡◌, ℕ, Bool, true, false, cond, List, [], ◌∷◌, ◌++◌, Option, Some, None, refl, sym, ap, ◌∙◌, subst}
use Rattle.std.specs.Prelude.{IsSome, is_some, option_map, option_to_list}
use Rattle.std.specs.List.{flat_map}
use Rattle.fab_types.specs.declared.origin.Origin.{Origin}
use Rattle.fab_types.specs.declared.origin.Origin.TheVariants.{Function, Host}
use Rattle.fab_types.specs.declared.place.Place.TheVariants.{Ingress}
use Rattle.frame_log.specs.Descriptor.{Descriptor}
use Rattle.domain.specs.declared.entry.Entry.{Entry}
use Rattle.domain.specs.declared.entry.Entry.TheVariants.{Carry, Deliver}
use Rattle.domain.specs.Domains.{DomainView}
use Rattle.request_handling.specs.Heads.{descriptor_of}
use Rattle.domain.specs.Machine.{change}
use Rattle.domain_state.specs.State.{Change}
use Rattle.domains.specs.Agents.{AgentsView, carried_by_function, carried_by_host, delivered, emitted_if, is_function_of, is_of_domain, joined, outbox_place}
use Rattle.link.specs.Channels.{is_full, with_egress}
use Rattle.lane.specs.Lanes.{Class}
use Rattle.domains.specs.Domains.{Made, domain_at, made, place_of, place_of_function}
use Rattle.topology.specs.Links.{sender_of}
use Rattle.topology.specs.declared.nodes.LinkEnd.{LinkEnd}
use Rattle.interconnect.specs.Moves.{channel_at, put_at}
use Rattle.fabric_core.specs.Aliens.{alien_at_function, alien_at_host, or_else}
use Rattle.domains.specs.Aliens.{owner_of_frame}
use Rattle.received.specs.Receivers.{receiver_at_host}
use Rattle.fabric_core.specs.Arrivals.{Taken, arrive, arrived, arrived_by, agents_by_host, ended, received_at, from_host, relayed, arrive_at_host, arrived_at_host, arrived_at_host_by, taken, to_function, to_host}
use Rattle.received.specs.declared.received.Received.{Received}
use Rattle.received.specs.Received.{received_at_host}
use Rattle.fabric_core.specs.Invariant.{IsConsistent}
use Rattle.fabric_core.specs.Places.{frames_of, waiting_in}
use Rattle.fabric_core.specs.World.{World, with_both, with_channels, with_stray}
use Rattle.fabric_core.proofs.invariant.AlienEntries.{kept_alien}
use Rattle.fabric_core.proofs.invariant.Changing.{Changed, then_back, then_gained, unchanged}
use Rattle.fabric_core.proofs.invariant.Flying.{EndsOne, carry_ends, deliver_ends, deliver_silent}
use Rattle.fabric_core.proofs.invariant.Placing.{placed_after, placed_moved}
use Rattle.fabric_core.proofs.invariant.Renewing.{TakenOut, kept_with, placed_of, sender_there, taken_flown, taken_out_of}
use Rattle.fabric_core.proofs.invariant.Settling.{agents_settled, end_reflown, joined_origins, made_from, shares_stay}
use Rattle.fabric_core.proofs.invariant.Standing.{held, in_outboxes, in_strays, joined_waiting, on_links, put_there, same_lanes}

abbrev some : {A : Type 0} → A → Option A
some x = Some x

some_is : {A : Type 0} (x y : A) → some x ≡ some y → x ≡ y
some_is x y e = cc

-- ---- who takes it has no case for it

kept_stray : (w : World) (t : Taken) → IsConsistent w → TakenOut w t → IsConsistent (with_stray w t.channels t.frame)
kept_stray w t kept out =
    let strays = w.strays ++ t.frame ∷ [] in
    let moved =
    then_back (frames_of w) (held t.channels w.agents.outboxes w.ports w.strays) (held t.channels w.agents.outboxes w.ports strays) (t.frame ∷ [])
    (on_links w.channels t.channels w.agents.outboxes w.ports w.strays (t.frame ∷ []) [] out.changed) (in_strays t.channels w.agents.outboxes w.ports w.strays t.frame) in
    kept_with w t.channels w.agents w.violations strays kept out.outputs kept.settled kept.shares
    (placed_moved w.agents.domains (frames_of w) (held t.channels w.agents.outboxes w.ports strays) (placed_of w kept) moved)

-- ---- it goes down again

kept_relay : (w w' : World) (t : Taken) (class : Class) (end : LinkEnd) → IsConsistent w → TakenOut w t → sender_of w.tree.links from_host ≡ Some end → (b : Bool)
    → cond b None (some (with_channels w (put_at t.channels end t.frame))) ≡ Some w' → IsConsistent w'
kept_relay w w' t class end kept out from true is = absurd cc
kept_relay w w' t class end kept out from false is =
    let there = sender_there w t.channels from_host end kept out.outputs from in
    let channels = put_at t.channels end t.frame in
    let c = channel_at t.channels end in
    let moved =
    then_back (frames_of w) (held t.channels w.agents.outboxes w.ports w.strays) (held channels w.agents.outboxes w.ports w.strays) (t.frame ∷ [])
    (on_links w.channels t.channels w.agents.outboxes w.ports w.strays (t.frame ∷ []) [] out.changed)
    (on_links t.channels channels w.agents.outboxes w.ports w.strays [] (t.frame ∷ []) (put_there t.channels end t.frame there)) in
    subst IsConsistent (some_is (with_channels w channels) w' is)
    (kept_with w channels w.agents w.violations w.strays kept (same_lanes t.channels end (with_egress c (c.egress ++ t.frame ∷ [])) ∙ out.outputs) kept.settled kept.shares
    (placed_moved w.agents.domains (frames_of w) (held channels w.agents.outboxes w.ports w.strays) (placed_of w kept) moved))

kept_relayed : (w w' : World) (t : Taken) (class : Class) (found : Option LinkEnd) → IsConsistent w → TakenOut w t → sender_of w.tree.links from_host ≡ found → relayed w t class found ≡ Some w' → IsConsistent w'
kept_relayed w w' t class None kept out from is = absurd cc
kept_relayed w w' t class (Some end) kept out from is = kept_relay w w' t class end kept out from (is_full class (channel_at w.channels end)) is

-- ---- its home's machine has an entry of it

-- what the entry of an end makes, with these outboxes
pub kept_end : (w : World) (t : Taken) (entry : Entry) (m : Made) (boxes : List _) → IsConsistent w → TakenOut w t → ((d : DomainView) (c : Change) → change d.share d.state entry ≡ Some c → EndsOne d.state t.frame.number c)
    → made w.agents.domains t.frame.domain entry ≡ Some m → ((origin : Origin) → outbox_place boxes origin ≡ outbox_place w.agents.outboxes origin)
    → Changed (flat_map waiting_in w.agents.outboxes) (flat_map waiting_in boxes) [] (option_to_list m.sent) → IsConsistent (with_both w t.channels (record { domains = m.domains; outboxes = boxes }))
kept_end w t entry m boxes kept out ends e same joins =
    let agents : AgentsView = record { domains = m.domains; outboxes = boxes } in
    let c =
    then_gained (frames_of w) (held t.channels w.agents.outboxes w.ports w.strays) (held t.channels boxes w.ports w.strays) (t.frame ∷ []) (option_to_list m.sent)
    (on_links w.channels t.channels w.agents.outboxes w.ports w.strays (t.frame ∷ []) [] out.changed) (in_outboxes t.channels w.agents.outboxes boxes w.ports w.strays [] (option_to_list m.sent) joins) in
    kept_with w t.channels agents w.violations w.strays kept out.outputs (agents_settled w.agents boxes entry (place_of w.agents.domains t.frame.domain) m kept.settled same e)
    (shares_stay w.routes.ports w.agents.domains entry (place_of w.agents.domains t.frame.domain) m kept.shares e)
    (placed_after w.agents.domains m.domains (frames_of w) (held t.channels boxes w.ports w.strays) (t.frame ∷ []) (option_to_list m.sent) (placed_of w kept) c
    (end_reflown w.agents entry t.frame m kept.settled (taken_flown w t kept out) ends e))

-- it leaves these agents, or what becomes of it without such an entry
abbrev KeepsOr : World → Taken → Option AgentsView → Type 0
KeepsOr w t own = (other : Option AgentsView) → IsConsistent (ended w t other) → IsConsistent (ended w t (or_else own other))

-- a request reached its completer, whose answer waits of it
carried_with : (w : World) (t : Taken) (origin : Origin) (o : Option Made) → IsConsistent w → TakenOut w t → made w.agents.domains t.frame.domain (Carry t.frame.number) ≡ o
    → (IsSome o → IsSome (outbox_place w.agents.outboxes origin)) → KeepsOr w t (emitted_if w.agents origin o)
carried_with w t origin None kept out e boxed other otherwise = otherwise
carried_with w t origin (Some m) kept out e boxed other otherwise =
    kept_end w t (Carry t.frame.number) m (joined w.agents.outboxes origin m.sent) kept out (λ d c h. carry_ends d.share d.state t.frame.number c h) e (joined_origins w.agents.outboxes origin m.sent)
    (joined_waiting w.agents.outboxes origin m.sent (boxed refl))

carried_at_host : (w : World) (t : Taken) → IsConsistent w → TakenOut w t → KeepsOr w t (carried_by_host w.agents t.frame)
carried_at_host w t kept out = by (made w.agents.domains t.frame.domain (Carry t.frame.number)) refl
  where
    by : (o : Option Made) → made w.agents.domains t.frame.domain (Carry t.frame.number) ≡ o → KeepsOr w t (emitted_if w.agents (Host t.frame.domain) o)
    by None e = carried_with w t (Host t.frame.domain) None kept out e (λ h. absurd cc)
    by (Some m) e =
        let b = made_from w.agents.domains (Carry t.frame.number) (place_of w.agents.domains t.frame.domain) m e in
        carried_with w t (Host t.frame.domain) (Some m) kept out e (λ h. kept.settled.boxed (Host t.frame.domain) b.number b.at_number)

found_home : (ds : List DomainView) (domain : ℕ) (place : Option ℕ) → is_of_domain domain (domain_at ds place) ≡ true → (number : ℕ) × (place ≡ Some number)
found_home ds domain None h = absurd cc
found_home ds domain (Some number) h = (number, refl)

carried_at_function : (w : World) (t : Taken) (function : ℕ) → IsConsistent w → TakenOut w t → KeepsOr w t (carried_by_function w.agents function t.frame)
carried_at_function w t function kept out = by (is_function_of w.agents.domains function t.frame.domain) refl
  where
    by : (b : Bool) → is_function_of w.agents.domains function t.frame.domain ≡ b → KeepsOr w t (emitted_if w.agents (Function function) (cond b (made w.agents.domains t.frame.domain (Carry t.frame.number)) None))
    by true h =
        let home = found_home w.agents.domains t.frame.domain (place_of_function w.agents.domains function) h in
        carried_with w t (Function function) (made w.agents.domains t.frame.domain (Carry t.frame.number)) kept out refl (λ made. kept.settled.boxed (Function function) home.0 home.1)
    by false h = λ other otherwise. otherwise

-- nothing answers a completion
silent : (w : World) (t : Taken) (m : Made) → made w.agents.domains t.frame.domain (Deliver t.frame.number) ≡ Some m → m.sent ≡ None
silent w t m e =
    let b = made_from w.agents.domains (Deliver t.frame.number) (place_of w.agents.domains t.frame.domain) m e in
    ap (λ (x : Made). x.sent) (sym b.is) ∙ ap (option_map (descriptor_of b.d.share.domain _)) (deliver_silent b.d.share b.d.state t.frame.number b.c b.legal)

delivered_to : (w : World) (t : Taken) → IsConsistent w → TakenOut w t → KeepsOr w t (delivered w.agents t.frame)
delivered_to w t kept out = by (made w.agents.domains t.frame.domain (Deliver t.frame.number)) refl
  where
    by : (o : Option Made) → made w.agents.domains t.frame.domain (Deliver t.frame.number) ≡ o → KeepsOr w t (option_map (λ (m : Made). record { domains = m.domains; outboxes = w.agents.outboxes }) o)
    by None e = λ other otherwise. otherwise
    by (Some m) e = λ other otherwise.
        kept_end w t (Deliver t.frame.number) m w.agents.outboxes kept out (λ d c h. deliver_ends d.share d.state t.frame.number c h) e (λ origin. refl)
        (subst (λ (o : Option Descriptor). Changed (flat_map waiting_in w.agents.outboxes) (flat_map waiting_in w.agents.outboxes) [] (option_to_list o)) (sym (silent w t m e)) (unchanged (flat_map waiting_in w.agents.outboxes)))

-- ---- the host

-- an alien packet at the host, or a stray one
otherwise_at_host : (w : World) (t : Taken) → IsConsistent w → TakenOut w t → IsConsistent (ended w t (alien_at_host w.routes.ports w.agents t.frame))
otherwise_at_host w t kept out =
    let receiver = receiver_at_host w.routes.ports (owner_of_frame w.agents.domains) t.frame in
    kept_alien w t (Host receiver) (place_of w.agents.domains receiver) (Ingress to_host) kept out refl (kept_stray w t kept out)

ended_at_host : (w : World) (t : Taken) (e : Received) → IsConsistent w → TakenOut w t → IsConsistent (ended w t (agents_by_host w.routes.ports w.agents t.frame e))
ended_at_host w t Received.Relayed kept out = otherwise_at_host w t kept out
ended_at_host w t Received.Request kept out = carried_at_host w t kept out (alien_at_host w.routes.ports w.agents t.frame) (otherwise_at_host w t kept out)
ended_at_host w t Received.Completion kept out = delivered_to w t kept out (alien_at_host w.routes.ports w.agents t.frame) (otherwise_at_host w t kept out)
ended_at_host w t Received.Unknown kept out = otherwise_at_host w t kept out

at_host_as : (w w' : World) (class : Class) (t : Taken) (e : Received) → IsConsistent w → TakenOut w t → arrived_at_host_by w class t e ≡ Some w' → IsConsistent w'
at_host_as w w' class t Received.Relayed kept out is = kept_relayed w w' t class (sender_of w.tree.links from_host) kept out refl is
at_host_as w w' class t Received.Request kept out is = subst IsConsistent (some_is (ended w t (agents_by_host w.routes.ports w.agents t.frame Received.Request)) w' is) (ended_at_host w t Received.Request kept out)
at_host_as w w' class t Received.Completion kept out is = subst IsConsistent (some_is (ended w t (agents_by_host w.routes.ports w.agents t.frame Received.Completion)) w' is) (ended_at_host w t Received.Completion kept out)
at_host_as w w' class t Received.Unknown kept out is = subst IsConsistent (some_is (ended w t (agents_by_host w.routes.ports w.agents t.frame Received.Unknown)) w' is) (ended_at_host w t Received.Unknown kept out)

at_host_if : (w w' : World) (class : Class) (o : Option Taken) → IsConsistent w → ((t : Taken) → o ≡ Some t → TakenOut w t) → arrived_at_host w class o ≡ Some w' → IsConsistent w'
at_host_if w w' class None kept out is = absurd cc
at_host_if w w' class (Some t) kept out is = at_host_as w w' class t (received_at_host t.frame) kept (out t refl) is

pub kept_at_host : (w w' : World) (class : Class) → IsConsistent w → arrive_at_host w class ≡ Some w' → IsConsistent w'
kept_at_host w w' class kept is =
    at_host_if w w' class (taken w to_host class) kept (λ t e. taken_out_of w class (sender_of w.tree.links to_host) t (λ end from. sender_there w w.channels to_host end kept refl from) e) is

-- ---- a function

otherwise_at_function : (w : World) (function : ℕ) (t : Taken) → IsConsistent w → TakenOut w t → IsConsistent (ended w t (alien_at_function w.agents function t.frame))
otherwise_at_function w function t kept out =
    kept_alien w t (Function function) (place_of_function w.agents.domains function) (Ingress (to_function function)) kept out refl (kept_stray w t kept out)

arrived_as : (w : World) (function : ℕ) (t : Taken) (e : Received) → IsConsistent w → TakenOut w t → IsConsistent (arrived_by w function t e)
arrived_as w function t Received.Relayed kept out = otherwise_at_function w function t kept out
arrived_as w function t Received.Request kept out = carried_at_function w t function kept out (alien_at_function w.agents function t.frame) (otherwise_at_function w function t kept out)
arrived_as w function t Received.Completion kept out = delivered_to w t kept out (alien_at_function w.agents function t.frame) (otherwise_at_function w function t kept out)
arrived_as w function t Received.Unknown kept out = otherwise_at_function w function t kept out

arrived_if : (w w' : World) (function : ℕ) (o : Option Taken) → IsConsistent w → ((t : Taken) → o ≡ Some t → TakenOut w t) → arrived w function o ≡ Some w' → IsConsistent w'
arrived_if w w' function None kept out is = absurd cc
arrived_if w w' function (Some t) kept out is =
    let e = received_at w function t.frame in subst IsConsistent (some_is (arrived_by w function t e) w' is) (arrived_as w function t e kept (out t refl))

arrives_if : (w w' : World) (b : Bool) (o : Option World) → cond b o None ≡ Some w' → o ≡ Some w'
arrives_if w w' true o e = e
arrives_if w w' false o e = absurd cc

pub kept_arrive : (w w' : World) (function : ℕ) (class : Class) → IsConsistent w → arrive w function class ≡ Some w' → IsConsistent w'
kept_arrive w w' function class kept is =
    let direction = to_function function in
    arrived_if w w' function (taken w direction class) kept
    (λ t e. taken_out_of w class (sender_of w.tree.links direction) t (λ end from. sender_there w w.channels direction end kept refl from) e)
    (arrives_if w w' (is_some (place_of_function w.agents.domains function)) (arrived w function (taken w direction class)) is)
