-- The host that takes a packet leaves fewer moves: it sends it down again, or what answers it has fewer.
use Rattle.std.proofs.Common.{◌≡◌, ℕ, ◌<◌, ◌==◌, Bool, true, false, cond, Option, Some, None, refl, subst, arith}
use Rattle.std.specs.Prelude.{option_map}
use Rattle.std.proofs.lemmas.Option.{same_Some}
use Rattle.fab_types.specs.Id.{bus_of, host_of}
use Rattle.fab_types.specs.declared.head.Header.{Header}
use Rattle.fab_types.specs.declared.head.Header.TheVariants as header
use Rattle.fab_types.specs.declared.head.Parties.{Parties}
use Rattle.fab_types.specs.declared.origin.Origin.TheVariants.{Host}
use Rattle.fab_types.specs.declared.place.Place.TheVariants.{Ingress}
use Rattle.frame_log.specs.Descriptor.{Descriptor}
use Rattle.domain.specs.declared.entry.Entry.TheVariants as entry
use Rattle.domains.specs.Agents.{AgentsView, emitted_if}
use Rattle.domains.specs.Aliens.{aliened, owner_of_frame}
use Rattle.domains.specs.Domains.{Made, made, place_of}
use Rattle.lane.specs.Lanes.{Class}
use Rattle.link.specs.Channels.{is_full}
use Rattle.topology.specs.declared.nodes.LinkEnd.{LinkEnd}
use Rattle.topology.specs.Links.{sender_of}
use Rattle.interconnect.specs.Moves.{channel_at, put_at}
use Rattle.fabric_core.specs.Aliens.{alien_at_host, or_else}
use Rattle.received.specs.Receivers.{receiver_at_host}
use Rattle.fabric_core.specs.Invariant.{IsConsistent}
use Rattle.fabric_core.specs.MovesLeft.{is_request, moves_left, moves_of}
use Rattle.fabric_core.specs.Arrivals.{Taken, agents_by_host, ended, from_host, relayed, arrive_at_host, arrived_at_host, arrived_at_host_by, taken, taken_at, to_host}
use Rattle.received.specs.declared.received.Received.{Received}
use Rattle.received.specs.Received.{completion_at_host, received_at_host, received_by_host}
use Rattle.fabric_core.specs.World.{World, with_channels}
use Rattle.fabric_core.proofs.invariant.Renewing.{sender_there}
use Rattle.fabric_core.proofs.moves.Ahead.{IsLaid, down_few, request_up}
use Rattle.fabric_core.proofs.moves.Boxes.{if_any, waiting}
use Rattle.fabric_core.proofs.moves.Ports.{turns_down}
use Rattle.fabric_core.proofs.moves.Sent.{alien_made, alien_request, sent_by}
use Rattle.fabric_core.proofs.moves.Taking.{IsTakenFrom, gone_fewer, joined_fewer, on_fewer, stray_fewer, taken_by}

-- what it carries is a request
not_carried : (domain target : ℕ) → completion_at_host domain target ≡ Received.Request → ⊥
not_carried domain target e = go (bus_of target == 0) (target == host_of domain) e
  where
    go : (a b : Bool) → cond a (cond b Received.Completion Received.Unknown) Received.Relayed ≡ Received.Request → ⊥
    go true true e = cc
    go true false e = cc
    go false b e = cc

carried_request : (domain : ℕ) (parties : Parties) (h : Header) → received_by_host domain parties h ≡ Received.Request → is_request h ≡ true
carried_request domain parties header.Malformed e = absurd cc
carried_request domain parties (header.Memory requester address_type address) e = refl
carried_request domain parties (header.OtherRequest requester) e = refl
carried_request domain parties (header.Completion target relaxed_ordering) e = absurd (not_carried domain target e)

module _ (w : World) (kept : IsConsistent w) (laid : IsLaid w) where
  abbrev Fewer : World → Type 0
  Fewer v = moves_left v < moves_left w

  module _ (t : Taken) (taken : IsTakenFrom w to_host t) where
    -- what is sent in return for a request waits of a host
    sent_less : (domain : ℕ) (sent : Option Descriptor) → ((answer : Descriptor) → sent ≡ Some answer → is_request t.frame.head.header ≡ true) → if_any (waiting w.routes.switches w.agents.outboxes (Host domain)) sent < moves_of w.routes.switches 1 (Some to_host) t.frame
    sent_less domain None asks = omega arith
    sent_less domain (Some answer) asks =
        let more = request_up w.routes.switches to_host.lower t.frame (asks answer refl) in
        let few = down_few w.routes.switches laid.few from_host.lower answer in
        omega (arith, more, few)

    -- ---- an entry of it

    entered : (domain : ℕ) (o : Option Made) (other : Option AgentsView) → ((m : Made) (answer : Descriptor) → o ≡ Some m → m.sent ≡ Some answer → is_request t.frame.head.header ≡ true) → Fewer (ended w t other)
        → Fewer (ended w t (or_else (emitted_if w.agents (Host domain) o) other))
    entered domain None other asks otherwise = otherwise
    entered domain (Some m) other asks otherwise = joined_fewer w laid to_host t taken m.domains (Host domain) m.sent (sent_less domain m.sent (λ answer sent. asks m answer refl sent))

    alien : Fewer (ended w t (alien_at_host w.routes.ports w.agents t.frame))
    alien = go (aliened w.agents.domains receiver (Ingress to_host) t.frame) refl
      where
        receiver : ℕ
        receiver = receiver_at_host w.routes.ports (owner_of_frame w.agents.domains) t.frame

        go : (o : Option Made) → aliened w.agents.domains receiver (Ingress to_host) t.frame ≡ o → Fewer (ended w t (emitted_if w.agents (Host receiver) o))
        go None e = stray_fewer w laid to_host t taken
        go (Some m) e =
            joined_fewer w laid to_host t taken m.domains (Host receiver) m.sent
            (sent_less receiver m.sent (λ answer sent.
            let made = alien_made w.agents.domains t.frame taken.flown (Ingress to_host) (place_of w.agents.domains receiver) (Some m) e in
            alien_request w.agents.domains t.frame taken.flown (Ingress to_host) (place_of w.agents.domains receiver) answer
            (sent_by w.agents.domains (entry.Alien (Ingress to_host) taken.flown.emission.parties taken.flown.emission.bytes) (place_of w.agents.domains receiver) m answer made sent)))

    delivers : (o : Option Made) (other : Option AgentsView) → Fewer (ended w t other) → Fewer (ended w t (or_else (option_map (λ (m : Made). record { domains = m.domains; outboxes = w.agents.outboxes }) o) other))
    delivers None other otherwise = otherwise
    delivers (Some m) other otherwise = gone_fewer w laid to_host t taken m.domains

    ends : (r : Received) → received_at_host t.frame ≡ r → Fewer (ended w t (agents_by_host w.routes.ports w.agents t.frame r))
    ends Received.Relayed e = alien
    ends Received.Request e =
        entered t.frame.domain (made w.agents.domains t.frame.domain (entry.Carry t.frame.number)) (alien_at_host w.routes.ports w.agents t.frame)
        (λ m answer is sent. carried_request t.frame.domain t.frame.head.parties t.frame.head.header e) alien
    ends Received.Completion e = delivers (made w.agents.domains t.frame.domain (entry.Deliver t.frame.number)) (alien_at_host w.routes.ports w.agents t.frame) alien
    ends Received.Unknown e = alien

    -- ---- it goes down again

    relays : (end : LinkEnd) → sender_of w.tree.links from_host ≡ Some end → (full : Bool) (v : World) → cond full None (Some (with_channels w (put_at t.channels end t.frame))) ≡ Some v → Fewer v
    relays end from true v e = absurd cc
    relays end from false v e =
        let all = on_fewer w laid to_host t taken end (sender_there w t.channels from_host end kept taken.out.outputs from) (from_host, from, turns_down w.routes.switches from_host.lower to_host.lower laid.few) in
        subst Fewer (same_Some _ v e) (omega (arith, all))

    relays_from : (class : Class) (found : Option LinkEnd) → sender_of w.tree.links from_host ≡ found → (v : World) → relayed w t class found ≡ Some v → Fewer v
    relays_from class None from v e = absurd cc
    relays_from class (Some end) from v e = relays end from (is_full class (channel_at w.channels end)) v e

    takes : (class : Class) (r : Received) → received_at_host t.frame ≡ r → (v : World) → arrived_at_host_by w class t r ≡ Some v → Fewer v
    takes class Received.Relayed is v e = relays_from class (sender_of w.tree.links from_host) refl v e
    takes class Received.Request is v e = subst Fewer (same_Some _ v e) (ends Received.Request is)
    takes class Received.Completion is v e = subst Fewer (same_Some _ v e) (ends Received.Completion is)
    takes class Received.Unknown is v e = subst Fewer (same_Some _ v e) (ends Received.Unknown is)

  by_taken : (class : Class) (o : Option Taken) → ((t : Taken) → o ≡ Some t → IsTakenFrom w to_host t) → (v : World) → arrived_at_host w class o ≡ Some v → Fewer v
  by_taken class None taken v e = absurd cc
  by_taken class (Some t) taken v e = takes t (taken t refl) class (received_at_host t.frame) refl v e

  by_sender : (class : Class) (found : Option LinkEnd) → sender_of w.tree.links to_host ≡ found → (v : World) → arrived_at_host w class (taken_at w.channels class found) ≡ Some v → Fewer v
  by_sender class None from v e = absurd cc
  by_sender class (Some end) from v e = by_taken class (taken_at w.channels class (Some end)) (λ t is. taken_by w kept laid class to_host end from t is) v e

  pub at_host_fewer : (class : Class) (v : World) → arrive_at_host w class ≡ Some v → Fewer v
  at_host_fewer class v e = by_sender class (sender_of w.tree.links to_host) refl v e
