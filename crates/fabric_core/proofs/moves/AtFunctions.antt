-- A function that takes a packet leaves fewer moves: what answers that has fewer, and is no request.
use Rattle.std.proofs.Common.{◌≡◌, ℕ, ◌<◌, Bool, true, false, cond, List, Option, Some, None, refl, sym, ap, ◌∙◌, subst, arith}
use Rattle.std.specs.Prelude.{is_some, option_map}
use Rattle.std.proofs.lemmas.Option.{same_Some}
use Rattle.fab_types.specs.declared.head.AddressType.{AddressType}
use Rattle.fab_types.specs.declared.head.Header.{Header}
use Rattle.fab_types.specs.declared.head.Header.TheVariants as header
use Rattle.fab_types.specs.declared.head.Parties.{Parties}
use Rattle.fab_types.specs.declared.head.Parties.TheVariants.{Upward, Downward, Answer}
use Rattle.fab_types.specs.declared.origin.Origin.TheVariants.{Function}
use Rattle.fab_types.specs.declared.place.Place.TheVariants.{Ingress}
use Rattle.frame_log.specs.Descriptor.{Descriptor}
use Rattle.platform.specs.declared.parts.DownstreamPort.{DownstreamPort}
use Rattle.platform.specs.Egress.{goes_directly}
use Rattle.tlp_view.specs.Malformed.{malformed}
use Rattle.domain.specs.declared.entry.Entry.TheVariants as entry
use Rattle.domain.specs.Domains.{DomainView}
use Rattle.domain.specs.Machine.{change, ended as ended_in}
use Rattle.domain_state.specs.Ends.{conclude}
use Rattle.domain_state.specs.State.{Change, item_at}
use Rattle.domains.specs.Agents.{emitted_if, is_function_of}
use Rattle.domains.specs.Aliens.{aliened_at}
use Rattle.domains.specs.Domains.{Made, made, place_of, place_of_function}
use Rattle.lane.specs.Lanes.{Class}
use Rattle.request_handling.specs.declared.handling.Handling.{Handling}
use Rattle.request_handling.specs.Carries.{carriage_end, carriage_of}
use Rattle.request_handling.specs.Emissions.{Emission}
use Rattle.request_handling.specs.Heads.{header_unless}
use Rattle.topology.specs.declared.nodes.LinkEnd.{LinkEnd}
use Rattle.topology.specs.Links.{sender_of}
use Rattle.fabric_core.specs.Aliens.{alien_at_function, or_else, to_function}
use Rattle.fabric_core.specs.Events.{link_of}
use Rattle.fabric_core.specs.Invariant.{IsConsistent}
use Rattle.fabric_core.specs.MovesLeft.{is_request, moves_left, moves_of}
use Rattle.fabric_core.specs.Arrivals.{Taken, arrive, arrived, arrived_by, ended, received_at, taken, taken_at}
use Rattle.received.specs.declared.received.Received.{Received}
use Rattle.received.specs.Received.{received_by_function}
use Rattle.fabric_core.specs.World.{World}
use Rattle.fabric_core.proofs.invariant.Settling.{share_at}
use Rattle.fabric_core.proofs.moves.Ahead.{IsLaid, quiet_few, request_more}
use Rattle.fabric_core.proofs.moves.Boxes.{if_any, waiting}
use Rattle.fabric_core.proofs.moves.AlienReplies.{alien_quiet}
use Rattle.fabric_core.proofs.moves.Replies.{IsElsewhere, IsQuiet, carriage_quiet, goes_directly_elsewhere}
use Rattle.fabric_core.proofs.moves.Sent.{alien_made, alien_request, flying, sent_by, sent_quiet}
use Rattle.fabric_core.proofs.moves.Taking.{IsTakenFrom, gone_fewer, joined_fewer, stray_fewer, taken_by}

-- ---- what a function carries

-- a request that doesn't go to the host
record IsCarried (ports : List DownstreamPort) (bytes : List ℕ) (parties : Parties) (h : Header) : Type 0 where
  asks : is_request h ≡ true
  elsewhere : IsElsewhere ports bytes parties

abbrev header_of : List ℕ → Parties → Header
header_of bytes parties = header_unless (malformed bytes) parties bytes

module _ (ports : List DownstreamPort) (function : ℕ) (bytes : List ℕ) where
  directly : (sender requester address : ℕ) (address_type : AddressType) (b : Bool) → goes_directly ports sender address function ≡ b → cond b Received.Request Received.Unknown ≡ Received.Request → header_of bytes (Upward sender) ≡ header.Memory requester address_type address
      → IsCarried ports bytes (Upward sender) (header.Memory requester address_type address)
  directly sender requester address address_type true e is same = record { asks = refl; elsewhere = goes_directly_elsewhere ports sender bytes (Upward sender) requester address address_type function same e }
  directly sender requester address address_type false e is same = absurd cc

  carried : (parties : Parties) (h : Header) → header_of bytes parties ≡ h → received_by_function ports function parties h ≡ Received.Request → IsCarried ports bytes parties h
  carried parties header.Malformed same e = absurd cc
  carried (Upward sender) (header.Memory requester address_type address) same e = directly sender requester address address_type (goes_directly ports sender address function) refl e same
  carried (Downward completer) (header.Memory requester address_type address) same e = record { asks = refl; elsewhere = tt }
  carried (Answer answerer addressee) (header.Memory requester address_type address) same e = absurd cc
  carried (Upward sender) (header.OtherRequest requester) same e = absurd cc
  carried (Downward completer) (header.OtherRequest requester) same e = record { asks = refl; elsewhere = tt }
  carried (Answer answerer addressee) (header.OtherRequest requester) same e = absurd cc
  carried parties (header.Completion target relaxed_ordering) same e = absurd cc

-- what is sent in return for it is no request
ends_quiet : (d : DomainView) (n : ℕ) (e : Emission) (a : Option Handling) (c : Change) → ((x : Handling) → a ≡ Some x → IsQuiet x.reply) → ended_in d.state n (Some e) a ≡ Some c → IsQuiet c.emission
ends_quiet d n e None c quiet is = absurd cc
ends_quiet d n e (Some x) c quiet is = subst (λ (y : Change). IsQuiet y.emission) (same_Some (conclude d.state n e.bytes x) c is) (quiet x refl)

carry_quiet : (d : DomainView) (n : ℕ) (e : Emission) (c : Change) → IsElsewhere d.share.ports e.bytes e.parties → item_at d.state.flight n ≡ Some e → change d.share d.state (entry.Carry n) ≡ Some c → IsQuiet c.emission
carry_quiet d n e c elsewhere flown legal =
    ends_quiet d n e (carriage_of d.share d.state.frames d.state.registers e.bytes e.parties) c
    (λ a is. carriage_quiet d.share d.state.frames d.state.registers e.bytes e.parties a elsewhere is)
    (ap (λ (o : Option Emission). ended_in d.state n o (carriage_end d.share d.state.frames d.state.registers o)) (sym flown) ∙ legal)

module _ (w : World) (kept : IsConsistent w) (laid : IsLaid w) (function : ℕ) where
  abbrev Fewer : World → Type 0
  Fewer v = moves_left v < moves_left w

  module _ (t : Taken) (taken : IsTakenFrom w (to_function function) t) where
    -- what is sent in return waits of the function
    sent_less : (sent : Option Descriptor) → ((answer : Descriptor) → sent ≡ Some answer → (is_request answer.head.header ≡ false) × (is_request t.frame.head.header ≡ true))
        → if_any (waiting w.routes.switches w.agents.outboxes (Function function)) sent < moves_of w.routes.switches 1 (Some (to_function function)) t.frame
    sent_less None are = omega arith
    sent_less (Some answer) are =
        let both = are answer refl in
        let few = quiet_few w.routes.switches laid.few 4 (Some (link_of (Function function))) answer both.0 in
        let more = request_more w.routes.switches (to_function function) t.frame both.1 in
        omega (arith, few, more)

    -- ---- an alien packet, or a stray one

    alien : Fewer (ended w t (alien_at_function w.agents function t.frame))
    alien = go (aliened_at w.agents.domains place (Ingress (to_function function)) t.frame) refl
      where
        place : Option ℕ
        place = place_of_function w.agents.domains function

        go : (o : Option Made) → aliened_at w.agents.domains place (Ingress (to_function function)) t.frame ≡ o → Fewer (ended w t (emitted_if w.agents (Function function) o))
        go None e = stray_fewer w laid (to_function function) t taken
        go (Some m) e =
            joined_fewer w laid (to_function function) t taken m.domains (Function function) m.sent
            (sent_less m.sent (λ answer sent.
            let made = alien_made w.agents.domains t.frame taken.flown (Ingress (to_function function)) place (Some m) e in
            let s = sent_by w.agents.domains (entry.Alien (Ingress (to_function function)) taken.flown.emission.parties taken.flown.emission.bytes) place m answer made sent in (
              sent_quiet w.agents.domains (entry.Alien (Ingress (to_function function)) taken.flown.emission.parties taken.flown.emission.bytes) place answer s
                  (alien_quiet s.d.share s.d.state function taken.flown.emission.parties taken.flown.emission.bytes s.c s.legal),
              alien_request w.agents.domains t.frame taken.flown (Ingress (to_function function)) place answer s,
            )))

    -- ---- an entry of its home

    carried_here : received_by_function w.routes.ports function t.frame.head.parties t.frame.head.header ≡ Received.Request → IsCarried w.routes.ports taken.flown.emission.bytes t.frame.head.parties t.frame.head.header
    carried_here e =
        let parties : t.frame.head.parties ≡ taken.flown.emission.parties = ap (λ (x : Descriptor). x.head.parties) taken.flown.shown in
        let same : header_of taken.flown.emission.bytes t.frame.head.parties ≡ t.frame.head.header = ap (header_of taken.flown.emission.bytes) parties ∙ sym (ap (λ (x : Descriptor). x.head.header) taken.flown.shown) in
        carried w.routes.ports function taken.flown.emission.bytes t.frame.head.parties t.frame.head.header same e

    answered : received_by_function w.routes.ports function t.frame.head.parties t.frame.head.header ≡ Received.Request → (m : Made) (answer : Descriptor) → made w.agents.domains t.frame.domain (entry.Carry t.frame.number) ≡ Some m → m.sent ≡ Some answer
        → (is_request answer.head.header ≡ false) × (is_request t.frame.head.header ≡ true)
    answered received m answer e sent =
        let here = carried_here received in
        let s = sent_by w.agents.domains (entry.Carry t.frame.number) (place_of w.agents.domains t.frame.domain) m answer e sent in
        let flown = flying w.agents.domains t.frame taken.flown s.number s.d s.at_number s.at in
        let ports : s.d.share.ports ≡ w.routes.ports = share_at w.routes.ports w.agents.domains s.number s.d kept.shares s.at in
        let parties : t.frame.head.parties ≡ taken.flown.emission.parties = ap (λ (x : Descriptor). x.head.parties) taken.flown.shown in
        let elsewhere : IsElsewhere s.d.share.ports taken.flown.emission.bytes taken.flown.emission.parties =
        subst (λ (p : List DownstreamPort). IsElsewhere p taken.flown.emission.bytes taken.flown.emission.parties) (sym ports) (subst (IsElsewhere w.routes.ports taken.flown.emission.bytes) parties here.elsewhere) in (
          sent_quiet w.agents.domains (entry.Carry t.frame.number) (place_of w.agents.domains t.frame.domain) answer s (carry_quiet s.d t.frame.number taken.flown.emission s.c elsewhere flown s.legal),
          here.asks,
        )

    enters : (b : Bool) → (b ≡ true → received_by_function w.routes.ports function t.frame.head.parties t.frame.head.header ≡ Received.Request)
        → Fewer (ended w t (or_else (emitted_if w.agents (Function function) (cond b (made w.agents.domains t.frame.domain (entry.Carry t.frame.number)) None)) (alien_at_function w.agents function t.frame)))
    enters false received = alien
    enters true received = go (made w.agents.domains t.frame.domain (entry.Carry t.frame.number)) refl
      where
        go : (o : Option Made) → made w.agents.domains t.frame.domain (entry.Carry t.frame.number) ≡ o → Fewer (ended w t (or_else (emitted_if w.agents (Function function) o) (alien_at_function w.agents function t.frame)))
        go None e = alien
        go (Some m) e = joined_fewer w laid (to_function function) t taken m.domains (Function function) m.sent (sent_less m.sent (λ answer sent. answered (received refl) m answer e sent))

    delivers : (o : Option Made) → Fewer (ended w t (or_else (option_map (λ (m : Made). record { domains = m.domains; outboxes = w.agents.outboxes }) o) (alien_at_function w.agents function t.frame)))
    delivers None = alien
    delivers (Some m) = gone_fewer w laid (to_function function) t taken m.domains

    -- of its own domain it has the entry of what was received
    in_domain : (b : Bool) (r : Received) → cond b r Received.Unknown ≡ Received.Request → r ≡ Received.Request
    in_domain true r e = e
    in_domain false r e = absurd cc

    ends : (r : Received) → received_at w function t.frame ≡ r → Fewer (arrived_by w function t r)
    ends Received.Relayed e = alien
    ends Received.Request e = enters (is_function_of w.agents.domains function t.frame.domain) (λ own. in_domain (is_function_of w.agents.domains function t.frame.domain) (received_by_function w.routes.ports function t.frame.head.parties t.frame.head.header) e)
    ends Received.Completion e = delivers (made w.agents.domains t.frame.domain (entry.Deliver t.frame.number))
    ends Received.Unknown e = alien

  by_taken : (o : Option Taken) → ((t : Taken) → o ≡ Some t → IsTakenFrom w (to_function function) t) → (v : World) → arrived w function o ≡ Some v → Fewer v
  by_taken None taken v e = absurd cc
  by_taken (Some t) taken v e = subst Fewer (same_Some _ v e) (ends t (taken t refl) (received_at w function t.frame) refl)

  by_sender : (class : Class) (found : Option LinkEnd) → sender_of w.tree.links (to_function function) ≡ found → (v : World) → arrived w function (taken_at w.channels class found) ≡ Some v → Fewer v
  by_sender class None from v e = absurd cc
  by_sender class (Some end) from v e = by_taken (taken_at w.channels class (Some end)) (λ t is. taken_by w kept laid class (to_function function) end from t is) v e

  there_by : (class : Class) (b : Bool) (v : World) → cond b (arrived w function (taken w (to_function function) class)) None ≡ Some v → Fewer v
  there_by class true v e = by_sender class (sender_of w.tree.links (to_function function)) refl v e
  there_by class false v e = absurd cc

  pub arrive_fewer : (class : Class) (v : World) → arrive w function class ≡ Some v → Fewer v
  arrive_fewer class v e = there_by class (is_some (place_of_function w.agents.domains function)) v e
