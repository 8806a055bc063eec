-- The motions of the host and of functions that take a packet in a guarded fabric.
use Rattle.std.proofs.Common.{◌≡◌, ℕ, ◌==◌, Bool, true, false, cond, Option, Some, None, refl, sym, ap, ◌∙◌, subst, eqb-true, eq-eqb}
use Rattle.std.specs.Prelude.{IsSome, is_some, option_map}
use Rattle.std.proofs.lemmas.Option.{same_Some}
use Rattle.fab_types.specs.Id.{bus_of, host_of}
use Rattle.fab_types.specs.declared.head.AddressType.TheVariants.{Untranslated}
use Rattle.fab_types.specs.declared.head.Header.{Header}
use Rattle.fab_types.specs.declared.head.Header.TheVariants as header
use Rattle.fab_types.specs.declared.head.Parties.{Parties}
use Rattle.fab_types.specs.declared.place.Direction.{Direction}
use Rattle.fab_types.specs.declared.origin.Origin.{Origin}
use Rattle.fab_types.specs.declared.origin.Origin.TheVariants.{Function, Host}
use Rattle.fab_types.specs.declared.place.Place.TheVariants.{Outbox}
use Rattle.platform.specs.Owners.{is_function}
use Rattle.domain.specs.declared.entry.Entry.TheVariants.{Carry, Deliver}
use Rattle.domains.specs.Agents.{AgentsView, carried_by_function, delivered, emitted_if, home_of, is_function_of}
use Rattle.link.specs.Channels.{is_full}
use Rattle.lane.specs.Lanes.{Class}
use Rattle.domains.specs.Domains.{Made, made, place_of, place_of_function}
use Rattle.topology.specs.Links.{sender_of}
use Rattle.topology.specs.declared.nodes.LinkEnd.{LinkEnd}
use Rattle.interconnect.specs.Moves.{channel_at, put_at}
use Rattle.guarded_routes.specs.Sound.{IsMeantFor, is_reply}
use Rattle.guarded_routes.proofs.Hosts.{AtHost, at_host, delivers}
use Rattle.guarded_routes.proofs.Taking.{reply_at, request_at}
use Rattle.fabric_core.specs.Arrivals.{Taken, arrive, arrived, arrived_by, agents_by_host, ended, received_at, from_host, own_by_function, own_by_host, relayed, arrive_at_host, arrived_at_host, arrived_at_host_by, taken, to_function, to_host}
use Rattle.received.specs.declared.received.Received.{Received}
use Rattle.received.specs.Received.{received_by_function, received_by_host, request_at_host}
use Rattle.fabric_core.specs.Invariant.{IsConsistent}
use Rattle.fabric_core.specs.Soundness.{IsGuardedFabric}
use Rattle.fabric_core.specs.Trails.{standing_in}
use Rattle.fabric_core.specs.World.{World, with_channels}
use Rattle.fabric_core.proofs.order.Boxes.{joined_in}
use Rattle.fabric_core.proofs.order.MotionTaking.{TakenAway, goes_then, taken_away}
use Rattle.fabric_core.proofs.order.Motions.{Motion, Finishes, IsLast, Leaps}
use Rattle.fabric_core.proofs.soundness.GuardedAliens.{home_at_function, home_at_host}
use Rattle.fabric_core.proofs.soundness.GuardedArrival.{FunctionHome, carry_legal, function_home, is_carried, listed, meant, of_domain}
use Rattle.fabric_core.proofs.soundness.GuardedEnds.{IsLegalThere, legal_at_home}
use Rattle.fabric_core.proofs.soundness.GuardedHost.{no_malformed, no_other}
use Rattle.fabric_core.proofs.invariant.Settling.{made_from}

-- ---- an entry of its home

-- a request reached its completer, whose answer waits of it
carries : (w : World) (kept : IsConsistent w) (g : IsGuardedFabric w) (direction : Direction) (t : Taken) (origin : Origin) → TakenAway w kept g direction t → Finishes g.platform t.frame direction (Carry t.frame.number) (Outbox origin)
    → IsSome (home_of w.agents.domains origin) → IsLegalThere w g t.frame (Carry t.frame.number) → Motion g.platform w (ended w t (emitted_if w.agents origin (made w.agents.domains t.frame.domain (Carry t.frame.number))))
carries w kept g direction t origin k finishes there legal = by (made w.agents.domains t.frame.domain (Carry t.frame.number)) refl
  where
    by : (o : Option Made) → made w.agents.domains t.frame.domain (Carry t.frame.number) ≡ o → Motion g.platform w (ended w t (emitted_if w.agents origin o))
    by None e = absurd (legal_at_home w g t.frame (Carry t.frame.number) k.soundly.flown legal e)
    by (Some m) e =
        Motion.Ends direction (Carry t.frame.number) (Outbox origin) t.frame m (standing_in w.tree.links t.channels w.agents.outboxes) finishes k.soundly.flown e k.leaving
        (joined_in w.tree.links t.channels w.agents.domains w.agents.outboxes origin m.sent kept.settled there) refl

-- a completion reached whom it answers
completes : (w : World) (kept : IsConsistent w) (g : IsGuardedFabric w) (direction : Direction) (t : Taken) → TakenAway w kept g direction t → IsLast t.frame direction → IsLegalThere w g t.frame (Deliver t.frame.number) → Motion g.platform w (ended w t (delivered w.agents t.frame))
completes w kept g direction t k last legal = by (made w.agents.domains t.frame.domain (Deliver t.frame.number)) refl
  where
    by : (o : Option Made) → made w.agents.domains t.frame.domain (Deliver t.frame.number) ≡ o → Motion g.platform w (ended w t (option_map (λ (m : Made). record { domains = m.domains; outboxes = w.agents.outboxes }) o))
    by None e = absurd (legal_at_home w g t.frame (Deliver t.frame.number) k.soundly.flown legal e)
    by (Some m) e = Motion.Delivers direction t.frame m last k.soundly.flown e k.leaving refl

some_home : (w : World) (t : Taken) (m : Made) → made w.agents.domains t.frame.domain (Carry t.frame.number) ≡ Some m → IsSome (place_of w.agents.domains t.frame.domain)
some_home w t m e = subst IsSome (sym (made_from w.agents.domains (Carry t.frame.number) (place_of w.agents.domains t.frame.domain) m e).at_number) refl

-- ---- at the host

module _ (w w' : World) (kept : IsConsistent w) (g : IsGuardedFabric w) (class : Class) (t : Taken) (k : TakenAway w kept g to_host t) where
  here : AtHost g.platform g.guarded t.frame
  here = at_host g.platform g.guarded t.frame k.soundly.sound

  as_own : (received : Received) → Motion g.platform w (ended w t (own_by_host w.agents t.frame received)) → Motion g.platform w (ended w t (agents_by_host w.routes.ports w.agents t.frame received))
  as_own received own = subst (λ (o : Option AgentsView). Motion g.platform w (ended w t o)) (sym (home_at_host w g t.frame received)) own

  legal : is_reply t.frame.head.header ≡ false → IsLegalThere w g t.frame (Carry t.frame.number)
  legal request d replayed share flies = here.carried request d.state flies

  home_there : is_reply t.frame.head.header ≡ false → IsSome (place_of w.agents.domains t.frame.domain)
  home_there request = by (made w.agents.domains t.frame.domain (Carry t.frame.number)) refl
    where
      by : (o : Option Made) → made w.agents.domains t.frame.domain (Carry t.frame.number) ≡ o → IsSome (place_of w.agents.domains t.frame.domain)
      by None e = absurd (legal_at_home w g t.frame (Carry t.frame.number) k.soundly.flown (legal request) e)
      by (Some m) e = some_home w t m e

  requested : is_reply t.frame.head.header ≡ false → arrived_at_host_by w class t (request_at_host t.frame.head.parties) ≡ Some w' → Motion g.platform w w'
  requested request is =
      let own = here.request request in
      subst (Motion g.platform w) (same_Some _ w' (ap (λ (p : Parties). arrived_at_host_by w class t (request_at_host p)) (sym own.parties) ∙ is))
      (as_own Received.Request (carries w kept g to_host t (Host t.frame.domain) k (Finishes.CarriedByHost own) (home_there request) (legal request)))

  relays_unless : (end : LinkEnd) → sender_of w.tree.links from_host ≡ Some end → is_reply t.frame.head.header ≡ true → (full : Bool) → cond full None (Some (with_channels w (put_at t.channels end t.frame))) ≡ Some w' → Motion g.platform w w'
  relays_unless end from reply true is = absurd cc
  relays_unless end from reply false is =
      subst (Motion g.platform w) (same_Some (with_channels w (put_at t.channels end t.frame)) w' is) (goes_then w kept g to_host t k from_host end from (Leaps.Returns reply))

  relays_to : (found : Option LinkEnd) → sender_of w.tree.links from_host ≡ found → is_reply t.frame.head.header ≡ true → relayed w t class found ≡ Some w' → Motion g.platform w w'
  relays_to None from reply is = absurd cc
  relays_to (Some end) from reply is = relays_unless end from reply (is_full class (channel_at w.channels end)) is

  completed : (target : ℕ) (relaxed_ordering : Bool) (own : Bool) → t.frame.head.header ≡ header.Completion target relaxed_ordering → (bus_of target == 0) ≡ own
      → arrived_at_host_by w class t (cond own (cond (target == host_of t.frame.domain) Received.Completion Received.Unknown) Received.Relayed) ≡ Some w' → Motion g.platform w w'
  completed target relaxed_ordering true same own is =
      let zero = eqb-true (bus_of target) 0 own in
      let host = eq-eqb target (host_of t.frame.domain) (here.reply target relaxed_ordering same zero).0 in
      subst (Motion g.platform w) (same_Some _ w' (ap (λ (b : Bool). arrived_at_host_by w class t (cond b Received.Completion Received.Unknown)) (sym host) ∙ is))
      (as_own Received.Completion (completes w kept g to_host t k IsLast.AtHost (λ d replayed share flies. here.delivered target relaxed_ordering same zero d.state flies)))
  completed target relaxed_ordering false same own is = relays_to (sender_of w.tree.links from_host) refl (ap is_reply same) is

  at_host_as : (h : Header) → t.frame.head.header ≡ h → arrived_at_host_by w class t (received_by_host t.frame.domain t.frame.head.parties h) ≡ Some w' → Motion g.platform w w'
  at_host_as header.Malformed same is =
      let own = here.request (ap is_reply same) in absurd (no_malformed own.requester own.address Untranslated (sym same ∙ own.plain))
  at_host_as (header.Memory requester address_type address) same is = requested (ap is_reply same) is
  at_host_as (header.OtherRequest requester) same is =
      let own = here.request (ap is_reply same) in absurd (no_other requester own.requester own.address Untranslated (sym same ∙ own.plain))
  at_host_as (header.Completion target relaxed_ordering) same is = completed target relaxed_ordering (bus_of target == 0) same refl is

at_host_if : (w w' : World) (kept : IsConsistent w) (g : IsGuardedFabric w) (class : Class) (o : Option Taken) → ((t : Taken) → o ≡ Some t → TakenAway w kept g to_host t) → arrived_at_host w class o ≡ Some w' → Motion g.platform w w'
at_host_if w w' kept g class None out is = absurd cc
at_host_if w w' kept g class (Some t) out is = at_host_as w w' kept g class t (out t refl) t.frame.head.header refl is

pub motion_at_host : (w w' : World) (class : Class) → IsConsistent w → (g : IsGuardedFabric w) → arrive_at_host w class ≡ Some w' → Motion g.platform w w'
motion_at_host w w' class kept g is = at_host_if w w' kept g class (taken w to_host class) (λ t e. taken_away w kept g to_host class (sender_of w.tree.links to_host) t refl e) is

-- ---- at a function

module _ (w : World) (kept : IsConsistent w) (g : IsGuardedFabric w) (function : ℕ) (home : FunctionHome w g function) (some : is_some (place_of_function w.agents.domains function) ≡ true) (t : Taken) (k : TakenAway w kept g (to_function function) t) where
  is_listed : is_function g.platform.functions function ≡ true
  is_listed = listed w g function home t k.soundly

  is_own : is_function_of w.agents.domains function t.frame.domain ≡ true
  is_own = of_domain w g function home t k.soundly

  carried : is_reply t.frame.head.header ≡ false → Motion g.platform w (ended w t (carried_by_function w.agents function t.frame))
  carried request =
      subst (λ (b : Bool). Motion g.platform w (ended w t (emitted_if w.agents (Function function) (cond b (made w.agents.domains t.frame.domain (Carry t.frame.number)) None)))) (sym is_own)
      (carries w kept g (to_function function) t (Function function) k (Finishes.CarriedByFunction function (request_at g.platform g.guarded function t.frame is_listed k.soundly.sound request)) some
      (carry_legal w g function home t k.soundly request))

  abbrev left_by : Received → World
  left_by received = ended w t (own_by_function w.agents function t.frame received)

  delivered_here : is_reply t.frame.head.header ≡ true → Motion g.platform w (left_by Received.Completion)
  delivered_here reply =
      completes w kept g (to_function function) t k (IsLast.AtFunction function (reply_at g.platform g.guarded function t.frame is_listed k.soundly.sound reply))
      (λ d old share flies. delivers g.platform g.guarded t.frame d.state (Function function) (reply_at g.platform g.guarded function t.frame is_listed k.soundly.sound reply) reply flies)

  is_meant : (h : Header) → t.frame.head.header ≡ h → IsMeantFor g.platform t.frame.domain function t.frame.head.parties h
  is_meant h same = meant w g function home t k.soundly h same

  arrived_as : (h : Header) → t.frame.head.header ≡ h → Motion g.platform w (left_by (received_by_function w.routes.ports function t.frame.head.parties h))
  arrived_as header.Malformed same = absurd (is_meant header.Malformed same)
  arrived_as (header.Memory requester address_type address) same =
      let request = ap is_reply same in
      subst (λ (r : Received). Motion g.platform w (left_by r)) (sym (is_carried w g function home t k.soundly requester address address_type same (request_at g.platform g.guarded function t.frame is_listed k.soundly.sound request))) (carried request)
  arrived_as (header.OtherRequest requester) same = absurd (is_meant (header.OtherRequest requester) same)
  arrived_as (header.Completion target relaxed_ordering) same = delivered_here (ap is_reply same)

  arrived_own : Motion g.platform w (left_by (received_at w function t.frame))
  arrived_own =
      subst (λ (b : Bool). Motion g.platform w (left_by (cond b (received_by_function w.routes.ports function t.frame.head.parties t.frame.head.header) Received.Unknown))) (sym is_own) (arrived_as t.frame.head.header refl)

  motion_arrived : Motion g.platform w (arrived_by w function t (received_at w function t.frame))
  motion_arrived = subst (λ (o : Option AgentsView). Motion g.platform w (ended w t o)) (sym (home_at_function w g function t.frame (received_at w function t.frame))) arrived_own

arrived_if : (w w' : World) (kept : IsConsistent w) (g : IsGuardedFabric w) (function : ℕ) (o : Option Taken) → FunctionHome w g function → is_some (place_of_function w.agents.domains function) ≡ true → ((t : Taken) → o ≡ Some t → TakenAway w kept g (to_function function) t)
    → arrived w function o ≡ Some w' → Motion g.platform w w'
arrived_if w w' kept g function None home some out is = absurd cc
arrived_if w w' kept g function (Some t) home some out is = subst (Motion g.platform w) (same_Some _ w' is) (motion_arrived w kept g function home some t (out t refl))

pub motion_arrive : (w w' : World) (function : ℕ) (class : Class) → IsConsistent w → (g : IsGuardedFabric w) → arrive w function class ≡ Some w' → Motion g.platform w w'
motion_arrive w w' function class kept g is = by (is_some (place_of_function w.agents.domains function)) refl is
  where
    by : (b : Bool) → is_some (place_of_function w.agents.domains function) ≡ b → cond b (arrived w function (taken w (to_function function) class)) None ≡ Some w' → Motion g.platform w w'
    by true there is =
        arrived_if w w' kept g function (taken w (to_function function) class) (function_home w g function (place_of_function w.agents.domains function) refl there) there
        (λ t e. taken_away w kept g (to_function function) class (sender_of w.tree.links (to_function function)) t refl e) is
    by false there is = absurd cc
