-- A guarded fabric where the host takes a packet.
use Rattle.std.proofs.Common.{◌≡◌, ℕ, ◌==◌, Bool, true, false, cond, Option, Some, None, refl, sym, ap, ◌∙◌, subst, eqb-true, eq-eqb}
use Rattle.std.proofs.lemmas.Bool.{false≢true}
use Rattle.std.proofs.lemmas.Option.{same_Some}
use Rattle.fab_types.specs.Id.{bus_of, host_of}
use Rattle.fab_types.specs.declared.head.AddressType.{AddressType}
use Rattle.fab_types.specs.declared.head.AddressType.TheVariants.{Untranslated}
use Rattle.fab_types.specs.declared.head.Header.{Header}
use Rattle.fab_types.specs.declared.head.Header.TheVariants as header
use Rattle.fab_types.specs.declared.head.Parties.{Parties}
use Rattle.fab_types.specs.declared.origin.Origin.TheVariants.{Host}
use Rattle.domains.specs.Agents.{AgentsView}
use Rattle.link.specs.Channels.{is_full}
use Rattle.lane.specs.Lanes.{Class}
use Rattle.topology.specs.Links.{sender_of}
use Rattle.topology.specs.declared.nodes.LinkEnd.{LinkEnd}
use Rattle.interconnect.specs.Moves.{channel_at, put_at}
use Rattle.guarded_routes.specs.Sound.{IsSound, is_reply}
use Rattle.guarded_routes.proofs.Hosts.{AtHost, at_host}
use Rattle.guarded_routes.proofs.Replies.{carried_down}
use Rattle.fabric_core.specs.Arrivals.{Taken, agents_by_host, ended, from_host, own_by_host, relayed, arrive_at_host, arrived_at_host, arrived_at_host_by, taken, to_host}
use Rattle.received.specs.declared.received.Received.{Received}
use Rattle.received.specs.Received.{received_by_host, request_at_host}
use Rattle.fabric_core.specs.Invariant.{IsConsistent}
use Rattle.fabric_core.specs.Soundness.{IsGuardedFabric}
use Rattle.fabric_core.specs.World.{World, with_channels}
use Rattle.fabric_core.proofs.soundness.GuardedAliens.{home_at_host}
use Rattle.fabric_core.proofs.soundness.GuardedEnds.{SoundlyTaken, guarded_carry, guarded_delivery, soundly_taken}
use Rattle.fabric_core.proofs.soundness.Guarding.{guarded_with, sound_from}
use Rattle.fabric_core.proofs.soundness.SoundLinks.{sound_put}

-- only a memory request is a request of a function's own
pub no_malformed : (requester address : ℕ) (at : AddressType) → header.Malformed ≡ header.Memory requester at address → ⊥
no_malformed requester address at e = cc

pub no_other : (other requester address : ℕ) (at : AddressType) → header.OtherRequest other ≡ header.Memory requester at address → ⊥
no_other other requester address at e = cc

module _ (w w' : World) (g : IsGuardedFabric w) (class : Class) (t : Taken) (k : SoundlyTaken w g to_host t) where
  here : AtHost g.platform g.guarded t.frame
  here = at_host g.platform g.guarded t.frame k.sound

  -- what its home's entry leaves is what is left
  as_own : (received : Received) → IsGuardedFabric (ended w t (own_by_host w.agents t.frame received)) → IsGuardedFabric (ended w t (agents_by_host w.routes.ports w.agents t.frame received))
  as_own received own = subst (λ (o : Option AgentsView). IsGuardedFabric (ended w t o)) (sym (home_at_host w g t.frame received)) own

  carried : is_reply t.frame.head.header ≡ false → arrived_at_host_by w class t Received.Request ≡ Some w' → IsGuardedFabric w'
  carried request is =
      subst IsGuardedFabric (same_Some _ w' is)
      (as_own Received.Request
      (guarded_carry w g to_host t (Host t.frame.domain) k (λ d replayed share flies. here.carried request d.state flies)
      (λ number s c e flies legal sent well. carried_down g.platform g.guarded t.frame number s c e k.sound request flies legal sent well)))

  requested : is_reply t.frame.head.header ≡ false → arrived_at_host_by w class t (request_at_host t.frame.head.parties) ≡ Some w' → IsGuardedFabric w'
  requested request is = carried request (ap (λ (p : Parties). arrived_at_host_by w class t (request_at_host p)) (sym (here.request request).parties) ∙ is)

  relays_unless : (end : LinkEnd) → sender_of w.tree.links from_host ≡ Some end → IsSound g.platform from_host t.frame → (full : Bool) → cond full None (Some (with_channels w (put_at t.channels end t.frame))) ≡ Some w' → IsGuardedFabric w'
  relays_unless end from sound true is = absurd cc
  relays_unless end from sound false is =
      let channels = put_at t.channels end t.frame in
      subst IsGuardedFabric (same_Some (with_channels w channels) w' is)
      (guarded_with w g channels w.agents w.violations (sound_put g.platform w.tree.links t.channels end t.frame k.links (sound_from w g from_host end t.frame from sound)) g.sound.outboxes refl g.domains)

  relays_to : (found : Option LinkEnd) → sender_of w.tree.links from_host ≡ found → IsSound g.platform from_host t.frame → relayed w t class found ≡ Some w' → IsGuardedFabric w'
  relays_to None from sound is = absurd cc
  relays_to (Some end) from sound is = relays_unless end from sound (is_full class (channel_at w.channels end)) is

  completed : (target : ℕ) (relaxed_ordering : Bool) (own : Bool) → t.frame.head.header ≡ header.Completion target relaxed_ordering → (bus_of target == 0) ≡ own
      → arrived_at_host_by w class t (cond own (cond (target == host_of t.frame.domain) Received.Completion Received.Unknown) Received.Relayed) ≡ Some w' → IsGuardedFabric w'
  completed target relaxed_ordering true same own is =
      let zero = eqb-true (bus_of target) 0 own in
      let host = eq-eqb target (host_of t.frame.domain) (here.reply target relaxed_ordering same zero).0 in
      subst IsGuardedFabric (same_Some _ w' (ap (λ (b : Bool). arrived_at_host_by w class t (cond b Received.Completion Received.Unknown)) (sym host) ∙ is))
      (as_own Received.Completion (guarded_delivery w g to_host t k (λ d replayed share flies. here.delivered target relaxed_ordering same zero d.state flies)))
  completed target relaxed_ordering false same own is =
      relays_to (sender_of w.tree.links from_host) refl (here.relayed target relaxed_ordering same (λ e. false≢true (sym own ∙ eq-eqb (bus_of target) 0 e))) is

  at_host_as : (h : Header) → t.frame.head.header ≡ h → arrived_at_host_by w class t (received_by_host t.frame.domain t.frame.head.parties h) ≡ Some w' → IsGuardedFabric w'
  at_host_as header.Malformed same is =
      let own = here.request (ap is_reply same) in absurd (no_malformed own.requester own.address Untranslated (sym same ∙ own.plain))
  at_host_as (header.Memory requester address_type address) same is = requested (ap is_reply same) is
  at_host_as (header.OtherRequest requester) same is =
      let own = here.request (ap is_reply same) in absurd (no_other requester own.requester own.address Untranslated (sym same ∙ own.plain))
  at_host_as (header.Completion target relaxed_ordering) same is = completed target relaxed_ordering (bus_of target == 0) same refl is

at_host_if : (w w' : World) (g : IsGuardedFabric w) (class : Class) (o : Option Taken) → ((t : Taken) → o ≡ Some t → SoundlyTaken w g to_host t) → arrived_at_host w class o ≡ Some w' → IsGuardedFabric w'
at_host_if w w' g class None out is = absurd cc
at_host_if w w' g class (Some t) out is = at_host_as w w' g class t (out t refl) t.frame.head.header refl is

pub guarded_at_host : (w w' : World) (class : Class) → IsConsistent w → IsGuardedFabric w → arrive_at_host w class ≡ Some w' → IsGuardedFabric w'
guarded_at_host w w' class kept g is =
    at_host_if w w' g class (taken w to_host class) (λ t e. soundly_taken w kept g to_host class (sender_of w.tree.links to_host) t refl e) is
