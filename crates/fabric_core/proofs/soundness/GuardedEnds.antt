-- A guarded fabric where a packet was taken, and its home's machine has an entry of it.
use Rattle.std.proofs.Common.{◌≡◌, ℕ, List, length, Option, Some, None, refl, sym, ap, ◌∙◌, subst}
use Rattle.std.specs.Prelude.{option_map}
use Rattle.std.proofs.lemmas.Option.{get_or_from_slice_get, same_Some, slice_get_within}
use Rattle.fab_types.specs.declared.place.Direction.{Direction}
use Rattle.fab_types.specs.declared.origin.Origin.{Origin}
use Rattle.fab_types.specs.declared.violation.Violation.{Violation}
use Rattle.frame_log.specs.Descriptor.{Descriptor}
use Rattle.platform.specs.Share.{Share}
use Rattle.layout.specs.Views.{share_of_domain}
use Rattle.domain.specs.declared.entry.Entry.{Entry}
use Rattle.domain.specs.declared.entry.Entry.TheVariants.{Carry, Deliver}
use Rattle.domain.specs.Domains.{DomainView}
use Rattle.request_handling.specs.Heads.{descriptor_of}
use Rattle.domain.specs.Machine.{change}
use Rattle.request_handling.specs.Emissions.{Emission}
use Rattle.domain_state.specs.State.{Alone, Change}
use Rattle.request_handling.specs.WellMade.{IsWellMade}
use Rattle.domains.specs.Agents.{Outbox, delivered, emitted_if, joined}
use Rattle.link.specs.Channels.{Channel}
use Rattle.lane.specs.Lanes.{Class, eligible}
use Rattle.topology.specs.Links.{sender_of}
use Rattle.topology.specs.declared.nodes.LinkEnd.{LinkEnd}
use Rattle.interconnect.specs.Moves.{channel_at}
use Rattle.guarded_routes.specs.Ends.{Flies, IsLegal}
use Rattle.guarded_routes.specs.Sound.{IsSound}
use Rattle.domains.specs.Domains.{Made, made, place_of}
use Rattle.fabric_core.specs.Arrivals.{Taken, ended, taken_at, taken_from}
use Rattle.fabric_core.specs.Events.{link_of}
use Rattle.fabric_core.specs.Invariant.{IsConsistent}
use Rattle.fabric_core.specs.Places.{IsFlown}
use Rattle.fabric_core.specs.Soundness.{IsGuardedFabric, IsWellKept}
use Rattle.fabric_core.specs.World.{World}
use Rattle.fabric_core.proofs.invariant.Flying.{EndsOne, carry_ends, deliver_ends}
use Rattle.fabric_core.proofs.soundness.Guarding.{guarded_with, links_sound}
use Rattle.fabric_core.proofs.invariant.Renewing.{renewed, sender_there, taken_flown, taken_out_of}
use Rattle.fabric_core.proofs.invariant.Settling.{made_from}
use Rattle.fabric_core.proofs.soundness.SoundBoxes.{SoundIn, sound_joined}
use Rattle.fabric_core.proofs.soundness.SoundDomains.{domains_after, home_of, made_at_home, made_home, sent_is, shares_after, share_is, was, well_ended}
use Rattle.fabric_core.proofs.soundness.SoundLinks.{SoundOn, sound_left, sound_taken}
use Rattle.fabric_core.proofs.invariant.Standing.{IsThere}
use Rattle.fabric_core.proofs.soundness.WellMade.{IsOwn, stays_fine}

-- ---- what is taken

-- a packet in flight was taken from a direction, on which it is sound, and so is what is left
pub record SoundlyTaken (w : World) (g : IsGuardedFabric w) (direction : Direction) (t : Taken) : Type 0 where
  pub flown : IsFlown w.agents.domains t.frame
  pub links : SoundOn g.platform w.tree.links t.channels
  pub sound : IsSound g.platform direction t.frame

taken_by : (w : World) (g : IsGuardedFabric w) (direction : Direction) (class : Class) (end : LinkEnd) (found : Option (Descriptor × List Descriptor)) (t : Taken) → IsFlown w.agents.domains t.frame → sender_of w.tree.links direction ≡ Some end
    → eligible class (channel_at w.channels end).ingress ≡ found → option_map (taken_from w.channels end) found ≡ Some t → SoundlyTaken w g direction t
taken_by w g direction class end None t flown from e is = absurd cc
taken_by w g direction class end (Some r) t flown from e is =
    let same = same_Some (taken_from w.channels end r) t is in
    record {
      flown = flown;
      links = subst (λ (x : Taken). SoundOn g.platform w.tree.links x.channels) same (sound_left g.platform w.tree.links w.channels end class r.0 r.1 (links_sound w g) e);
      sound = subst (λ (x : Taken). IsSound g.platform direction x.frame) same (sound_taken g.platform w.tree.links w.channels direction end class r.0 r.1 (links_sound w g) from e);
    }

pub soundly_taken : (w : World) (kept : IsConsistent w) (g : IsGuardedFabric w) (direction : Direction) (class : Class) (found : Option LinkEnd) (t : Taken) → sender_of w.tree.links direction ≡ found → taken_at w.channels class found ≡ Some t → SoundlyTaken w g direction t
soundly_taken w kept g direction class None t from is = absurd cc
soundly_taken w kept g direction class (Some end) t from is =
    let there = sender_there w w.channels direction end kept refl from in
    let out = taken_out_of w class (Some end) t (λ other same. subst (IsThere w.channels) (same_Some end other same) there) is in
    taken_by w g direction class end (eligible class (channel_at w.channels end).ingress) t (taken_flown w t kept out) from refl is

-- ---- an entry of its home

-- what its home emits in answer to it is sound on a direction
abbrev pub AnswersSound : (w : World) → IsGuardedFabric w → Descriptor → Entry → Direction → Type 0
AnswersSound w g frame entry direction = (number : ℕ) (s : Alone) (c : Change) (e : Emission) → Flies s frame → change (share_of_domain g.platform frame.domain) s entry ≡ Some c → c.emission ≡ Some e → IsWellMade e.parties e.bytes
    → IsSound g.platform direction (descriptor_of frame.domain number e)

module _ (w : World) (g : IsGuardedFabric w) (frame : Descriptor) (entry : Entry) (m : Made) (flown : IsFlown w.agents.domains frame) (own : IsOwn entry) (is : made w.agents.domains frame.domain entry ≡ Some m) where
  abbrev place : Option ℕ
  place = place_of w.agents.domains frame.domain

  -- what is emitted is sound
  pub answer_sound : (direction : Direction) → AnswersSound w g frame entry direction → (answer : Descriptor) → m.sent ≡ Some answer → IsSound g.platform direction answer
  answer_sound direction sound answer sent =
      let b = made_from w.agents.domains entry place m is in
      let h = made_home g.platform w.agents.domains frame entry m b g.of_it.shares flown in
      let old = was w.agents.domains entry place m b IsWellKept g.domains in
      let share = share_is g.platform w.agents.domains b.number b.d g.of_it.shares b.at in
      let x = sent_is w.agents.domains entry place m b answer sent in
      subst (IsSound g.platform direction) (ap (λ (n : ℕ). descriptor_of n (length b.d.state.flight) x.0) (sym h.domain) ∙ x.2)
      (sound (length b.d.state.flight) b.d.state b.c x.0 h.flies (subst (λ (s : Share). change s b.d.state entry ≡ Some b.c) h.share b.legal) x.1 ((stays_fine g.platform g.guarded b.d entry b.c share old own b.legal).well x.0 x.1))

  -- the home without the packet
  pub guarded_end : (channels : List (List Channel)) (boxes : List Outbox) (violations : List Violation) → ((d : DomainView) (c : Change) → change d.share d.state entry ≡ Some c → EndsOne d.state frame.number c)
      → SoundOn g.platform w.tree.links channels → SoundIn g.platform boxes → IsGuardedFabric (renewed w channels w.ports (record { domains = m.domains; outboxes = boxes }) violations w.strays)
  guarded_end channels boxes violations ends links outboxes =
      let b = made_from w.agents.domains entry place m is in
      let old = was w.agents.domains entry place m b IsWellKept g.domains in
      let share = share_is g.platform w.agents.domains b.number b.d g.of_it.shares b.at in
      let fine = stays_fine g.platform g.guarded b.d entry b.c share old own b.legal in
      guarded_with w g channels (record { domains = m.domains; outboxes = boxes }) violations links outboxes (shares_after w.agents.domains entry place m b)
      (domains_after w.agents.domains entry place m b g.domains fine (well_ended b.d frame.number b.c old (ends b.d b.c b.legal) fine.well))

-- ---- at the host or a function

-- the entry is legal in whatever state the domain of the packet has it in flight
abbrev pub IsLegalThere : (w : World) → IsGuardedFabric w → Descriptor → Entry → Type 0
IsLegalThere w g frame entry = (d : DomainView) → IsWellKept d → d.share ≡ share_of_domain g.platform frame.domain → Flies d.state frame → IsLegal g.platform d.state frame entry

pub legal_at_home : (w : World) (g : IsGuardedFabric w) (frame : Descriptor) (entry : Entry) → IsFlown w.agents.domains frame → IsLegalThere w g frame entry → made w.agents.domains frame.domain entry ≡ None → ⊥
legal_at_home w g frame entry flown legal none =
    let h = home_of g.platform w.agents.domains frame g.of_it.shares flown in
    made_at_home g.platform w.agents.domains frame entry h (legal h.d (subst IsWellKept (get_or_from_slice_get w.agents.domains h.number h.d h.d h.at) (g.domains h.number h.d (slice_get_within w.agents.domains h.number h.d h.at))) h.share h.flies) none

-- a request reached its completer, whose answer waits of it
pub guarded_carry : (w : World) (g : IsGuardedFabric w) (direction : Direction) (t : Taken) (origin : Origin) → SoundlyTaken w g direction t → IsLegalThere w g t.frame (Carry t.frame.number) → AnswersSound w g t.frame (Carry t.frame.number) (link_of origin)
    → IsGuardedFabric (ended w t (emitted_if w.agents origin (made w.agents.domains t.frame.domain (Carry t.frame.number))))
guarded_carry w g direction t origin k legal sound = by (made w.agents.domains t.frame.domain (Carry t.frame.number)) refl
  where
    by : (o : Option Made) → made w.agents.domains t.frame.domain (Carry t.frame.number) ≡ o → IsGuardedFabric (ended w t (emitted_if w.agents origin o))
    by None e = absurd (legal_at_home w g t.frame (Carry t.frame.number) k.flown legal e)
    by (Some m) e =
        guarded_end w g t.frame (Carry t.frame.number) m k.flown tt e t.channels (joined w.agents.outboxes origin m.sent) w.violations (λ d c h. carry_ends d.share d.state t.frame.number c h) k.links
        (sound_joined g.platform w.agents.outboxes origin m.sent g.sound.outboxes (answer_sound w g t.frame (Carry t.frame.number) m k.flown tt e (link_of origin) sound))

-- a completion reached whom it answers
pub guarded_delivery : (w : World) (g : IsGuardedFabric w) (direction : Direction) (t : Taken) → SoundlyTaken w g direction t → IsLegalThere w g t.frame (Deliver t.frame.number) → IsGuardedFabric (ended w t (delivered w.agents t.frame))
guarded_delivery w g direction t k legal = by (made w.agents.domains t.frame.domain (Deliver t.frame.number)) refl
  where
    by : (o : Option Made) → made w.agents.domains t.frame.domain (Deliver t.frame.number) ≡ o → IsGuardedFabric (ended w t (option_map (λ (m : Made). record { domains = m.domains; outboxes = w.agents.outboxes }) o))
    by None e = absurd (legal_at_home w g t.frame (Deliver t.frame.number) k.flown legal e)
    by (Some m) e =
        guarded_end w g t.frame (Deliver t.frame.number) m k.flown tt e t.channels w.agents.outboxes w.violations (λ d c h. deliver_ends d.share d.state t.frame.number c h) k.links g.sound.outboxes
