-- A guarded fabric through a begin: what is emitted is sound on the link that it enters.
use Rattle.std.proofs.Common.{◌≡◌, inl, ℕ, List, Option, Some, None, refl, subst}
use Rattle.std.specs.Prelude.{option_map}
use Rattle.std.proofs.lemmas.Option.{same_Some}
use Rattle.fab_types.specs.declared.origin.Origin.{Origin}
use Rattle.fab_types.specs.declared.origin.Origin.TheVariants.{Function, Host}
use Rattle.platform.specs.Share.{Share}
use Rattle.layout.specs.Views.{share_of_domain}
use Rattle.fab_types.specs.declared.host_access.HostAccess.{HostAccess}
use Rattle.domain.specs.declared.entry.Entry.{Entry}
use Rattle.domain.specs.declared.entry.Entry.TheVariants.{Mmio, Submit, Tick}
use Rattle.domain.specs.Domains.{DomainView}
use Rattle.request_handling.specs.Heads.{descriptor_of}
use Rattle.domain.specs.Machine.{change}
use Rattle.request_handling.specs.Emissions.{Emission}
use Rattle.domain_state.specs.State.{Alone, Change}
use Rattle.request_handling.specs.WellMade.{IsWellMade}
use Rattle.domains.specs.Agents.{accessed, emitted, emitted_if, submitted, ticked}
use Rattle.guarded_routes.specs.Sound.{IsSound}
use Rattle.guarded_routes.proofs.Begins.{accesses_down, submits, ticks_up}
use Rattle.domains.specs.Domains.{Made, made_at, place_of, place_of_function}
use Rattle.fabric_core.specs.Events.{link_of}
use Rattle.fabric_core.specs.Soundness.{IsGuardedFabric, IsWellKept}
use Rattle.fabric_core.specs.World.{World, with_agents}
use Rattle.fabric_core.proofs.invariant.Flying.{Begins, mmio_begins, submit_begins, tick_begins}
use Rattle.fabric_core.proofs.soundness.Guarding.{guarded_with, links_sound}
use Rattle.fabric_core.proofs.invariant.Settling.{made_from}
use Rattle.fabric_core.proofs.soundness.SoundBoxes.{sound_joined}
use Rattle.fabric_core.proofs.soundness.SoundDomains.{domains_after, sent_is, share_is, shares_after, was, well_begun}
use Rattle.fabric_core.proofs.soundness.WellMade.{IsOwn, stays_fine}

-- what the entry emits of a domain with its own share is sound where this origin sends
abbrev EmitsSound : (w : World) → IsGuardedFabric w → Origin → Entry → Type 0
EmitsSound w g origin entry = (domain number : ℕ) (s : Alone) (c : Change) (e : Emission) → change (share_of_domain g.platform domain) s entry ≡ Some c → c.emission ≡ Some e → IsWellMade e.parties e.bytes
    → IsSound g.platform (link_of origin) (descriptor_of domain number e)

begun_with : (w w' : World) (g : IsGuardedFabric w) (origin : Origin) (entry : Entry) (place : Option ℕ) (o : Option Made) → IsOwn entry → ((d : DomainView) (c : Change) → change d.share d.state entry ≡ Some c → Begins d.state c) → EmitsSound w g origin entry
    → made_at w.agents.domains entry place ≡ o → option_map (with_agents w) (emitted_if w.agents origin o) ≡ Some w' → IsGuardedFabric w'
begun_with w w' g origin entry place None own begins sound e is = absurd cc
begun_with w w' g origin entry place (Some m) own begins sound e is =
    let b = made_from w.agents.domains entry place m e in
    let old = was w.agents.domains entry place m b IsWellKept g.domains in
    let share = share_is g.platform w.agents.domains b.number b.d g.of_it.shares b.at in
    let fine = stays_fine g.platform g.guarded b.d entry b.c share old own b.legal in
    subst IsGuardedFabric (same_Some (with_agents w (emitted w.agents origin m)) w' is)
    (guarded_with w g w.channels (emitted w.agents origin m) w.violations (links_sound w g)
    (sound_joined g.platform w.agents.outboxes origin m.sent g.sound.outboxes (λ frame sent.
    let x = sent_is w.agents.domains entry place m b frame sent in
    subst (IsSound g.platform (link_of origin)) x.2
    (sound b.d.share.domain _ b.d.state b.c x.0 (subst (λ (s : Share). change s b.d.state entry ≡ Some b.c) share b.legal) x.1 (fine.well x.0 x.1))))
    (shares_after w.agents.domains entry place m b)
    (domains_after w.agents.domains entry place m b g.domains fine (well_begun b.d b.c old (begins b.d b.c b.legal) fine.well)))

pub guarded_submit : (w w' : World) (function : ℕ) (bytes : List ℕ) → IsGuardedFabric w → option_map (with_agents w) (submitted w.agents function bytes) ≡ Some w' → IsGuardedFabric w'
guarded_submit w w' function bytes g is =
    let place = place_of_function w.agents.domains function in
    begun_with w w' g (Function function) (Submit function bytes) place (made_at w.agents.domains (Submit function bytes) place) tt (λ d c e. submit_begins d.share d.state function bytes c e)
    (λ domain number s c e legal sent well. inl (submits g.platform g.guarded domain function number bytes s c e legal sent)) refl is

pub guarded_tick : (w w' : World) (function : ℕ) → IsGuardedFabric w → option_map (with_agents w) (ticked w.agents function) ≡ Some w' → IsGuardedFabric w'
guarded_tick w w' function g is =
    let place = place_of_function w.agents.domains function in
    begun_with w w' g (Function function) (Tick function) place (made_at w.agents.domains (Tick function) place) tt (λ d c e. tick_begins d.share d.state function c e)
    (λ domain number s c e legal sent well. inl (ticks_up g.platform g.guarded domain function number s c e legal sent)) refl is

pub guarded_access : (w w' : World) (domain : ℕ) (access : HostAccess) → IsGuardedFabric w → option_map (with_agents w) (accessed w.agents domain access) ≡ Some w' → IsGuardedFabric w'
guarded_access w w' domain access g is =
    let place = place_of w.agents.domains domain in
    begun_with w w' g (Host domain) (Mmio access) place (made_at w.agents.domains (Mmio access) place) tt (λ d c e. mmio_begins d.share d.state access c e)
    (λ domain number s c e legal sent well. accesses_down g.platform g.guarded domain number s access c e legal sent well) refl is
