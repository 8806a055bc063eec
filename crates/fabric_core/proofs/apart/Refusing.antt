-- Whether a begin is refused, and why, is said by its domain's share and state alone, and what isn't refused has an effect.
use Rattle.std.proofs.Common.{◌≡◌, ℕ, Bool, true, false, not, cond, List, Option, Some, None, refl, sym, ap, ◌∙◌, subst}
use Rattle.std.specs.Prelude.{All, is_none, is_some, option_map}
use Rattle.std.proofs.lemmas.Option.{get_or_from_slice_get, slice_get_within}
use Rattle.fab_types.specs.declared.faults.begin.BeginFault.TheVariants as begin
use Rattle.fab_types.specs.declared.faults.begin.MmioFault.{MmioFault}
use Rattle.fab_types.specs.declared.faults.begin.SubmitFault.{SubmitFault}
use Rattle.fab_types.specs.declared.faults.begin.TickFault.{TickFault}
use Rattle.fab_types.specs.declared.faults.begin.TickFault.TheVariants as tick
use Rattle.fab_types.specs.declared.origin.Origin.{Origin}
use Rattle.fab_types.specs.declared.origin.Origin.TheVariants as origin
use Rattle.host_memory.specs.Pages.{page_of}
use Rattle.platform.specs.Owners.{is_own_function}
use Rattle.fab_types.specs.declared.host_access.HostAccess.{HostAccess}
use Rattle.domain.specs.declared.entry.Entry.{Entry}
use Rattle.domain.specs.declared.entry.Entry.TheVariants as entry
use Rattle.domain.specs.Domains.{DomainView}
use Rattle.domain_state.specs.HostAccesses.{mmio_fault, mmio_unless}
use Rattle.domain.specs.Machine.{change}
use Rattle.domain_state.specs.State.{Alone}
use Rattle.domain.specs.Submits.{submit_fault, submit_unless}
use Rattle.domain.specs.Ticks.{tick_fault, tick_unless}
use Rattle.domain.proofs.PageIds.{own_page}
use Rattle.domains.specs.Agents.{emitted, emitted_if}
use Rattle.domains.specs.Domains.{domain_at, made_at, made_by, made_of, mmio_refusal_by, place_of, place_of_function, submit_refusal_by, tick_refusal_by}
use Rattle.fabric_core.specs.declared.event.Event.{Event}
use Rattle.fabric_core.specs.declared.event.Event.TheVariants.{Arrive, Credit, Enter, Mmio, Pass, Root, Send, Submit, Take, Tick}
use Rattle.fabric_core.specs.Events.{effect, refusal}
use Rattle.fabric_core.specs.Isolation.{beginner, own_refusal}
use Rattle.fabric_core.specs.Soundness.{IsGuardedFabric, IsWellKept}
use Rattle.fabric_core.specs.World.{World, with_agents}
use Rattle.fabric_core.proofs.apart.Legal.{mmio_change}

-- ---- why

pub refused_alone : (w : World) (event : Event) (d : DomainView) → beginner w event ≡ Some d → refusal w event ≡ own_refusal d event
refused_alone w (Submit function bytes) d e = ap (λ (o : Option DomainView). option_map begin.Submit (submit_refusal_by o function bytes)) e
refused_alone w (Tick function) d e = ap (λ (o : Option DomainView). option_map begin.Tick (tick_refusal_by o function)) e
refused_alone w (Mmio domain access) d e = ap (λ (o : Option DomainView). option_map begin.Mmio (mmio_refusal_by o access)) e
refused_alone w (Enter origin class) d e = refl
refused_alone w (Pass port class) d e = refl
refused_alone w (Send direction class) d e = refl
refused_alone w (Take direction) d e = refl
refused_alone w (Credit direction) d e = refl
refused_alone w (Root class) d e = refl
refused_alone w (Arrive function class) d e = refl

-- ---- what isn't refused is legal

module _ {X Y : Type 0} (f : X → Y) where
  some_mapped : (o : Option X) → is_some (option_map f o) ≡ is_some o
  some_mapped None = refl
  some_mapped (Some x) = refl

  none_mapped : (o : Option X) → is_none (option_map f o) ≡ is_none o
  none_mapped None = refl
  none_mapped (Some x) = refl

submit_legal : (s : Alone) (function : ℕ) (bytes : List ℕ) (o : Option SubmitFault) → is_some (submit_unless o s function bytes) ≡ is_none o
submit_legal s function bytes None = refl
submit_legal s function bytes (Some fault) = refl

is_own : (own : Bool) (rest : Option TickFault) → cond (not own) (Some tick.NoFunction) rest ≡ None → own ≡ true
is_own true rest e = refl
is_own false rest e = absurd cc

tick_legal : (d : DomainView) (function : ℕ) (o : Option TickFault) → IsWellKept d → tick_fault d.share d.state function ≡ o → is_some (tick_unless o d.state function) ≡ is_none o
tick_legal d function None kept e =
    some_mapped _ (page_of d.state.registers function) ∙ own_page d.share d.journal d.state function kept.replayed (is_own (is_own_function d.share function) _ e)
tick_legal d function (Some fault) kept e = refl

mmio_legal : (d : DomainView) (access : HostAccess) (o : Option MmioFault) → mmio_fault d.share d.state access ≡ o → is_some (mmio_unless o d.share d.state access) ≡ is_none o
mmio_legal d access None e = subst (λ (o : Option MmioFault). is_some (mmio_unless o d.share d.state access) ≡ true) e (mmio_change d access e)
mmio_legal d access (Some fault) e = refl

-- ---- and what is legal has an effect

made_there : (ds : List DomainView) (act : Entry) (place : Option ℕ) (d : DomainView) → domain_at ds place ≡ Some d → is_some (made_at ds act place) ≡ is_some (change d.share d.state act)
made_there ds act None d at = absurd cc
made_there ds act (Some p) d at = ap (λ (o : Option DomainView). is_some (made_of ds p act o)) at ∙ some_mapped (made_by ds p act d) (change d.share d.state act)

moves : (w : World) (from : Origin) (act : Entry) (place : Option ℕ) (d : DomainView) → domain_at w.agents.domains place ≡ Some d
    → is_some (option_map (with_agents w) (emitted_if w.agents from (made_at w.agents.domains act place))) ≡ is_some (change d.share d.state act)
moves w from act place d at =
    some_mapped (with_agents w) (emitted_if w.agents from (made_at w.agents.domains act place)) ∙ (some_mapped (emitted w.agents from) (made_at w.agents.domains act place) ∙ made_there w.agents.domains act place d at)

well_kept : (ds : List DomainView) (place : Option ℕ) (d : DomainView) → All IsWellKept ds → domain_at ds place ≡ Some d → IsWellKept d
well_kept ds None d all at = absurd cc
well_kept ds (Some p) d all at = subst IsWellKept (get_or_from_slice_get ds p d d at) (all p d (slice_get_within ds p d at))

pub accepted_alone : (w : World) (event : Event) (d : DomainView) → IsGuardedFabric w → beginner w event ≡ Some d → is_some (effect w event) ≡ is_none (own_refusal d event)
accepted_alone w (Submit function bytes) d g e =
    let fault = submit_fault d.share d.state function bytes in
    moves w (origin.Function function) (entry.Submit function bytes) (place_of_function w.agents.domains function) d e ∙ (submit_legal d.state function bytes fault ∙ sym (none_mapped begin.Submit fault))
accepted_alone w (Tick function) d g e =
    let fault = tick_fault d.share d.state function in
    let place = place_of_function w.agents.domains function in
    moves w (origin.Function function) (entry.Tick function) place d e ∙ (tick_legal d function fault (well_kept w.agents.domains place d g.domains e) refl ∙ sym (none_mapped begin.Tick fault))
accepted_alone w (Mmio domain access) d g e =
    let fault = mmio_fault d.share d.state access in
    moves w (origin.Host domain) (entry.Mmio access) (place_of w.agents.domains domain) d e ∙ (mmio_legal d access fault refl ∙ sym (none_mapped begin.Mmio fault))
accepted_alone w (Enter origin class) d g e = absurd cc
accepted_alone w (Pass port class) d g e = absurd cc
accepted_alone w (Send direction class) d g e = absurd cc
accepted_alone w (Take direction) d g e = absurd cc
accepted_alone w (Credit direction) d g e = absurd cc
accepted_alone w (Root class) d g e = absurd cc
accepted_alone w (Arrive function class) d g e = absurd cc
