-- An event of a domain that moves in a guarded fabric moves in one without other domains, and does the same.
use Rattle.std.proofs.Common.{◌≡◌, ℕ, Bool, true, List, sym, ap, ◌∙◌, subst}
use Rattle.fab_types.specs.declared.origin.Origin.TheVariants as origin
use Rattle.fab_types.specs.declared.violation.Violation.{Violation}
use Rattle.frame_log.specs.Descriptor.{Descriptor}
use Rattle.bridge.specs.Bridges.{Routes}
use Rattle.domain.specs.declared.entry.Entry.TheVariants as entry
use Rattle.domains.specs.Agents.{AgentsView}
use Rattle.link.specs.Channels.{Channel}
use Rattle.port.specs.Turns.{PortView}
use Rattle.domains.specs.Domains.{made_at, place_of, place_of_function}
use Rattle.topology.specs.Links.{sender_of}
use Rattle.topology.specs.Topologies.{Tree}
use Rattle.fabric_core.specs.declared.event.Event.{Event}
use Rattle.fabric_core.specs.declared.event.Event.TheVariants.{Arrive, Credit, Enter, Mmio, Pass, Root, Send, Submit, Take, Tick}
use Rattle.fabric_core.specs.Events.{effect}
use Rattle.fabric_core.specs.Isolation.{is_event_of}
use Rattle.fabric_core.specs.Soundness.{IsGuardedFabric}
use Rattle.fabric_core.specs.World.{World}
use Rattle.fabric_core.proofs.runs.MirroredAgents.{AreNumbered, made_of_function, made_of_number}
use Rattle.fabric_core.proofs.runs.Mirrors.{Follows, Mirrors}
use Rattle.fabric_core.proofs.runs.OwnEnds.{own_arrive, own_at_host}
use Rattle.fabric_core.proofs.runs.OwnMoves.{Beside, IsRoomy, own_begin, own_enter, own_receive, own_send}
use Rattle.fabric_core.proofs.runs.OwnTurns.{own_pass}
use Rattle.fabric_core.proofs.invariant.Renewing.{renewed}

module _ (d : ℕ) (is_told : Violation → Bool) (w : World) (channels : List (List Channel)) (ports : List PortView) (agents : AgentsView) (violations : List Violation) (strays : List Descriptor) (m : Beside d is_told w channels ports agents violations) where
  abbrev other : World
  other = renewed w channels ports agents violations strays

  own_beside : IsRoomy w → AreNumbered w.agents.domains → IsGuardedFabric w → IsGuardedFabric other → (event : Event) → is_event_of w d event ≡ true → Follows (Mirrors d is_told) (effect w event) (effect other event)
  own_beside roomy numbers g g' (Submit function bytes) is =
      own_begin d is_told w channels ports agents violations strays m (origin.Function function) (made_at w.agents.domains (entry.Submit function bytes) (place_of_function w.agents.domains function)) (made_at agents.domains (entry.Submit function bytes) (place_of_function agents.domains function))
      (made_of_function d w.agents.domains agents.domains numbers m.agents.domains (entry.Submit function bytes) function is)
  own_beside roomy numbers g g' (Tick function) is =
      own_begin d is_told w channels ports agents violations strays m (origin.Function function) (made_at w.agents.domains (entry.Tick function) (place_of_function w.agents.domains function)) (made_at agents.domains (entry.Tick function) (place_of_function agents.domains function))
      (made_of_function d w.agents.domains agents.domains numbers m.agents.domains (entry.Tick function) function is)
  own_beside roomy numbers g g' (Mmio domain access) is =
      own_begin d is_told w channels ports agents violations strays m (origin.Host domain) (made_at w.agents.domains (entry.Mmio access) (place_of w.agents.domains domain)) (made_at agents.domains (entry.Mmio access) (place_of agents.domains domain))
      (made_of_number d w.agents.domains agents.domains numbers m.agents.domains (entry.Mmio access) domain is)
  own_beside roomy numbers g g' (Enter origin class) is = own_enter d is_told w channels ports agents violations strays m roomy origin class is
  own_beside roomy numbers g g' (Pass port class) is = own_pass d is_told w channels ports agents violations strays m roomy numbers class g g' port is
  own_beside roomy numbers g g' (Send direction class) is = own_send d is_told w channels ports agents violations strays m class (sender_of w.tree.links direction) is
  own_beside roomy numbers g g' (Take direction) is = own_receive d is_told w channels ports agents violations strays m (sender_of w.tree.links direction) is
  own_beside roomy numbers g g' (Credit direction) is = absurd cc
  own_beside roomy numbers g g' (Root class) is = own_at_host d is_told w channels ports agents violations strays m roomy g g' numbers class is
  own_beside roomy numbers g g' (Arrive function class) is = own_arrive d is_told w channels ports agents violations strays m roomy g g' numbers function class is

same_frame : (w v : World) → v.tree ≡ w.tree → v.routes ≡ w.routes → renewed w v.channels v.ports v.agents v.violations v.strays ≡ v
same_frame w v tree routes =
    ap (λ (t : Tree). record { tree = t; routes = w.routes; channels = v.channels; ports = v.ports; agents = v.agents; violations = v.violations; strays = v.strays }) (sym tree)
    ∙ ap (λ (r : Routes). record { tree = v.tree; routes = r; channels = v.channels; ports = v.ports; agents = v.agents; violations = v.violations; strays = v.strays }) (sym routes)

pub own_step : (d : ℕ) (is_told : Violation → Bool) (w v : World) → Mirrors d is_told w v → IsRoomy w → AreNumbered w.agents.domains → IsGuardedFabric w → IsGuardedFabric v → (event : Event) → is_event_of w d event ≡ true
    → Follows (Mirrors d is_told) (effect w event) (effect v event)
own_step d is_told w v m roomy numbers g g' event is =
    let same = same_frame w v m.tree m.routes in
    subst (λ (x : World). Follows (Mirrors d is_told) (effect w event) (effect x event)) same
    (own_beside d is_told w v.channels v.ports v.agents v.violations v.strays (record { configs = m.configs; links = m.links; agents = m.agents; violations = m.violations }) roomy numbers g (subst IsGuardedFabric (sym same) g') event is)
