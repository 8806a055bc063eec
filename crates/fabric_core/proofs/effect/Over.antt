-- An interconnect as part of a world.
use Rattle.std.proofs.Common.{◌≡◌, List, refl, ap, ◌∙◌}
use Rattle.fab_types.specs.declared.violation.Violation.{Violation}
use Rattle.frame_log.specs.Descriptor.{Descriptor}
use Rattle.bridge.specs.Bridges.{Routes}
use Rattle.link.specs.Channels.{Channel}
use Rattle.port.specs.Turns.{PortView}
use Rattle.topology.specs.Topologies.{Tree}
use Rattle.interconnect.specs.Views.{InterconnectView, IsSameRest, channels}
use Rattle.domains.specs.Agents.{AgentsView}
use Rattle.fabric_core.specs.World.{World, with_channels, world_over}

abbrev pub of_parts : Tree → Routes → List (List Channel) → List PortView → AgentsView → List Violation → List Descriptor → World
of_parts tree routes cs ports agents violations strays = record { tree = tree; routes = routes; channels = cs; ports = ports; agents = agents; violations = violations; strays = strays }

pub rest_after : (a b c : InterconnectView) → IsSameRest a b → IsSameRest b c → IsSameRest a c
rest_after a b c x y = record { tree = y.tree ∙ x.tree; routes = y.routes ∙ x.routes; ports = y.ports ∙ x.ports }

-- a world in which the parts of an interconnect changed, and the agents and the reports
pub over_parts : (h new : InterconnectView) (cs : List (List Channel)) (ports : List PortView) (agents agents' : AgentsView) (violations violations' : List Violation) (strays : List Descriptor) → new.tree ≡ h.tree → new.routes ≡ h.routes → channels new ≡ cs
    → new.ports ≡ ports → agents' ≡ agents → violations' ≡ violations → world_over new agents' violations' strays ≡ of_parts h.tree h.routes cs ports agents violations strays
over_parts h new cs ports agents agents' violations violations' strays tree routes is_cs is_ports is_agents is_violations =
    ap (λ (t : Tree). of_parts t new.routes (channels new) new.ports agents' violations' strays) tree
    ∙ (ap (λ (r : Routes). of_parts h.tree r (channels new) new.ports agents' violations' strays) routes
    ∙ (ap (λ (l : List (List Channel)). of_parts h.tree h.routes l new.ports agents' violations' strays) is_cs
    ∙ (ap (λ (p : List PortView). of_parts h.tree h.routes cs p agents' violations' strays) is_ports
    ∙ (ap (λ (e : AgentsView). of_parts h.tree h.routes cs ports e violations' strays) is_agents
    ∙ ap (λ (v : List Violation). of_parts h.tree h.routes cs ports agents v strays) is_violations))))

-- only the directions changed
pub over_channels : (h new : InterconnectView) (cs : List (List Channel)) (agents : AgentsView) (violations : List Violation) (strays : List Descriptor) → IsSameRest h new → channels new ≡ cs
    → world_over new agents violations strays ≡ with_channels (world_over h agents violations strays) cs
over_channels h new cs agents violations strays rest is = over_parts h new cs h.ports agents agents violations violations strays rest.tree rest.routes is rest.ports refl refl

pub over_same : (h new : InterconnectView) (agents : AgentsView) (violations : List Violation) (strays : List Descriptor) → IsSameRest h new → channels new ≡ channels h → world_over new agents violations strays ≡ world_over h agents violations strays
over_same h new agents violations strays rest is = over_channels h new (channels h) agents violations strays rest is
