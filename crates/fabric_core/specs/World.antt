-- What a fabric holds.
use Rattle.std.specs.Prelude.{Bool, List, ◌++◌, ◌∷◌, []}
use Rattle.std.specs.List.{list_all}
use Rattle.fab_types.specs.declared.violation.Violation.{Violation}
use Rattle.frame_log.specs.Descriptor.{Descriptor}
use Rattle.bridge.specs.Bridges.{Routes, of_platform}
use Rattle.platform.specs.Platform.{Platform}
use Rattle.platform.specs.Share.{is_guarded_port}
use Rattle.link.specs.Channels.{Channel}
use Rattle.port.specs.Turns.{PortView}
use Rattle.topology.specs.Topologies.{Tree, tree_of}
use Rattle.interconnect.specs.Starts.{nodes_of, ports_of}
use Rattle.interconnect.specs.Views.{InterconnectView, channels, channels_of}
use Rattle.domains.specs.Agents.{AgentsView, agents_of}

pub record World : Type 0 where
  pub tree : Tree  -- the ends of each link, and the places of the ports
  pub routes : Routes  -- the switches and the downstream ports
  pub channels : List (List Channel)  -- each direction of a link, by the end that it is sent from
  pub ports : List PortView  -- in the order of the tree's places
  pub agents : AgentsView  -- the domains, and what they have emitted
  pub violations : List Violation  -- what ports reported, oldest first
  pub strays : List Descriptor  -- what the host or a function took and has no case for, oldest first

-- the world of these parts
abbrev pub world_over : InterconnectView → AgentsView → List Violation → List Descriptor → World
world_over h agents violations strays = record {
  tree = h.tree;
  routes = h.routes;
  channels = channels h;
  ports = h.ports;
  agents = agents;
  violations = violations;
  strays = strays;
}

-- are all five controls set on each downstream port?
abbrev pub is_guarded : World → Bool
is_guarded w = list_all is_guarded_port w.routes.ports

abbrev pub with_channels : World → List (List Channel) → World
with_channels w channels = record { tree = w.tree; routes = w.routes; channels = channels; ports = w.ports; agents = w.agents; violations = w.violations; strays = w.strays }

abbrev pub with_agents : World → AgentsView → World
with_agents w agents = record { tree = w.tree; routes = w.routes; channels = w.channels; ports = w.ports; agents = agents; violations = w.violations; strays = w.strays }

-- the directions and the agents are these
abbrev pub with_both : World → List (List Channel) → AgentsView → World
with_both w channels agents = with_agents (with_channels w channels) agents

-- the packet was taken, which leaves these directions, and nobody has a case for it
abbrev pub with_stray : World → List (List Channel) → Descriptor → World
with_stray w channels frame = record { tree = w.tree; routes = w.routes; channels = channels; ports = w.ports; agents = w.agents; violations = w.violations; strays = w.strays ++ frame ∷ [] }

-- a layout's fabric, in which nothing was begun
abbrev pub world_of : Platform → World
world_of platform = record {
  tree = tree_of platform;
  routes = of_platform platform;
  channels = channels_of (nodes_of platform);
  ports = ports_of platform;
  agents = agents_of platform;
  violations = [];
  strays = [];
}
