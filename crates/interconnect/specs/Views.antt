-- What an interconnect holds: each direction of each link, by the end that it is sent from (a node of the tree and one of
-- its outputs), and the ports of switches.
use Rattle.std.specs.Prelude.{◌≡◌, List, [], map, slice_index_or, None}
use Rattle.bridge.specs.Bridges.{Routes}
use Rattle.credit.specs.Limits.{zero_counters}
use Rattle.credit.specs.declared.counters.Counters.{Counters}
use Rattle.link.specs.Channels.{Channel}
use Rattle.link.specs.Simplexes.{SimplexView, channel}
use Rattle.port.specs.Turns.{PortView}
use Rattle.topology.specs.declared.nodes.LinkEnd.{LinkEnd}
use Rattle.topology.specs.Topologies.{Tree}

pub record InterconnectView : Type 0 where
  pub tree : Tree
  pub routes : Routes
  pub nodes : List (List SimplexView)
  pub ports : List PortView  -- in the order of the tree's places

-- a direction of a link on which nothing was sent, with these credits
abbrev pub unused : Counters → SimplexView
unused limits = record {
  start = limits;
  left = limits;
  egress = record { queue = record { waiting = []; gap = None }; misses = 0; refusals = 0 };
  wire = [];
  ingress = record { queue = record { waiting = []; gap = None }; misses = 0; refusals = 0 };
}

-- the direction that is sent from an end
abbrev pub simplex_at : List (List SimplexView) → LinkEnd → SimplexView
simplex_at nodes end = slice_index_or (slice_index_or nodes end.node []) end.output (unused zero_counters)

-- what the directions hold, without how often an output said no
abbrev pub channels_of : List (List SimplexView) → List (List Channel)
channels_of nodes = map (map channel) nodes

abbrev pub channels : InterconnectView → List (List Channel)
channels h = channels_of h.nodes

-- all but what the directions hold
pub record IsSameRest (old new : InterconnectView) : Type 0 where
  pub tree : new.tree ≡ old.tree
  pub routes : new.routes ≡ old.routes
  pub ports : new.ports ≡ old.ports
