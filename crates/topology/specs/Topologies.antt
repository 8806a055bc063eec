-- What a contract sees of a topology.
use Rattle.std.specs.Prelude.{◌≡◌, ◌≢◌, ℕ, ◌<◌, ⊤, List, All, length, slice_index_or, Option, Some, None}
use Rattle.platform.specs.Platform.{Platform}
use Rattle.topology.specs.declared.links.Link.{Link}
use Rattle.topology.specs.declared.nodes.LinkEnd.{LinkEnd}
use Rattle.topology.specs.declared.places.PortPlace.{PortPlace}
use Rattle.topology.specs.declared.topology.Topology.TheInside.{Inside}
use Rattle.topology.specs.FirstIndexes.{firsts_of, link_buses, place_slots}
use Rattle.topology.specs.Links.{links_of}
use Rattle.topology.specs.Nodes.{outputs_of}
use Rattle.topology.specs.Places.{places_of}

pub record Tree : Type 0 where
  pub outputs : List ℕ  -- how many outputs lead out of each node
  pub links : List Link
  pub places : List PortPlace

abbrev pub tree_of : Platform → Tree
tree_of platform = record { outputs = outputs_of platform; links = links_of platform; places = places_of platform }

abbrev pub topology_view : Inside → Tree
topology_view t = record { outputs = t.outputs.items; links = t.links.items; places = t.places.items }

-- there is such an output
abbrev pub IsEnd : List ℕ → LinkEnd → Type 0
IsEnd outputs end = (end.node < length outputs) × (end.output < slice_index_or outputs end.node 0)

pub record IsLink (outputs : List ℕ) (link : Link) : Type 0 where
  pub above : IsEnd outputs link.above
  pub below : IsEnd outputs link.below

-- what comes into a port comes from another node
abbrev pub IsFromElsewhere : List ℕ → ℕ → Option LinkEnd → Type 0
IsFromElsewhere outputs node None = ⊤
IsFromElsewhere outputs node (Some end) = IsEnd outputs end × (end.node ≢ node)

pub record IsPlace (outputs : List ℕ) (place : PortPlace) : Type 0 where
  pub node : place.node < length outputs
  pub input : IsFromElsewhere outputs place.node place.input

-- what holds of every topology
pub record IsTree (t : Tree) : Type 0 where
  pub links : All (IsLink t.outputs) t.links
  pub places : All (IsPlace t.outputs) t.places

-- its fields: the indexes are those of its lists
pub record IsIndexed (t : Inside) : Type 0 where
  pub sound : IsTree (topology_view t)
  pub links : t.links_by_bus ≡ firsts_of 256 (link_buses t.links.items)
  pub places : t.places_by_slot ≡ firsts_of 8192 (place_slots t.places.items)
