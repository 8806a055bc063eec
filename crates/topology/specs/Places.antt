-- The ports of switches: among which outputs each puts packets, and from where packets come into it.
use Rattle.std.specs.Prelude.{ℕ, ◌==◌, List, ◌++◌, map, Option, Some, None, if◌then◌else◌}
use Rattle.std.specs.List.{find}
use Rattle.platform.specs.declared.parts.Switch.{Switch}
use Rattle.platform.specs.declared.parts.DownstreamPort.{DownstreamPort}
use Rattle.platform.specs.Platform.{Platform}
use Rattle.platform.specs.Tree.{id_below, is_taken, port_above}
use Rattle.topology.specs.declared.places.PortPlace.{PortPlace}
use Rattle.topology.specs.Links.{end_above}
use Rattle.topology.specs.Nodes.{downstream_end, upstream_end}

-- into the upstream port of a switch packets come from the port above
abbrev pub upstream_place : Platform → Switch → PortPlace
upstream_place platform switch = record {
  id = switch.id;
  node = (upstream_end platform switch.id).node;
  input = Some (end_above platform (port_above platform.ports switch));
}

-- into a downstream port they come from what stands below, if anything does
abbrev pub downstream_place : Platform → DownstreamPort → PortPlace
downstream_place platform port = record {
  id = port.id;
  node = (downstream_end platform port).node;
  input = if is_taken platform.switches platform.functions (id_below port) then Some (upstream_end platform (id_below port)) else None;
}

abbrev pub places_of : Platform → List PortPlace
places_of platform = map (upstream_place platform) platform.switches ++ map (downstream_place platform) platform.ports

abbrev pub place_at : List PortPlace → ℕ → Option PortPlace
place_at places id = find (λ place. place.id == id) places
