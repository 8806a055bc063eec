-- Where the packet that a port would take waits for a place, its turn does nothing.
use Rattle.std.proofs.Common.{◌≡◌, ℕ, true, List, Option, Some, None, refl, ap, ◌∙◌}
use Rattle.std.specs.Prelude.{option_map, slice_index_or}
use Rattle.std.specs.Option.{option_and_then}
use Rattle.fab_types.specs.declared.class.Class.{Class}
use Rattle.fab_types.specs.declared.head.Head.{Head}
use Rattle.fab_types.specs.declared.outcome.Outcome.TheVariants.{Idle}
use Rattle.frame_log.specs.Descriptor.{Descriptor}
use Rattle.port.specs.Configs.{Config}
use Rattle.port.specs.Courses.{course_of}
use Rattle.port.specs.declared.course.Forwarding.{Forwarding}
use Rattle.port.specs.declared.course.Forwarding.TheVariants.{To, Stop, NoCase}
use Rattle.lane.specs.Lanes.{eligible}
use Rattle.topology.specs.declared.nodes.LinkEnd.{LinkEnd}
use Rattle.interconnect.specs.Misrouted.{misrouted_by, misrouted_from, misrouted_number, misrouted_of}
use Rattle.interconnect.specs.Moves.{channel_at}
use Rattle.interconnect.specs.Passes.{index_of, no_place}
use Rattle.interconnect.specs.Waits.{lane_of, waits_from, waits_number, waits_of, waits_on}
use Rattle.fabric_core.specs.Events.{StepsTo, effect}
use Rattle.fabric_core.specs.Misrouting.{misrouting_by, passed_unless}
use Rattle.fabric_core.specs.Passing.{Site, passed, passed_by, passed_number, port_number}
use Rattle.fabric_core.specs.Arrivals.{Taken, taken_at, taken_from}
use Rattle.fabric_core.specs.Stations.{taking}
use Rattle.fabric_core.specs.Waits.{waits}
use Rattle.fabric_core.specs.World.{World}
use Rattle.fabric_core.specs.declared.event.Event.TheVariants.{Pass}
use Rattle.fabric_core.specs.declared.station.Station.{Station}
use Rattle.fabric_core.specs.declared.station.Station.TheVariants as station

module _ (w : World) (class : Class) where
  full_lane : (site : Site) (t : Taken) (c : Forwarding) → waits_on w.channels site.node class (lane_of c) ≡ true → passed_by w site class t c ≡ None
  full_lane site t (To lane) full = rw full refl
  full_lane site t (Stop report) full = absurd cc
  full_lane site t NoCase full = absurd cc

  goes_on : (node : ℕ) (input : LinkEnd) (config : Config) (head : Head) (c : Forwarding) → waits_on w.channels node class (lane_of c) ≡ true → misrouted_by w.routes node input config head c ≡ None
  goes_on node input config head (To lane) full = refl
  goes_on node input config head (Stop report) full = absurd cc
  goes_on node input config head NoCase full = absurd cc

  module _ (i node : ℕ) (config : Config) where
    abbrev site : Site
    site = record { number = i; node = node; config = config }

    by_found : (input : LinkEnd) (found : Option (Descriptor × List Descriptor)) → waits_of w.routes w.channels node class config found ≡ true
        → (misrouted_of w.routes node input config found ≡ None) × (option_and_then (passed w site class) (option_map (taken_from w.channels input) found) ≡ None)
    by_found input None full = absurd cc
    by_found input (Some found) full =
        let course = course_of w.routes config found.0.head in
        (goes_on node input config found.0.head course full, full_lane site (taken_from w.channels input found) course full)

    by_input : (input : Option LinkEnd) → waits_from w.routes w.channels class config node input ≡ true → (misrouted_from w.routes w.channels class config node input ≡ None) × (option_and_then (passed w site class) (taken_at w.channels class input) ≡ None)
    by_input None full = absurd cc
    by_input (Some input) full = by_found input (eligible class (channel_at w.channels input).ingress) full

  by_number : (number : Option ℕ) → waits_number w.tree w.routes w.channels w.ports class number ≡ true → (misrouted_number w.tree w.routes w.channels w.ports class number ≡ None) × (passed_number w class number ≡ None)
  by_number None full = absurd cc
  by_number (Some i) full = let place = slice_index_or w.tree.places i no_place in by_input i place.node (port_number w i).config place.input full

  pub waits_none : (port : ℕ) → waits w (station.Port port) class ≡ true → effect w (Pass port class) ≡ None
  waits_none port full =
      let both = by_number (index_of w.tree.places port) full in
      ap (λ l. passed_unless w port class (misrouting_by w class l)) both.0 ∙ both.1

  pub waits_idle : (s : Station) → waits w s class ≡ true → StepsTo w (taking s class) Idle w
  waits_idle (station.FunctionOutbox function) full = absurd cc
  waits_idle (station.HostOutbox domain) full = absurd cc
  waits_idle (station.Port port) full = (waits_none port full, refl, refl)
  waits_idle (station.Link direction) full = absurd cc
  waits_idle station.Host full = absurd cc
  waits_idle (station.Function function) full = absurd cc
