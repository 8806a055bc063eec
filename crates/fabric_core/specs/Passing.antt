-- What a port does with a packet that came into it (PCIe 4.0, 6.12.1.1).
use Rattle.std.specs.Prelude.{ℕ, Bool, false, List, [], ◌∷◌, ◌++◌, slice_index_or, slice_set, Option, Some, None, option_to_list, if◌then◌else◌}
use Rattle.std.specs.Option.{option_and_then}
use Rattle.fab_types.specs.declared.class.Class.{Class}
use Rattle.fab_types.specs.declared.class.Class.TheVariants.{Posted, NonPosted, Completion}
use Rattle.fab_types.specs.declared.violation.Violation.{Violation}
use Rattle.frame_log.specs.Descriptor.{Descriptor}
use Rattle.domain.specs.declared.entry.Entry.TheVariants.{Refuse}
use Rattle.link.specs.Channels.{Channel, is_full}
use Rattle.port.specs.Configs.{Config}
use Rattle.port.specs.Courses.{course_of}
use Rattle.port.specs.Turns.{PortView}
use Rattle.switch_output.specs.Vetted.{may_go_on}
use Rattle.port.specs.declared.course.Forwarding.{Forwarding}
use Rattle.port.specs.declared.course.Forwarding.TheVariants.{To, Stop, NoCase}
use Rattle.domains.specs.Domains.{Made, made}
use Rattle.topology.specs.declared.nodes.LinkEnd.{LinkEnd}
use Rattle.topology.specs.declared.places.PortPlace.{PortPlace}
use Rattle.interconnect.specs.Moves.{channel_at, put_at}
use Rattle.interconnect.specs.Passes.{index_of, no_place, no_port}
use Rattle.fabric_core.specs.Arrivals.{Taken, taken_at}
use Rattle.fabric_core.specs.World.{World, with_channels}

-- a port of the fabric: its number among all, its switch, and what it is
pub record Site : Type 0 where
  pub number : ℕ
  pub node : ℕ
  pub config : Config

-- the output of its switch with this number
abbrev pub output_end : Site → ℕ → LinkEnd
output_end site output = record { node = site.node; output = output }

-- has the output of its switch no place for a packet of the class?
abbrev pub is_full_at : World → Site → ℕ → Class → Bool
is_full_at w site output class = is_full class (channel_at w.channels (output_end site output))

-- ---- on

abbrev pub kept_by : PortView → Descriptor → PortView
kept_by port frame = record { config = port.config; held = port.held; kept = port.kept; strays = port.strays ++ frame ∷ [] }

abbrev pub port_number : World → ℕ → PortView
port_number w i = slice_index_or w.ports i no_port

-- the port keeps the packet as one that it has no case for
abbrev pub strayed : World → Site → Taken → World
strayed w site t = record {
  tree = w.tree;
  routes = w.routes;
  channels = t.channels;
  ports = slice_set w.ports site.number (kept_by (port_number w site.number) t.frame);
  agents = w.agents;
  violations = w.violations;
  strays = w.strays;
}

-- it goes on in an output, if that has a place for it
abbrev pub forwarded : World → Site → Class → ℕ → Taken → Option World
forwarded w site class output t =
    if is_full_at w site output class then None
    else (if may_go_on w.routes.ports t.frame then Some (with_channels w (put_at t.channels (output_end site output) t.frame))
    else Some (strayed w site t))

-- ---- stopped

-- has the port's own output no place for what answers a packet of the class? Only a non-posted request is answered.
abbrev pub answer_waits : World → Site → Class → Bool
answer_waits w site Posted = false
answer_waits w site NonPosted = is_full_at w site site.config.own Completion
answer_waits w site Completion = false

-- the answer leaves by the port itself
abbrev pub answered_at : List (List Channel) → LinkEnd → Option Descriptor → List (List Channel)
answered_at channels end None = channels
answered_at channels end (Some answer) = put_at channels end answer

abbrev pub refused_by : World → Site → Option Violation → Taken → Option Made → World
refused_by w site report t None = strayed w site t
refused_by w site report t (Some m) = record {
  tree = w.tree;
  routes = w.routes;
  channels = answered_at t.channels (output_end site site.config.own) m.sent;
  ports = w.ports;
  agents = record { domains = m.domains; outboxes = w.agents.outboxes };
  violations = w.violations ++ option_to_list report;
  strays = w.strays;
}

-- its home has it refused, and a violation is reported
abbrev pub stopped : World → Site → Class → Option Violation → Taken → Option World
stopped w site class report t =
    if answer_waits w site class then None
    else Some (refused_by w site report t (made w.agents.domains t.frame.domain (Refuse t.frame.number)))

-- ---- by its course

abbrev pub passed_by : World → Site → Class → Taken → Forwarding → Option World
passed_by w site class t (To output) = forwarded w site class output t
passed_by w site class t (Stop report) = stopped w site class report t
passed_by w site class t NoCase = Some (strayed w site t)

abbrev pub passed : World → Site → Class → Taken → Option World
passed w site class t = passed_by w site class t (course_of w.routes site.config t.frame.head)

abbrev pub site_at : World → ℕ → PortPlace → Site
site_at w i place = record { number = i; node = place.node; config = (port_number w i).config }

abbrev pub passed_at : World → Class → ℕ → PortPlace → Option World
passed_at w class i place = option_and_then (passed w (site_at w i place) class) (taken_at w.channels class place.input)

abbrev pub passed_number : World → Class → Option ℕ → Option World
passed_number w class None = None
passed_number w class (Some i) = passed_at w class i (slice_index_or w.tree.places i no_place)

-- the port of this ID has its turn with the eligible packet of a class
abbrev pub turned : World → ℕ → Class → Option World
turned w port class = passed_number w class (index_of w.tree.places port)
