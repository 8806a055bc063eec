-- What a port does with a packet that it has no case for (PCIe 4.0, 2.2.9 and 6.12.1.1). In layouts that aren't guarded the
-- packet's home gets an entry: what answers the packet leaves by the port, and a violation is reported. In guarded layouts
-- no port meets such a packet.
use Rattle.std.specs.Prelude.{ℕ, Bool, false, ◌&&◌, ◌++◌, List, Option, Some, None, option_to_list, if◌then◌else◌}
use Rattle.std.specs.Option.{option_and_then}
use Rattle.fab_types.specs.declared.class.Class.{Class}
use Rattle.fab_types.specs.declared.class.Class.TheVariants.{Completion}
use Rattle.fab_types.specs.declared.place.Place.{Place}
use Rattle.domain.specs.Domains.{DomainView}
use Rattle.request_handling.specs.Takers.{is_at_port}
use Rattle.link.specs.Channels.{is_full}
use Rattle.domains.specs.Aliens.{aliened, answers}
use Rattle.domains.specs.Domains.{Made, domain_at, place_of}
use Rattle.interconnect.specs.declared.misrouted.Misrouted.{Misrouted}
use Rattle.interconnect.specs.Misrouted.{misrouted_among}
use Rattle.interconnect.specs.Moves.{channel_at}
use Rattle.fabric_core.specs.Arrivals.{Taken, taken_at}
use Rattle.fabric_core.specs.Passing.{answered_at, turned}
use Rattle.fabric_core.specs.World.{World}

abbrev pub is_at_port_in : Option DomainView → Place → Bool
is_at_port_in None place = false
is_at_port_in (Some d) place = is_at_port d.share place

-- does a port take what waits there, by what the domain with this number knows of the layout?
abbrev pub is_at_port_of : List DomainView → ℕ → Place → Bool
is_at_port_of domains domain place = is_at_port_in (domain_at domains (place_of domains domain)) place

-- a packet that a port has no case for, and what the entry of its home makes
pub record Misrouting : Type 0 where
  pub misrouted : Misrouted
  pub taken : Taken
  pub made : Made

abbrev pub misrouting_with : Misrouted → Taken → Option Made → Option Misrouting
misrouting_with misrouted t None = None
misrouting_with misrouted t (Some m) = Some (record { misrouted = misrouted; taken = t; made = m })

abbrev pub misrouting_to : World → Misrouted → Taken → Option Misrouting
misrouting_to w misrouted t =
    if is_at_port_of w.agents.domains t.frame.domain misrouted.place
    then misrouting_with misrouted t (aliened w.agents.domains t.frame.domain misrouted.place t.frame)
    else None

abbrev pub misrouting_by : World → Class → Option Misrouted → Option Misrouting
misrouting_by w class None = None
misrouting_by w class (Some misrouted) = option_and_then (misrouting_to w misrouted) (taken_at w.channels class (Some misrouted.input))

-- what the port of this ID is about to misroute of a class, if its home has an entry for it
abbrev pub misrouting : World → ℕ → Class → Option Misrouting
misrouting w port class = misrouting_by w class (misrouted_among w.tree w.routes w.channels w.ports port class)

-- it is gone, and what answers it waits at the port's own output
abbrev pub without_misrouted : World → Misrouting → World
without_misrouted w l = record {
  tree = w.tree;
  routes = w.routes;
  channels = answered_at l.taken.channels l.misrouted.own l.made.sent;
  ports = w.ports;
  agents = record { domains = l.made.domains; outboxes = w.agents.outboxes };
  violations = w.violations ++ option_to_list l.misrouted.report;
  strays = w.strays;
}

-- unless the port's own output has no place for the answer
abbrev pub misrouted : World → Misrouting → Option World
misrouted w l =
    if answers (Some l.made) && is_full Completion (channel_at w.channels l.misrouted.own) then None
    else Some (without_misrouted w l)

abbrev pub passed_unless : World → ℕ → Class → Option Misrouting → Option World
passed_unless w port class None = turned w port class
passed_unless w port class (Some l) = misrouted w l

-- the port of this ID takes the eligible packet of a class
abbrev pub pass : World → ℕ → Class → Option World
pass w port class = passed_unless w port class (misrouting w port class)
