-- What becomes of a packet that came into a port (PCIe 4.0, 6.12.1.1): up from below, through the tests and the
-- redirection of a downstream port; or down from above, by its route alone.
use Rattle.std.specs.Prelude.{ℕ, ◌≤◌, ◌==◌, ⊤, Bool, true, false, List, Option, Some, None, Result, Ok, Err, option_map, if◌then◌else◌}
use Rattle.fab_types.specs.declared.class.Class.{Class}
use Rattle.fab_types.specs.declared.class.Class.TheVariants.{Posted, NonPosted, Completion}
use Rattle.fab_types.specs.declared.head.Answerer.{Answerer}
use Rattle.fab_types.specs.declared.head.Answerer.TheVariants as by
use Rattle.fab_types.specs.declared.head.Head.{Head}
use Rattle.fab_types.specs.declared.head.Parties.{Parties}
use Rattle.fab_types.specs.declared.head.Parties.TheVariants.{Upward, Downward, Answer}
use Rattle.fab_types.specs.declared.violation.Check.{Check}
use Rattle.fab_types.specs.declared.violation.Violation.{Violation}
use Rattle.platform.specs.declared.parts.DownstreamPort.{DownstreamPort}
use Rattle.platform.specs.Tree.{id_below}
use Rattle.bridge.specs.declared.route.Route.{Route}
use Rattle.bridge.specs.declared.route.Route.TheVariants.{Up, Port, OwnEgress, Nobody}
use Rattle.bridge.specs.declared.target.Target.{Target}
use Rattle.bridge.specs.Bridges.{Routes}
use Rattle.bridge.specs.Routes.{target_of, route_of}
use Rattle.acs.specs.declared.vetting.Verdict.{Verdict}
use Rattle.acs.specs.declared.vetting.Verdict.TheVariants as verdict
use Rattle.acs.specs.Vetting.{requester_of, verdict_of}
use Rattle.acs.specs.Redirection.{redirected}
use Rattle.port.specs.declared.config.Exit.{Exit}
use Rattle.port.specs.declared.course.Forwarding.{Forwarding}
use Rattle.port.specs.declared.course.Forwarding.TheVariants.{To, Stop, NoCase}
use Rattle.port.specs.Configs.{Config, lane_to}

-- where it goes on, to one of the lanes up to this number
abbrev pub IsWithin : ℕ → Forwarding → Type 0
IsWithin most (To lane) = lane ≤ most
IsWithin most (Stop report) = ⊤
IsWithin most NoCase = ⊤

-- down a lane that leads on
abbrev pub down_lane : Option ℕ → Forwarding
down_lane None = NoCase
down_lane (Some lane) = To lane

-- from an upstream port: to a downstream port alone
abbrev pub down_by : List Exit → Route → Forwarding
down_by exits Up = NoCase
down_by exits (Port other) = down_lane (lane_to exits other)
down_by exits OwnEgress = NoCase
down_by exits Nobody = NoCase

abbrev pub is_posted : Class → Bool
is_posted Posted = true
is_posted NonPosted = false
is_posted Completion = false

-- the report of a request that failed a test (PCIe 4.0, 6.12.4)
abbrev pub report_of : DownstreamPort → Head → ℕ → Check → ℕ → Violation
report_of line head sender check requester =
    record { port = line.id; check = check; sender = sender; requester = requester; posted = is_posted head.cost.class }

abbrev pub reported_by : DownstreamPort → Head → ℕ → Option Check → Option Violation
reported_by line head sender None = None
reported_by line head sender (Some check) = option_map (report_of line head sender check) (requester_of head.header)

-- only the first port above a packet's sender stops it, for a test that it failed or for none
abbrev pub stopped_from : DownstreamPort → Head → Option Check → Parties → Forwarding
stopped_from line head check (Upward function) = if function == id_below line then Stop (reported_by line head function check) else NoCase
stopped_from line head check (Downward function) = NoCase
stopped_from line head check (Answer answerer addressee) = NoCase

abbrev pub stopped : DownstreamPort → Head → Option Check → Forwarding
stopped line head check = stopped_from line head check head.parties

-- a completion is stopped by the first port above the function that made it
abbrev pub stopped_answer : DownstreamPort → Answerer → Forwarding
stopped_answer line by.Port = NoCase
stopped_answer line by.Host = NoCase
stopped_answer line (by.Function function) = if function == id_below line then Stop None else NoCase

-- what came up and would have to go down again the same way: with Upstream Forwarding clear the port stops it
abbrev pub returned_from : DownstreamPort → Head → Parties → Forwarding
returned_from line head (Upward function) = stopped_from line head None (Upward function)
returned_from line head (Downward function) = NoCase
returned_from line head (Answer answerer addressee) = stopped_answer line answerer

abbrev pub returned : DownstreamPort → Head → Forwarding
returned line head = returned_from line head head.parties

-- from a downstream port: up, to another port of the switch, or stopped before its own egress
abbrev pub up_by : Config → DownstreamPort → Head → Route → Forwarding
up_by config line head Up = To 0
up_by config line head (Port other) = down_lane (lane_to config.exits other)
up_by config line head OwnEgress = returned line head
up_by config line head Nobody = NoCase

-- by the route that is left, or stopped for a test of that
abbrev pub led : Config → DownstreamPort → Head → Result Route Verdict → Forwarding
led config line head (Ok route) = up_by config line head route
led config line head (Err verdict.Pass) = stopped line head None
led config line head (Err (verdict.Violation check)) = stopped line head (Some check)

-- a packet without a target is malformed, or a request of a kind that no port takes: it is stopped
abbrev pub routed : Routes → Config → DownstreamPort → Head → Option Target → Forwarding
routed tree config line head None = stopped line head None
routed tree config line head (Some target) =
    led config line head (redirected line (route_of tree.switches tree.ports config.id head.header) head.header)

-- a request that fails a test is stopped for it
abbrev pub tested : Routes → Config → DownstreamPort → Head → Verdict → Forwarding
tested tree config line head (verdict.Violation check) = stopped line head (Some check)
tested tree config line head verdict.Pass = routed tree config line head (target_of head.header)

abbrev pub course_at : Routes → Config → Head → Option DownstreamPort → Forwarding
course_at tree config head (Some line) = tested tree config line head (verdict_of line head.header)
course_at tree config head None = down_by config.exits (route_of tree.switches tree.ports config.id head.header)

-- what becomes of a packet with this head at the port
abbrev pub course_of : Routes → Config → Head → Forwarding
course_of tree config head = course_at tree config head config.line

-- of a request by a function that fails a test
abbrev pub reported_from : DownstreamPort → Head → Check → Parties → Option Violation
reported_from line head check (Upward function) = reported_by line head function (Some check)
reported_from line head check (Downward function) = None
reported_from line head check (Answer answerer addressee) = None

abbrev pub failed_report : DownstreamPort → Head → Verdict → Option Violation
failed_report line head (verdict.Violation check) = reported_from line head check head.parties
failed_report line head verdict.Pass = None

-- the first test that it fails, that of its route last
abbrev pub verdict_after : Verdict → Result Route Verdict → Verdict
verdict_after (verdict.Violation check) route = verdict.Violation check
verdict_after verdict.Pass (Ok route) = verdict.Pass
verdict_after verdict.Pass (Err failed) = failed

abbrev pub report_at : Routes → Config → Head → Option DownstreamPort → Option Violation
report_at tree config head None = None
report_at tree config head (Some line) =
    failed_report line head (verdict_after (verdict_of line head.header) (redirected line (route_of tree.switches tree.ports config.id head.header) head.header))

-- what a port reports of a packet that another than the first port above its sender refuses
abbrev pub report_elsewhere : Routes → Config → Head → Option Violation
report_elsewhere tree config head = report_at tree config head config.line
