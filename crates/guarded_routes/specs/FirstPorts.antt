-- What a port with all five controls does with what the function below it sends, beside what the machine of its domain
-- alone says of it (PCIe 4.0, 6.12.1.1).
use Rattle.std.specs.Prelude.{◌≡◌, ℕ, true, List, Option, Some, None, if◌then◌else◌}
use Rattle.fab_types.specs.Id.{bus_of}
use Rattle.fab_types.specs.declared.head.Head.{Head}
use Rattle.fab_types.specs.declared.head.Header.{Header}
use Rattle.fab_types.specs.declared.head.Header.TheVariants as header
use Rattle.fab_types.specs.declared.head.Parties.TheVariants.{Upward}
use Rattle.fab_types.specs.declared.violation.Check.{Check}
use Rattle.fab_types.specs.declared.violation.Violation.{Violation}
use Rattle.platform.specs.declared.parts.DownstreamPort.{DownstreamPort}
use Rattle.platform.specs.Egress.{holder_beside, lets_through}
use Rattle.platform.specs.Owners.{first_port, holds_address, holds_bus}
use Rattle.platform.specs.Share.{is_guarded_port}
use Rattle.platform.specs.Tree.{port_at, id_below}
use Rattle.acs.specs.declared.vetting.Verdict.{Verdict}
use Rattle.acs.specs.declared.vetting.Verdict.TheVariants as verdict
use Rattle.acs.specs.Vetting.{verdict_of}
use Rattle.bridge.specs.declared.route.Route.{Route}
use Rattle.bridge.specs.declared.route.Route.TheVariants.{Up, Port}
use Rattle.port.specs.declared.course.Forwarding.{Forwarding}
use Rattle.port.specs.declared.course.Forwarding.TheVariants.{To, Stop}
use Rattle.port.specs.Configs.{Config}
use Rattle.port.specs.Courses.{reported_by, up_by}
use Rattle.request_handling.specs.declared.fate.Fate.{Fate}
use Rattle.request_handling.specs.declared.fate.Fate.TheVariants.{Vanish, Refused, ToHost, Direct}
use Rattle.request_handling.specs.Emissions.{Emission}

-- the port directly above a function, with all five controls set
pub record IsGuardedFirst (ports : List DownstreamPort) (config : Config) (line : DownstreamPort) (function : ℕ) : Type 0 where
  pub downstream : config.line ≡ Some line
  pub same_id : config.id ≡ line.id
  pub listed : port_at ports line.id ≡ Some line
  pub first : first_port ports function ≡ Some line
  pub below : function ≡ id_below line
  pub held : holds_bus line (bus_of function) ≡ true
  pub guarded : is_guarded_port line ≡ true

-- what a function sends
abbrev pub sent_by : ℕ → List ℕ → Emission
sent_by function bytes = record { parties = Upward function; bytes = bytes }

abbrev pub check_of : Verdict → Option Check
check_of verdict.Pass = None
check_of (verdict.Violation check) = Some check

-- the report of the test that a packet failed, if it failed one
abbrev pub report_at : DownstreamPort → ℕ → Head → Option Violation
report_at line function head = reported_by line head function (check_of (verdict_of line head.header))

-- the route that a port leaves a request for this address: to the other port of its switch that has the address, if it lets
-- requests through to that, and else up
abbrev pub route_beside : DownstreamPort → Option DownstreamPort → Route
route_beside line None = Up
route_beside line (Some other) = if lets_through line other.id then Port other.id else Up

abbrev pub route_left : List DownstreamPort → DownstreamPort → ℕ → Route
route_left ports line address = if holds_address line address then Up else route_beside line (holder_beside ports line address)

abbrev pub route_for : List DownstreamPort → DownstreamPort → Header → Route
route_for ports line header.Malformed = Up
route_for ports line (header.Memory requester address_type address) = route_left ports line address
route_for ports line (header.OtherRequest requester) = Up
route_for ports line (header.Completion target relaxed_ordering) = Up

-- what goes to the host goes up, what goes directly to another function goes by that route, and anything else is stopped
abbrev pub by_fate : List DownstreamPort → Config → DownstreamPort → Head → Fate → Option Violation → Forwarding
by_fate ports config line head ToHost report = To 0
by_fate ports config line head (Direct peer) report = up_by config line head (route_for ports line head.header)
by_fate ports config line head Vanish report = Stop report
by_fate ports config line head (Refused status) report = Stop report
