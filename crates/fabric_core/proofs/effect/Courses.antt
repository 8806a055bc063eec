-- A course names an output of the port's switch.
use Rattle.std.proofs.Common.{◌≡◌, ℕ, suc, ◌==◌, Bool, true, false, cond, List, [], ◌∷◌, length, Option, Some, None, refl, sym, arith}
use Rattle.std.specs.Prelude.{Result, Ok, Err}
use Rattle.std.specs.List.{position}
use Rattle.std.specs.Option.{option_map}
use Rattle.std.proofs.lemmas.List.Quantifiers.{position-Some}
use Rattle.fab_types.specs.declared.head.Answerer.{Answerer}
use Rattle.fab_types.specs.declared.head.Answerer.TheVariants as by
use Rattle.fab_types.specs.declared.head.Head.{Head}
use Rattle.fab_types.specs.declared.head.Parties.{Parties}
use Rattle.fab_types.specs.declared.head.Parties.TheVariants.{Upward, Downward, Answer}
use Rattle.fab_types.specs.declared.violation.Check.{Check}
use Rattle.platform.specs.declared.parts.DownstreamPort.{DownstreamPort}
use Rattle.platform.specs.Tree.{id_below}
use Rattle.acs.specs.declared.vetting.Verdict.{Verdict}
use Rattle.acs.specs.declared.vetting.Verdict.TheVariants as verdict
use Rattle.acs.specs.Redirection.{redirected}
use Rattle.acs.specs.Vetting.{verdict_of}
use Rattle.bridge.specs.declared.route.Route.{Route}
use Rattle.bridge.specs.declared.route.Route.TheVariants.{Up, Port, OwnEgress, Nobody}
use Rattle.bridge.specs.declared.target.Target.{Target}
use Rattle.bridge.specs.Bridges.{Routes}
use Rattle.bridge.specs.Routes.{route_of, target_of}
use Rattle.port.specs.declared.config.Exit.{Exit}
use Rattle.port.specs.declared.course.Forwarding.{Forwarding}
use Rattle.port.specs.declared.course.Forwarding.TheVariants.{Stop, NoCase}
use Rattle.port.specs.Configs.{Config, lane_to, leads_to}
use Rattle.port.specs.Courses.{IsWithin, course_at, course_of, down_by, down_lane, led, reported_by, returned_from, routed, stopped_answer, stopped_from, tested, up_by}

output_by : (exits : List Exit) (p : Exit → Bool) (o : Option ℕ) → o ≡ position p exits → IsWithin (length exits) (down_lane (option_map suc o))
output_by exits p None is = tt
output_by (e ∷ exits) p (Some i) is = let found = position-Some p (e ∷ exits) i e (sym is) in omega (arith, found.0)
output_by [] p (Some i) is = absurd cc

output_within : (exits : List Exit) (port : ℕ) → IsWithin (length exits) (down_lane (lane_to exits port))
output_within exits port = output_by exits (leads_to port) (position (leads_to port) exits) refl

down_within : (exits : List Exit) (r : Route) → IsWithin (length exits) (down_by exits r)
down_within exits Up = tt
down_within exits (Port other) = output_within exits other
down_within exits OwnEgress = tt
down_within exits Nobody = tt

stop_within : (most : ℕ) (b : Bool) (c : Forwarding) → IsWithin most c → IsWithin most (cond b c NoCase)
stop_within most true c h = h
stop_within most false c h = tt

stopped_within : (most : ℕ) (line : DownstreamPort) (head : Head) (check : Option Check) (parties : Parties) → IsWithin most (stopped_from line head check parties)
stopped_within most line head check (Upward function) = stop_within most _ (Stop (reported_by line head function check)) tt
stopped_within most line head check (Downward function) = tt
stopped_within most line head check (Answer answerer addressee) = tt

answer_within : (most : ℕ) (line : DownstreamPort) (answerer : Answerer) → IsWithin most (stopped_answer line answerer)
answer_within most line by.Port = tt
answer_within most line by.Host = tt
answer_within most line (by.Function function) = stop_within most (function == id_below line) (Stop None) tt

returned_within : (most : ℕ) (line : DownstreamPort) (head : Head) (parties : Parties) → IsWithin most (returned_from line head parties)
returned_within most line head (Upward function) = stopped_within most line head None (Upward function)
returned_within most line head (Downward function) = tt
returned_within most line head (Answer answerer addressee) = answer_within most line answerer

up_within : (config : Config) (line : DownstreamPort) (head : Head) (r : Route) → IsWithin (length config.exits) (up_by config line head r)
up_within config line head Up = omega arith
up_within config line head (Port other) = output_within config.exits other
up_within config line head OwnEgress = returned_within (length config.exits) line head head.parties
up_within config line head Nobody = tt

led_within : (config : Config) (line : DownstreamPort) (head : Head) (r : Result Route Verdict) → IsWithin (length config.exits) (led config line head r)
led_within config line head (Ok way) = up_within config line head way
led_within config line head (Err verdict.Pass) = stopped_within (length config.exits) line head None head.parties
led_within config line head (Err (verdict.Violation check)) = stopped_within (length config.exits) line head (Some check) head.parties

routed_within : (tree : Routes) (config : Config) (line : DownstreamPort) (head : Head) (target : Option Target) → IsWithin (length config.exits) (routed tree config line head target)
routed_within tree config line head None = stopped_within (length config.exits) line head None head.parties
routed_within tree config line head (Some target) = led_within config line head (redirected line (route_of tree.switches tree.ports config.id head.header) head.header)

tested_within : (tree : Routes) (config : Config) (line : DownstreamPort) (head : Head) (v : Verdict) → IsWithin (length config.exits) (tested tree config line head v)
tested_within tree config line head (verdict.Violation check) = stopped_within (length config.exits) line head (Some check) head.parties
tested_within tree config line head verdict.Pass = routed_within tree config line head (target_of head.header)

at_within : (tree : Routes) (config : Config) (head : Head) (line : Option DownstreamPort) → IsWithin (length config.exits) (course_at tree config head line)
at_within tree config head (Some line) = tested_within tree config line head (verdict_of line head.header)
at_within tree config head None = down_within config.exits (route_of tree.switches tree.ports config.id head.header)

pub course_within : (tree : Routes) (config : Config) (head : Head) → IsWithin (length config.exits) (course_of tree config head)
course_within tree config head = at_within tree config head config.line
