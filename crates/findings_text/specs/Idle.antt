-- Clear controls past which nothing was seen to land, as text.
use Rattle.std.specs.Prelude.{ℕ, ◌++◌, ◌==◌, ◌&&◌, Bool, true, false, not, List, [], codes, Option, Some, None, if◌then◌else◌}
use Rattle.std.specs.List.{find, flat_map, list_any}
use Rattle.fab_types.specs.Controls.{is_set, short_name}
use Rattle.fab_types.specs.Id.{bus_of}
use Rattle.fab_types.specs.declared.controls.Control.{Control}
use Rattle.fab_types.specs.declared.controls.Control.TheVariants.{SourceValidation, TranslationBlocking, RequestRedirect, CompletionRedirect, UpstreamForwarding}
use Rattle.platform.specs.Owners.{holds_bus}
use Rattle.platform.specs.Platform.{Platform}
use Rattle.platform.specs.declared.parts.DownstreamPort.{DownstreamPort}
use Rattle.attacks.specs.declared.findings.Findings.{Findings}
use Rattle.attacks.specs.declared.findings.Findings.TheVariants.{NothingToKeep, Guarded, Unguarded}
use Rattle.attacks.specs.declared.findings.Pair.{Pair}
use Rattle.attacks.specs.declared.findings.Witness.{Witness}
use Rattle.findings_text.specs.declared.idle.Obstacle.{Obstacle}
use Rattle.findings_text.specs.declared.idle.Obstacle.TheVariants.{Above, Below, Nothing}
use Rattle.findings_text.specs.declared.remarks.Named.{Named}
use Rattle.findings_text.specs.Remarks.{named_id}

abbrev pub is_source : Control → Bool
is_source SourceValidation = true
is_source _ = false

abbrev pub is_translation : Control → Bool
is_translation TranslationBlocking = true
is_translation _ = false

abbrev pub is_request : Control → Bool
is_request RequestRedirect = true
is_request _ = false

-- a witness passed this port, past this control
abbrev pub uses : DownstreamPort → Control → Witness → Bool
uses port SourceValidation w = is_source w.control && holds_bus port (bus_of w.function)
uses port TranslationBlocking w = is_translation w.control && holds_bus port (bus_of w.function)
uses port RequestRedirect w = is_request w.control && (w.port == port.id)
uses port CompletionRedirect w = false
uses port UpstreamForwarding w = false

abbrev pub is_used : DownstreamPort → Control → Pair → Bool
is_used port control pair = list_any (uses port control) pair.witnesses.items

-- the control is clear at the port, and nothing was seen to pass it
abbrev pub is_idle : List Pair → DownstreamPort → Control → Bool
is_idle pairs port control = not (is_set port.controls control) && not (list_any (is_used port control) pairs)

abbrev pub is_set_above : DownstreamPort → Control → DownstreamPort → Bool
is_set_above port control other = not (other.id == port.id) && holds_bus other port.secondary && is_set other.controls control

abbrev pub is_set_below : DownstreamPort → Control → DownstreamPort → Bool
is_set_below port control other = not (other.id == port.id) && holds_bus port other.secondary && is_set other.controls control

abbrev pub obstacle_below : Option DownstreamPort → Obstacle
obstacle_below None = Nothing
obstacle_below (Some other) = Below other.id

abbrev pub obstacle_among : Option DownstreamPort → Option DownstreamPort → Obstacle
obstacle_among None below = obstacle_below below
obstacle_among (Some other) below = Above other.id

-- the first port above that has the control set, or else the first below
abbrev pub obstacle_of : List DownstreamPort → DownstreamPort → Control → Obstacle
obstacle_of ports port control = obstacle_among (find (is_set_above port control) ports) (find (is_set_below port control) ports)

-- a port above stops this too
abbrev pub above_text : List Named → ℕ → List ℕ → List ℕ
above_text names other stopped = named_id names other ++ codes " above it still stops " ++ stopped

-- a port below stops what comes from below itself alone
abbrev pub below_text : List Named → ℕ → List ℕ
below_text names other = named_id names other ++ codes " below it stops what comes from there by that control\n"

-- what still stops this, if anything
abbrev pub reason_text : List Named → Obstacle → List ℕ → List ℕ
reason_text names (Above other) stopped = above_text names other stopped
reason_text names (Below other) stopped = below_text names other
reason_text names Nothing stopped = codes "nothing below it was seen to use that\n"

abbrev pub lack_text : Control → List ℕ
lack_text control = codes " lacks " ++ short_name control ++ codes "; "

abbrev pub idle_head : List Named → DownstreamPort → Control → List ℕ
idle_head names port control = named_id names port.id ++ lack_text control

abbrev pub stop_text : List Named → List DownstreamPort → DownstreamPort → Control → List ℕ
stop_text names ports port SourceValidation = reason_text names (obstacle_of ports port SourceValidation) (codes "a spoofed ID\n")
stop_text names ports port TranslationBlocking = reason_text names (obstacle_of ports port TranslationBlocking) (codes "a translated address\n")
stop_text names ports port RequestRedirect = codes "no function below it was seen to reach one of another domain beside it\n"
stop_text names ports port CompletionRedirect = codes "a completion still goes to whom it answers\n"
stop_text names ports port UpstreamForwarding = codes "a request for its own window is still refused there\n"

abbrev pub idle_line : List Named → List DownstreamPort → DownstreamPort → Control → List ℕ
idle_line names ports port control = idle_head names port control ++ stop_text names ports port control

abbrev pub idle_of : List Named → List DownstreamPort → List Pair → DownstreamPort → Control → List ℕ
idle_of names ports pairs port control = if is_idle pairs port control then idle_line names ports port control else []

-- the lines of a port
abbrev pub idle_lines : List Named → List DownstreamPort → List Pair → DownstreamPort → List ℕ
idle_lines names ports pairs port =
    idle_of names ports pairs port SourceValidation ++ idle_of names ports pairs port TranslationBlocking ++ idle_of names ports pairs port RequestRedirect
    ++ idle_of names ports pairs port CompletionRedirect ++ idle_of names ports pairs port UpstreamForwarding

-- and of all ports, in a layout that isn't guarded
abbrev pub idle_text : Platform → List Named → Findings → List ℕ
idle_text platform names NothingToKeep = []
idle_text platform names Guarded = []
idle_text platform names (Unguarded pairs) = flat_map (idle_lines names platform.ports pairs.items) platform.ports
