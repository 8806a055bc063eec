-- The lines of a bus, written one after another.
use Rattle.std.proofs.Common.{◌≡◌, ◌*◌, ℕ, List, Option, subst}
use Rattle.std.specs.Io.KnownBytes.{Appends}
use Rattle.platform.specs.declared.parts.DownstreamPort.{DownstreamPort}
use Rattle.platform.specs.declared.parts.EndpointFunction.{EndpointFunction}
use Rattle.platform.specs.declared.parts.Switch.{Switch}
use Rattle.reports.proofs.Writing.{joined}
use Rattle.findings_text.specs.Tree.{Parts, function_lines, function_on, levels_above, lines_on, port_lines, port_to, switch_lines, switch_on}

pub bus_written : (p : Parts) (bus levels : ℕ) (port : Option DownstreamPort) (switch : Option Switch) (line : Option EndpointFunction) (one two three four : Option (List ℕ))
    → levels ≡ levels_above p.ports bus → port ≡ port_to p.ports bus → switch ≡ switch_on p.switches bus → line ≡ function_on p.functions bus
    → Appends one two (port_lines p.names p.version (levels * 2) port) → Appends two three (switch_lines p.names (levels * 2) switch) → Appends three four (function_lines p.names (levels * 2) p.ports line)
    → Appends one four (lines_on p bus)
bus_written p bus levels port switch line one two three four levels_is port_is switch_is line_is first second third =
    let a = subst (λ (n : ℕ). Appends one two (port_lines p.names p.version (n * 2) (port_to p.ports bus))) levels_is
    (subst (λ (o : Option DownstreamPort). Appends one two (port_lines p.names p.version (levels * 2) o)) port_is first) in
    let b = subst (λ (n : ℕ). Appends two three (switch_lines p.names (n * 2) (switch_on p.switches bus))) levels_is
    (subst (λ (o : Option Switch). Appends two three (switch_lines p.names (levels * 2) o)) switch_is second) in
    let c = subst (λ (n : ℕ). Appends three four (function_lines p.names (n * 2) p.ports (function_on p.functions bus))) levels_is
    (subst (λ (o : Option EndpointFunction). Appends three four (function_lines p.names (levels * 2) p.ports o)) line_is third) in
    joined _ _ _ _ _ (joined _ _ _ _ _ a b) c
