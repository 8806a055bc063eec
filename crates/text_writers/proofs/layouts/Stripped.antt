-- Ports without their vectors, as they are before any `egress` line.
use Rattle.std.proofs.Common.{◌≡◌, ℕ, ◌==◌, Bool, true, false, refl, ap, ◌∙◌, List, [], ◌∷◌, Option, Some, None}
use Rattle.std.specs.Prelude.{◌&&◌, ◌||◌, is_some, map, option_and_then, option_map}
use Rattle.fab_types.specs.Id.{bus_of}
use Rattle.platform.specs.declared.parts.Switch.{Switch}
use Rattle.platform.specs.declared.parts.DownstreamPort.{DownstreamPort}
use Rattle.platform.specs.declared.parts.EndpointFunction.{EndpointFunction}
use Rattle.platform.specs.declared.parts.Mapping.{Mapping}
use Rattle.platform.specs.declared.parts.BudgetLine.{BudgetLine}
use Rattle.platform.specs.declared.parts.CreditLine.{CreditLine}
use Rattle.platform.specs.Owners.{first_port, owns_port}
use Rattle.platform.specs.Platform.{Platform}
use Rattle.platform.specs.Tree.{domain_of, id_below, is_on_bus, is_third_level, owner_or_none, port_above, port_above_bus, port_at, port_leading_to, switch_on}
use Rattle.layout.specs.Rules.{has_vectors}
use Rattle.text_writers.proofs.layouts.Lists.{any-map, find-map}

abbrev pub stripped : DownstreamPort → DownstreamPort
stripped port = record port { egress_vector = None }

-- the platform after some of its lines
abbrev pub stage : Platform → List Switch → List DownstreamPort → List EndpointFunction → List Mapping → List BudgetLine → List CreditLine → Platform
stage p switches ports functions maps budgets credits =
    record { version = p.version; frames = p.frames; switches = switches; ports = ports; functions = functions; maps = maps; budgets = budgets; credits = credits }

pub at-stripped : (ports : List DownstreamPort) (id : ℕ) → port_at (map stripped ports) id ≡ option_map stripped (port_at ports id)
at-stripped ports id = find-map (λ (port : DownstreamPort). port.id == id) stripped ports (λ x. refl)

pub leading-stripped : (ports : List DownstreamPort) (id : ℕ) → port_leading_to (map stripped ports) id ≡ option_map stripped (port_leading_to ports id)
leading-stripped ports id = find-map (λ (port : DownstreamPort). id_below port == id) stripped ports (λ x. refl)

pub above-stripped : (ports : List DownstreamPort) (above : Option ℕ) → option_and_then (λ (id : ℕ). port_at (map stripped ports) id) above ≡ option_map stripped (option_and_then (λ (id : ℕ). port_at ports id) above)
above-stripped ports None = refl
above-stripped ports (Some id) = at-stripped ports id

above-on : (ports : List DownstreamPort) (on : Option Switch) → option_and_then (λ (s : Switch). port_above (map stripped ports) s) on ≡ option_map stripped (option_and_then (λ (s : Switch). port_above ports s) on)
above-on ports None = refl
above-on ports (Some switch) = above-stripped ports switch.above

above-bus-stripped : (switches : List Switch) (ports : List DownstreamPort) (bus : ℕ) → port_above_bus switches (map stripped ports) bus ≡ option_map stripped (port_above_bus switches ports bus)
unfolding port_above_bus
above-bus-stripped switches ports bus = above-on ports (switch_on switches bus)

some-stripped : (o : Option DownstreamPort) → is_some (option_map stripped o) ≡ is_some o
some-stripped None = refl
some-stripped (Some port) = refl

third-above : (switches : List Switch) (ports : List DownstreamPort) (above : Option DownstreamPort)
    → is_some (option_and_then (λ (p : DownstreamPort). port_above_bus switches (map stripped ports) (bus_of p.id)) (option_map stripped above)) ≡ is_some (option_and_then (λ (p : DownstreamPort). port_above_bus switches ports (bus_of p.id)) above)
third-above switches ports None = refl
third-above switches ports (Some port) = ap is_some (above-bus-stripped switches ports (bus_of port.id)) ∙ some-stripped (port_above_bus switches ports (bus_of port.id))

pub third-stripped : (switches : List Switch) (ports : List DownstreamPort) (bus : ℕ) → is_third_level switches (map stripped ports) bus ≡ is_third_level switches ports bus
unfolding is_third_level
third-stripped switches ports bus =
    ap (λ (above : Option DownstreamPort). is_some (option_and_then (λ (p : DownstreamPort). port_above_bus switches (map stripped ports) (bus_of p.id)) above)) (above-bus-stripped switches ports bus)
    ∙ third-above switches ports (port_above_bus switches ports bus)

owner-stripped : (o : Option DownstreamPort) → owner_or_none (option_map stripped o) ≡ owner_or_none o
owner-stripped None = refl
owner-stripped (Some port) = refl

pub domain-stripped : (ports : List DownstreamPort) (function : ℕ) → domain_of (map stripped ports) function ≡ domain_of ports function
unfolding domain_of
domain-stripped ports function =
    ap owner_or_none (find-map (λ (port : DownstreamPort). port.secondary == bus_of function) stripped ports (λ x. refl))
    ∙ owner-stripped (first_port ports function)

pub owns-stripped : (ports : List DownstreamPort) (domain : ℕ) → owns_port (map stripped ports) domain ≡ owns_port ports domain
owns-stripped ports domain = any-map (λ (port : DownstreamPort). port.owner == domain) (λ (port : DownstreamPort). port.owner == domain) stripped ports (λ x. refl)

and-no : (b : Bool) → (b && false) ≡ false
and-no true = refl
and-no false = refl

or-no : (a b : Bool) → a ≡ false → b ≡ false → (a || b) ≡ false
or-no true b h k = h
or-no false b h k = k

pub no-vectors : (ports : List DownstreamPort) (bus : ℕ) → has_vectors (map stripped ports) bus ≡ false
unfolding has_vectors
no-vectors [] bus = refl
no-vectors (port ∷ ports) bus = or-no (is_on_bus bus port && false) _ (and-no (is_on_bus bus port)) (no-vectors ports bus)
