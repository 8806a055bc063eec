-- The tree of a platform stays a tree with one line more.
use Rattle.std.proofs.Common.{◌≡◌, ℕ, ◌+◌, ◌*◌, ◌/◌, ◌==◌, Bool, true, false, List, [], ◌∷◌, ◌++◌, Option, Some, None, refl, sym, ap, arith, leb-false, ltb-false, eqb-true, eq-eqb, le-leb, lt-ltb}
use Rattle.std.specs.Prelude.{◌&&◌, ◌||◌, not, nat_le, nat_lt, is_some, option_and_then}
use Rattle.std.specs.List.{list_all}
use Rattle.fab_types.specs.Id.{bus_of}
use Rattle.platform.specs.declared.parts.LayoutVersion.{LayoutVersion}
use Rattle.platform.specs.declared.parts.Switch.{Switch}
use Rattle.platform.specs.declared.parts.DownstreamPort.{DownstreamPort}
use Rattle.platform.specs.declared.parts.EndpointFunction.{EndpointFunction}
use Rattle.layout_line.specs.declared.lines.PortText.{PortText}
use Rattle.platform.specs.Owners.{is_function}
use Rattle.platform.specs.Tree.{port_at, port_leading_to, port_above, switch_on, id_below, domain_of, owner_or_none}
use Rattle.layout.specs.Rules.{port_fault_below, has_bad_fields, buses_meet, windows_meet, buses_are_outside, window_is_outside, owner_differs}
use Rattle.platform.specs.Tree.{is_on_bus}
use Rattle.layout.specs.Additions.{port_line}
use Rattle.layout.specs.Laws.{is_inside, is_nested_on, is_nested, is_hung_below, is_hung_by, is_hung, is_placed_below, is_placed, are_apart}
use Rattle.platform.proofs.Bools.{and-first, and-second, and-both, or-first, or-second, all-found}
use Rattle.layout.proofs.Bools.{not-false, all-not, all-and, any-missing, find-stays, some-weaker}
use Rattle.layout.proofs.NoFault.{good-port}

pub le-test : (a b : ℕ) → nat_lt b a ≡ false → nat_le a b ≡ true
le-test a b h = le-leb a b (ltb-false b a h)

pub lt-test : (a b : ℕ) → nat_le b a ≡ false → nat_lt a b ≡ true
lt-test a b h = lt-ltb a b (leb-false b a h)

hung-some : (above : Option DownstreamPort) (switch : Switch) → is_hung_below above switch ≡ true → is_some above ≡ true
hung-some None switch h = absurd cc
hung-some (Some port) switch h = refl

placed-some : (above : Option DownstreamPort) (function : EndpointFunction) → is_placed_below above function ≡ true → is_some above ≡ true
placed-some None function h = absurd cc
placed-some (Some port) function h = refl

pub nested-some : (ports : List DownstreamPort) (on : Option Switch) (port : DownstreamPort) → is_nested_on ports on port ≡ true → is_some on ≡ true
nested-some ports None port h = absurd cc
nested-some ports (Some switch) port h = refl

pub above-stays : (ports more : List DownstreamPort) (above : Option ℕ) (switch : Switch) → is_hung_by ports above switch ≡ true
    → option_and_then (λ (id : ℕ). port_at (ports ++ more) id) above ≡ option_and_then (λ (id : ℕ). port_at ports id) above
above-stays ports more None switch h = refl
above-stays ports more (Some id) switch h = find-stays (λ (port : DownstreamPort). port.id == id) ports more (hung-some (port_at ports id) switch h)

pub hung-stays : (ports more : List DownstreamPort) (above : Option ℕ) (switch : Switch) → is_hung_by ports above switch ≡ true → is_hung_by (ports ++ more) above switch ≡ true
hung-stays ports more None switch h = h
hung-stays ports more (Some id) switch h = rw (find-stays (λ (port : DownstreamPort). port.id == id) ports more (hung-some (port_at ports id) switch h)) h

nested-on-stays : (ports more : List DownstreamPort) (on : Option Switch) (port : DownstreamPort) → ((switch : Switch) → on ≡ Some switch → is_hung ports switch ≡ true) → is_nested_on ports on port ≡ true → is_nested_on (ports ++ more) on port ≡ true
nested-on-stays ports more None port hung h = h
nested-on-stays ports more (Some switch) port hung h = rw (above-stays ports more switch.above switch (hung switch refl)) h

-- a port stays nested with more ports
pub nested-stays : (switches : List Switch) (ports more : List DownstreamPort) (port : DownstreamPort) → list_all (is_hung ports) switches ≡ true → is_nested switches ports port ≡ true → is_nested switches (ports ++ more) port ≡ true
nested-stays switches ports more port hung h =
    nested-on-stays ports more (switch_on switches (bus_of port.id)) port
    (λ switch e. all-found (λ (s : Switch). bus_of s.id + 1 == bus_of port.id) (is_hung ports) switches switch e hung) h

-- and with more switches
pub nested-among : (switches more : List Switch) (ports : List DownstreamPort) (port : DownstreamPort) → is_nested switches ports port ≡ true → is_nested (switches ++ more) ports port ≡ true
nested-among switches more ports port h =
    rw (find-stays (λ (s : Switch). bus_of s.id + 1 == bus_of port.id) switches more (nested-some ports (switch_on switches (bus_of port.id)) port h)) h

pub placed-stays : (ports more : List DownstreamPort) (function : EndpointFunction) → is_placed ports function ≡ true → is_placed (ports ++ more) function ≡ true
placed-stays ports more function h =
    rw (find-stays (λ (port : DownstreamPort). id_below port == function.id) ports more (placed-some (port_leading_to ports function.id) function h)) h

inside-new : (above : Option DownstreamPort) (port : PortText) → buses_are_outside above port ≡ false → window_is_outside above port ≡ false → owner_differs above port ≡ false → is_inside above (port_line port) ≡ true
inside-new None port buses window owner = and-first _ _ (not-false (nat_lt (bus_of port.id) port.secondary && nat_le port.subordinate 255) buses)
inside-new (Some above) port buses window owner =
    and-both _ _ (and-both _ _ (not-false (nat_lt (bus_of port.id) port.secondary && nat_le port.subordinate above.subordinate) buses) (not-false (nat_le above.base port.base && nat_le port.limit above.limit) window)) (not-false (port.owner == above.owner) owner)

pub nested-new : (version : LayoutVersion) (ports : List DownstreamPort) (switch : Switch) (port : PortText) → None ≡ port_fault_below version ports (port_above ports switch) port → is_nested_on ports (Some switch) (port_line port) ≡ true
unfolding has_bad_fields
nested-new version ports switch port none =
    let good = good-port version ports (port_above ports switch) port none in
    and-both _ _ (and-both _ _ (le-test port.secondary port.subordinate (or-second _ _ (or-first _ _ (or-first _ _ (or-first _ _ good.fields))))) (lt-test port.base port.limit (or-second _ _ good.fields)))
    (inside-new (port_above ports switch) port good.outside good.window good.owner)

-- a new port is apart from the others
pub apart-new : (version : LayoutVersion) (ports : List DownstreamPort) (above : Option DownstreamPort) (port : PortText) → None ≡ port_fault_below version ports above port → list_all (λ other. are_apart other (port_line port)) ports ≡ true
unfolding has_bad_fields buses_meet windows_meet
apart-new version ports above port none =
    let good = good-port version ports above port none in
    let one = λ (other : DownstreamPort). other.id == port.id in
    let two = λ (other : DownstreamPort). is_on_bus (bus_of port.id) other && nat_le other.secondary port.subordinate && nat_le port.secondary other.subordinate in
    let three = λ (other : DownstreamPort). is_on_bus (bus_of port.id) other && nat_le other.base port.limit && nat_le port.base other.limit in
    all-and (λ other. not (one other) && not (two other)) (λ other. not (three other)) ports
    (all-and (λ other. not (one other)) (λ other. not (two other)) ports
    (all-not one ports (any-missing one ports (or-second _ _ (or-first _ _ (or-first _ _ (or-first _ _ (or-first _ _ good.fields)))))))
    (all-not two ports good.buses))
    (all-not three ports good.windows)

below-bus : (secondary id : ℕ) → (secondary * 256 + 0 * 8 + 0 == id) ≡ true → (secondary == id / 256) ≡ true
below-bus secondary id h =
    let e : secondary * 256 + 0 * 8 + 0 ≡ id = eqb-true _ _ h in
    eq-eqb secondary (id / 256) (omega (arith, e))

over-here : (same : Bool) (ports : List DownstreamPort) (f id : ℕ) (rest : Bool) → same ≡ (f == id) → (same || rest) ≡ true → is_some (port_leading_to ports f) ≡ true → (rest ≡ true → is_some (port_leading_to ports id) ≡ true) → is_some (port_leading_to ports id) ≡ true
over-here true ports f id rest e h here later = let same : f ≡ id = eqb-true f id (sym e) in rw (← same) here
over-here false ports f id rest e h here later = later h

over-known : (ports : List DownstreamPort) (functions : List EndpointFunction) (id : ℕ) → list_all (is_placed ports) functions ≡ true → is_function functions id ≡ true → is_some (port_leading_to ports id) ≡ true
over-known ports [] id placed h = absurd cc
over-known ports (f ∷ fs) id placed h =
    over-here (f.id == id) ports f.id id (is_function fs id) refl h
    (placed-some (port_leading_to ports f.id) f (and-first (is_placed ports f) (list_all (is_placed ports) fs) placed))
    (over-known ports fs id (and-second (is_placed ports f) (list_all (is_placed ports) fs) placed))

-- the domain of a function stays, whatever ports follow
pub domain-stays : (ports more : List DownstreamPort) (functions : List EndpointFunction) (id : ℕ) → list_all (is_placed ports) functions ≡ true → is_function functions id ≡ true → domain_of (ports ++ more) id ≡ domain_of ports id
unfolding domain_of
domain-stays ports more functions id placed h =
    ap owner_or_none (find-stays (λ (port : DownstreamPort). port.secondary == bus_of id) ports more
    (some-weaker (λ (port : DownstreamPort). id_below port == id) (λ (port : DownstreamPort). port.secondary == bus_of id) ports (λ port. below-bus port.secondary id) (over-known ports functions id placed h)))
