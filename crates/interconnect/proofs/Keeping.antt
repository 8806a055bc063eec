-- What every interconnect keeps holds at the start, and of each end that a direction has.
use Rattle.std.proofs.Common.{◌≡◌, ◌≢◌, ◌⊎◌, inl, inr, set, ℕ, suc, zero, ◌+◌, ◌<◌, Bool, true, false, cond, List, [], ◌∷◌, ◌++◌, length, map, get_or, Option, Some, None, refl, sym, ap, ◌∙◌, arith, subst, eqb-true, eq-eqb}
use Rattle.std.specs.Prelude.{◌==◌, count_by, option_map}
use Rattle.std.specs.List.{filter, find, position, position_or_len}
use Rattle.std.specs.Option.{IfSome}
use Rattle.std.proofs.lemmas.List.{get_or-set_other, get_or-set_same, length-append, length-set, length-map, map-append}
use Rattle.std.proofs.lemmas.Bool.{cases_eq}
use Rattle.std.proofs.lemmas.List.Quantifiers.{position-Some}
use Rattle.std.proofs.lemmas.List.Sums.{AllPass-from_list_all, length-filter}
use Rattle.fab_types.specs.Id.{bus_of}
use Rattle.fab_types.specs.declared.place.Direction.{Direction}
use Rattle.fab_types.specs.declared.place.Way.{Way}
use Rattle.fab_types.specs.declared.place.Way.TheVariants.{Down, Up}
use Rattle.layout.specs.Laws.{IsPlatform, is_nested, is_nested_on}
use Rattle.platform.specs.Platform.{Platform}
use Rattle.platform.specs.Tree.{is_on_bus}
use Rattle.platform.specs.Tree.{id_below, internal_bus, switch_on}
use Rattle.platform.specs.declared.parts.EndpointFunction.{EndpointFunction}
use Rattle.platform.specs.declared.parts.DownstreamPort.{DownstreamPort}
use Rattle.platform.specs.declared.parts.Switch.{Switch}
use Rattle.link.specs.Simplexes.{SimplexView}
use Rattle.port.specs.Configs.{Config, downstream_config, exit_of, exits_of, upstream_config}
use Rattle.port.specs.Turns.{PortView}
use Rattle.topology.proofs.Ends.{outputs_at_switch, no_switch, switch_found}
use Rattle.topology.proofs.Soundness.{listed, sound}
use Rattle.topology.specs.Links.{link_at, sender_of, sending_end}
use Rattle.topology.specs.Nodes.{downstream_end, end_of_port, outputs_of, outputs_of_switch, one_output, ports_on, upstream_end, upstream_end_at}
use Rattle.topology.specs.Places.{downstream_place, places_of, upstream_place}
use Rattle.topology.specs.Topologies.{IsEnd, IsLink, IsTree, Tree}
use Rattle.topology.specs.declared.links.Link.{Link}
use Rattle.topology.specs.declared.nodes.LinkEnd.{LinkEnd}
use Rattle.topology.specs.declared.places.PortPlace.{PortPlace}
use Rattle.interconnect.proofs.Reaching.{many}
use Rattle.interconnect.specs.Kept.{Fits, IsInterconnect}
use Rattle.interconnect.specs.Starts.{function_outputs, idle_port, nodes_of, ports_of, start_of, switch_outputs, unused_below}
use Rattle.interconnect.specs.Views.{InterconnectView}

-- ---- what is found

-- where an element stands that is found
pub record IsFound {X : Type 0} (p : X → Bool) (xs : List X) (x : X) : Type 0 where
  pub at : ℕ
  pub within : at < length xs
  pub is : get_or xs at x ≡ x
  pub passes : p x ≡ true

found_first : {X : Type 0} (p : X → Bool) (x y : X) (ys : List X) (b : Bool) → p y ≡ b → cond b (Some y) (find p ys) ≡ Some x → (find p ys ≡ Some x → IsFound p ys x) → IsFound p (y ∷ ys) x
found_first p x y ys true passes e later = let same : y ≡ x = cc in record { at = 0; within = omega arith; is = same; passes = ap p (sym same) ∙ passes }
found_first p x y ys false passes e later = let there = later e in record { at = suc there.at; within = (let w = there.within in omega arith); is = there.is; passes = there.passes }

pub found_at : {X : Type 0} (p : X → Bool) (xs : List X) (x : X) → find p xs ≡ Some x → IsFound p xs x
found_at p [] x e = absurd cc
found_at p (y ∷ ys) x e = found_first p x y ys (p y) refl e (λ h. found_at p ys x h)

found_link : (outputs : List ℕ) (way : Way) (found : Option Link) (end : LinkEnd) → option_map (sending_end way) found ≡ Some end → ((link : Link) → found ≡ Some link → IsLink outputs link) → IsEnd outputs end
found_link outputs way None end e sound = absurd cc
found_link outputs Up (Some link) end e sound = let same : link.below ≡ end = cc in subst (IsEnd outputs) same (sound link refl).below
found_link outputs Down (Some link) end e sound = let same : link.above ≡ end = cc in subst (IsEnd outputs) same (sound link refl).above

-- where a direction is sent from is an output that there is
pub sender_is_end : (t : Tree) (direction : Direction) (end : LinkEnd) → IsTree t → sender_of t.links direction ≡ Some end → IsEnd t.outputs end
sender_is_end t direction end sound e =
    found_link t.outputs direction.way (link_at t.links direction.lower) end e
    (λ link h. let found = found_at (λ (l : Link). l.lower == direction.lower) t.links link h in
    subst (IsLink t.outputs) found.is (sound.links found.at link found.within))

-- the same of an answer
pub sent_from : (t : Tree) (direction : Direction) (answer : Option LinkEnd) → IsTree t → answer ≡ sender_of t.links direction → IfSome answer (λ end. IsEnd t.outputs end)
sent_from t direction None sound e = tt
sent_from t direction (Some end) sound e = sender_is_end t direction end sound (sym e)

-- where a direction is sent from, there is an output
pub sender_there : (h : InterconnectView) (nodes : List (List SimplexView)) (direction : Direction) (end : LinkEnd) → IsInterconnect h → nodes ≡ h.nodes → Some end ≡ sender_of h.tree.links direction → IsEnd (map (length {A = SimplexView}) nodes) end
sender_there h nodes direction end kept e from =
    let outputs : h.tree.outputs ≡ map many nodes = sym kept.outputs ∙ ap (map many) (sym e) in
    subst (λ (ns : List ℕ). IsEnd ns end) outputs (sender_is_end h.tree direction end kept.sound (sym from))

-- ---- the outputs at the start

switch_many : (platform : Platform) (switch : Switch) → many (switch_outputs platform switch) ≡ outputs_of_switch platform.ports switch
switch_many platform switch =
    let below : length (map (λ port. unused_below platform (id_below port)) (ports_on platform.ports (internal_bus switch))) ≡ length (ports_on platform.ports (internal_bus switch)) = length-map _ _ in
    let counted = length-filter (is_on_bus (internal_bus switch)) platform.ports in
    omega arith

of_switches : (platform : Platform) (switches : List Switch) → map many (map (switch_outputs platform) switches) ≡ map (outputs_of_switch platform.ports) switches
of_switches platform [] = refl
of_switches platform (s ∷ ss) = ap (λ (n : ℕ). n ∷ map many (map (switch_outputs platform) ss)) (switch_many platform s) ∙ ap (λ (ns : List ℕ). outputs_of_switch platform.ports s ∷ ns) (of_switches platform ss)

of_functions : (platform : Platform) (functions : List EndpointFunction) → map many (map (function_outputs platform) functions) ≡ map one_output functions
of_functions platform [] = refl
of_functions platform (f ∷ fs) = ap (λ (ns : List ℕ). 1 ∷ ns) (of_functions platform fs)

outputs_at_start : (platform : Platform) → map (length {A = SimplexView}) (nodes_of platform) ≡ outputs_of platform
outputs_at_start platform =
    ap (λ (ns : List ℕ). 1 ∷ ns)
    (map-append many (map (switch_outputs platform) platform.switches) (map (function_outputs platform) platform.functions)
    ∙ (ap (λ (ns : List ℕ). ns ++ map many (map (function_outputs platform) platform.functions)) (of_switches platform platform.switches)
    ∙ ap (λ (ns : List ℕ). map (outputs_of_switch platform.ports) platform.switches ++ ns) (of_functions platform platform.functions)))

-- ---- the ports at the start

exits_many : (platform : Platform) (bus : ℕ) → length (exits_of platform bus) ≡ count_by (is_on_bus bus) platform.ports
exits_many platform bus = length-map (filter (is_on_bus bus) platform.ports) (exit_of platform) ∙ length-filter (is_on_bus bus) platform.ports

ways_at : (platform : Platform) (node place bus : ℕ) → node ≡ 1 + place → place < length platform.switches → internal_bus (get_or platform.switches place no_switch) ≡ bus
    → get_or (outputs_of platform) node 0 ≡ length (exits_of platform bus) + 1
ways_at platform node place bus at within on =
    let outputs : get_or (outputs_of platform) node 0 ≡ 1 + count_by (is_on_bus bus) platform.ports =
    ap (λ (n : ℕ). get_or (outputs_of platform) n 0) at ∙ (outputs_at_switch platform place within ∙ ap (λ (b : ℕ). 1 + count_by (is_on_bus b) platform.ports) on) in
    let exits = exits_many platform bus in
    omega arith

upstream_fits : (platform : Platform) (switch : Switch) (k : ℕ) (d : Switch) → k < length platform.switches → get_or platform.switches k d ≡ switch
    → Fits (outputs_of platform) (upstream_place platform switch) (idle_port (upstream_config platform switch))
upstream_fits platform switch k d less is =
    let p : Switch → Bool = λ line. line.id == switch.id in
    let place : ℕ = position_or_len p platform.switches in
    let found : position p platform.switches ≡ Some place = listed p platform.switches k d less (ap p is ∙ eq-eqb switch.id switch.id refl) in
    let facts = position-Some p platform.switches place no_switch found in
    let node : (upstream_end platform switch.id).node ≡ 1 + place = ap (λ (o : Option ℕ). (upstream_end_at platform switch.id o).node) found in
    record {
      id = refl;
      ways = ways_at platform (upstream_end platform switch.id).node place (internal_bus switch) node facts.0 (ap (λ (id : ℕ). bus_of id + 1) (eqb-true _ _ facts.1));
    }

nested_on : (ports : List DownstreamPort) (found : Option Switch) (port : DownstreamPort) → is_nested_on ports found port ≡ true → (switch : Switch) × (found ≡ Some switch)
nested_on ports None port h = absurd cc
nested_on ports (Some switch) port h = (switch, refl)

downstream_fits : (platform : Platform) (port : DownstreamPort) → is_nested platform.switches platform.ports port ≡ true → Fits (outputs_of platform) (downstream_place platform port) (idle_port (downstream_config platform port))
downstream_fits platform port nested =
    let p : Switch → Bool = λ switch. internal_bus switch == bus_of port.id in
    let on = nested_on platform.ports (switch_on platform.switches (bus_of port.id)) port nested in
    let there = found_at p platform.switches on.0 on.1 in
    let place : ℕ = position_or_len p platform.switches in
    let found : position p platform.switches ≡ Some place = listed p platform.switches there.at on.0 there.within (ap p there.is ∙ there.passes) in
    let facts = switch_found platform port place found in
    let node : (downstream_end platform port).node ≡ 1 + place = ap (λ (o : Option ℕ). (end_of_port platform.ports port o).node) found in
    record { id = refl; ways = ways_at platform (downstream_end platform port).node place (bus_of port.id) node facts.0 facts.1 }

-- two lists of images, element by element
both_last : {X P Q : Type 0} (f : X → P) (g : X → Q) (R : P → Q → Type 0) (xs : List X) → ((k : ℕ) (d : X) → k < length xs → R (f (get_or xs k d)) (g (get_or xs k d)))
    → (i : ℕ) (p : P) (q : Q) → i < length (map g xs) → R (get_or (map f xs) i p) (get_or (map g xs) i q)
both_last f g R [] each i p q less = absurd (omega arith)
both_last f g R (x ∷ xs) each zero p q less = each 0 x (omega arith)
both_last f g R (x ∷ xs) each (suc i) p q less = both_last f g R xs (λ k d h. each (suc k) d (omega arith)) i p q (omega arith)

both_first : {X P Q : Type 0} (f : X → P) (g : X → Q) (R : P → Q → Type 0) (xs : List X) (ps : List P) (qs : List Q) → ((k : ℕ) (d : X) → k < length xs → R (f (get_or xs k d)) (g (get_or xs k d)))
    → ((i : ℕ) (p : P) (q : Q) → i < length qs → R (get_or ps i p) (get_or qs i q)) → (i : ℕ) (p : P) (q : Q) → i < length (map g xs ++ qs) → R (get_or (map f xs ++ ps) i p) (get_or (map g xs ++ qs) i q)
both_first f g R [] ps qs each rest i p q less = rest i p q less
both_first f g R (x ∷ xs) ps qs each rest zero p q less = each 0 x (omega arith)
both_first f g R (x ∷ xs) ps qs each rest (suc i) p q less = both_first f g R xs ps qs (λ k d h. each (suc k) d (omega arith)) rest i p q (omega arith)

fits_at_start : (platform : Platform) → IsPlatform platform → (i : ℕ) (place : PortPlace) (port : PortView) → i < length (ports_of platform)
    → Fits (outputs_of platform) (get_or (places_of platform) i place) (get_or (ports_of platform) i port)
fits_at_start platform laws =
    both_first (upstream_place platform) (λ switch. idle_port (upstream_config platform switch)) (Fits (outputs_of platform)) platform.switches _ _
    (λ k d less. upstream_fits platform (get_or platform.switches k d) k d less refl)
    (both_last (downstream_place platform) (λ port. idle_port (downstream_config platform port)) (Fits (outputs_of platform)) platform.ports
    (λ k d less. downstream_fits platform (get_or platform.ports k d) (AllPass-from_list_all (is_nested platform.switches platform.ports) platform.ports laws.nested k d less)))

ports_many : (platform : Platform) → length (ports_of platform) ≡ length (places_of platform)
ports_many platform =
    let ports = length-append (map (λ switch. idle_port (upstream_config platform switch)) platform.switches) (map (λ port. idle_port (downstream_config platform port)) platform.ports) in
    let places = length-append (map (upstream_place platform) platform.switches) (map (downstream_place platform) platform.ports) in
    let a = length-map platform.switches (λ switch. idle_port (upstream_config platform switch)) in
    let b = length-map platform.ports (λ port. idle_port (downstream_config platform port)) in
    let c = length-map platform.switches (upstream_place platform) in
    let d = length-map platform.ports (downstream_place platform) in
    omega arith

pub kept_at_start : (platform : Platform) → IsPlatform platform → IsInterconnect (start_of platform)
kept_at_start platform laws = record { sound = sound platform laws; outputs = outputs_at_start platform; many = ports_many platform; fit = fits_at_start platform laws }

-- ---- the turn of a port

fits_again : (outputs : List ℕ) (place : PortPlace) (port port' : PortView) → port'.config ≡ port.config → Fits outputs place port → Fits outputs place port'
fits_again outputs place port port' e fits = record { id = ap (λ (c : Config). c.id) e ∙ fits.id; ways = fits.ways ∙ ap (λ (c : Config). length c.exits + 1) (sym e) }

fit_at : (outputs : List ℕ) (places : List PortPlace) (ports : List PortView) (i j : ℕ) (d port' port : PortView) (place : PortPlace) → port'.config ≡ (get_or ports i d).config → i < length ports → j < length ports
    → ((j : ℕ) (place : PortPlace) (port : PortView) → j < length ports → Fits outputs (get_or places j place) (get_or ports j port)) → (j ≡ i) ⊎ (j ≢ i) → Fits outputs (get_or places j place) (get_or (set ports i port') j port)
fit_at outputs places ports i j d port' port place e within less fit (inl same) =
    let now : get_or (set ports i port') j port ≡ port' = ap (λ (n : ℕ). get_or (set ports i port') n port) same ∙ get_or-set_same ports i port' port within in
    subst (Fits outputs (get_or places j place)) (sym now)
    (subst (λ (n : ℕ). Fits outputs (get_or places n place) port') (sym same) (fits_again outputs (get_or places i place) (get_or ports i d) port' e (fit i place d within)))
fit_at outputs places ports i j d port' port place e within less fit (inr other) =
    subst (Fits outputs (get_or places j place)) (sym (get_or-set_other ports i j port' port other)) (fit j place port less)

-- the turn of a port keeps what every interconnect keeps
pub kept_passed : (h : InterconnectView) (nodes : List (List SimplexView)) (i : ℕ) (d port : PortView) → IsInterconnect h → map (length {A = SimplexView}) nodes ≡ map (length {A = SimplexView}) h.nodes → i < length h.ports
    → port.config ≡ (get_or h.ports i d).config → IsInterconnect (record { tree = h.tree; routes = h.routes; nodes = nodes; ports = set h.ports i port })
kept_passed h nodes i d port kept lengths within e = record {
  sound = kept.sound;
  outputs = lengths ∙ kept.outputs;
  many = length-set h.ports i port ∙ kept.many;
  fit = λ j place other less. fit_at h.tree.outputs h.tree.places h.ports i j d port other place e within (let long = length-set h.ports i port in omega arith) kept.fit (cases_eq j i);
}
