-- A layout's fabric keeps what every fabric keeps: nothing waits in it, and no port holds anything.
use Rattle.std.proofs.Common.{◌≡◌, ℕ, zero, suc, ◌<◌, ◌≤◌, Bool, List, [], ◌∷◌, ◌++◌, All, length, map, get_or, Option, Some, None, refl, sym, ap, ◌∙◌, subst, arith}
use Rattle.std.specs.Prelude.{count_by, slice_get}
use Rattle.std.specs.List.{filter, flat_map, position, range_with_len}
use Rattle.std.specs.Option.{option_map_or}
use Rattle.std.proofs.lemmas.List.{length-map}
use Rattle.std.proofs.lemmas.List.Elements.{All-append, All-cons, All-get_or, All-head, All-map, All-nil, All-tail}
use Rattle.std.proofs.lemmas.List.Quantifiers.{position-Some}
use Rattle.fab_types.specs.declared.violation.Violation.{Violation}
use Rattle.frame_log.specs.Descriptor.{Descriptor}
use Rattle.platform.specs.declared.parts.DownstreamPort.{DownstreamPort}
use Rattle.platform.specs.Owners.{owns_port}
use Rattle.platform.specs.Platform.{Platform}
use Rattle.platform.specs.Tree.{id_below, internal_bus}
use Rattle.layout.specs.Views.{share_of_domain}
use Rattle.link.specs.Channels.{Channel}
use Rattle.link.specs.Simplexes.{SimplexView, channel}
use Rattle.port.specs.Configs.{Config, downstream_config, is_of_port, upstream_config}
use Rattle.port.specs.declared.config.Exit.{Exit}
use Rattle.port.specs.Turns.{PortView}
use Rattle.domain.specs.Domains.{DomainView}
use Rattle.request_handling.specs.Emissions.{Emission}
use Rattle.domain_state.specs.State.{item_at}
use Rattle.outboxes.specs.Outboxes.{BoxView, boxes_of}
use Rattle.domains.specs.Domains.{domain_at, fresh, place_of, starting_domains_among, starting_domains}
use Rattle.topology.specs.Nodes.{ports_on}
use Rattle.interconnect.specs.Kept as interconnect
use Rattle.interconnect.specs.Starts.{function_outputs, idle_port, nodes_of, ports_of, host_outputs, start_of, switch_outputs, unused_below}
use Rattle.interconnect.specs.Views.{InterconnectView, channels_of}
use Rattle.domains.specs.Agents.{AgentsView, IsSettled, agents_of, empty}
use Rattle.fabric_core.specs.Invariant.{HasPorts, IsBuilt, IsFree, IsConsistent}
use Rattle.fabric_core.specs.Places.{ArePlaced, IsFlown, flown, flown_by, frames_from, frames_of, is_numbered, strays_of, waiting_in}
use Rattle.domain.specs.Consumed.{times_waiting}
use Rattle.fabric_core.specs.World.{world_of, world_over}

-- ---- the ports

output_by : (exits : List Exit) (p : Exit → Bool) (o : Option ℕ) → o ≡ position p exits → option_map_or suc o 0 ≤ length exits
output_by exits p None is = omega arith
output_by (e ∷ exits) p (Some i) is = let found = position-Some p (e ∷ exits) i e (sym is) in omega (arith, found.0)
output_by [] p (Some i) is = absurd cc

abbrev OwnsOutput : PortView → Type 0
OwnsOutput port = port.config.own ≤ length port.config.exits

own_downstream : (platform : Platform) (line : DownstreamPort) → OwnsOutput (idle_port (downstream_config platform line))
own_downstream platform line = output_by _ (is_of_port line.id) _ refl

all_of : {X : Type 0} (P : X → Type 0) (xs : List X) → ((x : X) → P x) → All P xs
all_of P [] h = All-nil P
all_of P (x ∷ xs) h = All-cons P x xs (h x) (all_of P xs h)

own_at_start : (platform : Platform) → All OwnsOutput (ports_of platform)
own_at_start platform =
    All-append OwnsOutput (map (λ switch. idle_port (upstream_config platform switch)) platform.switches) (map (λ line. idle_port (downstream_config platform line)) platform.ports)
    (All-map OwnsOutput (λ switch. idle_port (upstream_config platform switch)) platform.switches (all_of (λ switch. OwnsOutput (idle_port (upstream_config platform switch))) platform.switches (λ switch. omega arith)))
    (All-map OwnsOutput (λ line. idle_port (downstream_config platform line)) platform.ports (all_of (λ line. OwnsOutput (idle_port (downstream_config platform line))) platform.ports (own_downstream platform)))

idle_all : (P : PortView → Type 0) (platform : Platform) → ((config : Config) → P (idle_port config)) → All P (ports_of platform)
idle_all P platform h =
    All-append P (map (λ switch. idle_port (upstream_config platform switch)) platform.switches) (map (λ line. idle_port (downstream_config platform line)) platform.ports)
    (All-map P (λ switch. idle_port (upstream_config platform switch)) platform.switches (all_of (λ switch. P (idle_port (upstream_config platform switch))) platform.switches (λ switch. h (upstream_config platform switch))))
    (All-map P (λ line. idle_port (downstream_config platform line)) platform.ports (all_of (λ line. P (idle_port (downstream_config platform line))) platform.ports (λ line. h (downstream_config platform line))))

-- ---- what is built

outputs_of_channels : (nodes : List (List SimplexView)) → map (length {A = Channel}) (channels_of nodes) ≡ map (length {A = SimplexView}) nodes
outputs_of_channels [] = refl
outputs_of_channels (node ∷ nodes) =
    ap (λ (n : ℕ). n ∷ map (length {A = Channel}) (channels_of nodes)) (length-map node channel) ∙ ap (λ (ns : List ℕ). length node ∷ ns) (outputs_of_channels nodes)

built : (platform : Platform) → interconnect.IsInterconnect (start_of platform) → IsBuilt (world_of platform)
built platform kept = record {
  sound = kept.sound;
  outputs = outputs_of_channels (nodes_of platform) ∙ kept.outputs;
  many = kept.many;
  placed = λ i place port within. record { fits = kept.fit i place port within; own = All-get_or OwnsOutput (ports_of platform) i port within (own_at_start platform) };
}

-- ---- what waits

none_both : (xs ys : List Descriptor) → xs ≡ [] → ys ≡ [] → xs ++ ys ≡ []
none_both xs ys first second = ap (λ (l : List Descriptor). l ++ ys) first ∙ second

none_in : {X : Type 0} (f : X → List Descriptor) (xs : List X) → All (λ x. f x ≡ []) xs → flat_map f xs ≡ []
none_in f [] h = refl
none_in f (x ∷ xs) h = none_both (f x) (flat_map f xs) (All-head (λ y. f y ≡ []) x xs h) (none_in f xs (All-tail (λ y. f y ≡ []) x xs h))

abbrev IsUnused : List SimplexView → Type 0
IsUnused node = frames_from (map channel node) ≡ []

unused_outputs : (platform : Platform) (ports : List DownstreamPort) → IsUnused (map (λ port. unused_below platform (id_below port)) ports)
unused_outputs platform [] = refl
unused_outputs platform (port ∷ ports) = unused_outputs platform ports

unused_nodes : (platform : Platform) → All IsUnused (nodes_of platform)
unused_nodes platform =
    All-cons IsUnused (host_outputs platform) (map (switch_outputs platform) platform.switches ++ map (function_outputs platform) platform.functions) refl
    (All-append IsUnused (map (switch_outputs platform) platform.switches) (map (function_outputs platform) platform.functions)
    (All-map IsUnused (switch_outputs platform) platform.switches (all_of (λ switch. IsUnused (switch_outputs platform switch)) platform.switches (λ switch. unused_outputs platform (ports_on platform.ports (internal_bus switch)))))
    (All-map IsUnused (function_outputs platform) platform.functions (all_of (λ function. IsUnused (function_outputs platform function)) platform.functions (λ function. refl))))

none_boxes : (boxes : List BoxView) → flat_map waiting_in (map empty boxes) ≡ []
none_boxes [] = refl
none_boxes (box ∷ boxes) = none_boxes boxes

no_frames : (platform : Platform) → frames_of (world_of platform) ≡ []
no_frames platform =
    let links = none_in frames_from (channels_of (nodes_of platform)) (All-map (λ row. frames_from row ≡ []) (map channel) (nodes_of platform) (unused_nodes platform)) in
    let boxes = none_boxes (boxes_of platform) in
    let ports = none_in strays_of (ports_of platform) (idle_all (λ port. strays_of port ≡ []) platform (λ config. refl)) in
    none_both _ _ links (none_both _ _ boxes (none_both _ [] ports refl))

-- ---- what is in flight

abbrev HasNothing : DomainView → Type 0
HasNothing d = d.state.flight ≡ []

nothing_among : (platform : Platform) (count : ℕ) → All HasNothing (starting_domains_among platform count)
unfolding starting_domains_among
nothing_among platform count =
    All-map HasNothing (λ number. fresh (share_of_domain platform number)) (filter (owns_port platform.ports) (range_with_len 1 count))
    (all_of (λ number. HasNothing (fresh (share_of_domain platform number))) (filter (owns_port platform.ports) (range_with_len 1 count)) (λ number. refl))

slice_get_at : (domains : List DomainView) (p : ℕ) (d : DomainView) → slice_get domains p ≡ Some d → (p < length domains) × (get_or domains p d ≡ d)
slice_get_at [] p d e = absurd cc
slice_get_at (x ∷ domains) zero d e = (omega arith, let same : x ≡ d = cc in same)
slice_get_at (x ∷ domains) (suc p) d e = let later = slice_get_at domains p d e in (omega (arith, later.0), later.1)

by_domain : (domains : List DomainView) (p n : ℕ) (o : Option DomainView) → o ≡ slice_get domains p → All HasNothing domains → flown_by n o ≡ None
by_domain domains p n None is h = refl
by_domain domains p n (Some d) is h =
    let there = slice_get_at domains p d (sym is) in
    let none : d.state.flight ≡ [] = subst HasNothing there.1 (All-get_or HasNothing domains p d there.0 h) in
    ap (λ (f : List (Option Emission)). item_at f n) none

by_place : (domains : List DomainView) (n : ℕ) (o : Option ℕ) → All HasNothing domains → flown_by n (domain_at domains o) ≡ None
by_place domains n None h = refl
by_place domains n (Some p) h = by_domain domains p n (domain_at domains (Some p)) refl h

none_flown : (domains : List DomainView) (domain n : ℕ) → All HasNothing domains → flown domains domain n ≡ None
none_flown domains domain n h = by_place domains n (place_of domains domain) h

abbrev HasPortsOf : Platform → DomainView → Type 0
HasPortsOf platform d = HasPorts platform.ports d

shares_among : (platform : Platform) (count : ℕ) → All (HasPortsOf platform) (starting_domains_among platform count)
unfolding starting_domains_among
shares_among platform count =
    All-map (HasPortsOf platform) (λ number. fresh (share_of_domain platform number)) (filter (owns_port platform.ports) (range_with_len 1 count))
    (all_of (λ number. HasPortsOf platform (fresh (share_of_domain platform number))) (filter (owns_port platform.ports) (range_with_len 1 count)) (λ number. refl))

none_placed : (platform : Platform) → frames_of (world_of platform) ++ [] ≡ []
none_placed platform = none_both (frames_of (world_of platform)) [] (no_frames platform) refl

placed : (platform : Platform) → ArePlaced (world_of platform)
placed platform = record {
  lost = [];
  once = λ domain n. ap (λ (fs : List Descriptor). count_by (is_numbered domain n) fs) (none_placed platform) ∙ sym (ap times_waiting (none_flown (starting_domains platform) domain n (nothing_among platform 31)));
  flown = subst (All (IsFlown (starting_domains platform))) (sym (none_placed platform)) (All-nil (IsFlown (starting_domains platform)));
  whole = λ guarded. refl;
}

kept_at_start : (platform : Platform) → interconnect.IsInterconnect (start_of platform) → IsSettled (agents_of platform) → IsConsistent (world_of platform)
kept_at_start platform kept settled = record {
  built = built platform kept;
  settled = settled;
  shares = shares_among platform 31;
  placed = placed platform;
  free = idle_all IsFree platform (λ config. record { held = refl; kept = refl });
}

-- the parts of a new fabric
pub kept_new : (platform : Platform) (h : InterconnectView) (agents : AgentsView) (violations : List Violation) (strays : List Descriptor) → h ≡ start_of platform → interconnect.IsInterconnect h → agents ≡ agents_of platform → IsSettled agents → violations ≡ [] → strays ≡ []
    → IsConsistent (world_over h agents violations strays)
kept_new platform h agents violations strays is_h kept is_agents settled none_reported none_stray =
    subst (λ (x : InterconnectView). IsConsistent (world_over x agents violations strays)) (sym is_h)
    (subst (λ (x : AgentsView). IsConsistent (world_over (start_of platform) x violations strays)) (sym is_agents)
    (subst (λ (x : List Violation). IsConsistent (world_over (start_of platform) (agents_of platform) x strays)) (sym none_reported)
    (subst (λ (x : List Descriptor). IsConsistent (world_over (start_of platform) (agents_of platform) [] x)) (sym none_stray) (kept_at_start platform (subst interconnect.IsInterconnect is_h kept) (subst IsSettled is_agents settled)))))
