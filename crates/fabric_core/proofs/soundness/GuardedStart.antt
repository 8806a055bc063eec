-- A guarded layout's fabric at its start: nothing is on its way, and nothing is stray.
use Rattle.std.proofs.Common.{◌≡◌, ℕ, zero, suc, List, [], ◌∷◌, ◌++◌, map, get_or, Option, Some, None, refl, ap, ◌∙◌, subst, sym}
use Rattle.std.specs.Prelude.{All, filter, slice_get}
use Rattle.std.specs.List.{flat_map, range_with_len}
use Rattle.std.proofs.lemmas.List.Elements.{All-append, All-cons, All-head, All-map, All-nil, All-tail}
use Rattle.frame_log.specs.Descriptor.{Descriptor}
use Rattle.platform.specs.declared.parts.EndpointFunction.{EndpointFunction}
use Rattle.platform.specs.declared.parts.DownstreamPort.{DownstreamPort}
use Rattle.platform.specs.declared.parts.Switch.{Switch}
use Rattle.platform.specs.Owners.{owns_port}
use Rattle.platform.specs.Platform.{Platform}
use Rattle.platform.specs.Share.{Share}
use Rattle.platform.specs.Tree.{id_below, internal_bus}
use Rattle.layout.specs.Views.{share_of_domain}
use Rattle.domains.specs.Agents.{agents_of, empty, outbox_place, waiting_at, waiting_in}
use Rattle.link.specs.Channels.{Channel}
use Rattle.link.specs.Simplexes.{SimplexView, channel}
use Rattle.outboxes.specs.Outboxes.{BoxView, boxes_of}
use Rattle.port.specs.Turns.{PortView}
use Rattle.domains.specs.Domains.{fresh, starting_domains_among, starting_domains}
use Rattle.topology.specs.Nodes.{ports_on}
use Rattle.topology.specs.declared.nodes.LinkEnd.{LinkEnd}
use Rattle.interconnect.specs.Moves.{channel_at, no_channel}
use Rattle.interconnect.specs.Starts.{function_outputs, nodes_of, ports_of, host_outputs, switch_outputs, unused_below}
use Rattle.interconnect.specs.Views.{channels_of}
use Rattle.guarded_routes.specs.Guarded.{IsGuarded}
use Rattle.guarded_routes.specs.Sound.{IsSound}
use Rattle.fabric_core.specs.Events.{link_of}
use Rattle.fabric_core.specs.Places.{frames_on, strays_of}
use Rattle.fabric_core.specs.Soundness.{IsGuardedFabric, IsWellKept, IsWellMadeIfAny}
use Rattle.fabric_core.specs.World.{world_of}
use Rattle.fabric_core.proofs.soundness.LongPages.{long_registers, long_zeroed}

-- ---- on links

-- nothing is on a direction
abbrev pub IsQuiet : Channel → Type 0
IsQuiet c = frames_on c ≡ []

-- what holds of each element and of the one beside them holds at each place
at_any : {X : Type 0} (P : X → Type 0) (xs : List X) (i : ℕ) (d : X) → P d → All P xs → P (get_or xs i d)
at_any P [] i d beside all = beside
at_any P (x ∷ xs) zero d beside all = All-head P x xs all
at_any P (x ∷ xs) (suc i) d beside all = at_any P xs i d beside (All-tail P x xs all)

abbrev pub AreQuiet : List SimplexView → Type 0
AreQuiet outputs = All IsQuiet (map channel outputs)

quiet_switch : (platform : Platform) (switch : Switch) → AreQuiet (switch_outputs platform switch)
quiet_switch platform switch =
    All-cons IsQuiet (channel (unused_below platform switch.id)) (map channel (map (λ (port : DownstreamPort). unused_below platform (id_below port)) (ports_on platform.ports (internal_bus switch)))) refl
    (All-map IsQuiet channel (map (λ (port : DownstreamPort). unused_below platform (id_below port)) (ports_on platform.ports (internal_bus switch)))
    (All-map (λ (s : SimplexView). IsQuiet (channel s)) (λ (port : DownstreamPort). unused_below platform (id_below port)) (ports_on platform.ports (internal_bus switch)) (λ i port less. refl)))

quiet_function : (platform : Platform) (function : EndpointFunction) → AreQuiet (function_outputs platform function)
quiet_function platform function = All-cons IsQuiet (channel (unused_below platform function.id)) [] refl (All-nil IsQuiet)

pub quiet_nodes : (platform : Platform) → All AreQuiet (nodes_of platform)
quiet_nodes platform =
    All-cons AreQuiet (host_outputs platform) (map (switch_outputs platform) platform.switches ++ map (function_outputs platform) platform.functions) (All-cons IsQuiet _ [] refl (All-nil IsQuiet))
    (All-append AreQuiet (map (switch_outputs platform) platform.switches) (map (function_outputs platform) platform.functions)
    (All-map AreQuiet (switch_outputs platform) platform.switches (λ i switch less. quiet_switch platform (get_or platform.switches i switch)))
    (All-map AreQuiet (function_outputs platform) platform.functions (λ i function less. quiet_function platform (get_or platform.functions i function))))

pub quiet_at : (platform : Platform) (end : LinkEnd) → IsQuiet (channel_at (channels_of (nodes_of platform)) end)
quiet_at platform end =
    at_any IsQuiet (get_or (channels_of (nodes_of platform)) end.node []) end.output no_channel refl
    (at_any (All IsQuiet) (channels_of (nodes_of platform)) end.node [] (All-nil IsQuiet) (All-map (All IsQuiet) (map channel) (nodes_of platform) (quiet_nodes platform)))

-- ---- in outboxes

none_in : (boxes : List BoxView) (place : ℕ) → waiting_in (slice_get (map empty boxes) place) ≡ []
none_in [] place = refl
none_in (box ∷ boxes) zero = refl
none_in (box ∷ boxes) (suc place) = none_in boxes place

none_at : (boxes : List BoxView) (place : Option ℕ) → waiting_at (map empty boxes) place ≡ []
none_at boxes None = refl
none_at boxes (Some place) = none_in boxes place

-- ---- in ports

no_strays : (ports : List PortView) → All (λ (port : PortView). strays_of port ≡ []) ports → flat_map strays_of ports ≡ []
no_strays [] none = refl
no_strays (port ∷ ports) none =
    ap (λ (frames : List Descriptor). frames ++ flat_map strays_of ports) (All-head (λ (port : PortView). strays_of port ≡ []) port ports none) ∙ no_strays ports (All-tail (λ (port : PortView). strays_of port ≡ []) port ports none)

clear_ports : (platform : Platform) → All (λ (port : PortView). strays_of port ≡ []) (ports_of platform)
clear_ports platform =
    All-append (λ (port : PortView). strays_of port ≡ []) _ _ (All-map (λ (port : PortView). strays_of port ≡ []) _ platform.switches (λ i switch less. refl)) (All-map (λ (port : PortView). strays_of port ≡ []) _ platform.ports (λ i port less. refl))

-- ---- the domains

kept_fresh : (share : Share) → IsWellKept (fresh share)
kept_fresh share = record { replayed = refl; frames = long_zeroed share.frames; registers = long_registers share; well_made = All-nil IsWellMadeIfAny }

kept_domains : (platform : Platform) → All IsWellKept (starting_domains platform)
unfolding starting_domains_among
kept_domains platform =
    let numbers = filter (owns_port platform.ports) (range_with_len 1 31) in
    All-map IsWellKept (λ (number : ℕ). fresh (share_of_domain platform number)) numbers (λ k number less. kept_fresh (share_of_domain platform (get_or numbers k number)))

pub guarded_start : (platform : Platform) → IsGuarded platform → IsGuardedFabric (world_of platform)
guarded_start platform guarded = record {
  platform = platform;
  guarded = guarded;
  of_it = record { tree = refl; routes = refl; configs = refl; shares = refl };
  sound = record {
    links = λ direction end from. subst (All (IsSound platform direction)) (sym (quiet_at platform end)) (All-nil (IsSound platform direction));
    elsewhere = λ end unsent. quiet_at platform end;
    outboxes = λ origin. subst (All (IsSound platform (link_of origin))) (sym (none_at (boxes_of platform) (outbox_place (agents_of platform).outboxes origin))) (All-nil (IsSound platform (link_of origin)));
    ports = no_strays (ports_of platform) (clear_ports platform);
    strays = refl;
  };
  domains = kept_domains platform;
}
