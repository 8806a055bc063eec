-- Two platforms of one fabric have the same functions and ways, so packets go by the same places in both.
use Rattle.std.proofs.Common.{◌≡◌, ℕ, List, true, refl, sym, ap, ◌∙◌, subst}
use Rattle.std.specs.Prelude.{option_map, slice_get, Some}
use Rattle.std.specs.Option.{option_and_then}
use Rattle.fab_types.specs.Id.{bus_of}
use Rattle.fab_types.specs.declared.head.Header.{Header}
use Rattle.fab_types.specs.declared.head.Header.TheVariants as header
use Rattle.fab_types.specs.declared.place.Place.{Place}
use Rattle.platform.specs.declared.parts.EndpointFunction.{EndpointFunction}
use Rattle.platform.specs.declared.parts.DownstreamPort.{DownstreamPort}
use Rattle.platform.specs.declared.parts.Switch.{Switch}
use Rattle.platform.specs.Egress.{direct_at}
use Rattle.platform.specs.Owners.{domain_above, is_function}
use Rattle.platform.specs.Platform.{Platform}
use Rattle.platform.specs.Share.{Share}
use Rattle.platform.specs.Tree.{id_below, port_at, port_leading_to, switch_on}
use Rattle.request_handling.specs.Heads.{head_of}
use Rattle.domain.specs.Orders.{direct_from}
use Rattle.bridge.specs.Bridges.{Routes, of_platform}
use Rattle.domain.specs.Domains.{DomainView}
use Rattle.domain.specs.Sent.{Sent}
use Rattle.guarded_routes.specs.Guarded.{IsFunctionOf, top_id}
use Rattle.guarded_routes.specs.Links.{IsPath, link_above}
use Rattle.guarded_routes.specs.Sound.{let_by}
use Rattle.fabric_core.specs.Orders.{GoesBy}
use Rattle.fabric_core.specs.Soundness.{IsGuardedFabric}
use Rattle.fabric_core.specs.World.{World}
use Rattle.fabric_core.proofs.soundness.SoundDomains.{share_is}

-- the same switches, ports and functions
pub record AreSame (p q : Platform) : Type 0 where
  pub routes : of_platform q ≡ of_platform p
  pub functions : q.functions ≡ p.functions

pub same_back : (p q : Platform) → AreSame p q → AreSame q p
same_back p q same = record { routes = sym same.routes; functions = sym same.functions }

module _ (p q : Platform) (same : AreSame p q) where
  above_same : (lower : ℕ) → link_above q lower ≡ link_above p lower
  above_same lower =
      ap (λ (r : Routes). option_and_then (λ (port : DownstreamPort). option_map (λ (switch : Switch). switch.id) (switch_on r.switches (bus_of port.id))) (port_leading_to r.ports lower)) same.routes

  path_same : (last lower : ℕ) (links : List ℕ) → IsPath p last lower links → IsPath q last lower links
  path_same last _ _ IsPath.AtLast = IsPath.AtLast
  path_same last _ _ (IsPath.Above lower above links e falls way) = IsPath.Above lower above links (above_same lower ∙ e) falls (path_same last above links way)

  ports_same : q.ports ≡ p.ports
  ports_same = ap (λ (r : Routes). r.ports) same.routes

  pub function_same : (domain function : ℕ) → IsFunctionOf p domain function → IsFunctionOf q domain function
  function_same domain function own = record {
    listed = subst (λ (lines : List EndpointFunction). is_function lines function ≡ true) (sym same.functions) own.listed;
    owner = ap (λ (r : Routes). domain_above r.ports function) same.routes ∙ own.owner;
  }

  pub goes_same : (domain : ℕ) (packet : Sent) (places : List Place) → GoesBy p domain packet places → GoesBy q domain packet places
  goes_same domain packet _ (GoesBy.Up function links source none own way) =
      GoesBy.Up function links source (ap (λ (ports : List DownstreamPort). direct_from ports function packet.emission) ports_same ∙ none) (function_same domain function own) (path_same top_id function links way)
  goes_same domain packet _ (GoesBy.Across function peer line links source some own listed held lets path) =
      GoesBy.Across function peer line links source (ap (λ (ports : List DownstreamPort). direct_from ports function packet.emission) ports_same ∙ some) (function_same domain function own) (ap (λ (ports : List DownstreamPort). port_at ports line.id) ports_same ∙ listed) held
      (lets_same (head_of packet.emission).header line ∙ lets) (path_same (id_below line) function links path)
    where
      lets_same : (h : Header) (line : DownstreamPort) → let_by q line h ≡ let_by p line h
      lets_same header.Malformed line = refl
      lets_same (header.Memory requester address_type address) line = ap (λ (ports : List DownstreamPort). direct_at ports address line) ports_same
      lets_same (header.OtherRequest requester) line = refl
      lets_same (header.Completion target relaxed_ordering) line = refl
  goes_same domain packet _ (GoesBy.Down function links source to own way) = GoesBy.Down function links source to (function_same domain function own) (path_same top_id function links way)

-- the platforms of a fabric before and after an event, as a domain knows them
pub platforms_same : (w w' : World) (g : IsGuardedFabric w) (g' : IsGuardedFabric w') → w'.routes ≡ w.routes → (place : ℕ) (d d' : DomainView) → slice_get w.agents.domains place ≡ Some d → slice_get w'.agents.domains place ≡ Some d' → d'.share ≡ d.share
    → AreSame g.platform g'.platform
platforms_same w w' g g' routes place d d' at at' share = record {
  routes = sym g'.of_it.routes ∙ (routes ∙ g.of_it.routes);
  functions =
      ap (λ (s : Share). s.functions) (sym (share_is g'.platform w'.agents.domains place d' g'.of_it.shares at') ∙ (share ∙ share_is g.platform w.agents.domains place d g.of_it.shares at));
}
