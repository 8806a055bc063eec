-- The root port and the top switch send to each other.
use Rattle.std.proofs.Common.{◌≡◌, ℕ, ◌==◌, ◌⊎◌, inl, inr, true, List, [], ◌∷◌, Option, Some, None, refl, sym, ap, ◌∙◌, arith, subst, eq-eqb}
use Rattle.std.specs.Prelude.{Contains, is_none, option_and_then}
use Rattle.std.specs.List.{position}
use Rattle.std.specs.Option.{option_map}
use Rattle.fab_types.specs.declared.place.Way.{Way}
use Rattle.fab_types.specs.declared.place.Way.TheVariants.{Up, Down}
use Rattle.platform.specs.declared.parts.DownstreamPort.{DownstreamPort}
use Rattle.platform.specs.declared.parts.Switch.{Switch}
use Rattle.layout.specs.Laws.{IsPlatform}
use Rattle.layout.specs.Places.{IsWellPlaced, is_top_first}
use Rattle.platform.specs.Platform.{Platform}
use Rattle.platform.specs.Tree.{has_root, port_at}
use Rattle.topology.specs.Links.{end_above, link_at, link_of_switch, links_of, sender_of, sending_end}
use Rattle.topology.specs.Nodes.{upstream_end, upstream_end_at}
use Rattle.topology.proofs.Buses.{IsAbove, IsTop, switch_above}
use Rattle.topology.proofs.Members.{here, passing, position_is}
use Rattle.topology.proofs.Standing.{link_found, link_of_listed}

top_place : (switches : List Switch) → is_top_first switches ≡ true → has_root switches ≡ true → ((switch : Switch) → Contains switches switch → is_none switch.above ≡ true → switch.id ≡ 256)
    → position (λ switch. switch.id == 256) switches ≡ Some 0
top_place [] first root named = absurd cc
top_place (switch ∷ rest) first root named =
    position_is (λ other. other.id == 256) (switch ∷ rest) 0 switch (omega arith) (eq-eqb switch.id 256 (named switch (here switch rest) first)) (λ j before. absurd (omega arith))

module _ (platform : Platform) (laws : IsPlatform platform) where
  top_is : (switch : Switch) → Contains platform.switches switch → is_none switch.above ≡ true → IsTop platform.ports switch
  top_is switch within none = go (switch_above platform laws switch within)
    where
      hangs_nowhere : (above : Option ℕ) → is_none above ≡ true → option_and_then (λ id. port_at platform.ports id) above ≡ None
      hangs_nowhere None h = refl
      hangs_nowhere (Some id) h = absurd cc

      go : IsTop platform.ports switch ⊎ ((port : DownstreamPort) × IsAbove platform.ports switch port) → IsTop platform.ports switch
      go (inl top) = top
      go (inr (port, is)) = let clash : ◌≡◌ {A = Option DownstreamPort} None (Some port) = sym (hangs_nowhere switch.above none) ∙ is.found in absurd cc

  top_link : (way : Way) → has_root platform.switches ≡ true → (switch : Switch) × IsTop platform.ports switch × (sender_of (links_of platform) (record { lower = 256; way = way }) ≡ Some (sending_end way (link_of_switch platform switch)))
  top_link way root =
      let at = passing (λ s. is_none s.above) platform.switches root in
      let top = top_is at.0 at.1 at.2 in
      (at.0, top, ap (option_map (sending_end way)) (subst (λ (n : ℕ). link_at (links_of platform) n ≡ Some (link_of_switch platform at.0)) top.id (link_found platform laws (link_of_switch platform at.0) (link_of_listed platform at.0 at.1))))

  pub root_down : has_root platform.switches ≡ true → sender_of (links_of platform) (record { lower = 256; way = Down }) ≡ Some (record { node = 0; output = 0 })
  root_down root = let link = top_link Down root in link.2 ∙ ap Some (ap (end_above platform) link.1.found)

  pub top_up : IsWellPlaced platform → has_root platform.switches ≡ true → sender_of (links_of platform) (record { lower = 256; way = Up }) ≡ Some (record { node = 1; output = 0 })
  top_up placed root =
      let link = top_link Up root in
      let place = top_place platform.switches placed.top root (λ switch within none. (top_is switch within none).id) in
      link.2 ∙ ap Some (ap (upstream_end platform) link.1.id ∙ ap (upstream_end_at platform 256) place)
