-- What comes into a port is sent in a direction of the link below or above it.
use Rattle.std.proofs.Common.{◌≡◌, ℕ, ◌==◌, Bool, true, false, cond, Option, Some, None, refl, sym, ap, ◌∙◌, subst, eqb-true, eq-eqb}
use Rattle.std.specs.Prelude.{Contains}
use Rattle.std.specs.Option.{option_map}
use Rattle.fab_types.specs.declared.place.Way.TheVariants.{Up, Down}
use Rattle.platform.specs.declared.parts.DownstreamPort.{DownstreamPort}
use Rattle.platform.specs.declared.parts.Switch.{Switch}
use Rattle.layout.specs.Laws.{IsPlatform}
use Rattle.platform.specs.Platform.{Platform}
use Rattle.platform.specs.Tree.{id_below, is_taken}
use Rattle.topology.specs.declared.links.Link.{Link}
use Rattle.topology.specs.declared.nodes.LinkEnd.{LinkEnd}
use Rattle.topology.specs.Links.{link_at, link_of_switch, links_of, sender_of, sending_end}
use Rattle.topology.specs.Nodes.{upstream_end}
use Rattle.topology.specs.Places.{downstream_place, upstream_place}
use Rattle.topology.proofs.Members.{found, missed}
use Rattle.topology.proofs.Standing.{link_found, link_is, link_of_listed, link_to}

module _ (platform : Platform) (laws : IsPlatform platform) where
  pub upstream_input : (switch : Switch) → Contains platform.switches switch → (upstream_place platform switch).input ≡ sender_of (links_of platform) (record { lower = switch.id; way = Down })
  upstream_input switch within = sym (ap (option_map (sending_end Down)) (link_found platform laws (link_of_switch platform switch) (link_of_listed platform switch within)))

  -- what is sent up from an ID
  up_from : (id : ℕ) (taken : Bool) (link : Option Link) → taken ≡ is_taken platform.switches platform.functions id → link ≡ link_at (links_of platform) id
      → cond {A = Option LinkEnd} taken (Some (upstream_end platform id)) None ≡ option_map (sending_end Up) link
  up_from id true None is e =
      let has = link_to platform id (sym is) in
      absurd (missed (λ link. link.lower == id) (links_of platform) has.0 (sym e) has.1 (eq-eqb has.0.lower id has.2))
  up_from id true (Some link) is e =
      let at = found (λ l. l.lower == id) (links_of platform) link (sym e) in
      ap Some (ap (upstream_end platform) (sym (eqb-true link.lower id at.1)) ∙ sym (link_is platform laws link at.0).below)
  up_from id false None is e = refl
  up_from id false (Some link) is e =
      let at = found (λ l. l.lower == id) (links_of platform) link (sym e) in
      let taken : is_taken platform.switches platform.functions id ≡ true = subst (λ (n : ℕ). is_taken platform.switches platform.functions n ≡ true) (eqb-true link.lower id at.1) (link_is platform laws link at.0).taken in
      absurd cc

  pub downstream_input : (port : DownstreamPort) → (downstream_place platform port).input ≡ sender_of (links_of platform) (record { lower = id_below port; way = Up })
  downstream_input port = up_from (id_below port) (is_taken platform.switches platform.functions (id_below port)) (link_at (links_of platform) (id_below port)) refl refl
