-- The outputs of a switch lead up its own link, and down those below its ports.
use Rattle.std.proofs.Common.{◌≡◌, ℕ, suc, ◌+◌, ◌*◌, ◌/◌, ◌<◌, ◌==◌, inl, inr, Bool, true, false, length, get_or, Option, Some, None, refl, sym, ap, ◌∙◌, arith, subst, eqb-true, eq-eqb}
use Rattle.std.specs.Prelude.{not, Any, Contains, IsSomeAnd}
use Rattle.std.specs.List.{position}
use Rattle.std.specs.Option.{option_map, option_map_or}
use Rattle.std.proofs.lemmas.List.Elements.{Contains-get_or}
use Rattle.fab_types.specs.Id.{bus_of}
use Rattle.fab_types.specs.declared.place.Way.TheVariants.{Up, Down}
use Rattle.platform.specs.declared.parts.EndpointFunction.{EndpointFunction}
use Rattle.platform.specs.declared.parts.DownstreamPort.{DownstreamPort}
use Rattle.platform.specs.declared.parts.Switch.{Switch}
use Rattle.layout.specs.Laws.{IsPlatform, are_apart}
use Rattle.platform.specs.Platform.{Platform}
use Rattle.platform.specs.Tree.{is_on_bus}
use Rattle.platform.specs.Tree.{id_below, internal_bus, is_taken}
use Rattle.platform.proofs.Bools.{and-first}
use Rattle.topology.specs.declared.nodes.LinkEnd.{LinkEnd}
use Rattle.topology.specs.Links.{link_at, links_of, sender_of, sending_end}
use Rattle.topology.specs.Nodes.{downstream_end, end_of_port, output_of, ports_on, upstream_end, upstream_end_at}
use Rattle.topology.proofs.Buses.{port_stands}
use Rattle.topology.proofs.Members.{any_found, kept_from, pair_at, pairs_kept, position_agrees, position_is, some_passes}
use Rattle.topology.proofs.OwnEnds.{IsOutputDown, IsSentUp, output_down, sent_up}
use Rattle.topology.proofs.Standing.{link_found, link_is, link_to, one_above, or_left, or_right, switch_id}

-- tests of equations that follow from each other
same_test : (a b c d : ℕ) → (a ≡ b → c ≡ d) → (c ≡ d → a ≡ b) → (a == b) ≡ (c == d)
same_test a b c d forth back = go (a == b) (c == d) refl refl
  where
    go : (one other : Bool) → one ≡ (a == b) → other ≡ (c == d) → one ≡ other
    go true true e h = refl
    go false false e h = refl
    go true false e h = let equal : (c == d) ≡ true = eq-eqb c d (forth (eqb-true a b (sym e))) in absurd cc
    go false true e h = let equal : (a == b) ≡ true = eq-eqb a b (back (eqb-true c d (sym h))) in absurd cc

one_id_on : (one other : ℕ) → one ≡ one / 256 * 256 → other ≡ other / 256 * 256 → one / 256 + 1 ≡ other / 256 + 1 → one ≡ other
one_id_on one other is also same = omega (arith, is, also, same)

differs : (a b : ℕ) → not (a == b) ≡ true → (a == b) ≡ false
differs a b = go (a == b)
  where
    go : (t : Bool) → not t ≡ true → t ≡ false
    go true h = absurd cc
    go false h = refl

up_output : (platform : Platform) (id : ℕ) (end : LinkEnd) → IsSentUp platform id end → end ≡ record { node = end.node; output = 0 }
up_output platform id end (inl (place, is)) = ap (λ (n : ℕ). record { node = end.node; output = n }) (ap (λ (e : LinkEnd). e.output) is.same)
up_output platform id end (inr (place, is)) = ap (λ (n : ℕ). record { node = end.node; output = n }) (ap (λ (e : LinkEnd). e.output) is.same)

module _ (platform : Platform) (laws : IsPlatform platform) where
  -- a switch or a function sends up from its output 0
  pub output_up : (id : ℕ) → is_taken platform.switches platform.functions id ≡ true → sender_of (links_of platform) (record { lower = id; way = Up }) ≡ Some (record { node = (upstream_end platform id).node; output = 0 })
  output_up id taken =
      let link = link_to platform id taken in
      let at : link_at (links_of platform) id ≡ Some link.0 = ap (link_at (links_of platform)) (sym link.2) ∙ link_found platform laws link.0 link.1 in
      ap (option_map (sending_end Up)) at
      ∙ ap Some ((link_is platform laws link.0 link.1).below ∙ ap (upstream_end platform) link.2 ∙ up_output platform id (upstream_end platform id) (sent_up platform id taken))

  pub switch_up : (switch : Switch) → Contains platform.switches switch → sender_of (links_of platform) (record { lower = switch.id; way = Up }) ≡ Some (record { node = (upstream_end platform switch.id).node; output = 0 })
  switch_up switch within = output_up switch.id (or_left _ _ (some_passes (λ s. s.id == switch.id) platform.switches switch within (eq-eqb switch.id switch.id refl)))

  pub function_up : (function : EndpointFunction) → Contains platform.functions function → sender_of (links_of platform) (record { lower = function.id; way = Up }) ≡ Some (record { node = (upstream_end platform function.id).node; output = 0 })
  function_up function within = output_up function.id (or_right _ _ (some_passes (λ f. f.id == function.id) platform.functions function within (eq-eqb function.id function.id refl)))

  -- the switch on whose internal bus a port stands
  same_switch : (switch : Switch) (bus : ℕ) → Contains platform.switches switch → bus ≡ internal_bus switch → position (λ other. internal_bus other == bus) platform.switches ≡ position (λ other. other.id == switch.id) platform.switches
  same_switch switch bus within on = position_agrees (λ other. internal_bus other == bus) (λ other. other.id == switch.id) platform.switches
      (λ other listed. same_test (internal_bus other) bus other.id switch.id
      (λ same. one_id_on other.id switch.id (switch_id platform laws other listed) (switch_id platform laws switch within) (same ∙ on))
      (λ same. ap (λ (n : ℕ). bus_of n + 1) same ∙ sym on))

  switch_place : (switch : Switch) → Contains platform.switches switch → (place : ℕ) × (position (λ other. other.id == switch.id) platform.switches ≡ Some place)
  switch_place switch within = go (position (λ other. other.id == switch.id) platform.switches) refl
    where
      go : (o : Option ℕ) → o ≡ position (λ other. other.id == switch.id) platform.switches → (place : ℕ) × (o ≡ Some place)
      go None e = absurd (any_found (λ other. other.id == switch.id) platform.switches (some_passes (λ other. other.id == switch.id) platform.switches switch within (eq-eqb switch.id switch.id refl)) (sym e))
      go (Some place) e = (place, refl)

  pub own_end : (switch : Switch) (port : DownstreamPort) → Contains platform.switches switch → bus_of port.id ≡ internal_bus switch
      → downstream_end platform port ≡ record { node = (upstream_end platform switch.id).node; output = output_of platform.ports port }
  own_end switch port within on =
      let at = switch_place switch within in
      let up : (upstream_end platform switch.id).node ≡ 1 + at.0 = ap (λ (o : Option ℕ). (upstream_end_at platform switch.id o).node) at.1 in
      ap (end_of_port platform.ports port) (same_switch switch (bus_of port.id) within on ∙ at.1)
      ∙ ap (λ (n : ℕ). record { node = n; output = output_of platform.ports port }) (sym up)

  pub own_node : (switch : Switch) (port : DownstreamPort) → Contains platform.switches switch → bus_of port.id ≡ internal_bus switch → (downstream_end platform port).node ≡ (upstream_end platform switch.id).node
  own_node switch port within on = ap (λ (e : LinkEnd). e.node) (own_end switch port within on)

  pub output_place : (port : DownstreamPort) → Contains platform.ports port → IsSomeAnd (position (λ other. other.id == port.id) (ports_on platform.ports (bus_of port.id))) (λ place. (downstream_end platform port).output ≡ 1 + place)
  output_place port within = go (output_down platform laws port within)
    where
      go : (place : ℕ) × (output : ℕ) × IsOutputDown platform port place output → IsSomeAnd (position (λ other. other.id == port.id) (ports_on platform.ports (bus_of port.id))) (λ n. (downstream_end platform port).output ≡ 1 + n)
      go (place, output, is) =
          subst (λ (o : Option ℕ). IsSomeAnd o (λ n. (downstream_end platform port).output ≡ 1 + n)) (sym is.at)
          (ap (λ (e : LinkEnd). e.output) is.end ∙ omega arith)

  -- the k-th port of a switch is sent down from by output k + 1
  pub output_at : (switch : Switch) (k : ℕ) (d : DownstreamPort) → Contains platform.switches switch → k < length (ports_on platform.ports (internal_bus switch))
      → downstream_end platform (get_or (ports_on platform.ports (internal_bus switch)) k d) ≡ record { node = (upstream_end platform switch.id).node; output = 1 + k }
  output_at switch k d within less = own_end switch port within on ∙ ap (λ (n : ℕ). record { node = (upstream_end platform switch.id).node; output = n }) output
    where
      port : DownstreamPort
      port = get_or (ports_on platform.ports (internal_bus switch)) k d

      on : bus_of port.id ≡ internal_bus switch
      on = eqb-true _ _ (kept_from (is_on_bus (internal_bus switch)) platform.ports port (Contains-get_or (ports_on platform.ports (internal_bus switch)) k d less)).1

      before : (j : ℕ) → j < k → ((get_or (ports_on platform.ports (internal_bus switch)) j d).id == port.id) ≡ false
      before j lower = differs _ _ (and-first _ _ (and-first _ _ (pair_at are_apart (ports_on platform.ports (internal_bus switch)) j k d (pairs_kept (is_on_bus (internal_bus switch)) are_apart platform.ports laws.apart) lower less)))

      output : output_of platform.ports port ≡ 1 + k
      output =
          ap (λ (bus : ℕ). option_map_or suc (position (λ other. other.id == port.id) (ports_on platform.ports bus)) 0) on
          ∙ ap (λ (o : Option ℕ). option_map_or suc o 0) (position_is (λ other. other.id == port.id) (ports_on platform.ports (internal_bus switch)) k d less (eq-eqb port.id port.id refl) before)
          ∙ omega arith

  -- what stands below a port is sent to from the port's output
  pub lane_to : (port : DownstreamPort) → Contains platform.ports port → is_taken platform.switches platform.functions (id_below port) ≡ true → sender_of (links_of platform) (record { lower = id_below port; way = Down }) ≡ Some (downstream_end platform port)
  lane_to port within taken =
      let link = link_to platform (id_below port) taken in
      let at : link_at (links_of platform) (id_below port) ≡ Some link.0 = ap (link_at (links_of platform)) (sym link.2) ∙ link_found platform laws link.0 link.1 in
      ap (option_map (sending_end Down)) at
      ∙ ap Some (one_above platform laws link.0.lower link.0.above (downstream_end platform port) (link_is platform laws link.0 link.1).above (inr (port, within, link.2, refl)))

  pub on_switch : (port : DownstreamPort) → Contains platform.ports port → Any (λ switch. internal_bus switch ≡ bus_of port.id) platform.switches
  on_switch port within =
      let on = port_stands platform laws port within in
      (on.1.listed.0, on.0, on.1.listed.1, on.1.listed.2, on.1.bus)
