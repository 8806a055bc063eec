-- No two directions of a platform's links are sent from one end.
use Rattle.std.proofs.Common.{◌≡◌, ℕ, suc, ◌+◌, ◌<◌, ◌==◌, ◌⊎◌, inl, inr, true, length, get_or, Option, Some, None, refl, sym, ap, ◌∙◌, arith, subst, eqb-true, eq-eqb}
use Rattle.std.specs.Prelude.{not, Contains}
use Rattle.std.specs.List.{position}
use Rattle.std.specs.Option.{option_map, option_map_or}
use Rattle.std.proofs.lemmas.Option.{same_Some}
use Rattle.std.proofs.lemmas.List.Quantifiers.{position-Some}
use Rattle.fab_types.specs.Id.{bus_of}
use Rattle.fab_types.specs.declared.place.Direction.{Direction}
use Rattle.fab_types.specs.declared.place.Way.{Way}
use Rattle.fab_types.specs.declared.place.Way.TheVariants.{Up, Down}
use Rattle.platform.specs.declared.parts.DownstreamPort.{DownstreamPort}
use Rattle.layout.specs.Laws.{IsPlatform, are_apart}
use Rattle.platform.specs.Platform.{Platform}
use Rattle.platform.specs.Tree.{id_below, internal_bus, is_taken}
use Rattle.platform.proofs.Bools.{and-first}
use Rattle.topology.specs.declared.links.Link.{Link}
use Rattle.topology.specs.declared.nodes.LinkEnd.{LinkEnd}
use Rattle.topology.specs.Links.{link_at, links_of, sender_of, sending_end}
use Rattle.topology.specs.Nodes.{downstream_end, end_of_port, function_end, ports_on, root_end, upstream_end, upstream_end_at}
use Rattle.topology.proofs.Ends.{no_function, no_switch, switch_found}
use Rattle.topology.proofs.Known.{id_known, place_known, switch_known}
use Rattle.topology.proofs.Members.{found, paired}
use Rattle.topology.proofs.Standing.{IsLinkOf, IsSentDown, link_is}

-- ---- up

pub record IsUpFromSwitch (platform : Platform) (id place : ℕ) (end : LinkEnd) : Type 0 where
  pub within : place < length platform.switches
  pub named : (get_or platform.switches place no_switch).id ≡ id
  pub same : end ≡ record { node = 1 + place; output = 0 }

pub record IsUpFromFunction (platform : Platform) (id place : ℕ) (end : LinkEnd) : Type 0 where
  pub within : place < length platform.functions
  pub named : (get_or platform.functions place no_function).id ≡ id
  pub same : end ≡ record { node = 1 + length platform.switches + place; output = 0 }

-- packets are sent up from a switch or a function, by its output 0
abbrev pub IsSentUp : Platform → ℕ → LinkEnd → Type 0
IsSentUp platform id end = ((place : ℕ) × IsUpFromSwitch platform id place end) ⊎ ((place : ℕ) × IsUpFromFunction platform id place end)

pub sent_up : (platform : Platform) (id : ℕ) → is_taken platform.switches platform.functions id ≡ true → IsSentUp platform id (upstream_end platform id)
sent_up platform id taken = go (position (λ switch. switch.id == id) platform.switches) refl
  where
    of_function : (place : Option ℕ) → place ≡ position (λ function. function.id == id) platform.functions → position (λ switch. switch.id == id) platform.switches ≡ None
        → IsSentUp platform id (function_end (length platform.switches) place)
    of_function None e none = absurd (id_known platform id taken none (sym e))
    of_function (Some place) e none =
        let facts = position-Some (λ function. function.id == id) platform.functions place no_function (sym e) in
        inr (place, record { within = facts.0; named = eqb-true _ _ facts.1; same = refl })

    go : (place : Option ℕ) → place ≡ position (λ switch. switch.id == id) platform.switches → IsSentUp platform id (upstream_end_at platform id place)
    go None e = of_function (position (λ function. function.id == id) platform.functions) refl (sym e)
    go (Some place) e =
        let facts = position-Some (λ switch. switch.id == id) platform.switches place no_switch (sym e) in
        inl (place, record { within = facts.0; named = eqb-true _ _ facts.1; same = refl })

nodes : (one other : LinkEnd) → one ≡ other → one.node ≡ other.node
nodes one other e = ap (λ (end : LinkEnd). end.node) e

outputs : (one other : LinkEnd) → one ≡ other → one.output ≡ other.output
outputs one other e = ap (λ (end : LinkEnd). end.output) e

pub up_apart : (platform : Platform) (one other : ℕ) (end : LinkEnd) → IsSentUp platform one end → IsSentUp platform other end → one ≡ other
up_apart platform one other end (inl (place, is)) (inl (again, also)) =
    let node = nodes _ _ (sym is.same ∙ also.same) in
    let same : place ≡ again = omega (arith, node) in
    sym is.named ∙ ap (λ (n : ℕ). (get_or platform.switches n no_switch).id) same ∙ also.named
up_apart platform one other end (inl (place, is)) (inr (again, also)) = let node = nodes _ _ (sym is.same ∙ also.same) in let within = is.within in absurd (omega (arith, node, within))
up_apart platform one other end (inr (place, is)) (inl (again, also)) = let node = nodes _ _ (sym is.same ∙ also.same) in let within = also.within in absurd (omega (arith, node, within))
up_apart platform one other end (inr (place, is)) (inr (again, also)) =
    let node = nodes _ _ (sym is.same ∙ also.same) in
    let same : place ≡ again = omega (arith, node) in
    sym is.named ∙ ap (λ (n : ℕ). (get_or platform.functions n no_function).id) same ∙ also.named

-- ---- down

-- the output that leads down out of a port
pub record IsOutputDown (platform : Platform) (port : DownstreamPort) (place output : ℕ) : Type 0 where
  pub within : place < length platform.switches
  pub bus : internal_bus (get_or platform.switches place no_switch) ≡ bus_of port.id
  pub at : position (λ other. other.id == port.id) (ports_on platform.ports (bus_of port.id)) ≡ Some output
  pub end : downstream_end platform port ≡ record { node = 1 + place; output = suc output }

module _ (platform : Platform) (laws : IsPlatform platform) where
  pub output_down : (port : DownstreamPort) → Contains platform.ports port → (place : ℕ) × (output : ℕ) × IsOutputDown platform port place output
  output_down port within = on_switch (position (λ switch. internal_bus switch == bus_of port.id) platform.switches) refl
    where
      on_output : (place : ℕ) (output : Option ℕ) → position (λ switch. internal_bus switch == bus_of port.id) platform.switches ≡ Some place → output ≡ position (λ other. other.id == port.id) (ports_on platform.ports (bus_of port.id))
          → (place : ℕ) × (output : ℕ) × IsOutputDown platform port place output
      on_output place None at e = absurd (place_known platform.ports port within (sym e))
      on_output place (Some output) at e =
          let on = switch_found platform port place at in (
            place,
            output,
            record {
              within = on.0;
              bus = on.1;
              at = sym e;
              end = ap (end_of_port platform.ports port) at ∙ ap (λ (o : Option ℕ). record { node = 1 + place; output = option_map_or suc o 0 }) (sym e);
            },
          )

      on_switch : (place : Option ℕ) → place ≡ position (λ switch. internal_bus switch == bus_of port.id) platform.switches → (place : ℕ) × (output : ℕ) × IsOutputDown platform port place output
      on_switch None e = absurd (switch_known platform port laws within (sym e))
      on_switch (Some place) e = on_output place (position (λ other. other.id == port.id) (ports_on platform.ports (bus_of port.id))) (sym e) refl

  -- ports are known by their IDs
  pub one_id : (one other : DownstreamPort) → Contains platform.ports one → Contains platform.ports other → one.id ≡ other.id → one ≡ other
  one_id one other one_listed other_listed same = go (paired are_apart platform.ports one other laws.apart one_listed other_listed)
    where
      differ : (a b : ℕ) → a ≡ b → not (a == b) ≡ true → ⊥
      differ a b e h = let equal : (a == b) ≡ true = eq-eqb a b e in absurd cc

      go : (one ≡ other) ⊎ ((are_apart one other ≡ true) ⊎ (are_apart other one ≡ true)) → one ≡ other
      go (inl is) = is
      go (inr (inl apart)) = absurd (differ one.id other.id same (and-first _ _ (and-first _ _ apart)))
      go (inr (inr apart)) = absurd (differ other.id one.id (sym same) (and-first _ _ (and-first _ _ apart)))

  pub down_apart : (one other : DownstreamPort) → Contains platform.ports one → Contains platform.ports other → downstream_end platform one ≡ downstream_end platform other → one ≡ other
  down_apart one other one_listed other_listed same = go (output_down one one_listed) (output_down other other_listed)
    where
      by_output : (place output again second : ℕ) → IsOutputDown platform one place output → IsOutputDown platform other again second → place ≡ again → output ≡ second → one ≡ other
      by_output place output again second is also place_is output_is =
          let bus : bus_of one.id ≡ bus_of other.id = sym is.bus ∙ ap (λ (n : ℕ). internal_bus (get_or platform.switches n no_switch)) place_is ∙ also.bus in
          let first = position-Some (λ port. port.id == one.id) (ports_on platform.ports (bus_of one.id)) output one is.at in
          let last = position-Some (λ port. port.id == other.id) (ports_on platform.ports (bus_of other.id)) second one also.at in
          let equal : get_or (ports_on platform.ports (bus_of one.id)) output one ≡ get_or (ports_on platform.ports (bus_of other.id)) second one
          = ap (λ (n : ℕ). get_or (ports_on platform.ports n) output one) bus ∙ ap (λ (n : ℕ). get_or (ports_on platform.ports (bus_of other.id)) n one) output_is in
          one_id one other one_listed other_listed (sym (eqb-true _ _ first.1) ∙ ap (λ (p : DownstreamPort). p.id) equal ∙ eqb-true _ _ last.1)

      go : (place : ℕ) × (output : ℕ) × IsOutputDown platform one place output → (place : ℕ) × (output : ℕ) × IsOutputDown platform other place output → one ≡ other
      go (place, output, is) (again, second, also) =
          let ends = sym is.end ∙ same ∙ also.end in
          let node = nodes _ _ ends in
          let output_is = outputs _ _ ends in
          by_output place output again second is also (omega (arith, node)) (omega (arith, output_is))

  -- ---- both

  up_down : (id : ℕ) (port : DownstreamPort) (end : LinkEnd) → IsSentUp platform id end → Contains platform.ports port → end ≡ downstream_end platform port → ⊥
  up_down id port end up listed e = go up (output_down port listed)
    where
      go : IsSentUp platform id end → (place : ℕ) × (output : ℕ) × IsOutputDown platform port place output → ⊥
      go (inl (place, is)) (again, output, down) = let output_is = outputs _ _ (sym is.same ∙ e ∙ down.end) in omega (arith, output_is)
      go (inr (place, is)) (again, output, down) = let output_is = outputs _ _ (sym is.same ∙ e ∙ down.end) in omega (arith, output_is)

  up_root : (id : ℕ) (end : LinkEnd) → IsSentUp platform id end → end ≡ root_end → ⊥
  up_root id end (inl (place, is)) e = let node = nodes _ _ (sym is.same ∙ e) in omega (arith, node)
  up_root id end (inr (place, is)) e = let node = nodes _ _ (sym is.same ∙ e) in omega (arith, node)

  down_root : (port : DownstreamPort) → Contains platform.ports port → downstream_end platform port ≡ root_end → ⊥
  down_root port listed e = let down = output_down port listed in let node = nodes _ _ (sym down.2.end ∙ e) in omega (arith, node)

  up_and_down : (up down : ℕ) (end : LinkEnd) → IsSentUp platform up end → IsSentDown platform down end → ⊥
  up_and_down up down end is (inl (top, root)) = up_root up end is root
  up_and_down up down end is (inr (port, listed, below, from)) = up_down up port end is listed from

  both_down : (one other : ℕ) (end : LinkEnd) → IsSentDown platform one end → IsSentDown platform other end → one ≡ other
  both_down one other end (inl (top, root)) (inl (other_top, other_root)) = top ∙ sym other_top
  both_down one other end (inl (top, root)) (inr (port, listed, below, from)) = absurd (down_root port listed (sym from ∙ root))
  both_down one other end (inr (port, listed, below, from)) (inl (top, root)) = absurd (down_root port listed (sym from ∙ root))
  both_down one other end (inr (port, listed, below, from)) (inr (again, again_listed, again_below, again_from)) =
      below ∙ ap (λ (p : DownstreamPort). id_below p) (down_apart port again listed again_listed (sym from ∙ again_from)) ∙ sym again_below

  pub ends_apart : (one other : Link) (way back : Way) → Contains (links_of platform) one → Contains (links_of platform) other → sending_end way one ≡ sending_end back other → (one.lower ≡ other.lower) × (way ≡ back)
  ends_apart one other way back one_listed other_listed = go way back (link_is platform laws one one_listed) (link_is platform laws other other_listed)
    where
      sends : (link : Link) → IsLinkOf platform link → IsSentUp platform link.lower link.below
      sends link is = subst (λ (e : LinkEnd). IsSentUp platform link.lower e) (sym is.below) (sent_up platform link.lower is.taken)

      go : (way back : Way) → IsLinkOf platform one → IsLinkOf platform other → sending_end way one ≡ sending_end back other → (one.lower ≡ other.lower) × (way ≡ back)
      go Up Up is also e = (up_apart platform one.lower other.lower other.below (subst (λ (end : LinkEnd). IsSentUp platform one.lower end) e (sends one is)) (sends other also), refl)
      go Up Down is also e = absurd (up_and_down one.lower other.lower other.above (subst (λ (end : LinkEnd). IsSentUp platform one.lower end) e (sends one is)) also.above)
      go Down Up is also e = absurd (up_and_down other.lower one.lower other.below (sends other also) (subst (λ (end : LinkEnd). IsSentDown platform one.lower end) e is.above))
      go Down Down is also e = (both_down one.lower other.lower other.above (subst (λ (end : LinkEnd). IsSentDown platform one.lower end) e is.above) also.above, refl)

  -- ---- directions

  pub sender_link : (direction : Direction) (end : LinkEnd) → sender_of (links_of platform) direction ≡ Some end → (link : Link) × Contains (links_of platform) link × (link.lower ≡ direction.lower) × (sending_end direction.way link ≡ end)
  sender_link direction end e = go (link_at (links_of platform) direction.lower) refl e
    where
      go : (link : Option Link) → link ≡ link_at (links_of platform) direction.lower → option_map (sending_end direction.way) link ≡ Some end
          → (link : Link) × Contains (links_of platform) link × (link.lower ≡ direction.lower) × (sending_end direction.way link ≡ end)
      go None at e = absurd cc
      go (Some link) at e =
          let is = found (λ l. l.lower == direction.lower) (links_of platform) link (sym at) in
          (link, is.0, eqb-true _ _ is.1, same_Some _ _ e)

  same_direction : (one other : Direction) → one.lower ≡ other.lower → one.way ≡ other.way → one ≡ other
  same_direction one other lower way =
      ap (λ (n : ℕ). record { lower = n; way = one.way }) lower ∙ ap (λ (w : Way). record { lower = other.lower; way = w }) way

  pub directions_apart : (one other : Direction) (end : LinkEnd) → sender_of (links_of platform) one ≡ Some end → sender_of (links_of platform) other ≡ Some end → one ≡ other
  directions_apart one other end e h =
      let from = sender_link one end e in
      let again = sender_link other end h in
      let same = ends_apart from.0 again.0 one.way other.way from.1 again.1 (from.3 ∙ sym again.3) in
      same_direction one other (sym from.2 ∙ same.0 ∙ again.2) same.1

  -- from the output of a port, packets are sent down to what stands below it
  pub down_alone : (port : DownstreamPort) (direction : Direction) → Contains platform.ports port → sender_of (links_of platform) direction ≡ Some (downstream_end platform port) → direction ≡ record { lower = id_below port; way = Down }
  down_alone port direction listed e =
      let from = sender_link direction (downstream_end platform port) e in
      let is = link_is platform laws from.0 from.1 in
      let at = go from.0 direction.way is from.3 in
      same_direction direction (record { lower = id_below port; way = Down }) (sym from.2 ∙ at.0) at.1
    where
      go : (link : Link) (way : Way) → IsLinkOf platform link → sending_end way link ≡ downstream_end platform port → (link.lower ≡ id_below port) × (way ≡ Down)
      go link Up is at = absurd (up_down link.lower port link.below (subst (λ (end : LinkEnd). IsSentUp platform link.lower end) (sym is.below) (sent_up platform link.lower is.taken)) listed at)
      go link Down is at = (both_down link.lower (id_below port) link.above is.above (inr (port, listed, refl, at)), refl)
