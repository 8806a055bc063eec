-- What stands below the ports of a platform: an ID tells the port directly above it, and so its link.
use Rattle.std.proofs.Common.{◌≡◌, ℕ, ◌+◌, ◌*◌, ◌/◌, ◌<◌, ◌==◌, ◌⊎◌, inl, inr, Bool, true, false, List, map, Option, Some, None, refl, sym, ap, ◌∙◌, arith, subst, eqb-true, eq-eqb}
use Rattle.std.specs.Prelude.{◌||◌, Contains}
use Rattle.std.proofs.lemmas.List.Elements.{Contains-append_cases, Contains-append_left, Contains-append_right}
use Rattle.fab_types.specs.Id.{bus_of}
use Rattle.platform.specs.declared.parts.Switch.{Switch}
use Rattle.platform.specs.declared.parts.DownstreamPort.{DownstreamPort}
use Rattle.platform.specs.declared.parts.EndpointFunction.{EndpointFunction}
use Rattle.layout.specs.Laws.{IsPlatform, is_placed, is_placed_below}
use Rattle.platform.specs.Owners.{is_function}
use Rattle.platform.specs.Platform.{Platform}
use Rattle.platform.specs.Tree.{id_below, is_switch, is_taken, port_above, port_leading_to}
use Rattle.topology.specs.declared.links.Link.{Link}
use Rattle.topology.specs.declared.nodes.LinkEnd.{LinkEnd}
use Rattle.topology.specs.Links.{end_above, link_at, link_of_function, link_of_switch, links_of}
use Rattle.topology.specs.Nodes.{downstream_end, root_end, upstream_end}
use Rattle.topology.proofs.Buses.{AreNested, IsAbove, IsTop, IsWithin, above_bus, buses, nested_ports, one_below, switch_above}
use Rattle.topology.proofs.Members.{found, found_alone, mapped, mapped_from, passes, passing, some_passes}

-- ---- IDs of switches

switch_bus : (id secondary : ℕ) → id ≡ secondary * 256 + 0 * 8 + 0 → id / 256 ≡ secondary
switch_bus id secondary e = omega (arith, e)

below_bus : (id secondary : ℕ) → id ≡ secondary * 256 + 0 * 8 + 0 → id ≡ id / 256 * 256
below_bus id secondary e = omega (arith, e)

module _ (platform : Platform) (laws : IsPlatform platform) where
  -- the upstream port of a switch is the first ID of its bus
  pub switch_id : (switch : Switch) → Contains platform.switches switch → switch.id ≡ bus_of switch.id * 256
  switch_id switch within = go (switch_above platform laws switch within)
    where
      go : IsTop platform.ports switch ⊎ ((port : DownstreamPort) × IsAbove platform.ports switch port) → switch.id ≡ bus_of switch.id * 256
      go (inl top) = let id = top.id in omega (arith, id)
      go (inr (port, is)) = below_bus switch.id port.secondary is.below

  -- nothing stands on bus 1 but the top switch
  pub not_top : (port : DownstreamPort) → Contains platform.ports port → 256 ≡ id_below port → ⊥
  not_top port within e = let has = buses platform laws port within in let own = has.own in let after = has.after in omega (arith, own, after, e)

  -- no upstream port has the ID of a downstream port
  pub ids_apart : (switch : Switch) (port : DownstreamPort) → Contains platform.switches switch → Contains platform.ports port → switch.id ≡ port.id → ⊥
  ids_apart switch port switch_listed port_listed same = go (switch_above platform laws switch switch_listed) (above_bus platform laws port port_listed)
    where
      -- the port above the switch and the one above the port's own would share the bus of both
      both : (over above : DownstreamPort) → IsAbove platform.ports switch over → Contains platform.ports above → IsWithin above port → ⊥
      both over above is listed within =
          let upper = buses platform laws over is.listed in
          let upper_after = upper.after in
          let upper_rising = upper.rising in
          let above_after = (buses platform laws above listed).after in
          let has = buses platform laws port port_listed in
          let after = has.after in
          let rising = has.rising in
          let bus = within.bus in
          let last = within.last in
          let switch_on = switch_bus switch.id over.secondary is.below in
          let first : over.secondary ≡ bus_of port.id = sym switch_on ∙ ap bus_of same in
          by_nesting (nested_ports platform laws (bus_of over.id + bus_of above.id) (bus_of port.id) over above is.listed listed (omega arith)
          (record { first = omega (arith, first); last = omega (arith, first, upper_rising) }) (record { first = omega (arith, bus); last = omega (arith, last, after, rising) })) upper_after above_after bus first
        where
          by_nesting : AreNested over above → bus_of over.id < over.secondary → bus_of above.id < above.secondary → above.secondary + 1 ≡ bus_of port.id → over.secondary ≡ bus_of port.id → ⊥
          by_nesting (inl one) upper_after above_after bus first = let equal : over.secondary ≡ above.secondary = ap (λ (p : DownstreamPort). p.secondary) one in omega (arith, equal, bus, first)
          by_nesting (inr (inl below)) upper_after above_after bus first = omega (arith, below, upper_after, bus, first)
          by_nesting (inr (inr below)) upper_after above_after bus first = omega (arith, below, above_after, bus, first)

      go : IsTop platform.ports switch ⊎ ((over : DownstreamPort) × IsAbove platform.ports switch over) → (bus_of port.id ≡ 2) ⊎ ((above : DownstreamPort) × Contains platform.ports above × IsWithin above port) → ⊥
      go (inl top) bus = let id = top.id in let own = (buses platform laws port port_listed).own in omega (arith, id, own, same)
      go (inr (over, is)) (inl two) =
          let has = buses platform laws over is.listed in
          let own = has.own in
          let after = has.after in
          let bus = switch_bus switch.id over.secondary is.below in
          omega (arith, own, after, bus, two, same)
      go (inr (over, is)) (inr (above, listed, within)) = both over above is listed within

-- ---- links

-- packets are sent down to the top switch from the root port, and to all else from the port directly above
abbrev pub IsSentDown : Platform → ℕ → LinkEnd → Type 0
IsSentDown platform id end = ((id ≡ 256) × (end ≡ root_end)) ⊎ ((port : DownstreamPort) × Contains platform.ports port × (id ≡ id_below port) × (end ≡ downstream_end platform port))

pub record IsLinkOf (platform : Platform) (link : Link) : Type 0 where
  pub taken : is_taken platform.switches platform.functions link.lower ≡ true
  pub below : link.below ≡ upstream_end platform link.lower
  pub above : IsSentDown platform link.lower link.above

pub or_left : (a b : Bool) → a ≡ true → (a || b) ≡ true
or_left true b h = refl
or_left false b h = absurd cc

pub or_right : (a b : Bool) → b ≡ true → (a || b) ≡ true
or_right true b h = refl
or_right false b h = h

or_cases : (a b : Bool) → (a || b) ≡ true → (a ≡ true) ⊎ (b ≡ true)
or_cases true b h = inl refl
or_cases false b h = inr h

same_link : (one other : Link) → one.lower ≡ other.lower → one.above ≡ other.above → one.below ≡ other.below → one ≡ other
same_link one other lower above below =
    ap (λ (n : ℕ). record { lower = n; above = one.above; below = one.below }) lower
    ∙ ap (λ (e : LinkEnd). record { lower = other.lower; above = e; below = one.below }) above
    ∙ ap (λ (e : LinkEnd). record { lower = other.lower; above = other.above; below = e }) below

-- ---- links of functions

function_over : (ports : List DownstreamPort) (function : EndpointFunction) (port : Option DownstreamPort) → port ≡ port_leading_to ports function.id → is_placed_below port function ≡ true
    → (over : DownstreamPort) × Contains ports over × (function.id ≡ id_below over) × (port_leading_to ports function.id ≡ Some over)
function_over ports function None e h = absurd cc
function_over ports function (Some port) e h =
    let at = found (λ p. id_below p == function.id) ports port (sym e) in
    (port, at.0, sym (eqb-true _ _ at.1), sym e)

module _ (platform : Platform) (laws : IsPlatform platform) where
  switch_link : (switch : Switch) → Contains platform.switches switch → IsLinkOf platform (link_of_switch platform switch)
  switch_link switch within = record {
    taken = or_left _ _ (some_passes (λ s. s.id == switch.id) platform.switches switch within (eq-eqb switch.id switch.id refl));
    below = refl;
    above = go (switch_above platform laws switch within);
  }
    where
      go : IsTop platform.ports switch ⊎ ((port : DownstreamPort) × IsAbove platform.ports switch port) → IsSentDown platform switch.id (end_above platform (port_above platform.ports switch))
      go (inl top) = inl (top.id, ap (end_above platform) top.found)
      go (inr (port, is)) = inr (port, is.listed, is.below, ap (end_above platform) is.found)

  function_link : (function : EndpointFunction) → Contains platform.functions function → IsLinkOf platform (link_of_function platform function)
  function_link function within =
      let over = function_over platform.ports function (port_leading_to platform.ports function.id) refl (passes (is_placed platform.ports) platform.functions function laws.placed within) in
      record {
        taken = or_right _ _ (some_passes (λ f. f.id == function.id) platform.functions function within (eq-eqb function.id function.id refl));
        below = refl;
        above = inr (over.0, over.1, over.2, ap (end_above platform) over.3);
      }

  pub link_is : (link : Link) → Contains (links_of platform) link → IsLinkOf platform link
  link_is link within = go (Contains-append_cases (map (link_of_switch platform) platform.switches) (map (link_of_function platform) platform.functions) link within)
    where
      go : Contains (map (link_of_switch platform) platform.switches) link ⊎ Contains (map (link_of_function platform) platform.functions) link → IsLinkOf platform link
      go (inl listed) =
          let of = mapped_from (link_of_switch platform) platform.switches link listed in
          subst (λ (l : Link). IsLinkOf platform l) of.2 (switch_link of.0 of.1)
      go (inr listed) =
          let of = mapped_from (link_of_function platform) platform.functions link listed in
          subst (λ (l : Link). IsLinkOf platform l) of.2 (function_link of.0 of.1)

  -- packets are sent down to an ID from one end
  pub one_above : (id : ℕ) (one other : LinkEnd) → IsSentDown platform id one → IsSentDown platform id other → one ≡ other
  one_above id one other (inl (top, root)) (inl (other_top, other_root)) = root ∙ sym other_root
  one_above id one other (inl (top, root)) (inr (port, listed, below, is)) = absurd (not_top platform laws port listed (sym top ∙ below))
  one_above id one other (inr (port, listed, below, is)) (inl (top, root)) = absurd (not_top platform laws port listed (sym top ∙ below))
  one_above id one other (inr (port, listed, below, is)) (inr (again, again_listed, again_below, again_is)) =
      is ∙ ap (downstream_end platform) (one_below platform laws port again listed again_listed (sym below ∙ again_below)) ∙ sym again_is

  pub one_link : (one other : Link) → Contains (links_of platform) one → Contains (links_of platform) other → one.lower ≡ other.lower → one ≡ other
  one_link one other one_listed other_listed same =
      let is = link_is one one_listed in
      let other_is = link_is other other_listed in
      same_link one other same
      (one_above other.lower one.above other.above (subst (λ (n : ℕ). IsSentDown platform n one.above) same is.above) other_is.above)
      (is.below ∙ ap (upstream_end platform) same ∙ sym other_is.below)

  pub link_found : (link : Link) → Contains (links_of platform) link → link_at (links_of platform) link.lower ≡ Some link
  link_found link within =
      found_alone (λ l. l.lower == link.lower) (links_of platform) link within (eq-eqb link.lower link.lower refl)
      (λ other listed same. one_link other link listed within (eqb-true _ _ same))

-- ---- and back

pub link_of_listed : (platform : Platform) (switch : Switch) → Contains platform.switches switch → Contains (links_of platform) (link_of_switch platform switch)
link_of_listed platform switch within =
    Contains-append_left (map (link_of_switch platform) platform.switches) (map (link_of_function platform) platform.functions) (link_of_switch platform switch) (mapped (link_of_switch platform) platform.switches switch within)

link_of_any_switch : (platform : Platform) (id : ℕ) → is_switch platform.switches id ≡ true → (link : Link) × Contains (links_of platform) link × (link.lower ≡ id)
link_of_any_switch platform id h =
    let switch = passing (λ s. s.id == id) platform.switches h in
    (link_of_switch platform switch.0, link_of_listed platform switch.0 switch.1, eqb-true _ _ switch.2)

link_of_any_function : (platform : Platform) (id : ℕ) → is_function platform.functions id ≡ true → (link : Link) × Contains (links_of platform) link × (link.lower ≡ id)
link_of_any_function platform id h =
    let function = passing (λ f. f.id == id) platform.functions h in
    (link_of_function platform function.0, Contains-append_right (map (link_of_switch platform) platform.switches) (map (link_of_function platform) platform.functions) (link_of_function platform function.0) (mapped (link_of_function platform) platform.functions function.0 function.1), eqb-true _ _ function.2)

-- each switch and each function has a link
pub link_to : (platform : Platform) (id : ℕ) → is_taken platform.switches platform.functions id ≡ true → (link : Link) × Contains (links_of platform) link × (link.lower ≡ id)
link_to platform id h = go (or_cases _ _ h)
  where
    go : (is_switch platform.switches id ≡ true) ⊎ (is_function platform.functions id ≡ true) → (link : Link) × Contains (links_of platform) link × (link.lower ≡ id)
    go (inl switch) = link_of_any_switch platform id switch
    go (inr function) = link_of_any_function platform id function
