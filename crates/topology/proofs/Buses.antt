-- The buses below the ports of a platform: the ports below which a bus stands are each above the next, and so a
-- port is known by the first bus below it.
use Rattle.std.proofs.Common.{◌≡◌, ℕ, zero, suc, ◌+◌, ◌*◌, ◌/◌, ◌<◌, ◌≤◌, ◌==◌, ◌⊎◌, inl, inr, Bool, true, false, List, Option, Some, None, refl, sym, ap, ◌∙◌, arith, subst, eqb-true, eq-eqb, le-leb}
use Rattle.std.specs.Prelude.{◌&&◌, not, nat_le, Contains, option_and_then}
use Rattle.std.proofs.lemmas.Bool.{cases_lt, leb-true, ltb-true}
use Rattle.fab_types.specs.Id.{bus_of}
use Rattle.platform.specs.declared.parts.Switch.{Switch}
use Rattle.platform.specs.declared.parts.DownstreamPort.{DownstreamPort}
use Rattle.layout.specs.Laws.{IsPlatform, are_apart, is_hung, is_hung_below, is_hung_by, is_inside, is_nested, is_nested_on}
use Rattle.platform.specs.Platform.{Platform}
use Rattle.platform.specs.Tree.{is_on_bus}
use Rattle.platform.specs.Tree.{id_below, internal_bus, port_above, port_at, switch_on}
use Rattle.platform.proofs.Bools.{and-both, and-first, and-second}
use Rattle.topology.proofs.Members.{found, paired, passes}

-- ---- switches

-- this port is directly above the switch
pub record IsAbove (ports : List DownstreamPort) (switch : Switch) (port : DownstreamPort) : Type 0 where
  pub listed : Contains ports port
  pub below : switch.id ≡ id_below port
  pub wide : port.secondary < port.subordinate
  pub found : port_above ports switch ≡ Some port

pub record IsTop (ports : List DownstreamPort) (switch : Switch) : Type 0 where
  pub id : switch.id ≡ 256
  pub found : port_above ports switch ≡ None

above_port : (ports : List DownstreamPort) (switch : Switch) (id : ℕ) (port : Option DownstreamPort) → port ≡ port_at ports id → is_hung_below port switch ≡ true → option_and_then (λ n. port_at ports n) (Some id) ≡ port_above ports switch
    → (above : DownstreamPort) × IsAbove ports switch above
above_port ports switch id None e h same = absurd cc
above_port ports switch id (Some port) e h same = (
  port,
  record {
    listed = (found (λ p. p.id == id) ports port (sym e)).0;
    below = eqb-true _ _ (and-first _ _ h);
    wide = ltb-true _ _ (and-second _ _ h);
    found = sym same ∙ sym e;
  },
)

hung_cases : (ports : List DownstreamPort) (switch : Switch) (above : Option ℕ) → is_hung_by ports above switch ≡ true → option_and_then (λ n. port_at ports n) above ≡ port_above ports switch
    → IsTop ports switch ⊎ ((port : DownstreamPort) × IsAbove ports switch port)
hung_cases ports switch None h same = inl (record { id = eqb-true _ _ h; found = sym same })
hung_cases ports switch (Some id) h same = inr (above_port ports switch id (port_at ports id) refl h same)

-- ---- ports

-- a port stands on the internal bus of a switch
pub record StandsOn (platform : Platform) (port : DownstreamPort) (switch : Switch) : Type 0 where
  pub listed : Contains platform.switches switch
  pub bus : internal_bus switch ≡ bus_of port.id
  pub rising : port.secondary ≤ port.subordinate
  pub inside : is_inside (port_above platform.ports switch) port ≡ true

stands_on : (platform : Platform) (port : DownstreamPort) (switch : Option Switch) → switch ≡ switch_on platform.switches (bus_of port.id) → is_nested_on platform.ports switch port ≡ true
    → (on : Switch) × StandsOn platform port on
stands_on platform port None e h = absurd cc
stands_on platform port (Some switch) e h =
    let at = found (λ s. internal_bus s == bus_of port.id) platform.switches switch (sym e) in (
      switch,
      record {
        listed = at.0;
        bus = eqb-true _ _ at.1;
        rising = leb-true _ _ (and-first _ _ (and-first _ _ h));
        inside = and-second _ _ h;
      },
    )

-- a port's buses, and those of the port above its switch
pub record HasBuses (port : DownstreamPort) : Type 0 where
  pub own : 2 ≤ bus_of port.id
  pub after : bus_of port.id < port.secondary
  pub rising : port.secondary ≤ port.subordinate

pub record IsWithin (above port : DownstreamPort) : Type 0 where
  pub bus : above.secondary + 1 ≡ bus_of port.id
  pub last : port.subordinate ≤ above.subordinate

inside_after : (above : Option DownstreamPort) (port : DownstreamPort) → is_inside above port ≡ true → bus_of port.id < port.secondary
inside_after None port h = ltb-true _ _ h
inside_after (Some above) port h = ltb-true _ _ (and-first _ _ (and-first _ _ (and-first _ _ h)))

inside_last : (above port : DownstreamPort) → is_inside (Some above) port ≡ true → port.subordinate ≤ above.subordinate
inside_last above port h = leb-true _ _ (and-second _ _ (and-first _ _ (and-first _ _ h)))

-- the bus of the port directly above a switch, and the first bus of its ports
internal_below : (id secondary : ℕ) → id ≡ secondary * 256 + 0 * 8 + 0 → id / 256 + 1 ≡ secondary + 1
internal_below id secondary e = omega (arith, e)

module _ (platform : Platform) (laws : IsPlatform platform) where
  pub switch_above : (switch : Switch) → Contains platform.switches switch → IsTop platform.ports switch ⊎ ((port : DownstreamPort) × IsAbove platform.ports switch port)
  switch_above switch within = hung_cases platform.ports switch switch.above (passes (is_hung platform.ports) platform.switches switch laws.hung within) refl

  pub port_stands : (port : DownstreamPort) → Contains platform.ports port → (switch : Switch) × StandsOn platform port switch
  port_stands port within = stands_on platform port (switch_on platform.switches (bus_of port.id)) refl (passes (is_nested platform.switches platform.ports) platform.ports port laws.nested within)

  after : (port : DownstreamPort) → Contains platform.ports port → bus_of port.id < port.secondary
  after port within = let on = port_stands port within in inside_after (port_above platform.ports on.0) port on.1.inside

  -- the top switch has its ports on bus 2
  pub above_bus : (port : DownstreamPort) → Contains platform.ports port → (bus_of port.id ≡ 2) ⊎ ((above : DownstreamPort) × Contains platform.ports above × IsWithin above port)
  above_bus port within = go (port_stands port within)
    where
      of_switch : (switch : Switch) → StandsOn platform port switch → IsTop platform.ports switch ⊎ ((above : DownstreamPort) × IsAbove platform.ports switch above)
          → (bus_of port.id ≡ 2) ⊎ ((above : DownstreamPort) × Contains platform.ports above × IsWithin above port)
      of_switch switch on (inl top) = inl (let bus = on.bus in let id = top.id in omega (arith, bus, id))
      of_switch switch on (inr (above, is)) = inr (
        above,
        is.listed,
        record {
          bus = sym (internal_below switch.id above.secondary is.below) ∙ on.bus;
          last = inside_last above port (subst (λ (o : Option DownstreamPort). is_inside o port ≡ true) is.found on.inside);
        },
      )

      go : (switch : Switch) × StandsOn platform port switch → (bus_of port.id ≡ 2) ⊎ ((above : DownstreamPort) × Contains platform.ports above × IsWithin above port)
      go (switch, on) = of_switch switch on (switch_above switch on.listed)

  pub buses : (port : DownstreamPort) → Contains platform.ports port → HasBuses port
  buses port within = record { own = own (above_bus port within); after = after port within; rising = (port_stands port within).1.rising }
    where
      own : (bus_of port.id ≡ 2) ⊎ ((above : DownstreamPort) × Contains platform.ports above × IsWithin above port) → 2 ≤ bus_of port.id
      own (inl two) = omega arith
      own (inr (above, listed, is)) = let later = after above listed in let bus = is.bus in omega (arith, later, bus)

-- ---- two ports

pub record Holds (bus : ℕ) (port : DownstreamPort) : Type 0 where
  pub first : port.secondary ≤ bus
  pub last : bus ≤ port.subordinate

-- one port, or the buses of the one are all below the other
abbrev pub AreNested : DownstreamPort → DownstreamPort → Type 0
AreNested one other = (one ≡ other) ⊎ ((other.secondary < bus_of one.id) ⊎ (one.secondary < bus_of other.id))

other_way : (one other : DownstreamPort) → AreNested one other → AreNested other one
other_way one other (inl same) = inl (sym same)
other_way one other (inr (inl below)) = inr (inr below)
other_way one other (inr (inr below)) = inr (inl below)

apart_meet : (one other : DownstreamPort) (bus : ℕ) → are_apart one other ≡ true → bus_of one.id ≡ bus_of other.id → Holds bus one → Holds bus other → ⊥
apart_meet one other bus apart same one_holds other_holds =
    let first = one_holds.first in
    let last = one_holds.last in
    let other_first = other_holds.first in
    let other_last = other_holds.last in
    let meet : (is_on_bus (bus_of other.id) one && nat_le one.secondary other.subordinate && nat_le other.secondary one.subordinate) ≡ true
    = and-both _ _ (and-both _ _ (eq-eqb _ _ same) (le-leb one.secondary other.subordinate (omega (arith, first, other_last)))) (le-leb other.secondary one.subordinate (omega (arith, other_first, last))) in
    clash _ meet (and-second _ _ (and-first _ _ apart))
  where
    clash : (b : Bool) → b ≡ true → not b ≡ true → ⊥
    clash true h k = absurd cc
    clash false h k = absurd cc

module _ (platform : Platform) (laws : IsPlatform platform) where
  one_bus : (one other : DownstreamPort) (bus : ℕ) → Contains platform.ports one → Contains platform.ports other → bus_of one.id ≡ bus_of other.id → Holds bus one → Holds bus other → one ≡ other
  one_bus one other bus one_listed other_listed same one_holds other_holds = go (paired are_apart platform.ports one other laws.apart one_listed other_listed)
    where
      go : (one ≡ other) ⊎ ((are_apart one other ≡ true) ⊎ (are_apart other one ≡ true)) → one ≡ other
      go (inl is) = is
      go (inr (inl apart)) = absurd (apart_meet one other bus apart same one_holds other_holds)
      go (inr (inr apart)) = absurd (apart_meet other one bus apart (sym same) other_holds one_holds)

  -- the port above the one with the greater bus is nearer to the other port
  nearer : (n bus : ℕ) (one other : DownstreamPort) → Contains platform.ports one → Contains platform.ports other → Holds bus other → bus_of one.id + bus_of other.id ≤ suc n → bus_of one.id < bus_of other.id
      → ((above : DownstreamPort) → Contains platform.ports above → bus_of one.id + bus_of above.id ≤ n → Holds bus above → AreNested one above) → AreNested one other
  nearer n bus one other one_listed other_listed holds few less ih = go (above_bus platform laws other other_listed)
    where
      by_above : (above : DownstreamPort) → IsWithin above other → bus_of above.id < above.secondary → AreNested one above → AreNested one other
      by_above above is later (inl same) = let bus = is.bus in let equal : one.secondary ≡ above.secondary = ap (λ (p : DownstreamPort). p.secondary) same in inr (inr (omega (arith, bus, equal)))
      by_above above is later (inr (inl below)) = let bus = is.bus in absurd (omega (arith, bus, below, less))
      by_above above is later (inr (inr below)) = let bus = is.bus in inr (inr (omega (arith, bus, below, later)))

      go : (bus_of other.id ≡ 2) ⊎ ((above : DownstreamPort) × Contains platform.ports above × IsWithin above other) → AreNested one other
      go (inl two) = let own = (buses platform laws one one_listed).own in absurd (omega (arith, two, own, less))
      go (inr (above, listed, is)) =
          let later = (buses platform laws above listed).after in
          let last = is.last in
          let bus_is = is.bus in
          let other_first = holds.first in
          let other_last = holds.last in
          let other_later = (buses platform laws other other_listed).after in
          by_above above is later (ih above listed (omega (arith, later, bus_is, few)) (record { first = omega (arith, bus_is, other_first, other_later); last = omega (arith, last, other_last) }))

  pub nested_ports : (n bus : ℕ) (one other : DownstreamPort) → Contains platform.ports one → Contains platform.ports other → bus_of one.id + bus_of other.id ≤ n → Holds bus one → Holds bus other → AreNested one other
  nested_ports zero bus one other one_listed other_listed few one_holds other_holds =
      let own = (buses platform laws one one_listed).own in
      absurd (omega (arith, own, few))
  nested_ports (suc n) bus one other one_listed other_listed few one_holds other_holds = go (cases_lt (bus_of one.id) (bus_of other.id)) (cases_lt (bus_of other.id) (bus_of one.id))
      (λ above listed fewer holds. nested_ports n bus one above one_listed listed fewer one_holds holds)
      (λ above listed fewer holds. nested_ports n bus other above other_listed listed fewer other_holds holds)
    where
      go : (bus_of one.id < bus_of other.id) ⊎ (bus_of other.id ≤ bus_of one.id) → (bus_of other.id < bus_of one.id) ⊎ (bus_of one.id ≤ bus_of other.id)
          → ((above : DownstreamPort) → Contains platform.ports above → bus_of one.id + bus_of above.id ≤ n → Holds bus above → AreNested one above)
          → ((above : DownstreamPort) → Contains platform.ports above → bus_of other.id + bus_of above.id ≤ n → Holds bus above → AreNested other above) → AreNested one other
      go (inl less) further ih back = nearer n bus one other one_listed other_listed other_holds few less ih
      go (inr not_less) (inl less) ih back = other_way other one (nearer n bus other one other_listed one_listed one_holds (omega (arith, few)) less back)
      go (inr not_less) (inr not_more) ih back = inl (one_bus one other bus one_listed other_listed (omega (arith, not_less, not_more)) one_holds other_holds)

  -- a port is known by the first bus below it
  pub one_port : (one other : DownstreamPort) → Contains platform.ports one → Contains platform.ports other → one.secondary ≡ other.secondary → one ≡ other
  one_port one other one_listed other_listed same =
      go (nested_ports (bus_of one.id + bus_of other.id) one.secondary one other one_listed other_listed (omega arith) (record { first = omega arith; last = ones.rising }) (record { first = omega (arith, same); last = omega (arith, same, others.rising) }))
    where
      ones : HasBuses one
      ones = buses platform laws one one_listed

      others : HasBuses other
      others = buses platform laws other other_listed

      go : AreNested one other → one ≡ other
      go (inl is) = is
      go (inr (inl below)) = let later = ones.after in absurd (omega (arith, later, below, same))
      go (inr (inr below)) = let later = others.after in absurd (omega (arith, later, below, same))

  pub one_below : (one other : DownstreamPort) → Contains platform.ports one → Contains platform.ports other → id_below one ≡ id_below other → one ≡ other
  one_below one other one_listed other_listed same = one_port one other one_listed other_listed (first_bus one.secondary other.secondary same)
    where
      first_bus : (a b : ℕ) → a * 256 + 0 * 8 + 0 ≡ b * 256 + 0 * 8 + 0 → a ≡ b
      first_bus a b e = omega (arith, e)
