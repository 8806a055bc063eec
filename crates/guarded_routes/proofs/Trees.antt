-- The ports of a layout as a tree: what lies below what, and which ports hold a target.
use Rattle.std.proofs.Common.{◌≡◌, ℕ, ◌+◌, ◌<◌, ◌≤◌, ◌==◌, Bool, true, false, ◌&&◌, not, Option, Some, None, List, refl, sym, ap, ◌∙◌, subst, arith, option_and_then, nat_le, nat_lt}
use Rattle.std.specs.List.{find}
use Rattle.std.proofs.lemmas.Bool.{and_parts, leb-true, ltb-true, eqb-true, eq-eqb, false≢true}
use Rattle.fab_types.specs.Id.{bus_of, id_of}
use Rattle.platform.specs.declared.parts.DownstreamPort.{DownstreamPort}
use Rattle.platform.specs.declared.parts.Switch.{Switch}
use Rattle.layout.specs.Laws.{IsPlatform, are_apart, is_hung, is_hung_by, is_hung_below, is_inside, is_nested, is_nested_on}
use Rattle.platform.specs.Platform.{Platform}
use Rattle.platform.specs.Tree.{id_below, internal_bus, port_above, port_at, switch_on}
use Rattle.guarded_routes.proofs.Finds.{Clash, find_again, find_all, find_passes}

abbrev pub IsPort : Platform → DownstreamPort → Type 0
IsPort platform p = port_at platform.ports p.id ≡ Some p

abbrev pub above_if_any : List DownstreamPort → Option Switch → Option DownstreamPort
above_if_any ports None = None
above_if_any ports (Some switch) = port_above ports switch

-- the port above the switch that a port belongs to
unfoldable pub parent : Platform → DownstreamPort → Option DownstreamPort
parent platform p = above_if_any platform.ports (switch_on platform.switches (bus_of p.id))

-- the bus of the upstream port of a switch: below no port it is the top one
abbrev pub bus_under : Option DownstreamPort → ℕ
bus_under None = 1
bus_under (Some p) = p.secondary

pub record Inside (p a : DownstreamPort) : Type 0 where
  pub high : p.subordinate ≤ a.subordinate
  pub base : a.base ≤ p.base
  pub limit : p.limit ≤ a.limit
  pub owner : p.owner ≡ a.owner

pub record Stands (platform : Platform) (p : DownstreamPort) : Type 0 where
  pub bus : bus_of p.id ≡ bus_under (parent platform p) + 1
  pub after : bus_of p.id < p.secondary
  pub buses : p.secondary ≤ p.subordinate
  pub window : p.base < p.limit
  pub inside : (a : DownstreamPort) → parent platform p ≡ Some a → IsPort platform a × Inside p a

-- ---- where a port stands

pub hung_at : (ports : List DownstreamPort) (above : Option ℕ) (switch : Switch) (o : Option DownstreamPort) → is_hung_by ports above switch ≡ true → option_and_then (λ id. port_at ports id) above ≡ o → bus_of switch.id ≡ bus_under o
hung_at ports None switch None hung is = let e : switch.id ≡ id_of 1 0 0 = eqb-true switch.id (id_of 1 0 0) hung in omega (arith, e)
hung_at ports None switch (Some a) hung is = absurd cc
hung_at ports (Some id) switch o hung is = go (port_at ports id) hung is
  where
    go : (found : Option DownstreamPort) → is_hung_below found switch ≡ true → found ≡ o → bus_of switch.id ≡ bus_under o
    go None hung is = absurd (false≢true hung)
    go (Some a) hung is =
        let e : switch.id ≡ id_below a = eqb-true switch.id (id_below a) (and_parts (switch.id == id_below a) _ hung).0 in
        let under : bus_of switch.id ≡ a.secondary = omega (arith, e) in
        under ∙ ap bus_under is

pub port_again : (ports : List DownstreamPort) (id : ℕ) (a : DownstreamPort) → port_at ports id ≡ Some a → port_at ports a.id ≡ Some a
port_again ports id a is = subst (λ (n : ℕ). port_at ports n ≡ Some a) (sym (eqb-true a.id id (find_passes (λ (p : DownstreamPort). p.id == id) ports a is))) is

pub above_port : (ports : List DownstreamPort) (above : Option ℕ) (a : DownstreamPort) → option_and_then (λ id. port_at ports id) above ≡ Some a → port_at ports a.id ≡ Some a
above_port ports None a is = absurd cc
above_port ports (Some id) a is = port_again ports id a is

inside_of : (a p : DownstreamPort) → is_inside (Some a) p ≡ true → Inside p a
inside_of a p h =
    let owners = and_parts _ (p.owner == a.owner) h in
    let windows = and_parts _ (nat_le a.base p.base && nat_le p.limit a.limit) owners.0 in
    let buses = and_parts _ (nat_le p.subordinate a.subordinate) windows.0 in
    let ends = and_parts (nat_le a.base p.base) (nat_le p.limit a.limit) windows.1 in
    record {
      high = leb-true p.subordinate a.subordinate buses.1;
      base = leb-true a.base p.base ends.0;
      limit = leb-true p.limit a.limit ends.1;
      owner = eqb-true p.owner a.owner owners.1;
    }

inside_after : (o : Option DownstreamPort) (p : DownstreamPort) → is_inside o p ≡ true → bus_of p.id < p.secondary
inside_after None p h = ltb-true _ _ h
inside_after (Some a) p h = ltb-true _ _ (and_parts _ _ (and_parts _ _ (and_parts _ _ h).0).0).0

module _ (platform : Platform) (laws : IsPlatform platform) where
  stands_on : (p : DownstreamPort) (switch : Switch) → switch_on platform.switches (bus_of p.id) ≡ Some switch → is_nested_on platform.ports (Some switch) p ≡ true → Stands platform p
  unfolding parent
  stands_on p switch on nested =
      let hung : is_hung platform.ports switch ≡ true = find_all (λ (s : Switch). internal_bus s == bus_of p.id) (is_hung platform.ports) platform.switches switch on laws.hung in
      let same : internal_bus switch ≡ bus_of p.id = eqb-true (internal_bus switch) (bus_of p.id) (find_passes (λ (s : Switch). internal_bus s == bus_of p.id) platform.switches switch on) in
      let is : parent platform p ≡ port_above platform.ports switch = ap (above_if_any platform.ports) on in
      let at : bus_of switch.id ≡ bus_under (parent platform p) = hung_at platform.ports switch.above switch (parent platform p) hung (sym is) in
      let both = and_parts _ (is_inside (port_above platform.ports switch) p) nested in
      let ends = and_parts (nat_le p.secondary p.subordinate) (nat_lt p.base p.limit) both.0 in
      record {
        bus = sym same ∙ ap (λ (n : ℕ). n + 1) at;
        after = inside_after (port_above platform.ports switch) p both.1;
        buses = leb-true p.secondary p.subordinate ends.0;
        window = ltb-true p.base p.limit ends.1;
        inside = λ a e. (above_port platform.ports switch.above a (sym is ∙ e), inside_of a p (subst (λ (o : Option DownstreamPort). is_inside o p ≡ true) (sym is ∙ e) both.1));
      }

  pub switch_of : (p : DownstreamPort) → IsPort platform p → (switch : Switch) × (switch_on platform.switches (bus_of p.id) ≡ Some switch) × (is_nested_on platform.ports (Some switch) p ≡ true)
  switch_of p port = go (switch_on platform.switches (bus_of p.id)) refl (find_all (λ (q : DownstreamPort). q.id == p.id) (is_nested platform.switches platform.ports) platform.ports p port laws.nested)
    where
      go : (o : Option Switch) → switch_on platform.switches (bus_of p.id) ≡ o → is_nested_on platform.ports o p ≡ true → (switch : Switch) × (switch_on platform.switches (bus_of p.id) ≡ Some switch) × (is_nested_on platform.ports (Some switch) p ≡ true)
      go None on nested = absurd (false≢true nested)
      go (Some switch) on nested = (switch, on, nested)

  pub stands : (p : DownstreamPort) → IsPort platform p → Stands platform p
  stands p port = let s = switch_of p port in stands_on p s.0 s.1 s.2

  -- a port that a search finds
  pub is_port : (test : DownstreamPort → Bool) (p : DownstreamPort) → find test platform.ports ≡ Some p → IsPort platform p
  is_port test p found = find_again are_apart (λ (q : DownstreamPort). q.id == p.id) test platform.ports p laws.apart clash found (eq-eqb p.id p.id refl)
    where
      clash : Clash are_apart (λ (q : DownstreamPort). q.id == p.id)
      clash one other apart here there =
          let apart' = and_parts _ _ (and_parts _ _ apart).0 in
          let same : (one.id == other.id) ≡ true = eq-eqb one.id other.id (eqb-true one.id p.id here ∙ sym (eqb-true other.id p.id there)) in
          not_both (one.id == other.id) apart'.0 same
        where
          not_both : (b : Bool) → not b ≡ true → b ≡ true → ⊥
          not_both true h k = false≢true h
          not_both false h k = false≢true k
