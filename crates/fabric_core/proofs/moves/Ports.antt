-- Where a port sends a packet on, fewer switches are ahead of it: further down on higher buses, further up on lower ones, and from
-- any way up it may turn down.
use Rattle.std.proofs.Common.{◌≡◌, ℕ, ◌+◌, ◌*◌, ◌/◌, ◌<◌, ◌≤◌, ◌==◌, inl, inr, Bool, true, false, List, length, Some, refl, sym, ap, ◌∙◌, subst, arith, le-leb, lt-ltb}
use Rattle.std.specs.Prelude.{Contains, count_by, nat_le, nat_lt}
use Rattle.std.proofs.lemmas.Bool.{leb-true, ltb-true}
use Rattle.std.proofs.lemmas.List.Sums.{count_by-le-length}
use Rattle.fab_types.specs.Id.{bus_of}
use Rattle.fab_types.specs.declared.head.Head.{Head}
use Rattle.fab_types.specs.declared.place.Direction.{Direction}
use Rattle.fab_types.specs.declared.place.Way.{Way}
use Rattle.fab_types.specs.declared.place.Way.TheVariants.{Up, Down}
use Rattle.bridge.specs.Bridges.{Routes}
use Rattle.platform.specs.declared.parts.DownstreamPort.{DownstreamPort}
use Rattle.platform.specs.declared.parts.Switch.{Switch}
use Rattle.layout.specs.Laws.{IsPlatform}
use Rattle.platform.specs.Platform.{Platform}
use Rattle.platform.specs.Tree.{id_below, internal_bus}
use Rattle.port.specs.Configs.{Config, downstream_config, exits_of, lane_to, upstream_config}
use Rattle.port.specs.Courses.{course_of}
use Rattle.port.specs.declared.course.Forwarding.TheVariants.{To}
use Rattle.topology.specs.declared.nodes.LinkEnd.{LinkEnd}
use Rattle.topology.specs.declared.places.PortPlace.{PortPlace}
use Rattle.topology.specs.Links.{links_of, sender_of}
use Rattle.topology.specs.Nodes.{downstream_end, upstream_end}
use Rattle.topology.specs.Places.{downstream_place, upstream_place}
use Rattle.topology.proofs.Brought.{downstream_input, upstream_input}
use Rattle.topology.proofs.Buses.{StandsOn, buses, port_stands}
use Rattle.topology.proofs.Members.{found}
use Rattle.topology.proofs.Outputs.{own_node, switch_up}
use Rattle.fabric_core.specs.MovesLeft.{far, is_before, is_from, returns_on}
use Rattle.fabric_core.proofs.moves.Sums.{count_less}
use Rattle.fabric_core.proofs.progress.Leads.{Below, Leads, LeadsDown, below, downstream_leads, upstream_leads}
use Rattle.fabric_core.proofs.progress.Ports.{listed_switch}
use Rattle.fabric_core.proofs.soundness.Sites.{Standing}

-- less is ahead on the one direction than on the other
pub record IsNearer (switches : List Switch) (next direction : Direction) : Type 0 where
  pub far : far switches next < far switches direction
  pub returns : returns_on next.way ≤ returns_on direction.way

abbrev up : ℕ → Direction
up id = record { lower = id; way = Up }

abbrev down : ℕ → Direction
down id = record { lower = id; way = Down }

bus_below : (secondary : ℕ) → (secondary * 256 + 0 * 8 + 0) / 256 ≡ secondary
bus_below secondary = omega arith

-- ---- numbers of switches

above : (n m : ℕ) → n < m → nat_le m n ≡ false
above n m less = go (nat_le m n) refl
  where
    go : (b : Bool) → nat_le m n ≡ b → b ≡ false
    go true e = let within : m ≤ n = leb-true m n e in absurd (omega (arith, less, within))
    go false e = refl

not_below : (n : ℕ) → nat_lt n n ≡ false
not_below n = go (nat_lt n n) refl
  where
    go : (b : Bool) → nat_lt n n ≡ b → b ≡ false
    go true e = let less : n < n = ltb-true n n e in absurd (omega (arith, less))
    go false e = refl

module _ (switches : List Switch) (switch : Switch) (listed : Contains switches switch) where
  fewer_from : (bus : ℕ) → bus_of switch.id < bus → count_by (is_from bus) switches < count_by (is_from (bus_of switch.id)) switches
  fewer_from bus later =
      count_less (is_from bus) (is_from (bus_of switch.id))
      (λ other is. let there : bus ≤ bus_of other.id = leb-true bus (bus_of other.id) is in le-leb (bus_of switch.id) (bus_of other.id) (omega (arith, later, there)))
      switches switch listed (above (bus_of switch.id) bus later) (le-leb (bus_of switch.id) (bus_of switch.id) (omega arith))

  fewer_before : (bus : ℕ) → bus_of switch.id < bus → count_by (is_before (bus_of switch.id)) switches < count_by (is_before bus) switches
  fewer_before bus later =
      count_less (is_before (bus_of switch.id)) (is_before bus)
      (λ other is. let there : bus_of other.id < bus_of switch.id = ltb-true (bus_of other.id) (bus_of switch.id) is in lt-ltb (bus_of other.id) bus (omega (arith, later, there)))
      switches switch listed (not_below (bus_of switch.id)) (lt-ltb (bus_of switch.id) bus later)

  further_down : (id : ℕ) → bus_of switch.id < bus_of id → IsNearer switches (down id) (down switch.id)
  further_down id later = record { far = fewer_from (bus_of id) later; returns = omega arith }

  further_up : (id : ℕ) → bus_of switch.id < bus_of id → IsNearer switches (up switch.id) (up id)
  further_up id later = record { far = (let fewer = fewer_before (bus_of id) later in omega (arith, fewer)); returns = omega arith }

-- whatever goes down has less ahead than what goes up
pub turns_down : (switches : List Switch) (id other : ℕ) → length switches ≤ 8 → IsNearer switches (record { lower = id; way = Down }) (record { lower = other; way = Up })
turns_down switches id other few = record { far = (let all = count_by-le-length (is_from (bus_of id)) switches in omega (arith, all, few)); returns = omega arith }

-- no direction has more than 17 ahead
pub far_few : (switches : List Switch) (direction : Direction) → length switches ≤ 8 → far switches direction ≤ 17
far_few switches direction few = go direction.way
  where
    go : (way : Way) → far switches (record { lower = direction.lower; way = way }) ≤ 17
    go Up = let all = count_by-le-length (is_before (bus_of direction.lower)) switches in omega (arith, all, few)
    go Down = let all = count_by-le-length (is_from (bus_of direction.lower)) switches in omega (arith, all, few)

-- and none down more than 8
pub far_down : (switches : List Switch) (id : ℕ) → length switches ≤ 8 → far switches (record { lower = id; way = Down }) ≤ 8
far_down switches id few = let all = count_by-le-length (is_from (bus_of id)) switches in omega (arith, all, few)

-- ---- ports

-- packets come into a port in a direction, and wherever it sends one on less is ahead
pub record ComesBy (platform : Platform) (routes : Routes) (place : PortPlace) (config : Config) (input : LinkEnd) : Type 0 where
  pub direction : Direction
  pub from : sender_of (links_of platform) direction ≡ Some input
  pub on : (head : Head) (output : ℕ) → course_of routes config head ≡ To output
      → (next : Direction) × (sender_of (links_of platform) next ≡ Some (record { node = place.node; output = output })) × IsNearer platform.switches next direction

module _ (platform : Platform) (laws : IsPlatform platform) (routes : Routes) where
  abbrev Goes : ℕ → ℕ → Direction → Type 0
  Goes node output direction = (next : Direction) × (sender_of (links_of platform) next ≡ Some (record { node = node; output = output })) × IsNearer platform.switches next direction

  -- ---- the upstream port of a switch

  below_it : (switch : Switch) (output : ℕ) → Contains platform.switches switch → Below platform switch output → Goes (upstream_end platform switch.id).node output (down switch.id)
  below_it switch output within b =
      let on = b.on in
      let after = (buses platform laws b.port b.listed).after in
      let first = bus_below b.port.secondary in
      (down (id_below b.port), b.sent, further_down platform.switches switch within (id_below b.port) (omega (arith, on, after, first)))

  upstream_on : (switch : Switch) → Contains platform.switches switch → (head : Head) (output : ℕ) → course_of routes (upstream_config platform switch) head ≡ To output → Goes (upstream_end platform switch.id).node output (down switch.id)
  upstream_on switch within head output e =
      let leads : LeadsDown (exits_of platform (internal_bus switch)) (To output) = subst (LeadsDown (exits_of platform (internal_bus switch))) e (upstream_leads routes (upstream_config platform switch) head refl) in
      below_it switch output within (below platform laws switch leads.0 output within leads.1)

  upstream_comes : (switch : Switch) (input : LinkEnd) → Contains platform.switches switch → (upstream_place platform switch).input ≡ Some input → ComesBy platform routes (upstream_place platform switch) (upstream_config platform switch) input
  upstream_comes switch input within from = record {
    direction = down switch.id;
    from = sym (upstream_input platform laws switch within) ∙ from;
    on = λ head output e. upstream_on switch within head output e;
  }

  -- ---- a downstream port

  module _ (q : DownstreamPort) (listed : Contains platform.ports q) (switch : Switch) (stands : StandsOn platform q switch) where
    node : (upstream_end platform switch.id).node ≡ (downstream_end platform q).node
    node = sym (own_node platform laws switch q stands.listed (sym stands.bus))

    at_node : (n output : ℕ) → n ≡ output → Goes (upstream_end platform switch.id).node n (up (id_below q)) → Goes (downstream_end platform q).node output (up (id_below q))
    at_node n output same goes = subst (λ (k : ℕ). Goes (downstream_end platform q).node k (up (id_below q))) same (subst (λ (k : ℕ). Goes k n (up (id_below q))) node goes)

    to_top : Goes (upstream_end platform switch.id).node 0 (up (id_below q))
    to_top =
        let bus = stands.bus in
        let after = (buses platform laws q listed).after in
        let first = bus_below q.secondary in
        (up switch.id, switch_up platform laws switch stands.listed, further_up platform.switches switch stands.listed (id_below q) (omega (arith, bus, after, first)))

    to_lane : (output : ℕ) → Below platform switch output → Goes (upstream_end platform switch.id).node output (up (id_below q))
    to_lane output b = (down (id_below b.port), b.sent, turns_down platform.switches (id_below b.port) (id_below q) laws.limits.switches)

    leads_on : (output : ℕ) → Leads (exits_of platform (bus_of q.id)) (To output) → Goes (downstream_end platform q).node output (up (id_below q))
    leads_on output (inl top) = at_node 0 output (sym top) to_top
    leads_on output (inr (other, lane)) =
        at_node output output refl (to_lane output (below platform laws switch other output stands.listed (ap (λ (bus : ℕ). lane_to (exits_of platform bus) other) stands.bus ∙ lane)))

    downstream_on : (head : Head) (output : ℕ) → course_of routes (downstream_config platform q) head ≡ To output → Goes (downstream_end platform q).node output (up (id_below q))
    downstream_on head output e = leads_on output (subst (Leads (exits_of platform (bus_of q.id))) e (downstream_leads routes (downstream_config platform q) head q refl))

  downstream_comes : (q : DownstreamPort) (input : LinkEnd) → Contains platform.ports q → (downstream_place platform q).input ≡ Some input → ComesBy platform routes (downstream_place platform q) (downstream_config platform q) input
  downstream_comes q input listed from =
      let on = port_stands platform laws q listed in
      record { direction = up (id_below q); from = sym (downstream_input platform laws q) ∙ from; on = λ head output e. downstream_on q listed on.0 on.1 head output e }

  -- ---- either

  pub comes_by : (place : PortPlace) (config : Config) (input : LinkEnd) → place.input ≡ Some input → Standing platform place config → ComesBy platform routes place config input
  comes_by place config input from (Standing.Upstream switch listed at configured) =
      subst (λ (p : PortPlace). ComesBy platform routes p config input) (sym at)
      (subst (λ (c : Config). ComesBy platform routes (upstream_place platform switch) c input) (sym configured)
      (upstream_comes switch input (listed_switch platform laws switch listed) (sym (ap (λ (p : PortPlace). p.input) at) ∙ from)))
  comes_by place config input from (Standing.Downstream line listed at configured) =
      subst (λ (p : PortPlace). ComesBy platform routes p config input) (sym at)
      (subst (λ (c : Config). ComesBy platform routes (downstream_place platform line) c input) (sym configured)
      (downstream_comes line input (found (λ (x : DownstreamPort). x.id == line.id) platform.ports line listed).0 (sym (ap (λ (p : PortPlace). p.input) at) ∙ from)))
