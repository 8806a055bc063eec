-- What is ahead of the packets of a fabric: each direction is known by the end that it is sent from, and ports send packets on to
-- where less is ahead. And how much a packet counts by that.
use Rattle.std.proofs.Common.{◌≡◌, ℕ, ◌+◌, ◌<◌, ◌≤◌, ◌==◌, Bool, true, false, cond, List, length, get_or, Option, Some, None, sym, ap, ◌∙◌, subst, arith}
use Rattle.std.proofs.lemmas.List.Quantifiers.{position-Some}
use Rattle.fab_types.specs.declared.head.Head.{Head}
use Rattle.fab_types.specs.declared.place.Direction.{Direction}
use Rattle.fab_types.specs.declared.place.Way.{Way}
use Rattle.fab_types.specs.declared.place.Way.TheVariants.{Up, Down}
use Rattle.frame_log.specs.Descriptor.{Descriptor}
use Rattle.bridge.specs.Bridges.{Routes}
use Rattle.platform.specs.declared.parts.Switch.{Switch}
use Rattle.layout.specs.Laws.{IsPlatform}
use Rattle.platform.specs.Platform.{Platform}
use Rattle.port.specs.Configs.{Config}
use Rattle.port.specs.Courses.{course_of}
use Rattle.port.specs.declared.course.Forwarding.TheVariants.{To}
use Rattle.topology.specs.declared.nodes.LinkEnd.{LinkEnd}
use Rattle.topology.specs.declared.places.PortPlace.{PortPlace}
use Rattle.topology.specs.Links.{links_of, sender_of}
use Rattle.topology.specs.Topologies.{Tree}
use Rattle.interconnect.specs.Passes.{index_of, no_place}
use Rattle.fabric_core.specs.MovesLeft.{direction_from, is_request, moves_of, returns, returns_on}
use Rattle.fabric_core.specs.Passing.{port_number}
use Rattle.fabric_core.specs.Soundness.{IsOfPlatform}
use Rattle.fabric_core.specs.World.{World}
use Rattle.fabric_core.proofs.moves.Directions.{own_direction}
use Rattle.fabric_core.proofs.moves.Ports.{ComesBy, IsNearer, comes_by, far_down, far_few}
use Rattle.fabric_core.proofs.soundness.Sites.{standing}

-- ---- where packets go on

abbrev pub Goes : World → LinkEnd → Direction → Type 0
Goes w end direction = (next : Direction) × (sender_of w.tree.links next ≡ Some end) × IsNearer w.routes.switches next direction

-- packets come into a port in a direction, and wherever it sends one on less is ahead
pub record Comes (w : World) (place : PortPlace) (config : Config) (input : LinkEnd) : Type 0 where
  pub direction : Direction
  pub from : sender_of w.tree.links direction ≡ Some input
  pub on : (head : Head) (output : ℕ) → course_of w.routes config head ≡ To output → Goes w (record { node = place.node; output = output }) direction

pub record IsLaid (w : World) : Type 0 where
  pub few : length w.routes.switches ≤ 8
  pub own : (direction : Direction) (end : LinkEnd) → sender_of w.tree.links direction ≡ Some end → direction_from w.tree.links end ≡ Some direction
  pub ports : (id number : ℕ) (input : LinkEnd) → index_of w.tree.places id ≡ Some number → (get_or w.tree.places number no_place).input ≡ Some input → Comes w (get_or w.tree.places number no_place) (port_number w number).config input

module _ (platform : Platform) (laws : IsPlatform platform) (w : World) (of_it : IsOfPlatform platform w) (many : length w.ports ≡ length w.tree.places) where
  sent : (direction : Direction) (end : LinkEnd) → sender_of (links_of platform) direction ≡ Some end → sender_of w.tree.links direction ≡ Some end
  sent direction end e = ap (λ (t : Tree). sender_of t.links direction) of_it.tree ∙ e

  back : (direction : Direction) (end : LinkEnd) → sender_of w.tree.links direction ≡ Some end → sender_of (links_of platform) direction ≡ Some end
  back direction end e = ap (λ (t : Tree). sender_of t.links direction) (sym of_it.tree) ∙ e

  comes : (place : PortPlace) (config : Config) (input : LinkEnd) → ComesBy platform w.routes place config input → Comes w place config input
  comes place config input c = record {
    direction = c.direction;
    from = sent c.direction input c.from;
    on = λ head output e.
        let next = c.on head output e in
        (next.0, sent next.0 (record { node = place.node; output = output }) next.1, subst (λ (r : Routes). IsNearer r.switches next.0 c.direction) (sym of_it.routes) next.2);
  }

  pub is_laid : IsLaid w
  is_laid = record {
    few = subst (λ (r : Routes). length r.switches ≤ 8) (sym of_it.routes) laws.limits.switches;
    own = λ direction end e. subst (λ (t : Tree). direction_from t.links end ≡ Some direction) (sym of_it.tree) (own_direction platform laws direction end (back direction end e));
    ports = λ id number input index from.
        let less = (position-Some (λ (place : PortPlace). place.id == id) w.tree.places number no_place index).0 in
        comes (get_or w.tree.places number no_place) (port_number w number).config input
        (comes_by platform laws w.routes (get_or w.tree.places number no_place) (port_number w number).config input from (standing platform w id number of_it (omega (arith, less, many)) index));
  }

-- ---- how much a packet counts

returns_fewer : (one other : Way) (b : Bool) → returns_on one ≤ returns_on other → cond b (returns_on one) 0 ≤ cond b (returns_on other) 0
returns_fewer one other true h = h
returns_fewer one other false h = omega arith

returns_some : (way : Way) → 55 ≤ returns_on way
returns_some Up = omega arith
returns_some Down = omega arith

returns_most : (way : Way) → returns_on way ≤ 110
returns_most Up = omega arith
returns_most Down = omega arith

at_most : (n : ℕ) (b : Bool) → cond b n 0 ≤ n
at_most n true = omega arith
at_most n false = omega arith

module _ (switches : List Switch) where
  -- one that goes on to where less is ahead
  pub nearer_less : (next direction : Direction) (frame : Descriptor) → IsNearer switches next direction → moves_of switches 3 (Some next) frame < moves_of switches 1 (Some direction) frame
  nearer_less next direction frame near =
      let less = near.far in
      let fewer = returns_fewer next.way direction.way (is_request frame.head.header) near.returns in
      omega (arith, less, fewer)

  -- a request
  pub request_more : (direction : Direction) (frame : Descriptor) → is_request frame.head.header ≡ true → 56 ≤ moves_of switches 1 (Some direction) frame
  request_more direction frame is =
      let more : returns direction.way frame.head.header ≡ returns_on direction.way = ap (λ (b : Bool). cond b (returns_on direction.way) 0) is in
      let some = returns_some direction.way in
      omega (arith, more, some)

  pub request_up : (id : ℕ) (frame : Descriptor) → is_request frame.head.header ≡ true → 111 ≤ moves_of switches 1 (Some (record { lower = id; way = Up })) frame
  request_up id frame is =
      let more : returns Up frame.head.header ≡ 110 = ap (λ (b : Bool). cond b 110 0) is in
      omega (arith, more)

  module _ (few : length switches ≤ 8) where
    -- what is no request
    pub quiet_few : (steps : ℕ) (direction : Option Direction) (frame : Descriptor) → is_request frame.head.header ≡ false → moves_of switches steps direction frame ≤ 51 + steps
    quiet_few steps None frame is = omega arith
    quiet_few steps (Some direction) frame is =
        let none : returns direction.way frame.head.header ≡ 0 = ap (λ (b : Bool). cond b (returns_on direction.way) 0) is in
        let far = far_few switches direction few in
        omega (arith, none, far)

    -- what goes down from an outbox
    pub down_few : (id : ℕ) (frame : Descriptor) → moves_of switches 4 (Some (record { lower = id; way = Down })) frame ≤ 83
    down_few id frame =
        let far = far_down switches id few in
        let most = at_most 55 (is_request frame.head.header) in
        omega (arith, far, most)

    -- anything
    pub any_few : (steps : ℕ) (direction : Direction) (frame : Descriptor) → moves_of switches steps (Some direction) frame ≤ 161 + steps
    any_few steps direction frame =
        let far = far_few switches direction few in
        let most = at_most (returns_on direction.way) (is_request frame.head.header) in
        let returned = returns_most direction.way in
        omega (arith, far, most, returned)
