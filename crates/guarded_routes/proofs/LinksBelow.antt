-- Each link of a function's way has the function below it, and what goes on through a switch keeps to a way.
use Rattle.std.proofs.Common.{◌≡◌, ℕ, suc, ◌+◌, ◌==◌, true, List, [], All, slice_get, Option, Some, None, option_map, refl, sym, ap, ◌∙◌, subst, arith}
use Rattle.std.specs.Prelude.{Contains}
use Rattle.std.proofs.lemmas.Bool.{eqb-true}
use Rattle.std.proofs.lemmas.List.Elements.{All-cons, All-nil, Contains-get_or}
use Rattle.std.proofs.lemmas.Option.{get_or_from_slice_get, slice_get_within}
use Rattle.fab_types.specs.Id.{bus_of}
use Rattle.fab_types.specs.declared.place.Direction.{Direction}
use Rattle.fab_types.specs.declared.place.Way.TheVariants.{Up, Down}
use Rattle.platform.specs.declared.parts.DownstreamPort.{DownstreamPort}
use Rattle.platform.specs.declared.parts.Switch.{Switch}
use Rattle.platform.specs.Platform.{Platform}
use Rattle.platform.specs.Tree.{is_on_bus}
use Rattle.platform.specs.Tree.{id_below, internal_bus, switch_on}
use Rattle.topology.specs.Nodes.{ports_on}
use Rattle.topology.proofs.Members.{found, kept_from}
use Rattle.topology.proofs.Standing.{switch_id}
use Rattle.bridge.specs.declared.target.Target.TheVariants.{Bus}
use Rattle.bridge.specs.Routes.{holder_on, holds_target}
use Rattle.guarded_routes.specs.Guarded.{IsFunctionOf, IsGuarded, is_below, top_id}
use Rattle.guarded_routes.specs.Links.{IsPath, IsWay, link_above}
use Rattle.guarded_routes.specs.Ways.{direction_out, down_from, up_from}
use Rattle.guarded_routes.proofs.Below.{Under, holder_is, holds_own, lift}
use Rattle.guarded_routes.proofs.Finds.{some, some_is}
use Rattle.guarded_routes.proofs.Links.{Joined, above_is, joined}
use Rattle.guarded_routes.proofs.Nodes.{At, First}
use Rattle.guarded_routes.proofs.Peers.{listed_port}
use Rattle.guarded_routes.proofs.Passing.{below, below_switch, first_port_of, switch_over, under}
use Rattle.guarded_routes.proofs.Trees.{IsPort}

abbrev HasBelow : Platform → ℕ → ℕ → Type 0
HasBelow platform f link = is_below platform link f ≡ true

module _ (platform : Platform) (g : IsGuarded platform) where
  -- ---- what a way has below it

  -- a function below a link is below the one above
  below_above : (d f lower above : ℕ) → First platform d f → link_above platform lower ≡ Some above → is_below platform lower f ≡ true → is_below platform above f ≡ true
  below_above d f lower above first e h =
      let j = joined platform g lower above e in
      subst (HasBelow platform f) j.is (below_switch platform g d f j.port j.listed j.over first (subst (HasBelow platform f) j.below h))

  all_below : (d f last lower : ℕ) (links : List ℕ) → First platform d f → IsPath platform last lower links → is_below platform lower f ≡ true → All (HasBelow platform f) links
  all_below d f last _ _ first IsPath.AtLast h = All-cons (HasBelow platform f) last [] h (All-nil (HasBelow platform f))
  all_below d f last _ _ first (IsPath.Above lower above links e falls way) h =
      All-cons (HasBelow platform f) lower links h (all_below d f last above links first way (below_above d f lower above first e h))

  -- each link of a function's way has the function below it
  pub way_holds : (d f : ℕ) (links : List ℕ) → IsFunctionOf platform d f → IsWay platform f links → All (HasBelow platform f) links
  way_holds d f links own way =
      let first = first_port_of platform g d f own in
      all_below d f top_id f links first way (below platform g d f f (Some first.port) first (At.Over first.port first.listed first.below) Under.Here)

  -- ---- the links directly below a switch

  -- the port over a link that has a function below it holds the first bus of that function's first port
  held : (d f lower : ℕ) (port : DownstreamPort) (first : First platform d f) → IsPort platform port → lower ≡ id_below port → is_below platform lower f ≡ true → holds_target port (Bus first.port.secondary) ≡ true
  held d f lower port first listed e h =
      let u = under platform g d f lower (Some port) first (At.Over port listed e) h in
      (lift platform g.laws first.listed u port refl).holds (Bus first.port.secondary) (holds_own platform g.laws first.port first.listed)

  -- at most one has a function below it
  pub one_below_switch : (d f one other above : ℕ) → IsFunctionOf platform d f → link_above platform one ≡ Some above → link_above platform other ≡ Some above → is_below platform one f ≡ true → is_below platform other f ≡ true → one ≡ other
  one_below_switch d f one other above own e i h k = a.below ∙ ap id_below same ∙ sym b.below
    where
      first : First platform d f
      first = first_port_of platform g d f own

      a : Joined platform g one above
      a = joined platform g one above e

      b : Joined platform g other above
      b = joined platform g other above i

      bus : bus_of a.port.id ≡ bus_of b.port.id
      bus = sym a.over.bus ∙ ap (λ (id : ℕ). bus_of id + 1) (a.is ∙ sym b.is) ∙ b.over.bus

      found_is : (lower : ℕ) (j : Joined platform g lower above) → bus_of j.port.id ≡ bus_of b.port.id → is_below platform lower f ≡ true → holder_on platform.ports (bus_of b.port.id) (Some (Bus first.port.secondary)) ≡ Some j.port
      found_is lower j on h = holder_is platform g.laws (bus_of b.port.id) (Bus first.port.secondary) j.port j.listed on (held d f lower j.port first j.listed j.below h)

      same : a.port ≡ b.port
      same = some_is a.port b.port (sym (found_is one a bus h) ∙ found_is other b refl k)

  -- ---- the outputs of a switch

  -- two switches of one bus are one
  same_switch : (one other : Switch) → Contains platform.switches one → Contains platform.switches other → internal_bus one ≡ internal_bus other → one.id ≡ other.id
  same_switch one other here there bus =
      let a = switch_id platform g.laws one here in
      let b = switch_id platform g.laws other there in
      omega (arith, a, b, bus)

  -- a port of a switch leads down to a link below that switch's own
  port_leads : (switch : Switch) (q : DownstreamPort) → Contains platform.switches switch → Contains platform.ports q → bus_of q.id ≡ internal_bus switch → link_above platform (id_below q) ≡ Some switch.id
  port_leads switch q within listed on =
      let port = listed_port platform g.laws q listed in
      let s = switch_over platform g q port in
      let at = found (λ (t : Switch). internal_bus t == bus_of q.id) platform.switches s.switch s.on in
      let same : s.switch.id ≡ switch.id = same_switch s.switch switch at.0 within (s.bus ∙ on) in
      above_is platform g q port switch (ap (option_map (λ (t : Switch). t.id)) s.on ∙ ap some same)

  pub output_down_keeps : (switch : Switch) (place : ℕ) (direction : Direction) → Contains platform.switches switch → direction_out platform switch (suc place) ≡ Some direction
      → (direction.way ≡ Down) × (link_above platform direction.lower ≡ Some switch.id)
  output_down_keeps switch place direction within leads = go (slice_get ports place) refl leads
    where
      ports : List DownstreamPort
      ports = ports_on platform.ports (internal_bus switch)

      go : (o : Option DownstreamPort) → slice_get ports place ≡ o → option_map down_from o ≡ Some direction → (direction.way ≡ Down) × (link_above platform direction.lower ≡ Some switch.id)
      go None at e = absurd cc
      go (Some q) at e =
          let less = slice_get_within ports place q at in
          let here = get_or_from_slice_get ports place q q at in
          let kept = kept_from (is_on_bus (internal_bus switch)) platform.ports q (subst (Contains ports) here (Contains-get_or ports place q less)) in
          let is : down_from q ≡ direction = some_is (down_from q) direction e in (
            ap (λ (d : Direction). d.way) (sym is),
            ap (λ (d : Direction). link_above platform d.lower) (sym is) ∙ port_leads switch q within kept.0 (eqb-true (bus_of q.id) (internal_bus switch) kept.1),
          )

  pub output_up_keeps : (line : DownstreamPort) (switch : Switch) (direction : Direction) → IsPort platform line → switch_on platform.switches (bus_of line.id) ≡ Some switch → direction_out platform switch 0 ≡ Some direction
      → (direction.way ≡ Up) × (link_above platform (id_below line) ≡ Some direction.lower)
  output_up_keeps line switch direction listed on leads =
      let is : up_from switch ≡ direction = some_is (up_from switch) direction leads in (
        ap (λ (d : Direction). d.way) (sym is),
        above_is platform g line listed switch (ap (option_map (λ (t : Switch). t.id)) on) ∙ ap (λ (d : Direction). some d.lower) is,
      )
