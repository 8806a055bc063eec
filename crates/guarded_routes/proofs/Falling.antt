-- The upstream port of a switch sends each sound packet down to where it is sound.
use Rattle.std.proofs.Common.{◌≡◌, ℕ, suc, ◌+◌, ◌==◌, ◌⊎◌, inl, inr, true, Option, Some, None, refl, sym, ap, ◌∙◌, subst, arith}
use Rattle.std.proofs.lemmas.Bool.{eqb-true, eq-eqb, false≢true}
use Rattle.fab_types.specs.Id.{bus_of}
use Rattle.fab_types.specs.declared.head.Header.{Header}
use Rattle.fab_types.specs.declared.head.Header.TheVariants as header
use Rattle.frame_log.specs.Descriptor.{Descriptor}
use Rattle.platform.specs.declared.parts.DownstreamPort.{DownstreamPort}
use Rattle.platform.specs.declared.parts.Switch.{Switch}
use Rattle.layout.specs.Laws.{is_hung}
use Rattle.platform.specs.Owners.{first_port, is_function}
use Rattle.platform.specs.Platform.{Platform}
use Rattle.platform.specs.Tree.{id_below, internal_bus, port_above, port_at}
use Rattle.bridge.specs.declared.target.Target.{Target}
use Rattle.bridge.specs.Bridges.{of_platform}
use Rattle.bridge.specs.Routes.{holder_on, holds_target, switch_at as switch_by, target_of}
use Rattle.port.specs.declared.course.Forwarding.TheVariants.{To}
use Rattle.port.specs.Configs.{exits_of, upstream_config, lane_to}
use Rattle.port.specs.Courses.{course_of}
use Rattle.switch_output.specs.Vetted.{is_own, requester_owner}
use Rattle.guarded_routes.specs.Guarded.{IsFunctionOf, IsGuarded, holds_if_any}
use Rattle.guarded_routes.specs.Sound.{Falling, IsMeantFor}
use Rattle.guarded_routes.specs.Ways.{GoesOn, PassesDown, down_from}
use Rattle.guarded_routes.proofs.Finds.{find_all, find_any, find_passes, some, some_is}
use Rattle.guarded_routes.proofs.Trees.{IsPort, bus_under, hung_at, is_port, stands}
use Rattle.guarded_routes.proofs.Below.{Onward, Under, descend, not_on}
use Rattle.guarded_routes.proofs.Nodes.{At, First, apart, leads_on, switch_at}
use Rattle.guarded_routes.proofs.Owners.{owned_memory, owned_reply, reached_owner}
use Rattle.guarded_routes.proofs.Passing.{below, first_leads, first_port_of, under}
use Rattle.guarded_routes.proofs.Ports as port

-- what is held has a target
record Held (o : Option Target) (f : DownstreamPort) : Type 0 where
  x : Target
  is : o ≡ Some x
  held : holds_target f x ≡ true

held_target : (p o : Option DownstreamPort) (f : DownstreamPort) (x : Option Target) → o ≡ Some f → holds_if_any o x ≡ true → Held x f
held_target p None f x e h = absurd cc
held_target p (Some q) f None e h = absurd (false≢true h)
held_target p (Some q) f (Some x) e h = record { x = x; is = refl; held = subst (λ (q : DownstreamPort). holds_target q x ≡ true) (some_is q f e) h }

module _ (platform : Platform) (g : IsGuarded platform) where
  -- what falls may go on
  pub owned : (d f : ℕ) (frame : Descriptor) (h : Header) → frame.domain ≡ d → frame.head.header ≡ h → IsFunctionOf platform d f → IsMeantFor platform d f frame.head.parties h → is_own (requester_owner platform.ports frame.head.header) frame ≡ true
  owned d f frame header.Malformed home same own meant = absurd meant
  owned d f frame (header.OtherRequest requester) home same own meant = absurd meant
  owned d f frame (header.Memory requester address_type address) home same own meant = owned_memory platform g frame (header.Memory requester address_type address) requester address address_type refl same (reached_owner platform g d f requester meant.1 own meant.2 ∙ ap some (sym home))
  owned d f frame (header.Completion target relaxed_ordering) home same own meant = owned_reply platform g frame target relaxed_ordering same

  module _ (switch : Switch) (found : switch_by platform.switches switch.id ≡ Some switch) where
    hung : is_hung platform.ports switch ≡ true
    hung = find_all (λ (s : Switch). s.id == switch.id) (is_hung platform.ports) platform.switches switch found g.laws.hung

    at : At platform switch.id (port_above platform.ports switch)
    at = switch_at platform g.laws switch hung

    bus : bus_of switch.id ≡ bus_under (port_above platform.ports switch)
    bus = hung_at platform.ports switch.above switch (port_above platform.ports switch) hung refl

    listed_above : (s : Option DownstreamPort) → At platform switch.id s → (a : DownstreamPort) → s ≡ Some a → IsPort platform a
    listed_above s (At.Top e) a is = absurd cc
    listed_above s (At.Over p listed e) a is = subst (IsPort platform) (some_is p a is) listed

    -- no port has the ID of the switch
    no_port : port_at platform.ports switch.id ≡ None
    no_port = go (port_at platform.ports switch.id) refl
      where
        go : (o : Option DownstreamPort) → port_at platform.ports switch.id ≡ o → o ≡ None
        go None e = refl
        go (Some q) e =
            let same : q.id ≡ switch.id = eqb-true q.id switch.id (find_passes (λ (p : DownstreamPort). p.id == switch.id) platform.ports q e) in
            absurd (not_on platform g.laws (port_above platform.ports switch) q (listed_above (port_above platform.ports switch) at) (is_port platform g.laws (λ (p : DownstreamPort). p.id == switch.id) q e) (ap bus_of same ∙ bus))

    -- no function stands there
    not_here : (f : DownstreamPort) (s : Option DownstreamPort) → At platform switch.id s → s ≡ Some f → is_function platform.functions (id_below f) ≡ true → ⊥
    not_here f s (At.Top e) is leads = absurd cc
    not_here f s (At.Over p listed e) is leads =
        let same : switch.id ≡ id_below f = e ∙ ap id_below (some_is p f is) in
        apart platform g (id_below f) leads (find_any (λ (s : Switch). s.id == switch.id) (λ (s : Switch). s.id == id_below f) platform.switches switch found (eq-eqb switch.id (id_below f) same))

    course_is : (frame : Descriptor) (x : Target) (q : DownstreamPort) (output : ℕ) → target_of frame.head.header ≡ Some x → holder_on platform.ports (internal_bus switch) (Some x) ≡ Some q → lane_to (exits_of platform (internal_bus switch)) q.id ≡ Some output
        → course_of (of_platform platform) (upstream_config platform switch) frame.head ≡ To output
    course_is frame x q output target held leads = rw (no_port, found, target, held, leads) refl

    down : (frame : Descriptor) (r : Falling platform switch.id frame) (first : First platform frame.domain r.function) (x : Target) → target_of frame.head.header ≡ Some x → Onward platform g.laws first.port (port_above platform.ports switch) x
        → PassesDown platform switch frame (course_of (of_platform platform) (upstream_config platform switch) frame.head)
    down frame r first x target o =
        let leads = first_leads platform g frame.domain r.function r.own first in
        let internal : internal_bus switch ≡ bus_under (port_above platform.ports switch) + 1 = ap (λ (n : ℕ). n + 1) bus in
        let on : bus_of o.q.id ≡ internal_bus switch = (stands platform g.laws o.q o.port).bus ∙ (ap (λ (s : Option DownstreamPort). bus_under s + 1) o.over ∙ sym internal) in
        let held : holder_on platform.ports (internal_bus switch) (Some x) ≡ Some o.q = ap (λ (n : ℕ). holder_on platform.ports n (Some x)) internal ∙ o.is in
        let output = port.output_down platform switch (internal_bus switch) o.q refl o.port on (leads_on platform g.laws first.port (Some o.q) o.q o.below refl leads) in
        let falling : Falling platform (id_below o.q) frame = record {
          function = r.function;
          own = r.own;
          below = below platform g frame.domain r.function (id_below o.q) (Some o.q) first (At.Over o.q o.port refl) o.below;
          held = r.held;
          meant = r.meant;
        } in
        let goes : GoesOn platform switch frame (suc output.place) = record { direction = down_from o.q; leads = output.leads; sound = falling; owned = owned frame.domain r.function frame frame.head.header refl refl r.own r.meant } in
        subst (PassesDown platform switch frame) (sym (course_is frame x o.q (suc output.place) target held output.output)) (omega arith, goes)

    pub passes_down : (frame : Descriptor) → Falling platform switch.id frame → PassesDown platform switch frame (course_of (of_platform platform) (upstream_config platform switch) frame.head)
    passes_down frame r = go (descend platform g.laws first.listed u held.x held.held)
      where
        first : First platform frame.domain r.function
        first = first_port_of platform g frame.domain r.function r.own

        u : Under platform first.port (port_above platform.ports switch)
        u = under platform g frame.domain r.function switch.id (port_above platform.ports switch) first at r.below

        held : Held (target_of frame.head.header) first.port
        held = held_target None (first_port platform.ports r.function) first.port (target_of frame.head.header) first.is r.held

        go : (port_above platform.ports switch ≡ Some first.port) ⊎ Onward platform g.laws first.port (port_above platform.ports switch) held.x → PassesDown platform switch frame (course_of (of_platform platform) (upstream_config platform switch) frame.head)
        go (inl e) = absurd (not_here first.port (port_above platform.ports switch) at e (first_leads platform g frame.domain r.function r.own first))
        go (inr o) = down frame r first held.x held.is o
