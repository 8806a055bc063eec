-- The motion of a port's turn in a guarded fabric.
use Rattle.std.proofs.Common.{◌≡◌, ℕ, zero, suc, ◌<◌, ◌==◌, Bool, true, false, cond, Option, Some, None, refl, sym, ap, ◌∙◌, subst, arith, eqb-true}
use Rattle.std.specs.Prelude.{Contains, slice_index_or}
use Rattle.std.specs.Option.{option_and_then}
use Rattle.std.proofs.lemmas.List.Quantifiers.{position-Some}
use Rattle.std.proofs.lemmas.Option.{same_Some}
use Rattle.fab_types.specs.Id.{bus_of}
use Rattle.fab_types.specs.declared.head.Parties.TheVariants.{Upward}
use Rattle.fab_types.specs.declared.place.Direction.{Direction}
use Rattle.fab_types.specs.declared.place.Place.TheVariants.{Egress, Ingress}
use Rattle.fab_types.specs.declared.place.Way.{Way}
use Rattle.fab_types.specs.declared.place.Way.TheVariants.{Up, Down}
use Rattle.fab_types.specs.declared.violation.Violation.{Violation}
use Rattle.frame_log.specs.Descriptor.{Descriptor}
use Rattle.bridge.specs.Bridges.{Routes, of_platform}
use Rattle.bridge.specs.Routes.{switch_at}
use Rattle.platform.specs.declared.parts.DownstreamPort.{DownstreamPort}
use Rattle.platform.specs.declared.parts.Switch.{Switch}
use Rattle.platform.specs.Tree.{id_below, internal_bus, switch_on}
use Rattle.domain.specs.declared.entry.Entry.TheVariants.{Refuse}
use Rattle.port.specs.Configs.{downstream_config, upstream_config}
use Rattle.port.specs.Courses.{course_of}
use Rattle.lane.specs.Lanes.{Class}
use Rattle.port.specs.declared.course.Forwarding.{Forwarding}
use Rattle.port.specs.declared.course.Forwarding.TheVariants.{To, Stop, NoCase}
use Rattle.domains.specs.Domains.{Made, made}
use Rattle.topology.specs.Links.{sender_of}
use Rattle.topology.specs.Nodes.{upstream_end}
use Rattle.topology.specs.Places.{downstream_place, upstream_place}
use Rattle.topology.specs.Topologies.{Tree}
use Rattle.topology.specs.declared.nodes.LinkEnd.{LinkEnd}
use Rattle.topology.specs.declared.places.PortPlace.{PortPlace}
use Rattle.topology.proofs.Brought.{downstream_input, upstream_input}
use Rattle.topology.proofs.Outputs.{own_node}
use Rattle.topology.proofs.Members.{found}
use Rattle.interconnect.specs.Moves.{put_at}
use Rattle.interconnect.specs.Passes.{index_of, no_place}
use Rattle.guarded_routes.specs.Sound.{IsSound}
use Rattle.guarded_routes.specs.Ways.{GoesOn, LeavesBy, Passes, PassesDown, direction_out, down_from}
use Rattle.guarded_routes.proofs.Falling.{passes_down}
use Rattle.guarded_routes.proofs.LinksBelow.{output_down_keeps, output_up_keeps}
use Rattle.guarded_routes.proofs.Passing.{passes}
use Rattle.guarded_routes.proofs.Replies.{answers_below}
use Rattle.guarded_routes.proofs.Taking.{refuses}
use Rattle.guarded_routes.proofs.Trees.{IsPort}
use Rattle.fabric_core.specs.Arrivals.{Taken, taken_at}
use Rattle.fabric_core.specs.Invariant.{IsConsistent}
use Rattle.fabric_core.specs.Misrouting.{pass}
use Rattle.fabric_core.specs.Passing.{Site, answer_waits, answered_at, is_full_at, output_end, passed, passed_at, passed_by, passed_number, port_number, refused_by, strayed}
use Rattle.fabric_core.specs.Soundness.{IsGuardedFabric}
use Rattle.fabric_core.specs.Trails.{down, standing_in, up}
use Rattle.fabric_core.specs.World.{World, with_channels}
use Rattle.fabric_core.proofs.order.MotionTaking.{TakenAway, goes_then, put_then, taken_away}
use Rattle.fabric_core.proofs.order.Motions.{Motion, Finishes, JoiningIf, Leaps}
use Rattle.fabric_core.proofs.soundness.GuardedAliens.{passes_as_turned}
use Rattle.fabric_core.proofs.soundness.GuardedEnds.{answer_sound, legal_at_home}
use Rattle.fabric_core.proofs.soundness.GuardedTurns.{at_place, may_go_on_here}
use Rattle.fabric_core.proofs.soundness.Sites.{Standing, output_sends, own_output_end, sent_below, standing}

-- a direction of this way
same_direction : (direction : Direction) (way : Way) → direction.way ≡ way → direction ≡ record { lower = direction.lower; way = way }
same_direction direction way e = λ i. record { lower = direction.lower; way = e i }

module _ (w w' : World) (kept : IsConsistent w) (g : IsGuardedFabric w) (direction : Direction) (t : Taken) (k : TakenAway w kept g direction t) where
  -- ---- it goes on

  -- an output of a switch that leads where it is to go
  goes_on : (switch : Switch) (site : Site) (class : Class) (output : ℕ) → Contains g.platform.switches switch → site.node ≡ (upstream_end g.platform switch.id).node → (on : GoesOn g.platform switch t.frame output)
      → Leaps g.platform t.frame (Ingress direction) (Egress on.direction) → passed_by w site class t (To output) ≡ Some w' → Motion g.platform w w'
  goes_on switch site class output within node on leaps is =
      unless (is_full_at w site output class) (ap (λ (b : Bool). cond (is_full_at w site output class) None (cond b (Some put) (Some (strayed w site t)))) (sym (may_go_on_here w w' g direction t k.soundly on.owned)) ∙ is)
    where
      put : World
      put = with_channels w (put_at t.channels (output_end site output) t.frame)

      unless : (full : Bool) → cond full None (Some (with_channels w (put_at t.channels (output_end site output) t.frame))) ≡ Some w' → Motion g.platform w w'
      unless true is = absurd cc
      unless false is =
          let from : sender_of w.tree.links on.direction ≡ Some (output_end site output) =
          ap (λ (x : Tree). sender_of x.links on.direction) g.of_it.tree
          ∙ (output_sends g.platform g.guarded switch output on.direction t.frame within on.leads on.sound ∙ ap (λ (n : ℕ). Some (record { node = n; output = output })) (sym node)) in
          subst (Motion g.platform w) (same_Some (with_channels w (put_at t.channels (output_end site output) t.frame)) w' is)
          (goes_then w kept g direction t k on.direction (output_end site output) from leaps)

-- ---- from above

-- an output down
falls_by : (w : World) (g : IsGuardedFabric w) (switch : Switch) (frame : Descriptor) (output : ℕ) → Contains g.platform.switches switch → 0 < output → (on : GoesOn g.platform switch frame output)
    → Leaps g.platform frame (Ingress (down switch.id)) (Egress on.direction)
falls_by w g switch frame zero within less on = absurd (omega (arith, less))
falls_by w g switch frame (suc place) within less on =
    let keeps = output_down_keeps g.platform g.guarded switch place on.direction within on.leads in
    let same : on.direction ≡ down on.direction.lower = same_direction on.direction Down keeps.0 in
    subst (λ (d : Direction). Leaps g.platform frame (Ingress (down switch.id)) (Egress d)) (sym same)
    (Leaps.Falls on.direction.lower switch.id keeps.1 (subst (λ (d : Direction). IsSound g.platform d frame) same on.sound))

passed_upstream : (w w' : World) (kept : IsConsistent w) (g : IsGuardedFabric w) (i : ℕ) (switch : Switch) (class : Class) (o : Option Taken) → switch_at g.platform.switches switch.id ≡ Some switch
    → ((t : Taken) → o ≡ Some t → TakenAway w kept g (down switch.id) t)
    → option_and_then (passed w (record { number = i; node = (upstream_place g.platform switch).node; config = upstream_config g.platform switch }) class) o ≡ Some w' → Motion g.platform w w'
passed_upstream w w' kept g i switch class None listed out is = absurd cc
passed_upstream w w' kept g i switch class (Some t) listed out is =
    let config = upstream_config g.platform switch in
    let k = out t refl in
    let within = (found (λ (x : Switch). x.id == switch.id) g.platform.switches switch listed).0 in
    by k within (course_of w.routes config t.frame.head)
    (subst (λ (r : Routes). PassesDown g.platform switch t.frame (course_of r config t.frame.head)) (sym g.of_it.routes) (passes_down g.platform g.guarded switch listed t.frame k.soundly.sound)) is
  where
    by : TakenAway w kept g (down switch.id) t → Contains g.platform.switches switch → (course : Forwarding) → PassesDown g.platform switch t.frame course
        → passed_by w (record { number = i; node = (upstream_place g.platform switch).node; config = upstream_config g.platform switch }) class t course ≡ Some w' → Motion g.platform w w'
    by k within (To output) on is =
        goes_on w w' kept g (down switch.id) t k switch (record { number = i; node = (upstream_place g.platform switch).node; config = upstream_config g.platform switch }) class output within refl on.1
        (falls_by w g switch t.frame output within on.0 on.1) is
    by k within (Stop report) on is = absurd on
    by k within NoCase on is = absurd on

-- ---- from below

module _ (w w' : World) (kept : IsConsistent w) (g : IsGuardedFabric w) (i : ℕ) (line : DownstreamPort) (listed : IsPort g.platform line) (t : Taken) (k : TakenAway w kept g (up (id_below line)) t) where
  abbrev site : Site
  site = record { number = i; node = (downstream_place g.platform line).node; config = downstream_config g.platform line }

  -- up, across, or directly to a function
  rises_by : (switch : Switch) (output : ℕ) → switch_on g.platform.switches (bus_of line.id) ≡ Some switch → (on : GoesOn g.platform switch t.frame output) → LeavesBy g.platform line t.frame output on.direction → Leaps g.platform t.frame (Ingress (up (id_below line))) (Egress on.direction)
  rises_by switch output at on (LeavesBy.Crosses relaxed) = Leaps.Crosses (id_below line) on.direction relaxed
  rises_by switch output at on (LeavesBy.Turns sender peer requester address address_type held parties same cleared here direct is) =
      subst (λ (d : Direction). Leaps g.platform t.frame (Ingress (up (id_below line))) (Egress d)) (sym is) (Leaps.Turns line sender peer requester address address_type listed held parties same cleared here direct)
  rises_by switch output at on (LeavesBy.Rises first none) =
      let leads : direction_out g.platform switch 0 ≡ Some on.direction = ap (direction_out g.platform switch) (sym first) ∙ on.leads in
      let keeps = output_up_keeps g.platform g.guarded line switch on.direction listed at leads in
      let same : on.direction ≡ up on.direction.lower = same_direction on.direction Up keeps.0 in
      subst (λ (d : Direction). Leaps g.platform t.frame (Ingress (up (id_below line))) (Egress d)) (sym same) (Leaps.Rises line on.direction.lower listed keeps.1 none)

  -- what answers it, if anything, is put to its sender
  answered : (answer : Option Descriptor) → ((x : Descriptor) → answer ≡ Some x → IsSound g.platform (down_from line) x)
      → JoiningIf (standing_in w.tree.links t.channels w.agents.outboxes) (standing_in w.tree.links (answered_at t.channels (output_end site site.config.own) answer) w.agents.outboxes) (Egress (down (id_below line))) answer
  answered None sound = λ r. refl
  answered (Some answer) sound =
      put_then w kept g (up (id_below line)) t k (down (id_below line)) (output_end site site.config.own)
      (ap (λ (x : Tree). sender_of x.links (down_from line)) g.of_it.tree
      ∙ (sent_below g.platform g.guarded line answer listed (sound answer refl) ∙ ap (λ (e : LinkEnd). Some e) (sym (own_output_end g.platform g.guarded.laws line listed)))) w.agents.outboxes answer

  refused : (report : Option Violation) (o : Option Made) → course_of (of_platform g.platform) (downstream_config g.platform line) t.frame.head ≡ Stop report → t.frame.head.parties ≡ Upward (id_below line)
      → made w.agents.domains t.frame.domain (Refuse t.frame.number) ≡ o → Motion g.platform w (refused_by w site report t o)
  refused report None course parties e =
      absurd (legal_at_home w g t.frame (Refuse t.frame.number) k.soundly.flown (λ d old share flies. refuses g.platform g.guarded line t.frame d.state report listed k.soundly.sound course flies) e)
  refused report (Some m) course parties e =
      Motion.Ends (up (id_below line)) (Refuse t.frame.number) (Egress (down (id_below line))) t.frame m (standing_in w.tree.links t.channels w.agents.outboxes) (Finishes.Stopped line report listed parties course k.soundly.sound) k.soundly.flown e k.leaving
      (answered m.sent (answer_sound w g t.frame (Refuse t.frame.number) m k.soundly.flown tt e (down_from line)
      (λ number s c x flies legal sent well. answers_below g.platform g.guarded t.frame number (id_below line) s c x k.soundly.sound parties flies legal sent well))) refl

  stopped_unless : (report : Option Violation) (waits : Bool) → course_of (of_platform g.platform) (downstream_config g.platform line) t.frame.head ≡ Stop report → t.frame.head.parties ≡ Upward (id_below line)
      → cond waits None (Some (refused_by w site report t (made w.agents.domains t.frame.domain (Refuse t.frame.number)))) ≡ Some w' → Motion g.platform w w'
  stopped_unless report true course parties is = absurd cc
  stopped_unless report false course parties is = subst (Motion g.platform w) (same_Some _ w' is) (refused report (made w.agents.domains t.frame.domain (Refuse t.frame.number)) course parties refl)

  passed_as : (class : Class) (course : Forwarding) → course_of (of_platform g.platform) (downstream_config g.platform line) t.frame.head ≡ course → Passes g.platform line t.frame course → passed_by w site class t course ≡ Some w' → Motion g.platform w w'
  passed_as class (To output) same on is =
      let s = found (λ (x : Switch). internal_bus x == bus_of line.id) g.platform.switches on.0 on.1 in
      let node = own_node g.platform g.guarded.laws on.0 line s.0 (sym (eqb-true (internal_bus on.0) (bus_of line.id) s.1)) in
      goes_on w w' kept g (up (id_below line)) t k on.0 site class output s.0 node on.2 (rises_by on.0 output on.1 on.2 on.3) is
  passed_as class (Stop report) same on is = stopped_unless report (answer_waits w site class) same on is
  passed_as class NoCase same on is = absurd on

  passed_downstream : (class : Class) → passed w site class t ≡ Some w' → Motion g.platform w w'
  passed_downstream class is =
      passed_as class (course_of (of_platform g.platform) (downstream_config g.platform line) t.frame.head) refl (passes g.platform g.guarded line listed t.frame k.soundly.sound)
      (ap (λ (r : Routes). passed_by w site class t (course_of r (downstream_config g.platform line) t.frame.head)) (sym g.of_it.routes) ∙ is)

downstream_if : (w w' : World) (kept : IsConsistent w) (g : IsGuardedFabric w) (i : ℕ) (line : DownstreamPort) (class : Class) (o : Option Taken) → IsPort g.platform line → ((t : Taken) → o ≡ Some t → TakenAway w kept g (up (id_below line)) t)
    → option_and_then (passed w (record { number = i; node = (downstream_place g.platform line).node; config = downstream_config g.platform line }) class) o ≡ Some w' → Motion g.platform w w'
downstream_if w w' kept g i line class None listed out is = absurd cc
downstream_if w w' kept g i line class (Some t) listed out is = passed_downstream w w' kept g i line listed t (out t refl) class is

-- ---- the port of an ID

passed_standing : (w w' : World) (kept : IsConsistent w) (g : IsGuardedFabric w) (class : Class) (i : ℕ) (place : PortPlace) → Standing g.platform place (port_number w i).config → passed_at w class i place ≡ Some w' → Motion g.platform w w'
passed_standing w w' kept g class i place (Standing.Upstream switch listed at configured) is =
    let input = (upstream_place g.platform switch).input in
    let within = (found (λ (x : Switch). x.id == switch.id) g.platform.switches switch listed).0 in
    let brought = ap (λ (x : Tree). sender_of x.links (down switch.id)) g.of_it.tree ∙ sym (upstream_input g.platform g.guarded.laws switch within) in
    passed_upstream w w' kept g i switch class (taken_at w.channels class input) listed (λ t e. taken_away w kept g (down switch.id) class input t brought e)
    (at_place w w' class i place (upstream_place g.platform switch) (upstream_config g.platform switch) at configured is)
passed_standing w w' kept g class i place (Standing.Downstream line listed at configured) is =
    let input = (downstream_place g.platform line).input in
    let brought = ap (λ (x : Tree). sender_of x.links (up (id_below line))) g.of_it.tree ∙ sym (downstream_input g.platform g.guarded.laws line) in
    downstream_if w w' kept g i line class (taken_at w.channels class input) listed (λ t e. taken_away w kept g (up (id_below line)) class input t brought e)
    (at_place w w' class i place (downstream_place g.platform line) (downstream_config g.platform line) at configured is)

passed_number_if : (w w' : World) (port : ℕ) (class : Class) (o : Option ℕ) → IsConsistent w → (g : IsGuardedFabric w) → index_of w.tree.places port ≡ o → passed_number w class o ≡ Some w' → Motion g.platform w w'
passed_number_if w w' port class None kept g e is = absurd cc
passed_number_if w w' port class (Some i) kept g e is =
    let less = (position-Some (λ (place : PortPlace). place.id == port) w.tree.places i no_place e).0 in
    let many = kept.built.many in
    passed_standing w w' kept g class i (slice_index_or w.tree.places i no_place) (standing g.platform w port i g.of_it (omega (arith, less, many)) e) is

pub motion_pass : (w w' : World) (port : ℕ) (class : Class) → IsConsistent w → (g : IsGuardedFabric w) → pass w port class ≡ Some w' → Motion g.platform w w'
motion_pass w w' port class kept g is = passed_number_if w w' port class (index_of w.tree.places port) kept g refl (sym (passes_as_turned w g port class) ∙ is)
