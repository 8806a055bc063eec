-- A guarded fabric through the turn of a port: the packet goes on to where it is sound, or is stopped with a case.
use Rattle.std.proofs.Common.{◌≡◌, ℕ, ◌==◌, Bool, true, false, cond, ◌++◌, Option, Some, None, refl, sym, ap, ◌∙◌, subst, arith, eqb-true}
use Rattle.std.specs.Prelude.{◌||◌, not, Contains, option_to_list, slice_index_or}
use Rattle.std.specs.Option.{option_and_then}
use Rattle.std.proofs.lemmas.List.Quantifiers.{position-Some}
use Rattle.std.proofs.lemmas.Option.{same_Some}
use Rattle.fab_types.specs.Id.{bus_of}
use Rattle.fab_types.specs.declared.head.Parties.TheVariants.{Upward}
use Rattle.fab_types.specs.declared.place.Direction.{Direction}
use Rattle.fab_types.specs.declared.place.Way.TheVariants.{Up, Down}
use Rattle.fab_types.specs.declared.violation.Violation.{Violation}
use Rattle.frame_log.specs.Descriptor.{Descriptor}
use Rattle.bridge.specs.Bridges.{Routes, of_platform}
use Rattle.bridge.specs.Routes.{switch_at}
use Rattle.platform.specs.declared.parts.DownstreamPort.{DownstreamPort}
use Rattle.platform.specs.declared.parts.Switch.{Switch}
use Rattle.platform.specs.Tree.{id_below, internal_bus}
use Rattle.domain.specs.declared.entry.Entry.TheVariants.{Refuse}
use Rattle.port.specs.Configs.{Config, downstream_config, upstream_config}
use Rattle.port.specs.Courses.{course_of}
use Rattle.lane.specs.Lanes.{Class}
use Rattle.switch_output.specs.Vetted.{is_own, may_go_on, requester_owner}
use Rattle.port.specs.declared.course.Forwarding.{Forwarding}
use Rattle.port.specs.declared.course.Forwarding.TheVariants.{To, Stop, NoCase}
use Rattle.domains.specs.Domains.{Made, made}
use Rattle.topology.specs.Links.{sender_of}
use Rattle.topology.specs.Nodes.{upstream_end}
use Rattle.topology.specs.Places.{downstream_place, upstream_place}
use Rattle.topology.specs.Topologies.{Tree}
use Rattle.topology.specs.declared.nodes.LinkEnd.{LinkEnd}
use Rattle.topology.specs.declared.places.PortPlace.{PortPlace}
use Rattle.topology.proofs.Brought.{downstream_input, upstream_input}
use Rattle.topology.proofs.Outputs.{own_node}
use Rattle.topology.proofs.Members.{found}
use Rattle.interconnect.specs.Moves.{put_at}
use Rattle.interconnect.specs.Passes.{index_of, no_place}
use Rattle.guarded_routes.specs.Sound.{IsSound}
use Rattle.guarded_routes.specs.Ways.{GoesOn, Passes, PassesDown, down_from}
use Rattle.guarded_routes.proofs.Falling.{passes_down}
use Rattle.guarded_routes.proofs.Passing.{passes}
use Rattle.guarded_routes.proofs.Replies.{answers_below}
use Rattle.guarded_routes.proofs.Taking.{refuses}
use Rattle.guarded_routes.proofs.Trees.{IsPort}
use Rattle.fabric_core.specs.Arrivals.{Taken, taken_at}
use Rattle.fabric_core.specs.Invariant.{IsConsistent}
use Rattle.fabric_core.specs.Misrouting.{pass}
use Rattle.fabric_core.specs.Passing.{Site, answer_waits, answered_at, is_full_at, output_end, passed, passed_at, passed_by, passed_number, port_number, refused_by, strayed}
use Rattle.fabric_core.specs.Soundness.{IsGuardedFabric}
use Rattle.fabric_core.specs.World.{World, with_channels}
use Rattle.fabric_core.proofs.invariant.Flying.{refuse_ends}
use Rattle.fabric_core.proofs.soundness.GuardedAliens.{passes_as_turned}
use Rattle.fabric_core.proofs.soundness.GuardedEnds.{SoundlyTaken, answer_sound, guarded_end, legal_at_home, soundly_taken}
use Rattle.fabric_core.proofs.soundness.Guarding.{guarded_with, sound_from}
use Rattle.fabric_core.proofs.soundness.Sites.{Standing, output_sends, own_output_end, sent_below, standing}
use Rattle.fabric_core.proofs.soundness.SoundLinks.{SoundFrom, SoundOn, sound_put}

module _ (w w' : World) (g : IsGuardedFabric w) (direction : Direction) (t : Taken) (k : SoundlyTaken w g direction t) where
  -- ---- it goes on

  pub may_go_on_here : is_own (requester_owner g.platform.ports t.frame.head.header) t.frame ≡ true → may_go_on w.routes.ports t.frame ≡ true
  may_go_on_here owned =
      ap (λ (r : Routes). may_go_on r.ports t.frame) g.of_it.routes
      ∙ (ap (λ (guarded : Bool). not guarded || is_own (requester_owner g.platform.ports t.frame.head.header) t.frame) g.guarded.controls ∙ owned)

  -- into the direction that an output of the switch leads into
  output_sound : (switch : Switch) (site : Site) (output : ℕ) → Contains g.platform.switches switch → site.node ≡ (upstream_end g.platform switch.id).node → GoesOn g.platform switch t.frame output → SoundFrom g.platform w.tree.links (output_end site output) t.frame
  output_sound switch site output within node on =
      sound_from w g on.direction (output_end site output) t.frame
      (ap (λ (x : Tree). sender_of x.links on.direction) g.of_it.tree
      ∙ (output_sends g.platform g.guarded switch output on.direction t.frame within on.leads on.sound ∙ ap (λ (n : ℕ). Some (record { node = n; output = output })) (sym node))) on.sound

  goes_on : (switch : Switch) (site : Site) (class : Class) (output : ℕ) → Contains g.platform.switches switch → site.node ≡ (upstream_end g.platform switch.id).node → GoesOn g.platform switch t.frame output
      → passed_by w site class t (To output) ≡ Some w' → IsGuardedFabric w'
  goes_on switch site class output within node on is = unless (is_full_at w site output class) (ap (λ (b : Bool). cond (is_full_at w site output class) None (cond b (Some put) (Some (strayed w site t)))) (sym (may_go_on_here on.owned)) ∙ is)
    where
      put : World
      put = with_channels w (put_at t.channels (output_end site output) t.frame)

      unless : (full : Bool) → cond full None (Some (with_channels w (put_at t.channels (output_end site output) t.frame))) ≡ Some w' → IsGuardedFabric w'
      unless true is = absurd cc
      unless false is =
          let channels = put_at t.channels (output_end site output) t.frame in
          subst IsGuardedFabric (same_Some (with_channels w channels) w' is)
          (guarded_with w g channels w.agents w.violations (sound_put g.platform w.tree.links t.channels (output_end site output) t.frame k.links (output_sound switch site output within node on)) g.sound.outboxes refl g.domains)

-- ---- from above

passed_upstream : (w w' : World) (g : IsGuardedFabric w) (i : ℕ) (switch : Switch) (class : Class) (o : Option Taken) → switch_at g.platform.switches switch.id ≡ Some switch
    → ((t : Taken) → o ≡ Some t → SoundlyTaken w g (record { lower = switch.id; way = Down }) t)
    → option_and_then (passed w (record { number = i; node = (upstream_place g.platform switch).node; config = upstream_config g.platform switch }) class) o ≡ Some w' → IsGuardedFabric w'
passed_upstream w w' g i switch class None listed out is = absurd cc
passed_upstream w w' g i switch class (Some t) listed out is =
    let config = upstream_config g.platform switch in
    let k = out t refl in
    let within = (found (λ (x : Switch). x.id == switch.id) g.platform.switches switch listed).0 in
    by k within (course_of w.routes config t.frame.head)
    (subst (λ (r : Routes). PassesDown g.platform switch t.frame (course_of r config t.frame.head)) (sym g.of_it.routes) (passes_down g.platform g.guarded switch listed t.frame k.sound)) is
  where
    by : SoundlyTaken w g (record { lower = switch.id; way = Down }) t → Contains g.platform.switches switch → (course : Forwarding) → PassesDown g.platform switch t.frame course
        → passed_by w (record { number = i; node = (upstream_place g.platform switch).node; config = upstream_config g.platform switch }) class t course ≡ Some w' → IsGuardedFabric w'
    by k within (To output) on is =
        goes_on w w' g (record { lower = switch.id; way = Down }) t k switch (record { number = i; node = (upstream_place g.platform switch).node; config = upstream_config g.platform switch }) class output within refl on.1 is
    by k within (Stop report) on is = absurd on
    by k within NoCase on is = absurd on

-- ---- from below

module _ (w w' : World) (g : IsGuardedFabric w) (i : ℕ) (line : DownstreamPort) (listed : IsPort g.platform line) (t : Taken) (k : SoundlyTaken w g (record { lower = id_below line; way = Up }) t) where
  abbrev site : Site
  site = record { number = i; node = (downstream_place g.platform line).node; config = downstream_config g.platform line }

  -- what answers it goes back to its sender
  below_sound : (answer : Descriptor) → IsSound g.platform (down_from line) answer → SoundFrom g.platform w.tree.links (output_end site site.config.own) answer
  below_sound answer sound =
      sound_from w g (down_from line) (output_end site site.config.own) answer
      (ap (λ (x : Tree). sender_of x.links (down_from line)) g.of_it.tree
      ∙ (sent_below g.platform g.guarded line answer listed sound ∙ ap (λ (e : LinkEnd). Some e) (sym (own_output_end g.platform g.guarded.laws line listed)))) sound

  answered_sound : (answer : Option Descriptor) → ((x : Descriptor) → answer ≡ Some x → IsSound g.platform (down_from line) x) → SoundOn g.platform w.tree.links (answered_at t.channels (output_end site site.config.own) answer)
  answered_sound None sound = k.links
  answered_sound (Some answer) sound = sound_put g.platform w.tree.links t.channels (output_end site site.config.own) answer k.links (below_sound answer (sound answer refl))

  refused : (report : Option Violation) (o : Option Made) → course_of (of_platform g.platform) (downstream_config g.platform line) t.frame.head ≡ Stop report → t.frame.head.parties ≡ Upward (id_below line)
      → made w.agents.domains t.frame.domain (Refuse t.frame.number) ≡ o → IsGuardedFabric (refused_by w site report t o)
  refused report None course parties e =
      absurd (legal_at_home w g t.frame (Refuse t.frame.number) k.flown (λ d old share flies. refuses g.platform g.guarded line t.frame d.state report listed k.sound course flies) e)
  refused report (Some m) course parties e =
      guarded_end w g t.frame (Refuse t.frame.number) m k.flown tt e (answered_at t.channels (output_end site site.config.own) m.sent) w.agents.outboxes (w.violations ++ option_to_list report) (λ d c h. refuse_ends d.share d.state t.frame.number c h)
      (answered_sound m.sent (answer_sound w g t.frame (Refuse t.frame.number) m k.flown tt e (down_from line)
      (λ number s c x flies legal sent well. answers_below g.platform g.guarded t.frame number (id_below line) s c x k.sound parties flies legal sent well)))
      g.sound.outboxes

  stopped_unless : (report : Option Violation) (waits : Bool) → course_of (of_platform g.platform) (downstream_config g.platform line) t.frame.head ≡ Stop report → t.frame.head.parties ≡ Upward (id_below line)
      → cond waits None (Some (refused_by w site report t (made w.agents.domains t.frame.domain (Refuse t.frame.number)))) ≡ Some w' → IsGuardedFabric w'
  stopped_unless report true course parties is = absurd cc
  stopped_unless report false course parties is = subst IsGuardedFabric (same_Some _ w' is) (refused report (made w.agents.domains t.frame.domain (Refuse t.frame.number)) course parties refl)

  passed_as : (class : Class) (course : Forwarding) → course_of (of_platform g.platform) (downstream_config g.platform line) t.frame.head ≡ course → Passes g.platform line t.frame course → passed_by w site class t course ≡ Some w' → IsGuardedFabric w'
  passed_as class (To output) same on is =
      let s = found (λ (x : Switch). internal_bus x == bus_of line.id) g.platform.switches on.0 on.1 in
      let node = own_node g.platform g.guarded.laws on.0 line s.0 (sym (eqb-true (internal_bus on.0) (bus_of line.id) s.1)) in
      goes_on w w' g (record { lower = id_below line; way = Up }) t k on.0 site class output s.0 node on.2 is
  passed_as class (Stop report) same on is = stopped_unless report (answer_waits w site class) same on is
  passed_as class NoCase same on is = absurd on

  pub passed_downstream : (class : Class) → passed w site class t ≡ Some w' → IsGuardedFabric w'
  passed_downstream class is =
      passed_as class (course_of (of_platform g.platform) (downstream_config g.platform line) t.frame.head) refl (passes g.platform g.guarded line listed t.frame k.sound)
      (ap (λ (r : Routes). passed_by w site class t (course_of r (downstream_config g.platform line) t.frame.head)) (sym g.of_it.routes) ∙ is)

downstream_if : (w w' : World) (g : IsGuardedFabric w) (i : ℕ) (line : DownstreamPort) (class : Class) (o : Option Taken) → IsPort g.platform line → ((t : Taken) → o ≡ Some t → SoundlyTaken w g (record { lower = id_below line; way = Up }) t)
    → option_and_then (passed w (record { number = i; node = (downstream_place g.platform line).node; config = downstream_config g.platform line }) class) o ≡ Some w' → IsGuardedFabric w'
downstream_if w w' g i line class None listed out is = absurd cc
downstream_if w w' g i line class (Some t) listed out is = passed_downstream w w' g i line listed t (out t refl) class is

-- ---- the port of an ID

-- what comes into a place that is this one, with this configuration
pub at_place : (w w' : World) (class : Class) (i : ℕ) (place same_place : PortPlace) (config : Config) → place ≡ same_place → (port_number w i).config ≡ config → passed_at w class i place ≡ Some w'
    → option_and_then (passed w (record { number = i; node = same_place.node; config = config }) class) (taken_at w.channels class same_place.input) ≡ Some w'
at_place w w' class i place same_place config at configured is =
    ap (λ (c : Config). option_and_then (passed w (record { number = i; node = same_place.node; config = c }) class) (taken_at w.channels class same_place.input)) (sym configured)
    ∙ (ap (λ (x : PortPlace). passed_at w class i x) (sym at) ∙ is)

passed_standing : (w w' : World) (kept : IsConsistent w) (g : IsGuardedFabric w) (class : Class) (i : ℕ) (place : PortPlace) → Standing g.platform place (port_number w i).config → passed_at w class i place ≡ Some w' → IsGuardedFabric w'
passed_standing w w' kept g class i place (Standing.Upstream switch listed at configured) is =
    let input = (upstream_place g.platform switch).input in
    let within = (found (λ (x : Switch). x.id == switch.id) g.platform.switches switch listed).0 in
    let brought = ap (λ (x : Tree). sender_of x.links (record { lower = switch.id; way = Down })) g.of_it.tree ∙ sym (upstream_input g.platform g.guarded.laws switch within) in
    passed_upstream w w' g i switch class (taken_at w.channels class input) listed (λ t e. soundly_taken w kept g (record { lower = switch.id; way = Down }) class input t brought e)
    (at_place w w' class i place (upstream_place g.platform switch) (upstream_config g.platform switch) at configured is)
passed_standing w w' kept g class i place (Standing.Downstream line listed at configured) is =
    let input = (downstream_place g.platform line).input in
    let brought = ap (λ (x : Tree). sender_of x.links (record { lower = id_below line; way = Up })) g.of_it.tree ∙ sym (downstream_input g.platform g.guarded.laws line) in
    downstream_if w w' g i line class (taken_at w.channels class input) listed (λ t e. soundly_taken w kept g (record { lower = id_below line; way = Up }) class input t brought e)
    (at_place w w' class i place (downstream_place g.platform line) (downstream_config g.platform line) at configured is)

passed_number_if : (w w' : World) (port : ℕ) (class : Class) (o : Option ℕ) → IsConsistent w → IsGuardedFabric w → index_of w.tree.places port ≡ o → passed_number w class o ≡ Some w' → IsGuardedFabric w'
passed_number_if w w' port class None kept g e is = absurd cc
passed_number_if w w' port class (Some i) kept g e is =
    let less = (position-Some (λ (place : PortPlace). place.id == port) w.tree.places i no_place e).0 in
    let many = kept.built.many in
    passed_standing w w' kept g class i (slice_index_or w.tree.places i no_place) (standing g.platform w port i g.of_it (omega (arith, less, many)) e) is

pub guarded_pass : (w w' : World) (port : ℕ) (class : Class) → IsConsistent w → IsGuardedFabric w → pass w port class ≡ Some w' → IsGuardedFabric w'
guarded_pass w w' port class kept g is = passed_number_if w w' port class (index_of w.tree.places port) kept g refl (sym (passes_as_turned w g port class) ∙ is)
