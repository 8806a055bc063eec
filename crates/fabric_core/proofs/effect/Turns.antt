-- The turn of a port of the fabric: what its contract says is what `pass` does.
use Rattle.std.proofs.Common.{◌≡◌, ◌≢◌, ℕ, ◌+◌, ◌≤◌, Bool, true, false, cond, List, [], ◌∷◌, ◌++◌, length, map, get_or, set, Option, Some, None, inl, inr, option_to_list, ◌⊎◌, refl, sym, ap, ◌∙◌, subst, arith}
use Rattle.std.specs.Option.{IfSome, IsSome, option_and_then, option_map}
use Rattle.std.proofs.lemmas.List.{append-nil, set-get_or}
use Rattle.fab_types.specs.declared.class.Class.{Class}
use Rattle.fab_types.specs.declared.class.Class.TheVariants.{Posted, NonPosted, Completion}
use Rattle.fab_types.specs.declared.head.Head.{Head}
use Rattle.fab_types.specs.declared.outcome.Outcome.{Outcome}
use Rattle.fab_types.specs.declared.outcome.Outcome.TheVariants.{Moved, Idle, Refused, NoMemory}
use Rattle.fab_types.specs.declared.violation.Violation.{Violation}
use Rattle.frame_log.specs.Descriptor.{Descriptor}
use Rattle.domain.specs.declared.entry.Entry.TheVariants.{Refuse}
use Rattle.domains.specs.Agents.{AgentsView, Outbox}
use Rattle.link.specs.Channels.{Channel, is_full}
use Rattle.port.specs.declared.course.Forwarding.{Forwarding}
use Rattle.port.specs.declared.course.Forwarding.TheVariants.{To, Stop, NoCase}
use Rattle.port.specs.Blocked.{course_is_blocked, eligible_is_blocked, may_refuse_answer, may_refuse_at}
use Rattle.port.specs.Configs.{Config}
use Rattle.port.specs.Courses.{IsWithin, course_of}
use Rattle.lane.specs.Lanes.{class_of, eligible}
use Rattle.port.specs.Steps.{IsOfTurn, with_put}
use Rattle.port.specs.Turns.{Advanced, Forwarded, IsStray, Moves, PortView, Rests, Settled, Sight, Stopped, Strayed}
use Rattle.port.specs.Wants.{CourseWants as PortWants}
use Rattle.lane.proofs.Waiting.{class_of-taken}
use Rattle.domains.specs.Domains.{Emits, Made, made}
use Rattle.topology.specs.declared.nodes.LinkEnd.{LinkEnd}
use Rattle.interconnect.specs.Moves.{channel_at, left_at, put_at}
use Rattle.interconnect.specs.Passes.{HasTurn, egress_of, no_port, passed_over, port_at, refused_by, sight_at}
use Rattle.interconnect.specs.Views.{InterconnectView, channels}
use Rattle.fabric_core.specs.Arrivals.{Taken, taken_at, taken_from}
use Rattle.switch_output.specs.Vetted.{may_go_on}
use Rattle.fabric_core.specs.Passing.{Site, answer_waits, answered_at, kept_by, output_end, passed, passed_by, refused_by as ended_by, strayed}
use Rattle.fabric_core.specs.Places.{IsFlown}
use Rattle.fabric_core.specs.Settling.{EntryWants}
use Rattle.fabric_core.specs.Wanting.{CourseWants, OfTaken, TurnWants}
use Rattle.fabric_core.specs.World.{World, world_over}
use Rattle.fabric_core.proofs.effect.Answered.{only_non_posted_are_answered}
use Rattle.fabric_core.proofs.effect.Outputs.{passed_nothing, passed_put, passed_same, put_nothing, refuses_at}
use Rattle.fabric_core.proofs.effect.Over.{of_parts, over_parts}

-- what the desk of a fabric says of a refusal
abbrev pub refuses : AgentsView → Descriptor → ℕ → Option Descriptor → AgentsView → Type 0
refuses known frame port answer after = (made known.domains frame.domain (Refuse frame.number) ≡ Some (record { domains = after.domains; sent = answer })) × (after.outboxes ≡ known.outboxes)

abbrev pub unknown : AgentsView → Descriptor → ℕ → Type 0
unknown known frame port = made known.domains frame.domain (Refuse frame.number) ≡ None

abbrev pub wants : AgentsView → Descriptor → ℕ → Type 0
wants known frame port = Emits (made known.domains frame.domain (Refuse frame.number))

-- ---- parts of a port and of what it sees

port_is : (p q : PortView) → q.config ≡ p.config → q.held ≡ p.held → q.kept ≡ p.kept → q.strays ≡ p.strays → q ≡ p
port_is p q config held kept strays =
    ap (λ (c : Config). record { config = c; held = q.held; kept = q.kept; strays = q.strays }) config
    ∙ (ap (λ (h : Option Violation). record { config = p.config; held = h; kept = q.kept; strays = q.strays }) held
    ∙ (ap (λ (k : Option Descriptor). record { config = p.config; held = p.held; kept = k; strays = q.strays }) kept
    ∙ ap (λ (s : List Descriptor). record { config = p.config; held = p.held; kept = p.kept; strays = s }) strays))

-- what settles with nothing kept is as it was
sight_settled : (own : ℕ) (s t : Sight AgentsView) → s.kept ≡ None → Settled own s t → t ≡ s
sight_settled own s t none settled =
    let outs : t.outs ≡ s.outs = settled.put ∙ (ap (λ (o : Option Descriptor). with_put s.outs own (option_to_list o)) none ∙ put_nothing s.outs own) in
    let kept : t.kept ≡ s.kept = settled.kept ∙ sym none in
    let same = settled.same in
    ap (λ (w : List Descriptor). record { waiting = w; outs = t.outs; known = t.known; reported = t.reported; held = t.held; kept = t.kept; strays = t.strays }) same.0
    ∙ (ap (λ (o : List (List Descriptor)). record { waiting = s.waiting; outs = o; known = t.known; reported = t.reported; held = t.held; kept = t.kept; strays = t.strays }) outs
    ∙ (ap (λ (e : AgentsView). record { waiting = s.waiting; outs = s.outs; known = e; reported = t.reported; held = t.held; kept = t.kept; strays = t.strays }) same.1
    ∙ (ap (λ (r : List Violation). record { waiting = s.waiting; outs = s.outs; known = s.known; reported = r; held = t.held; kept = t.kept; strays = t.strays }) same.2
    ∙ (ap (λ (h : Option Violation). record { waiting = s.waiting; outs = s.outs; known = s.known; reported = s.reported; held = h; kept = t.kept; strays = t.strays }) same.3
    ∙ (ap (λ (k : Option Descriptor). record { waiting = s.waiting; outs = s.outs; known = s.known; reported = s.reported; held = s.held; kept = k; strays = t.strays }) kept
    ∙ ap (λ (l : List Descriptor). record { waiting = s.waiting; outs = s.outs; known = s.known; reported = s.reported; held = s.held; kept = s.kept; strays = l }) same.4)))))

sight_rests : (own : ℕ) (s t : Sight AgentsView) → s.kept ≡ None → Rests own s t → t ≡ s
sight_rests own s t none (inl same) = same
sight_rests own s t none (inr settled) = sight_settled own s t none settled

-- ---- where it is blocked

-- the outputs that a course may name, and the port's own, are there
pub record HasOutputs (cs : List (List Channel)) (node : ℕ) (config : Config) : Type 0 where
  pub ways : length (get_or cs node []) ≡ length config.exits + 1
  pub own : config.own ≤ length config.exits

module _ (w : World) (site : Site) (class : Class) (outputs : HasOutputs w.channels site.node site.config) where
  abbrev refusing : List (Class → Bool)
  refusing = map refused_by (get_or w.channels site.node [])

  output_is : (output : ℕ) (k : Class) → output ≤ length site.config.exits → may_refuse_at refusing output k ≡ is_full k (channel_at w.channels (output_end site output))
  output_is output k within = refuses_at (get_or w.channels site.node []) output k (let many = outputs.ways in omega (arith, many))

  waits_is : (k : Class) → may_refuse_answer (may_refuse_at refusing site.config.own) k ≡ answer_waits w site k
  waits_is Posted = refl
  waits_is NonPosted = output_is site.config.own Completion outputs.own
  waits_is Completion = refl

  pub passed_none : (t : Taken) (c : Forwarding) → IsWithin (length site.config.exits) c → course_is_blocked refusing site.config.own class c ≡ true → passed_by w site class t c ≡ None
  passed_none t (To output) within blocked = rw (sym (output_is output class within) ∙ blocked) refl
  passed_none t (Stop report) within blocked = rw (sym (waits_is class) ∙ blocked) refl
  passed_none t NoCase within blocked = absurd cc

  pub output_free : (output : ℕ) → IsWithin (length site.config.exits) (To output) → course_is_blocked refusing site.config.own class (To output) ≡ false → is_full class (channel_at w.channels (output_end site output)) ≡ false
  output_free output within free = sym (output_is output class within) ∙ free

  pub answer_free : (report : Option Violation) → course_is_blocked refusing site.config.own class (Stop report) ≡ false → answer_waits w site class ≡ false
  answer_free report free = sym (waits_is class) ∙ free

  some_if : (a b : Bool) (x y : World) → a ≡ false → IsSome (cond a None (cond b (Some x) (Some y)))
  some_if false true x y e = refl
  some_if false false x y e = refl
  some_if true b x y e = absurd cc

  some_unless : (a : Bool) (x : World) → a ≡ false → IsSome (cond a None (Some x))
  some_unless false x e = refl
  some_unless true x e = absurd cc

  pub passed_some : (t : Taken) (c : Forwarding) → IsWithin (length site.config.exits) c → course_is_blocked refusing site.config.own class c ≡ false → IsSome (passed_by w site class t c)
  passed_some t (To output) within free = some_if _ _ _ _ (output_free output within free)
  passed_some t (Stop report) within free = some_unless _ _ (answer_free report free)
  passed_some t NoCase within free = refl

-- ---- the parts that a turn leaves

module _ (h new : InterconnectView) (agents agents' : AgentsView) (violations violations' : List Violation) (strays : List Descriptor) (class : Class) (outcome : Outcome) (i node : ℕ) (input : LinkEnd)
    (t : HasTurn refuses unknown wants true class outcome agents agents' violations violations' h new i node input)
    (held_none : (port_at h i).held ≡ None) (kept_none : (port_at h i).kept ≡ None) (apart : input.node ≢ node) (outputs : HasOutputs (channels h) node (port_at h i).config)
    (within : (head : Head) → IsWithin (length (port_at h i).config.exits) (course_of h.routes (port_at h i).config head))
    (flown : (frame : Descriptor) (left : List Descriptor) → eligible class (channel_at (channels h) input).ingress ≡ Some (frame, left) → IsFlown agents.domains frame) where
  abbrev old_port : PortView
  old_port = port_at h i

  abbrev new_port : PortView
  new_port = port_at new i

  abbrev here : World
  here = world_over h agents violations strays

  abbrev there : World
  there = world_over new agents' violations' strays

  abbrev site : Site
  site = record { number = i; node = node; config = old_port.config }

  abbrev seen : Sight AgentsView
  seen = sight_at (channels h) node input agents violations old_port

  abbrev seen' : Sight AgentsView
  seen' = sight_at (channels new) node input agents' violations' new_port

  abbrev row : List Channel
  row = get_or (channels h) node []

  abbrev blocks : Forwarding → Type 0
  blocks c = course_is_blocked (map refused_by row) old_port.config.own class c ≡ false

  -- what the port's turn is, as an event does it
  abbrev pub effect_here : Option World
  effect_here = option_and_then (passed here site class) (taken_at (channels h) class (Some input))

  abbrev taken : Descriptor → List Descriptor → Taken
  taken frame left = record { frame = frame; channels = left_at (channels h) input left }

  effect_of : (frame : Descriptor) (left : List Descriptor) → eligible class seen.waiting ≡ Some (frame, left) → effect_here ≡ passed_by here site class (taken frame left) (course_of h.routes old_port.config frame.head)
  effect_of frame left found = ap (λ (o : Option (Descriptor × List Descriptor)). option_and_then (passed here site class) (option_map (taken_from (channels h) input) o)) found

  free_of : outcome ≢ Idle → (frame : Descriptor) (left : List Descriptor) → eligible class seen.waiting ≡ Some (frame, left) → blocks (course_of h.routes old_port.config frame.head)
  free_of busy frame left found =
      ap (λ (o : Option (Descriptor × List Descriptor)). eligible_is_blocked h.routes old_port.config (map refused_by row) class o) (sym found) ∙ t.turned.free held_none kept_none busy

  -- ---- nothing moved

  same_ports : new_port ≡ old_port → new.ports ≡ h.ports
  same_ports same = t.others ∙ (ap (set h.ports i) same ∙ set-get_or h.ports i no_port)

  same_world : seen' ≡ seen → there ≡ here
  same_world same =
      let port = port_is old_port new_port t.turned.config (ap (λ (s : Sight AgentsView). s.held) same) (ap (λ (s : Sight AgentsView). s.kept) same) (ap (λ (s : Sight AgentsView). s.strays) same) in
      let cs : channels new ≡ channels h =
      (t.passed
      ∙ (ap (λ (w : List Descriptor). passed_over (channels h) node input w (map egress_of (get_or (channels new) node []))) (ap (λ (s : Sight AgentsView). s.waiting) same)
      ∙ (ap (λ (o : List (List Descriptor)). passed_over (channels h) node input seen.waiting o) (ap (λ (s : Sight AgentsView). s.outs) same) ∙ passed_same (channels h) node input))) in
      over_parts h new (channels h) h.ports agents agents' violations violations' strays t.tree t.routes cs (same_ports port) (ap (λ (s : Sight AgentsView). s.known) same) (ap (λ (s : Sight AgentsView). s.reported) same)

  rested : outcome ≢ Moved → there ≡ here
  rested still = same_world (sight_rests old_port.config.own seen seen' kept_none (t.turned.rests still))

  -- a blocked turn does nothing
  blocked_none : (o : Option (Descriptor × List Descriptor)) → o ≡ eligible class seen.waiting → eligible_is_blocked h.routes old_port.config (map refused_by row) class o ≡ true
      → option_and_then (passed here site class) (option_map (taken_from (channels h) input) o) ≡ None
  blocked_none None from blocked = refl
  blocked_none (Some found) from blocked = passed_none here site class outputs (taken found.0 found.1) (course_of h.routes old_port.config found.0.head) (within found.0.head) blocked

  free_some : (o : Option (Descriptor × List Descriptor)) → eligible_is_blocked h.routes old_port.config (map refused_by row) class o ≡ false
      → IsSome (option_and_then (passed here site class) (option_map (taken_from (channels h) input) o))
  free_some None free = absurd cc
  free_some (Some found) free = passed_some here site class outputs (taken found.0 found.1) (course_of h.routes old_port.config found.0.head) (within found.0.head) free

  -- ---- a packet went on

  forward : (f : Forwarded h.routes old_port.config class seen seen') → outcome ≢ Idle → effect_here ≡ Some there
  forward f busy =
      let same = f.same in
      let free = free_of busy f.frame seen'.waiting f.taken in
      let full = output_free here site class outputs f.lane (subst (IsWithin (length old_port.config.exits)) f.course (within f.frame.head)) (subst blocks f.course free) in
      let port = port_is old_port new_port t.turned.config same.2 same.3 same.4 in
      let cs : channels new ≡ put_at (left_at (channels h) input seen'.waiting) (output_end site f.lane) f.frame =
      (t.passed ∙ (ap (λ (o : List (List Descriptor)). passed_over (channels h) node input seen'.waiting o) f.put ∙ passed_put (channels h) node f.lane input seen'.waiting f.frame apart)) in
      effect_of f.frame seen'.waiting f.taken
      ∙ (ap (passed_by here site class (taken f.frame seen'.waiting)) f.course
      ∙ (ap (λ (b : Bool). cond b None (cond (may_go_on here.routes.ports f.frame) (Some (of_parts h.tree h.routes (put_at (left_at (channels h) input seen'.waiting) (output_end site f.lane) f.frame) h.ports agents violations strays)) (Some (strayed here site (taken f.frame seen'.waiting))))) full
      ∙ (ap (λ (b : Bool). cond b (Some (of_parts h.tree h.routes (put_at (left_at (channels h) input seen'.waiting) (output_end site f.lane) f.frame) h.ports agents violations strays)) (Some (strayed here site (taken f.frame seen'.waiting)))) f.own
      ∙ ap (λ (w : World). Some w) (sym (over_parts h new (put_at (left_at (channels h) input seen'.waiting) (output_end site f.lane) f.frame) h.ports agents agents' violations violations' strays t.tree t.routes cs (same_ports port) same.0 same.1)))))

  -- ---- a packet is kept

  stray_world : (s : Strayed unknown h.routes old_port.config class seen seen') → there ≡ strayed here site (taken s.frame seen'.waiting)
  stray_world s =
      let same = s.same in
      let port : new_port ≡ kept_by old_port s.frame = port_is (kept_by old_port s.frame) new_port t.turned.config same.3 same.4 s.strays in
      let cs : channels new ≡ left_at (channels h) input seen'.waiting =
      (t.passed ∙ (ap (λ (o : List (List Descriptor)). passed_over (channels h) node input seen'.waiting o) same.0 ∙ passed_nothing (channels h) node input seen'.waiting)) in
      over_parts h new (left_at (channels h) input seen'.waiting) (set h.ports i (kept_by old_port s.frame)) agents agents' violations violations' strays t.tree t.routes cs (t.others ∙ ap (set h.ports i) port) same.1 same.2

  stray_by : (s : Strayed unknown h.routes old_port.config class seen seen') → blocks (course_of h.routes old_port.config s.frame.head) → IsStray unknown h.routes old_port.config agents s.frame
      → passed_by here site class (taken s.frame seen'.waiting) (course_of h.routes old_port.config s.frame.head) ≡ Some (strayed here site (taken s.frame seen'.waiting))
  stray_by s free (inl course) = ap (passed_by here site class (taken s.frame seen'.waiting)) course
  stray_by s free (inr (inl other)) =
      let full = output_free here site class outputs other.0 (subst (IsWithin (length old_port.config.exits)) other.1 (within s.frame.head)) (subst blocks other.1 free) in
      ap (passed_by here site class (taken s.frame seen'.waiting)) other.1 ∙ rw (full, other.2) refl
  stray_by s free (inr (inr other)) =
      let waits = answer_free here site class outputs other.0 (subst blocks other.1 free) in
      ap (passed_by here site class (taken s.frame seen'.waiting)) other.1 ∙ rw (waits, other.2) refl

  stray : (s : Strayed unknown h.routes old_port.config class seen seen') → outcome ≢ Idle → effect_here ≡ Some there
  stray s busy =
      effect_of s.frame seen'.waiting s.taken
      ∙ (stray_by s (free_of busy s.frame seen'.waiting s.taken) s.stray ∙ ap (λ (w : World). Some w) (sym (stray_world s)))

  -- ---- a packet was stopped

  -- nothing is kept, since the port's own output has a place for an answer
  not_kept : (s : Stopped refuses h.routes old_port.config class seen seen') → outcome ≢ Idle → (k : Option Descriptor) → k ≡ seen'.kept → k ≡ None
  not_kept s busy None is = refl
  not_kept s busy (Some kept) is =
      let answer : s.answer ≡ Some kept = only_answer s.put kept s.answer (ap (λ (k : Option Descriptor). s.put ++ option_to_list k) is ∙ s.answered) in
      let both = only_non_posted_are_answered agents.domains s.frame (record { domains = agents'.domains; sent = s.answer }) (flown s.frame seen'.waiting s.taken) s.refused.0 kept answer in
      let is_class : class ≡ NonPosted = sym (class_of-taken class seen.waiting seen'.waiting s.frame s.taken) ∙ both.0 in
      let free : may_refuse_answer (may_refuse_at (map refused_by row) old_port.config.own) class ≡ false = subst blocks s.course (free_of busy s.frame seen'.waiting s.taken) in
      let open_output : may_refuse_at (map refused_by row) old_port.config.own Completion ≡ false = subst (λ (k : Class). may_refuse_answer (may_refuse_at (map refused_by row) old_port.config.own) k ≡ false) is_class free in
      let full : may_refuse_at (map refused_by row) old_port.config.own (class_of kept) ≡ true = subst (λ (k : Option Descriptor). IfSome k (λ answer. may_refuse_at (map refused_by row) old_port.config.own (class_of answer) ≡ true)) (sym is) (t.turned.kept kept_none) in
      absurd (true_false (sym (subst (λ (k : Class). may_refuse_at (map refused_by row) old_port.config.own k ≡ true) both.1 full) ∙ open_output))
    where
      true_false : true ≡ false → ⊥
      true_false e = absurd cc

      only_answer : (put : List Descriptor) (kept : Descriptor) (answer : Option Descriptor) → put ++ kept ∷ [] ≡ option_to_list answer → answer ≡ Some kept
      only_answer [] kept (Some a) e = cc
      only_answer [] kept None e = absurd cc
      only_answer (x ∷ []) kept (Some a) e = absurd cc
      only_answer (x ∷ y ∷ put) kept (Some a) e = absurd cc
      only_answer (x ∷ put) kept None e = absurd cc

  -- the answer, if any, is in the port's own output
  answer_world : (put : List Descriptor) (answer : Option Descriptor) → put ≡ option_to_list answer → (left : List Descriptor)
      → passed_over (channels h) node input left (with_put (map egress_of row) old_port.config.own put) ≡ answered_at (left_at (channels h) input left) (output_end site old_port.config.own) answer
  answer_world put None is left =
      ap (λ (p : List Descriptor). passed_over (channels h) node input left (with_put (map egress_of row) old_port.config.own p)) is
      ∙ (ap (λ (o : List (List Descriptor)). passed_over (channels h) node input left o) (put_nothing (map egress_of row) old_port.config.own) ∙ passed_nothing (channels h) node input left)
  answer_world put (Some answer) is left =
      ap (λ (p : List Descriptor). passed_over (channels h) node input left (with_put (map egress_of row) old_port.config.own p)) is ∙ passed_put (channels h) node old_port.config.own input left answer apart

  stop : (s : Stopped refuses h.routes old_port.config class seen seen') → outcome ≢ Idle → effect_here ≡ Some there
  stop s busy =
      let free = free_of busy s.frame seen'.waiting s.taken in
      let waits = answer_free here site class outputs s.report (subst blocks s.course free) in
      let kept : seen'.kept ≡ None = not_kept s busy seen'.kept refl in
      let held : seen'.held ≡ None = t.turned.held refl held_none in
      let put : s.put ≡ option_to_list s.answer = sym (append-nil s.put) ∙ (ap (λ (k : Option Descriptor). s.put ++ option_to_list k) (sym kept) ∙ s.answered) in
      let told : violations' ≡ violations ++ option_to_list s.report = sym (append-nil violations') ∙ (ap (λ (v : Option Violation). violations' ++ option_to_list v) (sym held) ∙ sym s.told) in
      let port = port_is old_port new_port t.turned.config (held ∙ sym held_none) (kept ∙ sym kept_none) s.strays in
      let made_is : Option Made = Some (record { domains = agents'.domains; sent = s.answer }) in
      let cs : channels new ≡ answered_at (left_at (channels h) input seen'.waiting) (output_end site old_port.config.own) s.answer =
      (t.passed ∙ (ap (λ (o : List (List Descriptor)). passed_over (channels h) node input seen'.waiting o) s.outs ∙ answer_world s.put s.answer put seen'.waiting)) in
      let is_agents : agents' ≡ record { domains = agents'.domains; outboxes = agents.outboxes } = ap (λ (o : List Outbox). record { domains = agents'.domains; outboxes = o }) s.refused.1 in
      effect_of s.frame seen'.waiting s.taken
      ∙ (ap (passed_by here site class (taken s.frame seen'.waiting)) s.course
      ∙ (ap (λ (b : Bool). cond b None (Some (ended_by here site s.report (taken s.frame seen'.waiting) (made agents.domains s.frame.domain (Refuse s.frame.number))))) waits
      ∙ (ap (λ (m : Option Made). Some (ended_by here site s.report (taken s.frame seen'.waiting) m)) s.refused.0
      ∙ ap (λ (w : World). Some w)
      (sym (over_parts h new (answered_at (left_at (channels h) input seen'.waiting) (output_end site old_port.config.own) s.answer) h.ports (record { domains = agents'.domains; outboxes = agents.outboxes }) agents' (violations ++ option_to_list s.report) violations' strays t.tree t.routes cs (same_ports port) is_agents told)))))

  -- ---- what moved

  advanced : Advanced refuses unknown h.routes old_port.config class seen seen' → outcome ≢ Idle → effect_here ≡ Some there
  advanced (inl f) busy = forward f busy
  advanced (inr (inl s)) busy = stop s busy
  advanced (inr (inr s)) busy = stray s busy

  none_some : (o : Option Violation) (v : Violation) → o ≡ None → o ≡ Some v → ⊥
  none_some o v none some = absurd cc

  moved : Moves refuses unknown h.routes old_port.config class seen seen' → outcome ≢ Idle → effect_here ≡ Some there
  moved (inl told) busy = absurd (none_some old_port.held told.violation held_none told.was_held)
  moved (inr progress) busy =
      advanced (subst (λ (s : Sight AgentsView). Advanced refuses unknown h.routes old_port.config class s seen') (sight_settled old_port.config.own seen progress.between kept_none progress.settled) progress.advanced) busy

  -- ---- for what memory is wanted

  wants_entry : (m : Option Made) → Emits m ⊎ (m ≡ None) → EntryWants m
  wants_entry None (inl emits) = tt
  wants_entry None (inr none) = tt
  wants_entry (Some m) (inl emits) = emits
  wants_entry (Some m) (inr none) = absurd cc

  wants_by : (frame : Descriptor) (left : List Descriptor) (c : Forwarding) → PortWants wants unknown h.routes old_port.config agents frame c → CourseWants here site (taken frame left) c
  wants_by frame left (To output) wanted = wanted
  wants_by frame left (Stop None) wanted = wants_entry (made agents.domains frame.domain (Refuse frame.number)) wanted
  wants_by frame left (Stop (Some report)) wanted = wanted
  wants_by frame left NoCase wanted = wanted

  wanted : outcome ≡ NoMemory → OfTaken (TurnWants here site) (taken_at (channels h) class (Some input))
  wanted is =
      let a = t.turned.memory is in
      subst (λ (o : Option (Descriptor × List Descriptor)). OfTaken (TurnWants here site) (option_map (taken_from (channels h) input) o)) (sym a.taken)
      (wants_by a.frame a.rest (course_of h.routes old_port.config a.frame.head) a.is_such)

  -- a turn by its outcome
  abbrev pub Turns : Outcome → Type 0
  Turns Moved = effect_here ≡ Some there
  Turns Idle = (effect_here ≡ None) × (there ≡ here)
  Turns (Refused fault) = ⊥
  Turns NoMemory = IsSome effect_here × OfTaken (TurnWants here site) (taken_at (channels h) class (Some input)) × (there ≡ here)

  pub turns : (o : Outcome) → outcome ≡ o → Turns o
  turns Moved is = moved (t.turned.moved is) (λ idle. absurd (let e : Moved ≡ Idle = sym is ∙ idle in cc))
  turns Idle is = (
    blocked_none (eligible class seen.waiting) refl (t.turned.blocked held_none kept_none is),
    rested (λ e. absurd (let x : Idle ≡ Moved = sym is ∙ e in cc)),
  )
  turns (Refused fault) is = subst IsOfTurn is t.turned.answer
  turns NoMemory is = (
    free_some (eligible class seen.waiting) (t.turned.free held_none kept_none (λ e. absurd (let x : NoMemory ≡ Idle = sym is ∙ e in cc))),
    wanted is,
    rested (λ e. absurd (let x : NoMemory ≡ Moved = sym is ∙ e in cc)),
  )
