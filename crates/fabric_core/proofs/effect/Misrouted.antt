-- What a port does with a packet that it has no case for, as its event does it.
use Rattle.std.proofs.Common.{◌≡◌, ℕ, Bool, true, false, ◌&&◌, cond, List, ◌++◌, Option, Some, None, refl, sym, ap, ◌∙◌, subst}
use Rattle.std.specs.Prelude.{option_to_list, slice_index_or}
use Rattle.std.specs.Option.{IsSome, is_some, option_and_then, option_map}
use Rattle.fab_types.specs.declared.class.Class.{Class}
use Rattle.fab_types.specs.declared.class.Class.TheVariants.{Completion}
use Rattle.fab_types.specs.declared.outcome.Outcome.{Outcome}
use Rattle.fab_types.specs.declared.outcome.Outcome.TheVariants.{Moved, Idle, Refused, NoMemory}
use Rattle.fab_types.specs.declared.violation.Violation.{Violation}
use Rattle.frame_log.specs.Descriptor.{Descriptor}
use Rattle.domains.specs.Agents.{AgentsView}
use Rattle.link.specs.Channels.{Channel, is_full}
use Rattle.port.specs.Courses.{course_of}
use Rattle.port.specs.declared.course.Forwarding.{Forwarding}
use Rattle.port.specs.declared.course.Forwarding.TheVariants.{To, Stop, NoCase}
use Rattle.lane.specs.Lanes.{eligible}
use Rattle.domains.specs.Aliens.{aliened, answers}
use Rattle.domains.specs.Domains.{Made}
use Rattle.topology.specs.declared.nodes.LinkEnd.{LinkEnd}
use Rattle.interconnect.specs.declared.misrouted.Misrouted.{Misrouted}
use Rattle.interconnect.specs.Misrouted.{misrouted_among, misrouted_by, misrouted_from, misrouted_number, misrouted_of}
use Rattle.interconnect.specs.Moves.{channel_at, left_at}
use Rattle.interconnect.specs.Passes.{Passes, index_of, no_place}
use Rattle.link.specs.Simplexes.{simplex_restored}
use Rattle.interconnect.specs.Views.{InterconnectView, IsSameRest, channels, simplex_at}
use Rattle.interconnect.proofs.Room.{full_left}
use Rattle.fabric_core.specs.declared.event.Event.TheVariants.{Pass}
use Rattle.fabric_core.specs.Arrivals.{Taken, taken_at, taken_from}
use Rattle.fabric_core.specs.Events.{StepsTo}
use Rattle.fabric_core.specs.Invariant.{IsConsistent}
use Rattle.fabric_core.specs.Misrouting.{Misrouting, is_at_port_of, misrouting, misrouting_by, misrouting_to, misrouting_with, misrouted, pass, passed_unless, without_misrouted}
use Rattle.fabric_core.specs.Passing.{Site, answered_at, site_at}
use Rattle.fabric_core.specs.Settling.{IsLeft, IsMisrouted, Misroutes, must_wait}
use Rattle.fabric_core.specs.Wanting.{CourseWants, NumberWants, OfTaken, TurnWants}
use Rattle.fabric_core.specs.World.{World, world_over}
use Rattle.fabric_core.proofs.effect.Outputs.{left_back}
use Rattle.fabric_core.proofs.effect.Over.{over_parts, over_same, rest_after}
use Rattle.fabric_core.proofs.effect.Passages.{pass_step}
use Rattle.fabric_core.proofs.effect.Settled.{Took}
use Rattle.fabric_core.proofs.effect.Turns.{refuses, unknown, wants}

abbrev some : {A : Type 0} → A → Option A
some x = Some x

-- what is known of a packet that was taken there
pub record Found (h : InterconnectView) (port : ℕ) (class : Class) (misrouted : Misrouted) (frame : Descriptor) (left : List Descriptor) : Type 0 where
  pub misrouted_is : misrouted_among h.tree h.routes (channels h) h.ports port class ≡ Some misrouted
  pub found : eligible class (channel_at (channels h) misrouted.input).ingress ≡ Some (frame, left)

abbrev pub gone : InterconnectView → Misrouted → Descriptor → List Descriptor → Taken
gone h misrouted frame left = record { frame = frame; channels = left_at (channels h) misrouted.input left }

-- the port has a case for what waits, or nothing waits
pub nothing_misrouted : (h : InterconnectView) (agents : AgentsView) (violations : List Violation) (strays : List Descriptor) (port : ℕ) (class : Class) → misrouted_among h.tree h.routes (channels h) h.ports port class ≡ None
    → misrouting (world_over h agents violations strays) port class ≡ None
nothing_misrouted h agents violations strays port class none = ap (misrouting_by (world_over h agents violations strays) class) none

misrouting_is : (h : InterconnectView) (agents : AgentsView) (violations : List Violation) (strays : List Descriptor) (port : ℕ) (class : Class) (misrouted : Misrouted) (frame : Descriptor) (left : List Descriptor) → Found h port class misrouted frame left
    → misrouting (world_over h agents violations strays) port class ≡ misrouting_to (world_over h agents violations strays) misrouted (gone h misrouted frame left)
misrouting_is h agents violations strays port class misrouted frame left f =
    let w = world_over h agents violations strays in
    ap (misrouting_by w class) f.misrouted_is
    ∙ ap (λ (o : Option (Descriptor × List Descriptor)). option_and_then (misrouting_to w misrouted) (option_map (taken_from (channels h) misrouted.input) o)) f.found

and_false : (ports : Bool) (misrouted : Misrouted) (t : Taken) (all : Option Made) → (ports && is_some all) ≡ false → cond ports (misrouting_with misrouted t all) None ≡ None
and_false false misrouted t all e = refl
and_false true misrouted t None e = refl
and_false true misrouted t (Some m) e = absurd cc

-- its home has no entry for it
pub keeps_it : (h : InterconnectView) (agents : AgentsView) (violations : List Violation) (strays : List Descriptor) (port : ℕ) (class : Class) (misrouted : Misrouted) (frame : Descriptor) (left : List Descriptor) → Found h port class misrouted frame left
    → (is_at_port_of agents.domains frame.domain misrouted.place && is_some (aliened agents.domains frame.domain misrouted.place frame)) ≡ false → misrouting (world_over h agents violations strays) port class ≡ None
keeps_it h agents violations strays port class misrouted frame left f none =
    misrouting_is h agents violations strays port class misrouted frame left f
    ∙ and_false (is_at_port_of agents.domains frame.domain misrouted.place) misrouted (gone h misrouted frame left) (aliened agents.domains frame.domain misrouted.place frame) none

pub first_of : (a b : Bool) → (a && b) ≡ true → a ≡ true
first_of true b e = refl
first_of false b e = absurd cc

pub second_of : (a b : Bool) → (a && b) ≡ true → b ≡ true
second_of true b e = e
second_of false b e = absurd cc

pub some_made : (o : Option Made) → is_some o ≡ true → (m : Made) × (o ≡ Some m)
some_made None e = absurd cc
some_made (Some m) e = (m, refl)

-- its home has an entry, which makes this
pub misroutes_it : (h : InterconnectView) (agents : AgentsView) (violations : List Violation) (strays : List Descriptor) (port : ℕ) (class : Class) (misrouted : Misrouted) (frame : Descriptor) (left : List Descriptor) (m : Made) → Found h port class misrouted frame left
    → is_at_port_of agents.domains frame.domain misrouted.place ≡ true → aliened agents.domains frame.domain misrouted.place frame ≡ Some m
    → misrouting (world_over h agents violations strays) port class ≡ Some (record { misrouted = misrouted; taken = gone h misrouted frame left; made = m })
misroutes_it h agents violations strays port class misrouted frame left m f ports is =
    misrouting_is h agents violations strays port class misrouted frame left f
    ∙ (ap (λ (b : Bool). cond b (misrouting_with misrouted (gone h misrouted frame left) (aliened agents.domains frame.domain misrouted.place frame)) None) ports ∙ ap (misrouting_with misrouted (gone h misrouted frame left)) is)

-- ---- where the port has its turn

-- it was looked at before, which changed nothing
pub turned_step : (h mid new : InterconnectView) (agents agents' : AgentsView) (violations violations' : List Violation) (strays : List Descriptor) (class : Class) (outcome : Outcome) (port : ℕ) → IsConsistent (world_over h agents violations strays)
    → IsSameRest h mid → channels mid ≡ channels h → misrouting (world_over h agents violations strays) port class ≡ None
    → Passes refuses unknown wants true class outcome agents agents' violations violations' mid new (index_of mid.tree.places port) → StepsTo (world_over h agents violations strays) (Pass port class) outcome (world_over new agents' violations' strays)
turned_step h mid new agents agents' violations violations' strays class outcome port kept rest cs nothing passes =
    let same : world_over mid agents violations strays ≡ world_over h agents violations strays = over_same h mid agents violations strays rest cs in
    subst (λ (w : World). StepsTo w (Pass port class) outcome (world_over new agents' violations' strays)) same
    (pass_step mid new agents agents' violations violations' strays class outcome (subst IsConsistent (sym same) kept) port (ap (λ (w : World). misrouting w port class) same ∙ nothing) passes)

-- ---- where memory may be wanted

wants_course : (w : World) (site : Site) (t : Taken) (input : LinkEnd) (course : Forwarding) (misrouted : Misrouted) → misrouted_by w.routes site.node input site.config t.frame.head course ≡ Some misrouted → CourseWants w site t course
wants_course w site t input (To output) misrouted e = absurd cc
wants_course w site t input (Stop report) misrouted e = absurd cc
wants_course w site t input NoCase misrouted e = tt

wants_taken : (w : World) (site : Site) (input : LinkEnd) (o : Option (Descriptor × List Descriptor)) (misrouted : Misrouted) → misrouted_of w.routes site.node input site.config o ≡ Some misrouted → OfTaken (TurnWants w site) (option_map (taken_from w.channels input) o)
wants_taken w site input None misrouted e = absurd cc
wants_taken w site input (Some found) misrouted e = wants_course w site (taken_from w.channels input found) input (course_of w.routes site.config found.0.head) misrouted e

wants_input : (w : World) (site : Site) (class : Class) (input : Option LinkEnd) (misrouted : Misrouted) → misrouted_from w.routes w.channels class site.config site.node input ≡ Some misrouted → OfTaken (TurnWants w site) (taken_at w.channels class input)
wants_input w site class None misrouted e = absurd cc
wants_input w site class (Some input) misrouted e = wants_taken w site input (eligible class (channel_at w.channels input).ingress) misrouted e

wants_number : (w : World) (class : Class) (o : Option ℕ) (misrouted : Misrouted) → misrouted_number w.tree w.routes w.channels w.ports class o ≡ Some misrouted → NumberWants w class o
wants_number w class None misrouted e = absurd cc
wants_number w class (Some i) misrouted e = let place = slice_index_or w.tree.places i no_place in wants_input w (site_at w i place) class place.input misrouted e

-- it was put back where it was taken
pub was_back : (h taking back : InterconnectView) (end : LinkEnd) (class : Class) (frame : Descriptor) (t : Took h taking end class frame)
    → ((waiting : List Descriptor) → simplex_restored (simplex_at taking.nodes end) frame ≡ Some waiting → channels back ≡ left_at (channels taking) end waiting) → channels back ≡ channels h
was_back h taking back end class frame t waiting =
    waiting (channel_at (channels h) end).ingress t.restores
    ∙ (ap (λ (cs : List (List Channel)). left_at cs end (channel_at (channels h) end).ingress) t.now ∙ left_back (channels h) end t.left)

-- ---- what becomes of a packet that is misrouted

module _ (h taking new : InterconnectView) (agents agents' : AgentsView) (violations violations' : List Violation) (strays : List Descriptor) (port : ℕ) (class : Class) (misrouted_one : Misrouted) (frame : Descriptor) (m : Made)
    (t : Took h taking misrouted_one.input class frame) (misrouted_is : misrouted_among h.tree h.routes (channels h) h.ports port class ≡ Some misrouted_one)
    (at_port : is_at_port_of agents.domains frame.domain misrouted_one.place ≡ true) (made_is : aliened agents.domains frame.domain misrouted_one.place frame ≡ Some m) where
  abbrev here : World
  here = world_over h agents violations strays

  abbrev there : World
  there = world_over new agents' violations' strays

  abbrev misroute : Misrouting
  misroute = record { misrouted = misrouted_one; taken = gone h misrouted_one frame t.left; made = m }

  misrouting_here : misrouting here port class ≡ Some misroute
  misrouting_here = misroutes_it h agents violations strays port class misrouted_one frame t.left m (record { misrouted_is = misrouted_is; found = t.found }) at_port made_is

  effect_is : pass here port class ≡ misrouted here misroute
  effect_is = ap (passed_unless here port class) misrouting_here

  -- what is full at the port's own output does not depend on what was taken
  waits_is : must_wait taking misrouted_one m ≡ (answers (Some m) && is_full Completion (channel_at (channels h) misrouted_one.own))
  waits_is =
      ap (λ (b : Bool). answers (Some m) && b)
      (ap (λ (cs : List (List Channel)). is_full Completion (channel_at cs misrouted_one.own)) t.now ∙ full_left (channels h) misrouted_one.input misrouted_one.own t.left Completion)

  effect_if : (waits : Bool) → must_wait taking misrouted_one m ≡ waits → pass here port class ≡ cond waits None (Some (without_misrouted here misroute))
  effect_if waits is = effect_is ∙ ap (λ (b : Bool). cond b None (Some (without_misrouted here misroute))) (sym waits_is ∙ is)

  gone_is : IsMisrouted taking new agents agents' violations violations' misrouted_one m → there ≡ without_misrouted here misroute
  gone_is l =
      let rest = rest_after h taking new t.rest l.rest in
      over_parts h new (answered_at (left_at (channels h) misrouted_one.input t.left) misrouted_one.own m.sent) h.ports (record { domains = m.domains; outboxes = agents.outboxes }) agents' (violations ++ option_to_list misrouted_one.report) violations' strays rest.tree rest.routes
      (l.answered ∙ ap (λ (cs : List (List Channel)). answered_at cs misrouted_one.own m.sent) t.now) rest.ports l.entered l.told

  left_is : IsLeft taking new agents agents' violations violations' misrouted_one frame → there ≡ here
  left_is l =
      ap (λ (e : AgentsView). world_over new e violations' strays) l.same
      ∙ (ap (λ (v : List Violation). world_over new agents v strays) l.told
      ∙ over_same h new agents violations strays (rest_after h taking new t.rest l.back.rest) (was_back h taking new misrouted_one.input class frame t l.back.waiting))

  pub misroute_step : (outcome : Outcome) → Misroutes taking new agents agents' violations violations' misrouted_one frame m outcome → StepsTo here (Pass port class) outcome there
  misroute_step Moved l = effect_if false l.0 ∙ ap (λ (w : World). some w) (sym (gone_is l.1))
  misroute_step Idle l = (effect_if true l.0, refl, left_is l.1)
  misroute_step (Refused fault) l = absurd l
  misroute_step NoMemory l = (subst IsSome (sym (effect_if false l.0)) refl, wants_number here class (index_of h.tree.places port) misrouted_one misrouted_is, left_is l.1)
