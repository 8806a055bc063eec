-- What a fabric keeps where a port takes a packet, also one that is misrouted there.
use Rattle.std.proofs.Common.{◌≡◌, ℕ, ◌<◌, ◌==◌, Bool, true, false, cond, ◌&&◌, List, [], ◌∷◌, ◌++◌, length, Option, Some, None, refl, sym, ◌∙◌, subst}
use Rattle.std.specs.Prelude.{option_to_list, slice_index_or}
use Rattle.std.specs.Option.{option_and_then}
use Rattle.std.proofs.lemmas.List.Quantifiers.{position-Some}
use Rattle.fab_types.specs.declared.class.Class.TheVariants.{Completion}
use Rattle.frame_log.specs.Descriptor.{Descriptor}
use Rattle.bridge.specs.Bridges.{Routes}
use Rattle.link.specs.Channels.{is_full}
use Rattle.port.specs.Configs.{Config}
use Rattle.port.specs.Courses.{course_of}
use Rattle.lane.specs.Lanes.{Class, eligible}
use Rattle.port.specs.declared.course.Forwarding.{Forwarding}
use Rattle.port.specs.declared.course.Forwarding.TheVariants.{To, Stop, NoCase}
use Rattle.domains.specs.Aliens.{aliened, answers}
use Rattle.domains.specs.Domains.{Made, place_of}
use Rattle.topology.specs.Topologies.{IsEnd}
use Rattle.topology.specs.declared.nodes.LinkEnd.{LinkEnd}
use Rattle.topology.specs.declared.places.PortPlace.{PortPlace}
use Rattle.interconnect.specs.declared.misrouted.Misrouted.{Misrouted}
use Rattle.interconnect.specs.Misrouted.{misrouted_among, misrouted_by, misrouted_from, misrouted_number, misrouted_of, own_end}
use Rattle.interconnect.specs.Moves.{channel_at}
use Rattle.interconnect.specs.Passes.{index_of, no_place}
use Rattle.fabric_core.specs.Arrivals.{Taken, taken_at}
use Rattle.fabric_core.specs.Invariant.{IsConsistent}
use Rattle.fabric_core.specs.Misrouting.{Misrouting, is_at_port_of, misrouting, misrouting_by, misrouting_to, misrouting_with, pass, passed_unless, without_misrouted}
use Rattle.fabric_core.specs.Passing.{answered_at, site_at}
use Rattle.fabric_core.specs.Places.{frames_of}
use Rattle.fabric_core.specs.World.{World}
use Rattle.fabric_core.proofs.invariant.AlienEntries.{kept_lost}
use Rattle.fabric_core.proofs.invariant.Changing.{then_gained}
use Rattle.fabric_core.proofs.invariant.Renewing.{taken_out_of, there_in}
use Rattle.fabric_core.proofs.invariant.Standing.{IsThere, held, on_links}
use Rattle.fabric_core.proofs.invariant.Turning.{answered_outputs, answered_there, inputs_there, kept_turned, output_is_end, site_there}

abbrev some : {A : Type 0} → A → Option A
some x = Some x

some_is : {A : Type 0} (x y : A) → some x ≡ some y → x ≡ y
some_is x y e = cc

-- ---- what is misrouted

-- it came into the port from there, and the output is the port's own
pub record MisroutedAt (node : ℕ) (input : Option LinkEnd) (config : Config) (l : Misrouted) : Type 0 where
  pub from : input ≡ Some l.input
  pub own : l.own ≡ own_end node config

misrouted_as : (routes : Routes) (node : ℕ) (input : LinkEnd) (config : Config) (frame : Descriptor) (course : Forwarding) (l : Misrouted) → misrouted_by routes node input config frame.head course ≡ Some l → MisroutedAt node (Some input) config l
misrouted_as routes node input config frame (To output) l e = absurd cc
misrouted_as routes node input config frame (Stop report) l e = absurd cc
misrouted_as routes node input config frame NoCase l e = subst (MisroutedAt node (Some input) config) (some_is _ l e) (record { from = refl; own = refl })

misrouted_if : (routes : Routes) (node : ℕ) (input : LinkEnd) (config : Config) (found : Option (Descriptor × List Descriptor)) (l : Misrouted) → misrouted_of routes node input config found ≡ Some l → MisroutedAt node (Some input) config l
misrouted_if routes node input config None l e = absurd cc
misrouted_if routes node input config (Some taken) l e = misrouted_as routes node input config taken.0 (course_of routes config taken.0.head) l e

misrouted_in_from : (w : World) (class : Class) (config : Config) (node : ℕ) (input : Option LinkEnd) (l : Misrouted) → misrouted_from w.routes w.channels class config node input ≡ Some l → MisroutedAt node input config l
misrouted_in_from w class config node None l e = absurd cc
misrouted_in_from w class config node (Some input) l e = misrouted_if w.routes node input config (eligible class (channel_at w.channels input).ingress) l e

-- it came in where there is an output, and the port's own is one of its switch
pub record MisroutedThere (w : World) (l : Misrouted) : Type 0 where
  pub input : IsThere w.channels l.input
  pub own : IsEnd w.tree.outputs l.own

misrouted_there_if : (w : World) (class : Class) (o : Option ℕ) (l : Misrouted) → IsConsistent w → ((i : ℕ) → o ≡ Some i → i < length w.tree.places) → misrouted_number w.tree w.routes w.channels w.ports class o ≡ Some l → MisroutedThere w l
misrouted_there_if w class None l kept less e = absurd cc
misrouted_there_if w class (Some i) l kept less e =
    let place = slice_index_or w.tree.places i no_place in
    let site = site_at w i place in
    let within = less i refl in
    let is = site_there w i kept within in
    let at = misrouted_in_from w class site.config place.node place.input l e in
    record {
      input = inputs_there w i kept within l.input at.from;
      own = subst (IsEnd w.tree.outputs) (sym at.own) (output_is_end w site site.config.own is is.own);
    }

pub misrouted_there : (w : World) (port : ℕ) (class : Class) (l : Misrouted) → IsConsistent w → misrouted_among w.tree w.routes w.channels w.ports port class ≡ Some l → MisroutedThere w l
misrouted_there w port class l kept e =
    misrouted_there_if w class (index_of w.tree.places port) l kept (λ i is. (position-Some (λ (place : PortPlace). place.id == port) w.tree.places i no_place is).0) e

-- ---- and by which entry

pub record IsMisrouting (w : World) (class : Class) (found : Option Misrouted) (l : Misrouting) : Type 0 where
  pub about : found ≡ Some l.misrouted
  pub taken : taken_at w.channels class (Some l.misrouted.input) ≡ Some l.taken
  pub made : aliened w.agents.domains l.taken.frame.domain l.misrouted.place l.taken.frame ≡ Some l.made

misrouting_made : (w : World) (class : Class) (x : Misrouted) (t : Taken) (o : Option Made) (l : Misrouting) → taken_at w.channels class (Some x.input) ≡ Some t → aliened w.agents.domains t.frame.domain x.place t.frame ≡ o
    → misrouting_with x t o ≡ Some l → IsMisrouting w class (Some x) l
misrouting_made w class x t None l took made e = absurd cc
misrouting_made w class x t (Some m) l took made e = subst (IsMisrouting w class (Some x)) (some_is _ l e) (record { about = refl; taken = took; made = made })

misrouting_there : (w : World) (class : Class) (x : Misrouted) (t : Taken) (is_there : Bool) (l : Misrouting) → taken_at w.channels class (Some x.input) ≡ Some t
    → cond is_there (misrouting_with x t (aliened w.agents.domains t.frame.domain x.place t.frame)) None ≡ Some l → IsMisrouting w class (Some x) l
misrouting_there w class x t true l took e = misrouting_made w class x t (aliened w.agents.domains t.frame.domain x.place t.frame) l took refl e
misrouting_there w class x t false l took e = absurd cc

misrouting_taken : (w : World) (class : Class) (x : Misrouted) (o : Option Taken) (l : Misrouting) → taken_at w.channels class (Some x.input) ≡ o → option_and_then (misrouting_to w x) o ≡ Some l → IsMisrouting w class (Some x) l
misrouting_taken w class x None l took e = absurd cc
misrouting_taken w class x (Some t) l took e = misrouting_there w class x t (is_at_port_of w.agents.domains t.frame.domain x.place) l took e

misrouting_if : (w : World) (class : Class) (o : Option Misrouted) (l : Misrouting) → misrouting_by w class o ≡ Some l → IsMisrouting w class o l
misrouting_if w class None l e = absurd cc
misrouting_if w class (Some x) l e = misrouting_taken w class x (taken_at w.channels class (Some x.input)) l refl e

pub is_misrouting : (w : World) (port : ℕ) (class : Class) (l : Misrouting) → misrouting w port class ≡ Some l → IsMisrouting w class (misrouted_among w.tree w.routes w.channels w.ports port class) l
is_misrouting w port class l e = misrouting_if w class (misrouted_among w.tree w.routes w.channels w.ports port class) l e

-- ---- what is kept

kept_without : (w : World) (class : Class) (o : Option Misrouted) (l : Misrouting) → IsConsistent w → ((x : Misrouted) → o ≡ Some x → MisroutedThere w x) → IsMisrouting w class o l → IsConsistent (without_misrouted w l)
kept_without w class o l kept there is =
    let t = l.taken in
    let m = l.made in
    let ends = there l.misrouted is.about in
    let out = taken_out_of w class (Some l.misrouted.input) t (λ end same. subst (IsThere w.channels) (some_is l.misrouted.input end same) ends.input) is.taken in
    let own = there_in w t.channels l.misrouted.own kept out.outputs ends.own in
    let channels = answered_at t.channels l.misrouted.own m.sent in
    kept_lost w t (place_of w.agents.domains t.frame.domain) l.misrouted.place m channels w.agents.outboxes (w.violations ++ option_to_list l.misrouted.report) kept (answered_outputs t.channels l.misrouted.own m.sent ∙ out.outputs) (λ origin. refl) is.made
    (then_gained (frames_of w) (held t.channels w.agents.outboxes w.ports w.strays) (held channels w.agents.outboxes w.ports w.strays) (t.frame ∷ []) (option_to_list m.sent)
    (on_links w.channels t.channels w.agents.outboxes w.ports w.strays (t.frame ∷ []) [] out.changed)
    (on_links t.channels channels w.agents.outboxes w.ports w.strays [] (option_to_list m.sent) (answered_there t.channels l.misrouted.own m.sent own)))

unless_full : (w w' : World) (l : Misrouting) (b : Bool) → IsConsistent (without_misrouted w l) → cond b None (some (without_misrouted w l)) ≡ Some w' → IsConsistent w'
unless_full w w' l true kept e = absurd cc
unless_full w w' l false kept e = subst IsConsistent (some_is (without_misrouted w l) w' e) kept

passed_as : (w w' : World) (port : ℕ) (class : Class) (o : Option Misrouting) → IsConsistent w → misrouting w port class ≡ o → passed_unless w port class o ≡ Some w' → IsConsistent w'
passed_as w w' port class None kept is e = kept_turned w w' port class kept e
passed_as w w' port class (Some l) kept is e =
    unless_full w w' l (answers (some l.made) && is_full Completion (channel_at w.channels l.misrouted.own))
    (kept_without w class (misrouted_among w.tree w.routes w.channels w.ports port class) l kept (λ x found. misrouted_there w port class x kept found) (is_misrouting w port class l is)) e

pub kept_pass : (w w' : World) (port : ℕ) (class : Class) → IsConsistent w → pass w port class ≡ Some w' → IsConsistent w'
kept_pass w w' port class kept e = passed_as w w' port class (misrouting w port class) kept refl e
