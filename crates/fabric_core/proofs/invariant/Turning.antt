-- What a fabric keeps through the turn of a port.
use Rattle.std.proofs.Common.{◌≡◌, ◌≢◌, ◌⊎◌, inl, inr, ℕ, ◌+◌, ◌<◌, ◌≤◌, ◌==◌, Bool, true, false, cond, List, [], ◌∷◌, ◌++◌, length, get_or, set, Option, Some, None, refl, sym, ap, ◌∙◌, subst, arith}
use Rattle.std.specs.Prelude.{option_to_list, slice_index_or}
use Rattle.std.specs.Option.{option_and_then}
use Rattle.std.specs.List.{flat_map}
use Rattle.std.proofs.lemmas.Bool.{cases_eq}
use Rattle.std.proofs.lemmas.List.Elements.{All-set}
use Rattle.std.proofs.lemmas.List.Quantifiers.{position-Some}
use Rattle.std.proofs.lemmas.List.{get_or-set_other, get_or-set_same, length-set}
use Rattle.fab_types.specs.declared.violation.Violation.{Violation}
use Rattle.frame_log.specs.Descriptor.{Descriptor}
use Rattle.domain.specs.declared.entry.Entry.TheVariants.{Refuse}
use Rattle.domains.specs.Agents.{AgentsView}
use Rattle.port.specs.Configs.{Config}
use Rattle.port.specs.Courses.{IsWithin, course_of}
use Rattle.port.specs.declared.course.Forwarding.{Forwarding}
use Rattle.port.specs.declared.course.Forwarding.TheVariants.{To, Stop, NoCase}
use Rattle.lane.specs.Lanes.{Class}
use Rattle.port.specs.Turns.{PortView}
use Rattle.domains.specs.Domains.{Made, made, place_of}
use Rattle.topology.specs.Topologies.{IsEnd, IsFromElsewhere, IsPlace}
use Rattle.topology.specs.declared.nodes.LinkEnd.{LinkEnd}
use Rattle.topology.specs.declared.places.PortPlace.{PortPlace}
use Rattle.link.specs.Channels.{with_egress}
use Rattle.interconnect.specs.Moves.{channel_at, put_at}
use Rattle.interconnect.specs.Passes.{index_of, no_place, no_port}
use Rattle.fabric_core.specs.Arrivals.{Taken, taken_at}
use Rattle.fabric_core.specs.Invariant.{IsFree, IsConsistent, IsPlaced}
use Rattle.switch_output.specs.Vetted.{may_go_on}
use Rattle.fabric_core.specs.Passing.{Site, answer_waits, answered_at, is_full_at, kept_by, output_end, passed, passed_at, passed_by, passed_number, port_number, refused_by, site_at, strayed, turned}
use Rattle.fabric_core.specs.Places.{frames_from, frames_of}
use Rattle.fabric_core.specs.World.{World, with_channels}
use Rattle.fabric_core.proofs.invariant.Changing.{Changed, then_back, then_gained, unchanged}
use Rattle.fabric_core.proofs.invariant.Flying.{refuse_ends}
use Rattle.fabric_core.proofs.invariant.Placing.{placed_after, placed_moved}
use Rattle.fabric_core.proofs.effect.Courses.{course_within}
use Rattle.fabric_core.proofs.invariant.Renewing.{SameOutputs, TakenOut, kept_with, kept_with_ports, placed_of, taken_flown, taken_out_of, there_in}
use Rattle.fabric_core.proofs.invariant.Settling.{agents_settled, end_reflown, shares_stay}
use Rattle.fabric_core.proofs.invariant.Standing.{IsThere, held, in_port, on_links, put_there, same_lanes}

abbrev some : {A : Type 0} → A → Option A
some x = Some x

some_is : {A : Type 0} (x y : A) → some x ≡ some y → x ≡ y
some_is x y e = cc

-- a site is one of a port that there is
pub record IsSite (w : World) (site : Site) : Type 0 where
  pub number : site.number < length w.ports
  pub node : site.node < length w.tree.outputs
  pub config : site.config ≡ (port_number w site.number).config
  pub ways : slice_index_or w.tree.outputs site.node 0 ≡ length site.config.exits + 1
  pub own : site.config.own ≤ length site.config.exits

pub output_is_end : (w : World) (site : Site) (output : ℕ) → IsSite w site → output ≤ length site.config.exits → IsEnd w.tree.outputs (output_end site output)
output_is_end w site output is less = (is.node, omega (arith, less, is.ways))

-- ---- it has no case for the packet

again_at : (outputs : List ℕ) (places : List PortPlace) (ports : List PortView) (i j : ℕ) (place : PortPlace) (port port' d : PortView) → i < length ports → port'.config ≡ (get_or ports i d).config
    → ((j : ℕ) (place : PortPlace) (port : PortView) → j < length ports → IsPlaced outputs (get_or places j place) (get_or ports j port)) → j < length ports → (j ≡ i) ⊎ (j ≢ i)
    → IsPlaced outputs (get_or places j place) (get_or (set ports i port') j port)
again_at outputs places ports i j place port port' d there same fit less (inl is) =
    let now : get_or (set ports i port') j port ≡ port' = ap (λ (n : ℕ). get_or (set ports i port') n port) is ∙ get_or-set_same ports i port' port there in
    let old = fit i place d there in
    subst (IsPlaced outputs (get_or places j place)) (sym now)
    (subst (λ (n : ℕ). IsPlaced outputs (get_or places n place) port') (sym is) (record {
      fits = record { id = ap (λ (c : Config). c.id) same ∙ old.fits.id; ways = old.fits.ways ∙ ap (λ (c : Config). length c.exits + 1) (sym same) };
      own = subst (λ (c : Config). c.own ≤ length c.exits) (sym same) old.own;
    }))
again_at outputs places ports i j place port port' d there same fit less (inr other) = subst (IsPlaced outputs (get_or places j place)) (sym (get_or-set_other ports i j port' port other)) (fit j place port less)

kept_strayed : (w : World) (site : Site) (t : Taken) → IsConsistent w → IsSite w site → TakenOut w t → IsConsistent (strayed w site t)
kept_strayed w site t kept is out =
    let old = port_number w site.number in
    let port = kept_by old t.frame in
    let ports = set w.ports site.number port in
    let long = length-set w.ports site.number port in
    let free : IsFree old = kept.free site.number no_port is.number in
    let moved =
    then_back (frames_of w) (held t.channels w.agents.outboxes w.ports w.strays) (held t.channels w.agents.outboxes ports w.strays) (t.frame ∷ [])
    (on_links w.channels t.channels w.agents.outboxes w.ports w.strays (t.frame ∷ []) [] out.changed) (in_port t.channels w.agents.outboxes w.ports site.number w.strays t.frame is.number) in
    kept_with_ports w t.channels ports w.agents w.violations w.strays kept out.outputs kept.settled long
    (λ j place other less. again_at w.tree.outputs w.tree.places w.ports site.number j place other port no_port is.number refl kept.built.placed (omega (arith, less, long)) (cases_eq j site.number))
    (All-set IsFree w.ports site.number port (record { held = free.held; kept = free.kept }) kept.free)
    kept.shares (placed_moved w.agents.domains (frames_of w) (held t.channels w.agents.outboxes ports w.strays) (placed_of w kept) moved)

-- ---- it goes on

kept_put : (w : World) (t : Taken) (end : LinkEnd) → IsConsistent w → TakenOut w t → IsEnd w.tree.outputs end → IsConsistent (with_channels w (put_at t.channels end t.frame))
kept_put w t end kept out is =
    let there = there_in w t.channels end kept out.outputs is in
    let channels = put_at t.channels end t.frame in
    let c = channel_at t.channels end in
    let moved =
    then_back (frames_of w) (held t.channels w.agents.outboxes w.ports w.strays) (held channels w.agents.outboxes w.ports w.strays) (t.frame ∷ [])
    (on_links w.channels t.channels w.agents.outboxes w.ports w.strays (t.frame ∷ []) [] out.changed)
    (on_links t.channels channels w.agents.outboxes w.ports w.strays [] (t.frame ∷ []) (put_there t.channels end t.frame there)) in
    kept_with w channels w.agents w.violations w.strays kept (same_lanes t.channels end (with_egress c (c.egress ++ t.frame ∷ [])) ∙ out.outputs) kept.settled kept.shares
    (placed_moved w.agents.domains (frames_of w) (held channels w.agents.outboxes w.ports w.strays) (placed_of w kept) moved)

forwarded_by : (w w' : World) (site : Site) (output : ℕ) (t : Taken) → IsConsistent w → IsSite w site → TakenOut w t → output ≤ length site.config.exits → (is_full may_go : Bool)
    → cond is_full None (cond may_go (some (with_channels w (put_at t.channels (output_end site output) t.frame))) (some (strayed w site t))) ≡ Some w' → IsConsistent w'
forwarded_by w w' site output t kept is out less true may_go e = absurd cc
forwarded_by w w' site output t kept is out less false true e = subst IsConsistent (some_is _ w' e) (kept_put w t (output_end site output) kept out (output_is_end w site output is less))
forwarded_by w w' site output t kept is out less false false e = subst IsConsistent (some_is _ w' e) (kept_strayed w site t kept is out)

-- ---- it is stopped

pub answered_outputs : (channels : List (List _)) (end : LinkEnd) (answer : Option Descriptor) → SameOutputs channels (answered_at channels end answer)
answered_outputs channels end None = refl
answered_outputs channels end (Some answer) = (let c = channel_at channels end in same_lanes channels end (with_egress c (c.egress ++ answer ∷ [])))

pub answered_there : (channels : List (List _)) (end : LinkEnd) (answer : Option Descriptor) → IsThere channels end → Changed (flat_map frames_from channels) (flat_map frames_from (answered_at channels end answer)) [] (option_to_list answer)
answered_there channels end None there = unchanged (flat_map frames_from channels)
answered_there channels end (Some answer) there = put_there channels end answer there

kept_refused : (w : World) (site : Site) (report : Option Violation) (t : Taken) (o : Option Made) → IsConsistent w → IsSite w site → TakenOut w t → made w.agents.domains t.frame.domain (Refuse t.frame.number) ≡ o → IsConsistent (refused_by w site report t o)
kept_refused w site report t None kept is out e = kept_strayed w site t kept is out
kept_refused w site report t (Some m) kept is out e =
    let end = output_end site site.config.own in
    let there = there_in w t.channels end kept out.outputs (output_is_end w site site.config.own is is.own) in
    let channels = answered_at t.channels end m.sent in
    let agents : AgentsView = record { domains = m.domains; outboxes = w.agents.outboxes } in
    let c =
    then_gained (frames_of w) (held t.channels w.agents.outboxes w.ports w.strays) (held channels w.agents.outboxes w.ports w.strays) (t.frame ∷ []) (option_to_list m.sent)
    (on_links w.channels t.channels w.agents.outboxes w.ports w.strays (t.frame ∷ []) [] out.changed)
    (on_links t.channels channels w.agents.outboxes w.ports w.strays [] (option_to_list m.sent) (answered_there t.channels end m.sent there)) in
    kept_with w channels agents (w.violations ++ option_to_list report) w.strays kept (answered_outputs t.channels end m.sent ∙ out.outputs)
    (agents_settled w.agents w.agents.outboxes (Refuse t.frame.number) (place_of w.agents.domains t.frame.domain) m kept.settled (λ origin. refl) e)
    (shares_stay w.routes.ports w.agents.domains (Refuse t.frame.number) (place_of w.agents.domains t.frame.domain) m kept.shares e)
    (placed_after w.agents.domains m.domains (frames_of w) (held channels w.agents.outboxes w.ports w.strays) (t.frame ∷ []) (option_to_list m.sent) (placed_of w kept) c
    (end_reflown w.agents (Refuse t.frame.number) t.frame m kept.settled (taken_flown w t kept out) (λ d x h. refuse_ends d.share d.state t.frame.number x h) e))

stopped_by : (w w' : World) (site : Site) (report : Option Violation) (t : Taken) → IsConsistent w → IsSite w site → TakenOut w t → (waits : Bool)
    → cond waits None (some (refused_by w site report t (made w.agents.domains t.frame.domain (Refuse t.frame.number)))) ≡ Some w' → IsConsistent w'
stopped_by w w' site report t kept is out true e = absurd cc
stopped_by w w' site report t kept is out false e = subst IsConsistent (some_is _ w' e) (kept_refused w site report t (made w.agents.domains t.frame.domain (Refuse t.frame.number)) kept is out refl)

-- ---- by its course

passed_as : (w w' : World) (site : Site) (class : Class) (t : Taken) (course : Forwarding) → IsConsistent w → IsSite w site → TakenOut w t → IsWithin (length site.config.exits) course → passed_by w site class t course ≡ Some w' → IsConsistent w'
passed_as w w' site class t (To output) kept is out less e = forwarded_by w w' site output t kept is out less (is_full_at w site output class) (may_go_on w.routes.ports t.frame) e
passed_as w w' site class t (Stop report) kept is out less e = stopped_by w w' site report t kept is out (answer_waits w site class) e
passed_as w w' site class t NoCase kept is out less e = subst IsConsistent (some_is (strayed w site t) w' e) (kept_strayed w site t kept is out)

passed_if : (w w' : World) (site : Site) (class : Class) (o : Option Taken) → IsConsistent w → IsSite w site → ((t : Taken) → o ≡ Some t → TakenOut w t) → option_and_then (passed w site class) o ≡ Some w' → IsConsistent w'
passed_if w w' site class None kept is out e = absurd cc
passed_if w w' site class (Some t) kept is out e = passed_as w w' site class t (course_of w.routes site.config t.frame.head) kept is (out t refl) (course_within w.routes site.config t.frame.head) e

input_there : (w : World) (node : ℕ) (input : Option LinkEnd) → IsFromElsewhere w.tree.outputs node input → (end : LinkEnd) → input ≡ Some end → IsEnd w.tree.outputs end
input_there w node None h end e = absurd cc
input_there w node (Some other) h end e = subst (IsEnd w.tree.outputs) (some_is other end e) h.0

-- the site of a port, and where its packets come from
pub site_there : (w : World) (i : ℕ) → IsConsistent w → i < length w.tree.places → IsSite w (site_at w i (slice_index_or w.tree.places i no_place))
site_there w i kept less =
    let many = kept.built.many in
    let there : i < length w.ports = omega (arith, less, many) in
    let sound : IsPlace w.tree.outputs (slice_index_or w.tree.places i no_place) = kept.built.sound.places i no_place less in
    let fit : IsPlaced w.tree.outputs (slice_index_or w.tree.places i no_place) (port_number w i) = kept.built.placed i no_place no_port there in
    record { number = there; node = sound.node; config = refl; ways = fit.fits.ways; own = fit.own }

pub inputs_there : (w : World) (i : ℕ) → IsConsistent w → i < length w.tree.places → (end : LinkEnd) → (slice_index_or w.tree.places i no_place).input ≡ Some end → IsThere w.channels end
inputs_there w i kept less end from =
    let place = slice_index_or w.tree.places i no_place in
    let sound : IsPlace w.tree.outputs place = kept.built.sound.places i no_place less in
    there_in w w.channels end kept refl (input_there w place.node place.input sound.input end from)

passed_at_number : (w w' : World) (class : Class) (i : ℕ) → IsConsistent w → i < length w.tree.places → passed_at w class i (slice_index_or w.tree.places i no_place) ≡ Some w' → IsConsistent w'
passed_at_number w w' class i kept less e =
    let place = slice_index_or w.tree.places i no_place in
    passed_if w w' (site_at w i place) class (taken_at w.channels class place.input) kept (site_there w i kept less) (λ t h. taken_out_of w class place.input t (inputs_there w i kept less) h) e

passed_number_if : (w w' : World) (class : Class) (o : Option ℕ) → IsConsistent w → ((i : ℕ) → o ≡ Some i → i < length w.tree.places) → passed_number w class o ≡ Some w' → IsConsistent w'
passed_number_if w w' class None kept less e = absurd cc
passed_number_if w w' class (Some i) kept less e = passed_at_number w w' class i kept (less i refl) e

pub kept_turned : (w w' : World) (port : ℕ) (class : Class) → IsConsistent w → turned w port class ≡ Some w' → IsConsistent w'
kept_turned w w' port class kept e =
    passed_number_if w w' class (index_of w.tree.places port) kept (λ i is. (position-Some (λ (place : PortPlace). place.id == port) w.tree.places i no_place is).0) e
