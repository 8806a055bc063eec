-- The turn of a port leaves fewer moves: the packet goes on to where less is ahead, is answered by what has fewer moves, or is kept.
use Rattle.std.proofs.Common.{◌≡◌, ℕ, ◌<◌, ◌≤◌, ◌==◌, Bool, true, false, cond, length, Option, Some, None, refl, subst, arith}
use Rattle.std.specs.Prelude.{slice_index_or}
use Rattle.std.specs.Option.{option_and_then}
use Rattle.std.proofs.lemmas.List.Quantifiers.{position-Some}
use Rattle.std.proofs.lemmas.Option.{same_Some}
use Rattle.fab_types.specs.declared.place.Direction.{Direction}
use Rattle.fab_types.specs.declared.violation.Violation.{Violation}
use Rattle.domain.specs.declared.entry.Entry.TheVariants.{Refuse}
use Rattle.domains.specs.Domains.{Made, made, place_of}
use Rattle.lane.specs.Lanes.{Class}
use Rattle.port.specs.Courses.{course_of}
use Rattle.port.specs.Courses.{IsWithin}
use Rattle.port.specs.declared.course.Forwarding.{Forwarding}
use Rattle.port.specs.declared.course.Forwarding.TheVariants.{To, Stop, NoCase}
use Rattle.topology.specs.declared.nodes.LinkEnd.{LinkEnd}
use Rattle.topology.specs.declared.places.PortPlace.{PortPlace}
use Rattle.interconnect.specs.Moves.{put_at}
use Rattle.interconnect.specs.Passes.{index_of, no_place}
use Rattle.switch_output.specs.Vetted.{may_go_on}
use Rattle.fabric_core.specs.Invariant.{IsConsistent}
use Rattle.fabric_core.specs.MovesLeft.{moves_left}
use Rattle.fabric_core.specs.Passing.{Site, answer_waits, is_full_at, output_end, passed, passed_by, passed_number, refused_by, site_at, strayed, turned}
use Rattle.fabric_core.specs.Arrivals.{Taken, taken_at}
use Rattle.fabric_core.specs.World.{World, with_channels}
use Rattle.fabric_core.proofs.effect.Answered.{only_non_posted_are_answered}
use Rattle.fabric_core.proofs.effect.Courses.{course_within}
use Rattle.fabric_core.proofs.invariant.Renewing.{there_in}
use Rattle.fabric_core.proofs.invariant.Turning.{IsSite, output_is_end, site_there}
use Rattle.fabric_core.proofs.moves.Ahead.{Goes, IsLaid}
use Rattle.fabric_core.proofs.moves.Sent.{non_posted_request, sent_by, sent_completion}
use Rattle.fabric_core.proofs.moves.Taking.{AnswersRequest, IsTakenFrom, answered_fewer, on_fewer, taken_by}

module _ (w : World) (kept : IsConsistent w) (laid : IsLaid w) where
  abbrev Fewer : World → Type 0
  Fewer v = moves_left v < moves_left w

  module _ (site : Site) (is : IsSite w site) (class : Class) (direction : Direction) (t : Taken) (taken : IsTakenFrom w direction t) where
    strays : Fewer (strayed w site t)
    strays = let fewer = taken.fewer in omega (arith, fewer)

    -- ---- it goes on

    puts : (output : ℕ) → output ≤ length site.config.exits → Goes w (output_end site output) direction → Fewer (with_channels w (put_at t.channels (output_end site output) t.frame))
    puts output less goes =
        let all = on_fewer w laid direction t taken (output_end site output) (there_in w t.channels (output_end site output) kept taken.out.outputs (output_is_end w site output is less)) goes in
        omega (arith, all)

    forwards : (output : ℕ) → output ≤ length site.config.exits → Goes w (output_end site output) direction → (full may_go : Bool) (v : World)
        → cond full None (cond may_go (Some (with_channels w (put_at t.channels (output_end site output) t.frame))) (Some (strayed w site t))) ≡ Some v → Fewer v
    forwards output less goes true may_go v e = absurd cc
    forwards output less goes false true v e = subst Fewer (same_Some _ v e) (puts output less goes)
    forwards output less goes false false v e = subst Fewer (same_Some _ v e) strays

    -- ---- it is stopped

    answers : (m : Made) → made w.agents.domains t.frame.domain (Refuse t.frame.number) ≡ Some m → AnswersRequest w laid direction t taken m.sent
    answers m e answer sent =
        let classes = only_non_posted_are_answered w.agents.domains t.frame m taken.flown e answer sent in
        let by = sent_by w.agents.domains (Refuse t.frame.number) (place_of w.agents.domains t.frame.domain) m answer e sent in (
          sent_completion w.agents.domains (Refuse t.frame.number) (place_of w.agents.domains t.frame.domain) answer by classes.1,
          non_posted_request w.agents.domains t.frame taken.flown classes.0,
        )

    refuses : (report : Option Violation) (o : Option Made) → made w.agents.domains t.frame.domain (Refuse t.frame.number) ≡ o → Fewer (refused_by w site report t o)
    refuses report None e = strays
    refuses report (Some m) e =
        let own = output_end site site.config.own in
        let all = answered_fewer w laid direction t taken own (there_in w t.channels own kept taken.out.outputs (output_is_end w site site.config.own is is.own)) m.sent (answers m e) in
        omega (arith, all)

    stops : (report : Option Violation) (waits : Bool) (v : World) → cond waits None (Some (refused_by w site report t (made w.agents.domains t.frame.domain (Refuse t.frame.number)))) ≡ Some v → Fewer v
    stops report true v e = absurd cc
    stops report false v e = subst Fewer (same_Some _ v e) (refuses report (made w.agents.domains t.frame.domain (Refuse t.frame.number)) refl)

    -- ---- by its course

    passes : (course : Forwarding) → IsWithin (length site.config.exits) course → ((output : ℕ) → course ≡ To output → Goes w (output_end site output) direction) → (v : World) → passed_by w site class t course ≡ Some v → Fewer v
    passes (To output) within goes v e = forwards output within (goes output refl) (is_full_at w site output class) (may_go_on w.routes.ports t.frame) v e
    passes (Stop report) within goes v e = stops report (answer_waits w site class) v e
    passes NoCase within goes v e = subst Fewer (same_Some (strayed w site t) v e) strays

  -- ---- the port of an ID

  module _ (id : ℕ) (class : Class) (number : ℕ) (index : index_of w.tree.places id ≡ Some number) where
    abbrev place : PortPlace
    place = slice_index_or w.tree.places number no_place

    less : number < length w.tree.places
    less = (position-Some (λ (p : PortPlace). p.id == id) w.tree.places number no_place index).0

    comes_from : (input : Option LinkEnd) → place.input ≡ input → (o : Option Taken) → taken_at w.channels class input ≡ o → (v : World) → option_and_then (passed w (site_at w number place) class) o ≡ Some v → Fewer v
    comes_from input from None e v is = absurd cc
    comes_from None from (Some t) e v is = absurd cc
    comes_from (Some end) from (Some t) e v is =
        let comes = laid.ports id number end index from in
        passes (site_at w number place) (site_there w number kept less) class comes.direction t (taken_by w kept laid class comes.direction end comes.from t e)
        (course_of w.routes (site_at w number place).config t.frame.head) (course_within w.routes (site_at w number place).config t.frame.head) (λ output course. comes.on t.frame.head output course) v is

  number_fewer : (id : ℕ) (class : Class) (o : Option ℕ) → index_of w.tree.places id ≡ o → (v : World) → passed_number w class o ≡ Some v → Fewer v
  number_fewer id class None index v e = absurd cc
  number_fewer id class (Some number) index v e =
      comes_from id class number index (slice_index_or w.tree.places number no_place).input refl (taken_at w.channels class (slice_index_or w.tree.places number no_place).input) refl v e

  pub turn_fewer : (id : ℕ) (class : Class) (v : World) → turned w id class ≡ Some v → Fewer v
  turn_fewer id class v e = number_fewer id class (index_of w.tree.places id) refl v e
