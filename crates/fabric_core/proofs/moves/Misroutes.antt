-- A port that takes a packet leaves fewer moves, also where it misroutes that.
use Rattle.std.proofs.Common.{◌≡◌, ℕ, ◌<◌, Bool, true, false, cond, ◌&&◌, Option, Some, None, refl, sym, ap, ◌∙◌, subst, arith}
use Rattle.std.specs.Prelude.{option_map}
use Rattle.std.proofs.lemmas.Option.{same_Some}
use Rattle.fab_types.specs.declared.class.Class.TheVariants.{Completion}
use Rattle.fab_types.specs.declared.head.Head.{Head}
use Rattle.fab_types.specs.declared.place.Direction.{Direction}
use Rattle.frame_log.specs.Descriptor.{Descriptor}
use Rattle.tlp_view.specs.Costs.{cost_of}
use Rattle.domain.specs.declared.entry.Entry.{Entry}
use Rattle.domain.specs.declared.entry.Entry.TheVariants.{Alien}
use Rattle.domain.specs.Domains.{DomainView}
use Rattle.domain.proofs.PortAnswers.{IsReply, port_replies}
use Rattle.domains.specs.Aliens.{answers}
use Rattle.domains.specs.Domains.{domain_at, place_of}
use Rattle.lane.specs.Lanes.{Class, class_of}
use Rattle.link.specs.Channels.{is_full}
use Rattle.interconnect.specs.declared.misrouted.Misrouted.{Misrouted}
use Rattle.interconnect.specs.Misrouted.{misrouted_among}
use Rattle.interconnect.specs.Moves.{channel_at}
use Rattle.interconnect.specs.Passes.{index_of}
use Rattle.request_handling.specs.Takers.{is_at_port}
use Rattle.fabric_core.specs.Invariant.{IsConsistent}
use Rattle.fabric_core.specs.Misrouting.{Misrouting, is_at_port_in, misrouting, pass, passed_unless, without_misrouted}
use Rattle.fabric_core.specs.MovesLeft.{link_moves, moves_left}
use Rattle.fabric_core.specs.Passing.{answered_at}
use Rattle.fabric_core.specs.Arrivals.{Taken, taken_from}
use Rattle.fabric_core.specs.World.{World}
use Rattle.fabric_core.proofs.invariant.Passing.{misrouted_there}
use Rattle.fabric_core.proofs.invariant.Renewing.{there_in}
use Rattle.fabric_core.proofs.moves.Ahead.{IsLaid}
use Rattle.fabric_core.proofs.moves.Sent.{IsSentBy, alien_made, alien_request, sent_by, sent_completion}
use Rattle.fabric_core.proofs.moves.Taking.{AnswersRequest, IsTakenFrom, answered_fewer, taken_by}
use Rattle.fabric_core.proofs.moves.Turns.{turn_fewer}
use Rattle.fabric_core.proofs.progress.MisroutedEnds.{Misroutes, leaves, misroutes_by}

module _ (w : World) (kept : IsConsistent w) (laid : IsLaid w) where
  abbrev Fewer : World → Type 0
  Fewer v = moves_left v < moves_left w

  module _ (id : ℕ) (class : Class) (l : Misrouting) (at : Misroutes w class id l) (direction : Direction) (taken : IsTakenFrom w direction (taken_from w.channels at.misrouted.input (at.takes.frame, at.takes.left))) where
    abbrev t : Taken
    t = taken_from w.channels at.misrouted.input (at.takes.frame, at.takes.left)

    abbrev entry : Entry
    entry = Alien at.misrouted.place taken.flown.emission.parties taken.flown.emission.bytes

    abbrev home : Option ℕ
    home = place_of w.agents.domains at.takes.frame.domain

    -- what answers it is a completion, since a port takes it
    completion : (answer : Descriptor) → IsSentBy w.agents.domains entry home answer → class_of answer ≡ Completion
    completion answer s =
        let there : is_at_port s.d.share at.misrouted.place ≡ true =
        ap (λ (o : Option DomainView). is_at_port_in o at.misrouted.place) (sym s.at) ∙ (ap (λ (o : Option ℕ). is_at_port_in (domain_at w.agents.domains o) at.misrouted.place) (sym s.at_number) ∙ at.takes.at_port) in
        let replies = port_replies s.d.share s.d.state at.misrouted.place taken.flown.emission.parties taken.flown.emission.bytes s.c there s.legal in
        let one : (cost_of s.reply.bytes).class ≡ Completion = subst IsReply s.emitted replies in
        ap (λ (h : Head). h.cost.class) s.head ∙ one

    answers_it : AnswersRequest w laid direction t taken l.made.sent
    answers_it answer sent =
        let made = alien_made w.agents.domains at.takes.frame taken.flown at.misrouted.place home (Some l.made) at.takes.made in
        let s = sent_by w.agents.domains entry home l.made answer made sent in
        (sent_completion w.agents.domains entry home answer s (completion answer s), alien_request w.agents.domains at.takes.frame taken.flown at.misrouted.place home answer s)

    misrouted_fewer : Fewer (without_misrouted w l)
    misrouted_fewer =
        let own = (misrouted_there w id class at.misrouted kept at.at).own in
        let all = answered_fewer w laid direction t taken at.misrouted.own (there_in w t.channels at.misrouted.own kept taken.out.outputs own) l.made.sent answers_it in
        let there : link_moves w.routes.switches w.tree.links (answered_at t.channels l.misrouted.own l.made.sent) < link_moves w.routes.switches w.tree.links w.channels =
        subst (λ (x : Misrouted). link_moves w.routes.switches w.tree.links (answered_at t.channels x.own l.made.sent) < link_moves w.routes.switches w.tree.links w.channels) (sym at.takes.same) all in
        let here : link_moves w.routes.switches w.tree.links (answered_at l.taken.channels l.misrouted.own l.made.sent) < link_moves w.routes.switches w.tree.links w.channels =
        subst (λ (x : Taken). link_moves w.routes.switches w.tree.links (answered_at x.channels l.misrouted.own l.made.sent) < link_moves w.routes.switches w.tree.links w.channels) (sym at.takes.is) there in
        omega (arith, here)

  misroutes : (id : ℕ) (class : Class) (l : Misrouting) → misrouting w id class ≡ Some l → Fewer (without_misrouted w l)
  misroutes id class l e =
      let at = misroutes_by w class id l (misrouted_among w.tree w.routes w.channels w.ports id class) refl e in
      let from = leaves w class id at.misrouted (index_of w.tree.places id) refl at.at in
      let comes = laid.ports id from.number at.misrouted.input from.index from.input in
      misrouted_fewer id class l at comes.direction
      (taken_by w kept laid class comes.direction at.misrouted.input comes.from (taken_from w.channels at.misrouted.input (at.takes.frame, at.takes.left)) (ap (option_map (taken_from w.channels at.misrouted.input)) at.takes.taken))

  -- ---- either

  unless_full : (l : Misrouting) (b : Bool) (v : World) → Fewer (without_misrouted w l) → cond b None (Some (without_misrouted w l)) ≡ Some v → Fewer v
  unless_full l true v fewer e = absurd cc
  unless_full l false v fewer e = subst Fewer (same_Some (without_misrouted w l) v e) fewer

  takes : (id : ℕ) (class : Class) (o : Option Misrouting) → misrouting w id class ≡ o → (v : World) → passed_unless w id class o ≡ Some v → Fewer v
  takes id class None is v e = turn_fewer w kept laid id class v e
  takes id class (Some l) is v e = unless_full l (answers (Some l.made) && is_full Completion (channel_at w.channels l.misrouted.own)) v (misroutes id class l is) e

  pub pass_fewer : (id : ℕ) (class : Class) (v : World) → pass w id class ≡ Some v → Fewer v
  pass_fewer id class v e = takes id class (misrouting w id class) refl v e
