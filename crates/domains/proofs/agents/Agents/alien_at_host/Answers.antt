use Rattle.std.proofs.Common.{None, Some, refl}
use Rattle.fab_types.specs.declared.origin.Origin.TheVariants.{Host}
use Rattle.lane.specs.Lanes.{class_of}
use Rattle.domains.specs.Aliens.{aliened}
use Rattle.domains.proofs.Emitting.{sent_so}
use Rattle.domains.proofs.Entering.{alien_put, alien_room, alien_silent, answer_seen, keeps_grown, silence_seen}
use Rattle.domains.proofs.agents.Agents.alien_at_host.Goals as goal
use Rattle.domains.proofs.agents.Agents.alien_at_host.Goals.{in-Some, in_default}

pub invariant_of-self : goal.invariant_of-self
invariant_of-self c = rw c.in_err-sent.ensures.err (keeps_grown c.self.inside.domains c.self.inside.outboxes c.enter.new.outboxes c.self.invariant c.enter.ensures.grown)

pub put-requires : goal.put-requires
put-requires c =
    let ds = c.self.inside.domains in let new = c.enter.new.domains in let n = c.args.number in let answer = c.in-Some.answer in
    let is = sent_so (aliened ds n c.args.place c.args.frame) new c.in_ok-sent.sent (Some answer) c.in_ok-sent.ensures.ok c.in-Some.is in
    alien_room ds new c.self.inside.outboxes c.enter.new.outboxes (Host n) n c.args.place c.args.frame answer (class_of answer) c.self.invariant c.enter.ensures.grown c.in_ok-sent.ensures.places refl is

pub invariant_of-self-in-Some : goal.invariant_of-self-in-Some
invariant_of-self-in-Some c =
    let ds = c.self.inside.domains in let new = c.enter.new.domains in let n = c.args.number in let answer = c.in-Some.answer in
    let is = sent_so (aliened ds n c.args.place c.args.frame) new c.in_ok-sent.sent (Some answer) c.in_ok-sent.ensures.ok c.in-Some.is in
    alien_put ds new c.self.inside.outboxes c.enter.new.outboxes c.put.new.self (Host n) n c.args.place c.args.frame answer c.self.invariant c.enter.ensures.grown c.in_ok-sent.ensures.places refl is c.put.ensures

pub invariant_of-self-in_default : goal.invariant_of-self-in_default
invariant_of-self-in_default c =
    alien_silent c.self.inside.domains c.enter.new.domains c.self.inside.outboxes c.enter.new.outboxes c.args.number c.args.place c.args.frame c.in_ok-sent.sent c.self.invariant c.enter.ensures.grown
    c.in_ok-sent.ensures.places c.in_ok-sent.ensures.ok

pub returns-clause-ok : goal.returns-clause-ok
returns-clause-ok c =
    let ds = c.self.inside.domains in let new = c.enter.new.domains in let boxes = c.self.inside.outboxes in let grown = c.enter.new.outboxes in
    let n = c.args.number in let o = aliened ds n c.args.place c.args.frame in
    elim c.match-sent.branch [
      | in-Some w ↦
          rw (← c.self.view_is, w.self-is)
          (answer_seen ds new boxes grown w.put.new.self (Host n) o w.in-Some.answer c.enter.ensures.grown (sent_so o new c.in_ok-sent.sent (Some w.in-Some.answer) c.in_ok-sent.ensures.ok w.in-Some.is) w.put.ensures)
      | in_default w ↦ rw (← c.self.view_is, w.self-is) (silence_seen ds new boxes grown (Host n) o c.enter.ensures.grown (sent_so o new c.in_ok-sent.sent None c.in_ok-sent.ensures.ok w.in_default.is))
    ]
