use Rattle.std.proofs.Common.{None, Some, refl}
use Rattle.fab_types.specs.declared.origin.Origin.TheVariants.{Host}
use Rattle.domain.specs.declared.entry.Entry.TheVariants.{Carry}
use Rattle.lane.specs.Lanes.{class_of}
use Rattle.domains.specs.Domains.{made, place_of}
use Rattle.domains.proofs.Emitting.{has_room, keeps_put, keeps_silent, none_made, put_made, sent_so}
use Rattle.domains.proofs.agents.Agents.carry_by_host.Goals as goal
use Rattle.domains.proofs.agents.Agents.carry_by_host.Goals.{in-Some, in_default}

pub put-requires : goal.put-requires
put-requires c =
    let ds = c.self.inside.domains in let n = c.args.frame.domain in let entry = Carry c.args.frame.number in
    let is = sent_so (made ds n entry) c.carry.new.self c.in_ok-answer.field-0 (Some c.in-Some.answer) c.in_ok-answer.ensures.ok c.in-Some.is in
    rw c.domain-domain.ensures (has_room ds c.carry.new.self c.self.inside.outboxes (Host n) entry (place_of ds n) c.in-Some.answer (class_of c.in-Some.answer) (λ n. refl) c.self.invariant refl is)

pub invariant_of-self-in-Some : goal.invariant_of-self-in-Some
invariant_of-self-in-Some c =
    let ds = c.self.inside.domains in let n = c.args.frame.domain in let entry = Carry c.args.frame.number in
    let is = sent_so (made ds n entry) c.carry.new.self c.in_ok-answer.field-0 (Some c.in-Some.answer) c.in_ok-answer.ensures.ok c.in-Some.is in
    keeps_put ds c.carry.new.self c.self.inside.outboxes c.put.new.self (Host n) entry (place_of ds n) c.in-Some.answer (λ n. refl) c.self.invariant refl is (rw (← c.domain-domain.ensures) c.put.ensures)

pub invariant_of-self-in_default : goal.invariant_of-self-in_default
invariant_of-self-in_default c =
    let ds = c.self.inside.domains in let n = c.args.frame.domain in
    keeps_silent ds c.carry.new.self c.self.inside.outboxes (Carry c.args.frame.number) (place_of ds n) c.in_ok-answer.field-0 (λ n. refl) c.self.invariant c.in_ok-answer.ensures.ok

pub returns-clause-ok : goal.returns-clause-ok
returns-clause-ok c =
    let ds = c.self.inside.domains in let boxes = c.self.inside.outboxes in let n = c.args.frame.domain in let o = made ds n (Carry c.args.frame.number) in
    elim c.match-branch-2.branch [
      | in-Some w ↦
          rw (← c.self.view_is, w.self-is)
          (put_made ds c.carry.new.self boxes w.put.new.self (Host n) o w.in-Some.answer (sent_so o c.carry.new.self c.in_ok-answer.field-0 (Some w.in-Some.answer) c.in_ok-answer.ensures.ok w.in-Some.is) (rw (← c.domain-domain.ensures) w.put.ensures))
      | in_default w ↦ rw (← c.self.view_is, w.self-is) (none_made ds c.carry.new.self boxes (Host n) o (sent_so o c.carry.new.self c.in_ok-answer.field-0 None c.in_ok-answer.ensures.ok w.in_default.is))
    ]
