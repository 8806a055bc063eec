use Rattle.std.proofs.Common.{None, Some, refl, ◌∙◌}
use Rattle.fab_types.specs.declared.origin.Origin.TheVariants.{Function}
use Rattle.domain.specs.declared.entry.Entry.TheVariants.{Carry}
use Rattle.lane.specs.Lanes.{class_of}
use Rattle.domains.specs.Domains.{made, place_of}
use Rattle.domains.proofs.Emitting.{carried_there, function_home, has_room, keeps_put, keeps_silent, none_made, put_made, sent_so, told_own}
use Rattle.domains.specs.Agents.{carried_at}
use Rattle.domains.proofs.agents.Agents.carry_by_function.Goals as goal
use Rattle.domains.proofs.agents.Agents.carry_by_function.Goals.{in-Some, in_default}

pub put-requires : goal.put-requires
put-requires c =
    let ds = c.self.inside.domains in let boxes = c.self.inside.outboxes in let f = c.args.function in let n = c.args.frame.domain in let entry = Carry c.args.frame.number in
    let own = told_own ds boxes c.args.self.now f n c.domain.result c.is_function_of.result c.self.view_is c.domain.ensures c.is_function_of.ensures c.if-not-is_function_of.false in
    let home = function_home ds boxes f n c.self.invariant own in
    let is = sent_so (made ds n entry) c.carry.new.self c.in_ok-answer.field-0 (Some c.in-Some.answer) c.in_ok-answer.ensures.ok c.in-Some.is in
    has_room ds c.carry.new.self boxes (Function f) entry (place_of ds n) c.in-Some.answer (class_of c.in-Some.answer) (λ n. refl) c.self.invariant home is

pub invariant_of-self-in-Some : goal.invariant_of-self-in-Some
invariant_of-self-in-Some c =
    let ds = c.self.inside.domains in let boxes = c.self.inside.outboxes in let f = c.args.function in let n = c.args.frame.domain in let entry = Carry c.args.frame.number in
    let own = told_own ds boxes c.args.self.now f n c.domain.result c.is_function_of.result c.self.view_is c.domain.ensures c.is_function_of.ensures c.if-not-is_function_of.false in
    let home = function_home ds boxes f n c.self.invariant own in
    let is = sent_so (made ds n entry) c.carry.new.self c.in_ok-answer.field-0 (Some c.in-Some.answer) c.in_ok-answer.ensures.ok c.in-Some.is in
    keeps_put ds c.carry.new.self boxes c.put.new.self (Function f) entry (place_of ds n) c.in-Some.answer (λ n. refl) c.self.invariant home is c.put.ensures

pub invariant_of-self-in_default : goal.invariant_of-self-in_default
invariant_of-self-in_default c =
    let ds = c.self.inside.domains in
    keeps_silent ds c.carry.new.self c.self.inside.outboxes (Carry c.args.frame.number) (place_of ds c.args.frame.domain) c.in_ok-answer.field-0 (λ n. refl) c.self.invariant c.in_ok-answer.ensures.ok

pub returns-clause-ok : goal.returns-clause-ok
returns-clause-ok c =
    let ds = c.self.inside.domains in let boxes = c.self.inside.outboxes in let f = c.args.function in let frame = c.args.frame in let o = made ds frame.domain (Carry frame.number) in
    let own = told_own ds boxes c.args.self.now f frame.domain c.domain.result c.is_function_of.result c.self.view_is c.domain.ensures c.is_function_of.ensures c.if-not-is_function_of.false in
    let there = carried_there ds f frame own in
    elim c.match-branch-2.branch [
      | in-Some w ↦
          rw (← c.self.view_is, w.self-is)
          (put_made ds c.carry.new.self boxes w.put.new.self (Function f) (carried_at ds f frame) w.in-Some.answer
          (there ∙ sent_so o c.carry.new.self c.in_ok-answer.field-0 (Some w.in-Some.answer) c.in_ok-answer.ensures.ok w.in-Some.is) w.put.ensures)
      | in_default w ↦
          rw (← c.self.view_is, w.self-is) (none_made ds c.carry.new.self boxes (Function f) (carried_at ds f frame) (there ∙ sent_so o c.carry.new.self c.in_ok-answer.field-0 None c.in_ok-answer.ensures.ok w.in_default.is))
    ]
