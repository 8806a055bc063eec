use Rattle.std.proofs.Common.{ℕ, None, Option, Some, ap, ◌∙◌}
use Rattle.fab_types.specs.declared.origin.Origin.TheVariants.{Function}
use Rattle.platform.specs.Share.{Share}
use Rattle.lane.specs.Lanes.{class_of}
use Rattle.domains.specs.Aliens.{aliened, aliened_at}
use Rattle.domains.specs.Domains.{place_of_function}
use Rattle.domains.proofs.Emitting.{sent_so}
use Rattle.domains.proofs.Entering.{alien_put, alien_room, alien_silent, answer_seen, keeps_grown, number_home, silence_seen}
use Rattle.domains.proofs.agents.Agents.alien_at_function.Goals as goal
use Rattle.domains.proofs.agents.Agents.alien_at_function.Goals.{in-Some-sent, in_default-sent}

pub invariant_of-self : goal.invariant_of-self
invariant_of-self c = rw c.in_err-sent.ensures.err (keeps_grown c.self.inside.domains c.self.inside.outboxes c.enter.new.outboxes c.self.invariant c.enter.ensures.grown)

pub put-requires : goal.put-requires
put-requires c =
    let ds = c.self.inside.domains in let boxes = c.self.inside.outboxes in let new = c.enter.new.domains in let f = c.args.function in let n = c.domain-owner.result in let answer = c.in-Some-sent.answer in
    let home = number_home ds boxes f n c.in-Some.home.now c.self.invariant c.in-Some.ensures (c.domain-owner.ensures ∙ ap (λ (s : Share). s.domain) c.start.ensures) in
    let is = sent_so (aliened ds n c.args.place c.args.frame) new c.in_ok-sent.sent (Some answer) c.in_ok-sent.ensures.ok c.in-Some-sent.is in
    alien_room ds new boxes c.enter.new.outboxes (Function f) n c.args.place c.args.frame answer (class_of answer) c.self.invariant c.enter.ensures.grown c.in_ok-sent.ensures.places home is

pub invariant_of-self-in-Some-sent : goal.invariant_of-self-in-Some-sent
invariant_of-self-in-Some-sent c =
    let ds = c.self.inside.domains in let boxes = c.self.inside.outboxes in let new = c.enter.new.domains in let f = c.args.function in let n = c.domain-owner.result in let answer = c.in-Some-sent.answer in
    let home = number_home ds boxes f n c.in-Some.home.now c.self.invariant c.in-Some.ensures (c.domain-owner.ensures ∙ ap (λ (s : Share). s.domain) c.start.ensures) in
    let is = sent_so (aliened ds n c.args.place c.args.frame) new c.in_ok-sent.sent (Some answer) c.in_ok-sent.ensures.ok c.in-Some-sent.is in
    alien_put ds new boxes c.enter.new.outboxes c.put.new.self (Function f) n c.args.place c.args.frame answer c.self.invariant c.enter.ensures.grown c.in_ok-sent.ensures.places home is c.put.ensures

pub invariant_of-self-in_default-sent : goal.invariant_of-self-in_default-sent
invariant_of-self-in_default-sent c =
    alien_silent c.self.inside.domains c.enter.new.domains c.self.inside.outboxes c.enter.new.outboxes c.domain-owner.result c.args.place c.args.frame c.in_ok-sent.sent c.self.invariant c.enter.ensures.grown
    c.in_ok-sent.ensures.places c.in_ok-sent.ensures.ok

pub returns-clause-ok : goal.returns-clause-ok
returns-clause-ok c =
    let ds = c.self.inside.domains in let new = c.enter.new.domains in let boxes = c.self.inside.outboxes in let grown = c.enter.new.outboxes in
    let f = c.args.function in let n = c.domain-owner.result in let o = aliened_at ds (place_of_function ds f) c.args.place c.args.frame in
    let home = number_home ds boxes f n c.in-Some.home.now c.self.invariant c.in-Some.ensures (c.domain-owner.ensures ∙ ap (λ (s : Share). s.domain) c.start.ensures) in
    let made = ap (λ (at : Option ℕ). aliened_at ds at c.args.place c.args.frame) home ∙ c.in_ok-sent.ensures.ok in
    elim c.match-sent.branch [
      | in-Some-sent w ↦
          rw (← c.self.view_is, w.self-is)
          (answer_seen ds new boxes grown w.put.new.self (Function f) o w.in-Some-sent.answer c.enter.ensures.grown (sent_so o new c.in_ok-sent.sent (Some w.in-Some-sent.answer) made w.in-Some-sent.is) w.put.ensures)
      | in_default-sent w ↦ rw (← c.self.view_is, w.self-is) (silence_seen ds new boxes grown (Function f) o c.enter.ensures.grown (sent_so o new c.in_ok-sent.sent None made w.in_default-sent.is))
    ]
