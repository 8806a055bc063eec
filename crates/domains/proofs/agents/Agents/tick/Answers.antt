use Rattle.std.proofs.Common.{Some, refl}
use Rattle.fab_types.specs.declared.origin.Origin.TheVariants.{Function}
use Rattle.domain.specs.declared.entry.Entry.TheVariants.{Tick}
use Rattle.lane.specs.Lanes.{class_of}
use Rattle.domains.specs.Domains.{made_at, place_of_function}
use Rattle.domains.proofs.Emitting.{has_room, keeps_put, keeps_silent, put_made, sent_so}
use Rattle.domains.proofs.agents.Agents.tick.Goals as goal

pub put-requires : goal.put-requires
put-requires c =
    let ds = c.self.inside.domains in let f = c.args.function in let home = place_of_function ds f in
    let made = sent_so (made_at ds (Tick f) home) c.tick.new.self c.in_ok-sent.field-0 (Some c.in-Some.sent) c.in_ok-sent.ensures.ok c.in-Some.is in
    has_room ds c.tick.new.self c.self.inside.outboxes (Function f) (Tick f) home c.in-Some.sent (class_of c.in-Some.sent) (λ n. refl) c.self.invariant refl made

pub invariant_of-self-in-Some : goal.invariant_of-self-in-Some
invariant_of-self-in-Some c =
    let ds = c.self.inside.domains in let f = c.args.function in let home = place_of_function ds f in
    let made = sent_so (made_at ds (Tick f) home) c.tick.new.self c.in_ok-sent.field-0 (Some c.in-Some.sent) c.in_ok-sent.ensures.ok c.in-Some.is in
    keeps_put ds c.tick.new.self c.self.inside.outboxes c.put.new.self (Function f) (Tick f) home c.in-Some.sent (λ n. refl) c.self.invariant refl made c.put.ensures

pub invariant_of-self-in_default : goal.invariant_of-self-in_default
invariant_of-self-in_default c =
    let ds = c.self.inside.domains in let f = c.args.function in
    keeps_silent ds c.tick.new.self c.self.inside.outboxes (Tick f) (place_of_function ds f) c.in_ok-sent.field-0 (λ n. refl) c.self.invariant c.in_ok-sent.ensures.ok

pub returns-in-Some-clause-ok : goal.returns-in-Some-clause-ok
returns-in-Some-clause-ok c =
    let ds = c.self.inside.domains in let f = c.args.function in let home = place_of_function ds f in
    let made = sent_so (made_at ds (Tick f) home) c.tick.new.self c.in_ok-sent.field-0 (Some c.in-Some.sent) c.in_ok-sent.ensures.ok c.in-Some.is in
    rw (← c.self.view_is) (put_made ds c.tick.new.self c.self.inside.outboxes c.put.new.self (Function f) (made_at ds (Tick f) home) c.in-Some.sent made c.put.ensures)
