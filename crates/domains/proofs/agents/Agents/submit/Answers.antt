use Rattle.std.proofs.Common.{refl}
use Rattle.fab_types.specs.declared.origin.Origin.TheVariants.{Function}
use Rattle.domain.specs.declared.entry.Entry.TheVariants.{Submit}
use Rattle.lane.specs.Lanes.{class_of}
use Rattle.domains.specs.Domains.{made_at, place_of_function}
use Rattle.domains.proofs.Emitting.{has_room, keeps_put, put_made}
use Rattle.domains.proofs.agents.Agents.submit.Goals as goal

pub put-requires : goal.put-requires
put-requires c =
    let ds = c.self.inside.domains in let f = c.args.function in
    has_room ds c.submit.new.self c.self.inside.outboxes (Function f) (Submit f c.args.bytes.now) (place_of_function ds f) c.in_ok-frame.frame (class_of c.in_ok-frame.frame) (λ n. refl) c.self.invariant refl c.in_ok-frame.ensures.ok

pub invariant_of-self-2 : goal.invariant_of-self-2
invariant_of-self-2 c =
    let ds = c.self.inside.domains in let f = c.args.function in
    keeps_put ds c.submit.new.self c.self.inside.outboxes c.put.new.self (Function f) (Submit f c.args.bytes.now) (place_of_function ds f) c.in_ok-frame.frame (λ n. refl) c.self.invariant refl c.in_ok-frame.ensures.ok c.put.ensures

pub returns-clause-ok : goal.returns-clause-ok
returns-clause-ok c =
    let ds = c.self.inside.domains in let f = c.args.function in
    rw (← c.self.view_is)
    (put_made ds c.submit.new.self c.self.inside.outboxes c.put.new.self (Function f) (made_at ds (Submit f c.args.bytes.now) (place_of_function ds f)) c.in_ok-frame.frame c.in_ok-frame.ensures.ok c.put.ensures)
