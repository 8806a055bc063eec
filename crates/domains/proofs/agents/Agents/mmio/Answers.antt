use Rattle.std.proofs.Common.{refl}
use Rattle.fab_types.specs.declared.origin.Origin.TheVariants.{Host}
use Rattle.domain.specs.declared.entry.Entry.TheVariants.{Mmio}
use Rattle.lane.specs.Lanes.{class_of}
use Rattle.domains.specs.Domains.{made, place_of}
use Rattle.domains.proofs.Emitting.{has_room, keeps_put, put_made}
use Rattle.domains.proofs.agents.Agents.mmio.Goals as goal

pub put-requires : goal.put-requires
put-requires c =
    let ds = c.self.inside.domains in let n = c.args.domain in
    has_room ds c.mmio.new.self c.self.inside.outboxes (Host n) (Mmio c.args.access.now) (place_of ds n) c.in_ok-request.request (class_of c.in_ok-request.request) (λ n. refl) c.self.invariant refl c.in_ok-request.ensures.ok

pub invariant_of-self-2 : goal.invariant_of-self-2
invariant_of-self-2 c =
    let ds = c.self.inside.domains in let n = c.args.domain in
    keeps_put ds c.mmio.new.self c.self.inside.outboxes c.put.new.self (Host n) (Mmio c.args.access.now) (place_of ds n) c.in_ok-request.request (λ n. refl) c.self.invariant refl c.in_ok-request.ensures.ok c.put.ensures

pub returns-clause-ok : goal.returns-clause-ok
returns-clause-ok c =
    let ds = c.self.inside.domains in let n = c.args.domain in
    rw (← c.self.view_is)
    (put_made ds c.mmio.new.self c.self.inside.outboxes c.put.new.self (Host n) (made ds n (Mmio c.args.access.now)) c.in_ok-request.request c.in_ok-request.ensures.ok c.put.ensures)
