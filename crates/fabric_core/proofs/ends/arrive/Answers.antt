use Rattle.std.proofs.Common.{List, ap, sym, subst, ◌∙◌}
use Rattle.platform.specs.declared.parts.DownstreamPort.{DownstreamPort}
use Rattle.bridge.specs.Bridges.{Routes}
use Rattle.fabric_core.specs.declared.event.Event.TheVariants.{Arrive}
use Rattle.fabric_core.specs.Arrivals.{agents_by_function, received_in}
use Rattle.fabric_core.specs.Settling.{EntryWants, Takes, entry_by_function}
use Rattle.fabric_core.proofs.effect.Settled.{Took, arrive_ends, arrive_wants, ends_step, settled, took_after}
use Rattle.fabric_core.proofs.effect.Taking.{stray_by_function}
use Rattle.fabric_core.proofs.ends.arrive.Goals as goal

pub returns : goal.returns
returns c violations =
    let h = c.args.interconnect.now in
    let agents = c.args.agents.now in
    let end = c.in-Some.end in
    let class = c.args.class in
    let function = c.args.function in
    let strays = c.args.strays.now.items in
    let frame = c.in-Some-take_at.frame in
    let taking = c.take_at.new.self in
    let new = c.settle.new.interconnect in
    let agents' = c.end_at_function-ended.new.agents in
    let received = received_in h.routes.ports agents.domains function frame in
    let all = agents_by_function agents function frame received in
    let wants = EntryWants (entry_by_function agents.domains function frame received) in
    let t : Took h taking end class frame =
    took_after h c.head_at.new.self taking end class frame c.head_at.ensures.same c.head_at.ensures.rest
    (record { left = c.in-Some-take_at.ensures.taken.0; found = c.in-Some-take_at.ensures.taken.1; now = c.in-Some-take_at.ensures.taken.2; restores = c.in-Some-take_at.ensures.restores; rest = c.take_at.ensures.rest }) in
    let has = sym c.has_function.ensures ∙ c.if-not-has_function.false in
    let stray = stray_by_function agents function frame received in
    -- the taking changed no port
    let made =
    subst (λ (ports : List DownstreamPort).
    Takes (agents_by_function agents function frame (received_in ports agents.domains function frame)) (EntryWants (entry_by_function agents.domains function frame (received_in ports agents.domains function frame))) frame agents agents' c.end_at_function-ended.result)
    (ap (λ (r : Routes). r.ports) t.rest.routes) c.end_at_function-ended.ensures in
    ends_step h taking new agents agents' violations strays c.settle.new.strays.items end class frame all wants stray t (Arrive function class) c.settle.result
    (arrive_ends h taking agents violations strays function end class frame t c.in-Some.ensures.value has) (arrive_wants h taking agents violations strays function end class frame t c.in-Some.ensures.value)
    (settled h taking new agents agents' violations strays c.settle.new.strays.items end class frame all wants stray t c.settle.result c.end_at_function-ended.result made c.settle.ensures)
