use Rattle.fabric_core.specs.declared.event.Event.TheVariants.{Root}
use Rattle.std.proofs.Common.{◌≡◌, false, sym, ap, ◌∙◌, subst}
use Rattle.bridge.specs.Bridges.{Routes}
use Rattle.fab_types.specs.declared.head.Head.{Head}
use Rattle.topology.specs.Links.{sender_of}
use Rattle.fabric_core.specs.Arrivals.{agents_by_host}
use Rattle.received.specs.Received.{is_relayed, received_at_host}
use Rattle.fabric_core.specs.Settling.{EntryWants, Takes, entry_by_host}
use Rattle.fabric_core.proofs.effect.Settled.{Took, ends_step, looked_head, host_ends, host_wants, settled, took_after}
use Rattle.fabric_core.proofs.effect.Taking.{stray_by_host}
use Rattle.fabric_core.proofs.ends.arrive_at_host.Goals as goal

pub returns : goal.returns
returns c violations =
    let h = c.args.interconnect.now in
    let agents = c.args.agents.now in
    let end = c.in-Some.end in
    let class = c.args.class in
    let frame = c.in-Some-take_at.frame in
    let taking = c.take_at.new.self in
    let new = c.settle.new.interconnect in
    let agents' = c.end_at_host-ended.new.agents in
    let received = received_at_host frame in
    let all = agents_by_host h.routes.ports agents frame received in
    let wants = EntryWants (entry_by_host agents.domains frame received) in
    let t : Took h taking end class frame =
    took_after h c.head_at.new.self taking end class frame c.head_at.ensures.same c.head_at.ensures.rest
    (record { left = c.in-Some-take_at.ensures.taken.0; found = c.in-Some-take_at.ensures.taken.1; now = c.in-Some-take_at.ensures.taken.2; restores = c.in-Some-take_at.ensures.restores; rest = c.take_at.ensures.rest }) in
    let head : frame.head ≡ c.in-Some-head_at.head = looked_head h end class frame t.left c.in-Some-head_at.head t.found c.in-Some-head_at.ensures.found in
    let relayed : is_relayed frame.head.header ≡ false = ap (λ (x : Head). is_relayed x.header) head ∙ (sym c.is_relayed.ensures ∙ c.if-is_relayed.false) in
    let sender = c.in-Some.ensures.value ∙ ap (sender_of h.tree.links) c.top_link.ensures in
    let takes : Takes all wants frame agents agents' c.end_at_host-ended.result = subst (λ (r : Routes). Takes (agents_by_host r.ports agents frame received) wants frame agents agents' c.end_at_host-ended.result) t.rest.routes c.end_at_host-ended.ensures in
    let stray = stray_by_host h.routes.ports agents frame received in
    ends_step h taking new agents agents' violations c.args.strays.now.items c.settle.new.strays.items end class frame all wants stray t (Root class) c.settle.result
    (host_ends h taking agents violations c.args.strays.now.items end class frame t sender relayed) (host_wants h taking agents violations c.args.strays.now.items end class frame t sender relayed)
    (settled h taking new agents agents' violations c.args.strays.now.items c.settle.new.strays.items end class frame all wants stray t c.settle.result c.end_at_host-ended.result takes c.settle.ensures)
