use Rattle.std.proofs.Common.{rules, ◌≡◌, length, arith, ◌∙◌}
use Rattle.outboxes.proofs.Noting.{function_noted, function_others, host_noted, host_others}
use Rattle.outboxes.proofs.origin_index.OriginIndex.note.Goals as goal

pub returns-in-Function-clause-noted : goal.returns-in-Function-clause-noted
returns-in-Function-clause-noted c =
    let long : length c.args.self.now.by_bus ≡ 256 = search rules in
    let bus = c.bus.ensures in let small = c.bus.type_inv in
    rw (c.in-Function.is, c.from.ensures ∙ bus) (function_noted c.args.self.now c.in-Function.function c.args.place (omega (arith, long, bus, small)))

pub returns-in-Function-clause-others : goal.returns-in-Function-clause-others
returns-in-Function-clause-others c =
    let long : length c.args.self.now.by_bus ≡ 256 = search rules in
    let bus = c.bus.ensures in let small = c.bus.type_inv in
    rw (c.in-Function.is, c.from.ensures ∙ bus) (function_others c.args.self.now c.in-Function.function c.args.place (omega (arith, long, bus, small)))

pub returns-in-Host-clause-noted : goal.returns-in-Host-clause-noted
returns-in-Host-clause-noted c =
    let long : length c.args.self.now.by_domain ≡ 32 = search rules in
    let number = c.get.ensures.value in let small = c.get.ensures.range.1 in
    rw (c.in-Host.is, c.from-in-Host.ensures ∙ number) (host_noted c.args.self.now c.in-Host.domain c.args.place (omega (arith, long, small)))

pub returns-in-Host-clause-others : goal.returns-in-Host-clause-others
returns-in-Host-clause-others c =
    let long : length c.args.self.now.by_domain ≡ 32 = search rules in
    let number = c.get.ensures.value in let small = c.get.ensures.range.1 in
    rw (c.in-Host.is, c.from-in-Host.ensures ∙ number) (host_others c.args.self.now c.in-Host.domain c.args.place (omega (arith, long, small)))
