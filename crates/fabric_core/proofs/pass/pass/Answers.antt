use Rattle.std.proofs.Common.{List, refl, sym, ap, ◌∙◌}
use Rattle.std.specs.Option.{is_some}
use Rattle.fab_types.specs.declared.class.Class.TheVariants.{Completion}
use Rattle.link.specs.Channels.{Channel, is_full}
use Rattle.domains.specs.Aliens.{aliened}
use Rattle.interconnect.specs.Moves.{channel_at}
use Rattle.interconnect.specs.Views.{channels}
use Rattle.interconnect.proofs.Room.{full_left}
use Rattle.fabric_core.specs.Misrouting.{is_at_port_of}
use Rattle.fabric_core.specs.World.{world_over}
use Rattle.fabric_core.proofs.soundness.GuardedAliens.{none_misrouted}
use Rattle.fabric_core.proofs.effect.MisroutedAnswers.{misrouted_answers}
use Rattle.fabric_core.proofs.effect.Misrouted.{first_of, keeps_it, misroute_step, nothing_misrouted, second_of, some_made, turned_step, was_back}
use Rattle.fabric_core.proofs.effect.Over.{rest_after}
use Rattle.fabric_core.proofs.effect.Settled.{Took, took_after}
use Rattle.fabric_core.proofs.pass.pass.Goals as goal

pub returns-then-is_guarded : goal.returns-then-is_guarded
returns-then-is_guarded c strays kept =
    let h = c.args.interconnect.now in
    let agents = c.args.agents.now in
    let violations = c.args.reports.now.violations in
    turned_step h h c.pass.new.self agents c.pass.new.desk violations c.pass.new.reporter.violations strays c.args.class c.pass.result c.args.port kept (record { tree = refl; routes = refl; ports = refl }) refl
    (none_misrouted (world_over h agents violations strays) kept (sym c.is_guarded.ensures ∙ c.if-is_guarded.true) c.args.port c.args.class) c.pass.ensures

pub returns-in_default : goal.returns-in_default
returns-in_default c strays kept =
    let h = c.args.interconnect.now in
    let agents = c.args.agents.now in
    let violations = c.args.reports.now.violations in
    turned_step h c.misrouted_at.new.self c.pass-in_default.new.self agents c.pass-in_default.new.desk violations c.pass-in_default.new.reporter.violations strays c.args.class c.pass-in_default.result c.args.port kept c.misrouted_at.ensures.rest c.misrouted_at.ensures.same
    (nothing_misrouted h agents violations strays c.args.port c.args.class (sym c.in_default.ensures.value)) c.pass-in_default.ensures

pub misroute-requires-clause-full : goal.misroute-requires-clause-full
misroute-requires-clause-full c =
    let misrouted = c.in-Some.misrouted in
    let mid = c.is_full_at-is_full.new.self in
    c.is_full_at-is_full.ensures.full
    ∙ (ap (λ (cs : List (List Channel)). is_full Completion (channel_at cs misrouted.own)) (sym c.is_full_at-is_full.ensures.same)
    ∙ (sym (full_left (channels mid) misrouted.input misrouted.own c.in-Some-take_at.ensures.taken.0 Completion)
    ∙ ap (λ (cs : List (List Channel)). is_full Completion (channel_at cs misrouted.own)) (sym c.in-Some-take_at.ensures.taken.2)))

pub misroute-requires-clause-completion : goal.misroute-requires-clause-completion
misroute-requires-clause-completion c =
    let agents = c.args.agents.now in
    let misrouted = c.in-Some.misrouted in
    let frame = c.in-Some-take_at.frame in
    misrouted_answers agents.domains misrouted.place frame
    (first_of (is_at_port_of agents.domains frame.domain misrouted.place) (is_some (aliened agents.domains frame.domain misrouted.place frame)) (sym c.may_misroute.ensures ∙ c.if-may_misroute.true))

pub returns-then-may_misroute : goal.returns-then-may_misroute
returns-then-may_misroute c strays kept =
    let h = c.args.interconnect.now in
    let agents = c.args.agents.now in
    let violations = c.args.reports.now.violations in
    let misrouted = c.in-Some.misrouted in
    let frame = c.in-Some-take_at.frame in
    let looked = c.misrouted_at.new.self in
    let mid = c.is_full_at-is_full.new.self in
    let taking = c.take_at.new.self in
    let class = c.args.class in
    let both = sym c.may_misroute.ensures ∙ c.if-may_misroute.true in
    let at_port = first_of (is_at_port_of agents.domains frame.domain misrouted.place) (is_some (aliened agents.domains frame.domain misrouted.place frame)) both in
    let made = some_made (aliened agents.domains frame.domain misrouted.place frame) (second_of (is_at_port_of agents.domains frame.domain misrouted.place) (is_some (aliened agents.domains frame.domain misrouted.place frame)) both) in
    let t : Took h taking misrouted.input class frame =
    took_after h looked taking misrouted.input class frame c.misrouted_at.ensures.same c.misrouted_at.ensures.rest
    (took_after looked mid taking misrouted.input class frame c.is_full_at-is_full.ensures.same c.is_full_at-is_full.ensures.rest
    (record { left = c.in-Some-take_at.ensures.taken.0; found = c.in-Some-take_at.ensures.taken.1; now = c.in-Some-take_at.ensures.taken.2; restores = c.in-Some-take_at.ensures.restores; rest = c.take_at.ensures.rest })) in
    misroute_step h taking c.misroute.new.interconnect agents c.misroute.new.agents violations c.misroute.new.reports.violations strays c.args.port class misrouted frame made.0 t (sym c.in-Some.ensures.value) at_port made.1 c.misroute.result (c.misroute.ensures made.0 made.1)

pub returns-else-may_misroute : goal.returns-else-may_misroute
returns-else-may_misroute c strays kept =
    let h = c.args.interconnect.now in
    let agents = c.args.agents.now in
    let violations = c.args.reports.now.violations in
    let misrouted = c.in-Some.misrouted in
    let frame = c.in-Some-take_at.frame in
    let looked = c.misrouted_at.new.self in
    let mid = c.is_full_at-is_full.new.self in
    let taking = c.take_at.new.self in
    let back = c.put_back_at.new.self in
    let class = c.args.class in
    let t : Took h taking misrouted.input class frame =
    took_after h looked taking misrouted.input class frame c.misrouted_at.ensures.same c.misrouted_at.ensures.rest
    (took_after looked mid taking misrouted.input class frame c.is_full_at-is_full.ensures.same c.is_full_at-is_full.ensures.rest
    (record { left = c.in-Some-take_at.ensures.taken.0; found = c.in-Some-take_at.ensures.taken.1; now = c.in-Some-take_at.ensures.taken.2; restores = c.in-Some-take_at.ensures.restores; rest = c.take_at.ensures.rest })) in
    let same = was_back h taking back misrouted.input class frame t c.put_back_at.ensures.waiting in
    turned_step h back c.pass-else-may_misroute.new.self agents c.pass-else-may_misroute.new.desk violations c.pass-else-may_misroute.new.reporter.violations strays class c.pass-else-may_misroute.result c.args.port kept
    (rest_after h taking back t.rest c.put_back_at.ensures.rest) same
    (keeps_it h agents violations strays c.args.port class misrouted frame t.left (record { misrouted_is = sym c.in-Some.ensures.value; found = t.found }) (sym c.may_misroute.ensures ∙ c.if-may_misroute.false))
    c.pass-else-may_misroute.ensures
