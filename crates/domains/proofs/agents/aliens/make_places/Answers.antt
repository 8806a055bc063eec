use Rattle.std.proofs.Common.{sym, ◌∙◌}
use Rattle.fab_types.specs.declared.origin.Origin.TheVariants.{Function, Host}
use Rattle.domains.proofs.AlienPlaces.{function_passed, function_reached, grown_more, grown_none, host_reached}
use Rattle.domains.proofs.agents.aliens.make_places.Goals as goal
use Rattle.domains.proofs.agents.aliens.make_places.Goals.{then-owns_function+in_ok-more-2, else-owns_function}

pub loop-function-init : goal.loop-function-init
loop-function-init c =
    let old = c.args.outboxes.now in let share = c.args.start.now in
    record {
      grown = grown_more 2 old old c.more.new.self (Host c.domain.result) (grown_none old) c.in_ok-more.ensures.ok;
      reached = host_reached share old c.more.new.self (rw (← c.domain.ensures) c.in_ok-more.ensures.ok);
    }

pub loop-function-preserved : goal.loop-function-preserved
loop-function-preserved c =
    let old = c.args.outboxes.now in let share = c.args.start.now in let boxes = c.loop-function.outboxes in
    let items = c.functions-function-items.result.now in let i = c.loop-function.function-index in let line = c.function-item.result in
    elim c.if-owns_function.branch [
      | then-owns_function+in_ok-more-2 w ↦
          rw w.outboxes-is
          (record {
            grown = grown_more 2 old boxes w.more-then-owns_function.new.self (Function line.id) c.loop-function.invariant.grown w.in_ok-more-2.ensures.ok;
            reached = function_reached share items i line old boxes w.more-then-owns_function.new.self c.loop-function-test.true c.function-item.is c.loop-function.invariant.grown c.loop-function.invariant.reached w.in_ok-more-2.ensures.ok;
          })
      | else-owns_function w ↦
          rw w.outboxes-is
          (record {
            grown = c.loop-function.invariant.grown;
            reached = function_passed share items i line old boxes c.loop-function-test.true c.function-item.is (sym c.owns_function.ensures ∙ w.if-owns_function.false) c.loop-function.invariant.reached;
          })
    ]

pub returns-in_err-more-2-clause-grown : goal.returns-in_err-more-2-clause-grown
returns-in_err-more-2-clause-grown c = rw c.in_err-more-2.ensures.err c.loop-function.invariant.grown
