use Rattle.std.proofs.Common.{◌∙◌, ap}
use Rattle.std.proofs.Math.ListN.{drop_of_length-le}
use Rattle.domain_state.specs.State.{start_state}
use Rattle.fab_types.proofs.Taking.{take_all, take_next}
use Rattle.journal_text.proofs.JournalsWritten.{at_first, dropped, is_read_back, next_is_legal, ok_last, one_more}
use Rattle.journal_text.proofs.journals.write_journal.Goals as goal

pub loop-entry-init : goal.loop-entry-init
loop-entry-init g c =
    let domain = c.args.domain.now in
    let share = c.in_ok-machine.ensures.0 ∙ c.start-share.ensures in
    let state = c.in_ok-machine.ensures.1 ∙ ap start_state c.start-share.ensures in
    rw c.journal-entry-items.ensures.value (at_first _ domain.share c.in_ok-machine.machine domain.journal domain.state share state c.journal-entry-items.ensures.replays)

pub write_step-requires : goal.write_step-requires
write_step-requires g c =
    next_is_legal _ _ _ _ c.loop-entry.machine _ _ _ c.entry-item.result c.loop-entry.invariant
    (dropped c.journal-entry-items.result.now c.loop-entry.entry-index c.entry-item.result c.loop-entry-test.true c.entry-item.is)

pub loop-entry-preserved : goal.loop-entry-preserved
loop-entry-preserved g c =
    one_more _ _ _ _ _ c.loop-entry.machine c.write_step.new.machine _ _ _ _ c.entry-item.result c.loop-entry.invariant
    (dropped c.journal-entry-items.result.now c.loop-entry.entry-index c.entry-item.result c.loop-entry-test.true c.entry-item.is)
    (take_next c.journal-entry-items.result.now c.loop-entry.entry-index c.entry-item.result c.loop-entry-test.true c.entry-item.is) c.in_ok-write_step.ensures

pub returns-clause-written : goal.returns-clause-written
returns-clause-written g c =
    ok_last c.write_in_flight.result _ _ _ _ _ c.loop-entry.machine _ _ c.deref.result.now c.loop-entry.invariant (drop_of_length-le c.journal-entry-items.result.now c.loop-entry-test.false)
    (c.deref.ensures.value ∙ c.in_ok-numbers.ensures) c.write_in_flight.ensures

pub returns-clause-read_back : goal.returns-clause-read_back
returns-clause-read_back g c =
    let domain = c.args.domain.now in
    let all = take_all c.journal-entry-items.result.now c.loop-entry.entry-index c.loop-entry-test.false ∙ c.journal-entry-items.ensures.value in
    is_read_back c.write_in_flight.result _ _ domain.share _ c.loop-entry.machine _ _ domain.journal domain.state c.loop-entry.invariant all (rw (c.domain.ensures, c.start-share.ensures) at c.get.ensures.range) c.journal-entry-items.ensures.replays
