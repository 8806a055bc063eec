use Rattle.std.proofs.Common.{◌+◌, ◌<◌, ◌≡◌, ◌≤◌, ℕ, Bool, List, Some, arith, false, length, map, refl, rules, subst}
use Rattle.std.specs.Prelude.{slice_get}
use Rattle.std.proofs.lemmas.Option.{slice_get_read}
use Rattle.sweeps.specs.Asleep.{station_of}
use Rattle.sweeps.proofs.Cutting.{told}
use Rattle.sweeps.proofs.CutVisits.{watchpoints_cut}
use Rattle.sweeps.proofs.Running.{stations_start}
use Rattle.sweeps.proofs.Sleeping.{asleep_up_to, sweep_next}
use Rattle.sweeps.proofs.sweeper.sweep.Goals as goal

pub returns-in_err-moves-clause-cut_short : goal.returns-in_err-moves-clause-cut_short
returns-in_err-moves-clause-cut_short c =
    let at = slice_get_read c.args.watchpoints.now (length c.args.watchpoints.now) c.loop-place.place c.index-watchpoints-place.result refl c.loop-place-test.true c.index-watchpoints-place.is in
    told _ (watchpoints_cut c.args.fabric.now c.loop-place.fabric c.visit.new.fabric c.args.watchpoints.now c.loop-place.place c.index-watchpoints-place.result c.loop-place.moved at c.loop-place.invariant.made c.in_err-moves.ensures.cut_short)

pub visit-requires-clause-watchpoint : goal.visit-requires-clause-watchpoint
visit-requires-clause-watchpoint c = slice_get_read c.args.watchpoints.now (length c.args.watchpoints.now) c.loop-place.place c.index-watchpoints-place.result refl c.loop-place-test.true c.index-watchpoints-place.is

-- the watchpoints before the first one that is awake are asleep
pub loop-place-init : goal.loop-place-init
loop-place-init c =
    let flags = c.args.awake.now.flags.items in
    let next = c.next_awake-place.result in
    let high : next ≤ length flags = subst (λ (fs : List Bool). next ≤ length fs) c.deref.ensures.value c.next_awake-place.ensures.high in
    let row : (place : ℕ) → 0 ≤ place → place < next → slice_get flags place ≡ Some false = subst (λ (fs : List Bool). (place : ℕ) → 0 ≤ place → place < next → slice_get fs place ≡ Some false) c.deref.ensures.value c.next_awake-place.ensures.asleep in record {
      within = omega (arith, high, c.requires.asleep.all);
      made = asleep_up_to c.args.fabric.now c.args.fabric.now c.args.watchpoints.now c.args.awake.now 0 next false c.requires.asleep (omega arith) high row (stations_start c.args.fabric.now (map station_of c.args.watchpoints.now));
      asleep = c.requires.asleep;
    }

-- and so are those from this one to the next
pub loop-place-preserved : goal.loop-place-preserved
loop-place-preserved c =
    let at = slice_get_read c.args.watchpoints.now (length c.args.watchpoints.now) c.loop-place.place c.index-watchpoints-place.result refl c.loop-place-test.true c.index-watchpoints-place.is in
    let flags = c.visit.new.awake.flags.items in
    let next = c.next_awake-place-in-loop-place.result in
    let high : next ≤ length flags = subst (λ (fs : List Bool). next ≤ length fs) c.deref-in-loop-place.ensures.value c.next_awake-place-in-loop-place.ensures.high in
    let row : (place : ℕ) → c.loop-place.place + 1 ≤ place → place < next → slice_get flags place ≡ Some false = subst (λ (fs : List Bool). (place : ℕ) → c.loop-place.place + 1 ≤ place → place < next → slice_get fs place ≡ Some false) c.deref-in-loop-place.ensures.value c.next_awake-place-in-loop-place.ensures.asleep in
    let made = sweep_next c.args.fabric.now c.loop-place.fabric c.visit.new.fabric c.args.watchpoints.now c.loop-place.place c.index-watchpoints-place.result c.loop-place.moved c.in_ok-moves.moves _ at (search rules) c.loop-place.invariant.made c.in_ok-moves.ensures.made in record {
      within = omega (arith, high, c.visit.ensures.asleep.all);
      made = asleep_up_to c.args.fabric.now c.visit.new.fabric c.args.watchpoints.now c.visit.new.awake (c.loop-place.place + 1) next _ c.visit.ensures.asleep c.next_awake-place-in-loop-place.ensures.low high row made;
      asleep = c.visit.ensures.asleep;
    }
