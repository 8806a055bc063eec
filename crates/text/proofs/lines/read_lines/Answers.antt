use Rattle.std.proofs.Common.{inr, refl, sym, arith}
use Rattle.std.specs.Prelude.{IsSome, option_to_list}
use Rattle.text.specs.Reading.{adds, read_from, reading}
use Rattle.text.proofs.ReadingLemmas.{before-none, number-of_line, read-ended, read-on, read-refused, read-unended}
use Rattle.text.specs.Text.{pieces}
use Rattle.fab_types.specs.declared.faults.script.ScriptCause.TheVariants.{NoMemory}
use Rattle.text.proofs.lines.read_lines.Goals as goal

pub loop-parts-init : goal.loop-parts-init
unfolding reading
loop-parts-init g c =
    let said = g.R.LineReader.said c.args.reader.now in
    record {
      left = rw (c.as_bytes-rest.ensures.value, c.new-items.ensures.items) (sym (before-none (read_from (adds c.args.last said) 1 (pieces c.args.text.now))));
      small = omega arith;
    }

pub returns-in-Err : goal.returns-in-Err
returns-in-Err g c =
    let said = g.R.LineReader.said c.args.reader.now in
    rw c.loop-parts.invariant.left
    (read-refused (adds c.args.last said) c.loop-parts.line c.in-Err.cause c.loop-parts.items.items c.in-Some.parts.before.now c.in-Some.parts.after.now c.loop-parts.rest.now c.in-Some.ensures.parts c.in-Err.ensures)

pub returns-in_default-keep : goal.returns-in_default-keep
returns-in_default-keep g c =
    let said = g.R.LineReader.said c.args.reader.now in
    let line = c.in-Some.parts.before.now in
    let there : IsSome (adds c.args.last said c.loop-parts.line line) = rw c.in-Ok.ensures refl in
    rw c.loop-parts.invariant.left
    (read-refused (adds c.args.last said) c.loop-parts.line NoMemory c.loop-parts.items.items line c.in-Some.parts.after.now c.loop-parts.rest.now c.in-Some.ensures.parts there)

pub loop-parts-preserved : goal.loop-parts-preserved
loop-parts-preserved g c =
    let said = g.R.LineReader.said c.args.reader.now in
    let line = c.in-Some.parts.before.now in
    let items = option_to_list c.in-Ok.item in
    record {
      left =
          rw (c.loop-parts.invariant.left, c.in-Ok-keep.ensures)
          (read-on (adds c.args.last said) c.loop-parts.line c.loop-parts.items.items items line c.in-Some.parts.after.now c.loop-parts.rest.now c.in-Some.ensures.parts c.in-Ok.ensures);
      small = omega (arith, number-of_line c.args.last said c.loop-parts.line line items c.in-Ok.ensures);
    }

pub returns-then-not-is_empty : goal.returns-then-not-is_empty
returns-then-not-is_empty g c =
    let said = g.R.LineReader.said c.args.reader.now in
    inr (rw c.loop-parts.invariant.left (read-unended (adds c.args.last said) c.loop-parts.line c.loop-parts.items.items c.loop-parts.rest.now c.in_default.ensures.parts c.if-not-is_empty.ensures))

pub returns : goal.returns
returns g c =
    let said = g.R.LineReader.said c.args.reader.now in
    rw c.loop-parts.invariant.left (read-ended (adds c.args.last said) c.loop-parts.line c.loop-parts.items.items c.loop-parts.rest.now c.in_default.ensures.parts c.if-not-is_empty.ensures)
