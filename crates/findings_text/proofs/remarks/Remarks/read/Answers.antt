use Rattle.std.proofs.Common.{◌<◌, ◌≤◌, length, arith}
use Rattle.findings_text.proofs.Comments.{count_end, count_next, names_end, names_next, one_at_most, told_is}
use Rattle.findings_text.proofs.remarks.Remarks.read.Goals as goal

pub loop-parts-preserved : goal.loop-parts-preserved
loop-parts-preserved c = record {
  names =
      names_next c.loop-parts.before c.stated_id-before.result c.in-Some.parts.before.now c.in-Some.parts.after.now c.loop-parts.rest.now _ c.loop-parts.names.items c.add_name.new.names.items
      c.in-Some.ensures.parts c.loop-parts.invariant.names c.in_ok-add_name.ensures c.stated_id-before.ensures;
  left_out =
      count_next c.in-Some.parts.before.now c.in-Some.parts.after.now c.loop-parts.rest.now _ c.loop-parts.left_out c.is_left_out.result c.from-left_out.result c.in-Some.ensures.parts
      c.is_left_out.ensures c.from-left_out.ensures c.loop-parts.invariant.left_out;
  small =
      let shorter : length c.in-Some.parts.after.now < length c.loop-parts.rest.now = c.in-Some.ensures.shorter in
      let one : c.from-left_out.result ≤ 1 = rw c.from-left_out.ensures (one_at_most c.is_left_out.result) in
      omega arith;
}

pub returns : goal.returns
returns c =
    told_is c.args.text.now _ _
    (names_end c.loop-parts.before c.loop-parts.rest.now _ c.loop-parts.names.items c.add_name-2.new.names.items c.in_default.ensures.parts c.loop-parts.invariant.names c.in_ok-add_name-2.ensures)
    (count_end c.loop-parts.rest.now _ c.loop-parts.left_out c.is_left_out-2.result c.from-left_out-2.result c.in_default.ensures.parts c.is_left_out-2.ensures c.from-left_out-2.ensures c.loop-parts.invariant.left_out)
