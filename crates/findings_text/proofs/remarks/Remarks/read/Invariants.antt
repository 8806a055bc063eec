use Rattle.std.proofs.Common.{◌≡◌, ◌+◌, ◌≤◌, ◌++◌, None, length}
use Rattle.std.specs.Prelude.{count_by}
use Rattle.text.specs.Text.{pieces}
use Rattle.findings_text.specs.Remarks.{is_left_out, names_from}
use Rattle.findings_text.proofs.remarks.Remarks.read.Given as goal

-- what the lines so far say, with those that are left, is what all say
abbrev pub invariant-loop-parts : goal.invariant-loop-parts
invariant-loop-parts l = record {
  names : names_from None (pieces l.fn.text) ≡ l.names.items ++ names_from l.before (pieces l.rest);
  left_out : count_by is_left_out (pieces l.fn.text) ≡ l.left_out + count_by is_left_out (pieces l.rest);
  small : l.left_out + length l.rest ≤ length l.fn.text;
}

abbrev pub decreases-loop-parts : goal.decreases-loop-parts
decreases-loop-parts l = length l.rest
