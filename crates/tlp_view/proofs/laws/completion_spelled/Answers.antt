use Rattle.std.proofs.Common.{◌/◌, length, arith}
use Rattle.tlp_view.proofs.Completed.{completion_spelled as the_law}
use Rattle.tlp_view.proofs.laws.completion_spelled.Goals as goal

pub returns : goal.returns
returns c = λ head payload fits completer requester tag small whole.
    the_law head payload fits (length payload / 4) (omega arith) (omega arith) completer requester tag
