use Rattle.std.proofs.Common.{◌≡◌}
use Rattle.import.proofs.PartByPart.{TellRest}
use Rattle.import.proofs.telling.tell_left_out.Given as goal

-- the parts so far are told
abbrev pub invariant-loop-part : goal.invariant-loop-part
invariant-loop-part l = (l.draft.platform ≡ l.initial.draft.platform) × (l.names ≡ l.initial.names) × TellRest l.initial.names l.left_out l.initial.draft l.part-index l.draft
