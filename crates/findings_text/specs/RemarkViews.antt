-- What a clause sees of `Remarks`.
use Rattle.std.specs.Prelude.{◌≤◌, ◌^◌}
use Rattle.findings_text.specs.declared.remarks.Remarks.TheInside.{Inside}
use Rattle.findings_text.specs.Remarks.{Told, told}

abbrev pub told_of : Inside → Told
told_of s = told s.names.items s.left_out

-- a text has no more lines
abbrev pub IsCounted : Inside → Type 0
IsCounted s = s.left_out ≤ 2 ^ 63
