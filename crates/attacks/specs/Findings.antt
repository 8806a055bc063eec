-- What an audit finds.
use Rattle.std.specs.Prelude.{◌==◌, Bool, not, vec_len}
use Rattle.attacks.specs.declared.findings.Pair.{Pair}

-- the one domain was seen to harm the other
abbrev pub has_witness : Pair → Bool
has_witness pair = not (vec_len pair.witnesses == 0)
