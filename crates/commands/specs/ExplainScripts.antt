-- The files of scripts that `explain` writes.
use Rattle.std.specs.Prelude.{ℕ, ◌+◌, ◌-◌, ◌^◌, ◌++◌, false, List, [], ◌∷◌, codes, Option, Some, None}
use Rattle.std.specs.Fmt.{decimal, digits, format_spec, padded_integral}
use Rattle.std.specs.List.{flat_map}
use Rattle.attacks.specs.declared.findings.Findings.{Findings}
use Rattle.attacks.specs.declared.findings.Findings.TheVariants.{NothingToKeep, Guarded, Unguarded}
use Rattle.attacks.specs.declared.findings.Pair.{Pair}
use Rattle.attacks.specs.declared.findings.Witness.{Witness}
use Rattle.findings_text.specs.Remarks.{Told}
use Rattle.findings_text.specs.Witnesses.{script_text}
use Rattle.inputs.specs.Files.{File}

-- two decimal digits
abbrev pub two_digits : ℕ → List ℕ
two_digits n = padded_integral (format_spec 32 0 4 2 (2 ^ 64 - 1)) false [] (digits 10 false n)

-- `FOLDER/ATTACKER-reaches-VICTIM-NN.script`
abbrev pub script_name : List ℕ → Witness → ℕ → List ℕ
script_name folder w n =
    folder ++ codes "/" ++ decimal w.attacker ++ codes "-reaches-" ++ decimal w.victim ++ codes "-" ++ two_digits n ++ codes ".script"

abbrev pub script_file : List ℕ → Told → Witness → ℕ → File
script_file folder told w n = record { name = script_name folder w n; bytes = script_text told w }

-- those of these witnesses, with numbers from here on
abbrev pub files_from : List ℕ → Told → ℕ → List Witness → List File
files_from folder told n [] = []
files_from folder told n (w ∷ ws) = script_file folder told w n ∷ files_from folder told (n + 1) ws

abbrev pub pair_files : List ℕ → Told → Pair → List File
pair_files folder told pair = files_from folder told 1 pair.witnesses.items

abbrev pub findings_files : List ℕ → Told → Findings → List File
findings_files folder told NothingToKeep = []
findings_files folder told Guarded = []
findings_files folder told (Unguarded pairs) = flat_map (pair_files folder told) pairs.items

-- in this folder, if one is named
abbrev pub scripts_of : Option (List ℕ) → Told → Findings → List File
scripts_of None told findings = []
scripts_of (Some folder) told findings = findings_files folder told findings
