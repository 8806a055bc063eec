-- The line of an ACS violation in a report.
use Rattle.std.specs.Prelude.{ℕ, ◌++◌, Bool, true, false, List, codes}
use Rattle.fab_types.specs.Texts.{id_text}
use Rattle.fab_types.specs.declared.violation.Check.{Check}
use Rattle.fab_types.specs.declared.violation.Check.TheVariants.{EgressControl, SourceValidation, TranslationBlocking}
use Rattle.fab_types.specs.declared.violation.Violation.{Violation}

-- the letter of the control (PCIe 4.0, 7.7.8.3)
abbrev pub check_letter : Check → List ℕ
check_letter SourceValidation = codes "V"
check_letter TranslationBlocking = codes "B"
check_letter EgressControl = codes "E"

abbrev pub class_word : Bool → List ℕ
class_word true = codes "posted"
class_word false = codes "nonposted"

-- which port refused whose request, by which test, and under which Requester ID it came
abbrev pub violation_line : Violation → List ℕ
violation_line violation =
    codes "acs " ++ id_text violation.port ++ codes " " ++ check_letter violation.check
    ++ codes " from " ++ id_text violation.sender ++ codes " as " ++ id_text violation.requester
    ++ codes " " ++ class_word violation.posted
