-- What an explanation is about, as text.
use Rattle.std.specs.Prelude.{ℕ, ◌==◌, ◌++◌, List, [], codes, length, if◌then◌else◌}
use Rattle.std.specs.Fmt.{decimal}
use Rattle.platform.specs.Platform.{Platform}
use Rattle.attacks.specs.Owners.{owners_count}

-- `s`, unless it is one
abbrev pub ending : ℕ → List ℕ
ending count = if count == 1 then [] else codes "s"

-- `4 functions of 2 domains below 5 ports`
abbrev pub counts_text : ℕ → ℕ → ℕ → List ℕ
counts_text functions domains ports =
    (decimal functions ++ codes " function" ++ ending functions ++ codes " of " ++ decimal domains ++ codes " domain" ++ ending domains)
    ++ (codes " below " ++ decimal ports ++ codes " port" ++ ending ports ++ codes "\n")

-- the functions of a layout, the domains that own one, and the ports
abbrev pub summary_text : Platform → List ℕ
summary_text platform = counts_text (length platform.functions) (owners_count platform) (length platform.ports)
