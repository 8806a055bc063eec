-- The letters of a port's ACS controls (PCIe 4.0, 7.7.8.3).
use Rattle.std.specs.Prelude.{ℕ, ◌++◌, List, [], codes, if◌then◌else◌}
use Rattle.fab_types.specs.Controls.{control_letter, controls_egress, is_set}
use Rattle.fab_types.specs.declared.controls.AcsControl.{AcsControl}
use Rattle.fab_types.specs.declared.controls.Control.{Control}
use Rattle.fab_types.specs.declared.controls.Control.TheVariants.{SourceValidation, TranslationBlocking, RequestRedirect, CompletionRedirect, UpstreamForwarding}

abbrev pub letter_in : AcsControl → Control → List ℕ
letter_in controls control = if is_set controls control then control_letter control else []

abbrev pub egress_in : AcsControl → List ℕ
egress_in controls = if controls_egress controls then codes "E" else []

-- the letters of the controls that are set
abbrev pub letters_of : AcsControl → List ℕ
letters_of controls =
    (letter_in controls SourceValidation ++ letter_in controls TranslationBlocking ++ letter_in controls RequestRedirect)
    ++ (letter_in controls CompletionRedirect ++ letter_in controls UpstreamForwarding ++ egress_in controls)
