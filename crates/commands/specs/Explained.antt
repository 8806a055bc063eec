-- What the command `explain` prints, and how the program ends.
use Rattle.std.specs.Prelude.{◌≡◌, ◌↔◌, ℕ, ◌==◌, Bool, false, true, List, Ok, Option, if◌then◌else◌}
use Rattle.std.specs.List.{list_all, list_any}
use Rattle.platform.specs.Platform.{Platform}
use Rattle.platform.specs.Share.{is_guarded_port}
use Rattle.layout.specs.Reading.{reading}
use Rattle.inputs.specs.declared.fault.ExitStatus.{ExitStatus}
use Rattle.inputs.specs.declared.fault.ExitStatus.TheVariants as status
use Rattle.attacks.specs.declared.findings.Findings.{Findings}
use Rattle.attacks.specs.declared.findings.Findings.TheVariants.{NothingToKeep, Guarded, Unguarded}
use Rattle.attacks.specs.Findings.{has_witness}
use Rattle.attacks.specs.Owners.{has_nothing_to_keep}
use Rattle.audit.specs.Telling.{Tell}
use Rattle.findings_text.specs.Remarks.{remarks_of}
use Rattle.findings_text.specs.Witnesses.{explanation_text}
use Rattle.inputs.specs.Files.{File}
use Rattle.commands.specs.ExplainScripts.{scripts_of}

-- fewer than two domains own a function
abbrev pub HasNothingToKeep : Platform → Type 0
HasNothingToKeep platform = has_nothing_to_keep platform ≡ true

-- this, unless so many endpoints were left out of the layout
abbrev pub unless_partial : ℕ → ExitStatus → ExitStatus
unless_partial left_out end = if left_out == 0 then end else status.Partial

-- how the program ends: nothing to keep apart, or guarded, or not and harm was seen, or not and none was
abbrev pub status_after : Findings → ℕ → ExitStatus
status_after NothingToKeep left_out = status.NothingToKeep
status_after Guarded left_out = unless_partial left_out status.Done
status_after (Unguarded pairs) left_out = if list_any has_witness pairs.items then status.Harmed else unless_partial left_out status.Unguarded

-- The file of this name has the text of a platform. This is what it is about, its tree and what was found of it: that there is
-- nothing to keep apart, or that it is guarded, and that no domain can tell the others from none, or that it isn't, and witnesses that
-- land; with Linux's groups, if they are wanted, and by what the text says in comments. And these are the files of the scripts, if a
-- folder is named
pub record Explains (holds : List ℕ → List ℕ → Type 0) (layout_name : List ℕ) (folder : Option (List ℕ)) (wants_groups : Bool) (ends : ExitStatus) (text : List ℕ) (files : List File) : Type 0 where
  pub layout_text : List ℕ
  pub layout_file : holds layout_name layout_text
  pub platform : Platform
  pub layout : reading layout_text ≡ Ok platform
  pub findings : Findings
  pub nothing : (findings ≡ NothingToKeep) ↔ HasNothingToKeep platform
  pub guarded : (findings ≡ Guarded) ↔ ((has_nothing_to_keep platform ≡ false) × (list_all is_guarded_port platform.ports ≡ true))
  pub told : Tell platform findings
  pub ends_is : ends ≡ status_after findings (remarks_of layout_text).left_out
  pub all : text ≡ explanation_text platform (remarks_of layout_text) findings wants_groups
  pub scripts : files ≡ scripts_of folder (remarks_of layout_text) findings
