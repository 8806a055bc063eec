-- A layout with one line more, if no rule is against it.
use Rattle.std.specs.Prelude.{◌≡◌, ℕ, List, [], ◌∷◌, ◌++◌, Option, Some, None, codes}
use Rattle.fab_types.specs.Id.{id_of}
use Rattle.fab_types.specs.declared.faults.layout.LayoutCause.{LayoutCause}
use Rattle.layout_line.specs.declared.lines.LayoutLine.{LayoutLine}
use Rattle.layout.specs.Additions.{add, root_line}
use Rattle.layout.specs.Rules.{fault_of}
use Rattle.text_writers.specs.LayoutLineTexts.{layout_line_text}
use Rattle.platform.specs.declared.parts.LayoutVersion.{LayoutVersion}
use Rattle.platform.specs.declared.parts.LayoutVersion.TheVariants.{One, Two}
use Rattle.platform.specs.Platform.{Platform, no_lines}
use Rattle.text_writers.specs.Comments.{comment_text}
use Rattle.text_writers.specs.DraftViews.{Written}

-- the top switch, and frames for as many functions as there may be
abbrev pub start : LayoutVersion → Platform
start version = record (no_lines version) { frames = 64; switches = root_line (id_of 1 0 0) ∷ [] }

abbrev pub start_text : LayoutVersion → List ℕ
start_text One = codes "pciefab 1\nframes 64\nswitch 01:00.0 root\n"
start_text Two = codes "pciefab 2\nframes 64\nswitch 01:00.0 root\n"

-- the layout with the line, which its text has in its turn, unless this rule is against it
abbrev pub unless_faulty : Written → LayoutLine → Option LayoutCause → Written
unless_faulty draft line None = record { platform = add draft.platform line; text = draft.text ++ (layout_line_text line ++ codes "\n") }
unless_faulty draft line (Some cause) = draft

abbrev pub with_line : Written → LayoutLine → Written
with_line draft line = unless_faulty draft line (fault_of draft.platform line)

-- a line was added, or this rule is against it
abbrev pub Attempt : Written → LayoutLine → Option LayoutCause → Written → Type 0
Attempt old line fault new = (fault_of old.platform line ≡ fault) × (new ≡ unless_faulty old line fault)

-- the layout with a comment more
abbrev pub noted : List ℕ → Written → Written
noted words draft = record { platform = draft.platform; text = draft.text ++ comment_text words }
