-- What a layout tells in comments.
use Rattle.std.specs.Prelude.{◌≡◌, ℕ, Bool, List, [], ◌∷◌, ◌++◌, Option, Some, None, codes, if◌then◌else◌}
use Rattle.layout_line.specs.declared.lines.EgressText.{EgressText}
use Rattle.layout_line.specs.declared.lines.LayoutLine.{LayoutLine}
use Rattle.layout_line.specs.declared.lines.LayoutLine.TheVariants as line
use Rattle.lspci.specs.Acs.{acs_of}
use Rattle.import.specs.declared.reason.LeftOut.{LeftOut}
use Rattle.import.specs.Controls.{has_further_controls, loses_egress}
use Rattle.text_writers.specs.Comments.{IsPrintable}
use Rattle.import.specs.DeviceViews.{Imported}
use Rattle.text_writers.specs.DraftViews.{Written}
use Rattle.text_writers.specs.Drafts.{noted}
use Rattle.import.specs.Names.{name_of, remark_of}
use Rattle.import.specs.Reasons.{AreWordsOf}
use Rattle.import.specs.Roles.{has_further_window}

-- ---- of a device that gave a line

abbrev pub with_remark : Option (List ℕ) → Written → Written
with_remark None layout = layout
with_remark (Some remark) layout = noted remark layout

abbrev pub with_remark_if : Bool → List ℕ → Written → Written
with_remark_if is_so remark layout = if is_so then noted remark layout else layout

-- what there is to say of a port, by its bytes, and what the layout hasn't of it
abbrev pub with_remarks : List ℕ → List EgressText → ℕ → Written → Written
with_remarks bytes vectors id layout =
    with_remark_if (has_further_controls bytes) (codes "its controls besides V, B, R, C, U and E aren't in this layout")
    (with_remark_if (has_further_window bytes) (codes "its prefetchable window isn't in this layout, which has one window of a port")
    (with_remark_if (loses_egress bytes vectors id) (codes "its Egress Control isn't in this layout: Request Redirect counts as clear")
    (with_remark (remark_of (acs_of bytes)) layout)))

-- which device it is, and of a port what there is to say of it
abbrev pub with_name : List ℕ → List EgressText → LayoutLine → List ℕ → Written → Written
with_name bytes vectors (line.Port port) name layout = with_remarks bytes vectors port.id (noted name layout)
with_name bytes vectors _ name layout = noted name layout

-- ---- of what has no place

abbrev pub part_word : LeftOut → List ℕ
part_word part = if part.is_endpoint then codes "left out" else codes "passed over"

-- the comment of a device that has no place, by the text of the dump and the words of why
abbrev pub left_out_words : List ℕ → LeftOut → List ℕ → List ℕ
left_out_words dump part why = part_word part ++ codes ": " ++ (name_of dump part.line part.location ++ (codes ": " ++ why))

-- one line tells that it has none
abbrev pub IsToldOf : List ℕ → LeftOut → Written → Written → Type 0
IsToldOf dump part old new = (why : List ℕ) × AreWordsOf part.why why × IsPrintable why × (new ≡ noted (left_out_words dump part why) old)

-- each part is told in a line of its own
abbrev pub TellEach : List ℕ → List LeftOut → Written → Written → Type 0
TellEach dump [] old new = new ≡ old
TellEach dump (part ∷ parts) old new = (mid : Written) × IsToldOf dump part old mid × TellEach dump parts mid new

-- behind the text of a layout all parts are told that it hasn't
pub record IsTold (dump : List ℕ) (devices told : Imported) : Type 0 where
  pub platform : told.layout.platform ≡ devices.layout.platform
  pub left_out : told.left_out ≡ devices.left_out
  pub comments : TellEach dump devices.left_out devices.layout told.layout
