-- What an audit found, as text.
use Rattle.std.specs.Prelude.{ℕ, ◌+◌, ◌==◌, ◌++◌, Bool, List, [], ◌∷◌, Option, Some, None, codes, length, if◌then◌else◌}
use Rattle.std.specs.Fmt.{decimal}
use Rattle.std.specs.List.{flat_map}
use Rattle.fab_types.specs.Controls.{short_name}
use Rattle.fab_types.specs.Texts.{id_text}
use Rattle.fab_types.specs.declared.controls.Control.{Control}
use Rattle.reports.specs.Report.{packet_text}
use Rattle.platform.specs.Platform.{Platform}
use Rattle.attacks.specs.Packets.{own_bytes, own_read}
use Rattle.attacks.specs.declared.attack.Harm.{Harm}
use Rattle.attacks.specs.declared.attack.Harm.TheVariants.{FrameWritten, FrameRead, RegistersWritten, RegistersRead, TagClosed, Completion, Counts, AnswersFrame, AnswersRegisters}
use Rattle.attacks.specs.declared.findings.Findings.{Findings}
use Rattle.attacks.specs.declared.findings.Findings.TheVariants.{NothingToKeep, Guarded, Unguarded}
use Rattle.attacks.specs.declared.findings.Pair.{Pair}
use Rattle.attacks.specs.declared.findings.Witness.{Witness}
use Rattle.attacks.specs.declared.own_read.OwnRead.{OwnRead}
use Rattle.findings_text.specs.Idle.{idle_text}
use Rattle.findings_text.specs.Linux.{linux_text}
use Rattle.findings_text.specs.Remarks.{Told, named_id}
use Rattle.findings_text.specs.Summary.{summary_text}
use Rattle.findings_text.specs.Tree.{tree_text}
use Rattle.findings_text.specs.declared.remarks.Named.{Named}

abbrev pub closed_text : List Named → ℕ → List ℕ
closed_text names function = codes "Tag of " ++ named_id names function ++ codes " closed by another's completion"

-- of a packet that this function submits
abbrev pub harm_text : List Named → ℕ → Harm → List ℕ
harm_text names submitter (FrameWritten frame) = codes "write to frame " ++ decimal frame
harm_text names submitter (FrameRead frame) = codes "read of frame " ++ decimal frame
harm_text names submitter (RegistersWritten function) = codes "write to registers of " ++ named_id names function
harm_text names submitter (RegistersRead function) = codes "read of registers of " ++ named_id names function
harm_text names submitter (TagClosed read) = closed_text names read.function
harm_text names submitter Completion = codes "completion not asked for"
harm_text names submitter Counts = codes "counts changed"
harm_text names submitter (AnswersFrame frame) = codes "answers reads of " ++ named_id names submitter
harm_text names submitter (AnswersRegisters function) = codes "answers reads of " ++ named_id names submitter

-- how a line of two domains begins
abbrev pub pair_text : ℕ → ℕ → List ℕ
pair_text attacker victim = codes "domain " ++ decimal attacker ++ codes " reaches domain " ++ decimal victim ++ codes ": "

abbrev pub control_text : Control → List ℕ
control_text control = codes ", " ++ short_name control ++ codes " clear\n"

-- who reaches whom, how, and past which port and control
abbrev pub head_text : List Named → Witness → List ℕ
head_text names w = pair_text w.attacker w.victim ++ harm_text names w.function w.harm ++ (codes " at " ++ named_id names w.port) ++ control_text w.control

abbrev pub submitter_text : ℕ → List ℕ
submitter_text function = codes "submit " ++ id_text function ++ codes " "

abbrev pub sweeps_text : ℕ → List ℕ
sweeps_text sweeps = codes "sweep " ++ decimal sweeps ++ codes "\n"

-- some sweeps, and the read that follows
abbrev pub read_text : OwnRead → List ℕ
read_text read = sweeps_text read.sweeps ++ submitter_text read.function ++ packet_text (own_bytes read)

-- the read of the harmed domain's own, if there is one
abbrev pub own_text : Option OwnRead → List ℕ
own_text None = []
own_text (Some read) = read_text read

-- what shows it
abbrev pub steps_text : Witness → List ℕ
steps_text w = submitter_text w.function ++ packet_text w.bytes ++ own_text (own_read w.harm) ++ codes "sweep 1000\n"

abbrev pub witness_text : List Named → Witness → List ℕ
witness_text names w = head_text names w ++ steps_text w

-- the same as a script of its own, of which the first line is a comment
abbrev pub script_text : Told → Witness → List ℕ
script_text told w = codes "# " ++ witness_text told.names w

-- that none was found, if there is none
abbrev pub none_text : Pair → List Witness → List ℕ
none_text pair [] = pair_text pair.attacker pair.victim ++ codes "none found\n"
none_text pair (w ∷ ws) = []

abbrev pub pair_lines : List Named → Pair → List ℕ
pair_lines names pair = none_text pair pair.witnesses.items ++ flat_map (witness_text names) pair.witnesses.items

abbrev pub numbers_text : ℕ → ℕ → List ℕ
numbers_text here all = codes "of " ++ decimal here ++ codes " of " ++ decimal all

-- so many endpoints are here, and so many are left out
abbrev pub share_text : List ℕ → ℕ → ℕ → List ℕ
share_text words here left_out = words ++ numbers_text here (here + left_out) ++ codes " endpoints: the others are not in this layout\n"

-- the first words where no endpoint is left out, or else the other ones, and of how many this is
abbrev pub share_or : ℕ → ℕ → List ℕ → List ℕ → List ℕ
share_or here left_out whole part = if left_out == 0 then whole else share_text part here left_out

-- with so many endpoints here, and so many left out
abbrev pub findings_text : ℕ → Told → Findings → List ℕ
findings_text here told NothingToKeep =
    share_or here told.left_out (codes "nothing to keep apart: fewer than two domains own a function\n") (codes "nothing to keep apart: fewer than two domains own a function, ")
findings_text here told Guarded = share_or here told.left_out (codes "guarded: no domain can tell the others from none\n") (codes "guarded, ")
findings_text here told (Unguarded pairs) = flat_map (pair_lines told.names) pairs.items ++ share_or here told.left_out [] (codes "this is ")

-- Linux's groups, if they are wanted
abbrev pub wanted_text : Platform → List Named → Findings → Bool → List ℕ
wanted_text platform names findings wants_groups = if wants_groups then linux_text platform names findings else []

-- what it is about, the tree, what was found, which clear controls let nothing pass, and those groups
abbrev pub explanation_text : Platform → Told → Findings → Bool → List ℕ
explanation_text platform told findings wants_groups =
    summary_text platform ++ tree_text platform told.names ++ findings_text (length platform.functions) told findings ++ idle_text platform told.names findings
    ++ wanted_text platform told.names findings wants_groups
