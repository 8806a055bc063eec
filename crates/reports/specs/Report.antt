-- The lines that the program prints.
use Rattle.std.specs.Prelude.{◌≡◌, ℕ, zero, suc, ◌+◌, ◌-◌, ◌*◌, ◌/◌, ◌^◌, ◌==◌, ◌++◌, if◌then◌else◌, false, List, [], ◌∷◌, length, map, filter, codes, slice_range}
use Rattle.std.specs.List.{flat_map, list_all}
use Rattle.std.specs.Option.{option_map_or}
use Rattle.std.specs.Fmt.{decimal, digits, format_spec, padded_integral}
use Rattle.hex.specs.Hex.{encode_lower}
use Rattle.fab_types.specs.Faults.{begin_fault_name, begin_fault_number}
use Rattle.fab_types.specs.Texts.{byte_text, id_text}
use Rattle.fab_types.specs.declared.faults.begin.BeginFault.{BeginFault}
use Rattle.fab_types.specs.declared.status.Status.{Status}
use Rattle.fab_types.specs.declared.status.Status.TheVariants.{SC, UR, CRS, CA}
use Rattle.fab_types.specs.declared.violation.Violation.{Violation}
use Rattle.host_memory.specs.Pages.{page_of}
use Rattle.platform.specs.Owners.{is_own_function}
use Rattle.platform.specs.Share.{Share}
use Rattle.domain.specs.Domains.{DomainView}
use Rattle.fab_types.specs.Origins.{origin_id}
use Rattle.domain_state.specs.State.{Delivery}
use Rattle.monitor.specs.Lines.{violation_line}
use Rattle.platform.specs.Rising.{IsRising}
use Rattle.reports.specs.declared.rows.PageName.{PageName}
use Rattle.reports.specs.declared.rows.PageName.TheVariants.{Frame, Registers}

-- the line of a script's line whose begin was refused
abbrev pub refusal_line : ℕ → BeginFault → List ℕ
refusal_line line fault =
    codes "refused " ++ decimal line ++ codes " " ++ decimal (begin_fault_number fault) ++ codes " " ++ begin_fault_name fault ++ codes "\n"

-- ---- pages, by rows of 16 bytes

-- how the rows of a page begin
abbrev pub page_name : PageName → List ℕ
page_name (Frame number) = codes "frame " ++ decimal number
page_name (Registers function) = codes "regs " ++ id_text function

-- a number in lower-case hexadecimal, with zeros in front up to three digits
abbrev pub offset_text : ℕ → List ℕ
offset_text n = padded_integral (format_spec 32 0 4 3 (2 ^ 64 - 1)) false [] (digits 16 false n)

-- the line of a row of a page, nothing where all its bytes are 0
abbrev pub row_line : PageName → ℕ → List ℕ → List ℕ
row_line page offset row =
    if list_all (λ b. b == 0) row then []
    else page_name page ++ codes " " ++ offset_text offset ++ codes " " ++ encode_lower row ++ codes "\n"

-- the lines of the first n rows of a page
abbrev pub row_lines : PageName → List ℕ → ℕ → List ℕ
row_lines page bytes zero = []
row_lines page bytes (suc n) = row_lines page bytes n ++ row_line page (n * 16) (slice_range bytes (n * 16) (n * 16 + 16))

-- the lines of a page
abbrev pub page_lines : PageName → List ℕ → List ℕ
page_lines page bytes = row_lines page bytes (length bytes / 16)

-- ---- a domain

-- what a domain counted
abbrev pub counts_line : DomainView → List ℕ
counts_line d =
    (codes "domain " ++ decimal d.share.domain ++ codes " begins " ++ decimal d.state.counts.begins)
    ++ (codes " blocked " ++ decimal d.state.counts.blocked ++ codes " unexpected " ++ decimal d.state.counts.unexpected)
    ++ (codes " open " ++ decimal (length d.state.open_tags) ++ codes "\n")

-- the lines of the frame of this number, if there is one
abbrev pub numbered_lines : List (ℕ × List ℕ) → ℕ → List ℕ
numbered_lines pages frame = option_map_or (page_lines (Frame frame)) (page_of pages frame) []

-- the lines of a domain's memory, frame by frame
abbrev pub memory_lines : DomainView → List ℕ
memory_lines domain = flat_map (numbered_lines domain.state.frames) domain.share.frames

-- the lines of the register page of this function, if there is one
abbrev pub register_lines : List (ℕ × List ℕ) → ℕ → List ℕ
register_lines pages function = option_map_or (page_lines (Registers function)) (page_of pages function) []

-- the name of a completion's status (PCIe 4.0, 2.2.9)
abbrev pub status_name : Status → List ℕ
status_name SC = codes "SC"
status_name UR = codes "UR"
status_name CRS = codes "CRS"
status_name CA = codes "CA"

-- of a completion that was delivered: to whom, under which Tag, and how it ended
abbrev pub record_head : Delivery → List ℕ
record_head d = codes "record " ++ id_text (origin_id d.owner) ++ codes " " ++ byte_text d.tag ++ codes " " ++ status_name d.status ++ codes " "

-- the bytes of a packet, at the end of a line
abbrev pub packet_text : List ℕ → List ℕ
packet_text bytes = encode_lower bytes ++ codes "\n"

-- and the whole packet
abbrev pub record_line : Delivery → List ℕ
record_line d = record_head d ++ packet_text d.bytes

-- the functions of a domain, in the order of the layout
abbrev pub own_functions : Share → List ℕ
own_functions share = filter (is_own_function share) (map (λ line. line.id) share.functions)

-- the lines of what a domain holds, whose functions are these, in this order: memory, register pages, and the completions that
-- it got
abbrev pub holding_lines : DomainView → List ℕ → List ℕ
holding_lines d functions = memory_lines d ++ flat_map (register_lines d.state.registers) functions ++ flat_map record_line d.state.deliveries

-- the text is these lines: its functions stand by rising ID
pub record IsHolding (d : DomainView) (text : List ℕ) : Type 0 where
  pub functions : List ℕ
  pub rising : IsRising (own_functions d.share) functions
  pub lines : text ≡ holding_lines d functions

-- the text is the part of the report that a domain has: what it counted, and what it holds
pub record IsPart (d : DomainView) (text : List ℕ) : Type 0 where
  pub holding : List ℕ
  pub holds : IsHolding d holding
  pub lines : text ≡ counts_line d ++ holding

-- ---- all domains

abbrev pub AreParts : List DomainView → List ℕ → Type 0
AreParts [] text = text ≡ []
AreParts (d ∷ ds) text = (part rest : List ℕ) × IsPart d part × AreParts ds rest × (text ≡ part ++ rest)

abbrev pub violation_row : Violation → List ℕ
violation_row v = violation_line v ++ codes "\n"

abbrev pub violation_lines : List Violation → List ℕ
violation_lines violations = flat_map violation_row violations
