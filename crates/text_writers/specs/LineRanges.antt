-- Lines whose numbers have room in their fields.
use Rattle.std.specs.Prelude.{◌≡◌, ℕ, ◌<◌, ◌^◌, ◌||◌, true}
use Rattle.layout_line.specs.declared.lines.PortText.{PortText}
use Rattle.layout_line.specs.declared.lines.CreditText.{CreditText}
use Rattle.layout_line.specs.declared.lines.MapText.{MapText}
use Rattle.layout_line.specs.declared.lines.TargetText.{TargetText}
use Rattle.layout_line.specs.declared.lines.TargetText.TheVariants as target
use Rattle.layout_line.specs.declared.lines.LayoutLine.{LayoutLine}
use Rattle.layout_line.specs.declared.lines.LayoutLine.TheVariants.{Frames, Root, Switch, Port, Function, Map, Budget, Credit, Egress}

-- 16 bits (PCIe 4.0, 2.2.4.2)
abbrev pub IsId : ℕ → Type 0
IsId id = id < 2 ^ 16

-- nine decimal digits
abbrev pub IsCount : ℕ → Type 0
IsCount n = n < 10 ^ 9

pub record IsPortLine (port : PortText) : Type 0 where
  pub id : IsId port.id
  pub secondary : port.secondary < 2 ^ 8
  pub subordinate : port.subordinate < 2 ^ 8
  pub base : port.base < 2 ^ 32
  pub limit : port.limit < 2 ^ 32
  pub controls : port.controls < 2 ^ 8
  pub owner : IsCount port.owner

abbrev pub IsTarget : TargetText → Type 0
IsTarget (target.Frame frame) = IsCount frame
IsTarget (target.Peer peer) = IsId peer

-- a page of 64 bits of addresses; reads or writes are allowed, or both
pub record IsMapLine (line : MapText) : Type 0 where
  pub requester : IsId line.requester
  pub page : line.page < 2 ^ 52
  pub target : IsTarget line.target
  pub rights : (line.rights.read || line.rights.write) ≡ true

pub record IsCreditLine (credit : CreditText) : Type 0 where
  pub id : IsId credit.id
  pub posted_headers : IsCount credit.posted_headers
  pub posted_data : IsCount credit.posted_data
  pub non_posted_headers : IsCount credit.non_posted_headers
  pub non_posted_data : IsCount credit.non_posted_data
  pub completion_headers : IsCount credit.completion_headers
  pub completion_data : IsCount credit.completion_data

abbrev pub IsInRange : LayoutLine → Type 0
IsInRange (Frames count) = IsCount count
IsInRange (Root id) = IsId id
IsInRange (Switch switch) = IsId switch.id × IsId switch.above
IsInRange (Port port) = IsPortLine port
IsInRange (Function function) = IsId function.id × (function.bar < 2 ^ 32)
IsInRange (Map line) = IsMapLine line
IsInRange (Budget budget) = IsCount budget.domain × IsCount budget.begins
IsInRange (Credit credit) = IsCreditLine credit
IsInRange (Egress egress) = IsId egress.port × (egress.vector < 2 ^ 32)
