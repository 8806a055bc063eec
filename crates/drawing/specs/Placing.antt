-- Where the nodes of a tree stand, in pixels. Each port has a column, in which stands what hangs below it; columns go from
-- left to right by the first bus below their ports, behind the column of the top switch. The row is by how many ports stand above.
use Rattle.std.specs.Prelude.{ℕ, zero, suc, ◌+◌, ◌-◌, ◌*◌, ◌==◌, ◌≤◌, min, max, Bool, List, count_by, if◌then◌else◌}
use Rattle.std.specs.List.{list_any}
use Rattle.fab_types.specs.Id.{bus_of}
use Rattle.platform.specs.declared.parts.DownstreamPort.{DownstreamPort}
use Rattle.platform.specs.declared.parts.Switch.{Switch}
use Rattle.platform.specs.Owners.{holds_bus}
use Rattle.platform.specs.Tree.{port_above}
use Rattle.layout.specs.Rules.{last_bus}
use Rattle.drawing.specs.declared.attribute.Point.{Point}
use Rattle.drawing.specs.declared.placing.Cell.{Cell}

-- how many numbers below this one pass the test
unfoldable pub count_below : (ℕ → Bool) → ℕ → ℕ
count_below test zero = 0
count_below test (suc n) = count_below test n + (if test n then 1 else 0)

-- the greatest value at a number below this one
unfoldable pub greatest_below : (ℕ → ℕ) → ℕ → ℕ
greatest_below f zero = 0
greatest_below f (suc n) = max (f n) (greatest_below f n)

abbrev pub leads_to : List DownstreamPort → ℕ → Bool
leads_to ports bus = list_any (λ port. port.secondary == bus) ports

abbrev pub columns_before : List DownstreamPort → ℕ → ℕ
columns_before ports bus = count_below (leads_to ports) bus

-- how many ports stand above what is on this bus; in a layout that was read, at most three
abbrev pub row_of : List DownstreamPort → ℕ → ℕ
row_of ports bus = min (count_by (λ port. holds_bus port bus) ports) 3

-- where a switch or a function on this bus stands
abbrev pub cell_on : List DownstreamPort → ℕ → Cell
cell_on ports bus = record { column = columns_before ports (bus + 1); row = row_of ports bus }

-- a downstream port stands in its switch's row
abbrev pub port_cell : List DownstreamPort → DownstreamPort → Cell
port_cell ports port = record { column = columns_before ports (port.secondary + 1); row = row_of ports (bus_of port.id) }

abbrev pub point_in : Cell → ℕ → ℕ → Point
point_in cell right down = record { x = 262 + 152 * cell.column + right; y = 96 + 152 * cell.row + down }

-- a switch reaches over the columns of all that is below it
abbrev pub switch_width : List DownstreamPort → Switch → ℕ
switch_width ports switch =
    144 + 152 * (columns_before ports (last_bus (port_above ports switch) + 1) - columns_before ports (bus_of switch.id + 1))

abbrev pub deepest_row : List DownstreamPort → ℕ
deepest_row ports = greatest_below (row_of ports) 256

abbrev pub owns : List DownstreamPort → ℕ → Bool
owns ports number = list_any (λ port. port.owner == number) ports

abbrev pub domains_before : List DownstreamPort → ℕ → ℕ
domains_before ports number = count_below (owns ports) number

-- the column and the row are among those of the tree
abbrev pub IsInTree : List DownstreamPort → Cell → Type 0
IsInTree ports cell = (cell.column ≤ columns_before ports 256) × (cell.row ≤ deepest_row ports)

-- where a line of the legend begins
abbrev pub legend_point : ℕ → Point
legend_point line = record { x = 16; y = 32 + 18 * line }

abbrev pub width_of : List DownstreamPort → ℕ
width_of ports = 422 + 152 * columns_before ports 256

-- the tree and the legend stand beside each other
abbrev pub height_of : List DownstreamPort → ℕ
height_of ports = max (256 + 152 * deepest_row ports) (216 + 18 * domains_before ports 32)
