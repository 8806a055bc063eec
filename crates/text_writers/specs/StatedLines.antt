-- The lines that devices have in a layout, those of Egress Control Vectors among them, with numbers that have room in their fields.
use Rattle.std.specs.Prelude.{◌<◌, ◌^◌}
use Rattle.layout_line.specs.declared.lines.LayoutLine.{LayoutLine}
use Rattle.layout_line.specs.declared.lines.LayoutLine.TheVariants.{Port, Switch, Function, Map, Egress}
use Rattle.text_writers.specs.LineRanges.{IsId, IsMapLine, IsPortLine}

abbrev pub IsStated : LayoutLine → Type 0
IsStated (Port port) = IsPortLine port
IsStated (Switch switch) = IsId switch.id × IsId switch.above
IsStated (Function function) = IsId function.id × (function.bar < 2 ^ 32)
IsStated (Map line) = IsMapLine line
IsStated (Egress egress) = IsId egress.port × (egress.vector < 2 ^ 32)
IsStated _ = ⊥
