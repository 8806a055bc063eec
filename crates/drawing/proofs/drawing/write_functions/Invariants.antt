use Rattle.std.proofs.Common.{take}
use Rattle.std.specs.Io.KnownBytes.{Appends}
use Rattle.drawing.specs.Elements.{AreInside, each, text_of}
use Rattle.drawing.specs.Placing.{height_of, width_of}
use Rattle.drawing.specs.Figures.{function_figure}
use Rattle.drawing.proofs.drawing.write_functions.Given as goal

-- those so far are written, and lie inside
abbrev pub invariant-loop-function : goal.invariant-loop-function
invariant-loop-function g l = record {
  written : Appends (g.W.Write.contents l.initial.out) (g.W.Write.contents l.out) (text_of (each (function_figure l.ports) (take l.function-index l.functions)));
  inside : AreInside (width_of l.ports) (height_of l.ports) (each (function_figure l.ports) (take l.function-index l.functions));
}
