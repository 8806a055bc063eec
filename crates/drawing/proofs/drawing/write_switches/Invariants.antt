use Rattle.std.proofs.Common.{take}
use Rattle.std.specs.Io.KnownBytes.{Appends}
use Rattle.drawing.specs.Elements.{AreInside, each, text_of}
use Rattle.drawing.specs.Placing.{height_of, width_of}
use Rattle.drawing.specs.Figures.{switch_figure}
use Rattle.drawing.proofs.drawing.write_switches.Given as goal

-- those so far are written, and lie inside
abbrev pub invariant-loop-switch : goal.invariant-loop-switch
invariant-loop-switch g l = record {
  written : Appends (g.W.Write.contents l.initial.out) (g.W.Write.contents l.out) (text_of (each (switch_figure l.ports) (take l.switch-index l.switches)));
  inside : AreInside (width_of l.ports) (height_of l.ports) (each (switch_figure l.ports) (take l.switch-index l.switches));
}
