use Rattle.std.proofs.Common.{take}
use Rattle.std.specs.Io.KnownBytes.{Appends}
use Rattle.drawing.specs.Elements.{AreInside, each, text_of}
use Rattle.drawing.specs.Placing.{height_of, width_of}
use Rattle.drawing.specs.Ports.{port_figure}
use Rattle.drawing.proofs.drawing.write_ports.Given as goal

-- those so far are written, and lie inside
abbrev pub invariant-loop-port : goal.invariant-loop-port
invariant-loop-port g l = record {
  written : Appends (g.W.Write.contents l.initial.out) (g.W.Write.contents l.out) (text_of (each (port_figure l.layout) (take l.port-index l.port-items)));
  inside : AreInside (width_of l.layout.ports) (height_of l.layout.ports) (each (port_figure l.layout) (take l.port-index l.port-items));
}
