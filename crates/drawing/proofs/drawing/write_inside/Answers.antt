use Rattle.std.proofs.Common.{arith}
use Rattle.drawing.specs.Drawing.{drawing_inside}
use Rattle.drawing.specs.Elements.{AreInside}
use Rattle.drawing.specs.Placing.{height_of, width_of}
use Rattle.drawing.proofs.Within.{background_lies, host_lies, legend_lies, on_ok}
use Rattle.drawing.proofs.drawing.write_inside.Goals as goal

pub returns-clause-inside : goal.returns-clause-inside
unfolding drawing_inside
returns-clause-inside g c =
    let platform = c.args.layout.now in
    let ports = platform.ports in
    let all : AreInside (width_of ports) (height_of ports) (drawing_inside platform) = (
      (
        (
          ((background_lies ports, host_lies _ _ (omega arith) (omega arith)), rw (c.ports-2.ensures.value, c.switches.ensures.value) at c.in_ok-write_switches.ensures.inside),
          c.in_ok-write_ports.ensures.inside,
        ),
        rw (c.ports-3.ensures.value, c.functions.ensures.value) at c.in_ok-write_functions.ensures.inside,
      ),
      legend_lies _ ports (omega arith),
    ) in
    on_ok _ _ all
