-- What is drawn lies inside.
use Rattle.std.proofs.Common.{ℕ, zero, suc, ◌+◌, ◌-◌, ◌*◌, ◌≤◌, Bool, true, false, List, arith, lit≤, Result, Ok, Err, OnOk}
use Rattle.std.specs.Prelude.{if◌then◌else◌}
use Rattle.fab_types.specs.Controls.{controls_egress}
use Rattle.fab_types.specs.Id.{bus_of}
use Rattle.fab_types.specs.declared.controls.AcsControl.{AcsControl}
use Rattle.platform.specs.declared.parts.DownstreamPort.{DownstreamPort}
use Rattle.platform.specs.declared.parts.EndpointFunction.{EndpointFunction}
use Rattle.platform.specs.declared.parts.Switch.{Switch}
use Rattle.platform.specs.Platform.{Platform}
use Rattle.platform.specs.Tree.{id_below, is_taken}
use Rattle.drawing.proofs.Counting.{count_more}
use Rattle.drawing.specs.Drawing.{background}
use Rattle.drawing.specs.Elements.{AreInside, Markup, Nothing}
use Rattle.drawing.specs.Figures.{function_figure, function_inside, host_figure, host_inside, switch_figure, switch_inside}
use Rattle.drawing.specs.Legend.{clear_shape, controls_shapes, domain_shape, domain_shapes, egress_shapes, legend_figure, legend_inside, named_shape, owner_shape}
use Rattle.drawing.specs.Placing.{IsInTree, cell_on, columns_before, deepest_row, domains_before, height_of, legend_point, owns, point_in, port_cell, switch_width, width_of}
use Rattle.drawing.specs.Ports.{box_of_port, controls_shape, letters_shape, line_of_link, link_figure, link_inside, port_figure, port_inside, span_shape, texts_of_port, vector_shape}
use Rattle.drawing.specs.Shapes.{box_shape, label_shape, line_shape}
use Rattle.drawing.specs.declared.attribute.Area.{Area}
use Rattle.drawing.specs.declared.attribute.Colour.{Colour}
use Rattle.drawing.specs.declared.attribute.Point.{Point}
use Rattle.drawing.specs.declared.label.Label.{Label}
use Rattle.drawing.specs.declared.placing.Cell.{Cell}

-- ---- shapes

box_lies : (w h : ℕ) (area : Area) (fill : Colour) → area.corner.x + area.width ≤ w → area.corner.y + area.height ≤ h → AreInside w h (box_shape area fill)
unfolding box_shape
box_lies w h area fill x y = (((x, y), (tt, (tt, tt))), tt)

label_lies : (w h : ℕ) (point : Point) (label : Label) → point.x ≤ w → point.y ≤ h → AreInside w h (label_shape point label)
unfolding label_shape
label_lies w h point label x y = (((x, y), tt), tt)

line_lies : (w h : ℕ) (point : Point) (length : ℕ) → point.x ≤ w → point.y + length ≤ h → AreInside w h (line_shape point length)
unfolding line_shape
line_lies w h point length x y = (((x, y), (tt, tt)), tt)

-- what may be left out
unless_lies : (w h : ℕ) (b : Bool) (m : Markup) → AreInside w h m → AreInside w h (if b then m else Nothing)
unless_lies w h true m lies = lies
unless_lies w h false m lies = tt

-- ---- what stands in a cell

-- a cell with its links lies inside
pub record HasCell (w h : ℕ) (cell : Cell) : Type 0 where
  pub right : 262 + 152 * cell.column + 160 ≤ w
  pub down : 96 + 152 * cell.row + 152 ≤ h

pub cell_lies : (ports : List DownstreamPort) (cell : Cell) → IsInTree ports cell → HasCell (width_of ports) (height_of ports) cell
cell_lies ports cell tree =
    let column : cell.column ≤ columns_before ports 256 = tree.0 in
    let row : cell.row ≤ deepest_row ports = tree.1 in record { right = omega arith; down = omega arith }

cell_label_lies : (w h : ℕ) (cell : Cell) (right down : ℕ) (label : Label) → HasCell w h cell → right ≤ 160 → down ≤ 152 → AreInside w h (label_shape (point_in cell right down) label)
cell_label_lies w h cell right down label has r d =
    label_lies w h (point_in cell right down) label (omega (arith, has.right)) (omega (arith, has.down))

-- ---- a port

letters_lie : (w h : ℕ) (controls : AcsControl) → AreInside w h (letters_shape controls)
unfolding letters_shape span_shape
letters_lie w h controls =
    let one : Unit {0} × Unit {0} = (tt, tt) in
    ((((((one, tt), (one, tt)), (one, tt)), (one, tt)), (one, tt)), unless_lies w h (controls_egress controls) _ (one, tt))

controls_lie : (w h : ℕ) (cell : Cell) (right down : ℕ) (controls : AcsControl) → HasCell w h cell → right ≤ 160 → down ≤ 152 → AreInside w h (controls_shape (point_in cell right down) controls)
unfolding controls_shape
controls_lie w h cell right down controls has r d = (((omega (arith, has.right), omega (arith, has.down)), tt), letters_lie w h controls)

vector_lies : (w h : ℕ) (cell : Cell) (right down : ℕ) (port : DownstreamPort) → HasCell w h cell → right ≤ 160 → down ≤ 152 → AreInside w h (vector_shape (point_in cell right down) port)
unfolding vector_shape
vector_lies w h cell right down port has r d = unless_lies w h (controls_egress port.controls) _ (cell_label_lies w h cell right down _ has r d)

texts_lie : (w h : ℕ) (cell : Cell) (port : DownstreamPort) → HasCell w h cell → AreInside w h (texts_of_port cell port)
unfolding texts_of_port
texts_lie w h cell port has = (
  (
    (cell_label_lies w h cell 76 26 _ has (lit≤ tt) (lit≤ tt), controls_lie w h cell 76 42 port.controls has (lit≤ tt) (lit≤ tt)),
    cell_label_lies w h cell 76 58 _ has (lit≤ tt) (lit≤ tt),
  ),
  vector_lies w h cell 76 74 port has (lit≤ tt) (lit≤ tt),
)

port_box_lies : (w h : ℕ) (cell : Cell) (port : DownstreamPort) → HasCell w h cell → AreInside w h (box_of_port cell port)
unfolding box_of_port
port_box_lies w h cell port has = (
  box_lies w h _ _ (omega (arith, has.right)) (omega (arith, has.down)),
  box_lies w h _ _ (omega (arith, has.right)) (omega (arith, has.down)),
)

link_lies : (w h : ℕ) (platform : Platform) (cell : Cell) (port : DownstreamPort) → HasCell w h cell → AreInside w h (link_inside platform cell port)
unfolding link_inside line_of_link
link_lies w h platform cell port has = (
  (
    (
      unless_lies w h (is_taken platform.switches platform.functions (id_below port)) _ (line_lies w h _ _ (omega (arith, has.right)) (omega (arith, has.down))),
      cell_label_lies w h cell 80 104 _ has (lit≤ tt) (lit≤ tt),
    ),
    cell_label_lies w h cell 80 120 _ has (lit≤ tt) (lit≤ tt),
  ),
  cell_label_lies w h cell 80 136 _ has (lit≤ tt) (lit≤ tt),
)

pub port_lies : (w h : ℕ) (platform : Platform) (port : DownstreamPort) → HasCell w h (port_cell platform.ports port) → AreInside w h (port_figure platform port)
unfolding port_figure port_inside link_figure
port_lies w h platform port has =
    let cell = port_cell platform.ports port in
    ((tt, (tt, (tt, (tt, tt)))), ((port_box_lies w h cell port has, texts_lie w h cell port has), ((tt, (tt, tt)), link_lies w h platform cell port has)))

-- ---- functions and switches

pub function_lies : (w h : ℕ) (ports : List DownstreamPort) (function : EndpointFunction) → HasCell w h (cell_on ports (bus_of function.id)) → AreInside w h (function_figure ports function)
unfolding function_figure function_inside
function_lies w h ports function has =
    let cell = cell_on ports (bus_of function.id) in (
      (tt, (tt, (tt, tt))),
      (
        (
          (
            (box_lies w h _ _ (omega (arith, has.right)) (omega (arith, has.down)), cell_label_lies w h cell 72 18 _ has (lit≤ tt) (lit≤ tt)),
            cell_label_lies w h cell 72 34 _ has (lit≤ tt) (lit≤ tt),
          ),
          cell_label_lies w h cell 72 50 _ has (lit≤ tt) (lit≤ tt),
        ),
        cell_label_lies w h cell 72 66 _ has (lit≤ tt) (lit≤ tt),
      ),
    )

pub switch_lies : (w h : ℕ) (ports : List DownstreamPort) (switch : Switch) → HasCell w h (cell_on ports (bus_of switch.id))
    → 262 + 152 * columns_before ports (bus_of switch.id + 1) + switch_width ports switch ≤ w → AreInside w h (switch_figure ports switch)
unfolding switch_figure switch_inside
switch_lies w h ports switch has wide =
    let cell = cell_on ports (bus_of switch.id) in (
      (tt, (tt, tt)),
      (
        (
          (box_lies w h _ _ (omega (arith, wide)) (omega (arith, has.down)), cell_label_lies w h cell 72 26 _ has (lit≤ tt) (lit≤ tt)),
          cell_label_lies w h cell 72 42 _ has (lit≤ tt) (lit≤ tt),
        ),
        cell_label_lies w h cell 72 58 _ has (lit≤ tt) (lit≤ tt),
      ),
    )

-- ---- the legend and the host

legend_label_lies : (w h line : ℕ) (label : Label) → 32 + 18 * line ≤ h → 16 ≤ w → AreInside w h (label_shape (legend_point line) label)
legend_label_lies w h line label y x = label_lies w h (legend_point line) label x y

owner_lies : (w : ℕ) (ports : List DownstreamPort) (number : ℕ) → 422 ≤ w → number ≤ 32 → AreInside w (height_of ports) (owner_shape ports number)
unfolding owner_shape domain_shape
owner_lies w ports number wide le =
    let more : domains_before ports number ≤ domains_before ports 32 = count_more (owns ports) number 32 le in
    unless_lies w (height_of ports) (owns ports number) _
    (box_lies w (height_of ports) _ _ (omega arith) (omega arith), label_lies w (height_of ports) _ _ (omega arith) (omega arith))

owners_lie : (w : ℕ) (ports : List DownstreamPort) (n : ℕ) → 422 ≤ w → n ≤ 32 → AreInside w (height_of ports) (domain_shapes ports n)
unfolding domain_shapes
owners_lie w ports zero wide le = tt
owners_lie w ports (suc n) wide le = (owners_lie w ports n wide (omega arith), owner_lies w ports n wide (omega arith))

pub legend_lies : (w : ℕ) (ports : List DownstreamPort) → 422 ≤ w → AreInside w (height_of ports) (legend_figure ports)
unfolding legend_figure legend_inside controls_shapes egress_shapes clear_shape named_shape
legend_lies w ports wide =
    let h = height_of ports in
    let line = λ (n : ℕ) (label : Label) (le : n ≤ 10). legend_label_lies w (height_of ports) n label (omega arith) (omega arith) in (
      (tt, (tt, tt)),
      (
        (
          (
            (
              (((((line 0 _ (lit≤ tt), line 1 _ (lit≤ tt)), line 2 _ (lit≤ tt)), line 3 _ (lit≤ tt)), line 4 _ (lit≤ tt)), line 5 _ (lit≤ tt)),
              (line 6 _ (lit≤ tt), line 7 _ (lit≤ tt)),
            ),
            ((tt, tt), line 8 _ (lit≤ tt)),
          ),
          line 9 _ (lit≤ tt),
        ),
        owners_lie w ports 32 wide (lit≤ tt),
      ),
    )

pub host_lies : (w h : ℕ) → 422 ≤ w → 216 ≤ h → AreInside w h host_figure
unfolding host_figure host_inside
host_lies w h wide high = (
  (tt, tt),
  (
    (box_lies w h _ _ (omega arith) (omega arith), label_lies w h _ _ (omega arith) (omega arith)),
    line_lies w h _ _ (omega arith) (omega arith),
  ),
)

pub background_lies : (ports : List DownstreamPort) → AreInside (width_of ports) (height_of ports) (background ports)
unfolding background
background_lies ports = (((omega arith, omega arith), (tt, tt)), tt)

-- ---- what lies inside where a call succeeds

pub on_ok : {T E : Type 0} (r : Result T E) (P : Type 0) → P → OnOk r P
on_ok (Ok x) P p = p
on_ok (Err e) P p = tt
