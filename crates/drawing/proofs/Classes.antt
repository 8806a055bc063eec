-- The elements of each class in a drawing.
use Rattle.std.proofs.Common.{◌≡◌, ℕ, zero, suc, Bool, true, false, List, [], ◌∷◌, refl, ap, ◌∙◌, map}
use Rattle.std.proofs.lemmas.List.{append-nil}
use Rattle.std.specs.Prelude.{nat_eq, if◌then◌else◌}
use Rattle.fab_types.specs.Controls.{controls_egress}
use Rattle.fab_types.specs.declared.controls.AcsControl.{AcsControl}
use Rattle.platform.specs.declared.parts.DownstreamPort.{DownstreamPort}
use Rattle.platform.specs.declared.parts.EndpointFunction.{EndpointFunction}
use Rattle.platform.specs.declared.parts.Switch.{Switch}
use Rattle.platform.specs.Platform.{Platform}
use Rattle.platform.specs.Tree.{id_below, is_taken}
use Rattle.drawing.specs.Drawing.{background, drawing_inside, drawing_of, function_attributes, port_attributes, switch_attributes}
use Rattle.drawing.specs.Elements.{Markup, Nothing, class_number, each, elements_of}
use Rattle.drawing.specs.Figures.{function_figure, function_inside, host_figure, host_inside, switch_figure, switch_inside}
use Rattle.drawing.specs.Legend.{clear_shape, controls_shapes, domain_shape, domain_shapes, egress_shapes, legend_figure, legend_inside, named_shape, owner_shape}
use Rattle.drawing.specs.Placing.{owns, port_cell}
use Rattle.drawing.specs.Ports.{box_of_port, controls_shape, letters_shape, line_of_link, link_figure, link_inside, port_figure, port_inside, span_shape, texts_of_port, vector_shape}
use Rattle.drawing.specs.Shapes.{box_shape, label_shape, line_shape}
use Rattle.drawing.specs.declared.attribute.Attribute.{Attribute}
use Rattle.drawing.specs.declared.attribute.Class.{Class}
use Rattle.drawing.specs.declared.attribute.Class.TheVariants as class
use Rattle.drawing.specs.declared.attribute.Point.{Point}
use Rattle.drawing.specs.declared.placing.Cell.{Cell}

-- ---- each item of a list has one

each_one : {X : Type 0} (wanted : Class) (f : X → Markup) (g : X → List Attribute) (xs : List X) → ((x : X) → elements_of wanted (f x) ≡ g x ∷ []) → elements_of wanted (each f xs) ≡ map g xs
each_one wanted f g [] one = refl
each_one wanted f g (x ∷ xs) one = rw (one x) (ap (λ (l : List (List Attribute)). g x ∷ l) (each_one wanted f g xs one))

each_none : {X : Type 0} (wanted : Class) (f : X → Markup) (xs : List X) → ((x : X) → elements_of wanted (f x) ≡ []) → elements_of wanted (each f xs) ≡ []
each_none wanted f [] none = refl
each_none wanted f (x ∷ xs) none = rw (none x) (each_none wanted f xs none)

-- what may be left out has none
unless_none : (wanted : Class) (b : Bool) (m : Markup) → elements_of wanted m ≡ [] → elements_of wanted (if b then m else Nothing) ≡ []
unless_none wanted true m none = none
unless_none wanted false m none = refl

-- ---- what stands inside a port

letters_none : (wanted : Class) (controls : AcsControl) → elements_of wanted (letters_shape controls) ≡ []
unfolding letters_shape span_shape
letters_none wanted controls = unless_none wanted (controls_egress controls) _ refl

vector_none : (wanted : Class) (point : Point) (port : DownstreamPort) → elements_of wanted (vector_shape point port) ≡ []
unfolding vector_shape label_shape
vector_none wanted point port = unless_none wanted (controls_egress port.controls) _ refl

line_none : (wanted : Class) (platform : Platform) (cell : Cell) (port : DownstreamPort) → elements_of wanted (line_of_link platform cell port) ≡ []
unfolding line_of_link line_shape
line_none wanted platform cell port = unless_none wanted (is_taken platform.switches platform.functions (id_below port)) _ refl

texts_none : (wanted : Class) (cell : Cell) (port : DownstreamPort) → elements_of wanted (texts_of_port cell port) ≡ []
unfolding texts_of_port label_shape controls_shape
texts_none wanted cell port = simp (letters_none, vector_none)

link_none : (wanted : Class) (platform : Platform) (cell : Cell) (port : DownstreamPort) → nat_eq 3 (class_number wanted) ≡ false → elements_of wanted (link_figure platform cell port) ≡ []
unfolding link_figure link_inside label_shape
link_none wanted platform cell port other = rw other (simp line_none)

inside_none : (wanted : Class) (platform : Platform) (cell : Cell) (port : DownstreamPort) → nat_eq 3 (class_number wanted) ≡ false → elements_of wanted (port_inside platform cell port) ≡ []
unfolding port_inside box_of_port box_shape
inside_none wanted platform cell port other = rw (texts_none wanted cell port, link_none wanted platform cell port other) refl

-- ---- each port

pub port_is_one : (platform : Platform) (port : DownstreamPort) → elements_of class.Port (port_figure platform port) ≡ port_attributes port ∷ []
unfolding port_figure
port_is_one platform port = rw (inside_none class.Port platform (port_cell platform.ports port) port refl) refl

port_is_none : (wanted : Class) (platform : Platform) (port : DownstreamPort) → nat_eq 2 (class_number wanted) ≡ false → nat_eq 3 (class_number wanted) ≡ false → elements_of wanted (port_figure platform port) ≡ []
unfolding port_figure
port_is_none wanted platform port no_port no_link = rw (no_port, inside_none wanted platform (port_cell platform.ports port) port no_link) refl

-- ---- each switch and each function

switch_is_one : (ports : List DownstreamPort) (switch : Switch) → elements_of class.Switch (switch_figure ports switch) ≡ switch_attributes switch ∷ []
unfolding switch_figure switch_inside box_shape label_shape
switch_is_one ports switch = refl

switch_is_none : (wanted : Class) (ports : List DownstreamPort) (switch : Switch) → nat_eq 1 (class_number wanted) ≡ false → elements_of wanted (switch_figure ports switch) ≡ []
unfolding switch_figure switch_inside box_shape label_shape
switch_is_none wanted ports switch other = rw other refl

function_is_one : (ports : List DownstreamPort) (function : EndpointFunction) → elements_of class.Function (function_figure ports function) ≡ function_attributes ports function ∷ []
unfolding function_figure function_inside box_shape label_shape
function_is_one ports function = refl

function_is_none : (wanted : Class) (ports : List DownstreamPort) (function : EndpointFunction) → nat_eq 4 (class_number wanted) ≡ false → elements_of wanted (function_figure ports function) ≡ []
unfolding function_figure function_inside box_shape label_shape
function_is_none wanted ports function other = rw other refl

-- ---- the rest

owner_none : (wanted : Class) (ports : List DownstreamPort) (number : ℕ) → elements_of wanted (owner_shape ports number) ≡ []
unfolding owner_shape domain_shape box_shape label_shape
owner_none wanted ports number = unless_none wanted (owns ports number) _ refl

owners_none : (wanted : Class) (ports : List DownstreamPort) (n : ℕ) → elements_of wanted (domain_shapes ports n) ≡ []
unfolding domain_shapes
owners_none wanted ports zero = refl
owners_none wanted ports (suc n) = rw (owners_none wanted ports n) (owner_none wanted ports n)

legend_none : (wanted : Class) (ports : List DownstreamPort) → nat_eq 5 (class_number wanted) ≡ false → elements_of wanted (legend_figure ports) ≡ []
unfolding legend_figure legend_inside controls_shapes egress_shapes clear_shape named_shape label_shape
legend_none wanted ports other = rw (other, owners_none wanted ports 32) refl

host_none : (wanted : Class) → nat_eq 0 (class_number wanted) ≡ false → elements_of wanted host_figure ≡ []
unfolding host_figure host_inside box_shape label_shape line_shape
host_none wanted other = rw other refl

background_none : (wanted : Class) (ports : List DownstreamPort) → elements_of wanted (background ports) ≡ []
unfolding background
background_none wanted ports = refl

-- ---- the whole

pub switches_of_drawing : (platform : Platform) → elements_of class.Switch (drawing_of platform) ≡ map switch_attributes platform.switches
unfolding drawing_of drawing_inside
switches_of_drawing platform =
    rw (
      background_none class.Switch platform.ports,
      host_none class.Switch refl,
      each_one class.Switch (switch_figure platform.ports) switch_attributes platform.switches (switch_is_one platform.ports),
      each_none class.Switch (port_figure platform) platform.ports (λ port. port_is_none class.Switch platform port refl refl),
      each_none class.Switch (function_figure platform.ports) platform.functions (λ function. function_is_none class.Switch platform.ports function refl),
      legend_none class.Switch platform.ports refl,
    ) (append-nil _ ∙ (append-nil _ ∙ append-nil _))

pub ports_of_drawing : (platform : Platform) → elements_of class.Port (drawing_of platform) ≡ map port_attributes platform.ports
unfolding drawing_of drawing_inside
ports_of_drawing platform =
    rw (
      background_none class.Port platform.ports,
      host_none class.Port refl,
      each_none class.Port (switch_figure platform.ports) platform.switches (λ switch. switch_is_none class.Port platform.ports switch refl),
      each_one class.Port (port_figure platform) port_attributes platform.ports (port_is_one platform),
      each_none class.Port (function_figure platform.ports) platform.functions (λ function. function_is_none class.Port platform.ports function refl),
      legend_none class.Port platform.ports refl,
    ) (append-nil _ ∙ append-nil _)

pub functions_of_drawing : (platform : Platform) → elements_of class.Function (drawing_of platform) ≡ map (function_attributes platform.ports) platform.functions
unfolding drawing_of drawing_inside
functions_of_drawing platform =
    rw (
      background_none class.Function platform.ports,
      host_none class.Function refl,
      each_none class.Function (switch_figure platform.ports) platform.switches (λ switch. switch_is_none class.Function platform.ports switch refl),
      each_none class.Function (port_figure platform) platform.ports (λ port. port_is_none class.Function platform port refl refl),
      each_one class.Function (function_figure platform.ports) (function_attributes platform.ports) platform.functions (function_is_one platform.ports),
      legend_none class.Function platform.ports refl,
    ) (append-nil _)
