use Rattle.std.proofs.Common.{◌++◌, ◌∙◌, List, ℕ, ap, refl, subst}
use Rattle.std.specs.Io.KnownBytes.{Appends}
use Rattle.drawing.specs.Elements.{text_of}
use Rattle.drawing.specs.Drawing.{drawing_of}
use Rattle.drawing.proofs.Classes.{functions_of_drawing, ports_of_drawing, switches_of_drawing}
use Rattle.drawing.proofs.drawing.write_drawing.Goals as goal

pub returns : goal.returns
returns g c =
    let platform = c.args.layout.now in
    let text : List ℕ = text_of (drawing_of platform) in
    let made = c.deref.ensures.value ∙ (c.in_ok-write_svg.ensures.written ∙ ap (λ (l : List ℕ). l ++ text) c.new-drawing.ensures.items) in (
      text,
      record {
        spelled = refl;
        switches = switches_of_drawing platform;
        ports = ports_of_drawing platform;
        functions = functions_of_drawing platform;
        inside = c.in_ok-write_svg.ensures.inside;
      },
      subst (Appends _ _) made c.in_ok-write_all.ensures.bytes,
    )
