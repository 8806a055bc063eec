use Rattle.commands.proofs.draw.draw.Goals as goal

pub returns-clause-ok : goal.returns-clause-ok
returns-clause-ok g c =
    let layout = c.in_ok-layout.ensures.layout in
    let written = c.in_ok-write_drawing.ensures in (
      written.0,
      record { layout_text = layout.0; layout_file = layout.1; platform = c.in_ok-layout.layout; layout = layout.2; drawing = written.1 },
      written.2,
    )
