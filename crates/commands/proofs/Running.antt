-- Lines of a script, one after another.
use Rattle.std.proofs.Common.{◌≡◌, List, ℕ, length, arith, [], ◌∷◌, ◌++◌, refl, sym, ap, ◌∙◌, subst, append_assoc}
use Rattle.std.proofs.lemmas.List.{append-nil}
use Rattle.script.specs.declared.lines.Line.{Line}
use Rattle.fabric_core.specs.declared.event.Event.{Event}
use Rattle.fabric_core.specs.World.{World}
use Rattle.commands.specs.Driving.{Does, Drives}

-- one line more
pub drive_more : (es : List Event) (w v u : World) (ls : List Line) (l : Line) (text more : List ℕ) → Drives es w ls v text → Does es l.number v l.command u more → Drives es w (ls ++ l ∷ []) u (text ++ more)
drive_more es w v u [] l text more d now =
    (u, more, [], subst (λ (x : World). Does es l.number x l.command u more) d.0 now, (refl, refl), ap (λ (t : List ℕ). t ++ more) d.1 ∙ sym (append-nil more))
drive_more es w v u (k ∷ ls) l text more d now =
    let mid = d.0 in
    let first = d.1 in
    let rest = d.2 in
    (mid, first, rest ++ more, d.3, drive_more es mid v u ls l rest more d.4 now, ap (λ (t : List ℕ). t ++ more) d.5 ∙ append_assoc first rest more)

-- and where none is left, all were done
pub drive_whole : (es : List Event) (w v : World) (ls done left : List Line) (text : List ℕ) → done ++ left ≡ ls → length left ≡ 0 → Drives es w done v text → Drives es w ls v text
drive_whole es w v ls done [] text all none d = subst (λ (xs : List Line). Drives es w xs v text) (sym (append-nil done) ∙ all) d
drive_whole es w v ls done (l ∷ left) text all none d = absurd (omega (arith, none))
