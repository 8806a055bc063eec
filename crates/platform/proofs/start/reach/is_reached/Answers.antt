use Rattle.std.proofs.Common.{◌∙◌, ℕ, ap, false, get_or, sym}
use Rattle.platform.proofs.Noted.{not-reached}
use Rattle.platform.proofs.start.reach.is_reached.Goals as goal

pub returns-else-first_buses-from : goal.returns-else-first_buses-from
returns-else-first_buses-from c =
    let buses = c.args.first_buses.now in
    let none = ap (λ (n : ℕ). get_or buses n false) (sym (c.from.ensures ∙ c.bus.ensures)) ∙ c.if-first_buses-from.false in
    c.if-first_buses-from.false ∙ sym (not-reached buses c.args.bus c.args.ports.now c.args.line.now.id c.requires none)
