use Rattle.std.proofs.Common.{◌≡◌, ◌∙◌, ℕ, Some, ap, sym}
use Rattle.platform.specs.Owners.{first_port}
use Rattle.platform.specs.Buses.{bar_at}
use Rattle.platform.specs.declared.start.buses.BusEntry.{BusEntry}
use Rattle.platform.specs.Reach.{holds_bus_if_any, line_at}
use Rattle.platform.proofs.Led.{bar-led}
use Rattle.platform.proofs.start.Start.bar_of.Goals as goal

-- the function that the bus leads to is the first of its ID
pub returns-in-Some : goal.returns-in-Some
returns-in-Some c =
    let share = c.args.self.now in
    let led : bar_at (line_at share.ports share.functions c.bus.result) c.args.function ≡ Some c.in-Some.bar = ap (λ (e : BusEntry). bar_at e.function c.args.function) (sym c.bus-2.ensures) ∙ sym c.bar_of.ensures ∙ c.in-Some.is in
    sym (bar-led (λ (n : ℕ). holds_bus_if_any (first_port share.ports n) c.bus.result) share.functions c.args.function c.in-Some.bar led)
