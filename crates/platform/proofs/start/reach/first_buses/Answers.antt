use Rattle.std.proofs.Common.{◌≡◌, ◌+◌, Bool, List, arith, subst, sym, take, true}
use Rattle.std.specs.List.{list_all}
use Rattle.platform.specs.Reach.{is_noted}
use Rattle.platform.proofs.Noted.{noted-more}
use Rattle.platform.proofs.start.reach.first_buses.Goals as goal

pub loop-port-preserved : goal.loop-port-preserved
loop-port-preserved c =
    let port = c.port-item.result in
    let all = c.loop-port.invariant.0 in
    let fits = c.note_if.ensures.fits in
    let more = noted-more c.loop-port.buses c.args.bus c.args.ports.now c.loop-port.port-index port c.holds_bus.result c.holds_bus.ensures (omega (arith, all, fits)) c.loop-port-test.true c.port-item.is c.loop-port.invariant.1 in
    (c.type_inv.buses, subst (λ (buses : List Bool). list_all (is_noted buses c.args.bus) (take (c.loop-port.port-index + 1) c.args.ports.now) ≡ true) (sym c.note_if.ensures.noted) more)
