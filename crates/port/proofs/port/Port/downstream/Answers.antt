use Rattle.std.proofs.Common.{◌≡◌, None, Some, option_map, sym, ap, ◌∙◌}
use Rattle.fab_types.specs.Id.{bus_of}
use Rattle.port.specs.Configs.{config_with, downstream_config, exits_of, own_lane}
use Rattle.port.proofs.Own.{known_listed}
use Rattle.port.proofs.port.Port.downstream.Goals as goal

pub returns-in-None-clause-listed : goal.returns-in-None-clause-listed
returns-in-None-clause-listed c listed =
    let platform = c.args.layout.now in
    let line = c.args.line.now in
    let exits = exits_of platform (bus_of line.id) in
    let found : c.own_lane.result ≡ own_lane exits line.id = rw (c.deref.ensures.value, c.in_ok-exits.ensures, c.from.ensures, c.bus.ensures, c.id.ensures) at c.own_lane.ensures.value in
    let none : None ≡ own_lane exits line.id = sym c.in-None.is ∙ found in
    let clash : None ≡ Some (downstream_config platform line) = ap (option_map (config_with line exits)) none ∙ known_listed platform line listed in
    absurd cc
