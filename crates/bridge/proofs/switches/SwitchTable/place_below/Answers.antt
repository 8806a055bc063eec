use Rattle.std.proofs.Common.{◌≡◌, ◌<◌, ◌∙◌, ap, List, length, arith}
use Rattle.bridge.specs.Groups.{Group, place_below}
use Rattle.bridge.proofs.Tables.{length-table_of, table_of-read}
use Rattle.bridge.proofs.switches.SwitchTable.place_below.Goals as goal

pub index-requires : goal.index-requires
index-requires c =
    let long : length c.self.inside.places.items ≡ 256 = ap length c.self.invariant.places ∙ length-table_of 256 (place_below c.self.inside.switches.items) in
    omega (arith, c.ranges.bus.fits)

pub returns : goal.returns
returns c =
    let within : c.from.result < 256 = omega (arith, c.ranges.bus.fits) in
    table_of-read 256 (place_below c.self.inside.switches.items) c.self.inside.places.items c.from.result c.index.result.now c.self.invariant.places within c.index.ensures
    ∙ ap (place_below c.self.inside.switches.items) c.from.ensures ∙ ap (λ (groups : List Group). place_below groups c.args.bus) c.self.view_is
