use Rattle.std.proofs.Common.{◌≡◌, ◌∙◌, ap, rules}
use Rattle.std.specs.Prelude.{option_map}
use Rattle.std.specs.Option.{option_copied}
use Rattle.bridge.specs.Groups.{Group, bus_table_of, group_at, groups_of}
use Rattle.bridge.proofs.Grouped.{table-grouped}
use Rattle.bridge.proofs.routing.Bridge.bus_table.Goals as goal

pub returns : goal.returns
returns c =
    let groups : c.self.inside.switches ≡ groups_of c.args.self.now.switches c.args.self.now.ports = rw (← c.self.view_is) c.self.invariant.groups in
    let found : option_copied c.at.result ≡ group_at (groups_of c.args.self.now.switches c.args.self.now.ports) c.args.switch = rw (← groups) c.at.ensures in
    let mapped : option_copied c.map.result ≡ option_map (λ (group : Group). bus_table_of group.ports) (option_copied c.at.result) = search rules in
    mapped ∙ ap (option_map (λ (group : Group). bus_table_of group.ports)) found ∙ table-grouped c.args.self.now.switches c.args.self.now.ports c.args.switch
