use Rattle.std.proofs.Common.{◌≡◌, ◌∙◌}
use Rattle.std.proofs.lemmas.List.Folds.{list_all-map}
use Rattle.bridge.specs.Groups.{Group, group_of, groups_of, is_first_on_bus}
use Rattle.bridge.proofs.switches.SwitchTable.new.Goals as goal

pub invariant_of-result : goal.invariant_of-result
invariant_of-result c =
    let groups : c.in_ok-switches.switches.items ≡ groups_of c.args.lines.now c.args.ports.now = c.in_ok-switches.ensures in
    record {
      places = rw (← c.deref.ensures.value) (c.in_ok-places.ensures);
      firsts = rw groups (list_all-map (λ (group : Group). is_first_on_bus group.line) (group_of c.args.ports.now) c.args.lines.now ∙ c.requires);
    }
