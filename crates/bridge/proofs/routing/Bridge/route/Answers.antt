use Rattle.std.proofs.Common.{◌≡◌, true, ◌∙◌}
use Rattle.std.specs.List.{list_all}
use Rattle.layout.specs.Laws.{each_pair, are_apart, is_nested}
use Rattle.bridge.specs.Routes.{target_of}
use Rattle.bridge.specs.Groups.{groups_of, route_among}
use Rattle.bridge.proofs.Apart.{holders-once}
use Rattle.bridge.proofs.Held.{held}
use Rattle.bridge.proofs.Grouped.{grouped}
use Rattle.bridge.proofs.routing.Bridge.route.Goals as goal

pub returns-clause-exact : goal.returns-clause-exact
returns-clause-exact c =
    let nested : list_all (is_nested c.args.self.now.switches c.args.self.now.ports) c.args.self.now.ports ≡ true = rw (← c.self.view_is) c.self.invariant.nested in
    let groups : c.self.inside.switches ≡ groups_of c.args.self.now.switches c.args.self.now.ports = rw (← c.self.view_is) c.self.invariant.groups in
    let found : c.route_among.result ≡ route_among (groups_of c.args.self.now.switches c.args.self.now.ports) c.args.ingress (target_of c.args.header.now) = cc in
    found ∙ grouped c.args.self.now.switches c.args.self.now.ports c.args.ingress (target_of c.args.header.now) nested

pub returns-clause-once : goal.returns-clause-once
returns-clause-once c bus =
    let apart : each_pair are_apart c.args.self.now.ports ≡ true = rw (← c.self.view_is) c.self.invariant.apart in
    holders-once c.args.self.now.ports bus (target_of c.args.header.now) apart

pub returns-clause-held : goal.returns-clause-held
returns-clause-held c k d within on below =
    let apart : each_pair are_apart c.args.self.now.ports ≡ true = rw (← c.self.view_is) c.self.invariant.apart in
    returns-clause-exact c ∙ held c.args.self.now.switches c.args.self.now.ports c.args.ingress (target_of c.args.header.now) apart k d within on below
