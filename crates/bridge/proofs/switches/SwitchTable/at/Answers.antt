use Rattle.std.proofs.Common.{◌≡◌, ◌∙◌, ℕ, ap, rules}
use Rattle.std.specs.Option.{option_copied}
use Rattle.fab_types.specs.Id.{bus_of}
use Rattle.bridge.specs.Groups.{group_below}
use Rattle.bridge.proofs.Upstream.{at-kept, kept-at}
use Rattle.bridge.proofs.switches.SwitchTable.at.Goals as goal

pub returns : goal.returns
returns c =
    let found : option_copied c.below_bus.result ≡ group_below c.args.self.now (bus_of c.args.id) = c.below_bus.ensures.value ∙ ap (λ (bus : ℕ). group_below c.args.self.now bus) (c.bus.ensures ∙ ap bus_of c.id.ensures) in
    let kept : option_copied c.filter.result ≡ kept-at c.args.id (option_copied c.below_bus.result) = search rules in
    kept ∙ ap (kept-at c.args.id) found ∙ at-kept c.args.self.now c.args.id c.below_bus.ensures.firsts
