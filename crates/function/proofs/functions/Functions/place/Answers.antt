use Rattle.std.proofs.Common.{◌≡◌, ◌∙◌, ◌==◌, ap, get_or, rules, sym, true}
use Rattle.function.specs.Functions.{first_on_bus}
use Rattle.function.proofs.FirstPlaces.{none_of_bus, first_of_bus}
use Rattle.function.proofs.functions.Functions.place.Goals as goal

pub returns-in_default : goal.returns-in_default
returns-in_default c = sym (none_of_bus c.args.self.now c.args.id (ap (first_on_bus c.args.self.now) (sym c.bus.ensures) ∙ sym c.first_on_bus.ensures ∙ c.in_default.is))

pub returns-then-eq : goal.returns-then-eq
returns-then-eq c =
    let has : ((get_or c.args.self.now c.in-Some.at c.index.result.now).0 == c.args.id) ≡ true = search rules in
    sym (first_of_bus c.args.self.now c.args.id c.in-Some.at c.index.result.now (ap (first_on_bus c.args.self.now) (sym c.bus.ensures) ∙ sym c.first_on_bus.ensures ∙ c.in-Some.is) has)
