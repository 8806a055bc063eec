use Rattle.std.proofs.Common.{ap, refl, sym, ◌∙◌}
use Rattle.std.specs.Prelude.{is_some}
use Rattle.domains.specs.Domains.{place_of_function}
use Rattle.domains.proofs.Settling.{function_there, is_copied}
use Rattle.domains.proofs.agents.Agents.has_function.Goals as goal

pub returns : goal.returns
returns c =
    let ds = c.self.inside.domains in
    rw (← c.self.view_is)
    (c.is_some.ensures ∙ sym (is_copied c.domain_of_function.result) ∙ ap is_some c.domain_of_function.ensures ∙ function_there ds c.args.function (place_of_function ds c.args.function) refl)
