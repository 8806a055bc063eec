use Rattle.std.proofs.Common.{◌∙◌, ℕ, List, ap, filter}
use Rattle.platform.specs.declared.parts.Mapping.{Mapping}
use Rattle.layout.specs.MapLines.{is_from_bus}
use Rattle.layout.specs.Rules.{has_full_table}
use Rattle.layout.proofs.MapLines.{full_by_bus}
use Rattle.layout.proofs.rules.mappings.has_full_table.Goals as goal

pub returns : goal.returns
returns c =
    c.is_full_table.ensures
    ∙ ap (λ (lines : List Mapping). has_full_table lines c.args.requester) (c.on_bus.ensures ∙ ap (λ (bus : ℕ). filter (is_from_bus bus) c.args.maps.now) c.bus.ensures)
    ∙ full_by_bus c.args.maps.now c.args.requester
