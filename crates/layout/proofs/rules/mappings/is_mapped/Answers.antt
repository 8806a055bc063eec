use Rattle.std.proofs.Common.{◌∙◌, ℕ, List, ap, filter}
use Rattle.platform.specs.declared.parts.Mapping.{Mapping}
use Rattle.layout.specs.MapLines.{is_from_bus}
use Rattle.layout.specs.Rules.{is_mapped}
use Rattle.layout.proofs.MapLines.{mapped_by_bus}
use Rattle.layout.proofs.rules.mappings.is_mapped.Goals as goal

pub returns : goal.returns
returns c =
    c.is_mapped_among.ensures
    ∙ ap (λ (lines : List Mapping). is_mapped lines c.args.requester c.args.page) (c.on_bus.ensures ∙ ap (λ (bus : ℕ). filter (is_from_bus bus) c.args.maps.now) c.bus.ensures)
    ∙ mapped_by_bus c.args.maps.now c.args.requester c.args.page
