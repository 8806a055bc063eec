use Rattle.std.proofs.Common.{◌==◌, ◌∙◌, ℕ, ap, find, not, sym}
use Rattle.platform.specs.declared.parts.Mapping.{Mapping}
use Rattle.layout.specs.Rules.{is_mapping_of}
use Rattle.layout.proofs.FrameOwners.{first_tells, foreign_by, foreign_none}
use Rattle.layout.proofs.rules.mappings.is_foreign_frame.Goals as goal

pub returns-in-Some : goal.returns-in-Some
returns-in-Some c =
    ap (λ (d : ℕ). not (d == c.args.domain)) c.domain_of.ensures
    ∙ sym (foreign_by c.args.ports.now c.args.domain (find (λ (line : Mapping). is_mapping_of c.args.frame line.target) c.args.maps.now) c.in-Some.requester (sym c.first_of_frame.ensures ∙ c.in-Some.is))
    ∙ first_tells c.args.ports.now c.args.domain c.args.frame c.args.maps.now c.requires

pub returns-in-None : goal.returns-in-None
returns-in-None c =
    sym (foreign_none c.args.ports.now c.args.domain (find (λ (line : Mapping). is_mapping_of c.args.frame line.target) c.args.maps.now) (sym c.first_of_frame.ensures ∙ c.in-None.is))
    ∙ first_tells c.args.ports.now c.args.domain c.args.frame c.args.maps.now c.requires
