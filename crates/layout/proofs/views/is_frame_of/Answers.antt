use Rattle.std.proofs.Common.{◌==◌, ◌∙◌, ℕ, ap, ap₂, sym}
use Rattle.layout.specs.MapLines.{first_of_frame}
use Rattle.layout.proofs.FrameOwners.{no_own_frame, own_frame}
use Rattle.layout.proofs.views.is_frame_of.Goals as goal

pub returns-in-Some : goal.returns-in-Some
returns-in-Some c =
    ap₂ (λ (above domain : ℕ). above == domain) c.domain_of.ensures c.get.ensures.value
    ∙ own_frame c.args.ports.now c.args.domain c.args.frame c.args.maps.now c.in-Some.requester c.requires (sym (ap (first_of_frame c.args.maps.now) c.from.ensures) ∙ sym c.first_of_frame.ensures ∙ c.in-Some.is)

pub returns-in-None : goal.returns-in-None
returns-in-None c = no_own_frame c.args.ports.now c.args.domain c.args.frame c.args.maps.now c.requires (sym (ap (first_of_frame c.args.maps.now) c.from.ensures) ∙ sym c.first_of_frame.ensures ∙ c.in-None.is)
