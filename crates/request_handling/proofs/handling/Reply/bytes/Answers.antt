use Rattle.std.proofs.Common.{subst}
use Rattle.request_handling.specs.Emissions.{Emission}
use Rattle.request_handling.specs.WellMade.{IsWellMade}
use Rattle.request_handling.proofs.WellMadeLemmas.{reply_well}
use Rattle.request_handling.proofs.handling.Reply.bytes.Goals as goal

pub returns-clause-well_made : goal.returns-clause-well_made
returns-clause-well_made c =
    subst (λ (e : Emission). IsWellMade e.parties c.bytes.result.now) c.self.view_is
    (reply_well c.self.inside.parties c.self.inside.packet c.bytes.result.now c.self.invariant c.bytes.ensures.well_formed c.bytes.ensures.read c.bytes.ensures.short)
