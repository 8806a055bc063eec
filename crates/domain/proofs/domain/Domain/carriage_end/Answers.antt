use Rattle.std.proofs.Common.{◌≡◌, List, ℕ, ap, sym, subst, ◌∙◌}
use Rattle.std.specs.Prelude.{option_map}
use Rattle.fab_types.specs.declared.head.Parties.{Parties}
use Rattle.request_handling.specs.AtFunctions.{access_of}
use Rattle.request_handling.specs.Carries.{carriage_of}
use Rattle.request_handling.specs.Dispositions.{handling}
use Rattle.request_handling.specs.WellMade.{IsWellMade}
use Rattle.request_handling.proofs.Suiting.{accesses_suit}
use Rattle.tlp_view.specs.Bytes.{packet_of}
use Rattle.domain.specs.Kept.{domain_view}
use Rattle.domain.proofs.EndLemmas.{carried_here}
use Rattle.domain.proofs.domain.Domain.carriage_end.Goals as goal

pub returns-in-Downward : goal.returns-in-Downward
returns-in-Downward c =
    let d = c.self.inside in
    let b = c.in-Some.packet in
    let f = c.in-Downward.function in
    let o = c.access_of.result in
    carried_here (domain_view d) c.args.self.now c.args.number _ o c.self.view_is c.in-Some.ensures.value
    (subst (λ (pages : List (ℕ × List ℕ)). option_map (handling d.start d.state.frames pages (packet_of b)) o ≡ access_of d.start pages f (packet_of b)) c.functions.ensures (c.access_of.ensures.value d.start d.state.frames (packet_of b))
    ∙ ap (carriage_of d.start d.state.frames d.state.registers b) (sym c.in-Downward.is))
    (accesses_suit b f o (subst (λ (p : Parties). IsWellMade p b) c.in-Downward.is c.in-Some.ensures.well_made) c.access_of.ensures.accessed)
