use Rattle.std.proofs.Common.{◌≡◌, ◌+◌, ◌-◌, ◌/◌, List, ℕ, take, drop, refl, ap, ◌∙◌, arith}
use Rattle.tlp_view.specs.Packet.{Packet}
use Rattle.tlp_view.specs.Completions.{completion, with_payload}
use Rattle.tlp_view.proofs.BufferBytes.{with_part-payload}
use Rattle.tlp_view.proofs.completion.CplBuf.payload_mut.Goals as goal

pub returns : goal.returns
returns c =
    let inside = c.self.inside in
    let is = c.self.invariant in
    let same : 12 + inside.len - 12 ≡ inside.len = omega arith in
    let written = λ (w : List ℕ). with_part-payload inside.len inside.cells.xs w (omega (arith, is.small, is.long)) in (
      (refl, λ w. ap (completion inside.head (inside.len / 4)) (written w) ∙ ap (λ t. with_payload t w) c.self.view_is),
      record { writes_back = tt; value = c.part_mut.ensures.value ∙ ap (λ n. take n (drop 12 inside.cells.xs)) same ∙ ap (λ (t : Packet). t.payload) c.self.view_is },
    )
