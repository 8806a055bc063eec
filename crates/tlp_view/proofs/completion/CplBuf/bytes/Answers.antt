use Rattle.std.proofs.Common.{◌≡◌, ◌+◌, ◌*◌, ◌/◌, length, take, drop, sym, ap, ◌∙◌, subst, length-take-le, length-drop, arith}
use Rattle.tlp_view.specs.Spelling.{Spells}
use Rattle.tlp_view.specs.Completions.{completion, completion_bytes}
use Rattle.tlp_view.proofs.BufferBytes.{buffer_bytes}
use Rattle.tlp_view.proofs.Completed.{completion_spelled}
use Rattle.tlp_view.proofs.completion.CplBuf.bytes.Goals as goal

pub returns-clause-spelled : goal.returns-clause-spelled
returns-clause-spelled c =
    let inside = c.self.inside in
    let is = c.self.invariant in
    let payload = take inside.len (drop 12 inside.cells.xs) in
    let t = completion inside.head (inside.len / 4) payload in
    let long : length payload ≡ 4 * (inside.len / 4) = omega (arith, length-take-le inside.len (drop 12 inside.cells.xs) (omega (arith, length-drop 12 inside.cells.xs, is.small, is.long)), is.whole) in
    let spelled = completion_spelled inside.head payload is.fits (inside.len / 4) (omega (arith, is.small)) long is.completer is.requester is.tag in
    subst (Spells (take (12 + inside.len) inside.cells.xs)) c.self.view_is (subst (λ bytes. Spells bytes t) (sym (buffer_bytes inside.head inside.len inside.cells.xs is)) spelled)

pub returns-clause-value : goal.returns-clause-value
returns-clause-value c =
    let inside = c.self.inside in
    buffer_bytes inside.head inside.len inside.cells.xs c.self.invariant ∙ ap completion_bytes c.self.view_is
