use Rattle.std.proofs.Common.{◌≡◌, ◌/◌, ◌^◌, ◌<◌, [], ◌++◌, length, sym, ap, ◌∙◌, subst, arith, rules}
use Rattle.tlp_view.specs.Spelling.{header, Spells}
use Rattle.tlp_view.specs.Completions.{completion, completion_of, completion_bytes}
use Rattle.tlp_view.proofs.Completed.{completion_spelled}
use Rattle.tlp_view.proofs.completion.CompletionHead.header.Goals as goal

pub returns-clause-spelled : goal.returns-clause-spelled
returns-clause-spelled c = λ payload long.
    let head = c.args.self in
    let count : length payload / 4 ≡ c.args.count = omega (arith, long) in
    let tag : head.tag < 2 ^ 8 = search rules in
    let spelled = completion_spelled head payload c.requires.fits (length payload / 4) (omega (arith, c.requires.small, count)) (omega (arith, long)) c.header_bytes.ensures.completer c.header_bytes.ensures.requester tag in
    let is : c.header_bytes.result ++ payload ≡ completion_bytes (completion_of head payload) = ap (λ front. front ++ payload) c.header_bytes.ensures.value ∙ ap (λ n. header (completion head n []) [] ++ payload) (sym count) in
    subst (λ bytes. Spells bytes (completion_of head payload)) (sym is) spelled
