use Rattle.std.proofs.Common.{◌≡◌, false, sym, ap, ◌∙◌, Option, ℕ}
use Rattle.platform.specs.Owners.{owner_of}
use Rattle.request_handling.specs.AtFunctions.{or_discarded}
use Rattle.request_handling.specs.Requests.{unserved_by_host}
use Rattle.request_handling.specs.Carries.{is_owner, serve}
use Rattle.request_handling.specs.Dispositions.{handling}
use Rattle.request_handling.proofs.Choices.{else_is}
use Rattle.request_handling.proofs.requests.by_table.Goals as goal

pub returns-else-is_owner-clause-value : goal.returns-else-is_owner-clause-value
returns-else-is_owner-clause-value c = λ frames registers.
    let share = c.args.start.now in
    let t = c.args.view.now in
    let owner : c.owner.result ≡ owner_of share.ports t.requester = c.owner.ensures ∙ ap (owner_of share.ports) c.requester.ensures in
    let foreign : is_owner (owner_of share.ports t.requester) share.domain ≡ false =
    sym (c.is_owner.ensures ∙ ap (λ (o : Option ℕ). is_owner o c.domain.result) owner ∙ ap (is_owner (owner_of share.ports t.requester)) c.domain.ensures) ∙ c.if-is_owner.false in
    else_is (is_owner (owner_of share.ports t.requester) share.domain) (or_discarded (serve share frames t)) (unserved_by_host share t) (handling share frames registers t c.unserved_by_host.result) foreign (c.unserved_by_host.ensures.value share frames registers)
