use Rattle.std.proofs.Common.{◌∙◌, sym}
use Rattle.audit.proofs.Lists.{pairs_from}
use Rattle.audit.proofs.search.audit.Goals as goal

pub returns-then-is_guarded-clause-told : goal.returns-then-is_guarded-clause-told
returns-then-is_guarded-clause-told c = c.in_ok-setting.ensures.isolated (sym c.is_guarded.ensures ∙ c.if-is_guarded.true)

pub returns-clause-told : goal.returns-clause-told
returns-clause-told c =
    pairs_from _ _ _ c.domains.result.now _ c.in_ok-setting.ensures.setting.start c.in_ok-setting.ensures.layout c.domains.ensures c.in_ok-pairs.ensures
