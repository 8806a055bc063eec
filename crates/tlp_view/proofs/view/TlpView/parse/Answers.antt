use Rattle.std.proofs.Common.{sym, ◌∙◌}
use Rattle.tlp_view.proofs.WellFormed.{malformed-short, malformed-no_kind, malformed-kind, view_from, packet-kind}
use Rattle.tlp_view.proofs.view.TlpView.parse.Goals as goal

pub returns-then-is_short-clause-cause : goal.returns-then-is_short-clause-cause
returns-then-is_short-clause-cause c =
    malformed-short c.args.bytes.now (sym c.is_short.ensures ∙ c.if-is_short.true)

pub returns-in_default-clause-cause : goal.returns-in_default-clause-cause
returns-in_default-clause-cause c =
    malformed-no_kind c.args.bytes.now (sym c.is_short.ensures ∙ c.if-is_short.false) (sym c.in_default.ensures)

pub invariant_of-result : goal.invariant_of-result
invariant_of-result c =
    view_from c.args.bytes.now c.in-Some.kind (sym c.is_short.ensures ∙ c.if-is_short.false) (sym c.in-Some.ensures) (sym c.in-None.ensures)

pub returns-in-Some-fault_of-clause-cause : goal.returns-in-Some-fault_of-clause-cause
returns-in-Some-fault_of-clause-cause c =
    malformed-kind c.args.bytes.now c.in-Some.kind (sym c.is_short.ensures ∙ c.if-is_short.false) (sym c.in-Some.ensures) ∙ sym c.in-Some-fault_of.ensures

pub returns-in-None-clause-value : goal.returns-in-None-clause-value
returns-in-None-clause-value c =
    (malformed-kind c.args.bytes.now c.in-Some.kind (sym c.is_short.ensures ∙ c.if-is_short.false) (sym c.in-Some.ensures) ∙ sym c.in-None.ensures, packet-kind c.args.bytes.now c.in-Some.kind (sym c.in-Some.ensures))
