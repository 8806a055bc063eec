use Rattle.std.proofs.Common.{◌≤◌, length, sym, ◌∙◌, arith}
use Rattle.tlp_view.proofs.WellFormed.{not_short, has_kind, whole_from, malformed-kind, view_from}
use Rattle.tlp_view.proofs.view.TlpView.again.Goals as goal

pub bounds-bytes-0 : goal.bounds-bytes-0
bounds-bytes-0 c =
    let long : 12 ≤ length c.args.bytes.now = (whole_from c.args.bytes.now (not_short c.args.bytes.now c.requires)).narrow in
    omega arith

pub bounds-bytes-0-2 : goal.bounds-bytes-0-2
bounds-bytes-0-2 c =
    let long : 12 ≤ length c.args.bytes.now = (whole_from c.args.bytes.now (not_short c.args.bytes.now c.requires)).narrow in
    omega arith

pub unreachable-requires : goal.unreachable-requires
unreachable-requires c = has_kind c.args.bytes.now c.requires (sym c.of.ensures ∙ c.in-None.is)

pub invariant_of-result : goal.invariant_of-result
invariant_of-result c =
    let long = not_short c.args.bytes.now c.requires in
    view_from c.args.bytes.now c.in-Some.kind long (sym c.in-Some.ensures) (sym (malformed-kind c.args.bytes.now c.in-Some.kind long (sym c.in-Some.ensures)) ∙ c.requires)
