use Rattle.std.proofs.Common.{rules}
use Rattle.request_handling.specs.AtFunctions.{access_of, is_access, lies_in, unserved}
use Rattle.platform.specs.Owners.{bar_of}
use Rattle.request_handling.specs.Answers.{address_of, function_refusal}
use Rattle.tlp_view.specs.Kinds.{class_of_kind}
use Rattle.request_handling.proofs.Choices.{both_discarded}
use Rattle.request_handling.proofs.requests.request_at_function.Goals as goal

pub returns-in-None-clause-value : goal.returns-in-None-clause-value
returns-in-None-clause-value c = λ frames.
    let share = c.args.start.now in
    let t = c.args.view.now in
    both_discarded (is_access t) (lies_in (bar_of share.functions c.args.id) (address_of t)) (access_of share c.args.functions.now c.args.id t) (unserved (class_of_kind t.kind) (function_refusal share c.args.id t))
    (search rules) (search rules) (c.in-None.ensures.value share frames t)
