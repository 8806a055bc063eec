use Rattle.std.proofs.Common.{◌≡◌, sym, ap, ◌∙◌, inr}
use Rattle.lane.specs.Lanes.{Class, class_of}
use Rattle.lane.proofs.Waiting.{class_of-taken}
use Rattle.port.proofs.steps.forward.Goals as goal

pub returns-in-Err-push-clause-blocked : goal.returns-in-Err-push-clause-blocked
returns-in-Err-push-clause-blocked g c = λ e.
    let of_class : class_of c.in-Some.frame ≡ c.args.class = class_of-taken c.args.class _ _ c.in-Some.frame c.in-Some.ensures.taken in
    let refused = ap (λ (d : Class). g.O.LaneOut.may_refuse c.is_full.new.self d) (sym (ap class_of c.in-Ok.ensures.0 ∙ of_class)) in
    inr (sym (c.is_full.ensures.same c.args.class) ∙ (refused ∙ c.in-Err-push.ensures.full))
