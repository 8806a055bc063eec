use Rattle.std.proofs.Common.{◌∙◌, Option, Some, ap, subst, sym}
use Rattle.std.specs.Option.{IfSome}
use Rattle.fab_types.specs.declared.head.Head.{Head}
use Rattle.port.specs.Courses.{course_of}
use Rattle.interconnect.specs.declared.waits.KnownCourse.{KnownCourse}
use Rattle.interconnect.specs.Waits.{IsCourse, lane_of}
use Rattle.interconnect.proofs.waits.lane_for.Goals as goal

pub returns-then-same_head-clause-value : goal.returns-then-same_head-clause-value
returns-then-same_head-clause-value c =
    let known : IsCourse c.args.bridge.now c.args.port.now.config c.in-Some.course = subst (λ (o : Option KnownCourse). IfSome o (IsCourse c.args.bridge.now c.args.port.now.config)) c.in-Some.is c.requires in
    let same = c.same_head.ensures.0 c.if-same_head.true in
    sym (ap (λ (h : Head). lane_of (course_of c.args.bridge.now c.args.port.now.config h)) (sym same) ∙ known.goes)
