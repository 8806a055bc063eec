use Rattle.lane.specs.Lanes.{class_of}
use Rattle.link.proofs.Fullness.{put_or_full}
use Rattle.link.proofs.egress.Egress.put.Goals as goal

pub returns-clause-full : goal.returns-clause-full
returns-clause-full c = rw (← c.self.view_is)
    (put_or_full 16 (class_of c.args.frame) c.put.result c.self.inside.queue.queue.waiting c.has_no_place.ensures.sorted c.put.ensures.full)
