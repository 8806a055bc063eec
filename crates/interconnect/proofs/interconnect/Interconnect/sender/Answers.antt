use Rattle.interconnect.proofs.Keeping.{sent_from}
use Rattle.interconnect.specs.Kept.{interconnect_view}
use Rattle.interconnect.proofs.interconnect.Interconnect.sender.Goals as goal

pub returns-clause-end : goal.returns-clause-end
returns-clause-end c = rw (← c.self.view_is) (sent_from (interconnect_view c.self.inside).tree c.args.direction c.sender.result c.self.invariant.kept.sound c.sender.ensures)
