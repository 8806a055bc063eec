use Rattle.bridge.specs.Groups.{holder_of}
use Rattle.bridge.proofs.Holders.{to_holder-Some, to_holder-None}
use Rattle.bridge.proofs.switch.SwitchRoutes.route.Goals as goal

pub returns-in-Some : goal.returns-in-Some
returns-in-Some c = let h = c.in-Some.ensures in to_holder-Some c.args.otherwise (holder_of c.args.self.now c.args.target) c.in-Some.id cc

pub returns-in-None : goal.returns-in-None
returns-in-None c = to_holder-None c.args.otherwise (holder_of c.args.self.now c.args.target) cc
