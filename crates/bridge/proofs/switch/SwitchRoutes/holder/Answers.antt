use Rattle.std.proofs.Common.{sym, ap}
use Rattle.platform.specs.declared.parts.DownstreamPort.{DownstreamPort}
use Rattle.std.specs.Prelude.{option_map}
use Rattle.bridge.proofs.Finding.{found-none}
use Rattle.bridge.proofs.switch.SwitchRoutes.holder.Goals as goal

pub returns-in-None : goal.returns-in-None
returns-in-None c = rw c.in-None.is (sym (ap (option_map (λ (port : DownstreamPort). port.id)) (found-none c.args.self.now.ports)))
