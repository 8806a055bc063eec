use Rattle.std.specs.List.{list_all}
use Rattle.fabric_core.specs.World.{world_of}
use Rattle.platform.specs.Share.{is_guarded_port}
use Rattle.audit.proofs.Guarded.{none_can_tell}
use Rattle.audit.proofs.setting.Setting.new.Goals as goal

pub returns-clause-isolated : goal.returns-clause-isolated
returns-clause-isolated c =
    let made = c.in_ok-start.ensures in
    none_can_tell c.in_ok-start.start (world_of c.args.layout.now) (list_all is_guarded_port c.args.layout.now.ports) made.start made.guarded made.isolated
