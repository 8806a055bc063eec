use Rattle.fab_types.specs.Id.{bus_of}
use Rattle.platform.specs.Tree.{internal_bus}
use Rattle.std.proofs.Common.{◌==◌}
use Rattle.topology.proofs.Members.{found}
use Rattle.guarded_routes.proofs.LinksBelow.{output_down_keeps}
use Rattle.guarded_routes.proofs.laws.what_goes_down_keeps_to_the_way.Goals as goal

pub returns-clause-down : goal.returns-clause-down
returns-clause-down c = λ platform switch place direction guarded at leads. output_down_keeps platform guarded switch place direction (found (λ s. s.id == switch.id) platform.switches switch at).0 leads

pub returns-clause-across : goal.returns-clause-across
returns-clause-across c = λ platform line switch place direction guarded on leads. output_down_keeps platform guarded switch place direction (found (λ s. internal_bus s == bus_of line.id) platform.switches switch on).0 leads
