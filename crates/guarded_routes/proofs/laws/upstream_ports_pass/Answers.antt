use Rattle.guarded_routes.proofs.Falling.{passes_down}
use Rattle.guarded_routes.proofs.laws.upstream_ports_pass.Goals as goal

pub returns : goal.returns
returns c = λ platform switch frame guarded found sound. passes_down platform guarded switch found frame sound
