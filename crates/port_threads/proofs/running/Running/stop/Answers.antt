use Rattle.std.proofs.Common.{◌∙◌, ap, subst, sym}
use Rattle.std.specs.Prelude.{not}
use Rattle.std.proofs.lemmas.Bool.{false≢true}
use Rattle.port_threads.specs.Fabrics.{FabricView}
use Rattle.port_threads.specs.Stops.{Leaves}
use Rattle.port_threads.proofs.running.Running.stop.Goals as goal

pub returns-then-not-stopped-clause-fault : goal.returns-then-not-stopped-clause-fault
returns-then-not-stopped-clause-fault g c = (
  ap (λ (f : FabricView). f.guarded) (sym c.self.view_is) ∙ c.if-is_guarded.true,
  (
    c.in-Ok-left_of.stopped,
    subst (λ (f : FabricView). Leaves f c.in-Ok-left_of.stopped) c.in-Ok.ensures c.in-Ok-left_of.ensures,
    λ adds. absurd (false≢true (sym (ap not (c.in-Ok-left_of.ensures.counted.1 adds)) ∙ c.if-not-stopped.true)),
  ),
)
