use Rattle.std.proofs.Common.{◌∙◌, ◌≡◌, List, Bool, true, ap, subst, sym}
use Rattle.fab_types.specs.Origins.{same_origin}
use Rattle.fab_types.specs.declared.origin.Origin.{Origin}
use Rattle.injector.specs.declared.injector.Injector.{Injector}
use Rattle.thread_staff.specs.Origins.{origins_in}
use Rattle.port_threads.proofs.Injected.{found_passes, map-remove}
use Rattle.port_threads.proofs.injecting.take_at.Goals as goal

pub returns-clause-others : goal.returns-clause-others
returns-clause-others c = ap origins_in c.remove.ensures.items ∙ map-remove (λ (i : Injector). i.origin) c.args.injectors.now.items c.args.place

pub returns-clause-taken : goal.returns-clause-taken
returns-clause-taken c = λ origin at.
    ap (λ (i : Injector). same_origin i.origin origin) c.remove.ensures.value
    ∙ found_passes (λ (i : Injector). i.origin) (λ (o : Origin). same_origin o origin) c.args.injectors.now.items c.args.place c.remove.result at
