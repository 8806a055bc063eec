use Rattle.std.proofs.Common.{◌≡◌, ◌∙◌, List, Some, ap, sym}
use Rattle.std.specs.List.{position, remove}
use Rattle.fab_types.specs.Origins.{same_origin}
use Rattle.injector.specs.declared.injector.Injector.{Injector}
use Rattle.port_threads.specs.Fabrics.{FabricView}
use Rattle.thread_staff.specs.Origins.{origin_place, origins_in}
use Rattle.port_threads.proofs.Injected.{placed}
use Rattle.port_threads.proofs.running.Running.injector.Goals as goal

pub returns-in_err-place-clause-given : goal.returns-in_err-place-clause-given
returns-in_err-place-clause-given c =
    let found = c.place_of.ensures.value
    ∙ ap (λ (l : List Injector). position (λ (i : Injector). same_origin i.origin c.args.origin) l) c.deref.ensures.value
    ∙ placed c.self.inside.injectors.items c.args.origin
    ∙ ap (λ (f : FabricView). origin_place f.origins c.args.origin) c.self.view_is in
    rw c.from_residual.ensures (sym found ∙ c.in_err-place.was)

pub returns-clause-given : goal.returns-clause-given
returns-clause-given c =
    let found = c.place_of.ensures.value
    ∙ ap (λ (l : List Injector). position (λ (i : Injector). same_origin i.origin c.args.origin) l) c.deref.ensures.value
    ∙ placed c.self.inside.injectors.items c.args.origin in
    let there : origin_place (origins_in c.self.inside.injectors.items) c.args.origin ≡ Some c.in_ok-place.place = sym found ∙ c.in_ok-place.was in (
      c.in_ok-place.place,
      sym (ap (λ (f : FabricView). origin_place f.origins c.args.origin) c.self.view_is) ∙ there,
      c.take_at.ensures.taken c.args.origin there,
      c.take_at.ensures.others ∙ ap (λ (f : FabricView). remove f.origins c.in_ok-place.place) c.self.view_is,
    )
