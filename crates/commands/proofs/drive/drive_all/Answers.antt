use Rattle.std.proofs.Common.{List, [], ◌++◌, ◌∷◌, refl, ◌∙◌, ap, sym, append_assoc, subst}
use Rattle.script.specs.declared.lines.Line.{Line}
use Rattle.std.specs.List.{flat_map}
use Rattle.fabric_core.specs.declared.station.Station.{Station}
use Rattle.fabric_core.specs.Stations.{events_at}
use Rattle.commands.specs.Driving.{Does}
use Rattle.commands.proofs.Running.{drive_more, drive_whole}
use Rattle.reports.proofs.Writing.{joined, nothing}
use Rattle.commands.proofs.drive.drive_all.Goals as goal

pub loop-line-init : goal.loop-line-init
loop-line-init g c = record { done = ([], (refl, refl), nothing _); stations = refl; left = c.into_iter-line-iterator.ensures.into_iter_gives.0 }

pub loop-line-preserved : goal.loop-line-preserved
loop-line-preserved g c =
    let before = c.loop-line.invariant.done in
    let now = c.in_ok-drive.ensures.ok in
    record {
      done = (
        before.0 ++ now.0,
        drive_more (flat_map events_at c.args.sweeper.now.stations) c.args.sweeper.now.world c.loop-line.sweeper.world c.drive.new.sweeper.world c.loop-line.yielded c.in-Some.line before.0 now.0 before.1
            (subst (λ (ss : List Station). Does (flat_map events_at ss) c.in-Some.line.number c.loop-line.sweeper.world c.in-Some.line.command c.drive.new.sweeper.world now.0) c.loop-line.invariant.stations now.1),
        joined _ _ _ before.0 now.0 before.2 now.2,
      );
      stations = c.drive.ensures.stations ∙ c.loop-line.invariant.stations;
      left = append_assoc c.loop-line.yielded (c.in-Some.line ∷ []) c.next.new.self.rest.items ∙ (ap (λ (ls : List Line). c.loop-line.yielded ++ ls) (sym c.in-Some.ensures.steps.0) ∙ c.loop-line.invariant.left);
    }

pub returns-clause-ok : goal.returns-clause-ok
returns-clause-ok g c =
    let before = c.loop-line.invariant.done in
    let rest = c.loop-line.line-iterator.rest in (
      before.0,
      drive_whole (flat_map events_at c.args.sweeper.now.stations) c.args.sweeper.now.world c.loop-line.sweeper.world c.args.lines.items c.loop-line.yielded rest.items before.0 c.loop-line.invariant.left (sym rest.ok.0 ∙ c.in-None.ensures.steps.0) before.1,
      before.2,
    )
