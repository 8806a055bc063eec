use Rattle.std.proofs.Common.{subst, sym}
use Rattle.std.specs.List.{flat_map}
use Rattle.fabric_core.specs.Stations.{events_at}
use Rattle.fabric_core.specs.World.{World}
use Rattle.commands.specs.Driving.{Drives, IsDriven}
use Rattle.commands.specs.Isolated.{IsIsolated}
use Rattle.commands.specs.Settled.{Settles}
use Rattle.reports.specs.Writing.{Wrote}
use Rattle.commands.proofs.Isolating.{isolated_by}
use Rattle.commands.proofs.Owning.{has_owners}
use Rattle.commands.proofs.Settling.{settled_by}
use Rattle.commands.proofs.drive.driven.Goals as goal

pub returns-clause-ok : goal.returns-clause-ok
returns-clause-ok g c =
    let written = c.in_ok-drive_all.ensures.ok in
    let platform = c.args.layout.now in
    let events = flat_map events_at c.in_ok-sweeper.sweeper.stations in (
      written.0,
      record {
        events = events;
        sweep = c.in_ok-sweeper.ensures.sweep;
        drives = subst (λ (w : World). Drives events w c.args.lines.items c.into_fabric.result written.0) c.in_ok-sweeper.ensures.start
            (subst (λ (v : World). Drives events c.in_ok-sweeper.sweeper.world c.args.lines.items v written.0) (sym c.into_fabric.ensures) written.1);
      },
      written.2,
    )

pub returns-clause-isolated : goal.returns-clause-isolated
returns-clause-isolated g c =
    let driven = returns-clause-ok g c in
    isolated_by c.args.layout.now c.args.lines.items c.into_fabric.result driven.0 driven.1 c.in_ok-sweeper.ensures.isolated

pub returns-clause-settled : goal.returns-clause-settled
returns-clause-settled g c =
    settled_by c.a_sweep_that_moves_nothing_is_the_last.ensures c.args.layout.now c.args.lines.items c.into_fabric.result c.ports.ensures.laws (returns-clause-isolated g c) c.in_ok-sweeper.ensures.unblocked c.in_ok-sweeper.ensures.consumed

pub returns-clause-owners : goal.returns-clause-owners
returns-clause-owners g c = has_owners c.args.layout.now c.args.lines.items c.into_fabric.result c.ports.ensures.laws (returns-clause-isolated g c)
