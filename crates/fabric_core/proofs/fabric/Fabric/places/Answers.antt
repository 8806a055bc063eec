use Rattle.std.proofs.Common.{subst}
use Rattle.std.specs.Prelude.{◌≡◌, true}
use Rattle.fabric_core.specs.Kept.{world_in}
use Rattle.fabric_core.specs.Places.{AreFlown, ArePartition, ArePacketPlaces}
use Rattle.fabric_core.specs.Trails.{standing_at}
use Rattle.fabric_core.specs.World.{World, is_guarded}
use Rattle.fabric_core.proofs.places.Named.{named_flown}
use Rattle.fabric_core.proofs.places.Partition.{partition}
use Rattle.fabric_core.proofs.fabric.Fabric.places.Goals as goal

pub returns-in-Ok-clause-places : goal.returns-in-Ok-clause-places
returns-in-Ok-clause-places c = subst (λ (w : World). ArePacketPlaces (standing_at w) c.args.domain c.in-Ok.named.items) c.self.view_is (let h = c.in-Ok.ensures in h.named)

pub returns-in-Ok-clause-flown : goal.returns-in-Ok-clause-flown
returns-in-Ok-clause-flown c =
    subst (λ (w : World). AreFlown w c.args.domain c.in-Ok.named.items) c.self.view_is
    (named_flown (world_in c.self.inside) c.self.invariant.kept.placed c.args.domain c.in-Ok.named.items (let h = c.in-Ok.ensures in let w = h.named in w.there))

pub returns-in-Ok-clause-partition : goal.returns-in-Ok-clause-partition
returns-in-Ok-clause-partition c =
    subst (λ (w : World). is_guarded w ≡ true → ArePartition w c.args.domain c.in-Ok.named.items) c.self.view_is
    (λ guarded. partition (world_in c.self.inside) c.self.invariant guarded (let h = c.in-Ok.ensures in h.found) c.args.domain c.in-Ok.named.items (let h = c.in-Ok.ensures in h.named))
