use Rattle.std.proofs.Common.{◌≡◌, arith, length}
use Rattle.port_threads.proofs.Taken.{dealt_ends, within_ends}
use Rattle.port_threads.proofs.tallying.tallied.Goals as goal

pub undo-requires-clause-within : goal.undo-requires-clause-within
undo-requires-clause-within g c =
    let n : c.args.ends.len ≡ length c.args.ends.items = omega arith in within_ends c.args.ends.len c.args.wires.now c.args.made.now.value.items c.args.ends.items n c.requires

pub undo-requires-clause-dealt : goal.undo-requires-clause-dealt
undo-requires-clause-dealt g c =
    let n : c.args.ends.len ≡ length c.args.ends.items = omega arith in dealt_ends c.args.ends.len c.args.wires.now c.args.made.now.value.items c.args.ends.items n c.requires
