use Rattle.port_threads.proofs.Strung.{laid_dealt, same_items}
use Rattle.port_threads.proofs.rings.strung.Goals as goal

pub returns-clause-dealt : goal.returns-clause-dealt
returns-clause-dealt g c =
    laid_dealt c.args.count c.args.wires.now c.in_ok-rings.rings.items _ _ c.in_ok-rings.ensures (same_items _ _ c.of-made.ensures) c.requires c.in_ok-ends.ensures.dealt
