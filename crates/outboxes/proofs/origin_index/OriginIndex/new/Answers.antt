use Rattle.std.proofs.Common.{ap}
use Rattle.fab_types.specs.declared.origin.Origin.TheVariants.{Function, Host}
use Rattle.fab_types.specs.Id.{bus_of}
use Rattle.outboxes.specs.OriginIndexes.{entry_for, noted_place}
use Rattle.outboxes.proofs.origin_index.OriginIndex.new.Goals as goal

pub returns : goal.returns
unfolding noted_place
returns c (Function f) = ap (λ o. entry_for o f) (c.no_functions.ensures (bus_of f))
returns c (Host n) = c.no_hosts.ensures n
