use Rattle.host_memory.proofs.Rising.{placed}
use Rattle.host_memory.proofs.memory.place_by_halves.Goals as goal

pub returns : goal.returns
returns c = rw c.ok.ensures.value (placed _ _ _ c.binary_search.ensures.position c.requires)
