use Rattle.std.proofs.Common.{refl}
use Rattle.host_memory.specs.Pages.{zeros}
use Rattle.host_memory.proofs.page.zero_bytes.Goals as goal

pub returns-clause-value : goal.returns-clause-value
unfolding zeros
returns-clause-value c = refl
