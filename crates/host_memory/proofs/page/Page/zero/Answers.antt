use Rattle.std.proofs.Common.{refl}
use Rattle.host_memory.specs.Pages.{zeros}
use Rattle.host_memory.proofs.page.Page.zero.Goals as goal

pub returns : goal.returns
unfolding zeros
returns c = refl
