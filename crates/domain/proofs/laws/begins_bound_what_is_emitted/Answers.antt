use Rattle.std.proofs.Common.{arith}
use Rattle.domain.proofs.Accounting.{accounted}
use Rattle.domain.proofs.laws.begins_bound_what_is_emitted.Goals as goal

pub returns-clause-packets : goal.returns-clause-packets
returns-clause-packets c share journal state is = let a = accounted share journal state is in omega (arith, a.packets)

pub returns-clause-begins : goal.returns-clause-begins
returns-clause-begins c share journal state is = let a = accounted share journal state is in a.begins
