use Rattle.function.proofs.Fixed.{page_beside, tick_beside, closed_beside}
use Rattle.function.proofs.laws.fixed_bytes_stay.Goals as goal

pub returns-clause-written : goal.returns-clause-written
returns-clause-written c = λ page first runs i fixed. page_beside i fixed runs page first

pub returns-clause-ticked : goal.returns-clause-ticked
returns-clause-ticked c = λ page plan i fixed. tick_beside i fixed plan page

pub returns-clause-closed : goal.returns-clause-closed
returns-clause-closed c = λ page usage status payload i long fixed. closed_beside i fixed page usage status payload long
