use Rattle.fabric_core.proofs.apart.Apart as law
use Rattle.fabric_core.proofs.laws.events_leave_other_domains_alone.Goals as goal

pub returns : goal.returns
returns c = law.apart_after
