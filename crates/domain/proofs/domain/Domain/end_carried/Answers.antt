use Rattle.domain.proofs.EndLemmas.{carried_ends}
use Rattle.domain.proofs.domain.Domain.end_carried.Goals as goal

pub end_by-requires : goal.end_by-requires
end_by-requires c = carried_ends c.args.self.now c.args.number c.in-Some.disposition c.in-Some.ensures
