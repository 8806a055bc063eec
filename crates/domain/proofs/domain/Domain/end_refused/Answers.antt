use Rattle.domain.proofs.EndLemmas.{refused_ends}
use Rattle.domain.proofs.domain.Domain.end_refused.Goals as goal

pub end_by-requires : goal.end_by-requires
end_by-requires c = refused_ends c.args.self.now c.args.number c.in-Some.disposition c.in-Some.ensures
