use Rattle.domain.proofs.PageIds.{own_bar_none}
use Rattle.domain.proofs.domain.Domain.admit.Goals as goal

pub unreachable-requires : goal.unreachable-requires
unreachable-requires c = own_bar_none c.self.inside.start c.args.access.now.function _ c.owns_function.ensures c.if-not-owns_function.false c.bar_of.ensures c.in_default-bar_of.is
