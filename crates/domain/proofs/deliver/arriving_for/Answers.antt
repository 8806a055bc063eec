use Rattle.std.proofs.Common.{ap, rules}
use Rattle.domain.specs.Deliveries.{arrival_by}
use Rattle.domain.proofs.EndLemmas.{arrives_for}
use Rattle.domain.proofs.deliver.arriving_for.Goals as goal

pub returns : goal.returns
returns c =
    arrives_for c.args.tags.now.items c.args.bytes.now c.args.answerer c.args.addressee c.in_ok-owner.owner c.in_ok-status.status c.again-view.result (arrival_by c.arriving_at.result c.args.bytes.now)
    (search rules) (search rules) (search rules) (ap (λ a. arrival_by a c.args.bytes.now) c.arriving_at.ensures)
