use Rattle.std.proofs.Common.{get_or, refl, rules}
use Rattle.std.proofs.lemmas.Option.{slice_get-get_or}
use Rattle.thread_workers.proofs.host.enter_all.enter_at.Goals as goal

pub returns-clause-entered : goal.returns-clause-entered
returns-clause-entered c = record {
  host = get_or c.args.hosts.now c.args.place c.index-hosts-place.result;
  was = slice_get-get_or c.args.hosts.now c.args.place c.index-hosts-place.result (search rules);
  host' = record { outbox = c.enter_each.new.outbox; ends = (get_or c.args.hosts.now c.args.place c.index-hosts-place.result).ends };
  entered = c.enter_each.ensures.entered;
  ends = refl;
  is = refl;
}
