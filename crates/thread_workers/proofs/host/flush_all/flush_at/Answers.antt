use Rattle.std.proofs.Common.{get_or, refl, rules}
use Rattle.std.proofs.lemmas.Option.{slice_get-get_or}
use Rattle.thread_workers.proofs.host.flush_all.flush_at.Goals as goal

pub returns-clause-at : goal.returns-clause-at
returns-clause-at c = record {
  host = get_or c.args.hosts.now c.args.place c.index-hosts-place.result;
  was = slice_get-get_or c.args.hosts.now c.args.place c.index-hosts-place.result (search rules);
  host' = c.flush_host.new.host;
  flushes = c.flush_host.ensures;
  is = refl;
}
