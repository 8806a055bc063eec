use Rattle.std.proofs.Common.{get_or, refl, rules}
use Rattle.std.proofs.lemmas.Option.{slice_get-get_or}
use Rattle.thread_workers.proofs.host.serve_all.serve_at.Goals as goal

pub returns-clause-served : goal.returns-clause-served
returns-clause-served g c = record {
  begun = c.serve_host-begun.result;
  said = c.has_moved.ensures;
  host = get_or c.args.hosts.now c.args.place c.index-hosts-place.result;
  was = slice_get-get_or c.args.hosts.now c.args.place c.index-hosts-place.result (search rules);
  host' = c.serve_host-begun.new.host;
  served = c.serve_host-begun.ensures.served;
  is = refl;
}
