use Rattle.std.proofs.Common.{get_or, refl, rules}
use Rattle.std.proofs.lemmas.Option.{slice_get-get_or}
use Rattle.std.proofs.lemmas.Result.{on_ok_weaker}
use Rattle.thread_workers.specs.HostEnds.{EndsOwnAt}
use Rattle.thread_workers.proofs.host.hosts.end_at_home.Goals as goal

pub returns-clause-ended : goal.returns-clause-ended
returns-clause-ended g c = on_ok_weaker c.end_at.result (λ (ended : EndsOwnAt c.args.frame (get_or c.args.hosts.now c.in-Some.place c.index-hosts-place.result) c.end_at.new.host). record {
  place = c.in-Some.place;
  found = search rules;
  host = get_or c.args.hosts.now c.in-Some.place c.index-hosts-place.result;
  was = slice_get-get_or c.args.hosts.now c.in-Some.place c.index-hosts-place.result (search rules);
  host' = c.end_at.new.host;
  change = ended;
  is = refl;
}) c.end_at.ensures.ended
