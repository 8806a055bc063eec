use Rattle.std.proofs.Common.{rules}
use Rattle.thread_workers.proofs.host.end_here.end_here.Goals as goal

pub returns-in-Err-Stray-clause-stray : goal.returns-in-Err-Stray-clause-stray
returns-in-Err-Stray-clause-stray g c = λ is_stray. record {
  frame = c.in-Some.frame;
  taken = search rules;
  foreign = search rules;
  grown = c.end_at_home.new.hosts;
  unreceived = search rules;
  rest = search rules;
  same = search rules;
  kept = search rules;
}
