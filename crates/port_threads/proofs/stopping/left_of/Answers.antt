use Rattle.std.proofs.Common.{rules}
use Rattle.port_threads.proofs.stopping.left_of.Goals as goal

pub returns : goal.returns
returns g c = record {
  links = search rules;
  credits = search rules;
  pairs = search rules;
  ports = search rules;
  reports = search rules;
  remains = search rules;
  domains = search rules;
  counted =
      let e1 = c.deref.ensures.value in
      let e2 = c.deref-2.ensures.value in
      let e3 = c.deref-3.ensures.value in
      let e4 = c.deref-4.ensures.value in
      rw (e1, e2, e3, e4) at c.in_ok-count.ensures.balanced;
}
