use Rattle.std.proofs.Common.{◌∙◌, ap, subst}
use Rattle.port_threads.specs.Fabrics.{FabricView}
use Rattle.port_threads.specs.Stops.{Leaves}
use Rattle.threads_command.specs.Begins.{begun_by}
use Rattle.threads_command.proofs.driving.driven.Goals as goal

pub returns-clause-ok : goal.returns-clause-ok
returns-clause-ok g c = λ platform is.
    let left : Leaves c.begin_all-begins.new.running c.in_ok-stopped.stopped = record {
      links = c.in_ok-stopped.ensures.links;
      credits = c.in_ok-stopped.ensures.credits;
      pairs = c.in_ok-stopped.ensures.pairs;
      ports = c.in_ok-stopped.ensures.ports;
      reports = c.in_ok-stopped.ensures.reports;
      remains = c.in_ok-stopped.ensures.remains;
      domains = c.in_ok-stopped.ensures.domains;
      counted = c.in_ok-stopped.ensures.counted;
    } in record {
      fabric = c.args.running;
      is_fabric = is;
      begun = begun_by c.begin_all-begins.new.running.origins c.begin_all-begins.new.begun;
      begins = rw (c.new-begun.ensures.injectors, c.new-begun.ensures.refusals) at c.in_ok-begins.ensures.ok;
      leaves = subst (λ (f : FabricView). Leaves f c.in_ok-stopped.stopped) c.begin_all-begins.ensures.rest left;
      balanced = λ guarded. c.in_ok-stopped.ensures.balanced (ap (λ (f : FabricView). f.guarded) c.begin_all-begins.ensures.rest ∙ is.guarded ∙ guarded);
      counts = rw (c.deref.ensures.value) at c.in_ok-add_all.ensures;
    }
