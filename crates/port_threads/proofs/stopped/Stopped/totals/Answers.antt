use Rattle.std.proofs.Common.{rules}
use Rattle.std.specs.Prelude.{◌==◌}
use Rattle.domain.specs.Domains.{DomainView}
use Rattle.port_threads.specs.Left.{frames_of}
use Rattle.thread_totals.specs.Counts.{totals_of}
use Rattle.port_threads.proofs.Found.{found_at}
use Rattle.port_threads.proofs.stopped.Stopped.totals.Goals as goal

pub returns-then-eq : goal.returns-then-eq
returns-then-eq c =
    let s = c.args.self.now in
    found_at (λ (d : DomainView). d.share.domain == c.args.number) (totals_of (frames_of s) s.remains.items) s.domains.items s.count.totals.items c.loop-place.place c.domain-item.result _
    (search rules) (search rules) (search rules) c.loop-place.invariant s.counted (search rules)
