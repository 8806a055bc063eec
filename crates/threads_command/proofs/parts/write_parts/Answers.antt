use Rattle.std.proofs.Common.{[], ◌++◌, refl, subst, rules}
use Rattle.port_threads.specs.Left.{frames_of}
use Rattle.reports.proofs.Writing.{joined, nothing}
use Rattle.threads_command.specs.Counted.{IsCountedPart}
use Rattle.threads_command.proofs.CountedParts.{counted_at, parts_next, parts_whole}
use Rattle.thread_totals.specs.Counts.{totals_of}
use Rattle.thread_totals.specs.declared.totals.Totals.{Totals}
use Rattle.threads_command.proofs.parts.write_parts.Goals as goal

pub loop-place-init : goal.loop-place-init
loop-place-init g c = ([], refl, nothing _)

pub loop-place-preserved : goal.loop-place-preserved
loop-place-preserved g c =
    let s = c.args.stopped.now in
    let totals = totals_of (frames_of s) s.remains.items in
    let before = c.loop-place.invariant in
    let now = c.in_ok-write_part.ensures in
    let own = counted_at totals s.domains.items s.count.totals.items c.loop-place.place c.domain-item.result _ (search rules) (search rules) s.counted (search rules) in (
      before.0 ++ now.0,
      parts_next totals s.domains.items c.loop-place.place c.domain-item.result before.0 now.0 (search rules) (search rules) before.1
          (subst (λ (t : Totals). IsCountedPart t c.domain-item.result now.0) own now.1),
      joined _ _ _ before.0 now.0 before.2 now.2,
    )

pub returns : goal.returns
returns g c =
    let s = c.args.stopped.now in
    let before = c.loop-place.invariant in
    (before.0, parts_whole (totals_of (frames_of s) s.remains.items) s.domains.items c.loop-place.place before.0 (search rules) before.1, before.2)
