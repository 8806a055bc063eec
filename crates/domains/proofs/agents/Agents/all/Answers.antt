use Rattle.std.proofs.Common.{List, map, subst, sym}
use Rattle.std.specs.Prelude.{IfOk}
use Rattle.std.specs.List.Sorted.{IsPermutation}
use Rattle.frame_log.specs.Descriptor.{Descriptor}
use Rattle.domains.proofs.Viewing.{waits}
use Rattle.domains.proofs.agents.Agents.all.Goals as goal

pub returns : goal.returns
returns c = rw (← c.self.view_is)
    (subst (λ (ws : List Descriptor). IfOk c.all.result (λ all. IsPermutation (map (λ frame. frame.now) all.items) ws)) (sym (waits c.self.inside.outboxes c.args.origin)) c.all.ensures)
