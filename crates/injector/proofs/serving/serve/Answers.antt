use Rattle.std.proofs.Common.{◌≡◌, ◌∙◌, ◌+◌, ap, refl, sym, inl, inr, ℕ}
use Rattle.rtrb.specs.Ring.{received}
use Rattle.injector.specs.declared.begin_ring.BeginRing.{BeginRing}
use Rattle.injector.proofs.Faults.{first_fault, no_fault}
use Rattle.injector.proofs.Numbers.{next_held}
use Rattle.injector.proofs.serving.serve.Goals as goal
use Rattle.injector.proofs.serving.serve.Goals.{then-not-is_memory_fault, else-not-is_memory_fault}

pub returns-after-not-is_memory_fault-clause-err : goal.returns-after-not-is_memory_fault-clause-err
returns-after-not-is_memory_fault-clause-err c =
    let n = c.fetch.ensures.next c.if-not-fetch.false in
    let k = c.fetch.ensures.counts in
    let d = c.args.domain.now in
    let ask = c.in-Some.begin.now.what in
    elim c.if-not-is_memory_fault.branch [
      | then-not-is_memory_fault w ↦
          let new = c.if-not-is_memory_fault.ring in
          let after = w.refuse.ensures.counts in
          let same : received new.consumer ≡ received c.fetch.new.self.consumer = cc in
          record {
            begin = c.in-Some.begin.now;
            next = next_held _ _ _ _ _ _ n c.in-Some.ensures same;
            domain = c.in-Err.ensures.err;
            accepted = ap (λ (r : BeginRing). r.accepted) w.ring-is ∙ (after.1 ∙ k.0);
            case = inl (
              first_fault d ask c.in-Err.fault _ refl c.in-Err.ensures.refused c.in-Err.ensures.accepted (sym c.is_memory_fault.ensures ∙ w.if-not-is_memory_fault.true),
              ap (λ (r : BeginRing). r.held) w.ring-is ∙ after.0,
              ap (λ (r : BeginRing). r.refused) w.ring-is ∙ (after.2 ∙ ap (λ (x : ℕ). x + 1) k.1),
            );
          }
      | else-not-is_memory_fault w ↦
          let m = no_fault d ask c.in-Err.fault _ refl c.in-Err.ensures.refused c.in-Err.ensures.accepted (sym c.is_memory_fault.ensures ∙ w.if-not-is_memory_fault.false) in
          record {
            begin = c.in-Some.begin.now;
            next = next_held _ _ _ _ _ _ n c.in-Some.ensures (ap (λ (r : BeginRing). received r.consumer) w.ring-is);
            domain = c.in-Err.ensures.err;
            accepted = ap (λ (r : BeginRing). r.accepted) w.ring-is ∙ k.0;
            case = inr (m.0, m.1, ap (λ (r : BeginRing). r.held) w.ring-is ∙ c.in-Some.ensures, ap (λ (r : BeginRing). r.refused) w.ring-is ∙ k.1);
          }
    ]
