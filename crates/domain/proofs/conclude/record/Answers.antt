use Rattle.std.proofs.Common.{◌+◌, ◌≤◌, length, sym, subst, ℕ}
use Rattle.domain.specs.Deliveries.{arrival_by}
use Rattle.domain.proofs.ConcludeLemmas.{room_recorded}
use Rattle.domain.proofs.conclude.record.Goals as goal

pub returns-clause-room : goal.returns-clause-room
returns-clause-room c =
    subst (λ (cap : ℕ). length c.close.new.self.items + length c.push_reserved.new.self.items ≤ cap) (sym c.push_reserved.ensures.capacity)
    (room_recorded c.args.tags.now.items _ c.args.records.now.items _ (arrival_by c.args.arriving.now c.args.bytes.now).delivery _ c.requires.is_open c.requires.room c.close.ensures (rw c.record.ensures at c.push_reserved.ensures.items))
