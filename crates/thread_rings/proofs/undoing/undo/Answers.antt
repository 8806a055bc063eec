use Rattle.std.proofs.Common.{ℕ, List, map, length, get_or, take, arith, ◌≡◌, ◌+◌, ◌-◌, ◌∙◌, sym, ap, refl}
use Rattle.std.specs.Prelude.{vec_len, reverse}
use Rattle.rtrb.specs.Ring.{sent, received}
use Rattle.thread_rings.specs.Moved.{flow_of}
use Rattle.thread_rings.specs.Returned.{row_of, all_tallied}
use Rattle.thread_rings.specs.Wired.{tag_of, dealt, numbered, tags_of, table_of}
use Rattle.thread_rings.specs.declared.ring_tally.RingTally.{RingTally}
use Rattle.thread_rings.proofs.Flows.{flow_more, all_back}
use Rattle.thread_rings.proofs.Numbered.{tallied_more}
use Rattle.thread_rings.proofs.Undone.{next_back, none_back, length-dealt}
use Rattle.thread_rings.proofs.undoing.undo.Goals as goal

pub take_both-out-requires-clause-given : goal.take_both-out-requires-clause-given
take_both-out-requires-clause-given g c =
    let count = vec_len c.args.workers in
    let m : ℕ = length c.args.wires.now - 1 - c.loop-done.done in
    let next = next_back count c.loop-done.done c.args.made.now.value.items c.args.wires.now (record { from = 0; to = 0; places = 0 }) c.requires.wires c.loop-done-test.true in
    let table = table_of c.args.made.now.value.items in
    (dealt count (take m table), tag_of next.0, length-dealt count (take m table) ∙ sym c.loop-done.invariant.1, c.loop-done.invariant.0 ∙ next.1)

pub tally_ends-requires : goal.tally_ends-requires
tally_ends-requires g c =
    let count = vec_len c.args.workers in
    let m : ℕ = length c.args.wires.now - 1 - c.loop-done.done in
    let next = next_back count c.loop-done.done c.args.made.now.value.items c.args.wires.now (record { from = 0; to = 0; places = 0 }) c.requires.wires c.loop-done-test.true in
    let table = table_of c.args.made.now.value.items in
    let taken = c.take_both-out.ensures.taken (dealt count (take m table)) (tag_of next.0) (length-dealt count (take m table) ∙ sym c.loop-done.invariant.1) (c.loop-done.invariant.0 ∙ next.1) in
    taken.2 ∙ sym taken.1

pub loop-done-init : goal.loop-done-init
loop-done-init g c =
    let r = c.in_ok-rings.ensures in
    let none = none_back (vec_len c.args.workers) c.args.made.now.value.items c.args.wires.now (map tags_of c.args.workers.items) row_of c.in_ok-rings.rings.items c.requires.wires c.requires.dealt r.items in
    (none.0, refl, r.len, r.capacity, none.1, ap (λ (l : List (RingTally g.row.T.Denot)). all_tallied (map flow_of c.args.workers.items) (reverse l)) (sym r.items))

pub loop-done-preserved : goal.loop-done-preserved
loop-done-preserved g c =
    let count = vec_len c.args.workers in
    let m : ℕ = length c.args.wires.now - 1 - c.loop-done.done in
    let next = next_back count c.loop-done.done c.args.made.now.value.items c.args.wires.now (record { from = 0; to = 0; places = 0 }) c.requires.wires c.loop-done-test.true in
    let table = table_of c.args.made.now.value.items in
    let taken = c.take_both-out.ensures.taken (dealt count (take m table)) (tag_of next.0) (length-dealt count (take m table) ∙ sym c.loop-done.invariant.1) (c.loop-done.invariant.0 ∙ next.1) in
    let t = c.loop-done-test.true in
    let same : m ≡ length c.args.wires.now - (c.loop-done.done + 1) = omega (t, arith) in
    let tally = c.in_ok-tally_ends.field-0 in
    let e = c.in_ok-tally_ends.ensures in
    let so : row_of tally ≡ next.0 = λ i. ((e.ring ∙ ap (λ t. t.0) taken.1) i, ((e.wire ∙ next.2) i, (e.name ∙ ap (λ t. t.1) taken.1) i)) in
    let l = c.push_reserved.ensures.len in let k = c.push_reserved.ensures.capacity in let i = c.loop-done.invariant in (
      taken.0 ∙ ap (λ (n : ℕ). dealt count (take n table)) same,
      c.take_both-out.ensures.count ∙ i.1,
      (let j = i.2 in omega (l, j, arith)),
      (let j = i.3 in omega (k, j, arith)),
      tallied_more row_of (numbered table) c.push_reserved.new.self.items c.loop-done.rings.items tally m (length c.args.wires.now - c.loop-done.done) (length c.args.wires.now - (c.loop-done.done + 1)) next.0
          c.push_reserved.ensures.items so i.4 next.3 same,
      flow_more (map flow_of c.args.workers.items) (map flow_of c.loop-done.workers.items) (map flow_of c.take_both-out.new.workers.items) c.loop-done.rings.items c.push_reserved.new.self.items tally (get_or c.args.wires.now m (record { from = 0; to = 0; places = 0 })) (sent c.take_both-out.result.0.producer) (received c.take_both-out.result.1.consumer)
          i.5 c.take_both-out.ensures.moved e.wire e.sent e.taken c.push_reserved.ensures.items,
    )

pub returns-clause-moved : goal.returns-clause-moved
returns-clause-moved g c =
    let none = c.loop-done-test.false in
    all_back c.loop-done.workers.items (map flow_of c.args.workers.items) c.loop-done.rings.items (vec_len c.args.workers) (table_of c.args.made.now.value.items) (length c.args.wires.now - c.loop-done.done)
    c.loop-done.invariant.5 c.loop-done.invariant.0 (omega (none, arith))
