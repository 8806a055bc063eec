use Rattle.std.proofs.Common.{ap, ◌∙◌, map, length, arith}
use Rattle.std.specs.Vec.Iter.{into_iter_items}
use Rattle.thread_rings.specs.Wired.{dealt, tags_of, table_of}
use Rattle.thread_rings.proofs.Dealt.{first_within, rest_within, dealt_on}
use Rattle.thread_rings.proofs.dealing.deal.Goals as goal

pub loop-laid-preserved : goal.loop-laid-preserved
loop-laid-preserved g c =
    let s = c.in-Some.ensures.steps in
    let inv = c.loop-laid.invariant in
    let rest = into_iter_items c.next.new.self in (
      dealt_on c.loop-laid.number (map tags_of c.loop-laid.workers.items) (map tags_of c.deal_one.new.workers.items) (dealt c.args.count (table_of c.args.rings.items)) _ rest c.in-Some.laid s.0 c.in_ok-deal_one.ensures.given inv.0,
      c.in_ok-deal_one.ensures.count ∙ inv.1,
      rest_within c.args.count _ rest c.in-Some.laid s.0 inv.2,
      (let n = ap length s.0 in let m = inv.3 in omega arith),
    )

pub deal_one-requires-clause-from : goal.deal_one-requires-clause-from
deal_one-requires-clause-from g c =
    let inv = c.loop-laid.invariant in
    let both = first_within c.args.count _ (into_iter_items c.next.new.self) c.in-Some.laid c.in-Some.ensures.steps.0 inv.2 in
    let n = inv.1 in let b = both.0 in omega arith

pub deal_one-requires-clause-to : goal.deal_one-requires-clause-to
deal_one-requires-clause-to g c =
    let inv = c.loop-laid.invariant in
    let both = first_within c.args.count _ (into_iter_items c.next.new.self) c.in-Some.laid c.in-Some.ensures.steps.0 inv.2 in
    let n = inv.1 in let b = both.1 in omega arith
