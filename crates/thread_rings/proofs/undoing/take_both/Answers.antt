use Rattle.std.proofs.Common.{map, arith}
use Rattle.std.proofs.lemmas.List.{length-map}
use Rattle.thread_rings.specs.Wired.{tags_of}
use Rattle.thread_rings.proofs.Undone.{half_taken, both_taken, has_out}
use Rattle.thread_rings.proofs.undoing.take_both.Goals as goal

pub take_out-out-requires-clause-some : goal.take_out-out-requires-clause-some
take_out-out-requires-clause-some g c =
    let r = c.requires.given in
    let n1 = length-map c.take_in-input.new.workers.items (tags_of {T = g.row.T.Denot}) in
    let k = c.take_in-input.ensures.count in let q = c.requires.to in let f = c.requires.from in let l = r.2 in
    let h = half_taken _ (map tags_of c.take_in-input.new.workers.items) r.0 c.args.from c.args.to _ r.1 (omega arith) (omega arith) c.take_in-input.ensures.taken r.3 in
    has_out c.args.from _ r.0 r.1 (omega arith) h.0

pub returns-clause-taken : goal.returns-clause-taken
returns-clause-taken g c before tag l e =
    let n1 = length-map c.take_in-input.new.workers.items (tags_of {T = g.row.T.Denot}) in
    let n2 = length-map c.take_out-out.new.workers.items (tags_of {T = g.row.T.Denot}) in
    let k = c.take_in-input.ensures.count in let k2 = c.take_out-out.ensures.count in let q = c.requires.to in let f = c.requires.from in
    both_taken _ (map tags_of c.take_in-input.new.workers.items) (map tags_of c.take_out-out.new.workers.items) before c.args.from c.args.to _ _ tag (omega arith) (omega arith) (omega arith) (omega arith)
    c.take_in-input.ensures.taken c.take_out-out.ensures.taken e
