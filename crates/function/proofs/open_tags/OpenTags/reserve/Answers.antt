use Rattle.std.proofs.Common.{◌≡◌, ◌∙◌, ap, arith, ℕ, get_or, subst}
use Rattle.function.specs.OpenTags.{Tags}
use Rattle.function.proofs.OneNumber.{has_room, joined_kept, tags_kept}
use Rattle.function.proofs.open_tags.OpenTags.reserve.Goals as goal

module _ (c : goal.After-from_residual) where
  read : c.index_mut.result.now ≡ get_or c.self.inside.numbers.items c.args.number c.index_mut.result.now
  read = subst (λ (n : ℕ). c.index_mut.result.now ≡ get_or c.self.inside.numbers.items n c.index_mut.result.now) c.from.ensures c.index_mut.ensures.value

module _ (c : goal.In_ok-reserve) where
  read_ok : c.index_mut.result.now ≡ get_or c.self.inside.numbers.items c.args.number c.index_mut.result.now
  read_ok = subst (λ (n : ℕ). c.index_mut.result.now ≡ get_or c.self.inside.numbers.items n c.index_mut.result.now) c.from.ensures c.index_mut.ensures.value

pub invariant_of-self : goal.invariant_of-self
invariant_of-self c = rw c.from.ensures (tags_kept c.self.inside c.self.invariant c.args.number c.ranges.number.fits c.index_mut.result.now c.reserve.new.self (read c) c.reserve.ensures.items)

pub returns-in_err-reserve-clause-same : goal.returns-in_err-reserve-clause-same
returns-in_err-reserve-clause-same c = rw c.from.ensures (joined_kept c.self.inside c.self.invariant c.args.number c.ranges.number.fits c.index_mut.result.now c.reserve.new.self (read c) c.reserve.ensures.items)
    ∙ ap (λ (t : Tags). t.items) c.self.view_is

pub invariant_of-self-2 : goal.invariant_of-self-2
invariant_of-self-2 c = rw c.from.ensures (tags_kept c.self.inside c.self.invariant c.args.number c.ranges.number.fits c.index_mut.result.now c.reserve.new.self (read_ok c) c.reserve.ensures.items)

pub returns-clause-same : goal.returns-clause-same
returns-clause-same c = rw c.from.ensures (joined_kept c.self.inside c.self.invariant c.args.number c.ranges.number.fits c.index_mut.result.now c.reserve.new.self (read_ok c) c.reserve.ensures.items)
    ∙ ap (λ (t : Tags). t.items) c.self.view_is

pub returns-clause-room : goal.returns-clause-room
returns-clause-room c = rw c.from.ensures (has_room c.self.inside c.self.invariant c.args.number c.ranges.number.fits c.index_mut.result.now c.reserve.new.self (read_ok c) (omega (arith, c.in_ok-reserve.ensures.ok, c.in_ok-reserve.ensures.len, c.in_ok-reserve.ensures.capacity)))
