use Rattle.std.proofs.Common.{◌≡◌, ◌++◌, Some, ℕ, List, ap, drop, length, take, subst, sym, ◌∙◌}
use Rattle.outboxes.specs.BoxIndexes.{AreKept}
use Rattle.outboxes.specs.Outboxes.{AreFound, BoxView, box_place}
use Rattle.std.proofs.Math.Seq.{take-append_seam}
use Rattle.outboxes.proofs.outboxes.Outboxes.take.Goals as goal

pub invariant_of-self : goal.invariant_of-self
invariant_of-self c =
    let new = c.take_at.new.boxes in
    let lent : c.deref_mut.result.now ≡ c.self.inside.boxes.items = c.deref_mut.ensures.value in
    let long : c.self.inside.boxes.len ≡ length new = sym (c.take_at.auto.boxes ∙ c.deref_mut.ensures.len) in
    let back : take c.self.inside.boxes.len (new ++ drop (length new) c.self.inside.boxes.items) ≡ new =
    ap (λ (n : ℕ). take n (new ++ drop (length new) c.self.inside.boxes.items)) long ∙ take-append_seam new (drop (length new) c.self.inside.boxes.items) in
    let at : box_place c.deref_mut.result.now c.args.origin ≡ Some c.in_ok-place.place = ap (λ (boxes : List BoxView). box_place boxes c.args.origin) (lent ∙ c.self.view_is) ∙ (sym c.place.ensures.value ∙ c.in_ok-place.was) in
    let kept : AreKept c.self.inside.index new = record {
      indexed = λ origin place noted. c.take_at.ensures.places origin ∙ (ap (λ (boxes : List BoxView). box_place boxes origin) lent ∙ c.self.invariant.indexed origin place noted);
      found = c.take_at.ensures.found c.args.origin at (subst AreFound (sym lent) c.self.invariant.found);
    } in
    subst (AreKept c.self.inside.index) (sym back) kept
