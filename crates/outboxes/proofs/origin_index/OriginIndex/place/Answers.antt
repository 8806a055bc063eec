use Rattle.std.proofs.Common.{◌≡◌, ℕ, Option, None, refl, ap, arith, rules, ◌∙◌, get_or, length}
use Rattle.std.proofs.lemmas.List.{get_or_default}
use Rattle.fab_types.specs.Id.{bus_of}
use Rattle.outboxes.specs.declared.origin_index.Noted.{Noted}
use Rattle.outboxes.specs.OriginIndexes.{entry_for, noted_place}
use Rattle.outboxes.proofs.origin_index.OriginIndex.place.Goals as goal

pub returns-in-Function : goal.returns-in-Function
unfolding noted_place
returns-in-Function c =
    let entries = c.args.self.now.by_bus in let read = c.index-self-from.result in
    let long : length entries ≡ 256 = search rules in
    let bus = c.bus.ensures in let small = c.bus.type_inv in
    rw (c.in-Function.is)
    (c.entry_for.ensures
    ∙ ap (λ (o : Option Noted). entry_for o c.in-Function.function)
    (ap (λ (b : ℕ). get_or entries b read) (c.from.ensures ∙ bus) ∙ get_or_default entries (bus_of c.in-Function.function) read None (omega (arith, long, bus, small))))

pub returns-in-Host : goal.returns-in-Host
unfolding noted_place
returns-in-Host c = rw (c.in-Host.is, c.from-in-Host.ensures ∙ c.get.ensures.value) refl
