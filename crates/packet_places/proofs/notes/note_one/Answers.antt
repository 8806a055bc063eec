use Rattle.std.proofs.Common.{ℕ, ap, rules, ◌∙◌}
use Rattle.std.specs.BTreeMap.{insert_entry}
use Rattle.std.specs.Ordering.{nat_cmp}
use Rattle.packet_places.proofs.Noting.{noted_own}
use Rattle.packet_places.proofs.notes.note_one.Goals as goal

pub returns-in_ok-_earlier : goal.returns-in_ok-_earlier
returns-in_ok-_earlier c =
    noted_own c.args.domain c.args.place c.args.frame.now c.args.found.now.entries c.insert.new.self.entries (search rules)
    (c.in_ok-_earlier.ensures.entries ∙ ap (λ (n : ℕ). insert_entry nat_cmp c.args.found.now.entries n c.args.place) c.number.ensures)
