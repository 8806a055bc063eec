use Rattle.std.proofs.Common.{sym, ap, ◌∙◌}
use Rattle.std.proofs.lemmas.Option.{slice_get-get_or}
use Rattle.domain.specs.declared.entry.Entry.TheVariants.{Alien}
use Rattle.domains.proofs.Making.{emitting_at, some}
use Rattle.domains.proofs.aliens.answers_at.Goals as goal

pub returns : goal.returns
returns c =
    let ds = c.args.domains.now in let i = c.args.at in let read = c.index-domains-at.result in
    c.answers_alien.ensures
    ∙ emitting_at ds i read (Alien c.args.place c.args.sender c.args.bytes.now) (slice_get-get_or ds i read c.requires ∙ sym (ap some c.index-domains-at.is))
