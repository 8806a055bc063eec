use Rattle.domain.proofs.AlienLemmas.{guarded_journal}
use Rattle.domain.proofs.laws.guarded_journals_have_no_alien_entry.Goals as goal

pub returns : goal.returns
returns c = let d = c.args.domain.now in guarded_journal d.share d.journal d.state c.requires c.journal.ensures.replays
