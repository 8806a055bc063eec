use Rattle.journal_text.proofs.JournalsRead.{journal_read}
use Rattle.journal_text.proofs.laws.journals_are_read_back.Goals as goal

pub returns : goal.returns
returns c = journal_read
