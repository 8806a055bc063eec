use Rattle.journal_text.proofs.EntriesRead.{entry_read}
use Rattle.journal_text.proofs.laws.entries_are_read_back.Goals as goal

pub returns : goal.returns
returns c = entry_read
