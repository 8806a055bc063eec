use Rattle.journal_text.proofs.entries.write_access.Goals as goal

pub returns-in-Read : goal.returns-in-Read
returns-in-Read g c = rw c.in-Read.is c.write.ensures.bytes

pub returns-in_ok-word-in-Write : goal.returns-in_ok-word-in-Write
returns-in_ok-word-in-Write g c = rw c.in-Write.is (rw c.as_slice.ensures at (rw c.in_ok-word-in-Write.ensures at c.write-in-Write.ensures.bytes))
