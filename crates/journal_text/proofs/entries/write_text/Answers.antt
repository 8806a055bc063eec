use Rattle.journal_text.proofs.entries.write_text.Goals as goal

pub returns-in_ok-word-in-Alien : goal.returns-in_ok-word-in-Alien
returns-in_ok-word-in-Alien g c = rw c.in-Alien.is (rw c.as_slice-in-Alien.ensures at (rw c.in_ok-word-in-Alien.ensures at c.write-in-Alien.ensures.bytes))
