use Rattle.std.proofs.Common.{◌≡◌, map}
use Rattle.std.specs.Prelude.{replicate}
use Rattle.thread_rings.specs.Wired.{no_tags, tags_of}
use Rattle.thread_rings.proofs.dealing.idle.Given as goal

abbrev pub invariant-loop : goal.invariant-loop
invariant-loop g l = map tags_of l.workers.items ≡ replicate l.counter no_tags
