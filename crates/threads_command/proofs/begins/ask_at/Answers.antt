use Rattle.std.proofs.Common.{refl}
use Rattle.std.proofs.lemmas.Option.{slice_get_read}
use Rattle.std.proofs.lemmas.Result.{on_ok_weaker}
use Rattle.threads_command.proofs.Finding.{asks_of}
use Rattle.threads_command.proofs.begins.ask_at.Goals as goal

pub returns-clause-ok : goal.returns-clause-ok
returns-clause-ok g c = λ left. on_ok_weaker c.count.result (λ counted. asks_of _ _ _ _ _ _ _ c.send-answer.result _ _ (slice_get_read _ _ _ _ refl c.requires c.index_mut.ensures.value) c.send-answer.ensures.sent c.send-answer.ensures.refused counted) c.count.ensures.ok
