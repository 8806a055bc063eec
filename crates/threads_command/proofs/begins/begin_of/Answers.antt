use Rattle.std.proofs.Common.{rules, Some}
use Rattle.std.proofs.lemmas.Result.{on_ok_weaker}
use Rattle.threads_command.specs.Begins.{begun_by}
use Rattle.threads_command.proofs.begins.begin_of.Goals as goal

pub returns-in-Some-clause-ok : goal.returns-in-Some-clause-ok
returns-in-Some-clause-ok g c =
    on_ok_weaker c.ask_at.result
    (λ asks. record { found = begun_by c.find.new.running.origins c.find.new.begun; place = Some c.in-Some.place; finds = search rules; asks = asks })
    (c.ask_at.ensures.ok c.find.new.running.origins)
