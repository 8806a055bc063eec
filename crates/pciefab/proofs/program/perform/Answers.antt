use Rattle.std.proofs.Common.{◌≡◌, refl}
use Rattle.std.specs.Prelude.{IfOk, option_map}
use Rattle.inputs.specs.Files.{WroteBoth}
use Rattle.command_line.specs.CommandLine.{First, Run, Alone, Journal, Replay, Threads, Draw, Explain, Import}
use Rattle.command_line.specs.declared.request.Request.TheVariants as request
use Rattle.commands.specs.First.{Prints}
use Rattle.commands.specs.Runs.{AlonePrints, JournalPrints, ReplayPrints, RunPrints}
use Rattle.commands.specs.Drawn.{DrawPrints}
use Rattle.commands.specs.declared.import_layout.Imported.{Imported}
use Rattle.commands.specs.Imported.{ImportPrints}
use Rattle.threads_command.specs.Threads.{ThreadsPrints}
use Rattle.pciefab.specs.Asked.{AskedDoes}
use Rattle.command_line.proofs.Asking.{asked_alone}
use Rattle.pciefab.proofs.Endings.{done_writes, wrote_no_file}
use Rattle.pciefab.proofs.program.perform.Goals as goal

pub returns-in-First : goal.returns-in-First
returns-in-First g c = λ asked is.
    asked_alone (λ a. IfOk c.done.result (λ status. WroteBoth (g.O.Write.contents c.args.out.now) (g.O.Write.contents c.first.new.out) (g.T.FileTaker.written c.args.scripts.now) (g.T.FileTaker.written c.args.scripts.now) (AskedDoes (g.F.FileGiver.holds c.args.files.now) a status)))
    (request.First c.in-First.packet) (First c.in-First.packet.now) asked refl
    (done_writes c.first.result c.done.result _ _ (g.T.FileTaker.written c.args.scripts.now) (Prints c.in-First.packet.now) c.first.ensures.printed c.done.ensures)
    (rw c.in-First.is at is)

pub returns-in-Run : goal.returns-in-Run
returns-in-Run g c = λ asked is.
    asked_alone (λ a. IfOk c.done-in-Run.result (λ status. WroteBoth (g.O.Write.contents c.args.out.now) (g.O.Write.contents c.run.new.out) (g.T.FileTaker.written c.args.scripts.now) (g.T.FileTaker.written c.args.scripts.now) (AskedDoes (g.F.FileGiver.holds c.args.files.now) a status)))
    (request.Run c.in-Run.names) (Run c.in-Run.names.layout.now c.in-Run.names.script.now) asked refl
    (done_writes c.run.result c.done-in-Run.result _ _ (g.T.FileTaker.written c.args.scripts.now) (RunPrints (g.F.FileGiver.holds c.args.files.now) c.in-Run.names.layout.now c.in-Run.names.script.now) c.run.ensures.ok c.done-in-Run.ensures)
    (rw c.in-Run.is at is)

pub returns-in-Alone : goal.returns-in-Alone
returns-in-Alone g c = λ asked is.
    asked_alone (λ a. IfOk c.done-in-Alone.result (λ status. WroteBoth (g.O.Write.contents c.args.out.now) (g.O.Write.contents c.alone.new.out) (g.T.FileTaker.written c.args.scripts.now) (g.T.FileTaker.written c.args.scripts.now) (AskedDoes (g.F.FileGiver.holds c.args.files.now) a status)))
    (request.Alone c.in-Alone.names c.in-Alone.domain) (Alone c.in-Alone.names.layout.now c.in-Alone.names.script.now c.in-Alone.domain) asked refl
    (done_writes c.alone.result c.done-in-Alone.result _ _ (g.T.FileTaker.written c.args.scripts.now) (AlonePrints (g.F.FileGiver.holds c.args.files.now) c.in-Alone.names.layout.now c.in-Alone.names.script.now c.in-Alone.domain) c.alone.ensures.ok c.done-in-Alone.ensures)
    (rw c.in-Alone.is at is)

pub returns-in-Journal : goal.returns-in-Journal
returns-in-Journal g c = λ asked is.
    asked_alone (λ a. IfOk c.done-in-Journal.result (λ status. WroteBoth (g.O.Write.contents c.args.out.now) (g.O.Write.contents c.journal.new.out) (g.T.FileTaker.written c.args.scripts.now) (g.T.FileTaker.written c.args.scripts.now) (AskedDoes (g.F.FileGiver.holds c.args.files.now) a status)))
    (request.Journal c.in-Journal.names c.in-Journal.domain) (Journal c.in-Journal.names.layout.now c.in-Journal.names.script.now c.in-Journal.domain) asked refl
    (done_writes c.journal.result c.done-in-Journal.result _ _ (g.T.FileTaker.written c.args.scripts.now) (JournalPrints (g.F.FileGiver.holds c.args.files.now) c.in-Journal.names.layout.now c.in-Journal.names.script.now c.in-Journal.domain) c.journal.ensures.ok c.done-in-Journal.ensures)
    (rw c.in-Journal.is at is)

pub returns-in-Replay : goal.returns-in-Replay
returns-in-Replay g c = λ asked is.
    asked_alone (λ a. IfOk c.done-in-Replay.result (λ status. WroteBoth (g.O.Write.contents c.args.out.now) (g.O.Write.contents c.replay.new.out) (g.T.FileTaker.written c.args.scripts.now) (g.T.FileTaker.written c.args.scripts.now) (AskedDoes (g.F.FileGiver.holds c.args.files.now) a status)))
    (request.Replay c.in-Replay.layout c.in-Replay.text c.in-Replay.domain) (Replay c.in-Replay.layout.now c.in-Replay.text.now c.in-Replay.domain) asked refl
    (done_writes c.replay.result c.done-in-Replay.result _ _ (g.T.FileTaker.written c.args.scripts.now) (ReplayPrints (g.F.FileGiver.holds c.args.files.now) c.in-Replay.layout.now c.in-Replay.text.now c.in-Replay.domain) c.replay.ensures.ok c.done-in-Replay.ensures)
    (rw c.in-Replay.is at is)

pub returns-in-Threads : goal.returns-in-Threads
returns-in-Threads g c = λ asked is.
    asked_alone (λ a. IfOk c.done-in-Threads.result (λ status. WroteBoth (g.O.Write.contents c.args.out.now) (g.O.Write.contents c.threads.new.out) (g.T.FileTaker.written c.args.scripts.now) (g.T.FileTaker.written c.args.scripts.now) (AskedDoes (g.F.FileGiver.holds c.args.files.now) a status)))
    (request.Threads c.in-Threads.names c.in-Threads.turns) (Threads c.in-Threads.names.layout.now c.in-Threads.names.script.now c.in-Threads.turns) asked refl
    (done_writes c.threads.result c.done-in-Threads.result _ _ (g.T.FileTaker.written c.args.scripts.now) (ThreadsPrints (g.F.FileGiver.holds c.args.files.now) c.in-Threads.names.layout.now c.in-Threads.names.script.now) c.threads.ensures.ok c.done-in-Threads.ensures)
    (rw c.in-Threads.is at is)

pub returns-in-Draw : goal.returns-in-Draw
returns-in-Draw g c = λ asked is.
    asked_alone (λ a. IfOk c.done-in-Draw.result (λ status. WroteBoth (g.O.Write.contents c.args.out.now) (g.O.Write.contents c.draw.new.out) (g.T.FileTaker.written c.args.scripts.now) (g.T.FileTaker.written c.args.scripts.now) (AskedDoes (g.F.FileGiver.holds c.args.files.now) a status)))
    (request.Draw c.in-Draw.layout) (Draw c.in-Draw.layout.now) asked refl
    (done_writes c.draw.result c.done-in-Draw.result _ _ (g.T.FileTaker.written c.args.scripts.now) (DrawPrints (g.F.FileGiver.holds c.args.files.now) c.in-Draw.layout.now) c.draw.ensures.ok c.done-in-Draw.ensures)
    (rw c.in-Draw.is at is)

pub returns-in-Explain : goal.returns-in-Explain
returns-in-Explain g c = λ asked is.
    asked_alone (λ a. IfOk c.explain.result (λ status. WroteBoth (g.O.Write.contents c.args.out.now) (g.O.Write.contents c.explain.new.out) (g.T.FileTaker.written c.args.scripts.now) (g.T.FileTaker.written c.explain.new.scripts) (AskedDoes (g.F.FileGiver.holds c.args.files.now) a status)))
    (request.Explain c.in-Explain.asked) (Explain c.in-Explain.asked.layout.now (option_map (λ word. word.now) c.in-Explain.asked.scripts) c.in-Explain.asked.groups) asked refl c.explain.ensures.ok (rw c.in-Explain.is at is)

pub returns-in_ok-made-in-Import : goal.returns-in_ok-made-in-Import
returns-in_ok-made-in-Import g c = λ asked is.
    let wrote = c.in_ok-made-in-Import.ensures.ok in
    let made = c.in_ok-made-in-Import.made in
    let holds = g.F.FileGiver.holds c.args.files.now in
    let dump = c.in-Import.asked.dump.now in
    let owners = option_map (λ word. word.now) c.in-Import.asked.owners in
    let root = c.in-Import.asked.root in
    let partial = c.in-Import.asked.partial in
    asked_alone (λ a. WroteBoth (g.O.Write.contents c.args.out.now) (g.O.Write.contents c.import_layout.new.out) (g.T.FileTaker.written c.args.scripts.now) (g.T.FileTaker.written c.args.scripts.now) (AskedDoes holds a made.status))
    (request.Import c.in-Import.asked) (Import dump owners root partial) asked refl
    (wrote_no_file _ _ (g.T.FileTaker.written c.args.scripts.now) (λ text. (it : Imported) × (made.status ≡ it.status) × ImportPrints holds dump owners root partial it text) (wrote.0, (made, refl, wrote.1), wrote.2))
    (rw c.in-Import.is at is)
