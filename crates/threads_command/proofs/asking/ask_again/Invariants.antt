use Rattle.std.proofs.Common.{◌≡◌, Ok, Err}
use Rattle.fab_types.specs.declared.faults.injector.InjectorFault.{InjectorFault}
use Rattle.injector.specs.declared.begin.Ask.{Ask}
use Rattle.injector.specs.Injectors.{SendsNothing}
use Rattle.script.specs.declared.lines.Command.{Command}
use Rattle.threads_command.specs.Asking.{Sends, ask_of}
use Rattle.threads_command.specs.declared.asking.Answer.TheVariants as answer
use Rattle.threads_command.proofs.asking.ask_again.Given as goal

-- the answer so far is that of the whole
abbrev pub invariant-loop : goal.invariant-loop
invariant-loop g l =
    (l.answer ≡ answer.Sent → (what : Ask) × (ask_of l.fn.injector.origin l.fn.command ≡ Ok what) × Sends l.fn.injector what l.injector)
    × (l.answer ≡ answer.Refused → (fault : InjectorFault) × (ask_of l.fn.injector.origin l.fn.command ≡ Err fault) × SendsNothing l.fn.injector l.injector)
    × ((back : Command) → l.answer ≡ answer.Full back → (back ≡ l.fn.command) × SendsNothing l.fn.injector l.injector)
