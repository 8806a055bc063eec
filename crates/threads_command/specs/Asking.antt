-- What a line of a script asks of the injector of its function or host.
use Rattle.std.specs.Prelude.{◌≡◌, ◌++◌, ◌∷◌, [], length, Option, Some, None, Result, Err}
use Rattle.fab_types.specs.declared.faults.injector.InjectorFault.{InjectorFault}
use Rattle.fab_types.specs.declared.faults.injector.InjectorFault.TheVariants.{WrongOrigin}
use Rattle.fab_types.specs.declared.origin.Origin.{Origin}
use Rattle.fab_types.specs.declared.origin.Origin.TheVariants.{Function, Host}
use Rattle.rtrb.specs.Ring.{sent}
use Rattle.script.specs.declared.lines.Command.{Command}
use Rattle.script.specs.declared.lines.Command.TheVariants as command
use Rattle.injector.specs.Asks.{mmio_ask, submit_ask, tick_ask}
use Rattle.injector.specs.Injectors.{SameButBegins}
use Rattle.injector.specs.declared.begin.Ask.{Ask}
use Rattle.injector.specs.declared.injector.Injector.{Injector}

-- who begins it; a sweep is nobody's begin
abbrev pub origin_of : Command → Option Origin
origin_of (command.Submit function bytes) = Some (Function function)
origin_of (command.Tick function) = Some (Function function)
origin_of (command.Mmio domain access) = Some (Host domain)
origin_of (command.Sweep most) = None

-- what is asked of the injector of an origin, or why that is refused
abbrev pub ask_of : Origin → Command → Result Ask InjectorFault
ask_of origin (command.Submit function bytes) = submit_ask origin bytes
ask_of origin (command.Tick function) = tick_ask origin
ask_of origin (command.Mmio domain access) = mmio_ask origin access
ask_of origin (command.Sweep most) = Err WrongOrigin

-- the injector sent this one begin, which bears the next number
pub record Sends (old : Injector) (ask : Ask) (new : Injector) : Type 0 where
  pub same : SameButBegins old new
  pub sends : sent new.begins ≡ sent old.begins ++ record { number = length (sent old.begins); what = ask } ∷ []
