-- What an injector of an origin asks for, or why it doesn't: the origin is tested first, and then the length.
use Rattle.std.specs.Prelude.{ℕ, nat_lt, List, length, Result, Ok, Err, if◌then◌else◌}
use Rattle.fab_types.specs.declared.faults.injector.InjectorFault.{InjectorFault}
use Rattle.fab_types.specs.declared.faults.injector.InjectorFault.TheVariants.{TooLong, WrongOrigin}
use Rattle.fab_types.specs.declared.host_access.HostAccess.{HostAccess}
use Rattle.fab_types.specs.declared.origin.Origin.{Origin}
use Rattle.fab_types.specs.declared.origin.Origin.TheVariants.{Function, Host}
use Rattle.injector.specs.declared.begin.Ask.{Ask}
use Rattle.injector.specs.declared.begin.Ask.TheVariants.{Submit, Tick, Mmio}

-- a function submits at most 272 bytes
abbrev pub submit_ask : Origin → List ℕ → Result Ask InjectorFault
submit_ask (Host domain) bytes = Err WrongOrigin
submit_ask (Function function) bytes = if nat_lt 272 (length bytes) then Err TooLong else Ok (Submit function (record { items = bytes }))

-- only a function's program has ticks
abbrev pub tick_ask : Origin → Result Ask InjectorFault
tick_ask (Host domain) = Err WrongOrigin
tick_ask (Function function) = Ok (Tick function)

-- only a host accesses registers
abbrev pub mmio_ask : Origin → HostAccess → Result Ask InjectorFault
mmio_ask (Host domain) access = Ok (Mmio access)
mmio_ask (Function function) access = Err WrongOrigin
