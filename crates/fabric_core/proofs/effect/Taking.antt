-- Where nobody has a case for a packet, its home has no entry for it.
use Rattle.std.proofs.Common.{◌≡◌, ℕ, List, Option, Some, None, refl}
use Rattle.std.specs.Option.{option_map}
use Rattle.frame_log.specs.Descriptor.{Descriptor}
use Rattle.domains.specs.Agents.{AgentsView}
use Rattle.domains.specs.Domains.{Made}
use Rattle.platform.specs.declared.parts.DownstreamPort.{DownstreamPort}
use Rattle.fabric_core.specs.Aliens.{or_else}
use Rattle.fabric_core.specs.Arrivals.{agents_by_function, agents_by_host, own_by_function, own_by_host}
use Rattle.received.specs.declared.received.Received.{Received}
use Rattle.fabric_core.specs.Settling.{EntryWants, entry_by_function, entry_by_host}

-- no entry of its home, and none of another
neither : (own other : Option AgentsView) → or_else own other ≡ None → own ≡ None
neither None other e = refl
neither (Some agents) other e = absurd cc

-- ---- what wants memory

unmapped : {X : Type 0} (f : Made → X) (o : Option Made) → option_map f o ≡ None → o ≡ None
unmapped f None e = refl
unmapped f (Some m) e = absurd cc

-- an alien packet, or a stray
none_wants : (o : Option Made) → o ≡ None → EntryWants o
none_wants None none = tt
none_wants (Some m) none = absurd cc

no_entry_by_host : (agents : AgentsView) (frame : Descriptor) (x : Received) → own_by_host agents frame x ≡ None → entry_by_host agents.domains frame x ≡ None
no_entry_by_host agents frame Received.Relayed none = refl
no_entry_by_host agents frame Received.Request none = unmapped _ _ none
no_entry_by_host agents frame Received.Completion none = unmapped _ _ none
no_entry_by_host agents frame Received.Unknown none = refl

no_entry_by_function : (agents : AgentsView) (function : ℕ) (frame : Descriptor) (x : Received) → own_by_function agents function frame x ≡ None → entry_by_function agents.domains function frame x ≡ None
no_entry_by_function agents function frame Received.Relayed none = refl
no_entry_by_function agents function frame Received.Request none = unmapped _ _ none
no_entry_by_function agents function frame Received.Completion none = unmapped _ _ none
no_entry_by_function agents function frame Received.Unknown none = refl

-- where nobody has a case for it
pub stray_by_host : (ports : List DownstreamPort) (agents : AgentsView) (frame : Descriptor) (x : Received) → agents_by_host ports agents frame x ≡ None → EntryWants (entry_by_host agents.domains frame x)
stray_by_host ports agents frame x none = none_wants _ (no_entry_by_host agents frame x (neither _ _ none))

pub stray_by_function : (agents : AgentsView) (function : ℕ) (frame : Descriptor) (x : Received) → agents_by_function agents function frame x ≡ None → EntryWants (entry_by_function agents.domains function frame x)
stray_by_function agents function frame x none = none_wants _ (no_entry_by_function agents function frame x (neither _ _ none))
