-- What an alien packet does in the state of the domain that takes it, and what that domain needs of it before.
use Rattle.std.specs.Prelude.{◌≡◌, true, None, ℕ, List}
use Rattle.function.specs.declared.tags.OpenTag.{OpenTag}
use Rattle.tlp_view.specs.Malformed.{malformed}
use Rattle.domain.specs.declared.deliver.Arriving.{Arriving}
use Rattle.domain.specs.declared.receive.Reception.{Reception}
use Rattle.domain.specs.declared.receive.Reception.TheVariants.{Ends, Arrives}
use Rattle.domain.specs.Deliveries.{arrival_by, arrived}
use Rattle.domain_state.specs.Ends.{BytesFit, does}
use Rattle.domain_state.specs.State.{Alone, Change, emits_nothing}
use Rattle.domain_state.specs.Tags.{is_open}

-- a completion may arrive so, if it is well formed; where it is awaited its Tag is open
abbrev pub MayArrive : List OpenTag → List ℕ → Arriving → Type 0
MayArrive tags bytes arriving = (malformed bytes ≡ None) × (arriving.is_awaited ≡ true → is_open tags arriving.owner arriving.tag ≡ true)

-- what is done with its bytes fits them, or it may arrive so
abbrev pub IsReceivable : List OpenTag → List ℕ → Reception → Type 0
IsReceivable tags bytes (Ends handling) = BytesFit bytes handling.effect
IsReceivable tags bytes (Arrives arriving) = MayArrive tags bytes arriving

-- The packet's number stays in flight at its home: nothing leaves flight here
abbrev pub received : Alone → List ℕ → Reception → Change
received s bytes (Ends handling) = does s bytes handling
received s bytes (Arrives arriving) = emits_nothing (arrived s (arrival_by arriving bytes))
