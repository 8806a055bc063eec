-- What a clause sees of the packets in flight, by their tokens.
use Rattle.std.specs.Prelude.{◌≡◌, ℕ, ◌+◌, ◌≤◌, ◌^◌, List, [], ◌∷◌, ◌++◌, length, map, replicate, is_none, Option, Some, None, option_map}
use Rattle.std.specs.Arc.{arc_value}
use Rattle.std.specs.Option.{IfSome}
use Rattle.std.specs.List.{All}
use Rattle.frame_log.specs.declared.log.Log.{Log}
use Rattle.frame_log.specs.Words.{Shown, entry_of}
use Rattle.domain_state.specs.declared.flight.InFlight.{InFlight}
use Rattle.domain_state.specs.declared.flight.Flight.TheInside.{Inside}
use Rattle.request_handling.specs.Emissions.{Emission}
use Rattle.tlp_view.specs.Malformed.{malformed}
use Rattle.request_handling.specs.WellMade.{IsWellMade}

abbrev pub emission : InFlight → Emission
emission slot = record { parties = slot.parties; bytes = (entry_of slot.token).bytes }

abbrev pub emissions : List (Option InFlight) → List (Option Emission)
emissions slots = map (option_map emission) slots

-- the token is of this log, the packet is well made and at most 272 bytes long, and it is known whether it is well formed
abbrev pub IsSlot : Log → Option InFlight → Type 0
IsSlot log slot = IfSome slot (λ s. Shown log s.token × IsWellMade s.parties (entry_of s.token).bytes × (length (entry_of s.token).bytes ≤ 272) × (s.is_well_formed ≡ is_none (malformed (entry_of s.token).bytes)))

-- how many slots hold a packet
abbrev pub held_in : List (Option InFlight) → ℕ
held_in [] = 0
held_in (None ∷ slots) = held_in slots
held_in (Some slot ∷ slots) = held_in slots + 1

-- so many numbers have no slot any more; behind them come those of the slots
abbrev pub flight_over : ℕ → List (Option InFlight) → List (Option Emission)
flight_over gone slots = replicate gone None ++ emissions slots

abbrev pub flight_of : Inside → List (Option Emission)
flight_of f = flight_over f.gone f.slots.items

pub record AreSlots (f : Inside) : Type 0 where
  pub slots : All (IsSlot (arc_value f.log)) f.slots.items
  pub held : f.held ≡ held_in f.slots.items
  pub gone : f.gone ≤ 2 ^ 63
