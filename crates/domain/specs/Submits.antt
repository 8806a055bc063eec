-- When a domain refuses to submit a packet, and what it does otherwise.
use Rattle.std.specs.Prelude.{ℕ, ◌+◌, ◌&&◌, not, nat_lt, nat_le, List, length, Option, Some, None, if◌then◌else◌}
use Rattle.fab_types.specs.declared.faults.begin.SubmitFault.{SubmitFault}
use Rattle.fab_types.specs.declared.faults.begin.SubmitFault.TheVariants.{TooLong, Completion, TagBusy, BudgetSpent, NoFunction}
use Rattle.fab_types.specs.declared.head.Parties.TheVariants.{Upward}
use Rattle.fab_types.specs.declared.origin.Origin.TheVariants.{Function}
use Rattle.platform.specs.Share.{Share}
use Rattle.platform.specs.Owners.{is_own_function}
use Rattle.tlp_view.specs.Bytes.{packet_of}
use Rattle.domain_state.specs.State.{Alone, Change, emits}
use Rattle.domain_state.specs.Tags.{opens_tag, completes, is_open, opened}

-- the first refusal that applies, if one does
abbrev pub submit_fault : Share → Alone → ℕ → List ℕ → Option SubmitFault
submit_fault share s function bytes =
    if not (is_own_function share function) then Some NoFunction
    else (if nat_lt 272 (length bytes) then Some TooLong
    else (if completes bytes then Some Completion
    else (if opens_tag bytes && is_open s.open_tags (Function function) (packet_of bytes).tag then Some TagBusy
    else (if nat_le share.budget s.counts.begins then Some BudgetSpent
    else None))))

abbrev pub submitted : Alone → ℕ → List ℕ → Alone
submitted s function bytes = record {
  frames = s.frames;
  registers = s.registers;
  open_tags = opened s.open_tags function bytes;
  deliveries = s.deliveries;
  counts = record { begins = s.counts.begins + 1; blocked = s.counts.blocked; unexpected = s.counts.unexpected };
  flight = s.flight;
}

abbrev pub submit_unless : Option SubmitFault → Alone → ℕ → List ℕ → Option Change
submit_unless None s function bytes = Some (emits (submitted s function bytes) (record { parties = Upward function; bytes = bytes }))
submit_unless (Some fault) s function bytes = None

abbrev pub submit : Share → Alone → ℕ → List ℕ → Option Change
submit share s function bytes = submit_unless (submit_fault share s function bytes) s function bytes
