-- What a function does with a request for its register page, and with any other that comes to it (PCIe 4.0, 2.3.1).
use Rattle.std.specs.Prelude.{ℕ, ◌/◌, ◌==◌, Bool, false, ◌&&◌, ◌||◌, not, nat_lt, List, Option, Some, None, option_map, if◌then◌else◌}
use Rattle.fab_types.specs.declared.class.Class.{Class}
use Rattle.fab_types.specs.declared.class.Class.TheVariants.{Posted, NonPosted, Completion}
use Rattle.host_memory.specs.Pages.{page_of}
use Rattle.platform.specs.Share.{Share}
use Rattle.platform.specs.Owners.{bar_of}
use Rattle.tlp_view.specs.Kinds.{class_of_kind, is_memory}
use Rattle.tlp_view.specs.Packet.{Packet, dw_count}
use Rattle.tlp_view.specs.Runs.{is_write}
use Rattle.request_handling.specs.declared.handling.Effect.TheVariants.{Access, Leave}
use Rattle.request_handling.specs.declared.handling.Handling.{Handling}
use Rattle.request_handling.specs.Answers.{address_of, function_answer, function_refusal}
use Rattle.request_handling.specs.Emissions.{Emission}

-- nothing happens, and nothing answers
abbrev pub discarded : Handling
discarded = record { effect = Leave; reply = None }

-- where nobody has a case for it nothing happens
abbrev pub or_discarded : Option Handling → Handling
or_discarded None = discarded
or_discarded (Some handling) = handling

-- a request that nobody serves: a non-posted one is answered so, any other is discarded
abbrev pub unserved : Class → Emission → Handling
unserved Posted answer = discarded
unserved NonPosted answer = record { effect = Leave; reply = Some answer }
unserved Completion answer = discarded

-- a request of the host reads or writes the function's register page
abbrev pub access_of : Share → List (ℕ × List ℕ) → ℕ → Packet → Option Handling
access_of share registers function t =
    option_map (λ page. record { effect = Access function; reply = function_answer share function page t }) (page_of registers function)

-- is the address in the register page that begins there?
abbrev pub lies_in : Option ℕ → ℕ → Bool
lies_in None address = false
lies_in (Some bar) address = (address / 4096) == (bar / 4096)

-- a memory write, or a memory read of at most 64 DW
abbrev pub is_access : Packet → Bool
is_access t = is_memory t.kind && (is_write t.kind || not (nat_lt 64 (dw_count t.length)))

abbrev pub request_at_function : Share → List (ℕ × List ℕ) → ℕ → Packet → Handling
request_at_function share registers g t =
    if is_access t && lies_in (bar_of share.functions g) (address_of t) then or_discarded (access_of share registers g t)
    else unserved (class_of_kind t.kind) (function_refusal share g t)
