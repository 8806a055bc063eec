-- A tick of a function: the line of its DMA program that is next. This is the project's own.
use Rattle.std.specs.Prelude.{ℕ, not, nat_le, List, Option, Some, None, option_map, if◌then◌else◌}
use Rattle.fab_types.specs.declared.faults.begin.TickFault.{TickFault}
use Rattle.fab_types.specs.declared.faults.begin.TickFault.TheVariants.{BudgetSpent, NoFunction}
use Rattle.fab_types.specs.declared.head.Parties.TheVariants.{Upward}
use Rattle.function.specs.declared.plan.Plan.{Plan}
use Rattle.function.specs.declared.plan.Plan.TheVariants.{Nothing, Halt, Fault, Pass, Emit}
use Rattle.function.specs.declared.tags.OpenTag.{OpenTag}
use Rattle.function.specs.Plans.{page_after, plan_of}
use Rattle.host_memory.specs.Pages.{page_of}
use Rattle.platform.specs.Owners.{is_own_function}
use Rattle.platform.specs.Share.{Share}
use Rattle.tlp_view.specs.Requests.{packet_bytes}
use Rattle.domain_state.specs.Ends.{replied}
use Rattle.domain_state.specs.RegisterPages.{changed}
use Rattle.request_handling.specs.Emissions.{Emission}
use Rattle.domain_state.specs.State.{Alone, Change, begun, with_registers}

-- the first refusal that applies, if one does
abbrev pub tick_fault : Share → Alone → ℕ → Option TickFault
tick_fault share s function =
    if not (is_own_function share function) then Some NoFunction
    else (if nat_le share.budget s.counts.begins then Some BudgetSpent
    else None)

-- what a plan sends
abbrev pub sent_by : ℕ → Plan → Option Emission
sent_by function Nothing = None
sent_by function Halt = None
sent_by function Fault = None
sent_by function Pass = None
sent_by function (Emit packet opened) = Some (record { parties = Upward function; bytes = packet_bytes packet })

-- the Tag that it opens
abbrev pub opened_by : Plan → Option OpenTag
opened_by Nothing = None
opened_by Halt = None
opened_by Fault = None
opened_by Pass = None
opened_by (Emit packet opened) = opened

-- the page and the open Tags after the plan, and one begin more, also where nothing happens
abbrev pub ticked : Alone → ℕ → Plan → Alone
ticked s function plan = with_registers (begun s (opened_by plan)) (changed s.registers function (page_after plan))

abbrev pub ticks_by : Alone → ℕ → Plan → Change
ticks_by s function plan = record { state = replied (ticked s function plan) (sent_by function plan); emission = sent_by function plan }

-- the plan is by the function's page and the open Tags alone
abbrev pub ticks : Alone → ℕ → Option (List ℕ) → Option Change
ticks s function page = option_map (λ bytes. ticks_by s function (plan_of function bytes s.open_tags)) page

abbrev pub tick_unless : Option TickFault → Alone → ℕ → Option Change
tick_unless None s function = ticks s function (page_of s.registers function)
tick_unless (Some fault) s function = None

abbrev pub tick : Share → Alone → ℕ → Option Change
tick share s function = tick_unless (tick_fault share s function) s function
