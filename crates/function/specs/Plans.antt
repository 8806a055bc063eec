-- A tick of a function: what it does, from the page and the open Tags alone. This is the project's own.
use Rattle.std.specs.Prelude.{◌≡◌, ◌<◌, ℕ, ◌+◌, ◌==◌, true, List, Option, Some, None, IfSome, slice_set, if◌then◌else◌}
use Rattle.fab_types.specs.declared.origin.Origin.TheVariants.{Function}
use Rattle.function.specs.declared.line.Operation.{Operation}
use Rattle.function.specs.declared.line.Operation.TheVariants.{Halt as HaltLine, Write, Read, Fence, Unknown}
use Rattle.function.specs.declared.line.ProgramLine.{ProgramLine}
use Rattle.function.specs.declared.plan.Plan.{Plan}
use Rattle.function.specs.declared.plan.Plan.TheVariants.{Nothing, Halt, Fault, Pass, Emit}
use Rattle.function.specs.declared.plan.Tick.{Tick}
use Rattle.function.specs.declared.plan.Tick.TheVariants.{Nothing as Nothing_done, Emit as Emitted}
use Rattle.function.specs.declared.tags.OpenTag.{OpenTag}
use Rattle.function.specs.declared.tags.TagUse.TheVariants.{Line}
use Rattle.function.specs.Registers.{status_of, counter_of, with_status}
use Rattle.function.specs.Tags.{awaits_line, free_tag, is_line}
use Rattle.function.specs.Program.{is_good, line_at, read_of, write_of}

abbrev pub write_plan : ℕ → List ℕ → ProgramLine → Plan
write_plan id page line = if is_good line then Emit (write_of id page line) None else Fault

-- a read waits where no Tag is free
abbrev pub emitted_read : ℕ → ProgramLine → Option ℕ → Plan
emitted_read id line None = Nothing
emitted_read id line (Some tag) = Emit (read_of id tag line) (Some (record { owner = Function id; tag = tag; usage = Line line.offset line.count }))

abbrev pub read_plan : ℕ → List OpenTag → ProgramLine → Plan
read_plan id tags line = if is_good line then emitted_read id line (free_tag tags id) else Fault

-- a fence waits for the data of the read lines
abbrev pub fence_plan : ℕ → List OpenTag → Plan
fence_plan id tags = if awaits_line tags id then Nothing else Pass

abbrev pub operation_plan : ℕ → List ℕ → List OpenTag → ProgramLine → Operation → Plan
operation_plan id page tags line HaltLine = Halt
operation_plan id page tags line Write = write_plan id page line
operation_plan id page tags line Read = read_plan id tags line
operation_plan id page tags line Fence = fence_plan id tags
operation_plan id page tags line Unknown = Fault

abbrev pub line_plan : ℕ → List ℕ → List OpenTag → ProgramLine → Plan
line_plan id page tags line = operation_plan id page tags line line.operation

-- nothing unless the program runs, or else what its line says
abbrev pub plan_of : ℕ → List ℕ → List OpenTag → Plan
plan_of id page tags = if status_of page == 1 then line_plan id page tags (line_at page (counter_of page)) else Nothing

-- PC rises by one; after the sixteenth line the program has ended
abbrev pub counted : List ℕ → ℕ → List ℕ
counted page next = if next == 16 then with_status (slice_set page 0x00c next) 2 else slice_set page 0x00c next

abbrev pub advanced : List ℕ → List ℕ
advanced page = counted page (counter_of page + 1)

-- the page after a tick with this plan
abbrev pub page_after : Plan → List ℕ → List ℕ
page_after Nothing page = page
page_after Halt page = with_status page 2
page_after Fault page = with_status page 3
page_after Pass page = advanced page
page_after (Emit packet opened) page = advanced page

-- what is sent
abbrev pub tick_of : Plan → Tick
tick_of Nothing = Nothing_done
tick_of Halt = Nothing_done
tick_of Fault = Nothing_done
tick_of Pass = Nothing_done
tick_of (Emit packet opened) = Emitted packet opened

-- only a program that runs comes to its next line
abbrev pub PlanFits : Plan → List ℕ → Type 0
PlanFits Nothing page = Unit {0}
PlanFits Halt page = Unit {0}
PlanFits Fault page = Unit {0}
PlanFits Pass page = status_of page ≡ 1
PlanFits (Emit packet opened) page = status_of page ≡ 1

-- a Tag that is opened for a read line is one of the numbers 0 to 7
abbrev pub OpensLineTag : Plan → Type 0
OpensLineTag Nothing = Unit {0}
OpensLineTag Halt = Unit {0}
OpensLineTag Fault = Unit {0}
OpensLineTag Pass = Unit {0}
OpensLineTag (Emit packet opened) = IfSome opened (λ open_tag. is_line open_tag.usage ≡ true → open_tag.tag < 8)
