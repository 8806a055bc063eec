use Rattle.std.proofs.Common.{◌++◌, inr, refl, subst, sym}
use Rattle.std.specs.List.{flat_map}
use Rattle.reports.specs.Report.{memory_lines}
use Rattle.reports.proofs.Writing.{joined}
use Rattle.inputs.specs.Endings.{IsRunFault}
use Rattle.commands.proofs.Reading.{only_memory}
use Rattle.commands.proofs.first.first.Goals as goal

-- the refusal, if any, and then the memory
pub returns-clause-printed : goal.returns-clause-printed
returns-clause-printed g c =
    let written = c.in_ok-fabric.ensures.ok in (
      written.0 ++ flat_map memory_lines c.in_ok-fabric.fabric.agents.domains,
      record {
        bytes = c.in-Ok.bytes;
        stands = rw c.as_bytes.ensures.value at c.in-Ok.ensures;
        platform = c.in-Ok-read.layout;
        reads = c.in-Ok-read.ensures.exact;
        world = c.in_ok-fabric.fabric;
        refused = written.0;
        driven = rw (c.push_reserved-2.ensures.items, c.push_reserved.ensures.items, c.in_ok-lines.ensures.items, c.from_bits.ensures) at written.1;
        lines = refl;
      },
      joined _ _ _ _ _ written.2 (rw c.domains.ensures at c.in_ok-write_memory.ensures),
    )

pub returns-in-Err-read-clause-fault : goal.returns-in-Err-read-clause-fault
returns-in-Err-read-clause-fault g c = inr (subst IsRunFault (sym (c.of_layout.ensures.memory (only_memory c.in-Err-read.fault c.in-Err-read.ensures.exact))) tt)
