use Rattle.std.proofs.Common.{Err, ap, ◌∙◌}
use Rattle.fab_types.specs.declared.faults.begin.MmioFault.{MmioFault}
use Rattle.fab_types.specs.declared.faults.begin.MmioFault.TheVariants as mmio
use Rattle.domains.specs.Domains.{mmio_refusal}
use Rattle.domains.specs.Agents.{AgentsView}
use Rattle.fabric_core.specs.World.{world_over}
use Rattle.fabric_core.proofs.apart.Legal.{mmio_legal, mmio_memory, some_map, unrefused}
use Rattle.fabric_core.proofs.begins.mmio.Goals as goal

pub returns-in-Err-NoMemory-clause-steps : goal.returns-in-Err-NoMemory-clause-steps
returns-in-Err-NoMemory-clause-steps c h violations strays =
    let domains = c.args.agents.now.domains in
    let is = c.in-Err-NoMemory.is ∙ ap (λ (f : MmioFault). Err f) c.in-Err-NoMemory.field-0-is in
    let free = unrefused mmio.NoMemory (mmio_refusal domains c.args.domain c.args.access.now) c.mmio.result c.mmio.ensures.refused is (mmio_memory domains c.args.domain c.args.access.now) in
    let legal = some_map _ _ (mmio_legal domains c.args.domain c.args.access.now free) in
    (some_map _ _ legal, legal, ap (λ (e : AgentsView). world_over h e violations strays) c.in-Err-NoMemory.ensures.err)
