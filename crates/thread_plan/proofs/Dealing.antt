-- What the worker of a port is dealt of the rings between ports: an end for each lane of its switch.
use Rattle.std.proofs.Common.{◌≡◌, ℕ, ◌==◌, List, map, length, get_or, sym, ap, ◌∙◌, subst}
use Rattle.std.specs.List.{filter}
use Rattle.layout.specs.Laws.{IsPlatform}
use Rattle.layout.specs.Places.{IsWellPlaced}
use Rattle.platform.specs.declared.parts.Switch.{Switch}
use Rattle.platform.specs.Platform.{Platform}
use Rattle.thread_crew.specs.declared.worker_id.WorkerId.{WorkerId}
use Rattle.topology.specs.Nodes.{outputs_of_switch}
use Rattle.thread_rings.specs.declared.wire.Wire.{Wire}
use Rattle.thread_rings.specs.Names.{RingName}
use Rattle.thread_rings.specs.Wired.{AreWithin, dealt, no_tags}
use Rattle.thread_rings.proofs.Shares.{many_ins, many_outs}
use Rattle.thread_plan.specs.Plans.{plan_of}
use Rattle.thread_plan.specs.Routes.{IsPortOf}
use Rattle.thread_plan.specs.Workers.{workers_of}
use Rattle.thread_plan.proofs.Numbered.{many_from, many_into}
use Rattle.thread_plan.proofs.Within.{plan_within}

laid_within : (platform : Platform) (table : List (Wire × RingName)) → map (λ r. r.0) table ≡ (plan_of platform).pairs → AreWithin (length (workers_of platform)) (map (λ r. r.0) table)
laid_within platform table laid = subst (λ (wires : List Wire). AreWithin (length (workers_of platform)) wires) (sym laid) (plan_within platform).pairs

pub lanes_out : (platform : Platform) (switch : Switch) (worker : WorkerId) (n : ℕ) (table : List (Wire × RingName)) → IsPlatform platform → IsWellPlaced platform → IsPortOf platform switch worker n
    → map (λ r. r.0) table ≡ (plan_of platform).pairs → length (get_or (dealt (length (workers_of platform)) table) n no_tags).outs ≡ outputs_of_switch platform.ports switch
lanes_out platform switch worker n table laws placed is laid =
    many_outs (length (workers_of platform)) n table (laid_within platform table laid)
    ∙ (ap (λ (wires : List Wire). length (filter (λ (wire : Wire). wire.from == n) wires)) laid
    ∙ many_from platform switch worker n laws placed is.listed is.lane is.numbered)

pub lanes_in : (platform : Platform) (switch : Switch) (worker : WorkerId) (n : ℕ) (table : List (Wire × RingName)) → IsPlatform platform → IsWellPlaced platform → IsPortOf platform switch worker n
    → map (λ r. r.0) table ≡ (plan_of platform).pairs → length (get_or (dealt (length (workers_of platform)) table) n no_tags).ins ≡ outputs_of_switch platform.ports switch
lanes_in platform switch worker n table laws placed is laid =
    many_ins (length (workers_of platform)) n table (laid_within platform table laid)
    ∙ (ap (λ (wires : List Wire). length (filter (λ (wire : Wire). wire.to == n) wires)) laid
    ∙ many_into platform switch worker n laws placed is.listed is.lane is.numbered)
