use Rattle.std.proofs.Common.{rules, ◌≡◌, ◌<◌, ℕ, length, slice_index_or}
use Rattle.std.proofs.iter.runs.Sources.{ranges}
use Rattle.platform.specs.Buses.{bus_entry}
use Rattle.platform.specs.declared.start.buses.BusEntry.{BusEntry}
use Rattle.platform.proofs.start.buses.bus_table.Goals as goal

pub returns : goal.returns
returns c =
    let long : length c.in_ok-collect.field-0.items ≡ 256 = search (rules, ranges) in
    let filled : (bus : ℕ) (other : BusEntry) → bus < 256 → slice_index_or c.in_ok-collect.field-0.items bus other ≡ bus_entry c.args.ports.now c.args.functions.now c.args.domain bus = λ bus other within. search (rules, ranges) in
    record { long = long; filled = filled }
