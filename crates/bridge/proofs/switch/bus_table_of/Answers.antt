use Rattle.std.proofs.Common.{rules, None, ◌≡◌, ◌<◌, ℕ, length, slice_index_or}
use Rattle.std.proofs.iter.runs.Sources.{ranges}
use Rattle.bridge.specs.Groups.{port_to_bus_of}
use Rattle.bridge.proofs.Tables.{table_of-filled}
use Rattle.bridge.proofs.switch.bus_table_of.Goals as goal

pub returns : goal.returns
returns c =
    let long : length c.in_ok-collect.field-0.items ≡ 256 = search (rules, ranges) in
    let filled : (k : ℕ) → k < 256 → slice_index_or c.in_ok-collect.field-0.items k None ≡ port_to_bus_of c.args.ports.now k = λ k within. search (rules, ranges) in
    table_of-filled 256 (port_to_bus_of c.args.ports.now) c.in_ok-collect.field-0.items None long filled
