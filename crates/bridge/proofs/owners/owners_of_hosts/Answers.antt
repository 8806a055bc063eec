use Rattle.std.proofs.Common.{rules, None, ◌≡◌, ◌<◌, ℕ, length, slice_index_or}
use Rattle.std.proofs.iter.runs.Sources.{ranges}
use Rattle.bridge.specs.Owners.{owner_of_host}
use Rattle.bridge.proofs.Tables.{table_of-filled}
use Rattle.bridge.proofs.owners.owners_of_hosts.Goals as goal

pub returns : goal.returns
returns c =
    let long : length c.in_ok-collect.field-0.items ≡ 32 = search (rules, ranges) in
    let filled : (k : ℕ) → k < 32 → slice_index_or c.in_ok-collect.field-0.items k None ≡ owner_of_host c.args.ports.now k = λ k within. search (rules, ranges) in
    table_of-filled 32 (owner_of_host c.args.ports.now) c.in_ok-collect.field-0.items None long filled
