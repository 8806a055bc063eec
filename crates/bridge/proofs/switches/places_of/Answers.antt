use Rattle.std.proofs.Common.{rules, None, ◌≡◌, ◌<◌, ℕ, length, slice_index_or}
use Rattle.std.proofs.iter.runs.Sources.{ranges}
use Rattle.bridge.specs.Groups.{place_below}
use Rattle.bridge.proofs.Tables.{table_of-filled}
use Rattle.bridge.proofs.switches.places_of.Goals as goal

pub returns : goal.returns
returns c =
    let long : length c.in_ok-collect.field-0.items ≡ 256 = search (rules, ranges) in
    let filled : (k : ℕ) → k < 256 → slice_index_or c.in_ok-collect.field-0.items k None ≡ place_below c.args.switches.now k = λ k within. search (rules, ranges) in
    table_of-filled 256 (place_below c.args.switches.now) c.in_ok-collect.field-0.items None long filled
