use Rattle.std.proofs.Common.{rules, None, ◌≡◌, ◌+◌, ◌-◌, ◌<◌, ℕ, length, slice_index_or}
use Rattle.std.proofs.iter.runs.Sources.{ranges}
use Rattle.bridge.specs.Windows.{place_reaching}
use Rattle.bridge.proofs.Tables.{table_of-filled}
use Rattle.bridge.proofs.windows.places_between.Goals as goal

pub returns : goal.returns
returns c =
    let count : ℕ = c.args.past - c.args.first in
    let long : length c.in_ok-collect.field-0.items ≡ count = search (rules, ranges) in
    let filled : (k : ℕ) → k < count → slice_index_or c.in_ok-collect.field-0.items k None ≡ place_reaching c.args.ports.now (c.args.first + k) = λ k within. search (rules, ranges) in
    table_of-filled count (λ k. place_reaching c.args.ports.now (c.args.first + k)) c.in_ok-collect.field-0.items None long filled
