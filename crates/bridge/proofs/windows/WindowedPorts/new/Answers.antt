use Rattle.std.proofs.Common.{◌≡◌, ℕ, ◌+◌, ◌-◌, ◌<◌, ◌∙◌, length, ap, arith}
use Rattle.std.specs.Prelude.{All}
use Rattle.platform.specs.declared.parts.DownstreamPort.{DownstreamPort}
use Rattle.bridge.specs.Windows.{megabyte_of, place_reaching, places_from}
use Rattle.bridge.proofs.Tables.{length-table_of}
use Rattle.bridge.proofs.windows.WindowedPorts.new.Goals as goal

pub invariant_of-result : goal.invariant_of-result
invariant_of-result c =
    let first : ℕ = c.first_megabyte-first.result in
    let count : ℕ = c.past_megabyte.result - first in
    let ends : All (λ (port : DownstreamPort). megabyte_of port.limit < c.past_megabyte.result) c.args.ports.items = rw (← c.deref-3.ensures.value) c.past_megabyte.ensures in
    let filled : c.in_ok-places.places.items ≡ places_from c.args.ports.items first count = rw (← c.deref-2.ensures.value) c.in_ok-places.ensures in
    let long : length c.in_ok-places.places.items ≡ count = ap length filled ∙ length-table_of count (λ k. place_reaching c.args.ports.items (first + k)) in
    record {
      below = rw (← c.deref.ensures.value) c.first_megabyte-first.ensures;
      past = λ k d within. let end = ends k d within in omega (arith, long, end);
      places = rw long filled;
    }
