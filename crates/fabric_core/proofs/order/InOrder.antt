-- A fabric of any layout stays one through every event, and in a guarded one the order law holds.
use Rattle.std.proofs.Common.{◌≡◌, true, get_or, Some, sym, ◌∙◌}
use Rattle.std.proofs.lemmas.Option.{slice_get-get_or}
use Rattle.fabric_core.specs.declared.event.Event.{Event}
use Rattle.fabric_core.specs.Events.{effect}
use Rattle.fabric_core.specs.Invariant.{IsFabric}
use Rattle.fabric_core.specs.Orders.{AreInOrder}
use Rattle.fabric_core.specs.World.{World, is_guarded}
use Rattle.fabric_core.proofs.soundness.Guarded.{guarded_after}
use Rattle.fabric_core.proofs.bounded.Bounding.{bounded_after}
use Rattle.fabric_core.proofs.invariant.Keeping.{kept_after}
use Rattle.fabric_core.proofs.order.OrderInvariant.{way_order_after}
use Rattle.fabric_core.proofs.soundness.Orderly.{same_controls}
use Rattle.fabric_core.proofs.soundness.Routes.{routes_stay}

pub in_order : (w : World) → IsFabric w → is_guarded w ≡ true → AreInOrder w
in_order w fabric guarded = λ place d less.
    let x = get_or w.agents.domains place d in
    (fabric.ordered guarded place x (slice_get-get_or w.agents.domains place d less)).order

pub fabric_after : (w w' : World) (event : Event) → IsFabric w → effect w event ≡ Some w' → IsFabric w'
fabric_after w w' event fabric moved = record {
  kept = kept_after w w' event fabric.kept moved;
  bounded = bounded_after w w' event fabric.bounded moved;
  guarded = λ controls. guarded_after w w' event fabric.kept (fabric.guarded (was controls)) moved;
  ordered = λ controls. way_order_after w w' event fabric (was controls) moved (guarded_after w w' event fabric.kept (fabric.guarded (was controls)) moved);
}
  where
    was : is_guarded w' ≡ true → is_guarded w ≡ true
    was controls = sym (same_controls w w' (routes_stay w w' event moved)) ∙ controls
