-- What a ring of begins keeps, always.
use Rattle.std.specs.Prelude.{◌≡◌, ◌+◌, ◌<◌, ◌^◌, length, map, option_to_list}
use Rattle.std.specs.List.{range_with_len}
use Rattle.rtrb.specs.Ring.{received}
use Rattle.injector.specs.Rings.{BeginRingView}
use Rattle.injector.specs.declared.begin.Begin.{Begin}
use Rattle.injector.specs.declared.begin_ring.BeginRing.TheInside.{Inside}

abbrev pub begin_ring_view : Inside → BeginRingView
begin_ring_view ring = record { consumer = ring.consumer; held = ring.held; accepted = ring.accepted; refused = ring.refused }

-- Each begin that was taken out of the ring was accepted or refused, or is held; and they bear the numbers from 0 on, in
-- turn.
pub record IsCounted (ring : BeginRingView) : Type 0 where
  pub counted : length (received ring.consumer) ≡ (ring.accepted + ring.refused) + length (option_to_list ring.held)
  pub small : length (received ring.consumer) < 2 ^ 64
  pub in_turn : map (λ (begin : Begin). begin.number) (received ring.consumer) ≡ range_with_len 0 (length (received ring.consumer))

abbrev pub KeepsCount : Inside → Type 0
KeepsCount ring = IsCounted (begin_ring_view ring)
