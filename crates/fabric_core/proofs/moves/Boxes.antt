-- The moves of what waits in outboxes, where one changes.
use Rattle.std.proofs.Common.{◌≡◌, ℕ, ◌+◌, ◌≤◌, List, [], ◌∷◌, ◌++◌, get_or, set, Option, Some, None, refl, sym, ap, ◌∙◌, arith}
use Rattle.std.specs.Prelude.{slice_get}
use Rattle.std.specs.List.{sum_by}
use Rattle.std.proofs.lemmas.List.Quantifiers.{position-Some}
use Rattle.std.proofs.lemmas.List.Sums.{sum_by-set, sum_by_push}
use Rattle.std.proofs.lemmas.Option.{get_or_from_slice_get, slice_get_within}
use Rattle.fab_types.specs.declared.origin.Origin.{Origin}
use Rattle.fab_types.specs.Origins.{same_origin}
use Rattle.fab_types.proofs.Origins.{one_origin}
use Rattle.frame_log.specs.Descriptor.{Descriptor}
use Rattle.platform.specs.declared.parts.Switch.{Switch}
use Rattle.domains.specs.Agents.{Outbox, joined, outbox_place, waiting_at, waiting_in, waiting_of, with_waiting, with_waiting_at, with_waiting_in}
use Rattle.lane.specs.Lanes.{Class, eligible}
use Rattle.fabric_core.specs.Events.{link_of}
use Rattle.fabric_core.specs.MovesLeft.{box_moves, moves_of, waiting_moves}
use Rattle.fabric_core.proofs.moves.Sums.{sum_taken}

-- what a packet counts, if there is one
abbrev pub if_any : (Descriptor → ℕ) → Option Descriptor → ℕ
if_any weigh None = 0
if_any weigh (Some frame) = weigh frame

-- the box that is found for an origin is its own
own_box : (boxes : List Outbox) (origin : Origin) (place : ℕ) (box : Outbox) → outbox_place boxes origin ≡ Some place → slice_get boxes place ≡ Some box → box.origin ≡ origin
unfolding outbox_place
own_box boxes origin place box found at =
    let is = position-Some (λ (b : Outbox). same_origin b.origin origin) boxes place box found in
    let same : get_or boxes place box ≡ box = get_or_from_slice_get boxes place box box at in
    ap (λ (b : Outbox). b.origin) (sym same) ∙ one_origin (get_or boxes place box).origin origin is.1

module _ (switches : List Switch) (boxes : List Outbox) where
  -- what a packet counts that waits of an origin
  abbrev pub waiting : Origin → Descriptor → ℕ
  waiting origin frame = moves_of switches 4 (Some (link_of origin)) frame

  module _ (origin : Origin) (place : ℕ) (box : Outbox) (found : outbox_place boxes origin ≡ Some place) (at : slice_get boxes place ≡ Some box) where
    -- with other packets in the box
    replaced : (frames : List Descriptor) → waiting_moves switches (set boxes place (record { origin = box.origin; waiting = frames })) + sum_by (waiting origin) box.waiting ≡ waiting_moves switches boxes + sum_by (waiting origin) frames
    unfolding waiting_moves
    replaced frames =
        let new : Outbox = record { origin = box.origin; waiting = frames } in
        let all = sum_by-set (box_moves switches) boxes place (record { origin = box.origin; waiting = frames }) box (slice_get_within boxes place box at) in
        let same : box_moves switches (get_or boxes place box) ≡ box_moves switches box = ap (box_moves switches) (get_or_from_slice_get boxes place box box at) in
        let own = own_box boxes origin place box found at in
        let old_by : box_moves switches box ≡ sum_by (waiting origin) box.waiting = ap (λ (o : Origin). sum_by (waiting o) box.waiting) own in
        let new_by : box_moves switches (record { origin = box.origin; waiting = frames }) ≡ sum_by (waiting origin) frames = ap (λ (o : Origin). sum_by (waiting o) frames) own in
        omega (arith, all, same, old_by, new_by)

  -- the eligible packet of an outbox leaves it
  pub taken_waiting : (origin : Origin) (class : Class) (frame : Descriptor) (left : List Descriptor) → eligible class (waiting_of boxes origin) ≡ Some (frame, left)
      → waiting_moves switches (with_waiting boxes origin left) + waiting origin frame ≡ waiting_moves switches boxes
  taken_waiting origin class frame left e = go (outbox_place boxes origin) refl e
    where
      in_box : (place : ℕ) (o : Option Outbox) → outbox_place boxes origin ≡ Some place → slice_get boxes place ≡ o → eligible class (waiting_in o) ≡ Some (frame, left)
          → waiting_moves switches (with_waiting_in boxes place left o) + waiting origin frame ≡ waiting_moves switches boxes
      in_box place None found at e = absurd cc
      in_box place (Some box) found at e =
          let all = replaced origin place box found at left in
          let fewer = sum_taken (waiting origin) class box.waiting left frame e in
          omega (arith, all, fewer)

      go : (place : Option ℕ) → outbox_place boxes origin ≡ place → eligible class (waiting_at boxes place) ≡ Some (frame, left) → waiting_moves switches (with_waiting_at boxes left place) + waiting origin frame ≡ waiting_moves switches boxes
      go None found e = absurd cc
      go (Some place) found e = in_box place (slice_get boxes place) found refl e

  -- what an origin emits, if anything, waits in its outbox, if it has one
  pub joined_waiting : (origin : Origin) (sent : Option Descriptor) → waiting_moves switches (joined boxes origin sent) ≤ waiting_moves switches boxes + if_any (waiting origin) sent
  joined_waiting origin None = omega arith
  joined_waiting origin (Some frame) = go (outbox_place boxes origin) refl
    where
      in_box : (place : ℕ) (o : Option Outbox) → outbox_place boxes origin ≡ Some place → slice_get boxes place ≡ o
          → waiting_moves switches (with_waiting_in boxes place (waiting_in o ++ frame ∷ []) o) ≤ waiting_moves switches boxes + waiting origin frame
      in_box place None found at = omega arith
      in_box place (Some box) found at =
          let all = replaced origin place box found at (box.waiting ++ frame ∷ []) in
          let more = sum_by_push (waiting origin) box.waiting frame in
          omega (arith, all, more)

      go : (place : Option ℕ) → outbox_place boxes origin ≡ place → waiting_moves switches (with_waiting_at boxes (waiting_at boxes place ++ frame ∷ []) place) ≤ waiting_moves switches boxes + waiting origin frame
      go None found = omega arith
      go (Some place) found = in_box place (slice_get boxes place) found refl
