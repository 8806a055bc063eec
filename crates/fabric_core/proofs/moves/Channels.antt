-- What each step of one direction of a link makes of its moves: what is sent or delivered has one less, and so has a direction
-- of which credits are returned (PCIe 4.0, 2.6.1).
use Rattle.std.proofs.Common.{◌≡◌, ◌+◌, ◌*◌, ◌<◌, ◌≤◌, Bool, true, false, cond, List, [], ◌∷◌, ◌++◌, Option, Some, None, refl, ap, ◌∙◌, subst, arith, eq-eqb}
use Rattle.std.specs.List.{sum_by}
use Rattle.std.proofs.lemmas.Bool.{and_from}
use Rattle.std.proofs.lemmas.List.Sums.{sum_by-cons, sum_by_push}
use Rattle.std.proofs.lemmas.Option.{same_Some}
use Rattle.fab_types.specs.declared.place.Direction.{Direction}
use Rattle.frame_log.specs.Descriptor.{Descriptor}
use Rattle.credit.specs.declared.counters.Counters.{Counters}
use Rattle.platform.specs.declared.parts.Switch.{Switch}
use Rattle.lane.specs.Lanes.{Class, eligible}
use Rattle.link.specs.Channels.{Channel, deliver, has_room, received_of, same_counters, send, sent_on, spent, unspent, update_fc, with_egress}
use Rattle.interconnect.specs.Moves.{with_ingress}
use Rattle.fabric_core.specs.MovesLeft.{moves_of, moves_on, unreturned}
use Rattle.fabric_core.proofs.moves.Sums.{sum_taken}

pub at_most_one : (b : Bool) → cond b 0 1 ≤ 1
at_most_one true = omega arith
at_most_one false = omega arith

same_again : (c : Counters) → same_counters c c ≡ true
same_again c =
    and_from _ _ (and_from _ _ (eq-eqb c.posted.headers c.posted.headers refl) (eq-eqb c.posted.payload c.posted.payload refl))
    (and_from _ _ (and_from _ _ (eq-eqb c.non_posted.headers c.non_posted.headers refl) (eq-eqb c.non_posted.payload c.non_posted.payload refl))
    (and_from _ _ (eq-eqb c.completion.headers c.completion.headers refl) (eq-eqb c.completion.payload c.completion.payload refl)))

-- no credits are to be returned where the sender has all that the receiver gave
pub none_unreturned : (c : Channel) → c.left ≡ unspent c.start (c.wire ++ c.ingress) → unreturned c ≡ 0
none_unreturned c is = ap (λ (b : Bool). cond b 0 1) (ap (λ (k : Counters). same_counters k (unspent c.start (c.wire ++ c.ingress))) is ∙ same_again (unspent c.start (c.wire ++ c.ingress)))

module _ (switches : List Switch) where
  -- ---- what waits

  -- a packet more at the sender
  pub put_moves : (direction : Option Direction) (c : Channel) (frame : Descriptor) → moves_on switches direction (with_egress c (c.egress ++ frame ∷ [])) ≡ moves_on switches direction c + 2 * moves_of switches 3 direction frame
  unfolding moves_on
  put_moves direction c frame = let more = sum_by_push (moves_of switches 3 direction) c.egress frame in omega (arith, more)

  -- one less at the receiver
  pub taken_moves : (direction : Option Direction) (c : Channel) (class : Class) (frame : Descriptor) (left : List Descriptor) → eligible class c.ingress ≡ Some (frame, left)
      → moves_on switches direction (with_ingress c left) + 2 * moves_of switches 1 direction frame ≤ moves_on switches direction c + 1
  unfolding moves_on
  taken_moves direction c class frame left e =
      let fewer = sum_taken (moves_of switches 1 direction) class c.ingress left frame e in
      let one = at_most_one (same_counters c.left (unspent c.start (c.wire ++ left))) in
      omega (arith, fewer, one)

  -- ---- what moves

  abbrev Fewer : Direction → Channel → Channel → Type 0
  Fewer direction c c' = moves_on switches (Some direction) c' < moves_on switches (Some direction) c

  sent_by : (direction : Direction) (class : Class) (c c' : Channel) (taken : Option (Descriptor × List Descriptor)) → eligible class c.egress ≡ taken → sent_on c taken ≡ Some c' → Fewer direction c c'
  unfolding moves_on
  sent_by direction class c c' None e is = absurd cc
  sent_by direction class c c' (Some t) e is = by (has_room c.left t.0.head.cost) is
    where
      fewer : Fewer direction c (record { start = c.start; left = spent c.left t.0.head.cost; egress = t.1; wire = c.wire ++ t.0 ∷ []; ingress = c.ingress })
      fewer =
          let gone = sum_taken (moves_of switches 3 (Some direction)) class c.egress t.1 t.0 e in
          let more = sum_by_push (moves_of switches 2 (Some direction)) c.wire t.0 in
          let one = at_most_one (same_counters (spent c.left t.0.head.cost) (unspent c.start ((c.wire ++ t.0 ∷ []) ++ c.ingress))) in
          omega (arith, gone, more, one)

      by : (b : Bool) → cond b (Some (record { start = c.start; left = spent c.left t.0.head.cost; egress = t.1; wire = c.wire ++ t.0 ∷ []; ingress = c.ingress })) None ≡ Some c' → Fewer direction c c'
      by true is = subst (Fewer direction c) (same_Some _ c' is) fewer
      by false is = absurd cc

  pub send_fewer : (direction : Direction) (class : Class) (c c' : Channel) → send class c ≡ Some c' → Fewer direction c c'
  send_fewer direction class c c' is = sent_by direction class c c' (eligible class c.egress) refl is

  received_by : (direction : Direction) (c c' : Channel) (wire : List Descriptor) → c.wire ≡ wire → received_of c wire ≡ Some c' → Fewer direction c c'
  unfolding moves_on
  received_by direction c c' [] e is = absurd cc
  received_by direction c c' (frame ∷ frames) e is = subst (Fewer direction c) (same_Some _ c' is) fewer
    where
      fewer : Fewer direction c (record { start = c.start; left = c.left; egress = c.egress; wire = frames; ingress = c.ingress ++ frame ∷ [] })
      fewer =
          let old : sum_by (moves_of switches 2 (Some direction)) c.wire ≡ sum_by (moves_of switches 2 (Some direction)) (frame ∷ frames) = ap (sum_by (moves_of switches 2 (Some direction))) e in
          let gone = sum_by-cons (moves_of switches 2 (Some direction)) frame frames in
          let more = sum_by_push (moves_of switches 1 (Some direction)) c.ingress frame in
          let one = at_most_one (same_counters c.left (unspent c.start (frames ++ (c.ingress ++ frame ∷ [])))) in
          omega (arith, old, gone, more, one)

  pub deliver_fewer : (direction : Direction) (c c' : Channel) → deliver c ≡ Some c' → Fewer direction c c'
  deliver_fewer direction c c' is = received_by direction c c' c.wire refl is

  -- the sender learns what it may have
  pub update_fc_fewer : (direction : Direction) (c c' : Channel) → update_fc c ≡ Some c' → Fewer direction c c'
  unfolding moves_on
  update_fc_fewer direction c c' is = by (same_counters c.left (unspent c.start (c.wire ++ c.ingress))) refl is
    where
      fewer : same_counters c.left (unspent c.start (c.wire ++ c.ingress)) ≡ false → Fewer direction c (record { start = c.start; left = unspent c.start (c.wire ++ c.ingress); egress = c.egress; wire = c.wire; ingress = c.ingress })
      fewer new =
          let before : unreturned c ≡ 1 = ap (λ (b : Bool). cond b 0 1) new in
          let after = none_unreturned (record { start = c.start; left = unspent c.start (c.wire ++ c.ingress); egress = c.egress; wire = c.wire; ingress = c.ingress }) refl in
          omega (arith, before, after)

      by : (b : Bool) → same_counters c.left (unspent c.start (c.wire ++ c.ingress)) ≡ b → cond b None (Some (record { start = c.start; left = unspent c.start (c.wire ++ c.ingress); egress = c.egress; wire = c.wire; ingress = c.ingress })) ≡ Some c' → Fewer direction c c'
      by true e is = absurd cc
      by false e is = subst (Fewer direction c) (same_Some _ c' is) (fewer e)
