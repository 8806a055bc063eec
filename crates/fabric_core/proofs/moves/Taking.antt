-- A packet is taken from a receiver: the moves that it had there are gone, but the credits of its direction may be to be returned.
use Rattle.std.proofs.Common.{◌≡◌, true, false, ◌+◌, ◌*◌, ◌<◌, ◌≤◌, List, Option, Some, None, refl, ap, subst, arith}
use Rattle.std.specs.Prelude.{option_map}
use Rattle.std.proofs.lemmas.Option.{same_Some}
use Rattle.fab_types.specs.declared.place.Direction.{Direction}
use Rattle.fab_types.specs.declared.origin.Origin.{Origin}
use Rattle.frame_log.specs.Descriptor.{Descriptor}
use Rattle.domains.specs.Agents.{joined}
use Rattle.domain.specs.Domains.{DomainView}
use Rattle.lane.specs.Lanes.{Class, eligible}
use Rattle.topology.specs.Links.{sender_of}
use Rattle.topology.specs.declared.nodes.LinkEnd.{LinkEnd}
use Rattle.interconnect.specs.Moves.{channel_at, put_at}
use Rattle.fabric_core.specs.Invariant.{IsConsistent}
use Rattle.fabric_core.specs.MovesLeft.{direction_from, is_request, link_moves, moves_left, moves_of}
use Rattle.fabric_core.specs.Places.{IsFlown}
use Rattle.fabric_core.specs.Arrivals.{Taken, taken_at, taken_from}
use Rattle.fabric_core.specs.Passing.{answered_at}
use Rattle.fabric_core.specs.World.{World, with_both, with_stray}
use Rattle.fabric_core.proofs.invariant.Renewing.{TakenOut, sender_there, taken_flown, taken_out_of}
use Rattle.fabric_core.proofs.invariant.Standing.{IsThere}
use Rattle.fabric_core.proofs.moves.Ahead.{Goes, IsLaid, nearer_less, quiet_few, request_more}
use Rattle.fabric_core.proofs.moves.Boxes.{if_any, joined_waiting, waiting}
use Rattle.fabric_core.proofs.moves.Links.{put_there, taken_there}

-- what was taken came in this direction, and had so many moves there
pub record IsTakenFrom (w : World) (direction : Direction) (t : Taken) : Type 1 where
  pub out : TakenOut w t
  pub flown : IsFlown w.agents.domains t.frame
  pub fewer : link_moves w.routes.switches w.tree.links t.channels + 2 * moves_of w.routes.switches 1 (Some direction) t.frame ≤ link_moves w.routes.switches w.tree.links w.channels + 1

module _ (w : World) (kept : IsConsistent w) (laid : IsLaid w) (class : Class) (direction : Direction) (end : LinkEnd) (from : sender_of w.tree.links direction ≡ Some end) where
  there : IsThere w.channels end
  there = sender_there w w.channels direction end kept refl from

  fewer_by : (o : Option (Descriptor × List Descriptor)) → eligible class (channel_at w.channels end).ingress ≡ o → (t : Taken) → option_map (taken_from w.channels end) o ≡ Some t
      → link_moves w.routes.switches w.tree.links t.channels + 2 * moves_of w.routes.switches 1 (direction_from w.tree.links end) t.frame ≤ link_moves w.routes.switches w.tree.links w.channels + 1
  fewer_by None e t is = absurd cc
  fewer_by (Some taken) e t is =
      subst (λ (x : Taken). link_moves w.routes.switches w.tree.links x.channels + 2 * moves_of w.routes.switches 1 (direction_from w.tree.links end) x.frame ≤ link_moves w.routes.switches w.tree.links w.channels + 1)
      (same_Some (taken_from w.channels end taken) t is) (taken_there w.routes.switches w.tree.links w.channels end there class taken.0 taken.1 e)

  pub taken_by : (t : Taken) → taken_at w.channels class (Some end) ≡ Some t → IsTakenFrom w direction t
  taken_by t is =
      let out = taken_out_of w class (Some end) t (λ other same. subst (IsThere w.channels) (same_Some end other same) there) is in
      let less = fewer_by (eligible class (channel_at w.channels end).ingress) refl t is in
      record {
        out = out;
        flown = taken_flown w t kept out;
        fewer = subst (λ (d : Option Direction). link_moves w.routes.switches w.tree.links t.channels + 2 * moves_of w.routes.switches 1 d t.frame ≤ link_moves w.routes.switches w.tree.links w.channels + 1) (laid.own direction end from) less;
      }

-- ---- what becomes of it

module _ (w : World) (laid : IsLaid w) (direction : Direction) (t : Taken) (taken : IsTakenFrom w direction t) where
  abbrev Fewer : World → Type 0
  Fewer v = moves_left v < moves_left w

  -- it is kept as a stray one
  pub stray_fewer : Fewer (with_stray w t.channels t.frame)
  stray_fewer = let fewer = taken.fewer in omega (arith, fewer)

  -- it is delivered
  pub gone_fewer : (domains : List DomainView) → Fewer (with_both w t.channels (record { domains = domains; outboxes = w.agents.outboxes }))
  gone_fewer domains = let fewer = taken.fewer in omega (arith, fewer)

  -- it goes on to where less is ahead
  pub on_fewer : (end : LinkEnd) → IsThere t.channels end → Goes w end direction → link_moves w.routes.switches w.tree.links (put_at t.channels end t.frame) < link_moves w.routes.switches w.tree.links w.channels
  on_fewer end there (next, from, near) =
      let fewer = taken.fewer in
      let put = put_there w.routes.switches w.tree.links t.channels end there t.frame in
      let here : moves_of w.routes.switches 3 (direction_from w.tree.links end) t.frame ≡ moves_of w.routes.switches 3 (Some next) t.frame = ap (λ (d : Option Direction). moves_of w.routes.switches 3 d t.frame) (laid.own next end from) in
      let less = nearer_less w.routes.switches next direction t.frame near in
      omega (arith, fewer, put, here, less)

  -- what answers it, if anything does, is no request, and answers one
  abbrev pub AnswersRequest : Option Descriptor → Type 0
  AnswersRequest sent = (answer : Descriptor) → sent ≡ Some answer → (is_request answer.head.header ≡ false) × (is_request t.frame.head.header ≡ true)

  -- it is answered by the port
  pub answered_fewer : (end : LinkEnd) → IsThere t.channels end → (sent : Option Descriptor) → AnswersRequest sent → link_moves w.routes.switches w.tree.links (answered_at t.channels end sent) < link_moves w.routes.switches w.tree.links w.channels
  answered_fewer end there None answers = let fewer = taken.fewer in omega (arith, fewer)
  answered_fewer end there (Some answer) answers =
      let fewer = taken.fewer in
      let put = put_there w.routes.switches w.tree.links t.channels end there answer in
      let are = answers answer refl in
      let few = quiet_few w.routes.switches laid.few 3 (direction_from w.tree.links end) answer are.0 in
      let more = request_more w.routes.switches direction t.frame are.1 in
      omega (arith, fewer, put, few, more)

  -- what is sent in return waits of this origin
  pub joined_fewer : (domains : List DomainView) (origin : Origin) (sent : Option Descriptor) → if_any (waiting w.routes.switches w.agents.outboxes origin) sent < moves_of w.routes.switches 1 (Some direction) t.frame
      → Fewer (with_both w t.channels (record { domains = domains; outboxes = joined w.agents.outboxes origin sent }))
  joined_fewer domains origin sent less =
      let fewer = taken.fewer in
      let more = joined_waiting w.routes.switches w.agents.outboxes origin sent in
      omega (arith, fewer, more, less)
