-- The moves on all links, where one direction changes.
use Rattle.std.proofs.Common.{◌≡◌, ◌+◌, ◌*◌, ◌<◌, ◌≤◌, List, [], ◌∷◌, ◌++◌, get_or, set, Some, arith}
use Rattle.frame_log.specs.Descriptor.{Descriptor}
use Rattle.platform.specs.declared.parts.Switch.{Switch}
use Rattle.lane.specs.Lanes.{Class, eligible}
use Rattle.link.specs.Channels.{Channel, with_egress}
use Rattle.topology.specs.declared.links.Link.{Link}
use Rattle.topology.specs.declared.nodes.LinkEnd.{LinkEnd}
use Rattle.interconnect.specs.Moves.{channel_at, left_at, no_channel, put_at, with_channel, with_ingress}
use Rattle.fabric_core.specs.MovesLeft.{direction_from, link_moves, moves_of, moves_on, node_moves, output_moves}
use Rattle.fabric_core.proofs.invariant.Standing.{IsThere}
use Rattle.fabric_core.proofs.moves.Channels.{put_moves, taken_moves}
use Rattle.fabric_core.proofs.moves.Sums.{sum_from-set}

module _ (switches : List Switch) (links : List Link) (channels : List (List Channel)) (end : LinkEnd) (there : IsThere channels end) where
  replaced : (c : Channel) → link_moves switches links (with_channel channels end c) + moves_on switches (direction_from links end) (channel_at channels end) ≡ link_moves switches links channels + moves_on switches (direction_from links end) c
  unfolding link_moves
  replaced c =
      let row = get_or channels end.node [] in
      let outer = sum_from-set (node_moves switches links) channels 0 end.node end.node [] (set row end.output c) (omega arith) there.node in
      let inner = sum_from-set (output_moves switches links end.node) row 0 end.output end.output no_channel c (omega arith) there.output in
      omega (arith, outer, inner)

  -- a direction has fewer moves
  pub lowered : (c : Channel) → moves_on switches (direction_from links end) c < moves_on switches (direction_from links end) (channel_at channels end) → link_moves switches links (with_channel channels end c) < link_moves switches links channels
  lowered c less = let all = replaced c in omega (arith, all, less)

  -- a packet more at its sender
  pub put_there : (frame : Descriptor) → link_moves switches links (put_at channels end frame) ≡ link_moves switches links channels + 2 * moves_of switches 3 (direction_from links end) frame
  put_there frame =
      let c = channel_at channels end in
      let all = replaced (with_egress c (c.egress ++ frame ∷ [])) in
      let one = put_moves switches (direction_from links end) c frame in
      omega (arith, all, one)

  -- one less at its receiver
  pub taken_there : (class : Class) (frame : Descriptor) (left : List Descriptor) → eligible class (channel_at channels end).ingress ≡ Some (frame, left)
      → link_moves switches links (left_at channels end left) + 2 * moves_of switches 1 (direction_from links end) frame ≤ link_moves switches links channels + 1
  taken_there class frame left e =
      let c = channel_at channels end in
      let all = replaced (with_ingress c left) in
      let one = taken_moves switches (direction_from links end) c class frame left e in
      omega (arith, all, one)
