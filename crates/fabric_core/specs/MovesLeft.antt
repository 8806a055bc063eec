-- How many events can still move anything, at most, where nothing more begins (PCIe 4.0, 2.4.1 and 2.6.1). Each packet has
-- moves left, by where it stands and by what may be sent in return for it:
--
--   the event           what becomes less
--   Enter               the packet has left its outbox: one move
--   Send, Take          it is further along its link: one move
--   Pass, Root          where it goes on fewer directions are ahead: three moves for each
--   Pass, Root, Arrive  one that goes no further has no more moves, and what is sent in return has fewer than it had
--   Credit              credits are to be returned of one direction less
--
-- Packets count twice, since an event that moves one may leave the credits of one direction to be returned. A begin adds what a
-- packet in an outbox has at most: 330.
use Rattle.std.specs.Prelude.{◌≡◌, ℕ, ◌+◌, ◌*◌, ◌<◌, ◌≤◌, ◌==◌, Bool, true, false, ◌&&◌, not, nat_le, nat_lt, List, [], ◌∷◌, ◌++◌, count_by, Option, Some, None, if◌then◌else◌}
use Rattle.std.specs.List.{sum_by}
use Rattle.fab_types.specs.Id.{bus_of}
use Rattle.fab_types.specs.declared.head.Header.{Header}
use Rattle.fab_types.specs.declared.head.Header.TheVariants.{Malformed, Memory, OtherRequest, Completion}
use Rattle.fab_types.specs.declared.outcome.Outcome.{Outcome}
use Rattle.fab_types.specs.declared.place.Direction.{Direction}
use Rattle.fab_types.specs.declared.place.Way.{Way}
use Rattle.fab_types.specs.declared.place.Way.TheVariants.{Up, Down}
use Rattle.frame_log.specs.Descriptor.{Descriptor}
use Rattle.platform.specs.declared.parts.Switch.{Switch}
use Rattle.domains.specs.Agents.{Outbox}
use Rattle.link.specs.Channels.{Channel, same_counters, unspent}
use Rattle.topology.specs.declared.links.Link.{Link}
use Rattle.topology.specs.declared.nodes.LinkEnd.{LinkEnd}
use Rattle.fabric_core.specs.declared.event.Event.{Event}
use Rattle.fabric_core.specs.Events.{effect, is_begin, link_of}
use Rattle.fabric_core.specs.Runs.{Run}
use Rattle.fabric_core.specs.TakenOut.{is_moved}
use Rattle.fabric_core.specs.World.{World}

-- ---- how far it is

abbrev pub is_before : ℕ → Switch → Bool
is_before bus switch = nat_lt (bus_of switch.id) bus

abbrev pub is_from : ℕ → Switch → Bool
is_from bus switch = nat_le bus (bus_of switch.id)

-- At most so many directions are ahead of a packet on this one. Up, it comes to switches on lower and lower buses; down, to
-- ones on higher and higher buses, and never up again. A layout has at most 8 switches
abbrev pub far_on : List Switch → Way → ℕ → ℕ
far_on switches Up bus = 9 + count_by (is_before bus) switches
far_on switches Down bus = count_by (is_from bus) switches

abbrev pub far : List Switch → Direction → ℕ
far switches direction = far_on switches direction.way (bus_of direction.lower)

-- ---- what comes of it

-- What is sent in return for a request has at most so many moves, with what is sent in return for that. A packet has 55 of its
-- own at most: three for each of 17 directions ahead, and four from its outbox over its first. In return for a request on
-- its way up another may go down, which is answered in turn
abbrev pub returns_on : Way → ℕ
returns_on Up = 110
returns_on Down = 55

abbrev pub is_request : Header → Bool
is_request Malformed = false
is_request (Memory requester address_type address) = true
is_request (OtherRequest requester) = true
is_request (Completion target relaxed_ordering) = false

abbrev pub returns : Way → Header → ℕ
returns way header = if is_request header then returns_on way else 0

-- ---- where it stands

-- The moves of a packet on a direction, or in the outbox before it, where it has so many steps to go over that: three for
-- each direction ahead; none where no link is
abbrev pub moves_of : List Switch → ℕ → Option Direction → Descriptor → ℕ
moves_of switches steps None frame = 0
moves_of switches steps (Some direction) frame = 3 * far switches direction + steps + returns direction.way frame.head.header

abbrev pub is_same_end : LinkEnd → LinkEnd → Bool
is_same_end one other = (one.node == other.node) && (one.output == other.output)

-- the direction that is sent from an end, if one is
abbrev pub direction_from : List Link → LinkEnd → Option Direction
direction_from [] end = None
direction_from (link ∷ links) end =
    if is_same_end link.below end then Some (record { lower = link.lower; way = Up })
    else (if is_same_end link.above end then Some (record { lower = link.lower; way = Down })
    else direction_from links end)

-- are credits to be told?
abbrev pub unreturned : Channel → ℕ
unreturned c = if same_counters c.left (unspent c.start (c.wire ++ c.ingress)) then 0 else 1

-- the packets on a direction: at its sender, on the wire and at its receiver
abbrev pub moves_at : List Switch → Option Direction → Channel → ℕ
moves_at switches direction c = sum_by (moves_of switches 3 direction) c.egress + sum_by (moves_of switches 2 direction) c.wire + sum_by (moves_of switches 1 direction) c.ingress

unfoldable pub moves_on : List Switch → Option Direction → Channel → ℕ
moves_on switches direction c = 2 * moves_at switches direction c + unreturned c

-- a sum over a list whose first element has this place
abbrev pub sum_from : {X : Type 0} → (ℕ → X → ℕ) → ℕ → List X → ℕ
sum_from weigh place [] = 0
sum_from weigh place (x ∷ xs) = weigh place x + sum_from weigh (place + 1) xs

abbrev pub output_moves : List Switch → List Link → ℕ → ℕ → Channel → ℕ
output_moves switches links node output c = moves_on switches (direction_from links (record { node = node; output = output })) c

abbrev pub node_moves : List Switch → List Link → ℕ → List Channel → ℕ
node_moves switches links node outputs = sum_from (output_moves switches links node) 0 outputs

-- on all directions
unfoldable pub link_moves : List Switch → List Link → List (List Channel) → ℕ
link_moves switches links channels = sum_from (node_moves switches links) 0 channels

-- what waits in an outbox, and leaves by its link
abbrev pub box_moves : List Switch → Outbox → ℕ
box_moves switches box = sum_by (moves_of switches 4 (Some (link_of box.origin))) box.waiting

unfoldable pub waiting_moves : List Switch → List Outbox → ℕ
waiting_moves switches boxes = sum_by (box_moves switches) boxes

-- ---- all moves

abbrev pub moves_left : World → ℕ
moves_left w = link_moves w.routes.switches w.tree.links w.channels + 2 * waiting_moves w.routes.switches w.agents.outboxes

-- ---- what is said of a run

-- is it an event that moved something, and no begin?
abbrev pub is_move : Event → Outcome → Bool
is_move event outcome = not (is_begin event) && is_moved outcome

abbrev pub has_begun : Event → Outcome → Bool
has_begun event outcome = is_begin event && is_moved outcome

-- how many events of a run pass a test, by their outcomes
abbrev pub count_run : (Event → Outcome → Bool) → List Event → List Outcome → ℕ
count_run test [] outcomes = 0
count_run test (event ∷ events) [] = 0
count_run test (event ∷ events) (outcome ∷ outcomes) = if test event outcome then 1 + count_run test events outcomes else count_run test events outcomes

-- Wherever a run from here leads: an event that has an effect leaves fewer moves, if it is no begin, and a begin adds 330 at
-- most. So of a run from here at most 330 events move anything for each begin that is accepted; and from wherever it leads
-- no more do than moves are left there, and 330 for each begin from then on
pub record MovesEnd (start : World) : Type 0 where
  pub less : (events : List Event) (outcomes : List Outcome) (w v : World) (event : Event) → Run start events outcomes w → is_begin event ≡ false → effect w event ≡ Some v → moves_left v < moves_left w
  pub more : (events : List Event) (outcomes : List Outcome) (w v : World) (event : Event) → Run start events outcomes w → is_begin event ≡ true → effect w event ≡ Some v → moves_left v ≤ moves_left w + 330
  pub few : (events : List Event) (outcomes : List Outcome) (w : World) → Run start events outcomes w → count_run is_move events outcomes + moves_left w ≤ 330 * count_run has_begun events outcomes
  pub further : (events events' : List Event) (outcomes outcomes' : List Outcome) (w v : World) → Run start events outcomes w → Run w events' outcomes' v
      → count_run is_move events' outcomes' + moves_left v ≤ 330 * count_run has_begun events' outcomes' + moves_left w
