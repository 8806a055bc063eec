-- What ports do with sound packets. A switch has an output out of its upstream port, numbered 0, and one out of each of its
-- downstream ports, numbered from 1 in the order of the layout.
use Rattle.std.specs.Prelude.{◌≡◌, ℕ, zero, suc, ◌<◌, true, Option, Some, None, option_map, slice_get}
use Rattle.fab_types.specs.Id.{bus_of}
use Rattle.fab_types.specs.declared.head.AddressType.{AddressType}
use Rattle.fab_types.specs.declared.head.Header.{Header}
use Rattle.fab_types.specs.declared.head.Header.TheVariants as header
use Rattle.fab_types.specs.declared.head.Parties.TheVariants.{Upward}
use Rattle.fab_types.specs.declared.place.Direction.{Direction}
use Rattle.fab_types.specs.declared.place.Way.TheVariants.{Up, Down}
use Rattle.frame_log.specs.Descriptor.{Descriptor}
use Rattle.platform.specs.declared.parts.DownstreamPort.{DownstreamPort}
use Rattle.platform.specs.declared.parts.Switch.{Switch}
use Rattle.platform.specs.Egress.{direct_at, direct_to}
use Rattle.platform.specs.Owners.{holds_bus}
use Rattle.platform.specs.Platform.{Platform}
use Rattle.platform.specs.Tree.{id_below, internal_bus, switch_on}
use Rattle.topology.specs.Nodes.{ports_on}
use Rattle.switch_output.specs.Vetted.{is_own, requester_owner}
use Rattle.port.specs.declared.course.Forwarding.{Forwarding}
use Rattle.port.specs.declared.course.Forwarding.TheVariants.{To, Stop, NoCase}
use Rattle.guarded_routes.specs.Sound.{IsCleared, IsSound, let_by}

abbrev pub up_from : Switch → Direction
up_from switch = record { lower = switch.id; way = Up }

abbrev pub down_from : DownstreamPort → Direction
down_from port = record { lower = id_below port; way = Down }

-- the direction of a link into which an output of a switch leads
abbrev pub direction_out : Platform → Switch → ℕ → Option Direction
direction_out platform switch zero = Some (up_from switch)
direction_out platform switch (suc k) = option_map down_from (slice_get (ports_on platform.ports (internal_bus switch)) k)

-- it leaves by this output of the switch, into a direction on which it is sound; and its requester, if it has one, is its
-- domain's
pub record GoesOn (platform : Platform) (switch : Switch) (frame : Descriptor) (output : ℕ) : Type 0 where
  pub direction : Direction
  pub leads : direction_out platform switch output ≡ Some direction
  pub sound : IsSound platform direction frame
  pub owned : is_own (requester_owner platform.ports frame.head.header) frame ≡ true

-- only a completion with Relaxed Ordering may go to another port of the switch
abbrev pub IsRelaxed : Header → Type 0
IsRelaxed header.Malformed = ⊥
IsRelaxed (header.Memory requester address_type address) = ⊥
IsRelaxed (header.OtherRequest requester) = ⊥
IsRelaxed (header.Completion target relaxed_ordering) = relaxed_ordering ≡ true

-- how it leaves a downstream port: up, if the port doesn't let it through to another port of its switch; there as such a
-- completion; or directly to the function below that other port, if it does
pub data LeavesBy (platform : Platform) (line : DownstreamPort) (frame : Descriptor) (output : ℕ) (direction : Direction) : Type 0 where
  Rises : output ≡ 0 → let_by platform line frame.head.header ≡ None → LeavesBy platform line frame output direction
  Crosses : IsRelaxed frame.head.header → LeavesBy platform line frame output direction
  Turns : (sender peer requester address : ℕ) (address_type : AddressType) → holds_bus line (bus_of sender) ≡ true → frame.head.parties ≡ Upward sender → frame.head.header ≡ header.Memory requester address_type address → IsCleared platform sender (header.Memory requester address_type address)
      → direct_at platform.ports address line ≡ Some peer → direct_to platform.ports sender address ≡ Some peer → direction ≡ record { lower = peer; way = Down } → LeavesBy platform line frame output direction

-- a downstream port sends it on so; or it is the first port above the function that sent it, and stops it
abbrev pub Passes : Platform → DownstreamPort → Descriptor → Forwarding → Type 0
Passes platform line frame (To output) =
    (switch : Switch) × (switch_on platform.switches (bus_of line.id) ≡ Some switch) × (goes : GoesOn platform switch frame output)
    × LeavesBy platform line frame output goes.direction
Passes platform line frame (Stop report) = frame.head.parties ≡ Upward (id_below line)
Passes platform line frame NoCase = ⊥

-- the upstream port of a switch sends it on, down
abbrev pub PassesDown : Platform → Switch → Descriptor → Forwarding → Type 0
PassesDown platform switch frame (To output) = (0 < output) × GoesOn platform switch frame output
PassesDown platform switch frame (Stop report) = ⊥
PassesDown platform switch frame NoCase = ⊥
