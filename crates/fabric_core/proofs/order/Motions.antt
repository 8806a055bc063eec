-- What an event of a guarded fabric does to the packets that stand there.
use Rattle.std.proofs.Common.{◌≡◌, ℕ, List, Option, Some, None}
use Rattle.std.specs.Prelude.{true}
use Rattle.fab_types.specs.Id.{bus_of}
use Rattle.fab_types.specs.declared.head.AddressType.{AddressType}
use Rattle.fab_types.specs.declared.head.Header.TheVariants as header
use Rattle.fab_types.specs.declared.head.Parties.TheVariants.{Upward}
use Rattle.fab_types.specs.declared.place.Direction.{Direction}
use Rattle.fab_types.specs.declared.origin.Origin.{Origin}
use Rattle.fab_types.specs.declared.origin.Origin.TheVariants as origin
use Rattle.fab_types.specs.declared.place.Place.{Place}
use Rattle.fab_types.specs.declared.place.Place.TheVariants.{Outbox, Egress, Wire, Ingress}
use Rattle.fab_types.specs.declared.violation.Violation.{Violation}
use Rattle.frame_log.specs.Descriptor.{Descriptor}
use Rattle.bridge.specs.Bridges.{of_platform}
use Rattle.platform.specs.declared.parts.DownstreamPort.{DownstreamPort}
use Rattle.platform.specs.Egress.{direct_at, direct_to}
use Rattle.platform.specs.Owners.{holds_bus}
use Rattle.platform.specs.Platform.{Platform}
use Rattle.platform.specs.Tree.{id_below}
use Rattle.domain.specs.declared.entry.Entry.{Entry}
use Rattle.domain.specs.declared.entry.Entry.TheVariants.{Submit, Tick, Mmio, Refuse, Carry, Deliver}
use Rattle.port.specs.Configs.{downstream_config}
use Rattle.port.specs.Courses.{course_of}
use Rattle.port.specs.declared.course.Forwarding.TheVariants.{Stop}
use Rattle.domains.specs.Domains.{Made, made, made_at, place_of, place_of_function}
use Rattle.guarded_routes.specs.Ends.{IsFor, IsOwnRequest, IsRequestTo}
use Rattle.guarded_routes.specs.Links.{link_above}
use Rattle.guarded_routes.specs.Sound.{Falling, IsCleared, IsSound, is_reply, let_by}
use Rattle.guarded_routes.specs.Ways.{IsRelaxed}
use Rattle.guarded_routes.proofs.Trees.{IsPort}
use Rattle.fabric_core.specs.Arrivals.{from_host, to_function, to_host}
use Rattle.fabric_core.specs.Events.{link_of}
use Rattle.fabric_core.specs.Places.{IsFlown}
use Rattle.fabric_core.specs.Trails.{down, standing_at, up}
use Rattle.fabric_core.specs.World.{World}
use Rattle.fabric_core.proofs.order.AtPlaces.{Joining, Leaving, Moving, Standings}

-- from where to where a packet goes
pub data Leaps (platform : Platform) (frame : Descriptor) : Place → Place → Type 0 where
  Enters : (origin : Origin) → Leaps platform frame (Outbox origin) (Egress (link_of origin))
  Sent : (direction : Direction) → Leaps platform frame (Egress direction) (Wire direction)
  Received : (direction : Direction) → Leaps platform frame (Wire direction) (Ingress direction)
  Rises : (line : DownstreamPort) (above : ℕ) → IsPort platform line → link_above platform (id_below line) ≡ Some above → let_by platform line frame.head.header ≡ None → Leaps platform frame (Ingress (up (id_below line))) (Egress (up above))
  Falls : (lower above : ℕ) → link_above platform lower ≡ Some above → Falling platform lower frame → Leaps platform frame (Ingress (down above)) (Egress (down lower))
  Crosses : (lower : ℕ) (direction : Direction) → IsRelaxed frame.head.header → Leaps platform frame (Ingress (up lower)) (Egress direction)
  Turns : (line : DownstreamPort) (sender peer requester address : ℕ) (address_type : AddressType) → IsPort platform line → holds_bus line (bus_of sender) ≡ true → frame.head.parties ≡ Upward sender → frame.head.header ≡ header.Memory requester address_type address → IsCleared platform sender (header.Memory requester address_type address)
      → direct_at platform.ports address line ≡ Some peer → direct_to platform.ports sender address ≡ Some peer → Leaps platform frame (Ingress (up (id_below line))) (Egress (down peer))
  Returns : is_reply frame.head.header ≡ true → Leaps platform frame (Ingress to_host) (Egress from_host)

-- what begins, where, and in which domain
pub data Starts (w : World) : Entry → Option ℕ → Origin → Type 0 where
  Submits : (function : ℕ) (bytes : List ℕ) → Starts w (Submit function bytes) (place_of_function w.agents.domains function) (origin.Function function)
  Ticks : (function : ℕ) → Starts w (Tick function) (place_of_function w.agents.domains function) (origin.Function function)
  Accesses : (domain : ℕ) (access : _) → Starts w (Mmio access) (place_of w.agents.domains domain) (origin.Host domain)

-- who takes a packet out of flight, where, and where an answer is put
pub data Finishes (platform : Platform) (frame : Descriptor) : Direction → Entry → Place → Type 0 where
  Stopped : (line : DownstreamPort) (report : Option Violation) → IsPort platform line → frame.head.parties ≡ Upward (id_below line) → course_of (of_platform platform) (downstream_config platform line) frame.head ≡ Stop report
      → IsSound platform (up (id_below line)) frame → Finishes platform frame (up (id_below line)) (Refuse frame.number) (Egress (down (id_below line)))
  CarriedByHost : IsOwnRequest platform frame → Finishes platform frame to_host (Carry frame.number) (Outbox (origin.Host frame.domain))
  CarriedByFunction : (function : ℕ) → IsRequestTo platform frame function → Finishes platform frame (to_function function) (Carry frame.number) (Outbox (origin.Function function))

-- whom a completion answers
pub data IsLast (frame : Descriptor) : Direction → Type 0 where
  AtHost : IsLast frame to_host
  AtFunction : (function : ℕ) → IsFor (origin.Function function) frame.head.parties → IsLast frame (to_function function)

-- what was emitted, if anything, joins a place
abbrev pub JoiningIf : Standings → Standings → Place → Option Descriptor → Type 0
JoiningIf f f' target None = (r : Place) → f' r ≡ f r
JoiningIf f f' target (Some frame) = Joining f f' target frame

pub data Motion (platform : Platform) (w w' : World) : Type 0 where
  -- nothing moves
  Stays : ((r : Place) → standing_at w' r ≡ standing_at w r) → w'.agents.domains ≡ w.agents.domains → Motion platform w w'
  -- a packet goes on
  Goes : (source target : Place) (frame : Descriptor) → Leaps platform frame source target → Moving (standing_at w) (standing_at w') source target frame → w'.agents.domains ≡ w.agents.domains → Motion platform w w'
  -- a domain begins something
  Begins : (entry : Entry) (place : Option ℕ) (origin : Origin) (m : Made) → Starts w entry place origin → made_at w.agents.domains entry place ≡ Some m → JoiningIf (standing_at w) (standing_at w') (Outbox origin) m.sent → w'.agents.domains ≡ m.domains
      → Motion platform w w'
  -- a packet ends, and may be answered
  Ends : (direction : Direction) (entry : Entry) (target : Place) (frame : Descriptor) (m : Made) (between : Standings) → Finishes platform frame direction entry target → IsFlown w.agents.domains frame → made w.agents.domains frame.domain entry ≡ Some m
      → Leaving (standing_at w) between (Ingress direction) frame → JoiningIf between (standing_at w') target m.sent → w'.agents.domains ≡ m.domains → Motion platform w w'
  -- a completion reaches whom it answers
  Delivers : (direction : Direction) (frame : Descriptor) (m : Made) → IsLast frame direction → IsFlown w.agents.domains frame → made w.agents.domains frame.domain (Deliver frame.number) ≡ Some m
      → Leaving (standing_at w) (standing_at w') (Ingress direction) frame → w'.agents.domains ≡ m.domains → Motion platform w w'
