-- What holds of each packet on a link of a guarded layout, wherever it waits or travels there.
use Rattle.std.specs.Prelude.{◌≡◌, ℕ, ◌<◌, ◌⊎◌, Bool, true, false, Option, Some, None}
use Rattle.fab_types.specs.Id.{bus_of, host_of}
use Rattle.fab_types.specs.declared.head.AddressType.{AddressType}
use Rattle.fab_types.specs.declared.head.AddressType.TheVariants.{Untranslated}
use Rattle.fab_types.specs.declared.head.Answerer.{Answerer}
use Rattle.fab_types.specs.declared.head.Answerer.TheVariants as by
use Rattle.fab_types.specs.declared.head.Header.{Header}
use Rattle.fab_types.specs.declared.head.Header.TheVariants as header
use Rattle.fab_types.specs.declared.head.Parties.{Parties}
use Rattle.fab_types.specs.declared.head.Parties.TheVariants.{Upward, Downward, Answer}
use Rattle.fab_types.specs.declared.place.Direction.{Direction}
use Rattle.fab_types.specs.declared.origin.Origin.{Origin}
use Rattle.fab_types.specs.declared.origin.Origin.TheVariants.{Function, Host}
use Rattle.fab_types.specs.declared.place.Way.{Way}
use Rattle.fab_types.specs.declared.place.Way.TheVariants.{Up, Down}
use Rattle.frame_log.specs.Descriptor.{Descriptor}
use Rattle.platform.specs.declared.parts.DownstreamPort.{DownstreamPort}
use Rattle.platform.specs.Egress.{direct_at, direct_to}
use Rattle.platform.specs.Owners.{first_port, holds_bus}
use Rattle.platform.specs.Platform.{Platform}
use Rattle.platform.specs.Tree.{port_at}
use Rattle.bridge.specs.Routes.{target_of}
use Rattle.guarded_routes.specs.Guarded.{IsFunctionOf, has_id, holds_if_any, is_below}

abbrev pub is_reply : Header → Bool
is_reply header.Malformed = false
is_reply (header.Memory requester address_type address) = false
is_reply (header.OtherRequest requester) = false
is_reply (header.Completion target relaxed_ordering) = true

-- an ID by which completions reach somebody of the domain: its host, or the function whose first port has the bus below it
pub data Reaches (platform : Platform) (domain id : ℕ) : Option Origin → Type 0 where
  ByHost : id ≡ host_of domain → Reaches platform domain id (Some (Host domain))
  ByBus : (function : ℕ) → IsFunctionOf platform domain function → has_id platform function id ≡ true → Reaches platform domain id (Some (Function function))

-- what the first port of its sender lets pass: a memory request that claims no translation, in the name of an ID below that port
abbrev pub IsCleared : Platform → ℕ → Header → Type 0
IsCleared platform function header.Malformed = ⊥
IsCleared platform function (header.Memory requester address_type address) = (address_type ≡ Untranslated) × (has_id platform function requester ≡ true)
IsCleared platform function (header.OtherRequest requester) = ⊥
IsCleared platform function (header.Completion target relaxed_ordering) = ⊥

-- to which function a port lets a request with this header through that comes up to it, if it lets it through to any
abbrev pub let_by : Platform → DownstreamPort → Header → Option ℕ
let_by platform port header.Malformed = None
let_by platform port (header.Memory requester address_type address) = direct_at platform.ports address port
let_by platform port (header.OtherRequest requester) = None
let_by platform port (header.Completion target relaxed_ordering) = None

-- what a function of the domain sent, on its way up: anything but a completion below its first port, and above that what the
-- port lets pass. No port that it passed lets it through to another port of its switch: of the ports above a function the
-- lower have the later buses
pub record Rising (platform : Platform) (lower : ℕ) (frame : Descriptor) : Type 0 where
  pub function : ℕ
  pub own : IsFunctionOf platform frame.domain function
  pub parties : frame.head.parties ≡ Upward function
  pub request : is_reply frame.head.header ≡ false
  pub below : is_below platform lower function ≡ true
  pub cleared : (lower ≡ function) ⊎ IsCleared platform function frame.head.header
  pub passed : (port : DownstreamPort) → port_at platform.ports port.id ≡ Some port → holds_bus port (bus_of function) ≡ true → bus_of lower < port.secondary → let_by platform port frame.head.header ≡ None

-- an answer of a function of the domain, on its way up to whom its target reaches
pub record Replying (platform : Platform) (lower : ℕ) (frame : Descriptor) : Type 0 where
  pub function : ℕ  -- that answers
  pub own : IsFunctionOf platform frame.domain function
  pub below : is_below platform lower function ≡ true
  pub target : ℕ
  pub relaxed_ordering : Bool
  pub reply : frame.head.header ≡ header.Completion target relaxed_ordering
  pub addressee : Option Origin
  pub parties : frame.head.parties ≡ Answer (by.Function function) addressee
  pub reaches : Reaches platform frame.domain target addressee

-- a memory request to a function: by the host, or directly by another function of the domain, whose first port let it pass
pub data IsAsked (platform : Platform) (domain function requester : ℕ) (address_type : AddressType) (address : ℕ) (parties : Parties) : Type 0 where
  ByHost : parties ≡ Downward function → IsAsked platform domain function requester address_type address parties
  Directly : (sender : ℕ) → IsFunctionOf platform domain sender → parties ≡ Upward sender → IsCleared platform sender (header.Memory requester address_type address) → direct_to platform.ports sender address ≡ Some function
      → IsAsked platform domain function requester address_type address parties

-- what a function is to take: a memory request to it, whose requester completions reach in the domain, or a completion for it
abbrev pub IsMeantFor : Platform → ℕ → ℕ → Parties → Header → Type 0
IsMeantFor platform domain function parties header.Malformed = ⊥
IsMeantFor platform domain function parties (header.Memory requester address_type address) =
    IsAsked platform domain function requester address_type address parties × (addressee : Option Origin) × Reaches platform domain requester addressee
IsMeantFor platform domain function parties (header.OtherRequest requester) = ⊥
IsMeantFor platform domain function parties (header.Completion target relaxed_ordering) =
    (answerer : Answerer) × (parties ≡ Answer answerer (Some (Function function)))

-- on its way down to a function of the domain, whose first port holds what the packet is routed by
pub record Falling (platform : Platform) (lower : ℕ) (frame : Descriptor) : Type 0 where
  pub function : ℕ
  pub own : IsFunctionOf platform frame.domain function
  pub below : is_below platform lower function ≡ true
  pub held : holds_if_any (first_port platform.ports function) (target_of frame.head.header) ≡ true
  pub meant : IsMeantFor platform frame.domain function frame.head.parties frame.head.header

abbrev pub IsSoundOn : Platform → ℕ → Way → Descriptor → Type 0
IsSoundOn platform lower Up frame = Rising platform lower frame ⊎ Replying platform lower frame
IsSoundOn platform lower Down frame = Falling platform lower frame

-- a packet is where its domain has a case for it: on a direction of a link, named by the ID at the link's lower end
abbrev pub IsSound : Platform → Direction → Descriptor → Type 0
IsSound platform direction frame = IsSoundOn platform direction.lower direction.way frame
