-- Where sound packets end: that the machine of their domain has a case for each there.
use Rattle.std.specs.Prelude.{◌≡◌, ◌⊎◌, ℕ, true, Some, None}
use Rattle.std.specs.Option.{IsSome}
use Rattle.fab_types.specs.declared.head.AddressType.TheVariants.{Untranslated}
use Rattle.fab_types.specs.declared.head.Answerer.{Answerer}
use Rattle.fab_types.specs.declared.head.Header.TheVariants as header
use Rattle.fab_types.specs.declared.head.Parties.{Parties}
use Rattle.fab_types.specs.declared.head.Parties.TheVariants.{Upward, Downward, Answer}
use Rattle.fab_types.specs.declared.origin.Origin.{Origin}
use Rattle.frame_log.specs.Descriptor.{Descriptor}
use Rattle.platform.specs.Egress.{direct_to}
use Rattle.platform.specs.Owners.{owner_of}
use Rattle.platform.specs.Platform.{Platform}
use Rattle.layout.specs.Views.{share_of_domain}
use Rattle.domain.specs.declared.entry.Entry.{Entry}
use Rattle.request_handling.specs.Heads.{head_of}
use Rattle.domain.specs.Machine.{change}
use Rattle.request_handling.specs.Emissions.{Emission}
use Rattle.domain_state.specs.State.{Alone, item_at}
use Rattle.guarded_routes.specs.Guarded.{IsFunctionOf, has_id}

-- the packet of an emission that is in flight
pub record Flies (state : Alone) (frame : Descriptor) : Type 0 where
  pub emission : Emission
  pub there : item_at state.flight frame.number ≡ Some emission
  pub head : frame.head ≡ head_of emission

-- is the entry legal for the machine of the packet's domain?
abbrev pub IsLegal : Platform → Alone → Descriptor → Entry → Type 0
IsLegal platform state frame entry = IsSome (change (share_of_domain platform frame.domain) state entry)

-- a memory request of a function of the domain, in the name of an ID of the domain, that goes directly to no other function
pub record IsOwnRequest (platform : Platform) (frame : Descriptor) : Type 0 where
  pub function : ℕ
  pub own : IsFunctionOf platform frame.domain function
  pub parties : frame.head.parties ≡ Upward function
  pub requester : ℕ
  pub address : ℕ
  pub plain : frame.head.header ≡ header.Memory requester Untranslated address
  pub held : has_id platform function requester ≡ true
  pub owner : owner_of platform.ports requester ≡ Some frame.domain
  pub straight : direct_to platform.ports function address ≡ None

-- a memory request of a function of the domain, in the name of an ID of the domain, that goes directly to this function
pub record IsPeerRequest (platform : Platform) (frame : Descriptor) (function : ℕ) : Type 0 where
  pub sender : ℕ
  pub own : IsFunctionOf platform frame.domain sender
  pub parties : frame.head.parties ≡ Upward sender
  pub requester : ℕ
  pub address : ℕ
  pub plain : frame.head.header ≡ header.Memory requester Untranslated address
  pub held : has_id platform sender requester ≡ true
  pub owner : owner_of platform.ports requester ≡ Some frame.domain
  pub direct : direct_to platform.ports sender address ≡ Some function

-- a request to this function, by the host or by such another
abbrev pub IsRequestTo : Platform → Descriptor → ℕ → Type 0
IsRequestTo platform frame function = (frame.head.parties ≡ Downward function) ⊎ IsPeerRequest platform frame function

-- a completion for this addressee
abbrev pub IsFor : Origin → Parties → Type 0
IsFor origin parties = (answerer : Answerer) × (parties ≡ Answer answerer (Some origin))
