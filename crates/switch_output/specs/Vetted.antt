-- Packets whose Requester ID was looked up (PCIe 4.0, 2.2.6.2).
use Rattle.std.specs.Prelude.{◌≡◌, ℕ, ◌==◌, Bool, true, false, ◌||◌, not, List, Option, Some, None, option_and_then, option_map}
use Rattle.std.specs.List.{list_all}
use Rattle.fab_types.specs.declared.head.Header.{Header}
use Rattle.frame_log.specs.Descriptor.{Descriptor}
use Rattle.platform.specs.declared.parts.DownstreamPort.{DownstreamPort}
use Rattle.platform.specs.Owners.{owner_of}
use Rattle.platform.specs.Share.{is_guarded_port}
use Rattle.bridge.specs.Bridges.{Routes}
use Rattle.acs.specs.Vetting.{requester_of, is_request}

pub record Vetted : Type 0 where
  pub frame : Descriptor
  pub owner : Option ℕ  -- the domain that owns the Requester ID of a request, if one does
  pub tree : Routes  -- the switches and ports of the layout by which it was looked up

-- the packet of one, if there is one
abbrev pub frame_in : Option Vetted → Option Descriptor
frame_in kept = option_map (λ packet. packet.frame) kept

-- the domain that owns the Requester ID of a request
abbrev pub requester_owner : List DownstreamPort → Header → Option ℕ
requester_owner ports header = option_and_then (owner_of ports) (requester_of header)

abbrev pub is_owner : Option ℕ → ℕ → Bool
is_owner None domain = false
is_owner (Some owner) domain = owner == domain

-- is it no request, or one whose Requester ID is owned by the domain that made it?
abbrev pub is_own : Option ℕ → Descriptor → Bool
is_own owner frame = not (is_request frame.head.header) || is_owner owner frame.domain

-- where all five controls are set on each port, a packet on its way must be
abbrev pub may_go_on : List DownstreamPort → Descriptor → Bool
may_go_on ports frame = not (list_all is_guarded_port ports) || is_own (requester_owner ports frame.head.header) frame

-- what the type keeps
pub record IsVetted (v : Vetted) : Type 0 where
  pub owner : v.owner ≡ requester_owner v.tree.ports v.frame.head.header
  pub may_go_on : may_go_on v.tree.ports v.frame ≡ true
