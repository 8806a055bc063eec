-- What a layout gives one domain, and what it says of the whole tree of ports.
use Rattle.std.specs.Prelude.{ℕ, ◌≤◌, Bool, ◌&&◌, List}
use Rattle.std.specs.List.{list_all}
use Rattle.std.specs.List.Sorted.{IsStrictlyIncreasing}
use Rattle.fab_types.specs.Controls.{validates_source, blocks_translated, redirects_requests, redirects_completions, forwards_upstream}
use Rattle.platform.specs.declared.parts.Switch.{Switch}
use Rattle.platform.specs.declared.parts.DownstreamPort.{DownstreamPort}
use Rattle.platform.specs.declared.parts.EndpointFunction.{EndpointFunction}
use Rattle.platform.specs.declared.parts.Mapping.{Mapping}

pub record Share : Type 0 where
  pub domain : ℕ
  pub budget : ℕ  -- how many begins the domain may make
  pub frames : List ℕ  -- its frames of memory, by their numbers
  pub maps : List Mapping  -- the mappings of its functions
  pub switches : List Switch  -- all switches, ports and functions of the layout
  pub ports : List DownstreamPort
  pub functions : List EndpointFunction

-- all five controls are set
abbrev pub is_guarded_port : DownstreamPort → Bool
is_guarded_port port =
    validates_source port.controls && blocks_translated port.controls && redirects_requests port.controls
    && redirects_completions port.controls && forwards_upstream port.controls

-- all five are set on each port
abbrev pub is_guarded : Share → Bool
is_guarded share = list_all is_guarded_port share.ports

-- the limits of a share
pub record IsShare (share : Share) : Type 0 where
  pub begins : 1 ≤ share.budget
  pub budget : share.budget ≤ 16384
  pub frames : IsStrictlyIncreasing share.frames
