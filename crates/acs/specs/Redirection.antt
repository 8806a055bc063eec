-- What a downstream port makes of the route of a packet that comes up (PCIe 4.0, 6.12.1.1): how redirection and egress
-- control go together is 6.12.3, why Relaxed Ordering decides for completions 6.12.5.
use Rattle.std.specs.Prelude.{◌≡◌, ℕ, Bool, true, false, ◌&&◌, ◌||◌, not, Result, Ok, Err, if◌then◌else◌}
use Rattle.fab_types.specs.Controls.{controls_egress, redirects_requests, redirects_completions, forwards_upstream}
use Rattle.fab_types.specs.declared.head.Header.{Header}
use Rattle.fab_types.specs.declared.head.Header.TheVariants as header
use Rattle.platform.specs.declared.parts.DownstreamPort.{DownstreamPort}
use Rattle.bridge.specs.declared.route.Route.{Route}
use Rattle.bridge.specs.declared.route.Route.TheVariants.{Up, Port, OwnEgress, Nobody}
use Rattle.fab_types.specs.declared.violation.Check.TheVariants.{EgressControl}
use Rattle.platform.specs.Egress.{lets_through}
use Rattle.acs.specs.declared.vetting.Verdict.{Verdict}
use Rattle.acs.specs.declared.vetting.Verdict.TheVariants.{Violation}
use Rattle.acs.specs.Vetting.{is_request}

-- to another port of the switch
abbrev pub is_to_port : Route → Bool
is_to_port Up = false
is_to_port (Port other) = true
is_to_port OwnEgress = false
is_to_port Nobody = false

abbrev pub is_to_own_egress : Route → Bool
is_to_own_egress Up = false
is_to_own_egress (Port other) = false
is_to_own_egress OwnEgress = true
is_to_own_egress Nobody = false

-- a completion with Relaxed Ordering clear
abbrev pub is_strict_completion : Header → Bool
is_strict_completion header.Malformed = false
is_strict_completion (header.Memory requester address_type address) = false
is_strict_completion (header.OtherRequest requester) = false
is_strict_completion (header.Completion target relaxed_ordering) = not relaxed_ordering

-- to another port of the switch to which the port's vector lets requests through
abbrev pub is_let_through : DownstreamPort → Route → Bool
is_let_through port Up = false
is_let_through port (Port other) = lets_through port other
is_let_through port OwnEgress = false
is_let_through port Nobody = false

-- a request for another port of the switch that may not go there directly
abbrev pub is_peer_request : DownstreamPort → Route → Header → Bool
is_peer_request port route header = is_to_port route && is_request header && not (is_let_through port route)

-- ACS P2P Request Redirect
abbrev pub request_goes_up : DownstreamPort → Route → Header → Bool
request_goes_up port route header = redirects_requests port.controls && is_peer_request port route header

-- ACS P2P Egress Control, where such requests aren't redirected (PCIe 4.0, 6.12.3)
abbrev pub is_blocked : DownstreamPort → Route → Header → Bool
is_blocked port route header = controls_egress port.controls && not (redirects_requests port.controls) && is_peer_request port route header

-- ACS P2P Completion Redirect; with Relaxed Ordering set a completion isn't redirected (PCIe 4.0, 6.12.5)
abbrev pub completion_goes_up : DownstreamPort → Route → Header → Bool
completion_goes_up port route header = redirects_completions port.controls && is_to_port route && is_strict_completion header

-- ACS Upstream Forwarding
abbrev pub own_goes_up : DownstreamPort → Route → Bool
own_goes_up port route = forwards_upstream port.controls && is_to_own_egress route

-- by one of the three
abbrev pub goes_up : DownstreamPort → Route → Header → Bool
goes_up port route header = request_goes_up port route header || completion_goes_up port route header || own_goes_up port route

-- the route that is left, or the violation
abbrev pub redirected : DownstreamPort → Route → Header → Result Route Verdict
redirected port route header =
    if is_blocked port route header then Err (Violation EgressControl)
    else Ok (if goes_up port route header then Up else route)

-- the port lets it through to another port of its switch
pub record GoesDirectly (port : DownstreamPort) (route : Route) (header : Header) : Type 0 where
  pub other : ℕ
  pub routed : route ≡ Port other
  pub lets : lets_through port other ≡ true
  pub goes : redirected port route header ≡ Ok (Port other)
