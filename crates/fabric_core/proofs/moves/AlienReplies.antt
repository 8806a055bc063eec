-- What is sent in return for an alien packet: only a request has anything sent in return, and what functions send is none.
use Rattle.std.proofs.Common.{◌≡◌, ◌⊎◌, inl, inr, ℕ, ◌==◌, Bool, true, false, cond, List, Option, Some, None, refl, sym, ap, ◌∙◌, subst}
use Rattle.std.specs.Option.{IfSome}
use Rattle.std.proofs.lemmas.Option.{same_Some}
use Rattle.fab_types.specs.Id.{host_of}
use Rattle.fab_types.specs.declared.faults.malformed.Malformed.{Malformed}
use Rattle.fab_types.specs.declared.head.Parties.{Parties}
use Rattle.fab_types.specs.declared.head.Parties.TheVariants.{Upward, Downward, Answer}
use Rattle.fab_types.specs.declared.place.Place.{Place}
use Rattle.fab_types.specs.declared.place.Place.TheVariants.{Ingress}
use Rattle.fab_types.specs.declared.place.Way.TheVariants.{Down}
use Rattle.fab_types.specs.declared.status.Status.{Status}
use Rattle.platform.specs.declared.parts.DownstreamPort.{DownstreamPort}
use Rattle.platform.specs.Owners.{is_own_function}
use Rattle.platform.specs.Share.{Share}
use Rattle.platform.specs.Tree.{is_switch}
use Rattle.tlp_view.specs.Bytes.{packet_of}
use Rattle.tlp_view.specs.Malformed.{malformed}
use Rattle.tlp_view.specs.Packet.{Packet, status_in}
use Rattle.tlp_view.specs.View.{address_type_in}
use Rattle.domain.specs.Aliens.{alien, at_function, at_function_with, at_host, at_host_with, completion_at_host, is_excluded, received_if, reception_by, reception_unless}
use Rattle.domain.specs.Receptions.{received}
use Rattle.domain_state.specs.State.{Alone, Change}
use Rattle.request_handling.specs.declared.fate.Fate.{Fate}
use Rattle.request_handling.specs.declared.fate.Fate.TheVariants.{Vanish, Refused, ToHost, Direct}
use Rattle.request_handling.specs.declared.taker.Taker.{Taker}
use Rattle.request_handling.specs.declared.taker.Taker.TheVariants.{Host, Function, Port, Upstream}
use Rattle.request_handling.specs.AtFunctions.{or_discarded, request_at_function}
use Rattle.request_handling.specs.Carries.{refusal_by}
use Rattle.request_handling.specs.Emissions.{Emission}
use Rattle.request_handling.specs.Fates.{fate_at}
use Rattle.request_handling.specs.Heads.{header_unless, target_for}
use Rattle.request_handling.specs.Requests.{at_port, request_at_host}
use Rattle.request_handling.specs.Takers.{taker_below, taker_of}
use Rattle.guarded_routes.proofs.Bytes.{no_status}
use Rattle.fabric_core.specs.MovesLeft.{is_request}
use Rattle.fabric_core.proofs.effect.Answered.{refused_unless}
use Rattle.fabric_core.proofs.moves.Replies.{IsQuiet, function_quiet}
use Rattle.fabric_core.proofs.moves.Headers.{non_posted_asks, request_of}

-- if anything is emitted, these bytes were a request
abbrev pub Asks : Parties → List ℕ → Option Emission → Type 0
Asks parties bytes reply = IfSome reply (λ e. is_request (header_unless (malformed bytes) parties bytes) ≡ true)

-- ---- who takes it

port_asks : (ports : List DownstreamPort) (port : DownstreamPort) (bytes : List ℕ) (sender : Parties) → Asks sender bytes (at_port ports port bytes sender).reply
port_asks ports port bytes (Upward function) = go (fate_at ports function port bytes) refl
  where
    go : (f : Fate) → fate_at ports function port bytes ≡ f → Asks (Upward function) bytes (or_discarded (refusal_by port.id function bytes f)).reply
    go Vanish e = tt
    go (Refused status) e = non_posted_asks (malformed bytes) (Upward function) bytes (refused_unless (malformed bytes) ports function port bytes status e)
    go ToHost e = tt
    go (Direct peer) e = tt
port_asks ports port bytes (Downward function) = tt
port_asks ports port bytes (Answer answerer addressee) = tt

-- what is emitted, if anything
given : (P : Type 0) → P → (reply : Option Emission) → IfSome reply (λ e. P)
given P p None = tt
given P p (Some e) = p

module _ (s : Alone) (bytes : List ℕ) (sender : Parties) where
  -- a completion makes neither the host nor a function emit anything
  module _ (share : Share) (t : Packet) (P : Type 0) (asks : status_in t.body ≡ None → P) where
    host_asks : IfSome (received s bytes (at_host share s sender t)).emission (λ e. P)
    host_asks = go (status_in t.body) refl
      where
        completes : (status : Status) (b : Bool) → (target_for sender t.requester == host_of share.domain) ≡ b → IfSome (received s bytes (completion_at_host share s.open_tags sender t status)).emission (λ e. P)
        completes status true own = rw own tt
        completes status false own = rw own tt

        go : (o : Option Status) → status_in t.body ≡ o → IfSome (received s bytes (at_host_with o share s sender t)).emission (λ e. P)
        go None is = given P (asks is) (request_at_host share s.frames t (address_type_in t)).reply
        go (Some status) is = completes status (target_for sender t.requester == host_of share.domain) refl

    function_asks : (function : ℕ) → IfSome (received s bytes (at_function share s function sender t)).emission (λ e. P)
    function_asks function = go (status_in t.body) refl
      where
        go : (o : Option Status) → status_in t.body ≡ o → IfSome (received s bytes (at_function_with o share s function sender t)).emission (λ e. P)
        go None is = given P (asks is) (request_at_function share s.registers function t).reply
        go (Some status) is = tt

  taker_asks : (cause : Option Malformed) → malformed bytes ≡ cause → (share : Share) (taker : Taker) → Asks sender bytes (received s bytes (reception_unless cause share s bytes sender taker)).emission
  taker_asks (Some cause) e share taker = tt
  taker_asks None e share taker = go taker
    where
      well : status_in (packet_of bytes).body ≡ None → is_request (header_unless (malformed bytes) sender bytes) ≡ true
      well is = ap (λ (cause : Option Malformed). is_request (header_unless cause sender bytes)) e ∙ request_of sender (packet_of bytes) (no_status bytes is)

      go : (taker : Taker) → Asks sender bytes (received s bytes (reception_unless None share s bytes sender taker)).emission
      go Host = host_asks share (packet_of bytes) (is_request (header_unless (malformed bytes) sender bytes) ≡ true) well
      go (Function function) = function_asks share (packet_of bytes) (is_request (header_unless (malformed bytes) sender bytes) ≡ true) well function
      go (Port port) = port_asks share.ports port bytes sender
      go Upstream = tt

  -- ---- at a function

  function_sends : (share : Share) (function : ℕ) (t : Packet) → IsQuiet (received s bytes (at_function share s function sender t)).emission
  function_sends share function t = go (status_in t.body)
    where
      go : (o : Option Status) → IsQuiet (received s bytes (at_function_with o share s function sender t)).emission
      go None = function_quiet share s.registers function t
      go (Some status) = tt

  -- what stands at the lower end of a link
  module _ (share : Share) (function : ℕ) where
    quiet_by : (cause : Option Malformed) (taker : Taker) → (taker ≡ Function function) ⊎ (taker ≡ Upstream) → IsQuiet (received s bytes (reception_unless cause share s bytes sender taker)).emission
    quiet_by (Some cause) taker is = tt
    quiet_by None taker (inl is) = subst (λ (x : Taker). IsQuiet (received s bytes (reception_unless None share s bytes sender x)).emission) (sym is) (function_sends share function (packet_of bytes))
    quiet_by None taker (inr is) = subst (λ (x : Taker). IsQuiet (received s bytes (reception_unless None share s bytes sender x)).emission) (sym is) tt

    below : (own switch : Bool) (taker : Taker) → cond own (Some (Function function)) (cond switch (Some Upstream) None) ≡ Some taker → (taker ≡ Function function) ⊎ (taker ≡ Upstream)
    below true switch taker e = inl (sym (same_Some (Function function) taker e))
    below false true taker e = inr (sym (same_Some Upstream taker e))
    below false false taker e = absurd cc

    quiet_below : (taker : Option Taker) (c : Change) → taker_below share function ≡ taker → received_if s bytes (reception_by share s bytes sender taker) ≡ Some c → IsQuiet c.emission
    quiet_below None c is e = absurd cc
    quiet_below (Some taker) c is e =
        subst (λ (x : Change). IsQuiet x.emission) (same_Some (received s bytes (reception_unless (malformed bytes) share s bytes sender taker)) c e)
        (quiet_by (malformed bytes) taker (below (is_own_function share function) (is_switch share.switches function) taker is))

    quiet_unless : (excluded : Bool) (c : Change) → received_if s bytes (cond excluded None (reception_by share s bytes sender (taker_below share function))) ≡ Some c → IsQuiet c.emission
    quiet_unless true c e = absurd cc
    quiet_unless false c e = quiet_below (taker_below share function) c refl e

-- ---- the entry of one

module _ (share : Share) (s : Alone) (place : Place) (sender : Parties) (bytes : List ℕ) where
  asks_unless : (excluded : Bool) (taker : Option Taker) (c : Change) → received_if s bytes (cond excluded None (reception_by share s bytes sender taker)) ≡ Some c → Asks sender bytes c.emission
  asks_unless true taker c e = absurd cc
  asks_unless false None c e = absurd cc
  asks_unless false (Some taker) c e =
      subst (λ (x : Change). Asks sender bytes x.emission) (same_Some (received s bytes (reception_unless (malformed bytes) share s bytes sender taker)) c e) (taker_asks s bytes sender (malformed bytes) refl share taker)

  pub alien_asks : (c : Change) → alien share s place sender bytes ≡ Some c → Asks sender bytes c.emission
  alien_asks c e = asks_unless (is_excluded share bytes) (taker_of share place) c e

-- at a function nothing that is emitted is a request
pub alien_quiet : (share : Share) (s : Alone) (function : ℕ) (sender : Parties) (bytes : List ℕ) (c : Change) → alien share s (Ingress (record { lower = function; way = Down })) sender bytes ≡ Some c → IsQuiet c.emission
alien_quiet share s function sender bytes c e = quiet_unless s bytes sender share function (is_excluded share bytes) c e
