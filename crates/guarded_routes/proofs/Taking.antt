-- The machine of a domain has a case for each sound packet at a function of the domain, and for what a first port stops.
use Rattle.std.proofs.Common.{◌≡◌, ℕ, ◌==◌, ◌⊎◌, inl, inr, Bool, true, false, cond, ◌&&◌, Option, Some, None, List, refl, sym, ap, ◌∙◌, subst, arith}
use Rattle.std.specs.Option.{IsSome}
use Rattle.std.proofs.lemmas.Bool.{and_from, eq-eqb, false≢true}
use Rattle.fab_types.specs.Id.{bus_of}
use Rattle.fab_types.specs.declared.faults.malformed.Malformed.{Malformed}
use Rattle.fab_types.specs.declared.head.AddressType.{AddressType}
use Rattle.fab_types.specs.declared.head.Answerer.TheVariants as by
use Rattle.fab_types.specs.declared.head.Head.{Head}
use Rattle.fab_types.specs.declared.head.Header.{Header}
use Rattle.fab_types.specs.declared.head.Header.TheVariants as header
use Rattle.fab_types.specs.declared.head.Parties.{Parties}
use Rattle.fab_types.specs.declared.head.Parties.TheVariants.{Upward, Downward, Answer}
use Rattle.fab_types.specs.declared.origin.Origin.{Origin}
use Rattle.fab_types.specs.declared.origin.Origin.TheVariants.{Function}
use Rattle.fab_types.specs.declared.violation.Violation.{Violation}
use Rattle.frame_log.specs.Descriptor.{Descriptor}
use Rattle.platform.specs.declared.parts.DownstreamPort.{DownstreamPort}
use Rattle.platform.specs.Egress.{holder_beside, lets_through}
use Rattle.platform.specs.Owners.{first_port, holds_address, is_function, is_own_function}
use Rattle.platform.specs.Platform.{Platform}
use Rattle.platform.specs.Share.{is_guarded_port}
use Rattle.platform.specs.Tree.{id_below, port_leading_to}
use Rattle.layout.specs.Views.{share_of_domain}
use Rattle.bridge.specs.Bridges.{of_platform}
use Rattle.bridge.specs.declared.route.Route.TheVariants as to
use Rattle.port.specs.declared.course.Forwarding.TheVariants.{Stop}
use Rattle.port.specs.Configs.{Config, downstream_config, lane_to}
use Rattle.port.specs.Courses.{course_of, down_lane, up_by}
use Rattle.tlp_view.specs.Bytes.{packet_of}
use Rattle.tlp_view.specs.Kinds.{is_completion}
use Rattle.tlp_view.specs.Malformed.{malformed}
use Rattle.domain.specs.declared.entry.Entry.{Entry}
use Rattle.domain.specs.declared.entry.Entry.TheVariants.{Carry, Refuse}
use Rattle.request_handling.specs.declared.fate.Fate.{Fate}
use Rattle.request_handling.specs.declared.fate.Fate.TheVariants.{Vanish, Refused, ToHost, Direct}
use Rattle.request_handling.specs.Carries.{carriage_of, port_id, refusal_by, refusal_of}
use Rattle.domain_state.specs.Ends.{conclude}
use Rattle.request_handling.specs.Fates as fates
use Rattle.request_handling.specs.Heads.{head_of, header_unless, packet_header}
use Rattle.domain.specs.Machine.{carry, refuse, replay}
use Rattle.request_handling.specs.Emissions.{Emission}
use Rattle.domain_state.specs.State.{Alone}
use Rattle.domain.proofs.PageIds.{own_page}
use Rattle.guarded_routes.specs.FirstPorts.{IsGuardedFirst, by_fate, report_at, route_beside, route_for, sent_by}
use Rattle.guarded_routes.specs.Ends.{Flies, IsFor, IsLegal, IsPeerRequest, IsRequestTo}
use Rattle.guarded_routes.specs.Guarded.{IsFunctionOf, IsGuarded}
use Rattle.guarded_routes.specs.Sound.{Falling, IsAsked, IsMeantFor, Replying, Rising, is_reply}
use Rattle.guarded_routes.specs.Ways.{Passes}
use Rattle.guarded_routes.proofs.Agreement.{agrees}
use Rattle.guarded_routes.proofs.Below.{Under}
use Rattle.guarded_routes.proofs.Finds.{find_all, find_any, some, some_is}
use Rattle.guarded_routes.proofs.Homes.{home_of}
use Rattle.guarded_routes.proofs.Hosts.{cleared_end, some_map}
use Rattle.guarded_routes.proofs.Nodes.{At, only_here, over_is}
use Rattle.guarded_routes.proofs.Owners.{below_owner}
use Rattle.guarded_routes.proofs.Passing.{bus_held, first_leads, first_port_of, passes, under}
use Rattle.guarded_routes.proofs.Trees.{IsPort}

-- what isn't stopped goes up, or to another port
never_stops : (config : Config) (line : DownstreamPort) (head : Head) (outside : Bool) (o : Option DownstreamPort) (stop : Option Violation) → up_by config line head (cond outside to.Up (route_beside line o)) ≡ Stop stop → ⊥
never_stops config line head true o stop e = absurd cc
never_stops config line head false None stop e = absurd cc
never_stops config line head false (Some other) stop e = by (lets_through line other.id) e
  where
    down : (lane : Option ℕ) → down_lane lane ≡ Stop stop → ⊥
    down None e = absurd cc
    down (Some lane) e = absurd cc

    by : (b : Bool) → up_by config line head (cond b (to.Port other.id) to.Up) ≡ Stop stop → ⊥
    by true e = down (lane_to config.exits other.id) e
    by false e = absurd cc

pub route_never_stops : (ports : List DownstreamPort) (config : Config) (line : DownstreamPort) (head : Head) (h : Header) (stop : Option Violation) → up_by config line head (route_for ports line h) ≡ Stop stop → ⊥
route_never_stops ports config line head header.Malformed stop e = absurd cc
route_never_stops ports config line head (header.Memory requester address_type address) stop e = never_stops config line head (holds_address line address) (holder_beside ports line address) stop e
route_never_stops ports config line head (header.OtherRequest requester) stop e = absurd cc
route_never_stops ports config line head (header.Completion target relaxed_ordering) stop e = absurd cc

module _ (platform : Platform) (g : IsGuarded platform) where
  -- ---- at a function

  -- what falls to a function is for that function
  pub at_function : (f : ℕ) (frame : Descriptor) → is_function platform.functions f ≡ true → (r : Falling platform f frame) → r.function ≡ f
  at_function f frame listed r =
      let home = home_of platform g.laws f listed in
      let first = first_port_of platform g home.0 f home.1 in
      let other = first_port_of platform g frame.domain r.function r.own in
      let u : Under platform other.port (Some first.port) = under platform g frame.domain r.function f (Some first.port) other (At.Over first.port first.listed first.below) r.below in
      let same : other.port ≡ first.port = only_here platform g other.port first.port (Some first.port) (first_leads platform g home.0 f home.1 first) u refl in
      other.below ∙ (ap id_below same ∙ sym first.below)

  pub home_at : (f : ℕ) (frame : Descriptor) → is_function platform.functions f ≡ true → Falling platform f frame → IsFunctionOf platform frame.domain f
  home_at f frame listed r = subst (IsFunctionOf platform frame.domain) (at_function f frame listed r) r.own

  pub meant_at : (f : ℕ) (frame : Descriptor) → is_function platform.functions f ≡ true → (r : Falling platform f frame) → IsMeantFor platform frame.domain f frame.head.parties frame.head.header
  meant_at f frame listed r = subst (λ (n : ℕ). IsMeantFor platform frame.domain n frame.head.parties frame.head.header) (at_function f frame listed r) r.meant

  meant_reply : (d f : ℕ) (p : Parties) (h : Header) → is_reply h ≡ true → IsMeantFor platform d f p h → IsFor (Function f) p
  meant_reply d f p header.Malformed is m = absurd m
  meant_reply d f p (header.Memory requester address_type address) is m = absurd (false≢true is)
  meant_reply d f p (header.OtherRequest requester) is m = absurd m
  meant_reply d f p (header.Completion target relaxed_ordering) is m = m

  pub asked_by : (f : ℕ) (frame : Descriptor) (requester address : ℕ) (address_type : AddressType) → frame.head.header ≡ header.Memory requester address_type address → IsAsked platform frame.domain f requester address_type address frame.head.parties → IsRequestTo platform frame f
  asked_by f frame requester address address_type same (IsAsked.ByHost parties) = inl parties
  asked_by f frame requester address address_type same (IsAsked.Directly sender own parties cleared direct) = inr (record {
    sender = sender;
    own = own;
    parties = parties;
    requester = requester;
    address = address;
    plain = same ∙ ap (λ (t : AddressType). header.Memory requester t address) cleared.0;
    held = cleared.1;
    owner = below_owner platform g frame.domain sender requester own cleared.1;
    direct = direct;
  })

  meant_request : (f : ℕ) (frame : Descriptor) (h : Header) → frame.head.header ≡ h → is_reply h ≡ false → IsMeantFor platform frame.domain f frame.head.parties h → IsRequestTo platform frame f
  meant_request f frame header.Malformed same is m = absurd m
  meant_request f frame (header.Memory requester address_type address) same is m = asked_by f frame requester address address_type same m.0
  meant_request f frame (header.OtherRequest requester) same is m = absurd m
  meant_request f frame (header.Completion target relaxed_ordering) same is m = absurd (false≢true (sym is))

  pub reply_at : (f : ℕ) (frame : Descriptor) → is_function platform.functions f ≡ true → Falling platform f frame → is_reply frame.head.header ≡ true → IsFor (Function f) frame.head.parties
  reply_at f frame listed r is = meant_reply frame.domain f frame.head.parties frame.head.header is (meant_at f frame listed r)

  pub request_at : (f : ℕ) (frame : Descriptor) → is_function platform.functions f ≡ true → Falling platform f frame → is_reply frame.head.header ≡ false → IsRequestTo platform frame f
  request_at f frame listed r is = meant_request f frame frame.head.header refl is (meant_at f frame listed r)

  -- the function is the domain's own
  pub own_function : (d f : ℕ) → IsFunctionOf platform d f → is_own_function (share_of_domain platform d) f ≡ true
  own_function d f own =
      let first = first_port_of platform g d f own in
      let at = first.below in
      let bus : first.port.secondary ≡ bus_of f = omega (arith, at) in
      and_from _ _ own.listed
      (find_any (λ (q : DownstreamPort). q.id == first.port.id) (λ (q : DownstreamPort). (q.owner == d) && (q.secondary == bus_of f)) platform.ports first.port first.listed
      (and_from _ _ (eq-eqb first.port.owner d first.owner) (eq-eqb first.port.secondary (bus_of f) bus)))

  -- a request of the host accesses the page
  by_host : (f : ℕ) (frame : Descriptor) (state : Alone) (journal : List Entry) → is_function platform.functions f ≡ true → Falling platform f frame → frame.head.parties ≡ Downward f → replay (share_of_domain platform frame.domain) journal ≡ Some state → (fl : Flies state frame)
      → IsSome (carriage_of (share_of_domain platform frame.domain) state.frames state.registers fl.emission.bytes fl.emission.parties)
  by_host f frame state journal listed r to was fl =
      let share = share_of_domain platform frame.domain in
      let page = own_page share journal state f was (own_function frame.domain f (home_at f frame listed r)) in
      let parties : fl.emission.parties ≡ Downward f = ap (λ (h : Head). h.parties) (sym fl.head) ∙ to in
      subst (λ (p : Parties). IsSome (carriage_of share state.frames state.registers fl.emission.bytes p)) (sym parties) (some_map _ _ page)

  -- one that comes directly is answered or discarded
  by_peer : (f : ℕ) (frame : Descriptor) (state : Alone) → (q : IsPeerRequest platform frame f) (fl : Flies state frame) → IsSome (carriage_of (share_of_domain platform frame.domain) state.frames state.registers fl.emission.bytes fl.emission.parties)
  by_peer f frame state q fl =
      subst IsSome
      (sym (cleared_end platform g frame state q.sender q.own q.parties (record { requester = q.requester; address = q.address; plain = q.plain; held = q.held }) fl.emission fl.head (Some f) q.direct)) refl

  -- how a request to a function ends there
  pub accesses : (f : ℕ) (frame : Descriptor) (state : Alone) (journal : List Entry) → is_function platform.functions f ≡ true → Falling platform f frame → is_reply frame.head.header ≡ false
      → replay (share_of_domain platform frame.domain) journal ≡ Some state → Flies state frame → IsLegal platform state frame (Carry frame.number)
  accesses f frame state journal listed r is was fl =
      let share = share_of_domain platform frame.domain in
      subst (λ (o : Option Emission). IsSome (carry share state frame.number o)) (sym fl.there)
      (some_map (conclude state frame.number fl.emission.bytes) (carriage_of share state.frames state.registers fl.emission.bytes fl.emission.parties) (by (request_at f frame listed r is)))
    where
      by : IsRequestTo platform frame f → IsSome (carriage_of (share_of_domain platform frame.domain) state.frames state.registers fl.emission.bytes fl.emission.parties)
      by (inl to) = by_host f frame state journal listed r to was fl
      by (inr q) = by_peer f frame state q fl

  -- ---- at a first port

  -- the port over a function is its first, with all five controls
  pub guarded_first : (line : DownstreamPort) → IsPort platform line → (d : ℕ) → IsFunctionOf platform d (id_below line) → IsGuardedFirst platform.ports (downstream_config platform line) line (id_below line)
  guarded_first line listed d own =
      let first = first_port_of platform g d (id_below line) own in
      let same : first.port ≡ line = some_is first.port line (sym (over_is platform g.laws first.port first.listed) ∙ (ap (port_leading_to platform.ports) (sym first.below) ∙ over_is platform g.laws line listed)) in
      record {
        downstream = refl;
        same_id = refl;
        listed = listed;
        first = first.is ∙ ap some same;
        below = refl;
        held = bus_held platform g d (id_below line) line listed first (subst (λ (q : DownstreamPort). Under platform first.port (Some q)) same Under.Here);
        guarded = find_all (λ (q : DownstreamPort). q.id == line.id) is_guarded_port platform.ports line listed g.controls;
      }

  request_bytes : (p : Parties) (bytes : List ℕ) → is_reply (header_unless (malformed bytes) p bytes) ≡ false → malformed bytes ≡ None → is_completion (packet_of bytes).kind ≡ false
  request_bytes p bytes is well = go (is_completion (packet_of bytes).kind) refl (ap (λ (m : Option Malformed). is_reply (header_unless m p bytes)) (sym well) ∙ is)
    where
      go : (c : Bool) → is_completion (packet_of bytes).kind ≡ c → is_reply (packet_header p (packet_of bytes)) ≡ false → c ≡ false
      go false e h = refl
      go true e h = absurd (false≢true (sym h ∙ replies e))
        where
          replies : is_completion (packet_of bytes).kind ≡ true → is_reply (packet_header p (packet_of bytes)) ≡ true
          replies e = rw e refl

  stopped_fate : (config : Config) (line : DownstreamPort) (head : Head) (port f : ℕ) (bytes : List ℕ) (fate : Fate) (report : Option Violation) (stop : Option Violation) → by_fate platform.ports config line head fate report ≡ Stop stop → IsSome (refusal_by port f bytes fate)
  stopped_fate config line head port f bytes ToHost report stop e = absurd cc
  stopped_fate config line head port f bytes (Direct peer) report stop e = absurd (route_never_stops platform.ports config line head head.header stop e)
  stopped_fate config line head port f bytes Vanish report stop e = refl
  stopped_fate config line head port f bytes (Refused status) report stop e = refl

  refuses_request : (line : DownstreamPort) (frame : Descriptor) (state : Alone) (stop : Option Violation) → IsPort platform line → Rising platform (id_below line) frame → frame.head.parties ≡ Upward (id_below line)
      → course_of (of_platform platform) (downstream_config platform line) frame.head ≡ Stop stop → Flies state frame → IsLegal platform state frame (Refuse frame.number)
  refuses_request line frame state stop listed r parties stopped fl =
      let share = share_of_domain platform frame.domain in
      let f = id_below line in
      let bytes = fl.emission.bytes in
      let own : IsFunctionOf platform frame.domain f = subst (IsFunctionOf platform frame.domain) (same r.function f (sym r.parties ∙ parties)) r.own in
      let sender : fl.emission.parties ≡ Upward f = ap (λ (h : Head). h.parties) (sym fl.head) ∙ parties in
      let is : frame.head ≡ head_of (sent_by f bytes) = fl.head ∙ ap (λ (p : Parties). head_of (record { parties = p; bytes = bytes })) sender in
      let request : is_reply (header_unless (malformed bytes) (Upward f) bytes) ≡ false = ap (λ (h : Head). is_reply h.header) (sym is) ∙ r.request in
      let fate = agrees (of_platform platform) (downstream_config platform line) line f bytes (guarded_first line listed frame.domain own) (request_bytes (Upward f) bytes request) in
      let stops : by_fate platform.ports (downstream_config platform line) line (head_of (sent_by f bytes)) (fates.fate platform.ports f bytes) (report_at line f (head_of (sent_by f bytes))) ≡ Stop stop = sym fate ∙ (ap (course_of (of_platform platform) (downstream_config platform line)) (sym is) ∙ stopped) in
      subst (λ (o : Option Emission). IsSome (refuse share state frame.number o)) (sym fl.there)
      (some_map (conclude state frame.number bytes) (refusal_of share bytes fl.emission.parties)
      (subst (λ (p : Parties). IsSome (refusal_of share bytes p)) (sym sender) (stopped_fate (downstream_config platform line) line (head_of (sent_by f bytes)) (port_id (first_port platform.ports f)) f bytes (fates.fate platform.ports f bytes) _ stop stops)))
    where
      same : (f h : ℕ) → Upward f ≡ Upward h → f ≡ h
      same f h e = cc

  -- what a port stops its sender's machine refuses
  pub refuses : (line : DownstreamPort) (frame : Descriptor) (state : Alone) (stop : Option Violation) → IsPort platform line → Rising platform (id_below line) frame ⊎ Replying platform (id_below line) frame
      → course_of (of_platform platform) (downstream_config platform line) frame.head ≡ Stop stop → Flies state frame → IsLegal platform state frame (Refuse frame.number)
  refuses line frame state stop listed sound stopped fl = go sound (subst (Passes platform line frame) stopped (passes platform g line listed frame sound))
    where
      go : Rising platform (id_below line) frame ⊎ Replying platform (id_below line) frame → frame.head.parties ≡ Upward (id_below line) → IsLegal platform state frame (Refuse frame.number)
      go (inl r) parties = refuses_request line frame state stop listed r parties stopped fl
      go (inr r) parties = absurd (other (id_below line) r.function r.addressee (sym parties ∙ r.parties))
        where
          other : (f h : ℕ) (x : Option Origin) → Upward f ≡ Answer (by.Function h) x → ⊥
          other f h x e = cc
