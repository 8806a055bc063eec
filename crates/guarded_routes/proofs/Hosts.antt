-- The machine of a domain has a case for each sound packet of the domain at the host, or the host sends it down.
use Rattle.std.proofs.Common.{◌≡◌, ◌≢◌, ℕ, ◌/◌, ◌≤◌, ◌==◌, ◌⊎◌, inl, inr, Bool, true, false, cond, Option, Some, None, List, option_map, refl, sym, ap, ◌∙◌, subst, arith, nat_lt}
use Rattle.std.specs.Option.{IsSome}
use Rattle.std.proofs.lemmas.Bool.{and_parts, and_from, leb-true, eq-eqb, false≢true, cond-true}
use Rattle.fab_types.specs.Id.{bus_of, host_of}
use Rattle.fab_types.specs.declared.head.AddressType.{AddressType}
use Rattle.fab_types.specs.declared.head.AddressType.TheVariants.{Untranslated}
use Rattle.fab_types.specs.declared.head.Answerer.TheVariants as by
use Rattle.fab_types.specs.declared.head.Header.{Header}
use Rattle.fab_types.specs.declared.head.Header.TheVariants as header
use Rattle.fab_types.specs.declared.head.Parties.{Parties}
use Rattle.fab_types.specs.declared.head.Parties.TheVariants.{Upward, Answer}
use Rattle.fab_types.specs.declared.origin.Origin.{Origin}
use Rattle.fab_types.specs.declared.origin.Origin.TheVariants.{Host}
use Rattle.frame_log.specs.Descriptor.{Descriptor}
use Rattle.platform.specs.declared.parts.Access.TheVariants.{Read, Write}
use Rattle.platform.specs.declared.parts.EndpointFunction.{EndpointFunction}
use Rattle.platform.specs.declared.parts.MapTarget.{MapTarget}
use Rattle.platform.specs.declared.parts.MapTarget.TheVariants.{Frame, Peer}
use Rattle.platform.specs.Egress.{direct_to}
use Rattle.platform.specs.Owners.{bar_of, owner_of, is_function}
use Rattle.platform.specs.Platform.{Platform}
use Rattle.platform.specs.Share.{Share}
use Rattle.platform.specs.Tables.{target_of}
use Rattle.layout.specs.Views.{share_of_domain}
use Rattle.tlp_view.specs.Bytes.{packet_of}
use Rattle.tlp_view.specs.Packet.{Packet, dw_count, status_in}
use Rattle.tlp_view.specs.Runs.{is_write}
use Rattle.domain.specs.declared.entry.Entry.TheVariants.{Carry, Deliver}
use Rattle.request_handling.specs.declared.handling.Handling.{Handling}
use Rattle.tlp_view.specs.Kinds.{is_fetch_add}
use Rattle.request_handling.specs.Answers.{address_of}
use Rattle.request_handling.specs.AtFunctions.{request_at_function}
use Rattle.request_handling.specs.Carries.{carriage_by, carriage_of, forward, is_carried, is_owner, read_from, refused_by_host, serve, serve_add, serve_read, write_to}
use Rattle.domain.specs.Deliveries.{arrival_at, arrival_of}
use Rattle.domain_state.specs.Ends.{conclude}
use Rattle.request_handling.specs.Fates as fates
use Rattle.request_handling.specs.Heads.{head_of}
use Rattle.domain.specs.Machine.{carry, deliver}
use Rattle.request_handling.specs.Emissions.{Emission}
use Rattle.domain_state.specs.State.{Alone}
use Rattle.guarded_routes.specs.Ends.{Flies, IsFor, IsLegal, IsOwnRequest}
use Rattle.guarded_routes.specs.Guarded.{IsFunctionOf, IsGuarded, has_id, top_id}
use Rattle.guarded_routes.specs.Sound.{Falling, IsCleared, Reaches, Replying, Rising, is_reply, let_by}
use Rattle.guarded_routes.proofs.Bytes.{MemoryBytes, goes_on, memory_bytes, status_there}
use Rattle.guarded_routes.proofs.Peers.{none_direct}
use Rattle.guarded_routes.proofs.Finds.{any_found}
use Rattle.guarded_routes.proofs.Below.{not_first, under_root}
use Rattle.guarded_routes.proofs.Homes.{peer_of}
use Rattle.guarded_routes.proofs.Nodes.{At}
use Rattle.guarded_routes.proofs.Owners.{below_owner, small}
use Rattle.guarded_routes.proofs.Passing.{below, first_held, first_port_of, reply_falls, set_at}

pub some_map : {A B : Type 0} (f : A → B) (o : Option A) → IsSome o → IsSome (option_map f o)
some_map f None h = absurd (false≢true h)
some_map f (Some x) h = refl

bar_is : (functions : List EndpointFunction) (f : ℕ) → is_function functions f ≡ true → IsSome (bar_of functions f)
bar_is functions f listed =
    let line = any_found (λ (line : EndpointFunction). line.id == f) functions listed in
    subst (λ (o : Option EndpointFunction). IsSome (option_map (λ (l : EndpointFunction). l.bar) o)) (sym line.is) refl

forwards : (f : ℕ) (t : Packet) (bar : Option ℕ) → IsSome bar → IsSome (forward f t bar)
forwards f t None h = absurd (false≢true h)
forwards f t (Some bar) h = refl

module _ (platform : Platform) (g : IsGuarded platform) where
  -- ---- a request

  -- what came up to the host, as the header has it
  pub record Request (frame : Descriptor) (f : ℕ) : Type 0 where
    pub requester : ℕ
    pub address : ℕ
    pub plain : frame.head.header ≡ header.Memory requester Untranslated address
    pub held : has_id platform f requester ≡ true

  pub cleared_request : (frame : Descriptor) (f : ℕ) (h : Header) → frame.head.header ≡ h → IsCleared platform f h → Request frame f
  cleared_request frame f header.Malformed same c = absurd c
  cleared_request frame f (header.OtherRequest requester) same c = absurd c
  cleared_request frame f (header.Completion target relaxed_ordering) same c = absurd c
  cleared_request frame f (header.Memory requester address_type address) same c =
      record { requester = requester; address = address; plain = same ∙ ap (λ (t : AddressType). header.Memory requester t address) c.0; held = c.1 }

  pub request_of : (frame : Descriptor) (r : Rising platform top_id frame) → Request frame r.function
  request_of frame r = go r.cleared
    where
      go : (top_id ≡ r.function) ⊎ IsCleared platform r.function frame.head.header → Request frame r.function
      go (inl e) =
          let first = first_port_of platform g frame.domain r.function r.own in
          let more = not_first platform g.laws first.port first.listed in
          let at = first.below in
          absurd (omega (arith, e, more, at))
      go (inr c) = cleared_request frame r.function frame.head.header refl c

  -- a table leads to a frame, to a function of the domain, or nowhere
  writes : (d : ℕ) (t : Packet) (o : Option MapTarget) → ((h : ℕ) → o ≡ Some (Peer h) → IsFunctionOf platform d h) → IsSome (write_to (share_of_domain platform d) t o)
  writes d t None peers = refl
  writes d t (Some (Frame k)) peers = refl
  writes d t (Some (Peer h)) peers = forwards h t _ (bar_is platform.functions h (peers h refl).listed)

  reads : (d : ℕ) (frames : List (ℕ × List ℕ)) (t : Packet) (o : Option MapTarget) → ((h : ℕ) → o ≡ Some (Peer h) → IsFunctionOf platform d h) → IsSome (read_from (share_of_domain platform d) frames t o)
  reads d frames t None peers = refl
  reads d frames t (Some (Frame k)) peers = refl
  reads d frames t (Some (Peer h)) peers = forwards h t _ (bar_is platform.functions h (peers h refl).listed)

  -- the host serves each request of the domain
  pub serves : (d : ℕ) (frames : List (ℕ × List ℕ)) (t : Packet) → IsSome (serve (share_of_domain platform d) frames t)
  serves d frames t = go (is_write t.kind)
    where
      read : (b : Bool) → IsSome (cond b (Some (refused_by_host (share_of_domain platform d) t)) (read_from (share_of_domain platform d) frames t (target_of (share_of_domain platform d).maps t.requester (address_of t / 4096) Read)))
      read true = refl
      read false = reads d frames t _ (λ h e. peer_of platform g.laws d t.requester (address_of t / 4096) Read h e)

      other : (b : Bool) → IsSome (cond b (Some (serve_add (share_of_domain platform d) frames t)) (serve_read (share_of_domain platform d) frames t))
      other true = refl
      other false = read (nat_lt 64 (dw_count t.length))

      go : (b : Bool) → IsSome (cond b (write_to (share_of_domain platform d) t (target_of (share_of_domain platform d).maps t.requester (address_of t / 4096) Write)) (cond (is_fetch_add t.kind) (Some (serve_add (share_of_domain platform d) frames t)) (serve_read (share_of_domain platform d) frames t)))
      go true = writes d t _ (λ h e. peer_of platform g.laws d t.requester (address_of t / 4096) Write h e)
      go false = other (is_fetch_add t.kind)

  untranslated_is : (at : AddressType) → at ≡ Untranslated → fates.is_untranslated at ≡ true
  untranslated_is at e = rw e refl

  owner_is : (o : Option ℕ) (d : ℕ) → o ≡ Some d → is_owner o d ≡ true
  owner_is o d e = rw e (eq-eqb d d refl)

  -- what carries a request: the host, or the function to which it goes directly
  abbrev pub carried_so : Share → List (ℕ × List ℕ) → List (ℕ × List ℕ) → Packet → Option ℕ → Option Handling
  carried_so share frames registers t None = serve share frames t
  carried_so share frames registers t (Some peer) = Some (request_at_function share registers peer t)

  -- the bytes of a request, as the header has it
  pub request_bytes : (frame : Descriptor) (f : ℕ) (q : Request frame f) (e : Emission) → frame.head ≡ head_of e → MemoryBytes e.bytes q.requester Untranslated q.address
  request_bytes frame f q e head = memory_bytes e.parties e.bytes q.requester Untranslated q.address (ap (λ h. h.header) (sym head) ∙ q.plain)

  -- its fate: the host, or the function to which a port lets it through
  pub cleared_fate : (frame : Descriptor) (f : ℕ) → IsFunctionOf platform frame.domain f → (q : Request frame f) (e : Emission) → frame.head ≡ head_of e → (to : Option ℕ) → direct_to platform.ports f q.address ≡ to → fates.fate platform.ports f e.bytes ≡ fates.goes_to to
  cleared_fate frame f own q e head to is =
      let first = first_port_of platform g frame.domain f own in
      goes_on platform.ports f first.port e.bytes q.requester q.address first.is (set_at platform g first.port first.listed) (first_held platform g frame.domain f q.requester first q.held) (request_bytes frame f q e head) ∙ ap fates.goes_to is

  -- how a request of a function ends that its first port lets pass
  pub cleared_end : (frame : Descriptor) (state : Alone) (f : ℕ) → IsFunctionOf platform frame.domain f → frame.head.parties ≡ Upward f → (q : Request frame f) (e : Emission) → frame.head ≡ head_of e → (to : Option ℕ) → direct_to platform.ports f q.address ≡ to
      → carriage_of (share_of_domain platform frame.domain) state.frames state.registers e.bytes e.parties ≡ carried_so (share_of_domain platform frame.domain) state.frames state.registers (packet_of e.bytes) to
  cleared_end frame state f own upward q e head to is =
      let share = share_of_domain platform frame.domain in
      let b = request_bytes frame f q e head in
      let parties : e.parties ≡ Upward f = ap (λ h. h.parties) (sym head) ∙ upward in
      let fate = cleared_fate frame f own q e head to is in
      let owner = ap (owner_of platform.ports) b.requester_is ∙ below_owner platform g frame.domain f q.requester own q.held in
      let carried : is_carried share (packet_of e.bytes) ≡ true = and_from _ _ (untranslated_is (packet_of e.bytes).address_type b.type_is) (owner_is (owner_of platform.ports (packet_of e.bytes).requester) frame.domain owner) in
      ap (carriage_of share state.frames state.registers e.bytes) parties ∙ (ap (carriage_by share state.frames state.registers e.bytes) fate ∙ by_one share (packet_of e.bytes) e.bytes to carried refl)
    where
      by_one : (share : Share) (t : Packet) (bytes : List ℕ) (to : Option ℕ) → is_carried share t ≡ true → packet_of bytes ≡ t → carriage_by share state.frames state.registers bytes (fates.goes_to to) ≡ carried_so share state.frames state.registers (packet_of bytes) to
      by_one share t bytes None carried is = cond-true (is_carried share (packet_of bytes)) (serve share state.frames (packet_of bytes)) None (ap (is_carried share) is ∙ carried)
      by_one share t bytes (Some peer) carried is = cond-true (is_carried share (packet_of bytes)) (Some (request_at_function share state.registers peer (packet_of bytes))) None (ap (is_carried share) is ∙ carried)

  -- no port lets a request through that comes up to the host
  pub straight : (frame : Descriptor) (r : Rising platform top_id frame) (q : Request frame r.function) → direct_to platform.ports r.function q.address ≡ None
  straight frame r q = none_direct platform g.laws r.function q.address (λ port listed held.
      let more = not_first platform g.laws port listed in
      subst (λ (h : Header). let_by platform port h ≡ None) q.plain (r.passed port listed held (omega (arith, more))))

  pub own_request : (frame : Descriptor) → Rising platform top_id frame → IsOwnRequest platform frame
  own_request frame r =
      let q = request_of frame r in
      record {
        function = r.function;
        own = r.own;
        parties = r.parties;
        requester = q.requester;
        address = q.address;
        plain = q.plain;
        held = q.held;
        owner = below_owner platform g frame.domain r.function q.requester r.own q.held;
        straight = straight frame r q;
      }

  -- how it ends there
  pub carriage : (frame : Descriptor) (state : Alone) (r : Rising platform top_id frame) (e : Emission) → frame.head ≡ head_of e
      → carriage_of (share_of_domain platform frame.domain) state.frames state.registers e.bytes e.parties ≡ serve (share_of_domain platform frame.domain) state.frames (packet_of e.bytes)
  carriage frame state r e head = let q = request_of frame r in cleared_end frame state r.function r.own r.parties q e head None (straight frame r q)

  pub carries : (frame : Descriptor) (state : Alone) → Rising platform top_id frame → Flies state frame → IsLegal platform state frame (Carry frame.number)
  carries frame state r f =
      let share = share_of_domain platform frame.domain in
      let end = carriage frame state r f.emission f.head in
      subst (λ (o : Option Emission). IsSome (carry share state frame.number o)) (sym f.there)
      (some_map (conclude state frame.number f.emission.bytes) (carriage_of share state.frames state.registers f.emission.bytes f.emission.parties)
      (subst IsSome (sym end) (serves frame.domain state.frames (packet_of f.emission.bytes))))

  -- ---- a completion

  -- one for somebody is delivered
  pub delivers : (frame : Descriptor) (state : Alone) (x : Origin) → IsFor x frame.head.parties → is_reply frame.head.header ≡ true → Flies state frame → IsLegal platform state frame (Deliver frame.number)
  delivers frame state x is reply f =
      let bytes = f.emission.bytes in
      let parties : f.emission.parties ≡ Answer is.0 (Some x) = ap (λ h. h.parties) (sym f.head) ∙ is.1 in
      let arrives = some_map (arrival_at state.open_tags (packet_of bytes) bytes is.0 x) (status_in (packet_of bytes).body) (status_there f.emission.parties bytes (ap (λ h. is_reply h.header) (sym f.head) ∙ reply)) in
      subst (λ (o : Option Emission). IsSome (deliver state frame.number o)) (sym f.there)
      (some_map _ (arrival_of state.open_tags bytes f.emission.parties) (subst (λ (p : Parties). IsSome (arrival_of state.open_tags bytes p)) (sym parties) arrives))

  same_target : (target other : ℕ) (relaxed_ordering relaxed : Bool) → header.Completion target relaxed_ordering ≡ header.Completion other relaxed → target ≡ other
  same_target target other relaxed_ordering relaxed e = cc

  -- on bus 00 it is for the domain's host
  pub for_host : (frame : Descriptor) (r : Replying platform top_id frame) → bus_of r.target ≡ 0 → (r.target ≡ host_of frame.domain) × IsFor (Host frame.domain) frame.head.parties
  for_host frame r zero = go r.addressee r.reaches r.parties
    where
      go : (x : Option Origin) → Reaches platform frame.domain r.target x → frame.head.parties ≡ Answer (by.Function r.function) x → (r.target ≡ host_of frame.domain) × IsFor (Host frame.domain) frame.head.parties
      go x (Reaches.ByHost same) parties = (same, (by.Function r.function, parties))
      go x (Reaches.ByBus f own held) parties =
          let first = first_port_of platform g frame.domain f own in
          let more = not_first platform g.laws first.port first.listed in
          let le : first.port.secondary ≤ bus_of r.target = leb-true first.port.secondary (bus_of r.target) (and_parts _ _ (first_held platform g frame.domain f r.target first held)).0 in
          absurd (omega (arith, more, le, zero))

  -- on another bus the host sends it down
  pub relays : (frame : Descriptor) (r : Replying platform top_id frame) → bus_of r.target ≢ 0 → Falling platform top_id frame
  relays frame r other = go r.addressee r.reaches r.parties
    where
      go : (x : Option Origin) → Reaches platform frame.domain r.target x → frame.head.parties ≡ Answer (by.Function r.function) x → Falling platform top_id frame
      go x (Reaches.ByHost same) parties =
          let few = small platform g frame.domain r.function (first_port_of platform g frame.domain r.function r.own) in
          absurd (other (omega (arith, same, few)))
      go x (Reaches.ByBus f own held) parties =
          let first = first_port_of platform g frame.domain f own in
          reply_falls platform g frame r.target r.relaxed_ordering f top_id (by.Function r.function) r.reply own held parties (below platform g frame.domain f top_id None first (At.Top refl) (under_root platform g.laws first.port first.listed))

  -- what then happens to either
  pub record AtHost (frame : Descriptor) : Type 0 where
    pub request : is_reply frame.head.header ≡ false → IsOwnRequest platform frame
    pub carried : is_reply frame.head.header ≡ false → (state : Alone) → Flies state frame → IsLegal platform state frame (Carry frame.number)
    pub reply : (target : ℕ) (relaxed_ordering : Bool) → frame.head.header ≡ header.Completion target relaxed_ordering → bus_of target ≡ 0 → (target ≡ host_of frame.domain) × IsFor (Host frame.domain) frame.head.parties
    pub delivered : (target : ℕ) (relaxed_ordering : Bool) → frame.head.header ≡ header.Completion target relaxed_ordering → bus_of target ≡ 0 → (state : Alone) → Flies state frame → IsLegal platform state frame (Deliver frame.number)
    pub relayed : (target : ℕ) (relaxed_ordering : Bool) → frame.head.header ≡ header.Completion target relaxed_ordering → bus_of target ≢ 0 → Falling platform top_id frame

  pub no_reply : (h : Header) (target : ℕ) (relaxed_ordering : Bool) → h ≡ header.Completion target relaxed_ordering → is_reply h ≡ false → ⊥
  no_reply h target relaxed_ordering e is = false≢true (sym is ∙ ap is_reply e)

  pub at_host : (frame : Descriptor) → Rising platform top_id frame ⊎ Replying platform top_id frame → AtHost frame
  at_host frame (inl r) = record {
    request = λ is. own_request frame r;
    carried = λ is state flies. carries frame state r flies;
    reply = λ target relaxed e zero. absurd (no_reply frame.head.header target relaxed e r.request);
    delivered = λ target relaxed e zero state flies. absurd (no_reply frame.head.header target relaxed e r.request);
    relayed = λ target relaxed e other. absurd (no_reply frame.head.header target relaxed e r.request);
  }
  at_host frame (inr r) = record {
    request = λ is. absurd (no_reply frame.head.header r.target r.relaxed_ordering r.reply is);
    carried = λ is state flies. absurd (no_reply frame.head.header r.target r.relaxed_ordering r.reply is);
    reply = λ target relaxed e zero. let h = for_host frame r (bus_is target relaxed e zero) in (same target relaxed e ∙ h.0, h.1);
    delivered = λ target relaxed e zero state flies. delivers frame state (Host frame.domain) (for_host frame r (bus_is target relaxed e zero)).1 (ap is_reply e) flies;
    relayed = λ target relaxed e other. relays frame r (λ zero. other (ap bus_of (same target relaxed e) ∙ zero));
  }
    where
      same : (target : ℕ) (relaxed : Bool) → frame.head.header ≡ header.Completion target relaxed → target ≡ r.target
      same target relaxed e = same_target target r.target relaxed r.relaxed_ordering (sym e ∙ r.reply)

      bus_is : (target : ℕ) (relaxed : Bool) → frame.head.header ≡ header.Completion target relaxed → bus_of target ≡ 0 → bus_of r.target ≡ 0
      bus_is target relaxed e zero = ap bus_of (sym (same target relaxed e)) ∙ zero
