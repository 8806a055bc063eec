-- What answers a sound packet, or is sent on in its place, is sound on the link that it enters.
use Rattle.std.proofs.Common.{◌≡◌, ℕ, ◌+◌, ◌/◌, ◌%◌, ◌⊎◌, inl, inr, Bool, true, false, cond, ◌&&◌, Option, Some, None, List, option_map, option_and_then, refl, sym, ap, ◌∙◌, subst, arith, nat_lt}
use Rattle.std.proofs.lemmas.Bool.{false≢true}
use Rattle.fab_types.specs.Id.{bus_of}
use Rattle.fab_types.specs.declared.class.Class.{Class}
use Rattle.fab_types.specs.declared.class.Class.TheVariants.{Posted, NonPosted, Completion}
use Rattle.fab_types.specs.declared.head.AddressType.TheVariants.{Untranslated}
use Rattle.fab_types.specs.declared.head.Answerer.{Answerer}
use Rattle.fab_types.specs.declared.head.Answerer.TheVariants as by
use Rattle.fab_types.specs.declared.head.Head.{Head}
use Rattle.fab_types.specs.declared.head.Header.{Header}
use Rattle.fab_types.specs.declared.head.Header.TheVariants as header
use Rattle.fab_types.specs.declared.head.Parties.{Parties}
use Rattle.fab_types.specs.declared.head.Parties.TheVariants.{Upward, Downward, Answer}
use Rattle.fab_types.specs.declared.origin.Origin.{Origin}
use Rattle.fab_types.specs.declared.origin.Origin.TheVariants.{Function}
use Rattle.fab_types.specs.declared.status.Status.{Status}
use Rattle.fab_types.specs.declared.status.Status.TheVariants.{UR}
use Rattle.frame_log.specs.Descriptor.{Descriptor}
use Rattle.function.specs.Accesses.{read_data}
use Rattle.host_memory.specs.Pages.{page_of}
use Rattle.platform.specs.declared.parts.Access.TheVariants.{Read, Write}
use Rattle.platform.specs.declared.parts.MapTarget.{MapTarget}
use Rattle.platform.specs.declared.parts.MapTarget.TheVariants.{Frame, Peer}
use Rattle.platform.specs.Owners.{bar_of, first_port, holds_bus, is_function}
use Rattle.platform.specs.Platform.{Platform}
use Rattle.platform.specs.Reach.{reach}
use Rattle.platform.specs.Share.{Share}
use Rattle.platform.specs.Tables.{target_of as mapped_to}
use Rattle.layout.specs.Views.{share_of_domain}
use Rattle.tlp_view.specs.Bytes.{address_at, enables_at, packet_of}
use Rattle.tlp_view.specs.Completions.{atomic_completion, completion_bytes, read_completion, refusal}
use Rattle.tlp_view.specs.Kinds.{class_of_kind, has_address, is_fetch_add, is_memory}
use Rattle.tlp_view.specs.Malformed.{malformed}
use Rattle.tlp_view.specs.Packet.{Body, Memory, Packet, dw_count}
use Rattle.tlp_view.specs.Requests.{is_high, moved, moved_body, packet_bytes}
use Rattle.tlp_view.specs.Runs.{is_write}
use Rattle.tlp_view.proofs.Again.{body_memory}
use Rattle.request_handling.specs.Answers.{address_of, answered_by, forwarded, function_answer, function_refusal, host_data, host_operand, host_refusal, page_at, port_answer, shown}
use Rattle.request_handling.specs.AtFunctions.{access_of, is_access, lies_in, or_discarded, request_at_function, unserved}
use Rattle.request_handling.specs.declared.handling.Handling.{Handling}
use Rattle.request_handling.specs.Carries.{add_if, carriage_of, forward, port_id, read_from, refusal_by, refusal_of, refused_by_host, serve, serve_add, serve_read, write_to}
use Rattle.domain_state.specs.Ends.{conclude}
use Rattle.request_handling.specs.Heads.{descriptor_of, header_unless}
use Rattle.domain.specs.Machine.{carry, change, refuse}
use Rattle.request_handling.specs.Emissions.{Emission}
use Rattle.domain_state.specs.State.{Alone, Change, emits_nothing, item_at, without}
use Rattle.request_handling.specs.WellMade.{IsWellMade}
use Rattle.domain.specs.declared.entry.Entry.TheVariants.{Carry, Deliver, Refuse}
use Rattle.request_handling.specs.declared.fate.Fate.{Fate}
use Rattle.request_handling.specs.declared.fate.Fate.TheVariants.{Vanish, Refused, ToHost, Direct}
use Rattle.domain.specs.Deliveries.{arrival, arrived}
use Rattle.request_handling.specs.Fates as fates
use Rattle.guarded_routes.specs.Ends.{Flies, IsPeerRequest, IsRequestTo}
use Rattle.guarded_routes.specs.Guarded.{IsFunctionOf, IsGuarded, has_id, is_below, top_id}
use Rattle.guarded_routes.specs.Sound.{Falling, IsMeantFor, Reaches, Replying, Rising, is_reply}
use Rattle.guarded_routes.proofs.Begins.{falls_from_host, low_at}
use Rattle.guarded_routes.proofs.Below.{Under, holds_own, under_root}
use Rattle.guarded_routes.proofs.Bytes.{MemoryBytes, memory_bytes}
use Rattle.guarded_routes.proofs.Finds.{some, some_is}
use Rattle.guarded_routes.proofs.Homes.{peer_of}
use Rattle.guarded_routes.proofs.Hosts.{carriage, cleared_end, no_reply as completion, request_bytes, request_of}
use Rattle.guarded_routes.proofs.Nodes.{At}
use Rattle.guarded_routes.proofs.Passing.{below, first_port_of, holds_first, reply_falls}
use Rattle.guarded_routes.proofs.Reaching.{reach_is}
use Rattle.guarded_routes.proofs.Taking.{asked_by, home_at, meant_at}
use Rattle.domain.proofs.CompletionsRead.{refusal_read}
use Rattle.guarded_routes.proofs.Spelled.{atomic_read, completion_read, request_read}
use Rattle.request_handling.proofs.WellMadeLemmas.{left_memory, write_memory}

-- what an ending makes it replies with
pub replied_with : {A : Type 0} (f : A → Change) (r : A → Option Emission) (o : Option A) (c : Change) (e : Emission) → ((a : A) → (f a).emission ≡ r a) → option_map f o ≡ Some c → c.emission ≡ Some e → option_and_then r o ≡ Some e
replied_with f r None c e same made sent = absurd cc
replied_with f r (Some a) c e same made sent = sym (same a) ∙ (ap (λ (x : Change). x.emission) (some_is (f a) c made) ∙ sent)

then_map : {A B C : Type 0} (f : A → B) (r : B → Option C) (o : Option A) → option_and_then r (option_map f o) ≡ option_and_then (λ a. r (f a)) o
then_map f r None = refl
then_map f r (Some a) = refl

-- ---- at the host

-- with what the host replies to a request of the domain
pub data Reply (platform : Platform) (d : ℕ) (t : Packet) : Emission → Type 0 where
  Refuses : Reply platform d t (host_refusal (share_of_domain platform d) t)
  Shows : (bytes : List ℕ) → Reply platform d t (host_data (share_of_domain platform d) t bytes)
  Adds : (bytes : List ℕ) → Reply platform d t (host_operand (share_of_domain platform d) t bytes)
  Forwards : (h bar : ℕ) → is_memory t.kind ≡ true → IsFunctionOf platform d h → bar_of platform.functions h ≡ Some bar → Reply platform d t (forwarded h bar t)

module _ (platform : Platform) (g : IsGuarded platform) (d : ℕ) (t : Packet) where
  replies_to : (e e' : Emission) → some e ≡ some e' → Reply platform d t e → Reply platform d t e'
  replies_to e e' same r = subst (Reply platform d t) (some_is e e' same) r

  forward_reply : (h : ℕ) (bar : Option ℕ) (e : Emission) → is_memory t.kind ≡ true → IsFunctionOf platform d h → bar_of platform.functions h ≡ bar → option_and_then (λ a. a.reply) (forward h t bar) ≡ Some e → Reply platform d t e
  forward_reply h None e memory own found is = absurd cc
  forward_reply h (Some bar) e memory own found is = replies_to (forwarded h bar t) e is (Reply.Forwards h bar memory own found)

  write_reply : (o : Option MapTarget) (e : Emission) → is_memory t.kind ≡ true → ((h : ℕ) → o ≡ Some (Peer h) → IsFunctionOf platform d h) → option_and_then (λ a. a.reply) (write_to (share_of_domain platform d) t o) ≡ Some e → Reply platform d t e
  write_reply None e memory peers is = absurd cc
  write_reply (Some (Frame k)) e memory peers is = absurd cc
  write_reply (Some (Peer h)) e memory peers is = forward_reply h (bar_of platform.functions h) e memory (peers h refl) refl is

  read_reply : (frames : List (ℕ × List ℕ)) (o : Option MapTarget) (e : Emission) → is_memory t.kind ≡ true → ((h : ℕ) → o ≡ Some (Peer h) → IsFunctionOf platform d h) → option_and_then (λ a. a.reply) (read_from (share_of_domain platform d) frames t o) ≡ Some e → Reply platform d t e
  read_reply frames None e memory peers is = replies_to (host_refusal (share_of_domain platform d) t) e is Reply.Refuses
  read_reply frames (Some (Frame k)) e memory peers is = replies_to (host_data (share_of_domain platform d) t (shown frames k t)) e is (Reply.Shows (shown frames k t))
  read_reply frames (Some (Peer h)) e memory peers is = forward_reply h (bar_of platform.functions h) e memory (peers h refl) refl is

  add_reply : (frames : List (ℕ × List ℕ)) (to_read to_write : Option ℕ) (e : Emission) → (add_if (share_of_domain platform d) frames t to_read to_write).reply ≡ Some e → Reply platform d t e
  add_reply frames None to_write e is = replies_to (host_refusal (share_of_domain platform d) t) e is Reply.Refuses
  add_reply frames (Some k) None e is = replies_to (host_refusal (share_of_domain platform d) t) e is Reply.Refuses
  add_reply frames (Some k) (Some m) e is = replies_to (host_operand (share_of_domain platform d) t (shown frames m t)) e is (Reply.Adds (shown frames m t))

  pub serve_reply : (frames : List (ℕ × List ℕ)) (e : Emission) → has_address t.kind ≡ true → option_and_then (λ a. a.reply) (serve (share_of_domain platform d) frames t) ≡ Some e → Reply platform d t e
  serve_reply frames e addressed is = go (is_write t.kind) refl is
    where
      read : (b : Bool) → is_memory t.kind ≡ true → option_and_then (λ a. a.reply) (cond b (Some (refused_by_host (share_of_domain platform d) t)) (read_from (share_of_domain platform d) frames t (mapped_to (share_of_domain platform d).maps t.requester (address_of t / 4096) Read))) ≡ Some e → Reply platform d t e
      read true memory is = replies_to (host_refusal (share_of_domain platform d) t) e is Reply.Refuses
      read false memory is = read_reply frames _ e memory (λ h e. peer_of platform g.laws d t.requester (address_of t / 4096) Read h e) is

      other : (b : Bool) → is_fetch_add t.kind ≡ b → option_and_then (λ a. a.reply) (cond b (Some (serve_add (share_of_domain platform d) frames t)) (serve_read (share_of_domain platform d) frames t)) ≡ Some e → Reply platform d t e
      other true f is = add_reply frames _ _ e is
      other false f is = read (nat_lt 64 (dw_count t.length)) (left_memory t.kind addressed f) is

      go : (b : Bool) → is_write t.kind ≡ b → option_and_then (λ a. a.reply) (cond b (write_to (share_of_domain platform d) t (mapped_to (share_of_domain platform d).maps t.requester (address_of t / 4096) Write)) (cond (is_fetch_add t.kind) (Some (serve_add (share_of_domain platform d) frames t)) (serve_read (share_of_domain platform d) frames t))) ≡ Some e → Reply platform d t e
      go true w is = write_reply _ e (write_memory t.kind w) (λ h e. peer_of platform g.laws d t.requester (address_of t / 4096) Write h e) is
      go false w is = other (is_fetch_add t.kind) refl is

-- a memory request at another address, by its fields
moved_is : (t : Packet) (address : ℕ) (body : Body) → t.body ≡ body
    → packet_bytes (moved t address) ≡ packet_bytes (record { kind = t.kind; has_4dw_header = is_high address; attributes = t.attributes; address_type = t.address_type; length = t.length; requester = t.requester; tag = t.tag; body = moved_body body address; payload = t.payload })
moved_is t address body is = ap (λ (b : Body). packet_bytes (record { kind = t.kind; has_4dw_header = is_high address; attributes = t.attributes; address_type = t.address_type; length = t.length; requester = t.requester; tag = t.tag; body = moved_body b address; payload = t.payload })) is

module _ (platform : Platform) (g : IsGuarded platform) where
  below_top : (d f : ℕ) → IsFunctionOf platform d f → is_below platform top_id f ≡ true
  below_top d f own = let first = first_port_of platform g d f own in below platform g d f top_id None first (At.Top refl) (under_root platform g.laws first.port first.listed)

  below_own : (d f : ℕ) → IsFunctionOf platform d f → is_below platform f f ≡ true
  below_own d f own = let first = first_port_of platform g d f own in below platform g d f f (Some first.port) first (At.Over first.port first.listed first.below) Under.Here

  -- a completion for a function of the domain, made of a completion's bytes
  answer_falls : (d number f lower requester : ℕ) (answerer : Answerer) (bytes : List ℕ) → IsFunctionOf platform d f → has_id platform f requester ≡ true → is_below platform lower f ≡ true
      → (relaxed_ordering : Bool) × (header_unless (malformed bytes) (Answer answerer (Some (Function f))) bytes ≡ header.Completion requester relaxed_ordering)
      → Falling platform lower (descriptor_of d number (record { parties = Answer answerer (Some (Function f)); bytes = bytes }))
  answer_falls d number f lower requester answerer bytes own held below is =
      reply_falls platform g (descriptor_of d number (record { parties = Answer answerer (Some (Function f)); bytes = bytes })) requester is.0 f lower answerer is.1 own held refl below

  -- the host's answer to a request in the name of an ID below the first port of f
  host_answer : (d number f : ℕ) (t : Packet) (x : Option Origin) (bytes : List ℕ) → IsFunctionOf platform d f → has_id platform f t.requester ≡ true → reach (share_of_domain platform d) t.requester ≡ x → x ≡ Some (Function f)
      → (relaxed_ordering : Bool) × (header_unless (malformed bytes) (Answer by.Host (Some (Function f))) bytes ≡ header.Completion t.requester relaxed_ordering)
      → Falling platform top_id (descriptor_of d number (record { parties = Answer by.Host (reach (share_of_domain platform d) t.requester); bytes = bytes }))
  host_answer d number f t x bytes own held reached is read =
      subst (λ (x : Option Origin). Falling platform top_id (descriptor_of d number (record { parties = Answer by.Host x; bytes = bytes }))) (sym (reached ∙ is))
      (answer_falls d number f top_id t.requester by.Host bytes own held (below_top d f own) read)

  host_reply : (d number f : ℕ) (bytes : List ℕ) (requester address : ℕ) (e : Emission) → IsFunctionOf platform d f → has_id platform f requester ≡ true → MemoryBytes bytes requester Untranslated address
      → Reply platform d (packet_of bytes) e → IsWellMade e.parties e.bytes → Falling platform top_id (descriptor_of d number e)
  host_reply d number f bytes requester address e own held b Reply.Refuses well =
      let t = packet_of bytes in
      let held' : has_id platform f t.requester ≡ true = ap (has_id platform f) b.requester_is ∙ held in
      let reached = reach_is platform g d f t.requester (Some (Function f)) own (Reaches.ByBus f own held') in
      host_answer d number f t (Some (Function f)) (completion_bytes (refusal 0 UR t)) own held' reached refl (refusal_read (Answer by.Host (Some (Function f))) 0 UR t well.0)
  host_reply d number f bytes requester address e own held b (Reply.Shows data_bytes) well =
      let t = packet_of bytes in
      let held' : has_id platform f t.requester ≡ true = ap (has_id platform f) b.requester_is ∙ held in
      let reached = reach_is platform g d f t.requester (Some (Function f)) own (Reaches.ByBus f own held') in
      host_answer d number f t (Some (Function f)) (completion_bytes (read_completion 0 t data_bytes)) own held' reached refl (completion_read (Answer by.Host (Some (Function f))) 0 t data_bytes well.0)
  host_reply d number f bytes requester address e own held b (Reply.Adds old) well =
      let t = packet_of bytes in
      let held' : has_id platform f t.requester ≡ true = ap (has_id platform f) b.requester_is ∙ held in
      let reached = reach_is platform g d f t.requester (Some (Function f)) own (Reaches.ByBus f own held') in
      host_answer d number f t (Some (Function f)) (completion_bytes (atomic_completion 0 t old)) own held' reached refl (atomic_read (Answer by.Host (Some (Function f))) 0 t old well.0)
  host_reply d number f bytes requester address e own held b (Reply.Forwards h bar memory other found) well =
      let t = packet_of bytes in
      let offset = address_of t % 4096 in
      let address' = page_at bar + offset in
      let body = body_memory t.kind bytes memory in
      let moved' = moved_is t address' (Memory (enables_at bytes) (address_at bytes)) body in
      let well' = ap malformed (sym moved') ∙ well.0 in
      let low = low_at platform g d h bar offset other found (omega arith) in
      let read = request_read t.kind t.attributes t.address_type t.length t.requester t.tag (enables_at bytes) address' t.payload memory (Downward h) (is_high address') refl low well' in
      let is : header_unless (malformed (packet_bytes (moved t address'))) (Downward h) (packet_bytes (moved t address')) ≡ header.Memory t.requester read.0 address' =
      ap (λ (bytes : List ℕ). header_unless (malformed bytes) (Downward h) bytes) moved' ∙ read.1 in
      let held' : has_id platform f t.requester ≡ true = ap (has_id platform f) b.requester_is ∙ held in
      falls_from_host platform g d h t.requester bar offset number (Some (Function f)) (forwarded h bar t) read.0 other found (omega arith) (Reaches.ByBus f own held') refl is

  -- what the host makes of a sound request is sound on the host's link
  pub answers_down : (frame : Descriptor) (number : ℕ) (state : Alone) (c : Change) (e : Emission) → Rising platform top_id frame → Flies state frame
      → change (share_of_domain platform frame.domain) state (Carry frame.number) ≡ Some c → c.emission ≡ Some e → IsWellMade e.parties e.bytes → Falling platform top_id (descriptor_of frame.domain number e)
  answers_down frame number state c e r fl made sent well =
      let share = share_of_domain platform frame.domain in
      let bytes = fl.emission.bytes in
      let q = request_of platform g frame r in
      let b = request_bytes platform g frame r.function q fl.emission fl.head in
      let made' : option_map (conclude state frame.number bytes) (serve share state.frames (packet_of bytes)) ≡ Some c =
      ap (option_map (conclude state frame.number bytes)) (sym (carriage platform g frame state r fl.emission fl.head)) ∙ (ap (carry share state frame.number) (sym fl.there) ∙ made) in
      let reply = replied_with (conclude state frame.number bytes) (λ a. a.reply) (serve share state.frames (packet_of bytes)) c e (λ a. refl) made' sent in
      host_reply frame.domain number r.function bytes q.requester q.address e r.own q.held b (serve_reply platform g frame.domain (packet_of bytes) state.frames e b.addressed reply) well

  -- ---- at a function

  page_reply : (share : Share) (f : ℕ) (t : Packet) (page : List ℕ) (e : Emission) → function_answer share f page t ≡ Some e → (bytes : List ℕ) × (e ≡ answered_by share f t (read_completion f t bytes))
  page_reply share f t page e is = go (is_write t.kind) is
    where
      go : (b : Bool) → option_map (answered_by share f t) (cond b None (Some (read_completion f t (read_data page t)))) ≡ Some e → (bytes : List ℕ) × (e ≡ answered_by share f t (read_completion f t bytes))
      go true is = absurd cc
      go false is = (read_data page t, sym (some_is _ e is))

  access_reply : (share : Share) (registers : List (ℕ × List ℕ)) (f : ℕ) (t : Packet) (e : Emission) → option_and_then (λ a. a.reply) (access_of share registers f t) ≡ Some e → (bytes : List ℕ) × (e ≡ answered_by share f t (read_completion f t bytes))
  access_reply share registers f t e is = go (page_of registers f) (λ page made. page_reply share f t page e made) (sym (then_map _ (λ a. a.reply) (page_of registers f)) ∙ is)
    where
      go : (o : Option (List ℕ)) → ((page : List ℕ) → function_answer share f page t ≡ Some e → (bytes : List ℕ) × (e ≡ answered_by share f t (read_completion f t bytes)))
          → option_and_then (λ page. function_answer share f page t) o ≡ Some e → (bytes : List ℕ) × (e ≡ answered_by share f t (read_completion f t bytes))
      go None each is = absurd cc
      go (Some page) each is = each page is

  -- what a function answers to a request: the bytes of its page, or a refusal
  data Answers (share : Share) (f : ℕ) (t : Packet) (e : Emission) : Type 0 where
    Shows : (bytes : List ℕ) → e ≡ answered_by share f t (read_completion f t bytes) → Answers share f t e
    Refuses : e ≡ function_refusal share f t → Answers share f t e

  peer_reply : (share : Share) (registers : List (ℕ × List ℕ)) (f : ℕ) (t : Packet) (e : Emission) → (request_at_function share registers f t).reply ≡ Some e → Answers share f t e
  peer_reply share registers f t e is = go (is_access t && lies_in (bar_of share.functions f) (address_of t)) is
    where
      accessed : (o : Option Handling) → access_of share registers f t ≡ o → (or_discarded o).reply ≡ Some e → Answers share f t e
      accessed None made is = absurd cc
      accessed (Some a) made is = let shown = access_reply share registers f t e (ap (option_and_then (λ (a : Handling). a.reply)) made ∙ is) in Answers.Shows shown.0 shown.1

      refused : (class : Class) → (unserved class (function_refusal share f t)).reply ≡ Some e → Answers share f t e
      refused Posted is = absurd cc
      refused NonPosted is = Answers.Refuses (sym (some_is (function_refusal share f t) e is))
      refused Completion is = absurd cc

      go : (b : Bool) → (cond b (or_discarded (access_of share registers f t)) (unserved (class_of_kind t.kind) (function_refusal share f t))).reply ≡ Some e → Answers share f t e
      go true is = accessed (access_of share registers f t) refl is
      go false is = refused (class_of_kind t.kind) is

  -- a function's answer to a request whose requester completions reach
  answer_reaches : (d number f : ℕ) (t : Packet) (x : Option Origin) (completion : List ℕ) → IsFunctionOf platform d f → Reaches platform d t.requester x
      → (relaxed_ordering : Bool) × (header_unless (malformed completion) (Answer (by.Function f) (reach (share_of_domain platform d) t.requester)) completion ≡ header.Completion t.requester relaxed_ordering)
      → Replying platform f (descriptor_of d number (record { parties = Answer (by.Function f) (reach (share_of_domain platform d) t.requester); bytes = completion }))
  answer_reaches d number f t x completion own reaches read =
      let reached = reach_is platform g d f t.requester x own reaches in
      record {
        function = f;
        own = own;
        below = below_own d f own;
        target = t.requester;
        relaxed_ordering = read.0;
        reply = read.1;
        addressee = x;
        parties = ap (λ (x : Option Origin). Answer (by.Function f) x) reached;
        reaches = reaches;
      }

  function_reply : (d number f : ℕ) (t : Packet) (x : Option Origin) (e : Emission) → IsFunctionOf platform d f → Reaches platform d t.requester x → Answers (share_of_domain platform d) f t e → IsWellMade e.parties e.bytes → Replying platform f (descriptor_of d number e)
  function_reply d number f t x e own reaches (Answers.Shows bytes is) well =
      let made = answered_by (share_of_domain platform d) f t (read_completion f t bytes) in
      let well' : IsWellMade made.parties made.bytes = subst (λ (e : Emission). IsWellMade e.parties e.bytes) is well in
      subst (λ (e : Emission). Replying platform f (descriptor_of d number e)) (sym is) (answer_reaches d number f t x made.bytes own reaches (completion_read made.parties f t bytes well'.0))
  function_reply d number f t x e own reaches (Answers.Refuses is) well =
      let made = function_refusal (share_of_domain platform d) f t in
      let well' : IsWellMade made.parties made.bytes = subst (λ (e : Emission). IsWellMade e.parties e.bytes) is well in
      subst (λ (e : Emission). Replying platform f (descriptor_of d number e)) (sym is) (answer_reaches d number f t x made.bytes own reaches (refusal_read made.parties f UR t well'.0))

  module _ (frame : Descriptor) (number f : ℕ) (state : Alone) (c : Change) (e : Emission) (own : IsFunctionOf platform frame.domain f) (fl : Flies state frame) (made : change (share_of_domain platform frame.domain) state (Carry frame.number) ≡ Some c) (sent : c.emission ≡ Some e) where
    -- of a packet that ends so
    replied_by : (ending : Option Handling) → carriage_of (share_of_domain platform frame.domain) state.frames state.registers fl.emission.bytes fl.emission.parties ≡ ending → option_and_then (λ (a : Handling). a.reply) ending ≡ Some e
    replied_by ending is =
        replied_with (conclude state frame.number fl.emission.bytes) (λ a. a.reply) ending c e (λ a. refl)
        (ap (option_map (conclude state frame.number fl.emission.bytes)) (sym is) ∙ (ap (carry (share_of_domain platform frame.domain) state frame.number) (sym fl.there) ∙ made)) sent

    -- to a request of the host
    answers_host : frame.head.parties ≡ Downward f → Answers (share_of_domain platform frame.domain) f (packet_of fl.emission.bytes) e
    answers_host to =
        let share = share_of_domain platform frame.domain in
        let parties : fl.emission.parties ≡ Downward f = ap (λ (h : Head). h.parties) (sym fl.head) ∙ to in
        let reply = replied_by (access_of share state.registers f (packet_of fl.emission.bytes)) (ap (carriage_of share state.frames state.registers fl.emission.bytes) parties) in
        let shown = access_reply share state.registers f (packet_of fl.emission.bytes) e reply in
        Answers.Shows shown.0 shown.1

    -- to one that came directly
    answers_peer : IsPeerRequest platform frame f → Answers (share_of_domain platform frame.domain) f (packet_of fl.emission.bytes) e
    answers_peer q =
        let share = share_of_domain platform frame.domain in
        peer_reply share state.registers f (packet_of fl.emission.bytes) e
        (replied_by (Some (request_at_function share state.registers f (packet_of fl.emission.bytes)))
        (cleared_end platform g frame state q.sender q.own q.parties (record { requester = q.requester; address = q.address; plain = q.plain; held = q.held }) fl.emission fl.head (Some f) q.direct))

    answers_asked : IsRequestTo platform frame f → Answers (share_of_domain platform frame.domain) f (packet_of fl.emission.bytes) e
    answers_asked (inl to) = answers_host to
    answers_asked (inr q) = answers_peer q

    -- what a function makes of a request to it is sound below its first port
    answer_up : (h : Header) → frame.head.header ≡ h → is_reply h ≡ false → IsMeantFor platform frame.domain f frame.head.parties h → IsWellMade e.parties e.bytes → Replying platform f (descriptor_of frame.domain number e)
    answer_up header.Malformed same request meant well = absurd meant
    answer_up (header.OtherRequest requester) same request meant well = absurd meant
    answer_up (header.Completion target relaxed_ordering) same request meant well = absurd (false≢true (sym request))
    answer_up (header.Memory requester address_type address) same request meant well =
        let bytes = fl.emission.bytes in
        let b = memory_bytes fl.emission.parties bytes requester address_type address (ap (λ (h : Head). h.header) (sym fl.head) ∙ same) in
        let reaches : Reaches platform frame.domain (packet_of bytes).requester meant.1 = subst (λ (r : ℕ). Reaches platform frame.domain r meant.1) (sym b.requester_is) meant.2 in
        function_reply frame.domain number f (packet_of bytes) meant.1 e own reaches (answers_asked (asked_by platform g f frame requester address address_type same meant.0)) well

  -- ---- at a first port

  refused_reply : (port f : ℕ) (bytes : List ℕ) (fate : Fate) (e : Emission) → option_and_then (λ a. a.reply) (refusal_by port f bytes fate) ≡ Some e → (status : Status) × (e ≡ port_answer port f status (packet_of bytes))
  refused_reply port f bytes Vanish e is = absurd cc
  refused_reply port f bytes ToHost e is = absurd cc
  refused_reply port f bytes (Direct peer) e is = absurd cc
  refused_reply port f bytes (Refused status) e is = (status, sym (some_is _ e is))

  own_id : (d f : ℕ) → IsFunctionOf platform d f → has_id platform f f ≡ true
  own_id d f own =
      let first = first_port_of platform g d f own in
      let at = first.below in
      let bus : bus_of f ≡ first.port.secondary = omega (arith, at) in
      holds_first platform g d f f first (ap (holds_bus first.port) bus ∙ holds_own platform g.laws first.port first.listed)

  port_reply : (d number port f : ℕ) (status : Status) (t : Packet) (e : Emission) → IsFunctionOf platform d f → e ≡ port_answer port f status t → IsWellMade e.parties e.bytes → Falling platform f (descriptor_of d number e)
  port_reply d number port f status t e own is well =
      let made = port_answer port f status t in
      let well' : IsWellMade made.parties made.bytes = subst (λ (e : Emission). IsWellMade e.parties e.bytes) is well in
      subst (λ (e : Emission). Falling platform f (descriptor_of d number e)) (sym is)
      (answer_falls d number f f f by.Port made.bytes own (own_id d f own) (below_own d f own) (refusal_read made.parties port status t well'.0))

  refused_down : (frame : Descriptor) (number f : ℕ) (state : Alone) (c : Change) (e : Emission) → IsFunctionOf platform frame.domain f → frame.head.parties ≡ Upward f → Flies state frame
      → change (share_of_domain platform frame.domain) state (Refuse frame.number) ≡ Some c → c.emission ≡ Some e → IsWellMade e.parties e.bytes → Falling platform f (descriptor_of frame.domain number e)
  refused_down frame number f state c e own parties fl made sent well =
      let share = share_of_domain platform frame.domain in
      let bytes = fl.emission.bytes in
      let sender : fl.emission.parties ≡ Upward f = ap (λ (h : Head). h.parties) (sym fl.head) ∙ parties in
      let made' : option_map (conclude state frame.number bytes) (refusal_of share bytes (Upward f)) ≡ Some c =
      ap (λ (p : Parties). option_map (conclude state frame.number bytes) (refusal_of share bytes p)) (sym sender) ∙ (ap (refuse share state frame.number) (sym fl.there) ∙ made) in
      let reply = replied_with (conclude state frame.number bytes) (λ a. a.reply) (refusal_of share bytes (Upward f)) c e (λ a. refl) made' sent in
      let r = refused_reply (port_id (first_port platform.ports f)) f bytes (fates.fate platform.ports f bytes) e reply in
      port_reply frame.domain number (port_id (first_port platform.ports f)) f r.0 (packet_of bytes) e own r.1 well

  -- a port's answer is sound on the link of the function that sent what was refused
  pub answers_below : (frame : Descriptor) (number f : ℕ) (state : Alone) (c : Change) (e : Emission) → Rising platform f frame ⊎ Replying platform f frame → frame.head.parties ≡ Upward f → Flies state frame
      → change (share_of_domain platform frame.domain) state (Refuse frame.number) ≡ Some c → c.emission ≡ Some e → IsWellMade e.parties e.bytes → Falling platform f (descriptor_of frame.domain number e)
  answers_below frame number f state c e (inl r) parties fl made sent well = refused_down frame number f state c e (subst (IsFunctionOf platform frame.domain) (same r.function f (sym r.parties ∙ parties)) r.own) parties fl made sent well
    where
      same : (f h : ℕ) → Upward f ≡ Upward h → f ≡ h
      same f h e = cc
  answers_below frame number f state c e (inr r) parties fl made sent well = absurd (other f r.function r.addressee (sym parties ∙ r.parties))
    where
      other : (f h : ℕ) (x : Option Origin) → Upward f ≡ Answer (by.Function h) x → ⊥
      other f h x e = cc

  -- ---- at each

  -- what the host makes of what is sound there
  pub carried_down : (frame : Descriptor) (number : ℕ) (state : Alone) (c : Change) (e : Emission) → Rising platform top_id frame ⊎ Replying platform top_id frame → is_reply frame.head.header ≡ false → Flies state frame
      → change (share_of_domain platform frame.domain) state (Carry frame.number) ≡ Some c → c.emission ≡ Some e → IsWellMade e.parties e.bytes → Falling platform top_id (descriptor_of frame.domain number e)
  carried_down frame number state c e (inl r) request fl made sent well = answers_down frame number state c e r fl made sent well
  carried_down frame number state c e (inr r) request fl made sent well = absurd (completion platform g frame.head.header r.target r.relaxed_ordering r.reply request)

  -- what a function makes of what is sound there
  pub carried_up : (frame : Descriptor) (number f : ℕ) (state : Alone) (c : Change) (e : Emission) → is_function platform.functions f ≡ true → Falling platform f frame → is_reply frame.head.header ≡ false → Flies state frame
      → change (share_of_domain platform frame.domain) state (Carry frame.number) ≡ Some c → c.emission ≡ Some e → IsWellMade e.parties e.bytes → Replying platform f (descriptor_of frame.domain number e)
  carried_up frame number f state c e listed r request fl made sent well =
      answer_up frame number f state c e (home_at platform g f frame listed r) fl made sent frame.head.header refl request (meant_at platform g f frame listed r) well

replies_nothing : {A : Type 0} (f : A → Change) (o : Option A) (c : Change) → ((a : A) → (f a).emission ≡ None) → option_map f o ≡ Some c → c.emission ≡ None
replies_nothing f None c none made = absurd cc
replies_nothing f (Some a) c none made = ap (λ (x : Change). x.emission) (sym (some_is (f a) c made)) ∙ none a

-- a completion that was delivered is answered by nothing
pub delivers_alone : (share : Share) (state : Alone) (number : ℕ) (c : Change) → change share state (Deliver number) ≡ Some c → c.emission ≡ None
delivers_alone share state number c made = replies_nothing (λ a. emits_nothing (arrived (without state number) a)) (arrival state.open_tags (item_at state.flight number)) c (λ a. refl) made
