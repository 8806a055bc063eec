-- How a packet in flight ends is what the machine says of its entry.
use Rattle.std.proofs.Common.{◌≡◌, ℕ, ◌/◌, Bool, true, false, cond, List, Option, Some, None, refl, sym, ap, ◌∙◌, subst, inl}
use Rattle.std.specs.Prelude.{IfSome, MatchOption, nat_lt, option_map}
use Rattle.fab_types.specs.declared.faults.malformed.Malformed.{Malformed}
use Rattle.fab_types.specs.declared.head.Parties.{Parties}
use Rattle.fab_types.specs.declared.head.Parties.TheVariants.{Upward, Downward, Answer}
use Rattle.host_memory.specs.Pages.{page_of}
use Rattle.platform.specs.declared.parts.Access.TheVariants.{Read, Write}
use Rattle.platform.specs.declared.parts.MapTarget.{MapTarget}
use Rattle.platform.specs.declared.parts.MapTarget.TheVariants.{Frame, Peer}
use Rattle.platform.specs.declared.parts.DownstreamPort.{DownstreamPort}
use Rattle.platform.specs.Owners.{bar_of, first_port}
use Rattle.platform.specs.Share.{Share}
use Rattle.platform.specs.Tables.{target_of}
use Rattle.tlp_view.specs.Bytes.{packet_of}
use Rattle.tlp_view.specs.Malformed.{malformed}
use Rattle.tlp_view.specs.Packet.{Packet, dw_count, status_in}
use Rattle.tlp_view.specs.Runs.{is_write}
use Rattle.domain_state.proofs.PageFits.{operand_in_page, write_in_page}
use Rattle.request_handling.specs.declared.handling.Effect.TheVariants.{Leave, Access}
use Rattle.request_handling.specs.declared.disposition.Disposition.{Disposition}
use Rattle.request_handling.specs.declared.handling.Handling.{Handling}
use Rattle.request_handling.specs.Dispositions.{Suits}
use Rattle.domain.specs.declared.entry.Entry.TheVariants.{Carry, Deliver, Refuse}
use Rattle.request_handling.specs.declared.fate.Fate.{Fate}
use Rattle.request_handling.specs.declared.fate.Fate.TheVariants.{Vanish, Refused, ToHost, Direct}
use Rattle.tlp_view.specs.Kinds.{is_fetch_add}
use Rattle.request_handling.specs.Answers.{address_of, function_answer, host_refusal}
use Rattle.request_handling.specs.AtFunctions.{request_at_function}
use Rattle.domain.proofs.FunctionFits.{at_function_fits, effect_fits}
use Rattle.request_handling.specs.Carries.{add_if, carriage_by, carriage_end, carriage_of, forward, frame_for, is_carried, port_id, read_from, refusal_by, refusal_end, refusal_of, serve, serve_add, serve_read, write_to}
use Rattle.domain.specs.Domains.{Disposes, DomainView, EndsBy, disposed}
use Rattle.domain_state.specs.Ends.{EffectFits, conclude}
use Rattle.request_handling.specs.Fates.{fate, fate_below, fate_unless}
use Rattle.domain.specs.Machine.{change, ended}
use Rattle.request_handling.specs.Emissions.{Emission}
use Rattle.request_handling.proofs.Discarding.{answer_discarded}
use Rattle.domain_state.specs.State.{Alone, Delivery, emits_nothing, item_at, without}
use Rattle.domain.specs.declared.deliver.Arriving.{Arriving}
use Rattle.fab_types.specs.declared.head.Answerer.{Answerer}
use Rattle.fab_types.specs.declared.origin.Origin.{Origin}
use Rattle.fab_types.specs.declared.status.Status.{Status}
use Rattle.function.specs.declared.tags.OpenTag.{OpenTag}
use Rattle.domain.specs.Deliveries.{Arrival, HasArrived, arrival, arrival_at, arrival_by, arrival_for, arrival_of, arrived, recorded, unexpected}

abbrev some : {A : Type 0} → A → Option A
some x = Some x

some_is : {A : Type 0} (x y : A) → some x ≡ some y → x ≡ y
some_is x y e = cc

arrival_is : (x y : Arrival) → some x ≡ some y → x ≡ y
arrival_is x y e = cc

-- ---- what goes on to the host is well formed

well_unless : (m : Option Malformed) (ports : List DownstreamPort) (function : ℕ) (port : DownstreamPort) (b : List ℕ) (fate : Fate) → fate_unless m ports function port b ≡ fate → (fate ≡ Vanish → ⊥) → m ≡ None
well_unless None ports function port b fate e other = refl
well_unless (Some cause) ports function port b fate e other = absurd (other (sym e))

well_below : (ports : List DownstreamPort) (function : ℕ) (o : Option DownstreamPort) (b : List ℕ) (fate : Fate) → fate_below ports function o b ≡ fate → (fate ≡ Vanish → ⊥) → malformed b ≡ None
well_below ports function None b fate e other = absurd (other (sym e))
well_below ports function (Some port) b fate e other = well_unless (malformed b) ports function port b fate e other

-- ---- what is written lies within a page

-- the effect of an end
abbrev Fits : Emission → Handling → Type 0
Fits e a = EffectFits e a.effect

refusal_by_fits : (x : Emission) (port f : ℕ) (g : Fate) (a : Handling) → refusal_by port f x.bytes g ≡ Some a → Fits x a
refusal_by_fits x port f Vanish a e = subst (Fits x) (some_is _ a e) tt
refusal_by_fits x port f (Refused status) a e = subst (Fits x) (some_is _ a e) tt
refusal_by_fits x port f ToHost a e = absurd cc
refusal_by_fits x port f (Direct peer) a e = absurd cc

refusal_fits : (share : Share) (x : Emission) (p : Parties) (a : Handling) → refusal_of share x.bytes p ≡ Some a → Fits x a
refusal_fits share x (Upward f) a e = refusal_by_fits x (port_id (first_port share.ports f)) f (fate share.ports f x.bytes) a e
refusal_fits share x (Downward g) a e = absurd cc
refusal_fits share x (Answer by y) a e = subst (Fits x) (sym (answer_discarded share (malformed x.bytes) by (packet_of x.bytes) a e)) tt

forward_fits : (x : Emission) (g : ℕ) (t : Packet) (bar : Option ℕ) (a : Handling) → forward g t bar ≡ Some a → Fits x a
forward_fits x g t None a e = absurd cc
forward_fits x g t (Some bar) a e = subst (Fits x) (some_is _ a e) tt

write_fits : (share : Share) (x : Emission) (target : Option MapTarget) (a : Handling) → malformed x.bytes ≡ None → is_write (packet_of x.bytes).kind ≡ true → write_to share (packet_of x.bytes) target ≡ Some a → Fits x a
write_fits share x None a good w e = subst (Fits x) (some_is _ a e) tt
write_fits share x (Some (Frame k)) a good w e = subst (Fits x) (some_is _ a e) (good, write_in_page x.bytes good w)
write_fits share x (Some (Peer g)) a good w e = forward_fits x g (packet_of x.bytes) (bar_of share.functions g) a e

read_fits : (share : Share) (frames : List (ℕ × List ℕ)) (x : Emission) (t : Packet) (target : Option MapTarget) (a : Handling) → read_from share frames t target ≡ Some a → Fits x a
read_fits share frames x t None a e = subst (Fits x) (some_is _ a e) tt
read_fits share frames x t (Some (Frame k)) a e = subst (Fits x) (some_is _ a e) tt
read_fits share frames x t (Some (Peer g)) a e = forward_fits x g t (bar_of share.functions g) a e

-- whichever of two it is
either_fits : (c : Bool) (o q : Option Handling) (x : Emission) (a : Handling) → (c ≡ true → o ≡ Some a → Fits x a) → (q ≡ Some a → Fits x a) → cond c o q ≡ Some a → Fits x a
either_fits true o q x a of_o of_q e = of_o refl e
either_fits false o q x a of_o of_q e = of_q e

none_fits : (x : Emission) (a : Handling) (o : Option Handling) → o ≡ None → o ≡ Some a → Fits x a
none_fits x a o none e = absurd cc

serve_read_fits : (share : Share) (frames : List (ℕ × List ℕ)) (x : Emission) (t : Packet) (a : Handling) → serve_read share frames t ≡ Some a → Fits x a
serve_read_fits share frames x t a e =
    let target = target_of share.maps t.requester (address_of t / 4096) Read in
    either_fits (nat_lt 64 (dw_count t.length)) (Some (record { effect = Leave; reply = Some (host_refusal share t) })) (read_from share frames t target) x a
    (λ long is. subst (Fits x) (some_is _ a is) tt) (read_fits share frames x t target a) e

add_fits : (share : Share) (frames : List (ℕ × List ℕ)) (x : Emission) (to_read to_write : Option ℕ) → malformed x.bytes ≡ None → is_fetch_add (packet_of x.bytes).kind ≡ true → Fits x (add_if share frames (packet_of x.bytes) to_read to_write)
add_fits share frames x None to_write good f = tt
add_fits share frames x (Some k) None good f = tt
add_fits share frames x (Some k) (Some m) good f = let o = operand_in_page x.bytes good f in (good, o.0, o.1)

pub serve_fits : (share : Share) (frames : List (ℕ × List ℕ)) (x : Emission) (a : Handling) → malformed x.bytes ≡ None → serve share frames (packet_of x.bytes) ≡ Some a → EffectFits x a.effect
serve_fits share frames x a good e =
    let t = packet_of x.bytes in
    let target = target_of share.maps t.requester (address_of t / 4096) Write in
    either_fits (is_write t.kind) (write_to share t target) (cond (is_fetch_add t.kind) (Some (serve_add share frames t)) (serve_read share frames t)) x a (write_fits share x target a good)
    (either_fits (is_fetch_add t.kind) (Some (serve_add share frames t)) (serve_read share frames t) x a
    (λ f is. subst (Fits x) (some_is _ a is) (add_fits share frames x (frame_for share t Read) (frame_for share t Write) good f)) (serve_read_fits share frames x t a)) e

carriage_by_fits : (share : Share) (frames registers : List (ℕ × List ℕ)) (x : Emission) (g : Fate) (a : Handling) → ((g ≡ Vanish → ⊥) → malformed x.bytes ≡ None) → carriage_by share frames registers x.bytes g ≡ Some a → Fits x a
carriage_by_fits share frames registers x Vanish a good e = absurd cc
carriage_by_fits share frames registers x (Refused status) a good e = absurd cc
carriage_by_fits share frames registers x ToHost a good e =
    let t = packet_of x.bytes in
    either_fits (is_carried share t) (serve share frames t) None x a (λ carried. serve_fits share frames x a (good (λ vanishes. absurd cc))) (none_fits x a None refl) e
carriage_by_fits share frames registers x (Direct peer) a good e =
    let t = packet_of x.bytes in
    either_fits (is_carried share t) (Some (request_at_function share registers peer t)) None x a
    (λ carried is. subst (Fits x) (some_is _ a is) (effect_fits x (request_at_function share registers peer t).effect (at_function_fits share registers peer x.bytes (good (λ vanishes. absurd cc)))))
    (none_fits x a None refl) e

access_fits : (share : Share) (x : Emission) (g : ℕ) (t : Packet) (page : Option (List ℕ)) (a : Handling) → x.parties ≡ Downward g
    → option_map (λ (bytes : List ℕ). record { effect = Access g; reply = function_answer share g bytes t }) page ≡ Some a → Fits x a
access_fits share x g t None a to e = absurd cc
access_fits share x g t (Some bytes) a to e = subst (Fits x) (some_is _ a e) (inl to)

carriage_fits : (share : Share) (frames registers : List (ℕ × List ℕ)) (x : Emission) (p : Parties) (a : Handling) → x.parties ≡ p → carriage_of share frames registers x.bytes p ≡ Some a → Fits x a
carriage_fits share frames registers x (Upward f) a of e = carriage_by_fits share frames registers x (fate share.ports f x.bytes) a (well_below share.ports f (first_port share.ports f) x.bytes (fate share.ports f x.bytes) refl) e
carriage_fits share frames registers x (Downward g) a of e = access_fits share x g (packet_of x.bytes) (page_of registers g) a of e
carriage_fits share frames registers x (Answer by y) a of e = absurd cc

-- ---- a packet in flight

ended_with : (s : Alone) (n : ℕ) (o : Option Emission) (e : Emission) (a : Handling) (r : Option Handling) → o ≡ Some e → r ≡ Some a → ended s n o r ≡ Some (conclude s n e.bytes a)
ended_with s n o e a r there is = ap (λ (x : Option Emission). ended s n x r) there ∙ ap (ended s n (Some e)) is

pub refused_ends : (v : DomainView) (n : ℕ) (d : Disposition) → Disposes v.share v.state (item_at v.state.flight n) d (refusal_end v.share (item_at v.state.flight n)) → EndsBy v (Refuse n) n d
refused_ends v n d h =
    let a = disposed v.share v.state h.emission d in
    let on : refusal_end v.share (Some h.emission) ≡ Some a = ap (refusal_end v.share) (sym h.waits) ∙ h.is in
    record {
      emission = h.emission;
      waits = h.waits;
      suits = h.suits;
      fits = refusal_fits v.share h.emission h.emission.parties a on;
      step = ended_with v.state n (item_at v.state.flight n) h.emission a (refusal_end v.share (item_at v.state.flight n)) h.waits h.is;
      own = λ _. refl;
    }

pub carried_ends : (v : DomainView) (n : ℕ) (d : Disposition) → Disposes v.share v.state (item_at v.state.flight n) d (carriage_end v.share v.state.frames v.state.registers (item_at v.state.flight n)) → EndsBy v (Carry n) n d
carried_ends v n d h =
    let a = disposed v.share v.state h.emission d in
    let on : carriage_end v.share v.state.frames v.state.registers (Some h.emission) ≡ Some a = ap (carriage_end v.share v.state.frames v.state.registers) (sym h.waits) ∙ h.is in
    record {
      emission = h.emission;
      waits = h.waits;
      suits = h.suits;
      fits = carriage_fits v.share v.state.frames v.state.registers h.emission h.emission.parties a refl on;
      step = ended_with v.state n (item_at v.state.flight n) h.emission a (carriage_end v.share v.state.frames v.state.registers (item_at v.state.flight n)) h.waits h.is;
      own = λ _. refl;
    }

-- ---- a completion that is delivered

pub delivered_so : (share : Share) (s t : Alone) (n : ℕ) (is_recorded : Bool) → HasArrived s n t is_recorded → change share s (Deliver n) ≡ Some (record { state = t; emission = None })
delivered_so share s t n is_recorded h =
    ap (option_map (λ (b : Arrival). emits_nothing (arrived (without s n) b))) h.arrival_is ∙ ap (λ (u : Alone). Some (emits_nothing u)) (sym h.state_is)

pub arrives_so : (v w : DomainView) (n : ℕ) (t : Alone) (is_recorded : Bool) → v ≡ w → HasArrived v.state n t is_recorded → HasArrived w.state n t is_recorded
arrives_so v w n t is_recorded same h =
    subst (λ (u : DomainView). HasArrived u.state n t is_recorded) same h

-- what a packet in flight is to its addressee
pub has_arrived : (s t : Alone) (n : ℕ) (x : Emission) (a : Arriving) → item_at s.flight n ≡ Some x → some (arrival_by a x.bytes) ≡ arrival_of s.open_tags x.bytes x.parties → t ≡ arrived (without s n) (arrival_by a x.bytes) → HasArrived s n t a.is_awaited
has_arrived s t n x a there is left = record { emission = x; waits = there; arrives = arrival_by a x.bytes; arrival_is = ap (arrival s.open_tags) there ∙ sym is; state_is = left; recorded_is = refl }

-- a packet leaves flight before its arrival or after it
without_either : (b : Bool) (s : Alone) (d : Delivery) (n : ℕ) → without (cond b (recorded s d) (unexpected s)) n ≡ cond b (recorded (without s n) d) (unexpected (without s n))
without_either true s d n = refl
without_either false s d n = refl

pub without_arrived : (s : Alone) (a : Arrival) (n : ℕ) → without (arrived s a) n ≡ arrived (without s n) a
without_arrived s a n = without_either a.is_awaited s a.delivery n

-- ---- what is done about a packet in flight

-- a packet that is in flight ends as its taker decided, if it ends there
pub disposes : (share : Share) (s : Alone) (item : Option Emission) (e : Emission) (end : Option Handling) (o : Option Disposition) → item ≡ Some e → option_map (disposed share s e) o ≡ end → IfSome o (λ d. Suits e.bytes d)
    → MatchOption o (end ≡ None) (λ d. Disposes share s item d end)
disposes share s item e end None there is suits = sym is
disposes share s item e end (Some d) there is suits = record { emission = e; waits = there; suits = suits; is = sym is }

pub refused_here : (v w : DomainView) (n : ℕ) (e : Emission) (o : Option Disposition) → v ≡ w → item_at v.state.flight n ≡ Some e → option_map (disposed v.share v.state e) o ≡ refusal_of v.share e.bytes e.parties → IfSome o (λ d. Suits e.bytes d)
    → MatchOption o (refusal_end w.share (item_at w.state.flight n) ≡ None) (λ d. Disposes w.share w.state (item_at w.state.flight n) d (refusal_end w.share (item_at w.state.flight n)))
refused_here v w n e o same there is suits =
    subst (λ (u : DomainView). MatchOption o (refusal_end u.share (item_at u.state.flight n) ≡ None) (λ d. Disposes u.share u.state (item_at u.state.flight n) d (refusal_end u.share (item_at u.state.flight n)))) same
    (disposes v.share v.state (item_at v.state.flight n) e (refusal_end v.share (item_at v.state.flight n)) o there (is ∙ ap (refusal_end v.share) (sym there)) suits)

pub carried_here : (v w : DomainView) (n : ℕ) (e : Emission) (o : Option Disposition) → v ≡ w → item_at v.state.flight n ≡ Some e → option_map (disposed v.share v.state e) o ≡ carriage_of v.share v.state.frames v.state.registers e.bytes e.parties
    → IfSome o (λ d. Suits e.bytes d)
    → MatchOption o (carriage_end w.share w.state.frames w.state.registers (item_at w.state.flight n) ≡ None)
    (λ d. Disposes w.share w.state (item_at w.state.flight n) d (carriage_end w.share w.state.frames w.state.registers (item_at w.state.flight n)))
carried_here v w n e o same there is suits =
    subst (λ (u : DomainView). MatchOption o (carriage_end u.share u.state.frames u.state.registers (item_at u.state.flight n) ≡ None)
    (λ d. Disposes u.share u.state (item_at u.state.flight n) d (carriage_end u.share u.state.frames u.state.registers (item_at u.state.flight n)))) same
    (disposes v.share v.state (item_at v.state.flight n) e (carriage_end v.share v.state.frames v.state.registers (item_at v.state.flight n)) o there (is ∙ ap (carriage_end v.share v.state.frames v.state.registers) (sym there)) suits)

pub arrives_for : (tags : List OpenTag) (bytes : List ℕ) (by : Answerer) (addressee : Option Origin) (owner : Origin) (status : Status) (t : Packet) (a : Arrival) → addressee ≡ Some owner → t ≡ packet_of bytes → status_in t.body ≡ Some status
    → a ≡ arrival_at tags t bytes by owner status → some a ≡ arrival_for tags bytes by addressee
arrives_for tags bytes by addressee owner status t a to same has is =
    ap some (is ∙ ap (λ (u : Packet). arrival_at tags u bytes by owner status) same)
    ∙ ap (option_map (arrival_at tags (packet_of bytes) bytes by owner)) (sym (ap (λ (u : Packet). status_in u.body) (sym same) ∙ has))
    ∙ ap (arrival_for tags bytes by) (sym to)
