-- How many entries and packets a domain's begins and its alien packets lead to.
use Rattle.std.proofs.Common.{◌≡◌, ℕ, zero, suc, ◌+◌, ◌*◌, ◌<◌, ◌≤◌, Bool, true, false, List, [], ◌∷◌, ◌++◌, length, Option, Some, None, refl, sym, ap, ◌∙◌, subst, arith, slice_set, length-append, length-set}
use Rattle.std.proofs.Common.{cond, ◌/◌, ◌&&◌, ◌==◌, not}
use Rattle.std.specs.Prelude.{option_map, nat_le, nat_lt}
use Rattle.std.specs.Option.{is_none}
use Rattle.std.proofs.lemmas.Bool.{leb-false}
use Rattle.fab_types.specs.declared.faults.begin.SubmitFault.{SubmitFault}
use Rattle.fab_types.specs.declared.faults.begin.SubmitFault.TheVariants.{TooLong, TagBusy, BudgetSpent, NoFunction}
use Rattle.fab_types.specs.declared.faults.begin.SubmitFault.TheVariants as submit
use Rattle.fab_types.specs.declared.faults.begin.TickFault.{TickFault}
use Rattle.fab_types.specs.declared.faults.begin.TickFault.TheVariants as tick
use Rattle.fab_types.specs.declared.faults.begin.MmioFault.{MmioFault}
use Rattle.fab_types.specs.declared.faults.begin.MmioFault.TheVariants as mmio
use Rattle.fab_types.specs.declared.head.Parties.{Parties}
use Rattle.fab_types.specs.declared.head.Parties.TheVariants.{Upward, Downward, Answer}
use Rattle.fab_types.specs.Id.{host_of}
use Rattle.fab_types.specs.declared.class.Class.{Class}
use Rattle.fab_types.specs.declared.class.Class.TheVariants.{Posted, NonPosted, Completion}
use Rattle.fab_types.specs.declared.faults.malformed.Malformed.{Malformed}
use Rattle.fab_types.specs.declared.head.AddressType.{AddressType}
use Rattle.fab_types.specs.declared.head.AddressType.TheVariants.{Untranslated, TranslationRequest, Translated, Reserved}
use Rattle.fab_types.specs.declared.origin.Origin.TheVariants.{Function}
use Rattle.fab_types.specs.declared.origin.Origin.TheVariants as origin
use Rattle.fab_types.specs.declared.place.Place.{Place}
use Rattle.fab_types.specs.declared.status.Status.{Status}
use Rattle.platform.specs.declared.parts.Access.TheVariants.{Read, Write}
use Rattle.platform.specs.declared.parts.MapTarget.{MapTarget}
use Rattle.platform.specs.declared.parts.MapTarget.TheVariants.{Frame, Peer}
use Rattle.platform.specs.declared.parts.DownstreamPort.{DownstreamPort}
use Rattle.platform.specs.Owners.{bar_of, first_port, is_own_function, owner_of}
use Rattle.platform.specs.Share.{Share}
use Rattle.platform.specs.Tables.{target_of}
use Rattle.function.specs.declared.plan.Plan.{Plan}
use Rattle.function.specs.declared.plan.Plan.TheVariants.{Nothing, Halt, Fault, Pass, Emit}
use Rattle.function.specs.Accesses.{answer as page_answer}
use Rattle.function.specs.Plans.{plan_of}
use Rattle.host_memory.specs.Pages.{page_of}
use Rattle.tlp_view.specs.Kinds.{class_of_kind, is_fetch_add, is_memory}
use Rattle.tlp_view.specs.Malformed.{malformed}
use Rattle.tlp_view.specs.Packet.{Packet, dw_count, status_in}
use Rattle.tlp_view.specs.View.{address_type_in}
use Rattle.tlp_view.specs.Runs.{runs, is_write}
use Rattle.tlp_view.specs.Bytes.{packet_of}
use Rattle.fab_types.specs.declared.host_access.HostAccess.{HostAccess}
use Rattle.domain_state.specs.declared.counts.Counts.{Counts}
use Rattle.request_handling.specs.declared.handling.Effect.{Effect}
use Rattle.request_handling.specs.declared.handling.Effect.TheVariants.{Leave, Block, Store, Add, Access}
use Rattle.request_handling.specs.declared.handling.Handling.{Handling}
use Rattle.domain.specs.declared.entry.Entry.{Entry}
use Rattle.domain.specs.declared.entry.Entry.TheVariants.{Submit, Tick, Mmio, Refuse, Carry, Deliver, Alien}
use Rattle.request_handling.specs.declared.fate.Fate.{Fate}
use Rattle.domain.specs.declared.receive.Reception.{Reception}
use Rattle.domain.specs.declared.receive.Reception.TheVariants.{Ends, Arrives}
use Rattle.request_handling.specs.declared.taker.Taker.{Taker}
use Rattle.request_handling.specs.declared.taker.Taker.TheVariants.{Host, Port, Upstream}
use Rattle.request_handling.specs.declared.taker.Taker.TheVariants as taker
use Rattle.request_handling.specs.declared.fate.Fate.TheVariants.{Direct, Vanish, Refused, ToHost}
use Rattle.request_handling.specs.AtFunctions.{is_access, lies_in, or_discarded, request_at_function, unserved}
use Rattle.request_handling.specs.Requests.{at_frame_if, at_port, by_number, frame_at, request_at_host, unserved_by_host}
use Rattle.domain.specs.Aliens.{answerer_of, at_function_with, at_host_with, is_excluded, received_if, reception_at, reception_by, reception_of, reception_unless}
use Rattle.domain.specs.Receptions.{received}
use Rattle.request_handling.specs.Answers.{address_of, answered_by, function_answer, function_refusal, host_refusal}
use Rattle.request_handling.specs.AtFunctions.{access_of, discarded}
use Rattle.request_handling.specs.Carries.{add_if, carriage_by, carriage_of, forward, frame_for, from_frame, is_carried, is_owner, port_id, read_from, refusal_by, refusal_of, refused_by_host, serve, serve_add, serve_read, to_frame, write_to}
use Rattle.domain.specs.Deliveries.{Arrival, arrival_by, arrival_of, arriving_at, arrived, recorded, unexpected}
use Rattle.domain_state.specs.Ends.{blocked, conclude, done, replied, with_access, with_added, with_stored}
use Rattle.request_handling.specs.Fates.{fate, fate_at}
use Rattle.request_handling.specs.Heads.{target_for}
use Rattle.domain.specs.Machine.{aliens_from, aliens_in, carry, change, deliver, refuse, replay, replay_from, with_alien}
use Rattle.request_handling.specs.Emissions.{Emission}
use Rattle.request_handling.proofs.Discarding.{answer_discarded}
use Rattle.domain_state.specs.State.{Alone, Change, Delivery, begun, emits_nothing, item_at, start_state, with_emission, without}
use Rattle.domain_state.specs.HostAccesses.{host_emission, is_in_page, mmio_fault, mmio_unless, mmio_with, opened_for, size_of, tag_for}
use Rattle.domain.specs.Ticks.{sent_by, tick_fault, tick_unless, ticked, ticks}
use Rattle.domain.specs.Submits.{submit_fault, submit_unless, submitted}
use Rattle.domain_state.specs.Tags.{completes, is_open, opens_tag}
use Rattle.request_handling.specs.Takers.{taker_of}

-- how many packets may still come of one in flight, itself left out
abbrev pub owed_by : Parties → ℕ
owed_by (Upward function) = 2
owed_by (Downward function) = 1
owed_by (Answer answerer addressee) = 0

abbrev pub owed_in : Option Emission → ℕ
owed_in None = 0
owed_in (Some e) = owed_by e.parties

abbrev pub one : Option Emission → ℕ
one None = 0
one (Some e) = 1

abbrev pub owed : List (Option Emission) → ℕ
owed [] = 0
owed (slot ∷ slots) = owed_in slot + owed slots

-- how many are in flight
abbrev pub waiting : List (Option Emission) → ℕ
waiting [] = 0
waiting (slot ∷ slots) = one slot + waiting slots

owed-push : (xs : List (Option Emission)) (x : Option Emission) → owed (xs ++ x ∷ []) ≡ owed xs + owed_in x
owed-push [] x = omega arith
owed-push (y ∷ xs) x = omega (arith, owed-push xs x)

waiting-push : (xs : List (Option Emission)) (x : Option Emission) → waiting (xs ++ x ∷ []) ≡ waiting xs + one x
waiting-push [] x = omega arith
waiting-push (y ∷ xs) x = omega (arith, waiting-push xs x)

-- a packet that ends is one less, and owes nothing any more
owed-end : (xs : List (Option Emission)) (n : ℕ) → owed (slice_set xs n None) + owed_in (item_at xs n) ≡ owed xs
owed-end [] n = refl
owed-end (x ∷ xs) zero = omega arith
owed-end (x ∷ xs) (suc n) = omega (arith, owed-end xs n)

waiting-end : (xs : List (Option Emission)) (n : ℕ) → waiting (slice_set xs n None) + one (item_at xs n) ≡ waiting xs
waiting-end [] n = refl
waiting-end (x ∷ xs) zero = omega arith
waiting-end (x ∷ xs) (suc n) = omega (arith, waiting-end xs n)

-- what holds of a state after so many entries, of which so many are of alien packets
pub record Accounted (share : Share) (s : Alone) (entries aliens : ℕ) : Type 0 where
  pub entries_are : entries + waiting s.flight ≡ s.counts.begins + aliens + length s.flight
  pub packets : length s.flight + owed s.flight ≤ 3 * s.counts.begins + 2 * aliens
  pub begins : s.counts.begins ≤ share.budget
  pub blocks : s.counts.blocked ≤ entries
  pub strays : s.counts.unexpected ≤ entries

pub accounted_start : (share : Share) → Accounted share (start_state share) 0 0
accounted_start share = record { entries_are = refl; packets = omega arith; begins = omega arith; blocks = omega arith; strays = omega arith }

-- ---- each entry keeps the account

-- a test that didn't refuse
pub passed : {A : Type 0} (b : Bool) (x : A) (rest : Option A) → cond b (Some x) rest ≡ None → (b ≡ false) × (rest ≡ None)
passed true x rest e = absurd cc
passed false x rest e = (refl, e)

taken : {A : Type 0} (b : Bool) (x : Option A) (y : A) → cond b x None ≡ Some y → x ≡ Some y
taken true x y e = e
taken false x y e = absurd cc

abbrev some : {A : Type 0} → A → Option A
some x = Some x

some_is : {A : Type 0} (x y : A) → some x ≡ some y → x ≡ y
some_is x y e = cc

-- what isn't refused is within the budget
pub submit_budget : (share : Share) (s : Alone) (f : ℕ) (b : List ℕ) → submit_fault share s f b ≡ None → s.counts.begins < share.budget
submit_budget share s f b e =
    let p1 = passed (not (is_own_function share f)) NoFunction _ e in
    let p2 = passed (nat_lt 272 (length b)) TooLong _ p1.1 in
    let p3 = passed (completes b) submit.Completion _ p2.1 in
    let p4 = passed (opens_tag b && is_open s.open_tags (Function f) (packet_of b).tag) TagBusy _ p3.1 in
    let p5 = passed (nat_le share.budget s.counts.begins) BudgetSpent None p4.1 in
    leb-false share.budget s.counts.begins p5.0

-- a state that a packet left: what the packet owed is spare
record Spare (share : Share) (t : Alone) (entries aliens spare : ℕ) : Type 0 where
  entries_are : entries + waiting t.flight ≡ t.counts.begins + aliens + length t.flight
  packets : length t.flight + owed t.flight + spare ≤ 3 * t.counts.begins + 2 * aliens
  begins : t.counts.begins ≤ share.budget
  blocks : t.counts.blocked ≤ entries
  strays : t.counts.unexpected ≤ entries

left : (share : Share) (s t : Alone) (n m k : ℕ) (e : Emission) → item_at s.flight k ≡ Some e → Accounted share s n m
    → t.flight ≡ slice_set s.flight k None → t.counts.begins ≡ s.counts.begins → t.counts.blocked ≤ s.counts.blocked + 1 → t.counts.unexpected ≤ s.counts.unexpected + 1 → Spare share t (suc n) m (owed_by e.parties)
left share s t n m k e is a flight begins blocks strays =
    let w : waiting t.flight + 1 ≡ waiting s.flight = ap (λ (xs : List (Option Emission)). waiting xs + 1) flight ∙ (ap (λ (o : Option Emission). waiting (slice_set s.flight k None) + one o) (sym is) ∙ waiting-end s.flight k) in
    let o : owed t.flight + owed_by e.parties ≡ owed s.flight = ap (λ (xs : List (Option Emission)). owed xs + owed_by e.parties) flight ∙ (ap (λ (o : Option Emission). owed (slice_set s.flight k None) + owed_in o) (sym is) ∙ owed-end s.flight k) in
    let l : length t.flight ≡ length s.flight = ap length flight ∙ length-set s.flight k None in
    record {
      entries_are = omega (arith, a.entries_are, w, l, begins);
      packets = omega (arith, a.packets, o, l, begins);
      begins = omega (arith, a.begins, begins);
      blocks = omega (arith, a.blocks, blocks);
      strays = omega (arith, a.strays, strays);
    }

answered : (share : Share) (t : Alone) (n m spare : ℕ) (o : Option Emission) → Spare share t n m spare → one o + owed_in o ≤ spare → Accounted share (replied t o) n m
answered share t n m spare None h le = record {
  entries_are = h.entries_are;
  packets = omega (arith, h.packets);
  begins = h.begins;
  blocks = h.blocks;
  strays = h.strays;
}
answered share t n m spare (Some e) h le =
    let o : Option Emission = Some e in
    record {
      entries_are = omega (arith, h.entries_are, waiting-push t.flight o, length-append t.flight (o ∷ []));
      packets = omega (arith, h.packets, le, owed-push t.flight o, length-append t.flight (o ∷ []));
      begins = h.begins;
      blocks = h.blocks;
      strays = h.strays;
    }

-- within the budget a begin is owed three packets
started : (share : Share) (s t : Alone) (n m : ℕ) → Accounted share s n m → s.counts.begins < share.budget → t.flight ≡ s.flight
    → t.counts ≡ record { begins = s.counts.begins + 1; blocked = s.counts.blocked; unexpected = s.counts.unexpected } → Spare share t (suc n) m 3
started share s t n m a lt flight counts =
    let w : waiting t.flight ≡ waiting s.flight = ap waiting flight in
    let o : owed t.flight ≡ owed s.flight = ap owed flight in
    let l : length t.flight ≡ length s.flight = ap length flight in
    let b : t.counts.begins ≡ s.counts.begins + 1 = ap (λ (c : Counts). c.begins) counts in
    let k : t.counts.blocked ≡ s.counts.blocked = ap (λ (c : Counts). c.blocked) counts in
    let u : t.counts.unexpected ≡ s.counts.unexpected = ap (λ (c : Counts). c.unexpected) counts in
    record {
      entries_are = omega (arith, a.entries_are, w, l, b);
      packets = omega (arith, a.packets, o, l, b);
      begins = omega (arith, lt, b);
      blocks = omega (arith, a.blocks, k);
      strays = omega (arith, a.strays, u);
    }

submitted_accounted : (share : Share) (s : Alone) (n m f : ℕ) (b : List ℕ) → Accounted share s n m → s.counts.begins < share.budget
    → Accounted share (with_emission (submitted s f b) (record { parties = Upward f; bytes = b })) (suc n) m
submitted_accounted share s n m f b a lt = answered share (submitted s f b) (suc n) m 3 (Some (record { parties = Upward f; bytes = b })) (started share s (submitted s f b) n m a lt refl refl) (omega arith)

submits : (share : Share) (s : Alone) (n m f : ℕ) (b : List ℕ) (fault : Option SubmitFault) (c : Change) → (fault ≡ None → s.counts.begins < share.budget) → Accounted share s n m
    → submit_unless fault s f b ≡ Some c → Accounted share c.state (suc n) m
submits share s n m f b None c lt a e = subst (λ (d : Change). Accounted share d.state (suc n) m) (some_is _ c e) (submitted_accounted share s n m f b a (lt refl))
submits share s n m f b (Some fault) c lt a e = absurd cc

-- a tick
pub tick_budget : (share : Share) (s : Alone) (f : ℕ) → tick_fault share s f ≡ None → s.counts.begins < share.budget
tick_budget share s f e =
    let p1 = passed (not (is_own_function share f)) tick.NoFunction _ e in
    leb-false share.budget s.counts.begins (passed (nat_le share.budget s.counts.begins) tick.BudgetSpent None p1.1).0

sent_owes : (f : ℕ) (plan : Plan) → one (sent_by f plan) + owed_in (sent_by f plan) ≤ 3
sent_owes f Nothing = omega arith
sent_owes f Halt = omega arith
sent_owes f Fault = omega arith
sent_owes f Pass = omega arith
sent_owes f (Emit packet opened) = omega arith

ticks_on : (share : Share) (s : Alone) (n m f : ℕ) (page : Option (List ℕ)) (c : Change) → s.counts.begins < share.budget → Accounted share s n m → ticks s f page ≡ Some c → Accounted share c.state (suc n) m
ticks_on share s n m f None c lt a e = absurd cc
ticks_on share s n m f (Some page) c lt a e =
    let plan = plan_of f page s.open_tags in
    subst (λ (d : Change). Accounted share d.state (suc n) m) (some_is _ c e)
    (answered share (ticked s f plan) (suc n) m 3 (sent_by f plan) (started share s (ticked s f plan) n m a lt refl refl) (sent_owes f plan))

ticks_unless : (share : Share) (s : Alone) (n m f : ℕ) (fault : Option TickFault) (c : Change) → (fault ≡ None → s.counts.begins < share.budget) → Accounted share s n m
    → tick_unless fault s f ≡ Some c → Accounted share c.state (suc n) m
ticks_unless share s n m f None c lt a e = ticks_on share s n m f (page_of s.registers f) c (lt refl) a e
ticks_unless share s n m f (Some fault) c lt a e = absurd cc

-- a request of the host
pub mmio_budget : (share : Share) (s : Alone) (x : HostAccess) → mmio_fault share s x ≡ None → s.counts.begins < share.budget
mmio_budget share s x e =
    let p1 = passed (not (is_own_function share x.function)) mmio.NotYours _ e in
    let p2 = passed (not (is_in_page x.offset (size_of x.operation))) mmio.Range _ p1.1 in
    let p3 = passed (is_none (tag_for s.open_tags share.domain x.operation)) mmio.NoTag _ p2.1 in
    leb-false share.budget s.counts.begins (passed (nat_le share.budget s.counts.begins) mmio.BudgetSpent None p3.1).0

mmio_by : (share : Share) (s : Alone) (n m : ℕ) (x : HostAccess) (tag bar : Option ℕ) (c : Change) → s.counts.begins < share.budget → Accounted share s n m
    → mmio_with share s x tag bar ≡ Some c → Accounted share c.state (suc n) m
mmio_by share s n m x None bar c lt a e = absurd cc
mmio_by share s n m x (Some tag) None c lt a e = absurd cc
mmio_by share s n m x (Some tag) (Some bar) c lt a e =
    subst (λ (d : Change). Accounted share d.state (suc n) m) (some_is _ c e)
    (answered share (begun s (opened_for share.domain tag x.operation)) (suc n) m 3 (Some (host_emission share.domain tag bar x)) (started share s (begun s (opened_for share.domain tag x.operation)) n m a lt refl refl) (omega arith))

mmio_accounted : (share : Share) (s : Alone) (n m : ℕ) (x : HostAccess) (fault : Option MmioFault) (c : Change) → (fault ≡ None → s.counts.begins < share.budget) → Accounted share s n m
    → mmio_unless fault share s x ≡ Some c → Accounted share c.state (suc n) m
mmio_accounted share s n m x None c lt a e = mmio_by share s n m x (tag_for s.open_tags share.domain x.operation) (bar_of share.functions x.function) c (lt refl) a e
mmio_accounted share s n m x (Some fault) c lt a e = absurd cc

-- an answer owes less than what it answers
abbrev pub Owes : ℕ → Handling → Type 0
Owes spare a = one a.reply + owed_in a.reply ≤ spare

did : (share : Share) (s : Alone) (n m k : ℕ) (e : Emission) (d : Effect) → item_at s.flight k ≡ Some e → Accounted share s n m → Spare share (done (without s k) e.bytes d) (suc n) m (owed_by e.parties)
did share s n m k e Leave is a = left share s (without s k) n m k e is a refl refl (omega arith) (omega arith)
did share s n m k e Block is a = left share s (blocked (without s k)) n m k e is a refl refl (omega arith) (omega arith)
did share s n m k e (Store frame first) is a = left share s (with_stored (without s k) frame first (runs (packet_of e.bytes))) n m k e is a refl refl (omega arith) (omega arith)
did share s n m k e (Add frame first) is a = left share s (with_added (without s k) frame first (packet_of e.bytes).payload) n m k e is a refl refl (omega arith) (omega arith)
did share s n m k e (Access g) is a = left share s (with_access (without s k) g (packet_of e.bytes)) n m k e is a refl refl (omega arith) (omega arith)

concluded : (share : Share) (s : Alone) (n m k : ℕ) (e : Emission) (a : Handling) → item_at s.flight k ≡ Some e → Owes (owed_by e.parties) a → Accounted share s n m → Accounted share (conclude s k e.bytes a).state (suc n) m
concluded share s n m k e a is le h = answered share (done (without s k) e.bytes a.effect) (suc n) m (owed_by e.parties) a.reply (did share s n m k e a.effect is h) le

ends : (share : Share) (s : Alone) (n m k : ℕ) (e : Emission) (r : Option Handling) (c : Change) → item_at s.flight k ≡ Some e → ((a : Handling) → r ≡ Some a → Owes (owed_by e.parties) a) → Accounted share s n m
    → option_map (conclude s k e.bytes) r ≡ Some c → Accounted share c.state (suc n) m
ends share s n m k e None c is owes h made = absurd cc
ends share s n m k e (Some a) c is owes h made = subst (λ (d : Change). Accounted share d.state (suc n) m) (some_is _ c made) (concluded share s n m k e a is (owes a refl) h)

-- ---- what a packet's end owes

refusal_by_owes : (port f : ℕ) (b : List ℕ) (fate : Fate) (a : Handling) → refusal_by port f b fate ≡ Some a → Owes 2 a
refusal_by_owes port f b Vanish a h = subst (Owes 2) (some_is _ a h) (omega arith)
refusal_by_owes port f b (Refused status) a h = subst (Owes 2) (some_is _ a h) (omega arith)
refusal_by_owes port f b ToHost a h = absurd cc
refusal_by_owes port f b (Direct peer) a h = absurd cc

refusal_owes : (share : Share) (b : List ℕ) (p : Parties) (a : Handling) → refusal_of share b p ≡ Some a → Owes (owed_by p) a
refusal_owes share b (Upward f) a h = refusal_by_owes (port_id (first_port share.ports f)) f b (fate share.ports f b) a h
refusal_owes share b (Downward g) a h = absurd cc
refusal_owes share b (Answer by x) a h = subst (Owes (owed_by (Answer by x))) (sym (answer_discarded share (malformed b) by (packet_of b) a h)) (omega arith)

forward_owes : (g : ℕ) (t : Packet) (bar : Option ℕ) (a : Handling) → forward g t bar ≡ Some a → Owes 2 a
forward_owes g t None a h = absurd cc
forward_owes g t (Some bar) a h = subst (Owes 2) (some_is _ a h) (omega arith)

write_owes : (share : Share) (t : Packet) (target : Option MapTarget) (a : Handling) → write_to share t target ≡ Some a → Owes 2 a
write_owes share t None a h = subst (Owes 2) (some_is _ a h) (omega arith)
write_owes share t (Some (Frame k)) a h = subst (Owes 2) (some_is _ a h) (omega arith)
write_owes share t (Some (Peer g)) a h = forward_owes g t (bar_of share.functions g) a h

read_owes : (share : Share) (frames : List (ℕ × List ℕ)) (t : Packet) (target : Option MapTarget) (a : Handling) → read_from share frames t target ≡ Some a → Owes 2 a
read_owes share frames t None a h = subst (Owes 2) (some_is _ a h) (omega arith)
read_owes share frames t (Some (Frame k)) a h = subst (Owes 2) (some_is _ a h) (omega arith)
read_owes share frames t (Some (Peer g)) a h = forward_owes g t (bar_of share.functions g) a h

-- whichever of two it is
either_owes : (b : Bool) (x y : Option Handling) (a : Handling) → (x ≡ Some a → Owes 2 a) → (y ≡ Some a → Owes 2 a) → cond b x y ≡ Some a → Owes 2 a
either_owes true x y a of_x of_y h = of_x h
either_owes false x y a of_x of_y h = of_y h

serve_read_owes : (share : Share) (frames : List (ℕ × List ℕ)) (t : Packet) (a : Handling) → serve_read share frames t ≡ Some a → Owes 2 a
serve_read_owes share frames t a h =
    either_owes (nat_lt 64 (dw_count t.length)) (Some (record { effect = Leave; reply = Some (host_refusal share t) })) (read_from share frames t (target_of share.maps t.requester (address_of t / 4096) Read)) a
    (λ is. subst (Owes 2) (some_is _ a is) (omega arith)) (read_owes share frames t (target_of share.maps t.requester (address_of t / 4096) Read) a) h

add_owes : (share : Share) (frames : List (ℕ × List ℕ)) (t : Packet) (to_read to_write : Option ℕ) → Owes 2 (add_if share frames t to_read to_write)
add_owes share frames t None to_write = omega arith
add_owes share frames t (Some k) None = omega arith
add_owes share frames t (Some k) (Some m) = omega arith

serve_owes : (share : Share) (frames : List (ℕ × List ℕ)) (t : Packet) (a : Handling) → serve share frames t ≡ Some a → Owes 2 a
serve_owes share frames t a h =
    either_owes (is_write t.kind) (write_to share t (target_of share.maps t.requester (address_of t / 4096) Write)) (cond (is_fetch_add t.kind) (Some (serve_add share frames t)) (serve_read share frames t)) a
    (write_owes share t (target_of share.maps t.requester (address_of t / 4096) Write) a)
    (either_owes (is_fetch_add t.kind) (Some (serve_add share frames t)) (serve_read share frames t) a
    (λ is. subst (Owes 2) (some_is _ a is) (add_owes share frames t (frame_for share t Read) (frame_for share t Write))) (serve_read_owes share frames t a)) h

answer_owes : (share : Share) (g : ℕ) (page : List ℕ) (t : Packet) (o : Option Packet)
    → one (option_map (answered_by share g t) o) + owed_in (option_map (answered_by share g t) o) ≤ 1
answer_owes share g page t None = omega arith
answer_owes share g page t (Some c) = omega arith

access_owes : (share : Share) (g : ℕ) (t : Packet) (page : Option (List ℕ)) (a : Handling) → option_map (λ (bytes : List ℕ). record { effect = Access g; reply = function_answer share g bytes t }) page ≡ Some a → Owes 1 a
access_owes share g t None a h = absurd cc
access_owes share g t (Some bytes) a h = subst (Owes 1) (some_is _ a h) (answer_owes share g bytes t (page_answer g bytes t))

-- ---- what an alien packet owes

owes_nothing : Owes 2 discarded
owes_nothing = omega arith

or_owes : (o : Option Handling) → ((a : Handling) → o ≡ Some a → Owes 2 a) → Owes 2 (or_discarded o)
or_owes None of = owes_nothing
or_owes (Some a) of = of a refl

unserved_owes : (class : Class) (e : Emission) → owed_by e.parties ≡ 0 → Owes 2 (unserved class e)
unserved_owes Posted e none = owes_nothing
unserved_owes NonPosted e none = omega (arith, none)
unserved_owes Completion e none = owes_nothing

cond_owes : (b : Bool) (x y : Handling) → Owes 2 x → Owes 2 y → Owes 2 (cond b x y)
cond_owes true x y of_x of_y = of_x
cond_owes false x y of_x of_y = of_y

host_owes : (share : Share) (t : Packet) → Owes 2 (unserved_by_host share t)
host_owes share t = unserved_owes (class_of_kind t.kind) (host_refusal share t) refl

at_frame_owes : (share : Share) (frames : List (ℕ × List ℕ)) (t : Packet) (k : Option ℕ) → Owes 2 (at_frame_if share frames t k)
at_frame_owes share frames t None = host_owes share t
at_frame_owes share frames t (Some k) =
    cond_owes (is_write t.kind) (to_frame k t) (cond (nat_lt 64 (dw_count t.length)) (refused_by_host share t) (from_frame share frames t k)) (omega arith)
    (cond_owes (nat_lt 64 (dw_count t.length)) (refused_by_host share t) (from_frame share frames t k) (omega arith) (omega arith))

at_host_owes : (share : Share) (frames : List (ℕ × List ℕ)) (t : Packet) (type : Option AddressType) → Owes 2 (request_at_host share frames t type)
at_host_owes share frames t None = host_owes share t
at_host_owes share frames t (Some Untranslated) =
    cond_owes (is_owner (owner_of share.ports t.requester) share.domain) (or_discarded (serve share frames t)) (unserved_by_host share t)
    (or_owes (serve share frames t) (serve_owes share frames t)) (host_owes share t)
at_host_owes share frames t (Some TranslationRequest) = host_owes share t
at_host_owes share frames t (Some Translated) =
    cond_owes (is_memory t.kind) (by_number share frames t) (unserved_by_host share t) (at_frame_owes share frames t (frame_at share.frames (address_of t / 4096))) (host_owes share t)
at_host_owes share frames t (Some Reserved) = host_owes share t

at_function_owes : (share : Share) (registers : List (ℕ × List ℕ)) (g : ℕ) (t : Packet) → Owes 2 (request_at_function share registers g t)
at_function_owes share registers g t =
    cond_owes (is_access t && lies_in (bar_of share.functions g) (address_of t)) (or_discarded (access_of share registers g t)) (unserved (class_of_kind t.kind) (function_refusal share g t))
    (or_owes (access_of share registers g t) (λ a is. let le : Owes 1 a = access_owes share g t (page_of registers g) a is in omega (arith, le)))
    (unserved_owes (class_of_kind t.kind) (function_refusal share g t) refl)

-- ---- what a packet that is carried owes

carriage_by_owes : (share : Share) (frames registers : List (ℕ × List ℕ)) (b : List ℕ) (fate : Fate) (a : Handling) → carriage_by share frames registers b fate ≡ Some a → Owes 2 a
carriage_by_owes share frames registers b Vanish a h = absurd cc
carriage_by_owes share frames registers b (Refused status) a h = absurd cc
carriage_by_owes share frames registers b ToHost a h = serve_owes share frames (packet_of b) a (taken (is_carried share (packet_of b)) (serve share frames (packet_of b)) a h)
carriage_by_owes share frames registers b (Direct peer) a h =
    subst (Owes 2) (some_is _ a (taken (is_carried share (packet_of b)) (Some (request_at_function share registers peer (packet_of b))) a h)) (at_function_owes share registers peer (packet_of b))

pub carriage_owes : (share : Share) (frames registers : List (ℕ × List ℕ)) (b : List ℕ) (p : Parties) (a : Handling) → carriage_of share frames registers b p ≡ Some a → Owes (owed_by p) a
carriage_owes share frames registers b (Upward f) a h = carriage_by_owes share frames registers b (fate share.ports f b) a h
carriage_owes share frames registers b (Downward g) a h = access_owes share g (packet_of b) (page_of registers g) a h
carriage_owes share frames registers b (Answer by x) a h = absurd cc

at_port_owes : (ports : List DownstreamPort) (port : DownstreamPort) (b : List ℕ) (sender : Parties) → Owes 2 (at_port ports port b sender)
at_port_owes ports port b (Upward f) = or_owes (refusal_by port.id f b (fate_at ports f port b)) (refusal_by_owes port.id f b (fate_at ports f port b))
at_port_owes ports port b (Downward g) = owes_nothing
at_port_owes ports port b (Answer by x) = owes_nothing

-- whatever is received
abbrev OwesAs : Reception → Type 0
OwesAs (Ends a) = Owes 2 a
OwesAs (Arrives a) = Unit {0}

cond_owes_as : (b : Bool) (x y : Reception) → OwesAs x → OwesAs y → OwesAs (cond b x y)
cond_owes_as true x y of_x of_y = of_x
cond_owes_as false x y of_x of_y = of_y

host_owes_as : (o : Option Status) (share : Share) (s : Alone) (b : List ℕ) (sender : Parties) (t : Packet) → OwesAs (at_host_with o share s sender t)
host_owes_as None share s b sender t = at_host_owes share s.frames t (address_type_in t)
host_owes_as (Some status) share s b sender t =
    cond_owes_as (target_for sender t.requester == host_of share.domain) (Arrives (arriving_at s.open_tags t (answerer_of sender) (origin.Host share.domain) status)) (Ends discarded) tt owes_nothing

function_owes_as : (o : Option Status) (share : Share) (s : Alone) (g : ℕ) (b : List ℕ) (sender : Parties) (t : Packet) → OwesAs (at_function_with o share s g sender t)
function_owes_as None share s g b sender t = at_function_owes share s.registers g t
function_owes_as (Some status) share s g b sender t = tt

reception_at_owes : (share : Share) (s : Alone) (b : List ℕ) (sender : Parties) (t : Packet) (taker : Taker) → OwesAs (reception_at share s b sender t taker)
reception_at_owes share s b sender t Host = host_owes_as (status_in t.body) share s b sender t
reception_at_owes share s b sender t (taker.Function g) = function_owes_as (status_in t.body) share s g b sender t
reception_at_owes share s b sender t (Port port) = at_port_owes share.ports port b sender
reception_at_owes share s b sender t Upstream = owes_nothing

reception_owes : (m : Option Malformed) (share : Share) (s : Alone) (b : List ℕ) (sender : Parties) (taker : Taker) → OwesAs (reception_unless m share s b sender taker)
reception_owes None share s b sender taker = reception_at_owes share s b sender (packet_of b) taker
reception_owes (Some cause) share s b sender taker = owes_nothing

reception_by_owes : (share : Share) (s : Alone) (b : List ℕ) (sender : Parties) (taker : Option Taker) (r : Reception) → reception_by share s b sender taker ≡ Some r → OwesAs r
reception_by_owes share s b sender None r h = absurd cc
reception_by_owes share s b sender (Some taker) r h = subst OwesAs (some_is _ r h) (reception_owes (malformed b) share s b sender taker)

-- a test that excluded nothing
included : {A : Type 0} (b : Bool) (x : Option A) (y : A) → cond b None x ≡ Some y → x ≡ Some y
included true x y e = absurd cc
included false x y e = e

reception_of_owes : (share : Share) (s : Alone) (place : Place) (sender : Parties) (b : List ℕ) (r : Reception) → reception_of share s place sender b ≡ Some r → OwesAs r
reception_of_owes share s place sender b r h =
    reception_by_owes share s b sender (taker_of share place) r (included (is_excluded share b) (reception_by share s b sender (taker_of share place)) r h)

-- an alien packet may lead to two packets
joins : (share : Share) (s t : Alone) (n m : ℕ) → Accounted share s n m → t.flight ≡ s.flight → t.counts.begins ≡ s.counts.begins → t.counts.blocked ≤ s.counts.blocked + 1
    → t.counts.unexpected ≤ s.counts.unexpected + 1 → Spare share t (suc n) (m + 1) 2
joins share s t n m a flight begins blocks strays =
    let w : waiting t.flight ≡ waiting s.flight = ap waiting flight in
    let o : owed t.flight ≡ owed s.flight = ap owed flight in
    let l : length t.flight ≡ length s.flight = ap length flight in
    record {
      entries_are = omega (arith, a.entries_are, w, l, begins);
      packets = omega (arith, a.packets, o, l, begins);
      begins = omega (arith, a.begins, begins);
      blocks = omega (arith, a.blocks, blocks);
      strays = omega (arith, a.strays, strays);
    }

did_alien : (share : Share) (s : Alone) (n m : ℕ) (b : List ℕ) (d : Effect) → Accounted share s n m → Spare share (done s b d) (suc n) (m + 1) 2
did_alien share s n m b Leave a = joins share s s n m a refl refl (omega arith) (omega arith)
did_alien share s n m b Block a = joins share s (blocked s) n m a refl refl (omega arith) (omega arith)
did_alien share s n m b (Store k first) a = joins share s (with_stored s k first (runs (packet_of b))) n m a refl refl (omega arith) (omega arith)
did_alien share s n m b (Add k first) a = joins share s (with_added s k first (packet_of b).payload) n m a refl refl (omega arith) (omega arith)
did_alien share s n m b (Access g) a = joins share s (with_access s g (packet_of b)) n m a refl refl (omega arith) (omega arith)

arrives_alien : (share : Share) (s : Alone) (n m : ℕ) (d : Delivery) (awaited : Bool) → Accounted share s n m → Accounted share (cond awaited (recorded s d) (unexpected s)) (suc n) (m + 1)
arrives_alien share s n m d true a = answered share (recorded s d) (suc n) (m + 1) 2 None (joins share s (recorded s d) n m a refl refl (omega arith) (omega arith)) (omega arith)
arrives_alien share s n m d false a = answered share (unexpected s) (suc n) (m + 1) 2 None (joins share s (unexpected s) n m a refl refl (omega arith) (omega arith)) (omega arith)

receives : (share : Share) (s : Alone) (n m : ℕ) (b : List ℕ) (r : Reception) → OwesAs r → Accounted share s n m → Accounted share (received s b r).state (suc n) (m + 1)
receives share s n m b (Ends e) owes a = answered share (done s b e.effect) (suc n) (m + 1) 2 e.reply (did_alien share s n m b e.effect a) owes
receives share s n m b (Arrives e) owes a = arrives_alien share s n m (arrival_by e b).delivery e.is_awaited a

taken_in : (share : Share) (s : Alone) (n m : ℕ) (b : List ℕ) (o : Option Reception) (c : Change) → ((r : Reception) → o ≡ Some r → OwesAs r) → Accounted share s n m
    → received_if s b o ≡ Some c → Accounted share c.state (suc n) (m + 1)
taken_in share s n m b None c owes a h = absurd cc
taken_in share s n m b (Some r) c owes a h = subst (λ (d : Change). Accounted share d.state (suc n) (m + 1)) (some_is _ c h) (receives share s n m b r (owes r refl) a)

-- ---- the entries

refused : (share : Share) (s : Alone) (n m k : ℕ) (o : Option Emission) (c : Change) → item_at s.flight k ≡ o → Accounted share s n m → refuse share s k o ≡ Some c → Accounted share c.state (suc n) m
refused share s n m k None c is a h = absurd cc
refused share s n m k (Some e) c is a h = ends share s n m k e (refusal_of share e.bytes e.parties) c is (refusal_owes share e.bytes e.parties) a h

carried : (share : Share) (s : Alone) (n m k : ℕ) (o : Option Emission) (c : Change) → item_at s.flight k ≡ o → Accounted share s n m → carry share s k o ≡ Some c → Accounted share c.state (suc n) m
carried share s n m k None c is a h = absurd cc
carried share s n m k (Some e) c is a h = ends share s n m k e (carriage_of share s.frames s.registers e.bytes e.parties) c is (carriage_owes share s.frames s.registers e.bytes e.parties) a h

arrives : (share : Share) (s : Alone) (n m k : ℕ) (e : Emission) (d : Delivery) (b : Bool) → item_at s.flight k ≡ Some e → Accounted share s n m → Accounted share (cond b (recorded (without s k) d) (unexpected (without s k))) (suc n) m
arrives share s n m k e d true is a = answered share (recorded (without s k) d) (suc n) m (owed_by e.parties) None (left share s (recorded (without s k) d) n m k e is a refl refl (omega arith) (omega arith)) (omega arith)
arrives share s n m k e d false is a = answered share (unexpected (without s k)) (suc n) m (owed_by e.parties) None (left share s (unexpected (without s k)) n m k e is a refl refl (omega arith) (omega arith)) (omega arith)

delivers : (share : Share) (s : Alone) (n m k : ℕ) (e : Emission) (r : Option Arrival) (c : Change) → item_at s.flight k ≡ Some e → Accounted share s n m
    → option_map (λ (a : Arrival). emits_nothing (arrived (without s k) a)) r ≡ Some c → Accounted share c.state (suc n) m
delivers share s n m k e None c is a h = absurd cc
delivers share s n m k e (Some r) c is a h = subst (λ (d : Change). Accounted share d.state (suc n) m) (some_is _ c h) (arrives share s n m k e r.delivery r.is_awaited is a)

delivered : (share : Share) (s : Alone) (n m k : ℕ) (o : Option Emission) (c : Change) → item_at s.flight k ≡ o → Accounted share s n m → deliver s k o ≡ Some c → Accounted share c.state (suc n) m
delivered share s n m k None c is a h = absurd cc
delivered share s n m k (Some e) c is a h = delivers share s n m k e (arrival_of s.open_tags e.bytes e.parties) c is a h

pub accounted_step : (share : Share) (s : Alone) (n m : ℕ) (entry : Entry) (c : Change) → Accounted share s n m → change share s entry ≡ Some c → Accounted share c.state (suc n) (with_alien entry m)
accounted_step share s n m (Submit f b) c a h = submits share s n m f b (submit_fault share s f b) c (submit_budget share s f b) a h
accounted_step share s n m (Tick f) c a h = ticks_unless share s n m f (tick_fault share s f) c (tick_budget share s f) a h
accounted_step share s n m (Mmio x) c a h = mmio_accounted share s n m x (mmio_fault share s x) c (mmio_budget share s x) a h
accounted_step share s n m (Refuse k) c a h = refused share s n m k (item_at s.flight k) c refl a h
accounted_step share s n m (Carry k) c a h = carried share s n m k (item_at s.flight k) c refl a h
accounted_step share s n m (Deliver k) c a h = delivered share s n m k (item_at s.flight k) c refl a h
accounted_step share s n m (Alien place sender b) c a h = taken_in share s n m b (reception_of share s place sender b) c (reception_of_owes share s place sender b) a h

-- ---- and so does a journal

pub none_stays : (share : Share) (journal : List Entry) (t : Alone) → replay_from share None journal ≡ Some t → ⊥
none_stays share [] t e = cc
none_stays share (x ∷ xs) t e = none_stays share xs t e

pub goes_on : (share : Share) (xs : List Entry) (o : Option Change) (t : Alone) {P : Type 0} → ((c : Change) → o ≡ Some c → replay_from share (Some c.state) xs ≡ Some t → P)
    → replay_from share (option_map (λ c. c.state) o) xs ≡ Some t → P
goes_on share xs None t rest e = absurd (none_stays share xs t e)
goes_on share xs (Some c) t rest e = rest c refl e

accounted_from : (share : Share) (s : Alone) (n m : ℕ) (journal : List Entry) (t : Alone) → Accounted share s n m → replay_from share (Some s) journal ≡ Some t
    → Accounted share t (n + length journal) (aliens_from m journal)
accounted_from share s n m [] t a e = subst (λ (u : Alone). Accounted share u (n + 0) m) (some_is s t e) (subst (λ (k : ℕ). Accounted share s k m) (omega arith) a)
accounted_from share s n m (x ∷ xs) t a e =
    goes_on share xs (change share s x) t
    (λ c is rest. subst (λ (k : ℕ). Accounted share t k (aliens_from (with_alien x m) xs)) (omega arith) (accounted_from share c.state (suc n) (with_alien x m) xs t (accounted_step share s n m x c a is) rest)) e

-- the account of a domain's journal
pub accounted : (share : Share) (journal : List Entry) (s : Alone) → replay share journal ≡ Some s → Accounted share s (length journal) (aliens_in journal)
accounted share journal s e = subst (λ (k : ℕ). Accounted share s k (aliens_in journal)) (omega arith) (accounted_from share (start_state share) 0 0 journal s (accounted_start share) e)

-- there is room for a begin within the budget, and for the end of a packet in flight
pub room_to_begin : (share : Share) (s : Alone) (n m : ℕ) → Accounted share s n m → s.counts.begins < share.budget → n < 4 * share.budget + 3 * m
room_to_begin share s n m a lt = omega (arith, a.entries_are, a.packets, lt)

one_waits : (xs : List (Option Emission)) (k : ℕ) (e : Emission) → item_at xs k ≡ Some e → 1 ≤ waiting xs
one_waits xs k e is = let w : waiting (slice_set xs k None) + 1 ≡ waiting xs = ap (λ (o : Option Emission). waiting (slice_set xs k None) + one o) (sym is) ∙ waiting-end xs k in omega (arith, w)

pub room_to_end : (share : Share) (s : Alone) (n m k : ℕ) (e : Emission) → Accounted share s n m → item_at s.flight k ≡ Some e → n < 4 * share.budget + 3 * m
room_to_end share s n m k e a is = omega (arith, a.entries_are, a.packets, a.begins, one_waits s.flight k e is)

-- no more entries than there is room for
pub room_held : (share : Share) (s : Alone) (n m : ℕ) → Accounted share s n m → n ≤ 4 * share.budget + 3 * m
room_held share s n m a = omega (arith, a.entries_are, a.packets, a.begins)

-- one more entry at the end of a journal
aliens-push : (n : ℕ) (js : List Entry) (x : Entry) → aliens_from n (js ++ x ∷ []) ≡ with_alien x (aliens_from n js)
aliens-push n [] x = refl
aliens-push n (y ∷ js) x = aliens-push (with_alien y n) js x

pub aliens_more : (js js' : List Entry) (x : Entry) → js' ≡ js ++ x ∷ [] → aliens_in js' ≡ with_alien x (aliens_in js)
aliens_more js js' x grown = ap aliens_in grown ∙ aliens-push 0 js x
