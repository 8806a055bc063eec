-- What a function put in its outbox and sent as its own is its own.
use Rattle.std.proofs.Common.{◌≡◌, ℕ, ◌+◌, ◌≤◌, List, [], ◌∷◌, ◌++◌, Option, Some, None, refl, sym, ap, ◌∙◌, subst, arith}
use Rattle.std.specs.Prelude.{All, option_map}
use Rattle.std.proofs.lemmas.List.Elements.{All-append, All-cons, All-nil}
use Rattle.fab_types.specs.declared.faults.begin.SubmitFault.{SubmitFault}
use Rattle.fab_types.specs.declared.faults.begin.TickFault.{TickFault}
use Rattle.fab_types.specs.declared.head.Parties.{Parties}
use Rattle.fab_types.specs.declared.head.Parties.TheVariants.{Upward, Downward, Answer}
use Rattle.fab_types.specs.declared.origin.Origin.{Origin}
use Rattle.fab_types.specs.declared.origin.Origin.TheVariants.{Function}
use Rattle.function.specs.declared.plan.Plan.{Plan}
use Rattle.function.specs.declared.plan.Plan.TheVariants.{Nothing, Halt, Fault, Pass, Emit}
use Rattle.function.specs.Plans.{plan_of}
use Rattle.host_memory.specs.Pages.{page_of}
use Rattle.platform.specs.Share.{Share}
use Rattle.request_handling.specs.Carries.{carriage_end}
use Rattle.request_handling.specs.Emissions.{Emission}
use Rattle.request_handling.specs.declared.handling.Handling.{Handling}
use Rattle.domain_state.specs.State.{Alone, Change, item_at}
use Rattle.domain.specs.declared.entry.Entry.{Entry}
use Rattle.domain.specs.declared.entry.Entry.TheVariants.{Submit, Tick, Mmio, Refuse, Carry, Deliver, Alien}
use Rattle.domain.specs.Machine.{change, ended, replay_from}
use Rattle.domain.specs.Sent.{IsBySource, sent_by_entry, sent_from, sent_of, source}
use Rattle.domain.specs.Submits.{submit_fault, submit_unless}
use Rattle.domain.specs.Ticks.{sent_by, tick_fault, tick_unless, ticks}
use Rattle.domain.proofs.Accounting.{Owes, carriage_owes, goes_on, one, owed_by, owed_in}

abbrev some : {A : Type 0} → A → Option A
some x = Some x

some_is : {A : Type 0} (x y : A) → some x ≡ some y → x ≡ y
some_is x y e = cc

one_sender : (f sender : ℕ) → Upward f ≡ Upward sender → sender ≡ f
one_sender f sender e = cc

one_source : (f function : ℕ) → some (Function f) ≡ Some (Function function) → f ≡ function
one_source f function e = cc

-- ---- what a function begins

submit_by : (s : Alone) (f : ℕ) (b : List ℕ) (fault : Option SubmitFault) (c : Change) (e : Emission) (sender : ℕ) → submit_unless fault s f b ≡ Some c → c.emission ≡ Some e → e.parties ≡ Upward sender → sender ≡ f
submit_by s f b None c e sender made sent to =
    let is : some (record { parties = Upward f; bytes = b }) ≡ Some e = ap (λ (x : Change). x.emission) (some_is _ c made) ∙ sent in
    one_sender f sender (ap (λ (x : Emission). x.parties) (some_is _ e is) ∙ to)
submit_by s f b (Some fault) c e sender made sent to = absurd cc

plan_by : (f : ℕ) (plan : Plan) (e : Emission) (sender : ℕ) → sent_by f plan ≡ Some e → e.parties ≡ Upward sender → sender ≡ f
plan_by f Nothing e sender sent to = absurd cc
plan_by f Halt e sender sent to = absurd cc
plan_by f Fault e sender sent to = absurd cc
plan_by f Pass e sender sent to = absurd cc
plan_by f (Emit packet opened) e sender sent to = one_sender f sender (ap (λ (x : Emission). x.parties) (some_is _ e sent) ∙ to)

ticks_by : (s : Alone) (f : ℕ) (page : Option (List ℕ)) (c : Change) (e : Emission) (sender : ℕ) → ticks s f page ≡ Some c → c.emission ≡ Some e → e.parties ≡ Upward sender → sender ≡ f
ticks_by s f None c e sender made sent to = absurd cc
ticks_by s f (Some page) c e sender made sent to =
    plan_by f (plan_of f page s.open_tags) e sender (ap (λ (x : Change). x.emission) (some_is _ c made) ∙ sent) to

tick_by : (s : Alone) (f : ℕ) (fault : Option TickFault) (c : Change) (e : Emission) (sender : ℕ) → tick_unless fault s f ≡ Some c → c.emission ≡ Some e → e.parties ≡ Upward sender → sender ≡ f
tick_by s f None c e sender made sent to = ticks_by s f (page_of s.registers f) c e sender made sent to
tick_by s f (Some fault) c e sender made sent to = absurd cc

-- ---- what is carried is followed by nothing that a function sends as its own

few : (p : Parties) → owed_by p ≤ 2
few (Upward function) = omega arith
few (Downward function) = omega arith
few (Answer answerer addressee) = omega arith

no_reply : (o : Option Emission) (e : Emission) (sender : ℕ) → one o + owed_in o ≤ 2 → o ≡ Some e → e.parties ≡ Upward sender → ⊥
no_reply None e sender le sent to = absurd cc
no_reply (Some x) e sender le sent to =
    let owes : owed_by x.parties ≡ 2 = ap (λ (y : Emission). owed_by y.parties) (some_is x e sent) ∙ ap owed_by to in
    absurd (omega (arith, le, owes))

carry_by : (s : Alone) (n : ℕ) (o : Option Emission) (r : Option Handling) (c : Change) (e : Emission) (sender : ℕ) → ((x : Emission) (a : Handling) → o ≡ Some x → r ≡ Some a → Owes (owed_by x.parties) a) → ended s n o r ≡ Some c
    → c.emission ≡ Some e → e.parties ≡ Upward sender → ⊥
carry_by s n None r c e sender owes made sent to = absurd cc
carry_by s n (Some x) None c e sender owes made sent to = absurd cc
carry_by s n (Some x) (Some a) c e sender owes made sent to =
    let owed : one a.reply + owed_in a.reply ≤ owed_by x.parties = owes x a refl refl in
    let most = few x.parties in
    no_reply a.reply e sender (omega (arith, owed, most)) (ap (λ (y : Change). y.emission) (some_is _ c made) ∙ sent) to

owes_so : (share : Share) (s : Alone) (o : Option Emission) (x : Emission) (a : Handling) → o ≡ Some x → carriage_end share s.frames s.registers o ≡ Some a → Owes (owed_by x.parties) a
owes_so share s None x a there is = absurd cc
owes_so share s (Some y) x a there is =
    subst (λ (z : Emission). Owes (owed_by z.parties) a) (some_is y x there) (carriage_owes share s.frames s.registers y.bytes y.parties a is)

-- ---- each entry

by_entry : (share : Share) (s : Alone) (entry : Entry) (c : Change) (e : Emission) (function sender : ℕ) → change share s entry ≡ Some c → c.emission ≡ Some e → source share s entry ≡ Some (Function function) → e.parties ≡ Upward sender → sender ≡ function
by_entry share s (Submit f b) c e function sender made sent from to = submit_by s f b (submit_fault share s f b) c e sender made sent to ∙ one_source f function from
by_entry share s (Tick f) c e function sender made sent from to = tick_by s f (tick_fault share s f) c e sender made sent to ∙ one_source f function from
by_entry share s (Mmio access) c e function sender made sent from to = absurd cc
by_entry share s (Refuse n) c e function sender made sent from to = absurd cc
by_entry share s (Carry n) c e function sender made sent from to =
    absurd (carry_by s n (item_at s.flight n) (carriage_end share s.frames s.registers (item_at s.flight n)) c e sender (λ x a there is. owes_so share s (item_at s.flight n) x a there is) made sent to)
by_entry share s (Deliver n) c e function sender made sent from to = absurd cc
by_entry share s (Alien place by b) c e function sender made sent from to = absurd cc

all_by : (origin : Option Origin) (o : Option Emission) → ((e : Emission) → o ≡ Some e → (function sender : ℕ) → origin ≡ Some (Function function) → e.parties ≡ Upward sender → sender ≡ function) → All IsBySource (sent_of origin o)
all_by origin None h = All-nil IsBySource
all_by origin (Some e) h = All-cons IsBySource (record { source = origin; emission = e }) [] (λ function sender from to. h e refl function sender from to) (All-nil IsBySource)

entry_by : (share : Share) (s : Alone) (entry : Entry) (c : Change) → change share s entry ≡ Some c → All IsBySource (sent_of (source share s entry) c.emission)
entry_by share s entry c made = all_by (source share s entry) c.emission (λ e sent function sender from to. by_entry share s entry c e function sender made sent from to)

-- ---- the entries of a journal

pub all_by_source : (share : Share) (s : Alone) (journal : List Entry) (t : Alone) → replay_from share (Some s) journal ≡ Some t → All IsBySource (sent_from share (Some s) journal)
all_by_source share s [] t h = All-nil IsBySource
all_by_source share s (x ∷ es) t h =
    goes_on share es (change share s x) t
    (λ c is rest.
    subst (λ (o : Option Change). All IsBySource (sent_by_entry share s x o ++ sent_from share (option_map (λ (d : Change). d.state) o) es)) (sym is)
    (All-append IsBySource (sent_of (source share s x) c.emission) (sent_from share (Some c.state) es) (entry_by share s x c is) (all_by_source share c.state es t rest))) h
