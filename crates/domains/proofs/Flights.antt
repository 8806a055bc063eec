-- What a domain has emitted after an entry: what it had, and the packet of the entry, if any.
use Rattle.std.proofs.Common.{◌≡◌, ℕ, ◌+◌, ◌*◌, ◌≤◌, List, [], ◌∷◌, length, Option, Some, None, sym, ap, ◌∙◌, subst, arith, slice_set, length-append, length-set}
use Rattle.std.specs.Prelude.{option_map}
use Rattle.std.proofs.lemmas.Option.{same_Some}
use Rattle.fab_types.specs.declared.faults.begin.SubmitFault.{SubmitFault}
use Rattle.fab_types.specs.declared.faults.begin.TickFault.{TickFault}
use Rattle.fab_types.specs.declared.faults.begin.MmioFault.{MmioFault}
use Rattle.fab_types.specs.declared.head.Parties.{Parties}
use Rattle.fab_types.specs.declared.place.Place.{Place}
use Rattle.function.specs.Plans.{plan_of}
use Rattle.platform.specs.Share.{Share}
use Rattle.platform.specs.Owners.{bar_of}
use Rattle.domain.proofs.Accounting.{accounted}
use Rattle.domain.proofs.Leaving.{alien_flight, carry_flight, deliver_flight, joined, refuse_flight}
use Rattle.fab_types.specs.declared.host_access.HostAccess.{HostAccess}
use Rattle.domain.specs.declared.entry.Entry.{Entry}
use Rattle.domain.specs.declared.entry.Entry.TheVariants.{Submit, Tick, Mmio, Refuse, Carry, Deliver, Alien}
use Rattle.domain.specs.Deliveries.{arrival, arrived}
use Rattle.domain_state.specs.Ends.{replied}
use Rattle.domain_state.specs.HostAccesses.{mmio_fault, mmio_unless, mmio_with, tag_for}
use Rattle.domain.specs.Machine.{aliens_in, change, replay}
use Rattle.request_handling.specs.Emissions.{Emission}
use Rattle.domain_state.specs.State.{Alone, Change, emits_nothing, item_at, without}
use Rattle.domain.specs.Submits.{submit_fault, submit_unless}
use Rattle.domain.specs.Ticks.{sent_by, tick_fault, tick_unless, ticked, ticks}

abbrev pub count : Option Emission → ℕ
count None = 0
count (Some e) = 1

abbrev pub Grows : Alone → Change → Type 0
Grows s c = length c.state.flight ≡ length s.flight + count c.emission

joined_length : (flight : List (Option Emission)) (o : Option Emission) → length (joined flight o) ≡ length flight + count o
joined_length flight None = omega arith
joined_length flight (Some e) = omega (arith, length-append flight (Some e ∷ []))

replied_length : (s : Alone) (o : Option Emission) → length (replied s o).flight ≡ length s.flight + count o
replied_length s None = omega arith
replied_length s (Some e) = omega (arith, length-append s.flight (Some e ∷ []))

-- what is left in flight keeps its place
left_length : (s : Alone) (n : ℕ) (c : Change) → c.state.flight ≡ joined (slice_set s.flight n None) c.emission → Grows s c
left_length s n c is = ap length is ∙ joined_length (slice_set s.flight n None) c.emission ∙ ap (λ (k : ℕ). k + count c.emission) (length-set s.flight n None)

submit_grows : (s : Alone) (f : ℕ) (b : List ℕ) (fault : Option SubmitFault) (c : Change) → submit_unless fault s f b ≡ Some c → Grows s c
submit_grows s f b None c h = subst (Grows s) (same_Some _ c h) (length-append s.flight _)
submit_grows s f b (Some fault) c h = absurd cc

ticks_grow : (s : Alone) (f : ℕ) (page : Option (List ℕ)) (c : Change) → ticks s f page ≡ Some c → Grows s c
ticks_grow s f None c h = absurd cc
ticks_grow s f (Some page) c h =
    let plan = plan_of f page s.open_tags in
    subst (Grows s) (same_Some _ c h) (replied_length (ticked s f plan) (sent_by f plan))

tick_grows : (s : Alone) (f : ℕ) (fault : Option TickFault) (c : Change) → tick_unless fault s f ≡ Some c → Grows s c
tick_grows s f None c h = ticks_grow s f _ c h
tick_grows s f (Some fault) c h = absurd cc

access_grows : (share : Share) (s : Alone) (x : HostAccess) (tag bar : Option ℕ) (c : Change) → mmio_with share s x tag bar ≡ Some c → Grows s c
access_grows share s x None bar c h = absurd cc
access_grows share s x (Some tag) None c h = absurd cc
access_grows share s x (Some tag) (Some bar) c h = subst (Grows s) (same_Some _ c h) (length-append s.flight _)

mmio_grows : (share : Share) (s : Alone) (x : HostAccess) (fault : Option MmioFault) (c : Change) → mmio_unless fault share s x ≡ Some c → Grows s c
mmio_grows share s x None c h = access_grows share s x (tag_for s.open_tags share.domain x.operation) (bar_of share.functions x.function) c h
mmio_grows share s x (Some fault) c h = absurd cc

none_emitted : {A : Type 0} (leaves : A → Alone) (a : Option A) (c : Change) → option_map (λ (x : A). emits_nothing (leaves x)) a ≡ Some c → c.emission ≡ None
none_emitted leaves None c h = absurd cc
none_emitted leaves (Some a) c h = ap (λ (x : Change). x.emission) (sym (same_Some _ c h))

deliver_grows : (share : Share) (s : Alone) (n : ℕ) (c : Change) → change share s (Deliver n) ≡ Some c → Grows s c
deliver_grows share s n c h =
    let none : c.emission ≡ None = none_emitted (arrived (without s n)) (arrival s.open_tags (item_at s.flight n)) c h in
    left_length s n c (deliver_flight share s n c h ∙ ap (joined (slice_set s.flight n None)) (sym none))

-- nothing leaves flight with an alien packet
alien_grows : (share : Share) (s : Alone) (place : Place) (sender : Parties) (b : List ℕ) (c : Change) → change share s (Alien place sender b) ≡ Some c → Grows s c
alien_grows share s place sender b c h = ap length (alien_flight share s place sender b c h) ∙ joined_length s.flight c.emission

pub grows : (share : Share) (s : Alone) (entry : Entry) (c : Change) → change share s entry ≡ Some c → Grows s c
grows share s (Submit f b) c h = submit_grows s f b (submit_fault share s f b) c h
grows share s (Tick f) c h = tick_grows s f (tick_fault share s f) c h
grows share s (Mmio x) c h = mmio_grows share s x (mmio_fault share s x) c h
grows share s (Refuse n) c h = left_length s n c (refuse_flight share s n c h)
grows share s (Carry n) c h = left_length s n c (carry_flight share s n c h)
grows share s (Deliver n) c h = deliver_grows share s n c h
grows share s (Alien place sender b) c h = alien_grows share s place sender b c h

-- what a journal leads to
pub within_budget : (share : Share) (journal : List Entry) (s : Alone) → replay share journal ≡ Some s → length s.flight ≤ 3 * share.budget + 2 * aliens_in journal
within_budget share journal s is = let a = accounted share journal s is in omega (arith, a.packets, a.begins)
