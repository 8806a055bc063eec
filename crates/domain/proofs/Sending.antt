-- What a domain sent stands at the places of the numbers, entry by entry.
use Rattle.std.proofs.Common.{◌≡◌, ℕ, zero, suc, List, [], ◌∷◌, ◌++◌, length, Option, Some, None, refl, sym, ap, ◌∙◌, subst, arith, append_assoc, slice_get, slice_set}
use Rattle.std.specs.Prelude.{option_map}
use Rattle.std.proofs.lemmas.List.{append-nil}
use Rattle.std.proofs.lemmas.Option.{get_or_from_slice_get, slice_get_within}
use Rattle.fab_types.specs.declared.origin.Origin.{Origin}
use Rattle.platform.specs.Share.{Share}
use Rattle.domain.specs.declared.entry.Entry.{Entry}
use Rattle.domain.specs.declared.entry.Entry.TheVariants.{Submit, Tick, Mmio, Refuse, Carry, Deliver, Alien}
use Rattle.domain.specs.Deliveries.{Arrival, arrival, arrived}
use Rattle.domain.specs.Machine.{change, replay, replay_from, step_from}
use Rattle.domain.specs.Sent.{AreSent, IsBySource, Sent, sent, sent_at, sent_by_entry, sent_from, sent_of, source}
use Rattle.request_handling.specs.Emissions.{Emission}
use Rattle.domain_state.specs.State.{Alone, Change, emits_nothing, item_at, start_state, without}
use Rattle.domain.proofs.Accounting.{goes_on}
use Rattle.domain.proofs.Joining.{mmio_flight, submit_flight, tick_flight}
use Rattle.domain.proofs.Leaving.{alien_flight, carry_flight, deliver_flight, joined, refuse_flight}
use Rattle.domain.proofs.Senders.{all_by_source}

abbrev some : {A : Type 0} → A → Option A
some x = Some x

some_is : {A : Type 0} (x y : A) → some x ≡ some y → x ≡ y
some_is x y e = cc

-- ---- what was sent, beside what is in flight

-- what is in flight under a number is what was sent under it
abbrev IsItem : Option Emission → Sent → Type 0
IsItem None x = Unit {0}
IsItem (Some e) x = x.emission ≡ e

abbrev AreItems : List (Option Emission) → List Sent → Type 0
AreItems [] [] = Unit {0}
AreItems [] (x ∷ xs) = ⊥
AreItems (o ∷ os) [] = ⊥
AreItems (o ∷ os) (x ∷ xs) = IsItem o x × AreItems os xs

push_items : (os : List (Option Emission)) (xs : List Sent) (origin : Option Origin) (e : Emission) → AreItems os xs → AreItems (os ++ Some e ∷ []) (xs ++ record { source = origin; emission = e } ∷ [])
push_items [] [] origin e are = (refl, tt)
push_items [] (x ∷ xs) origin e are = absurd are
push_items (o ∷ os) [] origin e are = absurd are
push_items (o ∷ os) (x ∷ xs) origin e are = (are.0, push_items os xs origin e are.1)

joined_items : (os : List (Option Emission)) (xs : List Sent) (origin : Option Origin) (reply : Option Emission) → AreItems os xs → AreItems (joined os reply) (xs ++ sent_of origin reply)
joined_items os xs origin None are = subst (AreItems os) (sym (append-nil xs)) are
joined_items os xs origin (Some e) are = push_items os xs origin e are

cleared_items : (os : List (Option Emission)) (xs : List Sent) (k : ℕ) → AreItems os xs → AreItems (slice_set os k None) xs
cleared_items [] xs k are = are
cleared_items (o ∷ os) [] k are = absurd are
cleared_items (o ∷ os) (x ∷ xs) zero are = (tt, are.1)
cleared_items (o ∷ os) (x ∷ xs) (suc k) are = (are.0, cleared_items os xs k are.1)

many_items : (os : List (Option Emission)) (xs : List Sent) → AreItems os xs → length xs ≡ length os
many_items [] [] are = refl
many_items [] (x ∷ xs) are = absurd are
many_items (o ∷ os) [] are = absurd are
many_items (o ∷ os) (x ∷ xs) are = omega (arith, many_items os xs are.1)

is_item : (o : Option Emission) (x : Sent) (e : Emission) → IsItem o x → o ≡ Some e → some x.emission ≡ Some e
is_item None x e is there = absurd cc
is_item (Some d) x e is there = ap some is ∙ there

each_item : (os : List (Option Emission)) (xs : List Sent) (n : ℕ) (e : Emission) → AreItems os xs → item_at os n ≡ Some e → option_map (λ (x : Sent). x.emission) (slice_get xs n) ≡ Some e
each_item [] xs n e are there = absurd cc
each_item (o ∷ os) [] n e are there = absurd are
each_item (o ∷ os) (x ∷ xs) zero e are there = is_item o x e are.0 there
each_item (o ∷ os) (x ∷ xs) (suc n) e are there = each_item os xs n e are.1 there

-- ---- each entry

-- what a change makes of what was sent
abbrev Sends : Option Origin → Alone → Change → Type 0
Sends origin s c = (xs : List Sent) → AreItems s.flight xs → AreItems c.state.flight (xs ++ sent_of origin c.emission)

joins : (origin : Option Origin) (s : Alone) (c : Change) → c.state.flight ≡ joined s.flight c.emission → Sends origin s c
joins origin s c grown xs are = subst (λ (os : List (Option Emission)). AreItems os (xs ++ sent_of origin c.emission)) (sym grown) (joined_items s.flight xs origin c.emission are)

leaves : (origin : Option Origin) (s : Alone) (k : ℕ) (c : Change) → c.state.flight ≡ joined (slice_set s.flight k None) c.emission → Sends origin s c
leaves origin s k c left xs are =
    subst (λ (os : List (Option Emission)). AreItems os (xs ++ sent_of origin c.emission)) (sym left)
    (joined_items (slice_set s.flight k None) xs origin c.emission (cleared_items s.flight xs k are))

arrives : (s : Alone) (r : Option Arrival) (c : Change) → option_map (λ (a : Arrival). emits_nothing (arrived s a)) r ≡ Some c → c.emission ≡ None
arrives s None c h = absurd cc
arrives s (Some a) c h = ap (λ (x : Change). x.emission) (sym (some_is _ c h))

delivers : (share : Share) (s : Alone) (k : ℕ) (c : Change) → change share s (Deliver k) ≡ Some c → c.state.flight ≡ joined (slice_set s.flight k None) c.emission
delivers share s k c h =
    let silent : c.emission ≡ None = arrives (without s k) (arrival s.open_tags (item_at s.flight k)) c h in
    deliver_flight share s k c h ∙ ap (joined (slice_set s.flight k None)) (sym silent)

entry_sends : (share : Share) (s : Alone) (entry : Entry) (c : Change) → change share s entry ≡ Some c → Sends (source share s entry) s c
entry_sends share s (Submit f b) c h = joins _ s c (submit_flight share s f b c h)
entry_sends share s (Tick f) c h = joins _ s c (tick_flight share s f c h)
entry_sends share s (Mmio x) c h = joins _ s c (mmio_flight share s x c h)
entry_sends share s (Refuse k) c h = leaves _ s k c (refuse_flight share s k c h)
entry_sends share s (Carry k) c h = leaves _ s k c (carry_flight share s k c h)
entry_sends share s (Deliver k) c h = leaves _ s k c (delivers share s k c h)
entry_sends share s (Alien place sender b) c h = joins _ s c (alien_flight share s place sender b c h)

-- ---- the entries of a journal

journal_sends : (share : Share) (s : Alone) (journal : List Entry) (t : Alone) (xs : List Sent) → replay_from share (Some s) journal ≡ Some t → AreItems s.flight xs
    → AreItems t.flight (xs ++ sent_from share (Some s) journal)
journal_sends share s [] t xs h are =
    subst (λ (u : Alone). AreItems u.flight (xs ++ [])) (some_is s t h) (subst (AreItems s.flight) (sym (append-nil xs)) are)
journal_sends share s (x ∷ es) t xs h are =
    goes_on share es (change share s x) t
    (λ c is rest.
    let now = sent_of (source share s x) c.emission in
    let later = sent_from share (Some c.state) es in
    let all : AreItems t.flight ((xs ++ now) ++ later) = journal_sends share c.state es t (xs ++ now) rest (entry_sends share s x c is xs are) in
    subst (λ (o : Option Change). AreItems t.flight (xs ++ (sent_by_entry share s x o ++ sent_from share (option_map (λ (d : Change). d.state) o) es))) (sym is)
    (subst (AreItems t.flight) (append_assoc xs now later) all)) h

pub are_sent : (share : Share) (journal : List Entry) (s : Alone) → replay share journal ≡ Some s → AreSent share journal s
are_sent share journal s h =
    let are : AreItems s.flight (sent share journal) = journal_sends share (start_state share) journal s [] h tt in
    record { many = many_items s.flight (sent share journal) are; each = λ n e there. each_item s.flight (sent share journal) n e are there; sender = all_by_source share (start_state share) journal s h }

-- so is each that stands there
pub sender_of_sent : (share : Share) (journal : List Entry) (s : Alone) → replay share journal ≡ Some s → (n : ℕ) (x : Sent) → slice_get (sent share journal) n ≡ Some x → IsBySource x
sender_of_sent share journal s h n x at =
    subst IsBySource (get_or_from_slice_get (sent share journal) n x x at) ((are_sent share journal s h).sender n x (slice_get_within (sent share journal) n x at))

-- ---- one entry more

from_after : (share : Share) (o : Option Alone) (es : List Entry) (entry : Entry) → sent_from share o (es ++ entry ∷ []) ≡ sent_from share o es ++ sent_at share (replay_from share o es) entry
from_after share o [] entry = append-nil (sent_at share o entry)
from_after share o (x ∷ es) entry =
    let p = step_from share o x in
    ap (λ (ys : List Sent). sent_at share o x ++ ys) (from_after share p es entry)
    ∙ sym (append_assoc (sent_at share o x) (sent_from share p es) (sent_at share (replay_from share p es) entry))

pub sent_after : (share : Share) (journal : List Entry) (s : Alone) (entry : Entry) (c : Change) → replay share journal ≡ Some s → change share s entry ≡ Some c
    → sent share (journal ++ entry ∷ []) ≡ sent share journal ++ sent_by_entry share s entry (Some c)
sent_after share journal s entry c h is =
    from_after share (Some (start_state share)) journal entry ∙ ap (λ (o : Option Alone). sent share journal ++ sent_at share o entry) h
    ∙ ap (λ (o : Option Change). sent share journal ++ sent_by_entry share s entry o) is
