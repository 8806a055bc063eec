-- A domain before an event and after it: it is as it was, or its machine has an entry more. What it sent, what it has in
-- flight, and in which order its packets were consumed.
use Rattle.std.proofs.Common.{◌≡◌, ◌⊎◌, inl, inr, ℕ, zero, suc, ◌+◌, ◌<◌, ◌≤◌, Bool, true, false, cond, List, [], ◌∷◌, ◌++◌, length, Option, Some, None, refl, sym, ap, ◌∙◌, subst, arith, append-nil, le-ltb, lt-ltb}
use Rattle.std.specs.Prelude.{IsSome, nat_lt, slice_get, slice_set}
use Rattle.std.proofs.lemmas.List.Sums.{sum_by-append}
use Rattle.domain.specs.Consumed.{consumes, is_in_order, times_consumed, times_waiting}
use Rattle.domain.specs.Domains.{DomainView}
use Rattle.domain.specs.Machine.{change, replay}
use Rattle.domain.specs.Sent.{Sent, sent, sent_of, source}
use Rattle.request_handling.specs.Emissions.{Emission}
use Rattle.domain_state.specs.State.{Change, item_at}
use Rattle.domain.specs.declared.entry.Entry.{Entry}
use Rattle.domain.specs.declared.entry.Entry.TheVariants.{Deliver}
use Rattle.domain.proofs.Consuming.{consumed_needs, consumed_once}
use Rattle.domain.proofs.ConsumedInOrder.{in_order_after, in_order_new}
use Rattle.domain.proofs.Sending.{sent_after}
use Rattle.platform.specs.Platform.{Platform}
use Rattle.domains.specs.Domains.{Made, after, made_at, place_of}
use Rattle.fabric_core.specs.World.{World}
use Rattle.fabric_core.proofs.order.Motions.{Motion}
use Rattle.fabric_core.proofs.invariant.Flying.{one_if, within}
use Rattle.fabric_core.proofs.invariant.Settling.{either_there, made_from}

-- ---- the two domains

pub data Stepped (d d' : DomainView) : Type 0 where
  Same : d' ≡ d → Stepped d d'
  More : (entry : Entry) (c : Change) → change d.share d.state entry ≡ Some c → d' ≡ after d entry c → Stepped d d'

-- the domain that stood at a place
pub record Before (ds : List DomainView) (place : ℕ) (d' : DomainView) : Type 0 where
  pub d : DomainView
  pub at : slice_get ds place ≡ Some d
  pub stepped : Stepped d d'

was_same : (ds ds' : List DomainView) (place : ℕ) (d' : DomainView) → ds' ≡ ds → slice_get ds' place ≡ Some d' → Before ds place d'
was_same ds ds' place d' domains at = record { d = d'; at = sym (ap (λ (xs : List DomainView). slice_get xs place) domains) ∙ at; stepped = Stepped.Same refl }

was_made : (ds ds' : List DomainView) (entry : Entry) (o : Option ℕ) (m : Made) → made_at ds entry o ≡ Some m → ds' ≡ m.domains → (place : ℕ) (d' : DomainView) → slice_get ds' place ≡ Some d' → Before ds place d'
was_made ds ds' entry o m is domains place d' at = let b = made_from ds entry o m is in by (either_there ds b.number place (after b.d entry b.c) d' now)
  where
    now : slice_get (slice_set ds (made_from ds entry o m is).number (after (made_from ds entry o m is).d entry (made_from ds entry o m is).c)) place ≡ Some d'
    now = ap (λ (x : Made). slice_get x.domains place) (made_from ds entry o m is).is ∙ (sym (ap (λ (xs : List DomainView). slice_get xs place) domains) ∙ at)

    by : ((place ≡ (made_from ds entry o m is).number) × (d' ≡ after (made_from ds entry o m is).d entry (made_from ds entry o m is).c)) ⊎ (slice_get ds place ≡ Some d') → Before ds place d'
    by (inl here) = let b = made_from ds entry o m is in record { d = b.d; at = ap (slice_get ds) here.0 ∙ b.at; stepped = Stepped.More entry b.c b.legal here.1 }
    by (inr other) = record { d = d'; at = other; stepped = Stepped.Same refl }

pub before : (platform : Platform) (w w' : World) → Motion platform w w' → (place : ℕ) (d' : DomainView) → slice_get w'.agents.domains place ≡ Some d' → Before w.agents.domains place d'
before platform w w' (Motion.Stays same domains) place d' at = was_same w.agents.domains w'.agents.domains place d' domains at
before platform w w' (Motion.Goes source target frame leaps mv domains) place d' at = was_same w.agents.domains w'.agents.domains place d' domains at
before platform w w' (Motion.Begins entry o from m starts is j domains) place d' at = was_made w.agents.domains w'.agents.domains entry o m is domains place d' at
before platform w w' (Motion.Ends direction entry target frame m between finishes f is l j domains) place d' at =
    was_made w.agents.domains w'.agents.domains entry (place_of w.agents.domains frame.domain) m is domains place d' at
before platform w w' (Motion.Delivers direction frame m last f is l domains) place d' at =
    was_made w.agents.domains w'.agents.domains (Deliver frame.number) (place_of w.agents.domains frame.domain) m is domains place d' at

pub same_share : (d d' : DomainView) → Stepped d d' → d'.share ≡ d.share
same_share d d' (Stepped.Same is) = ap (λ (x : DomainView). x.share) is
same_share d d' (Stepped.More entry c legal is) = ap (λ (x : DomainView). x.share) is

-- ---- what it sent

one_more : (from : Option _) (o : Option Emission) → length (sent_of from o) ≤ 1
one_more from None = omega arith
one_more from (Some e) = omega arith

listed_left : (xs ys : List Sent) (n : ℕ) → n < length xs → slice_get (xs ++ ys) n ≡ slice_get xs n
listed_left [] ys n less = absurd (omega (arith, less))
listed_left (x ∷ xs) ys zero less = refl
listed_left (x ∷ xs) ys (suc n) less = listed_left xs ys n (omega (arith, less))

long_more : (xs ys : List Sent) → length ys ≤ 1 → length (xs ++ ys) ≤ length xs + 1
long_more [] ys few = omega (arith, few)
long_more (x ∷ xs) ys few = omega (arith, long_more xs ys few)

-- what it sent is what it had sent, and at most one packet more
pub record Grew (d d' : DomainView) : Type 0 where
  pub more : List Sent
  pub few : length more ≤ 1
  pub is : sent d'.share d'.journal ≡ sent d.share d.journal ++ more

pub grew : (d d' : DomainView) → replay d.share d.journal ≡ Some d.state → Stepped d d' → Grew d d'
grew d d' old (Stepped.Same is) =
    record { more = []; few = omega arith; is = ap (λ (x : DomainView). sent x.share x.journal) is ∙ sym (append-nil (sent d.share d.journal)) }
grew d d' old (Stepped.More entry c legal is) = record {
  more = sent_of (source d.share d.state entry) c.emission;
  few = one_more (source d.share d.state entry) c.emission;
  is = ap (λ (x : DomainView). sent x.share x.journal) is ∙ sent_after d.share d.journal d.state entry c old legal;
}

module _ (d d' : DomainView) (old : replay d.share d.journal ≡ Some d.state) (s : Stepped d d') where
  pub listed_before : (n : ℕ) (packet : Sent) → n < length (sent d.share d.journal) → slice_get (sent d'.share d'.journal) n ≡ Some packet → slice_get (sent d.share d.journal) n ≡ Some packet
  listed_before n packet less listed =
      let g = grew d d' old s in
      sym (listed_left (sent d.share d.journal) g.more n less) ∙ (sym (ap (λ (xs : List Sent). slice_get xs n) g.is) ∙ listed)

  -- an event makes at most one packet
  pub one_new : length (sent d'.share d'.journal) ≤ length (sent d.share d.journal) + 1
  one_new =
      let g = grew d d' old s in
      subst (λ (xs : List Sent). length xs ≤ length (sent d.share d.journal) + 1) (sym g.is) (long_more (sent d.share d.journal) g.more g.few)

-- ---- what was consumed

times_more : (n : ℕ) (journal : List Entry) (entry : Entry) → times_consumed n (journal ++ entry ∷ []) ≡ times_consumed n journal + one_if (consumes n entry)
times_more n journal entry =
    let all = sum_by-append (λ (x : Entry). cond (consumes n x) 1 0) journal (entry ∷ []) in
    let last : times_consumed n (entry ∷ []) ≡ one_if (consumes n entry) = omega arith in
    omega (arith, all, last)

-- what was consumed stays so
pub consumed_still : (d d' : DomainView) → Stepped d d' → (n : ℕ) → times_consumed n d.journal ≤ times_consumed n d'.journal
consumed_still d d' (Stepped.Same is) n = let same = ap (λ (x : DomainView). times_consumed n x.journal) is in omega (arith, same)
consumed_still d d' (Stepped.More entry c legal is) n =
    let same = ap (λ (x : DomainView). times_consumed n x.journal) is in let more = times_more n d.journal entry in omega (arith, same, more)

at_most_one : (b : Bool) → cond b 1 0 ≤ 1
at_most_one true = omega arith
at_most_one false = omega arith

waits_one : (o : Option Emission) → IsSome o → times_waiting o ≡ 1
waits_one None some = absurd cc
waits_one (Some e) some = refl

one_waits : (o : Option Emission) → times_waiting o ≡ 1 → IsSome o
one_waits None is = absurd (omega (arith, is))
one_waits (Some e) is = refl

none_waits : (o : Option Emission) → o ≡ None → times_waiting o ≡ 0
none_waits o is = ap times_waiting is

made_one : (a b : ℕ) → a < b → one_if (nat_lt a b) ≡ 1
made_one a b less = ap one_if (lt-ltb a b less)

-- what is in flight, and was made before, was in flight
pub flying_before : (d d' : DomainView) → replay d.share d.journal ≡ Some d.state → replay d'.share d'.journal ≡ Some d'.state → Stepped d d' → (n : ℕ) → n < length d.state.flight → IsSome (item_at d'.state.flight n) → IsSome (item_at d.state.flight n)
flying_before d d' old new s n less some =
    let was = consumed_once d.share d.journal d.state old n in
    let now = consumed_once d'.share d'.journal d'.state new n in
    let still = consumed_still d d' s n in
    let waits = waits_one (item_at d'.state.flight n) some in
    let most = at_most_one (nat_lt n (length d'.state.flight)) in
    let made = made_one n (length d.state.flight) less in
    one_waits (item_at d.state.flight n) (omega (arith, was, now, still, waits, most, made))

-- what was made and is in flight no more was consumed
pub gone_consumed : (d : DomainView) → replay d.share d.journal ≡ Some d.state → (n : ℕ) → n < length d.state.flight → item_at d.state.flight n ≡ None → 1 ≤ times_consumed n d.journal
gone_consumed d old n less none =
    let was = consumed_once d.share d.journal d.state old n in
    let waits = none_waits (item_at d.state.flight n) none in
    let made = made_one n (length d.state.flight) less in
    omega (arith, was, waits, made)

-- where the first was consumed, the order of the two stays as it is
pub order_after : (d d' : DomainView) → Stepped d d' → (n m : ℕ) → 1 ≤ times_consumed n d.journal → is_in_order n m d.journal ≡ true → is_in_order n m d'.journal ≡ true
order_after d d' (Stepped.Same is) n m some order = ap (λ (x : DomainView). is_in_order n m x.journal) is ∙ order
order_after d d' (Stepped.More entry c legal is) n m some order =
    ap (λ (x : DomainView). is_in_order n m x.journal) is ∙ in_order_after n m d.journal entry order (λ second other. some)

-- no entry consumes a packet that wasn't made before
none_consumed : (d : DomainView) → replay d.share d.journal ≡ Some d.state → (m : ℕ) → length d.state.flight ≤ m → times_consumed m d.journal ≡ 0
none_consumed d old m long =
    let was = consumed_once d.share d.journal d.state old m in
    let made : cond (nat_lt m (length d.state.flight)) 1 0 ≡ 0 = ap one_if (le-ltb m (length d.state.flight) long) in
    omega (arith, was, made)

some_item : (o : Option Emission) → IsSome o → (e : Emission) × (o ≡ Some e)
some_item None some = absurd cc
some_item (Some e) some = (e, refl)

not_by_entry : (d : DomainView) (entry : Entry) (c : Change) → change d.share d.state entry ≡ Some c → (m : ℕ) → length d.state.flight ≤ m → (b : Bool) → consumes m entry ≡ b → one_if b ≡ 0
not_by_entry d entry c legal m long false e = refl
not_by_entry d entry c legal m long true e =
    let item = some_item (item_at d.state.flight m) (consumed_needs d.share d.state entry c m legal e) in
    let less = within d.state.flight m item.0 item.1 in
    absurd (omega (arith, less, long))

-- the order of a packet and a new one
pub order_new : (d d' : DomainView) → replay d.share d.journal ≡ Some d.state → Stepped d d' → (n m : ℕ) → length d.state.flight ≤ m → is_in_order n m d'.journal ≡ true
order_new d d' old (Stepped.Same is) n m long = ap (λ (x : DomainView). is_in_order n m x.journal) is ∙ in_order_new n m d.journal (none_consumed d old m long)
order_new d d' old (Stepped.More entry c legal is) n m long =
    let none = none_consumed d old m long in
    let now = not_by_entry d entry c legal m long (consumes m entry) refl in
    let more = times_more m d.journal entry in
    ap (λ (x : DomainView). is_in_order n m x.journal) is ∙ in_order_new n m (d.journal ++ entry ∷ []) (omega (arith, none, now, more))
