-- Each packet in flight stands in one place, through what becomes of domains and of places.
use Rattle.std.proofs.Common.{◌≡◌, ◌≢◌, ◌⊎◌, inl, inr, ℕ, ◌+◌, ◌<◌, ◌≤◌, ◌==◌, ◌&&◌, Bool, true, false, List, [], ◌∷◌, ◌++◌, length, get_or, set, Option, Some, None, refl, sym, ap, ◌∙◌, subst, arith, eq-eqb, ne_eqb}
use Rattle.std.specs.Prelude.{All, count_by, option_map, option_to_list}
use Rattle.std.proofs.lemmas.Bool.{cases_eq}
use Rattle.std.proofs.lemmas.List.Elements.{All-cons, All-nil, All-weaker}
use Rattle.std.proofs.lemmas.List.Sums.{get_or-le-sum_by}
use Rattle.std.proofs.lemmas.List.{length-set}
use Rattle.frame_log.specs.Descriptor.{Descriptor}
use Rattle.domain.specs.Domains.{DomainView}
use Rattle.request_handling.specs.Heads.{descriptor_of}
use Rattle.request_handling.specs.Emissions.{Emission}
use Rattle.domain_state.specs.State.{item_at}
use Rattle.domain.proofs.Leaving.{joined}
use Rattle.domain.specs.Consumed.{times_waiting}
use Rattle.fabric_core.specs.Places.{IsFlown, flown, is_numbered}
use Rattle.fabric_core.proofs.invariant.Changing.{Changed, at_front, moved_behind}
use Rattle.fabric_core.proofs.invariant.Flying.{joined_times, one_if, push_before, push_last, set_item, set_times, within}

-- each packet in flight is once among these, and no other packet is
pub record Placed (domains : List DomainView) (frames : List Descriptor) : Type 0 where
  pub once : (domain n : ℕ) → count_by (is_numbered domain n) frames ≡ times_waiting (flown domains domain n)
  pub all_flown : All (IsFlown domains) frames

-- the same of these and those that were lost, which in a guarded layout are none
pub record PlacedOrLost (guarded : Bool) (domains : List DomainView) (frames : List Descriptor) : Type 0 where
  pub lost : List Descriptor
  pub placed : Placed domains (frames ++ lost)
  pub whole : guarded ≡ true → lost ≡ []

-- what is in flight, but what ended and what was emitted
pub record Reflown (old new : List DomainView) (lost gained : List Descriptor) : Type 0 where
  pub counted : (domain n : ℕ) → times_waiting (flown new domain n) + count_by (is_numbered domain n) lost ≡ times_waiting (flown old domain n) + count_by (is_numbered domain n) gained
  pub gained_flown : All (IsFlown new) gained
  pub stays : (domain n : ℕ) (e : Emission) → flown old domain n ≡ Some e → (flown new domain n ≡ Some e) ⊎ (flown new domain n ≡ None)

-- ---- the general form

is_itself : (x : Descriptor) → is_numbered x.domain x.number x ≡ true
is_itself x = ap (λ (b : Bool). b && (x.number == x.number)) (eq-eqb x.domain x.domain refl) ∙ eq-eqb x.number x.number refl

-- one that stands somewhere is in flight
counts_once : (frames : List Descriptor) (k : ℕ) (d : Descriptor) → k < length frames → 1 ≤ count_by (is_numbered (get_or frames k d).domain (get_or frames k d).number) frames
counts_once frames k d less =
    let x = get_or frames k d in
    let one : one_if (is_numbered x.domain x.number x) ≡ one_if true = ap one_if (is_itself x) in
    omega (arith, one, get_or-le-sum_by (λ (y : Descriptor). one_if (is_numbered x.domain x.number y)) frames k d less)

still_flown : (new : List DomainView) (x : Descriptor) (e : Emission) → x ≡ descriptor_of x.domain x.number e → 1 ≤ times_waiting (flown new x.domain x.number)
    → (flown new x.domain x.number ≡ Some e) ⊎ (flown new x.domain x.number ≡ None) → IsFlown new x
still_flown new x e shown some (inl is) = record { emission = e; in_flight = is; shown = shown }
still_flown new x e shown some (inr none) = let zero_times = ap times_waiting none in absurd (omega (arith, some, zero_times))

-- one that was in flight or is now, and stands somewhere, is now
either_flown : (old new : List DomainView) (lost gained : List Descriptor) (x : Descriptor) → Reflown old new lost gained → 1 ≤ times_waiting (flown new x.domain x.number) → IsFlown old x ⊎ IsFlown new x → IsFlown new x
either_flown old new lost gained x r some (inl f) = still_flown new x f.emission f.shown some (r.stays x.domain x.number f.emission f.in_flight)
either_flown old new lost gained x r some (inr f) = f

all_after : (old new : List DomainView) (frames frames' lost gained : List Descriptor) → Placed old frames → Changed frames frames' lost gained → Reflown old new lost gained → Placed new frames'
all_after old new frames frames' lost gained p c r =
    let once : (domain n : ℕ) → count_by (is_numbered domain n) frames' ≡ times_waiting (flown new domain n) =
    λ domain n. omega (arith, c.counted (is_numbered domain n), r.counted domain n, p.once domain n) in
    let either : All (λ (x : Descriptor). IsFlown old x ⊎ IsFlown new x) frames' =
    c.left (λ (x : Descriptor). IsFlown old x ⊎ IsFlown new x)
    (All-weaker (IsFlown old) (λ (x : Descriptor). IsFlown old x ⊎ IsFlown new x) (λ x f. inl f) frames p.all_flown)
    (All-weaker (IsFlown new) (λ (x : Descriptor). IsFlown old x ⊎ IsFlown new x) (λ x f. inr f) gained r.gained_flown) in
    record {
      once = once;
      all_flown = λ k d less.
          let x = get_or frames' k d in
          let some : 1 ≤ times_waiting (flown new x.domain x.number) = omega (arith, counts_once frames' k d less, once x.domain x.number) in
          either_flown old new lost gained x r some (either k d less);
    }

all_moved : (domains : List DomainView) (frames frames' : List Descriptor) → Placed domains frames → Changed frames frames' [] [] → Placed domains frames'
all_moved domains frames frames' p c = record {
  once = λ domain n. omega (arith, c.counted (is_numbered domain n), p.once domain n);
  all_flown = c.left (IsFlown domains) p.all_flown (All-nil (IsFlown domains));
}

-- ---- beside those that were lost

module _ {guarded : Bool} where
  pub placed_after : (old new : List DomainView) (frames frames' ended gained : List Descriptor) → PlacedOrLost guarded old frames → Changed frames frames' ended gained → Reflown old new ended gained
      → PlacedOrLost guarded new frames'
  placed_after old new frames frames' ended gained p c r = record {
    lost = p.lost;
    placed = all_after old new (frames ++ p.lost) (frames' ++ p.lost) ended gained p.placed (at_front frames frames' p.lost ended gained c) r;
    whole = p.whole;
  }

  -- packets move from place to place
  pub placed_moved : (domains : List DomainView) (frames frames' : List Descriptor) → PlacedOrLost guarded domains frames → Changed frames frames' [] [] → PlacedOrLost guarded domains frames'
  placed_moved domains frames frames' p c = record {
    lost = p.lost;
    placed = all_moved domains (frames ++ p.lost) (frames' ++ p.lost) p.placed (at_front frames frames' p.lost [] [] c);
    whole = p.whole;
  }

  -- a packet is lost: it leaves its place and stays in flight
  pub placed_lost : (old new : List DomainView) (frames frames' : List Descriptor) (frame : Descriptor) (gained : List Descriptor) → (guarded ≡ true → ⊥) → PlacedOrLost guarded old frames
      → Changed frames frames' (frame ∷ []) gained → Reflown old new [] gained → PlacedOrLost guarded new frames'
  placed_lost old new frames frames' frame gained unguarded p c r = record {
    lost = frame ∷ p.lost;
    placed = all_after old new (frames ++ p.lost) (frames' ++ (frame ∷ p.lost)) [] gained p.placed (moved_behind frames frames' p.lost (frame ∷ []) gained c) r;
    whole = λ is. absurd (unguarded is);
  }

-- ---- the flight of one domain changes

-- what is in flight of the domain with this number, before and after; that of all others stays
pub record HomeChanged (old new : List DomainView) (home : ℕ) (flight flight' : List (Option Emission)) : Type 0 where
  pub was : (n : ℕ) → flown old home n ≡ item_at flight n
  pub is : (n : ℕ) → flown new home n ≡ item_at flight' n
  pub elsewhere : (domain n : ℕ) → domain ≢ home → flown new domain n ≡ flown old domain n

-- these packets of a domain leave what it has in flight
pub record Leaves (home : ℕ) (flight left : List (Option Emission)) (lost : List Descriptor) : Type 0 where
  pub long : length left ≡ length flight
  pub counted : (n : ℕ) → times_waiting (item_at left n) + count_by (is_numbered home n) lost ≡ times_waiting (item_at flight n)
  pub elsewhere : (domain n : ℕ) → domain ≢ home → count_by (is_numbered domain n) lost ≡ 0
  pub items : (n : ℕ) → (item_at left n ≡ item_at flight n) ⊎ (item_at left n ≡ None)

-- none does
pub none_leaves : (home : ℕ) (flight : List (Option Emission)) → Leaves home flight flight []
none_leaves home flight = record { long = refl; counted = λ n. omega arith; elsewhere = λ domain n other. refl; items = λ n. inl refl }

count_of_one : (domain n : ℕ) (x : Descriptor) → count_by (is_numbered domain n) (x ∷ []) ≡ one_if (is_numbered domain n x)
count_of_one domain n x = omega arith

not_there : (domain n : ℕ) (x : Descriptor) → domain ≢ x.domain → count_by (is_numbered domain n) (x ∷ []) ≡ 0
not_there domain n x other =
    let no_match : (x.domain == domain) ≡ false = ne_eqb x.domain domain (λ e. other (sym e)) in
    count_of_one domain n x ∙ ap (λ (b : Bool). one_if (b && (x.number == n))) no_match

there_by : (n : ℕ) (x : Descriptor) → count_by (is_numbered x.domain n) (x ∷ []) ≡ one_if (x.number == n)
there_by n x = count_of_one x.domain n x ∙ ap (λ (b : Bool). one_if (b && (x.number == n))) (eq-eqb x.domain x.domain refl)

-- one that was in flight does
pub one_leaves : (flight : List (Option Emission)) (frame : Descriptor) (e : Emission) → item_at flight frame.number ≡ Some e → Leaves frame.domain flight (set flight frame.number None) (frame ∷ [])
one_leaves flight frame e is = record {
  long = length-set flight frame.number None;
  counted = λ n. omega (arith, there_by n frame, set_times flight frame.number n e is);
  elsewhere = λ domain n other. not_there domain n frame other;
  items = set_item flight frame.number;
}

-- what is emitted
abbrev pub emitted_as : ℕ → ℕ → Option Emission → List Descriptor
emitted_as home number o = option_to_list (option_map (descriptor_of home number) o)

joins_at_home : (home : ℕ) (left : List (Option Emission)) (o : Option Emission) (n : ℕ) → times_waiting (item_at (joined left o) n) ≡ times_waiting (item_at left n) + count_by (is_numbered home n) (emitted_as home (length left) o)
joins_at_home home left None n = omega arith
joins_at_home home left (Some e) n = omega (arith, joined_times left e n, there_by n (descriptor_of home (length left) e))

joins_elsewhere : (home number domain n : ℕ) (o : Option Emission) → domain ≢ home → count_by (is_numbered domain n) (emitted_as home number o) ≡ 0
joins_elsewhere home number domain n None other = refl
joins_elsewhere home number domain n (Some e) other = not_there domain n (descriptor_of home number e) other

emitted_flown : (old new : List DomainView) (home : ℕ) (flight left : List (Option Emission)) (o : Option Emission) → HomeChanged old new home flight (joined left o) → All (IsFlown new) (emitted_as home (length left) o)
emitted_flown old new home flight left None h = All-nil (IsFlown new)
emitted_flown old new home flight left (Some e) h =
    All-cons (IsFlown new) (descriptor_of home (length left) e) [] (record { emission = e; in_flight = h.is (length left) ∙ push_last left e; shown = refl }) (All-nil (IsFlown new))

item_stays : (left flight : List (Option Emission)) (o : Option Emission) (n : ℕ) (e : Emission) → length left ≡ length flight → item_at flight n ≡ Some e → (item_at left n ≡ item_at flight n) ⊎ (item_at left n ≡ None)
    → (item_at (joined left o) n ≡ Some e) ⊎ (item_at (joined left o) n ≡ None)
item_stays left flight o n e long is (inl same) = inl (push_before left o n (omega (arith, long, within flight n e is)) ∙ same ∙ is)
item_stays left flight o n e long is (inr none) = inr (push_before left o n (omega (arith, long, within flight n e is)) ∙ none)

module _ (old new : List DomainView) (home : ℕ) (flight left : List (Option Emission)) (o : Option Emission) (lost : List Descriptor) (h : HomeChanged old new home flight (joined left o)) (l : Leaves home flight left lost) where
  abbrev gained : List Descriptor
  gained = emitted_as home (length left) o

  counted_at : (domain n : ℕ) → (domain ≡ home) ⊎ (domain ≢ home) → times_waiting (flown new domain n) + count_by (is_numbered domain n) lost ≡ times_waiting (flown old domain n) + count_by (is_numbered domain n) gained
  counted_at domain n (inl same) =
      subst (λ (d : ℕ). times_waiting (flown new d n) + count_by (is_numbered d n) lost ≡ times_waiting (flown old d n) + count_by (is_numbered d n) gained) (sym same)
      (let now = ap times_waiting (h.is n) in let before = ap times_waiting (h.was n) in omega (arith, now, before, l.counted n, joins_at_home home left o n))
  counted_at domain n (inr other) = let same = ap times_waiting (h.elsewhere domain n other) in omega (arith, same, l.elsewhere domain n other, joins_elsewhere home (length left) domain n o other)

  stays_at : (domain n : ℕ) (e : Emission) → flown old domain n ≡ Some e → (domain ≡ home) ⊎ (domain ≢ home) → (flown new domain n ≡ Some e) ⊎ (flown new domain n ≡ None)
  stays_at domain n e is (inl same) =
      subst (λ (d : ℕ). (flown new d n ≡ Some e) ⊎ (flown new d n ≡ None)) (sym same)
      (subst (λ (i : Option Emission). (i ≡ Some e) ⊎ (i ≡ None)) (sym (h.is n))
      (item_stays left flight o n e l.long (sym (h.was n) ∙ ap (λ (d : ℕ). flown old d n) (sym same) ∙ is) (l.items n)))
  stays_at domain n e is (inr other) = inl (h.elsewhere domain n other ∙ is)

  pub reflown : Reflown old new lost (emitted_as home (length flight) o)
  reflown =
      subst (λ (k : ℕ). Reflown old new lost (emitted_as home k o)) l.long (record {
        counted = λ domain n. counted_at domain n (cases_eq domain home);
        gained_flown = emitted_flown old new home flight left o h;
        stays = λ domain n e is. stays_at domain n e is (cases_eq domain home);
      })
