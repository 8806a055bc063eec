-- Slots of packets in flight, and what is seen of them.
use Rattle.std.proofs.Common.{◌≡◌, ℕ, zero, suc, ◌+◌, ◌<◌, ◌≤◌, List, length, replicate, [], ◌∷◌, ◌++◌, Option, Some, None, refl, sym, ap, ◌∙◌, subst, arith, slice_set, slice_index_or, option_map, true}
use Rattle.std.specs.Option.{IsSome, is_none, is_some}
use Rattle.std.specs.List.{All}
use Rattle.std.proofs.lemmas.List.Elements.{All-append}
use Rattle.frame_log.specs.declared.entry.TlpEntry.{TlpEntry}
use Rattle.frame_log.specs.declared.log.Log.{Log}
use Rattle.frame_log.specs.Words.{Shown, entry_of}
use Rattle.request_handling.specs.WellMade.{IsWellMade}
use Rattle.tlp_view.specs.Malformed.{malformed}
use Rattle.std.proofs.lemmas.List.{append-nil, map-set, replicate-append-replicate}
use Rattle.domain_state.specs.declared.flight.InFlight.{InFlight}
use Rattle.request_handling.specs.Emissions.{Emission}
use Rattle.domain_state.specs.State.{item_at}
use Rattle.domain_state.specs.Flights.{IsSlot, emission, emissions, flight_over, held_in}

-- a slot that was emptied is one packet less
pub emissions-clear : (old now new : List (Option InFlight)) (n : ℕ) → new ≡ slice_set now n None → now ≡ old → emissions new ≡ slice_set (emissions old) n None
emissions-clear old now new n cleared is =
    ap emissions (cleared ∙ ap (λ (xs : List (Option InFlight)). slice_set xs n None) is) ∙ map-set (option_map emission) old n None

one_at : {X : Type 0} (P : X → Type 0) (x d : X) (k : ℕ) → P x → k < 1 → P (slice_index_or (x ∷ []) k d)
one_at P x d zero p lt = p
one_at P x d (suc k) p lt = absurd (omega (arith, lt))

-- a slot more, whose token the log shows and whose packet is well made
pub slots_push : (log : Log) (old now new : List (Option InFlight)) (x : InFlight) (e : TlpEntry) (bytes : List ℕ) → All (IsSlot log) old → now ≡ old → new ≡ now ++ Some x ∷ []
    → Shown log x.token → entry_of x.token ≡ e → e.bytes ≡ bytes → IsWellMade x.parties bytes → length bytes ≤ 272 → x.is_well_formed ≡ is_none (malformed bytes) → All (IsSlot log) new
slots_push log old now new x e bytes kept same grown shown entry are made small read =
    let is : (entry_of x.token).bytes ≡ bytes = ap (λ (t : TlpEntry). t.bytes) entry ∙ are in
    let well : IsWellMade x.parties (entry_of x.token).bytes = subst (IsWellMade x.parties) (sym is) made in
    let short : length (entry_of x.token).bytes ≤ 272 = subst (λ (b : List ℕ). length b ≤ 272) (sym is) small in
    let known : x.is_well_formed ≡ is_none (malformed (entry_of x.token).bytes) = read ∙ ap (λ (b : List ℕ). is_none (malformed b)) (sym is) in
    let one : IsSlot log (Some x) = (shown, well, short, known) in
    subst (All (IsSlot log)) (sym (grown ∙ ap (λ (xs : List (Option InFlight)). xs ++ Some x ∷ []) same))
    (All-append (IsSlot log) old (Some x ∷ []) kept (λ k d lt. one_at (IsSlot log) (Some x) d k one lt))

-- ---- how many slots hold a packet

pub held-push : (xs : List (Option InFlight)) (x : InFlight) → held_in (xs ++ Some x ∷ []) ≡ held_in xs + 1
held-push [] x = refl
held-push (None ∷ xs) x = held-push xs x
held-push (Some y ∷ xs) x = ap (λ n. n + 1) (held-push xs x)

pub held-le : (xs : List (Option InFlight)) → held_in xs ≤ length xs
held-le [] = omega arith
held-le (None ∷ xs) = omega (arith, held-le xs)
held-le (Some y ∷ xs) = omega (arith, held-le xs)

pub held-set : (xs : List (Option InFlight)) (n : ℕ) (d : Option InFlight) → n < length xs → is_some (slice_index_or xs n d) ≡ true → held_in (slice_set xs n None) + 1 ≡ held_in xs
held-set [] n d l h = absurd (omega (arith, l))
held-set (Some y ∷ xs) zero d l h = refl
held-set (None ∷ xs) zero d l h = absurd cc
held-set (Some y ∷ xs) (suc n) d l h = ap (λ n. n + 1) (held-set xs n d (omega (arith, l)) h)
held-set (None ∷ xs) (suc n) d l h = held-set xs n d (omega (arith, l)) h

pub none-held : (xs : List (Option InFlight)) → held_in xs ≡ 0 → emissions xs ≡ replicate (length xs) None
none-held [] h = refl
none-held (None ∷ xs) h = ap (λ (zs : List (Option Emission)). None ∷ zs) (none-held xs h)
none-held (Some y ∷ xs) h = absurd (omega (arith, h))

-- ---- numbers that have no slot any more

pub set-gone : (gone n : ℕ) (es : List (Option Emission)) → n < gone → slice_set (replicate gone None ++ es) n None ≡ replicate gone None ++ es
set-gone zero n es l = absurd (omega (arith, l))
set-gone (suc gone) zero es l = refl
set-gone (suc gone) (suc n) es l = ap (λ (zs : List (Option Emission)). None ∷ zs) (set-gone gone n es (omega (arith, l)))

pub set-behind : (gone n : ℕ) (es : List (Option Emission)) → slice_set (replicate gone None ++ es) (gone + n) None ≡ replicate gone None ++ slice_set es n None
set-behind zero n es = ap (λ (k : ℕ). slice_set es k None) (omega arith)
set-behind (suc gone) n es =
    let e : suc gone + n ≡ suc (gone + n) = omega arith in
    ap (λ (k : ℕ). slice_set (None ∷ replicate gone None ++ es) k None) e ∙ ap (λ (zs : List (Option Emission)). None ∷ zs) (set-behind gone n es)

-- where no slot holds a packet, all of their numbers need none
pub restarted : (gone : ℕ) (xs : List (Option InFlight)) → held_in xs ≡ 0 → flight_over (gone + length xs) [] ≡ flight_over gone xs
restarted gone xs h = append-nil _ ∙ sym (replicate-append-replicate gone (length xs) None) ∙ ap (λ (es : List (Option Emission)). replicate gone None ++ es) (sym (none-held xs h))

-- ---- a packet in flight, when one more is put into flight

pub item_push : (xs : List (Option Emission)) (x : Option Emission) (n : ℕ) → IsSome (item_at xs n) → item_at (xs ++ x ∷ []) n ≡ item_at xs n
item_push [] x n h = absurd cc
item_push (y ∷ ys) x zero h = refl
item_push (y ∷ ys) x (suc n) h = item_push ys x n h

pub clear_push : (xs : List (Option Emission)) (x : Option Emission) (n : ℕ) → IsSome (item_at xs n) → slice_set (xs ++ x ∷ []) n None ≡ slice_set xs n None ++ x ∷ []
clear_push [] x n h = absurd cc
clear_push (y ∷ ys) x zero h = refl
clear_push (y ∷ ys) x (suc n) h = ap (λ (zs : List (Option Emission)). y ∷ zs) (clear_push ys x n h)
