-- A packet that is answered and ends, and Tags that are closed.
use Rattle.std.proofs.Common.{◌≡◌, ℕ, ◌+◌, ◌≤◌, Bool, true, false, cond, ◌||◌, ◌&&◌, not, ◌==◌, List, [], ◌∷◌, ◌++◌, length, Option, Some, None, refl, sym, ap, ◌∙◌, arith, length-append}
use Rattle.std.specs.Prelude.{filter, Result, IfOk, Ok, Err}
use Rattle.std.specs.List.{list_any}
use Rattle.std.specs.Option.{IsSome}
use Rattle.fab_types.specs.declared.origin.Origin.{Origin}
use Rattle.tlp_view.specs.Bytes.{packet_of}
use Rattle.tlp_view.specs.Runs.{runs}
use Rattle.domain_state.proofs.FlightLemmas.{clear_push, item_push}
use Rattle.request_handling.specs.declared.handling.Effect.{Effect}
use Rattle.request_handling.specs.declared.handling.Effect.TheVariants.{Leave, Block, Store, Add, Access}
use Rattle.platform.specs.Share.{Share}
use Rattle.request_handling.specs.declared.disposition.Disposition.{Disposition}
use Rattle.request_handling.specs.Dispositions.{reply_of}
use Rattle.domain.specs.Domains.{disposed}
use Rattle.function.specs.declared.tags.OpenTag.{OpenTag}
use Rattle.function.specs.Tags.{closed}
use Rattle.domain_state.specs.Ends.{EffectFits, blocked, done, replied, with_access, with_added, with_stored}
use Rattle.request_handling.specs.Emissions.{Emission}
use Rattle.domain_state.specs.State.{Alone, Delivery, item_at, without}
use Rattle.domain_state.specs.Tags.{is_open, same_origin}

abbrev pub with_flight : Alone → List (Option Emission) → Alone
with_flight s flight = record { frames = s.frames; registers = s.registers; open_tags = s.open_tags; deliveries = s.deliveries; counts = s.counts; flight = flight }

-- one packet is in flight under a number
pub one_item : (o : Option Emission) (x y : Emission) → o ≡ Some x → o ≡ Some y → x ≡ y
one_item o x y e f = cc

pub if_both : {A E : Type 0} (r : Result A E) (P Q R : A → Type 0) → ((a : A) → P a → Q a → R a) → IfOk r P → IfOk r Q → IfOk r R
if_both (Ok a) P Q R h p q = h a p q
if_both (Err e) P Q R h p q = tt

-- what answers a packet that stands under a number, by the fields of the state
pub answer_is : (share : Share) (inside seen : Alone) (n : ℕ) (x e : Emission) (d : Disposition) (memory pages : List (ℕ × List ℕ)) (reply : Option Emission) → inside ≡ seen → item_at inside.flight n ≡ Some x → item_at seen.flight n ≡ Some e
    → memory ≡ inside.frames → pages ≡ inside.registers → reply ≡ reply_of share memory pages (packet_of x.bytes) d → reply ≡ (disposed share seen e d).reply
answer_is share inside seen n x e d memory pages reply same there is frames registers made =
    made
    ∙ ap (λ (m : List (ℕ × List ℕ)). reply_of share m pages (packet_of x.bytes) d) frames
    ∙ ap (λ (r : List (ℕ × List ℕ)). reply_of share inside.frames r (packet_of x.bytes) d) registers
    ∙ ap (λ (s : Alone). reply_of share s.frames s.registers (packet_of x.bytes) d) same
    ∙ ap (λ (y : Emission). reply_of share seen.frames seen.registers (packet_of y.bytes) d) (one_item (item_at seen.flight n) x e (ap (λ (s : Alone). item_at s.flight n) (sym same) ∙ there) is)

-- ---- the reply is put into flight before the packet leaves it

pub done_replied : (s : Alone) (o : Option Emission) (bytes : List ℕ) (d : Effect) → done (replied s o) bytes d ≡ replied (done s bytes d) o
done_replied s None bytes d = refl
done_replied s (Some x) bytes Leave = refl
done_replied s (Some x) bytes Block = refl
done_replied s (Some x) bytes (Store k first) = refl
done_replied s (Some x) bytes (Add k first) = refl
done_replied s (Some x) bytes (Access g) = refl

pub item_replied : (s : Alone) (o : Option Emission) (n : ℕ) → IsSome (item_at s.flight n) → item_at (replied s o).flight n ≡ item_at s.flight n
item_replied s None n h = refl
item_replied s (Some x) n h = item_push s.flight (Some x) n h

ended_answered : (s : Alone) (o : Option Emission) (n : ℕ) (bytes : List ℕ) (d : Effect) → IsSome (item_at s.flight n) → without (done (replied s o) bytes d) n ≡ replied (done (without s n) bytes d) o
ended_answered s None n bytes Leave h = refl
ended_answered s None n bytes Block h = refl
ended_answered s None n bytes (Store k first) h = refl
ended_answered s None n bytes (Add k first) h = refl
ended_answered s None n bytes (Access g) h = refl
ended_answered s (Some x) n bytes Leave h = ap (with_flight s) (clear_push s.flight (Some x) n h)
ended_answered s (Some x) n bytes Block h = ap (with_flight (blocked s)) (clear_push s.flight (Some x) n h)
ended_answered s (Some x) n bytes (Store k first) h = ap (with_flight (with_stored s k first (runs (packet_of bytes)))) (clear_push s.flight (Some x) n h)
ended_answered s (Some x) n bytes (Add k first) h = ap (with_flight (with_added s k first (packet_of bytes).payload)) (clear_push s.flight (Some x) n h)
ended_answered s (Some x) n bytes (Access g) h = ap (with_flight (with_access s g (packet_of bytes))) (clear_push s.flight (Some x) n h)

pub concludes : (s t u : Alone) (o : Option Emission) (n : ℕ) (e : Emission) (d : Effect) → IsSome (item_at s.flight n) → item_at s.flight n ≡ Some e → t ≡ replied s o
    → ((x : Emission) → item_at t.flight n ≡ Some x → u ≡ done t x.bytes d) → without u n ≡ replied (done (without s n) e.bytes d) o
concludes s t u o n e d h is sent does =
    let there : item_at t.flight n ≡ Some e = ap (λ (v : Alone). item_at v.flight n) sent ∙ (item_replied s o n h ∙ is) in
    ap (λ (v : Alone). without v n) (does e there ∙ ap (λ (v : Alone). done v e.bytes d) sent) ∙ ended_answered s o n e.bytes d h

fits_replied : (s t : Alone) (o : Option Emission) (n : ℕ) (d : Effect) (e : Emission) → IsSome (item_at s.flight n) → t ≡ replied s o → ((x : Emission) → item_at s.flight n ≡ Some x → EffectFits x d)
    → item_at t.flight n ≡ Some e → EffectFits e d
fits_replied s t o n d e h sent fits is = fits e (sym (item_replied s o n h) ∙ (ap (λ (v : Alone). item_at v.flight n) (sym sent) ∙ is))

pub fits_after : (s t : Alone) (reply : Emission → Option Emission) (n : ℕ) (d : Effect) (e : Emission) → IsSome (item_at s.flight n) → ((x : Emission) → item_at s.flight n ≡ Some x → t ≡ replied s (reply x))
    → ((x : Emission) → item_at s.flight n ≡ Some x → EffectFits x d) → item_at t.flight n ≡ Some e → EffectFits e d
fits_after s t reply n d e h sent fits is = by (item_at s.flight n) refl h where
  by : (o : Option Emission) → item_at s.flight n ≡ o → IsSome o → EffectFits e d
  by None there some = absurd cc
  by (Some x) there some = fits_replied s t (reply x) n d e h (sent x there) fits is

pub unblocked : (s t : Alone) (reply : Emission → Option Emission) (n : ℕ) → IsSome (item_at s.flight n) → ((x : Emission) → item_at s.flight n ≡ Some x → t ≡ replied s (reply x)) → t.counts ≡ s.counts
unblocked s t reply n h sent = by (item_at s.flight n) refl h where
  kept : (o : Option Emission) → t ≡ replied s o → t.counts ≡ s.counts
  kept None is = ap (λ (v : Alone). v.counts) is
  kept (Some x) is = ap (λ (v : Alone). v.counts) is

  by : (o : Option Emission) → item_at s.flight n ≡ o → IsSome o → t.counts ≡ s.counts
  by None there some = absurd cc
  by (Some x) there some = kept (reply x) (sent x there)

-- ---- an open Tag that is closed gives its room to a record

no_more : {X : Type 0} (p : X → Bool) (xs : List X) → length (filter p xs) ≤ length xs
no_more p [] = omega arith
no_more p (x ∷ xs) = by (p x) (filter p xs) (no_more p xs) where
  by : (b : Bool) (ys : List _) → length ys ≤ length xs → length (cond b (x ∷ ys) ys) ≤ length (x ∷ xs)
  by true ys le = omega (arith, le)
  by false ys le = omega (arith, le)

fewer_by : {X : Type 0} (b rest : Bool) (x : X) (ys : List X) (m : ℕ) → (b || rest) ≡ true → (rest ≡ true → length ys + 1 ≤ m) → length ys ≤ m → length (cond (not b) (x ∷ ys) ys) + 1 ≤ m + 1
fewer_by true rest x ys m h of le = omega (arith, le)
fewer_by false rest x ys m h of le = omega (arith, of h)

fewer : {X : Type 0} (p : X → Bool) (xs : List X) → list_any p xs ≡ true → length (filter (λ x. not (p x)) xs) + 1 ≤ length xs
fewer p [] h = absurd cc
fewer p (x ∷ xs) h =
    let le = fewer_by (p x) (list_any p xs) x (filter (λ y. not (p y)) xs) (length xs) h (fewer p xs) (no_more (λ y. not (p y)) xs) in omega (arith, le)

pub room_closed : (tags : List OpenTag) (owner : Origin) (tag : ℕ) → is_open tags owner tag ≡ true → length (closed tags owner tag) + 1 ≤ length tags
room_closed tags owner tag h = fewer (λ (t : OpenTag). same_origin t.owner owner && (t.tag == tag)) tags h

pub room_recorded : (tags tags' : List OpenTag) (rs rs' : List Delivery) (d : Delivery) (cap : ℕ) → is_open tags d.owner d.tag ≡ true → length tags + length rs ≤ cap
    → tags' ≡ closed tags d.owner d.tag → rs' ≡ rs ++ d ∷ [] → length tags' + length rs' ≤ cap
room_recorded tags tags' rs rs' d cap opened room shut grown =
    let fewer : length (closed tags d.owner d.tag) + 1 ≤ length tags = room_closed tags d.owner d.tag opened in
    let now : length tags' ≡ length (closed tags d.owner d.tag) = ap length shut in
    let more : length rs' ≡ length rs + 1 = ap length grown ∙ length-append rs (d ∷ []) in
    omega (arith, fewer, now, more, room)
