-- What an entry makes is in flight under the number that was the next one.
use Rattle.std.proofs.Common.{◌≡◌, ℕ, zero, suc, List, [], ◌∷◌, ◌++◌, length, Option, Some, None, refl, sym, ap, ◌∙◌, slice_set}
use Rattle.std.specs.Prelude.{option_map}
use Rattle.platform.specs.Share.{Share}
use Rattle.domain.specs.declared.entry.Entry.{Entry}
use Rattle.domain.specs.declared.entry.Entry.TheVariants.{Submit, Tick, Mmio, Refuse, Carry, Deliver, Alien}
use Rattle.domain.specs.Deliveries.{arrival, arrived}
use Rattle.domain.specs.Machine.{change}
use Rattle.domain_state.specs.State.{Alone, Change, emits_nothing, item_at, without}
use Rattle.request_handling.specs.Emissions.{Emission}
use Rattle.domain.proofs.Joining.{mmio_flight, submit_flight, tick_flight}
use Rattle.domain.proofs.Leaving.{alien_flight, carry_flight, deliver_flight, joined, refuse_flight}

abbrev Flight : Type 0
Flight = List (Option Emission)

-- nothing is in flight behind the last number
behind : (flight : Flight) → item_at flight (length flight) ≡ None
behind [] = refl
behind (o ∷ os) = behind os

at_end : (flight : Flight) (e : Emission) → item_at (flight ++ Some e ∷ []) (length flight) ≡ Some e
at_end [] e = refl
at_end (o ∷ os) e = at_end os e

at_joined : (flight : Flight) (made : Option Emission) → item_at (joined flight made) (length flight) ≡ made
at_joined flight None = behind flight
at_joined flight (Some e) = at_end flight e

length-set : (flight : Flight) (n : ℕ) → length (slice_set flight n None) ≡ length flight
length-set [] n = refl
length-set (o ∷ os) zero = refl
length-set (o ∷ os) (suc n) = ap suc (length-set os n)

-- the packet that a change makes stands where the next one goes
abbrev IsNext : Alone → Change → Type 0
IsNext s c = item_at c.state.flight (length s.flight) ≡ c.emission

joins : (s : Alone) (c : Change) → c.state.flight ≡ joined s.flight c.emission → IsNext s c
joins s c grown = ap (λ (fl : Flight). item_at fl (length s.flight)) grown ∙ at_joined s.flight c.emission

leaves : (s : Alone) (n : ℕ) (c : Change) → c.state.flight ≡ joined (slice_set s.flight n None) c.emission → IsNext s c
leaves s n c grown =
    ap (λ (fl : Flight). item_at fl (length s.flight)) grown
    ∙ (ap (λ (k : ℕ). item_at (joined (slice_set s.flight n None) c.emission) k) (sym (length-set s.flight n)) ∙ at_joined (slice_set s.flight n None) c.emission)

some_is : (x y : Change) → Some x ≡ Some y → x ≡ y
some_is x y e = cc

makes_nothing : {A : Type 0} (after : A → Alone) (o : Option A) (c : Change) → option_map (λ a. emits_nothing (after a)) o ≡ Some c → c.emission ≡ None
makes_nothing after None c h = absurd cc
makes_nothing after (Some a) c h = sym (ap (λ (x : Change). x.emission) (some_is _ c h))

delivers : (s : Alone) (n : ℕ) (c : Change) → c.state.flight ≡ slice_set s.flight n None → c.emission ≡ None → IsNext s c
delivers s n c cleared nothing = leaves s n c (cleared ∙ ap (joined (slice_set s.flight n None)) (sym nothing))

pub made_is_next : (share : Share) (s : Alone) (entry : Entry) (c : Change) → change share s entry ≡ Some c → item_at c.state.flight (length s.flight) ≡ c.emission
made_is_next share s (Submit f b) c h = joins s c (submit_flight share s f b c h)
made_is_next share s (Tick f) c h = joins s c (tick_flight share s f c h)
made_is_next share s (Mmio x) c h = joins s c (mmio_flight share s x c h)
made_is_next share s (Refuse n) c h = leaves s n c (refuse_flight share s n c h)
made_is_next share s (Carry n) c h = leaves s n c (carry_flight share s n c h)
made_is_next share s (Deliver n) c h = delivers s n c (deliver_flight share s n c h) (makes_nothing (arrived (without s n)) (arrival s.open_tags (item_at s.flight n)) c h)
made_is_next share s (Alien place sender b) c h = joins s c (alien_flight share s place sender b c h)
