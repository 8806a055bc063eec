-- What an end leaves in flight: all but the packet that ends, and the answer to it, if any.
use Rattle.std.proofs.Common.{◌≡◌, ℕ, Bool, true, false, cond, List, [], ◌∷◌, ◌++◌, Option, Some, None, refl, sym, ap, ◌∙◌, subst, slice_set}
use Rattle.std.specs.Prelude.{option_map}
use Rattle.fab_types.specs.declared.head.Parties.{Parties}
use Rattle.fab_types.specs.declared.place.Place.{Place}
use Rattle.platform.specs.Share.{Share}
use Rattle.request_handling.specs.declared.handling.Effect.{Effect}
use Rattle.request_handling.specs.declared.handling.Effect.TheVariants.{Leave, Block, Store, Add, Access}
use Rattle.request_handling.specs.declared.handling.Handling.{Handling}
use Rattle.domain.specs.declared.entry.Entry.TheVariants.{Refuse, Carry, Deliver, Alien}
use Rattle.domain.specs.declared.receive.Reception.{Reception}
use Rattle.domain.specs.declared.receive.Reception.TheVariants.{Ends, Arrives}
use Rattle.domain.specs.Aliens.{received_if, reception_of}
use Rattle.domain.specs.Receptions.{received}
use Rattle.request_handling.specs.Carries.{carriage_end, refusal_end}
use Rattle.domain.specs.Deliveries.{Arrival, arrival, arrival_by, arrived, recorded, unexpected}
use Rattle.domain_state.specs.Ends.{done, replied}
use Rattle.domain.specs.Machine.{change, ended}
use Rattle.request_handling.specs.Emissions.{Emission}
use Rattle.domain_state.specs.State.{Alone, Change, Delivery, emits_nothing, item_at, without}

abbrev some : {A : Type 0} → A → Option A
some x = Some x

some_is : {A : Type 0} (x y : A) → some x ≡ some y → x ≡ y
some_is x y e = cc

-- an answer joins what is in flight
abbrev pub joined : List (Option Emission) → Option Emission → List (Option Emission)
joined flight None = flight
joined flight (Some e) = flight ++ Some e ∷ []

done_flight : (s : Alone) (b : List ℕ) (d : Effect) → (done s b d).flight ≡ s.flight
done_flight s b Leave = refl
done_flight s b Block = refl
done_flight s b (Store k first) = refl
done_flight s b (Add k first) = refl
done_flight s b (Access g) = refl

pub replied_flight : (s : Alone) (o : Option Emission) → (replied s o).flight ≡ joined s.flight o
replied_flight s None = refl
replied_flight s (Some e) = refl

ended_flight : (s : Alone) (n : ℕ) (o : Option Emission) (r : Option Handling) (c : Change) → ended s n o r ≡ Some c → c.state.flight ≡ joined (slice_set s.flight n None) c.emission
ended_flight s n None r c h = absurd cc
ended_flight s n (Some e) None c h = absurd cc
ended_flight s n (Some e) (Some a) c h =
    subst (λ (x : Change). x.state.flight ≡ joined (slice_set s.flight n None) x.emission) (some_is _ c h)
    (replied_flight (done (without s n) e.bytes a.effect) a.reply ∙ ap (λ (fl : List (Option Emission)). joined fl a.reply) (done_flight (without s n) e.bytes a.effect))

pub refuse_flight : (share : Share) (s : Alone) (n : ℕ) (c : Change) → change share s (Refuse n) ≡ Some c → c.state.flight ≡ joined (slice_set s.flight n None) c.emission
refuse_flight share s n c h = ended_flight s n (item_at s.flight n) (refusal_end share (item_at s.flight n)) c h

pub carry_flight : (share : Share) (s : Alone) (n : ℕ) (c : Change) → change share s (Carry n) ≡ Some c → c.state.flight ≡ joined (slice_set s.flight n None) c.emission
carry_flight share s n c h = ended_flight s n (item_at s.flight n) (carriage_end share s.frames s.registers (item_at s.flight n)) c h

-- ---- a delivery

arrived_flight : (s : Alone) (d : Delivery) (b : Bool) → (cond b (recorded s d) (unexpected s)).flight ≡ s.flight
arrived_flight s d true = refl
arrived_flight s d false = refl

delivered_flight : (s : Alone) (n : ℕ) (r : Option Arrival) (c : Change) → option_map (λ (a : Arrival). emits_nothing (arrived (without s n) a)) r ≡ Some c → c.state.flight ≡ slice_set s.flight n None
delivered_flight s n None c h = absurd cc
delivered_flight s n (Some a) c h = ap (λ (x : Change). x.state.flight) (sym (some_is _ c h)) ∙ arrived_flight (without s n) a.delivery a.is_awaited

pub deliver_flight : (share : Share) (s : Alone) (n : ℕ) (c : Change) → change share s (Deliver n) ≡ Some c → c.state.flight ≡ slice_set s.flight n None
deliver_flight share s n c h = delivered_flight s n (arrival s.open_tags (item_at s.flight n)) c h

-- ---- an alien packet, whose number stays in flight at its home

received_flight : (s : Alone) (b : List ℕ) (r : Reception) → (received s b r).state.flight ≡ joined s.flight (received s b r).emission
received_flight s b (Ends a) = replied_flight (done s b a.effect) a.reply ∙ ap (λ (fl : List (Option Emission)). joined fl a.reply) (done_flight s b a.effect)
received_flight s b (Arrives a) = arrived_flight s (arrival_by a b).delivery a.is_awaited

taken_flight : (s : Alone) (b : List ℕ) (r : Option Reception) (c : Change) → received_if s b r ≡ Some c → c.state.flight ≡ joined s.flight c.emission
taken_flight s b None c h = absurd cc
taken_flight s b (Some r) c h = subst (λ (x : Change). x.state.flight ≡ joined s.flight x.emission) (some_is _ c h) (received_flight s b r)

pub alien_flight : (share : Share) (s : Alone) (place : Place) (sender : Parties) (b : List ℕ) (c : Change) → change share s (Alien place sender b) ≡ Some c → c.state.flight ≡ joined s.flight c.emission
alien_flight share s place sender b c h = taken_flight s b (reception_of share s place sender b) c h
