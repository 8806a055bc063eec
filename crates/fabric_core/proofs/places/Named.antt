-- The packets that are named with their places are in flight.
use Rattle.std.proofs.Common.{◌≡◌, ℕ, Bool, true, false, List, [], ◌∷◌, refl, sym, ap, ◌∙◌}
use Rattle.std.specs.Prelude.{◌&&◌, ◌||◌, All, is_some}
use Rattle.std.specs.List.{list_all, list_any}
use Rattle.std.proofs.lemmas.List.Elements.{All-head, All-tail}
use Rattle.fab_types.specs.declared.place.Place.{Place}
use Rattle.frame_log.specs.Descriptor.{Descriptor}
use Rattle.domain.specs.Domains.{DomainView}
use Rattle.domains.specs.Aliens.{flown}
use Rattle.request_handling.specs.Emissions.{Emission}
use Rattle.fabric_core.specs.Places.{AreFlown, ArePlaced, IsFlown, PacketPlace, frames_of, is_numbered, stands_at}
use Rattle.fabric_core.specs.Trails.{standing_at}
use Rattle.fabric_core.specs.World.{World}
use Rattle.fabric_core.proofs.invariant.Changing.{all_front}
use Rattle.fabric_core.proofs.order.KeptOrder.{all_standing, is_domain}

module _ (domains : List DomainView) (domain n : ℕ) where
  own_flown : (x : Descriptor) → IsFlown domains x → is_numbered domain n x ≡ true → is_some (flown domains domain n) ≡ true
  own_flown x f is =
      let at = is_domain domain n x is in
      let same : flown domains domain n ≡ flown domains x.domain x.number = sym (ap (λ (k : ℕ). flown domains k n) at.0) ∙ sym (ap (λ (k : ℕ). flown domains x.domain k) at.1) in
      ap (is_some {T = Emission}) (same ∙ f.in_flight)

  one_of : (x : Descriptor) (rest : Bool) (b : Bool) → is_numbered domain n x ≡ b → IsFlown domains x → (rest ≡ true → is_some (flown domains domain n) ≡ true) → (b || rest) ≡ true → is_some (flown domains domain n) ≡ true
  one_of x rest true is f later h = own_flown x f is
  one_of x rest false is f later h = later h

  -- one of these packets is of this number, and all are in flight
  among : (frames : List Descriptor) → All (IsFlown domains) frames → list_any (is_numbered domain n) frames ≡ true → is_some (flown domains domain n) ≡ true
  among [] all h = absurd cc
  among (x ∷ frames) all h =
      one_of x (list_any (is_numbered domain n) frames) (is_numbered domain n x) refl (All-head (IsFlown domains) x frames all) (among frames (All-tail (IsFlown domains) x frames all)) h

module _ (w : World) (placed : ArePlaced w) (domain : ℕ) where
  standing_flown : (place : Place) → All (IsFlown w.agents.domains) (standing_at w place)
  standing_flown place = all_standing (IsFlown w.agents.domains) w (all_front (IsFlown w.agents.domains) (frames_of w) placed.lost placed.flown) place

  both : (a b : Bool) → a ≡ true → b ≡ true → (a && b) ≡ true
  both true true p q = refl
  both true false p q = q
  both false b p q = p

  split : (a b : Bool) → (a && b) ≡ true → (a ≡ true) × (b ≡ true)
  split true true h = (refl, refl)
  split true false h = absurd cc
  split false b h = absurd cc

  pub named_flown : (named : List PacketPlace) → list_all (λ one. stands_at (standing_at w) domain one.0 one.1) named ≡ true → AreFlown w domain named
  named_flown [] there = refl
  named_flown (one ∷ named) there =
      let h = split (stands_at (standing_at w) domain one.0 one.1) (list_all (λ one. stands_at (standing_at w) domain one.0 one.1) named) there in
      both (is_some (flown w.agents.domains domain one.0)) (list_all (λ one. is_some (flown w.agents.domains domain one.0)) named)
      (among w.agents.domains domain one.0 (standing_at w one.1) (standing_flown one.1) h.0) (named_flown named h.1)
