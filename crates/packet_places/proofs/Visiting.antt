-- The places of a fabric are visited in turn.
use Rattle.std.proofs.Common.{◌≡◌, ℕ, ◌+◌, ◌==◌, ◌<◌, Bool, true, false, List, [], ◌∷◌, length, take, refl, sym, ap, ◌∙◌, subst}
use Rattle.std.specs.Prelude.{◌&&◌, ◌||◌, nat_lt, not, slice_index_or}
use Rattle.std.specs.List.{list_all, list_any}
use Rattle.std.specs.List.Sorted.{IsPermutation}
use Rattle.std.proofs.lemmas.List.{get_or_default}
use Rattle.std.proofs.lemmas.List.Folds.{list_any_more}
use Rattle.std.proofs.lemmas.List.Sorted.{list_any-IsPermutation}
use Rattle.std.proofs.lemmas.Bool.{eq-eqb, lt-ltb}
use Rattle.fab_types.specs.declared.place.Place.{Place}
use Rattle.frame_log.specs.Descriptor.{Descriptor}
use Rattle.packet_places.specs.Standing.{is_numbered}
use Rattle.packet_places.specs.Noted.{AreNoted, Note, Notes, is_below}
use Rattle.packet_places.specs.PacketPlaces.{stands_at}
use Rattle.packet_places.proofs.Inserted.{both, first_of, second_of}

or_true : (a : Bool) → (a || true) ≡ true
or_true true = refl
or_true false = refl

module _ (domain : ℕ) where
  abbrev found : List Descriptor → Descriptor → Bool
  found frames frame = not (frame.domain == domain) || list_any (is_numbered domain frame.number) frames

  finds_own : (frame : Descriptor) (frames : List Descriptor) (b : Bool) → b ≡ (frame.domain == domain) → (not b || ((b && (frame.number == frame.number)) || list_any (is_numbered domain frame.number) frames)) ≡ true
  finds_own frame frames true is = ap (λ (x : Bool). x || list_any (is_numbered domain frame.number) frames) (eq-eqb frame.number frame.number refl)
  finds_own frame frames false is = refl

  finds_later : (a b c : Bool) → (a || c) ≡ true → (a || (b || c)) ≡ true
  finds_later true b c h = refl
  finds_later false true c h = refl
  finds_later false false c h = h

  wider : (x : Descriptor) (frames rest : List Descriptor) → list_all (found rest) frames ≡ true → list_all (found (x ∷ rest)) frames ≡ true
  wider x [] rest all = refl
  wider x (frame ∷ frames) rest all =
      both (found (x ∷ rest) frame) (list_all (found (x ∷ rest)) frames)
      (finds_later (not (frame.domain == domain)) (is_numbered domain frame.number x) (list_any (is_numbered domain frame.number) rest) (first_of (found rest frame) (list_all (found rest) frames) all))
      (wider x frames rest (second_of (found rest frame) (list_all (found rest) frames) all))

  -- each packet is among those that stand where it does
  found_all : (frames : List Descriptor) → list_all (found frames) frames ≡ true
  found_all [] = refl
  found_all (frame ∷ frames) =
      both (found (frame ∷ frames) frame) (list_all (found (frame ∷ frames)) frames) (finds_own frame frames (frame.domain == domain) refl) (wider frame frames frames (found_all frames))

  same_found : (frames waiting : List Descriptor) → IsPermutation frames waiting → (of : List Descriptor) → list_all (found frames) of ≡ list_all (found waiting) of
  same_found frames waiting p [] = refl
  same_found frames waiting p (frame ∷ of) =
      ap (λ (b : Bool). (not (frame.domain == domain) || b) && list_all (found frames) of) (list_any-IsPermutation (is_numbered domain frame.number) frames waiting p)
      ∙ ap (λ (b : Bool). found waiting frame && b) (same_found frames waiting p of)

module _ (standing : Place → List Descriptor) (domain : ℕ) (all : List Place) where
  always_below : (place : ℕ) (frames : List Descriptor) → place < length all → list_all (λ frame. not (frame.domain == domain) || nat_lt place (length all)) frames ≡ true
  always_below place [] less = refl
  always_below place (frame ∷ frames) less = both _ _ (ap (λ (b : Bool). not (frame.domain == domain) || b) (lt-ltb place (length all) less) ∙ or_true (not (frame.domain == domain))) (always_below place frames less)

  -- one place more
  pub noted_next : (i : ℕ) (place : Place) (frames : List Descriptor) (old new : List Note) → i < length all → place ≡ slice_index_or all i place → IsPermutation frames (standing place) → AreNoted standing domain all (take i all) old → Notes domain i frames old new
      → AreNoted standing domain all (take (i + 1) all) new
  noted_next i place frames old new less is p so_far notes = record {
    below = notes.there (is_below all) so_far.below (always_below i frames less);
    there = λ other. notes.there (λ note. stands_at standing domain note.0 (slice_index_or all note.1 other)) (so_far.there other)
        (subst (λ (q : Place). list_all (λ frame. not (frame.domain == domain) || stands_at standing domain frame.number q) frames ≡ true) (is ∙ any_default other) (sym (same_found domain frames (standing place) p frames) ∙ found_all domain frames));
    named = λ n. notes.named n ∙ (ap (λ (b : Bool). b || list_any (is_numbered domain n) frames) (so_far.named n)
        ∙ (ap (λ (b : Bool). list_any (stands_at standing domain n) (take i all) || b) (list_any-IsPermutation (is_numbered domain n) frames (standing place) p ∙ ap (λ (q : Place). stands_at standing domain n q) is)
        ∙ sym (list_any_more (stands_at standing domain n) all i place less)));
  }
    where
      any_default : (other : Place) → slice_index_or all i place ≡ slice_index_or all i other
      any_default other = get_or_default all i place other less
