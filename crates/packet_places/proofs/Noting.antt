-- Packets of a domain are noted, one after another.
use Rattle.std.proofs.Common.{◌≡◌, ℕ, ◌==◌, Bool, true, false, List, [], ◌∷◌, refl, sym, ap, ◌∙◌, subst}
use Rattle.std.specs.Prelude.{◌&&◌, ◌||◌, not}
use Rattle.std.specs.List.{list_all, list_any}
use Rattle.std.specs.BTreeMap.{insert_entry}
use Rattle.std.specs.Ordering.{nat_cmp}
use Rattle.frame_log.specs.Descriptor.{Descriptor}
use Rattle.packet_places.specs.Standing.{is_numbered}
use Rattle.packet_places.specs.Noted.{Note, Notes}
use Rattle.packet_places.specs.PacketPlaces.{is_named}
use Rattle.packet_places.proofs.Inserted.{first_of, inserted_all, inserted_named}

or_false : (a : Bool) → a ≡ (a || false)
or_false true = refl
or_false false = refl

module _ (domain place : ℕ) where
  abbrev passes : (Note → Bool) → Descriptor → Bool
  passes test frame = not (frame.domain == domain) || test (frame.number, place)

  -- one that the domain made
  pub noted_own : (frame : Descriptor) (old new : List Note) → (frame.domain == domain) ≡ true → new ≡ insert_entry nat_cmp old frame.number place → Notes domain place (frame ∷ []) old new
  noted_own frame old new own is = record {
    there = λ test all one. subst (λ (named : List Note). list_all test named ≡ true) (sym is) (inserted_all frame.number place test old all (passed test one));
    named = λ n. ap (λ (named : List Note). is_named named n) is ∙ (inserted_named frame.number place old n ∙ ap (λ (b : Bool). is_named old n || b) (numbered n));
  }
    where
      passed : (test : Note → Bool) → list_all (passes test) (frame ∷ []) ≡ true → test (frame.number, place) ≡ true
      passed test one = subst (λ (b : Bool). (not b || test (frame.number, place)) ≡ true) own (first_of (passes test frame) true one)

      numbered : (n : ℕ) → (frame.number == n) ≡ list_any (is_numbered domain n) (frame ∷ [])
      numbered n = ap (λ (b : Bool). b && (frame.number == n)) (sym own) ∙ or_false (is_numbered domain n frame)
