-- What is noted once a number has another place.
use Rattle.std.proofs.Common.{◌≡◌, ℕ, ◌==◌, Bool, true, false, List, [], ◌∷◌, refl, sym, ap, ◌∙◌, subst}
use Rattle.std.specs.Prelude.{◌&&◌, ◌||◌}
use Rattle.std.specs.List.{list_all}
use Rattle.std.specs.BTreeMap.{insert_entry}
use Rattle.std.specs.Ordering.{match_ordering, nat_cmp}
use Rattle.std.specs.declared.cmp.Ordering.{Ordering}
use Rattle.std.specs.declared.cmp.Ordering.TheVariants.{Less, Equal, Greater}
use Rattle.std.proofs.lemmas.Map.Lookups.{exact_unsigned}
use Rattle.packet_places.specs.Noted.{Note}
use Rattle.packet_places.specs.PacketPlaces.{is_named}

pub both : (a b : Bool) → a ≡ true → b ≡ true → (a && b) ≡ true
both true true p q = refl
both true false p q = q
both false b p q = p

pub first_of : (a b : Bool) → (a && b) ≡ true → a ≡ true
first_of true b h = refl
first_of false b h = h

pub second_of : (a b : Bool) → (a && b) ≡ true → b ≡ true
second_of true b h = h
second_of false b h = absurd cc

or_last : (a b c : Bool) → (a || (b || c)) ≡ ((a || b) || c)
or_last true b c = refl
or_last false b c = refl

or_moves : (a b : Bool) → (a || b) ≡ (b || a)
or_moves true true = refl
or_moves true false = refl
or_moves false true = refl
or_moves false false = refl

or_twice : (a b : Bool) → (a || b) ≡ ((a || b) || a)
or_twice true b = refl
or_twice false true = refl
or_twice false false = refl

abbrev Entries : Type 0
Entries = List Note

module _ (k place : ℕ) where
  all_at : (test : Note → Bool) (e : Note) (named : Entries) (later : list_all test named ≡ true → list_all test (insert_entry nat_cmp named k place) ≡ true) (o : Ordering) → nat_cmp k e.0 ≡ o → list_all test (e ∷ named) ≡ true → test (k, place) ≡ true
      → list_all test (match_ordering o ((k, place) ∷ e ∷ named) ((e.0, place) ∷ named) (e ∷ insert_entry nat_cmp named k place)) ≡ true
  all_at test e named later Less is all one = both (test (k, place)) (list_all test (e ∷ named)) one all
  all_at test e named later Equal is all one =
      both (test (e.0, place)) (list_all test named) (subst (λ (n : ℕ). test (n, place) ≡ true) (exact_unsigned k e.0 is) one) (second_of (test e) (list_all test named) all)
  all_at test e named later Greater is all one =
      both (test e) (list_all test (insert_entry nat_cmp named k place)) (first_of (test e) (list_all test named) all) (later (second_of (test e) (list_all test named) all))

  -- a test that all pass, and the new one
  pub inserted_all : (test : Note → Bool) (named : Entries) → list_all test named ≡ true → test (k, place) ≡ true → list_all test (insert_entry nat_cmp named k place) ≡ true
  inserted_all test [] all one = both (test (k, place)) true one refl
  inserted_all test (e ∷ named) all one = all_at test e named (λ rest. inserted_all test named rest one) (nat_cmp k e.0) refl all one

  named_at : (n : ℕ) (e : Note) (named : Entries) (later : is_named (insert_entry nat_cmp named k place) n ≡ (is_named named n || (k == n))) (o : Ordering) → nat_cmp k e.0 ≡ o
      → is_named (match_ordering o ((k, place) ∷ e ∷ named) ((e.0, place) ∷ named) (e ∷ insert_entry nat_cmp named k place)) n ≡ (((e.0 == n) || is_named named n) || (k == n))
  named_at n e named later Less is = or_moves (k == n) ((e.0 == n) || is_named named n)
  named_at n e named later Equal is = or_twice (e.0 == n) (is_named named n) ∙ ap (λ (m : ℕ). ((e.0 == n) || is_named named n) || (m == n)) (sym (exact_unsigned k e.0 is))
  named_at n e named later Greater is = ap (λ (b : Bool). (e.0 == n) || b) later ∙ or_last (e.0 == n) (is_named named n) (k == n)

  -- those that were named are, and the new one
  pub inserted_named : (named : Entries) (n : ℕ) → is_named (insert_entry nat_cmp named k place) n ≡ (is_named named n || (k == n))
  inserted_named [] n = or_moves (k == n) false
  inserted_named (e ∷ named) n = named_at n e named (inserted_named named n) (nat_cmp k e.0) refl
