-- What a step on one of three queues does to the one list that they stand for.
use Rattle.std.proofs.Common.{◌≡◌, ◌≢◌, ℕ, suc, ◌+◌, ◌<◌, Bool, true, false, List, [], ◌∷◌, ◌++◌, length, refl, sym, ap, ◌∙◌, inl, inr, arith, zero-add, add-zero, one-add}
use Rattle.std.specs.Prelude.{map, if◌then◌else◌}
use Rattle.std.proofs.lemmas.Bool.{cases_lt}
use Rattle.std.proofs.lemmas.List.{map-append}
use Rattle.ordering.specs.Ordering.{Class, same_class, passes}
use Rattle.ordering.proofs.Classes.{same_class_same}
use Rattle.port_queue.specs.Arrivals.{Entry, Each, insert_in, all_in, tagged, arrivals, waiting_of}
use Rattle.port_queue.specs.Queue.{count_of}
use Rattle.port_queue.proofs.Merging.{each-map, each-all_in, insert-before, insert-after, insert-last, all_in-push, all_in-last, all_in-commute}
use Rattle.port_queue.proofs.Leaving.{items}

pub passes_unless : (c d : Class) → same_class d c ≡ false → same_class d Class.Posted ≡ false → passes c d ≡ true
passes_unless Class.Posted Class.Posted e f = cc
passes_unless Class.Posted Class.NonPosted e f = refl
passes_unless Class.Posted Class.Completion e f = refl
passes_unless Class.NonPosted Class.Posted e f = cc
passes_unless Class.NonPosted Class.NonPosted e f = cc
passes_unless Class.NonPosted Class.Completion e f = refl
passes_unless Class.Completion Class.Posted e f = cc
passes_unless Class.Completion Class.NonPosted e f = refl
passes_unless Class.Completion Class.Completion e f = cc

module _ {T : Type 0} where
  -- the queues with an entry more at the end of one, or at its front
  abbrev pub added : (Class → List (Entry T)) → Class → Entry T → Class → List (Entry T)
  added f c e d = if same_class d c then f d ++ e ∷ [] else f d

  abbrev pub fronted : (Class → List (Entry T)) → Class → Entry T → Class → List (Entry T)
  fronted f c e d = if same_class d c then e ∷ f d else f d

  pub arrivals-cong : (f g : Class → List (Entry T)) → ((d : Class) → f d ≡ g d) → arrivals f ≡ arrivals g
  arrivals-cong f g h =
      ap (λ p. all_in (map (tagged Class.Posted) p) (all_in (map (tagged Class.NonPosted) (f Class.NonPosted)) (all_in (map (tagged Class.Completion) (f Class.Completion)) []))) (h Class.Posted)
      ∙ (ap (λ n. all_in (map (tagged Class.Posted) (g Class.Posted)) (all_in (map (tagged Class.NonPosted) n) (all_in (map (tagged Class.Completion) (f Class.Completion)) []))) (h Class.NonPosted)
      ∙ ap (λ c. all_in (map (tagged Class.Posted) (g Class.Posted)) (all_in (map (tagged Class.NonPosted) (g Class.NonPosted)) (all_in (map (tagged Class.Completion) c) []))) (h Class.Completion))

  pub each-arrivals : (P : ℕ × (Class × T) → Type 0) (f : Class → List (Entry T)) → ((d : Class) → Each (λ e. P (tagged d e)) (f d)) → Each P (arrivals f)
  each-arrivals P f h =
      each-all_in P (map (tagged Class.Posted) (f Class.Posted)) _ (each-map P (tagged Class.Posted) (f Class.Posted) (h Class.Posted))
      (each-all_in P (map (tagged Class.NonPosted) (f Class.NonPosted)) _ (each-map P (tagged Class.NonPosted) (f Class.NonPosted) (h Class.NonPosted))
      (each-all_in P (map (tagged Class.Completion) (f Class.Completion)) [] (each-map P (tagged Class.Completion) (f Class.Completion) (h Class.Completion)) tt))

  all_in-add : (d : Class) (es : List (Entry T)) (ys : List (ℕ × (Class × T))) (e : Entry T) → Each (λ x. x.number < e.number) es → Each (λ y. y.0 < e.number) ys
      → all_in (map (tagged d) (es ++ e ∷ [])) ys ≡ all_in (map (tagged d) es) ys ++ tagged d e ∷ []
  all_in-add d es ys e h k =
      ap (λ xs. all_in xs ys) (map-append (tagged d) es (e ∷ []))
      ∙ (all_in-last (map (tagged d) es) ys (tagged d e)
      ∙ (ap (all_in (map (tagged d) es)) (insert-last (tagged d e) ys k)
      ∙ all_in-push (map (tagged d) es) ys (tagged d e) (each-map (λ x. x.0 < e.number) (tagged d) es h)))

  below_in : (d : Class) (es : List (Entry T)) (ys : List (ℕ × (Class × T))) (n : ℕ) → Each (λ x. x.number < n) es → Each (λ y. y.0 < n) ys → Each (λ y. y.0 < n) (all_in (map (tagged d) es) ys)
  below_in d es ys n h k = each-all_in (λ y. y.0 < n) (map (tagged d) es) ys (each-map (λ y. y.0 < n) (tagged d) es h) k

  -- an entry above all is the newest
  pub arrivals-added : (f : Class → List (Entry T)) (c : Class) (e : Entry T) → ((d : Class) → Each (λ x. x.number < e.number) (f d)) → arrivals (added f c e) ≡ arrivals f ++ tagged c e ∷ []
  arrivals-added f Class.Posted e h =
      all_in-add Class.Posted (f Class.Posted) _ e (h Class.Posted) (below_in Class.NonPosted (f Class.NonPosted) _ e.number (h Class.NonPosted) (below_in Class.Completion (f Class.Completion) [] e.number (h Class.Completion) tt))
  arrivals-added f Class.NonPosted e h =
      ap (all_in (map (tagged Class.Posted) (f Class.Posted))) (all_in-add Class.NonPosted (f Class.NonPosted) _ e (h Class.NonPosted) (below_in Class.Completion (f Class.Completion) [] e.number (h Class.Completion) tt))
      ∙ all_in-push (map (tagged Class.Posted) (f Class.Posted)) _ (tagged Class.NonPosted e) (each-map (λ x. x.0 < e.number) (tagged Class.Posted) (f Class.Posted) (h Class.Posted))
  arrivals-added f Class.Completion e h =
      ap (λ zs. all_in (map (tagged Class.Posted) (f Class.Posted)) (all_in (map (tagged Class.NonPosted) (f Class.NonPosted)) zs)) (all_in-add Class.Completion (f Class.Completion) [] e (h Class.Completion) tt)
      ∙ (ap (all_in (map (tagged Class.Posted) (f Class.Posted))) (all_in-push (map (tagged Class.NonPosted) (f Class.NonPosted)) _ (tagged Class.Completion e) (each-map (λ x. x.0 < e.number) (tagged Class.NonPosted) (f Class.NonPosted) (h Class.NonPosted)))
      ∙ all_in-push (map (tagged Class.Posted) (f Class.Posted)) _ (tagged Class.Completion e) (each-map (λ x. x.0 < e.number) (tagged Class.Posted) (f Class.Posted) (h Class.Posted)))

  commuted : (d : Class) (es : List (Entry T)) (ys : List (ℕ × (Class × T))) (x : ℕ × (Class × T)) → Each (λ e. e.number ≢ x.0) es → all_in (map (tagged d) es) (insert_in x ys) ≡ insert_in x (all_in (map (tagged d) es) ys)
  commuted d es ys x h = all_in-commute (map (tagged d) es) ys x (each-map (λ y. y.0 ≢ x.0) (tagged d) es h)

  -- an entry in front of its class is put in by its number
  pub arrivals-fronted : (f : Class → List (Entry T)) (c : Class) (e : Entry T) → ((d : Class) → same_class d c ≡ false → Each (λ x. x.number ≢ e.number) (f d)) → arrivals (fronted f c e) ≡ insert_in (tagged c e) (arrivals f)
  arrivals-fronted f Class.Posted e h = refl
  arrivals-fronted f Class.NonPosted e h = commuted Class.Posted (f Class.Posted) _ (tagged Class.NonPosted e) (h Class.Posted refl)
  arrivals-fronted f Class.Completion e h =
      ap (all_in (map (tagged Class.Posted) (f Class.Posted))) (commuted Class.NonPosted (f Class.NonPosted) _ (tagged Class.Completion e) (h Class.NonPosted refl))
      ∙ commuted Class.Posted (f Class.Posted) _ (tagged Class.Completion e) (h Class.Posted refl)

  -- how many of a class there are
  count_of-swap : (c : Class) (x y : Class × T) (zs : List (Class × T)) (a b : Bool) → same_class c x.0 ≡ a → same_class c y.0 ≡ b → count_of c (x ∷ y ∷ zs) ≡ count_of c (y ∷ x ∷ zs)
  count_of-swap c x y zs true true p q = rw (p, q) refl
  count_of-swap c x y zs true false p q = rw (p, q) refl
  count_of-swap c x y zs false true p q = rw (p, q) refl
  count_of-swap c x y zs false false p q = rw (p, q) refl

  count_of-same_tail : (c : Class) (x : Class × T) (ys zs : List (Class × T)) (a : Bool) → same_class c x.0 ≡ a → count_of c ys ≡ count_of c zs → count_of c (x ∷ ys) ≡ count_of c (x ∷ zs)
  count_of-same_tail c x ys zs true p h = rw p (ap (λ n. 1 + n) h)
  count_of-same_tail c x ys zs false p h = rw p h

  counted : (c : Class) (x : Class × T) (zs : List (Class × T)) → same_class c x.0 ≡ true → count_of c (x ∷ zs) ≡ 1 + count_of c zs
  counted c x zs p = rw p refl

  passed : (c : Class) (x : Class × T) (zs : List (Class × T)) → same_class c x.0 ≡ false → count_of c (x ∷ zs) ≡ count_of c zs
  passed c x zs p = rw p refl

  count_of-insert_in : (c : Class) (x : ℕ × (Class × T)) (ys : List (ℕ × (Class × T))) → count_of c (items (insert_in x ys)) ≡ count_of c (x.1 ∷ items ys)
  count_of-insert_in c x [] = refl
  count_of-insert_in c x (y ∷ ys) = elim (cases_lt x.0 y.0) [
    | inl before ↦ ap (λ zs. count_of c (items zs)) (insert-before x y ys before)
    | inr after ↦ ap (λ zs. count_of c (items zs)) (insert-after x y ys after)
        ∙ (count_of-same_tail c y.1 (items (insert_in x ys)) (x.1 ∷ items ys) (same_class c y.1.0) refl (count_of-insert_in c x ys)
        ∙ count_of-swap c y.1 x.1 (items ys) (same_class c y.1.0) (same_class c x.1.0) refl refl)
  ]

  count_of-own : (c : Class) (es : List (Entry T)) (ys : List (ℕ × (Class × T))) → count_of c (items (all_in (map (tagged c) es) ys)) ≡ length es + count_of c (items ys)
  count_of-own c [] ys = sym (zero-add (count_of c (items ys)))
  count_of-own c (e ∷ es) ys =
      let same = same_class_same c in
      let rest = count_of-own c es ys in
      let first : count_of c (items (insert_in (tagged c e) (all_in (map (tagged c) es) ys))) ≡ suc (count_of c (items (all_in (map (tagged c) es) ys))) = count_of-insert_in c (tagged c e) (all_in (map (tagged c) es) ys) ∙ (counted c (c, e.item) (items (all_in (map (tagged c) es) ys)) same ∙ one-add _) in
      omega arith

  count_of-other : (c d : Class) (es : List (Entry T)) (ys : List (ℕ × (Class × T))) → same_class c d ≡ false → count_of c (items (all_in (map (tagged d) es) ys)) ≡ count_of c (items ys)
  count_of-other c d [] ys other = refl
  count_of-other c d (e ∷ es) ys other =
      count_of-insert_in c (tagged d e) (all_in (map (tagged d) es) ys) ∙ (passed c (d, e.item) (items (all_in (map (tagged d) es) ys)) other ∙ count_of-other c d es ys other)

  pub count_of-waiting : (f : Class → List (Entry T)) (c : Class) → count_of c (waiting_of f) ≡ length (f c)
  count_of-waiting f Class.Posted =
      count_of-own Class.Posted (f Class.Posted) _ ∙ (ap (λ n. length (f Class.Posted) + n) (count_of-other Class.Posted Class.NonPosted (f Class.NonPosted) _ refl ∙ count_of-other Class.Posted Class.Completion (f Class.Completion) [] refl) ∙ add-zero (length (f Class.Posted)))
  count_of-waiting f Class.NonPosted =
      count_of-other Class.NonPosted Class.Posted (f Class.Posted) _ refl ∙ (count_of-own Class.NonPosted (f Class.NonPosted) _ ∙ (ap (λ n. length (f Class.NonPosted) + n) (count_of-other Class.NonPosted Class.Completion (f Class.Completion) [] refl) ∙ add-zero (length (f Class.NonPosted))))
  count_of-waiting f Class.Completion =
      count_of-other Class.Completion Class.Posted (f Class.Posted) _ refl ∙ (count_of-other Class.Completion Class.NonPosted (f Class.NonPosted) _ refl ∙ (count_of-own Class.Completion (f Class.Completion) [] ∙ add-zero (length (f Class.Completion))))
