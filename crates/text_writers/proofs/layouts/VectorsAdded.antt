-- Vectors are given to the ports that have one.
use Rattle.std.proofs.Common.{◌≡◌, ℕ, ◌==◌, Bool, true, false, refl, ap, sym, subst, ◌∙◌, List, [], ◌∷◌, ◌++◌, Option, Some, None, append_assoc}
use Rattle.std.specs.Prelude.{◌&&◌, ◌||◌, not, map}
use Rattle.std.specs.List.{list_all, list_any, flat_map}
use Rattle.std.proofs.lemmas.Bool.{and_parts, cond-false, cond-true, eq-eqb, eqb-true}
use Rattle.std.proofs.lemmas.List.{map-append}
use Rattle.std.proofs.lemmas.List.Folds.{list_any-append}
use Rattle.platform.specs.declared.parts.DownstreamPort.{DownstreamPort}
use Rattle.platform.specs.Platform.{Platform}
use Rattle.platform.specs.Tree.{port_at}
use Rattle.layout_line.specs.declared.lines.EgressText.{EgressText}
use Rattle.layout_line.specs.declared.lines.LayoutLine.TheVariants as line
use Rattle.layout.specs.Additions.{with_vector}
use Rattle.layout.specs.Laws.{IsPlatform, are_apart, each_pair, keeps_home}
use Rattle.layout.specs.Rules.{egress_fault, fault_of, has_foreign_bit, is_let_abroad, lets_abroad, takes_vector}
use Rattle.text_writers.specs.HasLines.{HasLines, has_port_line, has_vector_line}
use Rattle.text_writers.specs.PlatformLines.{egress_lines, vector_lines}
use Rattle.text_writers.proofs.layouts.After.{after, all-after, one-after}
use Rattle.text_writers.proofs.layouts.Lists.{all-at, any-map, find-back, none-found, none-passes, pair-back, pair-front}
use Rattle.text_writers.proofs.layouts.Rules.{apart-parts, is-false, no-not, or-no, port-row, skip}
use Rattle.text_writers.proofs.layouts.Stripped.{stage, stripped}

abbrev gives : ℕ → ℕ → EgressText
gives id vector = record { port = id; vector = vector }

-- a vector changes no port but its own
other-same : (id vector : ℕ) (x : DownstreamPort) → (x.id == id) ≡ false → with_vector (gives id vector) x ≡ x
other-same id vector x h = ap (λ (v : Option ℕ). record x { egress_vector = v }) (cond-false (x.id == id) (Some vector) x.egress_vector h)

others-same : (id vector : ℕ) (xs : List DownstreamPort) → list_all (λ (x : DownstreamPort). not (x.id == id)) xs ≡ true → map (with_vector (gives id vector)) xs ≡ xs
others-same id vector [] h = refl
others-same id vector (x ∷ xs) h =
    let parts = and_parts (not (x.id == id)) (list_all (λ (y : DownstreamPort). not (y.id == id)) xs) h in
    ap (λ (y : DownstreamPort). y ∷ map (with_vector (gives id vector)) xs) (other-same id vector x (is-false _ parts.0))
    ∙ ap (λ (ys : List DownstreamPort). x ∷ ys) (others-same id vector xs parts.1)

and-no : (a b : Bool) → a ≡ false → (a && b) ≡ false
and-no true b h = absurd cc
and-no false b h = refl

and-no-last : (a b : Bool) → b ≡ false → (a && b) ≡ false
and-no-last true b h = h
and-no-last false b h = refl

not-from : (a : Bool) → a ≡ false → not a ≡ true
not-from true h = absurd cc
not-from false h = refl

other-way : (a b : ℕ) → (a == b) ≡ false → (b == a) ≡ false
other-way a b h = go (b == a) refl
  where
    go : (c : Bool) → (b == a) ≡ c → c ≡ false
    go false e = refl
    go true e = let same : (a == b) ≡ true = eq-eqb a b (sym (eqb-true b a e)) in absurd cc

found-first : (x : DownstreamPort) (xs : List DownstreamPort) → port_at (x ∷ xs) x.id ≡ Some x
found-first x xs = cond-true (x.id == x.id) (Some x) (port_at xs x.id) (eq-eqb x.id x.id refl)

all-from : (p q : DownstreamPort → Bool) (xs : List DownstreamPort) → ((x : DownstreamPort) → p x ≡ true → q x ≡ true) → list_all p xs ≡ true → list_all q xs ≡ true
all-from p q [] w h = refl
all-from p q (x ∷ xs) w h =
    let parts = and_parts (p x) (list_all p xs) h in
    let here : q x ≡ true = w x parts.0 in
    rw here (all-from p q xs w parts.1)

all-stripped : (p q : DownstreamPort → Bool) (xs : List DownstreamPort) → ((x : DownstreamPort) → p x ≡ true → q (stripped x) ≡ true) → list_all p xs ≡ true → list_all q (map stripped xs) ≡ true
all-stripped p q [] w h = refl
all-stripped p q (x ∷ xs) w h =
    let parts = and_parts (p x) (list_all p xs) h in
    let here : q (stripped x) ≡ true = w x parts.0 in
    rw here (all-stripped p q xs w parts.1)

module _ (p : Platform) (is : IsPlatform p) (has : HasLines p) where
  abbrev so_far : List DownstreamPort → List DownstreamPort → Platform
  so_far done rest = stage p p.switches (done ++ map stripped rest) p.functions p.maps p.budgets p.credits

  module _ (done : List DownstreamPort) (q : DownstreamPort) (rest : List DownstreamPort) (e : p.ports ≡ done ++ q ∷ rest) where
    abbrev now : List DownstreamPort
    now = done ++ map stripped (q ∷ rest)

    before : list_all (λ (x : DownstreamPort). are_apart x q) done ≡ true
    before = pair-front are_apart done q rest (let P : List DownstreamPort → Type 0 = λ ports. each_pair are_apart ports ≡ true in subst P e is.apart)

    behind : list_all (λ (x : DownstreamPort). are_apart q x) rest ≡ true
    behind = pair-back are_apart done q rest (let P : List DownstreamPort → Type 0 = λ ports. each_pair are_apart ports ≡ true in subst P e is.apart)

    done-others : list_all (λ (x : DownstreamPort). not (x.id == q.id)) done ≡ true
    done-others = all-from (λ (x : DownstreamPort). are_apart x q) (λ (x : DownstreamPort). not (x.id == q.id)) done (λ x h. not-from _ (apart-parts x q h).ids) before

    rest-others : list_all (λ (x : DownstreamPort). not (x.id == q.id)) (map stripped rest) ≡ true
    rest-others = all-stripped (λ (x : DownstreamPort). are_apart q x) (λ (x : DownstreamPort). not (x.id == q.id)) rest (λ x h. not-from _ (other-way q.id x.id (apart-parts q x h).ids)) behind

    at-now : port_at now q.id ≡ Some (stripped q)
    at-now =
        find-back (λ (port : DownstreamPort). port.id == q.id) done (map stripped (q ∷ rest))
        (none-found (λ (port : DownstreamPort). port.id == q.id) (λ (x : DownstreamPort). not (x.id == q.id)) done (λ x h. is-false _ h) done-others)
        ∙ found-first (stripped q) (map stripped rest)

    -- a port's vector lets nothing abroad, whichever vectors the others have by now
    home-now : lets_abroad p.functions now q ≡ false
    home-now =
        let test : DownstreamPort → Bool = is_let_abroad p.functions q in
        let same : list_any test now ≡ list_any test (done ++ q ∷ rest) =
        list_any-append test done (map stripped (q ∷ rest)) ∙ ap (λ (b : Bool). list_any test done || b) (any-map test test stripped (q ∷ rest) (λ x. refl)) ∙ sym (list_any-append test done (q ∷ rest)) in
        let kept : keeps_home p.functions p.ports q ≡ true = all-at (keeps_home p.functions p.ports) done q rest (let P : List DownstreamPort → Type 0 = λ ports. list_all (keeps_home p.functions p.ports) ports ≡ true in subst P e is.vectors) in
        same ∙ ap (list_any test) (sym e) ∙ is-false _ kept

    module _ (vector : ℕ) (v : q.egress_vector ≡ Some vector) where
      q-again : with_vector (gives q.id vector) (stripped q) ≡ q
      q-again =
          ap (λ (o : Option ℕ). record q { egress_vector = o }) (cond-true (q.id == q.id) (Some vector) None (eq-eqb q.id q.id refl))
          ∙ ap (λ (o : Option ℕ). record q { egress_vector = o }) (sym v)

      no-foreign : has_foreign_bit (so_far done (q ∷ rest)) (gives q.id vector) ≡ false
      unfolding has_foreign_bit
      no-foreign =
          let test : DownstreamPort → Bool = λ port. (port.id == q.id) && lets_abroad p.functions now (with_vector (gives q.id vector) port) in
          let here : lets_abroad p.functions now (with_vector (gives q.id vector) (stripped q)) ≡ false = ap (lets_abroad p.functions now) q-again ∙ home-now in
          list_any-append test done (map stripped (q ∷ rest))
          ∙ or-no _ _ (none-passes test (λ (x : DownstreamPort). not (x.id == q.id)) done (λ x h. and-no _ _ (is-false _ h)) done-others)
          (or-no _ _ (and-no-last (q.id == q.id) _ here) (none-passes test (λ (x : DownstreamPort). not (x.id == q.id)) (map stripped rest) (λ x h. and-no _ _ (is-false _ h)) rest-others))

      vector-row : has_vector_line p.version q.controls (Some vector) ≡ true
      vector-row =
          let row = port-row p.version q (all-at (has_port_line p.version) done q rest (let P : List DownstreamPort → Type 0 = λ ports. list_all (has_port_line p.version) ports ≡ true in subst P e has.ports)) in
          let P : Option ℕ → Type 0 = λ o. has_vector_line p.version q.controls o ≡ true in subst P v row.vector

      takes : takes_vector (port_at now q.id) ≡ true
      takes =
          let two = and_parts _ _ (and_parts _ _ vector-row).0 in
          ap takes_vector at-now ∙ ap (λ (b : Bool). b && true) two.1

      egress-fits : fault_of (so_far done (q ∷ rest)) (line.Egress (gives q.id vector)) ≡ None
      unfolding egress_fault
      egress-fits =
          let two = and_parts _ _ (and_parts _ _ vector-row).0 in
          skip _ _ _ (or-no _ _ (is-false _ two.0) (no-not _ takes)) (skip _ _ _ no-foreign refl)

      given : map (with_vector (gives q.id vector)) now ≡ (done ++ q ∷ []) ++ map stripped rest
      given =
          map-append (with_vector (gives q.id vector)) done (map stripped (q ∷ rest))
          ∙ ap (λ (ports : List DownstreamPort). ports ++ map (with_vector (gives q.id vector)) (map stripped (q ∷ rest))) (others-same q.id vector done done-others)
          ∙ ap (λ (port : DownstreamPort). done ++ port ∷ map (with_vector (gives q.id vector)) (map stripped rest)) q-again
          ∙ ap (λ (ports : List DownstreamPort). done ++ q ∷ ports) (others-same q.id vector (map stripped rest) rest-others)
          ∙ sym (append_assoc done (q ∷ []) (map stripped rest))

    vector-added : (o : Option ℕ) → q.egress_vector ≡ o → after (so_far done (q ∷ rest)) (egress_lines q.id o) ≡ Some (so_far (done ++ q ∷ []) rest)
    vector-added None v =
        ap (λ (o : Option ℕ). Some (stage p p.switches (done ++ record q { egress_vector = o } ∷ map stripped rest) p.functions p.maps p.budgets p.credits)) (sym v)
        ∙ ap (λ (ports : List DownstreamPort). Some (stage p p.switches ports p.functions p.maps p.budgets p.credits)) (sym (append_assoc done (q ∷ []) (map stripped rest)))
    vector-added (Some vector) v =
        one-after (so_far done (q ∷ rest)) (line.Egress (gives q.id vector)) (so_far (done ++ q ∷ []) rest) (egress-fits vector v)
        (ap (λ (ports : List DownstreamPort). stage p p.switches ports p.functions p.maps p.budgets p.credits) (given vector v))

  pub vectors-added : after (so_far [] p.ports) (flat_map vector_lines p.ports) ≡ Some (so_far p.ports [])
  vectors-added = all-after vector_lines so_far p.ports (λ done q rest e. vector-added done q rest e q.egress_vector refl)
