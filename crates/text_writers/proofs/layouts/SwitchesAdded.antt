-- A switch is added, whose port above was added before.
use Rattle.std.proofs.Common.{◌≡◌, ℕ, ◌+◌, ◌==◌, ◌≤◌, true, false, refl, ap, sym, subst, ◌∙◌, List, [], ◌∷◌, ◌++◌, length, Option, Some, None, arith, eqb-true}
use Rattle.std.specs.Prelude.{◌||◌, nat_le, nat_lt, is_none, is_some, map, option_and_then, option_map}
use Rattle.std.specs.List.{list_all, list_any}
use Rattle.std.proofs.lemmas.Bool.{and_parts, eq-eqb}
use Rattle.std.proofs.lemmas.Bool.Decides.{nat_tests}
use Rattle.fab_types.specs.Id.{bus_of, id_of}
use Rattle.platform.specs.declared.parts.Switch.{Switch}
use Rattle.platform.specs.declared.parts.DownstreamPort.{DownstreamPort}
use Rattle.platform.specs.Platform.{Platform}
use Rattle.platform.specs.Tree.{id_below, is_third_level, port_at}
use Rattle.layout.specs.Additions.{add}
use Rattle.layout.specs.Laws.{IsPlatform, is_hung, is_hung_below, is_hung_by, is_level, is_level_below}
use Rattle.layout.specs.Places.{IsWellPlaced, have_other_ids, is_top_first}
use Rattle.layout.specs.Rules.{fault_of, root_fault, switch_fault, switch_fault_below}
use Rattle.text_writers.specs.PlatformLines.{switch_or_root, switch_says}
use Rattle.text_writers.proofs.layouts.After.{after, one-after}
use Rattle.text_writers.proofs.layouts.Lists.{all-at, length-room, none-passes, pair-front}
use Rattle.text_writers.proofs.layouts.PortsAdded.{tree}
use Rattle.text_writers.proofs.layouts.Prefixes.{above-same, hangs_by, hangs_from, third-not}
use Rattle.text_writers.proofs.layouts.Rules.{above-most, is-false, no-not, or-no, skip}
use Rattle.text_writers.proofs.layouts.Stripped.{at-stripped, stripped, third-stripped}

none-of : (o : Option ℕ) → is_none o ≡ true → o ≡ None
none-of None h = refl
none-of (Some id) h = absurd cc

no-more : (a b : ℕ) → nat_lt a b ≡ true → nat_lt b (a + 1) ≡ false
no-more a b h = grind (arith, nat_tests)

module _ (p : Platform) (is : IsPlatform p) (placed : IsWellPlaced p) (S later : List Switch) (s : Switch) (Q rest : List DownstreamPort)
    (switches_are : p.switches ≡ S ++ s ∷ later) (ports_are : p.ports ≡ Q ++ rest) where
  all-others : list_all (λ (x : Switch). have_other_ids x s) S ≡ true
  all-others = pair-front have_other_ids S s later (rw switches_are at placed.apart)

  -- a switch stands where its line says
  hung-at : (S : List Switch) (s : Switch) (later : List Switch) → p.switches ≡ S ++ s ∷ later → is_hung p.ports s ≡ true
  hung-at S s later e = all-at (is_hung p.ports) S s later (let P : List Switch → Type 0 = λ switches. list_all (is_hung p.ports) switches ≡ true in subst P e is.hung)

  root-id : (S : List Switch) (s : Switch) (later : List Switch) → p.switches ≡ S ++ s ∷ later → s.above ≡ None → s.id ≡ id_of 1 0 0
  root-id S s later e none =
      let hung : is_hung_by p.ports None s ≡ true = let P : Option ℕ → Type 0 = λ above. is_hung_by p.ports above s ≡ true in subst P none (hung-at S s later e) in
      eqb-true s.id (id_of 1 0 0) hung

  -- no switch stands before the top one
  is-first : (S : List Switch) → p.switches ≡ S ++ s ∷ later → list_all (λ (x : Switch). have_other_ids x s) S ≡ true → s.above ≡ None → (length S == 0) ≡ true
  is-first [] e others none = refl
  is-first (t ∷ S) e others none =
      let top : is_top_first (t ∷ (S ++ s ∷ later)) ≡ true = let P : List Switch → Type 0 = λ switches. is_top_first switches ≡ true in subst P e placed.top in
      let first : t.id ≡ id_of 1 0 0 = root-id [] t (S ++ s ∷ later) e (none-of t.above top) in
      let second : s.id ≡ id_of 1 0 0 = root-id (t ∷ S) s later e none in
      let differ : (t.id == s.id) ≡ false = is-false _ (and_parts _ _ others).0 in
      let same : (t.id == s.id) ≡ true = eq-eqb t.id s.id (first ∙ sym second) in
      absurd cc

  root-fits : s.above ≡ None → root_fault (tree p S Q) s.id ≡ None
  unfolding root_fault
  root-fits none = skip _ _ _ (or-no _ _ (no-not _ (eq-eqb s.id (id_of 1 0 0) (root-id S s later switches_are none))) (no-not _ (is-first S switches_are all-others none))) refl

  not-taken : (list_any (λ (x : Switch). x.id == s.id) S || false) ≡ false
  not-taken = or-no _ _ (none-passes (λ (x : Switch). x.id == s.id) (λ (x : Switch). have_other_ids x s) S (λ x h. is-false _ h) all-others) refl

  room : nat_le 8 (length S) ≡ false
  room =
      let few : length (S ++ s ∷ later) ≤ 8 = let P : List Switch → Type 0 = λ switches. length switches ≤ 8 in subst P switches_are is.limits.switches in
      above-most (length S) 8 (length-room S s later 8 few)

  not-third : (above : ℕ) (port : DownstreamPort) → s.above ≡ Some above → port_at p.ports above ≡ Some port → is_third_level S (map stripped Q) (bus_of port.id) ≡ false
  not-third above port e at =
      let level : is_level p.switches p.ports s ≡ true = all-at (is_level p.switches p.ports) S s later (let P : List Switch → Type 0 = λ switches. list_all (is_level p.switches p.ports) switches ≡ true in subst P switches_are is.levels) in
      let over : option_and_then (λ (id : ℕ). port_at p.ports id) s.above ≡ Some port = ap (option_and_then (λ (id : ℕ). port_at p.ports id)) e ∙ at in
      let low : is_level_below p.switches p.ports (Some port) ≡ true = let P : Option DownstreamPort → Type 0 = λ above. is_level_below p.switches p.ports above ≡ true in subst P over level in
      let whole : is_third_level (S ++ s ∷ later) (Q ++ rest) (bus_of port.id) ≡ false =
      sym (ap (λ (switches : List Switch). is_third_level switches (Q ++ rest) (bus_of port.id)) switches_are) ∙ sym (ap (λ (ports : List DownstreamPort). is_third_level p.switches ports (bus_of port.id)) ports_are) ∙ is-false _ low in
      third-stripped S Q (bus_of port.id) ∙ third-not S (s ∷ later) Q rest (bus_of port.id) whole

  below-fits : (above : ℕ) (o : Option DownstreamPort) → s.above ≡ Some above → port_at Q above ≡ o → port_at p.ports above ≡ o → is_some o ≡ true → switch_fault_below (tree p S Q) s.id (option_map stripped o) ≡ None
  below-fits above None e at_front at some = absurd cc
  below-fits above (Some port) e at_front at some =
      let hung_by : is_hung_below (port_at p.ports above) s ≡ true = let P : Option ℕ → Type 0 = λ above. is_hung_by p.ports above s ≡ true in subst P e (hung-at S s later switches_are) in
      let hung : is_hung_below (Some port) s ≡ true = let P : Option DownstreamPort → Type 0 = λ over. is_hung_below over s ≡ true in subst P at hung_by in
      let parts = and_parts (s.id == id_below port) (nat_lt port.secondary port.subordinate) hung in
      skip _ _ _ (or-no _ _ (no-not _ parts.0) not-taken)
      (skip _ _ _ (or-no _ _ room (not-third above port e at))
      (skip _ _ _ (no-more port.secondary port.subordinate parts.1) refl))

  switch-fits : (above : Option ℕ) → s.above ≡ above → hangs_by Q above ≡ true → fault_of (tree p S Q) (switch_or_root s.id above) ≡ None
  unfolding switch_fault
  switch-fits None e hangs = root-fits e
  switch-fits (Some above) e hangs =
      let at : port_at p.ports above ≡ port_at Q above = ap (λ (ports : List DownstreamPort). port_at ports above) ports_are ∙ above-same Q rest (Some above) hangs in
      ap (switch_fault_below (tree p S Q) s.id) (at-stripped Q above) ∙ below-fits above (port_at Q above) e refl at hangs

  switch-is : (above : Option ℕ) → s.above ≡ above → add (tree p S Q) (switch_or_root s.id above) ≡ tree p (S ++ s ∷ []) Q
  switch-is None e = ap (λ (above : Option ℕ). tree p (S ++ record { id = s.id; above = above } ∷ []) Q) (sym e)
  switch-is (Some above) e = ap (λ (above : Option ℕ). tree p (S ++ record { id = s.id; above = above } ∷ []) Q) (sym e)

  pub switch-added : hangs_from Q s ≡ true → after (tree p S Q) (switch_says s ∷ []) ≡ Some (tree p (S ++ s ∷ []) Q)
  switch-added hangs = one-after (tree p S Q) (switch_says s) (tree p (S ++ s ∷ []) Q) (switch-fits s.above refl hangs) (switch-is s.above refl)
