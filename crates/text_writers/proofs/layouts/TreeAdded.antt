-- The tree of switches and ports is added, without vectors.
use Rattle.std.proofs.Common.{◌≡◌, ℕ, ◌==◌, Bool, true, false, cond, refl, ap, sym, subst, ◌∙◌, List, [], ◌∷◌, ◌++◌, Option, Some, None, append_assoc}
use Rattle.std.specs.Prelude.{MatchOption, is_some, map}
use Rattle.std.specs.List.{list_all}
use Rattle.std.proofs.lemmas.Bool.{eq-eqb}
use Rattle.std.proofs.lemmas.List.{append-nil}
use Rattle.fab_types.specs.Id.{bus_of}
use Rattle.platform.specs.declared.parts.Switch.{Switch}
use Rattle.platform.specs.declared.parts.DownstreamPort.{DownstreamPort}
use Rattle.platform.specs.Platform.{Platform}
use Rattle.platform.specs.Tree.{port_at, switch_on}
use Rattle.layout.specs.Laws.{IsPlatform, is_hung, is_hung_below, is_hung_by, is_nested}
use Rattle.layout.specs.Places.{IsWellPlaced}
use Rattle.platform.proofs.Bools.{all-weaker}
use Rattle.layout.proofs.Bools.{all-more}
use Rattle.layout.proofs.Nesting.{nested-some}
use Rattle.text_writers.specs.HasLines.{HasLines, is_port_of}
use Rattle.text_writers.specs.PlatformLines.{parts_or, port_says, ports_before, split_behind, switch_says, tree_lines}
use Rattle.text_writers.proofs.layouts.After.{after, both-after}
use Rattle.text_writers.proofs.layouts.Lists.{all-at, all-back, find-back}
use Rattle.text_writers.proofs.layouts.PortsAdded.{ports-added, tree}
use Rattle.text_writers.proofs.layouts.Prefixes.{hang-more, hangs_by, hangs_from}
use Rattle.text_writers.proofs.layouts.Splits.{IsSplit, split-is}
use Rattle.text_writers.proofs.layouts.SwitchesAdded.{switch-added}

some-hung : (o : Option DownstreamPort) (s : Switch) → is_hung_below o s ≡ true → is_some o ≡ true
some-hung None s h = absurd cc
some-hung (Some port) s h = refl

module _ (p : Platform) (is : IsPlatform p) (placed : IsWellPlaced p) (has : HasLines p) where
  -- what is written before a switch: ports of earlier switches, up to the one above it
  record IsCut (S : List Switch) (s : Switch) (Q qs : List DownstreamPort) (parts : List DownstreamPort × List DownstreamPort) : Type 0 where
    whole : qs ≡ parts.0 ++ parts.1
    on : list_all (is_port_of S) parts.0 ≡ true
    hangs : hangs_from (Q ++ parts.0) s ≡ true

  -- the port above is among all ports
  known : (S later : List Switch) (s : Switch) (above : ℕ) → p.switches ≡ S ++ s ∷ later → s.above ≡ Some above → is_some (port_at p.ports above) ≡ true
  known S later s above e is_above =
      let hung : is_hung p.ports s ≡ true = all-at (is_hung p.ports) S s later (let P : List Switch → Type 0 = λ switches. list_all (is_hung p.ports) switches ≡ true in subst P e is.hung) in
      let by : is_hung_by p.ports (Some above) s ≡ true = let P : Option ℕ → Type 0 = λ above. is_hung_by p.ports above s ≡ true in subst P is_above hung in
      some-hung (port_at p.ports above) s by

  -- it was written before, or stands among those still to be written
  cut-missing : (S later : List Switch) (s : Switch) (Q qs : List DownstreamPort) (above : ℕ) → p.switches ≡ S ++ s ∷ later → p.ports ≡ Q ++ qs → s.above ≡ Some above
      → port_at qs above ≡ None → IsCut S s Q qs ([], qs)
  cut-missing S later s Q qs above switches_are ports_are is_above missing =
      let some : is_some (port_at (Q ++ qs) above) ≡ true = let P : List DownstreamPort → Type 0 = λ ports. is_some (port_at ports above) ≡ true in subst P ports_are (known S later s above switches_are is_above) in
      let front : is_some (port_at Q above) ≡ true = go (port_at Q above) refl some in
      record {
        whole = refl;
        on = refl;
        hangs = ap (λ (ports : List DownstreamPort). hangs_from ports s) (append-nil Q) ∙ ap (hangs_by Q) is_above ∙ front;
      }
    where
      go : (o : Option DownstreamPort) → port_at Q above ≡ o → is_some (port_at (Q ++ qs) above) ≡ true → is_some o ≡ true
      go (Some port) e h = refl
      go None e h = let none : port_at (Q ++ qs) above ≡ None = find-back (λ (port : DownstreamPort). port.id == above) Q qs e ∙ missing in let no : is_some (port_at (Q ++ qs) above) ≡ false = ap is_some none in absurd cc

  found-last : (front : List DownstreamPort) (port : DownstreamPort) (above : ℕ) → port.id ≡ above → is_some (port_at (front ++ port ∷ []) above) ≡ true
  found-last [] port above e = go (port.id == above) (eq-eqb port.id above e)
    where
      go : (b : Bool) → b ≡ true → is_some (cond b (Some port) None) ≡ true
      go true h = refl
      go false h = absurd cc
  found-last (x ∷ front) port above e = go (x.id == above) (found-last front port above e)
    where
      go : (b : Bool) → is_some (port_at (front ++ port ∷ []) above) ≡ true → is_some (cond b (Some x) (port_at (front ++ port ∷ []) above)) ≡ true
      go true h = refl
      go false h = h

  cut-found : (S later : List Switch) (s : Switch) (Q qs : List DownstreamPort) (above : ℕ) (parts : List DownstreamPort × List DownstreamPort) → p.switches ≡ S ++ s ∷ later → p.ports ≡ Q ++ qs → s.above ≡ Some above
      → IsSplit above qs parts → IsCut S s Q qs parts
  cut-found S later s Q qs above parts switches_are ports_are is_above split =
      let cut : p.ports ≡ (Q ++ split.front) ++ split.port ∷ parts.1 =
      ports_are ∙ ap (λ (ps : List DownstreamPort). Q ++ ps) (split.whole ∙ ap (λ (ps : List DownstreamPort). ps ++ parts.1) split.first ∙ append_assoc split.front (split.port ∷ []) parts.1) ∙ sym (append_assoc Q split.front (split.port ∷ parts.1)) in
      let order : list_all (is_port_of S) ((Q ++ split.front) ++ split.port ∷ []) ≡ true = has.order S later s (Q ++ split.front) parts.1 split.port switches_are cut (is_above ∙ ap Some (sym split.at)) in
      let joined : (Q ++ split.front) ++ split.port ∷ [] ≡ Q ++ parts.0 = append_assoc Q split.front (split.port ∷ []) ∙ ap (λ (ps : List DownstreamPort). Q ++ ps) (sym split.first) in
      let all : list_all (is_port_of S) (Q ++ parts.0) ≡ true = let P : List DownstreamPort → Type 0 = λ ports. list_all (is_port_of S) ports ≡ true in subst P joined order in
      let last : is_some (port_at ((Q ++ split.front) ++ split.port ∷ []) above) ≡ true = found-last (Q ++ split.front) split.port above split.at in
      record {
        whole = split.whole;
        on = all-back (is_port_of S) Q parts.0 all;
        hangs = ap (hangs_by (Q ++ parts.0)) is_above ∙ (let P : List DownstreamPort → Type 0 = λ ports. is_some (port_at ports above) ≡ true in subst P joined last);
      }

  cut-at : (S later : List Switch) (s : Switch) (Q qs : List DownstreamPort) (above : Option ℕ) → p.switches ≡ S ++ s ∷ later → p.ports ≡ Q ++ qs → s.above ≡ above → IsCut S s Q qs (ports_before above qs)
  cut-at S later s Q qs None switches_are ports_are e = record { whole = refl; on = refl; hangs = ap (hangs_by (Q ++ [])) e }
  cut-at S later s Q qs (Some above) switches_are ports_are e = go (split_behind above qs) (split-is above qs)
    where
      go : (o : Option (List DownstreamPort × List DownstreamPort)) → MatchOption o (port_at qs above ≡ None) (λ parts. IsSplit above qs parts) → IsCut S s Q qs (parts_or qs o)
      go None h = cut-missing S later s Q qs above switches_are ports_are e h
      go (Some parts) h = cut-found S later s Q qs above parts switches_are ports_are e h

  -- each port stands on a switch of the whole
  on-some : (port : DownstreamPort) → is_nested p.switches p.ports port ≡ true → is_port_of p.switches port ≡ true
  on-some port h = nested-some p.ports (switch_on p.switches (bus_of port.id)) port h

  all-on : (Q qs : List DownstreamPort) → p.ports ≡ Q ++ qs → list_all (is_port_of p.switches) qs ≡ true
  all-on Q qs e =
      let nested : list_all (is_nested p.switches p.ports) (Q ++ qs) ≡ true = let P : List DownstreamPort → Type 0 = λ ports. list_all (is_nested p.switches p.ports) ports ≡ true in subst P e is.nested in
      all-weaker (is_nested p.switches p.ports) (is_port_of p.switches) qs on-some (all-back (is_nested p.switches p.ports) Q qs nested)

  rest-added : (S : List Switch) (Q qs : List DownstreamPort) → p.switches ≡ S → p.ports ≡ Q ++ qs → list_all (hangs_from Q) S ≡ true → after (tree p S Q) (map port_says qs) ≡ Some (tree p p.switches p.ports)
  rest-added S Q qs switches_are ports_are hang =
      let on : list_all (is_port_of S) qs ≡ true = let P : List Switch → Type 0 = λ switches. list_all (is_port_of switches) qs ≡ true in subst P switches_are (all-on Q qs ports_are) in
      ports-added p is has S [] Q qs [] (switches_are ∙ sym (append-nil S)) (ports_are ∙ ap (λ (ps : List DownstreamPort). Q ++ ps) (sym (append-nil qs))) hang on
      ∙ ap (λ (switches : List Switch). Some (tree p switches (Q ++ qs))) (sym switches_are)
      ∙ ap (λ (ports : List DownstreamPort). Some (tree p p.switches ports)) (sym ports_are)

  tree-from : (ss S : List Switch) (Q qs : List DownstreamPort) → p.switches ≡ S ++ ss → p.ports ≡ Q ++ qs → list_all (hangs_from Q) S ≡ true → after (tree p S Q) (tree_lines ss qs) ≡ Some (tree p p.switches p.ports)
  tree-from [] S Q qs switches_are ports_are hang = rest-added S Q qs (switches_are ∙ append-nil S) ports_are hang
  tree-from (s ∷ ss) S Q qs switches_are ports_are hang =
      let parts = ports_before s.above qs in
      let cut = cut-at S ss s Q qs s.above switches_are ports_are refl in
      let ports : p.ports ≡ Q ++ (parts.0 ++ parts.1) = ports_are ∙ ap (λ (ps : List DownstreamPort). Q ++ ps) cut.whole in
      let later : p.ports ≡ (Q ++ parts.0) ++ parts.1 = ports ∙ sym (append_assoc Q parts.0 parts.1) in
      let switches : p.switches ≡ (S ++ s ∷ []) ++ ss = switches_are ∙ sym (append_assoc S (s ∷ []) ss) in
      both-after (map port_says parts.0) (switch_says s ∷ tree_lines ss parts.1) (tree p S Q) (tree p S (Q ++ parts.0)) (Some (tree p p.switches p.ports))
      (ports-added p is has S (s ∷ ss) Q parts.0 parts.1 switches_are ports hang cut.on)
      (both-after (switch_says s ∷ []) (tree_lines ss parts.1) (tree p S (Q ++ parts.0)) (tree p (S ++ s ∷ []) (Q ++ parts.0)) (Some (tree p p.switches p.ports))
      (switch-added p is placed S ss s (Q ++ parts.0) parts.1 switches_are later cut.hangs)
      (tree-from ss (S ++ s ∷ []) (Q ++ parts.0) parts.1 switches later
      (all-more (hangs_from (Q ++ parts.0)) S s (hang-more Q parts.0 S hang) cut.hangs)))

  pub tree-added : after (tree p [] []) (tree_lines p.switches p.ports) ≡ Some (tree p p.switches p.ports)
  tree-added = tree-from p.switches [] [] p.ports refl refl refl
