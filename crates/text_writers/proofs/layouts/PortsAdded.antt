-- Ports are added, whose switches were added before.
use Rattle.std.proofs.Common.{◌≡◌, ◌+◌, ◌==◌, ◌<◌, ◌≤◌, Bool, true, false, refl, ap, sym, subst, ◌∙◌, List, [], ◌∷◌, ◌++◌, Option, Some, None, arith, append_assoc}
use Rattle.std.specs.Prelude.{◌&&◌, count_by, nat_le, nat_lt, is_some, map, option_map}
use Rattle.std.specs.List.{list_all}
use Rattle.std.proofs.lemmas.Bool.{and_from, and_parts, eq-eqb}
use Rattle.std.proofs.lemmas.List.{append-nil, map-append}
use Rattle.fab_types.specs.Controls.{bits_of}
use Rattle.fab_types.specs.Id.{bus_of}
use Rattle.platform.specs.declared.parts.Switch.{Switch}
use Rattle.platform.specs.declared.parts.DownstreamPort.{DownstreamPort}
use Rattle.platform.specs.Platform.{Platform}
use Rattle.platform.specs.Tree.{is_on_bus, port_above, port_at, switch_on}
use Rattle.layout_line.specs.declared.lines.PortText.{PortText}
use Rattle.layout.specs.Laws.{IsPlatform, are_apart, has_domain, is_inside, is_nested, is_nested_on}
use Rattle.layout.specs.Rules.{buses_are_outside, buses_meet, fault_of, has_bad_fields, is_past_port_limits, owner_differs, port_fault, port_fault_below, port_fault_on, window_is_outside, windows_meet}
use Rattle.layout.proofs.Given.{count-map}
use Rattle.text_writers.specs.HasLines.{HasLines, has_port_line, is_port_of}
use Rattle.text_writers.specs.PlatformLines.{port_says}
use Rattle.text_writers.proofs.layouts.After.{after, both-after, one-after}
use Rattle.text_writers.proofs.layouts.Lists.{all-at, any-map, count-room, none-found, none-passes, pair-front}
use Rattle.text_writers.proofs.layouts.Prefixes.{above-same, hang-more, hangs_from, on-same}
use Rattle.text_writers.proofs.layouts.Rules.{IsPortRow, above-most, apart-parts, no-not, not-less, not-most, or-no, port-row, skip}
use Rattle.text_writers.proofs.layouts.Stripped.{above-stripped, at-stripped, no-vectors, stage, stripped}
use Rattle.platform.proofs.Bools.{all-found}

abbrev pub tree : Platform → List Switch → List DownstreamPort → Platform
tree p switches ports = stage p switches (map stripped ports) [] [] [] []

abbrev text_of_port : DownstreamPort → PortText
text_of_port port = record { id = port.id; secondary = port.secondary; subordinate = port.subordinate; base = port.base; limit = port.limit; controls = bits_of port.controls; owner = port.owner }

-- what the port above says of a port's buses, window and owner
record FitsBelow (above : Option DownstreamPort) (q : DownstreamPort) : Type 0 where
  buses : buses_are_outside (option_map stripped above) (text_of_port q) ≡ false
  window : window_is_outside (option_map stripped above) (text_of_port q) ≡ false
  owner : owner_differs (option_map stripped above) (text_of_port q) ≡ false

fits-below : (above : Option DownstreamPort) (q : DownstreamPort) → nat_le q.subordinate 255 ≡ true → is_inside above q ≡ true → FitsBelow above q
fits-below None q low h = record { buses = no-not _ (and_from _ _ h low); window = refl; owner = refl }
fits-below (Some port) q low h =
    let three = and_parts _ _ h in
    let two = and_parts _ _ three.0 in
    record { buses = no-not _ two.0; window = no-not _ two.1; owner = no-not _ three.1 }

module _ (p : Platform) (is : IsPlatform p) (has : HasLines p) where
  -- one port, behind those before it
  module _ (S later : List Switch) (Q rest : List DownstreamPort) (q : DownstreamPort) (switches_are : p.switches ≡ S ++ later) (ports_are : p.ports ≡ Q ++ q ∷ rest)
      (hang : list_all (hangs_from Q) S ≡ true) where
    row : IsPortRow p.version q
    row = port-row p.version q (all-at (has_port_line p.version) Q q rest (rw ports_are at has.ports))

    all-apart : list_all (λ (x : DownstreamPort). are_apart x q) Q ≡ true
    all-apart = pair-front are_apart Q q rest (rw ports_are at is.apart)

    new : port_at Q q.id ≡ None
    new = none-found (λ (port : DownstreamPort). port.id == q.id) (λ (x : DownstreamPort). are_apart x q) Q (λ x h. (apart-parts x q h).ids) all-apart

    nested : is_nested_on p.ports (switch_on p.switches (bus_of q.id)) q ≡ true
    nested = all-at (is_nested p.switches p.ports) Q q rest (let P : List DownstreamPort → Type 0 = λ ports. list_all (is_nested p.switches p.ports) ports ≡ true in subst P ports_are is.nested)

    order-fits : (s : Switch) → switch_on S (bus_of q.id) ≡ Some s → (nat_le q.secondary q.subordinate && nat_lt q.base q.limit && is_inside (port_above Q s) q) ≡ true
    order-fits s e =
        let on : switch_on p.switches (bus_of q.id) ≡ Some s = ap (λ (switches : List Switch). switch_on switches (bus_of q.id)) switches_are ∙ on-same S later (bus_of q.id) s e in
        let hangs : hangs_from Q s ≡ true = all-found (λ (x : Switch). bus_of x.id + 1 == bus_of q.id) (hangs_from Q) S s e hang in
        let above : port_above p.ports s ≡ port_above Q s = ap (λ (ports : List DownstreamPort). port_above ports s) ports_are ∙ above-same Q (q ∷ rest) s.above hangs in
        let at_switch : is_nested_on p.ports (Some s) q ≡ true = rw on at nested in
        rw above at at_switch

    good-fields : nat_le q.secondary q.subordinate ≡ true → nat_lt q.base q.limit ≡ true → has_bad_fields (map stripped Q) (text_of_port q) ≡ false
    unfolding has_bad_fields
    good-fields buses window =
        let none : is_some (port_at (map stripped Q) q.id) ≡ false = ap is_some (at-stripped Q q.id ∙ ap (option_map stripped) new) in
        or-no _ _ (or-no _ _ (or-no _ _ (or-no _ _ (or-no _ _ (no-not _ row.function) none) (not-less q.secondary q.subordinate buses)) (no-not _ row.base)) (no-not _ row.limit)) (not-most q.base q.limit window)

    within-limits : is_past_port_limits (map stripped Q) (text_of_port q) ≡ false
    unfolding is_past_port_limits
    within-limits =
        let own : has_domain q ≡ true = all-at has_domain Q q rest (rw ports_are at is.owners) in
        let few : count_by (is_on_bus (bus_of q.id)) (Q ++ q ∷ rest) ≤ 8 = let P : List DownstreamPort → Type 0 = λ ports. count_by (is_on_bus (bus_of q.id)) ports ≤ 8 in subst P ports_are (is.limits.ports (bus_of q.id)) in
        let room : count_by (is_on_bus (bus_of q.id)) Q < 8 = count-room (is_on_bus (bus_of q.id)) Q q rest 8 (eq-eqb (bus_of q.id) (bus_of q.id) refl) few in
        let same : count_by (is_on_bus (bus_of q.id)) (map stripped Q) ≡ count_by (is_on_bus (bus_of q.id)) Q = count-map (is_on_bus (bus_of q.id)) stripped Q (λ x. refl) in
        or-no _ _ (no-not _ own) (above-most _ 8 (omega (arith, room, same)))

    no-buses : buses_meet (map stripped Q) (text_of_port q) ≡ false
    unfolding buses_meet
    no-buses =
        let meets : DownstreamPort → Bool = λ x. is_on_bus (bus_of q.id) x && nat_le x.secondary q.subordinate && nat_le q.secondary x.subordinate in
        any-map meets meets stripped Q (λ x. refl) ∙ none-passes meets (λ (x : DownstreamPort). are_apart x q) Q (λ x h. (apart-parts x q h).buses) all-apart

    no-windows : windows_meet (map stripped Q) (text_of_port q) ≡ false
    unfolding windows_meet
    no-windows =
        let meets : DownstreamPort → Bool = λ x. is_on_bus (bus_of q.id) x && nat_le x.base q.limit && nat_le q.base x.limit in
        any-map meets meets stripped Q (λ x. refl) ∙ none-passes meets (λ (x : DownstreamPort). are_apart x q) Q (λ x h. (apart-parts x q h).windows) all-apart

    below : (s : Switch) → switch_on S (bus_of q.id) ≡ Some s → port_fault_below p.version (map stripped Q) (option_map stripped (port_above Q s)) (text_of_port q) ≡ None
    unfolding port_fault_below
    below s e =
        let two = and_parts _ _ (order-fits s e) in
        let one = and_parts _ _ two.0 in
        let fits = fits-below (port_above Q s) q row.subordinate two.1 in
        skip _ _ _ (or-no _ _ (good-fields one.0 one.1) (no-vectors Q (bus_of q.id)))
        (skip _ _ _ within-limits
        (skip _ _ _ no-buses
        (skip _ _ _ fits.buses
        (skip _ _ _ no-windows
        (skip _ _ _ fits.window
        (skip _ _ _ fits.owner
        (skip _ _ _ (not-less _ _ row.controls) refl)))))))

    on-switch : (o : Option Switch) → switch_on S (bus_of q.id) ≡ o → is_some o ≡ true → port_fault_on (tree p S Q) (text_of_port q) o ≡ None
    on-switch None e h = absurd cc
    on-switch (Some s) e h =
        ap (λ (above : Option DownstreamPort). port_fault_below p.version (map stripped Q) above (text_of_port q)) (above-stripped Q s.above) ∙ below s e

    port-fits : is_port_of S q ≡ true → fault_of (tree p S Q) (port_says q) ≡ None
    unfolding port_fault
    port-fits on = on-switch (switch_on S (bus_of q.id)) refl on

    port-added : is_port_of S q ≡ true → after (tree p S Q) (port_says q ∷ []) ≡ Some (tree p S (Q ++ q ∷ []))
    port-added on =
        let whole : map stripped Q ++ stripped q ∷ [] ≡ map stripped (Q ++ q ∷ []) = sym (map-append stripped Q (q ∷ [])) in
        one-after (tree p S Q) (port_says q) (tree p S (Q ++ q ∷ [])) (port-fits on) (ap (λ (ports : List DownstreamPort). stage p S ports [] [] [] []) whole)

  -- ports one after another
  pub ports-added : (S later : List Switch) (Q front rest : List DownstreamPort) → p.switches ≡ S ++ later → p.ports ≡ Q ++ (front ++ rest) → list_all (hangs_from Q) S ≡ true → list_all (is_port_of S) front ≡ true
      → after (tree p S Q) (map port_says front) ≡ Some (tree p S (Q ++ front))
  ports-added S later Q [] rest switches_are ports_are hang on = ap (λ (ports : List DownstreamPort). Some (tree p S ports)) (sym (append-nil Q))
  ports-added S later Q (q ∷ front) rest switches_are ports_are hang on =
      let parts = and_parts (is_port_of S q) (list_all (is_port_of S) front) on in
      both-after (port_says q ∷ []) (map port_says front) (tree p S Q) (tree p S (Q ++ q ∷ [])) (Some (tree p S (Q ++ q ∷ front)))
      (port-added S later Q (front ++ rest) q switches_are ports_are hang parts.0)
      (ports-added S later (Q ++ q ∷ []) front rest switches_are (ports_are ∙ sym (append_assoc Q (q ∷ []) (front ++ rest))) (hang-more Q (q ∷ []) S hang) parts.1
      ∙ ap (λ (ports : List DownstreamPort). Some (tree p S ports)) (append_assoc Q (q ∷ []) front))
