-- The numbers of a platform have room in the fields of its lines.
use Rattle.std.proofs.Common.{◌≡◌, ℕ, ◌+◌, ◌^◌, ◌==◌, ◌≤◌, ◌<◌, Bool, true, false, cond, refl, ap, sym, subst, ◌∙◌, List, [], ◌∷◌, ◌++◌, Option, Some, None, arith, append_assoc, eqb-true}
use Rattle.std.specs.Prelude.{◌&&◌, ◌||◌, nat_le, nat_lt, MatchOption, map}
use Rattle.std.specs.List.{flat_map, list_all}
use Rattle.std.proofs.lemmas.Bool.{and_from, and_parts, lt-ltb}
use Rattle.std.proofs.lemmas.List.{map-append}
use Rattle.fab_types.specs.Controls.{bits_of}
use Rattle.fab_types.specs.Id.{bus_of, id_of}
use Rattle.platform.specs.declared.parts.LayoutVersion.{LayoutVersion}
use Rattle.platform.specs.declared.parts.LayoutVersion.TheVariants.{One, Two}
use Rattle.platform.specs.declared.parts.Switch.{Switch}
use Rattle.platform.specs.declared.parts.DownstreamPort.{DownstreamPort}
use Rattle.platform.specs.declared.parts.EndpointFunction.{EndpointFunction}
use Rattle.platform.specs.declared.parts.MapTarget.{MapTarget}
use Rattle.platform.specs.declared.parts.MapTarget.TheVariants as mapped
use Rattle.platform.specs.declared.parts.Mapping.{Mapping}
use Rattle.platform.specs.declared.parts.BudgetLine.{BudgetLine}
use Rattle.platform.specs.declared.parts.CreditLine.{CreditLine}
use Rattle.platform.specs.Owners.{is_function, owns_port}
use Rattle.platform.specs.Platform.{Platform}
use Rattle.platform.specs.Tree.{id_below, is_switch, is_taken, port_above, port_at, port_leading_to, switch_on}
use Rattle.layout_line.specs.declared.lines.LayoutLine.TheVariants as line
use Rattle.layout.specs.Laws.{IsPlatform, ends_low, has_domain, is_good_budget, is_good_credit, is_hung, is_hung_below, is_hung_by, is_inside, is_known, is_known_map, is_nested, is_nested_on, is_placed, is_placed_below}
use Rattle.layout.specs.Rules.{is_within, last_controls}
use Rattle.text_writers.specs.LineRanges.{IsInRange, IsTarget}
use Rattle.text_writers.specs.HasLines.{HasLines, has_map_line, has_port_line, has_vector_line}
use Rattle.text_writers.specs.PlatformLines.{budget_says, credit_says, egress_lines, frames_lines, function_says, lines_of, map_says, part_lines, parts_or, port_says, ports_before, split_behind, switch_or_root, switch_says, target_says, tree_lines, vector_lines}
use Rattle.text_writers.proofs.layouts.After.{AreInRange, in-range-both}
use Rattle.text_writers.proofs.layouts.Each.{all-found, any-and, each-in-range, first-in-range, last-in-range, one-in-range, tests-all}
use Rattle.text_writers.proofs.layouts.Lists.{all-at, find-passes}
use Rattle.text_writers.proofs.layouts.Rules.{IsPortRow, le-from, le-true, lt-from, port-row}
use Rattle.text_writers.proofs.layouts.Splits.{IsSplit, split-is}

-- ---- parts

few-controls : (version : LayoutVersion) → last_controls version ≤ 63
few-controls One = omega arith
few-controls Two = omega arith

-- a port's ID and the buses below it have their bits
abbrev is_small : DownstreamPort → Bool
is_small port = nat_lt port.id 65536 && nat_le port.secondary 255

bus-first : (above : Option DownstreamPort) (port : DownstreamPort) → is_inside above port ≡ true → nat_lt (bus_of port.id) port.secondary ≡ true
bus-first None port h = h
bus-first (Some above) port h = (and_parts _ _ (and_parts _ _ (and_parts _ _ h).0).0).0

record HasOrder (port : DownstreamPort) : Type 0 where
  buses : port.secondary ≤ port.subordinate
  window : port.base < port.limit
  behind : bus_of port.id < port.secondary

has-order : (ports : List DownstreamPort) (on : Option Switch) (port : DownstreamPort) → is_nested_on ports on port ≡ true → HasOrder port
has-order ports None port h = absurd cc
has-order ports (Some s) port h =
    let two = and_parts _ _ h in
    let one = and_parts _ _ two.0 in
    record { buses = le-from _ _ one.0; window = lt-from _ _ one.1; behind = lt-from _ _ (bus-first (port_above ports s) port two.1) }

module _ (p : Platform) (is : IsPlatform p) (has : HasLines p) where
  -- ---- ports

  module _ (front : List DownstreamPort) (port : DownstreamPort) (rest : List DownstreamPort) (e : p.ports ≡ front ++ port ∷ rest) where
    at : (test : DownstreamPort → Bool) → list_all test p.ports ≡ true → test port ≡ true
    at test h = all-at test front port rest (let P : List DownstreamPort → Type 0 = λ ports. list_all test ports ≡ true in subst P e h)

    row : IsPortRow p.version port
    row = port-row p.version port (at (has_port_line p.version) has.ports)

    order : HasOrder port
    order = has-order p.ports (switch_on p.switches (bus_of port.id)) port (at (is_nested p.switches p.ports) is.nested)

    id-small : port.id < 65536
    id-small = let last = le-from port.subordinate 255 row.subordinate in omega (arith, last, order.buses, order.behind)

    secondary-small : port.secondary ≤ 255
    secondary-small = let last = le-from port.subordinate 255 row.subordinate in omega (arith, last, order.buses)

    small : is_small port ≡ true
    small = and_from _ _ (lt-ltb port.id 65536 id-small) (le-true port.secondary 255 secondary-small)

    port-range : IsInRange (port_says port)
    port-range =
        let last = le-from port.subordinate 255 row.subordinate in
        let low = lt-from port.limit (2 ^ 32) (at ends_low is.windows) in
        let bits = le-from (bits_of port.controls) (last_controls p.version) row.controls in
        let owner = le-from port.owner 31 (and_parts _ _ (at has_domain is.owners)).1 in
        record {
          id = omega (arith, id-small);
          secondary = omega (arith, secondary-small);
          subordinate = omega (arith, last);
          base = omega (arith, low, order.window);
          limit = omega (arith, low);
          controls = omega (arith, bits, few-controls p.version);
          owner = omega (arith, owner);
        }

    vector-range : (o : Option ℕ) → port.egress_vector ≡ o → AreInRange (egress_lines port.id o)
    vector-range None v = tt
    vector-range (Some vector) v =
        let kept : has_vector_line p.version port.controls (Some vector) ≡ true = let P : Option ℕ → Type 0 = λ o. has_vector_line p.version port.controls o ≡ true in subst P v row.vector in
        let low = lt-from vector (2 ^ 32) (and_parts _ _ kept).1 in
        ((omega (arith, id-small), omega (arith, low)), tt)

  smalls : list_all is_small p.ports ≡ true
  smalls = tests-all is_small p.ports small

  -- ---- IDs below ports

  below-small : (port : DownstreamPort) (id : ℕ) → is_small port ≡ true → id ≡ id_below port → id < 65536
  below-small port id h e = let low = le-from port.secondary 255 (and_parts _ _ h).1 in omega (arith, low, e)

  hung-small : (o : Option DownstreamPort) (s : Switch) → ((port : DownstreamPort) → o ≡ Some port → is_small port ≡ true) → is_hung_below o s ≡ true → s.id < 65536
  hung-small None s known h = absurd cc
  hung-small (Some port) s known h = below-small port s.id (known port refl) (eqb-true s.id (id_below port) (and_parts _ _ h).0)

  switch-small : (above : Option ℕ) (s : Switch) → is_hung_by p.ports above s ≡ true → s.id < 65536
  switch-small None s h = let root : s.id ≡ id_of 1 0 0 = eqb-true s.id (id_of 1 0 0) h in omega (arith, root)
  switch-small (Some above) s h = hung-small (port_at p.ports above) s (λ port e. all-found (λ (x : DownstreamPort). x.id == above) is_small p.ports port e smalls) h

  above-small : (o : Option DownstreamPort) (above : ℕ) (s : Switch) → port_at p.ports above ≡ o → is_hung_below o s ≡ true → above < 65536
  above-small None above s e h = absurd cc
  above-small (Some port) above s e h =
      let same : port.id ≡ above = eqb-true port.id above (find-passes (λ (x : DownstreamPort). x.id == above) p.ports port e) in
      let low = lt-from port.id 65536 (and_parts _ _ (all-found (λ (x : DownstreamPort). x.id == above) is_small p.ports port e smalls)).0 in
      omega (arith, same, low)

  switch-range : (above : Option ℕ) (s : Switch) → is_hung_by p.ports above s ≡ true → IsInRange (switch_or_root s.id above)
  switch-range None s h = let low = switch-small None s h in omega (arith, low)
  switch-range (Some above) s h = let low = switch-small (Some above) s h in let over = above-small (port_at p.ports above) above s refl h in (omega (arith, low), omega (arith, over))

  abbrev is_small_switch : Switch → Bool
  is_small_switch s = nat_lt s.id 65536

  small-switches : list_all is_small_switch p.switches ≡ true
  small-switches =
      tests-all is_small_switch p.switches
      (λ front s rest e. lt-ltb s.id 65536 (switch-small s.above s (all-at (is_hung p.ports) front s rest (let P : List Switch → Type 0 = λ switches. list_all (is_hung p.ports) switches ≡ true in subst P e is.hung))))

  -- ---- functions

  record HasRoom (f : EndpointFunction) : Type 0 where
    id : f.id < 65536
    bar : f.bar < 2 ^ 32

  placed-room : (o : Option DownstreamPort) (f : EndpointFunction) → port_leading_to p.ports f.id ≡ o → is_placed_below o f ≡ true → HasRoom f
  placed-room None f e h = absurd cc
  placed-room (Some port) f e h =
      let same : id_below port ≡ f.id = eqb-true (id_below port) f.id (find-passes (λ (x : DownstreamPort). id_below x == f.id) p.ports port e) in
      let ends = le-from (f.bar + 4095) port.limit (and_parts _ _ (and_parts _ _ h).1).1 in
      let low = lt-from port.limit (2 ^ 32) (all-found (λ (x : DownstreamPort). id_below x == f.id) ends_low p.ports port e is.windows) in
      record { id = below-small port f.id (all-found (λ (x : DownstreamPort). id_below x == f.id) is_small p.ports port e smalls) (sym same); bar = omega (arith, ends, low) }

  function-room : (front : List EndpointFunction) (f : EndpointFunction) (rest : List EndpointFunction) → p.functions ≡ front ++ f ∷ rest → HasRoom f
  function-room front f rest e =
      placed-room (port_leading_to p.ports f.id) f refl (all-at (is_placed p.ports) front f rest (let P : List EndpointFunction → Type 0 = λ functions. list_all (is_placed p.ports) functions ≡ true in subst P e is.placed))

  abbrev is_small_function : EndpointFunction → Bool
  is_small_function f = nat_lt f.id 65536

  small-functions : list_all is_small_function p.functions ≡ true
  small-functions = tests-all is_small_function p.functions (λ front f rest e. lt-ltb f.id 65536 (function-room front f rest e).id)

  known-small : (id : ℕ) → is_function p.functions id ≡ true → id < 65536
  known-small id h =
      let both = any-and (λ (f : EndpointFunction). f.id == id) is_small_function p.functions h small-functions in
      let same : both.it.id ≡ id = eqb-true both.it.id id both.one in
      let low = lt-from both.it.id 65536 both.other in
      omega (arith, same, low)

  known-switch : (id : ℕ) → is_switch p.switches id ≡ true → id < 65536
  known-switch id h =
      let both = any-and (λ (s : Switch). s.id == id) is_small_switch p.switches h small-switches in
      let same : both.it.id ≡ id = eqb-true both.it.id id both.one in
      let low = lt-from both.it.id 65536 both.other in
      omega (arith, same, low)

  taken-small : (id : ℕ) → is_taken p.switches p.functions id ≡ true → id < 65536
  taken-small id h = go (is_switch p.switches id) refl h
    where
      go : (b : Bool) → is_switch p.switches id ≡ b → (b || is_function p.functions id) ≡ true → id < 65536
      go true e h = known-switch id e
      go false e h = known-small id h

  -- ---- tables

  target-range : (t : MapTarget) → is_known p.functions p.frames t ≡ true → IsTarget (target_says t)
  target-range (mapped.Frame frame) h = let low = lt-from frame p.frames h in omega (arith, low, is.limits.frames)
  target-range (mapped.Peer peer) h = let low = known-small peer h in omega (arith, low)

  map-range : (front : List Mapping) (m : Mapping) (rest : List Mapping) → p.maps ≡ front ++ m ∷ rest → IsInRange (map_says m)
  map-range front m rest e =
      let known = and_parts _ _ (all-at (is_known_map p.functions p.frames) front m rest (let P : List Mapping → Type 0 = λ maps. list_all (is_known_map p.functions p.frames) maps ≡ true in subst P e is.known)) in
      let row = and_parts _ _ (all-at has_map_line front m rest (let P : List Mapping → Type 0 = λ maps. list_all has_map_line maps ≡ true in subst P e has.maps)) in
      let low = known-small m.requester known.0 in
      record { requester = omega (arith, low); page = lt-from m.page (2 ^ 52) row.0; target = target-range m.target known.1; rights = row.1 }

  budget-range : (front : List BudgetLine) (b : BudgetLine) (rest : List BudgetLine) → p.budgets ≡ front ++ b ∷ rest → IsInRange (budget_says b)
  budget-range front b rest e =
      let owns = all-at (λ (x : BudgetLine). owns_port p.ports x.domain) front b rest (let P : List BudgetLine → Type 0 = λ budgets. list_all (λ (x : BudgetLine). owns_port p.ports x.domain) budgets ≡ true in subst P e has.owners) in
      let good = all-at is_good_budget front b rest (let P : List BudgetLine → Type 0 = λ budgets. list_all is_good_budget budgets ≡ true in subst P e is.limits.budgets) in
      let both = any-and (λ (x : DownstreamPort). x.owner == b.domain) has_domain p.ports owns is.owners in
      let same : both.it.owner ≡ b.domain = eqb-true both.it.owner b.domain both.one in
      let few = le-from both.it.owner 31 (and_parts _ _ both.other).1 in
      let most = le-from b.begins 16384 (and_parts _ _ good).1 in
      (omega (arith, same, few), omega (arith, most))

  few-of : (least most n : ℕ) → is_within least most n ≡ true → most ≤ 2047 → n < 10 ^ 9
  few-of least most n h few = let up = le-from n most (and_parts _ _ h).1 in omega (arith, up, few)

  credit-range : (front : List CreditLine) (c : CreditLine) (rest : List CreditLine) → p.credits ≡ front ++ c ∷ rest → IsInRange (credit_says c)
  credit-range front c rest e =
      let taken = all-at (λ (x : CreditLine). is_taken p.switches p.functions x.id) front c rest (let P : List CreditLine → Type 0 = λ credits. list_all (λ (x : CreditLine). is_taken p.switches p.functions x.id) credits ≡ true in subst P e has.links) in
      let good = all-at is_good_credit front c rest (let P : List CreditLine → Type 0 = λ credits. list_all is_good_credit credits ≡ true in subst P e is.limits.credits) in
      let six = and_parts _ _ good in
      let five = and_parts _ _ six.0 in
      let four = and_parts _ _ five.0 in
      let three = and_parts _ _ four.0 in
      let two = and_parts _ _ three.0 in
      let low = taken-small c.id taken in
      record {
        id = omega (arith, low);
        posted_headers = few-of 1 127 c.limits.posted_headers two.0 (omega arith);
        posted_data = few-of 16 2047 c.limits.posted_data two.1 (omega arith);
        non_posted_headers = few-of 1 127 c.limits.non_posted_headers three.1 (omega arith);
        non_posted_data = few-of 16 2047 c.limits.non_posted_data four.1 (omega arith);
        completion_headers = few-of 1 127 c.limits.completion_headers five.1 (omega arith);
        completion_data = few-of 16 2047 c.limits.completion_data six.1 (omega arith);
      }

  -- ---- the tree

  ports-whole : (above : Option ℕ) (qs : List DownstreamPort) → qs ≡ (ports_before above qs).0 ++ (ports_before above qs).1
  ports-whole None qs = refl
  ports-whole (Some above) qs = go (split_behind above qs) (split-is above qs)
    where
      go : (o : Option (List DownstreamPort × List DownstreamPort)) → MatchOption o (port_at qs above ≡ None) (λ parts. IsSplit above qs parts) → qs ≡ (parts_or qs o).0 ++ (parts_or qs o).1
      go None h = refl
      go (Some parts) h = h.whole

  tree-range : (ss S : List Switch) (qs : List DownstreamPort) → p.switches ≡ S ++ ss → AreInRange (map port_says qs) → AreInRange (tree_lines ss qs)
  tree-range [] S qs e ports = ports
  tree-range (s ∷ ss) S qs e ports =
      let parts = ports_before s.above qs in
      let both : AreInRange (map port_says parts.0 ++ map port_says parts.1) = subst AreInRange (ap (map port_says) (ports-whole s.above qs) ∙ map-append port_says parts.0 parts.1) ports in
      let here : IsInRange (switch_says s) = switch-range s.above s (all-at (is_hung p.ports) S s ss (let P : List Switch → Type 0 = λ switches. list_all (is_hung p.ports) switches ≡ true in subst P e is.hung)) in
      in-range-both (map port_says parts.0) (switch_says s ∷ tree_lines ss parts.1) (first-in-range (map port_says parts.0) (map port_says parts.1) both)
      (here, tree-range ss (S ++ s ∷ []) parts.1 (e ∙ sym (append_assoc S (s ∷ []) ss)) (last-in-range (map port_says parts.0) (map port_says parts.1) both))

  -- ---- the whole

  frames-range : (none : Bool) → AreInRange (cond none [] (line.Frames p.frames ∷ []))
  frames-range true = tt
  frames-range false = (omega (arith, is.limits.frames), tt)

  pub whole-in-range : AreInRange (lines_of p)
  whole-in-range =
      in-range-both (frames_lines p.frames) _ (frames-range (p.frames == 0))
      (in-range-both (tree_lines p.switches p.ports) _ (tree-range p.switches [] p.ports refl (one-in-range port_says p.ports port-range))
      (in-range-both (map function_says p.functions) (part_lines p) (one-in-range function_says p.functions (λ front f rest e. ((function-room front f rest e).id, (function-room front f rest e).bar)))
      (in-range-both (map map_says p.maps) _ (one-in-range map_says p.maps map-range)
      (in-range-both (map budget_says p.budgets) _ (one-in-range budget_says p.budgets budget-range)
      (in-range-both (map credit_says p.credits) (flat_map vector_lines p.ports) (one-in-range credit_says p.credits credit-range)
      (each-in-range vector_lines p.ports (λ front port rest e. vector-range front port rest e port.egress_vector refl)))))))
