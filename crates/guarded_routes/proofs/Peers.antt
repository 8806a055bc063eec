-- Where requests go that a port lets through to another port of its switch (PCIe 4.0, 6.12.1.1).
use Rattle.std.proofs.Common.{◌≡◌, ℕ, ◌+◌, ◌<◌, ◌≤◌, ◌==◌, ◌⊎◌, inl, inr, Bool, true, false, cond, ◌&&◌, not, List, [], ◌∷◌, Option, Some, None, refl, sym, ap, ◌∙◌, subst, arith, eq-eqb, ne_eqb}
use Rattle.std.specs.Prelude.{Contains}
use Rattle.std.specs.List.{list_any}
use Rattle.std.proofs.lemmas.Bool.{and_parts, cond-false, cond-true, eqb-true, false≢true}
use Rattle.fab_types.specs.Id.{bus_of}
use Rattle.layout.specs.Laws.{IsPlatform, keeps_home}
use Rattle.layout.specs.Rules.{is_let_abroad}
use Rattle.platform.specs.declared.parts.DownstreamPort.{DownstreamPort}
use Rattle.platform.specs.Egress.{direct_above, direct_among, direct_at, direct_to, holder_beside, let_to, lets_through, or_else}
use Rattle.platform.specs.Owners.{holds_address, holds_bus, is_function}
use Rattle.platform.specs.Platform.{Platform}
use Rattle.platform.specs.Tree.{id_below, is_on_bus, port_at, switch_on}
use Rattle.bridge.specs.declared.target.Target.TheVariants.{Address, Bus}
use Rattle.topology.proofs.Members.{cases_contained, found, found_alone, here, later, nothing_contained}
use Rattle.topology.proofs.OwnEnds.{one_id}
use Rattle.guarded_routes.proofs.Finds.{find_all, find_any, find_passes, some_is}
use Rattle.guarded_routes.proofs.Trees.{IsPort, above_if_any, bus_under, is_port, parent, stands}
use Rattle.guarded_routes.proofs.Below.{Under, lift, one_below, one_child, one_secondary, same_or_later}

-- ---- of any ports

module _ (ports : List DownstreamPort) (bus address : ℕ) where
  abbrev to : DownstreamPort → Option ℕ
  to port = direct_above ports bus address port

  none_of_two : (a b : Option ℕ) → a ≡ None → b ≡ None → or_else a b ≡ None
  none_of_two None b e f = f
  none_of_two (Some g) b e f = absurd cc

  neither : (a b : Option ℕ) → or_else a b ≡ None → (a ≡ None) × (b ≡ None)
  neither None b e = (refl, e)
  neither (Some g) b e = absurd cc

  -- none of them lets it through
  pub none_among : (xs : List DownstreamPort) → ((x : DownstreamPort) → Contains xs x → direct_above ports bus address x ≡ None) → direct_among ports bus address xs ≡ None
  none_among [] none = refl
  none_among (x ∷ xs) none = none_of_two (to x) (direct_among ports bus address xs) (none x (here x xs)) (none_among xs (λ y within. none y (later x y xs within)))

  pub each_none : (xs : List DownstreamPort) → direct_among ports bus address xs ≡ None → (x : DownstreamPort) → Contains xs x → direct_above ports bus address x ≡ None
  each_none [] e x within = absurd (nothing_contained x within)
  each_none (y ∷ ys) e x within =
      let both = neither (to y) (direct_among ports bus address ys) e in go both.0 (λ rest. each_none ys both.1 x rest) (cases_contained y x ys within)
    where
      go : to y ≡ None → (Contains ys x → direct_above ports bus address x ≡ None) → (y ≡ x) ⊎ Contains ys x → direct_above ports bus address x ≡ None
      go none rest (inl is) = subst (λ (z : DownstreamPort). direct_above ports bus address z ≡ None) is none
      go none rest (inr there) = rest there

  -- one of them does
  pub some_among : (peer : ℕ) (xs : List DownstreamPort) → direct_among ports bus address xs ≡ Some peer → (x : DownstreamPort) × Contains xs x × (direct_above ports bus address x ≡ Some peer)
  some_among peer [] e = absurd cc
  some_among peer (y ∷ ys) e = go (to y) refl e (λ rest. some_among peer ys rest)
    where
      go : (o : Option ℕ) → to y ≡ o → or_else o (direct_among ports bus address ys) ≡ Some peer
          → (direct_among ports bus address ys ≡ Some peer → (x : DownstreamPort) × Contains ys x × (direct_above ports bus address x ≡ Some peer)) → (x : DownstreamPort) × Contains (y ∷ ys) x × (direct_above ports bus address x ≡ Some peer)
      go None is e rest = let at = rest e in (at.0, later y at.0 ys at.1, at.2)
      go (Some g) is e rest = (y, here y ys, is ∙ e)

  -- where each lets it through to one function or to none
  pub one_among : (peer : ℕ) (xs : List DownstreamPort) → ((x : DownstreamPort) → Contains xs x → (direct_above ports bus address x ≡ None) ⊎ (direct_above ports bus address x ≡ Some peer)) → (y : DownstreamPort) → Contains xs y → direct_above ports bus address y ≡ Some peer
      → direct_among ports bus address xs ≡ Some peer
  one_among peer [] each y within is = absurd (nothing_contained y within)
  one_among peer (x ∷ xs) each y within is =
      go (each x (here x xs)) (cases_contained x y xs within) (λ rest. one_among peer xs (λ z there. each z (later x z xs there)) y rest is)
    where
      go : (to x ≡ None) ⊎ (to x ≡ Some peer) → (x ≡ y) ⊎ Contains xs y → (Contains xs y → direct_among ports bus address xs ≡ Some peer) → or_else (to x) (direct_among ports bus address xs) ≡ Some peer
      go (inr first) at rest = ap (λ (o : Option ℕ). or_else o (direct_among ports bus address xs)) first
      go (inl none) (inl same) rest = let both : None ≡ Some peer = sym none ∙ (ap to same ∙ is) in absurd cc
      go (inl none) (inr there) rest = ap (λ (o : Option ℕ). or_else o (direct_among ports bus address xs)) none ∙ rest there

-- ---- of the ports of a layout

-- the other port of its switch to which a port lets a request for this address through, with the function below that
pub record Peer (platform : Platform) (line : DownstreamPort) (address peer : ℕ) : Type 0 where
  pub port : DownstreamPort
  pub listed : IsPort platform port
  pub on : bus_of port.id ≡ bus_of line.id
  pub held : holds_address port address ≡ true
  pub outside : holds_address line address ≡ false
  pub beside : holder_beside platform.ports line address ≡ Some port
  pub lets : lets_through line port.id ≡ true
  pub below : peer ≡ id_below port
  pub owner : port.owner ≡ line.owner
  pub leads : is_function platform.functions (id_below port) ≡ true

not_true : (b : Bool) → not b ≡ true → b ≡ true → ⊥
not_true true h k = false≢true h
not_true false h k = false≢true k

-- what isn't let abroad stays at home
stays_home : (a b c d : Bool) → (a && b && c && not d) ≡ false → a ≡ true → b ≡ true → c ≡ true → d ≡ true
stays_home true true true true e x y z = refl
stays_home true true true false e x y z = absurd (false≢true (sym e))
stays_home true true false d e x y z = absurd (false≢true z)
stays_home true false c d e x y z = absurd (false≢true y)
stays_home false b c d e x y z = absurd (false≢true x)

module _ (platform : Platform) (laws : IsPlatform platform) where
  pub listed_port : (q : DownstreamPort) → Contains platform.ports q → IsPort platform q
  listed_port q within = found_alone (λ (p : DownstreamPort). p.id == q.id) platform.ports q within (eq-eqb q.id q.id refl) (λ p listed same. one_id platform laws p q listed within (eqb-true p.id q.id same))

  pub within_ports : (q : DownstreamPort) → IsPort platform q → Contains platform.ports q
  within_ports q port = (found (λ (p : DownstreamPort). p.id == q.id) platform.ports q port).0

  pub same_port : (p q : DownstreamPort) → IsPort platform p → IsPort platform q → p.id ≡ q.id → p ≡ q
  same_port p q port other same = some_is p q (sym port ∙ (ap (port_at platform.ports) same ∙ other))

  at_home : (line q : DownstreamPort) → IsPort platform line → IsPort platform q → is_on_bus (bus_of line.id) q ≡ true → (q.id ≡ line.id → ⊥) → lets_through line q.id ≡ true → (q.owner ≡ line.owner) × (is_function platform.functions (id_below q) ≡ true)
  at_home line q listed port on other lets =
      let home = and_parts (q.owner == line.owner) (is_function platform.functions (id_below q))
      (stays_home (is_on_bus (bus_of line.id) q) (not (q.id == line.id)) (lets_through line q.id) ((q.owner == line.owner) && is_function platform.functions (id_below q)) (not_abroad (is_let_abroad platform.functions line q) refl) on (ap not (ne_eqb q.id line.id other)) lets) in
      (eqb-true q.owner line.owner home.0, home.1)
    where
      keeps : keeps_home platform.functions platform.ports line ≡ true
      keeps = find_all (λ (r : DownstreamPort). r.id == line.id) (keeps_home platform.functions platform.ports) platform.ports line listed laws.vectors

      not_abroad : (b : Bool) → is_let_abroad platform.functions line q ≡ b → is_let_abroad platform.functions line q ≡ false
      not_abroad false is = is
      not_abroad true is = absurd (not_true (list_any (is_let_abroad platform.functions line) platform.ports) keeps (find_any (λ (r : DownstreamPort). r.id == q.id) (is_let_abroad platform.functions line) platform.ports q port is))

  pub peer_at : (line : DownstreamPort) → IsPort platform line → (address peer : ℕ) → direct_at platform.ports address line ≡ Some peer → Peer platform line address peer
  peer_at line listed address peer e = within (holds_address line address) refl e
    where
      of_port : (q : DownstreamPort) (lets : Bool) → holds_address line address ≡ false → holder_beside platform.ports line address ≡ Some q → lets_through line q.id ≡ lets → cond lets (Some (id_below q)) None ≡ Some peer → Peer platform line address peer
      of_port q false out beside is e = absurd cc
      of_port q true out beside is e =
          let port = is_port platform laws (λ (other : DownstreamPort). is_on_bus (bus_of line.id) other && holds_address other address) q beside in
          let passes = and_parts (is_on_bus (bus_of line.id) q) (holds_address q address) (find_passes (λ (other : DownstreamPort). is_on_bus (bus_of line.id) other && holds_address other address) platform.ports q beside) in
          let home = at_home line q listed port passes.0 (λ same. absurd (false≢true (sym out ∙ (ap (λ (r : DownstreamPort). holds_address r address) (sym (same_port q line port listed same)) ∙ passes.1)))) is in
          record {
            port = q;
            listed = port;
            on = eqb-true (bus_of q.id) (bus_of line.id) passes.0;
            held = passes.1;
            outside = out;
            beside = beside;
            lets = is;
            below = sym (some_is (id_below q) peer e);
            owner = home.0;
            leads = home.1;
          }

      of_holder : (o : Option DownstreamPort) → holds_address line address ≡ false → holder_beside platform.ports line address ≡ o → let_to line o ≡ Some peer → Peer platform line address peer
      of_holder None out beside e = absurd cc
      of_holder (Some q) out beside e = of_port q (lets_through line q.id) out beside refl e

      within : (b : Bool) → holds_address line address ≡ b → cond b None (let_to line (holder_beside platform.ports line address)) ≡ Some peer → Peer platform line address peer
      within true out e = absurd cc
      within false out e = of_holder (holder_beside platform.ports line address) out refl e

  -- ---- above and below such a port

  same_parent : (p q : DownstreamPort) → bus_of p.id ≡ bus_of q.id → parent platform p ≡ parent platform q
  unfolding parent
  same_parent p q e = ap (λ (bus : ℕ). above_if_any platform.ports (switch_on platform.switches bus)) e

  -- what lies above a port lies above the other ports of its switch
  sibling_under : (line q : DownstreamPort) → IsPort platform q → parent platform line ≡ parent platform q → {s o : Option DownstreamPort} (x : DownstreamPort) → IsPort platform x → parent platform x ≡ s → Under platform line o → o ≡ Some x → Under platform q s
  sibling_under line q other same x port e Under.Here is = Under.Step other (sym same ∙ (ap (parent platform) (some_is line x is) ∙ e)) Under.Here
  sibling_under line q other same x port e (Under.Step {q = y} further f u) is = Under.Step port e (sibling_under line q other same y further (f ∙ is) u refl)

  -- so it has in its window what one of those has, and lets no request for that through
  above_none : (line q r : DownstreamPort) → IsPort platform q → bus_of q.id ≡ bus_of line.id → (address : ℕ) → holds_address q address ≡ true → (line ≡ r → ⊥) → {o : Option DownstreamPort} → Under platform line o → o ≡ Some r → direct_at platform.ports address r ≡ None
  above_none line q r port on address held not Under.Here is = absurd (not (some_is line r is))
  above_none line q r port on address held not {o} (Under.Step {q = y} further e u) is =
      let above : Under platform q o = sibling_under line q port (same_parent line q (sym on)) y further e u refl in
      cond-true (holds_address r address) None (let_to r (holder_beside platform.ports r address)) ((lift platform laws port above r is).holds (Address address) held)

  -- a request that comes up to such a port, and that none below it lets through, goes to this function
  pub direct_is : (function : ℕ) (line : DownstreamPort) → IsPort platform line → (address peer : ℕ) → holds_bus line (bus_of function) ≡ true → direct_at platform.ports address line ≡ Some peer
      → ((port : DownstreamPort) → IsPort platform port → holds_bus port (bus_of function) ≡ true → line.secondary < port.secondary → direct_at platform.ports address port ≡ None) → direct_to platform.ports function address ≡ Some peer
  direct_is function line listed address peer held e passed =
      one_among platform.ports bus address peer platform.ports (λ x within. each x (listed_port x within) (holds_bus x bus) refl) line (within_ports line listed) (cond-true (holds_bus line bus) (direct_at platform.ports address line) None held ∙ e)
    where
      bus : ℕ
      bus = bus_of function

      p : Peer platform line address peer
      p = peer_at line listed address peer e

      same : (x : DownstreamPort) → x ≡ line → direct_at platform.ports address x ≡ Some peer
      same x is = subst (λ (y : DownstreamPort). direct_at platform.ports address y ≡ Some peer) (sym is) e

      by : (x : DownstreamPort) → IsPort platform x → holds_bus x (bus_of function) ≡ true → Under platform x (Some line) ⊎ Under platform line (Some x) → (direct_at platform.ports address x ≡ None) ⊎ (direct_at platform.ports address x ≡ Some peer)
      by x port at (inl u) = below (same_or_later platform laws port u line refl)
        where
          below : (x ≡ line) ⊎ (line.secondary + 1 < x.secondary) → (direct_at platform.ports address x ≡ None) ⊎ (direct_at platform.ports address x ≡ Some peer)
          below (inl is) = inr (same x is)
          below (inr less) = inl (passed x port at (omega arith))
      by x port at (inr u) = above (same_or_later platform laws listed u x refl)
        where
          above : (line ≡ x) ⊎ (x.secondary + 1 < line.secondary) → (direct_at platform.ports address x ≡ None) ⊎ (direct_at platform.ports address x ≡ Some peer)
          above (inl is) = inr (same x (sym is))
          above (inr less) = inl (above_none line p.port x p.listed p.on address p.held (λ is. let one = ap (λ (r : DownstreamPort). r.secondary) is in absurd (omega (arith, less, one))) u refl)

      each : (x : DownstreamPort) → IsPort platform x → (b : Bool) → holds_bus x (bus_of function) ≡ b → (direct_above platform.ports (bus_of function) address x ≡ None) ⊎ (direct_above platform.ports (bus_of function) address x ≡ Some peer)
      each x port false at = inl (cond-false (holds_bus x (bus_of function)) (direct_at platform.ports address x) None at)
      each x port true at =
          subst (λ (o : Option ℕ). (o ≡ None) ⊎ (o ≡ Some peer)) (sym (cond-true (holds_bus x (bus_of function)) (direct_at platform.ports address x) None at))
          (by x port at (one_below platform laws line x listed port (Bus (bus_of function)) held at))

  -- ---- at most one port above a function lets a request through to one function

  pub one_line : (one other : DownstreamPort) → IsPort platform one → IsPort platform other → (bus address address' peer : ℕ) → holds_bus one bus ≡ true → holds_bus other bus ≡ true → Peer platform one address peer → Peer platform other address' peer → one ≡ other
  one_line one other listed also bus address address' peer held held' p q =
      let same_id : id_below p.port ≡ id_below q.port = sym p.below ∙ q.below in
      let secondary : p.port.secondary ≡ q.port.secondary = omega (arith, same_id) in
      let same : p.port ≡ q.port = one_secondary platform laws p.port q.port p.listed q.listed secondary in
      one_child platform laws one other listed also (same_parent one other (sym p.on ∙ (ap (λ (r : DownstreamPort). bus_of r.id) same ∙ q.on))) (Bus bus) held held'

  pub some_line : (function address peer : ℕ) → direct_to platform.ports function address ≡ Some peer → (line : DownstreamPort) × IsPort platform line × (holds_bus line (bus_of function) ≡ true) × (direct_at platform.ports address line ≡ Some peer)
  some_line function address peer e =
      let at = some_among platform.ports (bus_of function) address peer platform.ports e in
      go at.0 (listed_port at.0 at.1) (holds_bus at.0 (bus_of function)) refl at.2
    where
      go : (line : DownstreamPort) → IsPort platform line → (b : Bool) → holds_bus line (bus_of function) ≡ b → cond b (direct_at platform.ports address line) None ≡ Some peer
          → (line : DownstreamPort) × IsPort platform line × (holds_bus line (bus_of function) ≡ true) × (direct_at platform.ports address line ≡ Some peer)
      go line port false held e = absurd cc
      go line port true held e = (line, port, held, e)

  -- ---- where none does

  pub none_direct : (function address : ℕ) → ((port : DownstreamPort) → IsPort platform port → holds_bus port (bus_of function) ≡ true → direct_at platform.ports address port ≡ None) → direct_to platform.ports function address ≡ None
  none_direct function address none = none_among platform.ports (bus_of function) address platform.ports (λ x within. each x (listed_port x within) (holds_bus x (bus_of function)) refl)
    where
      each : (x : DownstreamPort) → IsPort platform x → (b : Bool) → holds_bus x (bus_of function) ≡ b → direct_above platform.ports (bus_of function) address x ≡ None
      each x port false at = cond-false (holds_bus x (bus_of function)) (direct_at platform.ports address x) None at
      each x port true at = cond-true (holds_bus x (bus_of function)) (direct_at platform.ports address x) None at ∙ none x port at

  -- ---- one port further up

  -- what lies above a port lies above the one directly above it
  parent_over : (line : DownstreamPort) {s o : Option DownstreamPort} (x : DownstreamPort) → IsPort platform x → parent platform x ≡ s → Under platform line o → o ≡ Some x → (r : DownstreamPort) → s ≡ Some r
      → (a : DownstreamPort) × (parent platform line ≡ Some a) × Under platform a (Some r)
  parent_over line x port e Under.Here is r there = (r, ap (parent platform) (some_is line x is) ∙ (e ∙ there), Under.Here)
  parent_over line x port e (Under.Step {q = y} further f u) is r there =
      let above = parent_over line y further (f ∙ is) u refl x refl in (above.0, above.1, Under.Step port (e ∙ there) above.2)

  above_parent : (line r : DownstreamPort) → IsPort platform line → (line ≡ r → ⊥) → {o : Option DownstreamPort} → Under platform line o → o ≡ Some r → r.secondary ≤ bus_under (parent platform line)
  above_parent line r listed not Under.Here is = absurd (not (some_is line r is))
  above_parent line r listed not (Under.Step {q = y} further e u) is =
      let above = parent_over line y further e u refl r is in
      let order = (lift platform laws ((stands platform laws line listed).inside above.0 above.1).0 above.2 r refl).order in
      subst (λ (o : Option DownstreamPort). r.secondary ≤ bus_under o) (sym above.1) order

  -- of the ports above a bus those behind the switch of such a port are it, and those below it
  pub passed_on : (line port : DownstreamPort) → IsPort platform line → IsPort platform port → (bus : ℕ) → holds_bus line bus ≡ true → holds_bus port bus ≡ true → bus_under (parent platform line) < port.secondary → (port ≡ line) ⊎ (line.secondary < port.secondary)
  passed_on line port listed also bus held held' behind = go (one_below platform laws line port listed also (Bus bus) held held')
    where
      go : Under platform port (Some line) ⊎ Under platform line (Some port) → (port ≡ line) ⊎ (line.secondary < port.secondary)
      go (inl u) = below (same_or_later platform laws also u line refl)
        where
          below : (port ≡ line) ⊎ (line.secondary + 1 < port.secondary) → (port ≡ line) ⊎ (line.secondary < port.secondary)
          below (inl is) = inl is
          below (inr less) = inr (omega arith)
      go (inr u) = above (same_or_later platform laws listed u port refl)
        where
          above : (line ≡ port) ⊎ (port.secondary + 1 < line.secondary) → (port ≡ line) ⊎ (line.secondary < port.secondary)
          above (inl is) = inl (sym is)
          above (inr less) =
              let most = above_parent line port listed (λ is. let one = ap (λ (r : DownstreamPort). r.secondary) is in absurd (omega (arith, less, one))) u refl in
              absurd (omega (arith, most, behind))
