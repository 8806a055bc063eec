-- The functions and switches of a guarded layout in its tree, and what the lower end of a link has below it.
use Rattle.std.proofs.Common.{◌≡◌, ℕ, ◌+◌, ◌%◌, ◌<◌, ◌≤◌, ◌==◌, ◌⊎◌, inl, inr, Bool, true, false, ◌&&◌, ◌||◌, not, Option, Some, None, List, option_map, option_and_then, refl, sym, ap, ◌∙◌, subst, arith, nat_le}
use Rattle.std.specs.List.{find, list_any}
use Rattle.std.proofs.lemmas.Bool.{and_parts, leb-true, eqb-true, eq-eqb, false≢true}
use Rattle.fab_types.specs.Id.{bus_of, id_of}
use Rattle.platform.specs.declared.parts.EndpointFunction.{EndpointFunction}
use Rattle.platform.specs.declared.parts.DownstreamPort.{DownstreamPort}
use Rattle.platform.specs.declared.parts.Switch.{Switch}
use Rattle.layout.specs.Laws.{IsPlatform, is_hung, is_hung_by, is_hung_below, is_no_switch, is_placed, is_placed_below}
use Rattle.platform.specs.Owners.{first_port, holds_bus, is_function}
use Rattle.platform.specs.Platform.{Platform}
use Rattle.platform.specs.Reach.{holds_bus_if_any}
use Rattle.platform.specs.Tree.{id_below, internal_bus, is_switch, is_taken, port_above, port_at, port_leading_to, switch_on}
use Rattle.bridge.specs.declared.target.Target.{Target}
use Rattle.bridge.specs.declared.target.Target.TheVariants.{Bus}
use Rattle.bridge.specs.Routes.{holds_target}
use Rattle.guarded_routes.specs.Guarded.{IsFunctionOf, IsGuarded, is_below, top_id}
use Rattle.guarded_routes.proofs.Finds.{any_found, find_all, find_any, find_passes, some, some_is}
use Rattle.guarded_routes.proofs.Trees.{IsPort, is_port, parent, switch_of}
use Rattle.guarded_routes.proofs.Below.{Under, holds_own, lift, not_first, one_below, one_secondary, same_or_later, under_root}

-- a switch directly below a port has that port's first bus; without one it is the top one
pub hung_id : (ports : List DownstreamPort) (above : Option ℕ) (switch : Switch) (a : DownstreamPort) → is_hung_by ports above switch ≡ true → option_and_then (λ id. port_at ports id) above ≡ Some a → switch.id ≡ id_below a
hung_id ports None switch a hung is = absurd cc
hung_id ports (Some id) switch a hung is = go (port_at ports id) hung is
  where
    go : (found : Option DownstreamPort) → is_hung_below found switch ≡ true → found ≡ Some a → switch.id ≡ id_below a
    go None hung is = absurd (false≢true hung)
    go (Some b) hung is = eqb-true switch.id (id_below b) (and_parts (switch.id == id_below b) _ hung).0 ∙ ap id_below (some_is b a is)

pub hung_top : (ports : List DownstreamPort) (above : Option ℕ) (switch : Switch) → is_hung_by ports above switch ≡ true → option_and_then (λ id. port_at ports id) above ≡ None → switch.id ≡ top_id
hung_top ports None switch hung is = eqb-true switch.id (id_of 1 0 0) hung
hung_top ports (Some id) switch hung is = go (port_at ports id) hung is
  where
    go : (found : Option DownstreamPort) → is_hung_below found switch ≡ true → found ≡ None → switch.id ≡ top_id
    go None hung is = absurd (false≢true hung)
    go (Some b) hung is = absurd cc

-- what stands at the lower end of a link is below the host's root port, or below a port
pub data At (platform : Platform) (lower : ℕ) : Option DownstreamPort → Type 0 where
  Top : lower ≡ top_id → At platform lower None
  Over : (p : DownstreamPort) → IsPort platform p → lower ≡ id_below p → At platform lower (Some p)

-- the first port of a function, and the function's line
pub record First (platform : Platform) (domain function : ℕ) : Type 0 where
  pub port : DownstreamPort
  pub is : first_port platform.ports function ≡ Some port
  pub listed : IsPort platform port
  pub below : function ≡ id_below port
  pub owner : port.owner ≡ domain
  pub line : EndpointFunction
  pub found : find (λ (line : EndpointFunction). line.id == function) platform.functions ≡ Some line
  pub whole : line.bar % 4096 ≡ 0
  pub base : port.base ≤ line.bar
  pub limit : line.bar + 4095 ≤ port.limit

or_true : (a b : Bool) → (a || b) ≡ true → (a ≡ true → ⊥) → b ≡ true
or_true true b h n = absurd (n refl)
or_true false b h n = h

or_left : (a b : Bool) → a ≡ true → (a || b) ≡ true
or_left true b h = refl
or_left false b h = absurd cc

or_right : (a b : Bool) → b ≡ true → (a || b) ≡ true
or_right true b h = refl
or_right false b h = h

not_both : (b : Bool) → not b ≡ true → b ≡ true → ⊥
not_both true h k = false≢true h
not_both false h k = false≢true k

module _ (platform : Platform) (laws : IsPlatform platform) where
  above_function : (o : Option DownstreamPort) (line : EndpointFunction) (function domain : ℕ) → port_leading_to platform.ports line.id ≡ o → is_placed_below o line ≡ true → line.id ≡ function → find (λ (line : EndpointFunction). line.id == function) platform.functions ≡ Some line
      → (q : DownstreamPort) → first_port platform.ports function ≡ Some q → q.owner ≡ domain → First platform domain function
  above_function None line function domain over placed same found q first owner = absurd (false≢true placed)
  above_function (Some p) line function domain over placed same found q first owner =
      let port : IsPort platform p = is_port platform laws (λ (r : DownstreamPort). id_below r == line.id) p over in
      let here : id_below p ≡ function = eqb-true (id_below p) line.id (find_passes (λ (r : DownstreamPort). id_below r == line.id) platform.ports p over) ∙ same in
      let other : IsPort platform q = is_port platform laws (λ (r : DownstreamPort). r.secondary == bus_of function) q first in
      let bus : q.secondary ≡ bus_of function = eqb-true q.secondary (bus_of function) (find_passes (λ (r : DownstreamPort). r.secondary == bus_of function) platform.ports q first) in
      let one : p.secondary ≡ q.secondary = omega (arith, here, bus) in
      let equal : p ≡ q = one_secondary platform laws p q port other one in
      let tests = and_parts (line.bar % 4096 == 0) (nat_le p.base line.bar && nat_le (line.bar + 4095) p.limit) placed in
      let ends = and_parts (nat_le p.base line.bar) (nat_le (line.bar + 4095) p.limit) tests.1 in
      record {
        port = p;
        is = first ∙ ap some (sym equal);
        listed = port;
        below = sym here;
        owner = ap (λ (r : DownstreamPort). r.owner) equal ∙ owner;
        line = line;
        found = found;
        whole = eqb-true (line.bar % 4096) 0 tests.0;
        base = leb-true p.base line.bar ends.0;
        limit = leb-true (line.bar + 4095) p.limit ends.1;
      }

  pub first_of : (domain function : ℕ) → IsFunctionOf platform domain function → First platform domain function
  first_of domain function own = go (first_port platform.ports function) refl own.owner
    where
      go : (o : Option DownstreamPort) → first_port platform.ports function ≡ o → option_map (λ (p : DownstreamPort). p.owner) o ≡ Some domain → First platform domain function
      go None first owner = absurd cc
      go (Some q) first owner =
          let f = any_found (λ (line : EndpointFunction). line.id == function) platform.functions own.listed in
          let same = eqb-true f.found.id function (find_passes (λ (line : EndpointFunction). line.id == function) platform.functions f.found f.is) in
          let placed = find_all (λ (line : EndpointFunction). line.id == function) (is_placed platform.ports) platform.functions f.found f.is laws.placed in
          above_function (port_leading_to platform.ports f.found.id) f.found function domain refl placed same f.is q first (some_is q.owner domain owner)

  -- below a port that has another below it hangs a switch
  pub switch_below : (q a : DownstreamPort) → IsPort platform q → parent platform q ≡ Some a → is_switch platform.switches (id_below a) ≡ true
  unfolding parent
  switch_below q a port over =
      let s = switch_of platform laws q port in
      let hung : is_hung platform.ports s.0 ≡ true = find_all (λ (s : Switch). internal_bus s == bus_of q.id) (is_hung platform.ports) platform.switches s.0 s.1 laws.hung in
      let above : port_above platform.ports s.0 ≡ Some a = sym (parent_is s.0 s.1) ∙ over in
      let id : s.0.id ≡ id_below a = hung_id platform.ports s.0.above s.0 a hung above in
      find_any (λ (s : Switch). internal_bus s == bus_of q.id) (λ (s : Switch). s.id == id_below a) platform.switches s.0 s.1 (eq-eqb s.0.id (id_below a) id)
    where
      parent_is : (switch : Switch) → switch_on platform.switches (bus_of q.id) ≡ Some switch → parent platform q ≡ port_above platform.ports switch
      parent_is switch on = rw on refl

  -- the port over a lower end is found
  pub over_is : (p : DownstreamPort) → IsPort platform p → port_leading_to platform.ports (id_below p) ≡ Some p
  over_is p port =
      let any : list_any (λ (q : DownstreamPort). id_below q == id_below p) platform.ports ≡ true = find_any (λ (q : DownstreamPort). q.id == p.id) (λ (q : DownstreamPort). id_below q == id_below p) platform.ports p port (eq-eqb (id_below p) (id_below p) refl) in
      let f = any_found (λ (q : DownstreamPort). id_below q == id_below p) platform.ports any in
      let same : id_below f.found ≡ id_below p = eqb-true (id_below f.found) (id_below p) (find_passes (λ (q : DownstreamPort). id_below q == id_below p) platform.ports f.found f.is) in
      let one : f.found.secondary ≡ p.secondary = omega (arith, same) in
      f.is ∙ ap some (one_secondary platform laws f.found p (is_port platform laws (λ (q : DownstreamPort). id_below q == id_below p) f.found f.is) port one)

  -- what is below a lower end lies under its port
  pub at_under : (lower : ℕ) (s : Option DownstreamPort) (f : DownstreamPort) → At platform lower s → IsPort platform f → is_below platform lower (id_below f) ≡ true → Under platform f s
  at_under lower s f (At.Top e) port below = under_root platform laws f port
  at_under lower s f (At.Over p over e) port below = go (one_below platform laws p f over port (Bus f.secondary) held (holds_own platform laws f port))
    where
      bus_is : bus_of (id_below f) ≡ f.secondary
      bus_is = omega arith

      not_top : (lower == top_id) ≡ true → ⊥
      not_top same =
          let more = not_first platform laws p over in
          let is : lower ≡ 256 = eqb-true lower top_id same in
          omega (arith, more, is, e)

      held : holds_bus p f.secondary ≡ true
      held =
          let b : holds_bus_if_any (port_leading_to platform.ports lower) (bus_of (id_below f)) ≡ true = or_true (lower == top_id) _ below not_top in
          ap (holds_bus p) (sym bus_is) ∙ (ap (λ (o : Option DownstreamPort). holds_bus_if_any o (bus_of (id_below f))) (sym (ap (port_leading_to platform.ports) e ∙ over_is p over)) ∙ b)

      go : Under platform f (Some p) ⊎ Under platform p (Some f) → Under platform f (Some p)
      go (inl u) = u
      go (inr u) = at (same_or_later platform laws over u f refl)
        where
          at : (p ≡ f) ⊎ (f.secondary + 1 < p.secondary) → Under platform f (Some p)
          at (inl i) = subst (λ (q : DownstreamPort). Under platform f (Some q)) (sym i) Under.Here
          at (inr l) = let le : p.secondary ≤ f.secondary = leb-true p.secondary f.secondary (and_parts _ _ held).0 in absurd (omega arith)

  pub under_at : (lower : ℕ) (s : Option DownstreamPort) (f : DownstreamPort) → At platform lower s → IsPort platform f → Under platform f s → is_below platform lower (id_below f) ≡ true
  under_at lower s f (At.Top e) port u = or_left (lower == top_id) _ (eq-eqb lower top_id e)
  under_at lower s f (At.Over p over e) port u =
      let held : holds_bus p f.secondary ≡ true = (lift platform laws port u p refl).holds (Bus f.secondary) (holds_own platform laws f port) in
      let bus_is : bus_of (id_below f) ≡ f.secondary = omega arith in
      or_right (lower == top_id) _ (ap (λ (o : Option DownstreamPort). holds_bus_if_any o (bus_of (id_below f))) (ap (port_leading_to platform.ports) e ∙ over_is p over) ∙ (ap (holds_bus p) bus_is ∙ held))

  -- the upstream port of a switch
  pub switch_at : (switch : Switch) → is_hung platform.ports switch ≡ true → At platform switch.id (port_above platform.ports switch)
  switch_at switch hung = go (port_above platform.ports switch) refl
    where
      go : (o : Option DownstreamPort) → port_above platform.ports switch ≡ o → At platform switch.id o
      go None e = At.Top (hung_top platform.ports switch.above switch hung e)
      go (Some a) e = At.Over a (above_listed switch.above a e) (hung_id platform.ports switch.above switch a hung e)
        where
          above_listed : (above : Option ℕ) (a : DownstreamPort) → option_and_then (λ id. port_at platform.ports id) above ≡ Some a → IsPort platform a
          above_listed None a is = absurd cc
          above_listed (Some id) a is = is_port platform laws (λ (q : DownstreamPort). q.id == id) a is

  -- below a port over a function something stands
  pub leads_on : (f : DownstreamPort) (o : Option DownstreamPort) (q : DownstreamPort) → Under platform f o → o ≡ Some q → is_function platform.functions (id_below f) ≡ true → is_taken platform.switches platform.functions (id_below q) ≡ true
  leads_on f o q Under.Here e listed = or_right (is_switch platform.switches (id_below q)) _ (ap (λ (p : DownstreamPort). is_function platform.functions (id_below p)) (sym (some_is f q e)) ∙ listed)
  leads_on f o q (Under.Step {q = r} port over u) e listed = or_left _ _ (switch_below r q port (over ∙ e))

module _ (platform : Platform) (g : IsGuarded platform) where
  -- no function stands where a switch does
  pub apart : (id : ℕ) → is_function platform.functions id ≡ true → is_switch platform.switches id ≡ true → ⊥
  apart id listed switch =
      let line = any_found (λ (line : EndpointFunction). line.id == id) platform.functions listed in
      let same = eqb-true line.found.id id (find_passes (λ (line : EndpointFunction). line.id == id) platform.functions line.found line.is) in
      let free = find_all (λ (line : EndpointFunction). line.id == id) (is_no_switch platform.switches) platform.functions line.found line.is g.laws.free in
      not_both (is_switch platform.switches line.found.id) free (ap (is_switch platform.switches) same ∙ switch)

  -- below the first port of a function stands nothing but the function
  pub leaf : (f q : DownstreamPort) → is_function platform.functions (id_below f) ≡ true → IsPort platform q → parent platform q ≡ Some f → ⊥
  leaf f q listed port over = apart (id_below f) listed (switch_below platform g.laws q f port over)

  pub only_here : (p f : DownstreamPort) (o : Option DownstreamPort) → is_function platform.functions (id_below f) ≡ true → Under platform p o → o ≡ Some f → p ≡ f
  only_here p f o listed Under.Here e = some_is p f e
  only_here p f o listed (Under.Step {q = q} port over u) e = absurd (leaf f q listed port (over ∙ e))

  -- a port that holds what the first port of a function holds is that one, or above it
  pub holder_above : (p f : DownstreamPort) → IsPort platform p → IsPort platform f → is_function platform.functions (id_below f) ≡ true → (x : Target) → holds_target p x ≡ true → holds_target f x ≡ true → Under platform f (Some p)
  holder_above p f port first listed x h k = go (one_below platform g.laws p f port first x h k)
    where
      go : Under platform f (Some p) ⊎ Under platform p (Some f) → Under platform f (Some p)
      go (inl u) = u
      go (inr u) = subst (λ (q : DownstreamPort). Under platform f (Some q)) (sym (only_here p f (Some f) listed u refl)) Under.Here
