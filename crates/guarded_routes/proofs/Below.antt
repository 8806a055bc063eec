-- What lies below a port, and which ports hold a target.
use Rattle.std.proofs.Common.{◌≡◌, ℕ, zero, suc, ◌+◌, ◌<◌, ◌≤◌, ◌==◌, ◌⊎◌, inl, inr, Bool, true, false, ◌&&◌, not, Option, Some, None, refl, sym, ap, ◌∙◌, subst, arith, nat_le}
use Rattle.std.proofs.lemmas.Bool.{and_parts, and_from, leb-true, le-leb, eqb-true, eq-eqb, false≢true}
use Rattle.fab_types.specs.Id.{bus_of}
use Rattle.platform.specs.declared.parts.DownstreamPort.{DownstreamPort}
use Rattle.layout.specs.Laws.{IsPlatform, are_apart}
use Rattle.platform.specs.Owners.{holds_address, holds_bus}
use Rattle.platform.specs.Platform.{Platform}
use Rattle.platform.specs.Tree.{is_on_bus}
use Rattle.bridge.specs.declared.target.Target.{Target}
use Rattle.bridge.specs.declared.target.Target.TheVariants.{Bus, Address}
use Rattle.bridge.specs.Routes.{holder_on, holds_target, is_holder}
use Rattle.guarded_routes.proofs.Finds.{Clash, find_again, some_is}
use Rattle.guarded_routes.proofs.Trees.{IsPort, Inside, bus_under, parent, stands}

-- port f is s, or lies below it; None stands for the host's root port, above all
pub data Under (platform : Platform) (f : DownstreamPort) : Option DownstreamPort → Type 0 where
  Here : Under platform f (Some f)
  Step : {s : Option DownstreamPort} {q : DownstreamPort} → IsPort platform q → parent platform q ≡ s → Under platform f (Some q) → Under platform f s

-- ---- buses and windows inside one another, and apart

holds_inside : (p a : DownstreamPort) (x : Target) → Inside p a → a.secondary ≤ p.secondary → holds_target p x ≡ true → holds_target a x ≡ true
holds_inside p a (Bus b) i less h =
    let both = and_parts (nat_le p.secondary b) (nat_le b p.subordinate) h in
    let l : p.secondary ≤ b = leb-true p.secondary b both.0 in
    let r : b ≤ p.subordinate = leb-true b p.subordinate both.1 in
    let ir = i.high in
    and_from _ _ (le-leb a.secondary b (omega arith)) (le-leb b a.subordinate (omega arith))
holds_inside p a (Address n) i less h =
    let both = and_parts (nat_le p.base n) (nat_le n p.limit) h in
    let l : p.base ≤ n = leb-true p.base n both.0 in
    let r : n ≤ p.limit = leb-true n p.limit both.1 in
    let il = i.base in
    let ir = i.limit in
    and_from _ _ (le-leb a.base n (omega arith)) (le-leb n a.limit (omega arith))

not_all : (a b c : Bool) → not (a && b && c) ≡ true → a ≡ true → b ≡ true → c ≡ true → ⊥
not_all true true true h p q r = false≢true h
not_all true true false h p q r = false≢true r
not_all true false c h p q r = false≢true q
not_all false b c h p q r = false≢true p

-- of two ranges of one switch's ports that share a number, neither ends before the other begins
meeting : (one other bus low high low' high' n : ℕ) → not ((one == other) && nat_le low high' && nat_le low' high) ≡ true
    → (one == bus) ≡ true → (other == bus) ≡ true → (nat_le low n && nat_le n high) ≡ true → (nat_le low' n && nat_le n high') ≡ true → ⊥
meeting one other bus low high low' high' n apart here there p q =
    let p' = and_parts (nat_le low n) (nat_le n high) p in
    let q' = and_parts (nat_le low' n) (nat_le n high') q in
    let a : low ≤ n = leb-true low n p'.0 in
    let b : n ≤ high = leb-true n high p'.1 in
    let c : low' ≤ n = leb-true low' n q'.0 in
    let d : n ≤ high' = leb-true n high' q'.1 in
    not_all (one == other) (nat_le low high') (nat_le low' high) apart
    (eq-eqb one other (eqb-true one bus here ∙ sym (eqb-true other bus there)))
    (le-leb low high' (omega arith)) (le-leb low' high (omega arith))

holders_clash : (bus : ℕ) (x : Target) → Clash are_apart (is_holder bus (Some x))
holders_clash bus (Bus n) one other apart p q =
    let apart' = and_parts _ _ (and_parts _ _ apart).0 in
    let p' = and_parts (is_on_bus bus one) (holds_bus one n) p in
    let q' = and_parts (is_on_bus bus other) (holds_bus other n) q in
    meeting (bus_of one.id) (bus_of other.id) bus one.secondary one.subordinate other.secondary other.subordinate n apart'.1 p'.0 q'.0 p'.1 q'.1
holders_clash bus (Address n) one other apart p q =
    let apart' = and_parts _ _ apart in
    let p' = and_parts (is_on_bus bus one) (holds_address one n) p in
    let q' = and_parts (is_on_bus bus other) (holds_address other n) q in
    meeting (bus_of one.id) (bus_of other.id) bus one.base one.limit other.base other.limit n apart'.1 p'.0 q'.0 p'.1 q'.1

module _ (platform : Platform) (laws : IsPlatform platform) where
  -- the port on a bus that holds a target is the one that is found there
  pub holder_is : (bus : ℕ) (x : Target) (p : DownstreamPort) → IsPort platform p → bus_of p.id ≡ bus → holds_target p x ≡ true → holder_on platform.ports bus (Some x) ≡ Some p
  holder_is bus x p port on h =
      find_again are_apart (is_holder bus (Some x)) (λ (q : DownstreamPort). q.id == p.id) platform.ports p laws.apart (holders_clash bus x) port (and_from (is_on_bus bus p) (holds_target p x) (eq-eqb (bus_of p.id) bus on) h)

  -- at most one port of a switch holds a target
  pub one_child : (p q : DownstreamPort) → IsPort platform p → IsPort platform q → parent platform p ≡ parent platform q → (x : Target) → holds_target p x ≡ true → holds_target q x ≡ true → p ≡ q
  one_child p q port other e x h k =
      let same : bus_of p.id ≡ bus_of q.id = (stands platform laws p port).bus ∙ ap (λ (o : Option DownstreamPort). bus_under o + 1) e ∙ sym (stands platform laws q other).bus in
      some_is p q (sym (holder_is (bus_of q.id) x p port same h) ∙ holder_is (bus_of q.id) x q other refl k)

  -- ---- what lies below what

  -- the buses below a port come after those of the ports above it
  pub later : (p a : DownstreamPort) → IsPort platform p → parent platform p ≡ Some a → a.secondary + 1 < p.secondary
  later p a port e =
      let s = stands platform laws p port in
      let bus : bus_of p.id ≡ a.secondary + 1 = s.bus ∙ ap (λ (o : Option DownstreamPort). bus_under o + 1) e in
      let after = s.after in
      omega (arith, bus, after)

  pub not_first : (p : DownstreamPort) → IsPort platform p → 2 < p.secondary
  not_first p port = go (parent platform p) refl
    where
      go : (o : Option DownstreamPort) → parent platform p ≡ o → 2 < p.secondary
      go None e =
          let s = stands platform laws p port in
          let bus : bus_of p.id ≡ 2 = s.bus ∙ ap (λ (o : Option DownstreamPort). bus_under o + 1) e in
          let after = s.after in
          omega (arith, bus, after)
      go (Some a) e =
          let more = later p a port e in
          let s = stands platform laws p port in
          let some_bus = not_zero a (s.inside a e).0 in
          omega arith
        where
          not_zero : (a : DownstreamPort) → IsPort platform a → 0 < a.secondary
          not_zero a other = let t = stands platform laws a other in let after = t.after in omega arith

  climb : (n : ℕ) (f s : DownstreamPort) → s.secondary ≤ n → IsPort platform s → Under platform f (Some s) → Under platform f None
  climb zero f s le port u = let more = not_first s port in absurd (omega arith)
  climb (suc n) f s le port u = go (parent platform s) refl (climb n f)
    where
      go : (o : Option DownstreamPort) → parent platform s ≡ o → ((a : DownstreamPort) → a.secondary ≤ n → IsPort platform a → Under platform f (Some a) → Under platform f None) → Under platform f None
      go None e rest = Under.Step port e u
      go (Some a) e rest =
          let more = later s a port e in
          let other = ((stands platform laws s port).inside a e).0 in
          rest a (omega arith) other (Under.Step port e u)

  pub under_root : (f : DownstreamPort) → IsPort platform f → Under platform f None
  under_root f port = climb f.secondary f f (omega arith) port Under.Here

  -- a port above another is before it, and holds all that it holds
  pub record Above (f s : DownstreamPort) : Type 0 where
    pub port : IsPort platform s
    pub order : s.secondary ≤ f.secondary
    pub owner : f.owner ≡ s.owner
    pub holds : (x : Target) → holds_target f x ≡ true → holds_target s x ≡ true

  pub lift : {f : DownstreamPort} {o : Option DownstreamPort} → IsPort platform f → Under platform f o → (s : DownstreamPort) → o ≡ Some s → Above f s
  lift {f} port Under.Here s is =
      let same : f ≡ s = some_is f s is in
      subst (λ (s : DownstreamPort). Above f s) same (record { port = port; order = omega arith; owner = refl; holds = λ x h. h })
  lift {f} port (Under.Step {q = q} other e u) s is =
      let rest = lift port u q refl in
      let more = later q s other (e ∙ is) in
      let inside = (stands platform laws q other).inside s (e ∙ is) in
      let order = rest.order in
      record {
        port = inside.0;
        order = omega arith;
        owner = rest.owner ∙ inside.1.owner;
        holds = λ x h. holds_inside q s x inside.1 (omega arith) (rest.holds x h);
      }

  -- of two ports that hold one target, one lies below the other
  pub chain : {p q : DownstreamPort} {s : Option DownstreamPort} → IsPort platform p → IsPort platform q → Under platform p s → Under platform q s → (x : Target) → holds_target p x ≡ true → holds_target q x ≡ true
      → Under platform q (Some p) ⊎ Under platform p (Some q)
  chain port other Under.Here v x h k = inl v
  chain port other u Under.Here x h k = inr u
  chain {p} {q} port other (Under.Step {q = a} up e u) (Under.Step {q = b} vp i v) x h k =
      let same : a ≡ b = one_child a b up vp (e ∙ sym i) x ((lift port u a refl).holds x h) ((lift other v b refl).holds x k) in
      chain port other u (subst (λ (b : DownstreamPort). Under platform q (Some b)) (sym same) v) x h k

  pub one_below : (p q : DownstreamPort) → IsPort platform p → IsPort platform q → (x : Target) → holds_target p x ≡ true → holds_target q x ≡ true → Under platform q (Some p) ⊎ Under platform p (Some q)
  one_below p q port other x h k = chain port other (under_root p port) (under_root q other) x h k

  -- two ports that hold one target have one owner
  pub one_owner : (p q : DownstreamPort) → IsPort platform p → IsPort platform q → (x : Target) → holds_target p x ≡ true → holds_target q x ≡ true → p.owner ≡ q.owner
  one_owner p q port other x h k = go (one_below p q port other x h k)
    where
      go : Under platform q (Some p) ⊎ Under platform p (Some q) → p.owner ≡ q.owner
      go (inl u) = sym (lift other u p refl).owner
      go (inr u) = (lift port u q refl).owner

  -- what lies below a port is that port, or has later buses
  pub same_or_later : {f : DownstreamPort} {o : Option DownstreamPort} → IsPort platform f → Under platform f o → (s : DownstreamPort) → o ≡ Some s → (f ≡ s) ⊎ (s.secondary + 1 < f.secondary)
  same_or_later {f} port Under.Here s is = inl (some_is f s is)
  same_or_later {f} port (Under.Step {q = q} other e u) s is =
      let more = later q s other (e ∙ is) in
      let order = (lift port u q refl).order in
      inr (omega arith)

  pub holds_own : (p : DownstreamPort) → IsPort platform p → holds_target p (Bus p.secondary) ≡ true
  holds_own p port = let b = (stands platform laws p port).buses in and_from _ _ (le-leb p.secondary p.secondary (omega arith)) (le-leb p.secondary p.subordinate b)

  -- no two ports have the same first bus
  pub one_secondary : (p q : DownstreamPort) → IsPort platform p → IsPort platform q → p.secondary ≡ q.secondary → p ≡ q
  one_secondary p q port other e =
      go (one_below p q port other (Bus p.secondary) (holds_own p port) (subst (λ (n : ℕ). holds_target q (Bus n) ≡ true) (sym e) (holds_own q other)))
    where
      go : Under platform q (Some p) ⊎ Under platform p (Some q) → p ≡ q
      go (inl u) = at (same_or_later other u p refl)
        where
          at : (q ≡ p) ⊎ (p.secondary + 1 < q.secondary) → p ≡ q
          at (inl i) = sym i
          at (inr l) = absurd (omega (arith, l, e))
      go (inr u) = at (same_or_later port u q refl)
        where
          at : (p ≡ q) ⊎ (q.secondary + 1 < p.secondary) → p ≡ q
          at (inl i) = i
          at (inr l) = absurd (omega (arith, l, e))

  -- the port by which the way down leads on
  pub record Onward (f : DownstreamPort) (s : Option DownstreamPort) (x : Target) : Type 0 where
    pub q : DownstreamPort
    pub port : IsPort platform q
    pub over : parent platform q ≡ s
    pub below : Under platform f (Some q)
    pub is : holder_on platform.ports (bus_under s + 1) (Some x) ≡ Some q

  pub descend : {f : DownstreamPort} {s : Option DownstreamPort} → IsPort platform f → Under platform f s → (x : Target) → holds_target f x ≡ true → (s ≡ Some f) ⊎ Onward f s x
  descend port Under.Here x h = inl refl
  descend {f} {s} port (Under.Step {q = q} other e u) x h =
      let bus : bus_of q.id ≡ bus_under s + 1 = (stands platform laws q other).bus ∙ ap (λ (o : Option DownstreamPort). bus_under o + 1) e in
      inr (record { q = q; port = other; over = e; below = u; is = holder_is (bus_under s + 1) x q other bus ((lift port u q refl).holds x h) })

  -- no port is on the bus of the upstream port of a switch
  pub not_on : (s : Option DownstreamPort) (q : DownstreamPort) → ((a : DownstreamPort) → s ≡ Some a → IsPort platform a) → IsPort platform q → bus_of q.id ≡ bus_under s → ⊥
  not_on s q up port on = go (parent platform q) refl s up on
    where
      bus_is : (o : Option DownstreamPort) → parent platform q ≡ o → bus_of q.id ≡ bus_under o + 1
      bus_is o e = (stands platform laws q port).bus ∙ ap (λ (o : Option DownstreamPort). bus_under o + 1) e

      go : (o : Option DownstreamPort) → parent platform q ≡ o → (s : Option DownstreamPort) → ((a : DownstreamPort) → s ≡ Some a → IsPort platform a) → bus_of q.id ≡ bus_under s → ⊥
      go None e None up on = let bus = bus_is None e in omega (arith, bus, on)
      go None e (Some a) up on = let bus = bus_is None e in let more = not_first a (up a refl) in omega (arith, bus, on, more)
      go (Some b) e None up on = let bus = bus_is (Some b) e in let more = not_first b ((stands platform laws q port).inside b e).0 in omega (arith, bus, on, more)
      go (Some b) e (Some a) up on = meet (one_below a b (up a refl) over (Bus a.secondary) (holds_own a (up a refl)) held)
        where
          over : IsPort platform b
          over = ((stands platform laws q port).inside b e).0

          next : a.secondary ≡ b.secondary + 1
          next = sym on ∙ bus_is (Some b) e

          held : holds_target b (Bus a.secondary) ≡ true
          held =
              let s = stands platform laws q port in
              let after = s.after in
              let buses = s.buses in
              let high = (s.inside b e).1.high in
              let bus = bus_is (Some b) e in
              and_from _ _ (le-leb b.secondary a.secondary (omega (arith, next))) (le-leb a.secondary b.subordinate (omega (arith, next, after, buses, high, bus)))

          meet : Under platform b (Some a) ⊎ Under platform a (Some b) → ⊥
          meet (inl u) = at (same_or_later over u a refl)
            where
              at : (b ≡ a) ⊎ (a.secondary + 1 < b.secondary) → ⊥
              at (inl i) = let same : b.secondary ≡ a.secondary = ap (λ (p : DownstreamPort). p.secondary) i in omega (arith, next, same)
              at (inr l) = omega (arith, next, l)
          meet (inr u) = at (same_or_later (up a refl) u b refl)
            where
              at : (a ≡ b) ⊎ (b.secondary + 1 < a.secondary) → ⊥
              at (inl i) = let same : a.secondary ≡ b.secondary = ap (λ (p : DownstreamPort). p.secondary) i in omega (arith, next, same)
              at (inr l) = omega (arith, next, l)
