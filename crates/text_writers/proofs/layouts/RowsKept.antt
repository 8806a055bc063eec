-- What the lines of a layout have holds with one line more, if nothing is wrong with it.
use Rattle.std.proofs.Common.{◌≡◌, ℕ, ◌%◌, ◌^◌, ◌==◌, ◌<◌, Bool, true, false, cond, refl, sym, subst, ◌∙◌, List, [], ◌∷◌, ◌++◌, Option, Some, None, arith, eqb-true}
use Rattle.std.specs.Prelude.{◌&&◌, ◌||◌, not, nat_le, nat_lt, is_some, map}
use Rattle.std.specs.List.{list_all, list_any}
use Rattle.std.proofs.lemmas.Bool.{and_from, and_parts, eq-eqb, lt-ltb}
use Rattle.std.proofs.lemmas.Bool.Decides.{nat_tests}
use Rattle.fab_types.specs.Controls.{bits_of, controls_egress}
use Rattle.fab_types.specs.Id.{bus_of, function_of}
use Rattle.fab_types.specs.declared.faults.layout.LayoutCause.{LayoutCause}
use Rattle.fab_types.specs.declared.faults.layout.LayoutCause.TheVariants as cause
use Rattle.platform.specs.declared.parts.LayoutVersion.{LayoutVersion}
use Rattle.platform.specs.declared.parts.Switch.{Switch}
use Rattle.platform.specs.declared.parts.DownstreamPort.{DownstreamPort}
use Rattle.platform.specs.declared.parts.EndpointFunction.{EndpointFunction}
use Rattle.platform.specs.declared.parts.BudgetLine.{BudgetLine}
use Rattle.platform.specs.declared.parts.CreditLine.{CreditLine}
use Rattle.platform.specs.Owners.{is_function, owns_port}
use Rattle.platform.specs.Platform.{Platform, no_lines}
use Rattle.platform.specs.Tree.{is_switch, is_taken, port_above, port_at, switch_on}
use Rattle.layout_line.specs.declared.lines.BudgetText.{BudgetText}
use Rattle.layout_line.specs.declared.lines.CreditText.{CreditText}
use Rattle.layout_line.specs.declared.lines.EgressText.{EgressText}
use Rattle.layout_line.specs.declared.lines.MapText.{MapText}
use Rattle.layout_line.specs.declared.lines.PortText.{PortText}
use Rattle.layout.specs.Additions.{budget_line, credit_line, map_line, port_line, with_vector}
use Rattle.layout.specs.Laws.{IsPlatform, are_apart, each_pair, is_hung, is_hung_below, is_hung_by, is_nested}
use Rattle.layout.specs.Rules.{budget_fault, buses_are_outside, buses_meet, credit_fault, egress_fault, has_bad_fields, has_vectors, is_past_port_limits, owner_differs, window_is_outside, windows_meet, is_first_version, last_controls, port_fault, port_fault_below, port_fault_on, takes_vector}
use Rattle.platform.proofs.Bools.{all-weaker, or-first, or-second}
use Rattle.layout.proofs.Bools.{all-more, all-not, any-stays, not-false, or-weaker, pair-more}
use Rattle.layout.proofs.Nesting.{nested-some}
use Rattle.layout.proofs.NoFault.{good-port, none-first, none-rest}
use Rattle.text_writers.specs.LineRanges.{IsMapLine, IsPortLine}
use Rattle.text_writers.specs.HasLines.{AreInOrder, are_of_other_domains, are_of_other_links, has_map_line, has_port_line, has_vector_line, is_port_of}
use Rattle.text_writers.proofs.layouts.Lists.{all-at, any-map}
use Rattle.text_writers.proofs.layouts.OrderKept.{front-of, order-given, order-none, order-port, order-switch}
use Rattle.text_writers.proofs.layouts.Rules.{apart-parts, le-true}

-- all of `HasLines` but that there is a top switch, which the end of a text tells
pub record HasRows (p : Platform) : Type 0 where
  pub order : AreInOrder p.switches p.ports
  pub ports : list_all (has_port_line p.version) p.ports ≡ true
  pub maps : list_all has_map_line p.maps ≡ true
  pub owners : list_all (λ (line : BudgetLine). owns_port p.ports line.domain) p.budgets ≡ true
  pub budgets : each_pair are_of_other_domains p.budgets ≡ true
  pub links : list_all (λ (line : CreditLine). is_taken p.switches p.functions line.id) p.credits ≡ true
  pub credits : each_pair are_of_other_links p.credits ≡ true

pub rows-none : (version : LayoutVersion) → HasRows (no_lines version)
rows-none version = record { order = order-none []; ports = refl; maps = refl; owners = refl; budgets = refl; links = refl; credits = refl }

pub rows-frames : (p : Platform) (count : ℕ) → HasRows p → HasRows (record p { frames = count })
rows-frames p count h = record { order = h.order; ports = h.ports; maps = h.maps; owners = h.owners; budgets = h.budgets; links = h.links; credits = h.credits }

-- ---- tables

pub rows-map : (p : Platform) (line : MapText) → IsMapLine line → HasRows p → HasRows (record p { maps = p.maps ++ map_line line ∷ [] })
rows-map p line is h = record {
  order = h.order;
  ports = h.ports;
  maps = all-more has_map_line p.maps (map_line line) h.maps (and_from _ _ (lt-ltb line.page (2 ^ 52) is.page) is.rights);
  owners = h.owners;
  budgets = h.budgets;
  links = h.links;
  credits = h.credits;
}

pub rows-budget : (p : Platform) (line : BudgetText) → None ≡ budget_fault p line → HasRows p → HasRows (record p { budgets = p.budgets ++ budget_line line ∷ [] })
unfolding budget_fault
rows-budget p line none h =
    let rule = none-first (not (owns_port p.ports line.domain) || list_any (λ (other : BudgetLine). other.domain == line.domain) p.budgets) _ _ none in
    record {
      order = h.order;
      ports = h.ports;
      maps = h.maps;
      owners = all-more (λ (other : BudgetLine). owns_port p.ports other.domain) p.budgets (budget_line line) h.owners (not-false (owns_port p.ports line.domain) (or-first _ _ rule));
      budgets = pair-more are_of_other_domains p.budgets (budget_line line) h.budgets (all-not (λ (other : BudgetLine). other.domain == line.domain) p.budgets (or-second (not (owns_port p.ports line.domain)) _ rule));
      links = h.links;
      credits = h.credits;
    }

pub rows-credit : (p : Platform) (line : CreditText) → None ≡ credit_fault p line → HasRows p → HasRows (record p { credits = p.credits ++ credit_line line ∷ [] })
unfolding credit_fault
rows-credit p line none h =
    let rule = none-first (not (is_taken p.switches p.functions line.id) || list_any (λ (other : CreditLine). other.id == line.id) p.credits) _ _ none in
    record {
      order = h.order;
      ports = h.ports;
      maps = h.maps;
      owners = h.owners;
      budgets = h.budgets;
      links = all-more (λ (other : CreditLine). is_taken p.switches p.functions other.id) p.credits (credit_line line) h.links (not-false (is_taken p.switches p.functions line.id) (or-first _ _ rule));
      credits = pair-more are_of_other_links p.credits (credit_line line) h.credits (all-not (λ (other : CreditLine). other.id == line.id) p.credits (or-second (not (is_taken p.switches p.functions line.id)) _ rule));
    }

-- ---- the tree

pub rows-function : (p : Platform) (function : EndpointFunction) → HasRows p → HasRows (record p { functions = p.functions ++ function ∷ [] })
rows-function p function h = record {
  order = h.order;
  ports = h.ports;
  maps = h.maps;
  owners = h.owners;
  budgets = h.budgets;
  links = all-weaker (λ (line : CreditLine). is_taken p.switches p.functions line.id) (λ (line : CreditLine). is_taken p.switches (p.functions ++ function ∷ []) line.id) p.credits
      (λ line. or-weaker (is_switch p.switches line.id) (is_function p.functions line.id) (is_switch p.switches line.id) (is_function (p.functions ++ function ∷ []) line.id) (λ e. e) (any-stays (λ (f : EndpointFunction). f.id == line.id) p.functions (function ∷ []))) h.links;
  credits = h.credits;
}

links-more : (p : Platform) (s : Switch) → HasRows p → list_all (λ (line : CreditLine). is_taken (p.switches ++ s ∷ []) p.functions line.id) p.credits ≡ true
links-more p s h =
    all-weaker (λ (line : CreditLine). is_taken p.switches p.functions line.id) (λ (line : CreditLine). is_taken (p.switches ++ s ∷ []) p.functions line.id) p.credits
    (λ line. or-weaker (is_switch p.switches line.id) (is_function p.functions line.id) (is_switch (p.switches ++ s ∷ []) line.id) (is_function p.functions line.id) (any-stays (λ (t : Switch). t.id == line.id) p.switches (s ∷ [])) (λ e. e)) h.links

-- every port stands on a switch
pub rows-switch : (p : Platform) (s : Switch) → IsPlatform p → HasRows p → HasRows (record p { switches = p.switches ++ s ∷ [] })
rows-switch p s is h =
    let all : list_all (is_port_of p.switches) p.ports ≡ true = all-weaker (is_nested p.switches p.ports) (is_port_of p.switches) p.ports (λ port. nested-some p.ports (switch_on p.switches (bus_of port.id)) port) is.nested in
    record {
      order = order-switch p.switches p.ports s h.order (λ front rest port e above. front-of p.switches p.ports front rest port e all);
      ports = h.ports;
      maps = h.maps;
      owners = h.owners;
      budgets = h.budgets;
      links = links-more p s h;
      credits = h.credits;
    }

some-hung : (o : Option DownstreamPort) (s : Switch) → is_hung_below o s ≡ true → is_some o ≡ true
some-hung None s h = absurd cc
some-hung (Some port) s h = refl

-- a new port stands above no switch
above-none : (p : Platform) (id : ℕ) → IsPlatform p → is_some (port_at p.ports id) ≡ false → (earlier later : List Switch) (s : Switch) → p.switches ≡ earlier ++ s ∷ later → s.above ≡ Some id → ⊥
above-none p id is new earlier later s e above =
    let hung : is_hung p.ports s ≡ true = all-at (is_hung p.ports) earlier s later (let P : List Switch → Type 0 = λ switches. list_all (is_hung p.ports) switches ≡ true in subst P e is.hung) in
    let by : is_hung_by p.ports (Some id) s ≡ true = let P : Option ℕ → Type 0 = λ above. is_hung_by p.ports above s ≡ true in subst P above hung in
    let some : is_some (port_at p.ports id) ≡ true = some-hung (port_at p.ports id) s by in
    cc

-- what the rules say of a port's line
pub record IsNewPort (p : Platform) (port : PortText) : Type 0 where
  pub new : is_some (port_at p.ports port.id) ≡ false
  pub function : (function_of port.id == 0) ≡ true
  pub base : (port.base % 0x100000 == 0) ≡ true
  pub limit : (port.limit % 0x100000 == 0xfffff) ≡ true
  pub controls : nat_lt (last_controls p.version) port.controls ≡ false

new-fields : (p : Platform) (port : PortText) → has_bad_fields p.ports port ≡ false → nat_lt (last_controls p.version) port.controls ≡ false → IsNewPort p port
unfolding has_bad_fields
new-fields p port good controls =
    let five = or-first (not (function_of port.id == 0) || is_some (port_at p.ports port.id) || nat_lt port.subordinate port.secondary || not (port.base % 0x100000 == 0) || not (port.limit % 0x100000 == 0xfffff)) (nat_le port.limit port.base) good in
    let four = or-first (not (function_of port.id == 0) || is_some (port_at p.ports port.id) || nat_lt port.subordinate port.secondary || not (port.base % 0x100000 == 0)) (not (port.limit % 0x100000 == 0xfffff)) five in
    let three = or-first (not (function_of port.id == 0) || is_some (port_at p.ports port.id) || nat_lt port.subordinate port.secondary) (not (port.base % 0x100000 == 0)) four in
    let two = or-first (not (function_of port.id == 0) || is_some (port_at p.ports port.id)) (nat_lt port.subordinate port.secondary) three in
    record {
      new = or-second (not (function_of port.id == 0)) (is_some (port_at p.ports port.id)) two;
      function = not-false (function_of port.id == 0) (or-first (not (function_of port.id == 0)) (is_some (port_at p.ports port.id)) two);
      base = not-false (port.base % 0x100000 == 0) (or-second (not (function_of port.id == 0) || is_some (port_at p.ports port.id) || nat_lt port.subordinate port.secondary) (not (port.base % 0x100000 == 0)) four);
      limit = not-false (port.limit % 0x100000 == 0xfffff) (or-second (not (function_of port.id == 0) || is_some (port_at p.ports port.id) || nat_lt port.subordinate port.secondary || not (port.base % 0x100000 == 0)) (not (port.limit % 0x100000 == 0xfffff)) five);
      controls = controls;
    }

last-none : (a b c d e f g h : Bool) (s t u v w x y z : LayoutCause) → None ≡ cond a (Some s) (cond b (Some t) (cond c (Some u) (cond d (Some v) (cond e (Some w) (cond f (Some x) (cond g (Some y) (cond h (Some z) None))))))) → h ≡ false
last-none a b c d e f g h s t u v w x y z none =
    none-first h z None (none-rest g y _ (none-rest f x _ (none-rest e w _ (none-rest d v _ (none-rest c u _ (none-rest b t _ (none-rest a s _ none)))))))

known-controls : (version : LayoutVersion) (ports : List DownstreamPort) (above : Option DownstreamPort) (port : PortText) → None ≡ port_fault_below version ports above port → nat_lt (last_controls version) port.controls ≡ false
unfolding port_fault_below
known-controls version ports above port none =
    last-none (has_bad_fields ports port || has_vectors ports (bus_of port.id)) (is_past_port_limits ports port) (buses_meet ports port) (buses_are_outside above port) (windows_meet ports port) (window_is_outside above port) (owner_differs above port)
    (nat_lt (last_controls version) port.controls) cause.Line cause.Limit cause.BusOverlap cause.BusOutside cause.WindowOverlap cause.WindowOutside cause.OwnerMixed cause.AcsUnknown none

new-on : (p : Platform) (port : PortText) (on : Option Switch) → None ≡ port_fault_on p port on → IsNewPort p port
new-on p port None none = absurd cc
new-on p port (Some s) none =
    let good = good-port p.version p.ports (port_above p.ports s) port none in
    new-fields p port good.fields (known-controls p.version p.ports (port_above p.ports s) port none)

new-port : (p : Platform) (port : PortText) → None ≡ port_fault p port → IsNewPort p port
unfolding port_fault
new-port p port none = new-on p port (switch_on p.switches (bus_of port.id)) none

at-most : (a b : ℕ) → nat_lt b a ≡ false → nat_le a b ≡ true
at-most a b h = grind (arith, nat_tests)

pub rows-port : (p : Platform) (port : PortText) → IsPlatform p → IsPortLine port → None ≡ port_fault p port → HasRows p → HasRows (record p { ports = p.ports ++ port_line port ∷ [] })
rows-port p port is range none h =
    let new = new-port p port none in
    let buses : nat_le port.subordinate 255 ≡ true = le-true port.subordinate 255 (omega (arith, range.subordinate)) in
    record {
      order = order-port p.switches p.ports (port_line port) h.order (above-none p port.id is new.new);
      ports = all-more (has_port_line p.version) p.ports (port_line port) h.ports
          (and_from _ _ (and_from _ _ (and_from _ _ (and_from _ _ (and_from _ _ new.function new.base) new.limit) buses) (at-most port.controls (last_controls p.version) new.controls)) refl);
      maps = h.maps;
      owners = all-weaker (λ (line : BudgetLine). owns_port p.ports line.domain) (λ (line : BudgetLine). owns_port (p.ports ++ port_line port ∷ []) line.domain) p.budgets (λ line. any-stays (λ (other : DownstreamPort). other.owner == line.domain) p.ports (port_line port ∷ [])) h.owners;
      budgets = h.budgets;
      links = h.links;
      credits = h.credits;
    }

-- ---- vectors

-- the port that a vector is for controls egress, and is the only one of its ID
abbrev may_have : ℕ → DownstreamPort → Bool
may_have id port = not (port.id == id) || controls_egress port.controls

takes-some : (port : DownstreamPort) → takes_vector (Some port) ≡ true → controls_egress port.controls ≡ true
takes-some port h = (and_parts _ _ h).0

or-last : (a b : Bool) → b ≡ true → (a || b) ≡ true
or-last true b h = refl
or-last false b h = h

or-here : (a b : Bool) → a ≡ true → (a || b) ≡ true
or-here true b h = refl
or-here false b h = absurd cc

not-from : (a : Bool) → a ≡ false → not a ≡ true
not-from true h = absurd cc
not-from false h = refl

other-id : (a b id : ℕ) → (a == b) ≡ false → (a == id) ≡ true → not (b == id) ≡ true
other-id a b id h e = not-from (b == id) (go (b == id) refl)
  where
    go : (c : Bool) → (b == id) ≡ c → c ≡ false
    go false f = refl
    go true f = let same : (a == b) ≡ true = eq-eqb a b (eqb-true a id e ∙ sym (eqb-true b id f)) in absurd cc

all-may : (ports : List DownstreamPort) (id : ℕ) → each_pair are_apart ports ≡ true → takes_vector (port_at ports id) ≡ true → list_all (may_have id) ports ≡ true
all-may [] id apart h = refl
all-may (x ∷ ports) id apart h =
    let parts = and_parts (list_all (are_apart x) ports) (each_pair are_apart ports) apart in
    go (x.id == id) refl h parts.0 (all-may ports id parts.1)
  where
    go : (b : Bool) → (x.id == id) ≡ b → takes_vector (cond b (Some x) (port_at ports id)) ≡ true → list_all (are_apart x) ports ≡ true
        → (takes_vector (port_at ports id) ≡ true → list_all (may_have id) ports ≡ true) → list_all (may_have id) (x ∷ ports) ≡ true
    go true e h others more =
        and_from (may_have id x) (list_all (may_have id) ports) (or-last (not (x.id == id)) (controls_egress x.controls) (takes-some x h))
        (all-weaker (are_apart x) (may_have id) ports (λ y a. or-here (not (y.id == id)) (controls_egress y.controls) (other-id x.id y.id id (apart-parts x y a).ids e)) others)
    go false e h others more = and_from (may_have id x) (list_all (may_have id) ports) (or-here (not (x.id == id)) (controls_egress x.controls) (not-from (x.id == id) e)) (more h)

five-of : (version : LayoutVersion) (port : DownstreamPort) → has_port_line version port ≡ true
    → ((function_of port.id == 0) && (port.base % 0x100000 == 0) && (port.limit % 0x100000 == 0xfffff) && nat_le port.subordinate 255 && nat_le (bits_of port.controls) (last_controls version)) ≡ true
five-of version port h = (and_parts _ _ h).0

last-of : (version : LayoutVersion) (port : DownstreamPort) → has_port_line version port ≡ true → has_vector_line version port.controls port.egress_vector ≡ true
last-of version port h = (and_parts _ _ h).1

given-row : (version : LayoutVersion) (egress : EgressText) (port : DownstreamPort) → is_first_version version ≡ false → nat_lt egress.vector (2 ^ 32) ≡ true → may_have egress.port port ≡ true → has_port_line version port ≡ true
    → has_port_line version (with_vector egress port) ≡ true
given-row version egress port second low may h = and_from _ _ (five-of version port h) (go (port.id == egress.port) may)
  where
    go : (b : Bool) → (not b || controls_egress port.controls) ≡ true → has_vector_line version port.controls (cond b (Some egress.vector) port.egress_vector) ≡ true
    go true m = and_from _ _ (and_from _ _ (not-from (is_first_version version) second) m) low
    go false m = last-of version port h

rows-given : (version : LayoutVersion) (egress : EgressText) (ports : List DownstreamPort) → is_first_version version ≡ false → nat_lt egress.vector (2 ^ 32) ≡ true → list_all (may_have egress.port) ports ≡ true → list_all (has_port_line version) ports ≡ true
    → list_all (has_port_line version) (map (with_vector egress) ports) ≡ true
rows-given version egress [] second low may h = refl
rows-given version egress (x ∷ ports) second low may h =
    let m = and_parts (may_have egress.port x) (list_all (may_have egress.port) ports) may in
    let r = and_parts (has_port_line version x) (list_all (has_port_line version) ports) h in
    and_from (has_port_line version (with_vector egress x)) (list_all (has_port_line version) (map (with_vector egress) ports)) (given-row version egress x second low m.0 r.0) (rows-given version egress ports second low m.1 r.1)

owner-still : (egress : EgressText) (ports : List DownstreamPort) (domain : ℕ) → owns_port ports domain ≡ true → owns_port (map (with_vector egress) ports) domain ≡ true
owner-still egress ports domain h = any-map (λ (port : DownstreamPort). port.owner == domain) (λ (port : DownstreamPort). port.owner == domain) (with_vector egress) ports (λ x. refl) ∙ h

pub rows-egress : (p : Platform) (egress : EgressText) → IsPlatform p → egress.vector < 2 ^ 32 → None ≡ egress_fault p egress → HasRows p → HasRows (record p { ports = map (with_vector egress) p.ports })
unfolding egress_fault
rows-egress p egress is low none h =
    let rule = none-first (is_first_version p.version || not (takes_vector (port_at p.ports egress.port))) _ _ none in
    let second = or-first (is_first_version p.version) (not (takes_vector (port_at p.ports egress.port))) rule in
    let takes = not-false (takes_vector (port_at p.ports egress.port)) (or-second (is_first_version p.version) (not (takes_vector (port_at p.ports egress.port))) rule) in
    record {
      order = order-given p.switches p.ports egress h.order;
      ports = rows-given p.version egress p.ports second (lt-ltb egress.vector (2 ^ 32) low) (all-may p.ports egress.port is.apart takes) h.ports;
      maps = h.maps;
      owners = all-weaker (λ (line : BudgetLine). owns_port p.ports line.domain) (λ (line : BudgetLine). owns_port (map (with_vector egress) p.ports) line.domain) p.budgets (λ line. owner-still egress p.ports line.domain) h.owners;
      budgets = h.budgets;
      links = h.links;
      credits = h.credits;
    }
