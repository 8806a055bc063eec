-- What holds of a platform holds with one line more, if nothing is wrong with it.
use Rattle.std.proofs.Common.{◌≡◌, ℕ, ◌+◌, ◌==◌, ◌≤◌, ◌<◌, Bool, true, false, cond, List, [], ◌∷◌, ◌++◌, map, ◌∙◌, length, length-append, Option, Some, None, refl, arith, leb-true, leb-false, ltb-false, lt-ltb, eqb-true, ◌%◌, ◌^◌}
use Rattle.std.specs.Prelude.{◌&&◌, ◌||◌, not, nat_le, nat_lt, count_by}
use Rattle.std.specs.List.{list_all}
use Rattle.fab_types.specs.Id.{bus_of, id_of}
use Rattle.fab_types.specs.declared.faults.layout.LayoutCause.TheVariants as cause
use Rattle.platform.specs.declared.parts.LayoutVersion.{LayoutVersion}
use Rattle.platform.specs.declared.parts.Switch.{Switch}
use Rattle.platform.specs.declared.parts.DownstreamPort.{DownstreamPort}
use Rattle.platform.specs.declared.parts.EndpointFunction.{EndpointFunction}
use Rattle.platform.specs.declared.parts.Mapping.{Mapping}
use Rattle.layout_line.specs.declared.lines.SwitchText.{SwitchText}
use Rattle.layout_line.specs.declared.lines.PortText.{PortText}
use Rattle.layout_line.specs.declared.lines.MapText.{MapText}
use Rattle.layout_line.specs.declared.lines.BudgetText.{BudgetText}
use Rattle.layout_line.specs.declared.lines.CreditText.{CreditText}
use Rattle.layout_line.specs.declared.lines.EgressText.{EgressText}
use Rattle.platform.specs.Owners.{is_function}
use Rattle.platform.specs.Platform.{Platform}
use Rattle.platform.specs.Tree.{port_at, port_leading_to, domain_of, switch_on, port_above, is_third_level, is_taken, id_below}
use Rattle.layout.specs.Rules.{is_within, frames_fault, root_fault, switch_fault, switch_fault_below, port_fault, port_fault_on, port_fault_below, is_past_port_limits, function_fault, function_fault_below, map_fault, has_full_table, is_of_requester, budget_fault, has_good_credits, credit_fault, egress_fault, is_known_target, is_past_frames, is_foreign, is_mapped}
use Rattle.platform.specs.Tree.{is_on_bus}
use Rattle.layout.specs.Additions.{root_line, switch_line, port_line, map_line, budget_line, credit_line, with_vector}
use Rattle.layout.specs.Laws.{IsPlatform, is_good_budget, is_good_credit, are_apart, is_nested, has_domain, ends_low, is_hung, is_hung_below, is_level, is_level_below, is_placed, is_placed_below, AreAlone, is_used, is_no_switch, is_known_map, is_home_map, share_no_frame}
use Rattle.layout.proofs.Nesting.{nested-stays, nested-among, nested-new, hung-stays, placed-stays, apart-new}
use Rattle.layout.proofs.Levels.{level-stays, level-among, level-new}
use Rattle.layout.proofs.Alone.{few-functions, no-functions, alone-port, alone-function, alone-switch, alone-root}
use Rattle.layout.proofs.Free.{free-function, free-switch}
use Rattle.layout.proofs.Sharing.{home-stays, unshared-stays, known-new, home-new, unshared-new, known-stays}
use Rattle.layout.proofs.MapsOnce.{once-more}
use Rattle.layout.proofs.Vectors.{vectors-more, vectors-new, no-vectors, vectors-given}
use Rattle.layout.proofs.Given.{all-given, count-map, home-given, hung-given, levels-given, nested-given, pair-mapped, placed-given, unshared-given}
use Rattle.layout.proofs.NoFault.{none-first, none-rest, three-none, four-none}
use Rattle.platform.proofs.Bools.{and-second, and-both, or-first, or-second, all-weaker, all-found}
use Rattle.layout.proofs.Bools.{not-false, all-more, all-weaker-among, all-none, pair-more, pair-weaker, count-kept}

room : (requester : ℕ) (maps : List Mapping) (map : MapText) → has_full_table maps map.requester ≡ false → is_of_requester requester (map_line map) ≡ true → count_by (is_of_requester requester) maps < 64
unfolding has_full_table
room requester maps map few same =
    let e : map.requester ≡ requester = eqb-true map.requester requester same in
    rw (← e) (leb-false _ _ few)

place : (bus : ℕ) (ports : List DownstreamPort) (port : PortText) → is_past_port_limits ports port ≡ false → is_on_bus bus (port_line port) ≡ true → count_by (is_on_bus bus) ports < 8
unfolding is_past_port_limits
place bus ports port few same =
    let e : bus_of port.id ≡ bus = eqb-true (bus_of port.id) bus same in
    rw (← e) (leb-false _ _ (or-second _ _ few))

-- a budget
pub keeps-budget : (p : Platform) (budget : BudgetText) → IsPlatform p → None ≡ budget_fault p budget → IsPlatform (record p { budgets = p.budgets ++ budget_line budget ∷ [] })
unfolding budget_fault
keeps-budget p budget h none = record {
  limits = record {
    frames = h.limits.frames;
    switches = h.limits.switches;
    ports = h.limits.ports;
    functions = h.limits.functions;
    maps = h.limits.maps;
    budgets = all-more is_good_budget p.budgets (budget_line budget) h.limits.budgets (not-false (is_within 1 16384 budget.begins) (none-first _ _ _ (none-rest _ _ _ none)));
    credits = h.limits.credits;
  };
  apart = h.apart;
  nested = h.nested;
  owners = h.owners;
  windows = h.windows;
  hung = h.hung;
  levels = h.levels;
  placed = h.placed;
  alone = h.alone;
  free = h.free;
  known = h.known;
  home = h.home;
  unshared = h.unshared;
  mapped_once = h.mapped_once;
  vectors = h.vectors;
}

-- credits
pub keeps-credit : (p : Platform) (credit : CreditText) → IsPlatform p → None ≡ credit_fault p credit → IsPlatform (record p { credits = p.credits ++ credit_line credit ∷ [] })
unfolding credit_fault has_good_credits
keeps-credit p credit h none = record {
  limits = record {
    frames = h.limits.frames;
    switches = h.limits.switches;
    ports = h.limits.ports;
    functions = h.limits.functions;
    maps = h.limits.maps;
    budgets = h.limits.budgets;
    credits = all-more is_good_credit p.credits (credit_line credit) h.limits.credits (not-false (has_good_credits credit) (none-first _ _ _ (none-rest _ _ _ none)));
  };
  apart = h.apart;
  nested = h.nested;
  owners = h.owners;
  windows = h.windows;
  hung = h.hung;
  levels = h.levels;
  placed = h.placed;
  alone = h.alone;
  free = h.free;
  known = h.known;
  home = h.home;
  unshared = h.unshared;
  mapped_once = h.mapped_once;
  vectors = h.vectors;
}

-- a mapping
pub keeps-map : (p : Platform) (line : MapText) → IsPlatform p → None ≡ map_fault p line → IsPlatform (record p { maps = p.maps ++ map_line line ∷ [] })
unfolding map_fault
keeps-map p line h none =
    let rules = four-none (not (is_function p.functions line.requester) || not (is_known_target p.functions line.target)) (is_past_frames p.frames line.target || has_full_table p.maps line.requester)
    (is_foreign p.ports p.maps (domain_of p.ports line.requester) line.target) (is_mapped p.maps line.requester line.page) cause.Line cause.Limit cause.MapForeign cause.MapTwice none in
    record {
      limits = record {
        frames = h.limits.frames;
        switches = h.limits.switches;
        ports = h.limits.ports;
        functions = h.limits.functions;
        maps = λ requester. count-kept (is_of_requester requester) p.maps (map_line line) 64 (h.limits.maps requester) (room requester p.maps line (or-second _ _ rules.1));
        budgets = h.limits.budgets;
        credits = h.limits.credits;
      };
      apart = h.apart;
      nested = h.nested;
      owners = h.owners;
      windows = h.windows;
      hung = h.hung;
      levels = h.levels;
      placed = h.placed;
      alone = h.alone;
      free = h.free;
      known = all-more (is_known_map p.functions p.frames) p.maps (map_line line) h.known (and-both _ _ (not-false (is_function p.functions line.requester) (or-first _ _ rules.0)) (known-new p.functions p.frames line.target (not-false (is_known_target p.functions line.target) (or-second _ _ rules.0)) (or-first _ _ rules.1)));
      home = all-more (is_home_map p.ports) p.maps (map_line line) h.home (home-new p.ports p.maps (domain_of p.ports line.requester) line.target rules.2);
      unshared = pair-more (share_no_frame p.ports) p.maps (map_line line) h.unshared (unshared-new p.ports p.maps (domain_of p.ports line.requester) line.target rules.2);
      mapped_once = once-more p.maps line rules.3 h.mapped_once;
      vectors = h.vectors;
    }

-- a port
pub below-none : (p : Platform) (port : PortText) (switch : Option Switch) → None ≡ port_fault_on p port switch → (s : Switch) × (switch ≡ Some s) × (None ≡ port_fault_below p.version p.ports (port_above p.ports s) port)
below-none p port None e = absurd cc
below-none p port (Some s) e = (s, refl, e)

pub limits-kept : (version : LayoutVersion) (ports : List DownstreamPort) (above : Option DownstreamPort) (port : PortText) → None ≡ port_fault_below version ports above port → is_past_port_limits ports port ≡ false
unfolding port_fault_below
limits-kept version ports above port none = none-first _ _ _ (none-rest _ _ _ none)

owner-new : (ports : List DownstreamPort) (port : PortText) → is_past_port_limits ports port ≡ false → has_domain (port_line port) ≡ true
unfolding is_past_port_limits
owner-new ports port few = not-false (is_within 1 31 port.owner) (or-first _ _ few)

pub keeps-port : (p : Platform) (port : PortText) → IsPlatform p → port.limit < 2 ^ 32 → None ≡ port_fault p port → IsPlatform (record p { ports = p.ports ++ port_line port ∷ [] })
unfolding port_fault
keeps-port p port h low none =
    let on = below-none p port (switch_on p.switches (bus_of port.id)) none in
    let limits = limits-kept p.version p.ports (port_above p.ports on.0) port on.2 in
    record {
      limits = record {
        frames = h.limits.frames;
        switches = h.limits.switches;
        ports = λ bus. count-kept (is_on_bus bus) p.ports (port_line port) 8 (h.limits.ports bus) (place bus p.ports port limits);
        functions = h.limits.functions;
        maps = h.limits.maps;
        budgets = h.limits.budgets;
        credits = h.limits.credits;
      };
      apart = pair-more are_apart p.ports (port_line port) h.apart (apart-new p.version p.ports (port_above p.ports on.0) port on.2);
      nested = all-more (is_nested p.switches (p.ports ++ port_line port ∷ [])) p.ports (port_line port)
          (all-weaker (is_nested p.switches p.ports) (is_nested p.switches (p.ports ++ port_line port ∷ [])) p.ports (λ other. nested-stays p.switches p.ports (port_line port ∷ []) other h.hung) h.nested)
          (nested-stays p.switches p.ports (port_line port ∷ []) (port_line port) h.hung (rw on.1 (nested-new p.version p.ports on.0 port on.2)));
      owners = all-more has_domain p.ports (port_line port) h.owners (owner-new p.ports port limits);
      windows = all-more ends_low p.ports (port_line port) h.windows (lt-ltb port.limit (2 ^ 32) low);
      hung = all-weaker (is_hung p.ports) (is_hung (p.ports ++ port_line port ∷ [])) p.switches (λ switch. hung-stays p.ports (port_line port ∷ []) switch.above switch) h.hung;
      levels = all-weaker-among (is_hung p.ports) (is_level p.switches p.ports) (is_level p.switches (p.ports ++ port_line port ∷ [])) p.switches (λ switch. level-stays p.switches p.ports (port_line port ∷ []) switch h.hung) h.hung h.levels;
      placed = all-weaker (is_placed p.ports) (is_placed (p.ports ++ port_line port ∷ [])) p.functions (placed-stays p.ports (port_line port ∷ [])) h.placed;
      alone = alone-port p.switches p.ports p.functions (port_line port) h.alone;
      free = h.free;
      known = h.known;
      home = all-weaker-among (is_known_map p.functions p.frames) (is_home_map p.ports) (is_home_map (p.ports ++ port_line port ∷ [])) p.maps (λ line. home-stays p.ports (port_line port ∷ []) p.functions p.frames line h.placed) h.known h.home;
      unshared = pair-weaker (is_known_map p.functions p.frames) (share_no_frame p.ports) (share_no_frame (p.ports ++ port_line port ∷ [])) p.maps (λ one other. unshared-stays p.ports (port_line port ∷ []) p.functions p.frames one other h.placed) h.known h.unshared;
      mapped_once = h.mapped_once;
      vectors = vectors-new p.functions p.ports port (no-vectors p.version p.ports (port_above p.ports on.0) port on.2) h.vectors;
    }

placed-new : (p : Platform) (function : EndpointFunction) (above : Option DownstreamPort) → None ≡ function_fault_below p function above → is_placed_below above function ≡ true
placed-new p function None none = absurd cc
placed-new p function (Some port) none =
    let fits = none-first _ _ _ (none-rest _ _ _ none) in
    and-both _ _ (not-false (function.bar % 4096 == 0) (or-first _ _ fits)) (not-false (nat_le port.base function.bar && nat_le (function.bar + 4095) port.limit) (or-second _ _ fits))

-- a function
alone-below : (p : Platform) (function : EndpointFunction) (above : Option DownstreamPort) → port_leading_to p.ports function.id ≡ above → AreAlone p.switches p.ports p.functions → None ≡ function_fault_below p function above → AreAlone p.switches p.ports (p.functions ++ function ∷ [])
alone-below p function None over h none = absurd cc
alone-below p function (Some port) over h none = alone-function p.switches p.ports p.functions function port over (none-first _ _ _ none) h

free-below : (p : Platform) (function : EndpointFunction) (above : Option DownstreamPort) → None ≡ function_fault_below p function above → is_no_switch p.switches function ≡ true
free-below p function None none = absurd cc
free-below p function (Some port) none = free-function p.switches p.functions function (none-first _ _ _ none)

pub keeps-function : (p : Platform) (function : EndpointFunction) → IsPlatform p → None ≡ function_fault p function → IsPlatform (record p { functions = p.functions ++ function ∷ [] })
unfolding function_fault
keeps-function p function h none =
    let alone = alone-below p function (port_leading_to p.ports function.id) refl h.alone none in
    record {
      limits = record {
        frames = h.limits.frames;
        switches = h.limits.switches;
        ports = h.limits.ports;
        functions = few-functions p.switches p.ports (p.functions ++ function ∷ []) h.limits.switches h.limits.ports h.nested alone;
        maps = h.limits.maps;
        budgets = h.limits.budgets;
        credits = h.limits.credits;
      };
      apart = h.apart;
      nested = h.nested;
      owners = h.owners;
      windows = h.windows;
      hung = h.hung;
      levels = h.levels;
      placed = all-more (is_placed p.ports) p.functions function h.placed (placed-new p function (port_leading_to p.ports function.id) none);
      alone = alone;
      free = all-more (is_no_switch p.switches) p.functions function h.free (free-below p function (port_leading_to p.ports function.id) none);
      known = all-weaker (is_known_map p.functions p.frames) (is_known_map (p.functions ++ function ∷ []) p.frames) p.maps (known-stays p.functions (function ∷ []) p.frames) h.known;
      home = h.home;
      unshared = h.unshared;
      mapped_once = h.mapped_once;
      vectors = vectors-more p.functions (function ∷ []) p.ports h.vectors;
    }

-- a switch
few-switches : (p : Platform) (id : ℕ) (above : Option DownstreamPort) → None ≡ switch_fault_below p id above → nat_le 8 (length p.switches) ≡ false
few-switches p id None none = absurd cc
few-switches p id (Some port) none = or-first _ _ (none-first _ _ _ (none-rest _ _ _ none))

hung-new : (p : Platform) (switch : SwitchText) (above : Option DownstreamPort) → None ≡ switch_fault_below p switch.id above → is_hung_below above (switch_line switch) ≡ true
hung-new p switch None none = absurd cc
hung-new p switch (Some port) none =
    let rules = three-none (not (switch.id == id_below port) || is_taken p.switches p.functions switch.id) (nat_le 8 (length p.switches) || is_third_level p.switches p.ports (bus_of port.id)) (nat_lt port.subordinate (port.secondary + 1))
    cause.Line cause.Limit cause.BusOutside none in
    let room : port.secondary + 1 ≤ port.subordinate = ltb-false port.subordinate (port.secondary + 1) rules.2 in
    and-both _ _ (not-false (switch.id == id_below port) (or-first _ _ rules.0)) (lt-ltb port.secondary port.subordinate (omega arith))

level-hung : (p : Platform) (switch : SwitchText) (above : Option DownstreamPort) → IsPlatform p → ((port : DownstreamPort) → above ≡ Some port → is_nested p.switches p.ports port ≡ true) → None ≡ switch_fault_below p switch.id above → is_level_below (p.switches ++ switch_line switch ∷ []) p.ports above ≡ true
level-hung p switch None h nested none = refl
level-hung p switch (Some port) h nested none =
    let rules = three-none (not (switch.id == id_below port) || is_taken p.switches p.functions switch.id) (nat_le 8 (length p.switches) || is_third_level p.switches p.ports (bus_of port.id)) (nat_lt port.subordinate (port.secondary + 1))
    cause.Line cause.Limit cause.BusOutside none in
    level-new p.switches (switch_line switch ∷ []) p.ports port h.nested (nested port refl) (or-second (nat_le 8 (length p.switches)) (is_third_level p.switches p.ports (bus_of port.id)) rules.1)

alone-hung : (p : Platform) (switch : SwitchText) (above : Option DownstreamPort) → port_at p.ports switch.above ≡ above → AreAlone p.switches p.ports p.functions → None ≡ switch_fault_below p switch.id above → AreAlone (p.switches ++ switch_line switch ∷ []) p.ports p.functions
alone-hung p switch None at_port h none = absurd cc
alone-hung p switch (Some port) at_port h none =
    let rule = none-first (not (switch.id == id_below port) || is_taken p.switches p.functions switch.id) _ _ none in
    alone-switch p.switches p.ports p.functions (switch_line switch) (λ (other : DownstreamPort). other.id == switch.above) port at_port (eqb-true switch.id (id_below port) (not-false _ (or-first _ _ rule))) (or-second _ _ rule) h

free-hung : (p : Platform) (switch : SwitchText) (above : Option DownstreamPort) → list_all (is_no_switch p.switches) p.functions ≡ true → None ≡ switch_fault_below p switch.id above → list_all (is_no_switch (p.switches ++ switch_line switch ∷ [])) p.functions ≡ true
free-hung p switch None h none = absurd cc
free-hung p switch (Some port) h none =
    free-switch p.switches p.functions (switch_line switch) (or-second (not (switch.id == id_below port)) (is_taken p.switches p.functions switch.id) (none-first _ _ _ none)) h

pub keeps-switch : (p : Platform) (switch : SwitchText) → IsPlatform p → None ≡ switch_fault p switch → IsPlatform (record p { switches = p.switches ++ switch_line switch ∷ [] })
unfolding switch_fault
keeps-switch p switch h none = record {
  limits = record {
    frames = h.limits.frames;
    switches = let few : length p.switches < 8 = leb-false _ _ (few-switches p switch.id (port_at p.ports switch.above) none) in simp length-append (omega arith);
    ports = h.limits.ports;
    functions = h.limits.functions;
    maps = h.limits.maps;
    budgets = h.limits.budgets;
    credits = h.limits.credits;
  };
  apart = h.apart;
  nested = all-weaker (is_nested p.switches p.ports) (is_nested (p.switches ++ switch_line switch ∷ []) p.ports) p.ports (nested-among p.switches (switch_line switch ∷ []) p.ports) h.nested;
  owners = h.owners;
  windows = h.windows;
  hung = all-more (is_hung p.ports) p.switches (switch_line switch) h.hung (hung-new p switch (port_at p.ports switch.above) none);
  levels = all-more (is_level (p.switches ++ switch_line switch ∷ []) p.ports) p.switches (switch_line switch)
      (all-weaker (is_level p.switches p.ports) (is_level (p.switches ++ switch_line switch ∷ []) p.ports) p.switches (λ other. level-among p.switches (switch_line switch ∷ []) p.ports other h.nested) h.levels)
      (level-hung p switch (port_at p.ports switch.above) h (λ port e. all-found (λ (other : DownstreamPort). other.id == switch.above) (is_nested p.switches p.ports) p.ports port e h.nested) none);
  placed = h.placed;
  alone = alone-hung p switch (port_at p.ports switch.above) refl h.alone none;
  free = free-hung p switch (port_at p.ports switch.above) h.free none;
  known = h.known;
  home = h.home;
  unshared = h.unshared;
  mapped_once = h.mapped_once;
  vectors = h.vectors;
}

pub keeps-frames : (p : Platform) (count : ℕ) → IsPlatform p → None ≡ frames_fault p count → IsPlatform (record p { frames = count })
unfolding frames_fault
keeps-frames p count h none = record {
  limits = record {
    frames = leb-true _ _ (and-second _ _ (not-false (is_within 1 1024 count) (none-first _ _ _ (none-rest _ _ _ none))));
    switches = h.limits.switches;
    ports = h.limits.ports;
    functions = h.limits.functions;
    maps = h.limits.maps;
    budgets = h.limits.budgets;
    credits = h.limits.credits;
  };
  apart = h.apart;
  nested = h.nested;
  owners = h.owners;
  windows = h.windows;
  hung = h.hung;
  levels = h.levels;
  placed = h.placed;
  alone = h.alone;
  free = h.free;
  known = all-none (is_known_map p.functions count) p.maps (eqb-true (length p.maps) 0 (not-false (length p.maps == 0) (or-second _ _ (none-first _ _ _ none))));
  home = h.home;
  unshared = h.unshared;
  mapped_once = h.mapped_once;
  vectors = h.vectors;
}

pub no-switches : (p : Platform) (id : ℕ) → None ≡ root_fault p id → length p.switches ≡ 0
unfolding root_fault
no-switches p id none = eqb-true (length p.switches) 0 (not-false (length p.switches == 0) (or-second (not (id == id_of 1 0 0)) (not (length p.switches == 0)) (none-first _ _ _ none)))

pub keeps-root : (p : Platform) (id : ℕ) → IsPlatform p → None ≡ root_fault p id → IsPlatform (record p { switches = p.switches ++ root_line id ∷ [] })
unfolding root_fault
keeps-root p id h none = record {
  limits = record {
    frames = h.limits.frames;
    switches = let none_yet = no-switches p id none in simp length-append (omega arith);
    ports = h.limits.ports;
    functions = h.limits.functions;
    maps = h.limits.maps;
    budgets = h.limits.budgets;
    credits = h.limits.credits;
  };
  apart = h.apart;
  nested = all-weaker (is_nested p.switches p.ports) (is_nested (p.switches ++ root_line id ∷ []) p.ports) p.ports (nested-among p.switches (root_line id ∷ []) p.ports) h.nested;
  owners = h.owners;
  windows = h.windows;
  hung = all-more (is_hung p.ports) p.switches (root_line id) h.hung (not-false (id == id_of 1 0 0) (or-first _ _ (none-first _ _ _ none)));
  levels = all-more (is_level (p.switches ++ root_line id ∷ []) p.ports) p.switches (root_line id)
      (all-weaker (is_level p.switches p.ports) (is_level (p.switches ++ root_line id ∷ []) p.ports) p.switches (λ other. level-among p.switches (root_line id ∷ []) p.ports other h.nested) h.levels) refl;
  placed = h.placed;
  alone = alone-root p.switches p.ports p.functions (root_line id) (no-switches p id none) h.alone;
  free = all-none (is_no_switch (p.switches ++ root_line id ∷ [])) p.functions (no-functions p.switches p.ports p.functions (no-switches p id none) h.limits.ports h.nested h.alone);
  known = h.known;
  home = h.home;
  unshared = h.unshared;
  mapped_once = h.mapped_once;
  vectors = h.vectors;
}

-- a vector
pub keeps-egress : (p : Platform) (egress : EgressText) → IsPlatform p → None ≡ egress_fault p egress → IsPlatform (record p { ports = map (with_vector egress) p.ports })
unfolding egress_fault
keeps-egress p egress h none = record {
  limits = record {
    frames = h.limits.frames;
    switches = h.limits.switches;
    ports = λ bus. rw (count-map (is_on_bus bus) (with_vector egress) p.ports (λ port. refl)) (h.limits.ports bus);
    functions = h.limits.functions;
    maps = h.limits.maps;
    budgets = h.limits.budgets;
    credits = h.limits.credits;
  };
  apart = pair-mapped are_apart (with_vector egress) p.ports (λ one other. refl) ∙ h.apart;
  nested = nested-given egress p.ports p.switches ∙ h.nested;
  owners = all-given egress p.ports has_domain (λ port. refl) ∙ h.owners;
  windows = all-given egress p.ports ends_low (λ port. refl) ∙ h.windows;
  hung = hung-given egress p.ports p.switches ∙ h.hung;
  levels = levels-given egress p.ports p.switches p.switches ∙ h.levels;
  placed = placed-given egress p.ports p.functions ∙ h.placed;
  alone = rw (count-map (is_used p.switches p.functions) (with_vector egress) p.ports (λ port. refl)) h.alone;
  free = h.free;
  known = h.known;
  home = home-given egress p.ports p.maps ∙ h.home;
  unshared = unshared-given egress p.ports p.maps ∙ h.unshared;
  mapped_once = h.mapped_once;
  vectors = vectors-given p egress h.vectors (none-first _ _ _ (none-rest _ _ _ none));
}

-- and if memory for the line was refused, nothing changed
pub kept-either : {X : Type 0} (holds : Platform → Type 0) (b : Bool) (old new items : List X) (f : List X → Platform) → items ≡ cond b new old → holds (f old) → holds (f new) → holds (f items)
kept-either holds true old new items f e was is = rw e is
kept-either holds false old new items f e was is = rw e was
