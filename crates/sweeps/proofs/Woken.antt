-- In a guarded fabric an event leaves each station idle that it doesn't wake.
use Rattle.std.proofs.Common.{◌≡◌, ◌⊎◌, inl, inr, ℕ, true, false, Option, Some, None, refl, sym, ap, ◌∙◌, subst, eq-eqb}
use Rattle.std.specs.Prelude.{IfSome, option_map}
use Rattle.std.specs.List.{list_all}
use Rattle.std.proofs.lemmas.Bool.{and_from, false≢true, or_parts}
use Rattle.std.proofs.lemmas.Option.{same_Some}
use Rattle.fab_types.specs.declared.class.Class.{Class}
use Rattle.fab_types.specs.declared.origin.Origin.{Origin}
use Rattle.fab_types.specs.declared.origin.Origin.TheVariants as origin
use Rattle.fab_types.specs.declared.outcome.Outcome.TheVariants.{Moved}
use Rattle.domains.specs.Agents.{waiting_of}
use Rattle.bridge.specs.Bridges.{Routes}
use Rattle.link.specs.Channels.{is_full}
use Rattle.link.specs.Quiet.{none_eligible, is_quiet as is_quiet_channel}
use Rattle.platform.specs.Share.{is_guarded_port}
use Rattle.topology.specs.Topologies.{Tree}
use Rattle.topology.specs.declared.nodes.LinkEnd.{LinkEnd}
use Rattle.topology.specs.Links.{sender_of}
use Rattle.interconnect.specs.Moves.{channel_at}
use Rattle.interconnect.specs.Passes.{input_of}
use Rattle.interconnect.specs.Quiet.{is_quiet_at, none_received_at}
use Rattle.fabric_core.specs.declared.event.Event.{Event}
use Rattle.fabric_core.specs.declared.event.Event.TheVariants.{Arrive, Credit, Enter, Mmio, Pass, Root, Send, Submit, Take, Tick}
use Rattle.sweeps.specs.declared.reach.Reach.{Reach}
use Rattle.fabric_core.specs.declared.station.Station.{Station}
use Rattle.fabric_core.specs.declared.station.Station.TheVariants as station
use Rattle.fabric_core.specs.Events.{effect}
use Rattle.fabric_core.specs.Invariant.{IsFabric}
use Rattle.fabric_core.specs.Misrouting.{passed_unless}
use Rattle.fabric_core.specs.Arrivals.{to_function, to_host}
use Rattle.fabric_core.specs.Stations.{is_quiet}
use Rattle.sweeps.specs.Waking.{LeavesQuiet, WakesNoOther, changes, changes_by_taking, changes_outbox, frees, is_at_node, is_changed_by_taking, is_same_end, node_of, outbox_of, reach_of}
use Rattle.fabric_core.specs.World.{World, is_guarded}
use Rattle.fabric_core.proofs.invariant.Keeping.{kept_after}
use Rattle.fabric_core.proofs.progress.Starts.{steps_stay}
use Rattle.fabric_core.proofs.runs.Begun.{function_same, step_grow}
use Rattle.fabric_core.proofs.soundness.GuardedAliens.{none_misrouted}
use Rattle.sweeps.proofs.Changes.{Brings, Changes, Fills, Frees, Touches, event_changes}
use Rattle.sweeps.proofs.Views.{SameIngress, SamePlan, Sees, box_of, still_idle}

-- ---- tests that two ends pass

ends_meet : (one other : Option LinkEnd) (end : LinkEnd) → one ≡ Some end → other ≡ Some end → is_same_end one other ≡ false → ⊥
ends_meet one other end first second none =
    let same : is_same_end (Some end) (Some end) ≡ true = and_from _ _ (eq-eqb end.node end.node refl) (eq-eqb end.output end.output refl) in
    false≢true (sym none ∙ (ap (λ (o : Option LinkEnd). is_same_end o other) first ∙ (ap (is_same_end (Some end)) second ∙ same)))

nodes_meet : (one : Option ℕ) (other : Option LinkEnd) (end : LinkEnd) → one ≡ Some end.node → other ≡ Some end → is_at_node one other ≡ false → ⊥
nodes_meet one other end first second none =
    false≢true (sym none ∙ (ap (λ (n : Option ℕ). is_at_node n other) first ∙ (ap (is_at_node (Some end.node)) second ∙ eq-eqb end.node end.node refl)))

-- a station isn't changed by what is taken at another
record AreApart (one other : Reach) : Type 0 where
  takes : is_same_end one.takes other.takes ≡ false
  updates : is_same_end one.takes other.sends ≡ false
  sends : is_same_end one.sends other.sends ≡ false
  puts : is_at_node one.puts other.sends ≡ false

apart : (one other : Reach) → is_changed_by_taking one other ≡ false → AreApart one other
apart one other none =
    let a = or_parts _ _ none in
    let b = or_parts _ _ a.1 in
    let c = or_parts _ _ b.1 in
    record { takes = a.0; updates = b.0; sends = c.0; puts = c.1 }

module _ (tree : Tree) (t : Station) where
  taking_apart : (s : Station) → changes_by_taking tree s t ≡ false → AreApart (reach_of tree s) (reach_of tree t)
  taking_apart s none = apart (reach_of tree s) (reach_of tree t) (or_parts (changes_outbox s t) _ none).1

  other_box : (s : Station) → changes_by_taking tree s t ≡ false → changes_outbox s t ≡ false
  other_box s none = (or_parts (changes_outbox s t) _ none).0

  brings_none : (event : Event) (end : LinkEnd) → changes tree event t ≡ false → (reach_of tree t).takes ≡ Some end → Brings tree event end → ⊥
  brings_none (Submit function bytes) end none takes brings = brings
  brings_none (Tick function) end none takes brings = brings
  brings_none (Mmio domain access) end none takes brings = brings
  brings_none (Enter from class) end none takes brings = brings
  brings_none (Pass port class) end none takes brings = ends_meet _ _ end brings takes (taking_apart (station.Port port) none).takes
  brings_none (Send direction class) end none takes brings = brings
  brings_none (Take direction) end none takes brings = ends_meet _ _ end brings takes (or_parts _ _ none).1
  brings_none (Credit direction) end none takes brings = brings
  brings_none (Root class) end none takes brings = ends_meet _ _ end brings takes (taking_apart station.Host none).takes
  brings_none (Arrive function class) end none takes brings = ends_meet _ _ end brings takes (taking_apart (station.Function function) none).takes

  frees_none : (event : Event) (end : LinkEnd) → frees tree event t ≡ false → (reach_of tree t).puts ≡ Some end.node → Frees tree event end → ⊥
  frees_none (Submit function bytes) end none puts free = free
  frees_none (Tick function) end none puts free = free
  frees_none (Mmio domain access) end none puts free = free
  frees_none (Enter from class) end none puts free = free
  frees_none (Pass port class) end none puts free = free
  frees_none (Send direction class) end none puts free = nodes_meet _ _ end puts free none
  frees_none (Take direction) end none puts free = free
  frees_none (Credit direction) end none puts free = free
  frees_none (Root class) end none puts free = free
  frees_none (Arrive function class) end none puts free = free

  entered_none : (from : Origin) (class : Class) (end : LinkEnd) → changes tree (Enter from class) t ≡ false → (reach_of tree t).sends ≡ Some end → Touches tree (Enter from class) end → ⊥
  entered_none (origin.Function function) class end none sends touches =
      nodes_meet _ _ end (ap (option_map node_of) touches) sends (taking_apart (station.FunctionOutbox function) none).puts
  entered_none (origin.Host domain) class end none sends touches = nodes_meet _ _ end (ap (option_map node_of) touches) sends (taking_apart (station.HostOutbox domain) none).puts

  touches_none : (event : Event) (end : LinkEnd) → changes tree event t ≡ false → (reach_of tree t).sends ≡ Some end → Touches tree event end → ⊥
  touches_none (Submit function bytes) end none sends touches = touches
  touches_none (Tick function) end none sends touches = touches
  touches_none (Mmio domain access) end none sends touches = touches
  touches_none (Enter from class) end none sends touches = entered_none from class end none sends touches
  touches_none (Pass port class) end none sends (inl from) = ends_meet _ _ end from sends (taking_apart (station.Port port) none).updates
  touches_none (Pass port class) end none sends (inr node) = nodes_meet _ _ end node sends (taking_apart (station.Port port) none).puts
  touches_none (Send direction class) end none sends touches = ends_meet _ _ end touches sends (taking_apart (station.Link direction) none).sends
  touches_none (Take direction) end none sends touches = ends_meet _ _ end touches sends (or_parts _ _ none).0
  touches_none (Credit direction) end none sends touches = ends_meet _ _ end touches sends none
  touches_none (Root class) end none sends (inl from) = ends_meet _ _ end from sends (taking_apart station.Host none).updates
  touches_none (Root class) end none sends (inr to) = nodes_meet _ _ end (ap (option_map node_of) to) sends (taking_apart station.Host none).puts
  touches_none (Arrive function class) end none sends touches = ends_meet _ _ end touches sends (taking_apart (station.Function function) none).updates

  -- ---- outboxes

  box_is : (s : Station) (o : Origin) → box_of s ≡ Some o → s ≡ outbox_of o
  box_is (station.FunctionOutbox function) o is = ap outbox_of (same_Some (origin.Function function) o is)
  box_is (station.HostOutbox domain) o is = ap outbox_of (same_Some (origin.Host domain) o is)
  box_is (station.Port port) o is = absurd cc
  box_is (station.Link direction) o is = absurd cc
  box_is station.Host o is = absurd cc
  box_is (station.Function function) o is = absurd cc

  own_box : (o : Origin) → changes_outbox (outbox_of o) (outbox_of o) ≡ true
  own_box (origin.Function function) = eq-eqb function function refl
  own_box (origin.Host domain) = eq-eqb domain domain refl

  -- it is the outbox of this origin, which that station changes
  box_meets : (s : Station) (o from : Origin) → box_of t ≡ Some o → o ≡ from → changes_outbox s (outbox_of from) ≡ true → changes_outbox s t ≡ false → ⊥
  box_meets s o from is same changes none = false≢true (sym none ∙ (ap (changes_outbox s) (box_is t o is ∙ ap outbox_of same) ∙ changes))

  fills_none : (event : Event) (o : Origin) → changes tree event t ≡ false → box_of t ≡ Some o → Fills event o → ⊥
  fills_none (Submit function bytes) o none is fills = box_meets (station.FunctionOutbox function) o (origin.Function function) is fills (eq-eqb function function refl) none
  fills_none (Tick function) o none is fills = box_meets (station.FunctionOutbox function) o (origin.Function function) is fills (eq-eqb function function refl) none
  fills_none (Mmio domain access) o none is fills = box_meets (station.HostOutbox domain) o (origin.Host domain) is fills (eq-eqb domain domain refl) none
  fills_none (Enter from class) o none is fills = box_meets (outbox_of from) o from is fills (own_box from) (other_box (outbox_of from) none)
  fills_none (Pass port class) o none is fills = fills
  fills_none (Send direction class) o none is fills = fills
  fills_none (Take direction) o none is fills = fills
  fills_none (Credit direction) o none is fills = fills
  fills_none (Root class) o none is (domain, fills) = box_meets station.Host o (origin.Host domain) is fills refl (other_box station.Host none)
  fills_none (Arrive function class) o none is fills = box_meets (station.Function function) o (origin.Function function) is fills (eq-eqb function function refl) (other_box (station.Function function) none)

-- ---- each event

abbrev ChangesOf : World → Event → World → Type 0
ChangesOf w event v = Changes (Frees w.tree event) (Brings w.tree event) (Touches w.tree event) (Fills event) w v

module _ (w v : World) (event : Event) (after : ChangesOf w event v) (s : Station) (none : changes w.tree event s ≡ false) where
  takes_same : (end : LinkEnd) → (reach_of w.tree s).takes ≡ Some end → SameIngress w v end
  takes_same end takes = by (after.links.ingress end)
    where
      by : Brings w.tree event end ⊎ SameIngress w v end → SameIngress w v end
      by (inl brings) = absurd (brings_none w.tree s event end none takes brings)
      by (inr same) = same

  sends_same : (end : LinkEnd) → (reach_of w.tree s).sends ≡ Some end → channel_at v.channels end ≡ channel_at w.channels end
  sends_same end sends = by (after.links.whole end)
    where
      by : Touches w.tree event end ⊎ (channel_at v.channels end ≡ channel_at w.channels end) → channel_at v.channels end ≡ channel_at w.channels end
      by (inl touches) = absurd (touches_none w.tree s event end none sends touches)
      by (inr same) = same

  box_same : (o : Origin) → box_of s ≡ Some o → waiting_of v.agents.outboxes o ≡ waiting_of w.agents.outboxes o
  box_same o is = by (after.boxes.waiting o)
    where
      by : Fills event o ⊎ (waiting_of v.agents.outboxes o ≡ waiting_of w.agents.outboxes o) → waiting_of v.agents.outboxes o ≡ waiting_of w.agents.outboxes o
      by (inl fills) = absurd (fills_none w.tree s event o none is fills)
      by (inr same) = same

  module _ (free : frees w.tree event s ≡ false) where
    stays_full : (end : LinkEnd) (class : Class) → (reach_of w.tree s).puts ≡ Some end.node → is_full class (channel_at w.channels end) ≡ true → is_full class (channel_at v.channels end) ≡ true
    stays_full end class puts full = by (after.links.full end class full)
      where
        by : Frees w.tree event end ⊎ (is_full class (channel_at v.channels end) ≡ true) → is_full class (channel_at v.channels end) ≡ true
        by (inl frees) = absurd (frees_none w.tree s event end free puts frees)
        by (inr still) = still

    sees : Sees s w v
    sees = record { takes = takes_same; sends = sends_same; puts = λ end puts class full. stays_full end class puts full; box = box_same }

-- ---- a quiet station

module _ (w v : World) where
  received_same : (found : Option LinkEnd) → ((end : LinkEnd) → found ≡ Some end → SameIngress w v end) → none_received_at v.channels found ≡ none_received_at w.channels found
  received_same None same = refl
  received_same (Some end) same = ap none_eligible (same end refl)

  direction_same : (found : Option LinkEnd) → ((end : LinkEnd) → found ≡ Some end → channel_at v.channels end ≡ channel_at w.channels end) → is_quiet_at v.channels found ≡ is_quiet_at w.channels found
  direction_same None same = refl
  direction_same (Some end) same = ap is_quiet_channel (same end refl)

module _ (w v : World) (event : Event) (after : ChangesOf w event v) (tree : v.tree ≡ w.tree) where
  quiet_same : (s : Station) → changes w.tree event s ≡ false → is_quiet v s ≡ is_quiet w s
  quiet_same (station.FunctionOutbox function) none = ap none_eligible (box_same w v event after (station.FunctionOutbox function) none (origin.Function function) refl)
  quiet_same (station.HostOutbox domain) none = ap none_eligible (box_same w v event after (station.HostOutbox domain) none (origin.Host domain) refl)
  quiet_same (station.Port port) none =
      ap (λ (t : Tree). none_received_at v.channels (input_of t.places port)) tree ∙ received_same w v (input_of w.tree.places port) (takes_same w v event after (station.Port port) none)
  quiet_same (station.Link direction) none =
      ap (λ (t : Tree). is_quiet_at v.channels (sender_of t.links direction)) tree ∙ direction_same w v (sender_of w.tree.links direction) (sends_same w v event after (station.Link direction) none)
  quiet_same station.Host none =
      ap (λ (t : Tree). none_received_at v.channels (sender_of t.links to_host)) tree ∙ received_same w v (sender_of w.tree.links to_host) (takes_same w v event after station.Host none)
  quiet_same (station.Function function) none =
      ap (λ (t : Tree). none_received_at v.channels (sender_of t.links (to_function function))) tree
      ∙ received_same w v (sender_of w.tree.links (to_function function)) (takes_same w v event after (station.Function function) none)

module _ (w v : World) (event : Event) (fabric : IsFabric w) (controls : is_guarded w ≡ true) (is : effect w event ≡ Some v) where
  plan : SamePlan w v
  plan =
      let stays = steps_stay w v event Moved is in
      let kept = kept_after w v event fabric.kept is in
      let still : is_guarded v ≡ true = ap (λ (r : Routes). list_all is_guarded_port r.ports) stays.routes ∙ controls in record {
        tree = stays.tree;
        routes = stays.routes;
        configs = stays.configs;
        functions = function_same w.agents.domains v.agents.domains (step_grow w v event Moved is).shares;
        turns_before = λ port class. ap (passed_unless w port class) (none_misrouted w fabric.kept controls port class);
        turns_after = λ port class. ap (passed_unless v port class) (none_misrouted v kept still port class);
      }

  changes_of : ChangesOf w event v
  changes_of = subst (λ (o : Option World). IfSome o (ChangesOf w event)) is (event_changes w fabric.kept (fabric.guarded controls) event)

  pub wakes_no_other : WakesNoOther w event v
  wakes_no_other s none idle = let apart = or_parts (changes w.tree event s) _ none in still_idle w v plan s (sees w v event changes_of s apart.0 apart.1) idle

  pub leaves_quiet : LeavesQuiet w event v
  leaves_quiet s none quiet = quiet_same w v event changes_of plan.tree s none ∙ quiet
