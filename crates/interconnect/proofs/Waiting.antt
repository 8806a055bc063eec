-- What is known of where packets go at each port.
use Rattle.std.proofs.Common.{◌≡◌, set, ℕ, ◌+◌, ◌<◌, ◌≤◌, Bool, true, false, nat_lt, List, length, map, get_or, replicate, Option, Some, None, refl, sym, ap, ◌∙◌, arith, subst, eq-eqb, eqb-true, ltb-false, ltb-true}
use Rattle.std.specs.Prelude.{◌==◌, option_map, slice_get}
use Rattle.std.specs.Option.{IfSome}
use Rattle.std.proofs.lemmas.List.{get_or-replicate, get_or-set_other, get_or_past, get_or_read, length-replicate, length-set}
use Rattle.std.proofs.lemmas.Bool.{false≢true}
use Rattle.std.proofs.lemmas.Grind.{get_or-set_at}
use Rattle.std.proofs.lemmas.Option.{get_or_from_slice_get, same_Some, slice_get-get_or, slice_get_read, slice_get_within}
use Rattle.bridge.specs.Bridges.{Routes}
use Rattle.fab_types.specs.declared.head.Head.{Head}
use Rattle.frame_log.specs.Descriptor.{Descriptor}
use Rattle.lane.specs.Lanes.{Class, eligible}
use Rattle.link.specs.Channels.{Channel, is_full}
use Rattle.link.specs.Simplexes.{SimplexView}
use Rattle.port.specs.Configs.{Config}
use Rattle.port.specs.Courses.{course_of}
use Rattle.port.specs.Turns.{PortView}
use Rattle.topology.specs.Topologies.{Tree}
use Rattle.topology.specs.declared.nodes.LinkEnd.{LinkEnd}
use Rattle.topology.specs.declared.places.PortPlace.{PortPlace}
use Rattle.interconnect.specs.declared.waits.KnownCourse.{KnownCourse}
use Rattle.interconnect.specs.Kept.{AreCourses, IsInterconnect}
use Rattle.interconnect.specs.Moves.{channel_at}
use Rattle.interconnect.specs.Passes.{index_of, no_place, no_port}
use Rattle.interconnect.specs.Waits.{IsCourse, lane_of, waits_among, waits_from, waits_in, waits_number, waits_of, waits_on}
use Rattle.interconnect.specs.Views.{InterconnectView}

-- where nothing is known
pub none_known : (routes : Routes) (ports : List PortView) (courses : List (Option KnownCourse)) → courses ≡ replicate (length ports) None → AreCourses routes ports courses
none_known routes ports courses is = record { many = ap (length {A = Option KnownCourse}) is ∙ length-replicate (length ports) None; each = λ i c there. none i c there }
  where
    none : (i : ℕ) (c : KnownCourse) → slice_get courses i ≡ Some (Some c) → IsCourse routes (get_or ports i no_port).config c
    none i c there =
        let within = slice_get_within courses i (Some c) there in
        let long : length courses ≡ length ports = ap (length {A = Option KnownCourse}) is ∙ length-replicate (length ports) None in
        let is_none : get_or courses i None ≡ None = ap (λ (cs : List (Option KnownCourse)). get_or cs i None) is ∙ get_or-replicate (length ports) i None None (omega (arith, within, long)) in
        let clash : ◌≡◌ {A = Option KnownCourse} None (Some c) = sym is_none ∙ get_or_from_slice_get courses i (Some c) None there in absurd cc

module _ (routes : Routes) (ports : List PortView) (courses : List (Option KnownCourse)) (known : AreCourses routes ports courses) where
  -- what is known of the port at a place
  pub known_at : (i : ℕ) (course : Option KnownCourse) (port : PortView) → i < length ports → course ≡ get_or courses i course → port ≡ get_or ports i port → IfSome course (IsCourse routes port.config)
  known_at i None port less is at = tt
  known_at i (Some c) port less is at =
      let long = known.many in
      let there : slice_get courses i ≡ Some (Some c) = slice_get_read courses (length courses) i (Some c) refl (omega (arith, less, long)) is in
      subst (λ (p : PortView). IsCourse routes p.config c) (sym (get_or_read ports i port less at no_port)) (known.each i c there)

  -- a port has its turn
  pub with_port : (i : ℕ) (port port' : PortView) → i < length ports → port ≡ get_or ports i port → port'.config ≡ port.config → AreCourses routes (set ports i port') courses
  with_port i port port' less is config = record { many = known.many ∙ sym (length-set ports i port'); each = λ j c there. by j c (j == i) refl (known.each j c there) }
    where
      by : (j : ℕ) (c : KnownCourse) (b : Bool) → (j == i) ≡ b → IsCourse routes (get_or ports j no_port).config c → IsCourse routes (get_or (set ports i port') j no_port).config c
      by j c true same so =
          let here : j ≡ i = eqb-true j i same in
          let new : get_or (set ports i port') j no_port ≡ port' = get_or-set_at ports i j port' no_port here less in
          let old : get_or ports j no_port ≡ port = ap (λ (n : ℕ). get_or ports n no_port) here ∙ sym (get_or_read ports i port less is no_port) in
          subst (λ (f : Config). IsCourse routes f c) (ap (λ (p : PortView). p.config) old ∙ (sym config ∙ ap (λ (p : PortView). p.config) (sym new))) so
      by j c false other so = subst (λ (p : PortView). IsCourse routes p.config c) (sym (get_or-set_other ports i j port' no_port (λ e. false≢true (sym other ∙ eq-eqb j i e)))) so

  -- more is known of a port
  pub with_known : (i : ℕ) (course : Option KnownCourse) (port : PortView) → i < length ports → port ≡ get_or ports i port → IfSome course (IsCourse routes port.config) → AreCourses routes ports (set courses i course)
  with_known i course port less is so = record { many = length-set courses i course ∙ known.many; each = λ j c there. by j c (j == i) refl there }
    where
      by : (j : ℕ) (c : KnownCourse) (b : Bool) → (j == i) ≡ b → slice_get (set courses i course) j ≡ Some (Some c) → IsCourse routes (get_or ports j no_port).config c
      by j c true same there =
          let here : j ≡ i = eqb-true j i same in
          let long = known.many in
          let new : course ≡ Some c = sym (get_or-set_at courses i j course None here (omega (arith, less, long))) ∙ get_or_from_slice_get (set courses i course) j (Some c) None there in
          let old : get_or ports j no_port ≡ port = ap (λ (n : ℕ). get_or ports n no_port) here ∙ sym (get_or_read ports i port less is no_port) in
          subst (λ (p : PortView). IsCourse routes p.config c) (sym old) (subst (λ (o : Option KnownCourse). IfSome o (IsCourse routes port.config)) new so)
      by j c false other there =
          let within = slice_get_within (set courses i course) j (Some c) there in
          let long = length-set courses i course in
          let old : get_or courses j None ≡ Some c = sym (get_or-set_other courses i j course None (λ e. false≢true (sym other ∙ eq-eqb j i e))) ∙ get_or_from_slice_get (set courses i course) j (Some c) None there in
          known.each j c (slice_get-get_or courses j None (omega (arith, within, long)) ∙ ap (λ (o : Option KnownCourse). Some o) old)

-- a lane of a switch is an output of its node
pub lane_there : (outputs : List ℕ) (node lane ways : ℕ) → get_or outputs node 0 ≡ ways + 1 → lane ≤ ways → (node < length outputs) × (lane < get_or outputs node 0)
lane_there outputs node lane ways many within = (there (nat_lt node (length outputs)) refl, omega (arith, many, within))
  where
    there : (b : Bool) → nat_lt node (length outputs) ≡ b → node < length outputs
    there true less = ltb-true node (length outputs) less
    there false less = let none = get_or_past outputs node 0 (ltb-false node (length outputs) less) in absurd (omega (arith, none, many))

-- nodes of as many outputs keep an interconnect
pub kept_nodes : (h : InterconnectView) (nodes : List (List SimplexView)) → IsInterconnect h → map (length {A = SimplexView}) nodes ≡ map (length {A = SimplexView}) h.nodes → IsInterconnect (record { tree = h.tree; routes = h.routes; nodes = nodes; ports = h.ports })
kept_nodes h nodes kept same = record { sound = kept.sound; outputs = same ∙ kept.outputs; many = kept.many; fit = kept.fit }

-- ---- who waits

module _ (tree : Tree) (routes : Routes) (cs : List (List Channel)) (ports : List PortView) (id : ℕ) (class : Class) where
  by_taken : (node : ℕ) (config : Config) (head : Head) (lane : ℕ) (found : Option (Descriptor × List Descriptor)) → Some head ≡ option_map (λ taken. taken.0.head) found → Some lane ≡ lane_of (course_of routes config head)
      → is_full class (channel_at cs (record { node = node; output = lane })) ≡ waits_of routes cs node class config found
  by_taken node config head lane None is goes = absurd cc
  by_taken node config head lane (Some taken) is goes =
      let same : head ≡ taken.0.head = same_Some head taken.0.head is in
      ap (waits_on cs node class) (goes ∙ ap (λ (h : Head). lane_of (course_of routes config h)) same)

  pub waits_is : (i : ℕ) (place : PortPlace) (port : PortView) (input : LinkEnd) (head : Head) (lane : ℕ) → Some i ≡ index_of tree.places id → place ≡ get_or tree.places i no_place → port ≡ get_or ports i no_port → place.input ≡ Some input
      → Some head ≡ option_map (λ taken. taken.0.head) (eligible class (channel_at cs input).ingress) → Some lane ≡ lane_of (course_of routes port.config head)
      → is_full class (channel_at cs (record { node = place.node; output = lane })) ≡ waits_among tree routes cs ports id class
  waits_is i place port input head lane index at is comes found goes =
      by_taken place.node port.config head lane (eligible class (channel_at cs input).ingress) found goes
      ∙ (ap (waits_from routes cs class port.config place.node) (sym comes)
      ∙ (ap (λ (p : PortPlace). waits_in routes cs class port p) at
      ∙ (ap (λ (p : PortView). waits_in routes cs class p (get_or tree.places i no_place)) is ∙ ap (waits_number tree routes cs ports class) index)))
