-- The turn of the port of an ID.
use Rattle.std.proofs.Common.{◌≡◌, ℕ, ◌<◌, Bool, List, [], length, map, get_or, set, Option, Some, Vec, refl, sym, ap, ◌∙◌, arith, subst}
use Rattle.std.proofs.lemmas.List.{get_or-set_same, get_or_read, length-map, with_items_is}
use Rattle.std.specs.Vec.{with_items}
use Rattle.fab_types.specs.declared.outcome.Outcome.{Outcome}
use Rattle.fab_types.specs.declared.violation.Violation.{Violation}
use Rattle.frame_log.specs.Descriptor.{Descriptor}
use Rattle.link.specs.Simplexes.{SimplexView}
use Rattle.lane.specs.Lanes.{Class}
use Rattle.port.specs.Turns.{PortView}
use Rattle.topology.specs.declared.nodes.LinkEnd.{LinkEnd}
use Rattle.topology.specs.declared.places.PortPlace.{PortPlace}
use Rattle.interconnect.specs.Kept.{IsInterconnect}
use Rattle.interconnect.specs.Moves.{channel_at}
use Rattle.interconnect.specs.Passes.{HasTurn, Passes, PassesFrom, Turned, egress_of, index_of, no_place, no_port, passed_over, refused_by, sight_at}
use Rattle.interconnect.specs.Views.{InterconnectView, channels_of}
use Rattle.interconnect.proofs.Keeping.{kept_passed}
use Rattle.interconnect.proofs.Reaching.{many}

-- nodes that were lent as a slice come back whole
pub nodes_whole : {Z : Type 0} (v : Vec (List SimplexView) Z) (nodes : List (List SimplexView)) → map (length {A = SimplexView}) nodes ≡ map (length {A = SimplexView}) v.items → (with_items v nodes).items ≡ nodes
nodes_whole v nodes e =
    let long : length (map many nodes) ≡ length (map many v.items) = ap length e in
    let old = length-map v.items many in
    let new = length-map nodes many in
    let same : length nodes ≡ length v.items = omega arith in
    with_items_is v nodes (same ∙ sym v.ok.0)

-- the interconnect in which these nodes and this port stand
abbrev pub with_port : InterconnectView → List (List SimplexView) → ℕ → PortView → InterconnectView
with_port h nodes i port = record { tree = h.tree; routes = h.routes; nodes = nodes; ports = set h.ports i port }

pub kept_with_port : (h : InterconnectView) (now nodes : List (List SimplexView)) (i : ℕ) (port port' : PortView) → IsInterconnect h → now ≡ nodes → map (length {A = SimplexView}) nodes ≡ map (length {A = SimplexView}) h.nodes → i < length h.tree.places
    → port ≡ get_or h.ports i port → port'.config ≡ port.config → IsInterconnect (with_port h now i port')
kept_with_port h now nodes i port port' kept whole lengths within is config =
    let less : i < length h.ports = (let same = kept.many in omega arith) in
    subst (λ (ns : List (List SimplexView)). IsInterconnect (with_port h ns i port')) (sym whole) (kept_passed h nodes i port port' kept lengths less (config ∙ ap (λ (p : PortView). p.config) is))

module _ {K : Type 0} (refuses : K → Descriptor → ℕ → Option Descriptor → K → Type 0) (unknown wants : K → Descriptor → ℕ → Type 0) (is_sure : Bool) (class : Class) (outcome : Outcome) (known known' : K) (reported reported' : List Violation)
    (h : InterconnectView) (was now nodes : List (List SimplexView)) (i : ℕ) (port port' : PortView) where
  abbrev pub TurnedIn : List (List SimplexView) → List (List SimplexView) → PortView → PortView → ℕ → LinkEnd → Type 0
  TurnedIn ns ns' p p' node input =
      Turned refuses unknown wants is_sure h.routes class outcome p p' (map refused_by (get_or (channels_of ns) node [])) (sight_at (channels_of ns) node input known reported p) (sight_at (channels_of ns') node input known' reported' p')

  abbrev pub PassedIn : List (List SimplexView) → List (List SimplexView) → ℕ → LinkEnd → Type 0
  PassedIn ns ns' node input = channels_of ns' ≡ passed_over (channels_of ns) node input (channel_at (channels_of ns') input).ingress (map egress_of (get_or (channels_of ns') node []))

  pub has_turn : (node : ℕ) (input : LinkEnd) → was ≡ h.nodes → now ≡ nodes → i < length h.ports → port ≡ get_or h.ports i port → TurnedIn was nodes port port' node input → PassedIn was nodes node input
      → HasTurn refuses unknown wants is_sure class outcome known known' reported reported' h (with_port h now i port') i node input
  has_turn node input before after within is turned passed =
      let old : port ≡ get_or h.ports i no_port = get_or_read h.ports i port within is no_port in
      let new : port' ≡ get_or (set h.ports i port') i no_port = sym (get_or-set_same h.ports i port' no_port within) in
      record {
        turned =
            subst (λ (p : PortView). TurnedIn h.nodes now (get_or h.ports i no_port) p node input) new
            (subst (λ (p : PortView). TurnedIn h.nodes now p port' node input) old
            (subst (λ (ns : List (List SimplexView)). TurnedIn h.nodes ns port port' node input) (sym after)
            (subst (λ (ns : List (List SimplexView)). TurnedIn ns nodes port port' node input) before turned)));
        passed =
            subst (λ (ns : List (List SimplexView)). PassedIn h.nodes ns node input) (sym after)
            (subst (λ (ns : List (List SimplexView)). PassedIn ns nodes node input) before passed);
        others = ap (set h.ports i) new;
        tree = refl;
        routes = refl;
      }

  -- the port of the ID is the one that had its turn
  pub passes : (id : ℕ) (place : PortPlace) (input : LinkEnd) → IsInterconnect h → Some i ≡ index_of h.tree.places id → i < length h.tree.places → place ≡ get_or h.tree.places i place → place.input ≡ Some input
      → was ≡ h.nodes → now ≡ nodes → port ≡ get_or h.ports i port → TurnedIn was nodes port port' place.node input → PassedIn was nodes place.node input
      → Passes refuses unknown wants is_sure class outcome known known' reported reported' h (with_port h now i port') (index_of h.tree.places id)
  passes id place input kept found within here comes before after is turned passed =
      let less : i < length h.ports = (let same = kept.many in omega arith) in
      let at : place ≡ get_or h.tree.places i no_place = get_or_read h.tree.places i place within here no_place in
      let From : ℕ → Option LinkEnd → Type 0 = PassesFrom refuses unknown wants is_sure class outcome known known' reported reported' h (with_port h now i port') i in
      subst (λ (o : Option ℕ). Passes refuses unknown wants is_sure class outcome known known' reported reported' h (with_port h now i port') o) found
      (subst (λ (q : PortPlace). From q.node q.input) at
      (subst (λ (o : Option LinkEnd). From place.node o) (sym comes) (has_turn place.node input before after less is turned passed)))
