-- At its start each direction of a link has a header and 16 data credits of each class, as every layout has it.
use Rattle.std.proofs.Common.{◌≡◌, ℕ, zero, suc, ◌+◌, ◌<◌, ◌≤◌, inl, inr, Bool, true, cond, ◌==◌, List, [], ◌∷◌, ◌++◌, length, map, get_or, Option, Some, None, refl, sym, ap, ◌∙◌, subst, arith, eqb-true}
use Rattle.std.specs.Prelude.{Contains}
use Rattle.std.specs.List.{find, position}
use Rattle.std.proofs.lemmas.Bool.{and_parts, leb-true}
use Rattle.std.proofs.lemmas.List.{get_or-map, get_or-append-add, get_or_append_left, length-map}
use Rattle.std.proofs.lemmas.List.Elements.{Contains-get_or}
use Rattle.std.proofs.lemmas.List.Quantifiers.{position-Some}
use Rattle.fab_types.specs.declared.class.Class.{Class}
use Rattle.fab_types.specs.declared.class.Class.TheVariants.{Posted, NonPosted, Completion}
use Rattle.fab_types.specs.declared.place.Direction.{Direction}
use Rattle.fab_types.specs.declared.place.Way.{Way}
use Rattle.fab_types.specs.declared.place.Way.TheVariants.{Up, Down}
use Rattle.platform.specs.declared.parts.CreditLimits.{CreditLimits}
use Rattle.platform.specs.declared.parts.CreditLine.{CreditLine}
use Rattle.platform.specs.declared.parts.DownstreamPort.{DownstreamPort}
use Rattle.layout.specs.Laws.{IsPlatform, is_good_credit}
use Rattle.layout.specs.Rules.{is_within}
use Rattle.layout.specs.Views.{credits_of, limits_or_usual, usual_limits}
use Rattle.platform.specs.Platform.{Platform}
use Rattle.platform.specs.Tree.{id_below, internal_bus, is_on_bus, is_taken}
use Rattle.credit.specs.Limits.{credits_at}
use Rattle.link.specs.Channels.{Channel}
use Rattle.link.specs.Simplexes.{SimplexView, channel}
use Rattle.topology.specs.declared.links.Link.{Link}
use Rattle.topology.specs.declared.nodes.LinkEnd.{LinkEnd}
use Rattle.topology.specs.Links.{links_of, sender_of, sending_end}
use Rattle.topology.specs.Nodes.{downstream_end, ports_on}
use Rattle.topology.proofs.Ends.{no_function, no_switch}
use Rattle.topology.proofs.Members.{found, kept_from, passes}
use Rattle.topology.proofs.OwnEnds.{IsOutputDown, IsSentUp, one_id, output_down, sender_link, sent_up}
use Rattle.topology.proofs.Standing.{IsLinkOf, IsSentDown, link_is}
use Rattle.interconnect.specs.Moves.{channel_at, no_channel}
use Rattle.interconnect.specs.Starts.{counters_of, first_credits, function_outputs, nodes_of, host_outputs, switch_outputs, unused_below}
use Rattle.interconnect.specs.Views.{channels_of}
use Rattle.fabric_core.proofs.progress.Senders.{IsAmple}

-- ---- the credits of a link

least : (lo hi n : ℕ) → is_within lo hi n ≡ true → lo ≤ n
least lo hi n h = leb-true lo n (and_parts _ _ h).0

of_each : (P : Class → Type 0) → P Posted → P NonPosted → P Completion → (class : Class) → P class
of_each P posted non_posted completion Posted = posted
of_each P posted non_posted completion NonPosted = non_posted
of_each P posted non_posted completion Completion = completion

ample_limits : (limits : CreditLimits) → 1 ≤ limits.posted_headers → 16 ≤ limits.posted_data → 1 ≤ limits.non_posted_headers → 16 ≤ limits.non_posted_data → 1 ≤ limits.completion_headers → 16 ≤ limits.completion_data → IsAmple (counters_of limits)
ample_limits limits a b c d e f = record {
  headers = of_each (λ (class : Class). 1 ≤ (credits_at (counters_of limits) class).headers) a c e;
  payload = of_each (λ (class : Class). 16 ≤ (credits_at (counters_of limits) class).payload) b d f;
}

line_ample : (line : CreditLine) → is_good_credit line ≡ true → IsAmple (counters_of line.limits)
line_ample line good =
    let five = and_parts _ _ good in
    let four = and_parts _ _ five.0 in
    let three = and_parts _ _ four.0 in
    let two = and_parts _ _ three.0 in
    let one = and_parts _ _ two.0 in
    ample_limits line.limits (least _ _ _ one.0) (least _ _ _ one.1) (least _ _ _ two.1) (least _ _ _ three.1) (least _ _ _ four.1) (least _ _ _ five.1)

either_ample : (lines : List CreditLine) (o : Option CreditLine) → ((line : CreditLine) → Contains lines line → is_good_credit line ≡ true) → ((line : CreditLine) → o ≡ Some line → Contains lines line) → IsAmple (counters_of (limits_or_usual o))
either_ample lines None good at = ample_limits usual_limits (omega arith) (omega arith) (omega arith) (omega arith) (omega arith) (omega arith)
either_ample lines (Some line) good at = line_ample line (good line (at line refl))

module _ (platform : Platform) (laws : IsPlatform platform) where
  -- the link above whatever stands there
  credits_ample : (id : ℕ) → is_taken platform.switches platform.functions id ≡ true → IsAmple (first_credits (credits_of platform id))
  credits_ample id taken =
      let line : Option CreditLine = find (λ (line : CreditLine). line.id == id) platform.credits in
      subst (λ (b : Bool). IsAmple (first_credits (cond b (Some (limits_or_usual (find (λ (line : CreditLine). line.id == id) platform.credits))) None))) (sym taken)
      (either_ample platform.credits (find (λ (line : CreditLine). line.id == id) platform.credits) (λ line listed. passes is_good_credit platform.credits line laws.limits.credits listed) (λ line e. (found (λ (line : CreditLine). line.id == id) platform.credits line e).0))

-- ---- the directions from each node

-- the directions that are sent from a node
abbrev row : List (List SimplexView) → ℕ → List SimplexView
row nodes n = get_or nodes n []

channels_row : (nodes : List (List SimplexView)) (n : ℕ) → get_or (channels_of nodes) n [] ≡ map channel (row nodes n)
channels_row [] n = refl
channels_row (r ∷ rs) zero = refl
channels_row (r ∷ rs) (suc n) = channels_row rs n

-- the start of one of them
start_in : (nodes : List (List SimplexView)) (end : LinkEnd) (s : SimplexView) (outputs : List SimplexView) → row nodes end.node ≡ outputs → end.output < length outputs → get_or outputs end.output s ≡ s → (channel_at (channels_of nodes) end).start ≡ s.start
start_in nodes end s outputs same less is =
    ap (λ (cs : List Channel). (get_or cs end.output no_channel).start) (channels_row nodes end.node ∙ ap (map channel) same)
    ∙ (ap (λ (c : Channel). c.start) (get_or-map channel outputs end.output s no_channel less) ∙ ap (λ (x : SimplexView). x.start) is)

module _ (platform : Platform) where
  abbrev switch_rows : List (List SimplexView)
  switch_rows = map (switch_outputs platform) platform.switches

  abbrev function_rows : List (List SimplexView)
  function_rows = map (function_outputs platform) platform.functions

  behind_host : (n : ℕ) → row (nodes_of platform) (1 + n) ≡ row (switch_rows ++ function_rows) n
  behind_host n = let one : 1 + n ≡ suc n = omega arith in ap (row (nodes_of platform)) one

  row_of_switch : (place : ℕ) → place < length platform.switches → row (nodes_of platform) (1 + place) ≡ switch_outputs platform (get_or platform.switches place no_switch)
  row_of_switch place less =
      let long : place < length switch_rows = rw (length-map platform.switches (switch_outputs platform)) less in
      behind_host place ∙ (get_or_append_left switch_rows function_rows [] place long ∙ get_or-map (switch_outputs platform) platform.switches place no_switch [] less)

  row_of_function : (place : ℕ) → place < length platform.functions → row (nodes_of platform) (1 + length platform.switches + place) ≡ function_outputs platform (get_or platform.functions place no_function)
  row_of_function place less =
      let long : length switch_rows ≡ length platform.switches = length-map platform.switches (switch_outputs platform) in
      let all : 1 + length platform.switches + place ≡ 1 + (length platform.switches + place) = omega arith in
      ap (row (nodes_of platform)) all
      ∙ (behind_host (length platform.switches + place)
      ∙ (ap (λ (n : ℕ). row (switch_rows ++ function_rows) (n + place)) (sym long)
      ∙ (get_or-append-add switch_rows function_rows place [] ∙ get_or-map (function_outputs platform) platform.functions place no_function [] less)))

module _ (platform : Platform) (laws : IsPlatform platform) where
  -- the direction that is sent from an end has the credits of the link with this lower end
  abbrev Has : ℕ → LinkEnd → Type 0
  Has id end = (channel_at (channels_of (nodes_of platform)) end).start ≡ first_credits (credits_of platform id)

  at_end : (id : ℕ) (end other : LinkEnd) → end ≡ other → Has id other → Has id end
  at_end id end other same has = ap (λ (e : LinkEnd). (channel_at (channels_of (nodes_of platform)) e).start) same ∙ has

  up_has : (id : ℕ) (end : LinkEnd) → IsSentUp platform id end → Has id end
  up_has id end (inl (place, is)) =
      at_end id end (record { node = 1 + place; output = 0 }) is.same
      (start_in (nodes_of platform) (record { node = 1 + place; output = 0 }) (unused_below platform (get_or platform.switches place no_switch).id) (switch_outputs platform (get_or platform.switches place no_switch)) (row_of_switch platform place is.within) (omega arith) refl
      ∙ ap (λ (n : ℕ). first_credits (credits_of platform n)) is.named)
  up_has id end (inr (place, is)) =
      at_end id end (record { node = 1 + length platform.switches + place; output = 0 }) is.same
      (start_in (nodes_of platform) (record { node = 1 + length platform.switches + place; output = 0 }) (unused_below platform (get_or platform.functions place no_function).id) (function_outputs platform (get_or platform.functions place no_function)) (row_of_function platform place is.within) (omega arith) refl
      ∙ ap (λ (n : ℕ). first_credits (credits_of platform n)) is.named)

  down_has : (port : DownstreamPort) → Contains platform.ports port → (place output : ℕ) → IsOutputDown platform port place output → Has (id_below port) (downstream_end platform port)
  down_has port listed place output is =
      let s = get_or platform.switches place no_switch in
      let ports = ports_on platform.ports (internal_bus (get_or platform.switches place no_switch)) in
      let at : position (λ other. other.id == port.id) ports ≡ Some output = ap (λ (bus : ℕ). position (λ other. other.id == port.id) (ports_on platform.ports bus)) is.bus ∙ is.at in
      let here = position-Some (λ other. other.id == port.id) ports output port at in
      let same : get_or ports output port ≡ port =
      one_id platform laws (get_or ports output port) port (kept_from (is_on_bus (internal_bus (get_or platform.switches place no_switch))) platform.ports (get_or ports output port) (Contains-get_or ports output port here.0)).0 listed (eqb-true _ _ here.1) in
      let long : length (map (λ (p : DownstreamPort). unused_below platform (id_below p)) ports) ≡ length ports = length-map ports (λ (p : DownstreamPort). unused_below platform (id_below p)) in
      let less = here.0 in
      at_end (id_below port) (downstream_end platform port) (record { node = 1 + place; output = suc output }) is.end
      (start_in (nodes_of platform) (record { node = 1 + place; output = suc output }) (unused_below platform (id_below port)) (switch_outputs platform (get_or platform.switches place no_switch)) (row_of_switch platform place is.within) (omega (arith, less, long))
      (get_or-map (λ (p : DownstreamPort). unused_below platform (id_below p)) ports output port (unused_below platform (id_below port)) less ∙ ap (λ (p : DownstreamPort). unused_below platform (id_below p)) same))

  above_has : (id : ℕ) (end : LinkEnd) → IsSentDown platform id end → Has id end
  above_has id end (inl (top, root)) =
      at_end id end (record { node = 0; output = 0 }) root
      (start_in (nodes_of platform) (record { node = 0; output = 0 }) (unused_below platform 256) (host_outputs platform) refl (omega arith) refl ∙ ap (λ (n : ℕ). first_credits (credits_of platform n)) (sym top))
  above_has id end (inr (port, listed, below, is)) =
      let out = output_down platform laws port listed in
      at_end id end (downstream_end platform port) is
      (down_has port listed out.0 out.1 out.2 ∙ ap (λ (n : ℕ). first_credits (credits_of platform n)) (sym below))

  link_has : (link : Link) (way : Way) → IsLinkOf platform link → Has link.lower (sending_end way link)
  link_has link Up is = up_has link.lower link.below (subst (λ (e : LinkEnd). IsSentUp platform link.lower e) (sym is.below) (sent_up platform link.lower is.taken))
  link_has link Down is = above_has link.lower link.above is.above

  pub good_start : (direction : Direction) (end : LinkEnd) → sender_of (links_of platform) direction ≡ Some end → IsAmple (channel_at (channels_of (nodes_of platform)) end).start
  good_start direction end e =
      let from = sender_link platform laws direction end e in
      let is = link_is platform laws from.0 from.1 in
      let has : Has from.0.lower end = subst (λ (x : LinkEnd). Has from.0.lower x) from.3 (link_has from.0 direction.way is) in
      subst IsAmple (sym has) (credits_ample platform laws from.0.lower is.taken)
