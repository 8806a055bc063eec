-- The turn of a port among all directions of links: two nodes are reached, and left as others.
use Rattle.std.proofs.Common.{◌≡◌, ◌≢◌, ℕ, ◌+◌, ◌-◌, ◌<◌, ◌≤◌, Bool, List, [], ◌∷◌, ◌++◌, length, map, get_or, set, take, drop, Option, refl, sym, ap, ◌∙◌, arith, subst}
use Rattle.std.proofs.lemmas.List.{map-set, get_or-map, get_or-set_same, get_or-set_other, get_or-take, get_or-drop, get_or_default, get_or_read, set-get_or, set_comm, set-append_left, set-append_right, take-append-drop, length-map, length-set, length-take-le, length-drop}
use Rattle.fab_types.specs.declared.outcome.Outcome.{Outcome}
use Rattle.fab_types.specs.declared.violation.Violation.{Violation}
use Rattle.frame_log.specs.Descriptor.{Descriptor}
use Rattle.bridge.specs.Bridges.{Routes}
use Rattle.link.specs.Channels.{Channel, with_egress}
use Rattle.link.specs.Simplexes.{SimplexView, channel}
use Rattle.lane.specs.Lanes.{Class}
use Rattle.port.specs.Turns.{PortView, sight_with}
use Rattle.topology.specs.declared.nodes.LinkEnd.{LinkEnd}
use Rattle.topology.specs.Topologies.{IsEnd}
use Rattle.interconnect.specs.Moves.{channel_at, left_at}
use Rattle.interconnect.specs.Passes.{NodesTurned, Turned, before, egress_of, may_refuse_of, passed_over, received_by, refused_by, sent_by, sight_at, with_sent}
use Rattle.interconnect.specs.Views.{channels_of}
use Rattle.interconnect.proofs.Reaching.{Reached, at_receiver, at_sender, channel_is, left, many, never, same_lengths, with_output}

-- two nodes among all, and what they become
pub record Between (nodes nodes' : List (List SimplexView)) (node : ℕ) (input : LinkEnd) (from from' to to' : List SimplexView) : Type 0 where
  pub input_there : input.node < length nodes
  pub output_there : input.output < length from
  pub node_there : node < length nodes
  pub apart : input.node ≢ node
  pub from_is : from ≡ get_or nodes input.node []
  pub to_is : to ≡ get_or nodes node []
  pub now : nodes' ≡ set (set nodes node to') input.node from'

-- ---- a list in two parts

front_at : {X : Type 0} (xs front : List X) (m i : ℕ) (x r d : X) → front ≡ take m xs → i < m → m ≤ length xs → x ≡ get_or front i r → x ≡ get_or xs i d
front_at xs front m i x r d parts less long is =
    let whole : length front ≡ m = ap length parts ∙ length-take-le m xs long in
    is ∙ (get_or_default front i r d (omega arith) ∙ (ap (λ ys. get_or ys i d) parts ∙ get_or-take m xs i d less))

back_at : {X : Type 0} (xs back : List X) (m : ℕ) (x r d : X) → back ≡ drop m xs → m < length xs → x ≡ get_or back 0 r → x ≡ get_or xs m d
back_at xs back m x r d parts less is =
    let rest : length back ≡ length xs - m = ap length parts ∙ length-drop m xs in
    let same : m + 0 ≡ m = omega arith in
    is ∙ (get_or_default back 0 r d (omega arith) ∙ (ap (λ ys. get_or ys 0 d) parts ∙ (get_or-drop m xs 0 d ∙ ap (λ n. get_or xs n d) same)))

joined : {X : Type 0} (xs front back : List X) (m i : ℕ) (a b : X) → front ≡ take m xs → back ≡ drop m xs → i < m → m < length xs → set front i a ++ set back 0 b ≡ set (set xs i a) m b
joined {X} xs front back m i a b first second less long =
    let whole : length front ≡ m = ap length first ∙ length-take-le m xs (omega arith) in
    let all : front ++ back ≡ xs = ap (λ ys. ys ++ back) first ∙ (ap (λ ys. take m xs ++ ys) second ∙ take-append-drop m xs) in
    let kept : length (set front i a) ≡ m = length-set front i a ∙ whole in
    let none : m - m ≡ 0 = omega arith in
    ap (λ n. set front i a ++ set back n b) (sym none)
    ∙ (sym (set-append_right (set front i a) back m m b kept (omega arith))
    ∙ (ap (λ (ys : List X). set ys m b) (sym (set-append_left front back i a (omega arith))) ∙ ap (λ (ys : List X). set (set ys i a) m b) all))

output_of_end : (nodes : List (List SimplexView)) (input : LinkEnd) (from : List SimplexView) → IsEnd (map (length {A = SimplexView}) nodes) input → from ≡ get_or nodes input.node [] → (input.node < length nodes) × (input.output < length from)
output_of_end nodes input from there is =
    let node : input.node < length nodes = rw (length-map nodes many) at there.0 in
    let long : get_or (map many nodes) input.node 0 ≡ length from = get_or-map many nodes input.node [] 0 node ∙ ap many (sym is) in
    (node, subst (λ (n : ℕ). input.output < n) long there.1)

-- packets come from a node before the port's
pub from_before : (nodes front back : List (List SimplexView)) (node : ℕ) (input : LinkEnd) (from from' to to' read_from read_to : List SimplexView) → IsEnd (map (length {A = SimplexView}) nodes) input → node < length nodes → input.node ≢ node
    → front ≡ take node nodes → back ≡ drop node nodes → from ≡ get_or front input.node read_from → to ≡ get_or back 0 read_to → input.node < node
    → Between nodes (set front input.node from' ++ set back 0 to') node input from from' to to'
from_before nodes front back node input from from' to to' read_from read_to there node_there apart first second at_from at_to less =
    let is : from ≡ get_or nodes input.node [] = front_at nodes front node input.node from read_from [] first less (omega arith) at_from in
    let ends = output_of_end nodes input from there is in
    record {
      input_there = ends.0;
      output_there = ends.1;
      node_there = node_there;
      apart = apart;
      from_is = is;
      to_is = back_at nodes back node to read_to [] second node_there at_to;
      now = joined nodes front back node input.node from' to' first second less node_there ∙ set_comm nodes input.node node from' to' apart;
    }

-- they come from a node after it
pub from_after : (nodes front back : List (List SimplexView)) (node : ℕ) (input : LinkEnd) (from from' to to' read_from read_to : List SimplexView) → IsEnd (map (length {A = SimplexView}) nodes) input → node < length nodes → input.node ≢ node
    → front ≡ take input.node nodes → back ≡ drop input.node nodes → from ≡ get_or back 0 read_from → to ≡ get_or front node read_to → node ≤ input.node
    → Between nodes (set front node to' ++ set back 0 from') node input from from' to to'
from_after nodes front back node input from from' to to' read_from read_to there node_there apart first second at_from at_to behind =
    let within : input.node < length nodes = rw (length-map nodes many) at there.0 in
    let less : node < input.node = omega arith in
    let is : from ≡ get_or nodes input.node [] = back_at nodes back input.node from read_from [] second within at_from in
    let ends = output_of_end nodes input from there is in
    record {
      input_there = ends.0;
      output_there = ends.1;
      node_there = node_there;
      apart = apart;
      from_is = is;
      to_is = front_at nodes front input.node node to read_to [] first less (omega arith) at_to;
      now = joined nodes front back input.node node to' from' first second less within;
    }

-- ---- the outputs of a node

sent_outputs : (to to' : List SimplexView) → map before to' ≡ map before to → map channel to' ≡ with_sent (map channel to) (map sent_by to')
sent_outputs [] [] e = refl
sent_outputs [] (y ∷ ys) e = absurd cc
sent_outputs (x ∷ xs) [] e = absurd cc
sent_outputs (x ∷ xs) (y ∷ ys) e =
    let first : before y ≡ before x = cc in
    let rest : map before ys ≡ map before xs = cc in
    ap (λ (c : Channel). c ∷ map channel ys) (at_sender x y (sent_by y) first refl) ∙ ap (λ (cs : List Channel). with_egress (channel x) (sent_by y) ∷ cs) (sent_outputs xs ys rest)

egress_outputs : (to : List SimplexView) → map egress_of (map channel to) ≡ map sent_by to
egress_outputs [] = refl
egress_outputs (x ∷ xs) = ap (λ (l : List (List Descriptor)). sent_by x ∷ l) (egress_outputs xs)

refused_outputs : (to : List SimplexView) → map refused_by (map channel to) ≡ map may_refuse_of to
refused_outputs [] = refl
refused_outputs (x ∷ xs) = ap (λ (l : List (Class → Bool)). may_refuse_of x ∷ l) (refused_outputs xs)

-- ---- both nodes among all

module _ {K : Type 0} (refuses : K → Descriptor → ℕ → Option Descriptor → K → Type 0) (unknown wants : K → Descriptor → ℕ → Type 0) (is_sure : Bool) (routes : Routes) (class : Class) (outcome : Outcome) (known known' : K) (reported reported' : List Violation)
    (port port' : PortView) (nodes nodes' : List (List SimplexView)) (node : ℕ) (input : LinkEnd) (from from' to to' : List SimplexView) (b : Between nodes nodes' node input from from' to to')
    (n : NodesTurned refuses unknown wants is_sure routes class outcome input.output known known' reported reported' port port' from from' to to') where
  abbrev others : List (List SimplexView)
  others = set nodes node to'

  input_reached : Reached others input from n.input
  input_reached = record {
    node_there = (let long = length-set nodes node to' in let there = b.input_there in omega arith);
    output_there = b.output_there;
    node_is = b.from_is ∙ sym (get_or-set_other nodes node input.node to' [] b.apart);
    output_is = get_or_read from input.output n.input b.output_there n.was never;
  }

  now_is : nodes' ≡ with_output others input from n.input input_reached n.input'
  now_is = b.now ∙ ap (set others input.node) n.left

  input_left : Reached (with_output others input from n.input input_reached n.input') input (set from input.output n.input') n.input'
  input_left = record {
    node_there = (let long = length-set others input.node (set from input.output n.input') in let there = input_reached.node_there in omega arith);
    output_there = (let long = length-set from input.output n.input' in let there = b.output_there in omega arith);
    node_is = sym (get_or-set_same others input.node (set from input.output n.input') [] input_reached.node_there);
    output_is = sym (get_or-set_same from input.output n.input' never b.output_there);
  }

  outputs_were : get_or (channels_of nodes) node [] ≡ map channel to
  outputs_were = get_or-map (map channel) nodes node [] [] b.node_there ∙ ap (map channel) (sym b.to_is)

  received_was : (channel_at (channels_of nodes) input).ingress ≡ received_by n.input
  received_was =
      let r : Reached nodes input from n.input = record { node_there = b.input_there; output_there = b.output_there; node_is = b.from_is; output_is = input_reached.output_is } in
      ap (λ (c : Channel). c.ingress) (channel_is nodes input from n.input r)

  received_is : (channel_at (channels_of nodes') input).ingress ≡ received_by n.input'
  received_is =
      ap (λ (ns : List (List SimplexView)). (channel_at (channels_of ns) input).ingress) now_is
      ∙ ap (λ (c : Channel). c.ingress) (channel_is (with_output others input from n.input input_reached n.input') input (set from input.output n.input') n.input' input_left)

  sent_was : map egress_of (get_or (channels_of nodes) node []) ≡ map sent_by to
  sent_was = ap (map egress_of) outputs_were ∙ egress_outputs to

  outputs_are : get_or nodes' node [] ≡ to'
  outputs_are =
      ap (λ (ns : List (List SimplexView)). get_or ns node []) b.now
      ∙ (get_or-set_other others input.node node from' [] (λ e. b.apart (sym e)) ∙ get_or-set_same nodes node to' [] b.node_there)

  sent_is : map egress_of (get_or (channels_of nodes') node []) ≡ map sent_by to'
  sent_is =
      let same = length-set others input.node from' in
      let long = length-set nodes node to' in
      let now = ap length b.now in
      let within : node < length nodes' = (let there = b.node_there in omega arith) in
      ap (map egress_of) (get_or-map (map channel) nodes' node [] [] within ∙ ap (map channel) outputs_are) ∙ egress_outputs to'

  refused_was : map refused_by (get_or (channels_of nodes) node []) ≡ map may_refuse_of to
  refused_was = ap (map refused_by) outputs_were ∙ refused_outputs to

  pub turned_among : Turned refuses unknown wants is_sure routes class outcome port port' (map refused_by (get_or (channels_of nodes) node [])) (sight_at (channels_of nodes) node input known reported port) (sight_at (channels_of nodes') node input known' reported' port')
  turned_among =
      subst (λ (r : List (Class → Bool)). Turned refuses unknown wants is_sure routes class outcome port port' r (sight_at (channels_of nodes) node input known reported port) (sight_at (channels_of nodes') node input known' reported' port')) (sym refused_was)
      (subst (λ (w : List Descriptor). Turned refuses unknown wants is_sure routes class outcome port port' (map may_refuse_of to) (sight_with w (map egress_of (get_or (channels_of nodes) node [])) known reported port) (sight_at (channels_of nodes') node input known' reported' port')) (sym received_was)
      (subst (λ (o : List (List Descriptor)). Turned refuses unknown wants is_sure routes class outcome port port' (map may_refuse_of to) (sight_with (received_by n.input) o known reported port) (sight_at (channels_of nodes') node input known' reported' port')) (sym sent_was)
      (subst (λ (w : List Descriptor). Turned refuses unknown wants is_sure routes class outcome port port' (map may_refuse_of to) (sight_with (received_by n.input) (map sent_by to) known reported port) (sight_with w (map egress_of (get_or (channels_of nodes') node [])) known' reported' port')) (sym received_is)
      (subst (λ (o : List (List Descriptor)). Turned refuses unknown wants is_sure routes class outcome port port' (map may_refuse_of to) (sight_with (received_by n.input) (map sent_by to) known reported port) (sight_with (received_by n.input') o known' reported' port')) (sym sent_is)
      n.turned))))

  pub channels_among : channels_of nodes' ≡ passed_over (channels_of nodes) node input (channel_at (channels_of nodes') input).ingress (map egress_of (get_or (channels_of nodes') node []))
  channels_among =
      let outputs : map channel to' ≡ with_sent (get_or (channels_of nodes) node []) (map sent_by to') = sent_outputs to to' n.before_them ∙ ap (λ (cs : List Channel). with_sent cs (map sent_by to')) (sym outputs_were) in
      ap channels_of now_is
      ∙ (left others input from n.input input_reached n.input' (received_by n.input') (at_receiver n.input n.input' (received_by n.input') n.behind_it refl)
      ∙ (ap (λ (cs : List (List Channel)). left_at cs input (received_by n.input')) (map-set (map channel) nodes node to' ∙ ap (set (channels_of nodes) node) outputs)
      ∙ (ap (λ (w : List Descriptor). passed_over (channels_of nodes) node input w (map sent_by to')) (sym received_is)
      ∙ ap (λ (o : List (List Descriptor)). passed_over (channels_of nodes) node input (channel_at (channels_of nodes') input).ingress o) (sym sent_is))))

  pub lengths_among : map (length {A = SimplexView}) nodes' ≡ map (length {A = SimplexView}) nodes
  lengths_among =
      let old : length (map before to) ≡ length to = length-map to before in
      let new : length (map before to') ≡ length to' = length-map to' before in
      let both = ap length n.before_them in
      let same : length to' ≡ length to = omega arith in
      ap (map many) now_is
      ∙ (same_lengths others input from n.input input_reached n.input'
      ∙ (map-set many nodes node to' ∙ (ap (set (map many nodes) node) (same ∙ (ap many b.to_is ∙ sym (get_or-map many nodes node [] 0 b.node_there))) ∙ set-get_or (map many nodes) node 0)))
