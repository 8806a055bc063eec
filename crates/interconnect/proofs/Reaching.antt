-- One direction of a link among all, which is reached and left as another.
use Rattle.std.proofs.Common.{◌≡◌, ℕ, ◌<◌, Bool, true, false, List, [], ◌∷◌, ◌++◌, length, map, get_or, set, Option, Some, None, Result, Ok, Err, refl, sym, ap, ◌∙◌, subst}
use Rattle.std.specs.Bool.{MatchBool}
use Rattle.std.specs.Option.{MatchOption, IfSome, option_map}
use Rattle.std.specs.Result.{MatchResult, is_err}
use Rattle.std.proofs.lemmas.List.{map-set, get_or-map, get_or-set_same, get_or_default, get_or_read, set-get_or, length-map, length-set}
use Rattle.credit.specs.Limits.{zero_counters}
use Rattle.frame_log.specs.Descriptor.{Descriptor}
use Rattle.link.specs.Channels.{Channel, with_egress}
use Rattle.link.specs.Simplexes.{Before, Behind, SimplexView, channel, simplex_restored}
use Rattle.lane.specs.Lanes.{Class, eligible}
use Rattle.lane.specs.Queues.{frames_of}
use Rattle.topology.specs.declared.nodes.LinkEnd.{LinkEnd}
use Rattle.topology.specs.Topologies.{IsEnd}
use Rattle.interconnect.specs.Moves.{channel_at, left_at, no_channel, on_channel, put_at, with_channel, with_ingress}
use Rattle.interconnect.specs.Passes.{before, behind}
use Rattle.interconnect.specs.Views.{channels_of, simplex_at, unused}

abbrev pub many : List SimplexView → ℕ
many node = length node

abbrev pub never : SimplexView
never = unused zero_counters

-- the node and the output of an end
pub record Reached (nodes : List (List SimplexView)) (end : LinkEnd) (node : List SimplexView) (output : SimplexView) : Type 0 where
  pub node_there : end.node < length nodes
  pub output_there : end.output < length node
  pub node_is : node ≡ get_or nodes end.node []
  pub output_is : output ≡ get_or node end.output never

pub reached : (nodes : List (List SimplexView)) (end : LinkEnd) (node read : List SimplexView) (output : SimplexView) → IsEnd (map (length {A = SimplexView}) nodes) end → node ≡ get_or nodes end.node read → output ≡ get_or node end.output output
    → Reached nodes end node output
reached nodes end node read output there viewed lent =
    let node_there : end.node < length nodes = rw (length-map nodes many) at there.0 in
    let is : node ≡ get_or nodes end.node [] = viewed ∙ get_or_default nodes end.node read [] node_there in
    let long : get_or (map many nodes) end.node 0 ≡ length node = get_or-map many nodes end.node [] 0 node_there ∙ ap many (sym is) in
    let output_there : end.output < length node = subst (λ (n : ℕ). end.output < n) long there.1 in
    record { node_there = node_there; output_there = output_there; node_is = is; output_is = get_or_read node end.output output output_there lent never }

-- ---- what the ends of a direction leave

abbrev received_behind : Behind → List Descriptor → Channel
received_behind b waiting = record { start = b.start; left = b.left; egress = b.egress; wire = b.wire; ingress = waiting }

abbrev sent_before : Before → List Descriptor → Channel
sent_before b sent = record { start = b.start; left = b.left; egress = sent; wire = b.wire; ingress = b.ingress }

-- the receiver's end changes what waits there alone
pub at_receiver : (s t : SimplexView) (waiting : List Descriptor) → behind t ≡ behind s → frames_of t.ingress.queue.waiting ≡ waiting → channel t ≡ with_ingress (channel s) waiting
at_receiver s t waiting output e = ap (λ (b : Behind). received_behind b (frames_of t.ingress.queue.waiting)) output ∙ ap (received_behind (behind s)) e

-- the sender's end changes what waits there alone
pub at_sender : (s t : SimplexView) (sent : List Descriptor) → before t ≡ before s → frames_of t.egress.queue.waiting ≡ sent → channel t ≡ with_egress (channel s) sent
at_sender s t sent output e = ap (λ (b : Before). sent_before b (frames_of t.egress.queue.waiting)) output ∙ ap (sent_before (before s)) e

-- ---- the direction among all

module _ (nodes : List (List SimplexView)) (end : LinkEnd) (node : List SimplexView) (output : SimplexView) (r : Reached nodes end node output) where
  -- all nodes, with another output in that place
  abbrev pub with_output : SimplexView → List (List SimplexView)
  with_output s = set nodes end.node (set node end.output s)

  pub same_lengths : (s : SimplexView) → map (length {A = SimplexView}) (with_output s) ≡ map (length {A = SimplexView}) nodes
  same_lengths s =
      map-set many nodes end.node (set node end.output s)
      ∙ (ap (λ (n : ℕ). set (map many nodes) end.node n) (length-set node end.output s ∙ (ap many r.node_is ∙ sym (get_or-map many nodes end.node [] 0 r.node_there)))
      ∙ set-get_or (map many nodes) end.node 0)

  node_channels : get_or (channels_of nodes) end.node [] ≡ map channel node
  node_channels = get_or-map (map channel) nodes end.node [] [] r.node_there ∙ ap (map channel) (sym r.node_is)

  pub channel_is : channel_at (channels_of nodes) end ≡ channel output
  channel_is =
      ap (λ (cs : List Channel). get_or cs end.output no_channel) node_channels
      ∙ (get_or-map channel node end.output never no_channel r.output_there ∙ ap channel (sym r.output_is))

  pub simplex_was : simplex_at nodes end ≡ output
  simplex_was = ap (λ (n : List SimplexView). get_or n end.output never) (sym r.node_is) ∙ sym r.output_is

  pub simplex_is : (s : SimplexView) → simplex_at (with_output s) end ≡ s
  simplex_is s =
      ap (λ (n : List SimplexView). get_or n end.output never) (get_or-set_same nodes end.node (set node end.output s) [] r.node_there)
      ∙ get_or-set_same node end.output s never r.output_there

  -- the channels, with another in that place
  pub changed : (s : SimplexView) → channels_of (with_output s) ≡ with_channel (channels_of nodes) end (channel s)
  changed s =
      map-set (map channel) nodes end.node (set node end.output s)
      ∙ ap (set (channels_of nodes) end.node) (map-set channel node end.output s ∙ ap (λ (cs : List Channel). set cs end.output (channel s)) (sym node_channels))

  put_where_it_was : with_channel (channels_of nodes) end (channel_at (channels_of nodes) end) ≡ channels_of nodes
  put_where_it_was =
      ap (set (channels_of nodes) end.node) (set-get_or (get_or (channels_of nodes) end.node []) end.output no_channel)
      ∙ set-get_or (channels_of nodes) end.node []

  pub unchanged : (s : SimplexView) → channel s ≡ channel output → channels_of (with_output s) ≡ channels_of nodes
  unchanged s same = changed s ∙ (ap (with_channel (channels_of nodes) end) (same ∙ sym channel_is) ∙ put_where_it_was)

  -- a step of the direction is one of all
  pub moved : (step : Channel → Option Channel) (result : Bool) (s : SimplexView) → MatchBool result (step (channel output) ≡ Some (channel s)) ((step (channel output) ≡ None) × (channel s ≡ channel output))
      → MatchBool result (on_channel (channels_of nodes) (Some end) step ≡ Some (channels_of (with_output s)))
      ((on_channel (channels_of nodes) (Some end) step ≡ None) × (channels_of (with_output s) ≡ channels_of nodes))
  moved step true s h =
      ap (λ (c : Channel). option_map (with_channel (channels_of nodes) end) (step c)) channel_is
      ∙ (ap (option_map (with_channel (channels_of nodes) end)) h ∙ ap (λ (cs : List (List Channel)). Some cs) (sym (changed s)))
  moved step false s h = (
    ap (λ (c : Channel). option_map (with_channel (channels_of nodes) end) (step c)) channel_is ∙ ap (option_map (with_channel (channels_of nodes) end)) h.0,
    unchanged s h.1,
  )

  -- this is left at the receiver
  pub left : (s : SimplexView) (waiting : List Descriptor) → channel s ≡ with_ingress (channel output) waiting → channels_of (with_output s) ≡ left_at (channels_of nodes) end waiting
  left s waiting e = changed s ∙ ap (with_channel (channels_of nodes) end) (e ∙ ap (λ (c : Channel). with_ingress c waiting) (sym channel_is))

  -- a packet more waits at the sender
  pub put : (s : SimplexView) (frame : Descriptor) → channel s ≡ with_egress (channel output) ((channel output).egress ++ frame ∷ []) → channels_of (with_output s) ≡ put_at (channels_of nodes) end frame
  put s frame e = changed s ∙ ap (with_channel (channels_of nodes) end) (e ∙ ap (λ (c : Channel). with_egress c (c.egress ++ frame ∷ [])) (sym channel_is))

  pub taken : (class : Class) (result : Option Descriptor) (s : SimplexView) → behind s ≡ behind output
      → MatchOption result ((eligible class (channel output).ingress ≡ None) × ((channel s).ingress ≡ (channel output).ingress)) (λ frame. eligible class (channel output).ingress ≡ Some (frame, (channel s).ingress))
      → MatchOption result ((eligible class (channel_at (channels_of nodes) end).ingress ≡ None) × (channels_of (with_output s) ≡ channels_of nodes))
      (λ frame. (waiting : List Descriptor) × (eligible class (channel_at (channels_of nodes) end).ingress ≡ Some (frame, waiting)) × (channels_of (with_output s) ≡ left_at (channels_of nodes) end waiting))
  taken class None s same h = (ap (λ (c : Channel). eligible class c.ingress) channel_is ∙ h.0, unchanged s (at_receiver output s (channel output).ingress same h.1))
  taken class (Some frame) s same h = ((channel s).ingress, ap (λ (c : Channel). eligible class c.ingress) channel_is ∙ h, left s (channel s).ingress (at_receiver output s (channel s).ingress same refl))

  pub restores : (result : Option Descriptor) (s : SimplexView) → IfSome result (λ frame. simplex_restored s frame ≡ Some (channel output).ingress)
      → IfSome result (λ frame. simplex_restored (simplex_at (with_output s) end) frame ≡ Some (channel_at (channels_of nodes) end).ingress)
  restores None s h = tt
  restores (Some frame) s h = ap (λ (x : SimplexView). simplex_restored x frame) (simplex_is s) ∙ (h ∙ ap (λ (c : Channel). Some c.ingress) (sym channel_is))

  -- what is put back stands where it stood
  pub restored : (frame : Descriptor) (s : SimplexView) → behind s ≡ behind output → simplex_restored output frame ≡ Some (channel s).ingress → (waiting : List Descriptor) → simplex_restored (simplex_at nodes end) frame ≡ Some waiting
      → channels_of (with_output s) ≡ left_at (channels_of nodes) end waiting
  restored frame s same h waiting e =
      let there : ◌≡◌ {A = Option (List Descriptor)} (Some (channel s).ingress) (Some waiting) = sym h ∙ (ap (λ (x : SimplexView). simplex_restored x frame) (sym simplex_was) ∙ e) in
      left s waiting (at_receiver output s waiting same cc)
