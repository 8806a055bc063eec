-- What a domain begins, and its packets that enter and travel, do in a fabric and in one without other domains.
use Rattle.std.proofs.Common.{◌≡◌, ℕ, ◌≤◌, Bool, true, List, Option, Some, None, map, refl, sym, ap, ◌∙◌, subst}
use Rattle.std.specs.Prelude.{filter, option_map}
use Rattle.std.specs.Option.{option_and_then}
use Rattle.fab_types.specs.declared.class.Class.{Class}
use Rattle.fab_types.specs.declared.origin.Origin.{Origin}
use Rattle.fab_types.specs.declared.violation.Violation.{Violation}
use Rattle.frame_log.specs.Descriptor.{Descriptor}
use Rattle.domains.specs.Agents.{AgentsView, Outbox, emitted, emitted_if, waiting_of}
use Rattle.link.specs.Channels.{Channel, count_in, is_full, deliver, send}
use Rattle.lane.specs.Lanes.{eligible}
use Rattle.port.specs.Turns.{PortView}
use Rattle.domains.specs.Domains.{Made}
use Rattle.topology.specs.Links.{sender_of}
use Rattle.topology.specs.declared.nodes.LinkEnd.{LinkEnd}
use Rattle.interconnect.specs.Moves.{channel_at, on_channel, with_channel}
use Rattle.fabric_core.specs.Events.{enter, entered_at, link_of}
use Rattle.fabric_core.specs.Isolation.{home_of, home_sent, home_travelling, is_number, own}
use Rattle.fabric_core.specs.Soundness.{config_of}
use Rattle.fabric_core.specs.World.{World, with_both, with_channels, with_agents}
use Rattle.fabric_core.proofs.runs.MirroredAgents.{emitted_too, own_waiting, taken_from_too}
use Rattle.fabric_core.proofs.runs.MirroredLinks.{mirrors_at, mirrors_put, mirrors_with, place_too, receive_too, send_too}
use Rattle.fabric_core.proofs.runs.Mirrors.{Alike, Follows, Mirrors, MirrorsAgents, MirrorsLink, MirrorsLinks, MirrorsMade, followed, follows_mapped, follows_unless}
use Rattle.fabric_core.proofs.runs.OwnOnes.{IsOwn, own_eligible}
use Rattle.fabric_core.proofs.invariant.Renewing.{renewed}

-- no sender has more packets of a class than its places
abbrev pub IsRoomy : World → Type 0
IsRoomy w = (end : LinkEnd) (class : Class) → count_in class (channel_at w.channels end).egress ≤ 16

-- what the other fabric has of the parts that change
pub record Beside (d : ℕ) (is_told : Violation → Bool) (w : World) (channels : List (List Channel)) (ports : List PortView) (there : AgentsView) (told : List Violation) : Type 0 where
  pub configs : map config_of ports ≡ map config_of w.ports
  pub links : MirrorsLinks d w.channels channels
  pub agents : MirrorsAgents d w.agents there
  pub violations : filter is_told told ≡ filter is_told w.violations

module _ (d : ℕ) (is_told : Violation → Bool) (w : World) (channels : List (List Channel)) (ports : List PortView) (agents : AgentsView) (violations : List Violation) (strays : List Descriptor) (m : Beside d is_told w channels ports agents violations) where
  abbrev other : World
  other = renewed w channels ports agents violations strays

  abbrev Both : Option World → Option World → Type 0
  Both one two = Follows (Mirrors d is_told) one two

  -- ---- parts

  pub with_links : (cs cs' : List (List Channel)) → MirrorsLinks d cs cs' → Mirrors d is_told (with_channels w cs) (with_channels other cs')
  with_links cs cs' new = record { tree = refl; routes = refl; configs = m.configs; links = new; agents = m.agents; violations = m.violations }

  pub with_parts : (cs cs' : List (List Channel)) (e e' : AgentsView) → MirrorsLinks d cs cs' → MirrorsAgents d e e' → Mirrors d is_told (with_both w cs e) (with_both other cs' e')
  with_parts cs cs' e e' links new = record { tree = refl; routes = refl; configs = m.configs; links = links; agents = new; violations = m.violations }

  -- ---- begins

  pub own_begin : (origin : Origin) (one two : Option Made) → Alike (MirrorsMade d) one two → Both (option_map (with_agents w) (emitted_if w.agents origin one)) (option_map (with_agents other) (emitted_if agents origin two))
  own_begin origin one two alike =
      follows_mapped (MirrorsAgents d) (Mirrors d is_told) (with_agents w) (with_agents other) (λ e e' both. with_parts w.channels channels e e' m.links both) (emitted_if w.agents origin one) (emitted_if agents origin two)
      (follows_mapped (MirrorsMade d) (MirrorsAgents d) (emitted w.agents origin) (emitted agents origin) (λ x y made. emitted_too d w.agents agents m.agents origin x y made) one two (followed (MirrorsMade d) one two alike))

  -- ---- within a link

  on_link : (found : Option LinkEnd) (step : Channel → Option Channel) → ((end : LinkEnd) → found ≡ Some end → Follows (MirrorsLink d) (step (channel_at w.channels end)) (step (channel_at channels end)))
      → Both (option_map (with_channels w) (on_channel w.channels found step)) (option_map (with_channels other) (on_channel channels found step))
  on_link None step both = tt
  on_link (Some end) step both =
      follows_mapped (MirrorsLinks d) (Mirrors d is_told) (with_channels w) (with_channels other) with_links (option_map (with_channel w.channels end) (step (channel_at w.channels end))) (option_map (with_channel channels end) (step (channel_at channels end)))
      (follows_mapped (MirrorsLink d) (MirrorsLinks d) (with_channel w.channels end) (with_channel channels end) (λ c c' new. mirrors_with d w.channels channels m.links end c c' new) (step (channel_at w.channels end)) (step (channel_at channels end)) (both end refl))

  pub own_send : (class : Class) (found : Option LinkEnd) → is_number d (option_and_then (home_sent w class) found) ≡ true
      → Both (option_map (with_channels w) (on_channel w.channels found (send class))) (option_map (with_channels other) (on_channel channels found (send class)))
  own_send class found is = on_link found (send class) (λ end e.
      send_too d (channel_at w.channels end) (channel_at channels end) (mirrors_at d w.channels channels m.links end) class (ap (λ (o : Option LinkEnd). is_number d (option_and_then (home_sent w class) o)) (sym e) ∙ is))

  pub own_receive : (found : Option LinkEnd) → is_number d (option_and_then (home_travelling w) found) ≡ true
      → Both (option_map (with_channels w) (on_channel w.channels found deliver)) (option_map (with_channels other) (on_channel channels found deliver))
  own_receive found is = on_link found deliver (λ end e.
      receive_too d (channel_at w.channels end) (channel_at channels end) (mirrors_at d w.channels channels m.links end) (ap (λ (o : Option LinkEnd). is_number d (option_and_then (home_travelling w) o)) (sym e) ∙ is))

  -- ---- onto a link

  module _ (roomy : IsRoomy w) (origin : Origin) (class : Class) where
    entered : (found : Option LinkEnd) (frame : Descriptor) (left : List Descriptor) → IsOwn d frame → Both (entered_at w origin class found (frame, left)) (entered_at other origin class found (frame, own d left))
    entered None frame left is = tt
    entered (Some end) frame left is =
        follows_unless (Mirrors d is_told) (is_full class (channel_at w.channels end)) (is_full class (channel_at channels end)) _ _ (place_too d w.channels channels m.links end class (roomy end class))
        (with_parts _ _ _ _ (mirrors_put d w.channels channels m.links end frame is) (taken_from_too d w.agents agents m.agents origin left))

    entered_if : (o : Option (Descriptor × List Descriptor)) → eligible class (waiting_of w.agents.outboxes origin) ≡ o → is_number d (home_of o) ≡ true
        → Both (option_and_then (entered_at w origin class (sender_of w.tree.links (link_of origin))) o) (enter other origin class)
    entered_if None e is = absurd cc
    entered_if (Some t) e is =
        let found : eligible class (waiting_of agents.outboxes origin) ≡ Some (t.0, own d t.1) =
        ap (λ (boxes : List Outbox). eligible class (waiting_of boxes origin)) m.agents.boxes ∙ (ap (eligible class) (own_waiting d w.agents.outboxes origin) ∙ own_eligible d class (waiting_of w.agents.outboxes origin) t.1 t.0 e is) in
        subst (λ (p : Option (Descriptor × List Descriptor)). Both (entered_at w origin class (sender_of w.tree.links (link_of origin)) t) (option_and_then (entered_at other origin class (sender_of w.tree.links (link_of origin))) p)) (sym found)
        (entered (sender_of w.tree.links (link_of origin)) t.0 t.1 is)

    pub own_enter : is_number d (home_of (eligible class (waiting_of w.agents.outboxes origin))) ≡ true → Both (enter w origin class) (enter other origin class)
    own_enter is = entered_if (eligible class (waiting_of w.agents.outboxes origin)) refl is
