-- A guarded fabric of other parts, and what moves on its links and onto them.
use Rattle.std.proofs.Common.{◌≡◌, Bool, true, false, cond, List, [], map, Option, Some, None, refl, sym, ap, ◌∙◌, subst}
use Rattle.std.specs.Prelude.{All, option_map}
use Rattle.std.specs.Option.{option_and_then}
use Rattle.std.proofs.lemmas.Option.{same_Some}
use Rattle.fab_types.specs.declared.place.Direction.{Direction}
use Rattle.fab_types.specs.declared.origin.Origin.{Origin}
use Rattle.fab_types.specs.declared.violation.Violation.{Violation}
use Rattle.frame_log.specs.Descriptor.{Descriptor}
use Rattle.domains.specs.Agents.{AgentsView, taken_from, waiting_of}
use Rattle.link.specs.Channels.{Channel, is_full}
use Rattle.lane.specs.Lanes.{Class, eligible}
use Rattle.topology.specs.Links.{sender_of}
use Rattle.topology.specs.Topologies.{Tree}
use Rattle.topology.specs.declared.nodes.LinkEnd.{LinkEnd}
use Rattle.topology.proofs.OwnEnds.{directions_apart}
use Rattle.interconnect.specs.Moves.{channel_at, on_channel, put_at, with_channel}
use Rattle.guarded_routes.specs.Sound.{IsSound}
use Rattle.fabric_core.specs.Events.{enter, entered_at, link_of}
use Rattle.fabric_core.specs.Places.{frames_on}
use Rattle.fabric_core.specs.Soundness.{IsGuardedFabric, IsWellKept, share_of}
use Rattle.fabric_core.specs.World.{World, with_both, with_channels}
use Rattle.fabric_core.proofs.invariant.Changing.{Changed}
use Rattle.fabric_core.proofs.invariant.Renewing.{renewed}
use Rattle.fabric_core.proofs.soundness.SoundBoxes.{SoundIn, sound_rest}
use Rattle.fabric_core.proofs.soundness.SoundLinks.{SoundFrom, SoundOn, sound_put, sound_step}

-- what is on links
pub links_sound : (w : World) (g : IsGuardedFabric w) → SoundOn g.platform w.tree.links w.channels
links_sound w g = record { there = g.sound.links; elsewhere = g.sound.elsewhere }

-- other directions and other agents, in which all is sound
pub guarded_with : (w : World) (g : IsGuardedFabric w) (channels : List (List Channel)) (agents : AgentsView) (violations : List Violation) → SoundOn g.platform w.tree.links channels → SoundIn g.platform agents.outboxes
    → map share_of agents.domains ≡ map share_of w.agents.domains → All IsWellKept agents.domains → IsGuardedFabric (renewed w channels w.ports agents violations w.strays)
guarded_with w g channels agents violations links boxes shares domains = record {
  platform = g.platform;
  guarded = g.guarded;
  of_it = record { tree = g.of_it.tree; routes = g.of_it.routes; configs = g.of_it.configs; shares = shares ∙ g.of_it.shares };
  sound = record { links = links.there; elsewhere = links.elsewhere; outboxes = boxes; ports = g.sound.ports; strays = g.sound.strays };
  domains = domains;
}

-- one direction alone is sent from an end
pub one_direction : (w : World) (g : IsGuardedFabric w) (one other : Direction) (end : LinkEnd) → sender_of w.tree.links one ≡ Some end → sender_of w.tree.links other ≡ Some end → one ≡ other
one_direction w g one other end e h =
    let same = g.of_it.tree in
    directions_apart g.platform g.guarded.laws one other end (ap (λ (t : Tree). sender_of t.links one) (sym same) ∙ e) (ap (λ (t : Tree). sender_of t.links other) (sym same) ∙ h)

-- a packet that is sound in a direction may be put to its sender
pub sound_from : (w : World) (g : IsGuardedFabric w) (direction : Direction) (end : LinkEnd) (frame : Descriptor) → sender_of w.tree.links direction ≡ Some end → IsSound g.platform direction frame → SoundFrom g.platform w.tree.links end frame
sound_from w g direction end frame from sound = record {
  there = λ other too. subst (λ (d : Direction). IsSound g.platform d frame) (one_direction w g direction other end from too) sound;
  sent = λ unsent. unsent direction from;
}

-- ---- within a link

stepped : (w w' : World) (g : IsGuardedFabric w) (end : LinkEnd) (o : Option Channel) → ((c' : Channel) → o ≡ Some c' → Changed (frames_on (channel_at w.channels end)) (frames_on c') [] [])
    → option_map (with_channels w) (option_map (with_channel w.channels end) o) ≡ Some w' → IsGuardedFabric w'
stepped w w' g end None moves is = absurd cc
stepped w w' g end (Some c) moves is =
    let channels = with_channel w.channels end c in
    subst IsGuardedFabric (same_Some (with_channels w channels) w' is)
    (guarded_with w g channels w.agents w.violations (sound_step g.platform w.tree.links w.channels end c (links_sound w g) (moves c refl)) g.sound.outboxes refl g.domains)

-- a step of one direction of a link, which keeps its packets
pub guarded_step : (w w' : World) (direction : Direction) (step : Channel → Option Channel) → IsGuardedFabric w → ((c c' : Channel) → step c ≡ Some c' → Changed (frames_on c) (frames_on c') [] [])
    → option_map (with_channels w) (on_channel w.channels (sender_of w.tree.links direction) step) ≡ Some w' → IsGuardedFabric w'
guarded_step w w' direction step g moves is = by (sender_of w.tree.links direction) is
  where
    by : (found : Option LinkEnd) → option_map (with_channels w) (on_channel w.channels found step) ≡ Some w' → IsGuardedFabric w'
    by None is = absurd cc
    by (Some end) is = stepped w w' g end (step (channel_at w.channels end)) (λ c' e. moves (channel_at w.channels end) c' e) is

-- ---- onto a link

entered : (w w' : World) (origin : Origin) (class : Class) (end : LinkEnd) (taken : Descriptor × List Descriptor) → IsGuardedFabric w → sender_of w.tree.links (link_of origin) ≡ Some end → eligible class (waiting_of w.agents.outboxes origin) ≡ Some taken → (b : Bool)
    → cond b None (Some (with_both w (put_at w.channels end taken.0) (taken_from w.agents origin taken.1))) ≡ Some w' → IsGuardedFabric w'
entered w w' origin class end taken g from e true is = absurd cc
entered w w' origin class end taken g from e false is =
    let channels = put_at w.channels end taken.0 in
    let agents = taken_from w.agents origin taken.1 in
    let left = sound_rest g.platform w.agents.outboxes origin class taken.0 taken.1 g.sound.outboxes e in
    subst IsGuardedFabric (same_Some (with_both w channels agents) w' is)
    (guarded_with w g channels agents w.violations (sound_put g.platform w.tree.links w.channels end taken.0 (links_sound w g) (sound_from w g (link_of origin) end taken.0 from left.1)) left.0 refl g.domains)

entered_if : (w w' : World) (origin : Origin) (class : Class) (o : Option (Descriptor × List Descriptor)) → IsGuardedFabric w → eligible class (waiting_of w.agents.outboxes origin) ≡ o
    → option_and_then (entered_at w origin class (sender_of w.tree.links (link_of origin))) o ≡ Some w' → IsGuardedFabric w'
entered_if w w' origin class None g e is = absurd cc
entered_if w w' origin class (Some taken) g e is = by (sender_of w.tree.links (link_of origin)) refl is
  where
    by : (found : Option LinkEnd) → sender_of w.tree.links (link_of origin) ≡ found → entered_at w origin class found taken ≡ Some w' → IsGuardedFabric w'
    by None from is = absurd cc
    by (Some end) from is = entered w w' origin class end taken g from e (is_full class (channel_at w.channels end)) is

pub guarded_enter : (w w' : World) (origin : Origin) (class : Class) → IsGuardedFabric w → enter w origin class ≡ Some w' → IsGuardedFabric w'
guarded_enter w w' origin class g is = entered_if w w' origin class (eligible class (waiting_of w.agents.outboxes origin)) g refl is
