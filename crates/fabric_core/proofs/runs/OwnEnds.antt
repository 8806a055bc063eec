-- A packet of a domain that the host, a function or a port takes, in a guarded fabric and in one without other domains.
use Rattle.std.proofs.Common.{◌≡◌, ℕ, Bool, true, false, cond, List, Option, Some, None, refl, sym, subst}
use Rattle.std.specs.Prelude.{is_some, option_map}
use Rattle.fab_types.specs.declared.class.Class.{Class}
use Rattle.fab_types.specs.declared.origin.Origin.{Origin}
use Rattle.fab_types.specs.declared.origin.Origin.TheVariants as origin
use Rattle.fab_types.specs.declared.violation.Violation.{Violation}
use Rattle.frame_log.specs.Descriptor.{Descriptor}
use Rattle.domain.specs.declared.entry.Entry.{Entry}
use Rattle.domain.specs.declared.entry.Entry.TheVariants as entry
use Rattle.domains.specs.Agents.{AgentsView, emitted, emitted_if, is_function_of}
use Rattle.link.specs.Channels.{Channel, is_full}
use Rattle.port.specs.Turns.{PortView}
use Rattle.domains.specs.Domains.{Made, made, place_of_function}
use Rattle.topology.specs.Links.{sender_of}
use Rattle.topology.specs.declared.nodes.LinkEnd.{LinkEnd}
use Rattle.interconnect.specs.Moves.{channel_at, put_at}
use Rattle.fabric_core.specs.Arrivals.{Taken, arrive, arrived, arrived_by, ended, received_at, agents_by_host, from_host, own_by_function, own_by_host, relayed, arrive_at_host, arrived_at_host, arrived_at_host_by, taken, to_function, to_host}
use Rattle.received.specs.declared.received.Received.{Received}
use Rattle.received.specs.Received.{received_at_host, received_by_function}
use Rattle.fabric_core.specs.Isolation.{home_of_taken, is_number}
use Rattle.fabric_core.specs.Soundness.{IsGuardedFabric}
use Rattle.fabric_core.specs.World.{World, with_channels}
use Rattle.fabric_core.proofs.soundness.GuardedAliens.{home_at_function, home_at_host}
use Rattle.fabric_core.proofs.runs.MirroredAgents.{AreNumbered, emitted_too, function_of_same, made_home, silent_too}
use Rattle.fabric_core.proofs.runs.Begun.{function_same}
use Rattle.fabric_core.proofs.runs.MirroredLinks.{mirrors_put, place_too, taken_too}
use Rattle.fabric_core.proofs.runs.Mirrors.{Alike, Follows, Mirrors, MirrorsAgents, MirrorsLinks, MirrorsMade, MirrorsTaken, alike_mapped, follows_mapped, follows_unless}
use Rattle.fabric_core.proofs.runs.OwnMoves.{Beside, IsRoomy, with_links, with_parts}
use Rattle.fabric_core.proofs.runs.OwnOnes.{IsOwn}
use Rattle.fabric_core.proofs.invariant.Renewing.{renewed}

-- ---- an entry of its home

abbrev AgentsAlike : ℕ → Option AgentsView → Option AgentsView → Type 0
AgentsAlike d one two = Alike (MirrorsAgents d) one two

module _ (d : ℕ) (one other : AgentsView) (numbers : AreNumbered one.domains) (m : MirrorsAgents d one other) (frame : Descriptor) (is : IsOwn d frame) where
  at_home : (act : Entry) → Alike (MirrorsMade d) (made one.domains frame.domain act) (made other.domains frame.domain act)
  at_home act = made_home d one.domains other.domains numbers m.domains act frame.domain is

  emitted_alike : (from : Origin) (x y : Option Made) → Alike (MirrorsMade d) x y → AgentsAlike d (emitted_if one from x) (emitted_if other from y)
  emitted_alike from x y alike = alike_mapped (MirrorsMade d) (MirrorsAgents d) (emitted one from) (emitted other from) (emitted_too d one other m from) x y alike

  delivered_alike : (x y : Option Made) → Alike (MirrorsMade d) x y
      → AgentsAlike d (option_map (λ (m : Made). record { domains = m.domains; outboxes = one.outboxes }) x) (option_map (λ (m : Made). record { domains = m.domains; outboxes = other.outboxes }) y)
  delivered_alike x y alike = alike_mapped (MirrorsMade d) (MirrorsAgents d) _ _ (silent_too d one other m) x y alike

  pub host_alike : (received : Received) → AgentsAlike d (own_by_host one frame received) (own_by_host other frame received)
  host_alike Received.Relayed = tt
  host_alike Received.Request = emitted_alike (origin.Host frame.domain) (made one.domains frame.domain (entry.Carry frame.number)) (made other.domains frame.domain (entry.Carry frame.number)) (at_home (entry.Carry frame.number))
  host_alike Received.Completion = delivered_alike (made one.domains frame.domain (entry.Deliver frame.number)) (made other.domains frame.domain (entry.Deliver frame.number)) (at_home (entry.Deliver frame.number))
  host_alike Received.Unknown = tt

  carried_alike : (function : ℕ) (b : Bool) → AgentsAlike d (emitted_if one (origin.Function function) (cond b (made one.domains frame.domain (entry.Carry frame.number)) None)) (emitted_if other (origin.Function function) (cond b (made other.domains frame.domain (entry.Carry frame.number)) None))
  carried_alike function true = emitted_alike (origin.Function function) (made one.domains frame.domain (entry.Carry frame.number)) (made other.domains frame.domain (entry.Carry frame.number)) (at_home (entry.Carry frame.number))
  carried_alike function false = tt

  pub function_alike : (function : ℕ) (received : Received) → AgentsAlike d (own_by_function one function frame received) (own_by_function other function frame received)
  function_alike function Received.Relayed = tt
  function_alike function Received.Request =
      subst (λ (b : Bool). AgentsAlike d (own_by_function one function frame Received.Request) (emitted_if other (origin.Function function) (cond b (made other.domains frame.domain (entry.Carry frame.number)) None)))
      (sym (function_of_same one.domains other.domains m.domains.shares function frame.domain)) (carried_alike function (is_function_of one.domains function frame.domain))
  function_alike function Received.Completion = delivered_alike (made one.domains frame.domain (entry.Deliver frame.number)) (made other.domains frame.domain (entry.Deliver frame.number)) (at_home (entry.Deliver frame.number))
  function_alike function Received.Unknown = tt

module _ (d : ℕ) (is_told : Violation → Bool) (w : World) (channels : List (List Channel)) (ports : List PortView) (agents : AgentsView) (violations : List Violation) (strays : List Descriptor) (m : Beside d is_told w channels ports agents violations) where
  abbrev other : World
  other = renewed w channels ports agents violations strays

  abbrev Both : Option World → Option World → Type 0
  Both one two = Follows (Mirrors d is_told) one two

  -- ---- what was taken

  module _ (t : Taken) (cs : List (List Channel)) (is : IsOwn d t.frame) (links : MirrorsLinks d t.channels cs) where
    abbrev too : Taken
    too = record { frame = t.frame; channels = cs }

    ended_too : (o p : Option AgentsView) → AgentsAlike d o p → Mirrors d is_told (ended w t o) (ended other too p)
    ended_too None None alike = record { tree = refl; routes = refl; configs = m.configs; links = links; agents = m.agents; violations = m.violations }
    ended_too (Some e) (Some e') alike = with_parts d is_told w channels ports agents violations strays m t.channels cs e e' links alike
    ended_too None (Some e') alike = absurd alike
    ended_too (Some e) None alike = absurd alike

    -- it goes to a sender, if that has a place for it
    put_too : (full full' : Bool) (end : LinkEnd) → (full ≡ false → full' ≡ false) → Both (cond full None (Some (with_channels w (put_at t.channels end t.frame)))) (cond full' None (Some (with_channels other (put_at cs end t.frame))))
    put_too full full' end free =
        follows_unless (Mirrors d is_told) full full' _ _ free (with_links d is_told w channels ports agents violations strays m _ _ (mirrors_put d t.channels cs links end t.frame is))

    module _ (roomy : IsRoomy w) where
      is_free : (class : Class) (end : LinkEnd) → is_full class (channel_at w.channels end) ≡ false → is_full class (channel_at channels end) ≡ false
      is_free class end = place_too d w.channels channels m.links end class (roomy end class)

      relayed_too : (class : Class) (found : Option LinkEnd) → Both (relayed w t class found) (relayed other too class found)
      relayed_too class None = tt
      relayed_too class (Some end) = put_too (is_full class (channel_at w.channels end)) (is_full class (channel_at channels end)) end (is_free class end)

      -- ---- at the host and at functions

      module _ (g : IsGuardedFabric w) (g' : IsGuardedFabric other) (numbers : AreNumbered w.agents.domains) where
        at_host : (received : Received) → Mirrors d is_told (ended w t (agents_by_host w.routes.ports w.agents t.frame received)) (ended other too (agents_by_host w.routes.ports agents t.frame received))
        at_host received =
            subst (λ (o : Option AgentsView). Mirrors d is_told (ended w t o) (ended other too (agents_by_host w.routes.ports agents t.frame received))) (sym (home_at_host w g t.frame received))
            (subst (λ (o : Option AgentsView). Mirrors d is_told (ended w t (own_by_host w.agents t.frame received)) (ended other too o)) (sym (home_at_host other g' t.frame received))
            (ended_too (own_by_host w.agents t.frame received) (own_by_host agents t.frame received) (host_alike d w.agents agents numbers m.agents t.frame is received)))

        at_host_too : (class : Class) (received : Received) → Both (arrived_at_host_by w class t received) (arrived_at_host_by other class too received)
        at_host_too class Received.Relayed = relayed_too class (sender_of w.tree.links from_host)
        at_host_too class Received.Request = at_host Received.Request
        at_host_too class Received.Completion = at_host Received.Completion
        at_host_too class Received.Unknown = at_host Received.Unknown

        arrived_with : (function : ℕ) (received : Received) → Mirrors d is_told (arrived_by w function t received) (arrived_by other function too received)
        arrived_with function received =
            subst (λ (o : Option AgentsView). Mirrors d is_told (ended w t o) (arrived_by other function too received)) (sym (home_at_function w g function t.frame received))
            (subst (λ (o : Option AgentsView). Mirrors d is_told (ended w t (own_by_function w.agents function t.frame received)) (ended other too o)) (sym (home_at_function other g' function t.frame received))
            (ended_too (own_by_function w.agents function t.frame received) (own_by_function agents function t.frame received) (function_alike d w.agents agents numbers m.agents t.frame is function received)))

        arrived_too : (function : ℕ) → Mirrors d is_told (arrived_by w function t (received_at w function t.frame)) (arrived_by other function too (received_at other function t.frame))
        arrived_too function =
            subst (λ (b : Bool). Mirrors d is_told (arrived_by w function t (received_at w function t.frame)) (arrived_by other function too (cond b (received_by_function w.routes.ports function t.frame.head.parties t.frame.head.header) Received.Unknown)))
            (sym (function_of_same w.agents.domains agents.domains m.agents.domains.shares function t.frame.domain)) (arrived_with function (received_at w function t.frame))

  module _ (roomy : IsRoomy w) (g : IsGuardedFabric w) (g' : IsGuardedFabric other) (numbers : AreNumbered w.agents.domains) where
    at_host_by : (class : Class) (o p : Option Taken) → Follows (MirrorsTaken d) o p → Both (arrived_at_host w class o) (arrived_at_host other class p)
    at_host_by class None p so = tt
    at_host_by class (Some t) None so = absurd so
    at_host_by class (Some t) (Some t') so =
        subst (λ (x : Taken). Both (arrived_at_host w class (Some t)) (arrived_at_host other class (Some x))) so.is
        (at_host_too t so.channels so.own so.links roomy g g' numbers class (received_at_host t.frame))

    -- the host takes it in both
    pub own_at_host : (class : Class) → is_number d (home_of_taken (taken w to_host class)) ≡ true → Both (arrive_at_host w class) (arrive_at_host other class)
    own_at_host class is = at_host_by class (taken w to_host class) (taken other to_host class) (taken_too d w.channels channels m.links class (sender_of w.tree.links to_host) is)

    arrive_by : (function : ℕ) (b : Bool) (o p : Option Taken) → Follows (MirrorsTaken d) o p → Both (cond b (arrived w function o) None) (cond b (arrived other function p) None)
    arrive_by function false o p so = tt
    arrive_by function true o p so =
        follows_mapped (MirrorsTaken d) (Mirrors d is_told) (λ (t : Taken). arrived_by w function t (received_at w function t.frame)) (λ (t : Taken). arrived_by other function t (received_at other function t.frame))
        (λ t t' both. subst (λ (x : Taken). Mirrors d is_told (arrived_by w function t (received_at w function t.frame)) (arrived_by other function x (received_at other function x.frame))) both.is
        (arrived_too t both.channels both.own both.links roomy g g' numbers function)) o p so

    -- a function does
    pub own_arrive : (function : ℕ) (class : Class) → is_number d (home_of_taken (taken w (to_function function) class)) ≡ true → Both (arrive w function class) (arrive other function class)
    own_arrive function class is =
        subst (λ (o : Option ℕ). Both (arrive w function class) (cond (is_some o) (arrived other function (taken other (to_function function) class)) None)) (sym (function_same w.agents.domains agents.domains m.agents.domains.shares function))
        (arrive_by function (is_some (place_of_function w.agents.domains function)) (taken w (to_function function) class) (taken other (to_function function) class)
        (taken_too d w.channels channels m.links class (sender_of w.tree.links (to_function function)) is))
