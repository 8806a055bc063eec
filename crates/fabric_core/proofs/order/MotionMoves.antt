-- The motions of begins, and of packets that move on links and onto them.
use Rattle.std.proofs.Common.{◌≡◌, ℕ, Bool, true, false, cond, List, [], ◌∷◌, ◌++◌, Option, Some, None, refl, sym, ◌∙◌, subst}
use Rattle.std.specs.Prelude.{IsSome, option_map}
use Rattle.std.specs.Option.{option_and_then}
use Rattle.std.proofs.lemmas.Option.{same_Some}
use Rattle.fab_types.specs.declared.place.Direction.{Direction}
use Rattle.fab_types.specs.declared.origin.Origin.{Origin}
use Rattle.fab_types.specs.declared.origin.Origin.TheVariants.{Function, Host}
use Rattle.fab_types.specs.declared.place.Place.TheVariants.{Outbox, Egress, Wire, Ingress}
use Rattle.frame_log.specs.Descriptor.{Descriptor}
use Rattle.credit.specs.declared.counters.Counters.{Counters}
use Rattle.fab_types.specs.declared.host_access.HostAccess.{HostAccess}
use Rattle.domain.specs.declared.entry.Entry.{Entry}
use Rattle.domain.specs.declared.entry.Entry.TheVariants as entry
use Rattle.domains.specs.Agents.{accessed, emitted, emitted_if, home_of, submitted, taken_from, ticked, waiting_of, with_waiting}
use Rattle.link.specs.Channels.{Channel, has_room, is_full, deliver, received_of, same_counters, send, sent_on, spent, update_fc, unspent}
use Rattle.lane.specs.Lanes.{Class, eligible}
use Rattle.domains.specs.Domains.{Made, made_at, place_of, place_of_function}
use Rattle.topology.specs.Links.{sender_of}
use Rattle.topology.specs.declared.nodes.LinkEnd.{LinkEnd}
use Rattle.interconnect.specs.Moves.{channel_at, on_channel, put_at, with_channel}
use Rattle.fabric_core.specs.Events.{enter, entered_at, link_of}
use Rattle.fabric_core.specs.Invariant.{IsConsistent}
use Rattle.fabric_core.specs.Soundness.{IsGuardedFabric}
use Rattle.fabric_core.specs.Trails.{standing_at, standing_in}
use Rattle.fabric_core.specs.World.{World, with_both, with_channels, with_agents}
use Rattle.fabric_core.proofs.order.Boxes.{joined_in, left_outbox}
use Rattle.fabric_core.proofs.order.Motions.{Motion, Leaps, Starts}
use Rattle.fabric_core.proofs.soundness.Guarding.{one_direction}
use Rattle.fabric_core.proofs.invariant.Renewing.{sender_there}
use Rattle.fabric_core.proofs.invariant.Settling.{made_from}
use Rattle.fabric_core.proofs.invariant.Standing.{IsThere}
use Rattle.fabric_core.proofs.order.AtPlaces.{AreSentApart, leave_and_join, put_to, received_there, sent_there, still_there}

module _ (w w' : World) (kept : IsConsistent w) (g : IsGuardedFabric w) where
  pub apart : AreSentApart w.tree.links
  apart = λ one other end e h. one_direction w g one other end e h

  abbrev Does : World → Type 0
  Does new = Motion g.platform w new

  -- ---- begins

  begun : (entry : Entry) (place : Option ℕ) (origin : Origin) (o : Option Made) → Starts w entry place origin → home_of w.agents.domains origin ≡ place → made_at w.agents.domains entry place ≡ o
      → option_map (with_agents w) (emitted_if w.agents origin o) ≡ Some w' → Does w'
  begun entry place origin None starts home e is = absurd cc
  begun entry place origin (Some m) starts home e is =
      subst Does (same_Some (with_agents w (emitted w.agents origin m)) w' is)
      (Motion.Begins entry place origin m starts e (joined_in w.tree.links w.channels w.agents.domains w.agents.outboxes origin m.sent kept.settled (subst IsSome (sym (home ∙ (made_from w.agents.domains entry place m e).at_number)) refl)) refl)

  pub motion_submit : (function : ℕ) (bytes : List ℕ) → option_map (with_agents w) (submitted w.agents function bytes) ≡ Some w' → Does w'
  motion_submit function bytes is = begun (entry.Submit function bytes) (place_of_function w.agents.domains function) (Function function) (made_at w.agents.domains (entry.Submit function bytes) (place_of_function w.agents.domains function)) (Starts.Submits function bytes) refl refl is

  pub motion_tick : (function : ℕ) → option_map (with_agents w) (ticked w.agents function) ≡ Some w' → Does w'
  motion_tick function is = begun (entry.Tick function) (place_of_function w.agents.domains function) (Function function) (made_at w.agents.domains (entry.Tick function) (place_of_function w.agents.domains function)) (Starts.Ticks function) refl refl is

  pub motion_access : (domain : ℕ) (access : HostAccess) → option_map (with_agents w) (accessed w.agents domain access) ≡ Some w' → Does w'
  motion_access domain access is = begun (entry.Mmio access) (place_of w.agents.domains domain) (Host domain) (made_at w.agents.domains (entry.Mmio access) (place_of w.agents.domains domain)) (Starts.Accesses domain access) refl refl is

  -- ---- within a link

  module _ (direction : Direction) (end : LinkEnd) (from : sender_of w.tree.links direction ≡ Some end) where
    there : IsThere w.channels end
    there = sender_there w w.channels direction end kept refl from

    abbrev c : Channel
    c = channel_at w.channels end

    abbrev Leaves : Channel → Type 0
    Leaves c' = Does (with_channels w (with_channel w.channels end c'))

    sent_by : (class : Class) (c' : Channel) (taken : Option (Descriptor × List Descriptor)) → eligible class c.egress ≡ taken → sent_on c taken ≡ Some c' → Leaves c'
    sent_by class c' None e is = absurd cc
    sent_by class c' (Some t) e is = by (has_room c.left t.0.head.cost) is
      where
        sent : Channel
        sent = record { start = c.start; left = spent c.left t.0.head.cost; egress = t.1; wire = c.wire ++ t.0 ∷ []; ingress = c.ingress }

        by : (b : Bool) → cond b (Some (record { start = c.start; left = spent c.left t.0.head.cost; egress = t.1; wire = c.wire ++ t.0 ∷ []; ingress = c.ingress })) None ≡ Some c' → Leaves c'
        by true is =
            subst Leaves (same_Some _ c' is)
            (Motion.Goes (Egress direction) (Wire direction) t.0 (Leaps.Sent direction) (sent_there w.tree.links w.channels direction end apart from w.agents.outboxes class t.0 t.1 _ there e refl refl refl) refl)
        by false is = absurd cc

    received_by : (c' : Channel) (wire : List Descriptor) → c.wire ≡ wire → received_of c wire ≡ Some c' → Leaves c'
    received_by c' [] e is = absurd cc
    received_by c' (frame ∷ frames) e is =
        subst Leaves (same_Some _ c' is)
        (Motion.Goes (Wire direction) (Ingress direction) frame (Leaps.Received direction) (received_there w.tree.links w.channels direction end apart from w.agents.outboxes frame frames _ there e refl refl refl) refl)

    told_by : (c' : Channel) (most : Counters) (b : Bool) → cond b None (Some (record { start = c.start; left = most; egress = c.egress; wire = c.wire; ingress = c.ingress })) ≡ Some c' → Leaves c'
    told_by c' most true is = absurd cc
    told_by c' most false is =
        subst Leaves (same_Some _ c' is) (Motion.Stays (still_there w.tree.links w.channels direction end apart from w.agents.outboxes _ refl refl refl) refl)

    stepped : (o : Option Channel) → ((c' : Channel) → o ≡ Some c' → Leaves c') → option_map (with_channels w) (option_map (with_channel w.channels end) o) ≡ Some w' → Does w'
    stepped None leaves is = absurd cc
    stepped (Some c') leaves is = subst Does (same_Some (with_channels w (with_channel w.channels end c')) w' is) (leaves c' refl)

  on_link : (direction : Direction) (step : Channel → Option Channel) → ((end : LinkEnd) → sender_of w.tree.links direction ≡ Some end → (c' : Channel) → step (channel_at w.channels end) ≡ Some c' → Does (with_channels w (with_channel w.channels end c')))
      → option_map (with_channels w) (on_channel w.channels (sender_of w.tree.links direction) step) ≡ Some w' → Does w'
  on_link direction step leaves is = by (sender_of w.tree.links direction) refl is
    where
      by : (found : Option LinkEnd) → sender_of w.tree.links direction ≡ found → option_map (with_channels w) (on_channel w.channels found step) ≡ Some w' → Does w'
      by None from is = absurd cc
      by (Some end) from is = stepped direction end from (step (channel_at w.channels end)) (leaves end from) is

  pub motion_send : (direction : Direction) (class : Class) → option_map (with_channels w) (on_channel w.channels (sender_of w.tree.links direction) (send class)) ≡ Some w' → Does w'
  motion_send direction class is = on_link direction (send class) (λ end from c' e. sent_by direction end from class c' (eligible class (channel_at w.channels end).egress) refl e) is

  pub motion_receive : (direction : Direction) → option_map (with_channels w) (on_channel w.channels (sender_of w.tree.links direction) deliver) ≡ Some w' → Does w'
  motion_receive direction is = on_link direction deliver (λ end from c' e. received_by direction end from c' (channel_at w.channels end).wire refl e) is

  pub motion_update_fc : (direction : Direction) → option_map (with_channels w) (on_channel w.channels (sender_of w.tree.links direction) update_fc) ≡ Some w' → Does w'
  motion_update_fc direction is =
      on_link direction update_fc
      (λ end from c' e. let x = channel_at w.channels end in let most = unspent x.start (x.wire ++ x.ingress) in told_by direction end from c' most (same_counters x.left most) e) is

  -- ---- onto a link

  entered : (origin : Origin) (class : Class) (end : LinkEnd) (t : Descriptor × List Descriptor) → sender_of w.tree.links (link_of origin) ≡ Some end → eligible class (waiting_of w.agents.outboxes origin) ≡ Some t → (b : Bool)
      → cond b None (Some (with_both w (put_at w.channels end t.0) (taken_from w.agents origin t.1))) ≡ Some w' → Does w'
  entered origin class end t from e true is = absurd cc
  entered origin class end t from e false is =
      let boxes = with_waiting w.agents.outboxes origin t.1 in
      subst Does (same_Some (with_both w (put_at w.channels end t.0) (taken_from w.agents origin t.1)) w' is)
      (Motion.Goes (Outbox origin) (Egress (link_of origin)) t.0 (Leaps.Enters origin)
      (leave_and_join (standing_at w) (standing_in w.tree.links w.channels boxes) (standing_in w.tree.links (put_at w.channels end t.0) boxes) (Outbox origin) (Egress (link_of origin)) t.0 (λ same. cc)
      (left_outbox w.tree.links w.channels w.agents.outboxes origin class t.0 t.1 e)
      (put_to w.tree.links w.channels (link_of origin) end apart from boxes t.0 (sender_there w w.channels (link_of origin) end kept refl from))) refl)

  entered_to : (origin : Origin) (class : Class) (found : Option LinkEnd) (t : Descriptor × List Descriptor) → sender_of w.tree.links (link_of origin) ≡ found → eligible class (waiting_of w.agents.outboxes origin) ≡ Some t → entered_at w origin class found t ≡ Some w' → Does w'
  entered_to origin class None t from e is = absurd cc
  entered_to origin class (Some end) t from e is = entered origin class end t from e (is_full class (channel_at w.channels end)) is

  entered_if : (origin : Origin) (class : Class) (o : Option (Descriptor × List Descriptor)) → eligible class (waiting_of w.agents.outboxes origin) ≡ o
      → option_and_then (entered_at w origin class (sender_of w.tree.links (link_of origin))) o ≡ Some w' → Does w'
  entered_if origin class None e is = absurd cc
  entered_if origin class (Some t) e is = entered_to origin class (sender_of w.tree.links (link_of origin)) t refl e is

  pub motion_enter : (origin : Origin) (class : Class) → enter w origin class ≡ Some w' → Does w'
  motion_enter origin class is = entered_if origin class (eligible class (waiting_of w.agents.outboxes origin)) refl is
