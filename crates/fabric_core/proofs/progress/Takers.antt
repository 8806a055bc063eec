-- Where no event moves anything: what takes from the receiver of each direction has taken all packets of a class, if those have places
-- where they go next.
use Rattle.std.proofs.Common.{◌≡◌, ℕ, ◌≤◌, Bool, true, false, cond, List, [], get_or, Option, Some, None, refl, sym, ap, ◌∙◌, subst}
use Rattle.std.specs.Prelude.{is_some, option_map}
use Rattle.std.specs.Option.{option_and_then}
use Rattle.fab_types.specs.declared.class.Class.{Class}
use Rattle.fab_types.specs.declared.class.Class.TheVariants.{Posted, NonPosted, Completion}
use Rattle.fab_types.specs.declared.place.Direction.{Direction}
use Rattle.fab_types.specs.declared.origin.Origin.{Origin}
use Rattle.frame_log.specs.Descriptor.{Descriptor}
use Rattle.domains.specs.Agents.{waiting_of}
use Rattle.domain.specs.declared.entry.Entry.TheVariants.{Refuse}
use Rattle.domains.specs.Domains.{made, place_of_function}
use Rattle.lane.specs.Lanes.{eligible}
use Rattle.link.specs.Channels.{Channel, count_in, deliver, is_full, send, update_fc}
use Rattle.port.specs.Configs.{Config}
use Rattle.port.specs.Courses.{course_of}
use Rattle.port.specs.declared.course.Forwarding.{Forwarding}
use Rattle.port.specs.declared.course.Forwarding.TheVariants.{To, Stop, NoCase}
use Rattle.topology.specs.Links.{sender_of}
use Rattle.topology.specs.declared.nodes.LinkEnd.{LinkEnd}
use Rattle.topology.specs.declared.places.PortPlace.{PortPlace}
use Rattle.interconnect.specs.Moves.{channel_at, on_channel, put_at, with_channel}
use Rattle.interconnect.specs.Passes.{index_of, no_place}
use Rattle.switch_output.specs.Vetted.{may_go_on}
use Rattle.fabric_core.specs.declared.event.Event.{Event}
use Rattle.fabric_core.specs.Events.{entered_at, link_of}
use Rattle.fabric_core.specs.Misrouting.{Misrouting, misrouting, misrouted, passed_unless}
use Rattle.fabric_core.specs.Passing.{Site, answer_waits, output_end, passed, passed_at, passed_by, passed_number, port_number, refused_by, strayed, turned}
use Rattle.fabric_core.specs.Arrivals.{Taken, arrived, from_host, relayed, arrived_at_host, arrived_at_host_by, taken_at, taken_from, to_function, to_host}
use Rattle.received.specs.declared.received.Received.{Received}
use Rattle.received.specs.Received.{received_at_host}
use Rattle.fabric_core.specs.Still.{IsStill}
use Rattle.fabric_core.specs.World.{World, with_channels}
use Rattle.fabric_core.proofs.progress.Classes.{MayPass, none_of, not_full}
use Rattle.fabric_core.proofs.progress.Senders.{IsAmple, sender_without, wire_empty}

-- ---- what nothing moves through

nothing_mapped : {X Y : Type 0} (f : X → Y) (o : Option X) → option_map f o ≡ None → o ≡ None
nothing_mapped f None e = refl
nothing_mapped f (Some x) e = absurd cc

-- it is no place that is missing
goes : {X : Type 0} (b : Bool) (x : X) → b ≡ false → cond b None (Some x) ≡ None → ⊥
goes true x e i = cc
goes false x e i = cc

goes_either : {X : Type 0} (b c : Bool) (x y : X) → b ≡ false → cond b None (cond c (Some x) (Some y)) ≡ None → ⊥
goes_either true c x y e i = cc
goes_either false true x y e i = cc
goes_either false false x y e i = cc

-- where the port of an ID is, and what it is
pub record IsThere (w : World) (id : ℕ) (place : PortPlace) (config : Config) : Type 0 where
  pub number : ℕ
  pub index : index_of w.tree.places id ≡ Some number
  pub place_is : get_or w.tree.places number no_place ≡ place
  pub config_is : (port_number w number).config ≡ config

abbrev pub sends : World → Direction → LinkEnd → Type 0
sends w direction end = sender_of w.tree.links direction ≡ Some end

-- the directions of links, as far as a packet of the class is concerned: each receiver starts with credits for any packet, and
-- each packet of the class may pass those in front of it
pub record IsOpen (w : World) (c : Class) : Type 0 where
  pub ample : (direction : Direction) (end : LinkEnd) → sends w direction end → IsAmple (channel_at w.channels end).start
  pub small : (direction : Direction) (end : LinkEnd) → sends w direction end → (f : Descriptor) (rest : List Descriptor) → eligible c (channel_at w.channels end).egress ≡ Some (f, rest) → f.head.cost.«data» ≤ 16
  pub passes_egress : (direction : Direction) (end : LinkEnd) → sends w direction end → MayPass c (channel_at w.channels end).egress
  pub passes_ingress : (direction : Direction) (end : LinkEnd) → sends w direction end → MayPass c (channel_at w.channels end).ingress

module _ (w : World) (still : IsStill w) where
  -- ---- one direction

  step_idle : (direction : Direction) (end : LinkEnd) (step : Channel → Option Channel) → sends w direction end → option_map (with_channels w) (on_channel w.channels (sender_of w.tree.links direction) step) ≡ None → step (channel_at w.channels end) ≡ None
  step_idle direction end step from idle =
      nothing_mapped (with_channel w.channels end) (step (channel_at w.channels end))
      (nothing_mapped (with_channels w) (option_map (with_channel w.channels end) (step (channel_at w.channels end)))
      (subst (λ (o : Option LinkEnd). option_map (with_channels w) (on_channel w.channels o step) ≡ None) from idle))

  pub wire_none : (direction : Direction) (end : LinkEnd) → sends w direction end → (channel_at w.channels end).wire ≡ []
  wire_none direction end from = wire_empty (channel_at w.channels end) (step_idle direction end deliver from (still.idle (Event.Take direction) refl))

  module _ (c : Class) (is_open : IsOpen w c) where
    -- no packet of the class waits on the direction
    pub record Without (direction : Direction) : Type 0 where
      pub egress : (end : LinkEnd) → sends w direction end → count_in c (channel_at w.channels end).egress ≡ 0
      pub ingress : (end : LinkEnd) → sends w direction end → count_in c (channel_at w.channels end).ingress ≡ 0

    pub without : (direction : Direction) → ((end : LinkEnd) → sends w direction end → count_in c (channel_at w.channels end).ingress ≡ 0) → Without direction
    without direction none = record {
      egress = λ end from. sender_without (channel_at w.channels end) c (is_open.ample direction end from)
          (step_idle direction end deliver from (still.idle (Event.Take direction) refl))
          (step_idle direction end update_fc from (still.idle (Event.Credit direction) refl))
          (step_idle direction end (send c) from (still.idle (Event.Send direction c) refl))
          (is_open.small direction end from) (is_open.passes_egress direction end from) (none end from);
      ingress = none;
    }

    -- none waits at a receiver from which none may be taken
    none_taken : (direction : Direction) (end : LinkEnd) → sends w direction end → ((f : Descriptor) (rest : List Descriptor) → eligible c (channel_at w.channels end).ingress ≡ Some (f, rest) → ⊥) → count_in c (channel_at w.channels end).ingress ≡ 0
    none_taken direction end from never = none_of c (channel_at w.channels end).ingress (is_open.passes_ingress direction end from) (go (eligible c (channel_at w.channels end).ingress) refl)
      where
        go : (o : Option (Descriptor × List Descriptor)) → eligible c (channel_at w.channels end).ingress ≡ o → eligible c (channel_at w.channels end).ingress ≡ None
        go None e = e
        go (Some (f, rest)) e = absurd (never f rest e)

    -- what is taken there
    taken_is : (end : LinkEnd) (f : Descriptor) (rest : List Descriptor) → eligible c (channel_at w.channels end).ingress ≡ Some (f, rest) → taken_at w.channels c (Some end) ≡ Some (taken_from w.channels end (f, rest))
    taken_is end f rest e = ap (option_map (taken_from w.channels end)) e

    -- ---- the host

    relays : (t : Taken) (end : LinkEnd) → sends w from_host end → count_in c (channel_at w.channels end).egress ≡ 0 → relayed w t c (sender_of w.tree.links from_host) ≡ None → ⊥
    relays t end from none idle =
        goes (is_full c (channel_at w.channels end)) (with_channels w (put_at t.channels end t.frame)) (not_full c (channel_at w.channels end) none)
        (subst (λ (o : Option LinkEnd). relayed w t c o ≡ None) from idle)

    arrives_at_host : (t : Taken) (r : Received) (end : LinkEnd) → sends w from_host end → count_in c (channel_at w.channels end).egress ≡ 0 → arrived_at_host_by w c t r ≡ None → ⊥
    arrives_at_host t Received.Relayed end from none idle = relays t end from none idle
    arrives_at_host t Received.Request end from none idle = cc
    arrives_at_host t Received.Completion end from none idle = cc
    arrives_at_host t Received.Unknown end from none idle = cc

    pub host_takes : (down : LinkEnd) → sends w from_host down → count_in c (channel_at w.channels down).egress ≡ 0 → (end : LinkEnd) → sends w to_host end → count_in c (channel_at w.channels end).ingress ≡ 0
    host_takes down from none end up = none_taken to_host end up (λ f rest e.
        arrives_at_host (taken_from w.channels end (f, rest)) (received_at_host f) down from none
        (subst (λ (o : Option Taken). arrived_at_host w c o ≡ None) (ap (taken_at w.channels c) up ∙ taken_is end f rest e) (still.idle (Event.Root c) refl)))

    -- ---- a function

    arrives : (function : ℕ) (b : Bool) (o : Option Taken) (t : Taken) → b ≡ true → o ≡ Some t → cond b (arrived w function o) None ≡ None → ⊥
    arrives function true None t e i idle = cc
    arrives function true (Some t') t e i idle = cc
    arrives function false o t e i idle = cc

    pub function_takes : (function : ℕ) → is_some (place_of_function w.agents.domains function) ≡ true → (end : LinkEnd) → sends w (to_function function) end → count_in c (channel_at w.channels end).ingress ≡ 0
    function_takes function there end down = none_taken (to_function function) end down (λ f rest e.
        arrives function (is_some (place_of_function w.agents.domains function)) (taken_at w.channels c (sender_of w.tree.links (to_function function))) (taken_from w.channels end (f, rest)) there (ap (taken_at w.channels c) down ∙ taken_is end f rest e)
        (still.idle (Event.Arrive function c) refl))

    -- ---- a port

    module _ (id : ℕ) (place : PortPlace) (config : Config) (there : IsThere w id place config) where
      abbrev pub site : Site
      site = record { number = there.number; node = place.node; config = config }

      -- each output that its course may name has a place, and so has the port's own for an answer
      pub record HasPlaces : Type 0 where
        pub outputs : (f : Descriptor) (output : ℕ) → course_of w.routes config f.head ≡ To output → count_in c (channel_at w.channels (output_end site output)).egress ≡ 0
        pub own : c ≡ NonPosted → count_in Completion (channel_at w.channels (output_end site config.own)).egress ≡ 0
        pub misroutes : (l : Misrouting) → misrouting w id c ≡ Some l → misrouted w l ≡ None → ⊥

      waits_not : (places : HasPlaces) (k : Class) → c ≡ k → answer_waits w site k ≡ false
      waits_not places Posted is = refl
      waits_not places NonPosted is = not_full Completion (channel_at w.channels (output_end site config.own)) (places.own is)
      waits_not places Completion is = refl

      moves : (places : HasPlaces) (t : Taken) (course : Forwarding) → course_of w.routes config t.frame.head ≡ course → passed_by w site c t course ≡ None → ⊥
      moves places t (To output) is idle =
          goes_either (is_full c (channel_at w.channels (output_end site output))) (may_go_on w.routes.ports t.frame) (with_channels w (put_at t.channels (output_end site output) t.frame)) (strayed w site t)
          (not_full c (channel_at w.channels (output_end site output)) (places.outputs t.frame output is)) idle
      moves places t (Stop report) is idle =
          goes (answer_waits w site c) (refused_by w site report t (made w.agents.domains t.frame.domain (Refuse t.frame.number))) (waits_not places c refl) idle
      moves places t NoCase is idle = cc

      -- its turn, over its own place
      turn_is : turned w id c ≡ option_and_then (passed w site c) (taken_at w.channels c place.input)
      turn_is =
          ap (passed_number w c) there.index
          ∙ (ap (λ (p : PortPlace). passed_at w c there.number p) there.place_is
          ∙ ap (λ (x : Config). option_and_then (passed w (record { number = there.number; node = place.node; config = x }) c) (taken_at w.channels c place.input)) there.config_is)

      turn_idle : (places : HasPlaces) → turned w id c ≡ None
      turn_idle places = go (misrouting w id c) refl (still.idle (Event.Pass id c) refl)
        where
          go : (o : Option Misrouting) → misrouting w id c ≡ o → passed_unless w id c o ≡ None → turned w id c ≡ None
          go None e idle = idle
          go (Some l) e idle = absurd (places.misroutes l e idle)

      pub port_takes : (direction : Direction) (end : LinkEnd) → place.input ≡ Some end → HasPlaces → sends w direction end → count_in c (channel_at w.channels end).ingress ≡ 0
      port_takes direction end input places from = none_taken direction end from (λ f rest e.
          moves places (taken_from w.channels end (f, rest)) (course_of w.routes config f.head) refl
          (subst (λ (o : Option Taken). option_and_then (passed w site c) o ≡ None) (ap (taken_at w.channels c) input ∙ taken_is end f rest e) (sym turn_is ∙ turn_idle places)))

  -- ---- an outbox

  module _ (c : Class) (origin : Origin) (end : LinkEnd) (from : sends w (link_of origin) end) (none : count_in c (channel_at w.channels end).egress ≡ 0) where
    pub outbox_without : MayPass c (waiting_of w.agents.outboxes origin) → count_in c (waiting_of w.agents.outboxes origin) ≡ 0
    outbox_without opens = none_of c (waiting_of w.agents.outboxes origin) opens (go (eligible c (waiting_of w.agents.outboxes origin)) refl)
      where
        enters : (taken : Descriptor × List Descriptor) → entered_at w origin c (sender_of w.tree.links (link_of origin)) taken ≡ None → ⊥
        enters taken idle = goes (is_full c (channel_at w.channels end)) _ (not_full c (channel_at w.channels end) none) (subst (λ (o : Option LinkEnd). entered_at w origin c o taken ≡ None) from idle)

        go : (o : Option (Descriptor × List Descriptor)) → eligible c (waiting_of w.agents.outboxes origin) ≡ o → eligible c (waiting_of w.agents.outboxes origin) ≡ None
        go None e = e
        go (Some taken) e = absurd (enters taken (subst (λ (o : Option (Descriptor × List Descriptor)). option_and_then (entered_at w origin c (sender_of w.tree.links (link_of origin))) o ≡ None) e (still.idle (Event.Enter origin c) refl)))
