-- Where no event moves anything, no packet of a class waits on any direction: downward from the host, since each port leads to buses
-- further below, then upward to the host. For one class after another.
use Rattle.std.proofs.Common.{◌≡◌, ℕ, zero, suc, ◌+◌, ◌*◌, ◌/◌, ◌<◌, ◌≤◌, ◌==◌, ◌⊎◌, inl, inr, true, List, length, Option, Some, None, refl, sym, ap, ◌∙◌, subst, arith, eqb-true}
use Rattle.std.specs.Prelude.{Contains, is_some, option_map}
use Rattle.fab_types.specs.Id.{bus_of}
use Rattle.fab_types.specs.declared.class.Class.{Class}
use Rattle.fab_types.specs.declared.class.Class.TheVariants.{NonPosted, Completion}
use Rattle.fab_types.specs.declared.place.Direction.{Direction}
use Rattle.fab_types.specs.declared.place.Way.{Way}
use Rattle.fab_types.specs.declared.place.Way.TheVariants.{Up, Down}
use Rattle.platform.specs.declared.parts.DownstreamPort.{DownstreamPort}
use Rattle.platform.specs.declared.parts.Switch.{Switch}
use Rattle.layout.specs.Laws.{IsPlatform}
use Rattle.platform.specs.Owners.{is_function}
use Rattle.platform.specs.Platform.{Platform}
use Rattle.platform.specs.Tree.{id_below, internal_bus, is_taken}
use Rattle.bridge.specs.Routes.{switch_at}
use Rattle.domains.specs.Domains.{place_of_function}
use Rattle.link.specs.Channels.{count_in}
use Rattle.port.specs.Configs.{downstream_config, exits_of, lane_to, upstream_config}
use Rattle.port.specs.declared.course.Forwarding.TheVariants.{To}
use Rattle.topology.specs.declared.links.Link.{Link}
use Rattle.topology.specs.declared.nodes.LinkEnd.{LinkEnd}
use Rattle.topology.specs.Links.{link_at, links_of, sender_of, sending_end}
use Rattle.topology.specs.Nodes.{downstream_end, upstream_end}
use Rattle.topology.specs.Places.{downstream_place, upstream_place}
use Rattle.topology.specs.Topologies.{Tree}
use Rattle.topology.proofs.Brought.{downstream_input, upstream_input}
use Rattle.topology.proofs.Buses.{IsWithin, StandsOn, above_bus, buses, one_port, port_stands}
use Rattle.topology.proofs.Members.{found}
use Rattle.topology.proofs.Outputs.{lane_to as sent_below, own_node, switch_up}
use Rattle.interconnect.specs.Moves.{channel_at}
use Rattle.fabric_core.specs.Misrouting.{Misrouting, misrouting, misrouted}
use Rattle.fabric_core.specs.Arrivals.{to_host}
use Rattle.fabric_core.specs.Soundness.{IsOfPlatform}
use Rattle.fabric_core.specs.Still.{IsStill}
use Rattle.fabric_core.specs.World.{World}
use Rattle.fabric_core.proofs.progress.Leads.{Below, Leads, LeadsDown, Lower, below, downstream_leads, lower, taker, upstream_leads}
use Rattle.fabric_core.proofs.progress.Ports.{listed_port, listed_switch, there_port, there_switch}
use Rattle.fabric_core.proofs.progress.Takers.{HasPlaces, IsOpen, Without, function_takes, host_takes, port_takes, sends, without}
use Rattle.fabric_core.proofs.soundness.Sites.{own_output_end}

abbrev up : ℕ → Direction
up id = record { lower = id; way = Up }

abbrev down : ℕ → Direction
down id = record { lower = id; way = Down }

-- a port's buses are those after its own
bus_below : (secondary : ℕ) → (secondary * 256 + 0 * 8 + 0) / 256 ≡ secondary
bus_below secondary = omega arith

-- the other direction of a link
sibling : (links : List Link) (id : ℕ) (end : LinkEnd) → sender_of links (up id) ≡ Some end → (other : LinkEnd) × (sender_of links (down id) ≡ Some other)
sibling links id end e = go (link_at links id) refl e
  where
    go : (o : Option Link) → link_at links id ≡ o → option_map (sending_end Up) o ≡ Some end → (other : LinkEnd) × (sender_of links (down id) ≡ Some other)
    go None at e = absurd cc
    go (Some link) at e = (link.above, ap (option_map (sending_end Down)) at)

module _ (platform : Platform) (laws : IsPlatform platform) where
  -- a port whose bus is the one behind the first below another stands below that
  pub record IsNearer (p q : DownstreamPort) : Type 0 where
    pub later : p.secondary + 1 < q.secondary
    pub last : q.subordinate ≤ p.subordinate

  nearer : (p q : DownstreamPort) → Contains platform.ports p → Contains platform.ports q → bus_of q.id ≡ bus_of (id_below p) + 1 → IsNearer p q
  nearer p q p_listed q_listed on = go (above_bus platform laws q q_listed)
    where
      go : (bus_of q.id ≡ 2) ⊎ ((above : DownstreamPort) × Contains platform.ports above × IsWithin above q) → IsNearer p q
      go (inl two) =
          let has = buses platform laws p p_listed in
          let own = has.own in
          let after = has.after in
          let bus = bus_below p.secondary in
          absurd (omega (arith, own, after, bus, two, on))
      go (inr (above, listed, is)) =
          let bus = bus_below p.secondary in
          let first = is.bus in
          let same : above ≡ p = one_port platform laws above p listed p_listed (omega (arith, bus, first, on)) in
          let after = (buses platform laws q q_listed).after in
          record { later = omega (arith, after, bus, on); last = subst (λ (x : DownstreamPort). q.subordinate ≤ x.subordinate) same is.last }

module _ (platform : Platform) (laws : IsPlatform platform) (w : World) (of_it : IsOfPlatform platform w) (many : length w.ports ≡ length w.tree.places) (still : IsStill w)
    (homes : (function : ℕ) → is_function platform.functions function ≡ true → is_some (place_of_function w.agents.domains function) ≡ true)
    (c : Class) (is_open : IsOpen w c)
    (done : c ≡ NonPosted → (direction : Direction) (end : LinkEnd) → sends w direction end → count_in Completion (channel_at w.channels end).egress ≡ 0)
    (misroutes : (id : ℕ) (l : Misrouting) → misrouting w id c ≡ Some l → misrouted w l ≡ None → ⊥) where
  sent : (direction : Direction) (end : LinkEnd) → sender_of (links_of platform) direction ≡ Some end → sends w direction end
  sent direction end e = ap (λ (t : Tree). sender_of t.links direction) of_it.tree ∙ e

  back : (direction : Direction) (end : LinkEnd) → sends w direction end → sender_of (links_of platform) direction ≡ Some end
  back direction end e = ap (λ (t : Tree). sender_of t.links direction) (sym of_it.tree) ∙ e

  abbrev Free : Direction → Type 0
  Free direction = Without w still c is_open direction

  -- ---- down

  module _ (switch : Switch) (at : switch_at platform.switches switch.id ≡ Some switch) (further : (q : DownstreamPort) → Contains platform.ports q → bus_of q.id ≡ internal_bus switch → Free (down (id_below q))) where
    within : Contains platform.switches switch
    within = listed_switch platform laws switch at

    down_output : (output : ℕ) → Below platform switch output → count_in c (channel_at w.channels (record { node = (upstream_end platform switch.id).node; output = output })).egress ≡ 0
    down_output output b = (further b.port b.listed b.on).egress (record { node = (upstream_end platform switch.id).node; output = output }) (sent (down (id_below b.port)) _ b.sent)

    upstream_places : HasPlaces w still c is_open switch.id (upstream_place platform switch) (upstream_config platform switch) (there_switch platform laws w of_it many switch at)
    upstream_places = record {
      outputs = λ f output e.
          let leads : LeadsDown (exits_of platform (internal_bus switch)) (To output) = subst (LeadsDown (exits_of platform (internal_bus switch))) e (upstream_leads w.routes (upstream_config platform switch) f.head refl) in
          down_output output (below platform laws switch leads.0 output within leads.1);
      own = λ is. done is (up switch.id) (record { node = (upstream_end platform switch.id).node; output = 0 }) (sent (up switch.id) _ (switch_up platform laws switch within));
      misroutes = misroutes switch.id;
    }

    switch_takes : (id : ℕ) → switch.id ≡ id → (end : LinkEnd) → sends w (down id) end → count_in c (channel_at w.channels end).ingress ≡ 0
    switch_takes id same end from =
        port_takes w still c is_open switch.id (upstream_place platform switch) (upstream_config platform switch) (there_switch platform laws w of_it many switch at) (down id) end
        (upstream_input platform laws switch within ∙ (ap (λ (n : ℕ). sender_of (links_of platform) (down n)) same ∙ back (down id) end from)) upstream_places from

  down_at : (id : ℕ) → ((q : DownstreamPort) → Contains platform.ports q → bus_of q.id ≡ bus_of id + 1 → Free (down (id_below q))) → Free (down id)
  down_at id further = without w still c is_open (down id) (λ end from. by end from (taker platform laws id (lower platform laws (down id) end (back (down id) end from)).taken))
    where
      by : (end : LinkEnd) → sends w (down id) end → ((switch : Switch) × (switch_at platform.switches id ≡ Some switch)) ⊎ (is_function platform.functions id ≡ true) → count_in c (channel_at w.channels end).ingress ≡ 0
      by end from (inl (switch, at)) =
          let same : switch.id ≡ id = eqb-true _ _ (found (λ (s : Switch). s.id == id) platform.switches switch at).1 in
          switch_takes switch (ap (switch_at platform.switches) same ∙ at) (λ q listed on. further q listed (on ∙ ap (λ (n : ℕ). bus_of n + 1) same)) id same end from
      by end from (inr function) = function_takes w still c is_open id (homes id function) end from

  down_from : (n : ℕ) (p : DownstreamPort) → Contains platform.ports p → p.subordinate ≤ p.secondary + n → Free (down (id_below p))
  down_from zero p listed few = down_at (id_below p) (λ q q_listed on.
      let near = nearer platform laws p q listed q_listed on in
      let later = near.later in
      let last = near.last in
      let rising = (buses platform laws q q_listed).rising in
      absurd (omega (arith, later, last, rising, few)))
  down_from (suc n) p listed few = down_at (id_below p) (λ q q_listed on.
      let near = nearer platform laws p q listed q_listed on in
      let later = near.later in
      let last = near.last in
      down_from n q q_listed (omega (arith, later, last, few)))

  down_any : (id : ℕ) → Free (down id)
  down_any id = down_at id (λ q listed on. down_from q.subordinate q listed (omega arith))

  -- ---- up

  module _ (q : DownstreamPort) (listed : Contains platform.ports q) (taken : is_taken platform.switches platform.functions (id_below q) ≡ true) (switch : Switch) (on : StandsOn platform q switch) (above : Free (up switch.id)) where
    node : (upstream_end platform switch.id).node ≡ (downstream_end platform q).node
    node = sym (own_node platform laws switch q on.listed (sym on.bus))

    -- an output of its switch, named by the port
    at_node : (n output : ℕ) → n ≡ output → count_in c (channel_at w.channels (record { node = (upstream_end platform switch.id).node; output = n })).egress ≡ 0
        → count_in c (channel_at w.channels (record { node = (downstream_end platform q).node; output = output })).egress ≡ 0
    at_node n output same none =
        subst (λ (end : LinkEnd). count_in c (channel_at w.channels end).egress ≡ 0)
        (ap (λ (k : ℕ). record { node = k; output = n }) node ∙ ap (λ (k : ℕ). record { node = (downstream_end platform q).node; output = k }) same) none

    output_none : (output : ℕ) → Leads (exits_of platform (bus_of q.id)) (To output) → count_in c (channel_at w.channels (record { node = (downstream_end platform q).node; output = output })).egress ≡ 0
    output_none output (inl top) =
        at_node 0 output (sym top) (above.egress (record { node = (upstream_end platform switch.id).node; output = 0 }) (sent (up switch.id) _ (switch_up platform laws switch on.listed)))
    output_none output (inr (other, lane)) =
        let b = below platform laws switch other output on.listed (ap (λ (bus : ℕ). lane_to (exits_of platform bus) other) on.bus ∙ lane) in
        at_node output output refl ((down_any (id_below b.port)).egress (record { node = (upstream_end platform switch.id).node; output = output }) (sent (down (id_below b.port)) _ b.sent))

    downstream_places : HasPlaces w still c is_open q.id (downstream_place platform q) (downstream_config platform q) (there_port platform laws w of_it many q listed)
    downstream_places = record {
      outputs = λ f output e. output_none output (subst (Leads (exits_of platform (bus_of q.id))) e (downstream_leads w.routes (downstream_config platform q) f.head q refl));
      own = λ is.
          subst (λ (end : LinkEnd). count_in Completion (channel_at w.channels end).egress ≡ 0) (sym (own_output_end platform laws q (listed_port platform laws q listed)))
          (done is (down (id_below q)) (downstream_end platform q) (sent (down (id_below q)) _ (sent_below platform laws q listed taken)));
      misroutes = misroutes q.id;
    }

    upward_takes : (id : ℕ) → id ≡ id_below q → (end : LinkEnd) → sends w (up id) end → count_in c (channel_at w.channels end).ingress ≡ 0
    upward_takes id same end from =
        port_takes w still c is_open q.id (downstream_place platform q) (downstream_config platform q) (there_port platform laws w of_it many q listed) (up id) end
        (downstream_input platform laws q ∙ (ap (λ (n : ℕ). sender_of (links_of platform) (up n)) (sym same) ∙ back (up id) end from)) downstream_places from

  up_at : (id : ℕ) → ((other : ℕ) → bus_of other < bus_of id → Free (up other)) → Free (up id)
  up_at id further = without w still c is_open (up id) (λ end from. by end from (lower platform laws (up id) end (back (up id) end from)))
    where
      host : (end : LinkEnd) → sends w (up id) end → id ≡ 256 → count_in c (channel_at w.channels end).ingress ≡ 0
      host end from top =
          let here : sends w to_host end = subst (λ (n : ℕ). sends w (up n) end) top from in
          let other = sibling w.tree.links 256 end here in
          host_takes w still c is_open other.0 other.1 ((down_any 256).egress other.0 other.1) end here

      by_port : (end : LinkEnd) → sends w (up id) end → is_taken platform.switches platform.functions id ≡ true → (q : DownstreamPort) → Contains platform.ports q → id ≡ id_below q → (switch : Switch) × StandsOn platform q switch
          → count_in c (channel_at w.channels end).ingress ≡ 0
      by_port end from taken q listed same (switch, on) =
          let bus = on.bus in
          let after = (buses platform laws q listed).after in
          let first = bus_below q.secondary in
          let at : bus_of id ≡ bus_of (id_below q) = ap bus_of same in
          upward_takes q listed (subst (λ (n : ℕ). is_taken platform.switches platform.functions n ≡ true) same taken) switch on (further switch.id (omega (arith, bus, after, first, at))) id same end from

      by : (end : LinkEnd) → sends w (up id) end → Lower platform laws id → count_in c (channel_at w.channels end).ingress ≡ 0
      by end from l = go l.above
        where
          go : (id ≡ 256) ⊎ ((port : DownstreamPort) × Contains platform.ports port × (id ≡ id_below port)) → count_in c (channel_at w.channels end).ingress ≡ 0
          go (inl top) = host end from top
          go (inr (q, listed, same)) = by_port end from l.taken q listed same (port_stands platform laws q listed)

  up_from : (n : ℕ) (id : ℕ) → bus_of id ≤ n → Free (up id)
  up_from zero id few = up_at id (λ other less. absurd (omega (arith, less, few)))
  up_from (suc n) id few = up_at id (λ other less. up_from n other (omega (arith, less, few)))

  -- ---- everywhere

  either_way : (id : ℕ) (way : Way) → Free (record { lower = id; way = way })
  either_way id Up = up_from (bus_of id) id (omega arith)
  either_way id Down = down_any id

  pub gone : (direction : Direction) → Free direction
  gone direction = either_way direction.lower direction.way
