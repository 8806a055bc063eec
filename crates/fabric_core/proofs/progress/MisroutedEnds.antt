-- In any layout a port that is about to misroute a packet can: what answers it, if anything does, has a place at the port's own output.
use Rattle.std.proofs.Common.{◌≡◌, ℕ, ◌==◌, Bool, true, false, cond, ◌&&◌, List, length, get_or, Option, Some, None, refl, sym, ap, ◌∙◌, subst, arith}
use Rattle.std.specs.Prelude.{Contains, is_some, option_map}
use Rattle.std.specs.Option.{option_and_then}
use Rattle.std.proofs.lemmas.List.Quantifiers.{position-Some}
use Rattle.std.proofs.lemmas.Option.{same_Some}
use Rattle.fab_types.specs.declared.class.Class.{Class}
use Rattle.fab_types.specs.declared.class.Class.TheVariants.{NonPosted, Completion}
use Rattle.fab_types.specs.declared.place.Direction.{Direction}
use Rattle.fab_types.specs.declared.place.Way.TheVariants.{Up, Down}
use Rattle.frame_log.specs.Descriptor.{Descriptor}
use Rattle.platform.specs.declared.parts.DownstreamPort.{DownstreamPort}
use Rattle.layout.specs.Laws.{IsPlatform}
use Rattle.platform.specs.Platform.{Platform}
use Rattle.platform.specs.Tree.{id_below, is_taken}
use Rattle.domains.specs.Aliens.{aliened, answers}
use Rattle.domains.specs.Domains.{Made}
use Rattle.lane.specs.Lanes.{eligible}
use Rattle.lane.proofs.Waiting.{class_of-taken}
use Rattle.link.specs.Channels.{count_in, is_full}
use Rattle.port.specs.Configs.{Config}
use Rattle.port.specs.Courses.{course_of}
use Rattle.port.specs.Misroutes.{misroute_of}
use Rattle.port.specs.declared.misroute.Misroute.{Misroute}
use Rattle.topology.specs.Links.{links_of, sender_of}
use Rattle.topology.specs.Nodes.{downstream_end, upstream_end}
use Rattle.topology.specs.declared.nodes.LinkEnd.{LinkEnd}
use Rattle.topology.specs.declared.places.PortPlace.{PortPlace}
use Rattle.topology.proofs.Members.{found}
use Rattle.topology.proofs.Outputs.{lane_to as sent_below, switch_up}
use Rattle.interconnect.specs.declared.misrouted.Misrouted.{Misrouted}
use Rattle.interconnect.specs.Misrouted.{misrouted_among, misrouted_from, misrouted_number, misrouted_of, misrouted_with}
use Rattle.interconnect.specs.Moves.{channel_at}
use Rattle.interconnect.specs.Passes.{index_of, no_place}
use Rattle.fabric_core.specs.Misrouting.{Misrouting, is_at_port_of, misrouting, misrouting_by, misrouting_to, misrouting_with, misrouted, without_misrouted}
use Rattle.fabric_core.specs.Passing.{port_number}
use Rattle.fabric_core.specs.Places.{IsFlown}
use Rattle.fabric_core.specs.Arrivals.{taken_from}
use Rattle.fabric_core.specs.Soundness.{IsOfPlatform}
use Rattle.fabric_core.specs.World.{World}
use Rattle.fabric_core.proofs.progress.Classes.{not_full}
use Rattle.fabric_core.proofs.progress.Misroutes.{answered_class}
use Rattle.fabric_core.proofs.progress.Ports.{listed_switch}
use Rattle.fabric_core.proofs.soundness.Sites.{Standing, own_output_end, standing}

-- ---- what it takes

-- the packet of the class that came from an end, and what its home's entry makes
pub record Takes (w : World) (class : Class) (misrouted : Misrouted) (l : Misrouting) : Type 0 where
  pub same : l.misrouted ≡ misrouted
  pub frame : Descriptor
  pub left : List Descriptor
  pub taken : eligible class (channel_at w.channels misrouted.input).ingress ≡ Some (frame, left)
  pub is : l.taken ≡ taken_from w.channels misrouted.input (frame, left)
  pub at_port : is_at_port_of w.agents.domains frame.domain misrouted.place ≡ true
  pub made : aliened w.agents.domains frame.domain misrouted.place frame ≡ Some l.made

module _ (w : World) (class : Class) where
  takes_made : (misrouted : Misrouted) (l : Misrouting) (taken : Descriptor × List Descriptor) (o : Option Made) → eligible class (channel_at w.channels misrouted.input).ingress ≡ Some taken → aliened w.agents.domains taken.0.domain misrouted.place taken.0 ≡ o
      → is_at_port_of w.agents.domains taken.0.domain misrouted.place ≡ true → misrouting_with misrouted (taken_from w.channels misrouted.input taken) o ≡ Some l → Takes w class misrouted l
  takes_made misrouted l taken None e made is h = absurd cc
  takes_made misrouted l taken (Some m) e made is h =
      let same : ◌≡◌ {A = Misrouting} (record { misrouted = misrouted; taken = taken_from w.channels misrouted.input taken; made = m }) l = same_Some _ l h in
      record {
        same = sym (ap (λ (x : Misrouting). x.misrouted) same);
        frame = taken.0;
        left = taken.1;
        taken = e;
        is = sym (ap (λ (x : Misrouting). x.taken) same);
        at_port = is;
        made = made ∙ ap (λ (x : Misrouting). Some x.made) same;
      }

  takes_if : (misrouted : Misrouted) (l : Misrouting) (taken : Descriptor × List Descriptor) (b : Bool) → eligible class (channel_at w.channels misrouted.input).ingress ≡ Some taken → is_at_port_of w.agents.domains taken.0.domain misrouted.place ≡ b
      → cond b (misrouting_with misrouted (taken_from w.channels misrouted.input taken) (aliened w.agents.domains taken.0.domain misrouted.place taken.0)) None ≡ Some l → Takes w class misrouted l
  takes_if misrouted l taken true e is h = takes_made misrouted l taken (aliened w.agents.domains taken.0.domain misrouted.place taken.0) e refl is h
  takes_if misrouted l taken false e is h = absurd cc

  takes_eligible : (misrouted : Misrouted) (l : Misrouting) (o : Option (Descriptor × List Descriptor)) → eligible class (channel_at w.channels misrouted.input).ingress ≡ o → option_and_then (misrouting_to w misrouted) (option_map (taken_from w.channels misrouted.input) o) ≡ Some l → Takes w class misrouted l
  takes_eligible misrouted l None e h = absurd cc
  takes_eligible misrouted l (Some taken) e h = takes_if misrouted l taken (is_at_port_of w.agents.domains taken.0.domain misrouted.place) e refl h

  -- where it takes it
  pub record Misroutes (id : ℕ) (l : Misrouting) : Type 0 where
    pub misrouted : Misrouted
    pub at : misrouted_among w.tree w.routes w.channels w.ports id class ≡ Some misrouted
    pub takes : Takes w class misrouted l

  pub misroutes_by : (id : ℕ) (l : Misrouting) (o : Option Misrouted) → misrouted_among w.tree w.routes w.channels w.ports id class ≡ o → misrouting_by w class o ≡ Some l → Misroutes id l
  misroutes_by id l None at h = absurd cc
  misroutes_by id l (Some misrouted) at h = record { misrouted = misrouted; at = at; takes = takes_eligible misrouted l (eligible class (channel_at w.channels misrouted.input).ingress) refl h }

-- ---- its own output

-- which port it is, and where its answers leave
pub record Leaves (w : World) (id : ℕ) (misrouted : Misrouted) : Type 0 where
  pub number : ℕ
  pub index : index_of w.tree.places id ≡ Some number
  pub input : (get_or w.tree.places number no_place).input ≡ Some misrouted.input
  pub own : misrouted.own ≡ record { node = (get_or w.tree.places number no_place).node; output = (port_number w number).config.own }

module _ (w : World) (class : Class) (id : ℕ) (misrouted : Misrouted) where
  leaves_with : (number : ℕ) (input : LinkEnd) (o : Option Misroute) → index_of w.tree.places id ≡ Some number → (get_or w.tree.places number no_place).input ≡ Some input
      → option_map (misrouted_with (get_or w.tree.places number no_place).node input (port_number w number).config) o ≡ Some misrouted → Leaves w id misrouted
  leaves_with number input None index from h = absurd cc
  leaves_with number input (Some misroute) index from h =
      let same : misrouted_with (get_or w.tree.places number no_place).node input (port_number w number).config misroute ≡ misrouted = same_Some _ misrouted h in
      record { number = number; index = index; input = from ∙ ap (λ (x : Misrouted). Some x.input) same; own = sym (ap (λ (x : Misrouted). x.own) same) }

  leaves_of : (number : ℕ) (input : LinkEnd) (o : Option (Descriptor × List Descriptor)) → index_of w.tree.places id ≡ Some number → (get_or w.tree.places number no_place).input ≡ Some input
      → misrouted_of w.routes (get_or w.tree.places number no_place).node input (port_number w number).config o ≡ Some misrouted → Leaves w id misrouted
  leaves_of number input None index from h = absurd cc
  leaves_of number input (Some taken) index from h =
      leaves_with number input (misroute_of w.routes (port_number w number).config taken.0.head (course_of w.routes (port_number w number).config taken.0.head)) index from h

  leaves_from : (number : ℕ) (input : Option LinkEnd) → index_of w.tree.places id ≡ Some number → (get_or w.tree.places number no_place).input ≡ input
      → misrouted_from w.routes w.channels class (port_number w number).config (get_or w.tree.places number no_place).node input ≡ Some misrouted → Leaves w id misrouted
  leaves_from number None index from h = absurd cc
  leaves_from number (Some input) index from h = leaves_of number input (eligible class (channel_at w.channels input).ingress) index from h

  pub leaves : (o : Option ℕ) → index_of w.tree.places id ≡ o → misrouted_number w.tree w.routes w.channels w.ports class o ≡ Some misrouted → Leaves w id misrouted
  leaves None index h = absurd cc
  leaves (Some number) index h = leaves_from number (get_or w.tree.places number no_place).input index refl h

-- something stands below a port from which anything comes
taken_below : (b : Bool) (end input : LinkEnd) → cond b (Some end) None ≡ Some input → b ≡ true
taken_below true end input e = refl
taken_below false end input e = absurd cc

module _ (platform : Platform) (laws : IsPlatform platform) (w : World) (of_it : IsOfPlatform platform w) (many : length w.ports ≡ length w.tree.places) where
  -- a direction is sent from there
  abbrev Sends : LinkEnd → Type 0
  Sends end = (direction : Direction) × (sender_of (links_of platform) direction ≡ Some end)

  own_sends : (place : PortPlace) (config : Config) (input : LinkEnd) → place.input ≡ Some input → Standing platform place config → Sends (record { node = place.node; output = config.own })
  own_sends place config input from (Standing.Upstream switch listed at configured) =
      let there : Sends (record { node = (upstream_end platform switch.id).node; output = 0 }) = (record { lower = switch.id; way = Up }, switch_up platform laws switch (listed_switch platform laws switch listed)) in
      subst Sends (ap (λ (c : Config). record { node = (upstream_end platform switch.id).node; output = c.own }) (sym configured) ∙ ap (λ (p : PortPlace). record { node = p.node; output = config.own }) (sym at)) there
  own_sends place config input from (Standing.Downstream line listed at configured) =
      let within : Contains platform.ports line = (found (λ (x : DownstreamPort). x.id == line.id) platform.ports line listed).0 in
      let taken : is_taken platform.switches platform.functions (id_below line) ≡ true = taken_below (is_taken platform.switches platform.functions (id_below line)) (upstream_end platform (id_below line)) input (sym (ap (λ (p : PortPlace). p.input) at) ∙ from) in
      let there : Sends (downstream_end platform line) = (record { lower = id_below line; way = Down }, sent_below platform laws line within taken) in
      subst Sends (sym (own_output_end platform laws line listed) ∙ (ap (λ (c : Config). record { node = (downstream_end platform line).node; output = c.own }) (sym configured) ∙ ap (λ (p : PortPlace). record { node = p.node; output = config.own }) (sym at))) there

  misrouted_sends : (id : ℕ) (misrouted : Misrouted) → Leaves w id misrouted → Sends misrouted.own
  misrouted_sends id misrouted at =
      let less = (position-Some (λ (place : PortPlace). place.id == id) w.tree.places at.number no_place at.index).0 in
      subst Sends (sym at.own) (own_sends (get_or w.tree.places at.number no_place) (port_number w at.number).config misrouted.input at.input (standing platform w id at.number of_it (omega (arith, less, many)) at.index))

  -- ---- so it misroutes it

  module _ (class : Class) (flown : (end : LinkEnd) (frame : Descriptor) (left : List Descriptor) → eligible class (channel_at w.channels end).ingress ≡ Some (frame, left) → IsFlown w.agents.domains frame)
      (done : class ≡ NonPosted → (direction : Direction) (end : LinkEnd) → sender_of (links_of platform) direction ≡ Some end → count_in Completion (channel_at w.channels end).egress ≡ 0) where
    waits_not : (own : LinkEnd) (sent : Option Descriptor) → ((answer : Descriptor) → sent ≡ Some answer → is_full Completion (channel_at w.channels own) ≡ false) → (is_some sent && is_full Completion (channel_at w.channels own)) ≡ false
    waits_not own None h = refl
    waits_not own (Some answer) h = h answer refl

    misroutes : (l : Misrouting) (b : Bool) → b ≡ false → cond b None (Some (without_misrouted w l)) ≡ None → ⊥
    misroutes l true e i = cc
    misroutes l false e i = cc

    pub never_stuck : (id : ℕ) (l : Misrouting) → misrouting w id class ≡ Some l → misrouted w l ≡ None → ⊥
    never_stuck id l e idle =
        let at = misroutes_by w class id l (misrouted_among w.tree w.routes w.channels w.ports id class) refl e in
        let t = at.takes in
        let end = misrouted_sends id at.misrouted (leaves w class id at.misrouted (index_of w.tree.places id) refl at.at) in
        let here : sender_of (links_of platform) end.0 ≡ Some l.misrouted.own = end.1 ∙ ap (λ (x : Misrouted). Some x.own) (sym t.same) in
        misroutes l (answers (Some l.made) && is_full Completion (channel_at w.channels l.misrouted.own))
        (waits_not l.misrouted.own l.made.sent (λ answer sent.
        let is : class ≡ NonPosted = sym (class_of-taken class (channel_at w.channels at.misrouted.input).ingress t.left t.frame t.taken) ∙ answered_class w.agents.domains at.misrouted.place t.frame l.made answer (flown at.misrouted.input t.frame t.left t.taken) t.at_port t.made sent in
        not_full Completion (channel_at w.channels l.misrouted.own) (done is end.0 l.misrouted.own here)))
        idle
