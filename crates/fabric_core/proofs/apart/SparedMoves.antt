-- Begins, and packets that move on links and onto them, leave other domains alone.
use Rattle.std.proofs.Common.{◌≡◌, ℕ, Bool, true, false, cond, List, [], ◌∷◌, ◌++◌, Option, Some, None, refl, sym, ap, ◌∙◌, subst}
use Rattle.std.specs.Prelude.{option_map}
use Rattle.std.specs.Option.{option_and_then}
use Rattle.std.proofs.lemmas.Option.{same_Some}
use Rattle.fab_types.specs.declared.place.Direction.{Direction}
use Rattle.fab_types.specs.declared.origin.Origin.{Origin}
use Rattle.frame_log.specs.Descriptor.{Descriptor}
use Rattle.credit.specs.declared.counters.Counters.{Counters}
use Rattle.domain.specs.declared.entry.Entry.{Entry}
use Rattle.domain.specs.Domains.{DomainView}
use Rattle.domains.specs.Agents.{emitted, emitted_if, taken_from, waiting_of}
use Rattle.link.specs.Channels.{Channel, has_room, is_full, deliver, received_of, same_counters, send, sent_on, spent, update_fc, unspent}
use Rattle.lane.specs.Lanes.{Class, eligible}
use Rattle.domains.specs.Domains.{Made, domain_at, made_at}
use Rattle.topology.specs.Links.{sender_of}
use Rattle.topology.specs.declared.nodes.LinkEnd.{LinkEnd}
use Rattle.interconnect.specs.Moves.{channel_at, on_channel, put_at, with_channel}
use Rattle.fabric_core.specs.Events.{enter, entered_at, link_of}
use Rattle.fabric_core.specs.Isolation.{OwnOnLink, home_of, home_oldest, home_sent, home_travelling, is_number, number_of, own, own_on_link}
use Rattle.fabric_core.specs.World.{World, with_both, with_channels, with_agents}
use Rattle.fabric_core.proofs.apart.Owning.{links_put, links_with, own_left, own_oldest, own_put}
use Rattle.fabric_core.proofs.invariant.Settling.{MadeBy, made_from}
use Rattle.fabric_core.proofs.apart.Sparing.{Spares, agents_emitted, agents_left, agents_same, spares}

-- ---- begins

-- the home of what was made is the domain at the place
made_home : (ds : List DomainView) (entry : Entry) (place : Option ℕ) (m : Made) (b : MadeBy ds entry place m) → Some b.d.share.domain ≡ number_of (domain_at ds place)
made_home ds entry place m b = sym (ap (λ (o : Option ℕ). number_of (domain_at ds o)) b.at_number ∙ ap number_of b.at)

begun_with : (w w' : World) (origin : Origin) (entry : Entry) (place : Option ℕ) (o : Option Made) → made_at w.agents.domains entry place ≡ o → option_map (with_agents w) (emitted_if w.agents origin o) ≡ Some w' → Spares w (number_of (domain_at w.agents.domains place)) w'
begun_with w w' origin entry place None e is = absurd cc
begun_with w w' origin entry place (Some m) e is =
    let b = made_from w.agents.domains entry place m e in
    subst (λ (home : Option ℕ). Spares w home w') (made_home w.agents.domains entry place m b)
    (subst (Spares w (Some b.d.share.domain)) (same_Some (with_agents w (emitted w.agents origin m)) w' is)
    (spares w (with_agents w (emitted w.agents origin m)) (Some b.d.share.domain) (λ d other. refl) (agents_emitted w.agents entry place m b origin)))

-- the domain at a place begins something
pub spares_begin : (w w' : World) (origin : Origin) (entry : Entry) (place : Option ℕ) → option_map (with_agents w) (emitted_if w.agents origin (made_at w.agents.domains entry place)) ≡ Some w' → Spares w (number_of (domain_at w.agents.domains place)) w'
spares_begin w w' origin entry place is = begun_with w w' origin entry place (made_at w.agents.domains entry place) refl is

-- ---- within a link

-- of each domain but the home the same packets are on a direction
abbrev LinkSpares : Channel → Option ℕ → Channel → Type 0
LinkSpares old home new = (d : ℕ) → is_number d home ≡ false → own_on_link d new ≡ own_on_link d old

pub same_on_link : (egress egress' wire wire' ingress ingress' : List Descriptor) → egress' ≡ egress → wire' ≡ wire → ingress' ≡ ingress
    → ◌≡◌ {A = OwnOnLink} (record { egress = egress'; wire = wire'; ingress = ingress' }) (record { egress = egress; wire = wire; ingress = ingress })
same_on_link egress egress' wire wire' ingress ingress' a b c = cc

sent_spares : (class : Class) (c c' : Channel) (taken : Option (Descriptor × List Descriptor)) → eligible class c.egress ≡ taken → sent_on c taken ≡ Some c' → LinkSpares c (home_of taken) c'
sent_spares class c c' None e is = absurd cc
sent_spares class c c' (Some t) e is = by (has_room c.left t.0.head.cost) is
  where
    sent : Channel
    sent = record { start = c.start; left = spent c.left t.0.head.cost; egress = t.1; wire = c.wire ++ t.0 ∷ []; ingress = c.ingress }

    by : (b : Bool) → cond b (Some sent) None ≡ Some c' → LinkSpares c (Some t.0.domain) c'
    by true is =
        subst (LinkSpares c (Some t.0.domain)) (same_Some sent c' is)
        (λ d other. same_on_link (own d c.egress) (own d t.1) (own d c.wire) (own d (c.wire ++ t.0 ∷ [])) (own d c.ingress) (own d c.ingress) (own_left d class c.egress t.1 t.0 e other) (own_put d c.wire t.0 other) refl)
    by false is = absurd cc

received_spares : (c c' : Channel) (wire : List Descriptor) → c.wire ≡ wire → received_of c wire ≡ Some c' → LinkSpares c (home_oldest wire) c'
received_spares c c' [] e is = absurd cc
received_spares c c' (frame ∷ frames) e is =
    let received : Channel = record { start = c.start; left = c.left; egress = c.egress; wire = frames; ingress = c.ingress ++ frame ∷ [] } in
    subst (LinkSpares c (Some frame.domain)) (same_Some received c' is)
    (λ d other. same_on_link (own d c.egress) (own d c.egress) (own d c.wire) (own d frames) (own d c.ingress) (own d (c.ingress ++ frame ∷ [])) refl (sym (own_oldest d frame frames other) ∙ sym (ap (own d) e)) (own_put d c.ingress frame other))

updated_spares : (c c' : Channel) (most : Counters) (b : Bool) → cond b None (Some (record { start = c.start; left = most; egress = c.egress; wire = c.wire; ingress = c.ingress })) ≡ Some c' → LinkSpares c None c'
updated_spares c c' most true is = absurd cc
updated_spares c c' most false is =
    subst (LinkSpares c None) (same_Some (record { start = c.start; left = most; egress = c.egress; wire = c.wire; ingress = c.ingress }) c' is) (λ d other. refl)

stepped : (w w' : World) (home : Option ℕ) (end : LinkEnd) (o : Option Channel) → ((c' : Channel) → o ≡ Some c' → LinkSpares (channel_at w.channels end) home c') → option_map (with_channels w) (option_map (with_channel w.channels end) o) ≡ Some w' → Spares w home w'
stepped w w' home end None same is = absurd cc
stepped w w' home end (Some c) same is =
    let channels = with_channel w.channels end c in
    subst (Spares w home) (same_Some (with_channels w channels) w' is)
    (spares w (with_channels w channels) home (λ d other. links_with d w.channels end c (same c refl d other)) (agents_same w.agents home))

-- a step of one direction, which is of this home
on_link : (w w' : World) (found : Option LinkEnd) (step : Channel → Option Channel) (home : Option LinkEnd → Option ℕ) → ((end : LinkEnd) (c' : Channel) → step (channel_at w.channels end) ≡ Some c' → LinkSpares (channel_at w.channels end) (home (Some end)) c')
    → option_map (with_channels w) (on_channel w.channels found step) ≡ Some w' → Spares w (home found) w'
on_link w w' None step home same is = absurd cc
on_link w w' (Some end) step home same is = stepped w w' (home (Some end)) end (step (channel_at w.channels end)) (same end) is

pub spares_send : (w w' : World) (direction : Direction) (class : Class) → option_map (with_channels w) (on_channel w.channels (sender_of w.tree.links direction) (send class)) ≡ Some w'
    → Spares w (option_and_then (home_sent w class) (sender_of w.tree.links direction)) w'
spares_send w w' direction class is =
    on_link w w' (sender_of w.tree.links direction) (send class) (option_and_then (home_sent w class))
    (λ end c' e. let c = channel_at w.channels end in sent_spares class c c' (eligible class c.egress) refl e) is

pub spares_receive : (w w' : World) (direction : Direction) → option_map (with_channels w) (on_channel w.channels (sender_of w.tree.links direction) deliver) ≡ Some w'
    → Spares w (option_and_then (home_travelling w) (sender_of w.tree.links direction)) w'
spares_receive w w' direction is =
    on_link w w' (sender_of w.tree.links direction) deliver (option_and_then (home_travelling w))
    (λ end c' e. let c = channel_at w.channels end in received_spares c c' c.wire refl e) is

pub spares_update_fc : (w w' : World) (direction : Direction) → option_map (with_channels w) (on_channel w.channels (sender_of w.tree.links direction) update_fc) ≡ Some w' → Spares w None w'
spares_update_fc w w' direction is =
    on_link w w' (sender_of w.tree.links direction) update_fc (λ _. None)
    (λ end c' e. let c = channel_at w.channels end in let most = unspent c.start (c.wire ++ c.ingress) in updated_spares c c' most (same_counters c.left most) e) is

-- ---- onto a link

entered : (w w' : World) (origin : Origin) (class : Class) (end : LinkEnd) (t : Descriptor × List Descriptor) → eligible class (waiting_of w.agents.outboxes origin) ≡ Some t → (b : Bool)
    → cond b None (Some (with_both w (put_at w.channels end t.0) (taken_from w.agents origin t.1))) ≡ Some w' → Spares w (Some t.0.domain) w'
entered w w' origin class end t e true is = absurd cc
entered w w' origin class end t e false is =
    let new = with_both w (put_at w.channels end t.0) (taken_from w.agents origin t.1) in
    subst (Spares w (Some t.0.domain)) (same_Some new w' is)
    (spares w new (Some t.0.domain) (λ d other. links_put d w.channels end t.0 other) (agents_left w.agents origin class t.0 t.1 e))

entered_to : (w w' : World) (origin : Origin) (class : Class) (found : Option LinkEnd) (t : Descriptor × List Descriptor) → eligible class (waiting_of w.agents.outboxes origin) ≡ Some t → entered_at w origin class found t ≡ Some w' → Spares w (Some t.0.domain) w'
entered_to w w' origin class None t e is = absurd cc
entered_to w w' origin class (Some end) t e is = entered w w' origin class end t e (is_full class (channel_at w.channels end)) is

entered_if : (w w' : World) (origin : Origin) (class : Class) (o : Option (Descriptor × List Descriptor)) → eligible class (waiting_of w.agents.outboxes origin) ≡ o
    → option_and_then (entered_at w origin class (sender_of w.tree.links (link_of origin))) o ≡ Some w' → Spares w (home_of o) w'
entered_if w w' origin class None e is = absurd cc
entered_if w w' origin class (Some t) e is = entered_to w w' origin class (sender_of w.tree.links (link_of origin)) t e is

pub spares_enter : (w w' : World) (origin : Origin) (class : Class) → enter w origin class ≡ Some w' → Spares w (home_of (eligible class (waiting_of w.agents.outboxes origin))) w'
spares_enter w w' origin class is = entered_if w w' origin class (eligible class (waiting_of w.agents.outboxes origin)) refl is
