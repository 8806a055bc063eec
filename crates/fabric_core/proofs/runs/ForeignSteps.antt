-- A fabric without other domains, where one event of others moves in the whole fabric, or the credits of a link are returned
-- in both.
use Rattle.std.proofs.Common.{◌≡◌, ℕ, ◌≤◌, Bool, true, false, cond, List, [], ◌++◌, map, get_or, set, Option, Some, None, refl, sym, ap, ◌∙◌, subst, arith}
use Rattle.std.specs.Prelude.{option_map}
use Rattle.std.proofs.lemmas.List.{set-get_or}
use Rattle.fab_types.specs.declared.outcome.Outcome.{Outcome}
use Rattle.fab_types.specs.declared.outcome.Outcome.TheVariants.{Idle, Moved, NoMemory, Refused}
use Rattle.fab_types.specs.declared.place.Direction.{Direction}
use Rattle.fab_types.specs.declared.violation.Violation.{Violation}
use Rattle.frame_log.specs.Descriptor.{Descriptor}
use Rattle.credit.specs.Limits.{at}
use Rattle.credit.specs.declared.counters.Counters.{Counters}
use Rattle.domains.specs.Agents.{Outbox}
use Rattle.link.specs.Channels.{Channel, count_in, same_counters, update_fc, unspent}
use Rattle.link.proofs.Credits.{same-at, true-same}
use Rattle.topology.specs.Links.{sender_of}
use Rattle.topology.specs.Topologies.{Tree}
use Rattle.topology.specs.declared.nodes.LinkEnd.{LinkEnd}
use Rattle.interconnect.specs.Moves.{channel_at, no_channel, on_channel, with_channel}
use Rattle.fabric_core.specs.declared.event.Event.TheVariants.{Credit}
use Rattle.fabric_core.specs.Events.{StepsTo, effect}
use Rattle.fabric_core.specs.Isolation.{OwnOnLink, Part, own, own_on_link, part}
use Rattle.fabric_core.specs.Soundness.{share_of}
use Rattle.fabric_core.specs.TakenOut.{or_same}
use Rattle.fabric_core.specs.World.{World, with_channels}
use Rattle.fabric_core.proofs.runs.MirroredLinks.{mirrors_at, mirrors_with, unspent_own}
use Rattle.fabric_core.proofs.runs.Mirrors.{Mirrors, MirrorsLink, MirrorsLinks, own_box}
use Rattle.fabric_core.proofs.runs.Narrowing.{NarrowLinks, Narrows, origin_of}
use Rattle.fabric_core.proofs.runs.NarrowSteps.{Tightens}
use Rattle.fabric_core.proofs.runs.OwnMoves.{IsRoomy}
use Rattle.fabric_core.proofs.apart.Owning.{own_append, own_boxes, own_links}
use Rattle.fabric_core.proofs.runs.Pairwise.{Pairwise, pair_after, pair_at, pair_both, pair_changed, pair_from, pair_map, pair_same}

-- ---- others' events

module _ (d : ℕ) where
  -- what a direction lost or got is of others
  record Spared (old new : Channel) : Type 0 where
    narrows : Narrows old new
    same : own_on_link d new ≡ own_on_link d old

  link_spared : (c c' other : Channel) → MirrorsLink d c other → Spared c c' → MirrorsLink d c' other
  link_spared c c' other m s = record {
    start = m.start ∙ sym s.narrows.start;
    left = λ k. let less = s.narrows.left k in let most = m.left k in omega (arith, less, most);
    egress = m.egress ∙ sym (ap (λ (o : OwnOnLink). o.egress) s.same);
    wire = m.wire ∙ sym (ap (λ (o : OwnOnLink). o.wire) s.same);
    ingress = m.ingress ∙ sym (ap (λ (o : OwnOnLink). o.ingress) s.same);
  }

  abbrev IsSameNode : List Channel → List Channel → Type 0
  IsSameNode old new = map (own_on_link d) new ≡ map (own_on_link d) old

  abbrev IsSameLink : Channel → Channel → Type 0
  IsSameLink old new = own_on_link d new ≡ own_on_link d old

  node_spared : (old new others : List Channel) → Pairwise (MirrorsLink d) old others → (Pairwise Narrows old new × IsSameNode old new) → Pairwise (MirrorsLink d) new others
  node_spared old new others m s =
      pair_after (MirrorsLink d) (λ c c'. Narrows c c' × IsSameLink c c') (MirrorsLink d) (λ c c' other mirrors both. link_spared c c' other mirrors (record { narrows = both.0; same = both.1 })) old new others m
      (pair_both Narrows IsSameLink old new s.0 (pair_from (own_on_link d) (own_on_link d) old new s.1))

  links_spared : (old new others : List (List Channel)) → MirrorsLinks d old others → NarrowLinks old new → own_links d new ≡ own_links d old → MirrorsLinks d new others
  links_spared old new others m narrow same =
      pair_after (Pairwise (MirrorsLink d)) (λ xs ys. Pairwise Narrows xs ys × IsSameNode xs ys) (Pairwise (MirrorsLink d)) node_spared old new others m
      (pair_both (Pairwise Narrows) IsSameNode old new narrow (pair_from (map (own_on_link d)) (map (own_on_link d)) old new same))

  abbrev IsSameOrigin : Outbox → Outbox → Type 0
  IsSameOrigin old new = origin_of new ≡ origin_of old

  abbrev IsSameBox : Outbox → Outbox → Type 0
  IsSameBox old new = own d new.waiting ≡ own d old.waiting

  box_spared : (old new : Outbox) → (IsSameOrigin old new × IsSameBox old new) → own_box d new ≡ own_box d old
  box_spared old new both =
      ap (λ o. record { origin = o; waiting = own d new.waiting }) both.0 ∙ ap (λ (xs : List Descriptor). record { origin = old.origin; waiting = xs }) both.1

  boxes_spared : (old new : List Outbox) → map origin_of new ≡ map origin_of old → own_boxes d new ≡ own_boxes d old → map (own_box d) new ≡ map (own_box d) old
  boxes_spared old new origins same =
      pair_map (λ x y. IsSameOrigin x y × IsSameBox x y) (own_box d) (own_box d) old new box_spared
      (pair_both IsSameOrigin IsSameBox old new (pair_from origin_of origin_of old new origins) (pair_from (λ (b : Outbox). own d b.waiting) (λ (b : Outbox). own d b.waiting) old new same))

  pub foreign_step : (is_told : Violation → Bool) (w w' v : World) → Mirrors d is_told w v → Tightens is_told w w' → w'.routes ≡ w.routes → map share_of w'.agents.domains ≡ map share_of w.agents.domains → part d w' ≡ part d w → Mirrors d is_told w' v
  foreign_step is_told w w' v m tight routes shares same = record {
    tree = m.tree ∙ sym tight.tree;
    routes = m.routes ∙ sym routes;
    configs = m.configs ∙ sym tight.configs;
    links = links_spared w.channels w'.channels v.channels m.links tight.links (ap (λ (p : Part). p.links) same);
    agents = record {
      domains = record { shares = m.agents.domains.shares ∙ sym shares; home = m.agents.domains.home ∙ sym (ap (λ (p : Part). p.domain) same) };
      boxes = m.agents.boxes ∙ sym (boxes_spared w.agents.outboxes w'.agents.outboxes tight.origins (ap (λ (p : Part). p.outboxes) same));
    };
    violations = m.violations ∙ sym tight.violations;
  }

-- ---- places at senders

pub narrow_roomy : (w w' : World) → IsRoomy w → NarrowLinks w.channels w'.channels → IsRoomy w'
narrow_roomy w w' roomy narrow end class =
    (pair_at Narrows (get_or w.channels end.node []) (get_or w'.channels end.node []) end.output no_channel no_channel (record { start = refl; left = λ k. omega arith; places = λ k few. few })
    (pair_at (Pairwise Narrows) w.channels w'.channels end.node [] [] tt narrow)).places class (roomy end class)

-- ---- credits that are returned

-- a direction whose sender knows its credits
abbrev updated : Channel → Channel
updated c = record { start = c.start; left = unspent c.start (c.wire ++ c.ingress); egress = c.egress; wire = c.wire; ingress = c.ingress }

abbrev updated_over : World → LinkEnd → World
updated_over w end = with_channels w (with_channel w.channels end (updated (channel_at w.channels end)))

known : (c : Channel) → same_counters c.left (unspent c.start (c.wire ++ c.ingress)) ≡ true → c ≡ updated c
known c e =
    ap (λ (x : Counters). record { start = c.start; left = x; egress = c.egress; wire = c.wire; ingress = c.ingress })
    (same-at c.left (unspent c.start (c.wire ++ c.ingress)) (true-same c.left (unspent c.start (c.wire ++ c.ingress)) e))

with_same : (cs : List (List Channel)) (end : LinkEnd) → with_channel cs end (channel_at cs end) ≡ cs
with_same cs end = ap (set cs end.node) (set-get_or (get_or cs end.node []) end.output no_channel) ∙ set-get_or cs end.node []

updated_is : (w : World) (end : LinkEnd) → or_same w (option_map (with_channels w) (option_map (with_channel w.channels end) (update_fc (channel_at w.channels end)))) ≡ updated_over w end
updated_is w end = by (same_counters (channel_at w.channels end).left (unspent (channel_at w.channels end).start ((channel_at w.channels end).wire ++ (channel_at w.channels end).ingress))) refl
  where
    by : (b : Bool) → same_counters (channel_at w.channels end).left (unspent (channel_at w.channels end).start ((channel_at w.channels end).wire ++ (channel_at w.channels end).ingress)) ≡ b
        → or_same w (option_map (with_channels w) (option_map (with_channel w.channels end) (cond b None (Some (updated (channel_at w.channels end)))))) ≡ updated_over w end
    by false e = refl
    by true e =
        ap (with_channels w) (sym (with_same w.channels end)) ∙ ap (λ (c : Channel). with_channels w (with_channel w.channels end c)) (known (channel_at w.channels end) e)

-- the world after, whatever came of it
updated_after : World → Option LinkEnd → World
updated_after w None = w
updated_after w (Some end) = updated_over w end

after_is : (w : World) (found : Option LinkEnd) → or_same w (option_map (with_channels w) (on_channel w.channels found update_fc)) ≡ updated_after w found
unfolding updated_after
after_is w None = refl
after_is w (Some end) = updated_is w end

credit_step : (w w' : World) (direction : Direction) (outcome : Outcome) → StepsTo w (Credit direction) outcome w' → w' ≡ updated_after w (sender_of w.tree.links direction)
credit_step w w' direction outcome step = by outcome step ∙ after_is w (sender_of w.tree.links direction)
  where
    by : (outcome : Outcome) → StepsTo w (Credit direction) outcome w' → w' ≡ or_same w (effect w (Credit direction))
    by Moved step = sym (ap (or_same w) step)
    by Idle step = step.2 ∙ sym (ap (or_same w) step.0)
    by (Refused fault) step = absurd (let none = step.0 in cc)
    by NoMemory step = absurd step.1

module _ (d : ℕ) (is_told : Violation → Bool) (w v : World) (m : Mirrors d is_told w v) where
  updated_link : (c other : Channel) → MirrorsLink d c other → MirrorsLink d (updated c) (updated other)
  updated_link c other link = record {
    start = link.start;
    left = λ k.
        let here = unspent_own d c.start (c.wire ++ c.ingress) k in
        let waiting : other.wire ++ other.ingress ≡ own d (c.wire ++ c.ingress) =
        ap (λ (xs : List Descriptor). xs ++ other.ingress) link.wire ∙ (ap (λ (xs : List Descriptor). own d c.wire ++ xs) link.ingress ∙ sym (own_append d c.wire c.ingress)) in
        let same : unspent other.start (other.wire ++ other.ingress) ≡ unspent c.start (own d (c.wire ++ c.ingress)) =
        ap (λ (s : Counters). unspent s (other.wire ++ other.ingress)) link.start ∙ ap (unspent c.start) waiting in
        subst (λ (x : Counters). at (unspent c.start (c.wire ++ c.ingress)) k ≤ at x k) (sym same) here;
    egress = link.egress;
    wire = link.wire;
    ingress = link.ingress;
  }

  updated_both : (found : Option LinkEnd) → Mirrors d is_told (updated_after w found) (updated_after v found)
  unfolding updated_after
  updated_both None = m
  updated_both (Some end) = record {
    tree = m.tree;
    routes = m.routes;
    configs = m.configs;
    links = mirrors_with d w.channels v.channels m.links end _ _ (updated_link (channel_at w.channels end) (channel_at v.channels end) (mirrors_at d w.channels v.channels m.links end));
    agents = m.agents;
    violations = m.violations;
  }

  -- both know the credits of the link then
  pub credit_both : (w' v' : World) (direction : Direction) (outcome outcome' : Outcome) → StepsTo w (Credit direction) outcome w' → StepsTo v (Credit direction) outcome' v' → Mirrors d is_told w' v'
  credit_both w' v' direction outcome outcome' step step' =
      let found = sender_of w.tree.links direction in
      let other : v' ≡ updated_after v found = credit_step v v' direction outcome' step' ∙ ap (λ (t : Tree). updated_after v (sender_of t.links direction)) m.tree in
      subst (λ (x : World). Mirrors d is_told x v') (sym (credit_step w w' direction outcome step)) (subst (Mirrors d is_told (updated_after w found)) (sym other) (updated_both found))

abbrev SameSent : Channel → Channel → Type 0
SameSent old new = new.egress ≡ old.egress

updated_roomy : (w : World) (found : Option LinkEnd) → IsRoomy w → IsRoomy (updated_after w found)
unfolding updated_after
updated_roomy w None roomy = roomy
updated_roomy w (Some end) roomy = λ other class.
    let outputs = get_or w.channels end.node [] in
    let changed = pair_changed (Pairwise SameSent) (pair_same SameSent (λ c. refl)) w.channels end.node (set outputs end.output (updated (channel_at w.channels end))) []
    (pair_changed SameSent (λ c. refl) outputs end.output (updated (channel_at w.channels end)) no_channel refl) in
    let same = pair_at SameSent (get_or w.channels other.node []) (get_or (with_channel w.channels end (updated (channel_at w.channels end))) other.node []) other.output no_channel no_channel refl
    (pair_at (Pairwise SameSent) w.channels (with_channel w.channels end (updated (channel_at w.channels end))) other.node [] [] tt changed) in
    subst (λ (xs : List Descriptor). count_in class xs ≤ 16) (sym same) (roomy other class)

pub credit_roomy : (w w' : World) (direction : Direction) (outcome : Outcome) → StepsTo w (Credit direction) outcome w' → IsRoomy w → IsRoomy w'
credit_roomy w w' direction outcome step roomy = subst IsRoomy (sym (credit_step w w' direction outcome step)) (updated_roomy w (sender_of w.tree.links direction) roomy)
