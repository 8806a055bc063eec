-- Where a port sends packets on, by the shape of the tree alone: up from its switch, or down below one of the switch's ports.
use Rattle.std.proofs.Common.{◌≡◌, ℕ, suc, ◌+◌, ◌<◌, ◌==◌, ◌⊎◌, inl, inr, Bool, true, false, cond, List, [], ◌∷◌, length, get_or, slice_get, Option, Some, None, refl, sym, ap, ◌∙◌, subst, arith, eqb-true}
use Rattle.std.specs.Prelude.{⊤, Contains, Result, Ok, Err, option_map}
use Rattle.std.specs.List.{position}
use Rattle.std.proofs.lemmas.Bool.{and_parts, or_cases}
use Rattle.std.proofs.lemmas.List.Quantifiers.{position-Some}
use Rattle.std.proofs.lemmas.Option.{get_or_from_slice_get, same_Some, slice_get-get_or}
use Rattle.fab_types.specs.Id.{bus_of}
use Rattle.fab_types.specs.declared.head.Answerer.{Answerer}
use Rattle.fab_types.specs.declared.head.Answerer.TheVariants as by
use Rattle.fab_types.specs.declared.head.Head.{Head}
use Rattle.fab_types.specs.declared.head.Parties.{Parties}
use Rattle.fab_types.specs.declared.head.Parties.TheVariants.{Upward, Downward, Answer}
use Rattle.fab_types.specs.declared.place.Direction.{Direction}
use Rattle.fab_types.specs.declared.place.Way.TheVariants.{Down}
use Rattle.fab_types.specs.declared.violation.Check.{Check}
use Rattle.platform.specs.declared.parts.DownstreamPort.{DownstreamPort}
use Rattle.platform.specs.declared.parts.Switch.{Switch}
use Rattle.layout.specs.Laws.{IsPlatform}
use Rattle.platform.specs.Owners.{is_function}
use Rattle.platform.specs.Platform.{Platform}
use Rattle.platform.specs.Tree.{id_below, internal_bus, is_on_bus, is_switch, is_taken}
use Rattle.acs.specs.declared.vetting.Verdict.{Verdict}
use Rattle.acs.specs.declared.vetting.Verdict.TheVariants as verdict
use Rattle.acs.specs.Redirection.{redirected}
use Rattle.acs.specs.Vetting.{verdict_of}
use Rattle.domains.proofs.Lists.{position_map}
use Rattle.bridge.specs.declared.route.Route.{Route}
use Rattle.bridge.specs.declared.route.Route.TheVariants.{Up, Port, OwnEgress, Nobody}
use Rattle.bridge.specs.declared.target.Target.{Target}
use Rattle.bridge.specs.Bridges.{Routes}
use Rattle.bridge.specs.Routes.{route_of, switch_at, target_of}
use Rattle.port.specs.declared.config.Exit.{Exit}
use Rattle.port.specs.declared.course.Forwarding.{Forwarding}
use Rattle.port.specs.declared.course.Forwarding.TheVariants.{To, Stop, NoCase}
use Rattle.port.specs.Configs.{Config, exit_of, exits_of, lane_to, leads_to}
use Rattle.port.specs.Courses.{course_at, course_of, down_by, down_lane, led, reported_by, returned_from, routed, stopped_answer, stopped_from, tested, up_by}
use Rattle.topology.specs.declared.links.Link.{Link}
use Rattle.topology.specs.declared.nodes.LinkEnd.{LinkEnd}
use Rattle.topology.specs.Links.{links_of, sender_of}
use Rattle.topology.specs.Nodes.{downstream_end, ports_on, upstream_end}
use Rattle.topology.proofs.Members.{kept_from, missed, passing}
use Rattle.topology.proofs.Outputs.{lane_to as sent_below, output_at}
use Rattle.topology.proofs.OwnEnds.{sender_link}
use Rattle.topology.proofs.Standing.{IsSentDown, link_is}

-- ---- the course of a packet

-- an output leads up, or down below another port
abbrev pub Leads : List Exit → Forwarding → Type 0
Leads exits (To output) = (output ≡ 0) ⊎ ((other : ℕ) × (lane_to exits other ≡ Some output))
Leads exits (Stop report) = ⊤
Leads exits NoCase = ⊤

-- an output leads down
abbrev pub LeadsDown : List Exit → Forwarding → Type 0
LeadsDown exits (To output) = (other : ℕ) × (lane_to exits other ≡ Some output)
LeadsDown exits (Stop report) = ⊤
LeadsDown exits NoCase = ⊤

lane_down : (exits : List Exit) (other : ℕ) (o : Option ℕ) → lane_to exits other ≡ o → LeadsDown exits (down_lane o)
lane_down exits other None e = tt
lane_down exits other (Some lane) e = (other, e)

down_leads : (exits : List Exit) (r : Route) → LeadsDown exits (down_by exits r)
down_leads exits Up = tt
down_leads exits (Port other) = lane_down exits other (lane_to exits other) refl
down_leads exits OwnEgress = tt
down_leads exits Nobody = tt

-- at the upstream port of a switch
pub upstream_leads : (tree : Routes) (config : Config) (head : Head) → config.line ≡ None → LeadsDown config.exits (course_of tree config head)
upstream_leads tree config head none =
    subst (λ (o : Option DownstreamPort). LeadsDown config.exits (course_at tree config head o)) (sym none) (down_leads config.exits (route_of tree.switches tree.ports config.id head.header))

lane_leads : (exits : List Exit) (other : ℕ) (o : Option ℕ) → lane_to exits other ≡ o → Leads exits (down_lane o)
lane_leads exits other None e = tt
lane_leads exits other (Some lane) e = inr (other, e)

stop_leads : (exits : List Exit) (b : Bool) (c : Forwarding) → Leads exits c → Leads exits (cond b c NoCase)
stop_leads exits true c h = h
stop_leads exits false c h = tt

stopped_leads : (exits : List Exit) (line : DownstreamPort) (head : Head) (check : Option Check) (parties : Parties) → Leads exits (stopped_from line head check parties)
stopped_leads exits line head check (Upward function) = stop_leads exits _ (Stop (reported_by line head function check)) tt
stopped_leads exits line head check (Downward function) = tt
stopped_leads exits line head check (Answer answerer addressee) = tt

answer_leads : (exits : List Exit) (line : DownstreamPort) (answerer : Answerer) → Leads exits (stopped_answer line answerer)
answer_leads exits line by.Port = tt
answer_leads exits line by.Host = tt
answer_leads exits line (by.Function function) = stop_leads exits (function == id_below line) (Stop None) tt

returned_leads : (exits : List Exit) (line : DownstreamPort) (head : Head) (parties : Parties) → Leads exits (returned_from line head parties)
returned_leads exits line head (Upward function) = stopped_leads exits line head None (Upward function)
returned_leads exits line head (Downward function) = tt
returned_leads exits line head (Answer answerer addressee) = answer_leads exits line answerer

up_leads : (config : Config) (line : DownstreamPort) (head : Head) (r : Route) → Leads config.exits (up_by config line head r)
up_leads config line head Up = inl refl
up_leads config line head (Port other) = lane_leads config.exits other (lane_to config.exits other) refl
up_leads config line head OwnEgress = returned_leads config.exits line head head.parties
up_leads config line head Nobody = tt

led_leads : (config : Config) (line : DownstreamPort) (head : Head) (r : Result Route Verdict) → Leads config.exits (led config line head r)
led_leads config line head (Ok way) = up_leads config line head way
led_leads config line head (Err verdict.Pass) = stopped_leads config.exits line head None head.parties
led_leads config line head (Err (verdict.Violation check)) = stopped_leads config.exits line head (Some check) head.parties

routed_leads : (tree : Routes) (config : Config) (line : DownstreamPort) (head : Head) (target : Option Target) → Leads config.exits (routed tree config line head target)
routed_leads tree config line head None = stopped_leads config.exits line head None head.parties
routed_leads tree config line head (Some target) = led_leads config line head (redirected line (route_of tree.switches tree.ports config.id head.header) head.header)

tested_leads : (tree : Routes) (config : Config) (line : DownstreamPort) (head : Head) (v : Verdict) → Leads config.exits (tested tree config line head v)
tested_leads tree config line head (verdict.Violation check) = stopped_leads config.exits line head (Some check) head.parties
tested_leads tree config line head verdict.Pass = routed_leads tree config line head (target_of head.header)

-- at a downstream port
pub downstream_leads : (tree : Routes) (config : Config) (head : Head) (line : DownstreamPort) → config.line ≡ Some line → Leads config.exits (course_of tree config head)
downstream_leads tree config head line is = subst (λ (o : Option DownstreamPort). Leads config.exits (course_at tree config head o)) (sym is) (tested_leads tree config line head (verdict_of line head.header))

-- ---- where outputs lead

first_passing : {X : Type 0} (p : X → Bool) (xs : List X) (k : ℕ) → position p xs ≡ Some k → (x : X) × (k < length xs) × (slice_get xs k ≡ Some x) × (p x ≡ true)
first_passing p [] k e = absurd cc
first_passing p (x ∷ xs) k e = let at = position-Some p (x ∷ xs) k x e in (get_or (x ∷ xs) k x, at.0, slice_get-get_or (x ∷ xs) k x at.0, at.1)

-- down below a port of the switch
pub record Below (platform : Platform) (switch : Switch) (output : ℕ) : Type 0 where
  pub port : DownstreamPort
  pub listed : Contains platform.ports port
  pub on : bus_of port.id ≡ internal_bus switch
  pub sent : sender_of (links_of platform) (record { lower = id_below port; way = Down }) ≡ Some (record { node = (upstream_end platform switch.id).node; output = output })

module _ (platform : Platform) (laws : IsPlatform platform) where
  pub below : (switch : Switch) (other output : ℕ) → Contains platform.switches switch → lane_to (exits_of platform (internal_bus switch)) other ≡ Some output → Below platform switch output
  below switch other output within e = go (position (leads_to other) (exits_of platform (internal_bus switch))) refl e
    where
      ports : List DownstreamPort
      ports = ports_on platform.ports (internal_bus switch)

      at : (k : ℕ) → (x : DownstreamPort) × (k < length ports) × (slice_get ports k ≡ Some x) × (leads_to other (exit_of platform x) ≡ true) → suc k ≡ output → Below platform switch output
      at k (q, less, there, leads) same =
          let here : get_or ports k q ≡ q = get_or_from_slice_get ports k q q there in
          let kept = kept_from (is_on_bus (internal_bus switch)) platform.ports q (k, less, here) in
          let one : 1 + k ≡ output = omega (arith, same) in
          record {
            port = q;
            listed = kept.0;
            on = eqb-true _ _ kept.1;
            sent = sent_below platform laws q kept.0 (and_parts _ _ leads).1
                ∙ ap (λ (e : LinkEnd). Some e) (ap (downstream_end platform) (sym here) ∙ (output_at platform laws switch k q within less ∙ ap (λ (n : ℕ). record { node = (upstream_end platform switch.id).node; output = n }) one));
          }

      go : (o : Option ℕ) → position (leads_to other) (exits_of platform (internal_bus switch)) ≡ o → option_map suc o ≡ Some output → Below platform switch output
      go None i e = absurd cc
      go (Some k) i e = at k (first_passing (λ (p : DownstreamPort). leads_to other (exit_of platform p)) ports k (sym (position_map (leads_to other) (exit_of platform) ports) ∙ i)) (same_Some (suc k) output e)

  -- ---- what stands at the lower end of a link

  pub record Lower (id : ℕ) : Type 0 where
    pub taken : is_taken platform.switches platform.functions id ≡ true
    pub above : (id ≡ 256) ⊎ ((port : DownstreamPort) × Contains platform.ports port × (id ≡ id_below port))

  pub lower : (direction : Direction) (end : LinkEnd) → sender_of (links_of platform) direction ≡ Some end → Lower direction.lower
  lower direction end e = let from = sender_link platform laws direction end e in at from.0 from.1 from.2
    where
      above_of : (link : Link) → IsSentDown platform link.lower link.above → link.lower ≡ direction.lower → (direction.lower ≡ 256) ⊎ ((port : DownstreamPort) × Contains platform.ports port × (direction.lower ≡ id_below port))
      above_of link (inl (top, root)) same = inl (sym same ∙ top)
      above_of link (inr (port, listed, is, from)) same = inr (port, listed, sym same ∙ is)

      at : (link : Link) → Contains (links_of platform) link → link.lower ≡ direction.lower → Lower direction.lower
      at link listed same =
          let is = link_is platform laws link listed in
          record { taken = subst (λ (n : ℕ). is_taken platform.switches platform.functions n ≡ true) same is.taken; above = above_of link is.above same }

  -- a switch, or a function
  pub taker : (id : ℕ) → is_taken platform.switches platform.functions id ≡ true → ((switch : Switch) × (switch_at platform.switches id ≡ Some switch)) ⊎ (is_function platform.functions id ≡ true)
  taker id taken = go (or_cases _ _ taken)
    where
      at : (o : Option Switch) → switch_at platform.switches id ≡ o → is_switch platform.switches id ≡ true → (switch : Switch) × (switch_at platform.switches id ≡ Some switch)
      at None e is = let one = passing (λ s. s.id == id) platform.switches is in absurd (missed (λ s. s.id == id) platform.switches one.0 e one.1 one.2)
      at (Some switch) e is = (switch, e)

      go : (is_switch platform.switches id ≡ true) ⊎ (is_function platform.functions id ≡ true) → ((switch : Switch) × (switch_at platform.switches id ≡ Some switch)) ⊎ (is_function platform.functions id ≡ true)
      go (inl is) = inl (at (switch_at platform.switches id) refl is)
      go (inr is) = inr is
