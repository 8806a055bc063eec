-- No event of a guarded fabric but one that returns credits gives any, and none fills a queue over; none changes the links,
-- the ports or whose an outbox is.
use Rattle.std.proofs.Common.{◌≡◌, ℕ, ◌<◌, ◌==◌, Bool, true, false, cond, List, [], ◌∷◌, ◌++◌, length, map, get_or, Option, Some, None, refl, sym, ap, ◌∙◌, subst}
use Rattle.std.specs.Prelude.{IfSome, filter, is_some, option_map, option_to_list}
use Rattle.std.specs.Option.{option_and_then}
use Rattle.std.proofs.lemmas.List.{append-nil}
use Rattle.std.proofs.lemmas.List.Elements.{filter-append}
use Rattle.std.proofs.lemmas.List.Quantifiers.{position-Some}
use Rattle.fab_types.specs.declared.class.Class.{Class}
use Rattle.fab_types.specs.declared.class.Class.TheVariants.{NonPosted}
use Rattle.fab_types.specs.declared.origin.Origin.{Origin}
use Rattle.fab_types.specs.declared.origin.Origin.TheVariants as origin
use Rattle.fab_types.specs.declared.violation.Violation.{Violation}
use Rattle.frame_log.specs.Descriptor.{Descriptor}
use Rattle.domain.specs.declared.entry.Entry.TheVariants as entry
use Rattle.domains.specs.Agents.{AgentsView, emitted_if, is_function_of, waiting_of}
use Rattle.link.specs.Channels.{Channel, is_full, deliver, send}
use Rattle.port.specs.Courses.{course_of}
use Rattle.lane.specs.Lanes.{class_of, eligible}
use Rattle.port.specs.declared.course.Forwarding.{Forwarding}
use Rattle.port.specs.declared.course.Forwarding.TheVariants.{To, Stop, NoCase}
use Rattle.lane.proofs.Waiting.{class_of-taken}
use Rattle.domains.specs.Domains.{Made, made, made_at, place_of, place_of_function}
use Rattle.topology.specs.Links.{sender_of}
use Rattle.topology.specs.declared.nodes.LinkEnd.{LinkEnd}
use Rattle.topology.specs.declared.places.PortPlace.{PortPlace}
use Rattle.interconnect.specs.Moves.{channel_at, on_channel, put_at, with_channel}
use Rattle.interconnect.specs.Passes.{index_of, no_place}
use Rattle.fabric_core.specs.declared.event.Event.{Event}
use Rattle.fabric_core.specs.declared.event.Event.TheVariants.{Arrive, Credit, Enter, Mmio, Pass, Root, Send, Submit, Take, Tick}
use Rattle.fabric_core.specs.Arrivals.{Taken, arrived, arrived_by, agents_by_host, ended, received_at, from_host, own_by_function, own_by_host, relayed, arrived_at_host, arrived_at_host_by, taken, taken_at, to_function, to_host}
use Rattle.received.specs.declared.received.Received.{Received}
use Rattle.received.specs.Received.{received_at_host}
use Rattle.fabric_core.specs.Events.{effect, entered_at, link_of}
use Rattle.fabric_core.specs.Invariant.{IsConsistent}
use Rattle.fabric_core.specs.Misrouting.{pass}
use Rattle.switch_output.specs.Vetted.{may_go_on}
use Rattle.fabric_core.specs.Passing.{Site, answer_waits, answered_at, is_full_at, output_end, passed, passed_by, passed_number, port_number, refused_by, site_at, strayed}
use Rattle.fabric_core.specs.Places.{IsFlown}
use Rattle.fabric_core.specs.Soundness.{IsGuardedFabric, config_of}
use Rattle.fabric_core.specs.TakenOut.{returns_credits}
use Rattle.fabric_core.specs.World.{World, with_channels, with_agents}
use Rattle.fabric_core.proofs.effect.Answered.{only_non_posted_are_answered}
use Rattle.fabric_core.proofs.soundness.GuardedAliens.{home_at_function, home_at_host, passes_as_turned}
use Rattle.fabric_core.proofs.runs.Narrowing.{NarrowLinks, Narrows, TakenNarrowly, links_same, links_then, narrow_put, narrow_with, origin_of, origins_joined, origins_with, receive_narrows, send_narrows, taken_narrowly}
use Rattle.fabric_core.proofs.runs.OwnTurns.{configs_stay}
use Rattle.fabric_core.proofs.invariant.Renewing.{taken_flown, taken_out_of}
use Rattle.fabric_core.proofs.runs.Reported.{TellsNone}
use Rattle.fabric_core.proofs.invariant.Turning.{inputs_there}

-- the violations that a test finds stay
pub record Tightens (is_told : Violation → Bool) (old new : World) : Type 0 where
  pub tree : new.tree ≡ old.tree
  pub configs : map config_of new.ports ≡ map config_of old.ports
  pub origins : map origin_of new.agents.outboxes ≡ map origin_of old.agents.outboxes
  pub links : NarrowLinks old.channels new.channels
  pub violations : filter is_told new.violations ≡ filter is_told old.violations

-- a report that the test doesn't find
unfound : (p : Violation → Bool) (violations : List Violation) (report : Option Violation) → ((v : Violation) → report ≡ Some v → p v ≡ false) → filter p (violations ++ option_to_list report) ≡ filter p violations
unfound p violations None none = ap (filter p) (append-nil violations)
unfound p violations (Some v) none =
    filter-append p violations (v ∷ []) ∙ (ap (λ (b : Bool). filter p violations ++ cond b (v ∷ []) []) (none v refl) ∙ append-nil (filter p violations))

module _ (is_told : Violation → Bool) where
  abbrev Tighten : World → Option World → Type 0
  Tighten w all = IfSome all (Tightens is_told w)

  unless : (w v : World) (b : Bool) → (b ≡ false → Tightens is_told w v) → Tighten w (cond b None (Some v))
  unless w v true tightens = tt
  unless w v false tightens = tightens refl

  chained : {X : Type 0} (w : World) (P : X → Type 0) (f : X → Option World) (o : Option X) → ((x : X) → P x → Tighten w (f x)) → IfSome o P → Tighten w (option_and_then f o)
  chained w P f None each some = tt
  chained w P f (Some x) each some = each x some

  -- ---- begins

  begun : (w : World) (origin : Origin) (o : Option Made) → Tighten w (option_map (with_agents w) (emitted_if w.agents origin o))
  begun w origin None = tt
  begun w origin (Some m) = record { tree = refl; configs = refl; origins = origins_joined w.agents.outboxes origin m.sent; links = links_same w.channels; violations = refl }

  -- ---- within a link, and onto it

  linked : (w : World) (cs : List (List Channel)) → NarrowLinks w.channels cs → Tightens is_told w (with_channels w cs)
  linked w cs links = record { tree = refl; configs = refl; origins = refl; links = links; violations = refl }

  stepped : (w : World) (end : LinkEnd) (o : Option Channel) → IfSome o (Narrows (channel_at w.channels end)) → Tighten w (option_map (with_channels w) (option_map (with_channel w.channels end) o))
  stepped w end None narrows = tt
  stepped w end (Some c) narrows = linked w (with_channel w.channels end c) (narrow_with w.channels end c narrows)

  on_link : (w : World) (found : Option LinkEnd) (step : Channel → Option Channel) → ((c : Channel) → IfSome (step c) (Narrows c)) → Tighten w (option_map (with_channels w) (on_channel w.channels found step))
  on_link w None step narrows = tt
  on_link w (Some end) step narrows = stepped w end (step (channel_at w.channels end)) (narrows (channel_at w.channels end))

  abbrev IsOfClass : Class → Descriptor × List Descriptor → Type 0
  IsOfClass class t = class_of t.0 ≡ class

  of_class : (class : Class) (waiting : List Descriptor) (o : Option (Descriptor × List Descriptor)) → eligible class waiting ≡ o → IfSome o (IsOfClass class)
  of_class class waiting None e = tt
  of_class class waiting (Some t) e = class_of-taken class waiting t.1 t.0 e

  entered : (w : World) (origin : Origin) (class : Class) (found : Option LinkEnd) (t : Descriptor × List Descriptor) → IsOfClass class t → Tighten w (entered_at w origin class found t)
  entered w origin class None t is = tt
  entered w origin class (Some end) t is =
      unless w _ (is_full class (channel_at w.channels end)) (λ free. record {
        tree = refl;
        configs = refl;
        origins = origins_with w.agents.outboxes origin t.1;
        links = narrow_put w.channels end t.0 (ap (λ (k : Class). is_full k (channel_at w.channels end)) is ∙ free);
        violations = refl;
      })

  -- ---- what was taken goes on

  put_on : (w : World) (class : Class) (t : Taken) → TakenNarrowly w.channels class t → (end : LinkEnd) → is_full class (channel_at w.channels end) ≡ false → Tightens is_told w (with_channels w (put_at t.channels end t.frame))
  put_on w class t narrowly end free =
      linked w (put_at t.channels end t.frame) (links_then w.channels t.channels _ narrowly.links
      (narrow_put t.channels end t.frame (narrowly.places end (class_of t.frame) ∙ (ap (λ (k : Class). is_full k (channel_at w.channels end)) narrowly.class_is ∙ free))))

  sent_down : (w : World) (class : Class) (t : Taken) → TakenNarrowly w.channels class t → (found : Option LinkEnd) → Tighten w (relayed w t class found)
  sent_down w class t narrowly None = tt
  sent_down w class t narrowly (Some end) = unless w _ (is_full class (channel_at w.channels end)) (put_on w class t narrowly end)

  -- ---- at the host and at functions

  abbrev SameOrigins : AgentsView → AgentsView → Type 0
  SameOrigins old new = map origin_of new.outboxes ≡ map origin_of old.outboxes

  emitted_origins : (agents : AgentsView) (origin : Origin) (o : Option Made) → IfSome (emitted_if agents origin o) (SameOrigins agents)
  emitted_origins agents origin None = tt
  emitted_origins agents origin (Some m) = origins_joined agents.outboxes origin m.sent

  silent_origins : (agents : AgentsView) (o : Option Made) → IfSome (option_map (λ (m : Made). record { domains = m.domains; outboxes = agents.outboxes }) o) (SameOrigins agents)
  silent_origins agents None = tt
  silent_origins agents (Some m) = refl

  host_origins : (agents : AgentsView) (frame : Descriptor) (received : Received) → IfSome (own_by_host agents frame received) (SameOrigins agents)
  host_origins agents frame Received.Relayed = tt
  host_origins agents frame Received.Request = emitted_origins agents (origin.Host frame.domain) (made agents.domains frame.domain (entry.Carry frame.number))
  host_origins agents frame Received.Completion = silent_origins agents (made agents.domains frame.domain (entry.Deliver frame.number))
  host_origins agents frame Received.Unknown = tt

  function_origins : (agents : AgentsView) (function : ℕ) (frame : Descriptor) (received : Received) → IfSome (own_by_function agents function frame received) (SameOrigins agents)
  function_origins agents function frame Received.Relayed = tt
  function_origins agents function frame Received.Request = emitted_origins agents (origin.Function function) (cond (is_function_of agents.domains function frame.domain) (made agents.domains frame.domain (entry.Carry frame.number)) None)
  function_origins agents function frame Received.Completion = silent_origins agents (made agents.domains frame.domain (entry.Deliver frame.number))
  function_origins agents function frame Received.Unknown = tt

  ended_tightens : (w : World) (t : Taken) (o : Option AgentsView) → NarrowLinks w.channels t.channels → IfSome o (SameOrigins w.agents) → Tightens is_told w (ended w t o)
  ended_tightens w t None links same = record { tree = refl; configs = refl; origins = refl; links = links; violations = refl }
  ended_tightens w t (Some agents) links same = record { tree = refl; configs = refl; origins = same; links = links; violations = refl }

  module _ (w : World) (g : IsGuardedFabric w) where
    at_host : (class : Class) (t : Taken) (received : Received) → TakenNarrowly w.channels class t → Tightens is_told w (ended w t (agents_by_host w.routes.ports w.agents t.frame received))
    at_host class t received narrowly =
        subst (λ (o : Option AgentsView). Tightens is_told w (ended w t o)) (sym (home_at_host w g t.frame received)) (ended_tightens w t (own_by_host w.agents t.frame received) narrowly.links (host_origins w.agents t.frame received))

    at_host_tightens : (class : Class) (t : Taken) (received : Received) → TakenNarrowly w.channels class t → Tighten w (arrived_at_host_by w class t received)
    at_host_tightens class t Received.Relayed narrowly = sent_down w class t narrowly (sender_of w.tree.links from_host)
    at_host_tightens class t Received.Request narrowly = at_host class t Received.Request narrowly
    at_host_tightens class t Received.Completion narrowly = at_host class t Received.Completion narrowly
    at_host_tightens class t Received.Unknown narrowly = at_host class t Received.Unknown narrowly

    at_host_if : (class : Class) (o : Option Taken) → IfSome o (TakenNarrowly w.channels class) → Tighten w (arrived_at_host w class o)
    at_host_if class None narrowly = tt
    at_host_if class (Some t) narrowly = at_host_tightens class t (received_at_host t.frame) narrowly

    arrived_tightens : (function : ℕ) (class : Class) (t : Taken) (received : Received) → TakenNarrowly w.channels class t → Tightens is_told w (arrived_by w function t received)
    arrived_tightens function class t received narrowly =
        subst (λ (o : Option AgentsView). Tightens is_told w (ended w t o)) (sym (home_at_function w g function t.frame received)) (ended_tightens w t (own_by_function w.agents function t.frame received) narrowly.links (function_origins w.agents function t.frame received))

    arrive_if : (function : ℕ) (class : Class) (b : Bool) (o : Option Taken) → IfSome o (TakenNarrowly w.channels class) → Tighten w (cond b (arrived w function o) None)
    arrive_if function class false o narrowly = tt
    arrive_if function class true None narrowly = tt
    arrive_if function class true (Some t) narrowly = arrived_tightens function class t (received_at w function t.frame) narrowly

  -- ---- at a port

  module _ (w : World) (site : Site) (class : Class) (t : Taken) (narrowly : TakenNarrowly w.channels class t) (flown : IsFlown w.agents.domains t.frame) where
    strayed_tightens : Tightens is_told w (strayed w site t)
    strayed_tightens = record { tree = refl; configs = configs_stay w.ports site.number t.frame; origins = refl; links = narrowly.links; violations = refl }

    forward_tightens : (output : ℕ) (full may : Bool) → is_full_at w site output class ≡ full → Tighten w (cond full None (cond may (Some (with_channels w (put_at t.channels (output_end site output) t.frame))) (Some (strayed w site t))))
    forward_tightens output true may e = tt
    forward_tightens output false true e = put_on w class t narrowly (output_end site output) e
    forward_tightens output false false e = strayed_tightens

    -- what answers it has a place
    answer_place : (m : Made) → made w.agents.domains t.frame.domain (entry.Refuse t.frame.number) ≡ Some m → answer_waits w site class ≡ false → (answer : Descriptor) → m.sent ≡ Some answer → is_full (class_of answer) (channel_at t.channels (output_end site site.config.own)) ≡ false
    answer_place m e free answer sent =
        let classes = only_non_posted_are_answered w.agents.domains t.frame m flown e answer sent in
        let non_posted : class ≡ NonPosted = sym narrowly.class_is ∙ classes.0 in
        narrowly.places (output_end site site.config.own) (class_of answer)
        ∙ (ap (λ (k : Class). is_full k (channel_at w.channels (output_end site site.config.own))) classes.1 ∙ (ap (answer_waits w site) (sym non_posted) ∙ free))

    answered_narrow : (sent : Option Descriptor) → ((answer : Descriptor) → sent ≡ Some answer → is_full (class_of answer) (channel_at t.channels (output_end site site.config.own)) ≡ false) → NarrowLinks w.channels (answered_at t.channels (output_end site site.config.own) sent)
    answered_narrow None free = narrowly.links
    answered_narrow (Some answer) free = links_then w.channels t.channels _ narrowly.links (narrow_put t.channels (output_end site site.config.own) answer (free answer refl))

    refused_tightens : (report : Option Violation) (o : Option Made) → made w.agents.domains t.frame.domain (entry.Refuse t.frame.number) ≡ o → ((v : Violation) → report ≡ Some v → is_told v ≡ false) → answer_waits w site class ≡ false → Tightens is_told w (refused_by w site report t o)
    refused_tightens report None e none free = strayed_tightens
    refused_tightens report (Some m) e none free = record { tree = refl; configs = refl; origins = refl; links = answered_narrow m.sent (answer_place m e free); violations = unfound is_told w.violations report none }

    course_tightens : (course : Forwarding) → ((v : Violation) → course ≡ Stop (Some v) → is_told v ≡ false) → Tighten w (passed_by w site class t course)
    course_tightens (To output) none = forward_tightens output (is_full_at w site output class) (may_go_on w.routes.ports t.frame) refl
    course_tightens (Stop report) none =
        unless w _ (answer_waits w site class) (refused_tightens report (made w.agents.domains t.frame.domain (entry.Refuse t.frame.number)) refl (λ v e. none v (ap Stop e)))
    course_tightens NoCase none = strayed_tightens

  module _ (w : World) (kept : IsConsistent w) (class : Class) where
    passed_tightens : (site : Site) (o : Option Taken) → IfSome o (TakenNarrowly w.channels class) → ((t : Taken) → o ≡ Some t → IsFlown w.agents.domains t.frame)
        → ((t : Taken) (v : Violation) → o ≡ Some t → course_of w.routes site.config t.frame.head ≡ Stop (Some v) → is_told v ≡ false) → Tighten w (option_and_then (passed w site class) o)
    passed_tightens site None narrowly flown none = tt
    passed_tightens site (Some t) narrowly flown none = course_tightens w site class t narrowly (flown t refl) (course_of w.routes site.config t.frame.head) (λ v e. none t v refl e)

    turned_tightens : (found : Option ℕ) → ((i : ℕ) → found ≡ Some i → i < length w.tree.places)
        → ((i : ℕ) (t : Taken) (v : Violation) → found ≡ Some i → taken_at w.channels class (get_or w.tree.places i no_place).input ≡ Some t → course_of w.routes (port_number w i).config t.frame.head ≡ Stop (Some v) → is_told v ≡ false) → Tighten w (passed_number w class found)
    turned_tightens None less none = tt
    turned_tightens (Some i) less none =
        let place = get_or w.tree.places i no_place in
        passed_tightens (site_at w i place) (taken_at w.channels class place.input) (taken_narrowly w.channels class place.input)
        (λ t e. taken_flown w t kept (taken_out_of w class place.input t (inputs_there w i kept (less i refl)) e)) (λ t v there stops. none i t v refl there stops)

    pass_tightens : IsGuardedFabric w → (port : ℕ) → TellsNone is_told w (Pass port class) → Tighten w (pass w port class)
    pass_tightens g port none =
        subst (Tighten w) (sym (passes_as_turned w g port class))
        (turned_tightens (index_of w.tree.places port) (λ i e. (position-Some (λ (place : PortPlace). place.id == port) w.tree.places i no_place e).0) none)

  -- ---- each event

  pub effect_tightens : (w : World) → IsConsistent w → IsGuardedFabric w → (event : Event) → returns_credits event ≡ false → TellsNone is_told w event → Tighten w (effect w event)
  effect_tightens w kept g (Submit function bytes) other none = begun w (origin.Function function) (made_at w.agents.domains (entry.Submit function bytes) (place_of_function w.agents.domains function))
  effect_tightens w kept g (Tick function) other none = begun w (origin.Function function) (made_at w.agents.domains (entry.Tick function) (place_of_function w.agents.domains function))
  effect_tightens w kept g (Mmio domain access) other none = begun w (origin.Host domain) (made_at w.agents.domains (entry.Mmio access) (place_of w.agents.domains domain))
  effect_tightens w kept g (Enter origin class) other none =
      let found = sender_of w.tree.links (link_of origin) in
      let waiting = waiting_of w.agents.outboxes origin in
      chained w (IsOfClass class) (entered_at w origin class found) (eligible class waiting) (entered w origin class found) (of_class class waiting (eligible class waiting) refl)
  effect_tightens w kept g (Pass port class) other none = pass_tightens w kept class g port none
  effect_tightens w kept g (Send direction class) other none = on_link w (sender_of w.tree.links direction) (send class) (send_narrows class)
  effect_tightens w kept g (Take direction) other none = on_link w (sender_of w.tree.links direction) deliver receive_narrows
  effect_tightens w kept g (Credit direction) other none = absurd cc
  effect_tightens w kept g (Root class) other none = at_host_if w g class (taken w to_host class) (taken_narrowly w.channels class (sender_of w.tree.links to_host))
  effect_tightens w kept g (Arrive function class) other none =
      arrive_if w g function class (is_some (place_of_function w.agents.domains function)) (taken w (to_function function) class) (taken_narrowly w.channels class (sender_of w.tree.links (to_function function)))
