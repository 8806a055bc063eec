-- A guarded port does with a request what its fate says.
use Rattle.std.proofs.Common.{◌≡◌, ℕ, ◌==◌, Bool, true, false, cond, ◌&&◌, ◌||◌, not, List, Option, Some, None, refl, sym, ap, ◌∙◌}
use Rattle.std.proofs.lemmas.Bool.{cond-true, eq-eqb, false≢true}
use Rattle.fab_types.specs.Controls.{validates_source, blocks_translated, controls_egress, redirects_requests, forwards_upstream}
use Rattle.fab_types.specs.declared.class.Class.{Class}
use Rattle.fab_types.specs.declared.class.Class.TheVariants.{Posted, NonPosted, Completion}
use Rattle.fab_types.specs.declared.cost.Cost.{Cost}
use Rattle.fab_types.specs.declared.faults.malformed.Malformed.{Malformed}
use Rattle.fab_types.specs.declared.head.AddressType.{AddressType}
use Rattle.fab_types.specs.declared.head.Head.{Head}
use Rattle.fab_types.specs.declared.head.Header.{Header}
use Rattle.fab_types.specs.declared.head.Header.TheVariants as header
use Rattle.fab_types.specs.declared.head.Parties.TheVariants.{Upward}
use Rattle.fab_types.specs.declared.status.Status.{Status}
use Rattle.fab_types.specs.declared.status.Status.TheVariants.{UR, CA}
use Rattle.fab_types.specs.declared.violation.Check.{Check}
use Rattle.fab_types.specs.declared.violation.Violation.{Violation}
use Rattle.fab_types.specs.declared.violation.Check.TheVariants.{SourceValidation, TranslationBlocking}
use Rattle.platform.specs.declared.parts.DownstreamPort.{DownstreamPort}
use Rattle.fab_types.specs.Id.{bus_of}
use Rattle.platform.specs.Egress.{direct_at, direct_to, holder_beside}
use Rattle.platform.specs.Owners.{holds_address, holds_bus}
use Rattle.platform.specs.Tree.{id_below}
use Rattle.tlp_view.specs.Packet.{Packet}
use Rattle.tlp_view.specs.Kinds.{is_completion, has_address, class_of_kind}
use Rattle.tlp_view.specs.Bytes.{packet_of}
use Rattle.tlp_view.specs.Malformed.{malformed}
use Rattle.tlp_view.specs.Costs.{cost_of}
use Rattle.bridge.specs.Bridges.{Routes}
use Rattle.bridge.specs.Routes.{route_of}
use Rattle.acs.specs.declared.vetting.Verdict.{Verdict}
use Rattle.acs.specs.declared.vetting.Verdict.TheVariants as verdict
use Rattle.acs.specs.Vetting.{verdict_of}
use Rattle.acs.specs.Redirection.{redirected}
use Rattle.port.specs.declared.course.Forwarding.TheVariants.{Stop}
use Rattle.port.specs.Configs.{Config}
use Rattle.port.specs.Courses.{course_at, course_of, led, stopped, tested, up_by, reported_by}
use Rattle.request_handling.specs.declared.fate.Fate.{Fate}
use Rattle.request_handling.specs.Answers.{address_of}
use Rattle.request_handling.specs.Fates as fates
use Rattle.request_handling.specs.Heads.{head_of, header_unless, packet_header}
use Rattle.topology.proofs.Members.{found}
use Rattle.guarded_routes.proofs.Alike.{claims}
use Rattle.guarded_routes.proofs.Controls.{Set, set_of}
use Rattle.guarded_routes.proofs.Peers.{each_none}
use Rattle.guarded_routes.proofs.Requests.{left_up, request_left}
use Rattle.guarded_routes.specs.FirstPorts.{IsGuardedFirst, by_fate, check_of, report_at, route_left, sent_by}

-- whatever the class, what is stopped is stopped
fate_stops : (ports : List DownstreamPort) (config : Config) (line : DownstreamPort) (head : Head) (status : Status) (class : Class) (report : Option Violation) → by_fate ports config line head (fates.stopped status class) report ≡ Stop report
fate_stops ports config line head status Posted report = refl
fate_stops ports config line head status NonPosted report = refl
fate_stops ports config line head status Completion report = refl

-- the first port stops what it stops, with its report
stops : (line : DownstreamPort) (function : ℕ) (cost : Cost) (h : Header) (check : Option Check) → function ≡ id_below line
    → stopped line (record { parties = Upward function; cost = cost; header = h }) check ≡ Stop (reported_by line (record { parties = Upward function; cost = cost; header = h }) function check)
stops line function cost h check below = rw (eq-eqb function (id_below line) below) refl

-- what a function sends, with this header
abbrev hd : ℕ → Cost → Header → Head
hd function cost h = record { parties = Upward function; cost = cost; header = h }

abbrev Agrees : Routes → Config → DownstreamPort → ℕ → Cost → Header → Verdict → Fate → Type 0
Agrees tree config line function cost h v f = tested tree config line (hd function cost h) v ≡ by_fate tree.ports config line (hd function cost h) f (reported_by line (hd function cost h) function (check_of v))

-- a memory request that passes both tests goes on
by_tests : (tree : Routes) (config : Config) (line : DownstreamPort) (function : ℕ) (cost : Cost) (h : Header) (class : Class) (x y : Bool) (fate : Fate) → function ≡ id_below line → Agrees tree config line function cost h verdict.Pass fate
    → Agrees tree config line function cost h (cond x (verdict.Violation SourceValidation) (cond y (verdict.Violation TranslationBlocking) verdict.Pass)) (cond (x || y) (fates.stopped CA class) fate)
by_tests tree config line function cost h class true y fate below pass = stops line function cost h (Some SourceValidation) below ∙ sym (fate_stops tree.ports config line (hd function cost h) CA class _)
by_tests tree config line function cost h class false true fate below pass = stops line function cost h (Some TranslationBlocking) below ∙ sym (fate_stops tree.ports config line (hd function cost h) CA class _)
by_tests tree config line function cost h class false false fate below pass = pass

-- a request of another kind is stopped in any case
by_kind : (tree : Routes) (config : Config) (line : DownstreamPort) (function : ℕ) (cost : Cost) (r : ℕ) (class : Class) (x : Bool) → function ≡ id_below line
    → Agrees tree config line function cost (header.OtherRequest r) (cond x (verdict.Violation SourceValidation) verdict.Pass) (cond x (fates.stopped CA class) (fates.stopped UR class))
by_kind tree config line function cost r class true below = stops line function cost (header.OtherRequest r) (Some SourceValidation) below ∙ sym (fate_stops tree.ports config line (hd function cost (header.OtherRequest r)) CA class _)
by_kind tree config line function cost r class false below = stops line function cost (header.OtherRequest r) None below ∙ sym (fate_stops tree.ports config line (hd function cost (header.OtherRequest r)) UR class _)

-- what passes goes by the route that is left
passed_on : (tree : Routes) (config : Config) (line : DownstreamPort) (function : ℕ) (cost : Cost) (r a : ℕ) (at : AddressType) → IsGuardedFirst tree.ports config line function → Set line
    → tested tree config line (hd function cost (header.Memory r at a)) verdict.Pass ≡ up_by config line (hd function cost (header.Memory r at a)) (route_left tree.ports line a)
passed_on tree config line function cost r a at first set =
    ap (led config line (hd function cost (header.Memory r at a)))
    (ap (λ (id : ℕ). redirected line (route_of tree.switches tree.ports id (header.Memory r at a)) (header.Memory r at a)) first.same_id ∙ request_left line set tree.switches tree.ports first.listed r a at)

-- to the host, if no port lets it through to a function
goes_so : (tree : Routes) (config : Config) (line : DownstreamPort) (function : ℕ) (cost : Cost) (r a : ℕ) (at : AddressType) → IsGuardedFirst tree.ports config line function → (o : Option ℕ) → direct_to tree.ports function a ≡ o
    → up_by config line (hd function cost (header.Memory r at a)) (route_left tree.ports line a) ≡ by_fate tree.ports config line (hd function cost (header.Memory r at a)) (fates.goes_to o) None
goes_so tree config line function cost r a at first None e =
    let there = (found (λ (p : DownstreamPort). p.id == line.id) tree.ports line first.listed).0 in
    let none : direct_at tree.ports a line ≡ None = sym (cond-true (holds_bus line (bus_of function)) (direct_at tree.ports a line) None first.held) ∙ each_none tree.ports (bus_of function) a tree.ports e line there in
    ap (up_by config line (hd function cost (header.Memory r at a))) (left_up tree.ports line a none)
goes_so tree config line function cost r a at first (Some peer) e = refl

agrees_memory : (tree : Routes) (config : Config) (line : DownstreamPort) (function : ℕ) (cost : Cost) (r : ℕ) (at : AddressType) (a : ℕ) (class : Class) (egress : Bool) → IsGuardedFirst tree.ports config line function → egress ≡ false
    → Agrees tree config line function cost (header.Memory r at a) (verdict_of line (header.Memory r at a))
    (cond ((validates_source line.controls && not (holds_bus line (bus_of r))) || (blocks_translated line.controls && true && not (fates.is_untranslated at)))
    (fates.stopped CA class) (cond (not true || (not (forwards_upstream line.controls) && holds_address line a)) (fates.stopped UR class) (cond egress (fates.stopped CA class) (fates.goes_to (direct_to tree.ports function a)))))
agrees_memory tree config line function cost r at a class egress first no_egress =
    let set = set_of line first.guarded in
    let pass = passed_on tree config line function cost r a at first set ∙ goes_so tree config line function cost r a at first (direct_to tree.ports function a) refl in
    rw (set.source, set.translation, set.upstream, no_egress, claims at) (by_tests tree config line function cost (header.Memory r at a) class (not (holds_bus line (bus_of r))) (not (fates.is_untranslated at)) (fates.goes_to (direct_to tree.ports function a)) first.below pass)

agrees_other : (tree : Routes) (config : Config) (line : DownstreamPort) (function : ℕ) (cost : Cost) (r : ℕ) (x : Bool) (class : Class) → IsGuardedFirst tree.ports config line function
    → Agrees tree config line function cost (header.OtherRequest r) (verdict_of line (header.OtherRequest r))
    (cond ((validates_source line.controls && not (holds_bus line (bus_of r))) || (blocks_translated line.controls && false && x))
    (fates.stopped CA class) (fates.stopped UR class))
agrees_other tree config line function cost r x class first =
    let set = set_of line first.guarded in
    rw (set.source, set.translation) (by_kind_or tree config line function cost r class (not (holds_bus line (bus_of r))) first.below)
  where
    by_kind_or : (tree : Routes) (config : Config) (line : DownstreamPort) (function : ℕ) (cost : Cost) (r : ℕ) (class : Class) (x : Bool) → function ≡ id_below line
        → Agrees tree config line function cost (header.OtherRequest r) (cond x (verdict.Violation SourceValidation) verdict.Pass) (cond (x || false) (fates.stopped CA class) (fates.stopped UR class))
    by_kind_or tree config line function cost r class true below = by_kind tree config line function cost r class true below
    by_kind_or tree config line function cost r class false below = by_kind tree config line function cost r class false below

no_egress : (egress redirects outside blocked : Bool) → redirects ≡ true → (egress && not redirects && outside && blocked) ≡ false
no_egress true true outside blocked e = refl
no_egress false redirects outside blocked e = refl
no_egress true false outside blocked e = absurd (false≢true e)

agrees_packet : (tree : Routes) (config : Config) (line : DownstreamPort) (function : ℕ) (cost : Cost) (t : Packet) → IsGuardedFirst tree.ports config line function → is_completion t.kind ≡ false
    → Agrees tree config line function cost (packet_header (Upward function) t) (verdict_of line (packet_header (Upward function) t)) (fates.packet_fate tree.ports function line t)
agrees_packet tree config line function cost t first request = go (has_address t.kind) refl
  where
    unblocked : fates.fails_egress tree.ports line t ≡ false
    unblocked =
        no_egress (controls_egress line.controls) (redirects_requests line.controls) (not (holds_address line (address_of t))) (fates.is_blocked_from line (holder_beside tree.ports line (address_of t))) (set_of line first.guarded).requests

    go : (mem : Bool) → has_address t.kind ≡ mem → Agrees tree config line function cost (packet_header (Upward function) t) (verdict_of line (packet_header (Upward function) t)) (fates.packet_fate tree.ports function line t)
    go true e = rw (request, e) (agrees_memory tree config line function cost t.requester t.address_type _ (class_of_kind t.kind) (fates.fails_egress tree.ports line t) first unblocked)
    go false e = rw (request, e) (agrees_other tree config line function cost t.requester _ (class_of_kind t.kind) first)

agrees_unless : (tree : Routes) (config : Config) (line : DownstreamPort) (function : ℕ) (bytes : List ℕ) (cost : Cost) (m : Option Malformed) → IsGuardedFirst tree.ports config line function → (m ≡ None → is_completion (packet_of bytes).kind ≡ false)
    → Agrees tree config line function cost (header_unless m (Upward function) bytes) (verdict_of line (header_unless m (Upward function) bytes)) (fates.fate_unless m tree.ports function line bytes)
agrees_unless tree config line function bytes cost None first request = agrees_packet tree config line function cost (packet_of bytes) first (request refl)
agrees_unless tree config line function bytes cost (Some cause) first request =
    let set = set_of line first.guarded in
    rw (set.source, set.translation) (stops line function cost header.Malformed None first.below)

pub agrees : (tree : Routes) (config : Config) (line : DownstreamPort) (function : ℕ) (bytes : List ℕ) → IsGuardedFirst tree.ports config line function → (malformed bytes ≡ None → is_completion (packet_of bytes).kind ≡ false)
    → course_of tree config (head_of (sent_by function bytes)) ≡ by_fate tree.ports config line (head_of (sent_by function bytes)) (fates.fate tree.ports function bytes) (report_at line function (head_of (sent_by function bytes)))
agrees tree config line function bytes first request =
    ap (course_at tree config (head_of (sent_by function bytes))) first.downstream
    ∙ (agrees_unless tree config line function bytes (cost_of bytes) (malformed bytes) first request
    ∙ ap (λ (p : Option DownstreamPort). by_fate tree.ports config line (head_of (sent_by function bytes)) (fates.fate_below tree.ports function p bytes) (report_at line function (head_of (sent_by function bytes)))) (sym first.first))
