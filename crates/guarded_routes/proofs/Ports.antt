-- What the downstream ports of a guarded layout do with sound packets.
use Rattle.std.proofs.Common.{◌≡◌, ℕ, suc, ◌==◌, Bool, true, false, cond, ◌&&◌, ◌||◌, not, Option, Some, None, List, option_map, slice_get, refl, sym, ap, ◌∙◌, subst}
use Rattle.std.specs.Prelude.{Ok}
use Rattle.std.specs.List.{find, filter}
use Rattle.std.proofs.lemmas.Bool.{and_from, eq-eqb, false≢true, cond-true, cond-false}
use Rattle.fab_types.specs.Controls.{validates_source, blocks_translated, redirects_completions, forwards_upstream}
use Rattle.fab_types.specs.Id.{bus_of}
use Rattle.fab_types.specs.declared.head.AddressType.{AddressType}
use Rattle.fab_types.specs.declared.head.AddressType.TheVariants.{Untranslated, TranslationRequest, Translated, Reserved}
use Rattle.fab_types.specs.declared.head.Head.{Head}
use Rattle.fab_types.specs.declared.head.Header.{Header}
use Rattle.fab_types.specs.declared.head.Header.TheVariants as header
use Rattle.fab_types.specs.declared.head.Parties.TheVariants.{Upward}
use Rattle.fab_types.specs.declared.violation.Check.{Check}
use Rattle.fab_types.specs.declared.violation.Check.TheVariants.{SourceValidation, TranslationBlocking}
use Rattle.fab_types.specs.declared.violation.Violation.{Violation}
use Rattle.platform.specs.declared.parts.DownstreamPort.{DownstreamPort}
use Rattle.platform.specs.declared.parts.Switch.{Switch}
use Rattle.platform.specs.Owners.{holds_bus}
use Rattle.platform.specs.Platform.{Platform}
use Rattle.platform.specs.Tree.{is_on_bus}
use Rattle.platform.specs.Tree.{id_below, internal_bus, is_taken}
use Rattle.bridge.specs.declared.route.Route.TheVariants as to
use Rattle.bridge.specs.declared.target.Target.{Target}
use Rattle.bridge.specs.declared.target.Target.TheVariants.{Bus}
use Rattle.bridge.specs.Bridges.{of_platform}
use Rattle.bridge.specs.Routes.{holder_on, route_from, route_of, target_of, to_holder}
use Rattle.acs.specs.declared.vetting.Verdict.{Verdict}
use Rattle.acs.specs.declared.vetting.Verdict.TheVariants as verdict
use Rattle.acs.specs.Vetting.{is_translated, verdict_of}
use Rattle.acs.specs.Redirection.{goes_up, redirected, request_goes_up}
use Rattle.port.specs.declared.config.Exit.{Exit}
use Rattle.port.specs.declared.course.Forwarding.TheVariants.{To, Stop}
use Rattle.port.specs.Configs.{downstream_config, exit_of, exits_of, lane_to, leads_to}
use Rattle.port.specs.Courses.{course_of, routed, stopped, tested}
use Rattle.topology.specs.Nodes.{ports_on}
use Rattle.guarded_routes.specs.Ways.{direction_out, down_from}
use Rattle.guarded_routes.proofs.Controls.{Set}
use Rattle.guarded_routes.proofs.Requests.{not_blocked, own_up, stays_up}
use Rattle.guarded_routes.proofs.Finds.{find_among, placed}
use Rattle.guarded_routes.proofs.Trees.{IsPort}

-- ---- outputs

-- the output of a switch that leads down out of one of its ports
pub record OutputDown (platform : Platform) (switch : Switch) (exits : List Exit) (q : DownstreamPort) : Type 0 where
  pub place : ℕ
  pub output : lane_to exits q.id ≡ Some (suc place)
  pub leads : direction_out platform switch (suc place) ≡ Some (down_from q)

none_leads : (platform : Platform) (id : ℕ) (x : DownstreamPort) → (x.id == id) ≡ false → leads_to id (exit_of platform x) ≡ false
none_leads platform id x e = rw e refl

pub output_down : (platform : Platform) (switch : Switch) (bus : ℕ) (q : DownstreamPort) → internal_bus switch ≡ bus → IsPort platform q → bus_of q.id ≡ bus → is_taken platform.switches platform.functions (id_below q) ≡ true
    → OutputDown platform switch (exits_of platform bus) q
output_down platform switch bus q same port on taken =
    let among : find (λ (r : DownstreamPort). r.id == q.id) (filter (is_on_bus bus) platform.ports) ≡ Some q = find_among (λ (r : DownstreamPort). r.id == q.id) (is_on_bus bus) platform.ports q port (eq-eqb (bus_of q.id) bus on) in
    let leads : leads_to q.id (exit_of platform q) ≡ true = and_from (q.id == q.id) _ (eq-eqb q.id q.id refl) taken in
    let at = placed (λ (r : DownstreamPort). r.id == q.id) (leads_to q.id) (exit_of platform) (filter (is_on_bus bus) platform.ports) q (none_leads platform q.id) leads among in
    record {
      place = at.place;
      output = ap (option_map suc) at.first;
      leads = ap (λ (b : ℕ). option_map down_from (slice_get (ports_on platform.ports b) at.place)) same ∙ ap (option_map down_from) at.there;
    }

-- ---- verdicts

pub and_false : (a : Bool) → (a && false) ≡ false
and_false true = refl
and_false false = refl

-- a memory request passes that claims no translation, in the name of an ID below the port
pub passes_memory : (line : DownstreamPort) (requester address : ℕ) → holds_bus line (bus_of requester) ≡ true → verdict_of line (header.Memory requester Untranslated address) ≡ verdict.Pass
passes_memory line requester address held = rw (held, and_false (validates_source line.controls), and_false (blocks_translated line.controls)) refl

pub passes_reply : (line : DownstreamPort) (target : ℕ) (relaxed_ordering : Bool) → verdict_of line (header.Completion target relaxed_ordering) ≡ verdict.Pass
passes_reply line target relaxed_ordering = rw (and_false (validates_source line.controls), and_false (blocks_translated line.controls)) refl

-- what a memory request that passes says
pub record Plain (line : DownstreamPort) (requester : ℕ) (address_type : AddressType) : Type 0 where
  pub untranslated : address_type ≡ Untranslated
  pub held : holds_bus line (bus_of requester) ≡ true

plain_by : (address_type : AddressType) → is_translated address_type ≡ false → address_type ≡ Untranslated
plain_by Untranslated e = refl
plain_by TranslationRequest e = absurd cc
plain_by Translated e = absurd cc
plain_by Reserved e = absurd cc

by_tests : (source translated : Bool) → cond source (verdict.Violation SourceValidation) (cond translated (verdict.Violation TranslationBlocking) verdict.Pass) ≡ verdict.Pass → (source ≡ false) × (translated ≡ false)
by_tests true translated e = absurd cc
by_tests false true e = absurd cc
by_tests false false e = (refl, refl)

not_false : (b : Bool) → not b ≡ false → b ≡ true
not_false true e = refl
not_false false e = absurd (false≢true (sym e))

and_set : (a b : Bool) → a ≡ true → (a && b) ≡ false → b ≡ false
and_set true b h e = e
and_set false b h e = absurd (false≢true h)

pub plain_of : (line : DownstreamPort) (requester address : ℕ) (address_type : AddressType) → Set line → verdict_of line (header.Memory requester address_type address) ≡ verdict.Pass → Plain line requester address_type
plain_of line requester address address_type set e =
    let tests = by_tests (validates_source line.controls && not (holds_bus line (bus_of requester))) (blocks_translated line.controls && is_translated address_type) e in
    record {
      untranslated = plain_by address_type (and_set (blocks_translated line.controls) _ set.translation tests.1);
      held = not_false _ (and_set (validates_source line.controls) _ set.source tests.0);
    }

-- ---- courses

-- what passes the tests and is routed up goes up
pub course_up : (platform : Platform) (line : DownstreamPort) (head : Head) (h : Header) (x : Target) → head.header ≡ h → verdict_of line h ≡ verdict.Pass → target_of h ≡ Some x → redirected line (route_of platform.switches platform.ports line.id h) h ≡ Ok to.Up
    → course_of (of_platform platform) (downstream_config platform line) head ≡ To 0
course_up platform line head h x same pass target up = rw (same, pass, target, up) refl

pub course_down : (platform : Platform) (line : DownstreamPort) (head : Head) (h : Header) (x : Target) (q output : ℕ) → head.header ≡ h → verdict_of line h ≡ verdict.Pass → target_of h ≡ Some x → redirected line (route_of platform.switches platform.ports line.id h) h ≡ Ok (to.Port q)
    → lane_to (exits_of platform (bus_of line.id)) q ≡ Some output → course_of (of_platform platform) (downstream_config platform line) head ≡ To output
course_down platform line head h x q output same pass target down leads = rw (same, pass, target, down, leads) refl

-- the first port stops what it stops, with or without a report
stops : (line : DownstreamPort) (head : Head) (check : Option Check) → head.parties ≡ Upward (id_below line) → (report : Option Violation) × (stopped line head check ≡ Stop report)
stops line head check is = rw is (rw (eq-eqb (id_below line) (id_below line) refl) (_, refl))

-- it stops what fails a test, and what has no target
pub data First (platform : Platform) (line : DownstreamPort) (head : Head) : Type 0 where
  Stops : (report : Option Violation) → course_of (of_platform platform) (downstream_config platform line) head ≡ Stop report → First platform line head
  Tests : (x : Target) → verdict_of line head.header ≡ verdict.Pass → target_of head.header ≡ Some x → First platform line head

pub at_first : (platform : Platform) (line : DownstreamPort) (head : Head) → head.parties ≡ Upward (id_below line) → First platform line head
at_first platform line head is = go (verdict_of line head.header) refl (target_of head.header) refl
  where
    go : (v : Verdict) → verdict_of line head.header ≡ v → (x : Option Target) → target_of head.header ≡ x → First platform line head
    go (verdict.Violation check) e x i = let s = stops line head (Some check) is in First.Stops s.0 (ap (tested (of_platform platform) (downstream_config platform line) line head) e ∙ s.1)
    go verdict.Pass e None i =
        let s = stops line head None is in
        First.Stops s.0 (ap (tested (of_platform platform) (downstream_config platform line) line head) e ∙ (ap (routed (of_platform platform) (downstream_config platform line) line head) i ∙ s.1))
    go verdict.Pass e (Some x) i = First.Tests x e i

-- ---- completions

-- from a guarded port a completion goes up, or with Relaxed Ordering to a port of the switch that holds its target
pub data Reply (platform : Platform) (line : DownstreamPort) (target : ℕ) (relaxed_ordering : Bool) : Type 0 where
  Rises : redirected line (route_of platform.switches platform.ports line.id (header.Completion target relaxed_ordering)) (header.Completion target relaxed_ordering) ≡ Ok to.Up → Reply platform line target relaxed_ordering
  Turns : (q : DownstreamPort) → relaxed_ordering ≡ true → holder_on platform.ports (bus_of line.id) (Some (Bus (bus_of target))) ≡ Some q
      → redirected line (route_of platform.switches platform.ports line.id (header.Completion target relaxed_ordering)) (header.Completion target relaxed_ordering) ≡ Ok (to.Port q.id) → Reply platform line target relaxed_ordering

relaxed_by : (a b c : Bool) → b ≡ true → (a || (b && true && not c) || false) ≡ false → c ≡ true
relaxed_by true b c h e = absurd (false≢true (sym e))
relaxed_by false true true h e = refl
relaxed_by false true false h e = absurd (false≢true (sym e))
relaxed_by false false c h e = absurd (false≢true h)

module _ (platform : Platform) (line : DownstreamPort) (port : IsPort platform line) (set : Set line) where
  pub reply_at : (target : ℕ) (relaxed_ordering : Bool) → Reply platform line target relaxed_ordering
  reply_at target relaxed_ordering = go (holds_bus line (bus_of target)) refl (holder_on platform.ports (bus_of line.id) (Some (Bus (bus_of target)))) refl
    where
      h : Header
      h = header.Completion target relaxed_ordering

      x : Option Target
      x = Some (Bus (bus_of target))

      routed_so : (b : Bool) (o : Option DownstreamPort) → holds_bus line (bus_of target) ≡ b → holder_on platform.ports (bus_of line.id) (Some (Bus (bus_of target))) ≡ o
          → redirected line (route_of platform.switches platform.ports line.id h) h ≡ redirected line (cond b to.OwnEgress (to_holder to.Up o)) h
      routed_so b o i j =
          ap (λ (p : Option DownstreamPort). redirected line (route_from platform.switches platform.ports line.id x p) h) port
          ∙ (ap (λ (b : Bool). redirected line (cond b to.OwnEgress (to_holder to.Up (holder_on platform.ports (bus_of line.id) x))) h) i
          ∙ ap (λ (o : Option DownstreamPort). redirected line (cond b to.OwnEgress (to_holder to.Up o)) h) j)

      turns : (q : DownstreamPort) (b : Bool) → goes_up line (to.Port q.id) h ≡ b → holder_on platform.ports (bus_of line.id) x ≡ Some q → redirected line (route_of platform.switches platform.ports line.id h) h ≡ redirected line (to.Port q.id) h → Reply platform line target relaxed_ordering
      turns q true up j e = Reply.Rises (e ∙ (not_blocked line set (to.Port q.id) h ∙ ap Ok (cond-true (goes_up line (to.Port q.id) h) to.Up (to.Port q.id) up)))
      turns q false up j e =
          Reply.Turns q (relaxed_by (request_goes_up line (to.Port q.id) h) (redirects_completions line.controls) relaxed_ordering set.completions (or_stays up)) j
          (e ∙ (not_blocked line set (to.Port q.id) h ∙ ap Ok (cond-false (goes_up line (to.Port q.id) h) to.Up (to.Port q.id) up)))
        where
          or_stays : goes_up line (to.Port q.id) h ≡ false → (request_goes_up line (to.Port q.id) h || (redirects_completions line.controls && true && not relaxed_ordering) || false) ≡ false
          or_stays e = subst (λ (c : Bool). (request_goes_up line (to.Port q.id) h || (redirects_completions line.controls && true && not relaxed_ordering) || c) ≡ false) (and_false (forwards_upstream line.controls)) e

      go : (b : Bool) → holds_bus line (bus_of target) ≡ b → (o : Option DownstreamPort) → holder_on platform.ports (bus_of line.id) x ≡ o → Reply platform line target relaxed_ordering
      go true i o j = Reply.Rises (routed_so true o i j ∙ own_up line set h)
      go false i None j = Reply.Rises (routed_so false None i j ∙ stays_up line set h)
      go false i (Some q) j = turns q (goes_up line (to.Port q.id) h) refl j (routed_so false (Some q) i j)
