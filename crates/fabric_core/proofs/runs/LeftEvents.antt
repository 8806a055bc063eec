-- One event of a run, and what is left of it without other domains: its own step in the other fabric, or none.
use Rattle.std.proofs.Common.{◌≡◌, ℕ, Bool, true, false, List, map, Option, Some, None, refl, sym, ap, ◌∙◌, subst}
use Rattle.std.specs.Prelude.{◌||◌, ◌&&◌, IfSome, IsTrue, filter, is_none, is_some, option_map}
use Rattle.std.proofs.Math.Bool.{and-true}
use Rattle.std.proofs.lemmas.Bool.{or_parts}
use Rattle.std.proofs.lemmas.Option.{same_Some}
use Rattle.std.specs.List.{list_all}
use Rattle.fab_types.specs.declared.faults.begin.BeginFault.{BeginFault}
use Rattle.fab_types.specs.declared.outcome.Outcome.{Outcome}
use Rattle.fab_types.specs.declared.outcome.Outcome.TheVariants.{Idle, Moved, NoMemory, Refused}
use Rattle.fab_types.specs.declared.violation.Violation.{Violation}
use Rattle.fab_types.specs.declared.place.Direction.{Direction}
use Rattle.fab_types.specs.declared.origin.Origin.TheVariants as origin
use Rattle.bridge.specs.Bridges.{Routes}
use Rattle.platform.specs.Share.{is_guarded_port}
use Rattle.domain.specs.declared.entry.Entry.{Entry}
use Rattle.domain.specs.declared.entry.Entry.TheVariants as entry
use Rattle.domain.specs.Domains.{DomainView}
use Rattle.domains.specs.Agents.{emitted_if}
use Rattle.domains.specs.Domains.{domain_at, made_at, made_of, place_of, place_of_function}
use Rattle.fabric_core.specs.declared.event.Event.{Event}
use Rattle.fabric_core.specs.declared.event.Event.TheVariants.{Arrive, Credit, Enter, Mmio, Pass, Root, Send, Submit, Take, Tick}
use Rattle.fabric_core.specs.Events.{StepsTo, effect, refusal}
use Rattle.fabric_core.specs.Invariant.{IsFabric}
use Rattle.fabric_core.specs.Isolation.{beginner, is_event_of, is_number, own_refusal}
use Rattle.fabric_core.specs.Soundness.{IsGuardedFabric, share_of}
use Rattle.fabric_core.specs.TakenOut.{HasMemory, is_by, is_left, is_moved, returns_credits}
use Rattle.fabric_core.specs.World.{World, is_guarded, with_agents}
use Rattle.fabric_core.proofs.apart.Apart.{apart_after}
use Rattle.fabric_core.proofs.runs.Begun.{step_grow}
use Rattle.fabric_core.proofs.runs.ForeignSteps.{credit_both, credit_roomy, foreign_step, narrow_roomy}
use Rattle.fabric_core.proofs.order.InOrder.{fabric_after}
use Rattle.fabric_core.proofs.runs.MirroredAgents.{function_number}
use Rattle.fabric_core.proofs.runs.Mirrors.{Mirrors, follows_some}
use Rattle.fabric_core.proofs.runs.NarrowSteps.{Tightens, effect_tightens}
use Rattle.fabric_core.proofs.soundness.Orderly.{fabric_step, step_controls}
use Rattle.fabric_core.proofs.runs.OwnMoves.{IsRoomy}
use Rattle.fabric_core.proofs.runs.OwnOnes.{filter_same}
use Rattle.fabric_core.proofs.runs.OwnSteps.{own_step}
use Rattle.fabric_core.proofs.apart.Refusing.{accepted_alone, refused_alone}
use Rattle.fabric_core.proofs.soundness.Routes.{routes_stay}
use Rattle.fabric_core.proofs.runs.Reported.{TellsNone, tells_none}

-- ---- what has an effect isn't refused

none_made : (domains : List DomainView) (act : Entry) (place : Option ℕ) → domain_at domains place ≡ None → made_at domains act place ≡ None
none_made domains act None none = refl
none_made domains act (Some place) none = ap (made_of domains place act) none

none_refused : (o : Option BeginFault) → is_none o ≡ true → o ≡ None
none_refused None e = refl
none_refused (Some fault) e = absurd cc

module _ (w w' : World) (g : IsGuardedFabric w) where
  not_refused_by : (event : Event) (o : Option DomainView) → beginner w event ≡ o → (o ≡ None → effect w event ≡ None) → effect w event ≡ Some w' → refusal w event ≡ None
  not_refused_by event None e none is = absurd (let no = none refl in cc)
  not_refused_by event (Some x) e none is =
      refused_alone w event x e ∙ none_refused (own_refusal x event) (sym (accepted_alone w event x g e) ∙ ap is_some is)

  not_refused : (event : Event) → effect w event ≡ Some w' → refusal w event ≡ None
  not_refused (Submit function bytes) is =
      not_refused_by (Submit function bytes) (beginner w (Submit function bytes)) refl (λ none. ap (λ o. option_map (with_agents w) (emitted_if w.agents (origin.Function function) o)) (none_made w.agents.domains (entry.Submit function bytes) (place_of_function w.agents.domains function) none)) is
  not_refused (Tick function) is =
      not_refused_by (Tick function) (beginner w (Tick function)) refl (λ none. ap (λ o. option_map (with_agents w) (emitted_if w.agents (origin.Function function) o)) (none_made w.agents.domains (entry.Tick function) (place_of_function w.agents.domains function) none)) is
  not_refused (Mmio domain access) is =
      not_refused_by (Mmio domain access) (beginner w (Mmio domain access)) refl (λ none. ap (λ o. option_map (with_agents w) (emitted_if w.agents (origin.Host domain) o)) (none_made w.agents.domains (entry.Mmio access) (place_of w.agents.domains domain) none)) is
  not_refused (Enter origin class) is = refl
  not_refused (Pass port class) is = refl
  not_refused (Send direction class) is = refl
  not_refused (Take direction) is = refl
  not_refused (Credit direction) is = refl
  not_refused (Root class) is = refl
  not_refused (Arrive function class) is = refl

  -- so it moves, want of memory aside
  pub has_moved : (event : Event) (outcome : Outcome) (v : World) → effect w event ≡ Some w' → StepsTo w event outcome v → HasMemory outcome → (is_moved outcome ≡ true) × (v ≡ w')
  has_moved event Moved v is step memory = (refl, same_Some v w' (sym step ∙ is))
  has_moved event Idle v is step memory = absurd (let none = step.0 in cc)
  has_moved event (Refused fault) v is step memory = absurd (let some = step.0 in let none = not_refused event is in cc)
  has_moved event NoMemory v is step memory = absurd (memory refl)

-- ---- a fabric and one without other domains

pub record Accords (d : ℕ) (is_told : Violation → Bool) (w v : World) : Type 0 where
  pub mirrors : Mirrors d is_told w v
  pub roomy : IsRoomy w
  pub told : (x : Violation) → is_by w d x ≡ is_told x
  pub fabric : IsFabric w
  pub guarded : is_guarded w ≡ true
  pub other : IsFabric v

-- no test, no report
tells_nothing : (w : World) (event : Event) → TellsNone (λ v. false) w event
tells_nothing w (Pass port class) = λ i t v found there stops. refl
tells_nothing w (Submit function bytes) = tt
tells_nothing w (Tick function) = tt
tells_nothing w (Mmio domain access) = tt
tells_nothing w (Enter origin class) = tt
tells_nothing w (Send direction class) = tt
tells_nothing w (Take direction) = tt
tells_nothing w (Credit direction) = tt
tells_nothing w (Root class) = tt
tells_nothing w (Arrive function class) = tt

module _ (d : ℕ) (is_told : Violation → Bool) (w v : World) (a : Accords d is_told w v) where
  g : IsGuardedFabric w
  g = a.fabric.guarded a.guarded

  guarded_other : is_guarded v ≡ true
  guarded_other = ap (λ (r : Routes). list_all is_guarded_port r.ports) a.mirrors.routes ∙ a.guarded

  module _ (event : Event) (w' : World) (outcome : Outcome) (step : StepsTo w event outcome w') where
    shares : map share_of w'.agents.domains ≡ map share_of w.agents.domains
    shares = (step_grow w w' event outcome step).shares

    -- the fabric goes on alone, or both do
    pub accords_with : (v' : World) → Mirrors d is_told w' v' → IsRoomy w' → IsFabric v' → Accords d is_told w' v'
    accords_with v' mirrors roomy other = record {
      mirrors = mirrors;
      roomy = roomy;
      told = λ x. ap (is_number d) (function_number w.agents.domains w'.agents.domains shares x.sender) ∙ a.told x;
      fabric = fabric_step fabric_after w w' event outcome a.fabric step;
      guarded = step_controls w w' event outcome step ∙ a.guarded;
      other = other;
    }

  -- ---- it moved

  module _ (event : Event) (w' : World) (is : effect w event ≡ Some w') (quiet : returns_credits event ≡ false) where
    tightens : (p : Violation → Bool) → TellsNone p w event → Tightens p w w'
    tightens p none = subst (λ (o : Option World). IfSome o (Tightens p w)) is (effect_tightens p w a.fabric.kept g event quiet none)

    still_roomy : IsRoomy w'
    still_roomy = narrow_roomy w w' a.roomy (tightens (λ x. false) (tells_nothing w event)).links

    pub others_moved : is_event_of w d event ≡ false → Accords d is_told w' v
    others_moved foreign =
        let same : (violations : List Violation) → filter is_told violations ≡ filter (is_by w d) violations = λ violations. filter_same is_told (is_by w d) violations (λ x. sym (a.told x)) in
        let tight = tightens (is_by w d) (tells_none w a.fabric.kept g d event foreign) in
        accords_with event w' Moved is v
        (foreign_step d is_told w w' v a.mirrors (record { tree = tight.tree; configs = tight.configs; origins = tight.origins; links = tight.links; violations = same w'.violations ∙ (tight.violations ∙ sym (same w.violations)) })
        (routes_stay w w' event is) (shares event w' Moved is) ((apart_after w w' event a.fabric a.guarded is).foreign d foreign)) still_roomy a.other

    pub own_moved : (v' : World) (outcome : Outcome) → is_event_of w d event ≡ true → StepsTo v event outcome v' → HasMemory outcome → (is_moved outcome ≡ true) × Accords d is_told w' v'
    own_moved v' outcome own step memory =
        let g' = a.other.guarded guarded_other in
        let too = follows_some (Mirrors d is_told) (effect w event) (effect v event) w' (own_step d is_told w v a.mirrors a.roomy a.fabric.kept.settled.numbered g g' event own) is in
        let moved = has_moved v too.0 g' event outcome v' too.1 step memory in
        (moved.0, accords_with event w' Moved is v' (subst (Mirrors d is_told w') (sym moved.1) too.2) still_roomy (fabric_step fabric_after v v' event outcome a.other step))

  -- ---- credits were returned

  pub credits_returned : (event : Event) (w' v' : World) (outcome outcome' : Outcome) → returns_credits event ≡ true → StepsTo w event outcome w' → StepsTo v event outcome' v' → Accords d is_told w' v'
  credits_returned (Credit direction) w' v' outcome outcome' quiet step step' =
      accords_with (Credit direction) w' outcome step v' (credit_both d is_told w v a.mirrors w' v' direction outcome outcome' step step') (credit_roomy w w' direction outcome step a.roomy)
      (fabric_step fabric_after v v' (Credit direction) outcome' a.other step')
  credits_returned (Submit function bytes) w' v' outcome outcome' quiet step step' = absurd cc
  credits_returned (Tick function) w' v' outcome outcome' quiet step step' = absurd cc
  credits_returned (Mmio domain access) w' v' outcome outcome' quiet step step' = absurd cc
  credits_returned (Enter origin class) w' v' outcome outcome' quiet step step' = absurd cc
  credits_returned (Pass port class) w' v' outcome outcome' quiet step step' = absurd cc
  credits_returned (Send direction class) w' v' outcome outcome' quiet step step' = absurd cc
  credits_returned (Take direction) w' v' outcome outcome' quiet step step' = absurd cc
  credits_returned (Root class) w' v' outcome outcome' quiet step step' = absurd cc
  credits_returned (Arrive function class) w' v' outcome outcome' quiet step step' = absurd cc

  -- ---- any event

  -- what isn't left changes nothing of the domain
  skipped_by : (event : Event) (outcome : Outcome) (w' : World) → StepsTo w event outcome w' → returns_credits event ≡ false → (is_event_of w d event && is_moved outcome) ≡ false → Accords d is_told w' v
  skipped_by event Moved w' step quiet other = others_moved event w' step quiet (sym (and-true (is_event_of w d event)) ∙ other)
  skipped_by event Idle w' step quiet other = subst (λ (x : World). Accords d is_told x v) (sym step.2) a
  skipped_by event (Refused fault) w' step quiet other = subst (λ (x : World). Accords d is_told x v) (sym step.1) a
  skipped_by event NoMemory w' step quiet other = subst (λ (x : World). Accords d is_told x v) (sym step.2) a

  pub skipped : (event : Event) (outcome : Outcome) (w' : World) → StepsTo w event outcome w' → is_left d w event outcome ≡ false → Accords d is_told w' v
  skipped event outcome w' step out =
      let parts = or_parts (returns_credits event) (is_event_of w d event && is_moved outcome) out in
      skipped_by event outcome w' step parts.0 parts.1

  -- what is left does the same in both
  kept_by : (event : Event) (outcome outcome' : Outcome) (w' v' : World) (returned own : Bool) → returns_credits event ≡ returned → is_event_of w d event ≡ own → StepsTo w event outcome w' → StepsTo v event outcome' v' → HasMemory outcome' → (returned || (own && is_moved outcome)) ≡ true
      → ((returned || is_moved outcome') ≡ true) × Accords d is_told w' v'
  kept_by event outcome outcome' w' v' true own e f step step' memory left = (refl, credits_returned event w' v' outcome outcome' e step step')
  kept_by event Moved outcome' w' v' false true e f step step' memory left = own_moved event w' step e v' outcome' f step' memory
  kept_by event Idle outcome' w' v' false true e f step step' memory left = absurd cc
  kept_by event (Refused fault) outcome' w' v' false true e f step step' memory left = absurd cc
  kept_by event NoMemory outcome' w' v' false true e f step step' memory left = absurd cc
  kept_by event outcome outcome' w' v' false false e f step step' memory left = absurd cc

  pub kept : (event : Event) (outcome outcome' : Outcome) (w' v' : World) → StepsTo w event outcome w' → StepsTo v event outcome' v' → HasMemory outcome' → is_left d w event outcome ≡ true → IsTrue (returns_credits event || is_moved outcome') × Accords d is_told w' v'
  kept event outcome outcome' w' v' step step' memory left = kept_by event outcome outcome' w' v' (returns_credits event) (is_event_of w d event) refl refl step step' memory left

  -- ---- and it can be done

  -- a step that isn't refused memory
  abbrev pub Goes : Event → Type 0
  Goes event = (outcome : Outcome) × (v' : World) × StepsTo v event outcome v' × HasMemory outcome

  credit_goes : (direction : Direction) (o : Option World) → effect v (Credit direction) ≡ o → Goes (Credit direction)
  credit_goes direction None e = (Idle, v, (e, refl, refl), λ same. absurd cc)
  credit_goes direction (Some v') e = (Moved, v', e, λ same. absurd cc)

  returned_goes : (event : Event) → returns_credits event ≡ true → Goes event
  returned_goes (Credit direction) returned = credit_goes direction (effect v (Credit direction)) refl
  returned_goes (Submit function bytes) returned = absurd cc
  returned_goes (Tick function) returned = absurd cc
  returned_goes (Mmio domain access) returned = absurd cc
  returned_goes (Enter origin class) returned = absurd cc
  returned_goes (Pass port class) returned = absurd cc
  returned_goes (Send direction class) returned = absurd cc
  returned_goes (Take direction) returned = absurd cc
  returned_goes (Root class) returned = absurd cc
  returned_goes (Arrive function class) returned = absurd cc

  own_goes : (event : Event) (w' : World) → effect w event ≡ Some w' → is_event_of w d event ≡ true → Goes event
  own_goes event w' is own =
      let too = follows_some (Mirrors d is_told) (effect w event) (effect v event) w' (own_step d is_told w v a.mirrors a.roomy a.fabric.kept.settled.numbered g (a.other.guarded guarded_other) event own) is in
      (Moved, too.0, too.1, λ same. absurd cc)

  goes_by : (event : Event) (outcome : Outcome) (w' : World) (returned own : Bool) → returns_credits event ≡ returned → is_event_of w d event ≡ own → StepsTo w event outcome w' → (returned || (own && is_moved outcome)) ≡ true → Goes event
  goes_by event outcome w' true own e f step left = returned_goes event e
  goes_by event Moved w' false true e f step left = own_goes event w' step f
  goes_by event Idle w' false true e f step left = absurd cc
  goes_by event (Refused fault) w' false true e f step left = absurd cc
  goes_by event NoMemory w' false true e f step left = absurd cc
  goes_by event outcome w' false false e f step left = absurd cc

  pub goes : (event : Event) (outcome : Outcome) (w' : World) → StepsTo w event outcome w' → is_left d w event outcome ≡ true → Goes event
  goes event outcome w' step left = goes_by event outcome w' (returns_credits event) (is_event_of w d event) refl refl step left
