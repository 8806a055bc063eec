-- What a fabric keeps through a begin: what is emitted waits in the outbox of its origin.
use Rattle.std.proofs.Common.{◌≡◌, ℕ, List, [], Option, Some, None, refl, ◌∙◌, subst}
use Rattle.std.specs.Prelude.{IsSome, option_map, option_to_list}
use Rattle.std.specs.List.{flat_map}
use Rattle.fab_types.specs.declared.origin.Origin.{Origin}
use Rattle.fab_types.specs.declared.origin.Origin.TheVariants.{Function, Host}
use Rattle.fab_types.specs.declared.host_access.HostAccess.{HostAccess}
use Rattle.domain.specs.declared.entry.Entry.{Entry}
use Rattle.domain.specs.declared.entry.Entry.TheVariants.{Mmio, Submit, Tick}
use Rattle.domain.specs.Domains.{DomainView}
use Rattle.domain.specs.Machine.{change}
use Rattle.domain_state.specs.State.{Change}
use Rattle.domains.specs.Agents.{AgentsView, IsSettled, accessed, emitted, emitted_if, home_of, joined, outbox_place, submitted, ticked}
use Rattle.domains.specs.Domains.{Made, made_at, place_of, place_of_function}
use Rattle.fabric_core.specs.Invariant.{IsConsistent}
use Rattle.fabric_core.specs.Places.{frames_of, waiting_in}
use Rattle.fabric_core.specs.World.{World, with_agents}
use Rattle.fabric_core.proofs.invariant.Changing.{Changed}
use Rattle.fabric_core.proofs.invariant.Flying.{Begins, mmio_begins, submit_begins, tick_begins}
use Rattle.fabric_core.proofs.invariant.Placing.{placed_after}
use Rattle.fabric_core.proofs.invariant.Renewing.{kept_with, placed_of}
use Rattle.fabric_core.proofs.invariant.Settling.{begin_reflown, agents_settled, joined_origins, made_from, shares_stay}
use Rattle.fabric_core.proofs.invariant.Standing.{held, in_outboxes, joined_waiting}

abbrev some : {A : Type 0} → A → Option A
some x = Some x

some_is : {A : Type 0} (x y : A) → some x ≡ some y → x ≡ y
some_is x y e = cc

-- the origin of a domain's packet has an outbox
pub has_outbox : (agents : AgentsView) (origin : Origin) (entry : Entry) (place : Option ℕ) (m : Made) → IsSettled agents → home_of agents.domains origin ≡ place → made_at agents.domains entry place ≡ Some m → IsSome (outbox_place agents.outboxes origin)
has_outbox agents origin entry place m s home e = let b = made_from agents.domains entry place m e in s.boxed origin b.number (home ∙ b.at_number)

-- what a domain emits joins what waits of its origin
pub joins_outbox : (agents : AgentsView) (origin : Origin) (entry : Entry) (place : Option ℕ) (m : Made) → IsSettled agents → home_of agents.domains origin ≡ place → made_at agents.domains entry place ≡ Some m
    → Changed (flat_map waiting_in agents.outboxes) (flat_map waiting_in (joined agents.outboxes origin m.sent)) [] (option_to_list m.sent)
joins_outbox agents origin entry place m s home e = joined_waiting agents.outboxes origin m.sent (has_outbox agents origin entry place m s home e)

begun_with : (w w' : World) (origin : Origin) (entry : Entry) (place : Option ℕ) (o : Option Made) → IsConsistent w → home_of w.agents.domains origin ≡ place
    → ((d : DomainView) (c : Change) → change d.share d.state entry ≡ Some c → Begins d.state c) → made_at w.agents.domains entry place ≡ o
    → option_map (with_agents w) (emitted_if w.agents origin o) ≡ Some w' → IsConsistent w'
begun_with w w' origin entry place None kept home begins e is = absurd cc
begun_with w w' origin entry place (Some m) kept home begins e is =
    let agents = emitted w.agents origin m in
    let c = in_outboxes w.channels w.agents.outboxes agents.outboxes w.ports w.strays [] (option_to_list m.sent) (joins_outbox w.agents origin entry place m kept.settled home e) in
    subst IsConsistent (some_is (with_agents w agents) w' is)
    (kept_with w w.channels agents w.violations w.strays kept refl (agents_settled w.agents agents.outboxes entry place m kept.settled (joined_origins w.agents.outboxes origin m.sent) e)
    (shares_stay w.routes.ports w.agents.domains entry place m kept.shares e)
    (placed_after w.agents.domains m.domains (frames_of w) (held w.channels agents.outboxes w.ports w.strays) [] (option_to_list m.sent) (placed_of w kept) c
    (begin_reflown w.agents entry place m kept.settled begins e)))

pub kept_submit : (w w' : World) (function : ℕ) (bytes : List ℕ) → IsConsistent w → option_map (with_agents w) (submitted w.agents function bytes) ≡ Some w' → IsConsistent w'
kept_submit w w' function bytes kept is =
    let place = place_of_function w.agents.domains function in
    begun_with w w' (Function function) (Submit function bytes) place (made_at w.agents.domains (Submit function bytes) place) kept refl (λ d c e. submit_begins d.share d.state function bytes c e) refl is

pub kept_tick : (w w' : World) (function : ℕ) → IsConsistent w → option_map (with_agents w) (ticked w.agents function) ≡ Some w' → IsConsistent w'
kept_tick w w' function kept is =
    let place = place_of_function w.agents.domains function in
    begun_with w w' (Function function) (Tick function) place (made_at w.agents.domains (Tick function) place) kept refl (λ d c e. tick_begins d.share d.state function c e) refl is

pub kept_access : (w w' : World) (domain : ℕ) (access : HostAccess) → IsConsistent w → option_map (with_agents w) (accessed w.agents domain access) ≡ Some w' → IsConsistent w'
kept_access w w' domain access kept is =
    let place = place_of w.agents.domains domain in
    begun_with w w' (Host domain) (Mmio access) place (made_at w.agents.domains (Mmio access) place) kept refl (λ d c e. mmio_begins d.share d.state access c e) refl is
