-- The fabric of any layout stays one through every event, and is orderly where its layout is guarded.
use Rattle.std.proofs.Common.{◌≡◌, List, [], ◌∷◌, true, get_or, Some, sym, ap, ◌∙◌, subst}
use Rattle.std.specs.Prelude.{All}
use Rattle.std.specs.List.{list_all}
use Rattle.std.proofs.lemmas.Option.{slice_get-get_or}
use Rattle.fab_types.specs.declared.outcome.Outcome.{Outcome}
use Rattle.fab_types.specs.declared.outcome.Outcome.TheVariants.{Idle, Moved, NoMemory, Refused}
use Rattle.fab_types.specs.declared.violation.Violation.{Violation}
use Rattle.frame_log.specs.Descriptor.{Descriptor}
use Rattle.bridge.specs.Bridges.{Routes}
use Rattle.layout.specs.Laws.{IsPlatform}
use Rattle.platform.specs.Platform.{Platform}
use Rattle.platform.specs.Share.{is_guarded_port}
use Rattle.domain.proofs.AlienLemmas.{guarded_journal}
use Rattle.domains.specs.Agents.{AgentsView, agents_of}
use Rattle.interconnect.specs.Starts.{start_of}
use Rattle.interconnect.specs.Views.{InterconnectView}
use Rattle.fabric_core.specs.declared.event.Event.{Event}
use Rattle.fabric_core.specs.Events.{StepsTo, effect}
use Rattle.fabric_core.specs.Invariant.{IsFabric}
use Rattle.fabric_core.specs.Orderly.{HasNoAlien, IsOrderly}
use Rattle.fabric_core.specs.Runs.{Run}
use Rattle.fabric_core.specs.Soundness.{IsGuardedFabric}
use Rattle.fabric_core.specs.World.{World, is_guarded, world_of, world_over}
use Rattle.fabric_core.proofs.soundness.GuardedAliens.{of_guarded}
use Rattle.fabric_core.proofs.soundness.GuardedStart.{guarded_start}
use Rattle.fabric_core.proofs.soundness.Routes.{routes_stay}

-- ---- nothing is stray or alien

no_alien : (w : World) → IsGuardedFabric w → All HasNoAlien w.agents.domains
no_alien w g place d less =
    let x = get_or w.agents.domains place d in
    guarded_journal x.share x.journal x.state (of_guarded w g place x (slice_get-get_or w.agents.domains place d less)) (g.domains place d less).replayed

pub orderly : (w : World) → IsFabric w → is_guarded w ≡ true → IsOrderly w
orderly w fabric guarded = let g = fabric.guarded guarded in record { ports = g.sound.ports; strays = g.sound.strays; journals = no_alien w g }

-- ---- the layout's controls

pub same_controls : (w v : World) → v.routes ≡ w.routes → is_guarded v ≡ is_guarded w
same_controls w v same = ap (λ (r : Routes). list_all is_guarded_port r.ports) same

pub step_controls : (w v : World) (event : Event) (outcome : Outcome) → StepsTo w event outcome v → is_guarded v ≡ is_guarded w
step_controls w v event Moved step = same_controls w v (routes_stay w v event step)
step_controls w v event Idle step = ap is_guarded step.2
step_controls w v event (Refused fault) step = ap is_guarded step.1
step_controls w v event NoMemory step = ap is_guarded step.2

pub run_controls : (w v : World) (events : List Event) (outcomes : List Outcome) → Run w events outcomes v → is_guarded v ≡ is_guarded w
run_controls w v [] [] run = ap is_guarded run
run_controls w v (event ∷ events) (outcome ∷ outcomes) run = run_controls run.0 v events outcomes run.2 ∙ step_controls w run.0 event outcome run.1
run_controls w v [] (outcome ∷ outcomes) run = absurd run
run_controls w v (event ∷ events) [] run = absurd run

-- ---- a step

-- what moves in a fabric leaves one
abbrev pub StaysFabric : Type 0
StaysFabric = (old new : World) (event : Event) → IsFabric old → effect old event ≡ Some new → IsFabric new

pub fabric_step : StaysFabric → (w v : World) (event : Event) (outcome : Outcome) → IsFabric w → StepsTo w event outcome v → IsFabric v
fabric_step stays w v event Moved fabric step = stays w v event fabric step
fabric_step stays w v event Idle fabric step = subst IsFabric (sym step.2) fabric
fabric_step stays w v event (Refused fault) fabric step = subst IsFabric (sym step.1) fabric
fabric_step stays w v event NoMemory fabric step = subst IsFabric (sym step.2) fabric

-- ---- the start

pub world_new : (platform : Platform) (h : InterconnectView) (agents : AgentsView) (violations : List Violation) (strays : List Descriptor) → h ≡ start_of platform → agents ≡ agents_of platform → violations ≡ [] → strays ≡ []
    → world_over h agents violations strays ≡ world_of platform
world_new platform h agents violations strays is_h is_agents none_reported none_stray =
    ap (λ (x : InterconnectView). world_over x agents violations strays) is_h
    ∙ (ap (λ (x : AgentsView). world_over (start_of platform) x violations strays) is_agents
    ∙ (ap (λ (x : List Violation). world_over (start_of platform) (agents_of platform) x strays) none_reported ∙ ap (λ (x : List Descriptor). world_over (start_of platform) (agents_of platform) [] x) none_stray))

-- the parts of a new fabric
pub guarded_new : (platform : Platform) (h : InterconnectView) (agents : AgentsView) (violations : List Violation) (strays : List Descriptor) → IsPlatform platform → h ≡ start_of platform → agents ≡ agents_of platform → violations ≡ [] → strays ≡ []
    → is_guarded (world_over h agents violations strays) ≡ true → IsGuardedFabric (world_over h agents violations strays)
guarded_new platform h agents violations strays laws is_h is_agents none_reported none_stray guarded =
    let same = world_new platform h agents violations strays is_h is_agents none_reported none_stray in
    subst IsGuardedFabric (sym same) (guarded_start platform (record { laws = laws; controls = ap is_guarded (sym same) ∙ guarded }))
