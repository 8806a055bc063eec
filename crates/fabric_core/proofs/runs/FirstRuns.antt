-- Runs from where nothing was begun: no domain can tell the others from none.
use Rattle.std.proofs.Common.{◌≡◌, ℕ, List, [], sym, ap, ◌∙◌, subst}
use Rattle.std.specs.Prelude.{true}
use Rattle.fab_types.specs.declared.outcome.Outcome.{Outcome}
use Rattle.fab_types.specs.declared.violation.Violation.{Violation}
use Rattle.frame_log.specs.Descriptor.{Descriptor}
use Rattle.layout.specs.Laws.{IsPlatform}
use Rattle.platform.specs.Platform.{Platform}
use Rattle.domains.specs.Agents.{AgentsView, agents_of}
use Rattle.interconnect.specs.Starts.{start_of}
use Rattle.interconnect.specs.Views.{InterconnectView}
use Rattle.guarded_routes.specs.Guarded.{IsGuarded}
use Rattle.fabric_core.specs.declared.event.Event.{Event}
use Rattle.fabric_core.specs.Runs.{Run}
use Rattle.fabric_core.specs.TakenOut.{CannotTell, NoneCanTell}
use Rattle.fabric_core.specs.World.{World, is_guarded, world_of, world_over}
use Rattle.fabric_core.proofs.soundness.Orderly.{world_new}

-- what is proved of every guarded platform
abbrev Law : Type 0
Law = (p : Platform) → IsGuarded p → (events : List Event) (outcomes : List Outcome) (first : World) → Run (world_of p) events outcomes first → (d : ℕ) → CannotTell d (world_of p) events outcomes first

-- the parts of a new fabric
pub untold_new : (platform : Platform) (h : InterconnectView) (agents : AgentsView) (violations : List Violation) (strays : List Descriptor) → IsPlatform platform → Law
    → h ≡ start_of platform → agents ≡ agents_of platform → violations ≡ [] → strays ≡ [] → is_guarded (world_over h agents violations strays) ≡ true → NoneCanTell (world_over h agents violations strays)
untold_new platform h agents violations strays laws law is_h is_agents none_reported none_stray guarded =
    let same = world_new platform h agents violations strays is_h is_agents none_reported none_stray in
    subst NoneCanTell (sym same) (record { taken_out = law platform (record { laws = laws; controls = ap is_guarded (sym same) ∙ guarded }) })
