-- A new fabric never blocks, and its moves end.
use Rattle.std.proofs.Common.{◌≡◌, List, [], sym, ap, ◌∙◌, subst}
use Rattle.std.specs.Prelude.{true}
use Rattle.fab_types.specs.declared.violation.Violation.{Violation}
use Rattle.frame_log.specs.Descriptor.{Descriptor}
use Rattle.layout.specs.Laws.{IsPlatform}
use Rattle.platform.specs.Platform.{Platform}
use Rattle.domains.specs.Agents.{AgentsView, agents_of}
use Rattle.interconnect.specs.Starts.{start_of}
use Rattle.interconnect.specs.Views.{InterconnectView}
use Rattle.guarded_routes.specs.Guarded.{IsGuarded}
use Rattle.fabric_core.specs.MovesLeft.{MovesEnd}
use Rattle.fabric_core.specs.Still.{Concludes, NeverBlocks}
use Rattle.fabric_core.specs.World.{is_guarded, world_of, world_over}
use Rattle.fabric_core.proofs.soundness.Orderly.{world_new}

-- what is proved of every platform, and of every guarded one
abbrev Law : Type 0
Law = (p : Platform) → IsPlatform p → NeverBlocks (world_of p)

abbrev EndingLaw : Type 0
EndingLaw = (p : Platform) → IsPlatform p → MovesEnd (world_of p)

abbrev GuardedLaw : Type 0
GuardedLaw = (p : Platform) → IsGuarded p → Concludes (world_of p)

-- the parts of a new fabric
module _ (platform : Platform) (h : InterconnectView) (agents : AgentsView) (violations : List Violation) (strays : List Descriptor) (laws : IsPlatform platform) where
  pub unblocked_new : Law → h ≡ start_of platform → agents ≡ agents_of platform → violations ≡ [] → strays ≡ [] → NeverBlocks (world_over h agents violations strays)
  unblocked_new law is_h is_agents none_reported none_stray = subst NeverBlocks (sym (world_new platform h agents violations strays is_h is_agents none_reported none_stray)) (law platform laws)

  pub ending_new : EndingLaw → h ≡ start_of platform → agents ≡ agents_of platform → violations ≡ [] → strays ≡ [] → MovesEnd (world_over h agents violations strays)
  ending_new law is_h is_agents none_reported none_stray = subst MovesEnd (sym (world_new platform h agents violations strays is_h is_agents none_reported none_stray)) (law platform laws)

  pub consumed_new : GuardedLaw → h ≡ start_of platform → agents ≡ agents_of platform → violations ≡ [] → strays ≡ [] → is_guarded (world_over h agents violations strays) ≡ true → Concludes (world_over h agents violations strays)
  consumed_new law is_h is_agents none_reported none_stray guarded =
      let same = world_new platform h agents violations strays is_h is_agents none_reported none_stray in
      subst Concludes (sym same) (law platform (record { laws = laws; controls = ap is_guarded (sym same) ∙ guarded }))
