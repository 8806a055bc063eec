-- What holds of a guarded fabric at its start.
use Rattle.std.proofs.Common.{◌≡◌, Bool, true, subst, ◌∙◌}
use Rattle.fabric_core.specs.TakenOut.{NoneCanTell}
use Rattle.fabric_core.specs.World.{World, is_guarded}

pub none_can_tell : (fabric start : World) (guarded : Bool) → fabric ≡ start → is_guarded fabric ≡ guarded → (is_guarded fabric ≡ true → NoneCanTell fabric) → guarded ≡ true → NoneCanTell start
none_can_tell fabric start guarded same is isolated h = subst NoneCanTell same (isolated (is ∙ h))
