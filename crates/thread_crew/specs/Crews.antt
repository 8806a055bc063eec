-- The workers whose threads the handles are of, each as it was when its thread began.
use Rattle.std.specs.Prelude.{List, map}
use Rattle.std.specs.declared.thread.PromisedHandle.{PromisedHandle}
use Rattle.thread_crew.specs.declared.work.Keeps.{Keeps}

abbrev pub started : {W : Type 0} → List (PromisedHandle W (Keeps W)) → List W
started handles = map (λ h. h.promise.0.value) handles
