-- In every run from where nothing was begun, moves end.
use Rattle.std.proofs.Common.{◌≡◌, ℕ, ◌+◌, ◌*◌, ◌<◌, ◌≤◌, Bool, true, false, cond, List, [], ◌∷◌, Some, refl, ap, arith}
use Rattle.std.specs.Prelude.{◌&&◌, not}
use Rattle.fab_types.specs.declared.outcome.Outcome.{Outcome}
use Rattle.fab_types.specs.declared.outcome.Outcome.TheVariants.{Moved, Idle, Refused, NoMemory}
use Rattle.layout.specs.Laws.{IsPlatform}
use Rattle.platform.specs.Platform.{Platform}
use Rattle.link.specs.Channels.{deliver, send, update_fc}
use Rattle.fabric_core.specs.declared.event.Event.{Event}
use Rattle.fabric_core.specs.declared.event.Event.TheVariants.{Arrive, Credit, Enter, Mmio, Pass, Root, Send, Submit, Take, Tick}
use Rattle.fabric_core.specs.Events.{StepsTo, effect, is_begin}
use Rattle.fabric_core.specs.Invariant.{IsConsistent}
use Rattle.fabric_core.specs.MovesLeft.{MovesEnd, count_run, has_begun, is_move, moves_left}
use Rattle.fabric_core.specs.Runs.{Run}
use Rattle.fabric_core.specs.TakenOut.{is_moved}
use Rattle.fabric_core.specs.World.{World, world_of}
use Rattle.fabric_core.proofs.moves.Ahead.{IsLaid, is_laid}
use Rattle.fabric_core.proofs.moves.AtFunctions.{arrive_fewer}
use Rattle.fabric_core.proofs.moves.AtHost.{at_host_fewer}
use Rattle.fabric_core.proofs.moves.Begins.{begin_adds}
use Rattle.fabric_core.proofs.moves.Channels.{deliver_fewer, send_fewer, update_fc_fewer}
use Rattle.fabric_core.proofs.moves.Misroutes.{pass_fewer}
use Rattle.fabric_core.proofs.moves.OnLinks.{enter_fewer, step_fewer}
use Rattle.fabric_core.proofs.moves.Starts.{none_left}
use Rattle.fabric_core.proofs.progress.Drained.{IsAfterRun, after_run, at_start}

-- each event that moves something, and is no begin
move_fewer : (w : World) → IsConsistent w → IsLaid w → (event : Event) → is_begin event ≡ false → (v : World) → effect w event ≡ Some v → moves_left v < moves_left w
move_fewer w kept laid (Submit function bytes) is v e = absurd cc
move_fewer w kept laid (Tick function) is v e = absurd cc
move_fewer w kept laid (Mmio domain access) is v e = absurd cc
move_fewer w kept laid (Enter origin class) is v e = enter_fewer w kept laid origin class v e
move_fewer w kept laid (Pass port class) is v e = pass_fewer w kept laid port class v e
move_fewer w kept laid (Send direction class) is v e = step_fewer w kept laid direction (send class) (λ c c' s. send_fewer w.routes.switches direction class c c' s) v e
move_fewer w kept laid (Take direction) is v e = step_fewer w kept laid direction deliver (λ c c' s. deliver_fewer w.routes.switches direction c c' s) v e
move_fewer w kept laid (Credit direction) is v e = step_fewer w kept laid direction update_fc (λ c c' s. update_fc_fewer w.routes.switches direction c c' s) v e
move_fewer w kept laid (Root class) is v e = at_host_fewer w kept laid class v e
move_fewer w kept laid (Arrive function class) is v e = arrive_fewer w kept laid function class v e

-- ---- counting them

module _ (platform : Platform) (laws : IsPlatform platform) where
  laid : (w : World) → IsAfterRun platform w → IsLaid w
  laid w after = is_laid platform laws w after.of_it after.kept.built.many

  -- one event: it takes a move, or adds 330
  step_counts : (w v : World) (event : Event) → IsAfterRun platform w → (begins : Bool) → is_begin event ≡ begins → (outcome : Outcome) → StepsTo w event outcome v
      → cond (not begins && is_moved outcome) 1 0 + moves_left v ≤ cond (begins && is_moved outcome) 330 0 + moves_left w
  step_counts w v event after true is Moved step = let more = begin_adds w (laid w after) event is v step in omega (arith, more)
  step_counts w v event after false is Moved step = let less = move_fewer w after.kept (laid w after) event is v step in omega (arith, less)
  step_counts w v event after true is Idle step = let same = ap moves_left step.2 in omega (arith, same)
  step_counts w v event after false is Idle step = let same = ap moves_left step.2 in omega (arith, same)
  step_counts w v event after true is (Refused fault) step = let same = ap moves_left step.1 in omega (arith, same)
  step_counts w v event after false is (Refused fault) step = let same = ap moves_left step.1 in omega (arith, same)
  step_counts w v event after true is NoMemory step = let same = ap moves_left step.2 in omega (arith, same)
  step_counts w v event after false is NoMemory step = let same = ap moves_left step.2 in omega (arith, same)

  one_more : (b : Bool) (n : ℕ) → cond b (1 + n) n ≡ cond b 1 0 + n
  one_more true n = refl
  one_more false n = omega arith

  more_begun : (b : Bool) (n : ℕ) → 330 * cond b (1 + n) n ≡ cond b 330 0 + 330 * n
  more_begun true n = omega arith
  more_begun false n = omega arith

  run_counts : (w v : World) (events : List Event) (outcomes : List Outcome) → IsAfterRun platform w → Run w events outcomes v → count_run is_move events outcomes + moves_left v ≤ 330 * count_run has_begun events outcomes + moves_left w
  run_counts w v [] [] after run = let same = ap moves_left run in omega (arith, same)
  run_counts w v [] (outcome ∷ outcomes) after run = absurd run
  run_counts w v (event ∷ events) [] after run = absurd run
  run_counts w v (event ∷ events) (outcome ∷ outcomes) after run =
      let one = step_counts w run.0 event after (is_begin event) refl outcome run.1 in
      let rest = run_counts run.0 v events outcomes (after_run platform w run.0 (event ∷ []) (outcome ∷ []) after (run.0, run.1, refl)) run.2 in
      let moves = one_more (is_move event outcome) (count_run is_move events outcomes) in
      let begins = more_begun (has_begun event outcome) (count_run has_begun events outcomes) in
      omega (arith, one, rest, moves, begins)

  after : (events : List Event) (outcomes : List Outcome) (w : World) → Run (world_of platform) events outcomes w → IsAfterRun platform w
  after events outcomes w run = after_run platform (world_of platform) w events outcomes (at_start platform laws) run

  pub moves_end : MovesEnd (world_of platform)
  moves_end = record {
    less = λ events outcomes w v event run is e. let reached = after events outcomes w run in move_fewer w reached.kept (laid w reached) event is v e;
    more = λ events outcomes w v event run is e. begin_adds w (laid w (after events outcomes w run)) event is v e;
    few = λ events outcomes w run.
        let counts = run_counts (world_of platform) w events outcomes (at_start platform laws) run in
        let none = none_left platform in
        omega (arith, counts, none);
    further = λ events events' outcomes outcomes' w v run further. run_counts w v events' outcomes' (after events outcomes w run) further;
  }
