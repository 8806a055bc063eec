-- The injector of an origin is found, and asked.
use Rattle.std.proofs.Common.{◌≡◌, ◌++◌, ◌∷◌, [], ℕ, List, length, slice_set, Option, Some, None, Ok, Err, true, ap, refl}
use Rattle.std.specs.Prelude.{slice_get}
use Rattle.std.specs.List.{remove}
use Rattle.fab_types.specs.Origins.{same_origin}
use Rattle.fab_types.specs.declared.faults.injector.InjectorFault.{InjectorFault}
use Rattle.fab_types.specs.declared.origin.Origin.{Origin}
use Rattle.injector.specs.Injectors.{SendsNothing}
use Rattle.injector.specs.declared.begin.Ask.{Ask}
use Rattle.injector.specs.declared.injector.Injector.{Injector}
use Rattle.thread_staff.specs.Origins.{origin_place}
use Rattle.script.specs.declared.lines.Command.{Command}
use Rattle.threads_command.specs.Asking.{Sends, ask_of}
use Rattle.threads_command.specs.Begins.{Asks, BegunView, Counted, Finds, place_in}
use Rattle.threads_command.specs.Refusals.{Counts}
use Rattle.threads_command.specs.declared.asking.Answer.{Answer}
use Rattle.threads_command.specs.declared.asking.Answer.TheVariants as answer

pub none_of : (found : Option ℕ) → ((place : ℕ) → found ≡ Some place → ⊥) → found ≡ None
none_of None not = refl
none_of (Some place) not = absurd (not place refl)

-- one that the fabric gives now is the last of those that were taken
pub found_new : (old new : BegunView) (origin : Origin) (place : ℕ) (injector : Injector) (last : ℕ)
    → place_in old.injectors origin ≡ None → origin_place old.left origin ≡ Some place → same_origin injector.origin origin ≡ true
    → new ≡ record { left = remove old.left place; injectors = old.injectors ++ injector ∷ []; refused = old.refused }
    → last ≡ length old.injectors → Finds old origin new (Some last)
found_new old new origin place injector last none there same is count = rw (none, there) (injector, same, is, ap Some count)

-- what an injector answered is what it was asked for
pub asks_of : (command : Command) (origin : Origin) (place : ℕ) (left : List Origin) (injectors : List Injector) (before after : Injector) (said : Answer) (old new : Counts)
    → slice_get injectors place ≡ Some before
    → (said ≡ answer.Sent → (what : Ask) × (ask_of before.origin command ≡ Ok what) × Sends before what after)
    → (said ≡ answer.Refused → (fault : InjectorFault) × (ask_of before.origin command ≡ Err fault) × SendsNothing before after)
    → Counted said origin old new
    → Asks command origin place (record { left = left; injectors = injectors; refused = old }) (record { left = left; injectors = slice_set injectors place after; refused = new })
asks_of command origin place left injectors before after answer.Sent old new there sent refused counted =
    let s = sent refl in
    record { before = before; after = after; there = there; answer = rw (s.1) (s.2, counted); injectors = refl; left = refl }
asks_of command origin place left injectors before after answer.Refused old new there sent refused counted =
    let s = refused refl in
    record { before = before; after = after; there = there; answer = rw (s.1) (s.2, counted); injectors = refl; left = refl }
asks_of command origin place left injectors before after (answer.Full back) old new there sent refused counted = absurd counted
