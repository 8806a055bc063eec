-- The begins of a script, in a fabric whose workers run.
use Rattle.std.specs.Prelude.{◌≡◌, ℕ, ◌++◌, ◌∷◌, List, [], length, slice_get, slice_set, Option, Some, None, Result, Ok, Err, true}
use Rattle.std.specs.List.{position, remove}
use Rattle.fab_types.specs.Origins.{origin_id, same_origin}
use Rattle.fab_types.specs.declared.faults.injector.InjectorFault.{InjectorFault}
use Rattle.fab_types.specs.declared.origin.Origin.{Origin}
use Rattle.injector.specs.Injectors.{SendsNothing}
use Rattle.injector.specs.declared.begin.Ask.{Ask}
use Rattle.injector.specs.declared.injector.Injector.{Injector}
use Rattle.thread_staff.specs.Origins.{origin_place}
use Rattle.script.specs.declared.lines.Command.{Command}
use Rattle.script.specs.declared.lines.Line.{Line}
use Rattle.threads_command.specs.Asking.{Sends, ask_of, origin_of}
use Rattle.threads_command.specs.Refusals.{Counts, with_more}
use Rattle.threads_command.specs.declared.asking.Answer.{Answer}
use Rattle.threads_command.specs.declared.asking.Answer.TheVariants as answer
use Rattle.threads_command.specs.declared.begins.Begun.{Begun}

-- whose injectors the fabric still has, those that were taken, and how many begins no injector took
pub record BegunView : Type 0 where
  pub left : List Origin
  pub injectors : List Injector
  pub refused : Counts

abbrev pub begun_by : List Origin → Begun → BegunView
begun_by left begun = record { left = left; injectors = begun.injectors.items; refused = begun.refusals }

abbrev pub none_begun : List Origin → BegunView
none_begun left = record { left = left; injectors = []; refused = [] }

-- ---- the injector of an origin

-- its place among those that were taken
abbrev pub place_in : List Injector → Origin → Option ℕ
place_in injectors origin = position (λ injector. same_origin injector.origin origin) injectors

-- by both places: one that the fabric still has is taken now, as the last
abbrev pub FindsBy : Option ℕ → Option ℕ → BegunView → Origin → BegunView → Option ℕ → Type 0
FindsBy (Some place) there old origin new found = (new ≡ old) × (found ≡ Some place)
FindsBy None None old origin new found = (new ≡ old) × (found ≡ None)
FindsBy None (Some there) old origin new found =
    (injector : Injector) × (same_origin injector.origin origin ≡ true)
    × (new ≡ record { left = remove old.left there; injectors = old.injectors ++ injector ∷ []; refused = old.refused })
    × (found ≡ Some (length old.injectors))

abbrev pub Finds : BegunView → Origin → BegunView → Option ℕ → Type 0
Finds old origin new found = FindsBy (place_in old.injectors origin) (origin_place old.left origin) old origin new found

-- ---- a begin

-- it is sent, or it is refused and counted
abbrev pub Answers : Result Ask InjectorFault → Origin → Injector → Injector → Counts → Counts → Type 0
Answers (Ok what) origin before after old new = Sends before what after × (new ≡ old)
Answers (Err fault) origin before after old new = SendsNothing before after × (new ≡ with_more old (origin_id origin, 1))

-- what comes of an answer; with a ring that stays full nothing goes on
abbrev pub Counted : Answer → Origin → Counts → Counts → Type 0
Counted answer.Sent origin old new = new ≡ old
Counted answer.Refused origin old new = new ≡ with_more old (origin_id origin, 1)
Counted (answer.Full back) origin old new = ⊥

-- the injector at a place is asked for it
pub record Asks (command : Command) (origin : Origin) (place : ℕ) (old new : BegunView) : Type 0 where
  pub before : Injector
  pub after : Injector
  pub there : slice_get old.injectors place ≡ Some before
  pub answer : Answers (ask_of before.origin command) origin before after old.refused new.refused
  pub injectors : new.injectors ≡ slice_set old.injectors place after
  pub left : new.left ≡ old.left

-- without an injector it is refused and counted
abbrev pub AsksAt : Option ℕ → Command → Origin → BegunView → BegunView → Type 0
AsksAt (Some place) command origin old new = Asks command origin place old new
AsksAt None command origin old new =
    new ≡ record { left = old.left; injectors = old.injectors; refused = with_more old.refused (origin_id origin, 1) }

pub record BeginsOf (origin : Origin) (command : Command) (old new : BegunView) : Type 0 where
  pub found : BegunView
  pub place : Option ℕ
  pub finds : Finds old origin found place
  pub asks : AsksAt place command origin found new

-- a sweep begins nothing
abbrev pub BeginsBy : Option Origin → Command → BegunView → BegunView → Type 0
BeginsBy None command old new = new ≡ old
BeginsBy (Some origin) command old new = BeginsOf origin command old new

abbrev pub Begins : Command → BegunView → BegunView → Type 0
Begins command old new = BeginsBy (origin_of command) command old new

-- those of all lines in turn
abbrev pub AllBegin : List Line → BegunView → BegunView → Type 0
AllBegin [] old new = new ≡ old
AllBegin (line ∷ lines) old new = (mid : BegunView) × Begins line.command old mid × AllBegin lines mid new
