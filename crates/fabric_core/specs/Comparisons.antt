-- What a comparison of two runs by the journal of one domain answers.
use Rattle.std.specs.Prelude.{◌≡◌, ◌≢◌, ℕ, List, Option, option_map}
use Rattle.fab_types.specs.declared.outcome.Outcome.{Outcome}
use Rattle.domain.specs.declared.entry.Entry.{Entry}
use Rattle.fabric_core.specs.declared.comparison.Comparison.{Comparison}
use Rattle.fabric_core.specs.declared.comparison.Comparison.TheVariants.{Equal, JournalsDiffer}
use Rattle.fabric_core.specs.declared.event.Event.{Event}
use Rattle.fabric_core.specs.Isolation.{domain_of}
use Rattle.fabric_core.specs.Runs.{Run}
use Rattle.fabric_core.specs.World.{World}

-- the events lead from one world to the other, whatever the outcome of each
pub record IsRun (start : World) (events : List Event) (end : World) : Type 0 where
  pub outcomes : List Outcome
  pub run : Run start events outcomes end

abbrev pub journal_of : ℕ → World → Option (List Entry)
journal_of d w = option_map (λ domain. domain.journal) (domain_of w d)

-- each fabric is a run of its list from the same start
pub record AreRuns (start : World) (events others : List Event) (one other : World) : Type 0 where
  pub first : IsRun start events one
  pub second : IsRun start others other

-- the domain's journal is the same in both, and so is all that its state holds
pub record AreEqual (d : ℕ) (start : World) (events others : List Event) (one other : World) : Type 0 where
  pub runs : AreRuns start events others one other
  pub same : domain_of other d ≡ domain_of one d

pub record DifferInJournals (d : ℕ) (start : World) (events others : List Event) (one other : World) : Type 0 where
  pub runs : AreRuns start events others one other
  pub differ : journal_of d other ≢ journal_of d one

-- what a comparison says of the fabrics that it answers
abbrev pub Compares : ℕ → World → List Event → List Event → Comparison → Type 0
Compares d start events others (JournalsDiffer one other) = DifferInJournals d start events others one other
Compares d start events others (Equal one other) = AreEqual d start events others one other
