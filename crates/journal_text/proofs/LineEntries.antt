-- The entries of lines, one after another.
use Rattle.std.proofs.Common.{◌≡◌, ℕ, List, take, Some, None, ap, ◌∙◌, slice_get}
use Rattle.std.specs.Prelude.{option_map}
use Rattle.std.proofs.lemmas.List.{take-map}
use Rattle.std.proofs.lemmas.Option.{slice_get-map}
use Rattle.platform.specs.Share.{Share}
use Rattle.domain.specs.Machine.{change, replay}
use Rattle.domain.proofs.Replaying.{replay_stops}
use Rattle.domain_state.specs.State.{Alone}
use Rattle.journal_text.specs.declared.read.JournalLine.{JournalLine}
use Rattle.journal_text.specs.Steps.{entries_of}

-- the entries before an illegal one leave a state, and all of them none
pub lines_stop : (share : Share) (lines : List JournalLine) (i : ℕ) (line : JournalLine) (before s : Alone) → replay share (entries_of (take i lines)) ≡ Some before → slice_get lines i ≡ Some line
    → change share before line.entry ≡ None → replay share (entries_of lines) ≡ Some s → ⊥
lines_stop share lines i line before s legal there illegal all =
    replay_stops share (entries_of lines) i before s line.entry
    (ap (replay share) (take-map (λ (l : JournalLine). l.entry) i lines) ∙ legal)
    (slice_get-map (λ (l : JournalLine). l.entry) lines i ∙ ap (option_map (λ (l : JournalLine). l.entry)) there) illegal all

-- the same as a replay of the first ones
pub first_entries : (share : Share) (lines : List JournalLine) (i : ℕ) (before : Alone) → replay share (entries_of (take i lines)) ≡ Some before → replay share (take i (entries_of lines)) ≡ Some before
first_entries share lines i before legal = ap (replay share) (take-map (λ (l : JournalLine). l.entry) i lines) ∙ legal
