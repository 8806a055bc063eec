use Rattle.std.proofs.Common.{subst, sym, ℕ, List}
use Rattle.std.specs.List.{range_with_len}
use Rattle.std.specs.List.Sorted.{IsStrictlyIncreasing}
use Rattle.std.proofs.lemmas.List.Kept.{IsStrictlyIncreasing-filter}
use Rattle.layout.specs.Views.{is_frame_of, maps_of}
use Rattle.layout.proofs.Ranges.{range-rising}
use Rattle.layout.proofs.layout.Layout.rising_frames_of.Goals as goal

pub returns-clause-rising : goal.returns-clause-rising
returns-clause-rising c =
    let P : List ℕ → Type 0 = λ xs. IsStrictlyIncreasing xs in
    subst P (sym c.in_ok-numbers.ensures)
    (IsStrictlyIncreasing-filter (is_frame_of (maps_of c.args.self.now c.args.domain)) (range_with_len 0 c.args.self.now.frames) (range-rising c.args.self.now.frames))
