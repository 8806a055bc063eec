use Rattle.std.proofs.Common.{◌≡◌, drop}
use Rattle.import.specs.Places.{left_out_at}
use Rattle.import.proofs.places.left_out_at.Given as goal

abbrev pub invariant-loop-part : goal.invariant-loop-part
invariant-loop-part l = left_out_at (drop l.part-index l.left_out) l.location ≡ left_out_at l.left_out l.location
