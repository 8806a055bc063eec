use Rattle.std.proofs.Common.{◌≡◌, drop}
use Rattle.import.specs.Imports.{with_vectors}
use Rattle.import.proofs.imports.take_vectors.Given as goal

abbrev pub invariant-loop-vector : goal.invariant-loop-vector
invariant-loop-vector l = with_vectors (drop l.vector-index l.vectors) l.devices ≡ with_vectors l.vectors l.initial.devices
