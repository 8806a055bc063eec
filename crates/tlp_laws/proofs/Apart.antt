-- The runs of enabled bytes don't touch.
use Rattle.std.proofs.Common.{◌≡◌, ℕ, suc, ◌+◌, ◌<◌, ◌≤◌, Bool, false, eqb, List, [], ◌∷◌, length, Option, Some, None, subst, inl, inr, arith}
use Rattle.std.proofs.lemmas.Bool.{eqb-true, eqb-false, cases_lt}
use Rattle.tlp_view.specs.declared.enables.Enables.{Enables}
use Rattle.tlp_view.specs.Packet.{Packet, enables_in}
use Rattle.tlp_view.specs.Runs.{is_enabled, is_write, joined, runs, runs_from, runs_with}
use Rattle.tlp_laws.specs.Coverage.{AreApart}
use Rattle.tlp_laws.proofs.Choices.{chosen}

-- the first begins no earlier, none is empty, and a byte at least is between two of them
abbrev pub Apart : ℕ → List (ℕ × List ℕ) → Type 0
Apart from [] = Unit {0}
Apart from (run ∷ runs) = (from ≤ run.0) × (0 < length run.1) × Apart (suc (run.0 + length run.1)) runs

apart_later : (i j : ℕ) (runs : List (ℕ × List ℕ)) → i ≤ j → Apart j runs → Apart i runs
apart_later i j [] l h = tt
apart_later i j (run ∷ runs) l h = let first = h.0 in (omega (arith, l, first), h.1, h.2)

joined_apart : (i byte : ℕ) (runs : List (ℕ × List ℕ)) → Apart (i + 1) runs → Apart i (joined i byte runs)
joined_apart i byte [] h = (omega arith, omega arith, tt)
joined_apart i byte (run ∷ runs) h =
    chosen (Apart i) (eqb run.0 (i + 1)) ((i, byte ∷ run.1) ∷ runs) ((i, byte ∷ []) ∷ run ∷ runs)
    (λ e. let next = eqb-true run.0 (i + 1) e in let same : suc (run.0 + length run.1) ≡ suc (i + suc (length run.1)) = omega (arith, next) in
    (omega arith, omega arith, subst (λ n. Apart n runs) same h.2))
    (λ e. let first = h.0 in (omega arith, omega arith, (beyond run.0 first e, h.1, h.2)))
  where
    beyond : (at : ℕ) → i + 1 ≤ at → eqb at (i + 1) ≡ false → suc (i + 1) ≤ at
    beyond at l e = let other = eqb-false at (i + 1) e in elim (cases_lt (i + 1) at) [ inl w ↦ omega (arith, w) | inr w ↦ absurd (other (omega (arith, l, w))) ]

runs_apart : (enabled : ℕ → Bool) (i : ℕ) (bytes : List ℕ) → Apart i (runs_from enabled i bytes)
runs_apart enabled i [] = tt
runs_apart enabled i (byte ∷ bytes) =
    let rest = runs_apart enabled (i + 1) bytes in
    chosen (Apart i) (enabled i) (joined i byte (runs_from enabled (i + 1) bytes)) (runs_from enabled (i + 1) bytes)
    (λ e. joined_apart i byte (runs_from enabled (i + 1) bytes) rest)
    (λ e. apart_later i (i + 1) (runs_from enabled (i + 1) bytes) (omega arith) rest)

pub are_apart : (from : ℕ) (runs : List (ℕ × List ℕ)) → Apart from runs → AreApart runs
are_apart from [] h = tt
are_apart from (run ∷ []) h = h.1
are_apart from (run ∷ next ∷ runs) h = let second = h.2.0 in (h.1, omega (arith, second), are_apart (suc (run.0 + length run.1)) (next ∷ runs) h.2)

pub not_touching : (t : Packet) → AreApart (runs t)
not_touching t = chosen AreApart (is_write t.kind) (runs_with (enables_in t.body) t.payload) [] (λ _. by_enables (enables_in t.body)) (λ _. tt)
  where
    by_enables : (o : Option Enables) → AreApart (runs_with o t.payload)
    by_enables None = tt
    by_enables (Some enables) = are_apart 0 _ (runs_apart (is_enabled enables (length t.payload)) 0 t.payload)
