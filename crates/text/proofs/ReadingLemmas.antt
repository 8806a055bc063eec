-- A text's first line is read, and then the rest.
use Rattle.std.proofs.Common.{◌≡◌, ℕ, ◌+◌, ◌<◌, Bool, true, false, cond, length, ◌==◌, List, [], ◌∷◌, ◌++◌, Option, Some, None, refl, sym, ap, arith, inl, inr, lt-ltb, ltb-false}
use Rattle.std.specs.Prelude.{nat_lt, IsSome, Result, Ok, Err}
use Rattle.std.proofs.lemmas.List.{append_assoc, append-nil}
use Rattle.fab_types.specs.declared.faults.script.ScriptFault.{ScriptFault}
use Rattle.fab_types.specs.declared.faults.script.ScriptCause.{ScriptCause}
use Rattle.fab_types.specs.declared.faults.script.ScriptCause.TheVariants as cause
use Rattle.text.specs.Text.{cut, pieces, is_comment, is_last}
use Rattle.text.proofs.Pieces.{pieces-cut, pieces-no_cut, some-piece}
use Rattle.text.specs.Answers.{IsCause}
use Rattle.text.specs.Reading.{adds, fault_at, before, and_on, read_from, is_sound, IsFault}

module _ {T : Type 0} where
  pub before-none : (more : Result (List T) ScriptFault) → before [] more ≡ more
  before-none (Ok more) = refl
  before-none (Err fault) = refl

  before-more : (old items : List T) (more : Result (List T) ScriptFault) → before old (before items more) ≡ before (old ++ items) more
  before-more old items (Ok more) = ap Ok (sym (append_assoc old items more))
  before-more old items (Err fault) = refl

  more-sound : (number lower : ℕ) (expected : Option (List T)) (more : Result (List T) ScriptFault) → lower < number
      → is_sound more lower ≡ true → is_sound (and_on number expected more) lower ≡ true
  more-sound number lower None more below h = lt-ltb lower number below
  more-sound number lower (Some items) (Ok more) below h = refl
  more-sound number lower (Some items) (Err fault) below h = h

  pieces-sound : (last ends : Bool) (number lower : ℕ) (expected : Option (List T)) (more : Result (List T) ScriptFault) → lower < number
      → is_sound more lower ≡ true → is_sound (cond last (cond ends (Ok []) (Err (fault_at number))) (and_on number expected more)) lower ≡ true
  pieces-sound true true number lower expected more below h = refl
  pieces-sound true false number lower expected more below h = lt-ltb lower number below
  pieces-sound false ends number lower expected more below h = more-sound number lower expected more below h

  at-line : (number : ℕ) (old : List T) (expected : Option (List T)) (more : Result (List T) ScriptFault)
      → IsSome expected → is_sound more number ≡ true → is_sound (before old (and_on number expected more)) number ≡ true
  at-line number old None more h later = absurd cc
  at-line number old (Some items) (Ok more) h later = refl
  at-line number old (Some items) (Err fault) h later = later

  number-below : (past : Bool) (last number : ℕ) (expected : Option (List T)) (items : List T) → past ≡ nat_lt last number
      → cond past None expected ≡ Some items → number < last + 1
  number-below true last number expected items e h = absurd cc
  number-below false last number expected items e h = omega (arith, ltb-false last number (sym e))

  -- a line that adds something is none behind the last
  pub number-of_line : (last : ℕ) (said : ℕ → List ℕ → Option (List T)) (number : ℕ) (line : List ℕ) (items : List T)
      → adds last said number line ≡ Some items → number < last + 1
  number-of_line last said number line items h = number-below (nat_lt last number) last number (cond (is_comment line) (Some []) (said number line)) items refl h

module _ {T : Type 0} (added : ℕ → List ℕ → Option (List T)) where
  -- a line that ends is taken, and then the rest
  read-line : (number : ℕ) (line after text : List ℕ) → Some (line, after) ≡ cut 10 text
      → read_from added number (pieces text) ≡ and_on number (added number line) (read_from added (number + 1) (pieces after))
  read-line number line after text e = rw (pieces-cut line after text e, some-piece after) refl

  read-end : (number : ℕ) (text : List ℕ) → None ≡ cut 10 text → read_from added number (pieces text) ≡ cond (length text == 0) (Ok []) (Err (fault_at number))
  read-end number text e = rw (pieces-no_cut text e) refl

  -- a line adds its items to those before it
  pub read-on : (number : ℕ) (old items : List T) (line after text : List ℕ) → Some (line, after) ≡ cut 10 text → added number line ≡ Some items
      → before old (read_from added number (pieces text)) ≡ before (old ++ items) (read_from added (number + 1) (pieces after))
  read-on number old items line after text e h =
      rw (read-line number line after text e, h) (before-more old items (read_from added (number + 1) (pieces after)))

  -- no line is faulty before the one that is read next
  sound-before : (number lower : ℕ) (lines : List (List ℕ)) → lower < number → is_sound (read_from added number lines) lower ≡ true
  sound-before number lower [] below = lt-ltb lower number below
  sound-before number lower (line ∷ rest) below =
      pieces-sound (is_last rest) (length line == 0) number lower (added number line) (read_from added (number + 1) rest) below
      (sound-before (number + 1) lower rest (omega arith))

  -- a line was refused: it is faulty, or no line up to it is
  pub read-refused : (number : ℕ) (refusal : ScriptCause) (old : List T) (line after text : List ℕ) → Some (line, after) ≡ cut 10 text → IsCause (added number line) refusal
      → IsFault (before old (read_from added number (pieces text))) (record { cause = refusal; line = number })
  read-refused number cause.Line old line after text e h = inr (rw (read-line number line after text e, h) refl)
  read-refused number cause.NoMemory old line after text e h =
      inl (refl, rw (read-line number line after text e) (at-line number old (added number line) (read_from added (number + 1) (pieces after)) h (sound-before (number + 1) number (pieces after) (omega arith))))

  pub read-ended : (number : ℕ) (old : List T) (text : List ℕ) → None ≡ cut 10 text → true ≡ (length text == 0) → before old (read_from added number (pieces text)) ≡ Ok old
  read-ended number old text e h = rw (read-end number text e, sym h) (ap Ok (append-nil old))

  pub read-unended : (number : ℕ) (old : List T) (text : List ℕ) → None ≡ cut 10 text → false ≡ (length text == 0) → before old (read_from added number (pieces text)) ≡ Err (fault_at number)
  read-unended number old text e h = rw (read-end number text e, sym h) refl
