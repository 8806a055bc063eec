-- A fault is told at a line that was reached.
use Rattle.std.proofs.Common.{◌≡◌, ℕ, ◌<◌, ◌≤◌, Bool, true, false, cond, List, [], ◌∷◌, refl, arith, le-leb, leb-true}
use Rattle.std.specs.Prelude.{nat_le, Result, Ok, Err}
use Rattle.fab_types.specs.declared.faults.layout.LayoutCause.{LayoutCause}
use Rattle.fab_types.specs.declared.faults.layout.LayoutCause.TheVariants as cause
use Rattle.fab_types.specs.declared.faults.layout.LayoutFault.{LayoutFault}
use Rattle.text.specs.Text.{is_last}
use Rattle.platform.specs.Platform.{Platform}
use Rattle.layout.specs.Reading.{with_line, read_from, next_number, fault_at, ended, and_on, is_reached}

here : (n : ℕ) → nat_le n n ≡ true
here n = le-leb n n (omega arith)

earlier : (answer : Result Platform LayoutFault) (n m : ℕ) → n ≤ m → is_reached answer m ≡ true → is_reached answer n ≡ true
earlier (Ok p) n m le h = refl
earlier (Err fault) n m le h = let l : m ≤ fault.line = leb-true m fault.line h in le-leb n fault.line (omega arith)

at-end : (whole : Bool) (p : Platform) (n : ℕ) → is_reached (cond whole (Ok p) (Err (fault_at n cause.Line))) n ≡ true
at-end true p n = refl
at-end false p n = here n

at-line : (last : Bool) (p : Platform) (n : ℕ) (line : List ℕ) (rest : List (List ℕ)) (step : Result Platform LayoutCause) → ((next : Platform) → is_reached (read_from next (next_number n) rest) (next_number n) ≡ true) → n ≤ next_number n
    → is_reached (cond last (ended p n line) (and_on n (λ next. read_from next (next_number n) rest) step)) n ≡ true
at-line true p n line rest step later le = at-end _ p n
at-line false p n line rest (Ok next) later le = earlier (read_from next (next_number n) rest) n (next_number n) le (later next)
at-line false p n line rest (Err refusal) later le = here n

-- no line before the one that is read next is faulty
pub reached : (p : Platform) (n : ℕ) (lines : List (List ℕ)) → n < 4294967296 → is_reached (read_from p n lines) n ≡ true
reached p n [] small = here n
reached p n (line ∷ rest) small =
    at-line (is_last rest) p n line rest (with_line p line) (λ next. reached next (next_number n) rest (omega arith)) (omega arith)
