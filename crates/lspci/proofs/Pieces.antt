-- A dump's first line is read, and then the rest.
use Rattle.std.proofs.Common.{◌≡◌, ℕ, ◌<◌, ◌≤◌, Bool, true, false, cond, List, [], ◌∷◌, Some, None, refl, inl, inr, arith, le-leb, leb-true}
use Rattle.std.specs.Prelude.{nat_le, Result, Ok, Err, ◌⊎◌}
use Rattle.text.specs.Text.{cut, pieces, is_last}
use Rattle.text.proofs.Pieces.{pieces-cut, pieces-no_cut, some-piece}
use Rattle.lspci.specs.declared.fault.DumpCause.{DumpCause}
use Rattle.lspci.specs.declared.fault.DumpCause.TheVariants as cause
use Rattle.lspci.specs.declared.fault.DumpFault.{DumpFault}
use Rattle.lspci.specs.Dumps.{DumpText}
use Rattle.lspci.specs.Reading.{with_line, read_from, next_number, fault_at, at_line, end_of, ended, and_on, is_reached}

pub read-line : (p next : DumpText) (number : ℕ) (before after text : List ℕ) → Some (before, after) ≡ cut 10 text → with_line p number before ≡ Ok next
    → read_from p number (pieces text) ≡ read_from next (next_number number) (pieces after)
read-line p next number before after text e step = rw (pieces-cut before after text e, some-piece after, step) refl

pub read-fault : (p : DumpText) (number : ℕ) (refusal : DumpCause) (before after text : List ℕ) → Some (before, after) ≡ cut 10 text → with_line p number before ≡ Err refusal
    → read_from p number (pieces text) ≡ Err (fault_at number refusal)
read-fault p number refusal before after text e step = rw (pieces-cut before after text e, some-piece after, step) refl

pub read-end : (p : DumpText) (number : ℕ) (text : List ℕ) (end : Result DumpText DumpCause) → None ≡ cut 10 text → end_of p text ≡ end → read_from p number (pieces text) ≡ at_line number end
read-end p number text end e h = rw (pieces-no_cut text e, h) refl

here : (n : ℕ) → nat_le n n ≡ true
here n = le-leb n n (omega arith)

earlier : (answer : Result DumpText DumpFault) (n m : ℕ) → n ≤ m → is_reached answer m ≡ true → is_reached answer n ≡ true
earlier (Ok p) n m le h = refl
earlier (Err fault) n m le h = let l : m ≤ fault.line = leb-true m fault.line h in le-leb n fault.line (omega arith)

at-end : (n : ℕ) (end : Result DumpText DumpCause) → is_reached (at_line n end) n ≡ true
at-end n (Ok p) = refl
at-end n (Err refusal) = here n

at-line : (last : Bool) (p : DumpText) (n : ℕ) (line : List ℕ) (rest : List (List ℕ)) (step : Result DumpText DumpCause) → ((next : DumpText) → is_reached (read_from next (next_number n) rest) (next_number n) ≡ true) → n ≤ next_number n
    → is_reached (cond last (ended p n line) (and_on n (λ next. read_from next (next_number n) rest) step)) n ≡ true
at-line true p n line rest step later le = at-end n (end_of p line)
at-line false p n line rest (Ok next) later le = earlier (read_from next (next_number n) rest) n (next_number n) le (later next)
at-line false p n line rest (Err refusal) later le = here n

-- no line before the one that is read next is faulty
pub reached : (p : DumpText) (n : ℕ) (lines : List (List ℕ)) → n < 4294967296 → is_reached (read_from p n lines) n ≡ true
reached p n [] small = here n
reached p n (line ∷ rest) small =
    at-line (is_last rest) p n line rest (with_line p n line) (λ next. reached next (next_number n) rest (omega arith)) (omega arith)

-- the end is refused, or want of memory ends the reading there
pub end-fault : (p : DumpText) (number : ℕ) (refusal : DumpCause) (text : List ℕ) → number < 4294967296 → None ≡ cut 10 text
    → (refusal ≡ cause.NoMemory) ⊎ (end_of p text ≡ Err refusal)
    → ((refusal ≡ cause.NoMemory) × (is_reached (read_from p number (pieces text)) number ≡ true)) ⊎ (read_from p number (pieces text) ≡ Err (fault_at number refusal))
end-fault p number refusal text small e h = elim h [
  | inl memory ↦ inl (memory, reached p number (pieces text) small)
  | inr refused ↦ inr (read-end p number text (Err refusal) e refused)
]

pub end-is : (p next : DumpText) (number : ℕ) (text : List ℕ) → None ≡ cut 10 text → end_of p text ≡ Ok next → read_from p number (pieces text) ≡ Ok next
end-is p next number text e h = read-end p number text (Ok next) e h
