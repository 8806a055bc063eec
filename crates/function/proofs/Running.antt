-- What changes a page leaves a program that runs at a line.
use Rattle.std.proofs.Common.{◌≡◌, ℕ, ◌+◌, ◌%◌, ◌<◌, ◌≢◌, Bool, true, false, cond, eqb, List, [], ◌∷◌, ◌++◌, length, take, drop, get_or, set, Option, Some, None, sym, ap, ◌∙◌, refl, subst, arith, append_assoc, length-set, length-take-le, get_or-set_other, get_or-set_same}
use Rattle.std.proofs.lemmas.List.{get_or_append_left}
use Rattle.std.proofs.Math.Seq.{get_or-take}
use Rattle.fab_types.specs.declared.status.Status.{Status}
use Rattle.function.specs.declared.registers.Register.{Register}
use Rattle.function.specs.declared.registers.Register.TheVariants.{Id, Control, Status as StatusRegister, ProgramCounter, Program, Buffer}
use Rattle.function.specs.Registers.{register_at, write_register, write_byte, write_bytes, write_page, with_status}
use Rattle.function.specs.Closings.{filled, closed}
use Rattle.fab_types.specs.Bytes.{overwritten}
use Rattle.function.specs.Pages.{Runs}

pub at_status : register_at 8 ≡ Some StatusRegister
unfolding register_at
at_status = refl

pub at_counter : register_at 12 ≡ Some ProgramCounter
unfolding register_at
at_counter = refl

-- a write elsewhere
runs_beside : (page : List ℕ) (at v : ℕ) → at ≢ 8 → at ≢ 12 → Runs page → Runs (set page at v)
runs_beside page at v status counter runs =
    let s : 8 ≢ at = λ e. status (sym e) in
    let c : 12 ≢ at = λ e. counter (sym e) in
    let a : get_or (set page at v) 8 0 ≡ get_or page 8 0 = get_or-set_other page at 8 v 0 s in
    let b : get_or (set page at v) 12 0 ≡ get_or page 12 0 = get_or-set_other page at 12 v 0 c in
    λ e. subst (λ n. n < 16) (sym b) (runs (sym a ∙ e))

-- a program that has ended
pub runs_ended : (page : List ℕ) (v : ℕ) → length page ≡ 4096 → v ≢ 1 → Runs (with_status page v)
runs_ended page v long other =
    let a : get_or (set page 8 v) 8 0 ≡ v = get_or-set_same page 8 v 0 (omega (arith, long)) in
    λ e. absurd (other (sym a ∙ e))

runs_started : (page : List ℕ) (v : ℕ) (b : Bool) → length page ≡ 4096 → Runs (cond b (set (set (set page 4 1) 8 1) 12 0) (set (set page 4 0) 8 0))
runs_started page v true long =
    let a : get_or (set (set (set page 4 1) 8 1) 12 0) 12 0 ≡ 0 = get_or-set_same (set (set page 4 1) 8 1) 12 0 0 (omega (arith, length-set (set page 4 1) 8 1, length-set page 4 1, long)) in
    λ e. omega (arith, a)
runs_started page v false long = runs_ended (set page 4 0) 0 (length-set page 4 0 ∙ long) (λ e. omega (arith, e))

runs_register : (r : Option Register) (page : List ℕ) (offset v : ℕ) → register_at offset ≡ r → length page ≡ 4096 → Runs page → Runs (write_register r page offset v)
runs_register None page offset v is long runs = runs
runs_register (Some Id) page offset v is long runs = runs
runs_register (Some Control) page offset v is long runs = runs_started page v (eqb (v % 2) 1) long
runs_register (Some StatusRegister) page offset v is long runs = runs
runs_register (Some ProgramCounter) page offset v is long runs = runs
runs_register (Some Program) page offset v is long runs = runs_beside page offset v (λ e. (let f = ap register_at (sym e) in let g = at_status in cc)) (λ e. (let f = ap register_at (sym e) in let g = at_counter in cc)) runs
runs_register (Some Buffer) page offset v is long runs = runs_beside page offset v (λ e. (let f = ap register_at (sym e) in let g = at_status in cc)) (λ e. (let f = ap register_at (sym e) in let g = at_counter in cc)) runs

length_started : (page : List ℕ) (b : Bool) → length (cond b (set (set (set page 4 1) 8 1) 12 0) (set (set page 4 0) 8 0)) ≡ length page
length_started page true = length-set (set (set page 4 1) 8 1) 12 0 ∙ length-set (set page 4 1) 8 1 ∙ length-set page 4 1
length_started page false = length-set (set page 4 0) 8 0 ∙ length-set page 4 0

length_register : (r : Option Register) (page : List ℕ) (offset v : ℕ) → length (write_register r page offset v) ≡ length page
length_register None page offset v = refl
length_register (Some Id) page offset v = refl
length_register (Some Control) page offset v = length_started page (eqb (v % 2) 1)
length_register (Some StatusRegister) page offset v = refl
length_register (Some ProgramCounter) page offset v = refl
length_register (Some Program) page offset v = length-set page offset v
length_register (Some Buffer) page offset v = length-set page offset v

-- pages of 4,096 bytes that keep a running program at a line
record Kept (page : List ℕ) : Type 0 where
  long : length page ≡ 4096
  runs : Runs page

kept_bytes : (bytes page : List ℕ) (offset : ℕ) → Kept page → Kept (write_bytes page offset bytes)
kept_bytes [] page offset kept = kept
kept_bytes (byte ∷ bytes) page offset kept =
    kept_bytes bytes (write_byte page offset byte) (offset + 1) (record {
      long = length_register (register_at offset) page offset byte ∙ kept.long;
      runs = runs_register (register_at offset) page offset byte refl kept.long kept.runs;
    })

kept_page : (runs : List (ℕ × List ℕ)) (page : List ℕ) (first : ℕ) → Kept page → Kept (write_page page first runs)
kept_page [] page first kept = kept
kept_page (run ∷ runs) page first kept = kept_page runs (write_bytes page (first + run.0) run.1) first (kept_bytes run.1 page (first + run.0) kept)

pub runs_written : (runs : List (ℕ × List ℕ)) (page : List ℕ) (first : ℕ) → length page ≡ 4096 → Runs page → Runs (write_page page first runs)
runs_written runs page first long is = (kept_page runs page first (record { long = long; runs = is })).runs

-- below the buffer a page stays
pub below_buffer : (page new : List ℕ) (i : ℕ) → length page ≡ 4096 → i < 1024 → get_or (take 1024 page ++ new ++ drop 2048 page) i 0 ≡ get_or page i 0
below_buffer page new i long low =
    let cut = length-take-le 1024 page (omega (arith, long)) in
    ap (λ xs. get_or xs i 0) (append_assoc (take 1024 page) new (drop 2048 page)) ∙ get_or_append_left (take 1024 page) (new ++ drop 2048 page) 0 i (omega (arith, cut)) ∙ get_or-take 1024 page i 0 low

runs_closed_by : (page : List ℕ) (offset : ℕ) (payload : List ℕ) (b : Bool) → length page ≡ 4096 → Runs page → Runs (cond b (filled page offset payload) (with_status page 3))
runs_closed_by page offset payload true long runs =
    let new = overwritten (take 1024 (drop 1024 page)) offset payload in
    let a = below_buffer page new 8 long (omega arith) in
    let b = below_buffer page new 12 long (omega arith) in
    λ e. subst (λ n. n < 16) (sym b) (runs (sym a ∙ e))
runs_closed_by page offset payload false long runs = runs_ended page 3 long (λ e. omega (arith, e))

pub runs_closed : (page : List ℕ) (offset count : ℕ) (status : Status) (payload : List ℕ) → length page ≡ 4096 → Runs page → Runs (closed page offset count status payload)
runs_closed page offset count status payload long runs = runs_closed_by page offset payload _ long runs
