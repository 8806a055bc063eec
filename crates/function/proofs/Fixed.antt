-- Bytes of a page that never change.
use Rattle.std.proofs.Common.{◌≡◌, ℕ, ◌+◌, ◌-◌, ◌%◌, ◌<◌, ◌≤◌, ◌≢◌, Bool, true, false, ◌&&◌, cond, eqb, leb, ltb, List, [], ◌∷◌, ◌++◌, length, take, drop, get_or, set, Option, Some, None, ap, ◌∙◌, refl, subst, inl, inr, arith, length-append, length-drop, length-take-le, get_or-set_other, get_or-drop, rules}
use Rattle.std.proofs.lemmas.Bool.{cases_lt, lt-ltb, le-ltb, le-leb, and_right, and_from}
use Rattle.std.proofs.lemmas.List.{get_or-append_right, places}
use Rattle.fab_types.specs.declared.status.Status.{Status}
use Rattle.function.specs.declared.plan.Plan.{Plan}
use Rattle.function.specs.declared.plan.Plan.TheVariants.{Nothing, Halt, Fault, Pass, Emit}
use Rattle.function.specs.declared.registers.Register.{Register}
use Rattle.function.specs.declared.registers.Register.TheVariants.{Id, Control, Status as StatusRegister, ProgramCounter, Program, Buffer}
use Rattle.function.specs.declared.tags.TagUse.{TagUse}
use Rattle.function.specs.declared.tags.TagUse.TheVariants.{Raw, Line}
use Rattle.function.specs.Registers.{register_at, write_register, write_byte, write_bytes, write_page, with_status}
use Rattle.function.specs.Plans.{page_after}
use Rattle.function.specs.Closings.{filled, closed_by}
use Rattle.fab_types.specs.Bytes.{overwritten}
use Rattle.function.specs.Laws.{IsFixed}
use Rattle.function.proofs.Running.{at_status, at_counter, below_buffer}

at_control : register_at 4 ≡ Some Control
unfolding register_at
at_control = refl

-- a byte that never changes is none of those that do
not_fixed : (i j : ℕ) (r : Register) → register_at j ≡ Some r → (IsFixed (Some r) → ⊥) → IsFixed (register_at i) → i ≢ j
not_fixed i j r there changes fixed = λ e. changes (subst IsFixed (ap register_at e ∙ there) fixed)

module _ (i : ℕ) (fixed : IsFixed (register_at i)) where
  no_control : i ≢ 4
  no_control = not_fixed i 4 Control at_control (λ f. f) fixed

  no_status : i ≢ 8
  no_status = not_fixed i 8 StatusRegister at_status (λ f. f) fixed

  no_counter : i ≢ 12
  no_counter = not_fixed i 12 ProgramCounter at_counter (λ f. f) fixed

  status_beside : (page : List ℕ) (v : ℕ) → get_or (with_status page v) i 0 ≡ get_or page i 0
  status_beside page v = get_or-set_other page 8 i v 0 no_status

  started_beside : (page : List ℕ) (b : Bool) → get_or (cond b (set (set (set page 4 1) 8 1) 12 0) (set (set page 4 0) 8 0)) i 0 ≡ get_or page i 0
  started_beside page true = get_or-set_other (set (set page 4 1) 8 1) 12 i 0 0 no_counter ∙ get_or-set_other (set page 4 1) 8 i 1 0 no_status ∙ get_or-set_other page 4 i 1 0 no_control
  started_beside page false = get_or-set_other (set page 4 0) 8 i 0 0 no_status ∙ get_or-set_other page 4 i 0 0 no_control

  register_beside : (r : Option Register) (page : List ℕ) (offset v : ℕ) → register_at offset ≡ r → get_or (write_register r page offset v) i 0 ≡ get_or page i 0
  register_beside None page offset v is = refl
  register_beside (Some Id) page offset v is = refl
  register_beside (Some Control) page offset v is = started_beside page (eqb (v % 2) 1)
  register_beside (Some StatusRegister) page offset v is = refl
  register_beside (Some ProgramCounter) page offset v is = refl
  register_beside (Some Program) page offset v is = get_or-set_other page offset i v 0 (not_fixed i offset Program is (λ f. f) fixed)
  register_beside (Some Buffer) page offset v is = get_or-set_other page offset i v 0 (not_fixed i offset Buffer is (λ f. f) fixed)

  bytes_beside : (bytes page : List ℕ) (offset : ℕ) → get_or (write_bytes page offset bytes) i 0 ≡ get_or page i 0
  bytes_beside [] page offset = refl
  bytes_beside (byte ∷ bytes) page offset = bytes_beside bytes (write_byte page offset byte) (offset + 1) ∙ register_beside (register_at offset) page offset byte refl

  pub page_beside : (runs : List (ℕ × List ℕ)) (page : List ℕ) (first : ℕ) → get_or (write_page page first runs) i 0 ≡ get_or page i 0
  page_beside [] page first = refl
  page_beside (run ∷ runs) page first = page_beside runs (write_bytes page (first + run.0) run.1) first ∙ bytes_beside run.1 page (first + run.0)

  counted_beside : (page : List ℕ) (next : ℕ) (b : Bool) → get_or (cond b (set (set page 12 next) 8 2) (set page 12 next)) i 0 ≡ get_or page i 0
  counted_beside page next true = get_or-set_other (set page 12 next) 8 i 2 0 no_status ∙ get_or-set_other page 12 i next 0 no_counter
  counted_beside page next false = get_or-set_other page 12 i next 0 no_counter

  pub tick_beside : (plan : Plan) (page : List ℕ) → get_or (page_after plan page) i 0 ≡ get_or page i 0
  tick_beside Nothing page = refl
  tick_beside Halt page = status_beside page 2
  tick_beside Fault page = status_beside page 3
  tick_beside Pass page = counted_beside page (get_or page 12 0 + 1) (eqb (get_or page 12 0 + 1) 16)
  tick_beside (Emit packet opened) page = counted_beside page (get_or page 12 0 + 1) (eqb (get_or page 12 0 + 1) 16)

-- the table at a byte of the buffer
in_buffer : (i : ℕ) → 1024 ≤ i → i < 2048 → register_at i ≡ Some Buffer
unfolding register_at
in_buffer i low high =
    let a : (leb 0 i && ltb i 4) ≡ false = and_right _ _ (le-ltb i 4 (omega (arith, low))) in
    let b : (leb 4 i && ltb i 5) ≡ false = and_right _ _ (le-ltb i 5 (omega (arith, low))) in
    let c : (leb 8 i && ltb i 12) ≡ false = and_right _ _ (le-ltb i 12 (omega (arith, low))) in
    let d : (leb 12 i && ltb i 16) ≡ false = and_right _ _ (le-ltb i 16 (omega (arith, low))) in
    let e : (leb 256 i && ltb i 512) ≡ false = and_right _ _ (le-ltb i 512 (omega (arith, low))) in
    let f : (leb 1024 i && ltb i 2048) ≡ true = and_from _ _ (le-leb 1024 i low) (lt-ltb i 2048 high) in
    rw (a, b, c, d, e, f) refl

-- as many cells as before
overwritten-length : (cells : List ℕ) (offset : ℕ) (bytes : List ℕ) → length (overwritten cells offset bytes) ≡ length cells
overwritten-length cells offset bytes = search (rules, places)

above_buffer : (page new : List ℕ) (i : ℕ) → length page ≡ 4096 → length new ≡ 1024 → 2048 ≤ i → get_or (take 1024 page ++ new ++ drop 2048 page) i 0 ≡ get_or page i 0
above_buffer page new i long size high =
    let cut = length-take-le 1024 page (omega (arith, long)) in
    let front : length (take 1024 page ++ new) ≡ 2048 = omega (arith, length-append (take 1024 page) new, cut, size) in
    let there : 2048 + (i - 2048) ≡ i = omega (arith, high) in
    get_or-append_right (take 1024 page ++ new) (drop 2048 page) 2048 i 0 front high ∙ get_or-drop 2048 page (i - 2048) 0 ∙ ap (λ k. get_or page k 0) there

module _ (i : ℕ) (fixed : IsFixed (register_at i)) where
  filled_beside : (page : List ℕ) (offset : ℕ) (payload : List ℕ) → length page ≡ 4096 → get_or (filled page offset payload) i 0 ≡ get_or page i 0
  filled_beside page offset payload long =
      let cells : List ℕ = take 1024 (drop 1024 page) in
      let new = overwritten cells offset payload in
      let part : length cells ≡ 1024 = length-take-le 1024 (drop 1024 page) (omega (arith, length-drop 1024 page, long)) in
      elim (cases_lt i 1024) [
        | inl low ↦ below_buffer page new i long low
        | inr from ↦ elim (cases_lt i 2048) [
          | inl inside ↦ absurd (subst IsFixed (in_buffer i from inside) fixed)
          | inr high ↦ above_buffer page new i long (overwritten-length cells offset payload ∙ part) high
        ]
      ]

  closed_if : (page : List ℕ) (offset : ℕ) (payload : List ℕ) (b : Bool) → length page ≡ 4096 → get_or (cond b (filled page offset payload) (with_status page 3)) i 0 ≡ get_or page i 0
  closed_if page offset payload true long = filled_beside page offset payload long
  closed_if page offset payload false long = status_beside i fixed page 3

  pub closed_beside : (page : List ℕ) (usage : TagUse) (status : Status) (payload : List ℕ) → length page ≡ 4096 → get_or (closed_by page usage status payload) i 0 ≡ get_or page i 0
  closed_beside page Raw status payload long = refl
  closed_beside page (Line offset count) status payload long = closed_if page offset payload _ long
