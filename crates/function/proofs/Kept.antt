-- What is written to the program and to the buffer is kept there.
use Rattle.std.proofs.Common.{◌≡◌, ◌⊎◌, inl, inr, ⊎_elim, ℕ, ◌+◌, ◌≤◌, ◌<◌, Bool, true, false, List, [], ◌∷◌, ◌++◌, length, take, drop, set, Some, refl, sym, ap, ◌∙◌, arith, rules, length-set, append_assoc}
use Rattle.std.specs.Prelude.{◌&&◌, ◌||◌, nat_le, option_map}
use Rattle.std.specs.List.{find}
use Rattle.std.proofs.lemmas.Bool.{cases_lt, le-ltb, lt-ltb, leb-true, le-leb}
use Rattle.std.proofs.Math.Seq.{drop-drop}
use Rattle.std.proofs.lemmas.List.{same_lists, places, take_more_set, drop-set-lt}
use borrow.Rule.Slice.PartMut.{put_mid}
use Rattle.function.specs.declared.registers.Register.TheVariants.{Program, Buffer}
use Rattle.function.specs.Registers.{are_kept, has_byte, register_at, table, write_byte, write_bytes, write_register}

-- from byte 16 on only the program and the buffer are left
behind_counter : (offset : ℕ) → 16 ≤ offset → register_at offset ≡ option_map (λ row. row.register) (find (has_byte offset) (drop 4 table))
unfolding register_at
behind_counter offset low =
    rw (
      le-ltb offset 4 (omega (arith, low)),
      le-ltb offset 5 (omega (arith, low)),
      le-ltb offset 12 (omega (arith, low)),
      le-ltb offset 16 low,
      le-leb 0 offset (omega arith),
      le-leb 4 offset (omega (arith, low)),
      le-leb 8 offset (omega (arith, low)),
      le-leb 12 offset (omega (arith, low)),
    ) refl

program_at : (offset : ℕ) → 256 ≤ offset → offset < 512 → register_at offset ≡ Some Program
program_at offset low high = behind_counter offset (omega (arith, low)) ∙ rw (lt-ltb offset 512 high, le-leb 256 offset low) refl

buffer_at : (offset : ℕ) → 1024 ≤ offset → offset < 2048 → register_at offset ≡ Some Buffer
buffer_at offset low high =
    behind_counter offset (omega (arith, low))
    ∙ rw (le-leb 256 offset (omega (arith, low)), le-ltb offset 512 (omega (arith, low)), le-leb 1024 offset low, lt-ltb offset 2048 high) refl

-- of these bytes each keeps what is written
abbrev Keeps : ℕ → ℕ → Type 0
Keeps from to = (page : List ℕ) (offset v : ℕ) → from ≤ offset → offset < to → write_byte page offset v ≡ set page offset v

one-more : (page bytes : List ℕ) (byte first : ℕ) → first + (1 + length bytes) ≤ length page
    → take (first + 1) (set page first byte) ++ (bytes ++ drop (first + 1 + length bytes) (set page first byte)) ≡ take first page ++ ((byte ∷ bytes) ++ drop (first + length (byte ∷ bytes)) page)
one-more page bytes byte first within =
    let rest = length bytes in
    let past : drop (first + 1 + rest) (set page first byte) ≡ drop (first + 1 + rest) page = drop-set-lt (first + 1 + rest) page first byte (omega arith) in
    let count : first + 1 + rest ≡ first + length {A = ℕ} (byte ∷ bytes) = omega arith in
    ap (λ ys. take (first + 1) (set page first byte) ++ (bytes ++ ys)) past
    ∙ ap (λ ys. ys ++ (bytes ++ drop (first + 1 + rest) page)) (take_more_set page first byte (omega (arith, within)))
    ∙ append_assoc (take first page) (byte ∷ []) (bytes ++ drop (first + 1 + rest) page)
    ∙ ap (λ n. take first page ++ ((byte ∷ bytes) ++ drop n page)) count

kept : (from to : ℕ) → Keeps from to → (bytes page : List ℕ) (first : ℕ) → from ≤ first → first + length bytes ≤ to → first + length bytes ≤ length page
    → write_bytes page first bytes ≡ take first page ++ (bytes ++ drop (first + length bytes) page)
kept from to keeps [] page first low high within = same_lists _ _ (search (rules, places)) (λ j d h. grind (arith, places, cases_lt j first))
kept from to keeps (byte ∷ bytes) page first low high within =
    let here = keeps page first byte low (omega (arith, high)) in
    ap (λ p. write_bytes p (first + 1) bytes) here
    ∙ kept from to keeps bytes (set page first byte) (first + 1) (omega (arith, low)) (omega (arith, high)) (omega (arith, within, length-set page first byte))
    ∙ one-more page bytes byte first (omega (arith, within))

either : (a b c d : Bool) → ((a && b) || (c && d)) ≡ true → ((a ≡ true) × (b ≡ true)) ⊎ ((c ≡ true) × (d ≡ true))
either true true c d h = inl (refl, refl)
either true false true true h = inr (refl, refl)
either true false true false h = absurd cc
either true false false d h = absurd cc
either false b true true h = inr (refl, refl)
either false b true false h = absurd cc
either false b false d h = absurd cc

-- in a page of 4,096 bytes
pub kept_is : (page new bytes : List ℕ) (first count : ℕ) → are_kept first (first + length bytes) ≡ true → length page ≡ 4096 → first + length bytes ≤ 4096 → count ≡ length bytes → new ≡ bytes
    → put_mid first count page new ≡ write_bytes page first bytes
kept_is page new bytes first count is long inside same copied =
    let within : first + length bytes ≤ length page = omega (arith, long, inside) in
    let whole : write_bytes page first bytes ≡ take first page ++ (bytes ++ drop (first + length bytes) page) =
    ⊎_elim (λ h. kept 256 512 (λ p o v low high. ap (λ r. write_register r p o v) (program_at o low high)) bytes page first (leb-true 256 first h.0) (leb-true (first + length bytes) 512 h.1) within)
    (λ h. kept 1024 2048 (λ p o v low high. ap (λ r. write_register r p o v) (buffer_at o low high)) bytes page first (leb-true 1024 first h.0) (leb-true (first + length bytes) 2048 h.1) within)
    (either (nat_le 256 first) (nat_le (first + length bytes) 512) (nat_le 1024 first) (nat_le (first + length bytes) 2048) is) in
    ap (λ ys. take first page ++ (ys ++ drop count (drop first page))) copied
    ∙ ap (λ k. take first page ++ (bytes ++ drop k (drop first page))) same
    ∙ ap (λ ys. take first page ++ (bytes ++ ys)) (drop-drop (length bytes) first page)
    ∙ sym whole
