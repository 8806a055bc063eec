-- The runs of enabled bytes hold exactly those, as they stand in the payload.
use Rattle.std.proofs.Common.{◌≡◌, ℕ, suc, ◌+◌, ◌-◌, ◌<◌, ◌≤◌, Bool, true, false, eqb, ◌||◌, nat_le, nat_lt, List, [], ◌∷◌, length, take, drop, Option, Some, None, ◌⊎◌, refl, sym, ap, ◌∙◌, inl, inr, arith}
use Rattle.std.specs.List.{AllByRecursion, slice_range}
use Rattle.std.proofs.lemmas.Bool.{and_parts, and_from, eqb-true, leb-true, le-leb, false≢true, cases_lt}
use Rattle.std.proofs.lemmas.List.{drop_more}
use Rattle.std.proofs.lemmas.List.Elements.{All-from_recursion}
use Rattle.tlp_view.specs.declared.enables.Enables.{Enables}
use Rattle.tlp_view.specs.declared.kind.Kind.TheVariants.{MWr}
use Rattle.tlp_view.specs.Packet.{Packet, enables_in}
use Rattle.tlp_view.specs.Runs.{is_enabled, is_write, joined, runs, runs_from, runs_with}
use Rattle.tlp_laws.specs.Coverage.{AreOf, covers, holds}
use Rattle.tlp_laws.proofs.Choices.{chosen}

either : (a b : Bool) → (a || b) ≡ true → (a ≡ true) ⊎ (b ≡ true)
either true b h = inl refl
either false b h = inr h

second : (a b : Bool) → b ≡ true → (a || b) ≡ true
second true b h = refl
second false b h = h

at_first : (a b : Bool) → a ≡ true → (a || b) ≡ true
at_first true b h = refl
at_first false b h = absurd (false≢true h)

-- does the run hold the place?
abbrev In : ℕ → (ℕ × List ℕ) → Type 0
In k run = (run.0 ≤ k) × (k < run.0 + length run.1)

is_in : (k : ℕ) (run : ℕ × List ℕ) → holds k run ≡ true → In k run
is_in k run h =
    let both = and_parts (nat_le run.0 k) (nat_lt k (run.0 + length run.1)) h in
    (leb-true run.0 k both.0, leb-true (suc k) (run.0 + length run.1) both.1)

in_is : (k : ℕ) (run : ℕ × List ℕ) → In k run → holds k run ≡ true
in_is k run h = and_from (nat_le run.0 k) (nat_lt k (run.0 + length run.1)) (le-leb run.0 k h.0) (le-leb (suc k) (run.0 + length run.1) h.1)

module _ (k : ℕ) where
  -- one byte more is held, and no other
  joined_holds : (i byte : ℕ) (runs : List (ℕ × List ℕ)) → covers (joined i byte runs) k ≡ true → (k ≡ i) ⊎ (covers runs k ≡ true)
  joined_holds i byte [] h = elim (either (holds k (i, byte ∷ [])) false h) [
    | inl here ↦ (let l = is_in k (i, byte ∷ []) here in inl (omega (arith, l)))
    | inr rest ↦ absurd (false≢true rest)
  ]
  joined_holds i byte (run ∷ runs) holds_it =
      chosen (λ made. covers made k ≡ true → (k ≡ i) ⊎ (covers (run ∷ runs) k ≡ true)) (eqb run.0 (i + 1)) ((i, byte ∷ run.1) ∷ runs) ((i, byte ∷ []) ∷ run ∷ runs)
      (λ e h. elim (either (holds k (i, byte ∷ run.1)) (covers runs k) h) [
        | inl here ↦ longer e (is_in k (i, byte ∷ run.1) here)
        | inr rest ↦ inr (second (holds k run) (covers runs k) rest)
      ])
      (λ e h. elim (either (holds k (i, byte ∷ [])) (covers (run ∷ runs) k) h) [
        | inl here ↦ (let l = is_in k (i, byte ∷ []) here in inl (omega (arith, l)))
        | inr rest ↦ inr rest
      ])
      holds_it
    where
      longer : eqb run.0 (i + 1) ≡ true → In k (i, byte ∷ run.1) → (k ≡ i) ⊎ (covers (run ∷ runs) k ≡ true)
      longer e l =
          let next = eqb-true run.0 (i + 1) e in
          elim (cases_lt i k) [
            | inl w ↦ inr (at_first (holds k run) (covers runs k) (in_is k run (omega (arith, next, w), omega (arith, next, l))))
            | inr w ↦ inl (omega (arith, l, w))
          ]

  joined_first : (i byte : ℕ) (runs : List (ℕ × List ℕ)) → k ≡ i → covers (joined i byte runs) k ≡ true
  joined_first i byte [] e = at_first (holds k (i, byte ∷ [])) false (in_is k (i, byte ∷ []) (omega (arith, e), omega (arith, e)))
  joined_first i byte (run ∷ runs) e =
      chosen (λ made. covers made k ≡ true) (eqb run.0 (i + 1)) ((i, byte ∷ run.1) ∷ runs) ((i, byte ∷ []) ∷ run ∷ runs)
      (λ _. at_first (holds k (i, byte ∷ run.1)) (covers runs k) (in_is k (i, byte ∷ run.1) (omega (arith, e), omega (arith, e))))
      (λ _. at_first (holds k (i, byte ∷ [])) (covers (run ∷ runs) k) (in_is k (i, byte ∷ []) (omega (arith, e), omega (arith, e))))

  joined_others : (i byte : ℕ) (runs : List (ℕ × List ℕ)) → covers runs k ≡ true → covers (joined i byte runs) k ≡ true
  joined_others i byte [] h = absurd (false≢true h)
  joined_others i byte (run ∷ runs) h =
      chosen (λ made. covers made k ≡ true) (eqb run.0 (i + 1)) ((i, byte ∷ run.1) ∷ runs) ((i, byte ∷ []) ∷ run ∷ runs)
      (λ e. elim (either (holds k run) (covers runs k) h) [
        | inl here ↦ (
            let l = is_in k run here in
            let next = eqb-true run.0 (i + 1) e in
            at_first (holds k (i, byte ∷ run.1)) (covers runs k) (in_is k (i, byte ∷ run.1) (omega (arith, l, next), omega (arith, l, next))))
        | inr rest ↦ second (holds k (i, byte ∷ run.1)) (covers runs k) rest
      ])
      (λ e. second (holds k (i, byte ∷ [])) (covers (run ∷ runs) k) h)

  module _ (enabled : ℕ → Bool) where
    -- what the runs from a place on hold
    abbrev Enabled : ℕ → List ℕ → Type 0
    Enabled i bytes = (i ≤ k) × (k < i + length bytes) × (enabled k ≡ true)

    pub held_enabled : (i : ℕ) (bytes : List ℕ) → covers (runs_from enabled i bytes) k ≡ true → Enabled i bytes
    held_enabled i [] h = absurd (false≢true h)
    held_enabled i (byte ∷ bytes) holds_it =
        chosen (λ made. covers made k ≡ true → Enabled i (byte ∷ bytes)) (enabled i) (joined i byte (runs_from enabled (i + 1) bytes)) (runs_from enabled (i + 1) bytes)
        (λ e h. elim (joined_holds i byte (runs_from enabled (i + 1) bytes) h) [
          | inl here ↦ (omega (arith, here), omega (arith, here), ap enabled here ∙ e)
          | inr rest ↦ later (held_enabled (i + 1) bytes rest)
        ])
        (λ e h. later (held_enabled (i + 1) bytes h))
        holds_it
      where
        later : Enabled (i + 1) bytes → Enabled i (byte ∷ bytes)
        later rest = let low = rest.0 in let high = rest.1 in (omega (arith, low), omega (arith, high), rest.2)

    pub enabled_held : (i : ℕ) (bytes : List ℕ) → Enabled i bytes → covers (runs_from enabled i bytes) k ≡ true
    enabled_held i [] h = let low = h.0 in let high = h.1 in absurd (omega (arith, low, high))
    enabled_held i (byte ∷ bytes) h = elim (cases_lt i k) [
      | inl w ↦ (
          let high = h.1 in
          let rest = enabled_held (i + 1) bytes (omega (arith, w), omega (arith, high), h.2) in
          chosen (λ made. covers made k ≡ true) (enabled i) (joined i byte (runs_from enabled (i + 1) bytes)) (runs_from enabled (i + 1) bytes)
          (λ e. joined_others i byte (runs_from enabled (i + 1) bytes) rest) (λ e. rest))
      | inr w ↦ (
          let low = h.0 in
          let here : k ≡ i = omega (arith, low, w) in
          chosen (λ made. covers made k ≡ true) (enabled i) (joined i byte (runs_from enabled (i + 1) bytes)) (runs_from enabled (i + 1) bytes)
          (λ e. joined_first i byte (runs_from enabled (i + 1) bytes) here)
          (λ e. absurd (false≢true (sym e ∙ ap enabled (sym here) ∙ h.2))))
    ]

pub held : (t : Packet) (enables : Enables) (i : ℕ) → t.kind ≡ MWr → enables_in t.body ≡ Some enables
    → covers (runs t) i ≡ true → (i < length t.payload) × (is_enabled enables (length t.payload) i ≡ true)
held t enables i kind some h =
    let made : runs t ≡ runs_from (is_enabled enables (length t.payload)) 0 t.payload = rw (kind, some) refl in
    let found = held_enabled i (is_enabled enables (length t.payload)) 0 t.payload (ap (λ made. covers made i) (sym made) ∙ h) in
    let high = found.1 in
    (omega (arith, high), found.2)

pub holding : (t : Packet) (enables : Enables) (i : ℕ) → t.kind ≡ MWr → enables_in t.body ≡ Some enables
    → (i < length t.payload) × (is_enabled enables (length t.payload) i ≡ true) → covers (runs t) i ≡ true
holding t enables i kind some h =
    let made : runs t ≡ runs_from (is_enabled enables (length t.payload)) 0 t.payload = rw (kind, some) refl in
    let high = h.0 in
    ap (λ made. covers made i) made ∙ enabled_held i (is_enabled enables (length t.payload)) 0 t.payload (omega arith, omega (arith, high), h.1)

-- ---- each run is what stands there

module _ (payload : List ℕ) where
  abbrev Stands : (ℕ × List ℕ) → Type 0
  Stands run = take (length run.1) (drop run.0 payload) ≡ run.1

  joined_stands : (i byte : ℕ) (bytes : List ℕ) (runs : List (ℕ × List ℕ)) → drop i payload ≡ byte ∷ bytes → drop (i + 1) payload ≡ bytes → AllByRecursion Stands runs → AllByRecursion Stands (joined i byte runs)
  joined_stands i byte bytes [] here next h = (ap (take 1) here, tt)
  joined_stands i byte bytes (run ∷ runs) here next h =
      chosen (AllByRecursion Stands) (eqb run.0 (i + 1)) ((i, byte ∷ run.1) ∷ runs) ((i, byte ∷ []) ∷ run ∷ runs)
      (λ e.
      let part : take (length run.1) bytes ≡ run.1 = ap (take (length run.1)) (sym next ∙ ap (λ n. drop n payload) (sym (eqb-true run.0 (i + 1) e))) ∙ h.0 in
      (ap (take (suc (length run.1))) here ∙ ap (λ rest. byte ∷ rest) part, h.1))
      (λ e. (ap (take 1) here, h))

  tail_of : (byte other : ℕ) (bytes rest : List ℕ) → byte ∷ bytes ≡ other ∷ rest → bytes ≡ rest
  tail_of byte other bytes rest e = ap tail e
    where
      tail : List ℕ → List ℕ
      tail [] = []
      tail (x ∷ xs) = xs

  runs_stand : (enabled : ℕ → Bool) (i : ℕ) (bytes : List ℕ) → length payload ≡ i + length bytes → drop i payload ≡ bytes → AllByRecursion Stands (runs_from enabled i bytes)
  runs_stand enabled i [] whole here = tt
  runs_stand enabled i (byte ∷ bytes) whole here =
      let next : drop (i + 1) payload ≡ bytes = tail_of _ _ _ _ (sym (drop_more payload i 0 (omega (arith, whole))) ∙ here) in
      let rest = runs_stand enabled (i + 1) bytes (omega (arith, whole)) next in
      chosen (AllByRecursion Stands) (enabled i) (joined i byte (runs_from enabled (i + 1) bytes)) (runs_from enabled (i + 1) bytes)
      (λ _. joined_stands i byte bytes (runs_from enabled (i + 1) bytes) here next rest) (λ _. rest)

  of_payload : (runs : List (ℕ × List ℕ)) → AllByRecursion Stands runs → AllByRecursion (λ run. slice_range payload run.0 (run.0 + length run.1) ≡ run.1) runs
  of_payload [] h = tt
  of_payload (run ∷ runs) h =
      let size : run.0 + length run.1 - run.0 ≡ length run.1 = omega arith in
      (ap (λ n. take n (drop run.0 payload)) size ∙ h.0, of_payload runs h.1)

pub standing : (t : Packet) → AreOf t.payload (runs t)
standing t =
    All-from_recursion _ (runs t) (of_payload t.payload (runs t)
    (chosen (AllByRecursion (Stands t.payload)) (is_write t.kind) (runs_with (enables_in t.body) t.payload) [] (λ _. by_enables (enables_in t.body)) (λ _. tt)))
  where
    by_enables : (o : Option Enables) → AllByRecursion (Stands t.payload) (runs_with o t.payload)
    by_enables None = tt
    by_enables (Some enables) = runs_stand t.payload (is_enabled enables (length t.payload)) 0 t.payload (omega arith) refl
