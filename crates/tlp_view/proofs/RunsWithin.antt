-- Each run lies within the payload.
use Rattle.std.proofs.Common.{◌≡◌, ℕ, suc, ◌+◌, ◌≤◌, Bool, true, false, cond, eqb, List, [], ◌∷◌, length, Option, Some, None, refl, subst, arith}
use Rattle.std.specs.List.{All, AllByRecursion}
use Rattle.std.proofs.lemmas.Bool.{eqb-true}
use Rattle.std.proofs.lemmas.List.Elements.{All-from_recursion}
use Rattle.tlp_view.specs.declared.enables.Enables.{Enables}
use Rattle.tlp_view.specs.Packet.{Packet, enables_in}
use Rattle.tlp_view.specs.Runs.{is_enabled, is_write, joined, runs_from, runs_with, runs}

abbrev EndsBy : ℕ → (ℕ × List ℕ) → Type 0
EndsBy end run = run.0 + length run.1 ≤ end

chosen : (b : Bool) (end : ℕ) (xs ys : List (ℕ × List ℕ)) → (b ≡ true → AllByRecursion (EndsBy end) xs) → (b ≡ false → AllByRecursion (EndsBy end) ys) → AllByRecursion (EndsBy end) (cond b xs ys)
chosen true end xs ys f g = f refl
chosen false end xs ys f g = g refl

joined-within : (end i byte : ℕ) (others : List (ℕ × List ℕ)) → i + 1 ≤ end → AllByRecursion (EndsBy end) others → AllByRecursion (EndsBy end) (joined i byte others)
joined-within end i byte [] l h = (omega (arith, l), tt)
joined-within end i byte (run ∷ others) l h =
    chosen (eqb run.0 (i + 1)) end ((i, byte ∷ run.1) ∷ others) ((i, byte ∷ []) ∷ run ∷ others)
    (λ e. (let next = eqb-true run.0 (i + 1) e in let first = h.0 in omega (arith, next, first), h.1)) (λ e. (omega (arith, l), h))

runs_from-within : (p : ℕ → Bool) (i : ℕ) (bytes : List ℕ) → AllByRecursion (EndsBy (i + length bytes)) (runs_from p i bytes)
runs_from-within p i [] = tt
runs_from-within p i (byte ∷ bytes) =
    let e : i + 1 + length bytes ≡ i + suc (length bytes) = omega arith in
    let later = subst (λ end. AllByRecursion (EndsBy end) (runs_from p (i + 1) bytes)) e (runs_from-within p (i + 1) bytes) in
    chosen (p i) (i + suc (length bytes)) (joined i byte (runs_from p (i + 1) bytes)) (runs_from p (i + 1) bytes)
    (λ _. joined-within (i + suc (length bytes)) i byte (runs_from p (i + 1) bytes) (omega arith) later) (λ _. later)

runs_with-within : (o : Option Enables) (payload : List ℕ) → AllByRecursion (EndsBy (length payload)) (runs_with o payload)
runs_with-within None payload = tt
runs_with-within (Some enables) payload =
    let e : 0 + length payload ≡ length payload = omega arith in
    subst (λ end. AllByRecursion (EndsBy end) (runs_from (is_enabled enables (length payload)) 0 payload)) e (runs_from-within (is_enabled enables (length payload)) 0 payload)

-- the same run by run
pub runs-within_each : (t : Packet) → AllByRecursion (λ run. run.0 + length run.1 ≤ length t.payload) (runs t)
runs-within_each t = chosen (is_write t.kind) (length t.payload) (runs_with (enables_in t.body) t.payload) [] (λ _. runs_with-within (enables_in t.body) t.payload) (λ _. tt)

pub runs-within : (t : Packet) → All (λ run. run.0 + length run.1 ≤ length t.payload) (runs t)
runs-within t = All-from_recursion (EndsBy (length t.payload)) (runs t) (runs-within_each t)
