-- The bytes of a row are those that stand at each place.
use Rattle.std.proofs.Common.{◌≡◌, ℕ, zero, suc, ◌+◌, ◌*◌, ◌<◌, ◌∷◌, List, length, get_or, drop, Option, Some, None, refl, arith, sym}
use Rattle.std.proofs.Math.Seq.{drop-cons, drop-length}
use Rattle.std.specs.Prelude.{option_and_then, option_map}
use Rattle.lspci.specs.Lines.{byte_at, bytes_from, row_bytes}

-- each place has its byte
pub bytes-some : (left number : ℕ) (text bytes : List ℕ) → number + left ≡ length bytes
    → ((k : ℕ) → k < length bytes → Some (get_or bytes k 0) ≡ byte_at text (3 * k)) → bytes_from text number left ≡ Some (drop number bytes)
unfolding bytes_from
bytes-some zero number text bytes e h = let n : number ≡ length bytes = omega arith in rw (n, drop-length bytes) refl
bytes-some (suc left) number text bytes e h =
    let below : number < length bytes = omega arith in
    let more : bytes_from text (number + 1) left ≡ Some (drop (number + 1) bytes) = bytes-some left (number + 1) text bytes (omega arith) h in
    let cons : drop number bytes ≡ get_or bytes number 0 ∷ drop (suc number) bytes = drop-cons bytes number 0 below in
    let s : number + 1 ≡ suc number = omega arith in
    rw (← h number below, more, cons, s) refl

-- a place has none
pub bytes-none : (left number k : ℕ) (text : List ℕ) → k < left → byte_at text (3 * (number + k)) ≡ None → bytes_from text number left ≡ None
unfolding bytes_from
bytes-none zero number k text below h = absurd (omega arith)
bytes-none (suc left) number zero text below h = let e : number + 0 ≡ number = omega arith in rw (rw e at h) refl
bytes-none (suc left) number (suc k) text below h =
    let e : number + suc k ≡ (number + 1) + k = omega arith in
    let more : bytes_from text (number + 1) left ≡ None = bytes-none left (number + 1) k text (omega arith) (rw e at h) in
    rw more (nothing (byte_at text (3 * number)))
  where
    nothing : (o : Option ℕ) → option_and_then (λ byte. option_map (λ (more : List ℕ). byte ∷ more) None) o ≡ None
    nothing None = refl
    nothing (Some byte) = refl

-- a text of a row's length is the row of these bytes
pub row_some : (text bytes : List ℕ) → length text ≡ 48 → length bytes ≡ 16
    → ((k : ℕ) → k < 16 → Some (get_or bytes k 0) ≡ byte_at text (3 * k)) → row_bytes text ≡ Some bytes
row_some text bytes long whole h =
    let each : (k : ℕ) → k < length bytes → Some (get_or bytes k 0) ≡ byte_at text (3 * k) = λ k below. h k (omega arith) in
    rw long (bytes-some 16 0 text bytes (omega arith) each)

-- a place of it has no byte
pub row_none : (text : List ℕ) (k : ℕ) → length text ≡ 48 → k < 16 → None ≡ byte_at text (3 * k) → row_bytes text ≡ None
row_none text k long below h =
    let e : 0 + k ≡ k = omega arith in
    rw long (bytes-none 16 0 k text below (rw e (sym h)))
