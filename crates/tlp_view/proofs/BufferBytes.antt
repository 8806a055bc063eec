-- The bytes of a completion's buffer: a header, and a payload in front of what is unused.
use Rattle.std.proofs.Common.{◌≡◌, ℕ, ◌+◌, ◌*◌, ◌/◌, ◌≤◌, List, [], ◌++◌, length, take, drop, replicate, sym, ap, ◌∙◌, arith, rules, length-take-le, length-drop}
use Rattle.std.proofs.lemmas.Bool.{cases_lt}
use Rattle.std.proofs.lemmas.List.{same_lists, places, take-replicate, length-replicate}
use Rattle.std.proofs.Math.Seq.{take-add}
use Rattle.std.specs.List.{refill}
use Rattle.tlp_view.specs.declared.completion.CompletionHead.{CompletionHead}
use Rattle.tlp_view.specs.Spelling.{header}
use Rattle.tlp_view.specs.Completions.{completion, completion_of, completion_bytes}
use Rattle.tlp_view.specs.Buffer.{IsBuffer}
use Rattle.tlp_view.specs.Lent.{with_part}

-- the bytes up to the payload's end are the packet's
pub buffer_bytes : (head : CompletionHead) (len : ℕ) (bytes : List ℕ) → IsBuffer head len bytes → take (12 + len) bytes ≡ completion_bytes (completion head (len / 4) (take len (drop 12 bytes)))
buffer_bytes head len bytes is = take-add 12 len bytes ∙ ap (λ front. front ++ take len (drop 12 bytes)) is.front

-- the payload after a part was written
pub with_part-payload : (len : ℕ) (xs ws : List ℕ) → 12 + len ≤ length xs
    → take len (drop 12 (with_part xs ws)) ≡ refill (length (take len (drop 12 xs))) (take len (drop 12 xs)) ws
with_part-payload len xs ws le =
    let rest = length-drop 12 xs in
    let front = length-take-le 12 xs (omega arith) in
    let cut = length-take-le len (drop 12 xs) (omega arith) in
    same_lists _ _ (search (rules, places)) (λ k d h. grind (arith, places, cases_lt k (length ws)))

-- a buffer as it is made
pub made_view : (head : CompletionHead) (count : ℕ) (xs : List ℕ) → count ≤ 64 → xs ≡ header (completion head count []) [] ++ replicate 256 0
    → completion head (4 * count / 4) (take (4 * count) (drop 12 xs)) ≡ completion_of head (replicate (4 * count) 0)
made_view head count xs small made =
    let part : take (4 * count) (drop 12 xs) ≡ replicate (4 * count) 0 = rw made (take-replicate (4 * count) 256 0 (omega arith)) in
    let long : 4 * count / 4 ≡ length (replicate (4 * count) 0) / 4 = ap (λ n. n / 4) (sym (length-replicate (4 * count) 0)) in
    ap (completion head (4 * count / 4)) part ∙ ap (λ n. completion head n (replicate (4 * count) 0)) long
