-- Remainders: how far one counter is from another.
use Rattle.std.proofs.Common.{◌≡◌, ℕ, ◌+◌, ◌-◌, ◌*◌, ◌/◌, ◌%◌, ◌<◌, ◌≤◌, sym, ap, ◌∙◌, arith}
use Rattle.std.proofs.Math.Nat.{add-mod-mod, mod-add-mod, add-mod_right, mul-add-mod_self_right, mod-add-div', mod-eq_of_lt}
use Rattle.credit.specs.Counter.{distance}

mod_small : (n d : ℕ) → d < n → d % n ≡ d
mod_small n d h = mod-eq_of_lt h

-- d further on from s it is d
pub distance-further : (n s d : ℕ) → d < n → distance n (s % n) ((s + d) % n) ≡ d
distance-further n s d h =
    let first : distance n (s % n) ((s + d) % n) ≡ ((s + d) + (n - s % n)) % n = mod-add-mod (s + d) n (n - s % n) in
    let whole = mod-add-div' s n in
    let low : s % n < n = omega arith in
    let sum : (s + d) + (n - s % n) ≡ (s / n) * n + (d + n) = omega arith in
    first ∙ (ap (λ m. m % n) sum ∙ (mul-add-mod_self_right (s / n) n (d + n) ∙ (add-mod_right d n ∙ mod_small n d h)))

-- of two totals whose counters these are
pub distance-totals : (n s l : ℕ) → s ≤ l → l < s + n → distance n (s % n) (l % n) ≡ l - s
distance-totals n s l low high =
    let d : l - s < n = omega arith in
    let sum : s + (l - s) ≡ l = omega arith in
    ap (λ m. distance n (s % n) (m % n)) (sym sum) ∙ distance-further n s (l - s) d

-- the distance added leads to the other counter
distance-back : (n s l : ℕ) → s < n → (s + distance n s l) % n ≡ l % n
distance-back n s l h =
    let sum : s + (l + (n - s)) ≡ l + n = omega arith in
    add-mod-mod s (l + (n - s)) n ∙ (ap (λ m. m % n) sum ∙ add-mod_right l n)

-- after c credits of those that were left
pub distance-spent : (n s l c : ℕ) → s < n → c ≤ distance n s l → distance n ((s + c) % n) l ≡ distance n s l - c
distance-spent n s l c h room =
    let d : ℕ = distance n s l in
    let below : d < n = omega arith in
    let less : d - c < n = omega arith in
    let sum : s + d ≡ (s + c) + (d - c) = omega arith in
    sym (mod-add-mod l n (n - (s + c) % n))
    ∙ (ap (λ m. distance n ((s + c) % n) m) (sym (distance-back n s l h) ∙ ap (λ m. m % n) sum) ∙ distance-further n (s + c) (d - c) less)

-- from no credits on
pub distance-zero : (n l : ℕ) → l < n → distance n 0 l ≡ l
distance-zero n l h =
    let all : l + (n - 0) ≡ l + n = omega arith in
    ap (λ m. m % n) all ∙ (add-mod_right l n ∙ mod_small n l h)

-- where d credits are left, and c are required
pub distance-gate : (n s d c : ℕ) → c + c < n → d + d < n → (c ≤ d → distance n ((s + c) % n) ((s + d) % n) ≡ d - c) × (d < c → distance n ((s + c) % n) ((s + d) % n) ≡ n - (c - d))
distance-gate n s d c small low = (
  (λ room. let less : d - c < n = omega arith in let sum : s + d ≡ (s + c) + (d - c) = omega arith in
      ap (λ m. distance n ((s + c) % n) (m % n)) sum ∙ distance-further n (s + c) (d - c) less),
  (λ short. let less : n - (c - d) < n = omega arith in let sum : (s + d) + n ≡ (s + c) + (n - (c - d)) = omega arith in
      ap (λ m. distance n ((s + c) % n) m) (sym (add-mod_right (s + d) n) ∙ ap (λ m. m % n) sum) ∙ distance-further n (s + c) (n - (c - d)) less),
)

-- the limit goes on by c credits, and so does the distance while it stays below the size
pub distance-freed : (n s l c : ℕ) → s < n → distance n s l + c < n → distance n s ((l + c) % n) ≡ distance n s l + c
distance-freed n s l c h small =
    let d : ℕ = distance n s l in
    let sum : (s + d) + c ≡ s + (d + c) = omega arith in
    let on : (l + c) % n ≡ (s + (d + c)) % n =
    sym (mod-add-mod l n c) ∙ (ap (λ m. (m + c) % n) (sym (distance-back n s l h)) ∙ (mod-add-mod (s + d) n c ∙ ap (λ m. m % n) sum)) in
    ap (λ m. distance n m ((l + c) % n)) (sym (mod_small n s h)) ∙ (ap (λ m. distance n (s % n) m) on ∙ distance-further n s (d + c) small)

-- the limit goes back by c of the credits that were left, and so does the distance
pub distance-reclaimed : (n s l c : ℕ) → s < n → c ≤ distance n s l → distance n s (distance n (c % n) l) ≡ distance n s l - c
distance-reclaimed n s l c h room =
    let d : ℕ = distance n s l in
    let below : d < n = omega arith in
    let small : c < n = omega arith in
    let less : d - c < n = omega arith in
    let sum : (s + d) + (n - c) ≡ (s + (d - c)) + n = omega arith in
    let behind : distance n c l ≡ (s + (d - c)) % n =
    sym (mod-add-mod l n (n - c)) ∙ (ap (λ m. (m + (n - c)) % n) (sym (distance-back n s l h)) ∙ (mod-add-mod (s + d) n (n - c) ∙ (ap (λ m. m % n) sum ∙ add-mod_right (s + (d - c)) n))) in
    ap (λ m. distance n s (distance n m l)) (mod_small n c small)
    ∙ (ap (λ m. distance n s m) behind ∙ (ap (λ m. distance n m ((s + (d - c)) % n)) (sym (mod_small n s h)) ∙ distance-further n s (d - c) less))

-- what leads on to a total is that total
pub distance-uncounted : (n t c : ℕ) → 0 < n → distance n (c % n) ((t + c) % n) ≡ t % n
distance-uncounted n t c h =
    let below : t % n < n = omega arith in
    let sum : t + c ≡ c + t = omega arith in
    ap (λ m. distance n (c % n) m) (ap (λ m. m % n) sum ∙ sym (add-mod-mod c t n)) ∙ distance-further n c (t % n) below

-- equal distances lead to the same counter
pub distance-same : (n s l m : ℕ) → s < n → l < n → m < n → distance n s l ≡ distance n s m → l ≡ m
distance-same n s l m low left right same =
    sym (mod_small n l left) ∙ (sym (distance-back n s l low) ∙ (ap (λ d. (s + d) % n) same ∙ (distance-back n s m low ∙ mod_small n m right)))
