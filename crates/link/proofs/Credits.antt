-- Credits of the six kinds.
use Rattle.std.proofs.Common.{◌≡◌, ℕ, ◌-◌, ◌≤◌, ◌==◌, Bool, true, false, List, [], ◌∷◌, refl, ap, ◌∙◌, arith}
use Rattle.std.specs.Prelude.{◌&&◌, nat_le}
use Rattle.std.proofs.lemmas.Bool.{leb-true, le-leb, eqb-true, eq-eqb}
use Rattle.frame_log.specs.Descriptor.{Descriptor}
use Rattle.credit.specs.Counter.{distance}
use Rattle.credit.specs.Kinds.{Class, Cost, Kind, size_of, amount_of, cost_of}
use Rattle.credit.specs.Limits.{credits_at, at, with_credits, left_counters}
use Rattle.credit.specs.declared.counters.Credits.{Credits}
use Rattle.credit.specs.declared.counters.Counters.{Counters}
use Rattle.link.specs.Channels.{less, spent, unspent, same_credits, same_counters, total}

pub at-left : (sent limit : Counters) (k : Kind) → at (left_counters sent limit) k ≡ distance (size_of k) (at sent k) (at limit k)
at-left sent limit (Kind.Headers Class.Posted) = refl
at-left sent limit (Kind.Headers Class.NonPosted) = refl
at-left sent limit (Kind.Headers Class.Completion) = refl
at-left sent limit (Kind.Data Class.Posted) = refl
at-left sent limit (Kind.Data Class.NonPosted) = refl
at-left sent limit (Kind.Data Class.Completion) = refl

same_of : (a b : Credits) → a.headers ≡ b.headers → a.payload ≡ b.payload → a ≡ b
same_of a b headers payload = ap (λ (n : ℕ). record a { headers = n }) headers ∙ ap (λ (n : ℕ). record b { payload = n }) payload

-- counters are the same where they agree at each kind
pub same-at : (a b : Counters) → ((k : Kind) → at a k ≡ at b k) → a ≡ b
same-at a b same =
    let posted : a.posted ≡ b.posted = same_of a.posted b.posted (same (Kind.Headers Class.Posted)) (same (Kind.Data Class.Posted)) in
    let non_posted : a.non_posted ≡ b.non_posted = same_of a.non_posted b.non_posted (same (Kind.Headers Class.NonPosted)) (same (Kind.Data Class.NonPosted)) in
    let completion : a.completion ≡ b.completion = same_of a.completion b.completion (same (Kind.Headers Class.Completion)) (same (Kind.Data Class.Completion)) in
    ap (λ (x : Credits). record { posted = x; non_posted = a.non_posted; completion = a.completion }) posted
    ∙ (ap (λ (x : Credits). record { posted = b.posted; non_posted = x; completion = a.completion }) non_posted
    ∙ ap (λ (x : Credits). record { posted = b.posted; non_posted = b.non_posted; completion = x }) completion)

at-lessened : (class : Class) (n : ℕ) (c : Counters) (k : Kind) → at (with_credits c class (less (credits_at c class) n)) k ≡ at c k - amount_of class n k
at-lessened Class.Posted n c (Kind.Headers Class.Posted) = refl
at-lessened Class.Posted n c (Kind.Headers Class.NonPosted) = omega arith
at-lessened Class.Posted n c (Kind.Headers Class.Completion) = omega arith
at-lessened Class.Posted n c (Kind.Data Class.Posted) = refl
at-lessened Class.Posted n c (Kind.Data Class.NonPosted) = omega arith
at-lessened Class.Posted n c (Kind.Data Class.Completion) = omega arith
at-lessened Class.NonPosted n c (Kind.Headers Class.Posted) = omega arith
at-lessened Class.NonPosted n c (Kind.Headers Class.NonPosted) = refl
at-lessened Class.NonPosted n c (Kind.Headers Class.Completion) = omega arith
at-lessened Class.NonPosted n c (Kind.Data Class.Posted) = omega arith
at-lessened Class.NonPosted n c (Kind.Data Class.NonPosted) = refl
at-lessened Class.NonPosted n c (Kind.Data Class.Completion) = omega arith
at-lessened Class.Completion n c (Kind.Headers Class.Posted) = omega arith
at-lessened Class.Completion n c (Kind.Headers Class.NonPosted) = omega arith
at-lessened Class.Completion n c (Kind.Headers Class.Completion) = refl
at-lessened Class.Completion n c (Kind.Data Class.Posted) = omega arith
at-lessened Class.Completion n c (Kind.Data Class.NonPosted) = omega arith
at-lessened Class.Completion n c (Kind.Data Class.Completion) = refl

pub at-spent : (c : Counters) (cost : Cost) (k : Kind) → at (spent c cost) k ≡ at c k - cost_of cost k
at-spent c cost k = at-lessened cost.class cost.data c k

pub at-unspent : (start : Counters) (fs : List Descriptor) (k : Kind) → at (unspent start fs) k ≡ at start k - total k fs
at-unspent start [] k = omega arith
at-unspent start (f ∷ fs) k =
    let here = at-spent (unspent start fs) f.head.cost k in
    let later = at-unspent start fs k in
    omega arith

-- ---- tests

pub both-true : (a b c d : ℕ) → a ≤ b → c ≤ d → (nat_le a b && nat_le c d) ≡ true
both-true a b c d first second = ap (λ x. x && nat_le c d) (le-leb a b first) ∙ le-leb c d second

and_first : (a b : Bool) → (a && b) ≡ true → a ≡ true
and_first true b h = refl
and_first false b h = h

and_second : (a b : Bool) → (a && b) ≡ true → b ≡ true
and_second true b h = h
and_second false b h = cc

pub true-both : (a b c d : ℕ) → (nat_le a b && nat_le c d) ≡ true → (a ≤ b) × (c ≤ d)
true-both a b c d h = (leb-true a b (and_first (nat_le a b) (nat_le c d) h), leb-true c d (and_second (nat_le a b) (nat_le c d) h))

same_true : (a b : ℕ) → (a == b) ≡ true → a ≡ b
same_true a b h = eqb-true a b h

credits_true : (a b : Credits) → same_credits a b ≡ true → (a.headers ≡ b.headers) × (a.payload ≡ b.payload)
credits_true a b h = (
  same_true a.headers b.headers (and_first (a.headers == b.headers) (a.payload == b.payload) h),
  same_true a.payload b.payload (and_second (a.headers == b.headers) (a.payload == b.payload) h),
)

-- counters that a test finds to be the same
pub true-same : (a b : Counters) → same_counters a b ≡ true → (k : Kind) → at a k ≡ at b k
true-same a b h k =
    let rest = and_second (same_credits a.posted b.posted) (same_credits a.non_posted b.non_posted && same_credits a.completion b.completion) h in
    let posted = credits_true a.posted b.posted (and_first (same_credits a.posted b.posted) (same_credits a.non_posted b.non_posted && same_credits a.completion b.completion) h) in
    let non_posted = credits_true a.non_posted b.non_posted (and_first (same_credits a.non_posted b.non_posted) (same_credits a.completion b.completion) rest) in
    let completion = credits_true a.completion b.completion (and_second (same_credits a.non_posted b.non_posted) (same_credits a.completion b.completion) rest) in
    by posted non_posted completion k
  where
    by : ((a.posted.headers ≡ b.posted.headers) × (a.posted.payload ≡ b.posted.payload)) → ((a.non_posted.headers ≡ b.non_posted.headers) × (a.non_posted.payload ≡ b.non_posted.payload)) → ((a.completion.headers ≡ b.completion.headers) × (a.completion.payload ≡ b.completion.payload)) → (k : Kind) → at a k ≡ at b k
    by p n c (Kind.Headers Class.Posted) = p.0
    by p n c (Kind.Headers Class.NonPosted) = n.0
    by p n c (Kind.Headers Class.Completion) = c.0
    by p n c (Kind.Data Class.Posted) = p.1
    by p n c (Kind.Data Class.NonPosted) = n.1
    by p n c (Kind.Data Class.Completion) = c.1

credits_same : (a : Credits) → same_credits a a ≡ true
credits_same a = ap (λ x. x && (a.payload == a.payload)) (eq-eqb a.headers a.headers refl) ∙ eq-eqb a.payload a.payload refl

pub same-self : (a : Counters) → same_counters a a ≡ true
same-self a = ap (λ x. x && (same_credits a.non_posted a.non_posted && same_credits a.completion a.completion)) (credits_same a.posted)
    ∙ (ap (λ x. x && same_credits a.completion a.completion) (credits_same a.non_posted) ∙ credits_same a.completion)
