-- What lists of packets cost of each kind.
use Rattle.std.proofs.Common.{◌≡◌, ℕ, ◌+◌, Bool, true, false, cond, List, [], ◌∷◌, ◌++◌, length, Option, Some, None, take, drop, refl, sym, ap, ◌∙◌, arith}
use Rattle.std.specs.Prelude.{option_map}
use Rattle.std.specs.List.{insert}
use Rattle.std.proofs.lemmas.List.{map-append, take-append-drop}
use Rattle.std.proofs.lemmas.List.Elements.{All-head, All-tail}
use Rattle.frame_log.specs.Descriptor.{Descriptor}
use Rattle.ordering.specs.Ordering.{Class, same_class}
use Rattle.ordering.proofs.Leaving.{taken_leaves}
use Rattle.credit.specs.Kinds.{Kind, cost_of, where_same}
use Rattle.port_queue.specs.Queue.{Queue, count_of, restored_at}
use Rattle.lane.specs.Lanes.{class_of, eligible}
use Rattle.lane.specs.Queues.{IsSorted, frames_of, frames_restored}
use Rattle.link.specs.Channels.{count_in, total}

pub total-append : (k : Kind) (xs ys : List Descriptor) → total k (xs ++ ys) ≡ total k xs + total k ys
total-append k [] ys = omega arith
total-append k (x ∷ xs) ys = let later = total-append k xs ys in omega arith

-- the packet that is taken and what is left cost as much
pub total-taken : (k : Kind) (class : Class) (xs rest : List Descriptor) (f : Descriptor) → eligible class xs ≡ Some (f, rest) → total k xs ≡ cost_of f.head.cost k + total k rest
total-taken k class xs rest f e =
    let leaves = taken_leaves class_of class xs f rest e in
    let whole = ap (total k) leaves.queue in
    let left = ap (total k) leaves.is_left in
    let parts = total-append k leaves.older (f ∷ leaves.newer) in
    let others = total-append k leaves.older leaves.newer in
    omega arith

-- a packet more on the wire
pub total-sent : (k : Kind) (wire ingress : List Descriptor) (f : Descriptor) → total k ((wire ++ f ∷ []) ++ ingress) ≡ cost_of f.head.cost k + total k (wire ++ ingress)
total-sent k wire ingress f =
    let all = total-append k (wire ++ f ∷ []) ingress in
    let sent = total-append k wire (f ∷ []) in
    let before = total-append k wire ingress in
    omega arith

-- the oldest of the wire waits behind all that wait
pub total-delivered : (k : Kind) (wire ingress : List Descriptor) (f : Descriptor) → total k (wire ++ (ingress ++ f ∷ [])) ≡ total k ((f ∷ wire) ++ ingress)
total-delivered k wire ingress f =
    let all = total-append k wire (ingress ++ f ∷ []) in
    let delivered = total-append k ingress (f ∷ []) in
    let before = total-append k wire ingress in
    omega arith

frames_append : (vs ws : List (Class × Descriptor)) → frames_of (vs ++ ws) ≡ frames_of vs ++ frames_of ws
frames_append vs ws = map-append (λ (w : Class × Descriptor). w.1) vs ws

pub total-inserted : (k : Kind) (ws : List (Class × Descriptor)) (i : ℕ) (f : Descriptor) → total k (frames_of (insert ws i (class_of f, f))) ≡ cost_of f.head.cost k + total k (frames_of ws)
total-inserted k ws i f =
    let all = ap (total k) (frames_append (take i ws) ((class_of f, f) ∷ drop i ws)) in
    let parts = total-append k (frames_of (take i ws)) (f ∷ frames_of (drop i ws)) in
    let old = ap (λ (vs : List (Class × Descriptor)). total k (frames_of vs)) (take-append-drop i ws) in
    let split = ap (total k) (frames_append (take i ws) (drop i ws)) in
    let others = total-append k (frames_of (take i ws)) (frames_of (drop i ws)) in
    omega arith

-- a packet that is put back costs what it costs
pub total-restored : (k : Kind) (q : Queue Descriptor) (f : Descriptor) (xs : List Descriptor) → frames_restored q f ≡ Some xs → total k xs ≡ cost_of f.head.cost k + total k (frames_of q.waiting)
total-restored k q f xs e = go q.gap e
  where
    at : (same : Bool) (i : ℕ) → option_map frames_of (cond same (Some (insert q.waiting i (class_of f, f))) None) ≡ Some xs → total k xs ≡ cost_of f.head.cost k + total k (frames_of q.waiting)
    at true i h = let same : frames_of (insert q.waiting i (class_of f, f)) ≡ xs = cc in ap (total k) (sym same) ∙ total-inserted k q.waiting i f
    at false i h = cc

    go : (gap : Option (Class × ℕ)) → option_map frames_of (restored_at gap (class_of f) f q.waiting) ≡ Some xs → total k xs ≡ cost_of f.head.cost k + total k (frames_of q.waiting)
    go None h = cc
    go (Some gap) h = at (same_class gap.0 (class_of f)) gap.1 h

counts_one : (c d : Class) (n : ℕ) → cond (same_class c d) (1 + n) n ≡ where_same d c 1 + n
counts_one Class.Posted Class.Posted n = refl
counts_one Class.NonPosted Class.NonPosted n = refl
counts_one Class.Completion Class.Completion n = refl
counts_one Class.Posted Class.NonPosted n = omega arith
counts_one Class.Posted Class.Completion n = omega arith
counts_one Class.NonPosted Class.Posted n = omega arith
counts_one Class.NonPosted Class.Completion n = omega arith
counts_one Class.Completion Class.Posted n = omega arith
counts_one Class.Completion Class.NonPosted n = omega arith

-- packets of a class are as many as their header credits
pub count-total : (class : Class) (ws : List (Class × Descriptor)) → IsSorted ws → count_of class ws ≡ total (Kind.Headers class) (frames_of ws)
count-total class [] all = refl
count-total class (w ∷ ws) all =
    let IsIn : Class × Descriptor → Type 0 = λ v. v.0 ≡ class_of v.1 in
    let own = All-head IsIn w ws all in
    ap (λ (d : Class). cond (same_class class d) (1 + count_of class ws) (count_of class ws)) own
    ∙ (counts_one class (class_of w.1) (count_of class ws) ∙ ap (λ n. where_same (class_of w.1) class 1 + n) (count-total class ws (All-tail IsIn w ws all)))

-- the same of packets alone
pub count_in-total : (class : Class) (fs : List Descriptor) → count_in class fs ≡ total (Kind.Headers class) fs
count_in-total class [] = refl
count_in-total class (f ∷ fs) = counts_one class (class_of f) (count_in class fs) ∙ ap (λ n. where_same (class_of f) class 1 + n) (count_in-total class fs)

-- each packet is of one class
one_class : (d : Class) → where_same d Class.Posted 1 + where_same d Class.NonPosted 1 + where_same d Class.Completion 1 ≡ 1
one_class Class.Posted = refl
one_class Class.NonPosted = refl
one_class Class.Completion = refl

pub length-total : (xs : List Descriptor) → length xs ≡ total (Kind.Headers Class.Posted) xs + total (Kind.Headers Class.NonPosted) xs + total (Kind.Headers Class.Completion) xs
length-total [] = refl
length-total (x ∷ xs) =
    let later = length-total xs in
    let one = one_class (class_of x) in
    omega arith
