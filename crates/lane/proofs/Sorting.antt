-- Queues in which each packet waits under its own class.
use Rattle.std.proofs.Common.{◌≡◌, ℕ, Bool, true, false, List, [], ◌∷◌, Option, Some, None, cond, refl, sym, subst, ap, ◌∙◌}
use Rattle.std.specs.Prelude.{is_some, option_map}
use Rattle.std.specs.Option.{MatchOption, IfSome}
use Rattle.std.specs.List.{insert}
use Rattle.std.proofs.lemmas.List.Elements.{All-append, All-cons, All-head, All-tail, All-take, All-drop}
use Rattle.frame_log.specs.Descriptor.{Descriptor}
use Rattle.ordering.specs.Ordering.{same_class, passes, behind, at_item}
use Rattle.port_queue.specs.Queue.{Queue, taken_of, head_of, restored, restored_at}
use Rattle.lane.specs.Lanes.{Class, class_of, eligible}
use Rattle.lane.specs.Queues.{IsSorted, frames_of, frames_restored}

abbrev Item : Type 0
Item = Class × Descriptor

abbrev IsIn : Class × Descriptor → Type 0
IsIn w = w.0 ≡ class_of w.1

-- what is taken of a queue, as packets alone
abbrev pub of_taken : (Class × Descriptor) × List (Class × Descriptor) → Descriptor × List Descriptor
of_taken taken = (taken.0.1, frames_of taken.1)

behind_taken : (w : Class × Descriptor) (found : Option ((Class × Descriptor) × List (Class × Descriptor))) → behind w.1 (option_map of_taken found) ≡ option_map of_taken (behind w found)
behind_taken w None = refl
behind_taken w (Some r) = refl

at_taken : (same over : Bool) (w : Class × Descriptor) (ws : List (Class × Descriptor)) (found : Option ((Class × Descriptor) × List (Class × Descriptor)))
    → at_item same over w.1 (frames_of ws) (option_map of_taken found) ≡ option_map of_taken (at_item same over w ws found)
at_taken true over w ws found = refl
at_taken false true w ws found = behind_taken w found
at_taken false false w ws found = refl

pub eligible_of : (c : Class) (ws : List (Class × Descriptor)) → IsSorted ws → eligible c (frames_of ws) ≡ option_map of_taken (taken_of c ws)
eligible_of c [] all = refl
eligible_of c (w ∷ ws) all =
    ap (λ (d : Class). at_item (same_class c d) (passes c d) w.1 (frames_of ws) (eligible c (frames_of ws))) (sym (All-head IsIn w ws all))
    ∙ (ap (at_item (same_class c w.0) (passes c w.0) w.1 (frames_of ws)) (eligible_of c ws (All-tail IsIn w ws all))
    ∙ at_taken (same_class c w.0) (passes c w.0) w ws (taken_of c ws))

heads : (found : Option ((Class × Descriptor) × List (Class × Descriptor))) → option_map (λ (f : Descriptor). f.head) (option_map (λ (r : (Class × Descriptor) × List (Class × Descriptor)). r.0.1) found) ≡ option_map (λ (t : Descriptor × List Descriptor). t.0.head) (option_map of_taken found)
heads None = refl
heads (Some r) = refl

-- the head that a queue lends is that of the eligible packet
pub head_found : (c : Class) (ws : List (Class × Descriptor)) (lent : Option Descriptor) → IsSorted ws → lent ≡ head_of c ws → option_map (λ (f : Descriptor). f.head) lent ≡ option_map (λ (t : Descriptor × List Descriptor). t.0.head) (eligible c (frames_of ws))
head_found c ws lent all e = ap (option_map (λ (f : Descriptor). f.head)) e
    ∙ (heads (taken_of c ws) ∙ ap (option_map (λ (t : Descriptor × List Descriptor). t.0.head)) (sym (eligible_of c ws all)))

homes : (found : Option ((Class × Descriptor) × List (Class × Descriptor))) → option_map (λ (f : Descriptor). f.domain) (option_map (λ (r : (Class × Descriptor) × List (Class × Descriptor)). r.0.1) found) ≡ option_map (λ (t : Descriptor × List Descriptor). t.0.domain) (option_map of_taken found)
homes None = refl
homes (Some r) = refl

-- and so is its home
pub home_found : (c : Class) (ws : List (Class × Descriptor)) (lent : Option Descriptor) → IsSorted ws → lent ≡ head_of c ws → option_map (λ (f : Descriptor). f.domain) lent ≡ option_map (λ (t : Descriptor × List Descriptor). t.0.domain) (eligible c (frames_of ws))
home_found c ws lent all e = ap (option_map (λ (f : Descriptor). f.domain)) e
    ∙ (homes (taken_of c ws) ∙ ap (option_map (λ (t : Descriptor × List Descriptor). t.0.domain)) (sym (eligible_of c ws all)))

both : (found : Option ((Class × Descriptor) × List (Class × Descriptor))) → is_some (option_map (λ (r : (Class × Descriptor) × List (Class × Descriptor)). r.0.1) found) ≡ is_some (option_map of_taken found)
both None = refl
both (Some r) = refl

-- and whether there is one
pub eligible_classes_found : (c : Class) (ws : List (Class × Descriptor)) → IsSorted ws → is_some (head_of c ws) ≡ is_some (eligible c (frames_of ws))
eligible_classes_found c ws all = both (taken_of c ws) ∙ ap (is_some {T = Descriptor × List Descriptor}) (sym (eligible_of c ws all))

pub none_taken : (c : Class) (ws : List (Class × Descriptor)) → IsSorted ws → taken_of c ws ≡ None → eligible c (frames_of ws) ≡ None
none_taken c ws all e = eligible_of c ws all ∙ ap (option_map of_taken) e

pub some_taken : (c : Class) (ws rest : List (Class × Descriptor)) (w : Class × Descriptor) → IsSorted ws → taken_of c ws ≡ Some (w, rest) → eligible c (frames_of ws) ≡ Some (w.1, frames_of rest)
some_taken c ws rest w all e = eligible_of c ws all ∙ ap (option_map of_taken) e

abbrev BothSorted : (Class × Descriptor) → List (Class × Descriptor) → Type 0
BothSorted w rest = (w.0 ≡ class_of w.1) × IsSorted rest

at_first : (c : Class) (v : Class × Descriptor) (vs rest : List (Class × Descriptor)) (w : Class × Descriptor) (same over : Bool) (found : Option ((Class × Descriptor) × List (Class × Descriptor)))
    → IsSorted (v ∷ vs) → ((x : Class × Descriptor) (left : List (Class × Descriptor)) → found ≡ Some (x, left) → BothSorted x left) → at_item same over v vs found ≡ Some (w, rest) → BothSorted w rest
at_first c v vs rest w true over found all later g =
    let same : ◌≡◌ {A = Item × List Item} (v, vs) (w, rest) = cc in
    subst (λ (p : Item × List Item). BothSorted p.0 p.1) same (All-head IsIn v vs all, All-tail IsIn v vs all)
at_first c v vs rest w false true None all later g = cc
at_first c v vs rest w false true (Some r) all later g =
    let same : ◌≡◌ {A = Item × List Item} (r.0, v ∷ r.1) (w, rest) = cc in
    let there = later r.0 r.1 refl in
    subst (λ (p : Item × List Item). BothSorted p.0 p.1) same (there.0, All-cons IsIn v r.1 (All-head IsIn v vs all) there.1)
at_first c v vs rest w false false found all later g = cc

-- what is taken and what is left are each under their own class
pub left_sorted : (c : Class) (ws rest : List (Class × Descriptor)) (w : Class × Descriptor) → IsSorted ws → taken_of c ws ≡ Some (w, rest) → BothSorted w rest
left_sorted c [] rest w all e = cc
left_sorted c (v ∷ vs) rest w all e = at_first c v vs rest w (same_class c v.0) (passes c v.0) (taken_of c vs) all (λ x left f. left_sorted c vs left x (All-tail IsIn v vs all) f) e

inserted_sorted : (ws : List (Class × Descriptor)) (i : ℕ) (f : Descriptor) → IsSorted ws → IsSorted (insert ws i (class_of f, f))
inserted_sorted ws i f all = All-append IsIn _ _ (All-take IsIn i ws all) (All-cons IsIn (class_of f, f) _ refl (All-drop IsIn i ws all))

-- a packet that is put back is under its own class
pub restored_sorted : (q : Queue Descriptor) (f : Descriptor) (ws : List (Class × Descriptor)) → IsSorted q.waiting → restored q (class_of f) f ≡ Some ws → IsSorted ws
restored_sorted q f ws all e = go q.gap e
  where
    at : (same : Bool) (gap : Class × ℕ) → cond same (Some (insert q.waiting gap.1 (class_of f, f))) None ≡ Some ws → IsSorted ws
    at true gap h = let same : insert q.waiting gap.1 (class_of f, f) ≡ ws = cc in subst IsSorted same (inserted_sorted q.waiting gap.1 f all)
    at false gap h = cc

    go : (gap : Option (Class × ℕ)) → restored_at gap (class_of f) f q.waiting ≡ Some ws → IsSorted ws
    go None h = cc
    go (Some gap) h = at (same_class gap.0 (class_of f)) gap h

pub taken_restores : (c : Class) (q : Queue Descriptor) (f : Descriptor) (ws : List (Class × Descriptor)) → c ≡ class_of f → restored q c f ≡ Some ws → frames_restored q f ≡ Some (frames_of ws)
taken_restores c q f ws e h = ap (option_map frames_of) (subst (λ (d : Class). restored q d f ≡ Some ws) e h)

-- what a take gives and leaves
abbrev Took : Class → Queue Descriptor → Queue Descriptor → Option Descriptor → Type 0
Took c q q' result = MatchOption result ((taken_of c q.waiting ≡ None) × (q' ≡ q)) (λ f. taken_of c q.waiting ≡ Some ((c, f), q'.waiting))

pub took : (c : Class) (q q' : Queue Descriptor) (result : Option Descriptor) → IsSorted q.waiting → Took c q q' result
    → MatchOption result ((eligible c (frames_of q.waiting) ≡ None) × (frames_of q'.waiting ≡ frames_of q.waiting)) (λ f. eligible c (frames_of q.waiting) ≡ Some (f, frames_of q'.waiting))
took c q q' None all t = (none_taken c q.waiting all t.0, ap (λ (x : Queue Descriptor). frames_of x.waiting) t.1)
took c q q' (Some f) all t = some_taken c q.waiting q'.waiting (c, f) all t

pub kept_sorted : (c : Class) (q q' : Queue Descriptor) (result : Option Descriptor) → IsSorted q.waiting → Took c q q' result → IsSorted q'.waiting
kept_sorted c q q' None all t = subst (λ (x : Queue Descriptor). IsSorted x.waiting) (sym t.1) all
kept_sorted c q q' (Some f) all t = (left_sorted c q.waiting q'.waiting (c, f) all t).1

pub took_restores : (c : Class) (q q' : Queue Descriptor) (result : Option Descriptor) → IsSorted q.waiting → Took c q q' result
    → IfSome result (λ f. restored q' c f ≡ Some q.waiting) → IfSome result (λ f. frames_restored q' f ≡ Some (frames_of q.waiting))
took_restores c q q' None all t r = tt
took_restores c q q' (Some f) all t r = taken_restores c q' f q.waiting (left_sorted c q.waiting q'.waiting (c, f) all t).0 r
