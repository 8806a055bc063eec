-- One direction of a link on which nothing moves (PCIe 4.0, 2.6.1): where its receiver has none of a class, its sender has none.
use Rattle.std.proofs.Common.{◌≡◌, ◌≤◌, Bool, true, false, cond, List, [], ◌∷◌, ◌++◌, Option, Some, None, refl, sym, ap, ◌∙◌, subst, arith}
use Rattle.std.proofs.lemmas.Bool.{and_from, and_parts, eqb-true, le-leb}
use Rattle.frame_log.specs.Descriptor.{Descriptor}
use Rattle.credit.specs.Kinds.{Cost}
use Rattle.credit.specs.Limits.{credits_at, with_credits}
use Rattle.credit.specs.declared.counters.Credits.{Credits}
use Rattle.credit.specs.declared.counters.Counters.{Counters}
use Rattle.ordering.specs.Ordering.{same_class}
use Rattle.lane.specs.Lanes.{Class, eligible}
use Rattle.lane.proofs.Waiting.{class_of-taken}
use Rattle.link.specs.Channels.{Channel, count_in, covers, deliver, has_room, less, received_of, same_counters, same_credits, send, sent_on, spent, advertised_of, unspent, update_fc}
use Rattle.fabric_core.proofs.progress.Classes.{MayPass, counted, none_of}

-- a receiver starts with a header and 16 data credits of each class
pub record IsAmple (start : Counters) : Type 0 where
  pub headers : (class : Class) → 1 ≤ (credits_at start class).headers
  pub payload : (class : Class) → 16 ≤ (credits_at start class).payload

-- ---- credits of another class

other_credits : (left : Counters) (c d : Class) (x : Credits) → same_class c d ≡ false → credits_at (with_credits left d x) c ≡ credits_at left c
other_credits left Class.Posted Class.Posted x e = absurd cc
other_credits left Class.Posted Class.NonPosted x e = refl
other_credits left Class.Posted Class.Completion x e = refl
other_credits left Class.NonPosted Class.Posted x e = refl
other_credits left Class.NonPosted Class.NonPosted x e = absurd cc
other_credits left Class.NonPosted Class.Completion x e = refl
other_credits left Class.Completion Class.Posted x e = refl
other_credits left Class.Completion Class.NonPosted x e = refl
other_credits left Class.Completion Class.Completion x e = absurd cc

-- packets of other classes leave a class all its credits
unspent_of : (start : Counters) (c : Class) (fs : List Descriptor) → count_in c fs ≡ 0 → credits_at (unspent start fs) c ≡ credits_at start c
unspent_of start c [] none = refl
unspent_of start c (f ∷ fs) none =
    let at = counted c f fs none in
    other_credits (unspent start fs) c f.head.cost.class (less (credits_at (unspent start fs) f.head.cost.class) f.head.cost.«data») at.0 ∙ unspent_of start c fs at.1

-- ---- the sender knows them

same_pair : (a b : Credits) → same_credits a b ≡ true → a ≡ b
same_pair a b e =
    let both = and_parts _ _ e in
    let headers = eqb-true a.headers b.headers both.0 in
    let payload = eqb-true a.payload b.payload both.1 in
    λ i. record { headers = headers i; payload = payload i }

same_of : (a b : Counters) (c : Class) → same_counters a b ≡ true → credits_at a c ≡ credits_at b c
same_of a b Class.Posted e = same_pair a.posted b.posted (and_parts _ _ e).0
same_of a b Class.NonPosted e = same_pair a.non_posted b.non_posted (and_parts _ _ (and_parts _ _ e).1).0
same_of a b Class.Completion e = same_pair a.completion b.completion (and_parts _ _ (and_parts _ _ e).1).1

known : (c : Channel) (most : Counters) → advertised_of c most ≡ None → same_counters c.left most ≡ true
known c most e = go (same_counters c.left most) refl e
  where
    go : (b : Bool) → same_counters c.left most ≡ b → cond {A = Option Channel} b None (Some (record { start = c.start; left = most; egress = c.egress; wire = c.wire; ingress = c.ingress })) ≡ None → same_counters c.left most ≡ true
    go true i e = i
    go false i e = absurd cc

-- ---- nothing moves

-- the wire is empty
pub wire_empty : (c : Channel) → deliver c ≡ None → c.wire ≡ []
wire_empty c idle = go c.wire idle
  where
    go : (wire : List Descriptor) → received_of c wire ≡ None → wire ≡ []
    go [] e = refl
    go (f ∷ fs) e = absurd cc

-- the credits of the class are those of the start
whole : (c : Channel) (class : Class) → deliver c ≡ None → update_fc c ≡ None → count_in class c.ingress ≡ 0 → credits_at c.left class ≡ credits_at c.start class
whole c class no_take no_credit none =
    let behind : count_in class (c.wire ++ c.ingress) ≡ 0 = ap (λ (fs : List Descriptor). count_in class (fs ++ c.ingress)) (wire_empty c no_take) ∙ none in
    same_of c.left (unspent c.start (c.wire ++ c.ingress)) class (known c (unspent c.start (c.wire ++ c.ingress)) no_credit) ∙ unspent_of c.start class (c.wire ++ c.ingress) behind

room : (left start : Counters) (cost : Cost) → credits_at left cost.class ≡ credits_at start cost.class → IsAmple start → cost.«data» ≤ 16 → has_room left cost ≡ true
room left start cost same ample small =
    ap (λ (x : Credits). covers x cost.«data») same
    ∙ and_from _ _ (le-leb 1 (credits_at start cost.class).headers (ample.headers cost.class)) (le-leb cost.«data» (credits_at start cost.class).payload (let most = ample.payload cost.class in omega (arith, most, small)))

-- the sender has none of the class
pub sender_without : (c : Channel) (class : Class) → IsAmple c.start → deliver c ≡ None → update_fc c ≡ None → send class c ≡ None
    → ((f : Descriptor) (rest : List Descriptor) → eligible class c.egress ≡ Some (f, rest) → f.head.cost.«data» ≤ 16) → MayPass class c.egress → count_in class c.ingress ≡ 0 → count_in class c.egress ≡ 0
sender_without c class ample no_take no_credit no_send small opens none = none_of class c.egress opens (go (eligible class c.egress) refl no_send)
  where
    has : (f : Descriptor) (rest : List Descriptor) → eligible class c.egress ≡ Some (f, rest) → has_room c.left f.head.cost ≡ true
    has f rest e =
        room c.left c.start f.head.cost
        (subst (λ (d : Class). credits_at c.left d ≡ credits_at c.start d) (sym (class_of-taken class c.egress rest f e)) (whole c class no_take no_credit none))
        ample (small f rest e)

    blocked : (f : Descriptor) (rest : List Descriptor) (b : Bool) → b ≡ true
        → cond {A = Option Channel} b (Some (record { start = c.start; left = spent c.left f.head.cost; egress = rest; wire = c.wire ++ f ∷ []; ingress = c.ingress })) None ≡ None → ⊥
    blocked f rest true e i = cc
    blocked f rest false e i = cc

    go : (o : Option (Descriptor × List Descriptor)) → eligible class c.egress ≡ o → sent_on c o ≡ None → eligible class c.egress ≡ None
    go None e i = e
    go (Some (f, rest)) e i = absurd (blocked f rest (has_room c.left f.head.cost) (has f rest e) i)
