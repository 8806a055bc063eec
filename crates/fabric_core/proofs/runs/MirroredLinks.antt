-- The packets of one domain on links, in a fabric and in one without the others, where one of them moves.
use Rattle.std.proofs.Common.{◌≡◌, ℕ, ◌≤◌, ◌==◌, Bool, true, false, cond, List, [], ◌∷◌, ◌++◌, get_or, Option, Some, None, refl, sym, ap, ◌∙◌, subst, arith, eqb-true, eq-eqb}
use Rattle.std.specs.Prelude.{option_map}
use Rattle.frame_log.specs.Descriptor.{Descriptor}
use Rattle.credit.specs.Kinds.{Class, Cost, Kind}
use Rattle.credit.specs.Limits.{at, credits_at}
use Rattle.credit.specs.declared.counters.Counters.{Counters}
use Rattle.link.specs.Channels.{Channel, count_in, has_room, is_full, deliver, received_of, send, sent_on, spent, unspent}
use Rattle.link.proofs.Credits.{at-spent, at-unspent, both-true, true-both}
use Rattle.lane.specs.Lanes.{eligible}
use Rattle.topology.specs.declared.nodes.LinkEnd.{LinkEnd}
use Rattle.interconnect.specs.Moves.{channel_at, left_at, no_channel, put_at, with_channel}
use Rattle.fabric_core.specs.Arrivals.{taken_at, taken_from}
use Rattle.fabric_core.specs.Isolation.{home_of, home_of_taken, home_oldest, is_number, own}
use Rattle.fabric_core.proofs.runs.Mirrors.{Follows, MirrorsLink, MirrorsLinks, MirrorsTaken}
use Rattle.fabric_core.proofs.runs.OwnOnes.{IsOwn, own_count, own_eligible, own_first, own_last, own_total}
use Rattle.fabric_core.proofs.runs.Pairwise.{Pairwise, pair_at, pair_set}

-- ---- credits

-- at least as many of each kind
abbrev pub AtMost : Counters → Counters → Type 0
AtMost one other = (k : Kind) → at one k ≤ at other k

pub spent_both : (one other : Counters) (cost : Cost) → AtMost one other → AtMost (spent one cost) (spent other cost)
spent_both one other cost less k =
    let first = at-spent one cost k in
    let second = at-spent other cost k in
    let few = less k in
    omega (arith, first, second, few)

pub room_too : (one other : Counters) (cost : Cost) → AtMost one other → has_room one cost ≡ true → has_room other cost ≡ true
room_too one other cost less room =
    let few = true-both 1 (credits_at one cost.class).headers cost.data (credits_at one cost.class).payload room in
    let headers : (credits_at one cost.class).headers ≤ (credits_at other cost.class).headers = less (Kind.Headers cost.class) in
    let payload : (credits_at one cost.class).payload ≤ (credits_at other cost.class).payload = less (Kind.Data cost.class) in
    both-true 1 (credits_at other cost.class).headers cost.data (credits_at other cost.class).payload (omega (arith, few.0, headers)) (omega (arith, few.1, payload))

-- fewer packets leave more of the same start
pub unspent_own : (d : ℕ) (start : Counters) (frames : List Descriptor) → AtMost (unspent start frames) (unspent start (own d frames))
unspent_own d start frames k =
    let first = at-unspent start frames k in
    let second = at-unspent start (own d frames) k in
    let few = own_total d k frames in
    omega (arith, first, second, few)

-- ---- at an end

module _ (d : ℕ) where
  none_mirrors : MirrorsLink d no_channel no_channel
  none_mirrors = record { start = refl; left = λ k. omega arith; egress = refl; wire = refl; ingress = refl }

  module _ (ones others : List (List Channel)) (m : MirrorsLinks d ones others) (end : LinkEnd) where
    pub mirrors_at : MirrorsLink d (channel_at ones end) (channel_at others end)
    mirrors_at = pair_at (MirrorsLink d) (get_or ones end.node []) (get_or others end.node []) end.output no_channel no_channel none_mirrors (pair_at (Pairwise (MirrorsLink d)) ones others end.node [] [] tt m)

    pub mirrors_with : (c c' : Channel) → MirrorsLink d c c' → MirrorsLinks d (with_channel ones end c) (with_channel others end c')
    mirrors_with c c' new =
        pair_set (Pairwise (MirrorsLink d)) ones others end.node _ _
        (pair_set (MirrorsLink d) (get_or ones end.node []) (get_or others end.node []) end.output c c' new (pair_at (Pairwise (MirrorsLink d)) ones others end.node [] [] tt m)) m

    pub mirrors_put : (frame : Descriptor) → IsOwn d frame → MirrorsLinks d (put_at ones end frame) (put_at others end frame)
    mirrors_put frame is =
        let here = mirrors_at in
        mirrors_with _ _ (record {
          start = here.start;
          left = here.left;
          egress = ap (λ (xs : List Descriptor). xs ++ frame ∷ []) here.egress ∙ sym (own_last d (channel_at ones end).egress frame is);
          wire = here.wire;
          ingress = here.ingress;
        })

    pub mirrors_left : (left : List Descriptor) → MirrorsLinks d (left_at ones end left) (left_at others end (own d left))
    mirrors_left left =
        let here = mirrors_at in
        mirrors_with _ _ (record { start = here.start; left = here.left; egress = here.egress; wire = here.wire; ingress = refl })

    -- a place there is one here
    pub place_too : (class : Class) → count_in class (channel_at ones end).egress ≤ 16 → is_full class (channel_at ones end) ≡ false → is_full class (channel_at others end) ≡ false
    place_too class most free = by (is_full class (channel_at others end)) refl
      where
        by : (b : Bool) → is_full class (channel_at others end) ≡ b → b ≡ false
        by false e = refl
        by true e =
            let here = mirrors_at in
            let full = eqb-true (count_in class (channel_at others end).egress) 16 e in
            let fewer = ap (count_in class) here.egress in
            let few = own_count d class (channel_at ones end).egress in
            let all : (count_in class (channel_at ones end).egress == 16) ≡ true = eq-eqb (count_in class (channel_at ones end).egress) 16 (omega (arith, most, full, fewer, few)) in
            sym all ∙ free

    -- ---- what is taken

    taken_by : (class : Class) (o : Option (Descriptor × List Descriptor)) → eligible class (channel_at ones end).ingress ≡ o → is_number d (home_of_taken (option_map (taken_from ones end) o)) ≡ true
        → Follows (MirrorsTaken d) (option_map (taken_from ones end) o) (option_map (taken_from others end) (eligible class (channel_at others end).ingress))
    taken_by class None e is = absurd cc
    taken_by class (Some t) e is =
        let here = mirrors_at in
        let found : eligible class (channel_at others end).ingress ≡ Some (t.0, own d t.1) = ap (eligible class) here.ingress ∙ own_eligible d class (channel_at ones end).ingress t.1 t.0 e is in
        subst (λ (p : Option (Descriptor × List Descriptor)). Follows (MirrorsTaken d) (Some (taken_from ones end t)) (option_map (taken_from others end) p)) (sym found)
        (record { own = is; channels = left_at others end (own d t.1); links = mirrors_left t.1; is = refl })

  pub taken_too : (ones others : List (List Channel)) → MirrorsLinks d ones others → (class : Class) (found : Option LinkEnd) → is_number d (home_of_taken (taken_at ones class found)) ≡ true
      → Follows (MirrorsTaken d) (taken_at ones class found) (taken_at others class found)
  taken_too ones others m class None is = absurd cc
  taken_too ones others m class (Some end) is = taken_by ones others m end class (eligible class (channel_at ones end).ingress) refl is

  -- ---- within a link

  module _ (one other : Channel) (m : MirrorsLink d one other) where
    sent_by : (o : Option (Descriptor × List Descriptor)) (class : Class) → eligible class one.egress ≡ o → is_number d (home_of o) ≡ true → Follows (MirrorsLink d) (sent_on one o) (sent_on other (eligible class other.egress))
    sent_by None class e is = absurd cc
    sent_by (Some t) class e is =
        let found : eligible class other.egress ≡ Some (t.0, own d t.1) = ap (eligible class) m.egress ∙ own_eligible d class one.egress t.1 t.0 e is in
        subst (λ (p : Option (Descriptor × List Descriptor)). Follows (MirrorsLink d) (sent_on one (Some t)) (sent_on other p)) (sym found)
        (go (has_room one.left t.0.head.cost) (has_room other.left t.0.head.cost) (room_too one.left other.left t.0.head.cost m.left))
      where
        after : Channel
        after = record { start = one.start; left = spent one.left t.0.head.cost; egress = t.1; wire = one.wire ++ t.0 ∷ []; ingress = one.ingress }

        after' : Channel
        after' = record { start = other.start; left = spent other.left t.0.head.cost; egress = own d t.1; wire = other.wire ++ t.0 ∷ []; ingress = other.ingress }

        go : (b b' : Bool) → (b ≡ true → b' ≡ true) → Follows (MirrorsLink d) (cond b (Some after) None) (cond b' (Some after') None)
        go false b' room = tt
        go true false room = absurd (let no : false ≡ true = room refl in cc)
        go true true room = record {
          start = m.start;
          left = spent_both one.left other.left t.0.head.cost m.left;
          egress = refl;
          wire = ap (λ (xs : List Descriptor). xs ++ t.0 ∷ []) m.wire ∙ sym (own_last d one.wire t.0 is);
          ingress = m.ingress;
        }

    pub send_too : (class : Class) → is_number d (home_of (eligible class one.egress)) ≡ true → Follows (MirrorsLink d) (send class one) (send class other)
    send_too class is = sent_by (eligible class one.egress) class refl is

    received_by : (wire : List Descriptor) → one.wire ≡ wire → is_number d (home_oldest wire) ≡ true → Follows (MirrorsLink d) (received_of one wire) (deliver other)
    received_by [] e is = absurd cc
    received_by (frame ∷ frames) e is =
        let found : other.wire ≡ frame ∷ own d frames = m.wire ∙ (ap (own d) e ∙ own_first d frame frames is) in
        subst (λ (wire : List Descriptor). Follows (MirrorsLink d) (received_of one (frame ∷ frames)) (received_of other wire)) (sym found) (record {
          start = m.start;
          left = m.left;
          egress = m.egress;
          wire = refl;
          ingress = ap (λ (xs : List Descriptor). xs ++ frame ∷ []) m.ingress ∙ sym (own_last d one.ingress frame is);
        })

    pub receive_too : is_number d (home_oldest one.wire) ≡ true → Follows (MirrorsLink d) (deliver one) (deliver other)
    receive_too is = received_by one.wire refl is
