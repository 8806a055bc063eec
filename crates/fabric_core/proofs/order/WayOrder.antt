-- Two kinds of packets on a way stay in turn where a packet joins a place, leaves one, or moves along the way.
use Rattle.std.proofs.Common.{◌≡◌, ◌⊎◌, inl, inr, Bool, true, false, ◌||◌, cond, List, [], ◌∷◌, ◌++◌, get_or, refl, sym, ap, ◌∙◌, subst, append_assoc, append-nil}
use Rattle.std.specs.Prelude.{All, filter}
use Rattle.std.specs.List.{flat_map}
use Rattle.std.proofs.lemmas.List.Elements.{All-cons, All-head, All-nil, filter-append}
use Rattle.fab_types.specs.declared.class.Class.{Class}
use Rattle.fab_types.specs.declared.class.Class.TheVariants.{Posted, NonPosted, Completion}
use Rattle.fab_types.specs.declared.place.Place.{Place}
use Rattle.frame_log.specs.Descriptor.{Descriptor}
use Rattle.ordering.specs.Ordering.{passes}
use Rattle.lane.specs.Lanes.{class_of}
use Rattle.fabric_core.specs.Trails.{In, InOrderOnWay, is_ahead}
use Rattle.fabric_core.proofs.order.Ahead.{ahead_filter, ahead_passed, either, none_ahead}
use Rattle.fabric_core.proofs.invariant.Changing.{grown, without_one}
use Rattle.fabric_core.proofs.order.AtPlaces.{Joining, Leaving, MayPass, Moving, Standings}
use Rattle.fabric_core.proofs.order.Tracks.{target_in}
use Rattle.fabric_core.proofs.order.Trails.{Adjoin, AreDistinct, filtered_flat, overtakes}

abbrev pub IsNo : (Descriptor → Bool) → Descriptor → Type 0
IsNo p x = p x ≡ false

-- ---- lists

filter_one : (p : Descriptor → Bool) (x : Descriptor) (xs : List Descriptor) (b : Bool) → p x ≡ b → b ≡ false → cond b (x ∷ filter p xs) (filter p xs) ≡ filter p xs
filter_one p x xs true e other = absurd cc
filter_one p x xs false e other = refl

filter_without : (p : Descriptor → Bool) (xs ys : List Descriptor) (y : Descriptor) → p y ≡ false → filter p (xs ++ ys) ≡ filter p (xs ++ y ∷ ys)
filter_without p xs ys y other =
    filter-append p xs ys ∙ (ap (λ (zs : List Descriptor). filter p xs ++ zs) (sym (filter_one p y ys (p y) refl other)) ∙ sym (filter-append p xs (y ∷ ys)))

filter_more : (p : Descriptor → Bool) (xs : List Descriptor) (y : Descriptor) → p y ≡ false → filter p (xs ++ y ∷ []) ≡ filter p xs
filter_more p xs y other = sym (filter_without p xs [] y other) ∙ ap (filter p) (append-nil xs)

all_without : (P : Descriptor → Type 0) (xs ys : List Descriptor) (y : Descriptor) → All P (xs ++ y ∷ ys) → All P (xs ++ ys)
all_without P xs ys y h = (without_one xs ys y).left P h (All-nil P)

all_more : (P : Descriptor → Type 0) (xs : List Descriptor) (y : Descriptor) → All P xs → P y → All P (xs ++ y ∷ [])
all_more P xs y h is = (grown xs (y ∷ [])).left P h (All-cons P y [] is (All-nil P))

pub all_found : (P : Descriptor → Type 0) (xs ys : List Descriptor) (y : Descriptor) → All P (xs ++ y ∷ ys) → P y
all_found P xs ys y h = All-head P y [] ((without_one xs ys y).found P h)

-- ---- at each place

module _ (f f' : Standings) (source : Place) (y : Descriptor) (l : Leaving f f' source y) where
  pub all_left : (P : Descriptor → Type 0) (r : Place) → All P (f r) → All P (f' r)
  all_left P r h = by (l.others r)
    where
      by : (f' r ≡ f r) ⊎ (r ≡ source) → All P (f' r)
      by (inl same) = subst (All P) (sym same) h
      by (inr e) =
          subst (λ (x : Place). All P (f' x)) (sym e)
          (subst (All P) (sym l.left) (all_without P l.older l.newer y (subst (All P) l.was (subst (λ (x : Place). All P (f x)) e h))))

  pub filter_left : (p : Descriptor → Bool) → p y ≡ false → (r : Place) → filter p (f' r) ≡ filter p (f r)
  filter_left p other r = by (l.others r)
    where
      by : (f' r ≡ f r) ⊎ (r ≡ source) → filter p (f' r) ≡ filter p (f r)
      by (inl same) = ap (filter p) same
      by (inr e) =
          ap (λ (x : Place). filter p (f' x)) e
          ∙ (ap (filter p) l.left ∙ (filter_without p l.older l.newer y other ∙ (sym (ap (filter p) l.was) ∙ ap (λ (x : Place). filter p (f x)) (sym e))))

  pub stood : (P : Descriptor → Type 0) → All P (f source) → P y
  stood P h = all_found P l.older l.newer y (subst (All P) l.was h)

module _ (f f' : Standings) (target : Place) (z : Descriptor) (j : Joining f f' target z) where
  pub all_joined : (P : Descriptor → Type 0) → P z → (r : Place) → All P (f r) → All P (f' r)
  all_joined P new r h = by (j.others r)
    where
      by : (f' r ≡ f r) ⊎ (r ≡ target) → All P (f' r)
      by (inl same) = subst (All P) (sym same) h
      by (inr e) = subst (λ (x : Place). All P (f' x)) (sym e) (subst (All P) (sym j.put) (all_more P (f target) z (subst (λ (x : Place). All P (f x)) e h) new))

  pub filter_joined : (p : Descriptor → Bool) → p z ≡ false → (r : Place) → filter p (f' r) ≡ filter p (f r)
  filter_joined p other r = by (j.others r)
    where
      by : (f' r ≡ f r) ⊎ (r ≡ target) → filter p (f' r) ≡ filter p (f r)
      by (inl same) = ap (filter p) same
      by (inr e) = ap (λ (x : Place). filter p (f' x)) e ∙ (ap (filter p) j.put ∙ (filter_more p (f target) z other ∙ ap (λ (x : Place). filter p (f x)) (sym e)))

module _ (f f' : Standings) (source target : Place) (y : Descriptor) (mv : Moving f f' source target y) where
  pub all_moved : (P : Descriptor → Type 0) → P y → (r : Place) → All P (f r) → All P (f' r)
  all_moved P is r h = by (mv.moved.others r)
    where
      by : (f' r ≡ f r) ⊎ ((r ≡ source) ⊎ (r ≡ target)) → All P (f' r)
      by (inl same) = subst (All P) (sym same) h
      by (inr (inl e)) =
          subst (λ (x : Place). All P (f' x)) (sym e)
          (subst (All P) (sym mv.moved.left) (all_without P mv.older mv.newer y (subst (All P) mv.moved.was (subst (λ (x : Place). All P (f x)) e h))))
      by (inr (inr e)) = subst (λ (x : Place). All P (f' x)) (sym e) (subst (All P) (sym mv.moved.put) (all_more P (f target) y (subst (λ (x : Place). All P (f x)) e h) is))

  pub filter_moved : (p : Descriptor → Bool) → p y ≡ false → (r : Place) → filter p (f' r) ≡ filter p (f r)
  filter_moved p other r = by (mv.moved.others r)
    where
      by : (f' r ≡ f r) ⊎ ((r ≡ source) ⊎ (r ≡ target)) → filter p (f' r) ≡ filter p (f r)
      by (inl same) = ap (filter p) same
      by (inr (inl e)) =
          ap (λ (x : Place). filter p (f' x)) e
          ∙ (ap (filter p) mv.moved.left ∙ (filter_without p mv.older mv.newer y other ∙ (sym (ap (filter p) mv.moved.was) ∙ ap (λ (x : Place). filter p (f x)) (sym e))))
      by (inr (inr e)) = ap (λ (x : Place). filter p (f' x)) e ∙ (ap (filter p) mv.moved.put ∙ (filter_more p (f target) y other ∙ ap (λ (x : Place). filter p (f x)) (sym e)))

  pub moved_stood : (P : Descriptor → Type 0) → All P (f source) → P y
  moved_stood P h = all_found P mv.older mv.newer y (subst (All P) mv.moved.was h)

-- ---- two kinds

module _ (p q : Descriptor → Bool) where
  pub neither : (y : Descriptor) → p y ≡ false → q y ≡ false → either p q y ≡ false
  neither y a b = ap (λ (c : Bool). c || q y) a ∙ b

  -- packets of other kinds came and went
  turn_kept : (f f' : Standings) (places : List Place) → ((r : Place) → filter (either p q) (f' r) ≡ filter (either p q) (f r)) → ((r : Place) → All (IsNo p) (f r) → All (IsNo p) (f' r)) → ((r : Place) → All (IsNo q) (f r) → All (IsNo q) (f' r))
      → InOrderOnWay f places p q → InOrderOnWay f' places p q
  turn_kept f f' places same all_p all_q t = record {
    ahead = ahead_filter p q (flat_map f' places) ∙ (ap (is_ahead p q) (filtered_flat (either p q) f f' places same) ∙ (sym (ahead_filter p q (flat_map f places)) ∙ t.ahead));
    first_on = λ r. on p all_p r (t.first_on r);
    second_on = λ r. on q all_q r (t.second_on r);
  }
    where
      on : (k : Descriptor → Bool) → ((r : Place) → All (IsNo k) (f r) → All (IsNo k) (f' r)) → (r : Place) → In r places ⊎ All (IsNo k) (f r) → In r places ⊎ All (IsNo k) (f' r)
      on k all r (inl at) = inl at
      on k all r (inr none) = inr (all r none)

  pub order_still : (f f' : Standings) (places : List Place) → ((r : Place) → f' r ≡ f r) → InOrderOnWay f places p q → InOrderOnWay f' places p q
  order_still f f' places same t =
      turn_kept f f' places (λ r. ap (filter (either p q)) (same r)) (λ r h. subst (All (IsNo p)) (sym (same r)) h) (λ r h. subst (All (IsNo q)) (sym (same r)) h) t

  pub order_left : (f f' : Standings) (places : List Place) (source : Place) (y : Descriptor) → Leaving f f' source y → p y ≡ false → q y ≡ false → InOrderOnWay f places p q → InOrderOnWay f' places p q
  order_left f f' places source y l no_p no_q t =
      turn_kept f f' places (λ r. filter_left f f' source y l (either p q) (neither y no_p no_q) r) (λ r h. all_left f f' source y l (IsNo p) r h) (λ r h. all_left f f' source y l (IsNo q) r h) t

  pub order_joined : (f f' : Standings) (places : List Place) (target : Place) (z : Descriptor) → Joining f f' target z → p z ≡ false → q z ≡ false → InOrderOnWay f places p q → InOrderOnWay f' places p q
  order_joined f f' places target z j no_p no_q t =
      turn_kept f f' places (λ r. filter_joined f f' target z j (either p q) (neither z no_p no_q) r) (λ r h. all_joined f f' target z j (IsNo p) no_p r h) (λ r h. all_joined f f' target z j (IsNo q) no_q r h) t

  pub order_moved : (f f' : Standings) (places : List Place) (source target : Place) (y : Descriptor) → Moving f f' source target y → p y ≡ false → q y ≡ false → InOrderOnWay f places p q → InOrderOnWay f' places p q
  order_moved f f' places source target y mv no_p no_q t =
      turn_kept f f' places (λ r. filter_moved f f' source target y mv (either p q) (neither y no_p no_q) r) (λ r h. all_moved f f' source target y mv (IsNo p) no_p r h) (λ r h. all_moved f f' source target y mv (IsNo q) no_q r h) t

  -- ---- one of the two goes on along the way

  pub source_in : (target source : Place) (xs : List Place) → Adjoin target source xs → In source xs
  source_in target source _ (Adjoin.Here rest) = inr (inl refl)
  source_in target source _ (Adjoin.Later x rest at) = inr (source_in target source rest at)

  pub order_along : (f f' : Standings) (places : List Place) (source target : Place) (y : Descriptor) (mv : Moving f f' source target y) → AreDistinct places → Adjoin target source places → (q y ≡ true → All (IsNo p) mv.older) → InOrderOnWay f places p q → InOrderOnWay f' places p q
  order_along f f' places source target y mv distinct at none t =
      let o = overtakes f f' source target mv.older mv.newer y mv.moved places distinct at in record {
        ahead = subst (λ (xs : List Descriptor). is_ahead p q xs ≡ true) (sym o.is) (ahead_passed p q o.front mv.older o.behind y none (subst (λ (xs : List Descriptor). is_ahead p q xs ≡ true) o.was t.ahead));
        first_on = λ r. on p r (mv.moved.others r) (t.first_on r);
        second_on = λ r. on q r (mv.moved.others r) (t.second_on r);
      }
    where
      on : (k : Descriptor → Bool) (r : Place) → (f' r ≡ f r) ⊎ ((r ≡ source) ⊎ (r ≡ target)) → In r places ⊎ All (IsNo k) (f r) → In r places ⊎ All (IsNo k) (f' r)
      on k r change (inl here) = inl here
      on k r (inl same) (inr none_here) = inr (subst (All (IsNo k)) (sym same) none_here)
      on k r (inr (inl e)) (inr none_here) = inl (subst (λ (x : Place). In x places) (sym e) (source_in target source places at))
      on k r (inr (inr e)) (inr none_here) = inl (subst (λ (x : Place). In x places) (sym e) (target_in target source places at))

  -- ---- nothing passes a posted packet

  passes_posted : (c : Class) → passes c Posted ≡ true → ⊥
  passes_posted Posted e = cc
  passes_posted NonPosted e = cc
  passes_posted Completion e = cc

  pub none_of : (b : Bool) → (b ≡ true → ⊥) → b ≡ false
  none_of true no_one = absurd (no_one refl)
  none_of false no_one = refl

  abbrev pub ArePosted : List Descriptor → Type 0
  ArePosted xs = All (λ (x : Descriptor). p x ≡ true → class_of x ≡ Posted) xs

  pub none_older : (y : Descriptor) (older : List Descriptor) → MayPass y older → ArePosted older → All (IsNo p) older
  none_older y older passed posted = λ k d less.
      none_of (p (get_or older k d)) (λ is. passes_posted (class_of y) (ap (passes (class_of y)) (sym (posted k d less is)) ∙ passed k d less))

  -- the second kind isn't taken where the way ends while the first kind is on it
  pub not_taken : (f : Standings) (places rest : List Place) (source : Place) (y : Descriptor) (older newer : List Descriptor) → f source ≡ older ++ y ∷ newer → places ≡ source ∷ rest → All (IsNo p) older → p y ≡ false → q y ≡ true
      → is_ahead p q (flat_map f places) ≡ true → ⊥
  not_taken f places rest source y older newer was first none no_p is_q ahead =
      none_ahead p q older (newer ++ flat_map f rest) y none no_p is_q
      (subst (λ (xs : List Descriptor). is_ahead p q xs ≡ true) (ap (λ (xs : List Place). flat_map f xs) first ∙ (ap (λ (xs : List Descriptor). xs ++ flat_map f rest) was ∙ append_assoc older (y ∷ newer) (flat_map f rest))) ahead)
