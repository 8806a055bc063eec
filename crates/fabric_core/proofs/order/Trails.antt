-- What a packet that moves from one place to the next leaves of the packets on its way.
use Rattle.std.proofs.Common.{◌≡◌, ◌≢◌, ◌⊎◌, inl, inr, Bool, List, [], ◌∷◌, ◌++◌, refl, sym, ap, ◌∙◌, append_assoc}
use Rattle.std.specs.Prelude.{⊤, filter}
use Rattle.std.specs.List.{flat_map}
use Rattle.std.proofs.lemmas.List.Elements.{filter-append}

module _ {P : Type 0} where
  -- ---- places

  abbrev pub IsNot : P → List P → Type 0
  IsNot x [] = ⊤
  IsNot x (y ∷ ys) = (x ≢ y) × IsNot x ys

  -- no place stands twice
  abbrev pub AreDistinct : List P → Type 0
  AreDistinct [] = ⊤
  AreDistinct (x ∷ xs) = IsNot x xs × AreDistinct xs

  -- the second place comes directly behind the first
  pub data Adjoin (target source : P) : List P → Type 0 where
    Here : (rest : List P) → Adjoin target source (target ∷ source ∷ rest)
    Later : (x : P) (rest : List P) → Adjoin target source rest → Adjoin target source (x ∷ rest)

  pub not_either : (x target source : P) (xs : List P) → IsNot x xs → Adjoin target source xs → (x ≢ target) × (x ≢ source)
  not_either x target source _ not (Adjoin.Here rest) = (not.0, not.1.0)
  not_either x target source _ not (Adjoin.Later y rest at) = not_either x target source rest not.1 at

  pub not_append : (x : P) (xs ys : List P) → IsNot x xs → IsNot x ys → IsNot x (xs ++ ys)
  not_append x [] ys a b = b
  not_append x (y ∷ xs) ys a b = (a.0, not_append x xs ys a.1 b)

  pub adjoin_front : (target source : P) (xs ys : List P) → Adjoin target source ys → Adjoin target source (xs ++ ys)
  adjoin_front target source [] ys at = at
  adjoin_front target source (x ∷ xs) ys at = Adjoin.Later x (xs ++ ys) (adjoin_front target source xs ys at)

  pub adjoin_back : (target source : P) (xs ys : List P) → Adjoin target source xs → Adjoin target source (xs ++ ys)
  adjoin_back target source _ ys (Adjoin.Here rest) = Adjoin.Here (rest ++ ys)
  adjoin_back target source _ ys (Adjoin.Later x rest at) = Adjoin.Later x (rest ++ ys) (adjoin_back target source rest ys at)

module _ {A : Type 0} where
  -- a packet passes these on its way
  pub record Overtakes (old new older : List A) (y : A) : Type 0 where
    pub front : List A
    pub behind : List A
    pub was : old ≡ front ++ (older ++ y ∷ behind)
    pub is : new ≡ front ++ (y ∷ (older ++ behind))

module _ {P A : Type 0} where
  -- ---- one packet moves

  -- it leaves its place, where these are older, for the end of another
  pub record Moved (f f' : P → List A) (source target : P) (older newer : List A) (y : A) : Type 0 where
    pub was : f source ≡ older ++ y ∷ newer
    pub left : f' source ≡ older ++ newer
    pub put : f' target ≡ f target ++ y ∷ []
    pub others : (r : P) → (f' r ≡ f r) ⊎ ((r ≡ source) ⊎ (r ≡ target))

  module _ (f f' : P → List A) (source target : P) (older newer : List A) (y : A) (m : Moved f f' source target older newer y) where
    other_same : (x : P) → x ≢ target → x ≢ source → f' x ≡ f x
    other_same x not_target not_source = by (m.others x)
      where
        by : (f' x ≡ f x) ⊎ ((x ≡ source) ⊎ (x ≡ target)) → f' x ≡ f x
        by (inl same) = same
        by (inr (inl e)) = absurd (not_source e)
        by (inr (inr e)) = absurd (not_target e)

    rest_same : (xs : List P) → IsNot target xs → IsNot source xs → flat_map f' xs ≡ flat_map f xs
    rest_same [] a b = refl
    rest_same (x ∷ xs) a b =
        ap (λ (zs : List A). zs ++ flat_map f' xs) (other_same x (λ e. a.0 (sym e)) (λ e. b.0 (sym e)))
        ∙ ap (λ (zs : List A). f x ++ zs) (rest_same xs a.1 b.1)

    here : (rest : List P) → IsNot target rest → IsNot source rest → Overtakes (flat_map f (target ∷ source ∷ rest)) (flat_map f' (target ∷ source ∷ rest)) older y
    here rest a b =
        let R = flat_map f rest in record {
          front = f target;
          behind = newer ++ R;
          was = ap (λ (zs : List A). f target ++ (zs ++ R)) m.was ∙ ap (λ (zs : List A). f target ++ zs) (append_assoc older (y ∷ newer) R);
          is =
              ap (λ (zs : List A). f' target ++ (f' source ++ zs)) (rest_same rest a b)
              ∙ (ap (λ (zs : List A). f' target ++ (zs ++ R)) m.left
              ∙ (ap (λ (zs : List A). zs ++ ((older ++ newer) ++ R)) m.put
              ∙ (append_assoc (f target) (y ∷ []) ((older ++ newer) ++ R)
              ∙ ap (λ (zs : List A). f target ++ (y ∷ zs)) (append_assoc older newer R))));
        }

    behind_one : (x : P) (xs : List P) → x ≢ target → x ≢ source → Overtakes (flat_map f xs) (flat_map f' xs) older y → Overtakes (flat_map f (x ∷ xs)) (flat_map f' (x ∷ xs)) older y
    behind_one x xs not_target not_source o = record {
      front = f x ++ o.front;
      behind = o.behind;
      was = ap (λ (zs : List A). f x ++ zs) o.was ∙ sym (append_assoc (f x) o.front (older ++ y ∷ o.behind));
      is =
          ap (λ (zs : List A). zs ++ flat_map f' xs) (other_same x not_target not_source)
          ∙ (ap (λ (zs : List A). f x ++ zs) o.is ∙ sym (append_assoc (f x) o.front (y ∷ (older ++ o.behind))));
    }

    pub overtakes : (xs : List P) → AreDistinct xs → Adjoin target source xs → Overtakes (flat_map f xs) (flat_map f' xs) older y
    overtakes _ distinct (Adjoin.Here rest) = here rest distinct.0.1 distinct.1.0
    overtakes _ distinct (Adjoin.Later x rest at) =
        let not = not_either x target source rest distinct.0 at in
        behind_one x rest not.0 not.1 (overtakes rest distinct.1 at)

  -- ---- packets of another kind

  pub filtered_flat : (p : A → Bool) (f f' : P → List A) (xs : List P) → ((x : P) → filter p (f' x) ≡ filter p (f x)) → filter p (flat_map f' xs) ≡ filter p (flat_map f xs)
  filtered_flat p f f' [] same = refl
  filtered_flat p f f' (x ∷ xs) same =
      filter-append p (f' x) (flat_map f' xs)
      ∙ (ap (λ (zs : List A). zs ++ filter p (flat_map f' xs)) (same x)
      ∙ (ap (λ (zs : List A). filter p (f x) ++ zs) (filtered_flat p f f' xs same) ∙ sym (filter-append p (f x) (flat_map f xs))))
