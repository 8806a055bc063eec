-- Open Tags by number: the lists of the numbers one by one, and all of them joined.
use Rattle.std.proofs.Common.{◌≡◌, ℕ, zero, suc, ◌+◌, ◌<◌, ◌≤◌, ◌≢◌, Bool, true, false, not, ◌&&◌, ◌||◌, ◌==◌, nat_le, cond, List, [], ◌∷◌, ◌++◌, length, get_or, set, filter, flat_map, find, All, Option, Some, Vec, refl, sym, ◌∙◌, ap, ap₂, append-nil, append_assoc, length-append, eq-eqb, ne_eqb, le-leb, arith}
use Rattle.std.proofs.lemmas.Bool.{lt-leb}
use Rattle.std.specs.List.{list_any}
use Rattle.std.proofs.lemmas.List.Concat.{flat_map-cons}
use Rattle.std.proofs.lemmas.List.Elements.{All-append, All-cons, All-head, All-nil, All-same, All-tail, All-weaker, filter-append}
use Rattle.fab_types.specs.declared.origin.Origin.{Origin}
use Rattle.fab_types.specs.Origins.{same_origin}
use Rattle.function.specs.declared.tags.OpenTag.{OpenTag}
use Rattle.function.specs.Tags.{and_open, closed}
use Rattle.function.specs.OpenTags.{AreNumbered}

-- ---- lists of which all pass a test, or none

module _ {X : Type 0} (p : X → Bool) where
  pub all_pass : (xs : List X) → All (λ x. p x ≡ true) xs → filter p xs ≡ xs
  all_pass [] all = refl
  all_pass (x ∷ xs) all = ap₂ (λ (b : Bool) (ys : List X). cond b (x ∷ ys) ys) (All-head (λ y. p y ≡ true) x xs all) (all_pass xs (All-tail (λ y. p y ≡ true) x xs all))

  pub none_pass : (xs : List X) → All (λ x. p x ≡ false) xs → filter p xs ≡ []
  none_pass [] all = refl
  none_pass (x ∷ xs) all = ap₂ (λ (b : Bool) (ys : List X). cond b (x ∷ ys) ys) (All-head (λ y. p y ≡ false) x xs all) (none_pass xs (All-tail (λ y. p y ≡ false) x xs all))

-- ---- tests of what passed another

same_or : (b first rest : Bool) → first ≡ rest → (b || first) ≡ ((b && true) || rest)
same_or true first rest is = refl
same_or false first rest is = is

none_or : (b first rest : Bool) → first ≡ rest → first ≡ ((b && false) || rest)
none_or true first rest is = is
none_or false first rest is = is

same_first : {X : Type 0} (b : Bool) (x : X) (first rest : Option X) → first ≡ rest → cond b (Some x) first ≡ cond (b && true) (Some x) rest
same_first true x first rest is = refl
same_first false x first rest is = is

none_first : {X : Type 0} (b : Bool) (x : X) (first rest : Option X) → first ≡ rest → first ≡ cond (b && false) (Some x) rest
none_first true x first rest is = is
none_first false x first rest is = is

module _ {X : Type 0} (p q : X → Bool) where
  any_kept : (c : Bool) (x : X) (kept : List X) (rest : Bool) → list_any p kept ≡ rest → list_any p (cond c (x ∷ kept) kept) ≡ ((p x && c) || rest)
  any_kept true x kept rest is = same_or (p x) (list_any p kept) rest is
  any_kept false x kept rest is = none_or (p x) (list_any p kept) rest is

  pub any_passed : (xs : List X) → list_any p (filter q xs) ≡ list_any (λ x. p x && q x) xs
  any_passed [] = refl
  any_passed (x ∷ xs) = any_kept (q x) x (filter q xs) (list_any (λ y. p y && q y) xs) (any_passed xs)

  found_kept : (c : Bool) (x : X) (kept : List X) (rest : Option X) → find p kept ≡ rest → find p (cond c (x ∷ kept) kept) ≡ cond (p x && c) (Some x) rest
  found_kept true x kept rest is = same_first (p x) x (find p kept) rest is
  found_kept false x kept rest is = none_first (p x) x (find p kept) rest is

  pub found_passed : (xs : List X) → find p (filter q xs) ≡ find (λ x. p x && q x) xs
  found_passed [] = refl
  found_passed (x ∷ xs) = found_kept (q x) x (filter q xs) (find (λ y. p y && q y) xs) (found_passed xs)

-- ---- one more

module _ (opened : OpenTag) where
  -- it goes behind those of its number and of lower ones
  pub and_open-past : (xs ys : List OpenTag) → All (λ t. t.tag ≤ opened.tag) xs → and_open (xs ++ ys) opened ≡ xs ++ and_open ys opened
  and_open-past [] ys low = refl
  and_open-past (x ∷ xs) ys low = ap₂ (λ (b : Bool) (zs : List OpenTag). cond b (x ∷ zs) (opened ∷ x ∷ (xs ++ ys)))
      (le-leb x.tag opened.tag (All-head (λ t. t.tag ≤ opened.tag) x xs low)) (and_open-past xs ys (All-tail (λ t. t.tag ≤ opened.tag) x xs low))

  -- and before those of higher ones
  pub and_open-before : (ys : List OpenTag) → All (λ t. opened.tag < t.tag) ys → and_open ys opened ≡ opened ∷ ys
  and_open-before [] high = refl
  and_open-before (y ∷ ys) high = ap (λ (b : Bool). cond b (y ∷ and_open ys opened) (opened ∷ y ∷ ys)) (lt-leb y.tag opened.tag (All-head (λ t. opened.tag < t.tag) y ys high))

  longer : (b : Bool) (x : OpenTag) (xs zs : List OpenTag) → length zs ≡ length xs + 1 → length (cond b (x ∷ zs) (opened ∷ x ∷ xs)) ≡ length (x ∷ xs) + 1
  longer true x xs zs is = omega (arith, is)
  longer false x xs zs is = omega arith

  pub length-and_open : (xs : List OpenTag) → length (and_open xs opened) ≡ length xs + 1
  length-and_open [] = omega arith
  length-and_open (x ∷ xs) = longer (nat_le x.tag opened.tag) x xs (and_open xs opened) (length-and_open xs)

  module _ (P : OpenTag → Type 0) (here : P opened) where
    both : (b : Bool) (x : OpenTag) (xs zs : List OpenTag) → All P (x ∷ xs) → All P zs → All P (cond b (x ∷ zs) (opened ∷ x ∷ xs))
    both true x xs zs all later = All-cons P x zs (All-head P x xs all) later
    both false x xs zs all later = All-cons P opened (x ∷ xs) here all

    pub All-and_open : (xs : List OpenTag) → All P xs → All P (and_open xs opened)
    All-and_open [] all = All-cons P opened [] here all
    All-and_open (x ∷ xs) all = both (nat_le x.tag opened.tag) x xs (and_open xs opened) all (All-and_open xs (All-tail P x xs all))

-- ---- one closed

module _ (owner : Origin) (number : ℕ) where
  abbrev stays : OpenTag → Bool
  stays t = not (same_origin t.owner owner && (t.tag == number))

  stays_by : (same b : Bool) → b ≡ false → not (same && b) ≡ true
  stays_by true b is = ap not is
  stays_by false b is = refl

  pub closed-others : (xs : List OpenTag) → All (λ t. t.tag ≢ number) xs → closed xs owner number ≡ xs
  closed-others xs others = all_pass stays xs (All-weaker (λ t. t.tag ≢ number) (λ t. stays t ≡ true) (λ t other. stays_by (same_origin t.owner owner) (t.tag == number) (ne_eqb t.tag number other)) xs others)

  same_by : (same b : Bool) → b ≡ true → not (same && b) ≡ not same
  same_by true b is = ap not is
  same_by false b is = refl

  pub closed-own : (xs : List OpenTag) → All (λ t. t.tag ≡ number) xs → closed xs owner number ≡ filter (λ t. not (same_origin t.owner owner)) xs
  closed-own [] own = refl
  closed-own (x ∷ xs) own = ap₂ (λ (b : Bool) (ys : List OpenTag). cond b (x ∷ ys) ys)
      (same_by (same_origin x.owner owner) (x.tag == number) (eq-eqb x.tag number (All-head (λ t. t.tag ≡ number) x xs own)))
      (closed-own xs (All-tail (λ t. t.tag ≡ number) x xs own))

-- ---- the lists of the numbers from one on

module _ {Z : Type 0} where
  abbrev pub joined : List (Vec OpenTag Z) → List OpenTag
  joined numbers = flat_map (λ tags. tags.items) numbers

  joined_cons : (tags : Vec OpenTag Z) (later : List (Vec OpenTag Z)) → joined (tags ∷ later) ≡ tags.items ++ joined later
  joined_cons tags later = flat_map-cons (λ (one : Vec OpenTag Z). one.items) tags later

  -- none is lower
  pub joined_from : (numbers : List (Vec OpenTag Z)) (first : ℕ) → AreNumbered first numbers → All (λ t. first ≤ t.tag) (joined numbers)
  joined_from [] first are = All-nil (λ (t : OpenTag). first ≤ t.tag)
  joined_from (tags ∷ later) first are = All-append (λ (t : OpenTag). first ≤ t.tag) tags.items (joined later)
      (All-weaker (λ t. t.tag ≡ first) (λ t. first ≤ t.tag) (λ t is. omega (arith, is)) tags.items are.0)
      (All-weaker (λ t. first + 1 ≤ t.tag) (λ t. first ≤ t.tag) (λ t le. omega (arith, le)) (joined later) (joined_from later (first + 1) are.1))

  none_later : (later : List (Vec OpenTag Z)) (first number : ℕ) → AreNumbered first later → number < first → filter (λ t. t.tag == number) (joined later) ≡ []
  none_later later first number are low = none_pass (λ (t : OpenTag). t.tag == number) (joined later)
      (All-weaker (λ t. first ≤ t.tag) (λ t. (t.tag == number) ≡ false) (λ t le. ne_eqb t.tag number (λ same. absurd (omega (arith, le, low, same)))) (joined later) (joined_from later first are))

  -- those of one number are the list that stands at its place
  pub at_number : (numbers : List (Vec OpenTag Z)) (first place number : ℕ) (d : Vec OpenTag Z) → AreNumbered first numbers → place < length numbers → number ≡ first + place
      → filter (λ t. t.tag == number) (joined numbers) ≡ (get_or numbers place d).items
  at_number [] first place number d are within is = absurd (omega (arith, within))
  at_number (tags ∷ later) first zero number d are within is =
      ap (filter (λ (t : OpenTag). t.tag == number)) (joined_cons tags later) ∙ filter-append (λ (t : OpenTag). t.tag == number) tags.items (joined later)
      ∙ ap₂ (λ (xs ys : List OpenTag). xs ++ ys)
      (all_pass (λ (t : OpenTag). t.tag == number) tags.items (All-weaker (λ t. t.tag ≡ first) (λ t. (t.tag == number) ≡ true) (λ t here. eq-eqb t.tag number (omega (arith, here, is))) tags.items are.0))
      (none_later later (first + 1) number are.1 (omega (arith, is)))
      ∙ append-nil tags.items
  at_number (tags ∷ later) first (suc place) number d are within is =
      ap (filter (λ (t : OpenTag). t.tag == number)) (joined_cons tags later) ∙ filter-append (λ (t : OpenTag). t.tag == number) tags.items (joined later)
      ∙ ap₂ (λ (xs ys : List OpenTag). xs ++ ys)
      (none_pass (λ (t : OpenTag). t.tag == number) tags.items (All-weaker (λ t. t.tag ≡ first) (λ t. (t.tag == number) ≡ false) (λ t here. ne_eqb t.tag number (λ same. absurd (omega (arith, here, is, same)))) tags.items are.0))
      (at_number later (first + 1) place number d are.1 (omega (arith, within)) (omega (arith, is)))

  -- the list of one number is another one
  pub numbered-set : (numbers : List (Vec OpenTag Z)) (first place number : ℕ) (other : Vec OpenTag Z) → AreNumbered first numbers → number ≡ first + place → All (λ t. t.tag ≡ number) other.items
      → AreNumbered first (set numbers place other)
  numbered-set [] first place number other are is own = are
  numbered-set (tags ∷ later) first zero number other are is own = (All-weaker (λ t. t.tag ≡ number) (λ t. t.tag ≡ first) (λ t here. omega (arith, here, is)) other.items own, are.1)
  numbered-set (tags ∷ later) first (suc place) number other are is own = (are.0, numbered-set later (first + 1) place number other are.1 (omega (arith, is)) own)

  pub numbered-at : (numbers : List (Vec OpenTag Z)) (first place number : ℕ) (d : Vec OpenTag Z) → AreNumbered first numbers → place < length numbers → number ≡ first + place → All (λ t. t.tag ≡ number) (get_or numbers place d).items
  numbered-at [] first place number d are within is = absurd (omega (arith, within))
  numbered-at (tags ∷ later) first zero number d are within is = All-weaker (λ t. t.tag ≡ first) (λ t. t.tag ≡ number) (λ t here. omega (arith, here, is)) tags.items are.0
  numbered-at (tags ∷ later) first (suc place) number d are within is = numbered-at later (first + 1) place number d are.1 (omega (arith, within)) (omega (arith, is))

  pub length-joined_set : (numbers : List (Vec OpenTag Z)) (place : ℕ) (other d : Vec OpenTag Z) → place < length numbers
      → length (joined (set numbers place other)) + length (get_or numbers place d).items ≡ length (joined numbers) + length other.items
  length-joined_set [] place other d within = absurd (omega (arith, within))
  length-joined_set (tags ∷ later) zero other d within =
      let new = ap length (joined_cons other later) ∙ length-append other.items (joined later) in
      let old = ap length (joined_cons tags later) ∙ length-append tags.items (joined later) in
      omega (arith, new, old)
  length-joined_set (tags ∷ later) (suc place) other d within =
      let new = ap length (joined_cons tags (set later place other)) ∙ length-append tags.items (joined (set later place other)) in
      let old = ap length (joined_cons tags later) ∙ length-append tags.items (joined later) in
      let rest = length-joined_set later place other d (omega (arith, within)) in
      omega (arith, new, old, rest)

  pub joined-same : (numbers : List (Vec OpenTag Z)) (place : ℕ) (other d : Vec OpenTag Z) → place < length numbers → other.items ≡ (get_or numbers place d).items → joined (set numbers place other) ≡ joined numbers
  joined-same [] place other d within same = refl
  joined-same (tags ∷ later) zero other d within same = joined_cons other later ∙ ap (λ (xs : List OpenTag). xs ++ joined later) same ∙ sym (joined_cons tags later)
  joined-same (tags ∷ later) (suc place) other d within same =
      joined_cons tags (set later place other) ∙ ap (λ (ys : List OpenTag). tags.items ++ ys) (joined-same later place other d (omega (arith, within)) same) ∙ sym (joined_cons tags later)

  -- one more of a number
  pub joined-opened : (numbers : List (Vec OpenTag Z)) (first place : ℕ) (other d : Vec OpenTag Z) (opened : OpenTag) → AreNumbered first numbers → place < length numbers → opened.tag ≡ first + place
      → other.items ≡ (get_or numbers place d).items ++ opened ∷ [] → joined (set numbers place other) ≡ and_open (joined numbers) opened
  joined-opened [] first place other d opened are within is more = absurd (omega (arith, within))
  joined-opened (tags ∷ later) first zero other d opened are within is more =
      joined_cons other later ∙ ap (λ (xs : List OpenTag). xs ++ joined later) more ∙ append_assoc tags.items (opened ∷ []) (joined later)
      ∙ ap (λ (ys : List OpenTag). tags.items ++ ys) (sym (and_open-before opened (joined later) (All-weaker (λ t. first + 1 ≤ t.tag) (λ t. opened.tag < t.tag) (λ t le. omega (arith, le, is)) (joined later) (joined_from later (first + 1) are.1))))
      ∙ sym (and_open-past opened tags.items (joined later) (All-weaker (λ t. t.tag ≡ first) (λ t. t.tag ≤ opened.tag) (λ t here. omega (arith, here, is)) tags.items are.0))
      ∙ sym (ap (λ (xs : List OpenTag). and_open xs opened) (joined_cons tags later))
  joined-opened (tags ∷ later) first (suc place) other d opened are within is more =
      joined_cons tags (set later place other)
      ∙ ap (λ (ys : List OpenTag). tags.items ++ ys) (joined-opened later (first + 1) place other d opened are.1 (omega (arith, within)) (omega (arith, is)) more)
      ∙ sym (and_open-past opened tags.items (joined later) (All-weaker (λ t. t.tag ≡ first) (λ t. t.tag ≤ opened.tag) (λ t here. omega (arith, here, is)) tags.items are.0))
      ∙ sym (ap (λ (xs : List OpenTag). and_open xs opened) (joined_cons tags later))

  -- one of a number is closed
  pub joined-closed : (numbers : List (Vec OpenTag Z)) (first place number : ℕ) (other d : Vec OpenTag Z) (owner : Origin) → AreNumbered first numbers → place < length numbers → number ≡ first + place
      → other.items ≡ filter (λ t. not (same_origin t.owner owner)) (get_or numbers place d).items → joined (set numbers place other) ≡ closed (joined numbers) owner number
  joined-closed [] first place number other d owner are within is shut = absurd (omega (arith, within))
  joined-closed (tags ∷ later) first zero number other d owner are within is shut =
      joined_cons other later
      ∙ ap₂ (λ (xs ys : List OpenTag). xs ++ ys)
      (shut ∙ sym (closed-own owner number tags.items (All-weaker (λ t. t.tag ≡ first) (λ t. t.tag ≡ number) (λ t here. omega (arith, here, is)) tags.items are.0)))
      (sym (closed-others owner number (joined later) (All-weaker (λ t. first + 1 ≤ t.tag) (λ t. t.tag ≢ number) (λ t le same. absurd (omega (arith, le, is, same))) (joined later) (joined_from later (first + 1) are.1))))
      ∙ sym (filter-append (stays owner number) tags.items (joined later))
      ∙ sym (ap (λ (xs : List OpenTag). closed xs owner number) (joined_cons tags later))
  joined-closed (tags ∷ later) first (suc place) number other d owner are within is shut =
      joined_cons tags (set later place other)
      ∙ ap₂ (λ (xs ys : List OpenTag). xs ++ ys)
      (sym (closed-others owner number tags.items (All-weaker (λ t. t.tag ≡ first) (λ t. t.tag ≢ number) (λ t here same. absurd (omega (arith, here, is, same))) tags.items are.0)))
      (joined-closed later (first + 1) place number other d owner are.1 (omega (arith, within)) (omega (arith, is)) shut)
      ∙ sym (filter-append (stays owner number) tags.items (joined later))
      ∙ sym (ap (λ (xs : List OpenTag). closed xs owner number) (joined_cons tags later))

  -- where each is empty
  pub numbered-none : (numbers : List (Vec OpenTag Z)) (first : ℕ) → All (λ tags. tags.items ≡ []) numbers → AreNumbered first numbers
  numbered-none [] first none = tt
  numbered-none (tags ∷ later) first none =
      let here = All-head (λ (one : Vec OpenTag Z). one.items ≡ []) tags later none in
      (All-same (λ (t : OpenTag). t.tag ≡ first) tags.items [] here (All-nil (λ (t : OpenTag). t.tag ≡ first)), numbered-none later (first + 1) (All-tail (λ (one : Vec OpenTag Z). one.items ≡ []) tags later none))

  pub joined-none : (numbers : List (Vec OpenTag Z)) → All (λ tags. tags.items ≡ []) numbers → joined numbers ≡ []
  joined-none [] none = refl
  joined-none (tags ∷ later) none =
      joined_cons tags later ∙ ap₂ (λ (xs ys : List OpenTag). xs ++ ys) (All-head (λ (one : Vec OpenTag Z). one.items ≡ []) tags later none) (joined-none later (All-tail (λ (one : Vec OpenTag Z). one.items ≡ []) tags later none))
