-- What is told of two domains, or of one way more.
use Rattle.std.proofs.Common.{◌≡◌, ◌≢◌, ℕ, suc, ◌+◌, ◌<◌, ◌≤◌, Bool, true, false, List, [], ◌∷◌, ◌++◌, length, take, drop, Option, Some, None, refl, subst, sym, ap, ◌∙◌, append_assoc, ⊎_elim}
use Rattle.std.specs.Prelude.{All, ◌==◌, is_some, map, slice_index_or, if◌then◌else◌}
use Rattle.std.specs.List.{flat_map}
use Rattle.std.specs.Option.{option_to_list}
use Rattle.std.proofs.Math.Seq.{split_at}
use Rattle.std.proofs.lemmas.Bool.{false≢true}
use Rattle.std.proofs.lemmas.Bool.Decides.{eqb_tells}
use Rattle.std.proofs.lemmas.Grind.{flat_map-append}
use Rattle.std.proofs.lemmas.List.{append-nil, map-append, take_more}
use Rattle.std.proofs.lemmas.List.Elements.{All-append, All-cons, All-nil}
use Rattle.fab_types.proofs.Taking.{take_all, take_next}
use Rattle.platform.specs.Platform.{Platform}
use Rattle.platform.specs.Share.{Share}
use Rattle.domain.specs.Domains.{DomainView}
use Rattle.fabric_core.specs.World.{World, world_of}
use Rattle.attacks.specs.Tries.{own_ids, tries}
use Rattle.attacks.specs.declared.attack.Attack.{Attack}
use Rattle.attacks.specs.declared.attack.Way.{Way}
use Rattle.attacks.specs.declared.findings.Pair.{Pair}
use Rattle.attacks.specs.declared.findings.Witness.{Witness}
use Rattle.audit.specs.Landing.{Fails, Lands}
use Rattle.audit.specs.Telling.{Adds, AddsFound, AreFound, ArePairsOf, IsFirst, IsFound, IsPairOf, attempts, candidates, couple_of, couples, couples_of, target, trier, witness_by}

-- ---- requests

-- one more fails
pub fails_more : {X : Type 0} (p : Platform) (f : X → Witness) (xs : List X) (i : ℕ) (x : X) → i < length xs → x ≡ slice_index_or xs i x
    → All (Fails p) (map f (take i xs)) → Fails p (f x) → All (Fails p) (map f (take (i + 1) xs))
fails_more {X = X} p f xs i x lt is before now =
    let list : map f (take (i + 1) xs) ≡ map f (take i xs) ++ f x ∷ [] = ap (map f) (take_next xs i x lt is) ∙ map-append f (take i xs) (x ∷ []) in
    subst (All (Fails p)) (sym list) (All-append (Fails p) (map f (take i xs)) (f x ∷ []) before (All-cons (Fails p) (f x) [] now (All-nil (Fails p))))

-- each fails
pub all_fail : {X : Type 0} (p : Platform) (f : X → Witness) (xs : List X) (i : ℕ) → length xs ≤ i → All (Fails p) (map f (take i xs)) → All (Fails p) (map f xs)
all_fail {X = X} p f xs i le h = subst (λ (l : List X). All (Fails p) (map f l)) (take_all xs i le) h

-- the first that lands
pub found_at : {X : Type 0} (p : Platform) (f : X → Witness) (xs : List X) (i : ℕ) (x : X) (w : Witness) → i < length xs → x ≡ slice_index_or xs i x
    → All (Fails p) (map f (take i xs)) → w ≡ f x → Lands p w → IsFound p (map f xs) (Some w)
found_at {X = X} p f xs i x w lt is before same lands = record {
  before = map f (take i xs);
  after = map f (drop (suc i) xs);
  all = ap (map f) (split_at xs i x lt)
      ∙ (map-append f (take i xs) (slice_index_or xs i x ∷ drop (suc i) xs) ∙ ap (λ (z : Witness). map f (take i xs) ++ z ∷ map f (drop (suc i) xs)) (sym (same ∙ ap f is)));
  fail = before;
  lands = lands;
}

-- ---- functions in turn

-- what is listed of one more
listed_next : {X Y : Type 0} (g : X → List Y) (xs : List X) (i : ℕ) (x : X) → i < length xs → x ≡ slice_index_or xs i x → flat_map g (take (i + 1) xs) ≡ flat_map g (take i xs) ++ g x
listed_next {Y = Y} g xs i x lt is =
    let one : flat_map g (x ∷ []) ≡ g x = append-nil (g x) in
    ap (flat_map g) (take_next xs i x lt is) ∙ (flat_map-append g (take i xs) (x ∷ []) ∙ ap (λ (l : List Y). flat_map g (take i xs) ++ l) one)

-- what is listed of one, and of those before and behind it
listed_about : {X Y : Type 0} (g : X → List Y) (xs : List X) (i : ℕ) (x : X) → i < length xs → x ≡ slice_index_or xs i x → flat_map g xs ≡ flat_map g (take i xs) ++ (g x ++ flat_map g (drop (suc i) xs))
listed_about {X = X} g xs i x lt is =
    ap (flat_map g) (split_at xs i x lt ∙ ap (λ (y : X). take i xs ++ y ∷ drop (suc i) xs) (sym is)) ∙ flat_map-append g (take i xs) (x ∷ drop (suc i) xs)

module _ {X Y : Type 0} (p : Platform) (f : Y → Witness) (g : X → List Y) (xs : List X) (i : ℕ) (x : X) (lt : i < length xs) (is : x ≡ slice_index_or xs i x) (before : All (Fails p) (map f (flat_map g (take i xs)))) where
  -- where none of one more lands either
  none_of_next : All (Fails p) (map f (g x)) → All (Fails p) (map f (flat_map g (take (i + 1) xs)))
  none_of_next now =
      let list : map f (flat_map g (take (i + 1) xs)) ≡ map f (flat_map g (take i xs)) ++ map f (g x) = ap (map f) (listed_next g xs i x lt is) ∙ map-append f (flat_map g (take i xs)) (g x) in
      subst (All (Fails p)) (sym list) (All-append (Fails p) (map f (flat_map g (take i xs))) (map f (g x)) before now)

  -- the first of one more is the first of all
  first_of_next : (w : Witness) → IsFirst p (map f (g x)) w → IsFirst p (map f (flat_map g xs)) w
  first_of_next w first =
      let ahead : List Witness = map f (flat_map g (take i xs)) in
      let behind : List Witness = map f (flat_map g (drop (suc i) xs)) in
      let rest : map f (g x ++ flat_map g (drop (suc i) xs)) ≡ first.before ++ (w ∷ first.after ++ behind) =
      map-append f (g x) (flat_map g (drop (suc i) xs)) ∙ (ap (λ (l : List Witness). l ++ behind) first.all ∙ append_assoc first.before (w ∷ first.after) behind) in record {
        before = ahead ++ first.before;
        after = first.after ++ behind;
        all = ap (map f) (listed_about g xs i x lt is)
            ∙ (map-append f (flat_map g (take i xs)) (g x ++ flat_map g (drop (suc i) xs))
            ∙ (ap (λ (l : List Witness). ahead ++ l) rest ∙ sym (append_assoc ahead first.before (w ∷ first.after ++ behind))));
        fail = All-append (Fails p) ahead first.before before first.fail;
        lands = first.lands;
      }

  pub next_lands : (found : Option Witness) → is_some found ≡ true → IsFound p (map f (g x)) found → IsFound p (map f (flat_map g xs)) found
  next_lands None some h = absurd (false≢true some)
  next_lands (Some w) some h = first_of_next w h

  pub next_fails : (found : Option Witness) → is_some found ≡ false → IsFound p (map f (g x)) found → All (Fails p) (map f (flat_map g (take (i + 1) xs)))
  next_fails None none h = none_of_next h
  next_fails (Some w) none h = absurd (false≢true (sym none))

-- none of all
pub none_of_all : {X Y : Type 0} (p : Platform) (f : Y → Witness) (g : X → List Y) (xs : List X) (i : ℕ) → length xs ≤ i → All (Fails p) (map f (flat_map g (take i xs))) → All (Fails p) (map f (flat_map g xs))
none_of_all {X = X} p f g xs i le h = subst (λ (l : List X). All (Fails p) (map f (flat_map g l))) (take_all xs i le) h

-- among what one function tries
pub found_by_one : (p : Platform) (t : Share) (by : Way) (one other function : ℕ) (attacks : List Attack) (found : Option Witness) → attacks ≡ tries p by function t
    → IsFound p (map (witness_by one other) attacks) found → IsFound p (map (witness_by one other) (tries p by function t)) found
found_by_one p t by one other function attacks found attacks_is h =
    subst (λ (l : List Attack). IsFound p (map (witness_by one other) l) found) attacks_is h

-- among what these functions try against a target
pub found_of : (p : Platform) (a v r t : Share) (by : Way) (one other : ℕ) (own : List ℕ) (found : Option Witness) → one ≡ a.domain → other ≡ v.domain → own ≡ own_ids r
    → r ≡ trier by a v → t ≡ target by a v
    → IsFound p (map (witness_by one other) (attempts p by own t)) found → IsFound p (candidates p a v by) found
found_of p a v r t by one other own found one_is other_is own_is r_is t_is h =
    let first = subst (λ (n : ℕ). IsFound p (map (witness_by n other) (attempts p by own t)) found) one_is h in
    let second = subst (λ (n : ℕ). IsFound p (map (witness_by a.domain n) (attempts p by own t)) found) other_is first in
    let third = subst (λ (l : List ℕ). IsFound p (map (witness_by a.domain v.domain) (attempts p by l t)) found) own_is second in
    let fourth = subst (λ (s : Share). IsFound p (map (witness_by a.domain v.domain) (attempts p by (own_ids s) t)) found) r_is third in
    subst (λ (s : Share). IsFound p (map (witness_by a.domain v.domain) (attempts p by (own_ids (trier by a v)) s)) found) t_is fourth

-- ---- ways

found_more : (p : Platform) (a v : Share) (these : List Way) (one : Way) (told more : List Witness) (found : Option Witness)
    → AreFound p a v these told → IsFound p (candidates p a v one) found → more ≡ told ++ option_to_list found → AreFound p a v (these ++ one ∷ []) more
found_more p a v [] one told more found before now e =
    (found, [], now, refl, e ∙ (ap (λ (ws : List Witness). ws ++ option_to_list found) before ∙ sym (append-nil (option_to_list found))))
found_more p a v (w ∷ ws) one told more found before now e = (
  before.0,
  before.1 ++ option_to_list found,
  before.2,
  found_more p a v ws one before.1 (before.1 ++ option_to_list found) found before.3 now refl,
  e ∙ (ap (λ (l : List Witness). l ++ option_to_list found) before.4 ∙ append_assoc (option_to_list before.0) before.1 (option_to_list found)),
)

-- that of one way more
pub found_next : (p : Platform) (a v : Share) (ws : List Way) (i : ℕ) (d : Way) (told more : List Witness) → i < length ws → AreFound p a v (take i ws) told
    → AddsFound p (candidates p a v (slice_index_or ws i d)) told more → AreFound p a v (take (i + 1) ws) more
found_next p a v ws i d told more lt before now =
    let list : take (i + 1) ws ≡ take i ws ++ slice_index_or ws i d ∷ [] = take_more ws i d lt in
    subst (λ (l : List Way). AreFound p a v l more) (sym list) (found_more p a v (take i ws) (slice_index_or ws i d) told more now.found before now.is now.all)

pub found_first : (p : Platform) (a v : Share) (ws : List Way) (told : List Witness) → told ≡ [] → AreFound p a v (take 0 ws) told
found_first p a v [] told none = none
found_first p a v (w ∷ ws) told none = none

-- those of all ways
pub found_all : (p : Platform) (a v : Share) (ws : List Way) (i : ℕ) (told : List Witness) → length ws ≤ i → AreFound p a v (take i ws) told → AreFound p a v ws told
found_all p a v ws i told le h = subst (λ (l : List Way). AreFound p a v l told) (take_all ws i le) h

-- ---- pairs

pairs_append : (p : Platform) (cs ds : List (DomainView × DomainView)) (ps qs : List Pair) → ArePairsOf p cs ps → ArePairsOf p ds qs → ArePairsOf p (cs ++ ds) (ps ++ qs)
pairs_append p [] ds ps qs before more = subst (λ (l : List Pair). ArePairsOf p ds (l ++ qs)) (sym before) more
pairs_append p (c ∷ cs) ds ps qs before more =
    (before.0, before.1 ++ qs, before.2, pairs_append p cs ds before.1 qs before.3 more, ap (λ (l : List Pair). l ++ qs) before.4)

adds_unless : (p : Platform) (same : Bool) (a v : DomainView) (pair : Pair) (old new : List Pair) → same ≡ false → IsPairOf p a.share v.share pair → new ≡ old ++ pair ∷ []
    → Adds p (if same then [] else (a, v) ∷ []) old new
adds_unless p true a v pair old new clear is e = absurd (false≢true (sym clear))
adds_unless p false a v pair old new clear is e = record { added = pair ∷ []; of = (pair, [], is, refl, refl); all = e }

differ : (m n : ℕ) → m ≢ n → (m == n) ≡ false
differ m n other = ⊎_elim (λ (h : ((m == n) ≡ true) × (m ≡ n)). absurd (other h.1)) (λ (h : ((m == n) ≡ false) × (m ≢ n)). h.0) (eqb_tells m n)

pub adds_couple : (p : Platform) (a v : DomainView) (s t : Share) (pair : Pair) (old new : List Pair) → s ≡ a.share → t ≡ v.share → a.share.domain ≢ v.share.domain
    → IsPairOf p s t pair → new ≡ old ++ pair ∷ [] → Adds p (couple_of a v) old new
adds_couple p a v s t pair old new s_is t_is other is e =
    let first = subst (λ (x : Share). IsPairOf p x t pair) s_is is in
    let second = subst (λ (x : Share). IsPairOf p a.share x pair) t_is first in
    adds_unless p (a.share.domain == v.share.domain) a v pair old new (differ a.share.domain v.share.domain other) second e

adds_more : (p : Platform) (cs ds all : List (DomainView × DomainView)) (old mid new : List Pair) → all ≡ cs ++ ds → Adds p cs old mid → Adds p ds mid new → Adds p all old new
adds_more p cs ds all old mid new e before now = record {
  added = before.added ++ now.added;
  of = subst (λ (l : List (DomainView × DomainView)). ArePairsOf p l (before.added ++ now.added)) (sym e) (pairs_append p cs ds before.added now.added before.of now.of);
  all = now.all ∙ (ap (λ (l : List Pair). l ++ now.added) before.all ∙ append_assoc old before.added now.added);
}

-- those of one domain more
pub adds_next : (p : Platform) (f : DomainView → List (DomainView × DomainView)) (xs : List DomainView) (i : ℕ) (x : DomainView) (old mid new : List Pair) → i < length xs
    → x ≡ slice_index_or xs i x → Adds p (flat_map f (take i xs)) old mid → Adds p (f x) mid new → Adds p (flat_map f (take (i + 1) xs)) old new
adds_next p f xs i x old mid new lt is before now = adds_more p (flat_map f (take i xs)) (f x) (flat_map f (take (i + 1) xs)) old mid new (listed_next f xs i x lt is) before now

pub adds_start : (p : Platform) (f : DomainView → List (DomainView × DomainView)) (xs : List DomainView) (new : List Pair) → new ≡ [] → Adds p (flat_map f (take 0 xs)) [] new
adds_start p f [] new e = record { added = []; of = refl; all = e }
adds_start p f (x ∷ xs) new e = record { added = []; of = refl; all = e }

-- those of all, where there were none
pub all_added : (p : Platform) (ds : List DomainView) (i : ℕ) (pairs : List Pair) → length ds ≤ i → Adds p (flat_map (couples_of ds) (take i ds)) [] pairs → ArePairsOf p (couples ds) pairs
all_added p ds i pairs le h =
    let all = subst (λ (l : List DomainView). Adds p (flat_map (couples_of ds) l) [] pairs) (take_all ds i le) h in
    subst (ArePairsOf p (couples ds)) (sym all.all) all.of

-- of a fabric at its start
pub pairs_from : (p q : Platform) (start : World) (ds : List DomainView) (pairs : List Pair) → start ≡ world_of p → p ≡ q → ds ≡ start.agents.domains
    → ArePairsOf p (couples ds) pairs → ArePairsOf q (couples (world_of q).agents.domains) pairs
pairs_from p q start ds pairs start_is p_is ds_is h =
    let same : ds ≡ (world_of p).agents.domains = ds_is ∙ ap (λ (w : World). w.agents.domains) start_is in
    let first = subst (λ (l : List DomainView). ArePairsOf p (couples l) pairs) same h in
    subst (λ (r : Platform). ArePairsOf r (couples (world_of r).agents.domains) pairs) p_is first
