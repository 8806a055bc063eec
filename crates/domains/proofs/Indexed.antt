-- Places that an index of domains gives, and entries that leave them as they are.
use Rattle.std.proofs.Common.{◌≡◌, ℕ, ◌<◌, ◌==◌, Bool, true, cond, List, [], ◌∷◌, ◌++◌, length, get_or, set, take, drop, Some, None, sym, ap, ◌∙◌, length-set, eqb-true}
use Rattle.std.specs.Prelude.{Result, Ok, Err, IfOk, OnErr, nat_lt}
use Rattle.std.specs.List.{position, position_or_len}
use Rattle.std.proofs.Math.Seq.{take-append_seam}
use Rattle.std.proofs.lemmas.List.Folds.{position_or_len-set}
use Rattle.std.proofs.lemmas.List.Quantifiers.{position-Some}
use Rattle.std.proofs.lemmas.Option.{get_or_from_slice_get}
use Rattle.fab_types.specs.declared.origin.Origin.{Origin}
use Rattle.fab_types.specs.declared.origin.Origin.TheVariants.{Function, Host}
use Rattle.platform.specs.Owners.{is_own_function}
use Rattle.platform.specs.Share.{Share}
use Rattle.outboxes.specs.declared.origin_index.OriginIndex.{OriginIndex}
use Rattle.domain.specs.Domains.{DomainView}
use Rattle.domains.specs.Indexes.{IsIndexOf, place_of_origin}
use Rattle.domains.specs.Domains.{IsHome, place_of, place_of_function}

-- ---- where a domain stands

-- the first that passes is one of the list
position_within : {X : Type 0} (p : X → Bool) (xs : List X) (i : ℕ) → position p xs ≡ Some i → i < length xs
position_within p [] i at = absurd cc
position_within p (x ∷ xs) i at = (position-Some p (x ∷ xs) i x at).0

pub place_within : (ds : List DomainView) (number place : ℕ) → place_of ds number ≡ Some place → place < length ds
unfolding place_of
place_within ds number place at = position_within (λ d. d.share.domain == number) ds place at

pub function_within : (ds : List DomainView) (function place : ℕ) → place_of_function ds function ≡ Some place → place < length ds
unfolding place_of_function
function_within ds function place at = position_within (λ d. is_own_function d.share function) ds place at

-- the domain that stands there has the number
pub found_home : (ds : List DomainView) (number place : ℕ) → place_of ds number ≡ Some place → IsHome ds place number
unfolding place_of
found_home ds number place at d there =
    let passes : ((get_or ds place d).share.domain == number) ≡ true = (position-Some (λ (x : DomainView). x.share.domain == number) ds place d at).1 in
    ap (λ (x : DomainView). x.share.domain) (sym (get_or_from_slice_get ds place d d there)) ∙ eqb-true _ _ passes

-- ---- an entry

-- what an entry of a domain leaves is of the same share
pub share_kept : {T E : Type 0} (P : T → Type 0) (old new : DomainView) (r : Result T E) → ((x : T) → P x → new.share ≡ old.share) → IfOk r P → OnErr r (new ≡ old) → new.share ≡ old.share
share_kept P old new (Ok x) shares ok err = shares x ok
share_kept P old new (Err x) shares ok err = ap (λ (d : DomainView). d.share) err

-- the first domain whose share passes stands where it stood
first_stays : (p : Share → Bool) (ds : List DomainView) (i : ℕ) (read new : DomainView) → new.share ≡ (get_or ds i read).share → position (λ d. p d.share) (set ds i new) ≡ position (λ d. p d.share) ds
first_stays p ds i read new same =
    let q : DomainView → Bool = λ d. p d.share in
    let first : position_or_len q (set ds i new) ≡ position_or_len q ds = position_or_len-set q ds i new read (ap p same) in
    ap (λ (n : ℕ). cond (nat_lt (position_or_len q (set ds i new)) n) (Some (position_or_len q (set ds i new))) None) (length-set ds i new)
    ∙ ap (λ (n : ℕ). cond (nat_lt n (length ds)) (Some n) None) first

-- and so do the domains of all functions and hosts
pub places_stay : (ds : List DomainView) (i : ℕ) (read new : DomainView) → new.share ≡ (get_or ds i read).share → (origin : Origin) → place_of_origin (set ds i new) origin ≡ place_of_origin ds origin
unfolding place_of place_of_function
places_stay ds i read new same (Function f) = first_stays (λ s. is_own_function s f) ds i read new same
places_stay ds i read new same (Host n) = first_stays (λ s. s.domain == n) ds i read new same

-- an index stays one of the domains that a slice of them leaves in their vector
pub index_stays : (index : OriginIndex) (old new lent : List DomainView) (n : ℕ) → length new ≡ length lent → length lent ≡ n → lent ≡ old
    → ((origin : Origin) → place_of_origin new origin ≡ place_of_origin lent origin) → IsIndexOf index old → IsIndexOf index (take n (new ++ drop (length new) old))
index_stays index old new lent n long many same places is origin place found =
    let whole : take n (new ++ drop (length new) old) ≡ new = ap (λ (k : ℕ). take k (new ++ drop (length new) old)) (sym (long ∙ many)) ∙ take-append_seam new (drop (length new) old) in
    ap (λ (ds : List DomainView). place_of_origin ds origin) whole ∙ places origin ∙ ap (λ (ds : List DomainView). place_of_origin ds origin) same ∙ is origin place found
