-- What an index has once a place is noted in it.
use Rattle.std.proofs.Common.{◌≡◌, ◌≢◌, ℕ, zero, suc, ◌<◌, ◌==◌, ◌⊎◌, inl, inr, Bool, true, false, if◌then◌else◌, length, set, get_or, replicate, Option, Some, None, refl, sym, ap, ◌∙◌, eq-eqb, eqb-true}
use Rattle.std.proofs.lemmas.Bool.{cases_eq}
use Rattle.std.proofs.lemmas.List.{get_or-set_same, get_or-set_other}
use Rattle.fab_types.specs.declared.origin.Origin.{Origin}
use Rattle.fab_types.specs.declared.origin.Origin.TheVariants.{Function, Host}
use Rattle.fab_types.specs.Id.{bus_of}
use Rattle.outboxes.specs.declared.origin_index.Noted.{Noted}
use Rattle.outboxes.specs.declared.origin_index.OriginIndex.{OriginIndex}
use Rattle.outboxes.specs.OriginIndexes.{IsNoted, entry_for, noted_place}

-- nothing stands in a list of nothing
pub none_there : {X : Type 0} (n i : ℕ) → get_or {A = Option X} (replicate n None) i None ≡ None
none_there zero i = refl
none_there (suc n) zero = refl
none_there (suc n) (suc i) = none_there n i

abbrev pub with_function : OriginIndex → ℕ → ℕ → OriginIndex
with_function index f place = record { by_bus = set index.by_bus (bus_of f) (Some (record { function = f; place = place })); by_domain = index.by_domain }

abbrev pub with_host : OriginIndex → ℕ → ℕ → OriginIndex
with_host index n place = record { by_bus = index.by_bus; by_domain = set index.by_domain n (Some place) }

own_entry : (f place : ℕ) → entry_for (Some (record { function = f; place = place })) f ≡ Some place
own_entry f place = ap (λ (b : Bool). if b then Some place else None) (eq-eqb f f refl)

pub function_noted : (index : OriginIndex) (f place : ℕ) → bus_of f < length index.by_bus → noted_place (with_function index f place) (Function f) ≡ Some place
unfolding noted_place
function_noted index f place within =
    ap (λ (o : Option Noted). entry_for o f) (get_or-set_same index.by_bus (bus_of f) (Some (record { function = f; place = place })) None within) ∙ own_entry f place

pub host_noted : (index : OriginIndex) (n place : ℕ) → n < length index.by_domain → noted_place (with_host index n place) (Host n) ≡ Some place
unfolding noted_place
host_noted index n place within = get_or-set_same index.by_domain n (Some place) None within

entry_is : (f place other there : ℕ) → entry_for (Some (record { function = f; place = place })) other ≡ Some there → (Function other ≡ Function f) × (there ≡ place)
entry_is f place other there found = go (f == other) refl found
  where
    go : (b : Bool) → (f == other) ≡ b → (if b then Some place else None) ≡ Some there → (Function other ≡ Function f) × (there ≡ place)
    go true same h = (ap Function (sym (eqb-true f other same)), cc)
    go false apart h = absurd cc

pub function_others : (index : OriginIndex) (f place : ℕ) → bus_of f < length index.by_bus → (other : Origin) (there : ℕ) → noted_place (with_function index f place) other ≡ Some there
    → IsNoted (Function f) place (noted_place index other) other there
unfolding noted_place
function_others index f place within (Host n) there found = inr found
function_others index f place within (Function other) there found = go (cases_eq (bus_of other) (bus_of f))
  where
    new : Option Noted
    new = Some (record { function = f; place = place })

    go : (bus_of other ≡ bus_of f) ⊎ (bus_of other ≢ bus_of f) → IsNoted (Function f) place (entry_for (get_or index.by_bus (bus_of other) None) other) (Function other) there
    go (inl here) =
        let there_is : get_or (set index.by_bus (bus_of f) new) (bus_of other) None ≡ new =
        ap (λ (b : ℕ). get_or (set index.by_bus (bus_of f) new) b None) here ∙ get_or-set_same index.by_bus (bus_of f) new None within in
        inl (entry_is f place other there (sym (ap (λ (o : Option Noted). entry_for o other) there_is) ∙ found))
    go (inr apart) = inr (sym (ap (λ (o : Option Noted). entry_for o other) (get_or-set_other index.by_bus (bus_of f) (bus_of other) new None apart)) ∙ found)

pub host_others : (index : OriginIndex) (n place : ℕ) → n < length index.by_domain → (other : Origin) (there : ℕ) → noted_place (with_host index n place) other ≡ Some there
    → IsNoted (Host n) place (noted_place index other) other there
unfolding noted_place
host_others index n place within (Function f) there found = inr found
host_others index n place within (Host other) there found = go (cases_eq other n)
  where
    go : (other ≡ n) ⊎ (other ≢ n) → IsNoted (Host n) place (get_or index.by_domain other None) (Host other) there
    go (inl here) =
        let there_is : get_or (set index.by_domain n (Some place)) other None ≡ Some place =
        ap (λ (k : ℕ). get_or (set index.by_domain n (Some place)) k None) here ∙ get_or-set_same index.by_domain n (Some place) None within in
        inl (ap Host here, some_is there place (sym there_is ∙ found))
      where
        some_is : (a b : ℕ) → Some b ≡ Some a → a ≡ b
        some_is a b h = cc
    go (inr apart) = inr (sym (get_or-set_other index.by_domain n other (Some place) None apart) ∙ found)
