-- Runs that are cut short: events of a sweep, and sweeps.
use Rattle.std.proofs.Common.{◌≡◌, ℕ, suc, ◌+◌, ◌-◌, ◌<◌, inl, inr, Bool, true, false, List, [], ◌∷◌, ◌++◌, take, drop, refl, sym, ap, ◌∙◌, subst, arith, append_assoc}
use Rattle.std.specs.Prelude.{◌||◌, slice_index_or, length, Result, Ok, Err, OnErr}
use Rattle.std.specs.List.{flat_map}
use Rattle.std.proofs.lemmas.List.{take-append-drop}
use Rattle.std.proofs.lemmas.Grind.{flat_map-append}
use Rattle.fab_types.specs.declared.outcome.Outcome.{Outcome}
use Rattle.fab_types.specs.declared.outcome.Outcome.TheVariants.{NoMemory}
use Rattle.fab_types.specs.declared.faults.memory.NoMemory.{NoMemory as Fault}
use Rattle.fabric_core.specs.declared.event.Event.{Event}
use Rattle.fabric_core.specs.declared.station.Station.{Station}
use Rattle.fabric_core.specs.Events.{StepsTo}
use Rattle.fabric_core.specs.Stations.{events_at}
use Rattle.fabric_core.specs.World.{World}
use Rattle.sweeps.specs.Sweeps.{CutShort, Sweeps, SweepsCutShort}
use Rattle.sweeps.proofs.Running.{sweep_then}
use Rattle.fab_types.proofs.Taking.{take_next}

-- ---- events of a sweep

-- what holds is told with any error
pub told : {T E P : Type 0} (answer : Result T E) → P → OnErr answer P
told (Ok value) h = tt
told (Err fault) h = h

-- an event that was refused memory
cut_one : (w v : World) (e : Event) → StepsTo w e NoMemory v → CutShort (e ∷ []) w v
cut_one w v e step = record {
  before = [];
  refused = e;
  behind = [];
  all = refl;
  moved = false;
  made = record { outcomes = []; run = step.2; memory = refl; moves = refl };
  lacks = subst (λ (x : World). StepsTo x e NoMemory v) (sym step.2) step;
}

-- and what is said of it, if it is want of memory
pub refused : (w v : World) (e : Event) (o : Outcome) (answer : Result Bool Fault) → OnErr answer (o ≡ NoMemory) → StepsTo w e o v → OnErr answer (CutShort (e ∷ []) w v)
refused w v e o (Ok moved) said step = tt
refused w v e o (Err fault) said step = cut_one w v e (subst (λ (p : Outcome). StepsTo w e p v) said step)

-- what stands behind it is not made
pub cut_before : (w v : World) (es fs : List Event) → CutShort es w v → CutShort (es ++ fs) w v
cut_before w v es fs cut = record {
  before = cut.before;
  refused = cut.refused;
  behind = cut.behind ++ fs;
  all = ap (λ (l : List Event). l ++ fs) cut.all ∙ append_assoc cut.before (cut.refused ∷ cut.behind) fs;
  moved = cut.moved;
  made = cut.made;
  lacks = cut.lacks;
}

-- what stands before it was made
pub cut_behind : (w v u : World) (es fs : List Event) (m : Bool) → Sweeps es w m v → CutShort fs v u → CutShort (es ++ fs) w u
cut_behind w v u es fs m first cut = record {
  before = es ++ cut.before;
  refused = cut.refused;
  behind = cut.behind;
  all = ap (λ (l : List Event). es ++ l) cut.all ∙ sym (append_assoc es cut.before (cut.refused ∷ cut.behind));
  moved = m || cut.moved;
  made = sweep_then w v u es cut.before m cut.moved first cut.made;
  lacks = cut.lacks;
}

-- the first, the second or the third of three events
pub cut_first : (w v : World) (a b c : Event) → CutShort (a ∷ []) w v → CutShort (a ∷ b ∷ c ∷ []) w v
cut_first w v a b c cut = cut_before w v (a ∷ []) (b ∷ c ∷ []) cut

pub cut_second : (w v u : World) (a b c : Event) (m : Bool) → Sweeps (a ∷ []) w m v → CutShort (b ∷ []) v u → CutShort (a ∷ b ∷ c ∷ []) w u
cut_second w v u a b c m first cut = cut_behind w v u (a ∷ []) (b ∷ c ∷ []) m first (cut_before v u (b ∷ []) (c ∷ []) cut)

pub cut_third : (w v u x : World) (a b c : Event) (m n : Bool) → Sweeps (a ∷ []) w m v → Sweeps (b ∷ []) v n u → CutShort (c ∷ []) u x → CutShort (a ∷ b ∷ c ∷ []) w x
cut_third w v u x a b c m n first second cut = cut_behind w v x (a ∷ []) (b ∷ c ∷ []) m first (cut_behind v u x (b ∷ []) (c ∷ []) n second cut)

-- ---- stations of a sweep

-- a list, at one of its elements
parts_at : {X : Type 0} (xs : List X) (i : ℕ) (x : X) → i < length xs → x ≡ slice_index_or xs i x → take i xs ++ (x ∷ drop (i + 1) xs) ≡ xs
parts_at {X = X} xs i x lt is =
    sym (append_assoc (take i xs) (x ∷ []) (drop (i + 1) xs))
    ∙ ap (λ (l : List X). l ++ drop (i + 1) xs) (sym (take_next xs i x lt is))
    ∙ take-append-drop (i + 1) xs

-- the events of all stations, at one of these
events_around : (ss : List Station) (i : ℕ) (s : Station) → i < length ss → s ≡ slice_index_or ss i s
    → flat_map events_at (take i ss) ++ (events_at s ++ flat_map events_at (drop (i + 1) ss)) ≡ flat_map events_at ss
events_around ss i s lt is = sym (flat_map-append events_at (take i ss) (s ∷ drop (i + 1) ss)) ∙ ap (flat_map events_at) (parts_at ss i s lt is)

-- the stations before one were visited, and there the sweep was cut short
pub stations_cut : (w v u : World) (ss : List Station) (i : ℕ) (s : Station) (m : Bool) → i < length ss → s ≡ slice_index_or ss i s
    → Sweeps (flat_map events_at (take i ss)) w m v → CutShort (events_at s) v u → CutShort (flat_map events_at ss) w u
stations_cut w v u ss i s m lt is so_far cut =
    subst (λ (es : List Event). CutShort es w u) (events_around ss i s lt is)
    (cut_behind w v u (flat_map events_at (take i ss)) (events_at s ++ flat_map events_at (drop (i + 1) ss)) m so_far
    (cut_before v u (events_at s) (flat_map events_at (drop (i + 1) ss)) cut))

-- ---- sweeps

-- where what is left is cut short, the whole is
abbrev pub LeadsCut : List Event → ℕ → World → ℕ → World → Type 0
LeadsCut es most w left v = (u : World) → SweepsCutShort es left v u → SweepsCutShort es most w u

pub leads_cut_start : (es : List Event) (most : ℕ) (w : World) → LeadsCut es most w (most - 0) w
leads_cut_start es most w = λ u h. let all : most - 0 ≡ most = omega arith in subst (λ (n : ℕ). SweepsCutShort es n w u) all h

-- a sweep that moved something, with more that are left
pub leads_cut_next : (es : List Event) (most : ℕ) (w v x : World) (i : ℕ) (m : Bool) → i < most → m ≡ true → LeadsCut es most w (most - i) v → Sweeps es v m x → LeadsCut es most w (most - (i + 1)) x
leads_cut_next es most w v x i m lt moved so_far s = λ u h.
    let left : most - i ≡ suc (most - (i + 1)) = omega arith in
    so_far u (subst (λ (n : ℕ). SweepsCutShort es n v u) (sym left) (inr (x, subst (λ (b : Bool). Sweeps es v b x) moved s, h)))

-- one that was cut short is the last
pub leads_cut : (es : List Event) (most : ℕ) (w v x : World) (i : ℕ) → i < most → LeadsCut es most w (most - i) v → CutShort es v x → SweepsCutShort es most w x
leads_cut es most w v x i lt so_far cut =
    let left : most - i ≡ suc (most - (i + 1)) = omega arith in
    so_far x (subst (λ (n : ℕ). SweepsCutShort es n v x) (sym left) (inl cut))
