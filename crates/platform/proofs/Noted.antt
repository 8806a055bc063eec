-- A function whose bus isn't noted isn't reached.
use Rattle.std.proofs.Common.{◌≡◌, ◌≢◌, ℕ, ◌+◌, ◌<◌, Bool, true, false, List, length, get_or, set, take, Option, Some, None, refl, sym, ap, ◌∙◌, ⊎_elim, eqb-true}
use Rattle.std.specs.Prelude.{◌==◌, ◌||◌, not, if◌then◌else◌, slice_set}
use Rattle.std.specs.List.{list_all}
use Rattle.std.proofs.lemmas.Bool.{false≢true}
use Rattle.std.proofs.lemmas.Bool.Decides.{eqb_tells}
use Rattle.std.proofs.lemmas.Grind.{get_or-set_at}
use Rattle.std.proofs.lemmas.List.{get_or-set_other}
use Rattle.std.proofs.lemmas.List.Folds.{list_all_more}
use Rattle.fab_types.specs.Id.{bus_of}
use Rattle.platform.specs.declared.parts.DownstreamPort.{DownstreamPort}
use Rattle.platform.specs.Owners.{first_port, holds_bus}
use Rattle.platform.specs.Reach.{holds_bus_if_any, is_noted}
use Rattle.platform.proofs.Bools.{all-found, all-weaker, and-both, found-passes}

-- ---- notes

-- one more keeps the others
set-stays : (buses : List Bool) (first other : ℕ) → first < length buses → get_or buses other false ≡ true → get_or (set buses first true) other false ≡ true
set-stays buses first other lt noted =
    ⊎_elim (λ (h : ((other == first) ≡ true) × (other ≡ first)). get_or-set_at buses first other true false h.1 lt)
    (λ (h : ((other == first) ≡ false) × (other ≢ first)). get_or-set_other buses first other true false h.1 ∙ noted) (eqb_tells other first)

unless-stays : (held : Bool) (buses : List Bool) (first other : ℕ) → first < length buses → (not held || get_or buses other false) ≡ true → (not held || get_or (set buses first true) other false) ≡ true
unless-stays false buses first other lt noted = refl
unless-stays true buses first other lt noted = set-stays buses first other lt noted

module _ (buses : List Bool) (bus : ℕ) (port : DownstreamPort) (lt : port.secondary < length buses) where
  others-noted : (held : Bool) (other : DownstreamPort) → is_noted buses bus other ≡ true → is_noted (if held then slice_set buses port.secondary true else buses) bus other ≡ true
  others-noted false other noted = noted
  others-noted true other noted = unless-stays (holds_bus other bus) buses port.secondary other.secondary lt noted

  own-noted : (held : Bool) → holds_bus port bus ≡ held → is_noted (if held then slice_set buses port.secondary true else buses) bus port ≡ true
  own-noted false e = ap (λ (b : Bool). not b || get_or buses port.secondary false) e
  own-noted true e =
      ap (λ (b : Bool). not b || get_or (set buses port.secondary true) port.secondary false) e ∙ get_or-set_at buses port.secondary port.secondary true false refl lt

-- those of one port more
pub noted-more : (buses : List Bool) (bus : ℕ) (ports : List DownstreamPort) (i : ℕ) (port : DownstreamPort) (held : Bool) → held ≡ holds_bus port bus → port.secondary < length buses → i < length ports → port ≡ get_or ports i port
    → list_all (is_noted buses bus) (take i ports) ≡ true
    → list_all (is_noted (if held then slice_set buses port.secondary true else buses) bus) (take (i + 1) ports) ≡ true
noted-more buses bus ports i port held held_is lt within is before =
    let new : List Bool = if held then slice_set buses port.secondary true else buses in
    let others = all-weaker (is_noted buses bus) (is_noted new bus) (take i ports) (others-noted buses bus port lt held) before in
    let own : is_noted new bus (get_or ports i port) ≡ true = ap (is_noted new bus) (sym is) ∙ own-noted buses bus port lt held (sym held_is) in
    list_all_more (is_noted new bus) ports i port within ∙ and-both _ _ others own

-- ---- what isn't noted

unheld : (held noted : Bool) → (not held || noted) ≡ true → noted ≡ false → held ≡ false
unheld false noted h none = refl
unheld true noted h none = absurd (false≢true (sym none ∙ h))

-- a function on a bus that isn't noted isn't reached
pub not-reached : (buses : List Bool) (bus : ℕ) (ports : List DownstreamPort) (function : ℕ) → list_all (is_noted buses bus) ports ≡ true → get_or buses (bus_of function) false ≡ false → holds_bus_if_any (first_port ports function) bus ≡ false
not-reached buses bus ports function notes none = by (first_port ports function) refl
  where
    by : (found : Option DownstreamPort) → first_port ports function ≡ found → holds_bus_if_any found bus ≡ false
    by None e = refl
    by (Some port) e =
        let same : bus_of function ≡ port.secondary = sym (eqb-true port.secondary (bus_of function) (found-passes (λ p. p.secondary == bus_of function) ports port e)) in
        let here : is_noted buses bus port ≡ true = all-found (λ p. p.secondary == bus_of function) (is_noted buses bus) ports port e notes in
        unheld (holds_bus port bus) (get_or buses port.secondary false) here (ap (λ (n : ℕ). get_or buses n false) (sym same) ∙ none)
