-- A journal with an illegal entry leaves no state.
use Rattle.std.proofs.Common.{◌≡◌, ℕ, zero, suc, ◌<◌, List, [], ◌∷◌, length, take, arith, Option, Some, None, sym, ap, ◌∙◌}
use Rattle.std.specs.Prelude.{option_map, slice_get, slice_index_or}
use Rattle.platform.specs.Share.{Share}
use Rattle.domain.specs.declared.entry.Entry.{Entry}
use Rattle.domain.specs.Machine.{change, step_from, replay_from, replay}
use Rattle.domain_state.specs.State.{Alone, Change, start_state}
use Rattle.domain.proofs.Accounting.{none_stays}

abbrev some : {A : Type 0} → A → Option A
some x = Some x

some_is : {A : Type 0} (x y : A) → some x ≡ some y → x ≡ y
some_is x y e = cc

stops : (share : Share) (o : Option Alone) (es : List Entry) (i : ℕ) (before s : Alone) (entry : Entry) → replay_from share o (take i es) ≡ Some before → slice_get es i ≡ Some entry
    → change share before entry ≡ None → replay_from share o es ≡ Some s → ⊥
stops share o [] i before s entry legal there illegal all = cc
stops share o (x ∷ xs) zero before s entry legal there illegal all =
    let none : step_from share o x ≡ None =
    ap (λ (p : Option Alone). step_from share p x) legal ∙ ap (option_map (λ (c : Change). c.state)) (ap (change share before) (some_is x entry there) ∙ illegal) in
    none_stays share xs s (ap (λ (p : Option Alone). replay_from share p xs) (sym none) ∙ all)
stops share o (x ∷ xs) (suc i) before s entry legal there illegal all = stops share (step_from share o x) xs i before s entry legal there illegal all

pub replay_stops : (share : Share) (es : List Entry) (i : ℕ) (before s : Alone) (entry : Entry) → replay share (take i es) ≡ Some before → slice_get es i ≡ Some entry
    → change share before entry ≡ None → replay share es ≡ Some s → ⊥
replay_stops share es i before s entry legal there illegal all = stops share (Some (start_state share)) es i before s entry legal there illegal all

-- what is read at an index is there
pub there_is : (es : List Entry) (i : ℕ) (x : Entry) → i < length es → x ≡ slice_index_or es i x → slice_get es i ≡ Some x
there_is [] i x lt e = absurd (omega arith)
there_is (y ∷ es) zero x lt e = ap some (sym e)
there_is (y ∷ es) (suc i) x lt e = there_is es i x (omega arith) e
