-- What is left out is told part by part.
use Rattle.std.proofs.Common.{◌≡◌, ℕ, ◌+◌, ◌<◌, ◌≤◌, List, ◌∷◌, length, drop, refl, sym, ap, ◌∙◌, subst}
use Rattle.std.specs.Prelude.{slice_index_or}
use Rattle.std.proofs.lemmas.List.{drop_all, drop_more}
use Rattle.import.specs.declared.reason.LeftOut.{LeftOut}
use Rattle.text_writers.specs.DraftViews.{Written}
use Rattle.import.specs.Told.{IsToldOf, TellEach}

-- where the parts from this one on are told, all are
abbrev pub TellRest : List ℕ → List LeftOut → Written → ℕ → Written → Type 0
TellRest dump parts start i now = (new : Written) → TellEach dump (drop i parts) now new → TellEach dump parts start new

pub tell_start : (dump : List ℕ) (parts : List LeftOut) (start : Written) → TellRest dump parts start 0 start
tell_start dump parts start = λ new h. h

-- one part more
pub tell_next : (dump : List ℕ) (parts : List LeftOut) (start now mid : Written) (i : ℕ) (part : LeftOut) → i < length parts → part ≡ slice_index_or parts i part
    → TellRest dump parts start i now → IsToldOf dump part now mid → TellRest dump parts start (i + 1) mid
tell_next dump parts start now mid i part lt is so_far told = λ new h.
    let left : drop i parts ≡ part ∷ drop (i + 1) parts = drop_more parts i part lt ∙ ap (λ (p : LeftOut). p ∷ drop (i + 1) parts) (sym is) in
    so_far new (subst (λ (ps : List LeftOut). TellEach dump ps now new) (sym left) (mid, told, h))

-- no part is left
pub tell_end : (dump : List ℕ) (parts : List LeftOut) (start now : Written) (i : ℕ) → length parts ≤ i → TellRest dump parts start i now → TellEach dump parts start now
tell_end dump parts start now i le so_far = so_far now (subst (λ (ps : List LeftOut). TellEach dump ps now now) (sym (drop_all i parts le)) refl)
