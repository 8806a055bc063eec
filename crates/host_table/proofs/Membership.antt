-- A table in which no two lines map one page of one requester is a set.
use Rattle.std.proofs.Common.{◌≡◌, ℕ, zero, suc, ◌<◌, Bool, true, false, ◌&&◌, cond, List, [], ◌∷◌, length, slice_index_or, Some, None, option_map, sym, ◌∙◌, refl, ap, arith, eq-eqb, inl, inr, get_or, ◌==◌}
use Rattle.std.specs.Prelude.{Any, AllPairs, Contains, IsTrue}
use Rattle.std.specs.List.{find}
use Rattle.std.proofs.lemmas.Bool.{cases_lt, eqb-true, false≢true}
use Rattle.std.proofs.lemmas.List.{get_or_default}
use Rattle.platform.specs.declared.parts.Mapping.{Mapping}
use Rattle.platform.specs.declared.parts.MapTarget.{MapTarget}
use Rattle.platform.specs.declared.parts.Access.{Access}
use Rattle.platform.specs.Tables.{MapsOnce, fits, allows, target_of}

both_parts : (a b : Bool) → (a && b) ≡ true → (a ≡ true) × (b ≡ true)
both_parts true b both = (refl, both)
both_parts false b both = absurd (false≢true both)

-- a line that fits is of this page of this requester
pub key_of_fit : (requester page : ℕ) (access : Access) (line : Mapping) → fits requester page access line ≡ true → (line.requester ≡ requester) × (line.page ≡ page)
key_of_fit requester page access line fit =
    let keys = both_parts _ _ (both_parts _ (allows line.rights access) fit).0 in
    (eqb-true line.requester requester keys.0, eqb-true line.page page keys.1)

fit_of_key : (requester page : ℕ) (access : Access) (line : Mapping) → line.requester ≡ requester → line.page ≡ page → allows line.rights access ≡ true → fits requester page access line ≡ true
fit_of_key requester page access line same_requester same_page allowed = rw (eq-eqb line.requester requester same_requester, eq-eqb line.page page same_page, allowed) refl

pub rights_of_fit : (requester page : ℕ) (access : Access) (line : Mapping) → fits requester page access line ≡ true → allows line.rights access ≡ true
rights_of_fit requester page access line fit = (both_parts ((line.requester == requester) && (line.page == page)) (allows line.rights access) fit).1

-- the line passes and has this target
abbrev Leads : (Mapping → Bool) → MapTarget → Mapping → Type 0
Leads p target line = IsTrue (p line) × (line.target ≡ target)

-- a line that leads there, behind one more line
behind : (p : Mapping → Bool) (target : MapTarget) (line : Mapping) (lines : List Mapping) → Any (Leads p target) lines → Any (Leads p target) (line ∷ lines)
behind p target line lines any = (suc any.0, any.1, omega (arith, any.2), any.3, any.4)

-- what is found leads there
found_first : (p : Mapping → Bool) (target : MapTarget) (line : Mapping) (lines : List Mapping) (b : Bool) → p line ≡ b → (option_map (λ x. x.target) (find p lines) ≡ Some target → Any (Leads p target) lines) → option_map (λ x. x.target) (cond b (Some line) (find p lines)) ≡ Some target → Any (Leads p target) (line ∷ lines)
found_first p target line lines true passes rest here = (0, line, omega arith, refl, (passes, cc))
found_first p target line lines false fails rest later = behind p target line lines (rest later)

pub found_leads : (p : Mapping → Bool) (target : MapTarget) (lines : List Mapping) → option_map (λ x. x.target) (find p lines) ≡ Some target → Any (Leads p target) lines
found_leads p target [] found = cc
found_leads p target (line ∷ lines) found = found_first p target line lines (p line) refl (found_leads p target lines) found

-- where no two lines pass, a line that leads there is what is found
abbrev OnePasses : (Mapping → Bool) → List Mapping → Type 0
OnePasses p lines = AllPairs (λ a b. p a ≡ true → p b ≡ true → ⊥) lines

first_found : (p : Mapping → Bool) (target : MapTarget) (line : Mapping) (lines : List Mapping) (b : Bool) → p line ≡ b → OnePasses p (line ∷ lines) → (k : ℕ) (x : Mapping) → k < length (line ∷ lines) → slice_index_or (line ∷ lines) k x ≡ x → Leads p target x → (Any (Leads p target) lines → option_map (λ x. x.target) (find p lines) ≡ Some target) → option_map (λ x. x.target) (cond b (Some line) (find p lines)) ≡ Some target
first_found p target line lines true passes one zero x within here leads rest = ap Some (ap (λ l. l.target) here ∙ leads.1)
first_found p target line lines true passes one (suc k) x within here leads rest =
    absurd (one 0 (suc k) x (omega arith) within passes (rw here leads.0))
first_found p target line lines false fails one zero x within here leads rest = absurd (false≢true (sym fails ∙ ap p here ∙ leads.0))
first_found p target line lines false fails one (suc k) x within here leads rest = rest (k, x, omega (arith, within), here, leads)

pub leads_found : (p : Mapping → Bool) (target : MapTarget) (lines : List Mapping) → OnePasses p lines → Any (Leads p target) lines → option_map (λ x. x.target) (find p lines) ≡ Some target
leads_found p target [] one any = absurd (omega (arith, any.2))
leads_found p target (line ∷ lines) one any =
    let later : OnePasses p lines = λ i j d below within. one (suc i) (suc j) d (omega (arith, below)) (omega (arith, within)) in
    first_found p target line lines (p line) refl one any.0 any.1 any.2 any.3 any.4 (leads_found p target lines later)

-- lines that map each page once do not fit together
pub one_fits : (maps : List Mapping) (requester page : ℕ) (access : Access) → MapsOnce maps → OnePasses (fits requester page access) maps
one_fits maps requester page access once i j d below within first second =
    let a = key_of_fit requester page access (slice_index_or maps i d) first in
    let b = key_of_fit requester page access (slice_index_or maps j d) second in
    once i j d below within (a.0 ∙ sym b.0) (a.1 ∙ sym b.1)

-- a line that is mapped once is the line of its requester and page
pub same_line : (maps : List Mapping) (one other : Mapping) → MapsOnce maps → Contains maps one → Contains maps other → one.requester ≡ other.requester → one.page ≡ other.page → one ≡ other
same_line maps one other once first second same_requester same_page =
    let at_first : get_or maps first.0 other ≡ one = get_or_default maps first.0 other one first.1 ∙ first.2 in
    let requesters : (get_or maps first.0 other).requester ≡ (get_or maps second.0 other).requester = ap (λ l. l.requester) at_first ∙ same_requester ∙ ap (λ l. l.requester) (sym second.2) in
    let pages : (get_or maps first.0 other).page ≡ (get_or maps second.0 other).page = ap (λ l. l.page) at_first ∙ same_page ∙ ap (λ l. l.page) (sym second.2) in
    elim (cases_lt first.0 second.0) [
      | inl less ↦ absurd (once first.0 second.0 other less second.1 requesters pages)
      | inr not_less ↦ elim (cases_lt second.0 first.0) [
        | inl greater ↦ absurd (once second.0 first.0 other greater first.1 (sym requesters) (sym pages))
        | inr not_greater ↦ let same : first.0 ≡ second.0 = omega arith in sym at_first ∙ rw same second.2
      ]
    ]

-- the target of the line that is allowed
pub allowed_target : (maps : List Mapping) (requester page : ℕ) (access : Access) (line : Mapping) → MapsOnce maps → Contains maps line → line.requester ≡ requester → line.page ≡ page → allows line.rights access ≡ true → target_of maps requester page access ≡ Some line.target
allowed_target maps requester page access line once there same_requester same_page allowed =
    leads_found (fits requester page access) line.target maps (one_fits maps requester page access once) (there.0, line, there.1, there.2, (fit_of_key requester page access line same_requester same_page allowed, refl))

missing : (p : Mapping → Bool) (lines : List Mapping) (b : Bool) (line : Mapping) → p line ≡ b → ((other : Mapping) → Contains (line ∷ lines) other → p other ≡ true → ⊥) → find p lines ≡ None → cond b (Some line) (find p lines) ≡ None
missing p lines true line passes none rest = absurd (none line (0, omega arith, refl) passes)
missing p lines false line fails none rest = rest

none_found : (p : Mapping → Bool) (lines : List Mapping) → ((other : Mapping) → Contains lines other → p other ≡ true → ⊥) → find p lines ≡ None
none_found p [] none = refl
none_found p (line ∷ lines) none = missing p lines (p line) line refl none (none_found p lines (λ other there. none other (suc there.0, omega (arith, there.1), there.2)))

-- no target, where no line fits
pub no_target : (maps : List Mapping) (requester page : ℕ) (access : Access) → ((line : Mapping) → Contains maps line → fits requester page access line ≡ true → ⊥) → target_of maps requester page access ≡ None
no_target maps requester page access none = ap (option_map (λ line. line.target)) (none_found (fits requester page access) maps none)
