-- Groups with one line more.
use Rattle.std.proofs.Common.{◌≡◌, ℕ, ◌<◌, ◌≤◌, ◌≢◌, ◌⊎◌, true, false, List, [], ◌∷◌, ◌++◌, length, get_or, set, take, refl, sym, ◌∙◌, ap, subst, inl, inr, arith, ltb, ltb-true, ltb-false}
use Rattle.std.specs.Prelude.{All, Contains}
use Rattle.std.specs.List.{AllWithin, insert}
use Rattle.std.specs.List.Sorted.{IsPermutation}
use Rattle.std.proofs.lemmas.List.{get_or-take, length-take-le, get_or_default}
use Rattle.std.proofs.lemmas.List.Edits.{length-insert}
use Rattle.std.proofs.lemmas.List.Elements.{All-cons, All-contains, All-nil, Contains-append_left, Contains-get_or, Contains-push, Contains-push_cases}
use Rattle.std.proofs.lemmas.List.Sorted.{Contains-permutation, IsPermutation-sym}
use Rattle.platform.specs.declared.parts.Mapping.{Mapping}
use Rattle.platform.specs.Tables.{MapsOnce}
use Rattle.host_table.specs.Rising.{RisesBy, IsAt, IsGapFor}
use Rattle.host_table.specs.Groups.{PageGroup, group_number, group_of, IsGroup, StandsIn, HaveOneMore, AreGroups}
use Rattle.host_table.proofs.Rising.{rises-insert, same_place}
use Rattle.host_table.proofs.Contents.{in_front, behind_first, insert_cases, insert_old, insert_new, all_insert, set_cases, set_new, set_old}

-- where the lesser pages end, a page that no line has would go
pub line_gap : (lines : List Mapping) (page place : ℕ) → place ≤ length lines → AllWithin (λ line. ltb line.page page ≡ true) lines 0 place → AllWithin (λ line. ltb line.page page ≡ false) lines place (length lines) → ((other : Mapping) → Contains lines other → other.page ≢ page) → IsGapFor (λ line. line.page) lines page place
line_gap lines page place within less rest free = record {
  within = within;
  before = λ k d least below. ltb-true _ _ (less k d least below);
  after = λ k d least below.
      let at_least : page ≤ (get_or lines k d).page = ltb-false _ _ (rest k d least below) in
      let other : (get_or lines k d).page ≢ page = free (get_or lines k d) (Contains-get_or lines k d below) in
      omega arith;
}

pub group_more : (group : PageGroup) (line : Mapping) (place : ℕ) → IsGroup group → group_number line.page ≡ group.number → IsGapFor (λ (other : Mapping). other.page) group.lines line.page place → IsGroup (record { number = group.number; lines = insert group.lines place line })
group_more group line place is own gap = record {
  some = let long = length-insert group.lines place line gap.within in omega arith;
  own = all_insert group.lines place line (λ (other : Mapping). group_number other.page ≡ group.number) own is.own;
  rising = rises-insert (λ (other : Mapping). other.page) group.lines is.rising line place gap;
}

pub group_alone : (line : Mapping) → IsGroup (group_of line)
group_alone line = record { some = omega arith; own = All-cons (λ (other : Mapping). group_number other.page ≡ group_number line.page) line [] refl (All-nil (λ (other : Mapping). group_number other.page ≡ group_number line.page)); rising = λ i j d less within. absurd (omega arith) }

-- a line that stands in the group of one line
alone_cases : (line other : Mapping) → Contains (line ∷ []) other → other ≡ line
alone_cases line other there = elim (in_front line [] other there.0 there.1 there.2) [ inl none ↦ absurd (omega (arith, none.1)) | inr same ↦ same ]

-- a group more
pub one_more_group : (groups : List PageGroup) (place : ℕ) (line : Mapping) → HaveOneMore groups line (insert groups place (group_of line))
one_more_group groups place line other = (
  λ (any : StandsIn (insert groups place (group_of line)) other). elim (insert_cases groups place (group_of line) any.1 (any.0, any.2, any.3)) [
    | inl old ↦ inl (old.0, any.1, old.1, old.2, any.4)
    | inr new ↦ inr (alone_cases line other (subst (λ (group : PageGroup). Contains group.lines other) new any.4))
  ],
  λ (either : StandsIn groups other ⊎ (other ≡ line)). elim either [
    | inl any ↦ let there = insert_old groups place (group_of line) any.1 (any.0, any.2, any.3) in (there.0, any.1, there.1, there.2, any.4)
    | inr same ↦ let there = insert_new groups place (group_of line) in (there.0, group_of line, there.1, there.2, (0, omega arith, sym same))
  ],
)

-- a group with a line more
pub one_more_line : (groups : List PageGroup) (place : ℕ) (group : PageGroup) (line : Mapping) → place < length groups → IsPermutation (line ∷ (get_or groups place group).lines) group.lines → HaveOneMore groups line (set groups place group)
one_more_line groups place group line within moved other = (
  λ (any : StandsIn (set groups place group) other). elim (set_cases groups place group within any.1 (any.0, any.2, any.3)) [
    | inl old ↦ inl (old.0, any.1, old.1, old.2, any.4)
    | inr new ↦
        let here = Contains-permutation group.lines (line ∷ (get_or groups place group).lines) other (IsPermutation-sym _ _ moved) (subst (λ (g : PageGroup). Contains g.lines other) new any.4) in
        elim (in_front line (get_or groups place group).lines other here.0 here.1 here.2) [
          | inl old ↦ inl (place, get_or groups place group, within, get_or_default groups place (get_or groups place group) group within, old)
          | inr same ↦ inr same
        ]
  ],
  λ (either : StandsIn groups other ⊎ (other ≡ line)).
      let new = set_new groups place group within in
      elim either [
        | inl any ↦ elim (set_old groups place group within any.1 (any.0, any.2, any.3)) [
          | inl there ↦ (there.0, any.1, there.1, there.2, any.4)
          | inr here ↦ (new.0, group, new.1, new.2, Contains-permutation (line ∷ (get_or groups place group).lines) group.lines other moved (behind_first line (get_or groups place group).lines other (subst (λ (g : PageGroup). Contains g.lines other) (sym (get_or_default groups place group any.1 within ∙ here)) any.4)))
        ]
        | inr same ↦ (new.0, group, new.1, new.2, Contains-permutation (line ∷ (get_or groups place group).lines) group.lines other moved (0, omega arith, sym same))
      ],
)

module _ (maps : List Mapping) (requester : ℕ) (line : Mapping) where
  -- the requester's groups with a line more of it
  pub groups_more : (old new : List PageGroup) → line.requester ≡ requester → AreGroups maps requester old → RisesBy (λ (group : PageGroup). group.number) new → All IsGroup new → HaveOneMore old line new → AreGroups (maps ++ line ∷ []) requester new
  groups_more old new own are rising each more = record {
    rising = rising;
    each = each;
    exact = λ other. (
      λ (any : StandsIn new other). elim ((more other).0 any) [
        | inl before ↦ let known = (are.exact other).0 before in (Contains-append_left maps (line ∷ []) other known.0, known.1)
        | inr same ↦ (rw same (Contains-push maps line), rw same own)
      ],
      λ (known : Contains (maps ++ line ∷ []) other × (other.requester ≡ requester)). elim (Contains-push_cases maps line other known.0) [
        | inl before ↦ (more other).1 (inl ((are.exact other).1 (before, known.1)))
        | inr same ↦ (more other).1 (inr (sym same))
      ],
    );
  }

  -- the groups of another requester stay
  pub groups_same : (groups : List PageGroup) → line.requester ≢ requester → AreGroups maps requester groups → AreGroups (maps ++ line ∷ []) requester groups
  groups_same groups foreign are = record {
    rising = are.rising;
    each = are.each;
    exact = λ other. (
      λ (any : StandsIn groups other). let known = (are.exact other).0 any in (Contains-append_left maps (line ∷ []) other known.0, known.1),
      λ (known : Contains (maps ++ line ∷ []) other × (other.requester ≡ requester)). elim (Contains-push_cases maps line other known.0) [
        | inl before ↦ (are.exact other).1 (before, known.1)
        | inr same ↦ absurd (foreign (rw same known.1))
      ],
    );
  }

-- a requester without lines has no groups
pub no_groups : (maps : List Mapping) (requester : ℕ) → ((line : Mapping) → Contains maps line → line.requester ≢ requester) → AreGroups maps requester []
no_groups maps requester none = record {
  rising = λ i j d less within. absurd (omega arith);
  each = λ k d within. absurd (omega arith);
  exact = λ line. (λ (any : StandsIn [] line). absurd (omega (arith, any.2)), λ (known : Contains maps line × (line.requester ≡ requester)). absurd (none line known.0 known.1));
}

-- no earlier line of the requester has the page of the line at this place
pub page_is_free : (lines : List Mapping) (place : ℕ) (line : Mapping) (requester : ℕ) (groups : List PageGroup) → MapsOnce lines → place < length lines → line ≡ get_or lines place line → line.requester ≡ requester → AreGroups (take place lines) requester groups → (other : Mapping) → StandsIn groups other → other.page ≢ line.page
page_is_free lines place line requester groups once within is own are other any same =
    let known = (are.exact other).0 any in
    let k : ℕ = known.0.0 in
    let earlier : k < place = omega (arith, known.0.1, length-take-le place lines (omega arith)) in
    let before : get_or lines k other ≡ other = sym (get_or-take place lines k other earlier) ∙ known.0.2 in
    let here : get_or lines place other ≡ line = get_or_default lines place other line within ∙ sym is in
    once k place other earlier within
    (ap (λ (l : Mapping). l.requester) before ∙ known.1 ∙ sym own ∙ ap (λ (l : Mapping). l.requester) (sym here))
    (ap (λ (l : Mapping). l.page) before ∙ same ∙ ap (λ (l : Mapping). l.page) (sym here))

-- a page that no line of its group has is the page of no line
pub no_line : (groups : List PageGroup) (page place : ℕ) (group : PageGroup) → RisesBy (λ (g : PageGroup). g.number) groups → All IsGroup groups → IsAt (λ (g : PageGroup). g.number) groups (group_number page) place → group ≡ get_or groups place group → ((line : Mapping) → Contains group.lines line → line.page ≢ page) → (line : Mapping) → StandsIn groups line → line.page ≢ page
no_line groups page place group rising each at read none line any same =
    let is : IsGroup any.1 = All-contains IsGroup groups any.1 each (any.0, any.2, any.3) in
    let number : group_number line.page ≡ any.1.number = All-contains (λ (other : Mapping). group_number other.page ≡ any.1.number) any.1.lines line is.own any.4 in
    let here : place ≡ any.0 = same_place (λ (g : PageGroup). g.number) groups rising place any.0 any.1 at.within any.2 (at.here any.1 ∙ ap group_number (sym same) ∙ number ∙ ap (λ (g : PageGroup). g.number) (sym any.3)) in
    let group_is : any.1 ≡ group = sym any.3 ∙ rw (← here) (get_or_default groups place any.1 group at.within ∙ sym read) in
    none line (subst (λ (g : PageGroup). Contains g.lines line) group_is any.4) same
