-- An index with one line more, and what it finds.
use Rattle.std.proofs.Common.{◌≡◌, ℕ, List, [], ◌∷◌, ◌++◌, get_or, set, sym, ◌∙◌, ap, subst, Result, Ok, Err, OnOk, inl, inr}
use Rattle.std.specs.Prelude.{Any}
use Rattle.std.specs.List.{insert}
use Rattle.std.proofs.lemmas.List.Elements.{All-contains, All-push, All-weaker}
use Rattle.platform.specs.declared.parts.Mapping.{Mapping}
use Rattle.host_table.specs.declared.index.RequesterGroups.{RequesterGroups}
use Rattle.host_table.specs.Rising.{IsAt, IsGapFor}
use Rattle.host_table.specs.Groups.{AreGroups}
use Rattle.host_table.specs.Index.{IsIndex}
use Rattle.host_table.proofs.Rising.{rises-insert, rises-set, not_in_gap, same_place}
use Rattle.host_table.proofs.Contents.{insert_new, insert_old, all_insert, set_new, set_old, all_set}
use Rattle.host_table.proofs.Grouping.{groups_same, no_groups}

abbrev requester_of : RequesterGroups → ℕ
requester_of entry = entry.requester

-- an index that has the requester of this line
abbrev Knows : List RequesterGroups → Mapping → Type 0
Knows index line = Any (λ entry. entry.requester ≡ line.requester) index

abbrev FitsIn : List Mapping → RequesterGroups → Type 0
FitsIn maps entry = AreGroups maps entry.requester entry.groups.items

module _ (maps : List Mapping) (index : List RequesterGroups) (is : IsIndex maps index) (requester place : ℕ) where
  -- a requester that is not there has no groups
  pub none_in_gap : IsGapFor requester_of index requester place → AreGroups maps requester []
  none_in_gap gap = no_groups maps requester (λ other known own.
      let any = All-contains (Knows index) maps other is.whole known in
      not_in_gap requester_of index is.rising requester place gap any.0 any.1 any.2 (ap requester_of any.3 ∙ any.4 ∙ own))

  -- the groups of a requester that is there
  pub groups_read : (entry : RequesterGroups) → IsAt requester_of index requester place → entry ≡ get_or index place entry → AreGroups maps requester entry.groups.items
  groups_read entry at read =
      let own : entry.requester ≡ requester = ap requester_of read ∙ at.here entry in
      let P : RequesterGroups → Type 0 = λ e. FitsIn maps e in
      rw (← own) (subst P (sym read) (is.groups place entry at.within))

module _ (maps : List Mapping) (line : Mapping) (index : List RequesterGroups) (is : IsIndex maps index) where
  -- a new requester
  pub index_insert : (entry : RequesterGroups) (place : ℕ) → entry.requester ≡ line.requester → IsGapFor requester_of index line.requester place → AreGroups (maps ++ line ∷ []) line.requester entry.groups.items → IsIndex (maps ++ line ∷ []) (insert index place entry)
  index_insert entry place own gap are = record {
    rising = rises-insert requester_of index is.rising entry place (rw own gap);
    groups = all_insert index place entry (FitsIn (maps ++ line ∷ [])) (rw own are)
        (λ k d within. groups_same maps (get_or index k d).requester line (get_or index k d).groups.items (λ same. not_in_gap requester_of index is.rising line.requester place gap k d within (sym same)) (is.groups k d within));
    whole = All-push (Knows (insert index place entry)) maps line
        (All-weaker (Knows index) (Knows (insert index place entry)) (λ other any. let there = insert_old index place entry any.1 (any.0, any.2, any.3) in (there.0, any.1, there.1, there.2, any.4)) maps is.whole)
        (let there = insert_new index place entry in (there.0, entry, there.1, there.2, own));
  }

  -- a requester that is there
  pub index_set : (entry : RequesterGroups) (place : ℕ) → entry.requester ≡ line.requester → IsAt requester_of index line.requester place → AreGroups (maps ++ line ∷ []) line.requester entry.groups.items → IsIndex (maps ++ line ∷ []) (set index place entry)
  index_set entry place own at are =
      let new = set_new index place entry at.within in
      record {
        rising = rises-set requester_of index is.rising entry place (rw own at);
        groups = all_set index place entry at.within (FitsIn (maps ++ line ∷ [])) (rw own are)
            (λ k d within elsewhere. groups_same maps (get_or index k d).requester line (get_or index k d).groups.items (λ same. elsewhere (same_place requester_of index is.rising k place d within at.within (sym same ∙ sym (at.here d)))) (is.groups k d within));
        whole = All-push (Knows (set index place entry)) maps line
            (All-weaker (Knows index) (Knows (set index place entry)) (λ other any. elim (set_old index place entry at.within any.1 (any.0, any.2, any.3)) [
              | inl there ↦ (there.0, any.1, there.1, there.2, any.4)
              | inr here ↦ (new.0, entry, new.1, new.2, own ∙ sym (at.here any.1) ∙ ap requester_of here ∙ any.4)
            ]) maps is.whole)
            (new.0, entry, new.1, new.2, own);
      }

-- three facts of an answer that is `Ok` give a fourth
pub on_ok_three : {T E P Q R S : Type 0} (answer : Result T E) → (P → Q → R → S) → OnOk answer P → OnOk answer Q → OnOk answer R → OnOk answer S
on_ok_three (Ok x) give p q r = give p q r
on_ok_three (Err e) give p q r = tt
