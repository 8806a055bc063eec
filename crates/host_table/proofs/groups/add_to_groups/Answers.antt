use Rattle.std.proofs.Common.{◌≡◌, ◌∷◌, ◌∙◌, List, get_or, subst, sym}
use Rattle.std.specs.Prelude.{All}
use Rattle.std.specs.List.{insert}
use Rattle.std.specs.List.Sorted.{IsPermutation}
use Rattle.std.proofs.lemmas.List.{get_or_default}
use Rattle.std.proofs.lemmas.Result.{on_ok_weaker}
use Rattle.host_table.specs.Rising.{RisesBy}
use Rattle.host_table.specs.Groups.{PageGroup, IsGroup, HaveOneMore, group_of}
use Rattle.host_table.proofs.Rising.{rises-insert}
use Rattle.host_table.proofs.Contents.{all_insert}
use Rattle.host_table.proofs.Grouping.{group_alone, one_more_group, one_more_line}
use Rattle.host_table.proofs.groups.add_to_groups.Goals as goal

pub add-requires-clause-free : goal.add-requires-clause-free
add-requires-clause-free c =
    let at = rw c.deref.ensures.value at c.in-Ok.ensures in
    λ other there. c.requires.free other (c.in-Ok.place, c.index_mut.result.now, at.within, sym c.index_mut.ensures.value, there)

pub returns-in-Ok-clause-lines : goal.returns-in-Ok-clause-lines
returns-in-Ok-clause-lines c =
    let groups = c.args.groups.now.items in
    let at = rw c.deref.ensures.value at c.in-Ok.ensures in
    let read : c.index_mut.result.now ≡ get_or groups c.in-Ok.place c.add.new.self = c.index_mut.ensures.value ∙ get_or_default groups c.in-Ok.place c.index_mut.result.now c.add.new.self at.within in
    on_ok_weaker c.add.result (λ moved. one_more_line groups c.in-Ok.place c.add.new.self c.args.line at.within (subst (λ (group : PageGroup). IsPermutation (c.args.line ∷ group.lines) c.add.new.self.lines) read moved)) c.add.ensures.lines

-- a group more
items : (c : goal.In_ok-insert-in-Err) → c.insert.new.self.items ≡ insert c.args.groups.now.items c.in-Err.place (group_of c.args.line)
items c = rw c.in_ok-of-in-Err.ensures at c.in_ok-insert-in-Err.ensures.items

pub returns-in_ok-insert-in-Err-clause-rising : goal.returns-in_ok-insert-in-Err-clause-rising
returns-in_ok-insert-in-Err-clause-rising c =
    let P : List PageGroup → Type 0 = λ groups. RisesBy (λ group. group.number) groups in
    subst P (sym (items c)) (rises-insert (λ (group : PageGroup). group.number) c.args.groups.now.items c.requires.rising (group_of c.args.line) c.in-Err.place (rw (c.deref.ensures.value, c.group_number.ensures) at c.in-Err.ensures))

pub returns-in_ok-insert-in-Err-clause-each : goal.returns-in_ok-insert-in-Err-clause-each
returns-in_ok-insert-in-Err-clause-each c =
    let P : List PageGroup → Type 0 = λ groups. All IsGroup groups in
    subst P (sym (items c)) (all_insert c.args.groups.now.items c.in-Err.place (group_of c.args.line) IsGroup (group_alone c.args.line) c.requires.each)

pub returns-in_ok-insert-in-Err-clause-lines : goal.returns-in_ok-insert-in-Err-clause-lines
returns-in_ok-insert-in-Err-clause-lines c =
    let P : List PageGroup → Type 0 = λ groups. HaveOneMore c.args.groups.now.items c.args.line groups in
    subst P (sym (items c)) (one_more_group c.args.groups.now.items c.in-Err.place c.args.line)
