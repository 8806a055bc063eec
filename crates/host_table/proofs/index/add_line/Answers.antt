use Rattle.std.proofs.Common.{◌≡◌, ◌+◌, ◌∷◌, ◌++◌, ◌∙◌, [], ap, refl, sym, take}
use Rattle.std.proofs.lemmas.List.{take_more}
use Rattle.platform.specs.declared.parts.Mapping.{Mapping}
use Rattle.host_table.specs.declared.index.RequesterGroups.{RequesterGroups}
use Rattle.host_table.specs.Groups.{AreGroups}
use Rattle.host_table.proofs.Grouping.{groups_more, page_is_free}
use Rattle.host_table.proofs.Indexing.{groups_read, none_in_gap, index_insert, index_set, on_ok_three}
use Rattle.host_table.proofs.index.add_line.Goals as goal

-- the groups that the requester has
known_groups : (c : goal.After-add_to_groups-arg-1) → AreGroups (take c.args.place c.args.lines.now) c.index-lines-place.result.requester c.index_mut.result.now.groups.items
known_groups c = groups_read (take c.args.place c.args.lines.now) c.args.index.now.items c.requires.index c.index-lines-place.result.requester c.in-Ok.known c.index_mut.result.now (rw c.deref.ensures.value at c.in-Ok.ensures) c.index_mut.ensures.value

pub add_to_groups-requires-clause-rising : goal.add_to_groups-requires-clause-rising
add_to_groups-requires-clause-rising c = let are = known_groups c in are.rising

pub add_to_groups-requires-clause-each : goal.add_to_groups-requires-clause-each
add_to_groups-requires-clause-each c = let are = known_groups c in are.each

pub add_to_groups-requires-clause-free : goal.add_to_groups-requires-clause-free
add_to_groups-requires-clause-free c = page_is_free c.args.lines.now c.args.place c.index-lines-place.result c.index-lines-place.result.requester c.index_mut.result.now.groups.items c.requires.once c.requires.within c.index-lines-place.is refl (known_groups c)

pub returns-in-Ok : goal.returns-in-Ok
returns-in-Ok c =
    let line = c.index-lines-place.result in
    let maps = take c.args.place c.args.lines.now in
    let index = c.args.index.now.items in
    let at = rw c.deref.ensures.value at c.in-Ok.ensures in
    let entry = c.index_mut.result.now in
    let are = groups_read maps index c.requires.index line.requester c.in-Ok.known entry at c.index_mut.ensures.value in
    let own : entry.requester ≡ line.requester = ap (λ (e : RequesterGroups). e.requester) c.index_mut.ensures.value ∙ at.here entry in
    let more : take (c.args.place + 1) c.args.lines.now ≡ maps ++ line ∷ [] = take_more c.args.lines.now c.args.place line c.requires.within ∙ ap (λ (l : Mapping). maps ++ l ∷ []) (sym c.index-lines-place.is) in
    rw more (on_ok_three c.add_to_groups.result
    (λ rising each lines. index_set maps line index c.requires.index (record { requester = entry.requester; groups = c.add_to_groups.new.groups }) c.in-Ok.known own at (groups_more maps line.requester line entry.groups.items c.add_to_groups.new.groups.items refl are rising each lines))
    c.add_to_groups.ensures.rising c.add_to_groups.ensures.each c.add_to_groups.ensures.lines)

pub returns-in_ok-insert-in-Err : goal.returns-in_ok-insert-in-Err
returns-in_ok-insert-in-Err c =
    let line = c.index-lines-place.result in
    let maps = take c.args.place c.args.lines.now in
    let index = c.args.index.now.items in
    let gap = rw c.deref.ensures.value at c.in-Err.ensures in
    let groups = c.add_to_groups-in-Err.new.groups in
    let none = none_in_gap maps index c.requires.index line.requester c.in-Err.gap gap in
    let added = c.in_ok-add_to_groups-in-Err.ensures in
    let are = groups_more maps line.requester line [] groups.items refl none added.rising added.each (rw c.new-groups.ensures.items at added.lines) in
    let more : take (c.args.place + 1) c.args.lines.now ≡ maps ++ line ∷ [] = take_more c.args.lines.now c.args.place line c.requires.within ∙ ap (λ (l : Mapping). maps ++ l ∷ []) (sym c.index-lines-place.is) in
    rw (more, c.in_ok-insert-in-Err.ensures.items) (index_insert maps line index c.requires.index (record { requester = line.requester; groups = groups }) c.in-Err.gap refl gap are)
