use Rattle.std.proofs.Common.{◌∙◌, ap, ltb, rules, subst, sym}
use Rattle.std.specs.Prelude.{Contains}
use Rattle.std.proofs.lemmas.List.Sorted.{IsPartitionPoint-from_clause, IsPartitionedBy-ltb, IsPermutation-insert}
use Rattle.platform.specs.declared.parts.Mapping.{Mapping}
use Rattle.host_table.specs.Groups.{PageGroup, IsGroup}
use Rattle.host_table.specs.Rising.{IsGapFor}
use Rattle.host_table.proofs.Rising.{keys_rise}
use Rattle.host_table.proofs.Grouping.{line_gap, group_more}
use Rattle.host_table.proofs.groups.Group.add.Goals as goal

is_group : (c : goal.In_ok-insert) → IsGroup (record { number = c.self.inside.number; lines = c.self.inside.lines.items })
is_group c = subst IsGroup (sym c.self.view_is) c.requires.group

-- the line goes where the lesser pages end
gap : (c : goal.In_ok-insert) → IsGapFor (λ (line : Mapping). line.page) c.self.inside.lines.items c.args.line.page c.partition_point-place.result
gap c =
    let lines = c.self.inside.lines.items in
    let page = c.args.line.page in
    let is = is_group c in
    let parted = IsPartitionedBy-ltb (λ (line : Mapping). line.page) lines page (keys_rise (λ (line : Mapping). line.page) lines is.rising) in
    let point = IsPartitionPoint-from_clause (λ (line : Mapping). ltb line.page page) lines _ (rw c.deref.ensures.value at c.partition_point-place.ensures.partitioned) parted (λ a r q k. search rules) in
    line_gap lines page c.partition_point-place.result (rw c.deref.ensures.value at c.partition_point-place.ensures.bound) point.0 point.1 (λ other there. c.requires.free other (subst (λ (group : PageGroup). Contains group.lines other) c.self.view_is there))

pub returns-clause-group : goal.returns-clause-group
returns-clause-group c = rw c.in_ok-insert.ensures.items (group_more (record { number = c.self.inside.number; lines = c.self.inside.lines.items }) c.args.line c.partition_point-place.result (is_group c) (c.requires.own ∙ sym (ap (λ (group : PageGroup). group.number) c.self.view_is)) (gap c))

pub returns-clause-lines : goal.returns-clause-lines
returns-clause-lines c = rw (c.in_ok-insert.ensures.items, ← c.self.view_is) (IsPermutation-insert c.self.inside.lines.items c.partition_point-place.result c.args.line)
