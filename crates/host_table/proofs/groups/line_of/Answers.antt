use Rattle.std.proofs.Common.{◌∙◌, ap, subst, sym}
use Rattle.platform.specs.declared.parts.Mapping.{Mapping}
use Rattle.host_table.specs.Groups.{PageGroup, IsGroup, group_number}
use Rattle.host_table.proofs.Rising.{found_at, found_nowhere}
use Rattle.host_table.proofs.Grouping.{no_line}
use Rattle.host_table.proofs.groups.line_of.Goals as goal

pub returns-in_err-line : goal.returns-in_err-line
returns-in_err-line c =
    let groups = c.args.groups.now in
    let group = c.index-groups-group.result in
    let at = found_at (λ (g : PageGroup). g.number) groups c.requires.rising (group_number c.args.page) c.in_ok-group.group c.place_of_group.result (rw c.group_number.ensures at c.place_of_group.ensures) c.in_ok-group.ensures.value in
    let is : IsGroup group = subst IsGroup (sym c.index-groups-group.is) (c.requires.each c.in_ok-group.group group at.within) in
    let nowhere = found_nowhere (λ (line : Mapping). line.page) group.lines is.rising c.args.page c.place_of_page.result (rw c.lines-lines.ensures at c.place_of_page.ensures) c.in_err-line.ensures.value in
    rw c.from_residual-in_err-line.ensures (no_line groups c.args.page c.in_ok-group.group group c.requires.rising c.requires.each at c.index-groups-group.is (λ line there same. nowhere there.0 line there.1 (ap (λ (l : Mapping). l.page) there.2 ∙ same)))
