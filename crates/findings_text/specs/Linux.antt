-- The groups that Linux makes of a tree, as text.
use Rattle.std.specs.Prelude.{ℕ, ◌==◌, ◌++◌, ◌&&◌, not, List, [], codes, if◌then◌else◌}
use Rattle.std.specs.Fmt.{decimal}
use Rattle.std.specs.List.{flat_map}
use Rattle.platform.specs.Platform.{Platform}
use Rattle.iommu_groups.specs.Groups.{have_common_group, members_of}
use Rattle.iommu_groups.specs.declared.member.Member.{Member}
use Rattle.attacks.specs.Findings.{has_witness}
use Rattle.attacks.specs.declared.findings.Findings.{Findings}
use Rattle.attacks.specs.declared.findings.Findings.TheVariants.{NothingToKeep, Guarded, Unguarded}
use Rattle.attacks.specs.declared.findings.Pair.{Pair}
use Rattle.findings_text.specs.Remarks.{named_id}
use Rattle.findings_text.specs.declared.remarks.Named.{Named}

-- a device of this group
abbrev pub member_text : List Named → ℕ → Member → List ℕ
member_text names group m = if m.group == group then codes " " ++ named_id names m.device else []

abbrev pub group_line : List Named → List Member → ℕ → List ℕ
group_line names members group = codes "linux group" ++ flat_map (member_text names group) members ++ codes "\n"

-- of the group that the device is the first of
abbrev pub group_lines : List Named → List Member → Member → List ℕ
group_lines names members m = if m.group == m.device then group_line names members m.device else []

abbrev pub apart_head : ℕ → ℕ → List ℕ
apart_head attacker victim = decimal attacker ++ codes " and " ++ decimal victim ++ codes " apart, "

abbrev pub apart_tail : ℕ → ℕ → List ℕ
apart_tail attacker victim = codes "and domain " ++ decimal attacker ++ codes " reaches domain " ++ decimal victim ++ codes "\n"

abbrev pub apart_text : ℕ → ℕ → List ℕ
apart_text attacker victim = codes "linux keeps domains " ++ apart_head attacker victim ++ apart_tail attacker victim

-- the two domains have no group in common, and the one was seen to reach the other
abbrev pub apart_line : List Member → Pair → List ℕ
apart_line members pair = if has_witness pair && not (have_common_group members pair.attacker pair.victim) then apart_text pair.attacker pair.victim else []

abbrev pub apart_lines : List Member → Findings → List ℕ
apart_lines members NothingToKeep = []
apart_lines members Guarded = []
apart_lines members (Unguarded pairs) = flat_map (apart_line members) pairs.items

abbrev pub linux_text : Platform → List Named → Findings → List ℕ
linux_text platform names findings = flat_map (group_lines names (members_of platform)) (members_of platform) ++ apart_lines (members_of platform) findings
