-- The groups of a tree, and what they keep apart, written one after another.
use Rattle.std.proofs.Common.{◌≡◌, ℕ, List, Option, subst}
use Rattle.std.specs.Io.KnownBytes.{Appends}
use Rattle.std.specs.List.{flat_map}
use Rattle.platform.specs.Platform.{Platform}
use Rattle.iommu_groups.specs.Groups.{members_of}
use Rattle.iommu_groups.specs.declared.member.Member.{Member}
use Rattle.attacks.specs.declared.findings.Findings.{Findings}
use Rattle.reports.proofs.Writing.{joined}
use Rattle.findings_text.specs.declared.remarks.Named.{Named}
use Rattle.findings_text.specs.Linux.{apart_lines, group_lines, linux_text}

pub groups_written : (p : Platform) (names : List Named) (findings : Findings) (ms ns : List Member) (one two three : Option (List ℕ)) → ms ≡ members_of p → ns ≡ members_of p
    → Appends one two (flat_map (group_lines names ms) ms) → Appends two three (apart_lines ns findings) → Appends one three (linux_text p names findings)
groups_written p names findings ms ns one two three ms_is ns_is first second =
    joined one two three _ _ (subst (λ (l : List Member). Appends one two (flat_map (group_lines names l) l)) ms_is first)
    (subst (λ (l : List Member). Appends two three (apart_lines l findings)) ns_is second)
