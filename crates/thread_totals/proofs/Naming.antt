-- Packets that are noted one after the other.
use Rattle.std.proofs.Common.{ℕ, ◌+◌, Bool, cond, List, ◌++◌, arith}
use Rattle.std.specs.List.Sorted.{IsPermutation}
use Rattle.std.proofs.lemmas.List.Sorted.{sum_by-IsPermutation}
use Rattle.std.proofs.lemmas.List.Sums.{sum_by-append}
use Rattle.frame_log.specs.Descriptor.{Descriptor}
use Rattle.thread_totals.specs.Named.{AreNoted, name_of}
use Rattle.thread_totals.specs.declared.packet_name.PacketName.{PacketName}

abbrev asked : (PacketName → Bool) → PacketName → ℕ
asked test name = cond (test name) 1 0

pub noted_then : (old mid new : List PacketName) (first rest : List Descriptor) → AreNoted old first mid → AreNoted mid rest new → AreNoted old (first ++ rest) new
noted_then old mid new first rest one other test =
    let all = sum_by-append (λ (f : Descriptor). asked test (name_of f)) first rest in
    omega (arith, one test, other test, all)

-- in another order
pub noted_turned : (old new : List PacketName) (frames waiting : List Descriptor) → IsPermutation frames waiting → AreNoted old frames new → AreNoted old waiting new
noted_turned old new frames waiting moved noted test =
    let same = sum_by-IsPermutation (λ (f : Descriptor). asked test (name_of f)) frames waiting moved in
    omega (arith, noted test, same)
