-- What is known of a request that reaches a register page.
use Rattle.std.proofs.Common.{ℕ, ◌+◌, ◌*◌, ◌%◌, ◌≤◌, length, Option, Some, None, IfSome, arith}
use Rattle.std.specs.Prelude.{unwrap_or}
use Rattle.tlp_view.specs.Packet.{Packet, dw_count, address_in}
use Rattle.tlp_view.specs.View.{IsSound}
use Rattle.function.specs.Accesses.{place_of}

place_within : (o : Option ℕ) (n : ℕ) → IfSome o (λ a. a % 4096 + n ≤ 4096) → n ≤ 4096 → unwrap_or o 0 % 4096 + n ≤ 4096
place_within None n within small = omega (arith, small)
place_within (Some a) n within small = within

-- a read of at most 64 DW stays in the page
pub read_inside : (t : Packet) → IsSound t → dw_count t.length ≤ 64 → place_of t + 4 * dw_count t.length ≤ 4096
read_inside t sound short = place_within (address_in t.body) (4 * dw_count t.length) sound.within (omega (arith, short))
