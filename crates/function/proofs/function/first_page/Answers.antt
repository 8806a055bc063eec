use Rattle.std.proofs.Common.{◌≡◌, ◌%◌, ℕ, ap, arith}
use Rattle.std.specs.Prelude.{vec_len}
use Rattle.function.proofs.FirstPage.{first_page_is}
use Rattle.function.proofs.function.first_page.Goals as goal

pub returns-clause-items : goal.returns-clause-items
returns-clause-items c =
    let four : vec_len c.extend_from_slice.new.self ≡ 4 = omega (arith, c.in_ok-extend_from_slice.ensures.len, c.in_ok-bytes.ensures.len) in
    first_page_is c.args.id c.bus.result _ _ c.in_ok-bytes.bytes.items _ _ c.in_ok-bytes.ensures.items c.in_ok-extend_from_slice.ensures.items c.bus.ensures (ap (λ (n : ℕ). n % 256) c.bits.ensures.value) four c.in_ok-resize.ensures.items
