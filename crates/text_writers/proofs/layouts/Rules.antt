-- What the rules of one port say, part by part, and lines whose rules all pass.
use Rattle.std.proofs.Common.{◌≡◌, ℕ, ◌%◌, ◌==◌, ◌<◌, ◌≤◌, Bool, true, false, cond, refl, Option, Some, None, arith}
use Rattle.std.specs.Prelude.{◌&&◌, ◌||◌, not, nat_le, nat_lt}
use Rattle.std.proofs.lemmas.Bool.{and_parts}
use Rattle.std.proofs.lemmas.Bool.Decides.{nat_tests}
use Rattle.fab_types.specs.Controls.{bits_of}
use Rattle.fab_types.specs.Id.{bus_of, function_of}
use Rattle.fab_types.specs.declared.faults.layout.LayoutCause.{LayoutCause}
use Rattle.platform.specs.declared.parts.LayoutVersion.{LayoutVersion}
use Rattle.platform.specs.declared.parts.DownstreamPort.{DownstreamPort}
use Rattle.platform.specs.Tree.{is_on_bus}
use Rattle.layout.specs.Laws.{are_apart}
use Rattle.layout.specs.Rules.{last_controls}
use Rattle.text_writers.specs.HasLines.{has_port_line, has_vector_line}

-- ---- tests

-- a rule that does not apply is passed over
pub skip : (b : Bool) (cause : LayoutCause) (rest : Option LayoutCause) → b ≡ false → rest ≡ None → cond b (Some cause) rest ≡ None
skip true cause rest h k = absurd cc
skip false cause rest h k = k

pub or-no : (a b : Bool) → a ≡ false → b ≡ false → (a || b) ≡ false
or-no true b h k = h
or-no false b h k = k

pub no-not : (a : Bool) → a ≡ true → not a ≡ false
no-not true h = refl
no-not false h = absurd cc

pub is-false : (a : Bool) → not a ≡ true → a ≡ false
is-false true h = absurd cc
is-false false h = refl

pub not-less : (a b : ℕ) → nat_le a b ≡ true → nat_lt b a ≡ false
not-less a b h = grind (arith, nat_tests)

pub not-most : (a b : ℕ) → nat_lt a b ≡ true → nat_le b a ≡ false
not-most a b h = grind (arith, nat_tests)

pub le-from : (a b : ℕ) → nat_le a b ≡ true → a ≤ b
le-from a b h = grind (arith, nat_tests)

pub le-true : (a b : ℕ) → a ≤ b → nat_le a b ≡ true
le-true a b h = grind (arith, nat_tests)

pub lt-from : (a b : ℕ) → nat_lt a b ≡ true → a < b
lt-from a b h = grind (arith, nat_tests)

pub above-most : (a b : ℕ) → a < b → nat_le b a ≡ false
above-most a b h = grind (arith, nat_tests)

-- ---- one port

pub record IsPortRow (version : LayoutVersion) (port : DownstreamPort) : Type 0 where
  pub function : (function_of port.id == 0) ≡ true
  pub base : (port.base % 0x100000 == 0) ≡ true
  pub limit : (port.limit % 0x100000 == 0xfffff) ≡ true
  pub subordinate : nat_le port.subordinate 255 ≡ true
  pub controls : nat_le (bits_of port.controls) (last_controls version) ≡ true
  pub vector : has_vector_line version port.controls port.egress_vector ≡ true

pub port-row : (version : LayoutVersion) (port : DownstreamPort) → has_port_line version port ≡ true → IsPortRow version port
port-row version port h =
    let five = and_parts _ _ h in
    let four = and_parts _ _ five.0 in
    let three = and_parts _ _ four.0 in
    let two = and_parts _ _ three.0 in
    let one = and_parts _ _ two.0 in
    record { function = one.0; base = one.1; limit = two.1; subordinate = three.1; controls = four.1; vector = five.1 }

-- ---- two ports

pub record AreApart (one other : DownstreamPort) : Type 0 where
  pub ids : (one.id == other.id) ≡ false
  pub buses : (is_on_bus (bus_of other.id) one && nat_le one.secondary other.subordinate && nat_le other.secondary one.subordinate) ≡ false
  pub windows : (is_on_bus (bus_of other.id) one && nat_le one.base other.limit && nat_le other.base one.limit) ≡ false

pub apart-parts : (one other : DownstreamPort) → are_apart one other ≡ true → AreApart one other
apart-parts one other h =
    let two = and_parts _ _ h in
    let one_and = and_parts _ _ two.0 in
    record { ids = is-false _ one_and.0; buses = is-false _ one_and.1; windows = is-false _ two.1 }
