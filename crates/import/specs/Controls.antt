-- The ACS controls that a port has in a layout (PCIe 4.0, 7.7.8.3).
use Rattle.std.specs.Prelude.{ℕ, ◌+◌, ◌*◌, ◌/◌, ◌%◌, ◌==◌, Bool, ◌&&◌, not, nat_le, List, if◌then◌else◌}
use Rattle.std.specs.List.{list_any}
use Rattle.layout_line.specs.declared.lines.EgressText.{EgressText}
use Rattle.lspci.specs.declared.acs.Acs.{Acs}
use Rattle.lspci.specs.declared.acs.Acs.TheVariants.{Absent, Unknown, Standard, Wide}
use Rattle.lspci.specs.Acs.{acs_of}

-- a port without the capability has no controls
abbrev pub control_register : Acs → ℕ
control_register Absent = 0
control_register Unknown = 0
control_register (Standard capability control) = control
control_register (Wide capability control) = control

-- bit 5, ACS P2P Egress Control
abbrev pub sets_egress : List ℕ → Bool
sets_egress bytes = control_register (acs_of bytes) / 32 % 2 == 1

-- further ones than V, B, R, C, U and E are set
abbrev pub has_further_controls : List ℕ → Bool
has_further_controls bytes = nat_le 64 (control_register (acs_of bytes))

abbrev pub has_vector : List EgressText → ℕ → Bool
has_vector vectors id = list_any (λ vector. vector.port == id) vectors

-- it controls egress in the machine, but not in a layout with these vectors
abbrev pub loses_egress : List ℕ → List EgressText → ℕ → Bool
loses_egress bytes vectors id = sets_egress bytes && not (has_vector vectors id)

-- V, B, C and U
abbrev pub without_redirect : ℕ → ℕ
without_redirect controls = controls % 4 + controls / 8 % 4 * 8

-- V, B, R, C, U and E
abbrev pub plain_controls : List ℕ → ℕ
plain_controls bytes = control_register (acs_of bytes) % 64

-- Where the port controls egress without a vector in the layout, requests may go directly to whatever port the vector of the
-- machine lets them through to, so Request Redirect counts as clear
abbrev pub controls_of : List ℕ → List EgressText → ℕ → ℕ
controls_of bytes vectors id = if loses_egress bytes vectors id then without_redirect (plain_controls bytes) else plain_controls bytes
