-- The fields of a packet's body, by its kind.
use Rattle.std.proofs.Common.{◌≡◌, ℕ, ◌+◌, ◌*◌, ◌%◌, cond, List, slice_index, Some, None, unwrap_or, refl}
use Rattle.fab_types.specs.declared.status.Status.TheVariants.{SC}
use Rattle.tlp_view.specs.declared.kind.Kind.{Kind}
use Rattle.tlp_view.specs.declared.kind.Kind.TheVariants.{MRd, MRdLk, MWr, IORd, IOWr, CfgRd0, CfgWr0, CfgRd1, CfgWr1, Msg, MsgD, Cpl, CplD, CplLk, CplDLk, FetchAdd, Swap, CAS}
use Rattle.tlp_view.specs.Packet.{address_in, enables_in, status_in, byte_count_in, lower_address_in}
use Rattle.tlp_view.specs.Kinds.{has_address, is_memory, is_completion}
use Rattle.tlp_view.specs.Bytes.{bits, address_at, enables_at, status_at, body_at}

pub address_of_body : (kind : Kind) (bytes : List ℕ) → address_in (body_at kind bytes) ≡ cond (has_address kind) (Some (address_at bytes)) None
address_of_body MRd bytes = refl
address_of_body MRdLk bytes = refl
address_of_body MWr bytes = refl
address_of_body IORd bytes = refl
address_of_body IOWr bytes = refl
address_of_body CfgRd0 bytes = refl
address_of_body CfgWr0 bytes = refl
address_of_body CfgRd1 bytes = refl
address_of_body CfgWr1 bytes = refl
address_of_body Msg bytes = refl
address_of_body MsgD bytes = refl
address_of_body Cpl bytes = refl
address_of_body CplD bytes = refl
address_of_body CplLk bytes = refl
address_of_body CplDLk bytes = refl
address_of_body FetchAdd bytes = refl
address_of_body Swap bytes = refl
address_of_body CAS bytes = refl

pub enables_of_body : (kind : Kind) (bytes : List ℕ) → enables_in (body_at kind bytes) ≡ cond (is_memory kind) (Some (enables_at bytes)) None
enables_of_body MRd bytes = refl
enables_of_body MRdLk bytes = refl
enables_of_body MWr bytes = refl
enables_of_body IORd bytes = refl
enables_of_body IOWr bytes = refl
enables_of_body CfgRd0 bytes = refl
enables_of_body CfgWr0 bytes = refl
enables_of_body CfgRd1 bytes = refl
enables_of_body CfgWr1 bytes = refl
enables_of_body Msg bytes = refl
enables_of_body MsgD bytes = refl
enables_of_body Cpl bytes = refl
enables_of_body CplD bytes = refl
enables_of_body CplLk bytes = refl
enables_of_body CplDLk bytes = refl
enables_of_body FetchAdd bytes = refl
enables_of_body Swap bytes = refl
enables_of_body CAS bytes = refl

pub status_of_body : (kind : Kind) (bytes : List ℕ) → status_in (body_at kind bytes) ≡ cond (is_completion kind) (Some (unwrap_or (status_at bytes) SC)) None
status_of_body MRd bytes = refl
status_of_body MRdLk bytes = refl
status_of_body MWr bytes = refl
status_of_body IORd bytes = refl
status_of_body IOWr bytes = refl
status_of_body CfgRd0 bytes = refl
status_of_body CfgWr0 bytes = refl
status_of_body CfgRd1 bytes = refl
status_of_body CfgWr1 bytes = refl
status_of_body Msg bytes = refl
status_of_body MsgD bytes = refl
status_of_body Cpl bytes = refl
status_of_body CplD bytes = refl
status_of_body CplLk bytes = refl
status_of_body CplDLk bytes = refl
status_of_body FetchAdd bytes = refl
status_of_body Swap bytes = refl
status_of_body CAS bytes = refl

pub byte_count_of_body : (kind : Kind) (bytes : List ℕ) → byte_count_in (body_at kind bytes) ≡ cond (is_completion kind) (Some (bits (slice_index bytes 6) 0 4 * 256 + slice_index bytes 7)) None
byte_count_of_body MRd bytes = refl
byte_count_of_body MRdLk bytes = refl
byte_count_of_body MWr bytes = refl
byte_count_of_body IORd bytes = refl
byte_count_of_body IOWr bytes = refl
byte_count_of_body CfgRd0 bytes = refl
byte_count_of_body CfgWr0 bytes = refl
byte_count_of_body CfgRd1 bytes = refl
byte_count_of_body CfgWr1 bytes = refl
byte_count_of_body Msg bytes = refl
byte_count_of_body MsgD bytes = refl
byte_count_of_body Cpl bytes = refl
byte_count_of_body CplD bytes = refl
byte_count_of_body CplLk bytes = refl
byte_count_of_body CplDLk bytes = refl
byte_count_of_body FetchAdd bytes = refl
byte_count_of_body Swap bytes = refl
byte_count_of_body CAS bytes = refl

pub lower_address_of_body : (kind : Kind) (bytes : List ℕ) → lower_address_in (body_at kind bytes) ≡ cond (is_completion kind) (Some (slice_index bytes 11 % 128)) None
lower_address_of_body MRd bytes = refl
lower_address_of_body MRdLk bytes = refl
lower_address_of_body MWr bytes = refl
lower_address_of_body IORd bytes = refl
lower_address_of_body IOWr bytes = refl
lower_address_of_body CfgRd0 bytes = refl
lower_address_of_body CfgWr0 bytes = refl
lower_address_of_body CfgRd1 bytes = refl
lower_address_of_body CfgWr1 bytes = refl
lower_address_of_body Msg bytes = refl
lower_address_of_body MsgD bytes = refl
lower_address_of_body Cpl bytes = refl
lower_address_of_body CplD bytes = refl
lower_address_of_body CplLk bytes = refl
lower_address_of_body CplDLk bytes = refl
lower_address_of_body FetchAdd bytes = refl
lower_address_of_body Swap bytes = refl
lower_address_of_body CAS bytes = refl
