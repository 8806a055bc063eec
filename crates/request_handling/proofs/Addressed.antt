-- Which requests have an address, and which are reads.
use Rattle.std.proofs.Common.{◌≡◌, ℕ, true, false, refl}
use Rattle.function.specs.Accesses.{IsAccess, IsAccessKind}
use Rattle.tlp_view.specs.declared.kind.Kind.{Kind}
use Rattle.tlp_view.specs.declared.kind.Kind.TheVariants.{MRd, MWr, FetchAdd}
use Rattle.tlp_view.specs.Kinds.{has_address, is_fetch_add, is_memory}
use Rattle.tlp_view.specs.Packet.{Packet, dw_count}
use Rattle.tlp_view.specs.Runs.{is_write}

pub memory_addressed : (k : Kind) → is_memory k ≡ true → has_address k ≡ true
memory_addressed MRd m = refl
memory_addressed MWr m = refl
memory_addressed _ m = absurd cc

pub write_addressed : (k : Kind) → is_write k ≡ true → has_address k ≡ true
write_addressed MWr w = refl
write_addressed _ w = absurd cc

pub fetch_add_addressed : (k : Kind) → is_fetch_add k ≡ true → has_address k ≡ true
fetch_add_addressed FetchAdd f = refl
fetch_add_addressed _ f = absurd cc

access_kind_addressed : (k : Kind) (n : ℕ) → IsAccessKind k n → has_address k ≡ true
access_kind_addressed MRd n is = refl
access_kind_addressed MWr n is = refl
access_kind_addressed _ n is = absurd is

pub access_addressed : (t : Packet) → IsAccess t → has_address t.kind ≡ true
access_addressed t is = access_kind_addressed t.kind (dw_count t.length) is

-- what is read or written and isn't written is read
pub memory_read : (k : Kind) → is_memory k ≡ true → is_write k ≡ false → k ≡ MRd
memory_read MRd m w = refl
memory_read MWr m w = absurd cc
memory_read _ m w = absurd cc

pub left_read : (k : Kind) → has_address k ≡ true → is_write k ≡ false → is_fetch_add k ≡ false → k ≡ MRd
left_read MRd a w f = refl
left_read MWr a w f = absurd cc
left_read FetchAdd a w f = absurd cc
left_read _ a w f = absurd cc
