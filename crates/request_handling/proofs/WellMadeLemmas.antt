-- What a domain makes is well made.
use Rattle.std.proofs.Common.{◌≡◌, ℕ, ◌≤◌, Bool, true, false, ◌&&◌, ◌||◌, not, refl, List, length, None, sym, subst}
use Rattle.std.specs.Prelude.{nat_lt}
use Rattle.std.proofs.lemmas.Bool.{ltb-false}
use Rattle.fab_types.specs.declared.head.Parties.{Parties}
use Rattle.fab_types.specs.declared.head.Parties.TheVariants.{Upward, Downward, Answer}
use Rattle.function.specs.Accesses.{IsAccess, IsAccessKind}
use Rattle.tlp_view.specs.declared.kind.Kind.{Kind}
use Rattle.tlp_view.specs.declared.kind.Kind.TheVariants.{MRd, MWr, FetchAdd}
use Rattle.tlp_view.specs.Kinds.{has_address, is_fetch_add, is_memory}
use Rattle.tlp_view.specs.Malformed.{malformed}
use Rattle.tlp_view.specs.Packet.{Packet, dw_count}
use Rattle.tlp_view.specs.Runs.{is_write}
use Rattle.tlp_view.specs.Spelling.{Spells}
use Rattle.tlp_view.proofs.Again.{packet_of-spelled}
use Rattle.request_handling.specs.declared.handling.Made.{Made}
use Rattle.request_handling.specs.declared.handling.Made.TheVariants.{Completion, Request}
use Rattle.request_handling.specs.AtFunctions.{is_access}
use Rattle.request_handling.specs.Answers.{IsReadAs, IsReply}
use Rattle.request_handling.specs.WellMade.{IsWellMade}

-- a request that is made
pub request_well : (p : Parties) (t : Packet) (bytes : List ℕ) → IsReply p (Request t) → Spells bytes t → length bytes ≤ 272 → IsWellMade p bytes
request_well (Upward f) t bytes is s small = tt
request_well (Downward g) t bytes is s small = (s.well_formed, subst IsAccess (sym (packet_of-spelled bytes t s)) is)
request_well (Answer by x) t bytes is s small = (s.well_formed, small)

pub read_as : (t : Packet) (bytes : List ℕ) → Spells bytes t → IsReadAs (Request t) bytes
read_as t bytes s = packet_of-spelled bytes t s

-- a reply
pub reply_well : (p : Parties) (m : Made) (bytes : List ℕ) → IsReply p m → malformed bytes ≡ None → IsReadAs m bytes → length bytes ≤ 272 → IsWellMade p bytes
reply_well (Upward f) m bytes is good same small = tt
reply_well (Downward g) (Completion t) bytes is good same small = absurd is
reply_well (Downward g) (Request t) bytes is good same small = (good, subst IsAccess (sym same) is)
reply_well (Answer by x) m bytes is good same small = (good, small)

-- what is tested to be an access is one
access_kind : (k : Kind) (n : ℕ) → (is_memory k && (is_write k || not (nat_lt 64 n))) ≡ true → IsAccessKind k n
access_kind MWr n e = tt
access_kind MRd n e = ltb-false 64 n (by (nat_lt 64 n) e) where
  by : (b : Bool) → not b ≡ true → b ≡ false
  by true e = absurd cc
  by false e = refl
access_kind _ n e = absurd cc

pub is_an_access : (t : Packet) → is_access t ≡ true → IsAccess t
is_an_access t e = access_kind t.kind (dw_count t.length) e

-- of what has an address all but a FetchAdd is a memory read or write
pub left_memory : (k : Kind) → has_address k ≡ true → is_fetch_add k ≡ false → is_memory k ≡ true
left_memory MRd a f = refl
left_memory MWr a f = refl
left_memory FetchAdd a f = absurd cc
left_memory _ a f = absurd cc

pub write_memory : (k : Kind) → is_write k ≡ true → is_memory k ≡ true
write_memory MWr w = refl
write_memory _ w = absurd cc

-- a write may be of any length
write_kind : (k : Kind) (n : ℕ) → is_write k ≡ true → IsAccessKind k n
write_kind MWr n w = tt
write_kind _ n w = absurd cc

pub write_access : (t : Packet) → is_write t.kind ≡ true → IsAccess t
write_access t w = write_kind t.kind _ w
