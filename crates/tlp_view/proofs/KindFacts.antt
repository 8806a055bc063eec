-- Byte 0 of a header: Fmt and Type, put together from a kind and taken apart.
use Rattle.std.proofs.Common.{◌≡◌, ℕ, zero, suc, ◌+◌, ◌*◌, ◌/◌, ◌%◌, ◌<◌, ◌≤◌, Bool, true, false, ◌&&◌, eqb, Option, Some, None, refl, ap, ◌∙◌, arith}
use Rattle.std.proofs.lemmas.Bool.{false≢true, true≢false, and_parts, eqb-true, agree_below_at}
use Rattle.tlp_view.specs.declared.kind.Kind.{Kind}
use Rattle.tlp_view.specs.declared.kind.Kind.TheVariants.{MRd, MRdLk, MWr, IORd, IOWr, CfgRd0, CfgWr0, CfgRd1, CfgWr1, Msg, MsgD, Cpl, CplD, CplLk, CplDLk, FetchAdd, Swap, CAS}
use Rattle.tlp_view.specs.Kinds.{has_data, has_form, type_of, kind_at, has_address, is_memory, is_fetch_add, is_message, is_completion}
use Rattle.tlp_view.specs.Bytes.{bits, is_set}
use Rattle.tlp_view.specs.Spelling.{flag}

abbrev pub byte_0 : Kind → Bool → ℕ → ℕ
byte_0 kind has_4dw_header routing = 64 * flag (has_data kind) + 32 * flag has_4dw_header + type_of kind routing

pub flag_again : (b : Bool) → eqb (flag b) 1 ≡ b
flag_again true = refl
flag_again false = refl

pub flag_small : (b : Bool) → flag b ≤ 1
flag_small true = omega arith
flag_small false = omega arith

-- what holds at 0 to 7 holds below 8
below_8 : (P : ℕ → Type 0) → P 0 → P 1 → P 2 → P 3 → P 4 → P 5 → P 6 → P 7 → (n : ℕ) → n < 8 → P n
below_8 P a b c d e f g h zero l = a
below_8 P a b c d e f g h (suc zero) l = b
below_8 P a b c d e f g h (suc (suc zero)) l = c
below_8 P a b c d e f g h (suc (suc (suc zero))) l = d
below_8 P a b c d e f g h (suc (suc (suc (suc zero)))) l = e
below_8 P a b c d e f g h (suc (suc (suc (suc (suc zero))))) l = f
below_8 P a b c d e f g h (suc (suc (suc (suc (suc (suc zero)))))) l = g
below_8 P a b c d e f g h (suc (suc (suc (suc (suc (suc (suc zero))))))) l = h
below_8 P a b c d e f g h (suc (suc (suc (suc (suc (suc (suc (suc n)))))))) l = absurd (omega arith)

pub type_small : (kind : Kind) (routing : ℕ) → routing < 8 → type_of kind routing < 32
type_small MRd routing h = omega arith
type_small MRdLk routing h = omega arith
type_small MWr routing h = omega arith
type_small IORd routing h = omega arith
type_small IOWr routing h = omega arith
type_small CfgRd0 routing h = omega arith
type_small CfgWr0 routing h = omega arith
type_small CfgRd1 routing h = omega arith
type_small CfgWr1 routing h = omega arith
type_small Msg routing h = omega arith
type_small MsgD routing h = omega arith
type_small Cpl routing h = omega arith
type_small CplD routing h = omega arith
type_small CplLk routing h = omega arith
type_small CplDLk routing h = omega arith
type_small FetchAdd routing h = omega arith
type_small Swap routing h = omega arith
type_small CAS routing h = omega arith

pub type_any : (kind : Kind) (r s : ℕ) → is_message kind ≡ false → type_of kind r ≡ type_of kind s
type_any MRd r s h = refl
type_any MRdLk r s h = refl
type_any MWr r s h = refl
type_any IORd r s h = refl
type_any IOWr r s h = refl
type_any CfgRd0 r s h = refl
type_any CfgWr0 r s h = refl
type_any CfgRd1 r s h = refl
type_any CfgWr1 r s h = refl
type_any Msg r s h = absurd (true≢false h)
type_any MsgD r s h = absurd (true≢false h)
type_any Cpl r s h = refl
type_any CplD r s h = refl
type_any CplLk r s h = refl
type_any CplDLk r s h = refl
type_any FetchAdd r s h = refl
type_any Swap r s h = refl
type_any CAS r s h = refl

pub kind_again : (kind : Kind) (has_4dw_header : Bool) (routing : ℕ) → has_form kind has_4dw_header ≡ true → routing < 8 → kind_at (byte_0 kind has_4dw_header routing / 32) (byte_0 kind has_4dw_header routing % 32) ≡ Some kind
unfolding kind_at
kind_again MRd true r f h = refl
kind_again MRd false r f h = refl
kind_again MRdLk true r f h = refl
kind_again MRdLk false r f h = refl
kind_again MWr true r f h = refl
kind_again MWr false r f h = refl
kind_again IORd true r f h = absurd (false≢true f)
kind_again IORd false r f h = refl
kind_again IOWr true r f h = absurd (false≢true f)
kind_again IOWr false r f h = refl
kind_again CfgRd0 true r f h = absurd (false≢true f)
kind_again CfgRd0 false r f h = refl
kind_again CfgWr0 true r f h = absurd (false≢true f)
kind_again CfgWr0 false r f h = refl
kind_again CfgRd1 true r f h = absurd (false≢true f)
kind_again CfgRd1 false r f h = refl
kind_again CfgWr1 true r f h = absurd (false≢true f)
kind_again CfgWr1 false r f h = refl
kind_again Msg true r f h = below_8 (λ n. kind_at (byte_0 Msg true n / 32) (byte_0 Msg true n % 32) ≡ Some Msg) refl refl refl refl refl refl refl refl r h
kind_again Msg false r f h = absurd (false≢true f)
kind_again MsgD true r f h = below_8 (λ n. kind_at (byte_0 MsgD true n / 32) (byte_0 MsgD true n % 32) ≡ Some MsgD) refl refl refl refl refl refl refl refl r h
kind_again MsgD false r f h = absurd (false≢true f)
kind_again Cpl true r f h = absurd (false≢true f)
kind_again Cpl false r f h = refl
kind_again CplD true r f h = absurd (false≢true f)
kind_again CplD false r f h = refl
kind_again CplLk true r f h = absurd (false≢true f)
kind_again CplLk false r f h = refl
kind_again CplDLk true r f h = absurd (false≢true f)
kind_again CplDLk false r f h = refl
kind_again FetchAdd true r f h = refl
kind_again FetchAdd false r f h = refl
kind_again Swap true r f h = refl
kind_again Swap false r f h = refl
kind_again CAS true r f h = refl
kind_again CAS false r f h = refl

pub wide_again : (kind : Kind) (has_4dw_header : Bool) (routing : ℕ) → routing < 8 → is_set (byte_0 kind has_4dw_header routing) 5 ≡ has_4dw_header
wide_again kind has_4dw_header routing h =
    let t = type_small kind routing h in
    let d = flag_small (has_data kind) in
    let w = flag_small has_4dw_header in
    let e : byte_0 kind has_4dw_header routing / 32 % 2 ≡ flag has_4dw_header = omega (arith, t, d, w) in
    ap (λ n. eqb n 1) e ∙ flag_again has_4dw_header

pub routing_again : (kind : Kind) (has_4dw_header : Bool) (routing : ℕ) → is_message kind ≡ true → routing < 8 → bits (byte_0 kind has_4dw_header routing) 0 3 ≡ routing
routing_again MRd has_4dw_header routing m h = absurd (false≢true m)
routing_again MRdLk has_4dw_header routing m h = absurd (false≢true m)
routing_again MWr has_4dw_header routing m h = absurd (false≢true m)
routing_again IORd has_4dw_header routing m h = absurd (false≢true m)
routing_again IOWr has_4dw_header routing m h = absurd (false≢true m)
routing_again CfgRd0 has_4dw_header routing m h = absurd (false≢true m)
routing_again CfgWr0 has_4dw_header routing m h = absurd (false≢true m)
routing_again CfgRd1 has_4dw_header routing m h = absurd (false≢true m)
routing_again CfgWr1 has_4dw_header routing m h = absurd (false≢true m)
routing_again Msg has_4dw_header routing m h = let w = flag_small has_4dw_header in omega (arith, w)
routing_again MsgD has_4dw_header routing m h = let w = flag_small has_4dw_header in omega (arith, w)
routing_again Cpl has_4dw_header routing m h = absurd (false≢true m)
routing_again CplD has_4dw_header routing m h = absurd (false≢true m)
routing_again CplLk has_4dw_header routing m h = absurd (false≢true m)
routing_again CplDLk has_4dw_header routing m h = absurd (false≢true m)
routing_again FetchAdd has_4dw_header routing m h = absurd (false≢true m)
routing_again Swap has_4dw_header routing m h = absurd (false≢true m)
routing_again CAS has_4dw_header routing m h = absurd (false≢true m)

-- every byte that is of a kind is byte 0 of that kind
taken_apart : Option Kind → ℕ → Bool
taken_apart None byte = true
taken_apart (Some kind) byte = eqb byte (byte_0 kind (is_set byte 5) (bits byte 0 3)) && has_form kind (is_set byte 5)

all_taken_apart : (byte : ℕ) → byte < 256 → taken_apart (kind_at (byte / 32) (byte % 32)) byte ≡ true
unfolding kind_at taken_apart
all_taken_apart byte h = agree_below_at (λ b. taken_apart (kind_at (b / 32) (b % 32)) b) (λ b. true) 256 byte refl h

pub byte_0-apart : (byte : ℕ) (kind : Kind) → byte < 256 → kind_at (byte / 32) (byte % 32) ≡ Some kind → (byte ≡ byte_0 kind (is_set byte 5) (bits byte 0 3)) × (has_form kind (is_set byte 5) ≡ true)
unfolding taken_apart
byte_0-apart byte kind h e =
    let parts = and_parts _ _ (rw e at (all_taken_apart byte h)) in
    (eqb-true _ _ parts.0, parts.1)

pub memory_no_completion : (kind : Kind) → is_memory kind ≡ true → is_completion kind ≡ false
memory_no_completion MRd h = refl
memory_no_completion MRdLk h = absurd (false≢true h)
memory_no_completion MWr h = refl
memory_no_completion IORd h = absurd (false≢true h)
memory_no_completion IOWr h = absurd (false≢true h)
memory_no_completion CfgRd0 h = absurd (false≢true h)
memory_no_completion CfgWr0 h = absurd (false≢true h)
memory_no_completion CfgRd1 h = absurd (false≢true h)
memory_no_completion CfgWr1 h = absurd (false≢true h)
memory_no_completion Msg h = absurd (false≢true h)
memory_no_completion MsgD h = absurd (false≢true h)
memory_no_completion Cpl h = absurd (false≢true h)
memory_no_completion CplD h = absurd (false≢true h)
memory_no_completion CplLk h = absurd (false≢true h)
memory_no_completion CplDLk h = absurd (false≢true h)
memory_no_completion FetchAdd h = absurd (false≢true h)
memory_no_completion Swap h = absurd (false≢true h)
memory_no_completion CAS h = absurd (false≢true h)

pub message_no_memory : (kind : Kind) → is_message kind ≡ true → is_memory kind ≡ false
message_no_memory MRd h = absurd (false≢true h)
message_no_memory MRdLk h = absurd (false≢true h)
message_no_memory MWr h = absurd (false≢true h)
message_no_memory IORd h = absurd (false≢true h)
message_no_memory IOWr h = absurd (false≢true h)
message_no_memory CfgRd0 h = absurd (false≢true h)
message_no_memory CfgWr0 h = absurd (false≢true h)
message_no_memory CfgRd1 h = absurd (false≢true h)
message_no_memory CfgWr1 h = absurd (false≢true h)
message_no_memory Msg h = refl
message_no_memory MsgD h = refl
message_no_memory Cpl h = absurd (false≢true h)
message_no_memory CplD h = absurd (false≢true h)
message_no_memory CplLk h = absurd (false≢true h)
message_no_memory CplDLk h = absurd (false≢true h)
message_no_memory FetchAdd h = absurd (false≢true h)
message_no_memory Swap h = absurd (false≢true h)
message_no_memory CAS h = absurd (false≢true h)

pub message_no_completion : (kind : Kind) → is_message kind ≡ true → is_completion kind ≡ false
message_no_completion MRd h = absurd (false≢true h)
message_no_completion MRdLk h = absurd (false≢true h)
message_no_completion MWr h = absurd (false≢true h)
message_no_completion IORd h = absurd (false≢true h)
message_no_completion IOWr h = absurd (false≢true h)
message_no_completion CfgRd0 h = absurd (false≢true h)
message_no_completion CfgWr0 h = absurd (false≢true h)
message_no_completion CfgRd1 h = absurd (false≢true h)
message_no_completion CfgWr1 h = absurd (false≢true h)
message_no_completion Msg h = refl
message_no_completion MsgD h = refl
message_no_completion Cpl h = absurd (false≢true h)
message_no_completion CplD h = absurd (false≢true h)
message_no_completion CplLk h = absurd (false≢true h)
message_no_completion CplDLk h = absurd (false≢true h)
message_no_completion FetchAdd h = absurd (false≢true h)
message_no_completion Swap h = absurd (false≢true h)
message_no_completion CAS h = absurd (false≢true h)

pub completion_no_memory : (kind : Kind) → is_completion kind ≡ true → is_memory kind ≡ false
completion_no_memory MRd h = absurd (false≢true h)
completion_no_memory MRdLk h = absurd (false≢true h)
completion_no_memory MWr h = absurd (false≢true h)
completion_no_memory IORd h = absurd (false≢true h)
completion_no_memory IOWr h = absurd (false≢true h)
completion_no_memory CfgRd0 h = absurd (false≢true h)
completion_no_memory CfgWr0 h = absurd (false≢true h)
completion_no_memory CfgRd1 h = absurd (false≢true h)
completion_no_memory CfgWr1 h = absurd (false≢true h)
completion_no_memory Msg h = absurd (false≢true h)
completion_no_memory MsgD h = absurd (false≢true h)
completion_no_memory Cpl h = refl
completion_no_memory CplD h = refl
completion_no_memory CplLk h = refl
completion_no_memory CplDLk h = refl
completion_no_memory FetchAdd h = absurd (false≢true h)
completion_no_memory Swap h = absurd (false≢true h)
completion_no_memory CAS h = absurd (false≢true h)

pub completion_no_message : (kind : Kind) → is_completion kind ≡ true → is_message kind ≡ false
completion_no_message MRd h = absurd (false≢true h)
completion_no_message MRdLk h = absurd (false≢true h)
completion_no_message MWr h = absurd (false≢true h)
completion_no_message IORd h = absurd (false≢true h)
completion_no_message IOWr h = absurd (false≢true h)
completion_no_message CfgRd0 h = absurd (false≢true h)
completion_no_message CfgWr0 h = absurd (false≢true h)
completion_no_message CfgRd1 h = absurd (false≢true h)
completion_no_message CfgWr1 h = absurd (false≢true h)
completion_no_message Msg h = absurd (false≢true h)
completion_no_message MsgD h = absurd (false≢true h)
completion_no_message Cpl h = refl
completion_no_message CplD h = refl
completion_no_message CplLk h = refl
completion_no_message CplDLk h = refl
completion_no_message FetchAdd h = absurd (false≢true h)
completion_no_message Swap h = absurd (false≢true h)
completion_no_message CAS h = absurd (false≢true h)

pub completion_is_narrow : (kind : Kind) → is_completion kind ≡ true → has_form kind true ≡ true → ⊥
completion_is_narrow MRd h f = false≢true h
completion_is_narrow MRdLk h f = false≢true h
completion_is_narrow MWr h f = false≢true h
completion_is_narrow IORd h f = false≢true h
completion_is_narrow IOWr h f = false≢true h
completion_is_narrow CfgRd0 h f = false≢true h
completion_is_narrow CfgWr0 h f = false≢true h
completion_is_narrow CfgRd1 h f = false≢true h
completion_is_narrow CfgWr1 h f = false≢true h
completion_is_narrow Msg h f = false≢true h
completion_is_narrow MsgD h f = false≢true h
completion_is_narrow Cpl h f = false≢true f
completion_is_narrow CplD h f = false≢true f
completion_is_narrow CplLk h f = false≢true f
completion_is_narrow CplDLk h f = false≢true f
completion_is_narrow FetchAdd h f = false≢true h
completion_is_narrow Swap h f = false≢true h
completion_is_narrow CAS h f = false≢true h

pub message_is_wide : (kind : Kind) → is_message kind ≡ true → has_form kind false ≡ true → ⊥
message_is_wide MRd h f = false≢true h
message_is_wide MRdLk h f = false≢true h
message_is_wide MWr h f = false≢true h
message_is_wide IORd h f = false≢true h
message_is_wide IOWr h f = false≢true h
message_is_wide CfgRd0 h f = false≢true h
message_is_wide CfgWr0 h f = false≢true h
message_is_wide CfgRd1 h f = false≢true h
message_is_wide CfgWr1 h f = false≢true h
message_is_wide Msg h f = false≢true f
message_is_wide MsgD h f = false≢true f
message_is_wide Cpl h f = false≢true h
message_is_wide CplD h f = false≢true h
message_is_wide CplLk h f = false≢true h
message_is_wide CplDLk h f = false≢true h
message_is_wide FetchAdd h f = false≢true h
message_is_wide Swap h f = false≢true h
message_is_wide CAS h f = false≢true h

pub fetch_add_no_memory : (kind : Kind) → is_fetch_add kind ≡ true → is_memory kind ≡ false
fetch_add_no_memory MRd h = absurd (false≢true h)
fetch_add_no_memory MRdLk h = absurd (false≢true h)
fetch_add_no_memory MWr h = absurd (false≢true h)
fetch_add_no_memory IORd h = absurd (false≢true h)
fetch_add_no_memory IOWr h = absurd (false≢true h)
fetch_add_no_memory CfgRd0 h = absurd (false≢true h)
fetch_add_no_memory CfgWr0 h = absurd (false≢true h)
fetch_add_no_memory CfgRd1 h = absurd (false≢true h)
fetch_add_no_memory CfgWr1 h = absurd (false≢true h)
fetch_add_no_memory Msg h = absurd (false≢true h)
fetch_add_no_memory MsgD h = absurd (false≢true h)
fetch_add_no_memory Cpl h = absurd (false≢true h)
fetch_add_no_memory CplD h = absurd (false≢true h)
fetch_add_no_memory CplLk h = absurd (false≢true h)
fetch_add_no_memory CplDLk h = absurd (false≢true h)
fetch_add_no_memory FetchAdd h = refl
fetch_add_no_memory Swap h = absurd (false≢true h)
fetch_add_no_memory CAS h = absurd (false≢true h)

pub fetch_add_no_message : (kind : Kind) → is_fetch_add kind ≡ true → is_message kind ≡ false
fetch_add_no_message MRd h = absurd (false≢true h)
fetch_add_no_message MRdLk h = absurd (false≢true h)
fetch_add_no_message MWr h = absurd (false≢true h)
fetch_add_no_message IORd h = absurd (false≢true h)
fetch_add_no_message IOWr h = absurd (false≢true h)
fetch_add_no_message CfgRd0 h = absurd (false≢true h)
fetch_add_no_message CfgWr0 h = absurd (false≢true h)
fetch_add_no_message CfgRd1 h = absurd (false≢true h)
fetch_add_no_message CfgWr1 h = absurd (false≢true h)
fetch_add_no_message Msg h = absurd (false≢true h)
fetch_add_no_message MsgD h = absurd (false≢true h)
fetch_add_no_message Cpl h = absurd (false≢true h)
fetch_add_no_message CplD h = absurd (false≢true h)
fetch_add_no_message CplLk h = absurd (false≢true h)
fetch_add_no_message CplDLk h = absurd (false≢true h)
fetch_add_no_message FetchAdd h = refl
fetch_add_no_message Swap h = absurd (false≢true h)
fetch_add_no_message CAS h = absurd (false≢true h)

pub fetch_add_no_completion : (kind : Kind) → is_fetch_add kind ≡ true → is_completion kind ≡ false
fetch_add_no_completion MRd h = absurd (false≢true h)
fetch_add_no_completion MRdLk h = absurd (false≢true h)
fetch_add_no_completion MWr h = absurd (false≢true h)
fetch_add_no_completion IORd h = absurd (false≢true h)
fetch_add_no_completion IOWr h = absurd (false≢true h)
fetch_add_no_completion CfgRd0 h = absurd (false≢true h)
fetch_add_no_completion CfgWr0 h = absurd (false≢true h)
fetch_add_no_completion CfgRd1 h = absurd (false≢true h)
fetch_add_no_completion CfgWr1 h = absurd (false≢true h)
fetch_add_no_completion Msg h = absurd (false≢true h)
fetch_add_no_completion MsgD h = absurd (false≢true h)
fetch_add_no_completion Cpl h = absurd (false≢true h)
fetch_add_no_completion CplD h = absurd (false≢true h)
fetch_add_no_completion CplLk h = absurd (false≢true h)
fetch_add_no_completion CplDLk h = absurd (false≢true h)
fetch_add_no_completion FetchAdd h = refl
fetch_add_no_completion Swap h = absurd (false≢true h)
fetch_add_no_completion CAS h = absurd (false≢true h)

pub memory_addressed : (kind : Kind) → is_memory kind ≡ true → has_address kind ≡ true
memory_addressed MRd h = refl
memory_addressed MRdLk h = absurd (false≢true h)
memory_addressed MWr h = refl
memory_addressed IORd h = absurd (false≢true h)
memory_addressed IOWr h = absurd (false≢true h)
memory_addressed CfgRd0 h = absurd (false≢true h)
memory_addressed CfgWr0 h = absurd (false≢true h)
memory_addressed CfgRd1 h = absurd (false≢true h)
memory_addressed CfgWr1 h = absurd (false≢true h)
memory_addressed Msg h = absurd (false≢true h)
memory_addressed MsgD h = absurd (false≢true h)
memory_addressed Cpl h = absurd (false≢true h)
memory_addressed CplD h = absurd (false≢true h)
memory_addressed CplLk h = absurd (false≢true h)
memory_addressed CplDLk h = absurd (false≢true h)
memory_addressed FetchAdd h = absurd (false≢true h)
memory_addressed Swap h = absurd (false≢true h)
memory_addressed CAS h = absurd (false≢true h)

pub memory_no_fetch_add : (kind : Kind) → is_memory kind ≡ true → is_fetch_add kind ≡ false
memory_no_fetch_add MRd h = refl
memory_no_fetch_add MRdLk h = absurd (false≢true h)
memory_no_fetch_add MWr h = refl
memory_no_fetch_add IORd h = absurd (false≢true h)
memory_no_fetch_add IOWr h = absurd (false≢true h)
memory_no_fetch_add CfgRd0 h = absurd (false≢true h)
memory_no_fetch_add CfgWr0 h = absurd (false≢true h)
memory_no_fetch_add CfgRd1 h = absurd (false≢true h)
memory_no_fetch_add CfgWr1 h = absurd (false≢true h)
memory_no_fetch_add Msg h = absurd (false≢true h)
memory_no_fetch_add MsgD h = absurd (false≢true h)
memory_no_fetch_add Cpl h = absurd (false≢true h)
memory_no_fetch_add CplD h = absurd (false≢true h)
memory_no_fetch_add CplLk h = absurd (false≢true h)
memory_no_fetch_add CplDLk h = absurd (false≢true h)
memory_no_fetch_add FetchAdd h = absurd (false≢true h)
memory_no_fetch_add Swap h = absurd (false≢true h)
memory_no_fetch_add CAS h = absurd (false≢true h)
