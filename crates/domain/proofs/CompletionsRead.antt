-- The header of a completion that is made, as it is read from its bytes.
use Rattle.std.proofs.Common.{◌≡◌, ℕ, ◌+◌, ◌*◌, ◌/◌, ◌%◌, Bool, true, false, List, [], Option, None, refl, ap, ◌∙◌, arith}
use Rattle.std.specs.Option.{unwrap_or}
use Rattle.std.proofs.lemmas.Bool.{cond-true}
use Rattle.fab_types.specs.declared.faults.malformed.Malformed.{Malformed}
use Rattle.fab_types.specs.declared.head.Header.TheVariants as header
use Rattle.fab_types.specs.declared.head.Parties.{Parties}
use Rattle.fab_types.specs.declared.status.Status.{Status}
use Rattle.tlp_view.specs.declared.completion.CompletionHead.{CompletionHead}
use Rattle.tlp_view.specs.declared.kind.Kind.{Kind}
use Rattle.tlp_view.specs.declared.kind.Kind.TheVariants.{MRd, Cpl}
use Rattle.tlp_view.specs.Bytes.{be_u16_at, packet_of, packet_of_kind}
use Rattle.tlp_view.specs.Completions.{completion_bytes, refusal}
use Rattle.tlp_view.specs.Kinds.{is_completion}
use Rattle.tlp_view.specs.Malformed.{malformed}
use Rattle.tlp_view.specs.Packet.{Packet}
use Rattle.tlp_view.proofs.Completed.{completion_well_formed}
use Rattle.tlp_view.proofs.KindFacts.{kind_again}
use Rattle.request_handling.specs.Heads.{header_unless, packet_header, target_for}

pub word_again : (n : ℕ) → n / 256 * 256 + n % 256 ≡ n
word_again n = omega arith

-- what is read, where the bytes are of this kind and well formed
pub read : (p : Parties) (bytes : List ℕ) (q : Packet) → malformed bytes ≡ None → packet_of bytes ≡ q → header_unless (malformed bytes) p bytes ≡ packet_header p q
read p bytes q well is = ap (λ (m : Option Malformed). header_unless m p bytes) well ∙ ap (packet_header p) is

reply_header : (p : Parties) (q : Packet) → is_completion q.kind ≡ true → packet_header p q ≡ header.Completion (target_for p q.requester) q.attributes.relaxed_ordering
reply_header p q is = rw is refl

-- a completion is read as one for the Requester ID that its bytes have
pub reply_read : (kind : Kind) (p : Parties) (bytes : List ℕ) (requester : ℕ) → is_completion kind ≡ true → packet_of bytes ≡ packet_of_kind kind bytes → be_u16_at bytes 8 ≡ requester → malformed bytes ≡ None
    → (relaxed_ordering : Bool) × (header_unless (malformed bytes) p bytes ≡ header.Completion (target_for p requester) relaxed_ordering)
reply_read kind p bytes requester is same word well =
    let q = packet_of_kind kind bytes in
    let requester_is : q.requester ≡ requester = cond-true (is_completion kind) (be_u16_at bytes 8) (be_u16_at bytes 4) is ∙ word in
    (q.attributes.relaxed_ordering, read p bytes q well same ∙ (reply_header p q is ∙ ap (λ (r : ℕ). header.Completion (target_for p r) q.attributes.relaxed_ordering) requester_is))

-- a refusal is well formed
pub refusal_well : (completer : ℕ) (status : Status) (t : Packet) → malformed (completion_bytes (refusal completer status t)) ≡ None
refusal_well completer status t =
    let head : CompletionHead = record {
      completer = completer;
      status = status;
      byte_count = 4;
      requester = t.requester;
      tag = t.tag;
      lower_address = 0;
      attributes = t.attributes;
    } in
    completion_well_formed head [] (record { byte_count = omega arith; lower_address = omega arith }) 0 (omega arith) refl

-- a refusal keeps the Requester ID of what it answers
pub refusal_read : (p : Parties) (completer : ℕ) (status : Status) (t : Packet) → malformed (completion_bytes (refusal completer status t)) ≡ None
    → (relaxed_ordering : Bool) × (header_unless (malformed (completion_bytes (refusal completer status t))) p (completion_bytes (refusal completer status t)) ≡ header.Completion (target_for p t.requester) relaxed_ordering)
refusal_read p completer status t well =
    let bytes = completion_bytes (refusal completer status t) in
    reply_read Cpl p bytes t.requester refl (ap (λ (k : Option Kind). packet_of_kind (unwrap_or k MRd) bytes) (kind_again Cpl false 0 refl (omega arith))) (word_again t.requester) well
