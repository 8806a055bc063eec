-- The header of a packet that a domain makes, as it is read from the packet's bytes.
use Rattle.std.proofs.Common.{◌≡◌, ℕ, ◌^◌, ◌<◌, Bool, true, false, cond, List, length, Option, Some, None, refl, sym, ap, ◌∙◌, arith, nat_lt}
use Rattle.std.specs.Option.{unwrap_or}
use Rattle.std.proofs.lemmas.Bool.{cond-false, ltb-true, false≢true}
use Rattle.std.proofs.lemmas.Nat.{from_be_bytes-to_be_bytes_4, from_be_bytes-to_be_bytes_8}
use Rattle.fab_types.specs.declared.faults.malformed.Malformed.{Malformed}
use Rattle.fab_types.specs.declared.head.AddressType.{AddressType}
use Rattle.fab_types.specs.declared.head.Header.TheVariants as header
use Rattle.fab_types.specs.declared.head.Parties.{Parties}
use Rattle.fab_types.specs.declared.status.Status.{Status}
use Rattle.fab_types.specs.declared.status.Status.TheVariants.{SC}
use Rattle.tlp_view.specs.declared.attributes.Attributes.{Attributes}
use Rattle.tlp_view.specs.declared.enables.Enables.{Enables}
use Rattle.tlp_view.specs.declared.kind.Kind.{Kind}
use Rattle.tlp_view.specs.declared.kind.Kind.TheVariants.{MRd, MWr, CplD}
use Rattle.tlp_view.specs.Bytes.{address_at, packet_of, packet_of_kind, be_u16_at}
use Rattle.tlp_view.specs.Completions.{atomic_completion, completion_bytes, data_body, read_completion}
use Rattle.tlp_view.specs.Kinds.{has_address, has_form, is_completion, is_memory}
use Rattle.tlp_view.specs.Malformed.{malformed}
use Rattle.tlp_view.specs.Packet.{Body, Memory, Completion, Packet, address_in, dw_count, enables_in}
use Rattle.tlp_view.specs.Requests.{is_high, packet_bytes}
use Rattle.tlp_view.proofs.Again.{address_narrow, address_wide, body_memory}
use Rattle.tlp_view.proofs.KindFacts.{kind_again, memory_addressed, memory_no_completion, wide_again}
use Rattle.request_handling.specs.Heads.{header_unless, packet_header, target_for}
use Rattle.domain.proofs.CompletionsRead.{read, reply_read, word_again}
use Rattle.guarded_routes.specs.Sound.{is_reply}

form_memory : (kind : Kind) (wide : Bool) → is_memory kind ≡ true → has_form kind wide ≡ true
form_memory MRd wide e = refl
form_memory MWr wide e = refl
form_memory _ wide e = absurd cc

memory_header : (p : Parties) (q : Packet) → is_completion q.kind ≡ false → has_address q.kind ≡ true → packet_header p q ≡ header.Memory q.requester q.address_type (unwrap_or (address_in q.body) 0)
memory_header p q other memory = rw (other, memory) refl

-- ---- requests

abbrev pub request : Kind → Bool → Attributes → AddressType → ℕ → ℕ → ℕ → Enables → ℕ → List ℕ → Packet
request kind wide attributes at length requester tag enables address payload =
    record { kind = kind; has_4dw_header = wide; attributes = attributes; address_type = at; length = length; requester = requester; tag = tag; body = Memory enables address; payload = payload }

module _ (kind : Kind) (attributes : Attributes) (at : AddressType) (length requester tag : ℕ) (enables : Enables) (address : ℕ) (payload : List ℕ) (memory : is_memory kind ≡ true) where
  abbrev bytes : Bool → List ℕ
  bytes wide = packet_bytes (request kind wide attributes at length requester tag enables address payload)

  pub kind_is : (wide : Bool) → packet_of (bytes wide) ≡ packet_of_kind kind (bytes wide)
  kind_is wide = ap (λ (k : Option Kind). packet_of_kind (unwrap_or k MRd) (bytes wide)) (kind_again kind wide 0 (form_memory kind wide memory) (omega arith))

  requester_is : (wide : Bool) → (packet_of_kind kind (bytes wide)).requester ≡ requester
  requester_is wide = cond-false (is_completion kind) (be_u16_at (bytes wide) 8) (be_u16_at (bytes wide) 4) (memory_no_completion kind memory) ∙ word_again requester

  found : (wide : Bool) → is_high address ≡ wide → address < 2 ^ 64 → address_at (bytes wide) ≡ address
  found true high fits = address_wide (bytes true) (wide_again kind true 0 (omega arith)) ∙ from_be_bytes-to_be_bytes_8 address fits
  found false high fits = address_narrow (bytes false) (wide_again kind false 0 (omega arith)) ∙ from_be_bytes-to_be_bytes_4 address (low (nat_lt address (2 ^ 32)) refl high)
    where
      low : (b : Bool) → nat_lt address (2 ^ 32) ≡ b → cond b false true ≡ false → address < 2 ^ 32
      low true e h = ltb-true address (2 ^ 32) e
      low false e h = absurd (false≢true (sym h))

  -- a memory request keeps its Requester ID and its address
  pub request_read : (p : Parties) (wide : Bool) → is_high address ≡ wide → address < 2 ^ 64 → malformed (bytes wide) ≡ None
      → (address_type : AddressType) × (header_unless (malformed (bytes wide)) p (bytes wide) ≡ header.Memory requester address_type address)
  request_read p wide high fits well =
      let q = packet_of_kind kind (bytes wide) in
      let body : unwrap_or (address_in q.body) 0 ≡ address = ap (λ (b : Body). unwrap_or (address_in b) 0) (body_memory kind (bytes wide) memory) ∙ found wide high fits in (
        q.address_type,
        read p (bytes wide) q well (kind_is wide) ∙ (memory_header p q (memory_no_completion kind memory) (memory_addressed kind memory)
            ∙ (ap (λ (r : ℕ). header.Memory r q.address_type (unwrap_or (address_in q.body) 0)) (requester_is wide) ∙ ap (λ (a : ℕ). header.Memory requester q.address_type a) body)),
      )

  -- and is never read as a completion
  pub no_reply : (p : Parties) (wide : Bool) → is_reply (header_unless (malformed (bytes wide)) p (bytes wide)) ≡ false
  no_reply p wide = go (malformed (bytes wide)) refl
    where
      q : Packet
      q = packet_of_kind kind (bytes wide)

      go : (m : Option Malformed) → malformed (bytes wide) ≡ m → is_reply (header_unless m p (bytes wide)) ≡ false
      go (Some cause) e = refl
      go None e = ap is_reply (ap (packet_header p) (kind_is wide) ∙ memory_header p q (memory_no_completion kind memory) (memory_addressed kind memory))

-- ---- completions

abbrev pub reply : Kind → Attributes → AddressType → ℕ → ℕ → ℕ → ℕ → Status → ℕ → ℕ → List ℕ → Packet
reply kind attributes at length requester tag completer status count lower payload =
    record { kind = kind; has_4dw_header = false; attributes = attributes; address_type = at; length = length; requester = requester; tag = tag; body = Completion completer status count lower; payload = payload }

-- a completion with data keeps the Requester ID of what it answers
data_is : (completer count : ℕ) (enables : Option Enables) (address : Option ℕ) → (bytes lower : ℕ) × (data_body completer count enables address ≡ Completion completer SC bytes lower)
data_is completer count (Some enables) (Some address) = (_, _, refl)
data_is completer count None address = (_, _, refl)
data_is completer count (Some enables) None = (_, _, refl)

data_read : (p : Parties) (attributes : Attributes) (at : AddressType) (length requester tag completer count lower : ℕ) (payload : List ℕ) (body : Body) → body ≡ Completion completer SC count lower
    → (t : Packet) → t ≡ record { kind = CplD; has_4dw_header = false; attributes = attributes; address_type = at; length = length; requester = requester; tag = tag; body = body; payload = payload }
    → malformed (completion_bytes t) ≡ None
    → (relaxed_ordering : Bool) × (header_unless (malformed (completion_bytes t)) p (completion_bytes t) ≡ header.Completion (target_for p requester) relaxed_ordering)
data_read p attributes at length requester tag completer count lower payload body is t same well =
    let shown : t ≡ reply CplD attributes at length requester tag completer SC count lower payload = same ∙ ap (λ (b : Body). record { kind = CplD; has_4dw_header = false; attributes = attributes; address_type = at; length = length; requester = requester; tag = tag; body = b; payload = payload }) is in
    let bytes = completion_bytes (reply CplD attributes at length requester tag completer SC count lower payload) in
    let well' : malformed bytes ≡ None = ap (λ (t : Packet). malformed (completion_bytes t)) (sym shown) ∙ well in
    let r = reply_read CplD p bytes requester refl (ap (λ (k : Option Kind). packet_of_kind (unwrap_or k MRd) bytes) (kind_again CplD false 0 refl (omega arith))) (word_again requester) well' in
    (r.0, ap (λ (t : Packet). header_unless (malformed (completion_bytes t)) p (completion_bytes t)) shown ∙ r.1)

pub completion_read : (p : Parties) (completer : ℕ) (t : Packet) (bytes : List ℕ) → malformed (completion_bytes (read_completion completer t bytes)) ≡ None
    → (relaxed_ordering : Bool) × (header_unless (malformed (completion_bytes (read_completion completer t bytes))) p (completion_bytes (read_completion completer t bytes)) ≡ header.Completion (target_for p t.requester) relaxed_ordering)
completion_read p completer t bytes well =
    let made = read_completion completer t bytes in
    let d = data_is completer (dw_count t.length) (enables_in t.body) (address_in t.body) in
    data_read p made.attributes made.address_type made.length t.requester t.tag completer d.0 d.1 bytes made.body d.2 made refl well

-- and so does that of a FetchAdd
pub atomic_read : (p : Parties) (completer : ℕ) (t : Packet) (bytes : List ℕ) → malformed (completion_bytes (atomic_completion completer t bytes)) ≡ None
    → (relaxed_ordering : Bool) × (header_unless (malformed (completion_bytes (atomic_completion completer t bytes))) p (completion_bytes (atomic_completion completer t bytes)) ≡ header.Completion (target_for p t.requester) relaxed_ordering)
atomic_read p completer t bytes well =
    let made = atomic_completion completer t bytes in
    data_read p made.attributes made.address_type made.length t.requester t.tag completer (length bytes) 0 bytes made.body refl made refl well
