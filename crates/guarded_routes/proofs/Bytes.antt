-- What the header of a packet says of its bytes, and what its first port then does with it.
use Rattle.std.proofs.Common.{◌≡◌, ℕ, Bool, true, false, cond, ◌&&◌, Option, Some, None, List, refl, sym, ap, ◌∙◌, subst}
use Rattle.std.specs.Prelude.{is_some}
use Rattle.std.specs.Option.{IsSome, unwrap_or}
use Rattle.std.proofs.lemmas.Bool.{false≢true}
use Rattle.fab_types.specs.Controls.{blocks_translated, controls_egress, validates_source}
use Rattle.fab_types.specs.Id.{bus_of}
use Rattle.fab_types.specs.declared.faults.malformed.Malformed.{Malformed}
use Rattle.fab_types.specs.declared.head.AddressType.{AddressType}
use Rattle.fab_types.specs.declared.head.AddressType.TheVariants.{Untranslated}
use Rattle.fab_types.specs.declared.head.Header.TheVariants as header
use Rattle.fab_types.specs.declared.head.Parties.{Parties}
use Rattle.fab_types.specs.declared.status.Status.TheVariants.{SC}
use Rattle.platform.specs.declared.parts.DownstreamPort.{DownstreamPort}
use Rattle.platform.specs.Egress.{direct_to}
use Rattle.platform.specs.Owners.{first_port, holds_bus}
use Rattle.tlp_view.specs.declared.kind.Kind.TheVariants.{MRd}
use Rattle.tlp_view.specs.Bytes.{fmt_at, packet_of, status_at, type_at}
use Rattle.tlp_view.specs.Kinds.{has_address, is_completion, kind_at}
use Rattle.tlp_view.specs.Malformed.{malformed}
use Rattle.tlp_view.specs.Packet.{Packet, address_in, status_in}
use Rattle.tlp_view.proofs.Bodies.{status_of_body}
use Rattle.request_handling.specs.Fates as fates
use Rattle.request_handling.specs.Heads.{header_unless, target_for}
use Rattle.guarded_routes.specs.Sound.{is_reply}
use Rattle.guarded_routes.proofs.Controls.{Set}
use Rattle.guarded_routes.proofs.Ports.{and_false}

-- the bytes of a memory request or a FetchAdd
pub record MemoryBytes (bytes : List ℕ) (requester : ℕ) (address_type : AddressType) (address : ℕ) : Type 0 where
  pub well : malformed bytes ≡ None
  pub request : is_completion (packet_of bytes).kind ≡ false
  pub addressed : has_address (packet_of bytes).kind ≡ true
  pub requester_is : (packet_of bytes).requester ≡ requester
  pub type_is : (packet_of bytes).address_type ≡ address_type
  pub address_is : unwrap_or (address_in (packet_of bytes).body) 0 ≡ address

pub memory_bytes : (parties : Parties) (bytes : List ℕ) (requester : ℕ) (address_type : AddressType) (address : ℕ) → header_unless (malformed bytes) parties bytes ≡ header.Memory requester address_type address → MemoryBytes bytes requester address_type address
memory_bytes parties bytes requester address_type address e = go (malformed bytes) refl e
  where
    kinds : (c m : Bool) → malformed bytes ≡ None → is_completion (packet_of bytes).kind ≡ c → has_address (packet_of bytes).kind ≡ m
        → cond c (header.Completion (target_for parties (packet_of bytes).requester) (packet_of bytes).attributes.relaxed_ordering)
        (cond m (header.Memory (packet_of bytes).requester (packet_of bytes).address_type (unwrap_or (address_in (packet_of bytes).body) 0)) (header.OtherRequest (packet_of bytes).requester)) ≡ header.Memory requester address_type address
        → MemoryBytes bytes requester address_type address
    kinds true m well i j e = absurd cc
    kinds false false well i j e = absurd cc
    kinds false true well i j e = record { well = well; request = i; addressed = j; requester_is = cc; type_is = cc; address_is = cc }

    go : (m : Option Malformed) → malformed bytes ≡ m → header_unless m parties bytes ≡ header.Memory requester address_type address → MemoryBytes bytes requester address_type address
    go (Some cause) i e = absurd cc
    go None i e = kinds (is_completion (packet_of bytes).kind) (has_address (packet_of bytes).kind) i refl refl e

-- a packet without a status is no completion
pub no_status : (bytes : List ℕ) → status_in (packet_of bytes).body ≡ None → is_completion (packet_of bytes).kind ≡ false
no_status bytes none = go (is_completion (packet_of bytes).kind) refl
  where
    go : (c : Bool) → is_completion (packet_of bytes).kind ≡ c → is_completion (packet_of bytes).kind ≡ false
    go false is = is
    go true is =
        let status = status_of_body (unwrap_or (kind_at (fmt_at bytes) (type_at bytes)) MRd) bytes in
        absurd (false≢true (ap is_some (sym none ∙ (status ∙ ap (λ (c : Bool). cond c (Some (unwrap_or (status_at bytes) SC)) None) is))))

-- bytes with a completion's header have a status
pub status_there : (parties : Parties) (bytes : List ℕ) → is_reply (header_unless (malformed bytes) parties bytes) ≡ true → IsSome (status_in (packet_of bytes).body)
status_there parties bytes is = go (malformed bytes) is
  where
    completes : (c m : Bool) → is_reply (cond c (header.Completion (target_for parties (packet_of bytes).requester) (packet_of bytes).attributes.relaxed_ordering)
        (cond m (header.Memory (packet_of bytes).requester (packet_of bytes).address_type (unwrap_or (address_in (packet_of bytes).body) 0)) (header.OtherRequest (packet_of bytes).requester))) ≡ true
        → c ≡ true
    completes true m e = refl
    completes false true e = absurd (false≢true e)
    completes false false e = absurd (false≢true e)

    go : (m : Option Malformed) → is_reply (header_unless m parties bytes) ≡ true → IsSome (status_in (packet_of bytes).body)
    go (Some cause) e = absurd (false≢true e)
    go None e =
        let completion = completes (is_completion (packet_of bytes).kind) (has_address (packet_of bytes).kind) e in
        let status = status_of_body (unwrap_or (kind_at (fmt_at bytes) (type_at bytes)) MRd) bytes in
        subst IsSome (sym (status ∙ ap (λ (c : Bool). cond c (Some (unwrap_or (status_at bytes) SC)) None) completion)) refl

-- what a guarded first port lets pass goes to the host, or directly to the function to which a port lets it through
pub goes_on : (ports : List DownstreamPort) (f : ℕ) (line : DownstreamPort) (bytes : List ℕ) (requester address : ℕ) → first_port ports f ≡ Some line → Set line → holds_bus line (bus_of requester) ≡ true → MemoryBytes bytes requester Untranslated address
    → fates.fate ports f bytes ≡ fates.goes_to (direct_to ports f address)
goes_on ports f line bytes requester address first set held b =
    let held' : holds_bus line (bus_of (packet_of bytes).requester) ≡ true = ap (λ (r : ℕ). holds_bus line (bus_of r)) b.requester_is ∙ held in
    ap (λ (o : Option DownstreamPort). fates.fate_below ports f o bytes) first
    ∙ (ap (λ (m : Option Malformed). fates.fate_unless m ports f line bytes) b.well
    ∙ (packet_is line (packet_of bytes) set held' b.type_is b.addressed
    ∙ ap (λ (a : ℕ). fates.goes_to (direct_to ports f a)) b.address_is))
  where
    packet_is : (line : DownstreamPort) (t : Packet) → Set line → holds_bus line (bus_of t.requester) ≡ true → t.address_type ≡ Untranslated → has_address t.kind ≡ true → fates.packet_fate ports f line t ≡ fates.goes_to (direct_to ports f (unwrap_or (address_in t.body) 0))
    packet_is line t set held type addressed =
        rw (held, type, addressed, set.upstream, set.requests, and_false (validates_source line.controls), and_false (blocks_translated line.controls && true), and_false (controls_egress line.controls)) refl
