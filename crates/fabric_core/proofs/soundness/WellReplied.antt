-- What the host, functions and ports reply, and what the host asks of a function, is well made.
use Rattle.std.proofs.Common.{◌≡◌, ℕ, zero, suc, ◌+◌, ◌-◌, ◌*◌, ◌/◌, ◌%◌, ◌^◌, ◌<◌, ◌≤◌, ◌==◌, ◌&&◌, Bool, true, false, cond, nat_le, List, [], ◌∷◌, length, drop, Option, Some, None, refl, sym, ap, ◌∙◌, subst, arith, eqb-true}
use Rattle.std.specs.Prelude.{All, option_and_then, option_map, slice_range, unwrap_or}
use Rattle.std.specs.List.{find}
use Rattle.std.proofs.lemmas.Bool.{cond-false, leb-true, ne_eqb}
use Rattle.std.proofs.lemmas.List.{length-drop, length-replicate, length-take-le}
use Rattle.std.proofs.lemmas.List.Elements.{All-head, All-tail}
use Rattle.std.proofs.lemmas.Option.{same_Some}
use Rattle.fab_types.specs.declared.head.Answerer.{Answerer}
use Rattle.fab_types.specs.declared.head.Parties.TheVariants.{Answer, Downward}
use Rattle.fab_types.specs.declared.origin.Origin.{Origin}
use Rattle.fab_types.specs.declared.status.Status.{Status}
use Rattle.function.specs.Accesses.{IsAccess, IsAccessKind, is_empty_read, place_of, read_data}
use Rattle.function.specs.Registers.{read_page}
use Rattle.function.proofs.Accessing.{read_inside}
use Rattle.host_memory.specs.Pages.{page_of, part_of, range_of}
use Rattle.platform.proofs.Bools.{and-first, and-second}
use Rattle.tlp_view.specs.declared.kind.Kind.{Kind}
use Rattle.tlp_view.specs.declared.kind.Kind.TheVariants.{MRd, MWr}
use Rattle.tlp_view.specs.Bytes.{address_at, length_at, packet_of, packet_of_kind}
use Rattle.tlp_view.specs.Completions.{atomic_completion, completion_bytes, read_completion, refusal}
use Rattle.tlp_view.specs.Kinds.{is_fetch_add, is_memory}
use Rattle.tlp_view.specs.Malformed.{malformed, malformed_of_kind}
use Rattle.tlp_view.specs.Packet.{Body, Packet, address_in, dw_count}
use Rattle.tlp_view.specs.Requests.{all_enabled, is_high, moved, packet_bytes}
use Rattle.tlp_view.specs.Runs.{is_write}
use Rattle.tlp_view.specs.View.{IsView}
use Rattle.tlp_view.proofs.Again.{body_memory}
use Rattle.tlp_view.proofs.Operands.{operand_size}
use Rattle.tlp_view.proofs.Requested.{read_made, request_well_formed, write_made}
use Rattle.tlp_view.proofs.Sound.{well_formed_sound}
use Rattle.tlp_view.proofs.WellFormed.{packet-kind, view_of}
use Rattle.fab_types.specs.declared.host_access.Operation.{Operation}
use Rattle.fab_types.specs.declared.host_access.Operation.TheVariants.{Read, Write}
use Rattle.request_handling.specs.Answers.{address_of, blank, page_at, reads_nothing, shown}
use Rattle.domain_state.specs.HostAccesses.{head_for, host_request, is_in_page, size_of}
use Rattle.request_handling.specs.WellMade.{IsWellMade}
use Rattle.fabric_core.specs.Soundness.{IsPage}
use Rattle.domain.proofs.CompletionsRead.{refusal_well}
use Rattle.fabric_core.proofs.soundness.WellSpelled.{all_fits, atomic_well, made_access, moved_access, moved_well, read_well}

-- ---- lengths

dw_some : (n : ℕ) → 1 ≤ dw_count n
dw_some zero = omega arith
dw_some (suc n) = let is : dw_count (suc n) ≡ suc n = cond-false _ _ _ (ne_eqb (suc n) 0 (λ e. omega (arith, e))) in omega (arith, is)

dw_small : (n : ℕ) → dw_count n ≤ 64 → n < 1024
dw_small zero few = absurd (omega (arith, few))
dw_small (suc n) few = let is : dw_count (suc n) ≡ suc n = cond-false _ _ _ (ne_eqb (suc n) 0 (λ e. omega (arith, e))) in omega (arith, is, few)

dw_is : (n : ℕ) → 1 ≤ n → n < 1024 → dw_count (n % 1024) ≡ n
dw_is n some few = let same : n % 1024 ≡ n = omega (arith, few) in ap dw_count same ∙ cond-false _ _ _ (ne_eqb n 0 (λ e. omega (arith, e, some)))

-- so many bytes of a page
part_long : (page : List ℕ) (start count : ℕ) → length page ≡ 4096 → start + count ≤ 4096 → length (slice_range page start (start + count)) ≡ count
part_long page start count long within =
    let rest = length-drop start page in
    let same : start + count - start ≡ count = omega arith in
    length-take-le (start + count - start) (drop start page) (omega (arith, rest, long, within)) ∙ same

-- ---- completions

pub refusal_made : (answerer : Answerer) (addressee : Option Origin) (completer : ℕ) (status : Status) (t : Packet) → IsWellMade (Answer answerer addressee) (completion_bytes (refusal completer status t))
refusal_made answerer addressee completer status t = (refusal_well completer status t, omega arith)

pub data_made : (answerer : Answerer) (addressee : Option Origin) (completer : ℕ) (t : Packet) (bytes : List ℕ) → dw_count t.length ≤ 64 → length bytes ≡ 4 * dw_count t.length → IsWellMade (Answer answerer addressee) (completion_bytes (read_completion completer t bytes))
data_made answerer addressee completer t bytes few long = let made = read_well completer t bytes (dw_some t.length) few long in (made.0, omega (arith, few, long, made.1))

-- the completion of a FetchAdd, which carries 4 bytes or 8
pub operand_made : (answerer : Answerer) (addressee : Option Origin) (completer : ℕ) (bytes old : List ℕ) → malformed bytes ≡ None → is_fetch_add (packet_of bytes).kind ≡ true → length old ≡ 4 * dw_count (packet_of bytes).length
    → IsWellMade (Answer answerer addressee) (completion_bytes (atomic_completion completer (packet_of bytes) old))
operand_made answerer addressee completer bytes old well f long =
    let t = packet_of bytes in
    let size = operand_size t (well_formed_sound bytes well) f in
    let made = atomic_well completer t old size.1 (omega (arith, size.2)) long in
    (made.0, omega (arith, long, size.2, made.1))

-- ---- what is read of memory

pub page_long : (pages : List (ℕ × List ℕ)) (k : ℕ) (page : List ℕ) → All IsPage pages → page_of pages k ≡ Some page → length page ≡ 4096
page_long [] k page all e = absurd cc
page_long (p ∷ pages) k page all e = by (p.0 == k) (λ e. page_long pages k page (All-tail IsPage p pages all) e) e
  where
    by : (b : Bool) → (page_of pages k ≡ Some page → length page ≡ 4096) → option_map (λ (p : ℕ × List ℕ). p.1) (cond b (Some p) (find (λ (p : ℕ × List ℕ). p.0 == k) pages)) ≡ Some page → length page ≡ 4096
    by true rest e = let same : p.1 ≡ page = same_Some p.1 page e in ap (λ (xs : List ℕ). length xs) (sym same) ∙ All-head IsPage p pages all
    by false rest e = rest e

blank_long : (t : Packet) → length (blank t) ≡ 4 * dw_count t.length
blank_long t = length-replicate {A = ℕ} (4 * dw_count t.length) 0

in_range : (page : List ℕ) (start count : ℕ) (t : Packet) (b : Bool) → (nat_le start (start + count) && nat_le (start + count) 4096) ≡ b → count ≡ 4 * dw_count t.length → length page ≡ 4096
    → length (unwrap_or (cond b (Some (slice_range page start (start + count))) None) (blank t)) ≡ 4 * dw_count t.length
in_range page start count t true e is long = part_long page start count long (leb-true (start + count) 4096 (and-second (nat_le start (start + count)) _ e)) ∙ is
in_range page start count t false e is long = blank_long t

in_part : (pages : List (ℕ × List ℕ)) (start count : ℕ) (t : Packet) (o : Option (List ℕ)) → ((page : List ℕ) → o ≡ Some page → length page ≡ 4096) → count ≡ 4 * dw_count t.length
    → length (unwrap_or (option_and_then (range_of start (start + count)) o) (blank t)) ≡ 4 * dw_count t.length
in_part pages start count t None long is = blank_long t
in_part pages start count t (Some page) long is = in_range page start count t (nat_le start (start + count) && nat_le (start + count) 4096) refl is (long page refl)

-- a read of a frame shows as much as it asks for
pub shown_long : (frames : List (ℕ × List ℕ)) (k : ℕ) (t : Packet) → All IsPage frames → length (shown frames k t) ≡ 4 * dw_count t.length
shown_long frames k t all = by (reads_nothing t)
  where
    by : (b : Bool) → length (unwrap_or (cond b None (part_of frames k (address_of t % 4096) (address_of t % 4096 + 4 * dw_count t.length))) (blank t)) ≡ 4 * dw_count t.length
    by true = blank_long t
    by false = in_part frames (address_of t % 4096) (4 * dw_count t.length) t (page_of frames k) (λ page e. page_long frames k page all e) refl

-- ---- what is read of a register page

pub read_few : (kind : Kind) (n : ℕ) → is_write kind ≡ false → IsAccessKind kind n → n ≤ 64
read_few MRd n read access = access
read_few MWr n read access = absurd cc
read_few _ n read access = absurd access

pub read_long : (bytes page : List ℕ) → malformed bytes ≡ None → dw_count (packet_of bytes).length ≤ 64 → length page ≡ 4096 → length (read_data page (packet_of bytes)) ≡ 4 * dw_count (packet_of bytes).length
read_long bytes page well few long = by (is_empty_read (packet_of bytes)) refl
  where
    by : (b : Bool) → is_empty_read (packet_of bytes) ≡ b → length (unwrap_or (cond b None (Some (read_page page (place_of (packet_of bytes)) (4 * dw_count (packet_of bytes).length)))) (0 ∷ 0 ∷ 0 ∷ 0 ∷ [])) ≡ 4 * dw_count (packet_of bytes).length
    by true e = let one = eqb-true (dw_count (packet_of bytes).length) 1 (and-first _ _ e) in omega (arith, one)
    by false e = part_long page (place_of (packet_of bytes)) (4 * dw_count (packet_of bytes).length) long (read_inside (packet_of bytes) (well_formed_sound bytes well) few)

-- ---- a request that goes on to a function

few_of : (kind : Kind) (bytes : List ℕ) → IsView kind bytes → is_memory kind ≡ true → IsAccessKind kind (dw_count (length_at bytes)) → length_at bytes < 1024
few_of MRd bytes view memory access = dw_small (length_at bytes) access
few_of MWr bytes view memory access = let size = view.small in dw_small (length_at bytes) (omega (arith, size))
few_of _ bytes view memory access = absurd cc

-- another place of the packet's page
abbrev IsMoved : Packet → ℕ → Type 0
IsMoved t address = is_memory t.kind ≡ true → IsAccess t → address % 4096 ≡ address_of t % 4096 → address < 2 ^ 64 → IsWellMade (Downward 0) (packet_bytes (moved t address))

pub moved_made : (bytes : List ℕ) (address : ℕ) → malformed bytes ≡ None → IsMoved (packet_of bytes) address
moved_made bytes address well = subst (λ (t : Packet). IsMoved t address) (packet-kind bytes (view_of bytes well).0 (view_of bytes well).1.kind_is) (by (view_of bytes well))
  where
    by : (found : (kind : Kind) × IsView kind bytes × (malformed_of_kind kind bytes ≡ None)) → IsMoved (packet_of_kind found.0 bytes) address
    by found memory access place small =
        let kind = found.0 in
        let view = found.1 in
        let here : unwrap_or (address_in (packet_of_kind kind bytes).body) 0 ≡ address_at bytes = ap (λ (b : Body). unwrap_or (address_in b) 0) (body_memory kind bytes memory) in
        let same : address % 4096 ≡ address_at bytes % 4096 = place ∙ ap (λ (a : ℕ). a % 4096) here in
        let few = few_of kind bytes view memory access in
        (moved_well kind bytes view found.2 memory address same small few, moved_access kind bytes view found.2 memory address same small few access)

-- ---- an access of the host

-- how many bytes an access has, by its test
record InPage (offset size : ℕ) : Type 0 where
  aligned : offset % 4 ≡ 0
  whole : size % 4 ≡ 0
  some : 4 ≤ size
  few : size ≤ 256
  within : offset + size ≤ 4096

in_page : (offset size : ℕ) → is_in_page offset size ≡ true → InPage offset size
in_page offset size h =
    let rest = and-first _ _ h in
    let sized = and-first _ _ rest in
    let least = and-first _ _ sized in
    record {
      aligned = eqb-true (offset % 4) 0 (and-first _ _ least);
      whole = eqb-true (size % 4) 0 (and-second _ _ least);
      some = leb-true 4 size (and-second _ _ sized);
      few = leb-true size 256 (and-second _ _ rest);
      within = leb-true (offset + size) 4096 (and-second _ _ h);
    }

-- it lies in the page of its function
pub in_page_low : (offset size : ℕ) → is_in_page offset size ≡ true → offset < 4096
in_page_low offset size h = let p = in_page offset size h in omega (arith, p.some, p.within)

-- the request of an access at an offset in a page
pub access_made : (function domain tag bar offset : ℕ) (operation : Operation) → is_in_page offset (size_of operation) ≡ true → page_at bar + offset < 2 ^ 64 → IsWellMade (Downward function) (packet_bytes (host_request domain tag (page_at bar + offset) operation))
access_made function domain tag bar offset (Read count) h small =
    let p = in_page offset (4 * count) h in
    let address = page_at bar + offset in
    let head = head_for domain tag count address in
    let some : 1 ≤ count = omega (arith, p.some) in
    let few : count ≤ 64 = omega (arith, p.few) in
    let fits = all_fits head count refl some (omega (arith, few)) (omega (arith, p.aligned)) (omega (arith, p.within, p.some)) in (
      request_well_formed MRd head count [] (read_made count) fits small,
      made_access MRd (is_high address) head.attributes head.address_type (count % 1024) head.requester tag (all_enabled count) address [] refl (omega arith) (omega (arith, few, dw_is count some (omega (arith, few)))),
    )
access_made function domain tag bar offset (Write bytes) h small =
    let p = in_page offset (length bytes) h in
    let address = page_at bar + offset in
    let count = length bytes / 4 in
    let head = head_for domain tag count address in
    let fits = all_fits head count refl (omega (arith, p.some)) (omega (arith, p.few)) (omega (arith, p.aligned)) (omega (arith, p.within, p.some, p.whole)) in (
      request_well_formed MWr head count bytes (write_made bytes p.few p.whole) fits small,
      made_access MWr (is_high address) head.attributes head.address_type (count % 1024) head.requester tag (all_enabled count) address bytes refl (omega arith) tt,
    )
