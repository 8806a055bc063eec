-- Well-formed bytes are spelled by the packet that is read from them.
use Rattle.std.proofs.Common.{◌≡◌, ℕ, ◌+◌, ◌*◌, ◌/◌, ◌%◌, ◌^◌, ◌<◌, ◌≤◌, Bool, true, false, ◌||◌, ◌&&◌, cond, List, [], ◌∷◌, ◌++◌, length, drop, slice_index, nat_lt, is_none, Some, None, unwrap_or, refl, sym, ap, ◌∙◌, subst, inl, inr, arith}
use Rattle.std.proofs.lemmas.Bool.{cond-true, cond-false, cond_both, and_cases, or_parts, or_from, both_ways, cases_Bool}
use Rattle.std.proofs.lemmas.Nat.{be_bytes_4, be_bytes_8}
use Rattle.std.specs.Int.{w32, w64, to_be_bytes}
use Rattle.fab_types.specs.declared.status.Status.TheVariants.{SC}
use Rattle.fab_types.specs.declared.faults.malformed.Malformed.TheVariants.{Size, Enables as BadEnables, Crosses, HighForm, Field}
use Rattle.tlp_view.specs.declared.kind.Kind.{Kind}
use Rattle.tlp_view.specs.Packet.{dw_count, Packet, Memory, Atomic, Message, Request, Completion}
use Rattle.tlp_view.specs.Kinds.{kind_at, has_data, has_form, type_of, has_address, is_memory, is_fetch_add, is_message, is_completion}
use Rattle.tlp_view.specs.Bytes.{bits, is_set, be_u16_at, fmt_at, type_at, has_4dw_header_at, header_len, length_at, enables_at, address_at, status_at, body_at, packet_of_kind, packet_of}
use Rattle.tlp_view.specs.Malformed.{has_bad_size, has_bad_enables, crosses, has_bad_common, has_bad_field, malformed_of_kind, malformed}
use Rattle.tlp_view.specs.Spelling.{flag, routing_in, first_dw, other_dws, header, BodyFits, Fits, Spells}
use Rattle.tlp_view.proofs.KindFacts.{byte_0-apart, type_any, memory_no_completion, message_no_completion, fetch_add_no_completion, completion_is_narrow, message_is_wide}
use Rattle.tlp_view.proofs.WellFormed.{passes, view_of, packet-kind}
use Rattle.tlp_view.proofs.Again.{body_memory, body_atomic, body_message, body_completion, body_request, address_wide, address_narrow}
use Rattle.tlp_view.proofs.HeaderBytes.{IsBytes, with_12, with_16, has_bad_1, byte_1-apart, byte_2-apart, byte_6-apart, high_apart, low_apart, four_fit, eight_fit, four_small, eight_small, lower_apart}

module _ (kind : Kind) (b0 b1 b2 b3 : ℕ) (tail : List ℕ) where
  abbrev all : List ℕ
  all = b0 ∷ b1 ∷ b2 ∷ b3 ∷ tail

  routing_is : type_of kind (routing_in (body_at kind all)) ≡ type_of kind (bits b0 0 3)
  routing_is = elim (cases_Bool (is_message kind)) [
    | inl m ↦ ap (λ body. type_of kind (routing_in body)) (body_message kind all m)
    | inr n ↦ type_any kind (routing_in (body_at kind all)) (bits b0 0 3) n
  ]

  first_apart : b0 < 256 → b1 < 256 → b2 < 256 → b3 < 256 → kind_at (b0 / 32) (b0 % 32) ≡ Some kind → has_bad_common all ≡ false
      → first_dw (packet_of_kind kind all) ≡ b0 ∷ b1 ∷ b2 ∷ b3 ∷ []
  unfolding has_bad_common has_bad_1
  first_apart h0 h1 h2 h3 is_kind fine =
      let outer = or_parts _ _ fine in
      let inner = or_parts _ _ outer.0 in
      let e0 = ap (λ n. 64 * flag (has_data kind) + 32 * flag (is_set b0 5) + n) routing_is ∙ sym (byte_0-apart b0 kind h0 is_kind).0 in
      let e1 = byte_1-apart b1 h1 inner.0 in
      let e2 = byte_2-apart b2 b3 h2 h3 (or_from _ _ inner.1 outer.1) in
      let e3 = low_apart (bits b2 0 2) b3 h3 in
      λ i. e0 i ∷ e1 i ∷ e2 i ∷ e3 i ∷ []

  joined_up : (unused : List ℕ) → first_dw (packet_of_kind kind all) ≡ b0 ∷ b1 ∷ b2 ∷ b3 ∷ []
      → other_dws (has_4dw_header_at all) (packet_of_kind kind all).requester (packet_of_kind kind all).tag (body_at kind all) unused ++ drop (header_len all) all ≡ tail
      → all ≡ header (packet_of_kind kind all) unused ++ drop (header_len all) all
  joined_up unused first others =
      let other = other_dws (has_4dw_header_at all) (packet_of_kind kind all).requester (packet_of_kind kind all).tag (body_at kind all) unused in
      sym (ap (λ x. x ++ other ++ drop (header_len all) all) first ∙ ap (λ x. b0 ∷ b1 ∷ b2 ∷ b3 ∷ x) others)

fits_from : (kind : Kind) (bytes : List ℕ) → IsBytes bytes → kind_at (fmt_at bytes) (type_at bytes) ≡ Some kind → BodyFits kind (has_4dw_header_at bytes) (body_at kind bytes) → Fits (packet_of_kind kind bytes)
fits_from kind bytes fits is_kind body = record {
  form = (byte_0-apart (slice_index bytes 0) kind (fits 0) is_kind).1;
  length = omega (arith, fits 3);
  requester = cond_both (is_completion kind) (be_u16_at bytes 8) (be_u16_at bytes 4) (λ n. n < 2 ^ 16) (λ _. omega (arith, fits 8, fits 9)) (λ _. omega (arith, fits 4, fits 5));
  tag = cond_both (is_completion kind) (slice_index bytes 10) (slice_index bytes 6) (λ n. n < 2 ^ 8) (λ _. fits 10) (λ _. fits 6);
  body = body;
}

-- what a completion's fields are known to be
bad_completion : (kind : Kind) (bytes : List ℕ) → is_completion kind ≡ true → has_bad_field kind bytes ≡ false → (is_set (slice_index bytes 6) 4 || is_none (status_at bytes)) ≡ false
unfolding has_bad_field
bad_completion kind bytes c fine = elim (and_cases _ _ (or_parts _ _ fine).1) [ inl n ↦ absurd (both_ways _ n c) | inr e ↦ e ]

bad_common : (kind : Kind) (bytes : List ℕ) → has_bad_field kind bytes ≡ false → has_bad_common bytes ≡ false
unfolding has_bad_field
bad_common kind bytes fine = (or_parts _ _ (or_parts _ _ fine).0).0

module _ (kind : Kind) (b0 b1 b2 b3 b4 b5 b6 b7 b8 b9 b10 b11 : ℕ) (rest : List ℕ) (fits : IsBytes (b0 ∷ b1 ∷ b2 ∷ b3 ∷ b4 ∷ b5 ∷ b6 ∷ b7 ∷ b8 ∷ b9 ∷ b10 ∷ b11 ∷ rest)) (wide : has_4dw_header_at (b0 ∷ b1 ∷ b2 ∷ b3 ∷ b4 ∷ b5 ∷ b6 ∷ b7 ∷ b8 ∷ b9 ∷ b10 ∷ b11 ∷ rest) ≡ false)
    (is_kind : kind_at (b0 / 32) (b0 % 32) ≡ Some kind) (fine : has_bad_field kind (b0 ∷ b1 ∷ b2 ∷ b3 ∷ b4 ∷ b5 ∷ b6 ∷ b7 ∷ b8 ∷ b9 ∷ b10 ∷ b11 ∷ rest) ≡ false) (well : malformed (b0 ∷ b1 ∷ b2 ∷ b3 ∷ b4 ∷ b5 ∷ b6 ∷ b7 ∷ b8 ∷ b9 ∷ b10 ∷ b11 ∷ rest) ≡ None) where
  abbrev bytes_narrow : List ℕ
  bytes_narrow = b0 ∷ b1 ∷ b2 ∷ b3 ∷ b4 ∷ b5 ∷ b6 ∷ b7 ∷ b8 ∷ b9 ∷ b10 ∷ b11 ∷ rest

  abbrev packet_narrow : Packet
  packet_narrow = packet_of_kind kind bytes_narrow

  together_narrow : (unused : List ℕ) → other_dws (has_4dw_header_at bytes_narrow) packet_narrow.requester packet_narrow.tag (body_at kind bytes_narrow) unused ++ drop (header_len bytes_narrow) bytes_narrow ≡ b4 ∷ b5 ∷ b6 ∷ b7 ∷ b8 ∷ b9 ∷ b10 ∷ b11 ∷ rest
      → bytes_narrow ≡ header packet_narrow unused ++ packet_narrow.payload
  together_narrow unused others =
      joined_up kind b0 b1 b2 b3 (b4 ∷ b5 ∷ b6 ∷ b7 ∷ b8 ∷ b9 ∷ b10 ∷ b11 ∷ rest) unused (first_apart kind b0 b1 b2 b3 (b4 ∷ b5 ∷ b6 ∷ b7 ∷ b8 ∷ b9 ∷ b10 ∷ b11 ∷ rest) (fits 0) (fits 1) (fits 2) (fits 3) is_kind (bad_common kind bytes_narrow fine)) others

  memory_narrow : is_memory kind ≡ true → Spells bytes_narrow packet_narrow
  memory_narrow memory =
      let other = memory_no_completion kind memory in
      let r = cond-false (is_completion kind) (be_u16_at bytes_narrow 8) (be_u16_at bytes_narrow 4) other in
      let g = cond-false (is_completion kind) b10 b6 other in
      let is_body = body_memory kind bytes_narrow memory in
      let placed = address_narrow bytes_narrow wide in
      let address : to_be_bytes w32 (address_at bytes_narrow) ≡ b8 ∷ b9 ∷ b10 ∷ b11 ∷ [] = be_bytes_4 (b8 ∷ b9 ∷ b10 ∷ b11 ∷ []) (address_at bytes_narrow) refl (four_fit b8 b9 b10 b11 (fits 8) (fits 9) (fits 10) (fits 11)) placed in
      let high = high_apart b4 b5 (fits 5) in
      let low = low_apart b4 b5 (fits 5) in
      let enables : 16 * (b7 / 16) + b7 % 16 ≡ b7 = omega arith in
      let shown : other_dws (has_4dw_header_at bytes_narrow) packet_narrow.requester packet_narrow.tag (body_at kind bytes_narrow) [] ++ drop (header_len bytes_narrow) bytes_narrow ≡ other_dws false (b4 * 256 + b5) b6 (Memory (enables_at bytes_narrow) (address_at bytes_narrow)) [] ++ rest =
      λ i. other_dws (wide i) (r i) (g i) (is_body i) [] ++ drop (cond (wide i) 16 12) bytes_narrow in
      let taken : other_dws false (b4 * 256 + b5) b6 (Memory (enables_at bytes_narrow) (address_at bytes_narrow)) [] ++ rest ≡ b4 ∷ b5 ∷ b6 ∷ b7 ∷ b8 ∷ b9 ∷ b10 ∷ b11 ∷ rest =
      λ i. high i ∷ low i ∷ b6 ∷ enables i ∷ (address i ++ rest) in
      let small : address_at bytes_narrow < 2 ^ 32 = rw placed (four_small b8 b9 b10 b11 (fits 8) (fits 9) (fits 10) (fits 11)) in
      let body_fits : BodyFits kind (has_4dw_header_at bytes_narrow) (body_at kind bytes_narrow) = rw (is_body, wide) (memory, omega (arith, fits 7), omega (arith, fits 7), small) in
      record {
        fits = fits_from kind bytes_narrow fits is_kind body_fits;
        unused = [];
        has_unused = rw is_body refl;
        put_together = together_narrow [] (shown ∙ taken);
        well_formed = well;
      }

  atomic_narrow : is_fetch_add kind ≡ true → Spells bytes_narrow packet_narrow
  atomic_narrow atomic =
      let other = fetch_add_no_completion kind atomic in
      let r = cond-false (is_completion kind) (be_u16_at bytes_narrow 8) (be_u16_at bytes_narrow 4) other in
      let g = cond-false (is_completion kind) b10 b6 other in
      let is_body = body_atomic kind bytes_narrow atomic in
      let placed = address_narrow bytes_narrow wide in
      let address : to_be_bytes w32 (address_at bytes_narrow) ≡ b8 ∷ b9 ∷ b10 ∷ b11 ∷ [] = be_bytes_4 (b8 ∷ b9 ∷ b10 ∷ b11 ∷ []) (address_at bytes_narrow) refl (four_fit b8 b9 b10 b11 (fits 8) (fits 9) (fits 10) (fits 11)) placed in
      let high = high_apart b4 b5 (fits 5) in
      let low = low_apart b4 b5 (fits 5) in
      let shown : other_dws (has_4dw_header_at bytes_narrow) packet_narrow.requester packet_narrow.tag (body_at kind bytes_narrow) (b7 ∷ []) ++ drop (header_len bytes_narrow) bytes_narrow ≡ other_dws false (b4 * 256 + b5) b6 (Atomic (address_at bytes_narrow)) (b7 ∷ []) ++ rest =
      λ i. other_dws (wide i) (r i) (g i) (is_body i) (b7 ∷ []) ++ drop (cond (wide i) 16 12) bytes_narrow in
      let taken : other_dws false (b4 * 256 + b5) b6 (Atomic (address_at bytes_narrow)) (b7 ∷ []) ++ rest ≡ b4 ∷ b5 ∷ b6 ∷ b7 ∷ b8 ∷ b9 ∷ b10 ∷ b11 ∷ rest =
      λ i. high i ∷ low i ∷ b6 ∷ b7 ∷ (address i ++ rest) in
      let small : address_at bytes_narrow < 2 ^ 32 = rw placed (four_small b8 b9 b10 b11 (fits 8) (fits 9) (fits 10) (fits 11)) in
      let body_fits : BodyFits kind (has_4dw_header_at bytes_narrow) (body_at kind bytes_narrow) = rw (is_body, wide) (atomic, small) in
      record {
        fits = fits_from kind bytes_narrow fits is_kind body_fits;
        unused = b7 ∷ [];
        has_unused = rw is_body refl;
        put_together = together_narrow (b7 ∷ []) (shown ∙ taken);
        well_formed = well;
      }

  request_narrow : is_memory kind ≡ false → is_message kind ≡ false → is_completion kind ≡ false → is_fetch_add kind ≡ false → Spells bytes_narrow packet_narrow
  request_narrow memory message other atomic =
      let r = cond-false (is_completion kind) (be_u16_at bytes_narrow 8) (be_u16_at bytes_narrow 4) other in
      let g = cond-false (is_completion kind) b10 b6 other in
      let is_body = body_request kind bytes_narrow memory message other atomic in
      let high = high_apart b4 b5 (fits 5) in
      let low = low_apart b4 b5 (fits 5) in
      let unused : List ℕ = b7 ∷ b8 ∷ b9 ∷ b10 ∷ b11 ∷ [] in
      let shown : other_dws (has_4dw_header_at bytes_narrow) packet_narrow.requester packet_narrow.tag (body_at kind bytes_narrow) unused ++ drop (header_len bytes_narrow) bytes_narrow ≡ other_dws false (b4 * 256 + b5) b6 Request unused ++ rest =
      λ i. other_dws (wide i) (r i) (g i) (is_body i) unused ++ drop (cond (wide i) 16 12) bytes_narrow in
      let taken : other_dws false (b4 * 256 + b5) b6 Request unused ++ rest ≡ b4 ∷ b5 ∷ b6 ∷ b7 ∷ b8 ∷ b9 ∷ b10 ∷ b11 ∷ rest =
      λ i. high i ∷ low i ∷ b6 ∷ (unused ++ rest) in
      let body_fits : BodyFits kind (has_4dw_header_at bytes_narrow) (body_at kind bytes_narrow) = rw is_body (memory, message, other, atomic) in
      record {
        fits = fits_from kind bytes_narrow fits is_kind body_fits;
        unused = unused;
        has_unused = rw (is_body, wide) refl;
        put_together = together_narrow unused (shown ∙ taken);
        well_formed = well;
      }

  completion_narrow : is_completion kind ≡ true → Spells bytes_narrow packet_narrow
  completion_narrow completion =
      let r = cond-true (is_completion kind) (be_u16_at bytes_narrow 8) (be_u16_at bytes_narrow 4) completion in
      let g = cond-true (is_completion kind) b10 b6 completion in
      let is_body = body_completion kind bytes_narrow completion in
      let status = unwrap_or (status_at bytes_narrow) SC in
      let count = bits b6 0 4 * 256 + b7 in
      let bit = lower_apart b11 (fits 11) in
      let unused = bit.0 in
      let e4 = high_apart b4 b5 (fits 5) in
      let e5 = low_apart b4 b5 (fits 5) in
      let e6 = byte_6-apart b6 b7 (fits 6) (fits 7) (bad_completion kind bytes_narrow completion fine) in
      let e7 = low_apart (bits b6 0 4) b7 (fits 7) in
      let e8 = high_apart b8 b9 (fits 9) in
      let e9 = low_apart b8 b9 (fits 9) in
      let e11 = bit.2 in
      let shown : other_dws (has_4dw_header_at bytes_narrow) packet_narrow.requester packet_narrow.tag (body_at kind bytes_narrow) unused ++ drop (header_len bytes_narrow) bytes_narrow ≡ other_dws false (b8 * 256 + b9) b10 (Completion (b4 * 256 + b5) status count (b11 % 128)) unused ++ rest =
      λ i. other_dws (wide i) (r i) (g i) (is_body i) unused ++ drop (cond (wide i) 16 12) bytes_narrow in
      let taken : other_dws false (b8 * 256 + b9) b10 (Completion (b4 * 256 + b5) status count (b11 % 128)) unused ++ rest ≡ b4 ∷ b5 ∷ b6 ∷ b7 ∷ b8 ∷ b9 ∷ b10 ∷ b11 ∷ rest =
      λ i. e4 i ∷ e5 i ∷ e6 i ∷ e7 i ∷ e8 i ∷ e9 i ∷ b10 ∷ e11 i ∷ rest in
      let body_fits : BodyFits kind (has_4dw_header_at bytes_narrow) (body_at kind bytes_narrow) = rw is_body (completion, omega (arith, fits 4, fits 5), omega (arith, fits 7), omega arith) in
      record {
        fits = fits_from kind bytes_narrow fits is_kind body_fits;
        unused = unused;
        has_unused = rw is_body bit.1;
        put_together = together_narrow unused (shown ∙ taken);
        well_formed = well;
      }

module _ (kind : Kind) (b0 b1 b2 b3 b4 b5 b6 b7 b8 b9 b10 b11 b12 b13 b14 b15 : ℕ) (rest : List ℕ) (fits : IsBytes (b0 ∷ b1 ∷ b2 ∷ b3 ∷ b4 ∷ b5 ∷ b6 ∷ b7 ∷ b8 ∷ b9 ∷ b10 ∷ b11 ∷ b12 ∷ b13 ∷ b14 ∷ b15 ∷ rest)) (wide : has_4dw_header_at (b0 ∷ b1 ∷ b2 ∷ b3 ∷ b4 ∷ b5 ∷ b6 ∷ b7 ∷ b8 ∷ b9 ∷ b10 ∷ b11 ∷ b12 ∷ b13 ∷ b14 ∷ b15 ∷ rest) ≡ true)
    (is_kind : kind_at (b0 / 32) (b0 % 32) ≡ Some kind) (fine : has_bad_field kind (b0 ∷ b1 ∷ b2 ∷ b3 ∷ b4 ∷ b5 ∷ b6 ∷ b7 ∷ b8 ∷ b9 ∷ b10 ∷ b11 ∷ b12 ∷ b13 ∷ b14 ∷ b15 ∷ rest) ≡ false) (well : malformed (b0 ∷ b1 ∷ b2 ∷ b3 ∷ b4 ∷ b5 ∷ b6 ∷ b7 ∷ b8 ∷ b9 ∷ b10 ∷ b11 ∷ b12 ∷ b13 ∷ b14 ∷ b15 ∷ rest) ≡ None) where
  abbrev bytes_wide : List ℕ
  bytes_wide = b0 ∷ b1 ∷ b2 ∷ b3 ∷ b4 ∷ b5 ∷ b6 ∷ b7 ∷ b8 ∷ b9 ∷ b10 ∷ b11 ∷ b12 ∷ b13 ∷ b14 ∷ b15 ∷ rest

  abbrev packet_wide : Packet
  packet_wide = packet_of_kind kind bytes_wide

  together_wide : (unused : List ℕ) → other_dws (has_4dw_header_at bytes_wide) packet_wide.requester packet_wide.tag (body_at kind bytes_wide) unused ++ drop (header_len bytes_wide) bytes_wide ≡ b4 ∷ b5 ∷ b6 ∷ b7 ∷ b8 ∷ b9 ∷ b10 ∷ b11 ∷ b12 ∷ b13 ∷ b14 ∷ b15 ∷ rest
      → bytes_wide ≡ header packet_wide unused ++ packet_wide.payload
  together_wide unused others =
      joined_up kind b0 b1 b2 b3 (b4 ∷ b5 ∷ b6 ∷ b7 ∷ b8 ∷ b9 ∷ b10 ∷ b11 ∷ b12 ∷ b13 ∷ b14 ∷ b15 ∷ rest) unused (first_apart kind b0 b1 b2 b3 (b4 ∷ b5 ∷ b6 ∷ b7 ∷ b8 ∷ b9 ∷ b10 ∷ b11 ∷ b12 ∷ b13 ∷ b14 ∷ b15 ∷ rest) (fits 0) (fits 1) (fits 2) (fits 3) is_kind (bad_common kind bytes_wide fine)) others

  memory_wide : is_memory kind ≡ true → Spells bytes_wide packet_wide
  memory_wide memory =
      let other = memory_no_completion kind memory in
      let r = cond-false (is_completion kind) (be_u16_at bytes_wide 8) (be_u16_at bytes_wide 4) other in
      let g = cond-false (is_completion kind) b10 b6 other in
      let is_body = body_memory kind bytes_wide memory in
      let placed = address_wide bytes_wide wide in
      let address : to_be_bytes w64 (address_at bytes_wide) ≡ b8 ∷ b9 ∷ b10 ∷ b11 ∷ b12 ∷ b13 ∷ b14 ∷ b15 ∷ [] = be_bytes_8 (b8 ∷ b9 ∷ b10 ∷ b11 ∷ b12 ∷ b13 ∷ b14 ∷ b15 ∷ []) (address_at bytes_wide) refl (eight_fit b8 b9 b10 b11 b12 b13 b14 b15 (fits 8) (fits 9) (fits 10) (fits 11) (fits 12) (fits 13) (fits 14) (fits 15)) placed in
      let high = high_apart b4 b5 (fits 5) in
      let low = low_apart b4 b5 (fits 5) in
      let enables : 16 * (b7 / 16) + b7 % 16 ≡ b7 = omega arith in
      let shown : other_dws (has_4dw_header_at bytes_wide) packet_wide.requester packet_wide.tag (body_at kind bytes_wide) [] ++ drop (header_len bytes_wide) bytes_wide ≡ other_dws true (b4 * 256 + b5) b6 (Memory (enables_at bytes_wide) (address_at bytes_wide)) [] ++ rest =
      λ i. other_dws (wide i) (r i) (g i) (is_body i) [] ++ drop (cond (wide i) 16 12) bytes_wide in
      let taken : other_dws true (b4 * 256 + b5) b6 (Memory (enables_at bytes_wide) (address_at bytes_wide)) [] ++ rest ≡ b4 ∷ b5 ∷ b6 ∷ b7 ∷ b8 ∷ b9 ∷ b10 ∷ b11 ∷ b12 ∷ b13 ∷ b14 ∷ b15 ∷ rest =
      λ i. high i ∷ low i ∷ b6 ∷ enables i ∷ (address i ++ rest) in
      let small : address_at bytes_wide < 2 ^ 64 = rw placed (eight_small b8 b9 b10 b11 b12 b13 b14 b15 (fits 8) (fits 9) (fits 10) (fits 11) (fits 12) (fits 13) (fits 14) (fits 15)) in
      let body_fits : BodyFits kind (has_4dw_header_at bytes_wide) (body_at kind bytes_wide) = rw (is_body, wide) (memory, omega (arith, fits 7), omega (arith, fits 7), small) in
      record {
        fits = fits_from kind bytes_wide fits is_kind body_fits;
        unused = [];
        has_unused = rw is_body refl;
        put_together = together_wide [] (shown ∙ taken);
        well_formed = well;
      }

  atomic_wide : is_fetch_add kind ≡ true → Spells bytes_wide packet_wide
  atomic_wide atomic =
      let other = fetch_add_no_completion kind atomic in
      let r = cond-false (is_completion kind) (be_u16_at bytes_wide 8) (be_u16_at bytes_wide 4) other in
      let g = cond-false (is_completion kind) b10 b6 other in
      let is_body = body_atomic kind bytes_wide atomic in
      let placed = address_wide bytes_wide wide in
      let address : to_be_bytes w64 (address_at bytes_wide) ≡ b8 ∷ b9 ∷ b10 ∷ b11 ∷ b12 ∷ b13 ∷ b14 ∷ b15 ∷ [] = be_bytes_8 (b8 ∷ b9 ∷ b10 ∷ b11 ∷ b12 ∷ b13 ∷ b14 ∷ b15 ∷ []) (address_at bytes_wide) refl (eight_fit b8 b9 b10 b11 b12 b13 b14 b15 (fits 8) (fits 9) (fits 10) (fits 11) (fits 12) (fits 13) (fits 14) (fits 15)) placed in
      let high = high_apart b4 b5 (fits 5) in
      let low = low_apart b4 b5 (fits 5) in
      let shown : other_dws (has_4dw_header_at bytes_wide) packet_wide.requester packet_wide.tag (body_at kind bytes_wide) (b7 ∷ []) ++ drop (header_len bytes_wide) bytes_wide ≡ other_dws true (b4 * 256 + b5) b6 (Atomic (address_at bytes_wide)) (b7 ∷ []) ++ rest =
      λ i. other_dws (wide i) (r i) (g i) (is_body i) (b7 ∷ []) ++ drop (cond (wide i) 16 12) bytes_wide in
      let taken : other_dws true (b4 * 256 + b5) b6 (Atomic (address_at bytes_wide)) (b7 ∷ []) ++ rest ≡ b4 ∷ b5 ∷ b6 ∷ b7 ∷ b8 ∷ b9 ∷ b10 ∷ b11 ∷ b12 ∷ b13 ∷ b14 ∷ b15 ∷ rest =
      λ i. high i ∷ low i ∷ b6 ∷ b7 ∷ (address i ++ rest) in
      let small : address_at bytes_wide < 2 ^ 64 = rw placed (eight_small b8 b9 b10 b11 b12 b13 b14 b15 (fits 8) (fits 9) (fits 10) (fits 11) (fits 12) (fits 13) (fits 14) (fits 15)) in
      let body_fits : BodyFits kind (has_4dw_header_at bytes_wide) (body_at kind bytes_wide) = rw (is_body, wide) (atomic, small) in
      record {
        fits = fits_from kind bytes_wide fits is_kind body_fits;
        unused = b7 ∷ [];
        has_unused = rw is_body refl;
        put_together = together_wide (b7 ∷ []) (shown ∙ taken);
        well_formed = well;
      }

  request_wide : is_memory kind ≡ false → is_message kind ≡ false → is_completion kind ≡ false → is_fetch_add kind ≡ false → Spells bytes_wide packet_wide
  request_wide memory message other atomic =
      let r = cond-false (is_completion kind) (be_u16_at bytes_wide 8) (be_u16_at bytes_wide 4) other in
      let g = cond-false (is_completion kind) b10 b6 other in
      let is_body = body_request kind bytes_wide memory message other atomic in
      let high = high_apart b4 b5 (fits 5) in
      let low = low_apart b4 b5 (fits 5) in
      let unused : List ℕ = b7 ∷ b8 ∷ b9 ∷ b10 ∷ b11 ∷ b12 ∷ b13 ∷ b14 ∷ b15 ∷ [] in
      let shown : other_dws (has_4dw_header_at bytes_wide) packet_wide.requester packet_wide.tag (body_at kind bytes_wide) unused ++ drop (header_len bytes_wide) bytes_wide ≡ other_dws true (b4 * 256 + b5) b6 Request unused ++ rest =
      λ i. other_dws (wide i) (r i) (g i) (is_body i) unused ++ drop (cond (wide i) 16 12) bytes_wide in
      let taken : other_dws true (b4 * 256 + b5) b6 Request unused ++ rest ≡ b4 ∷ b5 ∷ b6 ∷ b7 ∷ b8 ∷ b9 ∷ b10 ∷ b11 ∷ b12 ∷ b13 ∷ b14 ∷ b15 ∷ rest =
      λ i. high i ∷ low i ∷ b6 ∷ (unused ++ rest) in
      let body_fits : BodyFits kind (has_4dw_header_at bytes_wide) (body_at kind bytes_wide) = rw is_body (memory, message, other, atomic) in
      record {
        fits = fits_from kind bytes_wide fits is_kind body_fits;
        unused = unused;
        has_unused = rw (is_body, wide) refl;
        put_together = together_wide unused (shown ∙ taken);
        well_formed = well;
      }

  message_wide : is_message kind ≡ true → Spells bytes_wide packet_wide
  message_wide message =
      let other = message_no_completion kind message in
      let r = cond-false (is_completion kind) (be_u16_at bytes_wide 8) (be_u16_at bytes_wide 4) other in
      let g = cond-false (is_completion kind) b10 b6 other in
      let is_body = body_message kind bytes_wide message in
      let high = high_apart b4 b5 (fits 5) in
      let low = low_apart b4 b5 (fits 5) in
      let unused : List ℕ = b7 ∷ b8 ∷ b9 ∷ b10 ∷ b11 ∷ b12 ∷ b13 ∷ b14 ∷ b15 ∷ [] in
      let shown : other_dws (has_4dw_header_at bytes_wide) packet_wide.requester packet_wide.tag (body_at kind bytes_wide) unused ++ drop (header_len bytes_wide) bytes_wide ≡ other_dws true (b4 * 256 + b5) b6 (Message (bits b0 0 3)) unused ++ rest =
      λ i. other_dws (wide i) (r i) (g i) (is_body i) unused ++ drop (cond (wide i) 16 12) bytes_wide in
      let taken : other_dws true (b4 * 256 + b5) b6 (Message (bits b0 0 3)) unused ++ rest ≡ b4 ∷ b5 ∷ b6 ∷ b7 ∷ b8 ∷ b9 ∷ b10 ∷ b11 ∷ b12 ∷ b13 ∷ b14 ∷ b15 ∷ rest =
      λ i. high i ∷ low i ∷ b6 ∷ (unused ++ rest) in
      let body_fits : BodyFits kind (has_4dw_header_at bytes_wide) (body_at kind bytes_wide) = rw is_body (message, omega arith) in
      record {
        fits = fits_from kind bytes_wide fits is_kind body_fits;
        unused = unused;
        has_unused = rw (is_body, wide) refl;
        put_together = together_wide unused (shown ∙ taken);
        well_formed = well;
      }

all_pass : {A : Type 0} (a b c d e : Bool) (v w x y z : A) → cond a (Some v) (cond b (Some w) (cond c (Some x) (cond d (Some y) (cond e (Some z) None)))) ≡ None → e ≡ false
all_pass a b c d e v w x y z fine =
    let first = passes a v _ fine in
    let second = passes b w _ first.1 in
    let third = passes c x _ second.1 in
    let fourth = passes d y _ third.1 in
    (passes e z None fourth.1).0

-- no fault is in the fields
fine_field : (kind : Kind) (bytes : List ℕ) → malformed_of_kind kind bytes ≡ None → has_bad_field kind bytes ≡ false
unfolding malformed_of_kind
fine_field kind bytes fine =
    all_pass (has_bad_size kind bytes) (is_memory kind && has_bad_enables (dw_count (length_at bytes)) (address_at bytes) (slice_index bytes 7 % 16) (slice_index bytes 7 / 16)) (is_memory kind && crosses (dw_count (length_at bytes)) (address_at bytes)) (has_address kind && has_4dw_header_at bytes && nat_lt (address_at bytes) (2 ^ 32)) (has_bad_field kind bytes) Size BadEnables Crosses HighForm Field fine

-- what is to be shown of bytes, whose first ones are taken by name
abbrev IsSpelled : Kind → Bool → List ℕ → Type 0
IsSpelled kind wide bytes = IsBytes bytes → has_4dw_header_at bytes ≡ wide → kind_at (slice_index bytes 0 / 32) (slice_index bytes 0 % 32) ≡ Some kind → has_bad_field kind bytes ≡ false → malformed bytes ≡ None → Spells bytes (packet_of_kind kind bytes)

has_form_at : (kind : Kind) (bytes : List ℕ) (wide : Bool) → IsBytes bytes → has_4dw_header_at bytes ≡ wide → kind_at (slice_index bytes 0 / 32) (slice_index bytes 0 % 32) ≡ Some kind → has_form kind wide ≡ true
has_form_at kind bytes wide fits e is_kind = ap (has_form kind) (sym e) ∙ (byte_0-apart (slice_index bytes 0) kind (fits 0) is_kind).1

spelled_narrow : (kind : Kind) (bytes : List ℕ) → 12 ≤ length bytes → IsSpelled kind false bytes
spelled_narrow kind bytes long = with_12 (IsSpelled kind false) (λ b0 b1 b2 b3 b4 b5 b6 b7 b8 b9 b10 b11 rest fits wide is_kind fine well.
    elim (cases_Bool (is_memory kind)) [
      | inl memory ↦ memory_narrow kind b0 b1 b2 b3 b4 b5 b6 b7 b8 b9 b10 b11 rest fits wide is_kind fine well memory
      | inr memory ↦ elim (cases_Bool (is_message kind)) [
        | inl message ↦ absurd (message_is_wide kind message (has_form_at kind (b0 ∷ b1 ∷ b2 ∷ b3 ∷ b4 ∷ b5 ∷ b6 ∷ b7 ∷ b8 ∷ b9 ∷ b10 ∷ b11 ∷ rest) false fits wide is_kind))
        | inr message ↦ elim (cases_Bool (is_completion kind)) [
          | inl completion ↦ completion_narrow kind b0 b1 b2 b3 b4 b5 b6 b7 b8 b9 b10 b11 rest fits wide is_kind fine well completion
          | inr other ↦ elim (cases_Bool (is_fetch_add kind)) [
            | inl atomic ↦ atomic_narrow kind b0 b1 b2 b3 b4 b5 b6 b7 b8 b9 b10 b11 rest fits wide is_kind fine well atomic
            | inr plain ↦ request_narrow kind b0 b1 b2 b3 b4 b5 b6 b7 b8 b9 b10 b11 rest fits wide is_kind fine well memory message other plain
          ]
        ]
      ]
    ]) bytes long

spelled_wide : (kind : Kind) (bytes : List ℕ) → 16 ≤ length bytes → IsSpelled kind true bytes
spelled_wide kind bytes long = with_16 (IsSpelled kind true) (λ b0 b1 b2 b3 b4 b5 b6 b7 b8 b9 b10 b11 b12 b13 b14 b15 rest fits wide is_kind fine well.
    elim (cases_Bool (is_memory kind)) [
      | inl memory ↦ memory_wide kind b0 b1 b2 b3 b4 b5 b6 b7 b8 b9 b10 b11 b12 b13 b14 b15 rest fits wide is_kind fine well memory
      | inr memory ↦ elim (cases_Bool (is_message kind)) [
        | inl message ↦ message_wide kind b0 b1 b2 b3 b4 b5 b6 b7 b8 b9 b10 b11 b12 b13 b14 b15 rest fits wide is_kind fine well message
        | inr message ↦ elim (cases_Bool (is_completion kind)) [
          | inl completion ↦ absurd (completion_is_narrow kind completion (has_form_at kind (b0 ∷ b1 ∷ b2 ∷ b3 ∷ b4 ∷ b5 ∷ b6 ∷ b7 ∷ b8 ∷ b9 ∷ b10 ∷ b11 ∷ b12 ∷ b13 ∷ b14 ∷ b15 ∷ rest) true fits wide is_kind))
          | inr other ↦ elim (cases_Bool (is_fetch_add kind)) [
            | inl atomic ↦ atomic_wide kind b0 b1 b2 b3 b4 b5 b6 b7 b8 b9 b10 b11 b12 b13 b14 b15 rest fits wide is_kind fine well atomic
            | inr plain ↦ request_wide kind b0 b1 b2 b3 b4 b5 b6 b7 b8 b9 b10 b11 b12 b13 b14 b15 rest fits wide is_kind fine well memory message other plain
          ]
        ]
      ]
    ]) bytes long

-- well-formed bytes are spelled by the packet of them
pub spelled : (bytes : List ℕ) → IsBytes bytes → malformed bytes ≡ None → Spells bytes (packet_of bytes)
spelled bytes fits well =
    let found = view_of bytes well in
    let kind = found.0 in
    let view = found.1 in
    let fine = fine_field kind bytes found.2 in
    let by_kind : Spells bytes (packet_of_kind kind bytes) = elim (cases_Bool (has_4dw_header_at bytes)) [
      | inl wide ↦ spelled_wide kind bytes (view.whole.wide wide) fits wide view.kind_is fine well
      | inr wide ↦ spelled_narrow kind bytes view.whole.narrow fits wide view.kind_is fine well
    ] in
    subst (Spells bytes) (packet-kind bytes kind view.kind_is) by_kind
