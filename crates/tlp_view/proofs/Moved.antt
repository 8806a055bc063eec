-- A memory request at another address is as well formed as it was.
use Rattle.std.proofs.Common.{◌≡◌, ℕ, zero, suc, ◌*◌, ◌/◌, ◌%◌, ◌<◌, ◌≤◌, true, false, cond, List, length, slice_index, None, refl, sym, ap, ◌∙◌, subst, arith}
use Rattle.std.specs.Prelude.{unwrap_or}
use Rattle.std.proofs.lemmas.Bool.{cond-false, ne_eqb}
use Rattle.fab_types.specs.declared.faults.malformed.Malformed.TheVariants.{Size, Enables as BadEnables}
use Rattle.tlp_view.specs.declared.kind.Kind.{Kind}
use Rattle.tlp_view.specs.declared.kind.Kind.TheVariants.{MRd, MWr}
use Rattle.tlp_view.specs.declared.request.RequestHead.{RequestHead}
use Rattle.tlp_view.specs.Packet.{dw_count, address_in, Memory}
use Rattle.tlp_view.specs.Kinds.{has_data, is_memory}
use Rattle.tlp_view.specs.Bytes.{length_at, enables_at, address_at, body_at, packet_of_kind}
use Rattle.tlp_view.specs.Malformed.{has_bad_size, has_bad_enables, malformed_of_kind}
use Rattle.tlp_view.specs.View.{IsView}
use Rattle.tlp_view.specs.Requests.{is_high, moved_body, request, moved, RequestFits}
use Rattle.tlp_view.specs.RequestBuffer.{IsMade}
use Rattle.tlp_view.proofs.WellFormed.{passes, view_of}
use Rattle.tlp_view.proofs.Again.{body_memory, same_packet}
use Rattle.tlp_view.proofs.Sound.{second_false, aligned_within, IsSound-view}

made_of : (kind : Kind) (count : ℕ) (payload : List ℕ) → is_memory kind ≡ true → length payload ≡ cond (has_data kind) (4 * count) 0 → length payload ≤ 256 → IsMade kind count payload
made_of MRd count payload memory sized small = record { memory = refl; many = refl; type_is = refl; form = λ has_4dw_header. refl; sized = sized; small = small }
made_of MWr count payload memory sized small = record { memory = refl; many = refl; type_is = refl; form = λ has_4dw_header. refl; sized = sized; small = small }
made_of _ count payload memory sized small = absurd cc

-- enables look at the place in 8 bytes alone
same_enables : (count a b first last : ℕ) → a % 8 ≡ b % 8 → has_bad_enables count a first last ≡ has_bad_enables count b first last
unfolding has_bad_enables
same_enables count a b first last same = rw same refl

counted : (n : ℕ) → n < 1024 → (1 ≤ dw_count n) × (dw_count n ≤ 1024) × (dw_count n % 1024 ≡ n)
counted zero small = (omega arith, omega arith, refl)
counted (suc n) small =
    let is : dw_count (suc n) ≡ suc n = cond-false _ _ _ (ne_eqb (suc n) 0 (λ e. omega (arith, e))) in
    (omega (arith, is), omega (arith, is, small), omega (arith, is, small))

module _ (kind : Kind) (bytes : List ℕ) (view : IsView kind bytes) (memory : is_memory kind ≡ true) (address : ℕ) (place : address % 4096 ≡ unwrap_or (address_in (body_at kind bytes)) 0 % 4096) where
  fine : malformed_of_kind kind bytes ≡ None
  fine =
      let found = view_of bytes view.well_formed in
      let there = found.1.kind_is in
      let here = view.kind_is in
      let same : found.0 ≡ kind = cc in
      subst (λ k. malformed_of_kind k bytes ≡ None) same found.2

  address_is : unwrap_or (address_in (body_at kind bytes)) 0 ≡ address_at bytes
  address_is = ap (λ body. unwrap_or (address_in body) 0) (body_memory kind bytes memory)

  same_place : address % 4096 ≡ address_at bytes % 4096
  same_place = place ∙ ap (λ a. a % 4096) address_is

  fine_enables : has_bad_enables (dw_count (length_at bytes)) (address_at bytes) (slice_index bytes 7 % 16) (slice_index bytes 7 / 16) ≡ false
  unfolding malformed_of_kind
  fine_enables =
      let first = passes (has_bad_size kind bytes) Size _ fine in
      second_false (is_memory kind) _ memory (passes _ BadEnables _ first.1).0

  pub moved_made : IsMade kind (dw_count (length_at bytes)) (packet_of_kind kind bytes).payload
  moved_made = let sound = IsSound-view kind bytes view in made_of kind (dw_count (length_at bytes)) (packet_of_kind kind bytes).payload memory sound.sized sound.small

  module _ (head : RequestHead) (enables : head.enables ≡ enables_at bytes) (at : head.address ≡ address) (fits : head.enables.last < 16) (small : length_at bytes < 1024) where
    pub moved_fits : RequestFits head (dw_count (length_at bytes))
    moved_fits =
        let whole = aligned_within kind bytes fine memory in
        let many = counted (length_at bytes) small in
        let eight : head.address % 8 ≡ address_at bytes % 8 = omega (arith, at, same_place) in
        record {
          some = many.0;
          most = many.1;
          first = subst (λ e. e.first < 16) (sym enables) (omega arith);
          last = fits;
          enables = (λ i. has_bad_enables (dw_count (length_at bytes)) head.address (enables i).first (enables i).last) ∙ same_enables (dw_count (length_at bytes)) head.address (address_at bytes) (slice_index bytes 7 % 16) (slice_index bytes 7 / 16) eight ∙ fine_enables;
          aligned = omega (arith, at, same_place, whole.0);
          within = omega (arith, at, same_place, whole.1);
        }

    pub moved_is : head.attributes ≡ (packet_of_kind kind bytes).attributes → head.address_type ≡ (packet_of_kind kind bytes).address_type → head.requester ≡ (packet_of_kind kind bytes).requester → head.tag ≡ (packet_of_kind kind bytes).tag
        → request kind head (dw_count (length_at bytes)) (packet_of_kind kind bytes).payload ≡ moved (packet_of_kind kind bytes) address
    moved_is attributes type requester tag =
        let body : Memory head.enables head.address ≡ moved_body (body_at kind bytes) address = (λ i. Memory (enables i) (at i)) ∙ sym (ap (λ b. moved_body b address) (body_memory kind bytes memory)) in
        same_packet refl (ap is_high at) attributes type (counted (length_at bytes) small).2 requester tag body refl
