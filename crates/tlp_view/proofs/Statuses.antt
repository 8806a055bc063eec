-- The status of a well-formed completion.
use Rattle.std.proofs.Common.{◌≡◌, ℕ, ◌^◌, ◌%◌, ◌/◌, ◌&&◌, true, false, cond, nat_lt, List, slice_index, Option, Some, None, unwrap_or, refl, sym, ap, ◌∙◌}
use Rattle.std.specs.Prelude.{IsSome, is_none}
use Rattle.std.proofs.lemmas.Bool.{or_parts}
use Rattle.fab_types.specs.declared.faults.malformed.Malformed.TheVariants.{Size, Enables as BadEnables, Crosses, HighForm, Field}
use Rattle.fab_types.specs.declared.status.Status.{Status}
use Rattle.fab_types.specs.declared.status.Status.TheVariants.{SC}
use Rattle.tlp_view.specs.declared.kind.Kind.{Kind}
use Rattle.tlp_view.specs.Packet.{dw_count, status_in}
use Rattle.tlp_view.specs.Kinds.{has_address, is_completion, is_memory}
use Rattle.tlp_view.specs.Bytes.{has_4dw_header_at, length_at, address_at, status_at, body_at}
use Rattle.tlp_view.specs.Malformed.{has_bad_size, has_bad_enables, crosses, has_bad_field, malformed_of_kind}
use Rattle.tlp_view.specs.View.{IsView}
use Rattle.tlp_view.proofs.Bodies.{status_of_body}
use Rattle.tlp_view.proofs.Sound.{fine_memory, second_false}
use Rattle.tlp_view.proofs.WellFormed.{view_of}

fine_field : (kind : Kind) (bytes : List ℕ) → malformed_of_kind kind bytes ≡ None → has_bad_field kind bytes ≡ false
unfolding malformed_of_kind
fine_field kind bytes fine =
    (fine_memory (has_bad_size kind bytes) (is_memory kind && has_bad_enables (dw_count (length_at bytes)) (address_at bytes) (slice_index bytes 7 % 16) (slice_index bytes 7 / 16)) (is_memory kind && crosses (dw_count (length_at bytes)) (address_at bytes)) (has_address kind && has_4dw_header_at bytes && nat_lt (address_at bytes) (2 ^ 32)) (has_bad_field kind bytes) Size BadEnables Crosses HighForm Field fine).2

some_status : (o : Option Status) → is_none o ≡ false → IsSome o
some_status None e = absurd cc
some_status (Some status) e = refl

has_status : (kind : Kind) (bytes : List ℕ) → has_bad_field kind bytes ≡ false → is_completion kind ≡ true → IsSome (status_at bytes)
unfolding has_bad_field
has_status kind bytes fine completion =
    some_status (status_at bytes) (or_parts _ _ (second_false (is_completion kind) _ completion (or_parts _ _ fine).1)).1

same_kind : (k l : Kind) → Some k ≡ Some l → k ≡ l
same_kind k l e = cc

-- a well-formed completion has one of the statuses
pub status_known : (kind : Kind) (bytes : List ℕ) → IsView kind bytes → is_completion kind ≡ true → IsSome (status_at bytes)
status_known kind bytes view completion =
    let found = view_of bytes view.well_formed in
    let same : found.0 ≡ kind = same_kind found.0 kind (sym found.1.kind_is ∙ view.kind_is) in
    has_status found.0 bytes (fine_field found.0 bytes found.2) (ap is_completion same ∙ completion)

with_none : (o : Option Status) → IsSome o → o ≡ Some (unwrap_or o SC)
with_none None some = absurd cc
with_none (Some status) some = refl

-- which its body has
pub status_of_completion : (kind : Kind) (bytes : List ℕ) → IsView kind bytes → is_completion kind ≡ true → status_at bytes ≡ status_in (body_at kind bytes)
status_of_completion kind bytes view completion =
    let body : status_in (body_at kind bytes) ≡ Some (unwrap_or (status_at bytes) SC) =
    status_of_body kind bytes ∙ ap (λ b. cond b (Some (unwrap_or (status_at bytes) SC)) None) completion in
    with_none (status_at bytes) (status_known kind bytes view completion) ∙ sym body
