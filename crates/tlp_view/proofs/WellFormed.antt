-- What well-formed bytes are known to be.
use Rattle.std.proofs.Common.{◌≡◌, ℕ, ◌+◌, ◌≤◌, Bool, true, false, ◌&&◌, cond, ltb, inl, inr, List, length, Option, Some, None, refl, sym, ◌∙◌}
use Rattle.std.proofs.lemmas.Bool.{or_parts, and_cases, both_ways, not-false, eqb-true, ltb-false}
use Rattle.fab_types.specs.declared.faults.malformed.Malformed.TheVariants.{Short, Kind as NoKind}
use Rattle.tlp_view.specs.declared.kind.Kind.{Kind}
use Rattle.tlp_view.specs.Kinds.{kind_at}
use Rattle.tlp_view.specs.Bytes.{fmt_at, type_at, header_len, HasHeader, packet_of_kind, packet_of}
use Rattle.tlp_view.specs.Malformed.{is_short, data_len, has_bad_size, malformed_of_kind, malformed_of, malformed}
use Rattle.tlp_view.specs.View.{IsView}

-- no fault is the last of a chain of tests
pub passes : {A : Type 0} (b : Bool) (x : A) (y : Option A) → cond b (Some x) y ≡ None → (b ≡ false) × (y ≡ None)
passes true x y e = cc
passes false x y e = (refl, e)

size_fits : (kind : Kind) (bytes : List ℕ) → has_bad_size kind bytes ≡ false → (length bytes ≡ header_len bytes + data_len kind bytes) × (data_len kind bytes ≤ 256)
unfolding has_bad_size
size_fits kind bytes e =
    let parts = or_parts _ _ e in
    let sizes = or_parts _ _ parts.0 in
    (eqb-true _ _ (not-false _ sizes.0), ltb-false _ _ sizes.1)

fine_size : (kind : Kind) (bytes : List ℕ) → malformed_of_kind kind bytes ≡ None → has_bad_size kind bytes ≡ false
unfolding malformed_of_kind
fine_size kind bytes e = (passes _ _ _ e).0

long_enough : (n : ℕ) (w : Bool) → w ≡ true → (ltb n 16 && w) ≡ false → 16 ≤ n
long_enough n w e f = elim (and_cases _ _ f) [ inl g ↦ ltb-false _ _ g | inr g ↦ absurd (both_ways w g e) ]

-- a header is whole where the bytes aren't short
pub whole_from : (bytes : List ℕ) → is_short bytes ≡ false → HasHeader bytes
whole_from bytes e =
    let parts = or_parts _ _ e in
    let narrow : 12 ≤ length bytes = ltb-false _ _ parts.0 in
    record { narrow = narrow; wide = λ w. long_enough _ _ w parts.1 }

pub malformed-short : (bytes : List ℕ) → is_short bytes ≡ true → malformed bytes ≡ Some Short
unfolding malformed
malformed-short bytes e = rw e refl

pub not_short : (bytes : List ℕ) → malformed bytes ≡ None → is_short bytes ≡ false
not_short bytes e = by (is_short bytes) refl
  where
    by : (b : Bool) → is_short bytes ≡ b → b ≡ false
    by false f = refl
    by true f = let no : Some Short ≡ None = sym (malformed-short bytes f) ∙ e in absurd cc

pub malformed-no_kind : (bytes : List ℕ) → is_short bytes ≡ false → kind_at (fmt_at bytes) (type_at bytes) ≡ None → malformed bytes ≡ Some NoKind
unfolding malformed
malformed-no_kind bytes e f = rw (e, f) refl

pub malformed-kind : (bytes : List ℕ) (kind : Kind) → is_short bytes ≡ false → kind_at (fmt_at bytes) (type_at bytes) ≡ Some kind → malformed bytes ≡ malformed_of_kind kind bytes
unfolding malformed
malformed-kind bytes kind e f = rw (e, f) refl

pub has_kind : (bytes : List ℕ) → malformed bytes ≡ None → kind_at (fmt_at bytes) (type_at bytes) ≡ None → ⊥
has_kind bytes e f = let no : Some NoKind ≡ None = sym (malformed-no_kind bytes (not_short bytes e) f) ∙ e in absurd cc

pub view_from : (bytes : List ℕ) (kind : Kind) → is_short bytes ≡ false → kind_at (fmt_at bytes) (type_at bytes) ≡ Some kind → malformed_of_kind kind bytes ≡ None → IsView kind bytes
view_from bytes kind long is_kind fine =
    let sized = size_fits kind bytes (fine_size kind bytes fine) in
    record {
      well_formed = malformed-kind bytes kind long is_kind ∙ fine;
      kind_is = is_kind;
      whole = whole_from bytes long;
      size = sized.0;
      small = sized.1;
    }

pub packet-kind : (bytes : List ℕ) (kind : Kind) → kind_at (fmt_at bytes) (type_at bytes) ≡ Some kind → packet_of_kind kind bytes ≡ packet_of bytes
packet-kind bytes kind e = rw e refl

from_kind : (bytes : List ℕ) (found : Option Kind) → is_short bytes ≡ false → kind_at (fmt_at bytes) (type_at bytes) ≡ found → malformed_of found bytes ≡ None → (kind : Kind) × IsView kind bytes × (malformed_of_kind kind bytes ≡ None)
from_kind bytes None long e fine = cc
from_kind bytes (Some kind) long e fine = (kind, view_from bytes kind long e fine, fine)

-- well-formed bytes are of a kind
pub view_of : (bytes : List ℕ) → malformed bytes ≡ None → (kind : Kind) × IsView kind bytes × (malformed_of_kind kind bytes ≡ None)
unfolding malformed
view_of bytes fine =
    let parts = passes (is_short bytes) Short (malformed_of (kind_at (fmt_at bytes) (type_at bytes)) bytes) fine in
    from_kind bytes (kind_at (fmt_at bytes) (type_at bytes)) parts.0 refl parts.1
