-- What malformed bytes are refused by is the least cause that applies.
use Rattle.std.proofs.Common.{◌≡◌, ℕ, Bool, false, List, Option, Some, None, refl, sym, ap, ◌∙◌, subst}
use Rattle.std.proofs.lemmas.Bool.{false≢true}
use Rattle.fab_types.specs.declared.faults.malformed.Malformed.{Malformed}
use Rattle.tlp_view.specs.declared.kind.Kind.{Kind}
use Rattle.tlp_view.specs.Malformed.{malformed, malformed_of_kind}
use Rattle.tlp_laws.specs.Causes.{IsLeastCause, applies, kind_of}
use Rattle.tlp_laws.proofs.Firsts.{Found, first, first_found, one_of}

abbrev cause_in : List ℕ → Malformed → Bool
cause_in bytes cause = applies cause bytes

malformed_first : (bytes : List ℕ) → malformed bytes ≡ first (cause_in bytes)
unfolding malformed malformed_of_kind
malformed_first bytes = go (kind_of bytes) refl
  where
    go : (o : Option Kind) → kind_of bytes ≡ o → malformed bytes ≡ first (cause_in bytes)
    go None e = rw e refl
    go (Some kind) e = rw e refl

found_of : (bytes : List ℕ) → Found (cause_in bytes) (malformed bytes)
found_of bytes = subst (Found (cause_in bytes)) (sym (malformed_first bytes)) (first_found (cause_in bytes))

pub found : (bytes : List ℕ) (cause : Malformed) → malformed bytes ≡ Some cause → IsLeastCause bytes cause
found bytes cause e = let least = subst (Found (cause_in bytes)) e (found_of bytes) in record { here = least.0; earlier = least.1 }

pub well : (bytes : List ℕ) → malformed bytes ≡ None → (cause : Malformed) → applies cause bytes ≡ false
well bytes e = subst (Found (cause_in bytes)) e (found_of bytes)

pub only : (bytes : List ℕ) (cause : Malformed) → IsLeastCause bytes cause → malformed bytes ≡ Some cause
only bytes cause least = go (malformed bytes) (found_of bytes)
  where
    go : (o : Option Malformed) → Found (cause_in bytes) o → o ≡ Some cause
    go None none = absurd (false≢true (sym (none cause) ∙ least.here))
    go (Some other) is = ap Some (one_of (cause_in bytes) other cause is (least.here, least.earlier))

pub none : (bytes : List ℕ) → ((cause : Malformed) → applies cause bytes ≡ false) → malformed bytes ≡ None
none bytes all = go (malformed bytes) (found_of bytes)
  where
    go : (o : Option Malformed) → Found (cause_in bytes) o → o ≡ None
    go None none = refl
    go (Some other) is = absurd (false≢true (sym (all other) ∙ is.0))
