-- An access that isn't refused is legal, so that memory is refused only to what would move.
use Rattle.std.proofs.Common.{◌≡◌, ℕ, ◌&&◌, Bool, true, false, not, cond, List, Option, Some, None, Result, Err, refl, sym, ap, ◌∙◌}
use Rattle.std.specs.Prelude.{nat_le}
use Rattle.std.specs.List.{find, list_any}
use Rattle.std.specs.Option.{IsSome, is_none, is_some, option_map}
use Rattle.fab_types.specs.declared.faults.begin.MmioFault.TheVariants as mmio
use Rattle.layout.proofs.Bools.{any-missing}
use Rattle.platform.specs.Owners.{bar_of, is_own_function}
use Rattle.platform.specs.Share.{Share}
use Rattle.fab_types.specs.declared.host_access.HostAccess.{HostAccess}
use Rattle.domain.specs.declared.entry.Entry.TheVariants as entry
use Rattle.domain.specs.Domains.{DomainView}
use Rattle.domain_state.specs.HostAccesses.{is_in_page, mmio_fault, mmio_with, size_of, tag_for}
use Rattle.domain.specs.Machine.{change}
use Rattle.domain_state.specs.State.{Alone}
use Rattle.domains.specs.Domains.{domain_at, made, made_at, made_by, made_of, mmio_refusal, mmio_refusal_by, place_of}

-- ---- what a call's clauses say of its refusal

module _ {F : Type 0} (none : F) (refusal : Option F) (result : Result (Unit {0}) F) (refused : (fault : F) → refusal ≡ Some fault → result ≡ Err fault) where
  -- nothing was refused but memory
  pub unrefused : result ≡ Err none → (refusal ≡ Some none → ⊥) → refusal ≡ None
  unrefused is never = by refusal refl
    where
      by : (o : Option F) → refusal ≡ o → refusal ≡ None
      by None e = e
      by (Some f) e =
          let same : f ≡ none = (let both : ◌≡◌ {A = Result (Unit {0}) F} (Err f) (Err none) = sym (refused f e) ∙ is in cc) in
          absurd (never (e ∙ ap (λ (x : F). Some x) same))

pub some_map : {X Y : Type 0} (f : X → Y) (o : Option X) → IsSome o → IsSome (option_map f o)
some_map f None h = absurd cc
some_map f (Some x) h = refl

-- ---- no refusal is for want of memory

mmio_never : (a b c d : Bool) → cond a (Some mmio.NotYours) (cond b (Some mmio.Range) (cond c (Some mmio.NoTag) (cond d (Some mmio.BudgetSpent) None))) ≡ Some mmio.NoMemory → ⊥
mmio_never true b c d is = absurd cc
mmio_never false true c d is = absurd cc
mmio_never false false true d is = absurd cc
mmio_never false false false true is = absurd cc
mmio_never false false false false is = absurd cc

mmio_by : (o : Option DomainView) (x : HostAccess) → mmio_refusal_by o x ≡ Some mmio.NoMemory → ⊥
mmio_by None x is = absurd cc
mmio_by (Some d) x is = mmio_never _ _ _ _ is

pub mmio_memory : (domains : List DomainView) (n : ℕ) (x : HostAccess) → mmio_refusal domains n x ≡ Some mmio.NoMemory → ⊥
mmio_memory domains n x is = mmio_by (domain_at domains (place_of domains n)) x is

-- ---- what isn't refused is legal

found_by : {X : Type 0} (p : X → Bool) (xs : List X) (b : Bool) → is_some (find p xs) ≡ b → list_any p xs ≡ true → IsSome (find p xs)
found_by p xs true e h = e
found_by p xs false e h = absurd (let none : false ≡ true = sym (any-missing p xs e) ∙ h in cc)

found_any : {X : Type 0} (p : X → Bool) (xs : List X) → list_any p xs ≡ true → IsSome (find p xs)
found_any p xs h = found_by p xs (is_some (find p xs)) refl h

first_true : (a b : Bool) → (a && b) ≡ true → a ≡ true
first_true true b e = refl
first_true false b e = absurd cc

with_some : (share : Share) (s : Alone) (x : HostAccess) (tag bar : Option ℕ) → is_none tag ≡ false → IsSome bar → IsSome (mmio_with share s x tag bar)
with_some share s x None bar a b = absurd cc
with_some share s x (Some t) None a b = absurd cc
with_some share s x (Some t) (Some g) a b = refl

accepted_tests : (a b c d : Bool) → cond (not a) (Some mmio.NotYours) (cond b (Some mmio.Range) (cond c (Some mmio.NoTag) (cond d (Some mmio.BudgetSpent) None))) ≡ None → (a ≡ true) × (c ≡ false)
accepted_tests true true c d is = absurd cc
accepted_tests true false true d is = absurd cc
accepted_tests true false false d is = (refl, refl)
accepted_tests false b c d is = absurd cc

pub mmio_change : (d : DomainView) (x : HostAccess) → mmio_fault d.share d.state x ≡ None → IsSome (change d.share d.state (entry.Mmio x))
mmio_change d x is =
    let t = accepted_tests (is_own_function d.share x.function) (not (is_in_page x.offset (size_of x.operation))) (is_none (tag_for d.state.open_tags d.share.domain x.operation)) (nat_le d.share.budget d.state.counts.begins) is in
    let there : IsSome (bar_of d.share.functions x.function) = some_map (λ line. line.bar) _ (found_any _ d.share.functions (first_true _ _ t.0)) in
    let made : IsSome (mmio_with d.share d.state x (tag_for d.state.open_tags d.share.domain x.operation) (bar_of d.share.functions x.function)) = with_some d.share d.state x _ _ t.1 there in
    rw is made

mmio_made_of : (domains : List DomainView) (p : ℕ) (x : HostAccess) (o : Option DomainView) → mmio_refusal_by o x ≡ None → IsSome (made_of domains p (entry.Mmio x) o)
mmio_made_of domains p x None is = absurd cc
mmio_made_of domains p x (Some d) is = some_map (made_by domains p (entry.Mmio x) d) _ (mmio_change d x is)

mmio_made_at : (domains : List DomainView) (x : HostAccess) (o : Option ℕ) → mmio_refusal_by (domain_at domains o) x ≡ None → IsSome (made_at domains (entry.Mmio x) o)
mmio_made_at domains x None is = absurd cc
mmio_made_at domains x (Some p) is = mmio_made_of domains p x (domain_at domains (Some p)) is

pub mmio_legal : (domains : List DomainView) (n : ℕ) (x : HostAccess) → mmio_refusal domains n x ≡ None → IsSome (made domains n (entry.Mmio x))
mmio_legal domains n x is = mmio_made_at domains x (place_of domains n) is
