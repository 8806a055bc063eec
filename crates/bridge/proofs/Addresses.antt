-- The port whose window has an address is the one whose window reaches into its megabyte.
use Rattle.std.proofs.Common.{◌≡◌, ℕ, ◌+◌, ◌<◌, ◌≤◌, suc, Bool, true, false, cond, List, [], ◌∷◌, length, slice_index_or, Option, Some, None, refl, sym, ap, ◌∙◌, arith}
use Rattle.std.specs.Prelude.{nat_le, All}
use Rattle.std.specs.List.{find, slice_get}
use Rattle.std.proofs.lemmas.Bool.{leb-true, le-leb, and_parts, and_from, false≢true}
use Rattle.platform.specs.declared.parts.DownstreamPort.{DownstreamPort}
use Rattle.platform.specs.Owners.{holds_address}
use Rattle.bridge.specs.Windows.{megabyte_of, place_reaching, places_from, reaches}
use Rattle.bridge.proofs.Finding.{none-found, one-found}
use Rattle.bridge.proofs.Tables.{table_of-read}

never-true : (b : Bool) → (b ≡ true → ⊥) → b ≡ false
never-true true never = absurd (never refl)
never-true false never = refl

-- nothing is found where nothing passes
none-passes : {X : Type 0} (p : X → Bool) (xs : List X) → All (λ x. p x ≡ false) xs → find p xs ≡ None
none-passes p [] fail = refl
none-passes p (x ∷ xs) fail = rw (fail 0 x (omega arith)) (none-passes p xs (λ k d within. fail (suc k) d (omega arith)))

none-first : {X : Type 0} (wide narrow : Bool) (x : X) (further other : Option X) → (narrow ≡ true → wide ≡ true) → (further ≡ None → other ≡ None)
    → cond wide (Some x) further ≡ None → cond narrow (Some x) other ≡ None
none-first true narrow x further other implied rest e = absurd cc
none-first false true x further other implied rest e = absurd (false≢true (implied refl))
none-first false false x further other implied rest e = rest e

one-first : {X : Type 0} (p : X → Bool) (wide narrow : Bool) (x y : X) (further other : Option X) → p x ≡ narrow → (narrow ≡ true → wide ≡ true) → (further ≡ Some y → other ≡ Some y)
    → p y ≡ true → cond wide (Some x) further ≡ Some y → cond narrow (Some x) other ≡ Some y
one-first p true true x y further other is implied rest passes e = e
one-first p true false x y further other is implied rest passes e = let same : x ≡ y = cc in absurd (false≢true (sym is ∙ ap p same ∙ passes))
one-first p false true x y further other is implied rest passes e = absurd (false≢true (implied refl))
one-first p false false x y further other is implied rest passes e = rest e

-- a test that implies another finds nothing where that finds nothing, and what that finds first, if it passes
narrow-none : {X : Type 0} (p q : X → Bool) (xs : List X) → ((x : X) → p x ≡ true → q x ≡ true) → find q xs ≡ None → find p xs ≡ None
narrow-none p q [] implied none = refl
narrow-none p q (x ∷ xs) implied none = none-first (q x) (p x) x (find q xs) (find p xs) (implied x) (narrow-none p q xs implied) none

narrow-some : {X : Type 0} (p q : X → Bool) (xs : List X) (y : X) → ((x : X) → p x ≡ true → q x ≡ true) → p y ≡ true → find q xs ≡ Some y → find p xs ≡ Some y
narrow-some p q [] y implied passes found = absurd cc
narrow-some p q (x ∷ xs) y implied passes found = one-first p (q x) (p x) x y (find q xs) (find p xs) refl (implied x) (narrow-some p q xs y implied passes) passes found

-- a window that has an address reaches into its megabyte
holds-reaches : (address : ℕ) (port : DownstreamPort) → holds_address port address ≡ true → reaches (megabyte_of address) port ≡ true
holds-reaches address port holds =
    let parts = and_parts (nat_le port.base address) (nat_le address port.limit) holds in
    let low : port.base ≤ address = leb-true port.base address parts.0 in
    let high : address ≤ port.limit = leb-true address port.limit parts.1 in
    and_from (nat_le (megabyte_of port.base) (megabyte_of address)) (nat_le (megabyte_of address) (megabyte_of port.limit))
    (le-leb (megabyte_of port.base) (megabyte_of address) (omega arith)) (le-leb (megabyte_of address) (megabyte_of port.limit) (omega arith))

pub holder-none : (ports : List DownstreamPort) (address : ℕ) → find (reaches (megabyte_of address)) ports ≡ None → find (λ port. holds_address port address) ports ≡ None
holder-none ports address none = narrow-none (λ (port : DownstreamPort). holds_address port address) (reaches (megabyte_of address)) ports (holds-reaches address) none

pub holder-some : (ports : List DownstreamPort) (address : ℕ) (port : DownstreamPort) → find (reaches (megabyte_of address)) ports ≡ Some port → holds_address port address ≡ true
    → find (λ port. holds_address port address) ports ≡ Some port
holder-some ports address port found holds = narrow-some (λ (port : DownstreamPort). holds_address port address) (reaches (megabyte_of address)) ports port (holds-reaches address) holds found

reaches-parts : (megabyte : ℕ) (port : DownstreamPort) → reaches megabyte port ≡ true → (megabyte_of port.base ≤ megabyte) × (megabyte ≤ megabyte_of port.limit)
reaches-parts megabyte port reached =
    let parts = and_parts (nat_le (megabyte_of port.base) megabyte) (nat_le megabyte (megabyte_of port.limit)) reached in
    (leb-true (megabyte_of port.base) megabyte parts.0, leb-true megabyte (megabyte_of port.limit) parts.1)

-- no window reaches below the first megabyte, and none past the last
pub none-below : (ports : List DownstreamPort) (first megabyte : ℕ) → All (λ port. first ≤ megabyte_of port.base) ports → megabyte < first → find (reaches megabyte) ports ≡ None
none-below ports first megabyte below less =
    none-passes (reaches megabyte) ports (λ k d within. never-true (reaches megabyte (slice_index_or ports k d))
    (λ reached. let parts = reaches-parts megabyte (slice_index_or ports k d) reached in omega (arith, parts.0, below k d within)))

pub none-past : (ports : List DownstreamPort) (past megabyte : ℕ) → All (λ port. megabyte_of port.limit < past) ports → past ≤ megabyte → find (reaches megabyte) ports ≡ None
none-past ports past megabyte ends reach =
    none-passes (reaches megabyte) ports (λ k d within. never-true (reaches megabyte (slice_index_or ports k d))
    (λ reached. let parts = reaches-parts megabyte (slice_index_or ports k d) reached in omega (arith, parts.1, ends k d within)))

module _ (ports : List DownstreamPort) (first megabyte place : ℕ) (places : List (Option ℕ)) (read : Option ℕ) (is : places ≡ places_from ports first (length places))
    (at : first + place ≡ megabyte) (within : place < length places) (there : read ≡ slice_index_or places place read) where
  entry-read : read ≡ place_reaching ports megabyte
  entry-read = table_of-read (length places) (λ k. place_reaching ports (first + k)) places place read is within there ∙ ap (place_reaching ports) at

  -- what the table has for a megabyte
  pub entry-none : read ≡ None → find (reaches megabyte) ports ≡ None
  entry-none none = none-found (reaches megabyte) ports (sym entry-read ∙ none)

  pub entry-some : (k : ℕ) → read ≡ Some k → find (reaches megabyte) ports ≡ slice_get ports k
  entry-some k some = one-found (reaches megabyte) ports k (sym entry-read ∙ some)
