-- An entry that the machine of a domain has is legible.
use Rattle.std.proofs.Common.{◌≡◌, ℕ, ◌<◌, ◌≤◌, Bool, true, false, cond, Option, Some, refl, arith}
use Rattle.std.specs.Prelude.{not}
use Rattle.std.proofs.lemmas.Bool.Decides.{nat_tests}
use Rattle.fab_types.specs.declared.faults.begin.MmioFault.{MmioFault}
use Rattle.fab_types.specs.declared.faults.begin.MmioFault.TheVariants.{NotYours, Range}
use Rattle.fab_types.specs.declared.host_access.HostAccess.{HostAccess}
use Rattle.fab_types.specs.declared.host_access.Operation.{Operation}
use Rattle.fab_types.specs.declared.host_access.Operation.TheVariants.{Read, Write}
use Rattle.platform.specs.Share.{Share}
use Rattle.platform.specs.Owners.{is_own_function}
use Rattle.domain.specs.declared.entry.Entry.{Entry}
use Rattle.domain.specs.declared.entry.Entry.TheVariants as entry
use Rattle.domain.specs.Machine.{change}
use Rattle.domain_state.specs.HostAccesses.{is_in_page, mmio_fault, mmio_unless, size_of}
use Rattle.domain_state.specs.State.{Alone, Change}
use Rattle.journal_text.specs.Legible.{EntryFits, IsLegible, IsOperation, OperationFits}

-- an access that isn't refused lies in the page
unless_in_page : (share : Share) (s : Alone) (access : HostAccess) (c : Change) (own page : Bool) (rest : Option MmioFault) → mmio_unless (cond (not own) (Some NotYours) (cond (not page) (Some Range) rest)) share s access ≡ Some c
    → page ≡ true
unless_in_page share s access c own true rest h = refl
unless_in_page share s access c true false rest h = absurd cc
unless_in_page share s access c false false rest h = absurd cc

in_page : (share : Share) (s : Alone) (access : HostAccess) (c : Change) → mmio_unless (mmio_fault share s access) share s access ≡ Some c → is_in_page access.offset (size_of access.operation) ≡ true
in_page share s access c h = unless_in_page share s access c (is_own_function share access.function) (is_in_page access.offset (size_of access.operation)) _ h

small : (operation : Operation) → OperationFits operation → size_of operation ≤ 256 → IsOperation operation
small (Read count) fits le = omega arith
small (Write bytes) fits le = fits

within : (offset size : ℕ) → is_in_page offset size ≡ true → (offset < 4096) × (size ≤ 256)
within offset size h = (grind (arith, nat_tests), grind (arith, nat_tests))

pub legal_is_legible : (share : Share) (s : Alone) (e : Entry) (c : Change) → EntryFits e → change share s e ≡ Some c → IsLegible e
legal_is_legible share s (entry.Submit function bytes) c fits h = fits
legal_is_legible share s (entry.Tick function) c fits h = fits
legal_is_legible share s (entry.Mmio access) c fits h =
    let is = within access.offset (size_of access.operation) (in_page share s access c h) in
    (fits.0, is.0, small access.operation fits.1 is.1)
legal_is_legible share s (entry.Refuse number) c fits h = fits
legal_is_legible share s (entry.Carry number) c fits h = fits
legal_is_legible share s (entry.Deliver number) c fits h = fits
legal_is_legible share s (entry.Alien place sender bytes) c fits h = fits
