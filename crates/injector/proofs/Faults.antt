-- The faults of a begin.
use Rattle.std.proofs.Common.{◌≡◌, ℕ, Bool, true, false, List, Option, Some, None, Result, Err, refl, ap, sym, ◌∙◌}
use Rattle.std.specs.Prelude.{option_map, if◌then◌else◌, not, nat_lt, nat_le, ◌&&◌, length}
use Rattle.std.specs.Result.{IsOkUnless}
use Rattle.arrayvec.specs.ArrayVec.{ArrayVec}
use Rattle.fab_types.specs.declared.faults.begin.BeginFault.{BeginFault}
use Rattle.fab_types.specs.declared.faults.begin.BeginFault.TheVariants as fault
use Rattle.fab_types.specs.declared.faults.begin.SubmitFault.{SubmitFault}
use Rattle.fab_types.specs.declared.faults.begin.SubmitFault.TheVariants as submit
use Rattle.fab_types.specs.declared.faults.begin.TickFault.{TickFault}
use Rattle.fab_types.specs.declared.faults.begin.TickFault.TheVariants as tick
use Rattle.fab_types.specs.declared.faults.begin.MmioFault.{MmioFault}
use Rattle.fab_types.specs.declared.faults.begin.MmioFault.TheVariants as mmio
use Rattle.fab_types.specs.declared.host_access.HostAccess.{HostAccess}
use Rattle.domain_state.specs.HostAccesses.{is_in_page, mmio_fault, size_of, tag_for}
use Rattle.domain_state.specs.Tags.{completes, is_open, opens_tag}
use Rattle.fab_types.specs.declared.origin.Origin.TheVariants.{Function}
use Rattle.platform.specs.Owners.{is_own_function}
use Rattle.std.specs.Option.{is_none}
use Rattle.tlp_view.specs.Bytes.{packet_of}
use Rattle.domain.specs.Domains.{DomainView}
use Rattle.domain.specs.Submits.{submit_fault}
use Rattle.injector.specs.declared.begin.Ask.{Ask}
use Rattle.injector.specs.declared.begin.Ask.TheVariants.{Submit, Tick, Mmio}
use Rattle.injector.specs.Serves.{begin_fault, is_memory_fault, memory_fault}

-- the refusal that applies is the one that is answered, also as a begin's
refused_as : {A B E F : Type 0} (wrap : E → F) (o : Option E) (given : E)
    → ((f : E) → o ≡ Some f → ◌≡◌ {A = Result A E} (Err given) (Err f)) → (f : F) → option_map wrap o ≡ Some f → ◌≡◌ {A = Result B F} (Err (wrap given)) (Err f)
refused_as wrap None given known f e = cc
refused_as wrap (Some x) given known f e = let same = known x refl in cc

pub submit_refused : {A B : Type 0} (d : DomainView) (ask : Ask) (function : ℕ) (bytes : ArrayVec ℕ) (xs : List ℕ) (given : SubmitFault)
    → ask ≡ Submit function bytes → xs ≡ bytes.items
    → ((f : SubmitFault) → submit_fault d.share d.state function xs ≡ Some f → ◌≡◌ {A = Result A SubmitFault} (Err given) (Err f))
    → (f : BeginFault) → begin_fault d ask ≡ Some f → ◌≡◌ {A = Result B BeginFault} (Err (fault.Submit given)) (Err f)
submit_refused {A} {B} d ask function bytes xs given is same known f e =
    refused_as {A = A} {B = B} (λ (x : SubmitFault). fault.Submit x) (submit_fault d.share d.state function bytes.items) given
    (λ x q. known x (ap (submit_fault d.share d.state function) same ∙ q)) f (ap (begin_fault d) (sym is) ∙ e)

pub mmio_refused : {A B : Type 0} (d : DomainView) (ask : Ask) (access : HostAccess) (given : MmioFault)
    → ask ≡ Mmio access
    → ((f : MmioFault) → mmio_fault d.share d.state access ≡ Some f → ◌≡◌ {A = Result A MmioFault} (Err given) (Err f))
    → (f : BeginFault) → begin_fault d ask ≡ Some f → ◌≡◌ {A = Result B BeginFault} (Err (fault.Mmio given)) (Err f)
mmio_refused {A} {B} d ask access given is known f e =
    refused_as {A = A} {B = B} (λ (x : MmioFault). fault.Mmio x) (mmio_fault d.share d.state access) given known f (ap (begin_fault d) (sym is) ∙ e)

-- a refusal that applies isn't for want of memory
aside : (x f : BeginFault) → is_memory_fault x ≡ false → Some x ≡ Some f → is_memory_fault f ≡ false
aside x f h e = let same : f ≡ x = cc in ap is_memory_fault same ∙ h

submit_aside : (a b c d e : Bool) (f : BeginFault)
    → option_map (λ (x : SubmitFault). fault.Submit x) (if a then Some submit.NoFunction else (if b then Some submit.TooLong else (if c then Some submit.Completion else (if d then Some submit.TagBusy else (if e then Some submit.BudgetSpent else None))))) ≡ Some f
    → is_memory_fault f ≡ false
submit_aside true b c d e f is = aside (fault.Submit submit.NoFunction) f refl is
submit_aside false true c d e f is = aside (fault.Submit submit.TooLong) f refl is
submit_aside false false true d e f is = aside (fault.Submit submit.Completion) f refl is
submit_aside false false false true e f is = aside (fault.Submit submit.TagBusy) f refl is
submit_aside false false false false true f is = aside (fault.Submit submit.BudgetSpent) f refl is
submit_aside false false false false false f is = cc

tick_aside : (a b : Bool) (f : BeginFault)
    → option_map (λ (x : TickFault). fault.Tick x) (if a then Some tick.NoFunction else (if b then Some tick.BudgetSpent else None)) ≡ Some f
    → is_memory_fault f ≡ false
tick_aside true b f is = aside (fault.Tick tick.NoFunction) f refl is
tick_aside false true f is = aside (fault.Tick tick.BudgetSpent) f refl is
tick_aside false false f is = cc

mmio_aside : (a b c d : Bool) (f : BeginFault)
    → option_map (λ (x : MmioFault). fault.Mmio x) (if a then Some mmio.NotYours else (if b then Some mmio.Range else (if c then Some mmio.NoTag else (if d then Some mmio.BudgetSpent else None)))) ≡ Some f
    → is_memory_fault f ≡ false
mmio_aside true b c d f is = aside (fault.Mmio mmio.NotYours) f refl is
mmio_aside false true c d f is = aside (fault.Mmio mmio.Range) f refl is
mmio_aside false false true d f is = aside (fault.Mmio mmio.NoTag) f refl is
mmio_aside false false false true f is = aside (fault.Mmio mmio.BudgetSpent) f refl is
mmio_aside false false false false f is = cc

begin_fault_aside : (d : DomainView) (ask : Ask) (f : BeginFault) → begin_fault d ask ≡ Some f → is_memory_fault f ≡ false
begin_fault_aside d (Submit function bytes) f is =
    submit_aside (not (is_own_function d.share function)) (nat_lt 272 (length bytes.items)) (completes bytes.items)
    (opens_tag bytes.items && is_open d.state.open_tags (Function function) (packet_of bytes.items).tag) (nat_le d.share.budget d.state.counts.begins) f is
begin_fault_aside d (Tick function) f is = tick_aside (not (is_own_function d.share function)) (nat_le d.share.budget d.state.counts.begins) f is
begin_fault_aside d (Mmio access) f is =
    mmio_aside (not (is_own_function d.share access.function)) (not (is_in_page access.offset (size_of access.operation)))
    (is_none (tag_for d.state.open_tags d.share.domain access.operation)) (nat_le d.share.budget d.state.counts.begins) f is

memory_fault_is : (ask : Ask) → is_memory_fault (memory_fault ask) ≡ true
memory_fault_is (Submit function bytes) = refl
memory_fault_is (Tick function) = refl
memory_fault_is (Mmio access) = refl

-- Another fault than for want of memory is the first refusal that applies.
pub first_fault : {A : Type 0} (d : DomainView) (ask : Ask) (given : BeginFault) (o : Option BeginFault) → begin_fault d ask ≡ o
    → ((f : BeginFault) → begin_fault d ask ≡ Some f → ◌≡◌ {A = Result A BeginFault} (Err given) (Err f))
    → (begin_fault d ask ≡ None → IsOkUnless {T = A} {E = BeginFault} (Err given) (memory_fault ask))
    → is_memory_fault given ≡ false → begin_fault d ask ≡ Some given
first_fault {A} d ask given None is refused accepted other =
    let same : given ≡ memory_fault ask = accepted is in
    let e : is_memory_fault given ≡ true = ap is_memory_fault same ∙ memory_fault_is ask in cc
first_fault {A} d ask given (Some x) is refused accepted other = let same = refused x is in cc

-- For want of memory nothing was refused.
pub no_fault : {A : Type 0} (d : DomainView) (ask : Ask) (given : BeginFault) (o : Option BeginFault) → begin_fault d ask ≡ o
    → ((f : BeginFault) → begin_fault d ask ≡ Some f → ◌≡◌ {A = Result A BeginFault} (Err given) (Err f))
    → (begin_fault d ask ≡ None → IsOkUnless {T = A} {E = BeginFault} (Err given) (memory_fault ask))
    → is_memory_fault given ≡ true → (begin_fault d ask ≡ None) × (given ≡ memory_fault ask)
no_fault {A} d ask given None is refused accepted memory = (is, accepted is)
no_fault {A} d ask given (Some x) is refused accepted memory =
    let same = refused x is in
    let other : is_memory_fault x ≡ false = begin_fault_aside d ask x is in
    let e : given ≡ x = cc in
    let k : is_memory_fault x ≡ true = ap is_memory_fault (sym e) ∙ memory in absurd cc
