-- What an injector answered, and what that leaves of it.
use Rattle.std.proofs.Common.{◌≡◌, ◌++◌, ◌∷◌, [], List, length, Result, Ok, Err, OnOk, refl, subst, ◌∙◌}
use Rattle.std.specs.Result.{IsOkUnless}
use Rattle.fab_types.specs.declared.faults.injector.InjectorFault.{InjectorFault}
use Rattle.fab_types.specs.declared.host_access.HostAccess.{HostAccess}
use Rattle.rtrb.specs.Ring.{sent}
use Rattle.injector.specs.Injectors.{Injects, SendsNothing}
use Rattle.injector.specs.declared.begin.Ask.{Ask}
use Rattle.injector.specs.declared.injector.Injector.{Injector}
use Rattle.injector.specs.declared.injector.RefusedAccess.{RefusedAccess}
use Rattle.threads_command.specs.Asking.{Sends}

sends : (old : Injector) (what : Ask) (new : Injector) → Injects old what new → Sends old what new
sends old what new i = record { same = i.same; sends = i.sends }

-- what an injector took it was asked for, and sent
pub taken : {E : Type 0} (asked : Result Ask InjectorFault) (told : InjectorFault → E) (result : Result (Unit {0}) E) (old new : Injector) (u : Unit {0})
    → result ≡ Ok u → ((fault : InjectorFault) → asked ≡ Err fault → result ≡ Err (told fault)) → ((what : Ask) → asked ≡ Ok what → OnOk result (Injects old what new))
    → (what : Ask) × (asked ≡ Ok what) × Sends old what new
taken (Ok what) told result old new u ok refused sent = (what, refl, sends old what new (subst (λ r. OnOk r (Injects old what new)) ok (sent what refl)))
taken (Err fault) told result old new u ok refused sent =
    let bad : result ≡ Err (told fault) = refused fault refl in
    absurd cc

-- an access that is refused is given back
pub given_back : (asked : Result Ask InjectorFault) (result : Result (Unit {0}) RefusedAccess) (access : HostAccess) (back : RefusedAccess) → result ≡ Err back
    → ((fault : InjectorFault) → asked ≡ Err fault → result ≡ Err (record { fault = fault; access = access }))
    → ((what : Ask) → asked ≡ Ok what → IsOkUnless result (record { fault = InjectorFault.RingFull; access = access }))
    → back.access ≡ access
given_back (Ok what) result access back err refused full =
    let same : back ≡ record { fault = InjectorFault.RingFull; access = access } = subst (λ r. IsOkUnless r (record { fault = InjectorFault.RingFull; access = access })) err (full what refl) in
    cc
given_back (Err fault) result access back err refused full =
    let bad : result ≡ Err (record { fault = fault; access = access }) = refused fault refl in
    cc

-- after nothing was sent, what is sent is sent
pub nothing_then : (old mid new : Injector) (what : Ask) → SendsNothing old mid → Sends mid what new → Sends old what new
nothing_then old mid new what first s = record {
  same = record {
    origin = s.same.origin ∙ first.same.origin;
    ring = ((s.same.ring.0.0 ∙ first.same.ring.0.0, s.same.ring.0.1 ∙ first.same.ring.0.1, s.same.ring.0.2 ∙ first.same.ring.0.2, s.same.ring.0.3 ∙ first.same.ring.0.3), s.same.ring.1 ∙ first.same.ring.1);
    records = s.same.records ∙ first.same.records;
  };
  sends = subst (λ (before : List _). sent new.begins ≡ before ++ record { number = length before; what = what } ∷ []) first.sends s.sends;
}

pub nothing_twice : (old mid new : Injector) → SendsNothing old mid → SendsNothing mid new → SendsNothing old new
nothing_twice old mid new first s = record {
  same = record {
    origin = s.same.origin ∙ first.same.origin;
    ring = ((s.same.ring.0.0 ∙ first.same.ring.0.0, s.same.ring.0.1 ∙ first.same.ring.0.1, s.same.ring.0.2 ∙ first.same.ring.0.2, s.same.ring.0.3 ∙ first.same.ring.0.3), s.same.ring.1 ∙ first.same.ring.1);
    records = s.same.records ∙ first.same.records;
  };
  sends = s.sends ∙ first.sends;
}
