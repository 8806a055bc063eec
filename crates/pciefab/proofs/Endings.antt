-- How commands end.
use Rattle.std.proofs.Common.{◌≡◌, ℕ, List, [], Option, Some, None, refl, subst, sym, true}
use Rattle.std.proofs.lemmas.List.{append-nil}
use Rattle.std.specs.Prelude.{Result, Ok, Err, OnOk, IfOk, MatchResult}
use Rattle.inputs.specs.Endings.{is_done, status_of}
use Rattle.inputs.specs.Files.{Adds, File, WroteBoth}
use Rattle.inputs.specs.declared.fault.ExitStatus.{ExitStatus}
use Rattle.inputs.specs.declared.fault.ExitStatus.TheVariants.{Done}
use Rattle.inputs.specs.declared.fault.Fault.{Fault}
use Rattle.inputs.specs.declared.fault.Fault.TheVariants as fault
use Rattle.reports.specs.Writing.{Wrote}
use Rattle.pciefab.specs.Asked.{IsDoneWith}

none_added : (written : Option (List File)) → Adds written written []
none_added None = tt
none_added (Some files) = sym (append-nil files)

-- what a command that ends in `Done` wrote to its output
wrote_none : (status : ExitStatus) (old new : Option (List ℕ)) (written : Option (List File)) (Prints : List ℕ → Type 0) → status ≡ Done
    → Wrote old new Prints → WroteBoth old new written written (λ text files. IsDoneWith status files (Prints text))
wrote_none status old new written Prints done wrote = (wrote.0, [], (done, refl, wrote.1), wrote.2, none_added written)

-- what any command wrote to its output that writes no file
pub wrote_no_file : (old new : Option (List ℕ)) (written : Option (List File)) (Prints : List ℕ → Type 0) → Wrote old new Prints → WroteBoth old new written written (λ text files. (files ≡ []) × Prints text)
wrote_no_file old new written Prints wrote = (wrote.0, [], (refl, wrote.1), wrote.2, none_added written)

-- what a command wrote that ends in `Done`
pub done_writes : {U : Type 0} (ended : Result U Fault) (status : Result ExitStatus Fault) (old new : Option (List ℕ)) (written : Option (List File)) (Prints : List ℕ → Type 0)
    → OnOk ended (Wrote old new Prints) → MatchResult ended (λ _. status ≡ Ok Done) (λ f. status ≡ Err f)
    → IfOk status (λ s. WroteBoth old new written written (λ text files. IsDoneWith s files (Prints text)))
done_writes {U = U} (Ok x) status old new written Prints wrote is =
    let P : Result ExitStatus Fault → Type 0 = λ r. IfOk r (λ s. WroteBoth old new written written (λ text files. IsDoneWith s files (Prints text))) in
    subst P (sym is) (wrote_none Done old new written Prints refl wrote)
done_writes {U = U} (Err f) status old new written Prints wrote is =
    let P : Result ExitStatus Fault → Type 0 = λ r. IfOk r (λ s. WroteBoth old new written written (λ text files. IsDoneWith s files (Prints text))) in
    subst P (sym is) tt

-- no fault ends as what is done
pub not_done : (f : Fault) → is_done (status_of f) ≡ true → ⊥
not_done fault.NoMemory h = cc
not_done _ h = cc
