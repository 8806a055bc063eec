-- Faults that are handed on, among those of a command.
use Rattle.std.proofs.Common.{◌≡◌, ◌⊎◌, ℕ, Result, Ok, Err, IfErr, inl, inr, refl, sym, subst}
use Rattle.std.specs.Result.{IsErrAnd}
use Rattle.std.specs.declared.io.Error.{Error}
use Rattle.journal_text.specs.declared.replaying.LineFault.{LineFault}
use Rattle.journal_text.specs.declared.replaying.LineFault.TheVariants as line_faults
use Rattle.inputs.specs.Endings.{IsRunFault, IsWriterFault, fault_of_line}
use Rattle.inputs.specs.declared.fault.Fault.{Fault}
use Rattle.inputs.specs.declared.fault.Fault.TheVariants as fault

-- one of those of the inputs is one of a command's, beside those of its run
pub or_run : (M A B C D F R : Type 0) → M ⊎ A ⊎ B ⊎ C ⊎ D ⊎ F → M ⊎ A ⊎ B ⊎ C ⊎ D ⊎ F ⊎ R
or_run M A B C D F R (inl m) = inl m
or_run M A B C D F R (inr (inl a)) = inr (inl a)
or_run M A B C D F R (inr (inr (inl b))) = inr (inr (inl b))
or_run M A B C D F R (inr (inr (inr (inl c)))) = inr (inr (inr (inl c)))
or_run M A B C D F R (inr (inr (inr (inr (inl d))))) = inr (inr (inr (inr (inl d))))
or_run M A B C D F R (inr (inr (inr (inr (inr f))))) = inr (inr (inr (inr (inr (inl f)))))

-- the failure of a writer is a fault of a run
pub writer_fault : {T : Type 0} (r : Result T Fault) (x : Error) (Q : Fault → Type 0) → IsErrAnd r (IsWriterFault x) → ((f : Fault) → IsRunFault f → Q f) → IfErr r Q
writer_fault (Ok t) x Q is q = tt
writer_fault (Err f) x Q (inl h) q = q f (subst IsRunFault (sym h.1) tt)
writer_fault (Err f) x Q (inr h) q = q f (subst IsRunFault (sym h.1) tt)

-- the fault of a journal's line is want of memory, or names the line
pub line_fault : {T : Type 0} (r : Result T Fault) (x : LineFault) (Q : Fault → Type 0) → IsErrAnd r (λ f. f ≡ fault_of_line x) → Q fault.NoMemory → ((line : ℕ) → x ≡ line_faults.Illegal line → Q (fault.IllegalEntry line)) → IfErr r Q
line_fault (Ok t) x Q is memory illegal = tt
line_fault (Err f) line_faults.NoMemory Q is memory illegal = subst Q (sym is) memory
line_fault (Err f) (line_faults.Illegal line) Q is memory illegal = subst Q (sym is) (illegal line refl)
