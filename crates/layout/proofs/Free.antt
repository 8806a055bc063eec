-- No function stands where a switch does.
use Rattle.std.proofs.Common.{◌≡◌, ◌==◌, true, false, List, [], ◌∷◌, ◌++◌, sym}
use Rattle.std.specs.Prelude.{not}
use Rattle.std.specs.List.{list_all}
use Rattle.std.proofs.lemmas.Bool.{eqb-false, ne_eqb}
use Rattle.platform.specs.declared.parts.Switch.{Switch}
use Rattle.platform.specs.declared.parts.EndpointFunction.{EndpointFunction}
use Rattle.platform.specs.Owners.{is_function}
use Rattle.platform.specs.Tree.{is_switch, is_taken}
use Rattle.layout.specs.Laws.{is_no_switch}
use Rattle.platform.proofs.Bools.{or-first, or-second}
use Rattle.layout.proofs.Bools.{not-true, true-not, all-not, any-not_last, all-weaker-among}

-- a function where nothing stood
pub free-function : (switches : List Switch) (functions : List EndpointFunction) (function : EndpointFunction) → is_taken switches functions function.id ≡ false → is_no_switch switches function ≡ true
free-function switches functions function free = not-true (is_switch switches function.id) (or-first _ _ free)

free-beside : (switches : List Switch) (switch : Switch) (function : EndpointFunction) → not (function.id == switch.id) ≡ true → is_no_switch switches function ≡ true → is_no_switch (switches ++ switch ∷ []) function ≡ true
free-beside switches switch function apart h =
    let other : (switch.id == function.id) ≡ false = ne_eqb switch.id function.id (λ e. eqb-false function.id switch.id (true-not _ apart) (sym e)) in
    not-true (is_switch (switches ++ switch ∷ []) function.id) (any-not_last (λ (line : Switch). line.id == function.id) switches switch (true-not _ h) other)

-- a switch where no function stood
pub free-switch : (switches : List Switch) (functions : List EndpointFunction) (switch : Switch) → is_taken switches functions switch.id ≡ false → list_all (is_no_switch switches) functions ≡ true → list_all (is_no_switch (switches ++ switch ∷ [])) functions ≡ true
free-switch switches functions switch free h =
    all-weaker-among (λ (line : EndpointFunction). not (line.id == switch.id)) (is_no_switch switches) (is_no_switch (switches ++ switch ∷ [])) functions (free-beside switches switch)
    (all-not (λ (line : EndpointFunction). line.id == switch.id) functions (or-second (is_switch switches switch.id) (is_function functions switch.id) free)) h
