-- Each port is of a domain of 1 to 31.
use Rattle.std.proofs.Common.{◌≡◌, ℕ, ◌==◌, Bool, true, false, List, [], ◌∷◌, None, refl, subst, arith, eqb-true}
use Rattle.std.specs.List.{list_all}
use Rattle.std.proofs.lemmas.Bool.Decides.{nat_tests}
use Rattle.platform.specs.declared.parts.DownstreamPort.{DownstreamPort}
use Rattle.platform.specs.Owners.{owns_port}
use Rattle.platform.specs.Platform.{Platform}
use Rattle.layout.specs.Laws.{IsPlatform, has_domain}
use Rattle.layout.specs.Rules.{is_within}
use Rattle.layout.specs.Views.{share_of_owner}
use Rattle.platform.proofs.Bools.{and-first, and-second}
use Rattle.journal_text.specs.Legible.{IsDomain}

is_domain : (number : ℕ) → is_within 1 31 number ≡ true → IsDomain number
is_domain number h = grind (arith, nat_tests)

other_owner : (owner number : ℕ) (same : Bool) → (owner == number) ≡ same → is_within 1 31 owner ≡ true → ¬ IsDomain number → same ≡ false
other_owner owner number true e within none = absurd (none (is_domain number (subst (λ n. is_within 1 31 n ≡ true) (eqb-true owner number e) within)))
other_owner owner number false e within none = refl

none_owns : (ports : List DownstreamPort) (number : ℕ) → list_all has_domain ports ≡ true → ¬ IsDomain number → owns_port ports number ≡ false
none_owns [] number all none = refl
none_owns (port ∷ ports) number all none =
    rw (other_owner port.owner number (port.owner == number) refl (and-first (has_domain port) (list_all has_domain ports) all) none)
    (none_owns ports number (and-second (has_domain port) (list_all has_domain ports) all) none)

-- what is no domain's number has no share
pub no_share : (platform : Platform) (number : ℕ) → IsPlatform platform → ¬ IsDomain number → share_of_owner platform number ≡ None
no_share platform number laws none = rw (none_owns platform.ports number laws.owners none) refl
