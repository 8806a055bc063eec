-- The owner of a number, found by a search over the ports.
use Rattle.std.proofs.Common.{◌≡◌, ℕ, ◌==◌, Bool, true, false, cond, List, [], ◌∷◌, Option, Some, None, refl, sym, ap, ◌∙◌}
use Rattle.std.specs.Prelude.{◌||◌, option_map}
use Rattle.std.specs.List.{find}
use Rattle.std.proofs.lemmas.Bool.{eqb-true}
use Rattle.platform.specs.declared.parts.DownstreamPort.{DownstreamPort}
use Rattle.platform.specs.Owners.{owns_port, owner_of_bus, owner_of_parts}

abbrev pub numbered : List DownstreamPort → ℕ → Option ℕ
numbered ports d = option_map (λ port. port.owner) (find (λ port. port.owner == d) ports)

one : (b : Bool) (port : DownstreamPort) (ports : List DownstreamPort) (d : ℕ) → (b ≡ true → port.owner ≡ d) → numbered ports d ≡ cond (owns_port ports d) (Some d) None
    → option_map {U = ℕ} (λ (p : DownstreamPort). p.owner) (cond b (Some port) (find (λ (p : DownstreamPort). p.owner == d) ports)) ≡ cond {A = Option ℕ} (b || owns_port ports d) (Some d) None
one true port ports d is rest = ap (λ (n : ℕ). Some n) (is refl)
one false port ports d is rest = rest

-- a search for the ports of a domain finds that domain, if it owns one
pub numbered_is : (ports : List DownstreamPort) (d : ℕ) → numbered ports d ≡ cond (owns_port ports d) (Some d) None
numbered_is [] d = refl
numbered_is (port ∷ ports) d = one (port.owner == d) port ports d (eqb-true port.owner d) (numbered_is ports d)

some_is : (b : Bool) (d o : ℕ) (other : Option ℕ) → cond {A = Option ℕ} b (Some d) None ≡ Some o → cond {A = Option ℕ} b (Some d) other ≡ Some o
some_is true d o other e = e
some_is false d o other e = absurd cc

none_is : (b : Bool) (d : ℕ) (other : Option ℕ) → cond {A = Option ℕ} b (Some d) None ≡ None → cond {A = Option ℕ} b (Some d) other ≡ other
none_is true d other e = absurd cc
none_is false d other e = refl

-- on bus 0, a domain that owns a port has its host
pub host_owner : (ports : List DownstreamPort) (bus device function o : ℕ) → bus ≡ 0 → function ≡ 0 → numbered ports device ≡ Some o → owner_of_parts ports bus device function ≡ Some o
host_owner ports bus device function o e f h =
    rw (e, f) (some_is (owns_port ports device) device o (owner_of_bus ports 0) (sym (numbered_is ports device) ∙ h))

-- one that owns none has no host
pub no_host_owner : (ports : List DownstreamPort) (bus device function : ℕ) → bus ≡ 0 → function ≡ 0 → numbered ports device ≡ None → owner_of_parts ports bus device function ≡ owner_of_bus ports bus
no_host_owner ports bus device function e f h =
    rw (e, f) (none_is (owns_port ports device) device (owner_of_bus ports 0) (sym (numbered_is ports device) ∙ h))

-- a search for the ports of a domain that owns one finds it
pub owner_found : (ports : List DownstreamPort) (d : ℕ) (found : Option ℕ) → found ≡ numbered ports d → owns_port ports d ≡ true → found ≡ Some d
owner_found ports d found e owned = e ∙ numbered_is ports d ∙ ap (λ (b : Bool). cond {A = Option ℕ} b (Some d) None) owned
