-- Each function of a layout is of a domain: of the owner of the port above it.
use Rattle.std.proofs.Common.{◌≡◌, ℕ, ◌<◌, ◌==◌, Bool, true, false, cond, Option, Some, None, List, [], ◌∷◌, length, get_or, option_map, refl, sym, ap, ◌∙◌, arith}
use Rattle.std.specs.Prelude.{IsSome}
use Rattle.std.specs.List.{find, list_all}
use Rattle.std.proofs.lemmas.Bool.{eqb-true, eq-eqb, false≢true}
use Rattle.std.proofs.lemmas.List.Folds.{list_all_at}
use Rattle.fab_types.specs.Id.{bus_of}
use Rattle.layout.specs.Laws.{IsPlatform, is_placed, is_placed_below}
use Rattle.platform.specs.Owners.{domain_above}
use Rattle.platform.specs.Platform.{Platform}
use Rattle.platform.specs.Tree.{id_below, port_leading_to}
use Rattle.platform.specs.declared.parts.DownstreamPort.{DownstreamPort}
use Rattle.platform.specs.declared.parts.EndpointFunction.{EndpointFunction}

owned_first : (port : DownstreamPort) (ports : List DownstreamPort) (id : ℕ) (leads shares : Bool) → (id_below port == id) ≡ leads → (port.secondary == bus_of id) ≡ shares
    → (IsSome (port_leading_to ports id) → IsSome (domain_above ports id)) → IsSome (cond leads (Some port) (port_leading_to ports id))
    → IsSome (option_map (λ (p : DownstreamPort). p.owner) (cond shares (Some port) (find (λ (p : DownstreamPort). p.secondary == bus_of id) ports)))
owned_first port ports id leads true e f later some = refl
owned_first port ports id false false e f later some = later some
owned_first port ports id true false e f later some =
    let same = eqb-true (id_below port) id e in
    let bus : port.secondary ≡ bus_of id = omega (arith, same) in
    absurd (false≢true (sym f ∙ eq-eqb port.secondary (bus_of id) bus))

-- a port that leads to an ID leads to its bus
owned : (ports : List DownstreamPort) (id : ℕ) → IsSome (port_leading_to ports id) → IsSome (domain_above ports id)
owned [] id some = some
owned (port ∷ ports) id some = owned_first port ports id (id_below port == id) (port.secondary == bus_of id) refl refl (owned ports id) some

placed_below : (o : Option DownstreamPort) (line : EndpointFunction) → is_placed_below o line ≡ true → IsSome o
placed_below None line placed = placed
placed_below (Some port) line placed = refl

decided : (b : Bool) → (b ≡ false → ⊥) → b ≡ true
decided true never = refl
decided false never = absurd (never refl)

pub has_domain : (platform : Platform) (functions : List EndpointFunction) (i : ℕ) (line : EndpointFunction) → IsPlatform platform → functions ≡ platform.functions → i < length functions
    → line ≡ get_or functions i line → IsSome (domain_above platform.ports line.id)
has_domain platform functions i line laws same lt at =
    let all : list_all (is_placed platform.ports) functions ≡ true = ap (list_all (is_placed platform.ports)) same ∙ laws.placed in
    let placed : is_placed platform.ports line ≡ true =
    decided (is_placed platform.ports line) (λ lacks. false≢true (sym (list_all_at (is_placed platform.ports) functions i line lt (sym (ap (is_placed platform.ports) at) ∙ lacks)) ∙ all)) in
    owned platform.ports line.id (placed_below (port_leading_to platform.ports line.id) line placed)
