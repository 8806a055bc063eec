-- Each downstream port of a platform is among the ports of its switch.
use Rattle.std.proofs.Common.{◌≡◌, ℕ, zero, suc, ◌+◌, ◌<◌, ◌==◌, Bool, true, false, cond, Option, Some, None, List, [], ◌∷◌, length, map, get_or, option_map, refl, sym, subst, arith}
use Rattle.std.specs.Prelude.{Contains, filter, IsSome}
use Rattle.std.specs.List.{find, position, position_from}
use Rattle.std.specs.Option.{option_map_or}
use Rattle.std.proofs.lemmas.Bool.{eq-eqb}
use Rattle.std.proofs.lemmas.Iterator.Adapters.{position_from-zero}
use Rattle.std.proofs.lemmas.Option.{same_Some}
use Rattle.fab_types.specs.Id.{bus_of}
use Rattle.platform.specs.Platform.{Platform}
use Rattle.platform.specs.Tree.{is_on_bus, port_at}
use Rattle.platform.specs.declared.parts.DownstreamPort.{DownstreamPort}
use Rattle.port.specs.Configs.{config_with, downstream_config, exit_of, exits_of, is_of_port, known_config}

module _ (platform : Platform) (line : DownstreamPort) where
  abbrev IsAmong : ℕ → List DownstreamPort → Type 0
  IsAmong from ports = IsSome (position_from (is_of_port line.id) from (map (exit_of platform) (filter (is_on_bus (bus_of line.id)) ports)))

  among_itself : (ports : List DownstreamPort) (from : ℕ) (on same : Bool) → on ≡ is_on_bus (bus_of line.id) line → same ≡ (line.id == line.id)
      → IsSome (position_from (is_of_port line.id) from (map (exit_of platform) (cond on (line ∷ filter (is_on_bus (bus_of line.id)) ports) (filter (is_on_bus (bus_of line.id)) ports))))
  among_itself ports from true true on same = go (line.id == line.id) same
    where
      go : (b : Bool) → true ≡ b → IsSome (cond b (Some from) (position_from (is_of_port line.id) (from + 1) (map (exit_of platform) (filter (is_on_bus (bus_of line.id)) ports))))
      go true e = refl
      go false e = absurd cc
  among_itself ports from true false on same = let is = eq-eqb line.id line.id refl in absurd cc
  among_itself ports from false same on id = let is = eq-eqb (bus_of line.id) (bus_of line.id) refl in absurd cc

  among_later : (port : DownstreamPort) (ports : List DownstreamPort) (from : ℕ) (on : Bool) → ((n : ℕ) → IsAmong n ports)
      → IsSome (position_from (is_of_port line.id) from (map (exit_of platform) (cond on (port ∷ filter (is_on_bus (bus_of line.id)) ports) (filter (is_on_bus (bus_of line.id)) ports))))
  among_later port ports from false later = later from
  among_later port ports from true later = go (port.id == line.id)
    where
      go : (b : Bool) → IsSome (cond b (Some from) (position_from (is_of_port line.id) (from + 1) (map (exit_of platform) (filter (is_on_bus (bus_of line.id)) ports))))
      go true = refl
      go false = later (from + 1)

  among : (ports : List DownstreamPort) (k : ℕ) → k < length ports → get_or ports k line ≡ line → (from : ℕ) → IsAmong from ports
  among [] k less is from = absurd (omega arith)
  among (port ∷ ports) zero less is from =
      subst (λ (p : DownstreamPort). IsAmong from (p ∷ ports)) (sym is) (among_itself ports from (is_on_bus (bus_of line.id) line) (line.id == line.id) refl refl)
  among (port ∷ ports) (suc k) less is from = among_later port ports from (is_on_bus (bus_of line.id) port) (among ports k (omega arith) is)

  by_position : (o : Option ℕ) → IsSome o → option_map (config_with line (exits_of platform (bus_of line.id))) (option_map suc o) ≡ Some (config_with line (exits_of platform (bus_of line.id)) (option_map_or suc o 0))
  by_position (Some i) some = refl
  by_position None some = absurd cc

  pub known_listed : Contains platform.ports line → known_config platform line ≡ Some (downstream_config platform line)
  known_listed listed = by_position (position (is_of_port line.id) (exits_of platform (bus_of line.id))) (subst IsSome (sym (position_from-zero (is_of_port line.id) (exits_of platform (bus_of line.id)))) (among platform.ports listed.0 listed.1 listed.2 0))

-- ---- a port that is found is listed

found_among : (ports : List DownstreamPort) (id : ℕ) (line : DownstreamPort) → find (λ (p : DownstreamPort). p.id == id) ports ≡ Some line → Contains ports line
found_among [] id line is = absurd cc
found_among (port ∷ ports) id line is = go (found_among ports id line) (port.id == id) is
  where
    go : (find (λ (p : DownstreamPort). p.id == id) ports ≡ Some line → Contains ports line) → (b : Bool) → cond b (Some port) (find (λ (p : DownstreamPort). p.id == id) ports) ≡ Some line → Contains (port ∷ ports) line
    go behind true e = (0, omega arith, same_Some port line e)
    go behind false e = let rest = behind e in let less = rest.1 in (suc rest.0, omega arith, rest.2)

pub found_listed : (ports : List DownstreamPort) (id : ℕ) (line : DownstreamPort) → port_at ports id ≡ Some line → Contains ports line
found_listed ports id line is = found_among ports id line is
