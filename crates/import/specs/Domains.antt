-- Which domain owns a port.
use Rattle.std.specs.Prelude.{ℕ, zero, suc, ◌+◌, ◌-◌, ◌==◌, Bool, ◌&&◌, ◌||◌, nat_le, nat_lt, List, Option, Some, None, if◌then◌else◌}
use Rattle.std.specs.List.{find, list_any}
use Rattle.fab_types.specs.Id.{bus_of, id_of}
use Rattle.lspci.specs.declared.header.BridgeBuses.{BridgeBuses}
use Rattle.lspci.specs.declared.lines.Location.{Location}
use Rattle.platform.specs.declared.parts.DownstreamPort.{DownstreamPort}
use Rattle.platform.specs.Tree.{domain_of}
use Rattle.import.specs.declared.owners.Owner.{Owner}
use Rattle.import.specs.declared.tree.Tree.{Tree}

-- what stands at this place is the port itself, or below it
unfoldable pub is_in : Location → BridgeBuses → Location → Bool
is_in port buses place =
    (port.segment == place.segment)
    && ((place.id == port.id) || (nat_lt (bus_of port.id) (bus_of place.id) && nat_le buses.secondary (bus_of place.id) && nat_le (bus_of place.id) buses.subordinate))

abbrev pub is_listed : List Owner → ℕ → Bool
is_listed owners number = list_any (λ owner. owner.domain == number) owners

abbrev pub owns_port : List DownstreamPort → ℕ → Bool
owns_port ports number = list_any (λ port. port.owner == number) ports

-- a device of this domain is in the list, or it owns a port of the layout
abbrev pub is_given : List Owner → List DownstreamPort → ℕ → Bool
is_given owners ports number = is_listed owners number || owns_port ports number

-- the first device of the list that is the port or below it
abbrev pub first_in : List Owner → Location → BridgeBuses → Option Owner
first_in owners port buses = find (λ owner. is_in port buses owner.location) owners

-- the first domain that has nothing yet, of so many from this number on; or the number behind them
unfoldable pub free_from : List Owner → List DownstreamPort → ℕ → ℕ → ℕ
free_from owners ports zero number = number
free_from owners ports (suc left) number = if is_given owners ports number then free_from owners ports left (number + 1) else number

abbrev pub listed_or : ℕ → Option Owner → ℕ
listed_or other None = other
listed_or other (Some owner) = owner.domain

-- The owner of a port of the top switch is that of the first device in the list that is below it, or it is a domain of its
-- own. Where none is left that is 32, which is no domain.
abbrev pub top_owner : List Owner → List DownstreamPort → Location → BridgeBuses → ℕ
top_owner owners ports port buses = listed_or (free_from owners ports 31 1) (first_in owners port buses)

-- a port below another one has the owner of that
abbrev pub owner_of : Tree → List Owner → List DownstreamPort → Location → BridgeBuses → ℕ → ℕ
owner_of tree owners ports port buses bus =
    if bus_of port.id == tree.bus then top_owner owners ports port buses else domain_of ports (id_of (bus - 1) 0 0)
