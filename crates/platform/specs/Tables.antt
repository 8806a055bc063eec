-- The translation tables of a domain's requesters.
use Rattle.std.specs.Prelude.{◌≡◌, ℕ, ◌==◌, Bool, ◌&&◌, List, Option, option_map, AllPairs}
use Rattle.std.specs.List.{find}
use Rattle.platform.specs.declared.parts.Mapping.{Mapping}
use Rattle.platform.specs.declared.parts.MapTarget.{MapTarget}
use Rattle.platform.specs.declared.parts.Rights.{Rights}
use Rattle.platform.specs.declared.parts.Access.{Access}
use Rattle.platform.specs.declared.parts.Access.TheVariants.{Read, Write}

abbrev pub allows : Rights → Access → Bool
allows rights Read = rights.read
allows rights Write = rights.write

-- does the line map this page of this requester for this access?
abbrev pub fits : ℕ → ℕ → Access → Mapping → Bool
fits requester page access line = (line.requester == requester) && (line.page == page) && allows line.rights access

-- what the page is mapped to, if it is. No two lines of a table map one page.
abbrev pub target_of : List Mapping → ℕ → ℕ → Access → Option MapTarget
target_of maps requester page access = option_map (λ line. line.target) (find (fits requester page access) maps)

-- no two lines map one page of one requester
abbrev pub MapsOnce : List Mapping → Type 0
MapsOnce maps = AllPairs (λ a b. a.requester ≡ b.requester → a.page ≡ b.page → ⊥) maps
