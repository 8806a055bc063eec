-- The index of a table: the map lines of a requester in groups of 512 pages, 2 MB of its addresses. This project's own.
use Rattle.std.specs.Prelude.{◌≡◌, ◌↔◌, ℕ, ◌/◌, ◌<◌, List, [], ◌∷◌, length, All, Any, Contains, ◌⊎◌}
use Rattle.platform.specs.declared.parts.Mapping.{Mapping}
use Rattle.host_table.specs.Rising.{RisesBy}

-- what a clause sees of a `Group`
pub record PageGroup : Type 0 where
  pub number : ℕ
  pub lines : List Mapping

-- the group that a page belongs to
abbrev pub group_number : ℕ → ℕ
group_number page = page / 512

-- the group of one line
abbrev pub group_of : Mapping → PageGroup
group_of line = record { number = group_number line.page; lines = line ∷ [] }

-- a group has a line, its pages belong to it, and they rise strictly
pub record IsGroup (group : PageGroup) : Type 0 where
  pub some : 0 < length group.lines
  pub own : All (λ line. group_number line.page ≡ group.number) group.lines
  pub rising : RisesBy (λ line. line.page) group.lines

-- the line stands in one of the groups
abbrev pub StandsIn : List PageGroup → Mapping → Type 0
StandsIn groups line = Any (λ group. Contains group.lines line) groups

-- the same lines stand in the new groups as in the old ones, and this one
abbrev pub HaveOneMore : List PageGroup → Mapping → List PageGroup → Type 0
HaveOneMore old line new = (other : Mapping) → StandsIn new other ↔ (StandsIn old other ⊎ (other ≡ line))

-- the groups of a requester: their numbers rise strictly, each is a group, and a line stands in one of them exactly where it
-- is a line of the table with that requester
pub record AreGroups (maps : List Mapping) (requester : ℕ) (groups : List PageGroup) : Type 0 where
  pub rising : RisesBy (λ group. group.number) groups
  pub each : All IsGroup groups
  pub exact : (line : Mapping) → StandsIn groups line ↔ (Contains maps line × (line.requester ≡ requester))
