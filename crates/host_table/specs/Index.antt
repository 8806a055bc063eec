-- What holds of every table: its lines, and the groups of each requester.
use Rattle.std.specs.Prelude.{◌≡◌, List, All, Any}
use Rattle.platform.specs.declared.parts.Mapping.{Mapping}
use Rattle.platform.specs.Tables.{MapsOnce}
use Rattle.host_table.specs.Rising.{RisesBy}
use Rattle.host_table.specs.Groups.{AreGroups}
use Rattle.host_table.specs.declared.index.RequesterGroups.{RequesterGroups}
use Rattle.host_table.specs.declared.table.HostTable.TheInside.{Inside}

-- the groups of each requester that has a line, by rising requester
pub record IsIndex (maps : List Mapping) (index : List RequesterGroups) : Type 0 where
  pub rising : RisesBy (λ entry. entry.requester) index
  pub groups : All (λ entry. AreGroups maps entry.requester entry.groups.items) index
  pub whole : All (λ line. Any (λ entry. entry.requester ≡ line.requester) index) maps  -- the requester of each line is there

pub record IsTable (s : Inside) : Type 0 where
  pub once : MapsOnce s.lines.items
  pub index : IsIndex s.lines.items s.index.items
