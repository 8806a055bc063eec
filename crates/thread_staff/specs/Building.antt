-- Workers as they are taken on, and what they share.
use Rattle.std.specs.Prelude.{◌≡◌, List, map}
use Rattle.std.specs.Arc.{arc_value}
use Rattle.bridge.specs.Bridges.{of_platform}
use Rattle.platform.specs.Platform.{Platform}
use Rattle.thread_staff.specs.Kept.{PostKept, post_kept}
use Rattle.thread_staff.specs.Roles.{starting_numbers}
use Rattle.thread_staff.specs.Seats.{AreWatched}
use Rattle.thread_staff.specs.Watched.{watch_kept}
use Rattle.thread_staff.specs.declared.shared.Shared.{Shared}
use Rattle.thread_staff.specs.declared.staff.Staff.TheInside.{Inside}

abbrev pub staff_view : Inside → List PostKept
staff_view s = map post_kept s.posts.items

-- the ports among them have the seats that were given
abbrev pub IsStaff : Inside → Type 0
IsStaff s = AreWatched (watch_kept s.watch) (staff_view s)

-- it is what the workers of this layout share
pub record IsSharedOf (platform : Platform) (shared : Shared) : Type 0 where
  pub bridge : arc_value shared.bridge ≡ of_platform platform
  pub locks : arc_value shared.locks ≡ starting_numbers platform
