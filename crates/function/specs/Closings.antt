-- What a completion does to the page of the function whose Tag it closes. This is the project's own.
use Rattle.std.specs.Prelude.{ℕ, ◌*◌, ◌==◌, Bool, true, false, ◌&&◌, List, ◌++◌, length, take, drop, slice_range, if◌then◌else◌}
use Rattle.fab_types.specs.Bytes.{overwritten}
use Rattle.fab_types.specs.declared.status.Status.{Status}
use Rattle.fab_types.specs.declared.status.Status.TheVariants.{SC, UR, CRS, CA}
use Rattle.function.specs.declared.tags.TagUse.{TagUse}
use Rattle.function.specs.declared.tags.TagUse.TheVariants.{Raw, Line}
use Rattle.function.specs.Registers.{with_status}

abbrev pub is_success : Status → Bool
is_success SC = true
is_success UR = false
is_success CRS = false
is_success CA = false

-- the page with these bytes in its buffer
abbrev pub filled : List ℕ → ℕ → List ℕ → List ℕ
filled page offset bytes = take 0x400 page ++ overwritten (slice_range page 0x400 0x800) offset bytes ++ drop 0x800 page

-- of a read line with this offset and count: a success with count DW of data is copied, anything else is a
-- fault, whatever STATUS was
abbrev pub closed : List ℕ → ℕ → ℕ → Status → List ℕ → List ℕ
closed page offset count status payload =
    if is_success status && (length payload == 4 * count) then filled page offset payload else with_status page 3

-- only the Tag of a read line has anything to do with the page
abbrev pub closed_by : List ℕ → TagUse → Status → List ℕ → List ℕ
closed_by page Raw status payload = page
closed_by page (Line offset count) status payload = closed page offset count status payload
