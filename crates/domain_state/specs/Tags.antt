-- The Tags that a domain's requesters have open (PCIe 4.0, 2.2.6.2).
use Rattle.std.specs.Prelude.{ℕ, Bool, true, false, List, Option, Some, None, if◌then◌else◌}
use Rattle.fab_types.specs.declared.class.Class.{Class}
use Rattle.fab_types.specs.declared.class.Class.TheVariants.{Posted, NonPosted, Completion}
use Rattle.fab_types.specs.declared.faults.malformed.Malformed.{Malformed}
use Rattle.fab_types.specs.declared.origin.Origin.TheVariants.{Function}
use Rattle.tlp_view.specs.Kinds.{class_of_kind, is_completion}
use Rattle.tlp_view.specs.Bytes.{packet_of}
use Rattle.tlp_view.specs.Malformed.{malformed}
use Rattle.function.specs.declared.tags.OpenTag.{OpenTag}
use Rattle.function.specs.declared.tags.TagUse.TheVariants.{Raw}
pub use Rattle.fab_types.specs.Origins.{same_origin}
pub use Rattle.function.specs.Tags.{is_open, and_open}

abbrev pub is_non_posted : Class → Bool
is_non_posted Posted = false
is_non_posted NonPosted = true
is_non_posted Completion = false

-- a well-formed non-posted request waits for a completion
abbrev pub opens_tag_unless : Option Malformed → List ℕ → Bool
opens_tag_unless None bytes = is_non_posted (class_of_kind (packet_of bytes).kind)
opens_tag_unless (Some cause) bytes = false

abbrev pub opens_tag : List ℕ → Bool
opens_tag bytes = opens_tag_unless (malformed bytes) bytes

abbrev pub is_completion_unless : Option Malformed → List ℕ → Bool
is_completion_unless None bytes = is_completion (packet_of bytes).kind
is_completion_unless (Some cause) bytes = false

-- are the bytes a well-formed completion?
abbrev pub completes : List ℕ → Bool
completes bytes = is_completion_unless (malformed bytes) bytes

-- the open Tags with one more, if one is opened
abbrev pub and_opened : List OpenTag → Option OpenTag → List OpenTag
and_opened tags None = tags
and_opened tags (Some opened) = and_open tags opened

-- the open Tags after a function submitted these bytes
abbrev pub opened : List OpenTag → ℕ → List ℕ → List OpenTag
opened tags function bytes =
    if opens_tag bytes
    then and_open tags (record { owner = Function function; tag = (packet_of bytes).tag; usage = Raw })
    else tags
