-- How the entries of a journal are written: the words of each line, with one blank between them.
use Rattle.std.specs.Prelude.{ℕ, ◌/◌, ◌%◌, ◌++◌, ◌==◌, false, List, length, codes, Option, Some, None, if◌then◌else◌}
use Rattle.std.specs.Fmt.{decimal, digits}
use Rattle.hex.specs.Hex.{encode_lower}
use Rattle.fab_types.specs.Texts.{byte_text, id_text}
use Rattle.fab_types.specs.declared.head.Answerer.{Answerer}
use Rattle.fab_types.specs.declared.head.Answerer.TheVariants as by
use Rattle.fab_types.specs.declared.head.Parties.{Parties}
use Rattle.fab_types.specs.declared.head.Parties.TheVariants.{Upward, Downward, Answer}
use Rattle.fab_types.specs.declared.host_access.HostAccess.{HostAccess}
use Rattle.fab_types.specs.declared.host_access.Operation.{Operation}
use Rattle.fab_types.specs.declared.host_access.Operation.TheVariants.{Read, Write}
use Rattle.fab_types.specs.declared.origin.Origin.{Origin}
use Rattle.fab_types.specs.declared.origin.Origin.TheVariants as origin
use Rattle.fab_types.specs.declared.place.Direction.{Direction}
use Rattle.fab_types.specs.declared.place.Place.{Place}
use Rattle.fab_types.specs.declared.place.Place.TheVariants.{Outbox, Egress, Wire, Ingress}
use Rattle.fab_types.specs.declared.place.Way.{Way}
use Rattle.fab_types.specs.declared.place.Way.TheVariants.{Up, Down}
use Rattle.domain.specs.declared.entry.Entry.{Entry}
use Rattle.domain.specs.declared.entry.Entry.TheVariants as entry

-- ---- bytes

-- lower-case hexadecimal, or `-` for none
abbrev pub bytes_text : List ℕ → List ℕ
bytes_text bytes = if length bytes == 0 then codes "-" else encode_lower bytes

-- a place in a page of 4,096 bytes, in three hexadecimal digits
abbrev pub offset_text : ℕ → List ℕ
offset_text n = digits 16 false (n / 256) ++ byte_text (n % 256)

-- ---- who and where

-- a function, or the host of a domain
abbrev pub origin_text : Origin → List ℕ
origin_text (origin.Function function) = id_text function
origin_text (origin.Host domain) = codes "host" ++ decimal domain

abbrev pub way_text : Way → List ℕ
way_text Up = codes "up"
way_text Down = codes "down"

abbrev pub direction_text : Direction → List ℕ
direction_text d = id_text d.lower ++ (codes " " ++ way_text d.way)

-- three words: what it is, whose, and which way
abbrev pub place_text : Place → List ℕ
place_text (Outbox origin) = codes "outbox " ++ (origin_text origin ++ codes " -")
place_text (Egress direction) = codes "egress " ++ direction_text direction
place_text (Wire direction) = codes "wire " ++ direction_text direction
place_text (Ingress direction) = codes "ingress " ++ direction_text direction

abbrev pub answerer_text : Answerer → List ℕ
answerer_text by.Port = codes "port"
answerer_text by.Host = codes "host"
answerer_text (by.Function function) = id_text function

abbrev pub addressee_text : Option Origin → List ℕ
addressee_text None = codes "-"
addressee_text (Some origin) = origin_text origin

-- three words: from a function, to one, or by who answered for whom
abbrev pub parties_text : Parties → List ℕ
parties_text (Upward function) = codes "from " ++ (id_text function ++ codes " -")
parties_text (Downward function) = codes "to " ++ (id_text function ++ codes " -")
parties_text (Answer answerer addressee) = codes "by " ++ (answerer_text answerer ++ (codes " " ++ addressee_text addressee))

-- ---- entries

-- an access, as a script has it
abbrev pub access_text : HostAccess → Operation → List ℕ
access_text access (Read count) = codes "read " ++ (id_text access.function ++ (codes " " ++ (offset_text access.offset ++ (codes " " ++ decimal count))))
access_text access (Write bytes) = codes "write " ++ (id_text access.function ++ (codes " " ++ (offset_text access.offset ++ (codes " " ++ bytes_text bytes))))

-- an entry of the journal of the domain of this number; begins are written as in a script
abbrev pub entry_text : ℕ → Entry → List ℕ
entry_text domain (entry.Submit function bytes) = codes "submit " ++ (id_text function ++ (codes " " ++ bytes_text bytes))
entry_text domain (entry.Tick function) = codes "tick " ++ id_text function
entry_text domain (entry.Mmio access) = codes "mmio " ++ (decimal domain ++ (codes " " ++ access_text access access.operation))
entry_text domain (entry.Refuse number) = codes "refuse " ++ decimal number
entry_text domain (entry.Carry number) = codes "carry " ++ decimal number
entry_text domain (entry.Deliver number) = codes "deliver " ++ decimal number
entry_text domain (entry.Alien place sender bytes) = codes "alien " ++ (place_text place ++ (codes " " ++ (parties_text sender ++ (codes " " ++ bytes_text bytes))))

-- and its line
abbrev pub entry_line : ℕ → Entry → List ℕ
entry_line domain entry = entry_text domain entry ++ codes "\n"
