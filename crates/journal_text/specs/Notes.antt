-- What a journal's text tells beside its entries: which packets they made, and which are in flight at its end.
use Rattle.std.specs.Prelude.{ℕ, ◌++◌, false, List, [], ◌∷◌, codes, Option, Some, None}
use Rattle.std.specs.Fmt.{decimal, digits}
use Rattle.std.specs.List.{flat_map}
use Rattle.fab_types.specs.Faults.{malformed_name}
use Rattle.fab_types.specs.Texts.{byte_text, id_text}
use Rattle.fab_types.specs.declared.faults.malformed.Malformed.{Malformed}
use Rattle.fab_types.specs.declared.status.Status.{Status}
use Rattle.tlp_view.specs.Bytes.{packet_of}
use Rattle.tlp_view.specs.Malformed.{malformed}
use Rattle.tlp_view.specs.Packet.{Packet, address_in, status_in}
use Rattle.tlp_view.specs.declared.kind.Kind.{Kind}
use Rattle.tlp_view.specs.declared.kind.Kind.TheVariants.{MRd, MRdLk, MWr, IORd, IOWr, CfgRd0, CfgWr0, CfgRd1, CfgWr1, Msg, MsgD, Cpl, CplD, CplLk, CplDLk, FetchAdd, Swap, CAS}
use Rattle.reports.specs.Report.{status_name}

-- ---- packets

abbrev pub kind_name : Kind → List ℕ
kind_name MRd = codes "MRd"
kind_name MRdLk = codes "MRdLk"
kind_name MWr = codes "MWr"
kind_name IORd = codes "IORd"
kind_name IOWr = codes "IOWr"
kind_name CfgRd0 = codes "CfgRd0"
kind_name CfgWr0 = codes "CfgWr0"
kind_name CfgRd1 = codes "CfgRd1"
kind_name CfgWr1 = codes "CfgWr1"
kind_name Msg = codes "Msg"
kind_name MsgD = codes "MsgD"
kind_name Cpl = codes "Cpl"
kind_name CplD = codes "CplD"
kind_name CplLk = codes "CplLk"
kind_name CplDLk = codes "CplDLk"
kind_name FetchAdd = codes "FetchAdd"
kind_name Swap = codes "Swap"
kind_name CAS = codes "CAS"

-- where it goes, of a memory read or write, or how it ends, of a completion
abbrev pub end_text : Option ℕ → Option Status → List ℕ
end_text (Some address) status = codes " address " ++ digits 16 false address
end_text None (Some status) = codes " status " ++ status_name status
end_text None None = []

-- a packet's kind, its requester and its Tag
abbrev pub packet_head : Packet → List ℕ
packet_head p = kind_name p.kind ++ (codes " requester " ++ (id_text p.requester ++ (codes " tag " ++ byte_text p.tag)))

abbrev pub packet_text : Packet → List ℕ
packet_text p = packet_head p ++ end_text (address_in p.body) (status_in p.body)

-- what bytes are: this packet, or none for this cause
abbrev pub bytes_are : Option Malformed → Packet → List ℕ
bytes_are None packet = packet_text packet
bytes_are (Some cause) packet = codes "malformed " ++ malformed_name cause

abbrev pub note_head : ℕ → List ℕ
note_head number = codes "# packet " ++ (decimal number ++ codes ": ")

-- the comment on the packet of this number, which has these bytes
abbrev pub note_text : ℕ → List ℕ → List ℕ
note_text number bytes = note_head number ++ bytes_are (malformed bytes) (packet_of bytes)

abbrev pub note_line : ℕ → List ℕ → List ℕ
note_line number bytes = note_text number bytes ++ codes "\n"

-- ---- what is in flight

abbrev pub number_word : ℕ → List ℕ
number_word number = codes " " ++ decimal number

abbrev pub in_flight_text : List ℕ → List ℕ
in_flight_text numbers = codes "in flight" ++ flat_map number_word numbers

-- the line of the numbers that are in flight, if any are
abbrev pub in_flight_line : List ℕ → List ℕ
in_flight_line [] = []
in_flight_line (first ∷ more) = in_flight_text (first ∷ more) ++ codes "\n"
