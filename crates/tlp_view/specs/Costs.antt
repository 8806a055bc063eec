-- The class of a packet, and its flow control credits (PCIe 4.0, 2.4.1 and 2.6.1).
use Rattle.std.specs.Prelude.{ℕ, ◌+◌, ◌/◌, List, length, Option, Some, None}
use Rattle.fab_types.specs.declared.class.Class.TheVariants.{Posted}
use Rattle.fab_types.specs.declared.cost.Cost.{Cost}
use Rattle.fab_types.specs.declared.faults.malformed.Malformed.{Malformed}
use Rattle.tlp_view.specs.Packet.{Packet}
use Rattle.tlp_view.specs.Kinds.{class_of_kind}
use Rattle.tlp_view.specs.Bytes.{packet_of}
use Rattle.tlp_view.specs.Malformed.{malformed}

-- one data credit for each 16 bytes begun
abbrev pub packet_cost : Packet → Cost
packet_cost t = record { class = class_of_kind t.kind; «data» = (length t.payload + 15) / 16 }

-- malformed bytes travel as a posted packet with no data
abbrev pub cost_unless : Option Malformed → List ℕ → Cost
cost_unless None bytes = packet_cost (packet_of bytes)
cost_unless (Some cause) bytes = record { class = Posted; «data» = 0 }

abbrev pub cost_of : List ℕ → Cost
cost_of bytes = cost_unless (malformed bytes) bytes
