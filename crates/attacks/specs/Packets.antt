-- The requests of attacks (PCIe 4.0, 2.2.7).
use Rattle.std.specs.Prelude.{ℕ, ◌+◌, ◌*◌, ◌%◌, false, List, [], ◌∷◌, Option, Some, None, if◌then◌else◌}
use Rattle.fab_types.specs.declared.head.AddressType.{AddressType}
use Rattle.fab_types.specs.declared.head.AddressType.TheVariants.{Translated, Untranslated}
use Rattle.tlp_view.specs.declared.request.RequestHead.{RequestHead}
use Rattle.tlp_view.specs.Packet.{Packet}
use Rattle.tlp_view.specs.Requests.{packet_bytes, read_request, write_request}
use Rattle.attacks.specs.declared.attack.Attack.{Attack}
use Rattle.attacks.specs.declared.attack.Harm.{Harm}
use Rattle.attacks.specs.declared.attack.Harm.TheVariants.{FrameWritten, FrameRead, RegistersWritten, RegistersRead, TagClosed, Completion, Counts, AnswersFrame, AnswersRegisters}
use Rattle.attacks.specs.declared.attack.Access.{Access}
use Rattle.attacks.specs.declared.attack.Access.TheVariants.{Read, Write}
use Rattle.attacks.specs.declared.own_read.OwnRead.{OwnRead}

-- what a write writes
abbrev pub payload : List ℕ
payload = 222 ∷ 173 ∷ 190 ∷ 239 ∷ []

abbrev pub start_of : ℕ → ℕ
start_of page = page % 4503599627370496 * 4096

-- where a page begins, and of a register page its buffer
abbrev pub address_of : ℕ → Harm → ℕ
address_of page (RegistersWritten peer) = start_of page + 1024
address_of page (RegistersRead peer) = start_of page + 1024
address_of page (FrameWritten frame) = start_of page
address_of page (FrameRead frame) = start_of page
address_of page (TagClosed read) = start_of page
address_of page Completion = start_of page
address_of page Counts = start_of page
address_of page (AnswersFrame frame) = start_of page
address_of page (AnswersRegisters peer) = start_of page + 1024

-- all bytes of one DW, with Tag 0
abbrev pub head_at : ℕ → ℕ → AddressType → RequestHead
head_at requester address address_type = record {
  requester = requester;
  tag = 0;
  enables = record { first = 15; last = 0 };
  address = address;
  address_type = address_type;
  attributes = record { id_based_ordering = false; relaxed_ordering = false; no_snoop = false };
}

abbrev pub head_of : Attack → RequestHead
head_of attack = head_at attack.requester (address_of attack.page attack.harm) (if attack.is_translated then Translated else Untranslated)

abbrev pub request_of : Access → RequestHead → Packet
request_of Read head = read_request head 1
request_of Write head = write_request head payload

abbrev pub packet_of : Attack → Packet
packet_of attack = request_of attack.access (head_of attack)

-- the read of the harmed domain's own that is closed, if that is the harm
abbrev pub own_read : Harm → Option OwnRead
own_read (TagClosed read) = Some read
own_read harm = None

abbrev pub own_packet : OwnRead → Packet
own_packet read = read_request (head_at read.function (start_of read.page) Untranslated) 1

abbrev pub own_bytes : OwnRead → List ℕ
own_bytes read = packet_bytes (own_packet read)
