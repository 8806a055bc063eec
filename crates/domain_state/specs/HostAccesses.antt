-- A request of the domain's own host for the register page of a function (PCIe 4.0, 2.2.5 and 2.2.6.2).
use Rattle.std.specs.Prelude.{ℕ, ◌+◌, ◌*◌, ◌/◌, ◌%◌, ◌==◌, nat_le, Bool, false, ◌&&◌, not, List, length, Option, Some, None, if◌then◌else◌}
use Rattle.std.specs.List.{find, range_with_len}
use Rattle.std.specs.Option.{is_none}
use Rattle.fab_types.specs.Id.{host_of}
use Rattle.fab_types.specs.declared.faults.begin.MmioFault.{MmioFault}
use Rattle.fab_types.specs.declared.faults.begin.MmioFault.TheVariants.{NotYours, Range, NoTag, BudgetSpent}
use Rattle.fab_types.specs.declared.head.AddressType.TheVariants.{Untranslated}
use Rattle.fab_types.specs.declared.head.Parties.TheVariants.{Downward}
use Rattle.fab_types.specs.declared.origin.Origin.TheVariants.{Host}
use Rattle.function.specs.declared.tags.OpenTag.{OpenTag}
use Rattle.function.specs.declared.tags.TagUse.TheVariants.{Raw}
use Rattle.platform.specs.Owners.{bar_of, is_own_function}
use Rattle.platform.specs.Share.{Share}
use Rattle.tlp_view.specs.declared.request.RequestHead.{RequestHead}
use Rattle.tlp_view.specs.Packet.{Packet}
use Rattle.tlp_view.specs.Requests.{all_enabled, packet_bytes, read_request, write_request}
use Rattle.fab_types.specs.declared.host_access.HostAccess.{HostAccess}
use Rattle.fab_types.specs.declared.host_access.Operation.{Operation}
use Rattle.fab_types.specs.declared.host_access.Operation.TheVariants.{Read, Write}
use Rattle.request_handling.specs.Answers.{page_at}
use Rattle.request_handling.specs.Emissions.{Emission}
use Rattle.domain_state.specs.State.{Alone, Change, begun, emits}
use Rattle.domain_state.specs.Tags.{is_open}

-- how many bytes it reads or writes
abbrev pub size_of : Operation → ℕ
size_of (Read count) = 4 * count
size_of (Write bytes) = length bytes

-- 1 to 64 whole DW, which lie in the page
abbrev pub is_in_page : ℕ → ℕ → Bool
is_in_page offset size = (offset % 4 == 0) && (size % 4 == 0) && nat_le 4 size && nat_le size 256 && nat_le (offset + size) 4096

-- the 32 Tags of a host
abbrev pub host_tags : List ℕ
host_tags = range_with_len 0 32

-- the lowest of them that isn't open
unfoldable pub free_host_tag : List OpenTag → ℕ → Option ℕ
free_host_tag tags domain = find (λ tag. not (is_open tags (Host domain) tag)) host_tags

-- a read takes the lowest free Tag, if there is one; a write has Tag 0
abbrev pub tag_for : List OpenTag → ℕ → Operation → Option ℕ
tag_for tags domain (Read count) = free_host_tag tags domain
tag_for tags domain (Write bytes) = Some 0

-- the first refusal that applies, if one does
abbrev pub mmio_fault : Share → Alone → HostAccess → Option MmioFault
mmio_fault share s access =
    if not (is_own_function share access.function) then Some NotYours
    else (if not (is_in_page access.offset (size_of access.operation)) then Some Range
    else (if is_none (tag_for s.open_tags share.domain access.operation) then Some NoTag
    else (if nat_le share.budget s.counts.begins then Some BudgetSpent
    else None)))

-- the header of the request, in which all bytes are enabled
abbrev pub head_for : ℕ → ℕ → ℕ → ℕ → RequestHead
head_for domain tag count address = record {
  requester = host_of domain;
  tag = tag;
  enables = all_enabled count;
  address = address;
  address_type = Untranslated;
  attributes = record { id_based_ordering = false; relaxed_ordering = false; no_snoop = false };
}

abbrev pub host_request : ℕ → ℕ → ℕ → Operation → Packet
host_request domain tag address (Read count) = read_request (head_for domain tag count address) count
host_request domain tag address (Write bytes) = write_request (head_for domain tag (length bytes / 4) address) bytes

-- a read waits for its completion
abbrev pub opened_for : ℕ → ℕ → Operation → Option OpenTag
opened_for domain tag (Read count) = Some (record { owner = Host domain; tag = tag; usage = Raw })
opened_for domain tag (Write bytes) = None

-- the request goes to the function's page, which begins at its BAR
abbrev pub host_emission : ℕ → ℕ → ℕ → HostAccess → Emission
host_emission domain tag bar access = record {
  parties = Downward access.function;
  bytes = packet_bytes (host_request domain tag (page_at bar + access.offset) access.operation);
}

abbrev pub mmio_with : Share → Alone → HostAccess → Option ℕ → Option ℕ → Option Change
mmio_with share s access None bar = None
mmio_with share s access (Some tag) None = None
mmio_with share s access (Some tag) (Some bar) = Some (emits (begun s (opened_for share.domain tag access.operation)) (host_emission share.domain tag bar access))

abbrev pub mmio_unless : Option MmioFault → Share → Alone → HostAccess → Option Change
mmio_unless None share s access = mmio_with share s access (tag_for s.open_tags share.domain access.operation) (bar_of share.functions access.function)
mmio_unless (Some fault) share s access = None

abbrev pub mmio : Share → Alone → HostAccess → Option Change
mmio share s access = mmio_unless (mmio_fault share s access) share s access
