-- The tests of a request at a downstream port (PCIe 4.0, 6.12.1.1). That Translation Blocking tests no kinds but memory
-- reads and writes and FetchAdds is this project's own: the standard tests every memory request.
use Rattle.std.specs.Prelude.{ℕ, Bool, true, false, ◌&&◌, not, is_some, Option, Some, None, if◌then◌else◌}
use Rattle.fab_types.specs.Id.{bus_of}
use Rattle.fab_types.specs.Controls.{validates_source, blocks_translated}
use Rattle.fab_types.specs.declared.head.AddressType.{AddressType}
use Rattle.fab_types.specs.declared.head.AddressType.TheVariants.{Untranslated, TranslationRequest, Translated, Reserved}
use Rattle.fab_types.specs.declared.head.Header.{Header}
use Rattle.fab_types.specs.declared.head.Header.TheVariants as header
use Rattle.fab_types.specs.declared.violation.Check.TheVariants.{SourceValidation, TranslationBlocking}
use Rattle.platform.specs.declared.parts.DownstreamPort.{DownstreamPort}
use Rattle.platform.specs.Owners.{holds_bus}
use Rattle.acs.specs.declared.vetting.Verdict.{Verdict}
use Rattle.acs.specs.declared.vetting.Verdict.TheVariants.{Pass, Violation}

-- the Requester ID of a request
abbrev pub requester_of : Header → Option ℕ
requester_of header.Malformed = None
requester_of (header.Memory requester address_type address) = Some requester
requester_of (header.OtherRequest requester) = Some requester
requester_of (header.Completion target relaxed_ordering) = None

abbrev pub is_request : Header → Bool
is_request header = is_some (requester_of header)

-- is its bus not among those below the port?
abbrev pub is_outside : DownstreamPort → Option ℕ → Bool
is_outside port None = false
is_outside port (Some requester) = not (holds_bus port (bus_of requester))

-- any AT field but that of an untranslated address (PCIe 4.0, 10.2.1)
abbrev pub is_translated : AddressType → Bool
is_translated Untranslated = false
is_translated TranslationRequest = true
is_translated Translated = true
is_translated Reserved = true

-- is it a memory read or write or a FetchAdd with such a field?
abbrev pub claims_translation : Header → Bool
claims_translation header.Malformed = false
claims_translation (header.Memory requester address_type address) = is_translated address_type
claims_translation (header.OtherRequest requester) = false
claims_translation (header.Completion target relaxed_ordering) = false

-- ACS Source Validation
abbrev pub fails_source : DownstreamPort → Header → Bool
fails_source port header = validates_source port.controls && is_outside port (requester_of header)

-- ACS Translation Blocking
abbrev pub fails_translation : DownstreamPort → Header → Bool
fails_translation port header = blocks_translated port.controls && claims_translation header

-- the first test that the packet fails
abbrev pub verdict_of : DownstreamPort → Header → Verdict
verdict_of port header =
    if fails_source port header then Violation SourceValidation
    else (if fails_translation port header then Violation TranslationBlocking
    else Pass)
