-- Which domain gets the entry of a packet that its home has no case for at the host (PCIe 4.0, 2.2.6.2 and 10.2.1). Only
-- layouts in which a port lacks one of the five controls have such packets. Whose a frame of memory is comes from outside.
use Rattle.std.specs.Prelude.{ℕ, ◌/◌, ◌==◌, Bool, true, false, ◌&&◌, not, List, Option, Some, None, if◌then◌else◌}
use Rattle.fab_types.specs.declared.class.Class.{Class}
use Rattle.fab_types.specs.declared.class.Class.TheVariants as class
use Rattle.fab_types.specs.declared.cost.Cost.{Cost}
use Rattle.fab_types.specs.declared.head.AddressType.{AddressType}
use Rattle.fab_types.specs.declared.head.AddressType.TheVariants.{Untranslated, TranslationRequest, Translated, Reserved}
use Rattle.fab_types.specs.declared.head.Header.{Header}
use Rattle.fab_types.specs.declared.head.Header.TheVariants.{Malformed, Memory, OtherRequest, Completion}
use Rattle.frame_log.specs.Descriptor.{Descriptor}
use Rattle.platform.specs.declared.parts.DownstreamPort.{DownstreamPort}
use Rattle.platform.specs.Owners.{owner_of}

abbrev pub is_non_posted : Class → Bool
is_non_posted class.Posted = false
is_non_posted class.NonPosted = true
is_non_posted class.Completion = false

-- of the requests with an address a FetchAdd alone is non-posted and has data
abbrev pub is_addition : Cost → Bool
is_addition cost = is_non_posted cost.class && not (cost.data == 0)

-- a memory request: the owner of its Requester ID, or of the frame of memory whose number is its page. A FetchAdd of a
-- frame by its number is nobody's
abbrev pub addressed_to : List DownstreamPort → (ℕ → Option ℕ) → Cost → ℕ → AddressType → ℕ → Option ℕ
addressed_to ports owner_of_frame cost requester Untranslated address = owner_of ports requester
addressed_to ports owner_of_frame cost requester TranslationRequest address = None
addressed_to ports owner_of_frame cost requester Translated address = if is_addition cost then None else owner_of_frame (address / 4096)
addressed_to ports owner_of_frame cost requester Reserved address = None

-- a completion: the domain whose host it is for
abbrev pub receiver_by : List DownstreamPort → (ℕ → Option ℕ) → Cost → Header → Option ℕ
receiver_by ports owner_of_frame cost Malformed = None
receiver_by ports owner_of_frame cost (Memory requester address_type address) = addressed_to ports owner_of_frame cost requester address_type address
receiver_by ports owner_of_frame cost (OtherRequest requester) = None
receiver_by ports owner_of_frame cost (Completion target relaxed_ordering) = owner_of ports target

abbrev pub or_home : ℕ → Option ℕ → ℕ
or_home home None = home
or_home home (Some receiver) = receiver

-- such a one, or else its home
abbrev pub receiver_at_host : List DownstreamPort → (ℕ → Option ℕ) → Descriptor → ℕ
receiver_at_host ports owner_of_frame frame = or_home frame.domain (receiver_by ports owner_of_frame frame.head.cost frame.head.header)
