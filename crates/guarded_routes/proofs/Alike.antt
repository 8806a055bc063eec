-- A port tests of a packet's header what the machine of its sender's domain tests of the packet.
use Rattle.std.proofs.Common.{◌≡◌, Bool, true, false, ◌&&◌, not, refl}
use Rattle.fab_types.specs.Controls.{blocks_translated}
use Rattle.fab_types.specs.declared.head.AddressType.{AddressType}
use Rattle.fab_types.specs.declared.head.AddressType.TheVariants.{Untranslated, TranslationRequest, Translated, Reserved}
use Rattle.fab_types.specs.declared.head.Parties.{Parties}
use Rattle.platform.specs.declared.parts.DownstreamPort.{DownstreamPort}
use Rattle.tlp_view.specs.Kinds.{is_completion, has_address}
use Rattle.tlp_view.specs.Packet.{Packet}
use Rattle.acs.specs.Vetting as ports
use Rattle.request_handling.specs.Fates as fates
use Rattle.request_handling.specs.Heads.{packet_header}

pub claims : (at : AddressType) → ports.is_translated at ≡ not (fates.is_untranslated at)
claims Untranslated = refl
claims TranslationRequest = refl
claims Translated = refl
claims Reserved = refl

pub same_source : (port : DownstreamPort) (parties : Parties) (t : Packet) → is_completion t.kind ≡ false → ports.fails_source port (packet_header parties t) ≡ fates.fails_source port t
same_source port parties t request = go (has_address t.kind) refl
  where
    go : (mem : Bool) → has_address t.kind ≡ mem → ports.fails_source port (packet_header parties t) ≡ fates.fails_source port t
    go true e = rw (request, e) refl
    go false e = rw (request, e) refl

memory_alike : (b c d : Bool) → c ≡ not d → (b && c) ≡ (b && true && not d)
memory_alike true c d e = e
memory_alike false c d e = refl

other_alike : (b d : Bool) → (b && false) ≡ (b && false && not d)
other_alike true d = refl
other_alike false d = refl

pub same_translation : (port : DownstreamPort) (parties : Parties) (t : Packet) → is_completion t.kind ≡ false → ports.fails_translation port (packet_header parties t) ≡ fates.fails_translation port t
same_translation port parties t request = go (has_address t.kind) refl
  where
    go : (mem : Bool) → has_address t.kind ≡ mem → ports.fails_translation port (packet_header parties t) ≡ fates.fails_translation port t
    go true e = rw (request, e) (memory_alike (blocks_translated port.controls) (ports.is_translated t.address_type) (fates.is_untranslated t.address_type) (claims t.address_type))
    go false e = rw (request, e) (other_alike (blocks_translated port.controls) (fates.is_untranslated t.address_type))
