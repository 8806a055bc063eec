-- Where packets are: each that is in flight stands in exactly one place, with the head that its bytes give.
use Rattle.std.specs.Prelude.{◌≡◌, ℕ, true, List, [], ◌++◌, All, count_by, is_some, slice_get, Some}
use Rattle.std.specs.List.{flat_map, list_all}
use Rattle.fab_types.specs.declared.place.Place.{Place}
use Rattle.frame_log.specs.Descriptor.{Descriptor}
use Rattle.domain.specs.Domains.{DomainView}
use Rattle.request_handling.specs.Heads.{descriptor_of}
use Rattle.domain.specs.Consumed.{AreConsumedOnce, times_waiting}
use Rattle.request_handling.specs.Emissions.{Emission}
use Rattle.domain_state.specs.State.{item_at}
use Rattle.domains.specs.Agents.{Outbox}
use Rattle.link.specs.Channels.{Channel}
use Rattle.port.specs.Turns.{PortView}
pub use Rattle.domains.specs.Aliens.{flown, flown_by}
pub use Rattle.packet_places.specs.Standing.{is_numbered}
pub use Rattle.packet_places.specs.PacketPlaces.{ArePacketPlaces, PacketPlace, is_named, stands_at}
use Rattle.fabric_core.specs.Trails.{standing_at}
use Rattle.fabric_core.specs.World.{World, is_guarded}

-- the packets of a direction, wherever in it they are
abbrev pub frames_on : Channel → List Descriptor
frames_on c = c.egress ++ (c.wire ++ c.ingress)

abbrev pub frames_from : List Channel → List Descriptor
frames_from outputs = flat_map frames_on outputs

abbrev pub waiting_in : Outbox → List Descriptor
waiting_in box = box.waiting

abbrev pub strays_of : PortView → List Descriptor
strays_of port = port.strays

-- all packets of a fabric: on links, in outboxes, and those that nobody has a case for
abbrev pub frames_of : World → List Descriptor
frames_of w = flat_map frames_from w.channels ++ (flat_map waiting_in w.agents.outboxes ++ (flat_map strays_of w.ports ++ w.strays))

-- a packet shows what its bytes, which its home has in flight, say of it
pub record IsFlown (domains : List DomainView) (frame : Descriptor) : Type 0 where
  pub emission : Emission
  pub in_flight : flown domains frame.domain frame.number ≡ Some emission
  pub shown : frame ≡ descriptor_of frame.domain frame.number emission

-- Each packet in flight stands in exactly one place, and no other packet stands anywhere; but for those that were lost as
-- alien packets, which stay in flight at their homes for ever. In a guarded layout none is
pub record ArePlaced (w : World) : Type 0 where
  pub lost : List Descriptor
  pub once : (domain n : ℕ) → count_by (is_numbered domain n) (frames_of w ++ lost) ≡ times_waiting (flown w.agents.domains domain n)
  pub flown : All (IsFlown w.agents.domains) (frames_of w ++ lost)
  pub whole : is_guarded w ≡ true → lost ≡ []

-- Each packet that a domain made is in flight, and stands in exactly one place; or exactly one entry of its journal
-- consumed it, and it stands nowhere
pub record HasPlaces (w : World) (d : DomainView) : Type 0 where
  pub consumed : AreConsumedOnce d.journal d.state
  pub once : (n : ℕ) → count_by (is_numbered d.share.domain n) (frames_of w) ≡ times_waiting (item_at d.state.flight n)

-- so it is of the packets of every domain, and each shows what its bytes say of it
pub record HaveOnePlace (w : World) : Type 0 where
  pub each : (place : ℕ) (d : DomainView) → slice_get w.agents.domains place ≡ Some d → HasPlaces w d
  pub shown : All (IsFlown w.agents.domains) (frames_of w)

-- each packet that is named is in flight at its domain
abbrev pub AreFlown : World → ℕ → List PacketPlace → Type 0
AreFlown w domain named = list_all (λ one. is_some (flown w.agents.domains domain one.0)) named ≡ true

-- In a guarded fabric these are all that the domain has in flight, and each stands at no other place
pub record ArePartition (w : World) (domain : ℕ) (named : List PacketPlace) : Type 0 where
  pub in_flight : (n : ℕ) → is_named named n ≡ is_some (flown w.agents.domains domain n)
  pub alone : (n : ℕ) (one other : Place) → stands_at (standing_at w) domain n one ≡ true → stands_at (standing_at w) domain n other ≡ true → one ≡ other
