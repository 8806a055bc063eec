-- What answers a packet that a port has no case for is a completion.
use Rattle.std.proofs.Common.{◌≡◌, ℕ, true, List, Option, Some, None, refl}
use Rattle.std.specs.Prelude.{option_map, slice_get}
use Rattle.std.specs.Option.{IfSome}
use Rattle.fab_types.specs.declared.class.Class.TheVariants.{Completion}
use Rattle.fab_types.specs.declared.head.Parties.{Parties}
use Rattle.fab_types.specs.declared.place.Place.{Place}
use Rattle.frame_log.specs.Descriptor.{Descriptor}
use Rattle.domain.specs.declared.entry.Entry.TheVariants.{Alien}
use Rattle.domain.specs.Domains.{DomainView}
use Rattle.request_handling.specs.Heads.{descriptor_of}
use Rattle.domain.specs.Machine.{change}
use Rattle.request_handling.specs.Emissions.{Emission}
use Rattle.domain_state.specs.State.{Change}
use Rattle.request_handling.specs.Takers.{is_at_port}
use Rattle.domain.proofs.PortAnswers.{IsReply, port_replies}
use Rattle.domains.specs.Aliens.{aliened, aliened_by, flown}
use Rattle.domains.specs.Domains.{domain_at, made_at, made_by, made_of, place_of}
use Rattle.lane.specs.Lanes.{class_of}
use Rattle.fabric_core.specs.Misrouting.{is_at_port_in, is_at_port_of}
use Rattle.fabric_core.specs.Settling.{AnswersByCompletion}

sent_class : (domain n : ℕ) (o : Option Emission) → IsReply o → IfSome (option_map (descriptor_of domain n) o) (λ answer. class_of answer ≡ Completion)
sent_class domain n None is = tt
sent_class domain n (Some e) is = is

by_change : (domains : List DomainView) (i : ℕ) (d : DomainView) (place : Place) (sender : Parties) (bytes : List ℕ) (o : Option Change) → change d.share d.state (Alien place sender bytes) ≡ o → is_at_port d.share place ≡ true
    → AnswersByCompletion (option_map (made_by domains i (Alien place sender bytes) d) o)
by_change domains i d place sender bytes None e is = tt
by_change domains i d place sender bytes (Some c) e is = sent_class d.share.domain _ c.emission (port_replies d.share d.state place sender bytes c is e)

by_domain : (domains : List DomainView) (i : ℕ) (o : Option DomainView) (place : Place) (sender : Parties) (bytes : List ℕ) → is_at_port_in o place ≡ true → AnswersByCompletion (made_of domains i (Alien place sender bytes) o)
by_domain domains i None place sender bytes is = tt
by_domain domains i (Some d) place sender bytes is = by_change domains i d place sender bytes (change d.share d.state (Alien place sender bytes)) refl is

by_place : (domains : List DomainView) (at : Option ℕ) (place : Place) (sender : Parties) (bytes : List ℕ) → is_at_port_in (domain_at domains at) place ≡ true → AnswersByCompletion (made_at domains (Alien place sender bytes) at)
by_place domains None place sender bytes is = tt
by_place domains (Some i) place sender bytes is = by_domain domains i (slice_get domains i) place sender bytes is

by_flight : (domains : List DomainView) (at : Option ℕ) (place : Place) (sender : Parties) (o : Option Emission) → is_at_port_in (domain_at domains at) place ≡ true → AnswersByCompletion (aliened_by domains at place sender o)
by_flight domains at place sender None is = tt
by_flight domains at place sender (Some e) is = by_place domains at place sender e.bytes is

pub misrouted_answers : (domains : List DomainView) (place : Place) (frame : Descriptor) → is_at_port_of domains frame.domain place ≡ true → AnswersByCompletion (aliened domains frame.domain place frame)
misrouted_answers domains place frame is = by_flight domains (place_of domains frame.domain) place frame.head.parties (flown domains frame.domain frame.number) is
