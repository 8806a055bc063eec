-- What an entry sends: which change of which domain made it, and what that says of the packet that the entry is of.
use Rattle.std.proofs.Common.{◌≡◌, ℕ, true, false, List, length, Option, Some, None, refl, sym, ap, ◌∙◌, subst}
use Rattle.std.specs.Prelude.{option_map, slice_get}
use Rattle.std.proofs.lemmas.Option.{same_Some}
use Rattle.fab_types.specs.declared.class.Class.TheVariants.{NonPosted, Completion}
use Rattle.fab_types.specs.declared.head.Head.{Head}
use Rattle.fab_types.specs.declared.head.Parties.{Parties}
use Rattle.fab_types.specs.declared.place.Place.{Place}
use Rattle.frame_log.specs.Descriptor.{Descriptor}
use Rattle.lane.specs.Lanes.{class_of}
use Rattle.tlp_view.specs.Malformed.{malformed}
use Rattle.domain.specs.declared.entry.Entry.{Entry}
use Rattle.domain.specs.declared.entry.Entry.TheVariants.{Alien}
use Rattle.domain.specs.Domains.{DomainView}
use Rattle.domain.specs.Machine.{change}
use Rattle.domain_state.specs.State.{Change, item_at}
use Rattle.domains.specs.Aliens.{aliened_at, aliened_by, flown_by}
use Rattle.domains.specs.Domains.{Made, domain_at, made_at, place_of}
use Rattle.request_handling.specs.Emissions.{Emission}
use Rattle.request_handling.specs.Heads.{descriptor_of, head_of, header_unless}
use Rattle.fabric_core.specs.MovesLeft.{is_request}
use Rattle.fabric_core.specs.Places.{IsFlown}
use Rattle.fabric_core.proofs.invariant.Settling.{made_from}
use Rattle.fabric_core.proofs.moves.Headers.{completions_are_quiet, non_posted_asks}
use Rattle.fabric_core.proofs.moves.AlienReplies.{Asks, alien_asks}
use Rattle.fabric_core.proofs.moves.Replies.{IsQuiet}

-- a change of the domain at this place sent it
pub record IsSentBy (domains : List DomainView) (entry : Entry) (place : Option ℕ) (answer : Descriptor) : Type 0 where
  pub number : ℕ
  pub d : DomainView
  pub c : Change
  pub at_number : place ≡ Some number
  pub at : slice_get domains number ≡ Some d
  pub legal : change d.share d.state entry ≡ Some c
  pub reply : Emission
  pub emitted : c.emission ≡ Some reply
  pub head : answer.head ≡ head_of reply

emitted_as : (domain number : ℕ) (o : Option Emission) (answer : Descriptor) → option_map (descriptor_of domain number) o ≡ Some answer → (reply : Emission) × (o ≡ Some reply) × (answer.head ≡ head_of reply)
emitted_as domain number None answer e = absurd cc
emitted_as domain number (Some reply) answer e = (reply, refl, ap (λ (x : Descriptor). x.head) (sym (same_Some (descriptor_of domain number reply) answer e)))

pub sent_by : (domains : List DomainView) (entry : Entry) (place : Option ℕ) (m : Made) (answer : Descriptor) → made_at domains entry place ≡ Some m → m.sent ≡ Some answer → IsSentBy domains entry place answer
sent_by domains entry place m answer e sent =
    let b = made_from domains entry place m e in
    let made = emitted_as b.d.share.domain (length b.d.state.flight) b.c.emission answer (ap (λ (x : Made). x.sent) b.is ∙ sent) in
    record { number = b.number; d = b.d; c = b.c; at_number = b.at_number; at = b.at; legal = b.legal; reply = made.0; emitted = made.1; head = made.2 }

module _ (domains : List DomainView) (entry : Entry) (place : Option ℕ) (answer : Descriptor) (s : IsSentBy domains entry place answer) where
  -- it is no request where its change emits none
  pub sent_quiet : IsQuiet s.c.emission → is_request answer.head.header ≡ false
  sent_quiet quiet =
      let one : is_request (head_of s.reply).header ≡ false = subst IsQuiet s.emitted quiet in
      ap (λ (h : Head). is_request h.header) s.head ∙ one

  pub sent_completion : class_of answer ≡ Completion → is_request answer.head.header ≡ false
  sent_completion is =
      ap (λ (h : Head). is_request h.header) s.head
      ∙ completions_are_quiet (malformed s.reply.bytes) s.reply.parties s.reply.bytes (ap (λ (h : Head). h.cost.class) (sym s.head) ∙ is)

-- ---- the packet that it is of

module _ (domains : List DomainView) (frame : Descriptor) (f : IsFlown domains frame) where
  pub shown : is_request frame.head.header ≡ is_request (header_unless (malformed f.emission.bytes) f.emission.parties f.emission.bytes)
  shown = ap (λ (x : Descriptor). is_request x.head.header) f.shown

  pub non_posted_request : class_of frame ≡ NonPosted → is_request frame.head.header ≡ true
  non_posted_request is = shown ∙ non_posted_asks (malformed f.emission.bytes) f.emission.parties f.emission.bytes (ap class_of (sym f.shown) ∙ is)

  -- its home has it in flight
  pub flying : (number : ℕ) (d : DomainView) → place_of domains frame.domain ≡ Some number → slice_get domains number ≡ Some d → item_at d.state.flight frame.number ≡ Some f.emission
  flying number d at_number at = sym (ap (λ (o : Option ℕ). flown_by frame.number (domain_at domains o)) at_number ∙ ap (flown_by frame.number) at) ∙ f.in_flight

  -- the entry of an alien packet
  module _ (place : Place) (at : Option ℕ) where
    pub alien_made : (o : Option Made) → aliened_at domains at place frame ≡ o → made_at domains (Alien place f.emission.parties f.emission.bytes) at ≡ o
    alien_made o e =
        let parties : f.emission.parties ≡ frame.head.parties = ap (λ (x : Descriptor). x.head.parties) (sym f.shown) in
        ap (λ (p : Parties). made_at domains (Alien place p f.emission.bytes) at) parties ∙ (sym (ap (aliened_by domains at place frame.head.parties) f.in_flight) ∙ e)

    pub alien_request : (answer : Descriptor) → IsSentBy domains (Alien place f.emission.parties f.emission.bytes) at answer → is_request frame.head.header ≡ true
    alien_request answer s =
        let asks = alien_asks s.d.share s.d.state place f.emission.parties f.emission.bytes s.c s.legal in
        let one : is_request (header_unless (malformed f.emission.bytes) f.emission.parties f.emission.bytes) ≡ true = subst (Asks f.emission.parties f.emission.bytes) s.emitted asks in
        shown ∙ one
