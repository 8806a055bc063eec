-- What an entry of one domain, or a packet of it that moves, leaves of the others.
use Rattle.std.proofs.Common.{◌≡◌, ◌≢◌, ℕ, ◌==◌, Bool, true, false, List, Option, Some, None, inl, inr, refl, sym, ap, ◌∙◌, subst, eqb-true, eq-eqb}
use Rattle.std.specs.Prelude.{option_map, slice_get, slice_set}
use Rattle.std.proofs.lemmas.Bool.{false≢true}
use Rattle.fab_types.specs.declared.origin.Origin.{Origin}
use Rattle.frame_log.specs.Descriptor.{Descriptor}
use Rattle.domain.specs.declared.entry.Entry.{Entry}
use Rattle.domain.specs.Domains.{DomainView}
use Rattle.domain.specs.Machine.{change}
use Rattle.domain_state.specs.State.{Change}
use Rattle.domains.specs.Agents.{AgentsView, Outbox, emitted, joined, taken_from, waiting_of}
use Rattle.link.specs.Channels.{Channel}
use Rattle.lane.specs.Lanes.{Class, eligible}
use Rattle.domains.specs.Domains.{Made, after, domain_at, place_of}
use Rattle.fabric_core.specs.Isolation.{EntersOnce, HasEntered, OwnOnLink, Part, domain_of, is_number, part}
use Rattle.fabric_core.specs.World.{World}
use Rattle.fabric_core.proofs.apart.Owning.{IsOther, boxes_joined, boxes_left, own_boxes, own_links}
use Rattle.fabric_core.proofs.invariant.Settling.{MadeBy, not_here, other_stays, place_same, replaced}
use Rattle.fabric_core.proofs.soundness.SoundDomains.{sent_is}

-- ---- the domains

abbrev pub numbered : List DomainView → ℕ → Option DomainView
numbered ds d = domain_at ds (place_of ds d)

pub enters_none : (d : Option DomainView) → EntersOnce d d
enters_none None = tt
enters_none (Some d) = inl refl

module _ (ds : List DomainView) (place : ℕ) (d : DomainView) (entry : Entry) (c : Change) (at : slice_get ds place ≡ Some d) (legal : change d.share d.state entry ≡ Some c) where
  abbrev now : List DomainView
  now = slice_set ds place (after d entry c)

  has_entered : HasEntered d (after d entry c)
  has_entered = record { share = refl; entry = entry; journal = refl; state = ap (option_map (λ (x : Change). x.state)) legal }

  others_at : (number : ℕ) (o : Option ℕ) → number ≢ d.share.domain → place_of ds number ≡ o → domain_at now o ≡ domain_at ds o
  others_at number None other is = refl
  others_at number (Some q) other is = other_stays ds place q (after d entry c) (not_here ds place d entry c at number q other is)

  other_domain : (number : ℕ) → (d.share.domain == number) ≡ false → number ≢ d.share.domain
  other_domain number other = λ e. false≢true (sym other ∙ eq-eqb d.share.domain number (sym e))

  pub others_stay : (number : ℕ) → (d.share.domain == number) ≡ false → numbered now number ≡ numbered ds number
  others_stay number other = ap (domain_at now) (place_same ds place d entry c at number) ∙ others_at number (place_of ds number) (other_domain number other) refl

  enters_by : (q : ℕ) (here : Bool) → (q == place) ≡ here → EntersOnce (slice_get ds q) (slice_get now q)
  enters_by q true e =
      subst (λ (p : ℕ). EntersOnce (slice_get ds p) (slice_get now p)) (sym (eqb-true q place e))
      (subst (λ (o : Option DomainView). EntersOnce o (slice_get now place)) (sym at)
      (subst (λ (o : Option DomainView). EntersOnce (Some d) o) (sym (replaced ds place d (after d entry c) at)) (inr has_entered)))
  enters_by q false e =
      subst (λ (o : Option DomainView). EntersOnce (slice_get ds q) o) (sym (other_stays ds place q (after d entry c) (λ same. false≢true (sym e ∙ eq-eqb q place same)))) (enters_none (slice_get ds q))

  enters_at : (o : Option ℕ) → EntersOnce (domain_at ds o) (domain_at now o)
  enters_at None = tt
  enters_at (Some q) = enters_by q (q == place) refl

  pub enters : (number : ℕ) → EntersOnce (numbered ds number) (numbered now number)
  enters number = subst (λ (o : Option ℕ). EntersOnce (numbered ds number) (domain_at now o)) (sym (place_same ds place d entry c at number)) (enters_at (place_of ds number))

-- ---- the agents

-- of each domain but the home all stays, and each has at most one entry
pub record AgentsSpares (old : AgentsView) (home : Option ℕ) (new : AgentsView) : Type 0 where
  pub domains : (d : ℕ) → is_number d home ≡ false → numbered new.domains d ≡ numbered old.domains d
  pub boxes : (d : ℕ) → is_number d home ≡ false → own_boxes d new.outboxes ≡ own_boxes d old.outboxes
  pub own : (d : ℕ) → EntersOnce (numbered old.domains d) (numbered new.domains d)

pub agents_same : (agents : AgentsView) (home : Option ℕ) → AgentsSpares agents home agents
agents_same agents home = record { domains = λ d other. refl; boxes = λ d other. refl; own = λ d. enters_none (numbered agents.domains d) }

-- a packet of the home leaves an outbox
pub agents_left : (agents : AgentsView) (origin : Origin) (class : Class) (frame : Descriptor) (left : List Descriptor) → eligible class (waiting_of agents.outboxes origin) ≡ Some (frame, left) → AgentsSpares agents (Some frame.domain) (taken_from agents origin left)
agents_left agents origin class frame left e = record {
  domains = λ d other. refl;
  boxes = λ d other. boxes_left d agents.outboxes origin class frame left e other;
  own = λ d. enters_none (numbered agents.domains d);
}

module _ (agents : AgentsView) (entry : Entry) (place : Option ℕ) (m : Made) (b : MadeBy agents.domains entry place m) where
  -- what the home emitted is its own
  pub sent_home : (frame : Descriptor) → m.sent ≡ Some frame → b.d.share.domain ≡ frame.domain
  sent_home frame e = ap (λ (x : Descriptor). x.domain) (sent_is agents.domains entry place m b frame e).2

  pub sent_other : (d : ℕ) → (b.d.share.domain == d) ≡ false → (frame : Descriptor) → m.sent ≡ Some frame → IsOther d frame
  sent_other d other frame e = ap (λ (n : ℕ). n == d) (sym (sent_home frame e)) ∙ other

  -- the home had an entry
  agents_made : (boxes : List Outbox) → ((d : ℕ) → (b.d.share.domain == d) ≡ false → own_boxes d boxes ≡ own_boxes d agents.outboxes) → AgentsSpares agents (Some b.d.share.domain) (record { domains = m.domains; outboxes = boxes })
  agents_made boxes same =
      subst (λ (x : Made). AgentsSpares agents (Some b.d.share.domain) (record { domains = x.domains; outboxes = boxes })) b.is (record {
        domains = λ d other. others_stay agents.domains b.number b.d entry b.c b.at b.legal d other;
        boxes = same;
        own = λ d. enters agents.domains b.number b.d entry b.c b.at b.legal d;
      })

  pub agents_silent : AgentsSpares agents (Some b.d.share.domain) (record { domains = m.domains; outboxes = agents.outboxes })
  agents_silent = agents_made agents.outboxes (λ d other. refl)

  pub agents_emitted : (origin : Origin) → AgentsSpares agents (Some b.d.share.domain) (emitted agents origin m)
  agents_emitted origin = agents_made (joined agents.outboxes origin m.sent) (λ d other. boxes_joined d agents.outboxes origin m.sent (sent_other d other))

-- ---- all of it

abbrev pub LinksSpare : List (List Channel) → Option ℕ → List (List Channel) → Type 0
LinksSpare old home new = (d : ℕ) → is_number d home ≡ false → own_links d new ≡ own_links d old

pub record Spares (old : World) (home : Option ℕ) (new : World) : Type 0 where
  pub foreign : (d : ℕ) → is_number d home ≡ false → part d new ≡ part d old
  pub own : (d : ℕ) → EntersOnce (domain_of old d) (domain_of new d)

pub same_part : (domain domain' : Option DomainView) (boxes boxes' : List (List Descriptor)) (links links' : List (List OwnOnLink)) → domain' ≡ domain → boxes' ≡ boxes → links' ≡ links
    → ◌≡◌ {A = Part} (record { domain = domain'; outboxes = boxes'; links = links' }) (record { domain = domain; outboxes = boxes; links = links })
same_part domain domain' boxes boxes' links links' a b c = cc

pub spares : (old new : World) (home : Option ℕ) → LinksSpare old.channels home new.channels → AgentsSpares old.agents home new.agents → Spares old home new
spares old new home links agents = record {
  foreign = λ d other. same_part (domain_of old d) (domain_of new d) (own_boxes d old.agents.outboxes) (own_boxes d new.agents.outboxes) (own_links d old.channels) (own_links d new.channels) (agents.domains d other) (agents.boxes d other) (links d other);
  own = agents.own;
}
