-- What an entry of one domain makes of all, and of what is in flight.
use Rattle.std.proofs.Common.{◌≡◌, ◌≢◌, ◌⊎◌, inl, inr, ℕ, zero, suc, ◌==◌, Bool, cond, List, [], ◌∷◌, length, get_or, set, Option, Some, None, refl, sym, ap, ◌∙◌, subst, eqb-true}
use Rattle.std.specs.Prelude.{All, IsSome, nat_lt, option_map, option_to_list, slice_get}
use Rattle.std.specs.List.{position, position_or_len}
use Rattle.std.proofs.lemmas.List.Elements.{All-set}
use Rattle.std.proofs.lemmas.List.Folds.{position_or_len-set}
use Rattle.std.proofs.lemmas.List.Quantifiers.{position-Some}
use Rattle.std.proofs.lemmas.List.{length-set}
use Rattle.std.proofs.lemmas.Option.{get_or_from_slice_get, slice_get_within}
use Rattle.fab_types.specs.declared.origin.Origin.{Origin}
use Rattle.fab_types.specs.declared.origin.Origin.TheVariants.{Function, Host}
use Rattle.frame_log.specs.Descriptor.{Descriptor}
use Rattle.fab_types.specs.Origins.{same_origin}
use Rattle.platform.specs.declared.parts.DownstreamPort.{DownstreamPort}
use Rattle.platform.specs.Owners.{is_own_function}
use Rattle.domain.specs.declared.entry.Entry.{Entry}
use Rattle.domain.specs.Domains.{DomainView}
use Rattle.domain.specs.Machine.{change}
use Rattle.request_handling.specs.Emissions.{Emission}
use Rattle.domain_state.specs.State.{Change, item_at}
use Rattle.domains.specs.Agents.{AgentsView, IsSettled, Outbox, home_of, joined, outbox_place, with_waiting_at, with_waiting_in}
use Rattle.domains.specs.Domains.{Made, after, domain_at, made_at, made_by, made_of, place_of, place_of_function}
use Rattle.fabric_core.specs.Invariant.{HasPorts}
use Rattle.fabric_core.specs.Places.{IsFlown, flown_by}
use Rattle.fabric_core.proofs.invariant.Flying.{Begins, EndsOne}
use Rattle.fabric_core.proofs.invariant.Placing.{HomeChanged, Leaves, Reflown, none_leaves, one_leaves, reflown}

abbrev some : {A : Type 0} → A → Option A
some x = Some x

some_is : {A : Type 0} (x y : A) → some x ≡ some y → x ≡ y
some_is x y e = cc

-- ---- one element of a list is replaced

module _ {X : Type 0} where
  position_same : (p : X → Bool) (xs : List X) (i : ℕ) (y d : X) → p y ≡ p (get_or xs i d) → position p (set xs i y) ≡ position p xs
  position_same p xs i y d e =
      ap (λ (n : ℕ). cond (nat_lt n (length (set xs i y))) (some n) None) (position_or_len-set p xs i y d e)
      ∙ ap (λ (n : ℕ). cond (nat_lt (position_or_len p xs) n) (some (position_or_len p xs)) None) (length-set xs i y)

  pub replaced : (xs : List X) (i : ℕ) (x y : X) → slice_get xs i ≡ Some x → slice_get (set xs i y) i ≡ Some y
  replaced [] i x y e = absurd cc
  replaced (z ∷ xs) zero x y e = refl
  replaced (z ∷ xs) (suc i) x y e = replaced xs i x y e

  pub other_stays : (xs : List X) (i j : ℕ) (y : X) → j ≢ i → slice_get (set xs i y) j ≡ slice_get xs j
  other_stays [] i j y other = refl
  other_stays (z ∷ xs) zero zero y other = absurd (other refl)
  other_stays (z ∷ xs) zero (suc j) y other = refl
  other_stays (z ∷ xs) (suc i) zero y other = refl
  other_stays (z ∷ xs) (suc i) (suc j) y other = other_stays xs i j y (λ e. other (ap suc e))

  pub either_there : (xs : List X) (i j : ℕ) (y x : X) → slice_get (set xs i y) j ≡ Some x → ((j ≡ i) × (x ≡ y)) ⊎ (slice_get xs j ≡ Some x)
  either_there [] i j y x e = inr e
  either_there (z ∷ xs) zero zero y x e = inl (refl, sym (some_is y x e))
  either_there (z ∷ xs) zero (suc j) y x e = inr e
  either_there (z ∷ xs) (suc i) zero y x e = inr e
  either_there (z ∷ xs) (suc i) (suc j) y x e = again (either_there xs i j y x e)
    where
      again : ((j ≡ i) × (x ≡ y)) ⊎ (slice_get xs j ≡ Some x) → ((suc j ≡ suc i) × (x ≡ y)) ⊎ (slice_get xs j ≡ Some x)
      again (inl h) = inl (ap suc h.0, h.1)
      again (inr h) = inr h

-- ---- the domain at a place had an entry

module _ (ds : List DomainView) (place : ℕ) (d : DomainView) (entry : Entry) (c : Change) (at : slice_get ds place ≡ Some d) where
  abbrev now : List DomainView
  now = set ds place (after d entry c)

  was_there : get_or ds place d ≡ d
  was_there = get_or_from_slice_get ds place d d at

  pub place_same : (number : ℕ) → place_of now number ≡ place_of ds number
  unfolding place_of
  place_same number = position_same (λ (x : DomainView). x.share.domain == number) ds place (after d entry c) d (ap (λ (x : DomainView). x.share.domain == number) (sym was_there))

  pub function_same : (function : ℕ) → place_of_function now function ≡ place_of_function ds function
  unfolding place_of_function
  function_same function = position_same (λ (x : DomainView). is_own_function x.share function) ds place (after d entry c) d (ap (λ (x : DomainView). is_own_function x.share function) (sym was_there))

  home_same : (origin : Origin) → home_of now origin ≡ home_of ds origin
  home_same (Function f) = function_same f
  home_same (Host number) = place_same number

  -- another domain stands at another place
  pub not_here : (domain q : ℕ) → domain ≢ d.share.domain → place_of ds domain ≡ Some q → q ≢ place
  unfolding place_of
  not_here domain q other is = λ e.
      let found = position-Some (λ (x : DomainView). x.share.domain == domain) ds q d is in
      let same : get_or ds q d ≡ d = ap (λ (k : ℕ). get_or ds k d) e ∙ was_there in
      other (sym (eqb-true d.share.domain domain (ap (λ (x : DomainView). x.share.domain == domain) (sym same) ∙ found.1)))

  elsewhere_at : (domain n : ℕ) (o : Option ℕ) → domain ≢ d.share.domain → place_of ds domain ≡ o → flown_by n (domain_at now o) ≡ flown_by n (domain_at ds o)
  elsewhere_at domain n None other is = refl
  elsewhere_at domain n (Some q) other is = ap (flown_by n) (other_stays ds place q (after d entry c) (not_here domain q other is))

  pub home_changed : place_of ds d.share.domain ≡ Some place → HomeChanged ds now d.share.domain d.state.flight c.state.flight
  home_changed found = record {
    was = λ n. ap (λ (o : Option ℕ). flown_by n (domain_at ds o)) found ∙ ap (flown_by n) at;
    is = λ n. ap (λ (o : Option ℕ). flown_by n (domain_at now o)) (place_same d.share.domain ∙ found) ∙ ap (flown_by n) (replaced ds place d (after d entry c) at);
    elsewhere = λ domain n other. ap (λ (o : Option ℕ). flown_by n (domain_at now o)) (place_same domain) ∙ elsewhere_at domain n (place_of ds domain) other refl;
  }

  numbered_after : ((q : ℕ) (x : DomainView) → slice_get ds q ≡ Some x → place_of ds x.share.domain ≡ Some q) → (q : ℕ) (x : DomainView) → slice_get now q ≡ Some x → place_of now x.share.domain ≡ Some q
  numbered_after numbered q x is = place_same x.share.domain ∙ by (either_there ds place q (after d entry c) x is)
    where
      by : ((q ≡ place) × (x ≡ after d entry c)) ⊎ (slice_get ds q ≡ Some x) → place_of ds x.share.domain ≡ Some q
      by (inl h) = ap (λ (y : DomainView). place_of ds y.share.domain) h.1 ∙ (numbered place d at ∙ ap some (sym h.0))
      by (inr h) = numbered q x h

  pub settled_after : (boxes boxes' : List Outbox) → IsSettled (record { domains = ds; outboxes = boxes }) → ((origin : Origin) → outbox_place boxes' origin ≡ outbox_place boxes origin)
      → IsSettled (record { domains = now; outboxes = boxes' })
  settled_after boxes boxes' s same = record {
    numbered = numbered_after s.numbered;
    boxed = λ origin q is. subst IsSome (sym (same origin)) (s.boxed origin q (sym (home_same origin) ∙ is));
  }

-- ---- outboxes keep their origins

replaced_box : (boxes : List Outbox) (place : ℕ) (box : Outbox) (waiting : List Descriptor) (origin : Origin) → slice_get boxes place ≡ Some box → outbox_place (set boxes place (record { origin = box.origin; waiting = waiting })) origin ≡ outbox_place boxes origin
unfolding outbox_place
replaced_box boxes place box waiting origin at =
    position_same (λ (b : Outbox). same_origin b.origin origin) boxes place (record { origin = box.origin; waiting = waiting }) box
    (ap (λ (b : Outbox). same_origin b.origin origin) (sym (get_or_from_slice_get boxes place box box at)))

origins_in : (boxes : List Outbox) (place : ℕ) (found : Option Outbox) (waiting : List Descriptor) (origin : Origin) → slice_get boxes place ≡ found → outbox_place (with_waiting_in boxes place waiting found) origin ≡ outbox_place boxes origin
origins_in boxes place None waiting origin at = refl
origins_in boxes place (Some box) waiting origin at = replaced_box boxes place box waiting origin at

pub origins_stay : (boxes : List Outbox) (place : Option ℕ) (waiting : List Descriptor) (origin : Origin) → outbox_place (with_waiting_at boxes waiting place) origin ≡ outbox_place boxes origin
origins_stay boxes None waiting origin = refl
origins_stay boxes (Some place) waiting origin = origins_in boxes place (slice_get boxes place) waiting origin refl

pub joined_origins : (boxes : List Outbox) (of : Origin) (sent : Option Descriptor) (origin : Origin) → outbox_place (joined boxes of sent) origin ≡ outbox_place boxes origin
joined_origins boxes of None origin = refl
joined_origins boxes of (Some frame) origin = origins_stay boxes (outbox_place boxes of) _ origin

-- ---- what an entry made

-- which domain had it, and how it changed
pub record MadeBy (ds : List DomainView) (entry : Entry) (place : Option ℕ) (m : Made) : Type 0 where
  pub number : ℕ
  pub d : DomainView
  pub c : Change
  pub at_number : place ≡ Some number
  pub at : slice_get ds number ≡ Some d
  pub legal : change d.share d.state entry ≡ Some c
  pub is : made_by ds number entry d c ≡ m

made_if : (ds : List DomainView) (entry : Entry) (number : ℕ) (found : Option DomainView) (m : Made) → slice_get ds number ≡ found → made_of ds number entry found ≡ Some m → MadeBy ds entry (Some number) m
made_if ds entry number None m at e = absurd cc
made_if ds entry number (Some d) m at e = by (change d.share d.state entry) refl e
  where
    by : (o : Option Change) → change d.share d.state entry ≡ o → option_map (made_by ds number entry d) o ≡ Some m → MadeBy ds entry (Some number) m
    by None legal e = absurd cc
    by (Some c) legal e = record { number = number; d = d; c = c; at_number = refl; at = at; legal = legal; is = some_is (made_by ds number entry d c) m e }

pub made_from : (ds : List DomainView) (entry : Entry) (place : Option ℕ) (m : Made) → made_at ds entry place ≡ Some m → MadeBy ds entry place m
made_from ds entry None m e = absurd cc
made_from ds entry (Some number) m e = made_if ds entry number (slice_get ds number) m refl e

pub is_home : (ds : List DomainView) (domain number : ℕ) (d : DomainView) → slice_get ds number ≡ Some d → place_of ds domain ≡ Some number → domain ≡ d.share.domain
unfolding place_of
is_home ds domain number d at found =
    let there = position-Some (λ (x : DomainView). x.share.domain == domain) ds number d found in
    sym (eqb-true d.share.domain domain (ap (λ (x : DomainView). x.share.domain == domain) (sym (get_or_from_slice_get ds number d d at)) ∙ there.1))

-- the share of the domain at a place
pub share_at : (ports : List DownstreamPort) (ds : List DomainView) (number : ℕ) (d : DomainView) → All (HasPorts ports) ds → slice_get ds number ≡ Some d → HasPorts ports d
share_at ports ds number d shares at = subst (HasPorts ports) (get_or_from_slice_get ds number d d at) (shares number d (slice_get_within ds number d at))

-- the agents are settled again
pub agents_settled : (agents : AgentsView) (boxes : List Outbox) (entry : Entry) (place : Option ℕ) (m : Made) → IsSettled agents → ((origin : Origin) → outbox_place boxes origin ≡ outbox_place agents.outboxes origin)
    → made_at agents.domains entry place ≡ Some m → IsSettled (record { domains = m.domains; outboxes = boxes })
agents_settled agents boxes entry place m s same e =
    let b = made_from agents.domains entry place m e in
    subst (λ (x : Made). IsSettled (record { domains = x.domains; outboxes = boxes })) b.is
    (settled_after agents.domains b.number b.d entry b.c b.at agents.outboxes boxes s same)

-- each domain keeps its share
pub shares_stay : (ports : List DownstreamPort) (ds : List DomainView) (entry : Entry) (place : Option ℕ) (m : Made) → All (HasPorts ports) ds → made_at ds entry place ≡ Some m → All (HasPorts ports) m.domains
shares_stay ports ds entry place m shares e =
    let b = made_from ds entry place m e in
    let own : HasPorts ports b.d = share_at ports ds b.number b.d shares b.at in
    subst (λ (x : Made). All (HasPorts ports) x.domains) b.is (All-set (HasPorts ports) ds b.number (after b.d entry b.c) own shares)

-- a begin: what it emits is in flight now
pub begin_reflown : (agents : AgentsView) (entry : Entry) (place : Option ℕ) (m : Made) → IsSettled agents → ((d : DomainView) (c : Change) → change d.share d.state entry ≡ Some c → Begins d.state c)
    → made_at agents.domains entry place ≡ Some m → Reflown agents.domains m.domains [] (option_to_list m.sent)
begin_reflown agents entry place m s begins e =
    let b = made_from agents.domains entry place m e in
    let flight = b.d.state.flight in
    let h = home_changed agents.domains b.number b.d entry b.c b.at (s.numbered b.number b.d b.at) in
    subst (λ (x : Made). Reflown agents.domains x.domains [] (option_to_list x.sent)) b.is
    (reflown agents.domains (set agents.domains b.number (after b.d entry b.c)) b.d.share.domain flight flight b.c.emission []
    (subst (λ (fl : List (Option Emission)). HomeChanged agents.domains (set agents.domains b.number (after b.d entry b.c)) b.d.share.domain flight fl) (begins b.d b.c b.legal) h)
    (none_leaves b.d.share.domain flight))

-- an end: the packet is in flight no more, and its answer, if any, is
pub end_reflown : (agents : AgentsView) (entry : Entry) (frame : Descriptor) (m : Made) → IsSettled agents → IsFlown agents.domains frame → ((d : DomainView) (c : Change) → change d.share d.state entry ≡ Some c → EndsOne d.state frame.number c)
    → made_at agents.domains entry (place_of agents.domains frame.domain) ≡ Some m → Reflown agents.domains m.domains (frame ∷ []) (option_to_list m.sent)
end_reflown agents entry frame m s f ends e =
    let b = made_from agents.domains entry (place_of agents.domains frame.domain) m e in
    let flight = b.d.state.flight in
    let new = set agents.domains b.number (after b.d entry b.c) in
    let home : frame.domain ≡ b.d.share.domain = is_home agents.domains frame.domain b.number b.d b.at b.at_number in
    let flying : item_at flight frame.number ≡ Some f.emission =
    sym (ap (λ (o : Option ℕ). flown_by frame.number (domain_at agents.domains o)) b.at_number ∙ ap (flown_by frame.number) b.at) ∙ f.in_flight in
    let h = home_changed agents.domains b.number b.d entry b.c b.at (s.numbered b.number b.d b.at) in
    let left = one_leaves flight frame f.emission flying in
    subst (λ (x : Made). Reflown agents.domains x.domains (frame ∷ []) (option_to_list x.sent)) b.is
    (reflown agents.domains new b.d.share.domain flight (set flight frame.number None) b.c.emission (frame ∷ [])
    (subst (λ (fl : List (Option Emission)). HomeChanged agents.domains new b.d.share.domain flight fl) (ends b.d b.c b.legal) h)
    (subst (λ (k : ℕ). Leaves k flight (set flight frame.number None) (frame ∷ [])) home left))
