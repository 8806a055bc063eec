-- The domains and the outboxes of a fabric, and of one without other domains, where one domain has an entry.
use Rattle.std.proofs.Common.{◌≡◌, ℕ, ◌==◌, List, [], ◌∷◌, ◌++◌, length, map, set, Option, Some, None, refl, sym, ap, ◌∙◌, subst, eqb-true, eq-eqb}
use Rattle.std.specs.Prelude.{true, option_map, slice_get}
use Rattle.std.proofs.Math.Seq.{map-set_same}
use Rattle.std.proofs.lemmas.List.{map-set}
use Rattle.std.proofs.lemmas.Option.{get_or_from_slice_get, slice_get-map}
use Rattle.domains.proofs.Lists.{position_map}
use Rattle.fab_types.specs.declared.origin.Origin.{Origin}
use Rattle.frame_log.specs.Descriptor.{Descriptor}
use Rattle.fab_types.specs.Origins.{same_origin}
use Rattle.platform.specs.Share.{Share}
use Rattle.domain.specs.declared.entry.Entry.{Entry}
use Rattle.domain.specs.Domains.{DomainView}
use Rattle.request_handling.specs.Heads.{descriptor_of}
use Rattle.domain.specs.Machine.{change}
use Rattle.request_handling.specs.Emissions.{Emission}
use Rattle.domain_state.specs.State.{Change}
use Rattle.domains.specs.Agents.{AgentsView, Outbox, emitted, is_function_of, is_of_domain, joined, outbox_place, taken_from, waiting_at, waiting_in, waiting_of, with_waiting, with_waiting_at, with_waiting_in}
use Rattle.domains.specs.Domains.{Made, after, domain_at, made_at, made_by, made_of, place_of, place_of_function}
use Rattle.fabric_core.specs.Isolation.{is_number, number_of, own}
use Rattle.fabric_core.specs.Soundness.{share_of}
use Rattle.fabric_core.proofs.runs.Begun.{domain_same, function_same}
use Rattle.fabric_core.proofs.runs.Mirrors.{Alike, MirrorsDomains, MirrorsAgents, MirrorsMade, own_box}
use Rattle.fabric_core.proofs.runs.OwnOnes.{IsOwn, own_last}
use Rattle.fabric_core.proofs.invariant.Settling.{is_home, place_same, replaced}
use Rattle.fabric_core.proofs.apart.Sparing.{numbered}

-- ---- outboxes

module _ (d : ℕ) (boxes : List Outbox) where
  own_place : (origin : Origin) → outbox_place (map (own_box d) boxes) origin ≡ outbox_place boxes origin
  unfolding outbox_place
  own_place origin = position_map (λ (b : Outbox). same_origin b.origin origin) (own_box d) boxes

  own_in : (o : Option Outbox) → waiting_in (option_map (own_box d) o) ≡ own d (waiting_in o)
  own_in None = refl
  own_in (Some box) = refl

  own_at : (place : Option ℕ) → waiting_at (map (own_box d) boxes) place ≡ own d (waiting_at boxes place)
  own_at None = refl
  own_at (Some place) = ap waiting_in (slice_get-map (own_box d) boxes place) ∙ own_in (slice_get boxes place)

  pub own_waiting : (origin : Origin) → waiting_of (map (own_box d) boxes) origin ≡ own d (waiting_of boxes origin)
  own_waiting origin = ap (waiting_at (map (own_box d) boxes)) (own_place origin) ∙ own_at (outbox_place boxes origin)

  with_in : (place : ℕ) (waiting : List Descriptor) (o : Option Outbox) → with_waiting_in (map (own_box d) boxes) place (own d waiting) (option_map (own_box d) o) ≡ map (own_box d) (with_waiting_in boxes place waiting o)
  with_in place waiting None = refl
  with_in place waiting (Some box) = sym (map-set (own_box d) boxes place (record { origin = box.origin; waiting = waiting }))

  with_at : (waiting : List Descriptor) (place : Option ℕ) → with_waiting_at (map (own_box d) boxes) (own d waiting) place ≡ map (own_box d) (with_waiting_at boxes waiting place)
  with_at waiting None = refl
  with_at waiting (Some place) =
      ap (with_waiting_in (map (own_box d) boxes) place (own d waiting)) (slice_get-map (own_box d) boxes place) ∙ with_in place waiting (slice_get boxes place)

  pub own_with : (origin : Origin) (waiting : List Descriptor) → with_waiting (map (own_box d) boxes) origin (own d waiting) ≡ map (own_box d) (with_waiting boxes origin waiting)
  own_with origin waiting = ap (with_waiting_at (map (own_box d) boxes) (own d waiting)) (own_place origin) ∙ with_at waiting (outbox_place boxes origin)

  pub own_joined : (origin : Origin) (sent : Option Descriptor) → ((frame : Descriptor) → sent ≡ Some frame → IsOwn d frame) → joined (map (own_box d) boxes) origin sent ≡ map (own_box d) (joined boxes origin sent)
  own_joined origin None is = refl
  own_joined origin (Some frame) is =
      ap (λ (xs : List Descriptor). with_waiting (map (own_box d) boxes) origin (xs ++ frame ∷ [])) (own_waiting origin)
      ∙ (ap (with_waiting (map (own_box d) boxes) origin) (sym (own_last d (waiting_of boxes origin) frame (is frame refl)))
      ∙ own_with origin (waiting_of boxes origin ++ frame ∷ []))

-- ---- numbers

module _ (ones others : List DomainView) (shares : map share_of others ≡ map share_of ones) where
  share_at : (domains : List DomainView) (place : ℕ) → number_of (slice_get domains place) ≡ option_map (λ (s : Share). s.domain) (slice_get (map share_of domains) place)
  share_at domains place = by (slice_get domains place) ∙ sym (ap (option_map (λ (s : Share). s.domain)) (slice_get-map share_of domains place))
    where
      by : (o : Option DomainView) → number_of o ≡ option_map (λ (s : Share). s.domain) (option_map share_of o)
      by None = refl
      by (Some x) = refl

  number_same : (place : Option ℕ) → number_of (domain_at others place) ≡ number_of (domain_at ones place)
  number_same None = refl
  number_same (Some place) = share_at others place ∙ (ap (λ (ss : List Share). option_map (λ (s : Share). s.domain) (slice_get ss place)) shares ∙ sym (share_at ones place))

  -- shares alone say whose a function is
  pub function_number : (function : ℕ) → number_of (domain_at others (place_of_function others function)) ≡ number_of (domain_at ones (place_of_function ones function))
  function_number function = ap (λ (place : Option ℕ). number_of (domain_at others place)) (function_same ones others shares function) ∙ number_same (place_of_function ones function)

  is_of_number : (n : ℕ) (o : Option DomainView) → is_of_domain n o ≡ is_number n (number_of o)
  is_of_number n None = refl
  is_of_number n (Some x) = refl

  pub function_of_same : (function number : ℕ) → is_function_of others function number ≡ is_function_of ones function number
  function_of_same function number =
      is_of_number number (domain_at others (place_of_function others function))
      ∙ (ap (is_number number) (function_number function) ∙ sym (is_of_number number (domain_at ones (place_of_function ones function))))

-- ---- an entry

-- each domain is found by its number
abbrev pub AreNumbered : List DomainView → Type 0
AreNumbered domains = (place : ℕ) (x : DomainView) → slice_get domains place ≡ Some x → place_of domains x.share.domain ≡ Some place

abbrev MadeAlike : ℕ → Option Made → Option Made → Type 0
MadeAlike d one other = Alike (MirrorsMade d) one other

module _ (d : ℕ) (ones others : List DomainView) (m : MirrorsDomains d ones others) (entry : Entry) (place : ℕ) (x : DomainView) (at : slice_get ones place ≡ Some x) (at' : slice_get others place ≡ Some x) (found : place_of ones d ≡ Some place) (is : (x.share.domain == d) ≡ true) where
  shares_after : (ds : List DomainView) (c : Change) → slice_get ds place ≡ Some x → map share_of (set ds place (after x entry c)) ≡ map share_of ds
  shares_after ds c there = map-set_same share_of ds place (after x entry c) x (sym (ap share_of (get_or_from_slice_get ds place x x there)))

  home_after : (ds : List DomainView) (c : Change) → slice_get ds place ≡ Some x → place_of ds d ≡ Some place → numbered (set ds place (after x entry c)) d ≡ Some (after x entry c)
  home_after ds c there first =
      ap (domain_at (set ds place (after x entry c))) (place_same ds place x entry c there d ∙ first) ∙ replaced ds place x (after x entry c) there

  sent_own : (n : ℕ) (o : Option Emission) (frame : Descriptor) → option_map (descriptor_of x.share.domain n) o ≡ Some frame → IsOwn d frame
  sent_own n None frame e = absurd cc
  sent_own n (Some emission) frame e = ap (λ (f : Option ℕ). is_number d f) (sym (ap (λ (o : Option Descriptor). option_map (λ (f : Descriptor). f.domain) o) e)) ∙ is

  changed : (c : Change) → MirrorsMade d (made_by ones place entry x c) (made_by others place entry x c)
  changed c = record {
    sent = refl;
    own = λ frame e. sent_own (length x.state.flight) c.emission frame e;
    domains = record {
      shares = shares_after others c at' ∙ (m.shares ∙ sym (shares_after ones c at));
      home = home_after others c at' (domain_same ones others m.shares d ∙ found) ∙ sym (home_after ones c at found);
    };
  }

  made_there : (o : Option Change) → MadeAlike d (option_map (made_by ones place entry x) o) (option_map (made_by others place entry x) o)
  made_there None = tt
  made_there (Some c) = changed c

module _ (d : ℕ) (ones others : List DomainView) (numbers : AreNumbered ones) (m : MirrorsDomains d ones others) (entry : Entry) where
  made_with : (place : ℕ) (o : Option DomainView) → slice_get ones place ≡ o → is_number d (number_of o) ≡ true → MadeAlike d (made_of ones place entry o) (made_of others place entry (slice_get others place))
  made_with place None at is = absurd cc
  made_with place (Some x) at is =
      let found : place_of ones d ≡ Some place = ap (place_of ones) (sym (eqb-true x.share.domain d is)) ∙ numbers place x at in
      let found' : place_of others d ≡ Some place = domain_same ones others m.shares d ∙ found in
      let at' : slice_get others place ≡ Some x = sym (ap (domain_at others) found') ∙ (m.home ∙ (ap (domain_at ones) found ∙ at)) in
      subst (λ (o : Option DomainView). MadeAlike d (made_of ones place entry (Some x)) (made_of others place entry o)) (sym at')
      (made_there d ones others m entry place x at at' found is (change x.share x.state entry))

  -- the domain at a place has an entry in both, or in neither
  pub made_too : (place : Option ℕ) → is_number d (number_of (domain_at ones place)) ≡ true → MadeAlike d (made_at ones entry place) (made_at others entry place)
  made_too None is = absurd cc
  made_too (Some place) is = made_with place (slice_get ones place) refl is

  home_with : (place : ℕ) (o : Option DomainView) → place_of ones d ≡ Some place → slice_get ones place ≡ o → MadeAlike d (made_of ones place entry o) (made_of others place entry (slice_get others place))
  home_with place None found at =
      let none : slice_get others place ≡ None = sym (ap (domain_at others) (domain_same ones others m.shares d ∙ found)) ∙ (m.home ∙ (ap (domain_at ones) found ∙ at)) in
      subst (λ (o : Option DomainView). MadeAlike d None (made_of others place entry o)) (sym none) tt
  home_with place (Some x) found at = made_with place (Some x) at (eq-eqb x.share.domain d (sym (is_home ones d place x at found)))

  home_by : (place : Option ℕ) → place_of ones d ≡ place → MadeAlike d (made_at ones entry place) (made_at others entry place)
  home_by None found = tt
  home_by (Some place) found = home_with place (slice_get ones place) found refl

  -- the domain itself has
  pub made_home : (number : ℕ) → (number == d) ≡ true → MadeAlike d (made_at ones entry (place_of ones number)) (made_at others entry (place_of others number))
  made_home number is =
      subst (λ (n : ℕ). MadeAlike d (made_at ones entry (place_of ones n)) (made_at others entry (place_of others n))) (sym (eqb-true number d is))
      (subst (λ (place : Option ℕ). MadeAlike d (made_at ones entry (place_of ones d)) (made_at others entry place)) (sym (domain_same ones others m.shares d)) (home_by (place_of ones d) refl))

  pub made_of_number : (number : ℕ) → is_number d (number_of (domain_at ones (place_of ones number))) ≡ true → MadeAlike d (made_at ones entry (place_of ones number)) (made_at others entry (place_of others number))
  made_of_number number is =
      subst (λ (place : Option ℕ). MadeAlike d (made_at ones entry (place_of ones number)) (made_at others entry place)) (sym (domain_same ones others m.shares number)) (made_too (place_of ones number) is)

  pub made_of_function : (function : ℕ) → is_number d (number_of (domain_at ones (place_of_function ones function))) ≡ true
      → MadeAlike d (made_at ones entry (place_of_function ones function)) (made_at others entry (place_of_function others function))
  made_of_function function is =
      subst (λ (place : Option ℕ). MadeAlike d (made_at ones entry (place_of_function ones function)) (made_at others entry place)) (sym (function_same ones others m.shares function)) (made_too (place_of_function ones function) is)

-- ---- the agents

module _ (d : ℕ) (one other : AgentsView) (m : MirrorsAgents d one other) where
  pub emitted_too : (origin : Origin) (x y : Made) → MirrorsMade d x y → MirrorsAgents d (emitted one origin x) (emitted other origin y)
  emitted_too origin x y made = record {
    domains = made.domains;
    boxes = ap (λ (sent : Option Descriptor). joined other.outboxes origin sent) made.sent
        ∙ (ap (λ (boxes : List Outbox). joined boxes origin x.sent) m.boxes ∙ own_joined d one.outboxes origin x.sent made.own);
  }

  pub silent_too : (x y : Made) → MirrorsMade d x y → MirrorsAgents d (record { domains = x.domains; outboxes = one.outboxes }) (record { domains = y.domains; outboxes = other.outboxes })
  silent_too x y made = record { domains = made.domains; boxes = m.boxes }

  pub taken_from_too : (origin : Origin) (left : List Descriptor) → MirrorsAgents d (taken_from one origin left) (taken_from other origin (own d left))
  taken_from_too origin left = record {
    domains = m.domains;
    boxes = ap (λ (boxes : List Outbox). with_waiting boxes origin (own d left)) m.boxes ∙ own_with d one.outboxes origin left;
  }
