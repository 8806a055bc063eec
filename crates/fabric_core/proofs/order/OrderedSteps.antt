-- In a guarded fabric two packets that keep their order stay in turn on their way through every event, and no entry consumes
-- the second before one consumes the first.
use Rattle.std.proofs.Common.{◌≡◌, ℕ, ◌<◌, ◌≤◌, ◌+◌, ◌==◌, ◌&&◌, Bool, true, false, cond, List, [], ◌∷◌, ◌++◌, length, Option, Some, None, refl, sym, ap, ◌∙◌, subst, arith, ⊎_elim, eq-eqb, ne_eqb}
use Rattle.std.specs.Prelude.{All, IsSome, nat_lt, option_map, slice_get, slice_set}
use Rattle.std.proofs.lemmas.Bool.{false≢true}
use Rattle.std.proofs.lemmas.List.Sums.{sum_by-append}
use Rattle.std.proofs.lemmas.Option.{get_or_from_slice_get, same_Some, slice_get_within}
use Rattle.fab_types.specs.declared.head.Parties.{Parties}
use Rattle.fab_types.specs.declared.head.Parties.TheVariants.{Answer, Downward, Upward}
use Rattle.fab_types.specs.declared.origin.Origin.{Origin}
use Rattle.fab_types.specs.declared.origin.Origin.TheVariants as origin
use Rattle.fab_types.specs.declared.place.Place.{Place}
use Rattle.frame_log.specs.Descriptor.{Descriptor}
use Rattle.platform.specs.declared.parts.DownstreamPort.{DownstreamPort}
use Rattle.platform.specs.Share.{Share}
use Rattle.bridge.specs.Bridges.{Routes}
use Rattle.domain.specs.Consumed.{consumes, is_in_order, times_consumed, times_waiting}
use Rattle.domain.specs.Domains.{DomainView}
use Rattle.domain.specs.Orders.{DownFromHost, IsTo, KeepOrder, UpFromFunction, direct_from}
use Rattle.domain.specs.Sent.{IsBySource, Sent, sent}
use Rattle.request_handling.specs.Heads.{head_of}
use Rattle.request_handling.specs.Emissions.{Emission}
use Rattle.domain_state.specs.State.{item_at}
use Rattle.domain.specs.declared.entry.Entry.{Entry}
use Rattle.domain.proofs.Consuming.{consumed_once}
use Rattle.domain.proofs.ConsumedInOrder.{in_order_after}
use Rattle.domain.proofs.Sending.{are_sent, sender_of_sent}
use Rattle.domains.specs.Domains.{Made, after, domain_at, made_at, place_of}
use Rattle.fabric_core.specs.declared.event.Event.{Event}
use Rattle.fabric_core.specs.Events.{effect}
use Rattle.fabric_core.specs.Invariant.{IsFabric, IsConsistent}
use Rattle.fabric_core.specs.Orders.{AreOrdered, GoesBy, StayOrdered, OrderOf}
use Rattle.fabric_core.specs.Places.{IsFlown, flown, flown_by, frames_of, is_numbered}
use Rattle.fabric_core.specs.Soundness.{IsGuardedFabric, IsWellKept}
use Rattle.fabric_core.specs.Trails.{InOrderOnWay, standing_at}
use Rattle.fabric_core.specs.World.{World, is_guarded}
use Rattle.fabric_core.proofs.order.AfterMotions.{After, IsBegun, IsTaken, Keeps, after_motion}
use Rattle.fabric_core.proofs.order.MotionOf.{motion_of}
use Rattle.fabric_core.proofs.order.DownwardOrder.{AreDown, down_delivers, down_ends, down_goes}
use Rattle.fabric_core.proofs.invariant.Flying.{one_if, within}
use Rattle.fabric_core.proofs.soundness.Guarded.{guarded_after}
use Rattle.fabric_core.proofs.order.KeptOrder.{are_across, are_down, are_up, is_domain}
use Rattle.fabric_core.proofs.order.AcrossOrder.{AreAcross, across_delivers, across_ends, across_goes, let_peer}
use Rattle.fabric_core.proofs.places.OnePlace.{one_place}
use Rattle.fabric_core.proofs.invariant.Settling.{either_there, is_home, made_from, replaced}
use Rattle.fabric_core.proofs.soundness.SoundDomains.{sent_is}
use Rattle.fabric_core.proofs.order.UpwardOrder.{up_delivers, up_ends, up_goes}

-- ---- a domain and its numbers

pub well_kept : (w : World) → IsGuardedFabric w → (place : ℕ) (d : DomainView) → slice_get w.agents.domains place ≡ Some d → IsWellKept d
well_kept w g place d at = subst IsWellKept (get_or_from_slice_get w.agents.domains place d d at) (g.domains place d (slice_get_within w.agents.domains place d at))

-- an entry more
pub record Grown (d d' : DomainView) (entry : Entry) (home : Type 0) : Type 0 where
  pub of : home
  pub share : d'.share ≡ d.share
  pub journal : d'.journal ≡ d.journal ++ entry ∷ []

-- or none
pub data Next (d d' : DomainView) (entry : Entry) (home : Type 0) : Type 0 where
  Same : d' ≡ d → Next d d' entry home
  More : Grown d d' entry home → Next d d' entry home

module _ (w : World) (kept : IsConsistent w) (place : ℕ) (d : DomainView) (at : slice_get w.agents.domains place ≡ Some d) where
  abbrev number : ℕ
  number = d.share.domain

  pub flown_here : (n : ℕ) → flown w.agents.domains number n ≡ item_at d.state.flight n
  flown_here n = ap (λ (o : Option ℕ). flown_by n (domain_at w.agents.domains o)) (kept.settled.numbered place d at) ∙ ap (flown_by n) at

  -- the domain with that number is this one
  one_home : (q : ℕ) (x : DomainView) → slice_get w.agents.domains q ≡ Some x → x.share.domain ≡ number → (q ≡ place) × (x ≡ d)
  one_home q x there same =
      let here : q ≡ place = same_Some q place (sym (kept.settled.numbered q x there) ∙ (ap (place_of w.agents.domains) same ∙ kept.settled.numbered place d at)) in
      (here, same_Some x d (sym there ∙ (ap (slice_get w.agents.domains) here ∙ at)))

  -- a packet that an entry sends has a number of its own
  pub fresh : (k : ℕ) → k < length d.state.flight → (entry : Entry) (o : Option ℕ) (made : Made) → made_at w.agents.domains entry o ≡ Some made → (z : Descriptor) → made.sent ≡ Some z → is_numbered number k z ≡ false
  fresh k less entry o made e z sent = by (is_numbered number k z) refl
    where
      never : is_numbered number k z ≡ true → ⊥
      never is =
          let b = made_from w.agents.domains entry o made e in
          let x = sent_is w.agents.domains entry o made b z sent in
          let named = is_domain number k z is in
          let home = one_home b.number b.d b.at (ap (λ (y : Descriptor). y.domain) x.2 ∙ named.0) in
          let long : length b.d.state.flight ≡ k = ap (λ (y : Descriptor). y.number) x.2 ∙ named.1 in
          let same = ap (λ (y : DomainView). length y.state.flight) home.1 in
          absurd (omega (arith, less, long, same))

      by : (b : Bool) → is_numbered number k z ≡ b → is_numbered number k z ≡ false
      by true is = absurd (never is)
      by false is = is

  module _ (w' : World) (d' : DomainView) (at' : slice_get w'.agents.domains place ≡ Some d') where
    pub still : w'.agents.domains ≡ w.agents.domains → d' ≡ d
    still domains = same_Some d' d (sym at' ∙ (ap (λ (ds : List DomainView). slice_get ds place) domains ∙ at))

    module _ (entry : Entry) (o : Option ℕ) (made : Made) (e : made_at w.agents.domains entry o ≡ Some made) (domains : w'.agents.domains ≡ made.domains) where
      now : slice_get (slice_set w.agents.domains (made_from w.agents.domains entry o made e).number (after (made_from w.agents.domains entry o made e).d entry (made_from w.agents.domains entry o made e).c)) place ≡ Some d'
      now = ap (λ (x : Made). slice_get x.domains place) (made_from w.agents.domains entry o made e).is ∙ (ap (λ (ds : List DomainView). slice_get ds place) (sym domains) ∙ at')

      -- it was this domain that had the entry
      grew : (made_from w.agents.domains entry o made e).number ≡ place → d' ≡ after (made_from w.agents.domains entry o made e).d entry (made_from w.agents.domains entry o made e).c → o ≡ Some place → Grown d d' entry (o ≡ Some place)
      grew here is there =
          let x = made_from w.agents.domains entry o made e in
          let same : x.d ≡ d = same_Some x.d d (sym x.at ∙ (ap (slice_get w.agents.domains) here ∙ at)) in
          record {
            of = there;
            share = ap (λ (y : DomainView). y.share) is ∙ ap (λ (y : DomainView). y.share) same;
            journal = ap (λ (y : DomainView). y.journal) is ∙ ap (λ (y : DomainView). y.journal ++ entry ∷ []) same;
          }

      pub next : Next d d' entry (o ≡ Some place)
      next =
          let x = made_from w.agents.domains entry o made e in
          ⊎_elim (λ here. Next.More (grew (sym here.0) here.1 (x.at_number ∙ ap (λ (k : ℕ). Some k) (sym here.0)))) (λ other. Next.Same (same_Some d' d (sym other ∙ at)))
          (either_there w.agents.domains x.number place (after x.d entry x.c) d' now)

      -- and so it was where the entry was of the domain at this place
      pub next_here : o ≡ Some place → Grown d d' entry (o ≡ Some place)
      next_here there =
          let x = made_from w.agents.domains entry o made e in
          let here : x.number ≡ place = same_Some x.number place (sym x.at_number ∙ there) in
          grew here
          (same_Some d' (after x.d entry x.c)
          (sym now ∙ (ap (slice_get (slice_set w.agents.domains x.number (after x.d entry x.c))) (sym here) ∙ replaced w.agents.domains x.number x.d (after x.d entry x.c) x.at))) there

pub other_source : (function domain : ℕ) → ◌≡◌ {A = Option Origin} (Some (origin.Function function)) (Some (origin.Host domain)) → ⊥
other_source function domain e = cc

pub one_function : (a b : ℕ) (parties : Parties) → IsTo a parties → IsTo b parties → a ≡ b
one_function a b (Upward sender) x y = absurd x
one_function a b (Downward completer) x y = sym x ∙ y
one_function a b (Answer answerer None) x y = absurd x
one_function a b (Answer answerer (Some (origin.Function f))) x y = sym x ∙ y
one_function a b (Answer answerer (Some (origin.Host h))) x y = absurd x

pub one_function_of : (a b : ℕ) → ◌≡◌ {A = Option Origin} (Some (origin.Function a)) (Some (origin.Function b)) → a ≡ b
one_function_of a b e = cc

pub some_waits : (o : Option Emission) → IsSome o → times_waiting o ≡ 1
some_waits None some = absurd cc
some_waits (Some e) some = refl

pub at_most_one : (b : Bool) → cond b 1 0 ≤ 1
at_most_one true = omega arith
at_most_one false = omega arith

-- ---- the two packets

module _ (w w' : World) (fabric : IsFabric w) (guarded : is_guarded w ≡ true) (place : ℕ) (d d' : DomainView) (at : slice_get w.agents.domains place ≡ Some d) (at' : slice_get w'.agents.domains place ≡ Some d') (g' : IsGuardedFabric w') (n m : ℕ)
    (pair : AreOrdered d n m) (e : Emission) (flies : item_at d.state.flight n ≡ Some e) where
  g : IsGuardedFabric w
  g = fabric.guarded guarded

  old : IsWellKept d
  old = well_kept w (fabric.guarded guarded) place d at

  many : length (sent d.share d.journal) ≡ length d.state.flight
  many = (are_sent d.share d.journal d.state old.replayed).many

  n_made : n < length d.state.flight
  n_made = within d.state.flight n e flies

  m_made : m < length d.state.flight
  m_made = let less = slice_get_within (sent d.share d.journal) m pair.second pair.second_at in let long = many in omega (arith, less, long)

  emission_is : (k : ℕ) (x : Sent) (y : Emission) → slice_get (sent d.share d.journal) k ≡ Some x → item_at d.state.flight k ≡ Some y → y ≡ x.emission
  emission_is k x y listed there =
      same_Some y x.emission (sym ((are_sent d.share d.journal d.state old.replayed).each k y there) ∙ ap (option_map (λ (s : Sent). s.emission)) listed)

  first_is : flown w.agents.domains d.share.domain n ≡ Some pair.first.emission
  first_is = flown_here w fabric.kept place d at n ∙ (flies ∙ ap (λ (x : Emission). Some x) (emission_is n pair.first e pair.first_at flies))

  second_is : (y : Emission) → flown w.agents.domains d.share.domain m ≡ Some y → y ≡ pair.second.emission
  second_is y there = emission_is m pair.second y pair.second_at (sym (flown_here w fabric.kept place d at m) ∙ there)

  first_by : IsBySource pair.first
  first_by = sender_of_sent d.share d.journal d.state old.replayed n pair.first pair.first_at

  second_by : IsBySource pair.second
  second_by = sender_of_sent d.share d.journal d.state old.replayed m pair.second pair.second_at

  shown : All (IsFlown w.agents.domains) (frames_of w)
  shown = (one_place w fabric guarded).shown

  ports_are : d.share.ports ≡ (fabric.guarded guarded).platform.ports
  ports_are =
      subst (λ (x : DomainView). x.share.ports ≡ w.routes.ports) (get_or_from_slice_get w.agents.domains place d d at) (fabric.kept.shares place d (slice_get_within w.agents.domains place d at))
      ∙ ap (λ (r : Routes). r.ports) (fabric.guarded guarded).of_it.routes

  fresh_two : (entry : Entry) (o : Option ℕ) (made : Made) → made_at w.agents.domains entry o ≡ Some made → (z : Descriptor) → made.sent ≡ Some z → (is_numbered d.share.domain n z ≡ false) × (is_numbered d.share.domain m z ≡ false)
  fresh_two entry o made is z sent = (fresh w fabric.kept place d at n n_made entry o made is z sent, fresh w fabric.kept place d at m m_made entry o made is z sent)

  abbrev KeepsOn : List Place → Type 0
  KeepsOn places = Keeps w w' (fabric.guarded guarded) places (is_numbered d.share.domain n) (is_numbered d.share.domain m)

  keep : KeepOrder (fabric.guarded guarded).platform.ports d.share.domain pair.first pair.second
  keep = subst (λ (ports : List DownstreamPort). KeepOrder ports d.share.domain pair.first pair.second) ports_are pair.keep

  keeps : (places : List Place) → GoesBy (fabric.guarded guarded).platform d.share.domain pair.first places → KeepOrder (fabric.guarded guarded).platform.ports d.share.domain pair.first pair.second → KeepsOn places
  keeps _ (GoesBy.Up function links source none own way) (UpFromFunction k) =
      let number = d.share.domain in
      let same = one_function_of k.function function (sym k.first_source ∙ source) in
      let are = are_up w (fabric.guarded guarded) shown number n m pair.first pair.second first_is second_is first_by second_by k (ap (λ (f : ℕ). direct_from (fabric.guarded guarded).platform.ports f pair.first.emission) same ∙ none) in record {
        goes = λ f' source target y leaps mv t. up_goes w (fabric.guarded guarded) number function links own way (is_numbered number n) (is_numbered number m) are f' source target y leaps mv t;
        ends = λ f' direction y l t is_p is_q entry target finishes. up_ends w (fabric.guarded guarded) number function links own way (is_numbered number n) (is_numbered number m) are f' direction y l t is_p is_q entry target finishes;
        delivers = λ f' direction y l t is_p is_q last. up_delivers w (fabric.guarded guarded) number function links own way (is_numbered number n) (is_numbered number m) are f' direction y l t is_p is_q last;
        fresh = fresh_two;
      }
  keeps _ (GoesBy.Up function links source none own way) (DownFromHost k) = absurd (other_source function d.share.domain (sym source ∙ k.first_source))
  keeps _ (GoesBy.Across function peer line links source some own listed held lets path) (UpFromFunction k) =
      let g = fabric.guarded guarded in
      let number = d.share.domain in
      let same = one_function_of k.function function (sym k.first_source ∙ source) in
      let beyond = let_peer g.platform g.guarded line listed peer (head_of pair.first.emission).header lets in
      let are_k = are_across w g shown number n m pair.first pair.second first_is second_is first_by second_by k peer (ap (λ (f : ℕ). direct_from g.platform.ports f pair.first.emission) same ∙ some) in
      let are : AreAcross g.platform function peer (standing_at w) (is_numbered number n) (is_numbered number m) = subst (λ (f : ℕ). AreAcross g.platform f peer (standing_at w) (is_numbered number n) (is_numbered number m)) same are_k in record {
        goes = λ f' source target y leaps mv t. across_goes w g number function peer line links own listed held path beyond.0 beyond.1 (is_numbered number n) (is_numbered number m) are f' source target y leaps mv t;
        ends = λ f' direction y l t is_p is_q entry target finishes. across_ends w g number function peer line links own listed held path beyond.0 beyond.1 (is_numbered number n) (is_numbered number m) are f' direction y l t is_p is_q entry target finishes;
        delivers = λ f' direction y l t is_p is_q last. across_delivers w g number function peer line links own listed held path beyond.0 beyond.1 (is_numbered number n) (is_numbered number m) are f' direction y l t is_p is_q last;
        fresh = fresh_two;
      }
  keeps _ (GoesBy.Across function peer line links source some own listed held lets path) (DownFromHost k) = absurd (other_source function d.share.domain (sym source ∙ k.first_source))
  keeps _ (GoesBy.Down function links source to own way) (UpFromFunction k) = absurd (other_source k.function d.share.domain (sym k.first_source ∙ source))
  keeps _ (GoesBy.Down function links source to own way) (DownFromHost k) =
      let number = d.share.domain in
      let are = are_down w (fabric.guarded guarded) shown number n m pair.first pair.second first_is second_is first_by second_by k in
      let same : k.function ≡ function = one_function k.function function pair.first.emission.parties k.first_to to in
      let are_to : AreDown function (standing_at w) (is_numbered number n) (is_numbered number m) = subst (λ (h : ℕ). AreDown h (standing_at w) (is_numbered number n) (is_numbered number m)) same are in record {
        goes = λ f' source target y leaps mv t. down_goes w (fabric.guarded guarded) number function links own way (is_numbered number n) (is_numbered number m) are_to f' source target y leaps mv t;
        ends = λ f' direction y l t is_p is_q entry target finishes. down_ends w (fabric.guarded guarded) number function links own way (is_numbered number n) (is_numbered number m) are_to f' direction y l t is_p is_q entry target finishes;
        delivers = λ f' direction y l t is_p is_q last. down_delivers w (fabric.guarded guarded) number function links own way (is_numbered number n) (is_numbered number m) are_to f' direction y l t is_p is_q last;
        fresh = fresh_two;
      }

  -- ---- the journal

  abbrev Stay : List Place → DomainView → Type 0
  Stay places x = StayOrdered w' x places n m

  more : (places : List Place) (entry : Entry) → d'.share ≡ d.share → d'.journal ≡ d.journal ++ entry ∷ [] → consumes m entry ≡ false → is_in_order n m d.journal ≡ true → (IsSome (item_at d'.state.flight n) → OrderOf w' d places n m) → Stay places d'
  more places entry share journal not_m order turn = record {
    turn = λ some. subst (λ (k : ℕ). InOrderOnWay (standing_at w') places (is_numbered k n) (is_numbered k m)) (ap (λ (s : Share). s.domain) (sym share)) (turn some);
    order = subst (λ (j : List Entry). is_in_order n m j ≡ true) (sym journal) (in_order_after n m d.journal entry order (λ is_m. absurd (false≢true (sym not_m ∙ is_m))));
  }

  same : (places : List Place) → d' ≡ d → is_in_order n m d.journal ≡ true → OrderOf w' d places n m → Stay places d'
  same places is order turn = subst (Stay places) (sym is) (record { turn = λ some. turn; order = order })

  not_second : (frame : Descriptor) → frame.domain ≡ d.share.domain → is_numbered d.share.domain m frame ≡ false → (frame.number == m) ≡ false
  not_second frame home other = by (frame.number == m) refl
    where
      by : (b : Bool) → (frame.number == m) ≡ b → b ≡ false
      by false e = refl
      by true e = absurd (false≢true (sym other ∙ (ap (λ (b : Bool). b && (frame.number == m)) (eq-eqb frame.domain d.share.domain home) ∙ e)))

  begun : (places : List Place) (b : IsBegun w w') → is_in_order n m d.journal ≡ true → OrderOf w' d places n m → Next d d' b.entry (b.place ≡ Some place) → Stay places d'
  begun places b order turn (Next.Same is) = same places is order turn
  begun places b order turn (Next.More x) = more places b.entry x.share x.journal (b.ends m) order (λ some. turn)

  other : (places : List Place) (frame : Descriptor) (k : IsTaken w w' frame) → is_numbered d.share.domain m frame ≡ false → is_in_order n m d.journal ≡ true → OrderOf w' d places n m → Next d d' k.entry (place_of w.agents.domains frame.domain ≡ Some place) → Stay places d'
  other places frame k no_q order turn (Next.Same is) = same places is order turn
  other places frame k no_q order turn (Next.More x) =
      more places k.entry x.share x.journal (k.ends m ∙ not_second frame (is_home w.agents.domains frame.domain place d at x.of) no_q) order (λ some. turn)

  -- the first was consumed, and is in flight no more
  gone_now : (entry : Entry) → d'.journal ≡ d.journal ++ entry ∷ [] → consumes n entry ≡ true → IsSome (item_at d'.state.flight n) → ⊥
  gone_now entry journal is some =
      let once = consumed_once d'.share d'.journal d'.state (well_kept w' g' place d' at').replayed n in
      let counted : times_consumed n d'.journal ≡ times_consumed n d.journal + times_consumed n (entry ∷ []) = ap (times_consumed n) journal ∙ sum_by-append (λ (x : Entry). cond (consumes n x) 1 0) d.journal (entry ∷ []) in
      let one : one_if (consumes n entry) ≡ one_if true = ap one_if is in
      let last : times_consumed n (entry ∷ []) ≡ one_if (consumes n entry) = omega arith in
      let waits = some_waits (item_at d'.state.flight n) some in
      let most = at_most_one (nat_lt n (length d'.state.flight)) in
      absurd (omega (arith, once, counted, one, last, waits, most))

  gone : (places : List Place) (frame : Descriptor) (k : IsTaken w w' frame) → is_numbered d.share.domain n frame ≡ true → is_in_order n m d.journal ≡ true → Grown d d' k.entry (place_of w.agents.domains frame.domain ≡ Some place) → Stay places d'
  gone places frame k is_p order x =
      let named = is_domain d.share.domain n frame is_p in
      let less = pair.less in
      let not_m : (frame.number == m) ≡ false = ne_eqb frame.number m (λ e. let y = named.1 in absurd (omega (arith, e, y, less))) in
      more places k.entry x.share x.journal (k.ends m ∙ not_m) order (λ some. absurd (gone_now k.entry x.journal (k.ends n ∙ eq-eqb frame.number n named.1) some))

  stays : (places : List Place) → is_in_order n m d.journal ≡ true → After w w' places (is_numbered d.share.domain n) (is_numbered d.share.domain m) → Stay places d'
  stays places order (After.Still turn domains) = same places (still w fabric.kept place d at w' d' at' domains) order turn
  stays places order (After.Begun turn b) = begun places b order turn (next w fabric.kept place d at w' d' at' b.entry b.place b.m b.is b.domains)
  stays places order (After.Other turn frame no_p no_q k) = other places frame k no_q order turn (next w fabric.kept place d at w' d' at' k.entry (place_of w.agents.domains frame.domain) k.m k.is k.domains)
  stays places order (After.Gone frame is_p k) =
      gone places frame k is_p order
      (next_here w fabric.kept place d at w' d' at' k.entry (place_of w.agents.domains frame.domain) k.m k.is k.domains
      (ap (place_of w.agents.domains) (is_domain d.share.domain n frame is_p).0 ∙ fabric.kept.settled.numbered place d at))

pub ordered_step : (w w' : World) (event : Event) (fabric : IsFabric w) (guarded : is_guarded w ≡ true) → effect w event ≡ Some w' → (place : ℕ) (d d' : DomainView) → slice_get w.agents.domains place ≡ Some d → slice_get w'.agents.domains place ≡ Some d' → (n m : ℕ) (pair : AreOrdered d n m)
    → IsSome (item_at d.state.flight n) → (places : List Place) → GoesBy (fabric.guarded guarded).platform d.share.domain pair.first places → OrderOf w d places n m → is_in_order n m d.journal ≡ true → StayOrdered w' d' places n m
ordered_step w w' event fabric guarded moved place d d' at at' n m pair some places goes turn order = by (item_at d.state.flight n) refl some
  where
    by : (o : Option Emission) → item_at d.state.flight n ≡ o → IsSome o → StayOrdered w' d' places n m
    by None flies some = absurd cc
    by (Some e) flies some =
        let g = fabric.guarded guarded in
        let g' = guarded_after w w' event fabric.kept g moved in
        stays w w' fabric guarded place d d' at at' g' n m pair e flies places order
        (after_motion w w' g places (is_numbered d.share.domain n) (is_numbered d.share.domain m)
        (keeps w w' fabric guarded place d d' at at' g' n m pair e flies places goes (keep w w' fabric guarded place d d' at at' g' n m pair e flies))
        (motion_of w w' event fabric.kept g moved) turn)
