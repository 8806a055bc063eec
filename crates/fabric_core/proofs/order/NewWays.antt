-- In a guarded fabric a new packet that has a way stands on it from the event on that makes it.
use Rattle.std.proofs.Common.{◌≡◌, inl, inr, ℕ, ◌≤◌, true, List, [], length, Option, Some, None, refl, sym, ap, ◌∙◌, subst}
use Rattle.std.specs.Prelude.{All, slice_get}
use Rattle.std.proofs.lemmas.Option.{same_Some}
use Rattle.fab_types.specs.declared.place.Direction.{Direction}
use Rattle.fab_types.specs.declared.origin.Origin.{Origin}
use Rattle.fab_types.specs.declared.origin.Origin.TheVariants as origin
use Rattle.fab_types.specs.declared.place.Place.{Place}
use Rattle.fab_types.specs.declared.place.Place.TheVariants.{Ingress, Outbox}
use Rattle.frame_log.specs.Descriptor.{Descriptor}
use Rattle.domain.specs.Domains.{DomainView}
use Rattle.domain.specs.Orders.{IsTo, direct_from}
use Rattle.domain.specs.Sent.{Sent, carrier, sent}
use Rattle.domain.specs.declared.entry.Entry.{Entry}
use Rattle.domain.specs.declared.entry.Entry.TheVariants.{Carry, Deliver}
use Rattle.domains.specs.Domains.{Made, domain_at, place_of, place_of_function}
use Rattle.guarded_routes.specs.Ends.{IsRequestTo}
use Rattle.guarded_routes.specs.Guarded.{IsFunctionOf}
use Rattle.guarded_routes.specs.Sound.{Falling, IsSound, let_by}
use Rattle.guarded_routes.proofs.Links.{path_to, way_of}
use Rattle.guarded_routes.proofs.Passing.{peer_own}
use Rattle.guarded_routes.proofs.Peers.{some_line}
use Rattle.fabric_core.specs.Arrivals.{to_function}
use Rattle.fabric_core.specs.Events.{link_of}
use Rattle.fabric_core.specs.Invariant.{IsFabric}
use Rattle.fabric_core.specs.Orders.{GoesBy, HasWay, StandsOnWay}
use Rattle.fabric_core.specs.Places.{IsFlown, is_numbered}
use Rattle.fabric_core.specs.Soundness.{IsGuardedFabric}
use Rattle.fabric_core.specs.Trails.{across, from_function, from_host, standing_at}
use Rattle.fabric_core.specs.World.{World, is_guarded}
use Rattle.fabric_core.proofs.order.AtPlaces.{Joining, Leaving, Standings}
use Rattle.fabric_core.proofs.order.Carriers.{function_carries, host_carries}
use Rattle.fabric_core.proofs.order.KeptHeads.{direct_head}
use Rattle.fabric_core.proofs.order.Motions.{Motion, Finishes, JoiningIf, Starts}
use Rattle.fabric_core.proofs.order.DownwardOrder.{meant_for}
use Rattle.fabric_core.proofs.soundness.GuardedArrival.{function_home}
use Rattle.fabric_core.proofs.order.WayOrder.{IsNo, all_found, all_left}
use Rattle.fabric_core.proofs.order.NewPackets.{none_next, starts}
use Rattle.fabric_core.proofs.order.NewSent.{New, carried_parties, frame_of, is_named, m_new, new_by, not_same, starts_at}
use Rattle.fabric_core.proofs.order.OrderedSteps.{next, still}
use Rattle.fabric_core.proofs.order.SamePlatforms.{AreSame, function_same, same_back}
use Rattle.fabric_core.proofs.invariant.Settling.{is_home}
use Rattle.fabric_core.proofs.order.Tracks.{On}
use Rattle.fabric_core.proofs.order.UpwardOrder.{all_at}

-- what is of a function is of that one
of_function : (P : ℕ → Type 0) (a b : ℕ) → origin.Function a ≡ origin.Function b → P a → P b
of_function P a b e is = subst P (same_function e) is
  where
    same_function : origin.Function a ≡ origin.Function b → a ≡ b
    same_function e = cc

module _ (w w' : World) (fabric : IsFabric w) (guarded : is_guarded w ≡ true) (g' : IsGuardedFabric w') (same : AreSame (fabric.guarded guarded).platform g'.platform) (place : ℕ) (d d' : DomainView) (at : slice_get w.agents.domains place ≡ Some d) (at' : slice_get w'.agents.domains place ≡ Some d')
    (n : ℕ) (packet : Sent) (listed : slice_get (sent d'.share d'.journal) n ≡ Some packet) (long : length (sent d.share d.journal) ≤ n) (has : HasWay d.share.domain packet) where
  abbrev IsOwn : ℕ → Type 0
  IsOwn function = IsFunctionOf (fabric.guarded guarded).platform d.share.domain function

  abbrev Stands : Type 0
  Stands = StandsOnWay (fabric.guarded guarded).platform w' d n packet

  -- ---- from where, and to whom

  -- whom the host sends it to
  fallen : (f : Standings) (domain : ℕ) → Joining f (standing_at w') (Outbox (origin.Host domain)) (frame_of d n packet) → (function : ℕ) → IsTo function packet.emission.parties → IsOwn function
  fallen f domain j function to =
      let direction = link_of (origin.Host domain) in
      let z = frame_of d n packet in
      let r : Falling g'.platform direction.lower z = all_found (IsSound g'.platform direction) (f (Outbox (origin.Host domain))) [] z (subst (All (IsSound g'.platform direction)) j.put (g'.sound.outboxes (origin.Host domain))) in
      let is : r.function ≡ function = meant_for g'.platform d.share.domain function r.function z.head.parties z.head.header r.meant to in
      function_same g'.platform (fabric.guarded guarded).platform (same_back (fabric.guarded guarded).platform g'.platform same) d.share.domain function (subst (IsFunctionOf g'.platform d.share.domain) is r.own)

  -- the function that begins something
  begun_own : (function : ℕ) → place_of_function w.agents.domains function ≡ Some place → IsOwn function
  begun_own function found =
      let g = fabric.guarded guarded in
      let h = function_home w g function (Some place) found refl in
      let is : h.d ≡ d = same_Some h.d d (sym h.found ∙ (ap (domain_at w.agents.domains) found ∙ at)) in
      subst (λ (x : DomainView). IsFunctionOf g.platform x.share.domain function) is h.own

  starter_own : (entry : Entry) (o : Option ℕ) (from : Origin) → Starts w entry o from → o ≡ Some place → (function : ℕ) → from ≡ origin.Function function → IsOwn function
  starter_own _ _ _ (Starts.Submits f bytes) here function e = of_function IsOwn f function e (begun_own f here)
  starter_own _ _ _ (Starts.Ticks f) here function e = of_function IsOwn f function e (begun_own f here)
  starter_own _ _ _ (Starts.Accesses domain access) here function e = absurd cc

  -- the function that answers what it took
  answerer_own : (frame : Descriptor) (between : Standings) (f : ℕ) → Leaving (standing_at w) between (Ingress (to_function f)) frame → IsRequestTo (fabric.guarded guarded).platform frame f → frame.domain ≡ d.share.domain → IsOwn f
  answerer_own frame between f l request home =
      let g = fabric.guarded guarded in
      let r : Falling g.platform f frame =
      all_found (IsSound g.platform (to_function f)) l.older l.newer frame (subst (All (IsSound g.platform (to_function f))) l.was (all_at w g (to_function f) (Ingress (to_function f)) (On.AtIngress refl))) in
      subst (λ (k : ℕ). IsFunctionOf g.platform k f) home (by r request)
    where
      by : (r : Falling (fabric.guarded guarded).platform f frame) → IsRequestTo (fabric.guarded guarded).platform frame f → IsFunctionOf (fabric.guarded guarded).platform frame.domain f
      by r (inl to) =
          let g = fabric.guarded guarded in
          let is : r.function ≡ f = meant_for g.platform frame.domain f r.function frame.head.parties frame.head.header r.meant (subst (IsTo f) (sym to) refl) in
          subst (IsFunctionOf g.platform frame.domain) is r.own
      by r (inr q) = peer_own (fabric.guarded guarded).platform (fabric.guarded guarded).guarded frame.domain q.sender f q.address q.own q.direct

  -- ---- it joins an outbox

  stands : (f : Standings) (o : Origin) → ((r : Place) → All (IsNo (is_numbered d.share.domain n)) (f r)) → Joining f (standing_at w') (Outbox o) (frame_of d n packet) → packet.source ≡ Some o → ((function : ℕ) → o ≡ origin.Function function → IsOwn function) → Stands
  stands f o none j source own = by has
    where
      on_way : (places : List Place) → GoesBy (fabric.guarded guarded).platform d.share.domain packet places → Stands
      on_way places goes =
          record { places = places; goes = goes; keeps = starts w fabric guarded place d at (standing_at w') packet o n places (frame_of d n packet) goes source f none j (is_named d n packet) }

      by : HasWay d.share.domain packet → Stands
      by (HasWay.FromFunction function from) =
          from_one function from (own function (same_Some o (origin.Function function) (sym source ∙ from))) (direct_from (fabric.guarded guarded).platform.ports function packet.emission) refl
        where
          -- up, or directly to another function
          from_one : (function : ℕ) → packet.source ≡ Some (origin.Function function) → IsOwn function → (to : Option ℕ) → direct_from (fabric.guarded guarded).platform.ports function packet.emission ≡ to → Stands
          from_one function from mine None straight =
              let g = fabric.guarded guarded in
              let way = way_of g.platform g.guarded d.share.domain function mine in
              on_way (from_function function way.0) (GoesBy.Up function way.0 from straight mine way.1)
          from_one function from mine (Some peer) some =
              let g = fabric.guarded guarded in
              let h = direct_head g.platform g.guarded function packet.emission peer some in
              let line = some_line g.platform g.guarded.laws function h.address peer h.direct in
              let path = path_to g.platform g.guarded d.share.domain function mine line.0 line.1 line.2 in
              on_way (across peer function path.0) (GoesBy.Across function peer line.0 path.0 from some mine line.1 line.2 (ap (let_by g.platform line.0) h.same ∙ line.3) path.1)
      by (HasWay.ToFunction function from to) =
          let g = fabric.guarded guarded in
          let is : o ≡ origin.Host d.share.domain = same_Some o (origin.Host d.share.domain) (sym source ∙ from) in
          let mine = fallen f d.share.domain (subst (λ (x : Origin). Joining f (standing_at w') (Outbox x) (frame_of d n packet)) is j) function to in
          let way = way_of g.platform g.guarded d.share.domain function mine in
          on_way (from_host d.share.domain way.0) (GoesBy.Down function way.0 from to mine way.1)

  none_yet : (r : Place) → All (IsNo (is_numbered d.share.domain n)) (standing_at w r)
  none_yet = none_next w fabric guarded place d at n (m_new w w' fabric guarded place d d' at at' n packet listed long)

  begins : (entry : Entry) (o : Option ℕ) (from : Origin) (made : Made) → Starts w entry o from → JoiningIf (standing_at w) (standing_at w') (Outbox from) made.sent → New d d' place n packet entry o made → Stands
  begins entry o from made starts j x =
      stands (standing_at w) from none_yet (subst (JoiningIf (standing_at w) (standing_at w') (Outbox from)) x.sent j) (sym x.from ∙ starts_at w w' fabric guarded place d d' at at' entry o from starts x.here) (starter_own entry o from starts x.here)

  -- ---- an end

  answers : (frame : Descriptor) (f : IsFlown w.agents.domains frame) (made : Made) (between : Standings) (direction : Direction) (from : Origin) → Leaving (standing_at w) between (Ingress direction) frame → carrier d.share f.emission.bytes f.emission.parties ≡ Some from
      → JoiningIf between (standing_at w') (Outbox from) made.sent → New d d' place n packet (Carry frame.number) (place_of w.agents.domains frame.domain) made → ((function : ℕ) → from ≡ origin.Function function → IsOwn function) → Stands
  answers frame f made between direction from l sender j x own =
      stands between from (λ r. all_left (standing_at w) between (Ingress direction) frame l (IsNo (is_numbered d.share.domain n)) r (none_yet r)) (subst (JoiningIf between (standing_at w') (Outbox from)) x.sent j)
      (sym x.from ∙ (carried_parties w w' fabric guarded place d d' at at' frame f x.here ∙ sender)) own

  -- what has a way was put in an outbox
  no_way : packet.source ≡ None → HasWay d.share.domain packet → ⊥
  no_way none (HasWay.FromFunction function from) = let both : None ≡ Some (origin.Function function) = sym none ∙ from in cc
  no_way none (HasWay.ToFunction function from to) = let both : None ≡ Some (origin.Host d.share.domain) = sym none ∙ from in cc

  ends : (frame : Descriptor) → IsFlown w.agents.domains frame → (made : Made) (between : Standings) (direction : Direction) (entry : Entry) (target : Place) → Finishes (fabric.guarded guarded).platform frame direction entry target
      → Leaving (standing_at w) between (Ingress direction) frame → JoiningIf between (standing_at w') target made.sent → New d d' place n packet entry (place_of w.agents.domains frame.domain) made → Stands
  ends frame f made between _ _ _ (Finishes.Stopped line report is_port parties course sound) l j x = absurd (no_way (sym x.from) has)
  ends frame f made between direction _ _ (Finishes.CarriedByHost own) l j x =
      let home : frame.domain ≡ d.share.domain = is_home w.agents.domains frame.domain place d at x.here in
      answers frame f made between direction (origin.Host frame.domain) l (host_carries w (fabric.guarded guarded) place d at frame f own ∙ ap (λ (k : ℕ). Some (origin.Host k)) (sym home)) j x (λ other e. absurd cc)
  ends frame f made between _ _ _ (Finishes.CarriedByFunction function request) l j x =
      let home : frame.domain ≡ d.share.domain = is_home w.agents.domains frame.domain place d at x.here in
      answers frame f made between (to_function function) (origin.Function function) l (function_carries w (fabric.guarded guarded) place d at frame f function request) j x (λ other e. of_function IsOwn function other e (answerer_own frame between function l request home))

  -- ---- any motion

  pub new_way : Motion (fabric.guarded guarded).platform w w' → Stands
  new_way (Motion.Stays stay domains) = absurd (not_same w w' fabric guarded place d d' at at' n packet listed long (still w fabric.kept place d at w' d' at' domains))
  new_way (Motion.Goes source target frame leaps mv domains) = absurd (not_same w w' fabric guarded place d d' at at' n packet listed long (still w fabric.kept place d at w' d' at' domains))
  new_way (Motion.Begins entry o from made starts is j domains) =
      begins entry o from made starts j (new_by w w' fabric guarded place d d' at at' n packet listed long entry o made is (next w fabric.kept place d at w' d' at' entry o made is domains))
  new_way (Motion.Ends direction entry target frame made between finishes f is l j domains) =
      let o = place_of w.agents.domains frame.domain in
      ends frame f made between direction entry target finishes l j (new_by w w' fabric guarded place d d' at at' n packet listed long entry o made is (next w fabric.kept place d at w' d' at' entry o made is domains))
  new_way (Motion.Delivers direction frame made last f is l domains) =
      let o = place_of w.agents.domains frame.domain in
      let x = new_by w w' fabric guarded place d d' at at' n packet listed long (Deliver frame.number) o made is (next w fabric.kept place d at w' d' at' (Deliver frame.number) o made is domains) in
      absurd (no_way (sym x.from) has)
