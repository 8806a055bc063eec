-- Two kinds of packets that go directly from one function to another stay in turn on their way through every motion, and the
-- second isn't taken out of flight before the first.
use Rattle.std.proofs.Common.{◌≡◌, ◌≢◌, inl, inr, ℕ, Bool, true, false, List, ◌∷◌, ◌++◌, Option, Some, None, refl, sym, ap, ◌∙◌, subst, arith, ⊎_elim}
use Rattle.std.specs.Prelude.{All}
use Rattle.std.proofs.lemmas.Bool.{false≢true}
use Rattle.std.proofs.lemmas.Option.{same_Some}
use Rattle.fab_types.specs.Id.{bus_of}
use Rattle.fab_types.specs.declared.class.Class.TheVariants.{Posted}
use Rattle.fab_types.specs.declared.head.AddressType.{AddressType}
use Rattle.fab_types.specs.declared.head.Answerer.TheVariants as by
use Rattle.fab_types.specs.declared.head.Header.{Header}
use Rattle.fab_types.specs.declared.head.Header.TheVariants as header
use Rattle.fab_types.specs.declared.head.Parties.TheVariants.{Answer, Upward}
use Rattle.fab_types.specs.declared.place.Direction.{Direction}
use Rattle.fab_types.specs.declared.place.Place.{Place}
use Rattle.fab_types.specs.declared.place.Place.TheVariants.{Egress, Ingress, Wire}
use Rattle.fab_types.specs.declared.violation.Violation.{Violation}
use Rattle.frame_log.specs.Descriptor.{Descriptor}
use Rattle.bridge.specs.Bridges.{of_platform}
use Rattle.platform.specs.declared.parts.DownstreamPort.{DownstreamPort}
use Rattle.platform.specs.Egress.{direct_at, direct_to}
use Rattle.platform.specs.Owners.{holds_bus, is_function}
use Rattle.platform.specs.Platform.{Platform}
use Rattle.platform.specs.Tree.{id_below, port_leading_to}
use Rattle.domain.specs.declared.entry.Entry.{Entry}
use Rattle.port.specs.Configs.{downstream_config}
use Rattle.port.specs.Courses.{course_of}
use Rattle.port.specs.declared.course.Forwarding.TheVariants.{Stop}
use Rattle.lane.specs.Lanes.{class_of}
use Rattle.guarded_routes.specs.Guarded.{IsFunctionOf, IsGuarded, top_id}
use Rattle.guarded_routes.specs.Links.{IsPath, link_above}
use Rattle.guarded_routes.specs.Sound.{IsCleared, IsSound, is_reply, let_by}
use Rattle.guarded_routes.specs.Ways.{IsRelaxed}
use Rattle.guarded_routes.proofs.Below.{not_first}
use Rattle.guarded_routes.proofs.Nodes.{over_is}
use Rattle.guarded_routes.proofs.Peers.{Peer, one_line, peer_at, some_line}
use Rattle.guarded_routes.proofs.Trees.{IsPort}
use Rattle.fabric_core.specs.Soundness.{IsGuardedFabric}
use Rattle.fabric_core.specs.Trails.{In, InOrderOnWay, across, down, from_function, standing_at, up}
use Rattle.fabric_core.specs.World.{World}
use Rattle.fabric_core.proofs.invariant.Changing.{all_front}
use Rattle.fabric_core.proofs.order.Motions.{Finishes, IsLast, Leaps}
use Rattle.fabric_core.proofs.order.WayOrder.{IsNo, moved_stood, none_older, not_taken, stood, order_along, order_moved}
use Rattle.fabric_core.proofs.order.AtPlaces.{Leaving, MayPass, Moving, Standings}
use Rattle.fabric_core.proofs.order.Tracks.{above_switch, across_above, across_distinct, across_down, across_enters, across_received, across_rises, across_sent, across_turns}
use Rattle.fabric_core.proofs.order.Trails.{Adjoin}

-- a memory request that its first port lets pass, and that goes directly from this function to that one
pub record IsDirect (platform : Platform) (function peer : ℕ) (frame : Descriptor) : Type 0 where
  pub requester : ℕ
  pub address : ℕ
  pub address_type : AddressType
  pub same : frame.head.header ≡ header.Memory requester address_type address
  pub cleared : IsCleared platform function (header.Memory requester address_type address)
  pub direct : direct_to platform.ports function address ≡ Some peer
  pub sender : (sender : ℕ) → frame.head.parties ≡ Upward sender → sender ≡ function

-- no first port stops it
abbrev pub NeverStops : Platform → Descriptor → Type 0
NeverStops platform x =
    (line : DownstreamPort) (report : Option Violation) → IsPort platform line → IsFunctionOf platform x.domain (id_below line) → is_reply x.head.header ≡ false → x.head.parties ≡ Upward (id_below line)
    → course_of (of_platform platform) (downstream_config platform line) x.head ≡ Stop report → ⊥

-- wherever they stand both kinds go so, the first is posted, and the second isn't stopped
pub record AreAcross (platform : Platform) (function peer : ℕ) (f : Standings) (p q : Descriptor → Bool) : Type 0 where
  pub firsts : (r : Place) → All (λ (x : Descriptor). p x ≡ true → class_of x ≡ Posted) (f r)
  pub first_direct : (r : Place) → All (λ (x : Descriptor). p x ≡ true → IsDirect platform function peer x) (f r)
  pub second_direct : (r : Place) → All (λ (x : Descriptor). q x ≡ true → IsDirect platform function peer x) (f r)
  pub second_passes : (r : Place) → All (λ (x : Descriptor). q x ≡ true → NeverStops platform x) (f r)

-- the port lets it through to the function below another port of its switch
pub let_peer : (platform : Platform) → IsGuarded platform → (line : DownstreamPort) → IsPort platform line → (peer : ℕ) (h : Header) → let_by platform line h ≡ Some peer → (address : ℕ) × Peer platform line address peer
let_peer platform g line listed peer header.Malformed lets = absurd cc
let_peer platform g line listed peer (header.Memory requester address_type address) lets = (address, peer_at platform g.laws line listed address peer lets)
let_peer platform g line listed peer (header.OtherRequest requester) lets = absurd cc
let_peer platform g line listed peer (header.Completion target relaxed_ordering) lets = absurd cc

same_address : (one other a b : ℕ) (x y : AddressType) → header.Memory one x a ≡ header.Memory other y b → a ≡ b
same_address one other a b x y e = cc

no_relaxed : (h : Header) (requester address : ℕ) (address_type : AddressType) → h ≡ header.Memory requester address_type address → IsRelaxed h → ⊥
no_relaxed h requester address address_type same r = subst IsRelaxed same r

no_reply : (h : Header) (requester address : ℕ) (address_type : AddressType) → h ≡ header.Memory requester address_type address → is_reply h ≡ true → ⊥
no_reply h requester address address_type same reply = false≢true (sym (ap is_reply same) ∙ reply)

upward_is : (a b : ℕ) → Upward a ≡ Upward b → a ≡ b
upward_is a b e = cc

module _ (w : World) (g : IsGuardedFabric w) (domain function peer : ℕ) (line : DownstreamPort) (links : List ℕ) (own : IsFunctionOf g.platform domain function) (listed : IsPort g.platform line) (held : holds_bus line (bus_of function) ≡ true) (path : IsPath g.platform (id_below line) function links)
    (address : ℕ) (beyond : Peer g.platform line address peer) (p q : Descriptor → Bool) (are : AreAcross g.platform function peer (standing_at w) p q) where
  abbrev places : List Place
  places = across peer function links

  abbrev f : Standings
  f = standing_at w

  -- ---- on

  below_once : (a b : DownstreamPort) → IsPort g.platform a → IsPort g.platform b → id_below a ≡ id_below b → a ≡ b
  below_once a b there also same =
      same_Some a b (sym (over_is g.platform g.guarded.laws a there) ∙ (ap (port_leading_to g.platform.ports) same ∙ over_is g.platform g.guarded.laws b also))

  leads : is_function g.platform.functions peer ≡ true
  leads = ap (is_function g.platform.functions) beyond.below ∙ beyond.leads

  -- the port over the last link lets it through, and so does no other
  the_line : (address' : ℕ) (other : DownstreamPort) → IsPort g.platform other → holds_bus other (bus_of function) ≡ true → direct_at g.platform.ports address' other ≡ Some peer → other ≡ line
  the_line address' other also there through_other =
      one_line g.platform g.guarded.laws other line also listed (bus_of function) address' address peer there held (peer_at g.platform g.guarded.laws other also address' peer through_other) beyond

  through : (x : Descriptor) (d : IsDirect g.platform function peer x) → let_by g.platform line x.head.header ≡ Some peer
  through x d =
      let there = some_line g.platform g.guarded.laws function d.address peer d.direct in
      let one : there.0 ≡ line = the_line d.address there.0 there.1 there.2 there.3 in
      ap (let_by g.platform line) d.same ∙ subst (λ (r : DownstreamPort). direct_at g.platform.ports d.address r ≡ Some peer) one there.3

  rises_along : (y : Descriptor) → IsDirect g.platform function peer y → (other : DownstreamPort) (above : ℕ) → IsPort g.platform other → link_above g.platform (id_below other) ≡ Some above → let_by g.platform other y.head.header ≡ None → In (Ingress (up (id_below other))) places
      → Adjoin (Egress (up above)) (Ingress (up (id_below other))) places
  rises_along y d other above also is none at = across_rises g.platform g.guarded domain function peer (id_below line) links own path (id_below other) above is not_last at
    where
      not_last : id_below other ≢ id_below line
      not_last same =
          let one : other ≡ line = below_once other line also listed same in
          let some : let_by g.platform other y.head.header ≡ Some peer = ap (λ (r : DownstreamPort). let_by g.platform r y.head.header) one ∙ through y d in
          let both : None ≡ Some peer = sym none ∙ some in absurd cc

  turns_along : (y : Descriptor) → IsDirect g.platform function peer y → (other : DownstreamPort) (sender peer' requester address : ℕ) (address_type : AddressType) → IsPort g.platform other → holds_bus other (bus_of sender) ≡ true → y.head.parties ≡ Upward sender → y.head.header ≡ header.Memory requester address_type address
      → direct_at g.platform.ports address other ≡ Some peer' → direct_to g.platform.ports sender address ≡ Some peer' → Adjoin (Egress (down peer')) (Ingress (up (id_below other))) places
  turns_along y d other sender peer' requester address address_type also there parties same here direct =
      let by : sender ≡ function = d.sender sender parties in
      let address_is : address ≡ d.address = same_address requester d.requester address d.address address_type d.address_type (sym same ∙ d.same) in
      let peer_is : peer' ≡ peer = same_Some peer' peer (sym direct ∙ (ap (λ (k : ℕ). direct_to g.platform.ports k address) by ∙ (ap (direct_to g.platform.ports function) address_is ∙ d.direct))) in
      let one : other ≡ line = the_line d.address other also (ap (λ (k : ℕ). holds_bus other (bus_of k)) (sym by) ∙ there) (ap (λ (a : ℕ). direct_at g.platform.ports a other) (sym address_is) ∙ (here ∙ ap (λ (k : ℕ). Some k) peer_is)) in
      subst (λ (k : ℕ). Adjoin (Egress (down k)) (Ingress (up (id_below other))) places) (sym peer_is)
      (subst (λ (r : DownstreamPort). Adjoin (Egress (down peer)) (Ingress (up (id_below r))) places) (sym one) (across_turns g.platform g.guarded domain function peer (id_below line) links own path))

  leaps_along : (source target : Place) (y : Descriptor) → Leaps g.platform y source target → In source places → IsDirect g.platform function peer y → (source ≡ Ingress (up top_id) → ⊥) → Adjoin target source places
  leaps_along _ _ y (Leaps.Enters a) at d top = across_enters g.platform g.guarded domain function peer (id_below line) links own path a at
  leaps_along _ _ y (Leaps.Sent a) at d top = across_sent g.platform g.guarded domain function peer (id_below line) links own path a at
  leaps_along _ _ y (Leaps.Received a) at d top = across_received g.platform g.guarded domain function peer (id_below line) links own path a at
  leaps_along _ _ y (Leaps.Rises other above also is none) at d top = rises_along y d other above also is none at
  leaps_along _ _ y (Leaps.Falls lower above is falling) at d top =
      let same = across_down g.platform g.guarded domain function peer (id_below line) links own path above at in
      absurd (above_switch g.platform g.guarded lower above is (ap (is_function g.platform.functions) same ∙ leads))
  leaps_along _ _ y (Leaps.Crosses lower direction relaxed) at d top = absurd (no_relaxed y.head.header d.requester d.address d.address_type d.same relaxed)
  leaps_along _ _ y (Leaps.Turns other sender peer' requester address address_type also there parties same cleared here direct) at d top = turns_along y d other sender peer' requester address address_type also there parties same here direct
  leaps_along _ _ y (Leaps.Returns reply) at d top = absurd (no_reply y.head.header d.requester d.address d.address_type d.same reply)

  -- the host isn't on this way
  not_at_top : In (Ingress (up top_id)) places → ⊥
  not_at_top at =
      let above = across_above g.platform g.guarded domain function peer (id_below line) links own path top_id at in
      let more = not_first g.platform g.guarded.laws line listed in
      absurd (omega (arith, above, more))

  none_passed : (source : Place) (y : Descriptor) (older newer : List Descriptor) → f source ≡ older ++ y ∷ newer → MayPass y older → All (IsNo p) older
  none_passed source y older newer was passed =
      none_older p q y older passed (all_front (λ (x : Descriptor). p x ≡ true → class_of x ≡ Posted) older (y ∷ newer) (subst (All (λ (x : Descriptor). p x ≡ true → class_of x ≡ Posted)) was (are.firsts source)))

  pub across_goes : (f' : Standings) (source target : Place) (y : Descriptor) → Leaps g.platform y source target → Moving f f' source target y → InOrderOnWay f places p q → InOrderOnWay f' places p q
  across_goes f' source target y leaps mv t = by (p y) (q y) refl refl
    where
      along : In source places → IsDirect g.platform function peer y → InOrderOnWay f' places p q
      along at d =
          order_along p q f f' places source target y mv (across_distinct g.platform g.guarded domain function peer (id_below line) links own path)
          (leaps_along source target y leaps at d (λ top. not_at_top (subst (λ (r : Place). In r places) top at))) (λ is. none_passed source y mv.older mv.newer mv.moved.was mv.passed) t

      by : (first second : Bool) → p y ≡ first → q y ≡ second → InOrderOnWay f' places p q
      by true second is_p is_q =
          ⊎_elim (λ at. along at (moved_stood f f' source target y mv (λ (x : Descriptor). p x ≡ true → IsDirect g.platform function peer x) (are.first_direct source) is_p))
          (λ none_here. absurd (false≢true (sym (moved_stood f f' source target y mv (IsNo p) none_here) ∙ is_p))) (t.first_on source)
      by false true is_p is_q =
          ⊎_elim (λ at. along at (moved_stood f f' source target y mv (λ (x : Descriptor). q x ≡ true → IsDirect g.platform function peer x) (are.second_direct source) is_q))
          (λ none_here. absurd (false≢true (sym (moved_stood f f' source target y mv (IsNo q) none_here) ∙ is_q))) (t.second_on source)
      by false false is_p is_q = order_moved p q f f' places source target y mv is_p is_q t

  -- ---- out of flight

  module _ (f' : Standings) (direction : Direction) (y : Descriptor) (l : Leaving f f' (Ingress direction) y) (t : InOrderOnWay f places p q) (is_p : p y ≡ false) (is_q : q y ≡ true) where
    listed_there : In (Ingress direction) places
    listed_there = ⊎_elim (λ at. at) (λ none_here. absurd (false≢true (sym (stood f f' (Ingress direction) y l (IsNo q) none_here) ∙ is_q))) (t.second_on (Ingress direction))

    at_top : direction ≡ up top_id → ⊥
    at_top e = not_at_top (subst (λ (d : Direction). In (Ingress d) places) e listed_there)

    abbrev rest : List Place
    rest = Wire (down peer) ∷ Egress (down peer) ∷ from_function function links

    at_peer : direction ≡ down peer → ⊥
    at_peer e =
        not_taken p q f places rest (Ingress direction) y l.older l.newer l.was (ap (λ (d : Direction). Ingress d ∷ rest) (sym e)) (none_passed (Ingress direction) y l.older l.newer l.was l.passed) is_p is_q t.ahead

    at_some : (h : ℕ) → direction ≡ down h → ⊥
    at_some h e =
        let same = across_down g.platform g.guarded domain function peer (id_below line) links own path h (subst (λ (d : Direction). In (Ingress d) places) e listed_there) in
        at_peer (e ∙ ap down same)

    pub across_delivers : IsLast y direction → ⊥
    across_delivers last = by direction last refl
      where
        by : (d : Direction) → IsLast y d → direction ≡ d → ⊥
        by _ IsLast.AtHost e = at_top e
        by _ (IsLast.AtFunction h for) e = at_some h e

    pub across_ends : (entry : Entry) (target : Place) → Finishes g.platform y direction entry target → ⊥
    across_ends entry target finishes = over direction entry target finishes refl
      where
        over : (d : Direction) (entry : Entry) (target : Place) → Finishes g.platform y d entry target → direction ≡ d → ⊥
        over _ _ _ (Finishes.Stopped other report also parties course sound) e = stopped sound
          where
            stopped : IsSound g.platform (up (id_below other)) y → ⊥
            stopped (inr r) = let clash : Upward (id_below other) ≡ Answer (by.Function r.function) r.addressee = sym parties ∙ r.parties in absurd cc
            stopped (inl r) =
                let from : r.function ≡ id_below other = upward_is r.function (id_below other) (sym r.parties ∙ parties) in
                stood f f' (Ingress direction) y l (λ (x : Descriptor). q x ≡ true → NeverStops g.platform x) (are.second_passes (Ingress direction)) is_q other report also (subst (IsFunctionOf g.platform y.domain) from r.own) r.request parties course
        over _ _ _ (Finishes.CarriedByHost own) e = at_top e
        over _ _ _ (Finishes.CarriedByFunction h request) e = at_some h e
