-- Two kinds of packets of one function stay in turn on its way up through every motion, and the second isn't taken out of
-- flight before the first.
use Rattle.std.proofs.Common.{◌≡◌, ◌≢◌, ◌⊎◌, inl, inr, ℕ, Bool, true, false, List, [], ◌∷◌, ◌++◌, get_or, Option, Some, None, refl, sym, ap, ◌∙◌, subst, ⊎_elim, append_assoc}
use Rattle.std.specs.Prelude.{All, option_map}
use Rattle.std.specs.List.{flat_map}
use Rattle.std.proofs.lemmas.Bool.{false≢true}
use Rattle.std.proofs.lemmas.Grind.{flat_map-append}
use Rattle.std.proofs.lemmas.List.Elements.{All-append, All-nil, All-tail, All-weaker}
use Rattle.fab_types.specs.declared.class.Class.TheVariants.{Posted}
use Rattle.fab_types.specs.declared.head.Answerer.TheVariants as by
use Rattle.fab_types.specs.declared.head.AddressType.{AddressType}
use Rattle.fab_types.specs.declared.head.Header.{Header}
use Rattle.fab_types.specs.declared.head.Header.TheVariants as header
use Rattle.fab_types.specs.declared.head.Parties.TheVariants.{Answer, Upward}
use Rattle.fab_types.specs.declared.place.Direction.{Direction}
use Rattle.fab_types.specs.declared.origin.Origin.TheVariants as origin
use Rattle.fab_types.specs.declared.place.Place.{Place}
use Rattle.fab_types.specs.declared.place.Place.TheVariants.{Outbox, Egress, Wire, Ingress}
use Rattle.fab_types.specs.declared.place.Way.TheVariants.{Up, Down}
use Rattle.fab_types.specs.declared.violation.Violation.{Violation}
use Rattle.frame_log.specs.Descriptor.{Descriptor}
use Rattle.bridge.specs.Bridges.{of_platform}
use Rattle.platform.specs.declared.parts.DownstreamPort.{DownstreamPort}
use Rattle.platform.specs.Egress.{direct_to}
use Rattle.platform.specs.Owners.{is_function}
use Rattle.platform.specs.Platform.{Platform}
use Rattle.platform.specs.Tree.{id_below}
use Rattle.domain.specs.declared.entry.Entry.{Entry}
use Rattle.domain.specs.Orders.{IsUnrelaxed}
use Rattle.port.specs.Configs.{downstream_config}
use Rattle.port.specs.Courses.{course_of}
use Rattle.lane.specs.Lanes.{class_of}
use Rattle.port.specs.declared.course.Forwarding.TheVariants.{Stop}
use Rattle.topology.specs.Links.{sender_of}
use Rattle.topology.specs.declared.nodes.LinkEnd.{LinkEnd}
use Rattle.interconnect.specs.Moves.{channel_at}
use Rattle.guarded_routes.specs.Guarded.{IsFunctionOf, top_id}
use Rattle.guarded_routes.specs.Links.{IsPath, IsWay, link_above}
use Rattle.guarded_routes.specs.Sound.{IsCleared, IsSound, is_reply}
use Rattle.guarded_routes.specs.Ways.{IsRelaxed}
use Rattle.guarded_routes.proofs.Trees.{IsPort}
use Rattle.fabric_core.specs.Soundness.{IsGuardedFabric}
use Rattle.fabric_core.specs.Trails.{In, InOrderOnWay, down, egress_of, from_function, ingress_of, is_ahead, places_on, places_up, standing_at, up, wire_of}
use Rattle.fabric_core.specs.World.{World}
use Rattle.fabric_core.proofs.order.Ahead.{ahead_after}
use Rattle.fabric_core.proofs.invariant.Changing.{all_front}
use Rattle.fabric_core.proofs.order.Motions.{Finishes, IsLast, Leaps}
use Rattle.fabric_core.proofs.order.WayOrder.{IsNo, moved_stood, none_of, none_older, not_taken, stood, order_along, order_moved}
use Rattle.fabric_core.proofs.order.AtPlaces.{Leaving, MayPass, Moving, Standings}
use Rattle.fabric_core.proofs.order.Tracks.{On, in_front, function_distinct, function_enters, function_first, function_ingress, function_received, function_rises, function_sent, further_link, only_function, up_place}
use Rattle.fabric_core.proofs.order.Trails.{Adjoin}

relaxed_reply : (h : Header) → IsRelaxed h → is_reply h ≡ true
relaxed_reply header.Malformed r = absurd r
relaxed_reply (header.Memory requester address_type address) r = absurd r
relaxed_reply (header.OtherRequest requester) r = absurd r
relaxed_reply (header.Completion target relaxed_ordering) r = refl

not_relaxed : (h : Header) → IsRelaxed h → IsUnrelaxed h → ⊥
not_relaxed header.Malformed r u = r
not_relaxed (header.Memory requester address_type address) r u = r
not_relaxed (header.OtherRequest requester) r u = r
not_relaxed (header.Completion target relaxed_ordering) r u = false≢true (sym u ∙ r)

upward_is : (a b : ℕ) → Upward a ≡ Upward b → a ≡ b
upward_is a b e = cc

-- ---- what stands on a way up is sound there

part_back : (P : Descriptor → Type 0) (xs ys : List Descriptor) → All P (xs ++ ys) → All P ys
part_back P [] ys h = h
part_back P (x ∷ xs) ys h = part_back P xs ys (All-tail P x (xs ++ ys) h)

pub all_at : (w : World) (g : IsGuardedFabric w) (d : Direction) (r : Place) → On r d → All (IsSound g.platform d) (standing_at w r)
all_at w g d r on = by (sender_of w.tree.links d) refl
  where
    P : Descriptor → Type 0
    P x = IsSound g.platform d x

    at_end : (e : LinkEnd) → sender_of w.tree.links d ≡ Some e → (r : Place) → On r d → All (IsSound g.platform d) (standing_at w r)
    at_end e is _ (On.AtIngress same) =
        let c = channel_at w.channels e in
        subst (λ (x : Place). All (IsSound g.platform d) (standing_at w x)) (sym same)
        (subst (λ (o : Option LinkEnd). All (IsSound g.platform d) (ingress_of (option_map (channel_at w.channels) o))) (sym is)
        (part_back (IsSound g.platform d) c.wire c.ingress (part_back (IsSound g.platform d) c.egress (c.wire ++ c.ingress) (g.sound.links d e is))))
    at_end e is _ (On.AtWire same) =
        let c = channel_at w.channels e in
        subst (λ (x : Place). All (IsSound g.platform d) (standing_at w x)) (sym same)
        (subst (λ (o : Option LinkEnd). All (IsSound g.platform d) (wire_of (option_map (channel_at w.channels) o))) (sym is)
        (all_front (IsSound g.platform d) c.wire c.ingress (part_back (IsSound g.platform d) c.egress (c.wire ++ c.ingress) (g.sound.links d e is))))
    at_end e is _ (On.AtEgress same) =
        let c = channel_at w.channels e in
        subst (λ (x : Place). All (IsSound g.platform d) (standing_at w x)) (sym same)
        (subst (λ (o : Option LinkEnd). All (IsSound g.platform d) (egress_of (option_map (channel_at w.channels) o))) (sym is)
        (all_front (IsSound g.platform d) c.egress (c.wire ++ c.ingress) (g.sound.links d e is)))

    nowhere : sender_of w.tree.links d ≡ None → (r : Place) → On r d → All (IsSound g.platform d) (standing_at w r)
    nowhere is _ (On.AtIngress same) =
        subst (λ (x : Place). All (IsSound g.platform d) (standing_at w x)) (sym same) (subst (λ (o : Option LinkEnd). All (IsSound g.platform d) (ingress_of (option_map (channel_at w.channels) o))) (sym is) (All-nil (IsSound g.platform d)))
    nowhere is _ (On.AtWire same) =
        subst (λ (x : Place). All (IsSound g.platform d) (standing_at w x)) (sym same) (subst (λ (o : Option LinkEnd). All (IsSound g.platform d) (wire_of (option_map (channel_at w.channels) o))) (sym is) (All-nil (IsSound g.platform d)))
    nowhere is _ (On.AtEgress same) =
        subst (λ (x : Place). All (IsSound g.platform d) (standing_at w x)) (sym same) (subst (λ (o : Option LinkEnd). All (IsSound g.platform d) (egress_of (option_map (channel_at w.channels) o))) (sym is) (All-nil (IsSound g.platform d)))

    by : (o : Option LinkEnd) → sender_of w.tree.links d ≡ o → All (IsSound g.platform d) (standing_at w r)
    by None is = nowhere is r on
    by (Some e) is = at_end e is r on

all_flat : (P : Descriptor → Type 0) (f : Standings) (places : List Place) → ((r : Place) → In r places → All P (f r)) → All P (flat_map f places)
all_flat P f [] h = All-nil P
all_flat P f (x ∷ xs) h = All-append P (f x) (flat_map f xs) (h x (inl refl)) (all_flat P f xs (λ r at. h r (inr at)))

-- ---- the two kinds

-- no posted packet is a completion
pub record IsFirst (frame : Descriptor) : Type 0 where
  pub posted : class_of frame ≡ Posted
  pub request : is_reply frame.head.header ≡ false

-- no port lets it through to another function
abbrev pub IsStraight : Platform → Descriptor → Type 0
IsStraight platform frame = (sender peer requester address : ℕ) (address_type : AddressType) → frame.head.parties ≡ Upward sender → frame.head.header ≡ header.Memory requester address_type address → IsCleared platform sender (header.Memory requester address_type address)
    → direct_to platform.ports sender address ≡ Some peer → ⊥

-- wherever they stand: the first kind is posted, the second not relaxed, and it isn't stopped at a port that the first may
-- pass; and neither goes directly to another function
pub record AreUp (platform : Platform) (f : Standings) (p q : Descriptor → Bool) : Type 0 where
  pub firsts : (r : Place) → All (λ (x : Descriptor). p x ≡ true → IsFirst x) (f r)
  pub seconds : (r : Place) → All (λ (x : Descriptor). q x ≡ true → IsUnrelaxed x.head.header) (f r)
  pub firsts_straight : (r : Place) → All (λ (x : Descriptor). p x ≡ true → IsStraight platform x) (f r)
  pub seconds_straight : (r : Place) → All (λ (x : Descriptor). q x ≡ true → IsStraight platform x) (f r)
  pub further : ((r : Place) → All (λ (x : Descriptor). q x ≡ true → is_reply x.head.header ≡ true) (f r))
      ⊎ (((r : Place) → All (λ (x : Descriptor). q x ≡ true → (line : DownstreamPort) (report : Option Violation) → IsPort platform line → IsFunctionOf platform x.domain (id_below line) → is_reply x.head.header ≡ false → x.head.parties ≡ Upward (id_below line) → course_of (of_platform platform) (downstream_config platform line) x.head ≡ Stop report → ⊥) (f r))
      ⊎ ((r : Place) → All (λ (x : Descriptor). p x ≡ true → (function : ℕ) → x.head.parties ≡ Upward function → IsCleared platform function x.head.header → ⊥) (f r)))

module _ (w : World) (g : IsGuardedFabric w) (domain function : ℕ) (links : List ℕ) (own : IsFunctionOf g.platform domain function) (way : IsWay g.platform function links) (p q : Descriptor → Bool) (are : AreUp g.platform (standing_at w) p q) where
  abbrev places : List Place
  places = from_function function links

  abbrev f : Standings
  f = standing_at w

  -- ---- on

  leaps_along : (source target : Place) (y : Descriptor) → Leaps g.platform y source target → In source places → (IsRelaxed y.head.header → ⊥) → IsStraight g.platform y → (source ≡ Ingress (up top_id) → is_reply y.head.header ≡ true → ⊥) → Adjoin target source places
  leaps_along _ _ y (Leaps.Enters a) at unrelaxed straight stays = function_enters g.platform g.guarded domain function links own way a at
  leaps_along _ _ y (Leaps.Sent a) at unrelaxed straight stays = function_sent g.platform g.guarded domain function links own way a at
  leaps_along _ _ y (Leaps.Received a) at unrelaxed straight stays = function_received g.platform g.guarded domain function links own way a at
  leaps_along _ _ y (Leaps.Rises line above listed is none) at unrelaxed straight stays = function_rises g.platform g.guarded domain function links own way (id_below line) above is at
  leaps_along _ _ y (Leaps.Falls lower above is falling) at unrelaxed straight stays = let way_is = function_ingress g.platform g.guarded domain function links own way (down above) at in absurd cc
  leaps_along _ _ y (Leaps.Crosses lower direction relaxed) at unrelaxed straight stays = absurd (unrelaxed relaxed)
  leaps_along _ _ y (Leaps.Turns line sender peer requester address address_type listed held parties same cleared here direct) at unrelaxed straight stays = absurd (straight sender peer requester address address_type parties same cleared direct)
  leaps_along _ _ y (Leaps.Returns reply) at unrelaxed straight stays = absurd (stays refl reply)

  posted_at : (r : Place) → All (λ (x : Descriptor). p x ≡ true → class_of x ≡ Posted) (f r)
  posted_at r = All-weaker (λ (x : Descriptor). p x ≡ true → IsFirst x) (λ (x : Descriptor). p x ≡ true → class_of x ≡ Posted) (λ x h is. (h is).posted) (f r) (are.firsts r)

  -- none of the first kind is passed
  none_passed : (source : Place) (y : Descriptor) (older newer : List Descriptor) → f source ≡ older ++ y ∷ newer → MayPass y older → All (IsNo p) older
  none_passed source y older newer was passed =
      none_older p q y older passed (all_front (λ (x : Descriptor). p x ≡ true → class_of x ≡ Posted) older (y ∷ newer) (subst (All (λ (x : Descriptor). p x ≡ true → class_of x ≡ Posted)) was (posted_at source)))

  pub up_goes : (f' : Standings) (source target : Place) (y : Descriptor) → Leaps g.platform y source target → Moving f f' source target y → InOrderOnWay f places p q → InOrderOnWay f' places p q
  up_goes f' source target y leaps mv t = by (p y) (q y) refl refl
    where
      along : In source places → (IsRelaxed y.head.header → ⊥) → IsStraight g.platform y → (source ≡ Ingress (up top_id) → is_reply y.head.header ≡ true → ⊥) → InOrderOnWay f' places p q
      along at unrelaxed straight stays =
          order_along p q f f' places source target y mv (function_distinct g.platform function links way) (leaps_along source target y leaps at unrelaxed straight stays)
          (λ is. none_passed source y mv.older mv.newer mv.moved.was mv.passed) t

      by : (first second : Bool) → p y ≡ first → q y ≡ second → InOrderOnWay f' places p q
      by true second is_p is_q =
          let first = moved_stood f f' source target y mv (λ (x : Descriptor). p x ≡ true → IsFirst x) (are.firsts source) is_p in
          ⊎_elim (λ at. along at (λ relaxed. false≢true (sym first.request ∙ relaxed_reply y.head.header relaxed)) (moved_stood f f' source target y mv (λ (x : Descriptor). p x ≡ true → IsStraight g.platform x) (are.firsts_straight source) is_p) (λ top reply. false≢true (sym first.request ∙ reply)))
          (λ none_here. absurd (false≢true (sym (moved_stood f f' source target y mv (IsNo p) none_here) ∙ is_p))) (t.first_on source)
      by false true is_p is_q =
          let second = moved_stood f f' source target y mv (λ (x : Descriptor). q x ≡ true → IsUnrelaxed x.head.header) (are.seconds source) is_q in
          let first = function_first g.platform g.guarded domain function links own way in
          ⊎_elim (λ at. along at (λ relaxed. not_relaxed y.head.header relaxed second) (moved_stood f f' source target y mv (λ (x : Descriptor). q x ≡ true → IsStraight g.platform x) (are.seconds_straight source) is_q)
          (λ top reply. not_taken p q f places first.0 source y mv.older mv.newer mv.moved.was (first.1 ∙ ap (λ (x : Place). x ∷ first.0) (sym top)) (none_passed source y mv.older mv.newer mv.moved.was mv.passed) is_p is_q t.ahead))
          (λ none_here. absurd (false≢true (sym (moved_stood f f' source target y mv (IsNo q) none_here) ∙ is_q))) (t.second_on source)
      by false false is_p is_q = order_moved p q f f' places source target y mv is_p is_q t

  -- ---- the first kind above the function's own link

  is_no : (x : Descriptor) → (p x ≡ true → ⊥) → p x ≡ false
  is_no x none = none_of p q (p x) none

  abbrev Uncleared : Type 0
  Uncleared = (r : Place) → All (λ (x : Descriptor). p x ≡ true → (sender : ℕ) → x.head.parties ≡ Upward sender → IsCleared g.platform sender x.head.header → ⊥) (f r)

  -- a packet of the first kind isn't there, if its first port stops it
  not_above : (x : Descriptor) (link : ℕ) → IsSound g.platform (up link) x → In (Ingress (up link)) places → link ≢ function → (p x ≡ true → IsFirst x) → (p x ≡ true → (sender : ℕ) → x.head.parties ≡ Upward sender → IsCleared g.platform sender x.head.header → ⊥) → p x ≡ true → ⊥
  not_above x link (inr r) at other first uncleared is = false≢true (sym (first is).request ∙ ap is_reply r.reply)
  not_above x link (inl r) at other first uncleared is =
      ⊎_elim (λ e. other (only_function g.platform g.guarded domain function links own way link (ap (is_function g.platform.functions) e ∙ r.own.listed) at))
      (λ cleared. uncleared is r.function r.parties cleared) r.cleared

  -- the links above the first
  record Front (first : ℕ) (all : List ℕ) : Type 0 where
    rest : List ℕ
    is : all ≡ first ∷ rest
    others : first ≡ function → (link : ℕ) → In (Ingress (up link)) (places_up rest) → link ≢ function

  front : (first : ℕ) (all : List ℕ) → IsWay g.platform first all → Front first all
  front _ _ IsPath.AtLast = record { rest = []; is = refl; others = λ same link at. absurd at }
  front _ _ (IsPath.Above lower above rest e falls further) = record {
    rest = rest;
    is = refl;
    others = λ same link at. further_link g.platform g.guarded domain function links own way link above rest (sym (ap (link_above g.platform) same) ∙ e) further at;
  }

  none_above_first : Uncleared → (fr : Front function links) → All (IsNo p) (flat_map f (places_up fr.rest))
  none_above_first uncleared fr =
      all_flat (IsNo p) f (places_up fr.rest) (λ r at.
      let u = up_place r fr.rest at in
      let there : In (Ingress (up u.link)) places =
      subst (λ (ls : List ℕ). In (Ingress (up u.link)) (from_function function ls)) (sym fr.is)
      (in_front (Ingress (up u.link)) (places_up (function ∷ fr.rest)) (Outbox (origin.Function function) ∷ []) (in_front (Ingress (up u.link)) (places_up fr.rest) (places_on (up function)) u.listed)) in
      λ k d less.
      is_no (get_or (f r) k d) (not_above (get_or (f r) k d) u.link (all_at w g (up u.link) r u.on k d less) there (fr.others refl u.link u.listed) (are.firsts r k d less) (uncleared r k d less)))

  -- so it is ahead among those on that link, and in the outbox
  abbrev own_places : List Place
  own_places = places_on (up function) ++ Outbox (origin.Function function) ∷ []

  ahead_below : Uncleared → is_ahead p q (flat_map f places) ≡ true → is_ahead p q (flat_map f own_places) ≡ true
  ahead_below uncleared ahead =
      let fr = front function links way in
      let parts : places ≡ places_up fr.rest ++ own_places = ap (λ (ls : List ℕ). from_function function ls) fr.is ∙ append_assoc (places_up fr.rest) (places_on (up function)) (Outbox (origin.Function function) ∷ []) in
      ahead_after p q (flat_map f (places_up fr.rest)) (flat_map f own_places) (none_above_first uncleared fr)
      (subst (λ (xs : List Descriptor). is_ahead p q xs ≡ true) (ap (λ (xs : List Place). flat_map f xs) parts ∙ flat_map-append f (places_up fr.rest) own_places) ahead)

  -- ---- out of flight

  module _ (f' : Standings) (direction : Direction) (y : Descriptor) (l : Leaving f f' (Ingress direction) y) (t : InOrderOnWay f places p q) (is_p : p y ≡ false) (is_q : q y ≡ true) where
    none_front : All (IsNo p) l.older
    none_front = none_passed (Ingress direction) y l.older l.newer l.was l.passed

    listed_there : In (Ingress direction) places
    listed_there = ⊎_elim (λ at. at) (λ none_here. absurd (false≢true (sym (stood f f' (Ingress direction) y l (IsNo q) none_here) ∙ is_q))) (t.second_on (Ingress direction))

    at_top : direction ≡ up top_id → ⊥
    at_top e =
        let first = function_first g.platform g.guarded domain function links own way in
        not_taken p q f places first.0 (Ingress direction) y l.older l.newer l.was (first.1 ∙ ap (λ (d : Direction). Ingress d ∷ first.0) (sym e)) none_front is_p is_q t.ahead

    on_way_up : direction.way ≡ Down → ⊥
    on_way_up e = let rises = function_ingress g.platform g.guarded domain function links own way direction listed_there in absurd (let both : ◌≡◌ Up Down = sym rises ∙ e in cc)

    pub up_delivers : IsLast y direction → ⊥
    up_delivers last = by direction last refl
      where
        by : (d : Direction) → IsLast y d → direction ≡ d → ⊥
        by _ IsLast.AtHost e = at_top e
        by _ (IsLast.AtFunction h for) e = on_way_up (ap (λ (d : Direction). d.way) e)

    stopped : (line : DownstreamPort) (report : Option Violation) → IsPort g.platform line → direction ≡ up (id_below line) → y.head.parties ≡ Upward (id_below line) → course_of (of_platform g.platform) (downstream_config g.platform line) y.head ≡ Stop report
        → IsSound g.platform (up (id_below line)) y → ⊥
    stopped line report listed e parties course (inr r) = let clash : Upward (id_below line) ≡ Answer (by.Function r.function) r.addressee = sym parties ∙ r.parties in absurd cc
    stopped line report listed e parties course (inl r) =
        ⊎_elim (λ replies. false≢true (sym r.request ∙ stood f f' (Ingress direction) y l (λ (x : Descriptor). q x ≡ true → is_reply x.head.header ≡ true) (replies (Ingress direction)) is_q))
        (λ other. ⊎_elim
        (λ passed. stood f f' (Ingress direction) y l (λ (x : Descriptor). q x ≡ true → (line : DownstreamPort) (report : Option Violation) → IsPort g.platform line → IsFunctionOf g.platform x.domain (id_below line) → is_reply x.head.header ≡ false → x.head.parties ≡ Upward (id_below line) → course_of (of_platform g.platform) (downstream_config g.platform line) x.head ≡ Stop report → ⊥) (passed (Ingress direction)) is_q line report listed own_sender r.request parties course)
        (λ uncleared.
        not_taken p q f own_places (Wire (up function) ∷ Egress (up function) ∷ Outbox (origin.Function function) ∷ []) (Ingress direction) y l.older l.newer l.was (ap (λ (d : Direction). Ingress d ∷ Wire (up function) ∷ Egress (up function) ∷ Outbox (origin.Function function) ∷ []) (sym own_link)) none_front is_p is_q (ahead_below uncleared t.ahead)) other)
        are.further
      where
        same_sender : r.function ≡ id_below line
        same_sender = upward_is r.function (id_below line) (sym r.parties ∙ parties)

        own_sender : IsFunctionOf g.platform y.domain (id_below line)
        own_sender = subst (IsFunctionOf g.platform y.domain) same_sender r.own

        own_link : direction ≡ up function
        own_link =
            e ∙ ap up (only_function g.platform g.guarded domain function links own way (id_below line) (ap (is_function g.platform.functions) (sym same_sender) ∙ r.own.listed)
            (subst (λ (d : Direction). In (Ingress d) places) e listed_there))

    pub up_ends : (entry : Entry) (target : Place) → Finishes g.platform y direction entry target → ⊥
    up_ends entry target finishes = by direction entry target finishes refl
      where
        by : (d : Direction) (entry : Entry) (target : Place) → Finishes g.platform y d entry target → direction ≡ d → ⊥
        by _ _ _ (Finishes.Stopped line report listed parties course sound) e = stopped line report listed e parties course sound
        by _ _ _ (Finishes.CarriedByHost own) e = at_top e
        by _ _ _ (Finishes.CarriedByFunction h parties) e = on_way_up (ap (λ (d : Direction). d.way) e)
