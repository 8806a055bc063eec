-- What stands at each place of a fabric, where a packet leaves one or joins one.
use Rattle.std.proofs.Common.{◌≡◌, ◌≢◌, ◌⊎◌, inl, inr, true, List, [], ◌∷◌, ◌++◌, get_or, set, Option, Some, None, refl, sym, ap, ◌∙◌, subst}
use Rattle.std.specs.Prelude.{All, option_map}
use Rattle.std.proofs.lemmas.List.{get_or-set_same}
use Rattle.std.proofs.lemmas.List.Elements.{All-nil}
use Rattle.fab_types.specs.declared.place.Direction.{Direction}
use Rattle.fab_types.specs.declared.place.Place.{Place}
use Rattle.fab_types.specs.declared.place.Place.TheVariants as place
use Rattle.fab_types.specs.declared.place.Place.TheVariants.{Egress, Wire, Ingress}
use Rattle.frame_log.specs.Descriptor.{Descriptor}
use Rattle.domains.specs.Agents.{Outbox}
use Rattle.link.specs.Channels.{Channel, with_egress}
use Rattle.ordering.specs.Ordering.{passes}
use Rattle.ordering.proofs.Leaving.{taken_leaves}
use Rattle.lane.specs.Lanes.{Class, class_of, eligible}
use Rattle.topology.specs.Links.{sender_of}
use Rattle.topology.specs.declared.links.Link.{Link}
use Rattle.topology.specs.declared.nodes.LinkEnd.{LinkEnd}
use Rattle.interconnect.specs.Moves.{channel_at, left_at, no_channel, put_at, with_channel, with_ingress}
use Rattle.fabric_core.specs.Trails.{channel_in, egress_of, ingress_of, standing_in, wire_of}
use Rattle.fabric_core.proofs.soundness.SoundLinks.{Either, either_channel}
use Rattle.fabric_core.proofs.invariant.Standing.{IsThere}
use Rattle.fabric_core.proofs.order.Trails.{Moved}

abbrev pub Standings : Type 0
Standings = Place → List Descriptor

-- it may pass each of these
abbrev pub MayPass : Descriptor → List Descriptor → Type 0
MayPass frame older = All (λ (x : Descriptor). passes (class_of frame) (class_of x) ≡ true) older

-- a packet leaves its place, and all older ones there it may pass
pub record Leaving (f f' : Standings) (source : Place) (frame : Descriptor) : Type 0 where
  pub older : List Descriptor
  pub newer : List Descriptor
  pub was : f source ≡ older ++ frame ∷ newer
  pub left : f' source ≡ older ++ newer
  pub others : (r : Place) → (f' r ≡ f r) ⊎ (r ≡ source)
  pub passed : MayPass frame older

-- a packet joins a place
pub record Joining (f f' : Standings) (target : Place) (frame : Descriptor) : Type 0 where
  pub put : f' target ≡ f target ++ frame ∷ []
  pub others : (r : Place) → (f' r ≡ f r) ⊎ (r ≡ target)

-- a packet leaves a place for another
pub record Moving (f f' : Standings) (source target : Place) (frame : Descriptor) : Type 0 where
  pub older : List Descriptor
  pub newer : List Descriptor
  pub moved : Moved f f' source target older newer frame
  pub passed : MayPass frame older

pub leave_and_join : (f f1 f' : Standings) (source target : Place) (frame : Descriptor) → source ≢ target → Leaving f f1 source frame → Joining f1 f' target frame → Moving f f' source target frame
leave_and_join f f1 f' source target frame apart l j = record {
  older = l.older;
  newer = l.newer;
  moved = record { was = l.was; left = still_left (j.others source); put = j.put ∙ ap (λ (xs : List Descriptor). xs ++ frame ∷ []) (still_there (l.others target)); others = λ r. either r (l.others r) (j.others r) };
  passed = l.passed;
}
  where
    still_left : (f' source ≡ f1 source) ⊎ (source ≡ target) → f' source ≡ l.older ++ l.newer
    still_left (inl same) = same ∙ l.left
    still_left (inr e) = absurd (apart e)

    still_there : (f1 target ≡ f target) ⊎ (target ≡ source) → f1 target ≡ f target
    still_there (inl same) = same
    still_there (inr e) = absurd (apart (sym e))

    either : (r : Place) → (f1 r ≡ f r) ⊎ (r ≡ source) → (f' r ≡ f1 r) ⊎ (r ≡ target) → (f' r ≡ f r) ⊎ ((r ≡ source) ⊎ (r ≡ target))
    either r (inl a) (inl b) = inl (b ∙ a)
    either r (inl a) (inr e) = inr (inr e)
    either r (inr e) b = inr (inl e)

-- ---- on links

-- one direction alone is sent from an end
abbrev pub AreSentApart : List Link → Type 0
AreSentApart links = (one other : Direction) (end : LinkEnd) → sender_of links one ≡ Some end → sender_of links other ≡ Some end → one ≡ other

channel_there : (channels : List (List Channel)) (end : LinkEnd) (c : Channel) → IsThere channels end → channel_at (with_channel channels end c) end ≡ c
channel_there channels end c there =
    let outputs = get_or channels end.node [] in
    ap (λ (xs : List Channel). get_or xs end.output no_channel) (get_or-set_same channels end.node (set outputs end.output c) [] there.node) ∙ get_or-set_same outputs end.output c no_channel there.output

module _ (links : List Link) (channels : List (List Channel)) (direction : Direction) (end : LinkEnd) (alone : AreSentApart links) (from : sender_of links direction ≡ Some end) where
  pub channel_is : channel_in links channels direction ≡ Some (channel_at channels end)
  channel_is = ap (option_map (channel_at channels)) from

  pub channel_now : (c : Channel) → IsThere channels end → channel_in links (with_channel channels end c) direction ≡ Some c
  channel_now c there = ap (option_map (channel_at (with_channel channels end c))) from ∙ ap (λ (x : Channel). Some x) (channel_there channels end c there)

  -- each direction is as it was, or is the one that changed
  either_in : (c : Channel) (other : Direction) → (channel_in links (with_channel channels end c) other ≡ channel_in links channels other) ⊎ ((other ≡ direction) × (channel_in links (with_channel channels end c) other ≡ Some c))
  either_in c other = by (sender_of links other) refl
    where
      at_end : (e : LinkEnd) → sender_of links other ≡ Some e → Either channels end e c
          → (option_map (channel_at (with_channel channels end c)) (Some e) ≡ option_map (channel_at channels) (Some e)) ⊎ ((other ≡ direction) × (option_map (channel_at (with_channel channels end c)) (Some e) ≡ Some c))
      at_end e is (inl same) = inl (ap (λ (x : Channel). Some x) same)
      at_end e is (inr h) = inr (alone other direction end (is ∙ ap (λ (x : LinkEnd). Some x) h.0) from, ap (λ (x : Channel). Some x) h.1)

      by : (o : Option LinkEnd) → sender_of links other ≡ o
          → (option_map (channel_at (with_channel channels end c)) (sender_of links other) ≡ option_map (channel_at channels) (sender_of links other)) ⊎ ((other ≡ direction) × (option_map (channel_at (with_channel channels end c)) (sender_of links other) ≡ Some c))
      by None is = inl (ap (option_map (channel_at (with_channel channels end c))) is ∙ sym (ap (option_map (channel_at channels)) is))
      by (Some e) is =
          subst (λ (o : Option LinkEnd). (option_map (channel_at (with_channel channels end c)) o ≡ option_map (channel_at channels) o) ⊎ ((other ≡ direction) × (option_map (channel_at (with_channel channels end c)) o ≡ Some c))) (sym is)
          (at_end e is (either_channel channels end e c))

  -- a part of a direction that didn't change
  part_same : (part : Option Channel → List Descriptor) (c : Channel) → part (Some c) ≡ part (Some (channel_at channels end)) → (other : Direction) → part (channel_in links (with_channel channels end c) other) ≡ part (channel_in links channels other)
  part_same part c same other = by (either_in c other)
    where
      by : (channel_in links (with_channel channels end c) other ≡ channel_in links channels other) ⊎ ((other ≡ direction) × (channel_in links (with_channel channels end c) other ≡ Some c))
          → part (channel_in links (with_channel channels end c) other) ≡ part (channel_in links channels other)
      by (inl e) = ap part e
      by (inr h) = ap part h.1 ∙ (same ∙ (sym (ap part channel_is) ∙ ap (λ (d : Direction). part (channel_in links channels d)) (sym h.0)))

  part_changed : (part : Option Channel → List Descriptor) (c : Channel) (other : Direction) → (part (channel_in links (with_channel channels end c) other) ≡ part (channel_in links channels other)) ⊎ (other ≡ direction)
  part_changed part c other = by (either_in c other)
    where
      by : (channel_in links (with_channel channels end c) other ≡ channel_in links channels other) ⊎ ((other ≡ direction) × (channel_in links (with_channel channels end c) other ≡ Some c))
          → (part (channel_in links (with_channel channels end c) other) ≡ part (channel_in links channels other)) ⊎ (other ≡ direction)
      by (inl e) = inl (ap part e)
      by (inr h) = inr h.0

  named : (at : Direction → Place) (part : Option Channel → List Descriptor) (c : Channel) (other : Direction) → (part (channel_in links (with_channel channels end c) other) ≡ part (channel_in links channels other)) ⊎ (at other ≡ at direction)
  named at part c other = by (part_changed part c other)
    where
      by : (part (channel_in links (with_channel channels end c) other) ≡ part (channel_in links channels other)) ⊎ (other ≡ direction)
          → (part (channel_in links (with_channel channels end c) other) ≡ part (channel_in links channels other)) ⊎ (at other ≡ at direction)
      by (inl e) = inl e
      by (inr e) = inr (ap at e)

  module _ (boxes : List Outbox) where
    abbrev before : Standings
    before = standing_in links channels boxes

    abbrev after : Channel → Standings
    after c = standing_in links (with_channel channels end c) boxes

    -- a packet is taken at the receiver
    pub left_there : (class : Class) (frame : Descriptor) (rest : List Descriptor) → IsThere channels end → eligible class (channel_at channels end).ingress ≡ Some (frame, rest)
        → Leaving before (standing_in links (left_at channels end rest) boxes) (Ingress direction) frame
    left_there class frame rest there e =
        let c = channel_at channels end in
        let l = taken_leaves class_of class c.ingress frame rest e in
        let now = with_ingress c rest in record {
          older = l.older;
          newer = l.newer;
          was = ap ingress_of channel_is ∙ l.queue;
          left = ap ingress_of (channel_now now there) ∙ l.is_left;
          others = others now refl refl;
          passed = subst (λ (k : Class). All (λ (x : Descriptor). passes k (class_of x) ≡ true) l.older) (sym l.of_class) l.passes_older;
        }
      where
        others : (now : Channel) → now.egress ≡ (channel_at channels end).egress → now.wire ≡ (channel_at channels end).wire → (r : Place) → (after now r ≡ before r) ⊎ (r ≡ Ingress direction)
        others now a b (place.Outbox origin) = inl refl
        others now a b (Egress other) = inl (part_same egress_of now a other)
        others now a b (Wire other) = inl (part_same wire_of now b other)
        others now a b (Ingress other) = named (λ (d : Direction). Ingress d) ingress_of now other

    -- a packet is put to the sender
    pub put_to : (frame : Descriptor) → IsThere channels end → Joining before (standing_in links (put_at channels end frame) boxes) (Egress direction) frame
    put_to frame there =
        let c = channel_at channels end in
        let now = with_egress c (c.egress ++ frame ∷ []) in record {
          put = ap egress_of (channel_now now there) ∙ ap (λ (xs : List Descriptor). xs ++ frame ∷ []) (sym (ap egress_of channel_is));
          others = others now refl refl;
        }
      where
        others : (now : Channel) → now.wire ≡ (channel_at channels end).wire → now.ingress ≡ (channel_at channels end).ingress → (r : Place) → (after now r ≡ before r) ⊎ (r ≡ Egress direction)
        others now a b (place.Outbox origin) = inl refl
        others now a b (Egress other) = named (λ (d : Direction). Egress d) egress_of now other
        others now a b (Wire other) = inl (part_same wire_of now a other)
        others now a b (Ingress other) = inl (part_same ingress_of now b other)

    -- the eligible packet of a class goes on the wire
    pub sent_there : (class : Class) (frame : Descriptor) (rest : List Descriptor) (now : Channel) → IsThere channels end → eligible class (channel_at channels end).egress ≡ Some (frame, rest)
        → now.egress ≡ rest → now.wire ≡ (channel_at channels end).wire ++ frame ∷ [] → now.ingress ≡ (channel_at channels end).ingress → Moving before (after now) (Egress direction) (Wire direction) frame
    sent_there class frame rest now there e is_egress is_wire is_ingress =
        let c = channel_at channels end in
        let l = taken_leaves class_of class c.egress frame rest e in record {
          older = l.older;
          newer = l.newer;
          moved = record {
            was = ap egress_of channel_is ∙ l.queue;
            left = ap egress_of (channel_now now there) ∙ (is_egress ∙ l.is_left);
            put = ap wire_of (channel_now now there) ∙ (is_wire ∙ ap (λ (xs : List Descriptor). xs ++ frame ∷ []) (sym (ap wire_of channel_is)));
            others = others;
          };
          passed = subst (λ (k : Class). All (λ (x : Descriptor). passes k (class_of x) ≡ true) l.older) (sym l.of_class) l.passes_older;
        }
      where
        source : (r : Place) → (after now r ≡ before r) ⊎ (r ≡ Egress direction) → (after now r ≡ before r) ⊎ ((r ≡ Egress direction) ⊎ (r ≡ Wire direction))
        source r (inl same) = inl same
        source r (inr e) = inr (inl e)

        target : (r : Place) → (after now r ≡ before r) ⊎ (r ≡ Wire direction) → (after now r ≡ before r) ⊎ ((r ≡ Egress direction) ⊎ (r ≡ Wire direction))
        target r (inl same) = inl same
        target r (inr e) = inr (inr e)

        others : (r : Place) → (after now r ≡ before r) ⊎ ((r ≡ Egress direction) ⊎ (r ≡ Wire direction))
        others (place.Outbox origin) = inl refl
        others (Egress other) = source (Egress other) (named (λ (d : Direction). Egress d) egress_of now other)
        others (Wire other) = target (Wire other) (named (λ (d : Direction). Wire d) wire_of now other)
        others (Ingress other) = inl (part_same ingress_of now is_ingress other)

    -- the oldest packet of the wire reaches the receiver
    pub received_there : (frame : Descriptor) (rest : List Descriptor) (now : Channel) → IsThere channels end → (channel_at channels end).wire ≡ frame ∷ rest
        → now.egress ≡ (channel_at channels end).egress → now.wire ≡ rest → now.ingress ≡ (channel_at channels end).ingress ++ frame ∷ [] → Moving before (after now) (Wire direction) (Ingress direction) frame
    received_there frame rest now there e is_egress is_wire is_ingress = record {
      older = [];
      newer = rest;
      moved = record {
        was = ap wire_of channel_is ∙ e;
        left = ap wire_of (channel_now now there) ∙ is_wire;
        put = ap ingress_of (channel_now now there) ∙ (is_ingress ∙ ap (λ (xs : List Descriptor). xs ++ frame ∷ []) (sym (ap ingress_of channel_is)));
        others = others;
      };
      passed = All-nil (λ (x : Descriptor). passes (class_of frame) (class_of x) ≡ true);
    }
      where
        source : (r : Place) → (after now r ≡ before r) ⊎ (r ≡ Wire direction) → (after now r ≡ before r) ⊎ ((r ≡ Wire direction) ⊎ (r ≡ Ingress direction))
        source r (inl same) = inl same
        source r (inr e) = inr (inl e)

        target : (r : Place) → (after now r ≡ before r) ⊎ (r ≡ Ingress direction) → (after now r ≡ before r) ⊎ ((r ≡ Wire direction) ⊎ (r ≡ Ingress direction))
        target r (inl same) = inl same
        target r (inr e) = inr (inr e)

        others : (r : Place) → (after now r ≡ before r) ⊎ ((r ≡ Wire direction) ⊎ (r ≡ Ingress direction))
        others (place.Outbox origin) = inl refl
        others (Egress other) = inl (part_same egress_of now is_egress other)
        others (Wire other) = source (Wire other) (named (λ (d : Direction). Wire d) wire_of now other)
        others (Ingress other) = target (Ingress other) (named (λ (d : Direction). Ingress d) ingress_of now other)

    -- all stands where it stood
    pub still_there : (now : Channel) → now.egress ≡ (channel_at channels end).egress → now.wire ≡ (channel_at channels end).wire → now.ingress ≡ (channel_at channels end).ingress → (r : Place) → after now r ≡ before r
    still_there now a b c (place.Outbox origin) = refl
    still_there now a b c (Egress other) = part_same egress_of now a other
    still_there now a b c (Wire other) = part_same wire_of now b other
    still_there now a b c (Ingress other) = part_same ingress_of now c other
