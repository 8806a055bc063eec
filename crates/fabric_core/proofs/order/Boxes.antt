-- What waits in the outboxes of a fabric, where a packet leaves one or joins one.
use Rattle.std.proofs.Common.{◌≡◌, ◌⊎◌, inl, inr, ℕ, true, List, [], ◌∷◌, ◌++◌, get_or, Option, Some, None, refl, sym, ap, ◌∙◌, subst}
use Rattle.std.specs.Prelude.{All, IsSome, slice_get}
use Rattle.std.proofs.lemmas.List.Quantifiers.{position-Some}
use Rattle.std.proofs.lemmas.Option.{slice_get-get_or}
use Rattle.fab_types.specs.declared.origin.Origin.{Origin}
use Rattle.fab_types.specs.declared.place.Place.{Place}
use Rattle.fab_types.specs.declared.place.Place.TheVariants as place
use Rattle.fab_types.specs.declared.place.Place.TheVariants.{Egress, Wire, Ingress}
use Rattle.frame_log.specs.Descriptor.{Descriptor}
use Rattle.fab_types.specs.Origins.{same_origin}
use Rattle.domain.specs.Domains.{DomainView}
use Rattle.domains.specs.Agents.{IsSettled, Outbox, home_of, joined, outbox_place, waiting_at, waiting_in, waiting_of, with_waiting, with_waiting_at, with_waiting_in}
use Rattle.link.specs.Channels.{Channel}
use Rattle.ordering.specs.Ordering.{passes}
use Rattle.ordering.proofs.Leaving.{taken_leaves}
use Rattle.lane.specs.Lanes.{Class, class_of, eligible}
use Rattle.topology.specs.declared.links.Link.{Link}
use Rattle.fabric_core.specs.Trails.{standing_in}
use Rattle.fabric_core.proofs.order.Motions.{JoiningIf}
use Rattle.fabric_core.proofs.invariant.Settling.{origins_stay, replaced}
use Rattle.fabric_core.proofs.soundness.SoundBoxes.{either_waiting}
use Rattle.fabric_core.proofs.order.AtPlaces.{Joining, Leaving}

no_box : (origin : Origin) → Outbox
no_box origin = record { origin = origin; waiting = [] }

in_found : (boxes : List Outbox) (i : _) (box : Outbox) (waiting : List Descriptor) → slice_get boxes i ≡ Some box → waiting_at (with_waiting_in boxes i waiting (slice_get boxes i)) (Some i) ≡ waiting
in_found boxes i box waiting at =
    ap (λ (o : Option Outbox). waiting_at (with_waiting_in boxes i waiting o) (Some i)) at
    ∙ ap waiting_in (replaced boxes i box (record { origin = box.origin; waiting = waiting }) at)

-- this waits in the outbox of an origin that has one
pub waiting_there : (boxes : List Outbox) (origin : Origin) (waiting : List Descriptor) → IsSome (outbox_place boxes origin) → waiting_of (with_waiting boxes origin waiting) origin ≡ waiting
unfolding outbox_place
waiting_there boxes origin waiting there =
    ap (waiting_at (with_waiting boxes origin waiting)) (origins_stay boxes (outbox_place boxes origin) waiting origin) ∙ by (outbox_place boxes origin) refl there
  where
    by : (o : Option _) → outbox_place boxes origin ≡ o → IsSome o → waiting_at (with_waiting_at boxes waiting o) o ≡ waiting
    by None e there = absurd cc
    by (Some i) e there =
        let less = (position-Some (λ (box : Outbox). same_origin box.origin origin) boxes i (no_box origin) e).0 in
        in_found boxes i (get_or boxes i (no_box origin)) waiting (slice_get-get_or boxes i (no_box origin) less)

-- an origin of whose outbox something is taken has one
has_box : (boxes : List Outbox) (class : Class) (taken : _) (o : Option _) → eligible class (waiting_at boxes o) ≡ Some taken → IsSome o
has_box boxes class taken None e = absurd cc
has_box boxes class taken (Some i) e = refl

module _ (links : List Link) (channels : List (List Channel)) (boxes : List Outbox) where
  others_in : (origin : Origin) (waiting : List Descriptor) (r : Place) → (standing_in links channels (with_waiting boxes origin waiting) r ≡ standing_in links channels boxes r) ⊎ (r ≡ place.Outbox origin)
  others_in origin waiting (place.Outbox other) = by (either_waiting boxes origin other waiting)
    where
      by : (waiting_of (with_waiting boxes origin waiting) other ≡ waiting_of boxes other) ⊎ ((other ≡ origin) × (waiting_of (with_waiting boxes origin waiting) other ≡ waiting))
          → (waiting_of (with_waiting boxes origin waiting) other ≡ waiting_of boxes other) ⊎ (place.Outbox other ≡ place.Outbox origin)
      by (inl same) = inl same
      by (inr h) = inr (ap (λ (o : Origin). place.Outbox o) h.0)
  others_in origin waiting (Egress other) = inl refl
  others_in origin waiting (Wire other) = inl refl
  others_in origin waiting (Ingress other) = inl refl

  pub left_outbox : (origin : Origin) (class : Class) (frame : Descriptor) (rest : List Descriptor) → eligible class (waiting_of boxes origin) ≡ Some (frame, rest)
      → Leaving (standing_in links channels boxes) (standing_in links channels (with_waiting boxes origin rest)) (place.Outbox origin) frame
  left_outbox origin class frame rest e =
      let l = taken_leaves class_of class (waiting_of boxes origin) frame rest e in record {
        older = l.older;
        newer = l.newer;
        was = l.queue;
        left = waiting_there boxes origin rest (has_box boxes class (frame, rest) (outbox_place boxes origin) e) ∙ l.is_left;
        others = others_in origin rest;
        passed = subst (λ (k : Class). All (λ (x : Descriptor). passes k (class_of x) ≡ true) l.older) (sym l.of_class) l.passes_older;
      }

  pub joined_outbox : (origin : Origin) (frame : Descriptor) → IsSome (outbox_place boxes origin)
      → Joining (standing_in links channels boxes) (standing_in links channels (joined boxes origin (Some frame))) (place.Outbox origin) frame
  joined_outbox origin frame there = record {
    put = waiting_there boxes origin (waiting_of boxes origin ++ frame ∷ []) there;
    others = others_in origin (waiting_of boxes origin ++ frame ∷ []);
  }

-- what an origin of a domain emitted, if anything, joins its outbox
pub joined_in : (links : List Link) (channels : List (List Channel)) (domains : List DomainView) (boxes : List Outbox) (origin : Origin) (sent : Option Descriptor) → IsSettled (record { domains = domains; outboxes = boxes }) → IsSome (home_of domains origin)
    → JoiningIf (standing_in links channels boxes) (standing_in links channels (joined boxes origin sent)) (place.Outbox origin) sent
joined_in links channels domains boxes origin None settled there = λ r. refl
joined_in links channels domains boxes origin (Some frame) settled there = joined_outbox links channels boxes origin frame (by (home_of domains origin) refl there)
  where
    by : (o : Option ℕ) → home_of domains origin ≡ o → IsSome o → IsSome (outbox_place boxes origin)
    by None e there = absurd cc
    by (Some place) e there = settled.boxed origin place e
