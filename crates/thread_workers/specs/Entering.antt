-- A packet goes from an outbox to its link.
use Rattle.std.specs.Prelude.{◌≡◌, ◌||◌, Bool, MatchBool, List, [], ◌∷◌, ◌++◌, Some}
use Rattle.fab_types.specs.declared.class.Class.TheVariants.{Posted, NonPosted, Completion}
use Rattle.frame_log.specs.Descriptor.{Descriptor}
use Rattle.lane.specs.Lanes.{Class, class_of, eligible}
use Rattle.link.specs.Channels.{count_in}
use Rattle.outboxes.specs.Outboxes.{BoxView, waiting, with_queue}

-- the eligible packet of a class left the outbox, and waits behind all others at the link; the outbox is as it was but for
-- what waits there
pub record Enters (class : Class) (box box' : BoxView) (egress egress' : List Descriptor) : Type 0 where
  pub frame : Descriptor
  pub taken : eligible class (waiting box) ≡ Some (frame, waiting box')
  pub kept : box' ≡ with_queue box'.queue box
  pub put : egress' ≡ egress ++ frame ∷ []

-- no packet of the class is eligible for which the link has a place
abbrev pub HasNoneToEnter : Class → BoxView → List Descriptor → Type 0
HasNoneToEnter class box egress = (frame : Descriptor) (rest : List Descriptor) → eligible class (waiting box) ≡ Some (frame, rest) → count_in (class_of frame) egress ≡ 16

-- nothing moved, for that
pub record Remains (class : Class) (box box' : BoxView) (egress egress' : List Descriptor) : Type 0 where
  pub stuck : HasNoneToEnter class box egress
  pub box_stays : box' ≡ box
  pub link_stays : egress' ≡ egress

-- either, as is said
abbrev pub TriesToEnter : Class → BoxView → BoxView → List Descriptor → List Descriptor → Bool → Type 0
TriesToEnter class box box' egress egress' has_entered = MatchBool has_entered (Enters class box box' egress egress') (Remains class box box' egress egress')

-- so each class in turn, with what each left for the next; did one go?
pub record EntersEach (box box' : BoxView) (egress egress' : List Descriptor) (has_entered : Bool) : Type 0 where
  pub box1 : BoxView
  pub egress1 : List Descriptor
  pub box2 : BoxView
  pub egress2 : List Descriptor
  pub is_posted : Bool
  pub is_non_posted : Bool
  pub is_completion : Bool
  pub posted : TriesToEnter Posted box box1 egress egress1 is_posted
  pub non_posted : TriesToEnter NonPosted box1 box2 egress1 egress2 is_non_posted
  pub completion : TriesToEnter Completion box2 box' egress2 egress' is_completion
  pub any : has_entered ≡ (is_posted || is_non_posted || is_completion)
