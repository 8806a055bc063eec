-- What one call does to a side of a link and to the ends of its rings. Where a worker has no end, nothing can go by it.
use Rattle.std.specs.Prelude.{◌≡◌, ◌≢◌, ◌<◌, ◌∷◌, ◌++◌, ◌||◌, Bool, MatchBool, [], vec_len}
use Rattle.fab_types.specs.declared.class.Class.TheVariants.{Posted, NonPosted, Completion}
use Rattle.frame_log.specs.Descriptor.{Descriptor}
use Rattle.credit.specs.Kinds.{Class}
use Rattle.credit.specs.Limits.{IsUpdate, Ledger}
use Rattle.credit.specs.declared.counters.Counters.{Counters}
use Rattle.link.specs.Steps.{IsStuck, Sends}
use Rattle.thread_workers.specs.SideRings.{HasPlace}
use Rattle.thread_workers.specs.Sides.{LinkSideView, landed, leaving}
use Rattle.thread_rings.specs.Moved.{one_more, put_by, taken_by}
use Rattle.thread_rings.specs.declared.ends.Ends.{Ends}

-- the sender got limits that came out of the ring, and knows them if they can be the receiver's
pub record ReceivesUpdateFc (sender : Ledger) (credits : Ends Counters) (sender' : Ledger) (credits' : Ends Counters) : Type 0 where
  pub limits : Counters
  pub end : 0 < vec_len credits.ins
  pub taken : taken_by credits' ≡ one_more (taken_by credits) 0 limits
  pub known : IsUpdate sender limits → sender' ≡ record sender { credit_limit = limits }
  pub dropped : (IsUpdate sender limits → ⊥) → sender' ≡ sender

-- the eligible packet of a class left its queue, spent its credits, and went into the ring
pub record SendsOn (class : Class) (side : LinkSideView) (links : Ends Descriptor) (side' : LinkSideView) (links' : Ends Descriptor) : Type 0 where
  pub frame : Descriptor
  pub sends : Sends class (leaving side) side.egress.sender frame (leaving side') side'.egress.sender
  pub end : 0 < vec_len links.outs
  pub put : put_by links' ≡ one_more (put_by links) 0 frame

-- none did: no packet of the class was eligible for which there are credits, or the end knew of no place
pub record Withholds (class : Class) (side : LinkSideView) (links : Ends Descriptor) (side' : LinkSideView) (links' : Ends Descriptor) : Type 0 where
  pub stuck : HasPlace links' → IsStuck class (leaving side) side.egress.sender
  pub queue : leaving side' ≡ leaving side
  pub sender : side'.egress.sender ≡ side.egress.sender
  pub put : put_by links' ≡ put_by links

-- either, as is said
abbrev pub TriesToSend : Class → LinkSideView → Ends Descriptor → LinkSideView → Ends Descriptor → Bool → Type 0
TriesToSend class side links side' links' is_sent = MatchBool is_sent (SendsOn class side links side' links') (Withholds class side links side' links')

-- so each class in turn, with what each left for the next; did one go?
pub record SendsEach (side : LinkSideView) (links : Ends Descriptor) (side' : LinkSideView) (links' : Ends Descriptor) (is_sent : Bool) : Type 0 where
  pub side1 : LinkSideView
  pub links1 : Ends Descriptor
  pub side2 : LinkSideView
  pub links2 : Ends Descriptor
  pub is_posted : Bool
  pub is_non_posted : Bool
  pub is_completion : Bool
  pub posted : TriesToSend Posted side links side1 links1 is_posted
  pub non_posted : TriesToSend NonPosted side1 links1 side2 links2 is_non_posted
  pub completion : TriesToSend Completion side2 links2 side' links' is_completion
  pub any : is_sent ≡ (is_posted || is_non_posted || is_completion)

-- a packet came out of the ring, and waits behind all others
pub record Lands (side : LinkSideView) (links : Ends Descriptor) (side' : LinkSideView) (links' : Ends Descriptor) : Type 0 where
  pub frame : Descriptor
  pub end : 0 < vec_len links.ins
  pub taken : taken_by links' ≡ one_more (taken_by links) 0 frame
  pub behind : landed side' ≡ landed side ++ frame ∷ []

-- the receiver's limits, which are not those advertised last, went into the ring
pub record SendsUpdateFc (side : LinkSideView) (credits : Ends Counters) (side' : LinkSideView) (credits' : Ends Counters) : Type 0 where
  pub news : side.ingress.receiver.credits_allocated ≢ side.advertised
  pub end : 0 < vec_len credits.outs
  pub put : put_by credits' ≡ one_more (put_by credits) 0 side.ingress.receiver.credits_allocated
  pub advertised : side'.advertised ≡ side.ingress.receiver.credits_allocated
