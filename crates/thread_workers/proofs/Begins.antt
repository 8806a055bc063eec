-- Begins that are served.
use Rattle.std.proofs.Common.{◌≡◌, ℕ, List, Option, ap, arith, inl, inr, ◌∙◌}
use Rattle.frame_log.specs.Descriptor.{Descriptor}
use Rattle.domain.specs.Domains.{DomainView}
use Rattle.injector.specs.Serves.{Accepts, IsIdle, Serves}
use Rattle.injector.specs.declared.begin_ring.BeginRing.{BeginRing}
use Rattle.outboxes.specs.Outboxes.{BoxView}
use Rattle.thread_workers.specs.Boxes.{HasRoom, with_answer, with_places}
use Rattle.thread_workers.specs.Serving.{ServesNext}
use Rattle.thread_workers.specs.declared.ends.serving.Begun.{Begun}
use Rattle.thread_workers.specs.declared.ends.serving.Begun.TheVariants.{Accepted, Refused, Waits, Idle}

-- where as many are accepted as before, there was none
pub idle_of : (d d' : DomainView) (ring ring' : BeginRing) (sent : Option Descriptor) → Serves d ring d' ring' sent → ring'.accepted ≡ ring.accepted → IsIdle d ring d' ring'
idle_of d d' ring ring' sent (inl idle) same = idle.1
idle_of d d' ring ring' sent (inr accepts) same = absurd (omega (arith, accepts.counts.0, same))

-- else it was accepted
pub accepted_of : (d d' : DomainView) (ring ring' : BeginRing) (sent : Option Descriptor) → Serves d ring d' ring' sent → (ring'.accepted ≡ ring.accepted → ⊥) → Accepts d ring d' ring' sent
accepted_of d d' ring ring' sent (inl idle) other = absurd (other idle.1.counts.0)
accepted_of d d' ring ring' sent (inr accepts) other = accepts

-- The outbox had got places before it was served.
pub served_before : (locks : List ℕ) (number : ℕ) (begun : Begun) (box grown box' : BoxView) (ring ring' : BeginRing) → grown ≡ with_places grown.places box → HasRoom grown
    → ServesNext locks number begun grown box' ring ring' → ServesNext locks number begun box box' ring ring'
served_before locks number Accepted box grown box' ring ring' places room served = record {
  before = served.before;
  after = served.after;
  home = served.home;
  replays = served.replays;
  sent = served.sent;
  accepts = served.accepts;
  places = served.places;
  put = served.put ∙ ap (λ (b : BoxView). with_answer served.sent (with_places served.places b)) places;
}
served_before locks number Refused box grown box' ring ring' places room served = record {
  refused = served.refused;
  let_go = served.let_go;
  places = served.places ∙ ap (with_places box'.places) places;
}
served_before locks number Waits box grown box' ring ring' places room served = record {
  memory = elim served.memory [ inl held ↦ inl held | inr none ↦ absurd (none.0 room) ];
  places = served.places ∙ ap (with_places box'.places) places;
}
served_before locks number Idle box grown box' ring ring' places room served = record {
  none = served.none;
  same = served.same;
  places = served.places ∙ ap (with_places box'.places) places;
}
