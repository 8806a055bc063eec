-- What a motion leaves of two kinds of packets in turn on a way: they stay in turn, or one of the first kind left flight.
use Rattle.std.proofs.Common.{◌≡◌, ℕ, ◌==◌, Bool, true, false, List, Option, Some, None, refl}
use Rattle.fab_types.specs.declared.place.Direction.{Direction}
use Rattle.fab_types.specs.declared.origin.Origin.{Origin}
use Rattle.fab_types.specs.declared.place.Place.{Place}
use Rattle.fab_types.specs.declared.place.Place.TheVariants.{Ingress, Outbox}
use Rattle.frame_log.specs.Descriptor.{Descriptor}
use Rattle.domain.specs.Consumed.{consumes}
use Rattle.domain.specs.declared.entry.Entry.{Entry}
use Rattle.domain.specs.declared.entry.Entry.TheVariants.{Deliver}
use Rattle.domains.specs.Domains.{Made, made, made_at}
use Rattle.fabric_core.specs.Soundness.{IsGuardedFabric}
use Rattle.fabric_core.specs.Trails.{InOrderOnWay, standing_at}
use Rattle.fabric_core.specs.World.{World}
use Rattle.fabric_core.proofs.order.Motions.{Motion, Finishes, IsLast, JoiningIf, Leaps, Starts}
use Rattle.fabric_core.proofs.order.WayOrder.{order_joined, order_left, order_still}
use Rattle.fabric_core.proofs.order.AtPlaces.{Leaving, Moving, Standings}

-- an entry of this packet's home took it out of flight
pub record IsTaken (w w' : World) (frame : Descriptor) : Type 0 where
  pub entry : Entry
  pub m : Made
  pub is : made w.agents.domains frame.domain entry ≡ Some m
  pub ends : (n : ℕ) → consumes n entry ≡ (frame.number == n)
  pub domains : w'.agents.domains ≡ m.domains

-- an entry of a domain took none
pub record IsBegun (w w' : World) : Type 0 where
  pub entry : Entry
  pub place : Option ℕ
  pub m : Made
  pub is : made_at w.agents.domains entry place ≡ Some m
  pub ends : (n : ℕ) → consumes n entry ≡ false
  pub domains : w'.agents.domains ≡ m.domains

pub data After (w w' : World) (places : List Place) (p q : Descriptor → Bool) : Type 0 where
  Still : InOrderOnWay (standing_at w') places p q → w'.agents.domains ≡ w.agents.domains → After w w' places p q
  Begun : InOrderOnWay (standing_at w') places p q → IsBegun w w' → After w w' places p q
  Other : InOrderOnWay (standing_at w') places p q → (frame : Descriptor) → p frame ≡ false → q frame ≡ false → IsTaken w w' frame → After w w' places p q
  Gone : (frame : Descriptor) → p frame ≡ true → IsTaken w w' frame → After w w' places p q

module _ (w w' : World) (g : IsGuardedFabric w) (places : List Place) (p q : Descriptor → Bool) where
  abbrev f : Standings
  f = standing_at w

  abbrev Turn : Standings → Type 0
  Turn s = InOrderOnWay s places p q

  -- what the way makes of packets that go on and of those that end
  pub record Keeps : Type 0 where
    pub goes : (f' : Standings) (source target : Place) (y : Descriptor) → Leaps g.platform y source target → Moving f f' source target y → Turn f → Turn f'
    pub ends : (f' : Standings) (direction : Direction) (y : Descriptor) → Leaving f f' (Ingress direction) y → Turn f → p y ≡ false → q y ≡ true → (entry : Entry) (target : Place) → Finishes g.platform y direction entry target → ⊥
    pub delivers : (f' : Standings) (direction : Direction) (y : Descriptor) → Leaving f f' (Ingress direction) y → Turn f → p y ≡ false → q y ≡ true → IsLast y direction → ⊥
    pub fresh : (entry : Entry) (place : Option ℕ) (m : Made) → made_at w.agents.domains entry place ≡ Some m → (z : Descriptor) → m.sent ≡ Some z → (p z ≡ false) × (q z ≡ false)

  joins : (s s' : Standings) (target : Place) (o : Option Descriptor) → JoiningIf s s' target o → ((z : Descriptor) → o ≡ Some z → (p z ≡ false) × (q z ≡ false)) → Turn s → Turn s'
  joins s s' target None same fresh t = order_still p q s s' places same t
  joins s s' target (Some z) j fresh t = order_joined p q s s' places target z j (fresh z refl).0 (fresh z refl).1 t

  begins_end : (entry : Entry) (place : Option ℕ) (origin : Origin) → Starts w entry place origin → (n : ℕ) → consumes n entry ≡ false
  begins_end _ _ _ (Starts.Submits function bytes) n = refl
  begins_end _ _ _ (Starts.Ticks function) n = refl
  begins_end _ _ _ (Starts.Accesses domain access) n = refl

  finishes_end : (frame : Descriptor) (direction : Direction) (entry : Entry) (target : Place) → Finishes g.platform frame direction entry target → (n : ℕ) → consumes n entry ≡ (frame.number == n)
  finishes_end frame _ _ _ (Finishes.Stopped line report listed parties course sound) n = refl
  finishes_end frame _ _ _ (Finishes.CarriedByHost own) n = refl
  finishes_end frame _ _ _ (Finishes.CarriedByFunction function request) n = refl

  ended : (k : Keeps) (frame : Descriptor) (direction : Direction) (between : Standings) → Leaving f between (Ingress direction) frame → Turn f → IsTaken w w' frame → (Turn between → Turn (standing_at w')) → (p frame ≡ false → q frame ≡ true → ⊥) → After w w' places p q
  ended k frame direction between l t taken then never = by (p frame) (q frame) refl refl
    where
      by : (first second : Bool) → p frame ≡ first → q frame ≡ second → After w w' places p q
      by true second is_p is_q = After.Gone frame is_p taken
      by false true is_p is_q = absurd (never is_p is_q)
      by false false is_p is_q = After.Other (then (order_left p q f between places (Ingress direction) frame l is_p is_q t)) frame is_p is_q taken

  pub after_motion : Keeps → Motion g.platform w w' → Turn f → After w w' places p q
  after_motion k (Motion.Stays same domains) t = After.Still (order_still p q f (standing_at w') places same t) domains
  after_motion k (Motion.Goes source target frame leaps mv domains) t = After.Still (k.goes (standing_at w') source target frame leaps mv t) domains
  after_motion k (Motion.Begins entry place origin m starts is j domains) t =
      After.Begun (joins f (standing_at w') (Outbox origin) m.sent j (k.fresh entry place m is) t) (record { entry = entry; place = place; m = m; is = is; ends = begins_end entry place origin starts; domains = domains })
  after_motion k (Motion.Ends direction entry target frame m between finishes flown is l j domains) t =
      ended k frame direction between l t (record { entry = entry; m = m; is = is; ends = finishes_end frame direction entry target finishes; domains = domains })
      (joins between (standing_at w') target m.sent j (k.fresh entry _ m is)) (λ is_p is_q. k.ends between direction frame l t is_p is_q entry target finishes)
  after_motion k (Motion.Delivers direction frame m last flown is l domains) t =
      ended k frame direction (standing_at w') l t (record { entry = Deliver frame.number; m = m; is = is; ends = λ n. refl; domains = domains }) (λ u. u) (λ is_p is_q. k.delivers (standing_at w') direction frame l t is_p is_q last)
