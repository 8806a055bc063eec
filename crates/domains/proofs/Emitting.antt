-- What an entry of one domain makes of the agents, by the place of that domain.
use Rattle.std.proofs.Common.{◌≡◌, ℕ, Bool, true, List, Option, Some, None, refl, sym, ap, ◌∙◌, subst, slice_get, eqb-true}
use Rattle.std.specs.Prelude.{IfOk, IsTrue, OnErr, Result, Ok, Err, if◌then◌else◌}
use Rattle.fab_types.specs.declared.origin.Origin.{Origin}
use Rattle.frame_log.specs.Descriptor.{Descriptor}
use Rattle.lane.specs.Lanes.{Class}
use Rattle.domain.specs.declared.entry.Entry.{Entry}
use Rattle.domain.specs.declared.entry.Entry.TheVariants.{Carry}
use Rattle.domain.specs.Domains.{DomainView}
use Rattle.outboxes.specs.Outboxes.{BoxView, changed, has_place, with_put}
use Rattle.domains.specs.Domains.{Made, domain_at, made, made_at, place_of, place_of_function}
use Rattle.domains.proofs.Keeping.{IsOwn, emitted_keeps, own_ready, room_for, silent_keeps}
use Rattle.domains.proofs.Viewing.{put_seen}
use Rattle.domains.specs.Agents.{AgentsView, Outbox, carried_at, emitted_if, home_of, is_function_of, is_of_domain}
use Rattle.domains.specs.AgentsKept.{Keeps, seen}

-- all domains, and the packet that one of them emitted
abbrev pub all : List DomainView → Option Descriptor → Made
all domains sent = record { domains = domains; sent = sent }

abbrev pub Makes : List DomainView → Entry → Option ℕ → List DomainView → Option Descriptor → Type 0
Makes ds entry place new sent = made_at ds entry place ≡ Some (all new sent)

-- what was sent, by another name
pub sent_so : (o : Option Made) (new : List DomainView) (sent other : Option Descriptor) → o ≡ Some (all new sent) → sent ≡ other → o ≡ Some (all new other)
sent_so o new sent other made same = subst (λ (x : Option Descriptor). o ≡ Some (all new x)) same made

-- ---- a packet was emitted, and is put

pub has_room : (ds new : List DomainView) (boxes : List BoxView) (to : Origin) (entry : Entry) (place : Option ℕ) (frame : Descriptor) (class : Class) → IsOwn entry → Keeps ds boxes → home_of ds to ≡ place
    → Makes ds entry place new (Some frame) → IsTrue (has_place boxes to class)
has_room ds new boxes to entry None frame class own k home made = absurd cc
has_room ds new boxes to entry (Some i) frame class own k home made = room_for ds boxes to i entry (all new (Some frame)) frame class k (own_ready ds boxes i entry own k) home made refl

pub keeps_put : (ds new : List DomainView) (boxes after : List BoxView) (to : Origin) (entry : Entry) (place : Option ℕ) (frame : Descriptor) → IsOwn entry → Keeps ds boxes → home_of ds to ≡ place
    → Makes ds entry place new (Some frame) → after ≡ changed (with_put frame) boxes to → Keeps new after
keeps_put ds new boxes after to entry None frame own k home made put = absurd cc
keeps_put ds new boxes after to entry (Some i) frame own k home made put = rw put (emitted_keeps ds boxes to i entry (all new (Some frame)) frame k (own_ready ds boxes i entry own k) home made refl)

pub put_made : (ds new : List DomainView) (boxes after : List BoxView) (to : Origin) (o : Option Made) (frame : Descriptor) → o ≡ Some (all new (Some frame)) → after ≡ changed (with_put frame) boxes to
    → emitted_if (seen ds boxes) to o ≡ Some (seen new after)
put_made ds new boxes after to o frame made put =
    ap (emitted_if (seen ds boxes) to) made ∙ ap (λ (os : List Outbox). some (record { domains = new; outboxes = os })) (sym (put_seen boxes to frame)) ∙ ap (λ (bs : List BoxView). some (seen new bs)) (sym put)
  where
    some : AgentsView → Option AgentsView
    some x = Some x

-- ---- none was emitted, or it goes elsewhere

pub keeps_silent : (ds new : List DomainView) (boxes : List BoxView) (entry : Entry) (place : Option ℕ) (sent : Option Descriptor) → IsOwn entry → Keeps ds boxes → Makes ds entry place new sent → Keeps new boxes
keeps_silent ds new boxes entry None sent own k made = absurd cc
keeps_silent ds new boxes entry (Some i) sent own k made = silent_keeps ds boxes i entry (all new sent) k (own_ready ds boxes i entry own k) made

pub none_made : (ds new : List DomainView) (boxes : List BoxView) (to : Origin) (o : Option Made) → o ≡ Some (all new None) → emitted_if (seen ds boxes) to o ≡ Some (seen new boxes)
none_made ds new boxes to o made = ap (emitted_if (seen ds boxes) to) made

-- whatever a call answers that puts nothing
pub keeps_either : {T E : Type 0} (ds new : List DomainView) (boxes : List BoxView) (entry : Entry) (place : Option ℕ) (sent : T → Option Descriptor) (r : Result T E) → IsOwn entry → Keeps ds boxes
    → IfOk r (λ x. Makes ds entry place new (sent x)) → OnErr r (new ≡ ds) → Keeps new boxes
keeps_either ds new boxes entry place sent (Ok x) own k ok err = keeps_silent ds new boxes entry place (sent x) own k ok
keeps_either ds new boxes entry place sent (Err e) own k ok err = rw err k

-- ---- a function of the domain

home_at : (ds : List DomainView) (boxes : List BoxView) (n i : ℕ) (o : Option DomainView) → Keeps ds boxes → slice_get ds i ≡ o → is_of_domain n o ≡ true → place_of ds n ≡ Some i
home_at ds boxes n i None k there is = absurd cc
home_at ds boxes n i (Some d) k there is = ap (place_of ds) (sym (eqb-true d.share.domain n is)) ∙ k.numbered i d there

home_in : (ds : List DomainView) (boxes : List BoxView) (n : ℕ) (o : Option ℕ) → Keeps ds boxes → is_of_domain n (domain_at ds o) ≡ true → o ≡ place_of ds n
home_in ds boxes n None k is = absurd cc
home_in ds boxes n (Some i) k is = sym (home_at ds boxes n i (slice_get ds i) k refl is)

pub function_home : (ds : List DomainView) (boxes : List BoxView) (f n : ℕ) → Keeps ds boxes → is_function_of ds f n ≡ true → place_of_function ds f ≡ place_of ds n
function_home ds boxes f n k is = home_in ds boxes n (place_of_function ds f) k is

-- what a call told of the agents as they are seen
pub told_own : (ds : List DomainView) (boxes : List BoxView) (v : AgentsView) (f n m : ℕ) (told : Bool) → seen ds boxes ≡ v → m ≡ n → told ≡ is_function_of v.domains f m → told ≡ true → is_function_of ds f n ≡ true
told_own ds boxes v f n m told view same is so = ap (is_function_of ds f) (sym same) ∙ ap (λ (x : AgentsView). is_function_of x.domains f m) view ∙ sym is ∙ so

pub carried_there : (ds : List DomainView) (f : ℕ) (frame : Descriptor) → is_function_of ds f frame.domain ≡ true → carried_at ds f frame ≡ made ds frame.domain (Carry frame.number)
carried_there ds f frame is = ap (λ (b : Bool). if b then made ds frame.domain (Carry frame.number) else None) is
