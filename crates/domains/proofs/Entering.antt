-- What all agents keep, after the entry of an alien packet and after what answers it was put.
use Rattle.std.proofs.Common.{◌≡◌, ℕ, ◌+◌, List, Option, Some, None, refl, sym, ap, ◌∙◌, arith, eq-eqb}
use Rattle.std.specs.Prelude.{IfOk, IsTrue, OnErr, OnOk, Result, Ok, Err, option_map}
use Rattle.fab_types.specs.declared.head.Parties.{Parties}
use Rattle.fab_types.specs.declared.origin.Origin.{Origin}
use Rattle.fab_types.specs.declared.place.Place.{Place}
use Rattle.frame_log.specs.Descriptor.{Descriptor}
use Rattle.lane.specs.Lanes.{Class}
use Rattle.domain.proofs.Accounting.{aliens_more}
use Rattle.domain.specs.declared.entry.Entry.{Entry}
use Rattle.domain.specs.declared.entry.Entry.TheVariants.{Alien}
use Rattle.domain.specs.Domains.{DomainView}
use Rattle.domain.specs.Machine.{aliens_in, with_alien}
use Rattle.request_handling.specs.Emissions.{Emission}
use Rattle.outboxes.specs.Outboxes.{BoxView, changed, has_place, with_more, with_put}
use Rattle.domains.specs.Aliens.{aliened, aliened_by, flown}
use Rattle.domains.specs.Domains.{Made, domain_at, made_at, place_of, place_of_function}
use Rattle.domains.proofs.Emitting.{all, function_home, none_made, put_made}
use Rattle.domains.proofs.Keeping.{IsReady, emitted_keeps, noted, room_for, silent_keeps}
use Rattle.domains.specs.Agents.{AgentsView, Outbox, emitted_if, home_of, is_of_domain}
use Rattle.domains.specs.AgentsKept.{Keeps, seen}
use Rattle.domains.specs.AlienPlaces.{HasPlaces, IsGrown}

-- ---- the outboxes get places

pub keeps_grown : (ds : List DomainView) (boxes grown : List BoxView) → Keeps ds boxes → IsGrown boxes grown → Keeps ds grown
keeps_grown ds boxes grown k g = record {
  numbered = k.numbered;
  replayed = k.replayed;
  roomy = λ origin place d home there.
      let h = k.roomy origin place d home there in
      let more = g.each origin in
      record {
        box = with_more more.places h.box;
        is_there = more.is ∙ ap (option_map (with_more more.places)) h.is_there;
        roomy = record { puts = h.roomy.puts; places = omega (arith, h.roomy.places) };
      };
}

-- none of what waits changes
pub seen_grown : (ds : List DomainView) (boxes grown : List BoxView) → IsGrown boxes grown → seen ds grown ≡ seen ds boxes
seen_grown ds boxes grown g = ap (λ (os : List Outbox). record { domains = ds; outboxes = os }) g.waiting

-- ---- the entry

-- what an alien packet made of all domains
pub record Entered (ds : List DomainView) (home : Option ℕ) (m : Made) : Type 0 where
  pub place : ℕ
  pub there : home ≡ Some place
  pub entry : Entry
  pub alien : (n : ℕ) → with_alien entry n ≡ n + 1
  pub made : made_at ds entry (Some place) ≡ Some m

entered_by : (ds : List DomainView) (home : Option ℕ) (place : Place) (sender : Parties) (o : Option Emission) (m : Made) → aliened_by ds home place sender o ≡ Some m → Entered ds home m
entered_by ds home place sender None m is = absurd cc
entered_by ds None place sender (Some e) m is = absurd cc
entered_by ds (Some i) place sender (Some e) m is = record { place = i; there = refl; entry = Alien place sender e.bytes; alien = λ n. refl; made = is }

entered : (ds : List DomainView) (n : ℕ) (place : Place) (frame : Descriptor) (m : Made) → aliened ds n place frame ≡ Some m → Entered ds (place_of ds n) m
entered ds n place frame m is = entered_by ds (place_of ds n) place frame.head.parties (flown ds frame.domain frame.number) m is

ready : (ds : List DomainView) (boxes grown : List BoxView) (n i : ℕ) (entry : Entry) → ((k : ℕ) → with_alien entry k ≡ k + 1) → Keeps ds boxes → HasPlaces ds n boxes grown → place_of ds n ≡ Some i → IsReady ds grown i entry
ready ds boxes grown n i entry alien k places at origin d home there =
    let h = k.roomy origin i d home there in
    let more = places i at origin home in
    let one : aliens_in (noted d entry).journal ≡ aliens_in d.journal + 1 = aliens_more d.journal (noted d entry).journal entry refl ∙ alien (aliens_in d.journal) in
    record {
      box = with_more more.places h.box;
      is_there = more.is ∙ ap (option_map (with_more more.places)) h.is_there;
      roomy = record { puts = h.roomy.puts; places = omega (arith, h.roomy.places, more.enough, one) };
    }

-- it emits nothing, or what it emits goes elsewhere
pub alien_silent : (ds new : List DomainView) (boxes grown : List BoxView) (n : ℕ) (place : Place) (frame : Descriptor) (sent : Option Descriptor) → Keeps ds boxes → IsGrown boxes grown → HasPlaces ds n boxes grown
    → aliened ds n place frame ≡ Some (all new sent) → Keeps new grown
alien_silent ds new boxes grown n place frame sent k g places is =
    let e = entered ds n place frame (all new sent) is in
    silent_keeps ds grown e.place e.entry (all new sent) (keeps_grown ds boxes grown k g) (ready ds boxes grown n e.place e.entry e.alien k places e.there) e.made

-- the same of whatever a call answers that puts nothing
pub entered_keeps : {E : Type 0} (ds new : List DomainView) (boxes grown : List BoxView) (n : ℕ) (place : Place) (frame : Descriptor) (r : Result (Option Descriptor) E) → Keeps ds boxes → IsGrown boxes grown
    → OnOk r (HasPlaces ds n boxes grown) → IfOk r (λ sent. aliened ds n place frame ≡ Some (all new sent)) → OnErr r (new ≡ ds) → Keeps new grown
entered_keeps ds new boxes grown n place frame (Ok sent) k g places ok err = alien_silent ds new boxes grown n place frame sent k g places ok
entered_keeps ds new boxes grown n place frame (Err e) k g places ok err = rw err (keeps_grown ds boxes grown k g)

-- its answer is put

pub alien_room : (ds new : List DomainView) (boxes grown : List BoxView) (to : Origin) (n : ℕ) (place : Place) (frame answer : Descriptor) (class : Class) → Keeps ds boxes → IsGrown boxes grown → HasPlaces ds n boxes grown
    → home_of ds to ≡ place_of ds n → aliened ds n place frame ≡ Some (all new (Some answer)) → IsTrue (has_place grown to class)
alien_room ds new boxes grown to n place frame answer class k g places home is =
    let e = entered ds n place frame (all new (Some answer)) is in
    room_for ds grown to e.place e.entry (all new (Some answer)) answer class (keeps_grown ds boxes grown k g) (ready ds boxes grown n e.place e.entry e.alien k places e.there) (home ∙ e.there) e.made refl

pub alien_put : (ds new : List DomainView) (boxes grown after : List BoxView) (to : Origin) (n : ℕ) (place : Place) (frame answer : Descriptor) → Keeps ds boxes → IsGrown boxes grown → HasPlaces ds n boxes grown
    → home_of ds to ≡ place_of ds n → aliened ds n place frame ≡ Some (all new (Some answer)) → after ≡ changed (with_put answer) grown to → Keeps new after
alien_put ds new boxes grown after to n place frame answer k g places home is put =
    let e = entered ds n place frame (all new (Some answer)) is in
    rw put (emitted_keeps ds grown to e.place e.entry (all new (Some answer)) answer (keeps_grown ds boxes grown k g) (ready ds boxes grown n e.place e.entry e.alien k places e.there) (home ∙ e.there) e.made refl)

-- ---- what is seen of it

pub answer_seen : (ds new : List DomainView) (boxes grown after : List BoxView) (to : Origin) (o : Option Made) (answer : Descriptor) → IsGrown boxes grown → o ≡ Some (all new (Some answer)) → after ≡ changed (with_put answer) grown to
    → emitted_if (seen ds boxes) to o ≡ Some (seen new after)
answer_seen ds new boxes grown after to o answer g is put =
    ap (λ (v : AgentsView). emitted_if v to o) (sym (seen_grown ds boxes grown g)) ∙ put_made ds new grown after to o answer is put

pub silence_seen : (ds new : List DomainView) (boxes grown : List BoxView) (to : Origin) (o : Option Made) → IsGrown boxes grown → o ≡ Some (all new None) → emitted_if (seen ds boxes) to o ≡ Some (seen new grown)
silence_seen ds new boxes grown to o g is = ap (λ (v : AgentsView). emitted_if v to o) (sym (seen_grown ds boxes grown g)) ∙ none_made ds new grown to o is

-- ---- whose entry it is

-- the domain of a function is found by its number
pub number_home : (ds : List DomainView) (boxes : List BoxView) (f n : ℕ) (d : DomainView) → Keeps ds boxes → Some d ≡ domain_at ds (place_of_function ds f) → n ≡ d.share.domain → place_of_function ds f ≡ place_of ds n
number_home ds boxes f n d k found same = function_home ds boxes f n k (ap (is_of_domain n) (sym found) ∙ eq-eqb d.share.domain n (sym same))
