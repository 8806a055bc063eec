-- What all agents keep, after an entry of one of its domains and after its packet was put.
use Rattle.std.proofs.Common.{◌≡◌, ◌≢◌, ℕ, ◌+◌, ◌*◌, ◌≤◌, ◌==◌, Bool, true, false, List, [], ◌∷◌, ◌++◌, length, Option, Some, None, refl, sym, ap, ◌∙◌, subst, arith, slice_get, slice_set}
use Rattle.std.specs.Prelude.{IsTrue, option_map}
use Rattle.std.proofs.lemmas.Bool.{lt-ltb}
use Rattle.std.proofs.lemmas.Option.{same_Some}
use Rattle.fab_types.specs.declared.class.Class.{Class}
use Rattle.fab_types.specs.declared.class.Class.TheVariants.{Posted, NonPosted, Completion}
use Rattle.fab_types.specs.declared.origin.Origin.{Origin}
use Rattle.fab_types.specs.declared.origin.Origin.TheVariants.{Function, Host}
use Rattle.frame_log.specs.Descriptor.{Descriptor}
use Rattle.fab_types.specs.Origins.{same_origin}
use Rattle.fab_types.proofs.Origins.{one_origin}
use Rattle.platform.specs.Owners.{is_own_function}
use Rattle.platform.specs.Share.{Share}
use Rattle.port_queue.specs.declared.per_class.PerClass.{PerClass}
use Rattle.port_queue.specs.PerClass.{at_class, with_class}
use Rattle.domain.proofs.Accounting.{aliens_more}
use Rattle.domain.proofs.Keeping.{replays_more}
use Rattle.domain.specs.declared.entry.Entry.{Entry}
use Rattle.domain.specs.Domains.{DomainView}
use Rattle.domain.specs.Machine.{aliens_in, change, replay, with_alien}
use Rattle.request_handling.specs.Emissions.{Emission}
use Rattle.domain_state.specs.State.{Change}
use Rattle.outboxes.proofs.Changing.{changed_there, others_stay}
use Rattle.outboxes.specs.Outboxes.{BoxView, changed, has_place, has_place_in, with_put}
use Rattle.domains.specs.Domains.{Made, after, made_at, made_by, made_of, place_of, place_of_function}
use Rattle.domains.proofs.Flights.{count, grows, within_budget}
use Rattle.domains.proofs.Lists.{each_place, position_kept}
use Rattle.domains.specs.Agents.{home_of}
use Rattle.domains.specs.AgentsKept.{HasBox, IsRoomy, Keeps}

-- ---- an entry of the domain at a place

pub record Step (ds : List DomainView) (i : ℕ) (entry : Entry) (m : Made) : Type 0 where
  pub old : DomainView
  pub there : slice_get ds i ≡ Some old
  pub made : Change
  pub legal : change old.share old.state entry ≡ Some made
  pub is : made_by ds i entry old made ≡ m

step_of : (ds : List DomainView) (i : ℕ) (entry : Entry) (m : Made) (d : DomainView) (c : Option Change) → slice_get ds i ≡ Some d → change d.share d.state entry ≡ c → option_map (made_by ds i entry d) c ≡ Some m → Step ds i entry m
step_of ds i entry m d None there legal is = absurd cc
step_of ds i entry m d (Some c) there legal is = record { old = d; there = there; made = c; legal = legal; is = same_Some _ m is }

step_in : (ds : List DomainView) (i : ℕ) (entry : Entry) (m : Made) (o : Option DomainView) → slice_get ds i ≡ o → made_of ds i entry o ≡ Some m → Step ds i entry m
step_in ds i entry m None there is = absurd cc
step_in ds i entry m (Some d) there is = step_of ds i entry m d (change d.share d.state entry) there refl is

pub stepped : (ds : List DomainView) (i : ℕ) (entry : Entry) (m : Made) → made_at ds entry (Some i) ≡ Some m → Step ds i entry m
stepped ds i entry m is = step_in ds i entry m (slice_get ds i) refl is

-- the domains of the origins stay where they are
home_kept : (ds : List DomainView) (i : ℕ) (d new : DomainView) → slice_get ds i ≡ Some d → new.share ≡ d.share → (origin : Origin) → home_of (slice_set ds i new) origin ≡ home_of ds origin
unfolding place_of place_of_function
home_kept ds i d new there same (Function f) = position_kept (λ (x : DomainView). is_own_function x.share f) ds i d new there (ap (λ (s : Share). is_own_function s f) same)
home_kept ds i d new there same (Host n) = position_kept (λ (x : DomainView). x.share.domain == n) ds i d new there (ap (λ (s : Share). s.domain == n) same)

-- ---- places for what an entry leads to

-- the domain as it is before an entry, which is the last of its journal already
abbrev pub noted : DomainView → Entry → DomainView
noted d entry = record { share = d.share; state = d.state; journal = d.journal ++ entry ∷ [] }

-- the boxes of the domain at a place have places for what this entry leads to
abbrev pub IsReady : List DomainView → List BoxView → ℕ → Entry → Type 0
IsReady ds boxes i entry = (origin : Origin) (d : DomainView) → home_of ds origin ≡ Some i → slice_get ds i ≡ Some d → HasBox boxes (noted d entry) origin

-- an entry that is of no alien packet
abbrev pub IsOwn : Entry → Type 0
IsOwn entry = (n : ℕ) → with_alien entry n ≡ n

pub own_ready : (ds : List DomainView) (boxes : List BoxView) (i : ℕ) (entry : Entry) → IsOwn entry → Keeps ds boxes → IsReady ds boxes i entry
own_ready ds boxes i entry own k origin d home there =
    let h = k.roomy origin i d home there in
    let same : aliens_in (noted d entry).journal ≡ aliens_in d.journal = aliens_more d.journal (noted d entry).journal entry refl ∙ own (aliens_in d.journal) in
    record { box = h.box; is_there = h.is_there; roomy = record { puts = h.roomy.puts; places = omega (arith, h.roomy.places, same) } }

replays_after : (d : DomainView) (entry : Entry) (c : Change) → replay d.share d.journal ≡ Some d.state → change d.share d.state entry ≡ Some c → replay d.share (after d entry c).journal ≡ Some c.state
replays_after d entry c was legal = replays_more d.share d.state c.state d.journal (after d entry c).journal entry c.emission was refl legal

roomy_after : (d : DomainView) (entry : Entry) (c : Change) (box : BoxView) → change d.share d.state entry ≡ Some c → IsRoomy (noted d entry) box → IsRoomy (after d entry c) box
roomy_after d entry c box legal r =
    let more : length c.state.flight ≡ length d.state.flight + count c.emission = grows d.share d.state entry c legal in
    record { puts = λ class. omega (arith, r.puts class, more); places = r.places }

-- ---- no packet is put

kept_with : (ds : List DomainView) (boxes others : List BoxView) (i : ℕ) (d : DomainView) (entry : Entry) (c : Change) → Keeps ds boxes → slice_get ds i ≡ Some d → change d.share d.state entry ≡ Some c
    → ((origin : Origin) → home_of ds origin ≡ Some i → HasBox others (after d entry c) origin)
    → ((origin : Origin) (place : ℕ) (x : DomainView) → place ≢ i → home_of ds origin ≡ Some place → slice_get ds place ≡ Some x → HasBox others x origin)
    → Keeps (slice_set ds i (after d entry c)) others
kept_with ds boxes others i d entry c k there legal here elsewhere =
    let new : DomainView = after d entry c in
    record {
      numbered = λ place x at.
          home_kept ds i d new there refl (Host x.share.domain)
          ∙ each_place (λ j y. place_of ds y.share.domain ≡ Some j) ds i new (k.numbered i d there) (λ j y apart is. k.numbered j y is) place x at;
      replayed = λ place x at. each_place (λ j y. replay y.share y.journal ≡ Some y.state) ds i new (replays_after d entry c (k.replayed i d there) legal) (λ j y apart is. k.replayed j y is) place x at;
      roomy = λ origin place x home at.
          each_place (λ j y. home_of ds origin ≡ Some j → HasBox others y origin) ds i new (here origin) (λ j y apart is at_home. elsewhere origin j y apart at_home is) place x at
          (sym (home_kept ds i d new there refl origin) ∙ home);
    }

pub silent_keeps : (ds : List DomainView) (boxes : List BoxView) (i : ℕ) (entry : Entry) (m : Made) → Keeps ds boxes → IsReady ds boxes i entry → made_at ds entry (Some i) ≡ Some m → Keeps m.domains boxes
silent_keeps ds boxes i entry m k ready made =
    let s = stepped ds i entry m made in
    subst (λ (x : Made). Keeps x.domains boxes) s.is
    (kept_with ds boxes boxes i s.old entry s.made k s.there s.legal
    (λ origin home. let h = ready origin s.old home s.there in record { box = h.box; is_there = h.is_there; roomy = roomy_after s.old entry s.made h.box s.legal h.roomy })
    (λ origin place x apart home at. k.roomy origin place x home at))

-- ---- a packet is put

-- of each class at most one more
puts_more : (puts : PerClass ℕ) (class other : Class) → at_class (with_class puts class (at_class puts class + 1)) other ≤ at_class puts other + 1
puts_more puts Posted Posted = omega arith
puts_more puts Posted NonPosted = omega arith
puts_more puts Posted Completion = omega arith
puts_more puts NonPosted Posted = omega arith
puts_more puts NonPosted NonPosted = omega arith
puts_more puts NonPosted Completion = omega arith
puts_more puts Completion Posted = omega arith
puts_more puts Completion NonPosted = omega arith
puts_more puts Completion Completion = omega arith

sent_counts : (f : Emission → Descriptor) (o : Option Emission) (frame : Descriptor) → option_map f o ≡ Some frame → count o ≡ 1
sent_counts f None frame is = absurd cc
sent_counts f (Some e) frame is = refl

-- the box of the packet's origin
own_box : (boxes : List BoxView) (to : Origin) (frame : Descriptor) (d : DomainView) (entry : Entry) (c : Change) → change d.share d.state entry ≡ Some c → count c.emission ≡ 1 → HasBox boxes (noted d entry) to
    → HasBox (changed (with_put frame) boxes to) (after d entry c) to
own_box boxes to frame d entry c legal one h =
    let more : length c.state.flight ≡ length d.state.flight + count c.emission = grows d.share d.state entry c legal in
    record {
      box = with_put frame h.box;
      is_there = changed_there (with_put frame) boxes to (λ b. refl) ∙ ap (option_map (with_put frame)) h.is_there;
      roomy = record {
        puts = λ class. omega (arith, puts_more h.box.puts frame.head.cost.class class, h.roomy.puts class, more, one);
        places = h.roomy.places;
      };
    }

-- the box of another origin
other_box : (change : BoxView → BoxView) (boxes : List BoxView) (to origin : Origin) (d : DomainView) → ((b : BoxView) → (change b).origin ≡ b.origin) → same_origin origin to ≡ false → HasBox boxes d origin
    → HasBox (changed change boxes to) d origin
other_box change boxes to origin d keeps apart h = record { box = h.box; is_there = others_stay change boxes to keeps origin apart ∙ h.is_there; roomy = h.roomy }

put_here : (b : Bool) (ds : List DomainView) (boxes : List BoxView) (to origin : Origin) (frame : Descriptor) (i : ℕ) (d : DomainView) (entry : Entry) (c : Change) → same_origin origin to ≡ b → IsReady ds boxes i entry
    → slice_get ds i ≡ Some d → change d.share d.state entry ≡ Some c → count c.emission ≡ 1 → home_of ds origin ≡ Some i → HasBox (changed (with_put frame) boxes to) (after d entry c) origin
put_here true ds boxes to origin frame i d entry c same ready there legal one home =
    let is : origin ≡ to = one_origin origin to same in
    subst (λ (o : Origin). HasBox (changed (with_put frame) boxes to) (after d entry c) o) (sym is)
    (own_box boxes to frame d entry c legal one (subst (HasBox boxes (noted d entry)) is (ready origin d home there)))
put_here false ds boxes to origin frame i d entry c same ready there legal one home =
    let h = ready origin d home there in
    other_box (with_put frame) boxes to origin (after d entry c) (λ b. refl) same (record { box = h.box; is_there = h.is_there; roomy = roomy_after d entry c h.box legal h.roomy })

put_elsewhere : (b : Bool) (ds : List DomainView) (boxes : List BoxView) (to origin : Origin) (frame : Descriptor) (i place : ℕ) (x : DomainView) → same_origin origin to ≡ b → Keeps ds boxes → home_of ds to ≡ Some i → place ≢ i
    → home_of ds origin ≡ Some place → slice_get ds place ≡ Some x → HasBox (changed (with_put frame) boxes to) x origin
put_elsewhere true ds boxes to origin frame i place x same k to_home apart home at =
    absurd (apart (same_Some place i (sym home ∙ ap (home_of ds) (one_origin origin to same) ∙ to_home)))
put_elsewhere false ds boxes to origin frame i place x same k to_home apart home at = other_box (with_put frame) boxes to origin x (λ b. refl) same (k.roomy origin place x home at)

pub emitted_keeps : (ds : List DomainView) (boxes : List BoxView) (to : Origin) (i : ℕ) (entry : Entry) (m : Made) (frame : Descriptor) → Keeps ds boxes → IsReady ds boxes i entry → home_of ds to ≡ Some i → made_at ds entry (Some i) ≡ Some m
    → m.sent ≡ Some frame → Keeps m.domains (changed (with_put frame) boxes to)
emitted_keeps ds boxes to i entry m frame k ready home made sent =
    let s = stepped ds i entry m made in
    let one = sent_counts _ s.made.emission frame (ap (λ (x : Made). x.sent) s.is ∙ sent) in
    subst (λ (x : Made). Keeps x.domains (changed (with_put frame) boxes to)) s.is
    (kept_with ds boxes (changed (with_put frame) boxes to) i s.old entry s.made k s.there s.legal
    (λ origin at_home. put_here (same_origin origin to) ds boxes to origin frame i s.old entry s.made refl ready s.there s.legal one at_home)
    (λ origin place x apart at_home at. put_elsewhere (same_origin origin to) ds boxes to origin frame i place x refl k home apart at_home at))

-- and there was a place for it
pub room_for : (ds : List DomainView) (boxes : List BoxView) (to : Origin) (i : ℕ) (entry : Entry) (m : Made) (frame : Descriptor) (class : Class) → Keeps ds boxes → IsReady ds boxes i entry → home_of ds to ≡ Some i
    → made_at ds entry (Some i) ≡ Some m → m.sent ≡ Some frame → IsTrue (has_place boxes to class)
room_for ds boxes to i entry m frame class k ready home made sent =
    let s = stepped ds i entry m made in
    let d = s.old in
    let h = ready to d home s.there in
    let one : count s.made.emission ≡ 1 = sent_counts _ s.made.emission frame (ap (λ (x : Made). x.sent) s.is ∙ sent) in
    let more : length s.made.state.flight ≡ length d.state.flight + count s.made.emission = grows d.share d.state entry s.made s.legal in
    let most = within_budget d.share (after d entry s.made).journal s.made.state (replays_after d entry s.made (k.replayed i d s.there) s.legal) in
    ap (λ (o : Option BoxView). has_place_in o class) h.is_there ∙ lt-ltb (at_class h.box.puts class) h.box.places (omega (arith, h.roomy.puts class, h.roomy.places, one, more, most))

-- ---- what waits of an origin changes

quiet_here : (b : Bool) (change : BoxView → BoxView) (boxes : List BoxView) (to origin : Origin) (d : DomainView) → same_origin origin to ≡ b → ((x : BoxView) → (change x).origin ≡ x.origin)
    → ((x : BoxView) → IsRoomy d x → IsRoomy d (change x)) → HasBox boxes d origin → HasBox (changed change boxes to) d origin
quiet_here true change boxes to origin d same keeps roomy h =
    let is : origin ≡ to = one_origin origin to same in
    let there = subst (HasBox boxes d) is h in
    subst (HasBox (changed change boxes to) d) (sym is)
    (record { box = change there.box; is_there = changed_there change boxes to keeps ∙ ap (option_map change) there.is_there; roomy = roomy there.box there.roomy })
quiet_here false change boxes to origin d same keeps roomy h = other_box change boxes to origin d keeps same h

pub quiet_keeps : (change : BoxView → BoxView) (ds : List DomainView) (boxes : List BoxView) (to : Origin) → ((x : BoxView) → (change x).origin ≡ x.origin) → ((x : BoxView) → (change x).puts ≡ x.puts)
    → ((x : BoxView) → (change x).places ≡ x.places) → Keeps ds boxes → Keeps ds (changed change boxes to)
quiet_keeps change ds boxes to origin_kept puts_kept places_kept k = record {
  numbered = k.numbered;
  replayed = k.replayed;
  roomy = λ origin place d home at.
      quiet_here (same_origin origin to) change boxes to origin d refl origin_kept
      (λ x r. record {
        puts = λ class. subst (λ (l : PerClass ℕ). at_class l class ≤ length d.state.flight) (sym (puts_kept x)) (r.puts class);
        places = subst (λ (n : ℕ). 3 * d.share.budget + 2 * aliens_in d.journal ≤ n) (sym (places_kept x)) r.places;
      })
      (k.roomy origin place d home at);
}
