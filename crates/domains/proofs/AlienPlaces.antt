-- The outboxes of a domain get places, one after the other.
use Rattle.std.proofs.Common.{◌≡◌, ℕ, ◌+◌, ◌<◌, ◌≤◌, ◌==◌, Bool, true, false, List, [], length, map, get_or, take, Option, Some, None, refl, sym, ap, ◌∙◌, subst, arith, slice_get, eqb-true}
use Rattle.std.specs.Prelude.{◌&&◌, ◌||◌, OnOk, Result, Ok, Err, option_map}
use Rattle.std.specs.List.{list_any}
use Rattle.std.specs.Result.{is_err}
use Rattle.std.proofs.lemmas.List.Folds.{list_any_more}
use Rattle.std.proofs.lemmas.Option.{get_or_from_slice_get}
use Rattle.std.proofs.Math.Seq.{map-set_same}
use Rattle.fab_types.specs.declared.origin.Origin.{Origin}
use Rattle.fab_types.specs.declared.origin.Origin.TheVariants.{Function, Host}
use Rattle.fab_types.specs.Origins.{same_origin}
use Rattle.fab_types.proofs.Origins.{one_origin}
use Rattle.platform.specs.declared.parts.EndpointFunction.{EndpointFunction}
use Rattle.platform.specs.Owners.{is_function, is_own_function}
use Rattle.platform.specs.Share.{Share}
use Rattle.domain.specs.Domains.{DomainView}
use Rattle.outboxes.proofs.Changing.{changed_there, others_stay}
use Rattle.outboxes.specs.Outboxes.{BoxView, box_of, box_place, changed, changed_at, changed_in, with_more}
use Rattle.domains.specs.Domains.{domain_at, place_of, place_of_function}
use Rattle.domains.proofs.Lists.{found_there}
use Rattle.domains.specs.Agents.{home_of}
use Rattle.domains.specs.AgentsKept.{outbox_of}
use Rattle.domains.specs.AlienPlaces.{HasMore, HasPlaces, IsGrown, is_of}

-- ---- one box gets places

none_more : (o : Option BoxView) → o ≡ option_map (with_more 0) o
none_more None = refl
none_more (Some b) = ap (λ (n : ℕ). Some (record { origin = b.origin; queue = b.queue; puts = b.puts; places = n })) (omega arith)

both_more : (m n : ℕ) (o : Option BoxView) → option_map (with_more n) (option_map (with_more m) o) ≡ option_map (with_more (m + n)) o
both_more m n None = refl
both_more m n (Some b) = ap (λ (k : ℕ). Some (record { origin = b.origin; queue = b.queue; puts = b.puts; places = k })) (omega arith)

pub grown_none : (boxes : List BoxView) → IsGrown boxes boxes
grown_none boxes = record { each = λ origin. record { places = 0; enough = omega arith; is = none_more (box_of boxes origin) }; waiting = refl }

-- the box that gets them
more_here : (least n most : ℕ) (old boxes : List BoxView) (to : Origin) → most ≤ least + n → HasMore least old boxes to → HasMore most old (changed (with_more n) boxes to) to
more_here least n most old boxes to enough h = record {
  places = h.places + n;
  enough = omega (arith, h.enough, enough);
  is = changed_there (with_more n) boxes to (λ b. refl) ∙ ap (option_map (with_more n)) h.is ∙ both_more h.places n (box_of old to);
}

-- what each box has already, it keeps
more_stays : (b : Bool) (least n : ℕ) (old boxes : List BoxView) (to origin : Origin) → same_origin origin to ≡ b → HasMore least old boxes origin → HasMore least old (changed (with_more n) boxes to) origin
more_stays true least n old boxes to origin same h =
    let is : origin ≡ to = one_origin origin to same in
    subst (HasMore least old (changed (with_more n) boxes to)) (sym is) (more_here least n least old boxes to (omega arith) (subst (HasMore least old boxes) is h))
more_stays false least n old boxes to origin same h = record { places = h.places; enough = h.enough; is = others_stay (with_more n) boxes to (λ b. refl) origin same ∙ h.is }

still_waits_in : (n : ℕ) (boxes : List BoxView) (i : ℕ) (o : Option BoxView) → slice_get boxes i ≡ o → map outbox_of (changed_in (with_more n) boxes i o) ≡ map outbox_of boxes
still_waits_in n boxes i None there = refl
still_waits_in n boxes i (Some b) there = map-set_same outbox_of boxes i (with_more n b) b (ap outbox_of (sym (get_or_from_slice_get boxes i b b there)))

still_waits : (n : ℕ) (boxes : List BoxView) (o : Option ℕ) → map outbox_of (changed_at (with_more n) boxes o) ≡ map outbox_of boxes
still_waits n boxes None = refl
still_waits n boxes (Some i) = still_waits_in n boxes i (slice_get boxes i) refl

pub grown_more : (n : ℕ) (old boxes new : List BoxView) (to : Origin) → IsGrown old boxes → new ≡ changed (with_more n) boxes to → IsGrown old new
grown_more n old boxes new to g is = subst (IsGrown old) (sym is) (record {
  each = λ origin. more_stays (same_origin origin to) 0 n old boxes to origin refl (g.each origin);
  waiting = still_waits n boxes (box_place boxes to) ∙ g.waiting;
})

-- ---- the boxes of a domain's host, and of its functions among these lines

abbrev pub is_among : Share → List EndpointFunction → Origin → Bool
is_among share lines (Function f) = is_function lines f && is_own_function share f
is_among share lines (Host n) = share.domain == n

abbrev pub Reaches : Share → List EndpointFunction → List BoxView → List BoxView → Type 0
Reaches share lines old new = (origin : Origin) → is_among share lines origin ≡ true → HasMore 2 old new origin

pub host_reached : (share : Share) (old new : List BoxView) → new ≡ changed (with_more 2) old (Host share.domain) → Reaches share [] old new
host_reached share old new is (Function f) among = absurd cc
host_reached share old new is (Host n) among =
    subst (λ (o : Origin). HasMore 2 old new o) (ap Host (eqb-true share.domain n among))
    (subst (λ (bs : List BoxView). HasMore 2 old bs (Host share.domain)) (sym is) (more_here 0 2 2 old old (Host share.domain) (omega arith) ((grown_none old).each (Host share.domain))))

-- a function among these lines and one more is among these, or is that one
either : {P : Type 0} (was here own : Bool) → ((was || here) && own) ≡ true → ((was && own) ≡ true → P) → (here ≡ true → own ≡ true → P) → P
either true here own among past last = past among
either false true own among past last = last refl among
either false false own among past last = absurd cc

among_more : {P : Type 0} (share : Share) (lines : List EndpointFunction) (i f : ℕ) (line : EndpointFunction) → i < length lines → is_among share (take (i + 1) lines) (Function f) ≡ true
    → (is_among share (take i lines) (Function f) ≡ true → P) → ((get_or lines i line).id ≡ f → is_own_function share f ≡ true → P) → P
among_more share lines i f line within among past last =
    let test : EndpointFunction → Bool = λ x. x.id == f in
    either (list_any test (take i lines)) (test (get_or lines i line)) (is_own_function share f)
    (ap (λ (b : Bool). b && is_own_function share f) (sym (list_any_more test lines i line within)) ∙ among) past
    (λ here own. last (eqb-true (get_or lines i line).id f here) own)

-- the function of the next line gets places
pub function_reached : (share : Share) (lines : List EndpointFunction) (i : ℕ) (line : EndpointFunction) (old boxes new : List BoxView) → i < length lines → line ≡ get_or lines i line → IsGrown old boxes
    → Reaches share (take i lines) old boxes → new ≡ changed (with_more 2) boxes (Function line.id) → Reaches share (take (i + 1) lines) old new
function_reached share lines i line old boxes new within there g reached is (Host n) among =
    subst (λ (bs : List BoxView). HasMore 2 old bs (Host n)) (sym is) (more_stays false 2 2 old boxes (Function line.id) (Host n) refl (reached (Host n) among))
function_reached share lines i line old boxes new within there g reached is (Function f) among =
    let to : Origin = Function line.id in
    subst (λ (bs : List BoxView). HasMore 2 old bs (Function f)) (sym is)
    (among_more share lines i f line within among
    (λ was. more_stays (same_origin (Function f) to) 2 2 old boxes to (Function f) refl (reached (Function f) was))
    (λ here own.
    let same : line.id ≡ f = ap (λ (x : EndpointFunction). x.id) there ∙ here in
    subst (λ (k : ℕ). HasMore 2 old (changed (with_more 2) boxes to) (Function k)) same (more_here 0 2 2 old boxes to (omega arith) (g.each to))))

-- it is a function of another domain
pub function_passed : (share : Share) (lines : List EndpointFunction) (i : ℕ) (line : EndpointFunction) (old boxes : List BoxView) → i < length lines → line ≡ get_or lines i line → is_own_function share line.id ≡ false
    → Reaches share (take i lines) old boxes → Reaches share (take (i + 1) lines) old boxes
function_passed share lines i line old boxes within there other reached (Host n) among = reached (Host n) among
function_passed share lines i line old boxes within there other reached (Function f) among =
    among_more share lines i f line within among (reached (Function f))
    (λ here own.
    let same : line.id ≡ f = ap (λ (x : EndpointFunction). x.id) there ∙ here in
    let not_own : is_own_function share f ≡ false = ap (is_own_function share) (sym same) ∙ other in
    absurd cc)

-- ---- the domain with a number

origin_is_of : (ds : List DomainView) (origin : Origin) (i : ℕ) (d : DomainView) → slice_get ds i ≡ Some d → home_of ds origin ≡ Some i → is_of d.share origin ≡ true
unfolding place_of place_of_function
origin_is_of ds (Function f) i d there home = found_there (λ (x : DomainView). is_own_function x.share f) ds i d home there
origin_is_of ds (Host n) i d there home = found_there (λ (x : DomainView). x.share.domain == n) ds i d home there

pub places_made : (ds : List DomainView) (n : ℕ) (d : DomainView) (old new : List BoxView) → Some d ≡ domain_at ds (place_of ds n) → ((origin : Origin) → is_of d.share origin ≡ true → HasMore 2 old new origin) → HasPlaces ds n old new
places_made ds n d old new found made place at origin home =
    made origin (origin_is_of ds origin place d (ap (domain_at ds) (sym at) ∙ sym found) home)

-- a call that made them was no error
pub made_so : {T E P : Type 0} (r : Result T E) → is_err r ≡ false → OnOk r P → P
made_so (Ok x) fine ok = ok
made_so (Err e) fine ok = absurd cc

pub on_any : {T E P : Type 0} (r : Result T E) → P → OnOk r P
on_any (Ok x) p = p
on_any (Err e) p = tt
