-- What all agents keep holds at the start of a layout.
use Rattle.std.proofs.Common.{◌≡◌, ℕ, zero, suc, ◌+◌, ◌*◌, ◌<◌, ◌≤◌, ◌==◌, Bool, true, false, cond, List, [], ◌∷◌, ◌++◌, length, map, get_or, Option, Some, None, refl, sym, ap, ◌∙◌, subst, arith, slice_get, eqb-true, eq-eqb}
use Rattle.std.specs.Prelude.{◌&&◌, is_some, nat_lt, option_map}
use Rattle.std.specs.List.{filter, find, list_any, position, position_or_len, range_with_len}
use Rattle.std.specs.List.Sorted.{IsStrictlyIncreasing}
use Rattle.std.specs.Option.{option_or}
use Rattle.std.proofs.lemmas.Bool.{lt-ltb, ltb-false}
use Rattle.std.proofs.lemmas.List.{map-append}
use Rattle.std.proofs.lemmas.List.Folds.{Any-from_list_any, find-append, find_at, list_any_at}
use Rattle.std.proofs.lemmas.List.FromFn.{get_or-range_with_len, length-range_with_len}
use Rattle.std.proofs.lemmas.List.Kept.{AllPairs-from_increasing, IsStrictlyIncreasing-filter}
use Rattle.std.proofs.lemmas.List.Sums.{position_or_len_is}
use Rattle.std.proofs.lemmas.Option.{get_or_from_slice_get, same_Some, slice_get-get_or, slice_get_past, slice_get_within}
use Rattle.fab_types.specs.declared.class.Class.{Class}
use Rattle.fab_types.specs.declared.class.Class.TheVariants.{Posted, NonPosted, Completion}
use Rattle.fab_types.specs.declared.origin.Origin.{Origin}
use Rattle.fab_types.specs.declared.origin.Origin.TheVariants.{Function, Host}
use Rattle.fab_types.specs.Id.{bus_of}
use Rattle.fab_types.specs.Origins.{same_origin}
use Rattle.platform.proofs.Bools.{and-first, and-second}
use Rattle.layout.proofs.Bools.{any-missing}
use Rattle.platform.specs.declared.parts.EndpointFunction.{EndpointFunction}
use Rattle.platform.specs.declared.parts.DownstreamPort.{DownstreamPort}
use Rattle.layout.specs.Laws.{IsPlatform}
use Rattle.platform.specs.Owners.{domain_above, is_function, is_own_function, owns_port}
use Rattle.platform.specs.Platform.{Platform}
use Rattle.layout.specs.Views.{budget_of, share_of_domain}
use Rattle.port_queue.specs.PerClass.{at_class}
use Rattle.domain.specs.Domains.{DomainView}
use Rattle.domain.specs.Machine.{replay}
use Rattle.outboxes.specs.Outboxes.{BoxView, box_at, box_of, box_place, boxes_of, empty_box, function_box, host_box, host_boxes, places_of}
use Rattle.domains.specs.Domains.{fresh, place_of, place_of_function, starting_domains_among, starting_domains}
use Rattle.domains.proofs.Lists.{find_map, found_there, get_map, position_map}
use Rattle.domains.proofs.OneOwner.{found_passes, one_owner}
use Rattle.domains.specs.Agents.{Outbox, agents_of, empty, home_of}
use Rattle.domains.specs.AgentsKept.{HasBox, IsRoomy, Keeps, outbox_of, seen}

-- ---- numbers that rise

rising : (a n : ℕ) → IsStrictlyIncreasing (range_with_len a n)
rising a n k within =
    let long = length-range_with_len a n in
    let here = get_or-range_with_len a n k 0 (omega (arith, long, within)) in
    let next = get_or-range_with_len a n (k + 1) 0 (omega (arith, long, within)) in
    omega (arith, here, next)

differs : (a b : ℕ) → a < b → (a == b) ≡ false
differs a b less = by (a == b) refl
  where
    by : (t : Bool) → (a == b) ≡ t → t ≡ false
    by true e = absurd (let same : a ≡ b = eqb-true a b e in omega (arith, less, same))
    by false e = refl

-- the numbers of the domains that own a port
abbrev numbers : Platform → List ℕ
numbers platform = filter (owns_port platform.ports) (range_with_len 1 31)

-- each stands once
place_is : (ns : List ℕ) (i n : ℕ) → IsStrictlyIncreasing ns → slice_get ns i ≡ Some n → position (λ (m : ℕ). m == n) ns ≡ Some i
place_is ns i n rises there =
    let test : ℕ → Bool = λ m. m == n in
    let within : i < length ns = slice_get_within ns i n there in
    let here : get_or ns i n ≡ n = get_or_from_slice_get ns i n n there in
    let at : position_or_len test ns ≡ i =
    position_or_len_is test ns i n (omega (arith, within))
    (λ k less. let lower = AllPairs-from_increasing ns rises k i n less within in differs (get_or ns k n) n (omega (arith, lower, here)))
    (λ less. eq-eqb (get_or ns i n) n here) in
    ap (λ (k : ℕ). cond (nat_lt k (length ns)) (Some k) None) at ∙ ap (λ (b : Bool). cond b (Some i) None) (lt-ltb i (length ns) within)

number_here : (b : Bool) (x n : ℕ) (rest : Option ℕ) → (x == n) ≡ b → rest ≡ Some n → cond b (Some x) rest ≡ Some n
number_here true x n rest e later = ap (λ (k : ℕ). Some k) (eqb-true x n e)
number_here false x n rest e later = later

number_found : (ns : List ℕ) (i n : ℕ) → slice_get ns i ≡ Some n → find (λ (m : ℕ). m == n) ns ≡ Some n
number_found [] i n there = absurd cc
number_found (x ∷ ns) zero n there = first (x == n) refl
  where
    first : (b : Bool) → (x == n) ≡ b → cond b (Some x) (find (λ (m : ℕ). m == n) ns) ≡ Some n
    first true e = there
    first false e = absurd (let same : (x == n) ≡ true = eq-eqb x n (same_Some x n there) in cc)
number_found (x ∷ ns) (suc i) n there = number_here (x == n) x n (find (λ (m : ℕ). m == n) ns) refl (number_found ns i n there)

-- ---- the domains at the start

abbrev begins : Platform → ℕ → DomainView
begins platform number = fresh (share_of_domain platform number)

record Starts (platform : Platform) (place : ℕ) (d : DomainView) : Type 0 where
  number : ℕ
  there : slice_get (numbers platform) place ≡ Some number
  is : begins platform number ≡ d

starts_of : (platform : Platform) (place : ℕ) (d : DomainView) (o : Option ℕ) → slice_get (numbers platform) place ≡ o → option_map (begins platform) o ≡ Some d → Starts platform place d
starts_of platform place d None there is = absurd cc
starts_of platform place d (Some n) there is = record { number = n; there = there; is = same_Some _ d is }

starts : (platform : Platform) (place : ℕ) (d : DomainView) → slice_get (starting_domains platform) place ≡ Some d → Starts platform place d
unfolding starting_domains_among
starts platform place d there = starts_of platform place d (slice_get (numbers platform) place) refl (sym (get_map (begins platform) (numbers platform) place) ∙ there)

number_at : (platform : Platform) (place n : ℕ) → slice_get (numbers platform) place ≡ Some n → place_of (starting_domains platform) n ≡ Some place
unfolding starting_domains_among place_of
number_at platform place n there =
    position_map (λ (d : DomainView). d.share.domain == n) (begins platform) (numbers platform)
    ∙ place_is (numbers platform) place n (IsStrictlyIncreasing-filter (owns_port platform.ports) (range_with_len 1 31) (rising 1 31)) there

-- ---- the boxes at the start

found_box : (boxes : List BoxView) (i : ℕ) (b : Bool) → nat_lt i (length boxes) ≡ b → box_at boxes (cond b (Some i) None) ≡ slice_get boxes i
found_box boxes i true e = refl
found_box boxes i false e = sym (slice_get_past boxes i (ltb-false i (length boxes) e))

box_found : (boxes : List BoxView) (origin : Origin) → box_of boxes origin ≡ find (λ (b : BoxView). same_origin b.origin origin) boxes
unfolding box_place
box_found boxes origin =
    let test : BoxView → Bool = λ b. same_origin b.origin origin in
    found_box boxes (position_or_len test boxes) (nat_lt (position_or_len test boxes) (length boxes)) refl ∙ sym (find_at test boxes)

none_found : {X : Type 0} (xs : List X) → find (λ x. false) xs ≡ None
none_found [] = refl
none_found (x ∷ xs) = none_found xs

host_found : (platform : Platform) (place n : ℕ) → slice_get (numbers platform) place ≡ Some n → box_of (boxes_of platform) (Host n) ≡ Some (host_box platform n)
unfolding host_boxes
host_found platform place n there =
    let test : BoxView → Bool = λ b. same_origin b.origin (Host n) in
    let functions : find test (map (function_box platform) platform.functions) ≡ None =
    find_map test (function_box platform) platform.functions ∙ ap (option_map (function_box platform)) (none_found platform.functions) in
    let hosts : find test (map (host_box platform) (numbers platform)) ≡ Some (host_box platform n) =
    find_map test (host_box platform) (numbers platform) ∙ ap (option_map (host_box platform)) (number_found (numbers platform) place n there) in
    box_found (boxes_of platform) (Host n) ∙ find-append test (map (function_box platform) platform.functions) (map (host_box platform) (numbers platform))
    ∙ ap (λ (o : Option BoxView). option_or o (find test (map (host_box platform) (numbers platform)))) functions ∙ hosts

-- what a test finds, where it passes anywhere
record Found {X : Type 0} (p : X → Bool) (xs : List X) : Type 0 where
  element : X
  is : find p xs ≡ Some element
  passes : p element ≡ true

found_from : {X : Type 0} (p : X → Bool) (xs : List X) (o : Option X) → find p xs ≡ o → list_any p xs ≡ true → Found p xs
found_from p xs None is any = absurd (let none : list_any p xs ≡ false = any-missing p xs (ap is_some is) in cc)
found_from p xs (Some x) is any = record { element = x; is = is; passes = found_passes p xs x is }

found : {X : Type 0} (p : X → Bool) (xs : List X) → list_any p xs ≡ true → Found p xs
found p xs any = found_from p xs (find p xs) refl any

function_found : (platform : Platform) (f : ℕ) → is_function platform.functions f ≡ true → box_of (boxes_of platform) (Function f) ≡ Some (empty_box (places_of platform (domain_above platform.ports f)) (Function f))
function_found platform f is =
    let test : BoxView → Bool = λ b. same_origin b.origin (Function f) in
    let line = found (λ (l : EndpointFunction). l.id == f) platform.functions is in
    let functions : find test (map (function_box platform) platform.functions) ≡ Some (function_box platform line.element) =
    find_map test (function_box platform) platform.functions ∙ ap (option_map (function_box platform)) line.is in
    box_found (boxes_of platform) (Function f) ∙ find-append test (map (function_box platform) platform.functions) (host_boxes platform 31)
    ∙ ap (λ (o : Option BoxView). option_or o (find test (host_boxes platform 31))) functions
    ∙ ap (λ (id : ℕ). some (empty_box (places_of platform (domain_above platform.ports id)) (Function id))) (eqb-true line.element.id f line.passes)
  where
    some : BoxView → Option BoxView
    some b = Some b

-- ---- the domain of a function is that of the port directly above it

abbrev owns_above : ℕ → ℕ → DownstreamPort → Bool
owns_above domain f port = (port.owner == domain) && (port.secondary == bus_of f)

above_is : (platform : Platform) (f domain i : ℕ) (port : DownstreamPort) → IsPlatform platform → slice_get platform.ports i ≡ Some port → owns_above domain f port ≡ true → domain_above platform.ports f ≡ Some domain
above_is platform f domain i port laws there owns =
    let test : DownstreamPort → Bool = λ line. line.secondary == bus_of f in
    let within : i < length platform.ports = slice_get_within platform.ports i port there in
    let below : test port ≡ true = and-second (port.owner == domain) (test port) owns in
    let any : list_any test platform.ports ≡ true = list_any_at test platform.ports i port within (ap test (get_or_from_slice_get platform.ports i port port there) ∙ below) in
    let first = found test platform.ports any in
    let at : slice_get platform.ports (position_or_len test platform.ports) ≡ Some first.element = sym (find_at test platform.ports) ∙ first.is in
    let same : first.element.secondary ≡ port.secondary = eqb-true first.element.secondary (bus_of f) first.passes ∙ sym (eqb-true port.secondary (bus_of f) below) in
    let owner : first.element.owner ≡ domain =
    one_owner platform (position_or_len test platform.ports) i first.element port laws at there same ∙ eqb-true port.owner domain (and-first (port.owner == domain) (test port) owns) in
    ap (option_map (λ (line : DownstreamPort). line.owner)) first.is ∙ ap (λ (n : ℕ). Some n) owner

above_any : (platform : Platform) (f domain : ℕ) → IsPlatform platform → list_any (owns_above domain f) platform.ports ≡ true → domain_above platform.ports f ≡ Some domain
above_any platform f domain laws any =
    let some = Any-from_list_any (owns_above domain f) platform.ports any in
    above_is platform f domain some.0 some.1 laws (slice_get-get_or platform.ports some.0 some.1 some.2 ∙ ap (λ (p : DownstreamPort). Some p) some.3) some.4

-- ---- each origin has its box

abbrev no_puts : (places : ℕ) (origin : Origin) → (class : Class) → at_class (empty_box places origin).puts class ≤ 0
no_puts places origin Posted = omega arith
no_puts places origin NonPosted = omega arith
no_puts places origin Completion = omega arith

fresh_box : (platform : Platform) (n places : ℕ) (origin : Origin) → 3 * budget_of platform.budgets n ≤ places → IsRoomy (begins platform n) (empty_box places origin)
fresh_box platform n places origin enough = record { puts = no_puts places origin; places = omega (arith, enough) }

host_has : (platform : Platform) (place n : ℕ) → slice_get (numbers platform) place ≡ Some n → HasBox (boxes_of platform) (begins platform n) (Host n)
host_has platform place n there = record { box = host_box platform n; is_there = host_found platform place n there; roomy = fresh_box platform n (places_of platform (Some n)) (Host n) (omega arith) }

function_has : (platform : Platform) (f n : ℕ) → IsPlatform platform → is_own_function (share_of_domain platform n) f ≡ true → HasBox (boxes_of platform) (begins platform n) (Function f)
function_has platform f n laws own =
    let above = above_any platform f n laws (and-second (is_function platform.functions f) (list_any (owns_above n f) platform.ports) own) in
    record {
      box = empty_box (places_of platform (domain_above platform.ports f)) (Function f);
      is_there = function_found platform f (and-first (is_function platform.functions f) (list_any (owns_above n f) platform.ports) own);
      roomy = fresh_box platform n (places_of platform (domain_above platform.ports f)) (Function f) (rw above (omega arith));
    }

has_box : (platform : Platform) (origin : Origin) (place : ℕ) (d : DomainView) → IsPlatform platform → home_of (starting_domains platform) origin ≡ Some place → slice_get (starting_domains platform) place ≡ Some d
    → HasBox (boxes_of platform) d origin
unfolding place_of place_of_function
has_box platform (Function f) place d laws home there =
    let s = starts platform place d there in
    let own : is_own_function d.share f ≡ true = found_there (λ (x : DomainView). is_own_function x.share f) (starting_domains platform) place d home there in
    subst (λ (x : DomainView). HasBox (boxes_of platform) x (Function f)) s.is
    (function_has platform f s.number laws (ap (λ (x : DomainView). is_own_function x.share f) s.is ∙ own))
has_box platform (Host n) place d laws home there =
    let s = starts platform place d there in
    let own : d.share.domain ≡ n = eqb-true d.share.domain n (found_there (λ (x : DomainView). x.share.domain == n) (starting_domains platform) place d home there) in
    let same : s.number ≡ n = ap (λ (x : DomainView). x.share.domain) s.is ∙ own in
    subst (λ (x : DomainView). HasBox (boxes_of platform) x (Host n)) s.is
    (subst (λ (k : ℕ). HasBox (boxes_of platform) (begins platform s.number) (Host k)) same (host_has platform place s.number s.there))

numbered_start : (platform : Platform) (place : ℕ) (d : DomainView) → slice_get (starting_domains platform) place ≡ Some d → place_of (starting_domains platform) d.share.domain ≡ Some place
numbered_start platform place d there =
    let s = starts platform place d there in
    ap (λ (x : DomainView). place_of (starting_domains platform) x.share.domain) (sym s.is) ∙ number_at platform place s.number s.there

replayed_start : (platform : Platform) (place : ℕ) (d : DomainView) → slice_get (starting_domains platform) place ≡ Some d → replay d.share d.journal ≡ Some d.state
replayed_start platform place d there =
    let s = starts platform place d there in
    subst (λ (x : DomainView). replay x.share x.journal ≡ Some x.state) s.is refl

pub kept_at_start : (platform : Platform) → IsPlatform platform → Keeps (starting_domains platform) (boxes_of platform)
kept_at_start platform laws = record {
  numbered = λ place d there. numbered_start platform place d there;
  replayed = λ place d there. replayed_start platform place d there;
  roomy = λ origin place d home there. has_box platform origin place d laws home there;
}

-- ---- nothing waits at the start

map_same : {X Y Z : Type 0} (one other : Y → Z) (make : X → Y) (xs : List X) → ((x : X) → one (make x) ≡ other (make x)) → map one (map make xs) ≡ map other (map make xs)
map_same one other make [] same = refl
map_same one other make (x ∷ xs) same = ap (λ y. y ∷ map one (map make xs)) (same x) ∙ ap (λ ys. other (make x) ∷ ys) (map_same one other make xs same)

pub start_seen : (platform : Platform) → seen (starting_domains platform) (boxes_of platform) ≡ agents_of platform
unfolding host_boxes
start_seen platform =
    let fs : List BoxView = map (function_box platform) platform.functions in
    let hs : List BoxView = map (host_box platform) (numbers platform) in
    ap (λ (os : List Outbox). record { domains = starting_domains platform; outboxes = os })
    (map-append outbox_of fs hs ∙ ap (λ (os : List Outbox). os ++ map outbox_of hs) (map_same outbox_of empty (function_box platform) platform.functions (λ line. refl))
    ∙ ap (λ (os : List Outbox). map empty fs ++ os) (map_same outbox_of empty (host_box platform) (numbers platform) (λ n. refl)) ∙ sym (map-append empty fs hs))
