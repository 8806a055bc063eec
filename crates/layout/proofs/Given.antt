-- What doesn't read ports' vectors stays as it was when one is given.
use Rattle.std.proofs.Common.{◌≡◌, ℕ, ◌+◌, ◌==◌, Bool, true, false, cond, List, [], ◌∷◌, map, Option, Some, None, refl, sym, ap, ◌∙◌}
use Rattle.std.specs.Prelude.{not, is_some, count_by, option_map, option_and_then}
use Rattle.std.specs.List.{find, list_all}
use Rattle.std.proofs.lemmas.List.Sums.{sum_by-cons}
use Rattle.fab_types.specs.Id.{bus_of}
use Rattle.platform.specs.declared.parts.DownstreamPort.{DownstreamPort}
use Rattle.platform.specs.declared.parts.EndpointFunction.{EndpointFunction}
use Rattle.platform.specs.declared.parts.Mapping.{Mapping}
use Rattle.platform.specs.declared.parts.MapTarget.{MapTarget}
use Rattle.platform.specs.declared.parts.MapTarget.TheVariants as mapped
use Rattle.platform.specs.declared.parts.Switch.{Switch}
use Rattle.layout_line.specs.declared.lines.EgressText.{EgressText}
use Rattle.platform.specs.Tree.{domain_of, id_below, is_third_level, owner_or_none, port_above, port_above_bus, port_at, port_leading_to, switch_on}
use Rattle.layout.specs.Additions.{with_vector}
use Rattle.layout.specs.Laws.{each_pair, is_home_map, is_home_target, is_hung, is_hung_below, is_hung_by, is_inside, is_level, is_level_below, is_nested, is_nested_on, is_own_frame, is_placed, is_placed_below, share_no_frame}

found : {X : Type 0} (f : X → X) (x : X) (b : Bool) (o o' : Option X) → o ≡ option_map f o' → cond b (Some (f x)) o ≡ option_map f (cond b (Some x) o')
found f x true o o' e = refl
found f x false o o' e = e

find-map : {X : Type 0} (p : X → Bool) (f : X → X) (xs : List X) → ((x : X) → p (f x) ≡ p x) → find p (map f xs) ≡ option_map f (find p xs)
find-map p f [] h = refl
find-map p f (x ∷ xs) h = rw (h x) (found f x (p x) (find p (map f xs)) (find p xs) (find-map p f xs h))

pub count-map : {X : Type 0} (p : X → Bool) (f : X → X) (xs : List X) → ((x : X) → p (f x) ≡ p x) → count_by p (map f xs) ≡ count_by p xs
count-map p f [] h = refl
count-map p f (x ∷ xs) h =
    let first : p (f x) ≡ p x = h x in
    let rest : count_by p (map f xs) ≡ count_by p xs = count-map p f xs h in
    sum_by-cons (λ y. cond (p y) 1 0) (f x) (map f xs) ∙ (λ i. cond (first i) 1 0 + rest i) ∙ sym (sum_by-cons (λ y. cond (p y) 1 0) x xs)

all-same : {X : Type 0} (p q : X → Bool) (xs : List X) → ((x : X) → p x ≡ q x) → list_all p xs ≡ list_all q xs
all-same p q [] h = refl
all-same p q (x ∷ xs) h = rw (h x, all-same p q xs h) refl

all-mapped : {X : Type 0} (p q : X → Bool) (f : X → X) (xs : List X) → ((x : X) → p (f x) ≡ q x) → list_all p (map f xs) ≡ list_all q xs
all-mapped p q f [] h = refl
all-mapped p q f (x ∷ xs) h = rw (h x, all-mapped p q f xs h) refl

pub pair-mapped : {X : Type 0} (r : X → X → Bool) (f : X → X) (xs : List X) → ((x y : X) → r (f x) (f y) ≡ r x y) → each_pair r (map f xs) ≡ each_pair r xs
pair-mapped r f [] h = refl
pair-mapped r f (x ∷ xs) h = rw (all-mapped (r (f x)) (r x) f xs (h x), pair-mapped r f xs h) refl

pair-same : {X : Type 0} (r s : X → X → Bool) (xs : List X) → ((x y : X) → r x y ≡ s x y) → each_pair r xs ≡ each_pair s xs
pair-same r s [] h = refl
pair-same r s (x ∷ xs) h = rw (all-same (r x) (s x) xs (h x), pair-same r s xs h) refl

module _ (egress : EgressText) (ports : List DownstreamPort) where
  abbrev given : List DownstreamPort
  given = map (with_vector egress) ports

  abbrev gives : Option DownstreamPort → Option DownstreamPort
  gives port = option_map (with_vector egress) port

  at : (id : ℕ) → port_at given id ≡ gives (port_at ports id)
  at id = find-map (λ (p : DownstreamPort). p.id == id) (with_vector egress) ports (λ x. refl)

  above-some : (above : Option ℕ) → option_and_then (λ (id : ℕ). port_at given id) above ≡ gives (option_and_then (λ (id : ℕ). port_at ports id) above)
  above-some None = refl
  above-some (Some id) = at id

  above : (switch : Switch) → port_above given switch ≡ gives (port_above ports switch)
  above switch = above-some switch.above

  inside : (over : Option DownstreamPort) (port : DownstreamPort) → is_inside (gives over) (with_vector egress port) ≡ is_inside over port
  inside None port = refl
  inside (Some other) port = refl

  nested-on : (on : Option Switch) (port : DownstreamPort) → is_nested_on given on (with_vector egress port) ≡ is_nested_on ports on port
  nested-on None port = refl
  nested-on (Some switch) port = rw (above switch, inside (port_above ports switch) port) refl

  pub nested-given : (switches : List Switch) → list_all (is_nested switches given) given ≡ list_all (is_nested switches ports) ports
  nested-given switches = all-mapped (is_nested switches given) (is_nested switches ports) (with_vector egress) ports (λ port. nested-on (switch_on switches (bus_of port.id)) port)

  pub all-given : (p : DownstreamPort → Bool) → ((x : DownstreamPort) → p (with_vector egress x) ≡ p x) → list_all p given ≡ list_all p ports
  all-given p = all-mapped p p (with_vector egress) ports

  hung-below : (above : Option DownstreamPort) (switch : Switch) → is_hung_below (gives above) switch ≡ is_hung_below above switch
  hung-below None switch = refl
  hung-below (Some port) switch = refl

  hung-by : (above : Option ℕ) (switch : Switch) → is_hung_by given above switch ≡ is_hung_by ports above switch
  hung-by None switch = refl
  hung-by (Some id) switch = rw (at id) (hung-below (port_at ports id) switch)

  pub hung-given : (switches : List Switch) → list_all (is_hung given) switches ≡ list_all (is_hung ports) switches
  hung-given switches = all-same (is_hung given) (is_hung ports) switches (λ switch. hung-by switch.above switch)

  on-bus : (on : Option Switch) → option_and_then (λ (switch : Switch). port_above given switch) on ≡ gives (option_and_then (λ (switch : Switch). port_above ports switch) on)
  on-bus None = refl
  on-bus (Some switch) = above switch

  above-bus : (switches : List Switch) (bus : ℕ) → port_above_bus switches given bus ≡ gives (port_above_bus switches ports bus)
  unfolding port_above_bus
  above-bus switches bus = on-bus (switch_on switches bus)

  twice : (switches : List Switch) (port : Option DownstreamPort) → is_some (option_and_then (λ (p : DownstreamPort). port_above_bus switches given (bus_of p.id)) (gives port)) ≡ is_some (option_and_then (λ (p : DownstreamPort). port_above_bus switches ports (bus_of p.id)) port)
  twice switches None = refl
  twice switches (Some port) = ap is_some (above-bus switches (bus_of port.id)) ∙ some-given (port_above_bus switches ports (bus_of port.id))
    where
      some-given : (o : Option DownstreamPort) → is_some (gives o) ≡ is_some o
      some-given None = refl
      some-given (Some x) = refl

  third : (switches : List Switch) (bus : ℕ) → is_third_level switches given bus ≡ is_third_level switches ports bus
  unfolding is_third_level
  third switches bus = rw (above-bus switches bus) (twice switches (port_above_bus switches ports bus))

  level-below : (switches : List Switch) (above : Option DownstreamPort) → is_level_below switches given (gives above) ≡ is_level_below switches ports above
  level-below switches None = refl
  level-below switches (Some port) = ap not (third switches (bus_of port.id))

  pub levels-given : (switches some : List Switch) → list_all (is_level switches given) some ≡ list_all (is_level switches ports) some
  levels-given switches some = all-same (is_level switches given) (is_level switches ports) some (λ switch. ap (is_level_below switches given) (above switch) ∙ level-below switches (port_above ports switch))

  placed-below : (above : Option DownstreamPort) (function : EndpointFunction) → is_placed_below (gives above) function ≡ is_placed_below above function
  placed-below None function = refl
  placed-below (Some port) function = refl

  pub placed-given : (functions : List EndpointFunction) → list_all (is_placed given) functions ≡ list_all (is_placed ports) functions
  placed-given functions =
      all-same (is_placed given) (is_placed ports) functions
      (λ function. ap (λ (o : Option DownstreamPort). is_placed_below o function) (find-map (λ (p : DownstreamPort). id_below p == function.id) (with_vector egress) ports (λ x. refl)) ∙ placed-below (port_leading_to ports function.id) function)

  owner-given : (port : Option DownstreamPort) → owner_or_none (gives port) ≡ owner_or_none port
  owner-given None = refl
  owner-given (Some port) = refl

  domain-given : (function : ℕ) → domain_of given function ≡ domain_of ports function
  unfolding domain_of
  domain-given function =
      ap owner_or_none (find-map (λ (p : DownstreamPort). p.secondary == bus_of function) (with_vector egress) ports (λ x. refl)) ∙ owner-given (find (λ (p : DownstreamPort). p.secondary == bus_of function) ports)

  home-target : (domain domain' : ℕ) (target : MapTarget) → domain ≡ domain' → is_home_target given domain target ≡ is_home_target ports domain' target
  home-target domain domain' (mapped.Frame frame) e = refl
  home-target domain domain' (mapped.Peer peer) e = rw (domain-given peer, e) refl

  pub home-given : (maps : List Mapping) → list_all (is_home_map given) maps ≡ list_all (is_home_map ports) maps
  home-given maps = all-same (is_home_map given) (is_home_map ports) maps (λ line. home-target (domain_of given line.requester) (domain_of ports line.requester) line.target (domain-given line.requester))

  own-frame : (one : Mapping) (domain domain' : ℕ) (target : MapTarget) → domain ≡ domain' → is_own_frame given one domain target ≡ is_own_frame ports one domain' target
  own-frame one domain domain' (mapped.Frame frame) e = rw (domain-given one.requester, e) refl
  own-frame one domain domain' (mapped.Peer peer) e = refl

  pub unshared-given : (maps : List Mapping) → each_pair (share_no_frame given) maps ≡ each_pair (share_no_frame ports) maps
  unshared-given maps = pair-same (share_no_frame given) (share_no_frame ports) maps (λ one other. own-frame one (domain_of given other.requester) (domain_of ports other.requester) other.target (domain-given other.requester))
