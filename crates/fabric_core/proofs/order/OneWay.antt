-- A packet of a guarded layout has one way at most.
use Rattle.std.proofs.Common.{◌≡◌, ℕ, true, List, Option, Some, None, sym, ap, ◌∙◌, subst}
use Rattle.std.proofs.lemmas.Option.{same_Some}
use Rattle.fab_types.specs.Id.{bus_of}
use Rattle.fab_types.specs.declared.head.Header.{Header}
use Rattle.fab_types.specs.declared.head.Header.TheVariants as header
use Rattle.fab_types.specs.declared.origin.Origin.{Origin}
use Rattle.fab_types.specs.declared.origin.Origin.TheVariants as origin
use Rattle.fab_types.specs.declared.place.Place.{Place}
use Rattle.platform.specs.declared.parts.DownstreamPort.{DownstreamPort}
use Rattle.platform.specs.Owners.{holds_bus}
use Rattle.platform.specs.Platform.{Platform}
use Rattle.platform.specs.Tree.{id_below}
use Rattle.request_handling.specs.Emissions.{Emission}
use Rattle.request_handling.specs.Heads.{head_of}
use Rattle.domain.specs.Orders.{direct_from}
use Rattle.domain.specs.Sent.{Sent}
use Rattle.guarded_routes.specs.Guarded.{IsGuarded}
use Rattle.guarded_routes.specs.Links.{IsPath, IsWay}
use Rattle.guarded_routes.specs.Sound.{let_by}
use Rattle.guarded_routes.proofs.Links.{one_path, one_way}
use Rattle.guarded_routes.proofs.Peers.{one_line, peer_at}
use Rattle.guarded_routes.proofs.Trees.{IsPort}
use Rattle.fabric_core.specs.Orders.{GoesBy}
use Rattle.fabric_core.specs.Trails.{across, from_function, from_host}
use Rattle.fabric_core.proofs.order.OrderedSteps.{one_function, other_source}

one_sender : (a b : ℕ) → ◌≡◌ {A = Option Origin} (Some (origin.Function a)) (Some (origin.Function b)) → a ≡ b
one_sender a b e = cc

-- a packet goes directly to one other, or to none
one_direct : (ports : List DownstreamPort) (a b : ℕ) (e : Emission) (x y : Option ℕ) → a ≡ b → direct_from ports a e ≡ x → direct_from ports b e ≡ y → x ≡ y
one_direct ports a b e x y same is also = sym is ∙ (ap (λ (k : ℕ). direct_from ports k e) same ∙ also)

-- let through to the same function by ports above one other, it is let through by one
one_port : (platform : Platform) (g : IsGuarded platform) (function peer : ℕ) (one other : DownstreamPort) (h : Header) → IsPort platform one → IsPort platform other → holds_bus one (bus_of function) ≡ true → holds_bus other (bus_of function) ≡ true
    → let_by platform one h ≡ Some peer → let_by platform other h ≡ Some peer → one ≡ other
one_port platform g function peer one other header.Malformed listed also held held' is goes = absurd cc
one_port platform g function peer one other (header.OtherRequest requester) listed also held held' is goes = absurd cc
one_port platform g function peer one other (header.Completion target relaxed_ordering) listed also held held' is goes = absurd cc
one_port platform g function peer one other (header.Memory requester address_type address) listed also held held' is goes =
    one_line platform g.laws one other listed also (bus_of function) address address peer held held' (peer_at platform g.laws one listed address peer is) (peer_at platform g.laws other also address peer goes)

pub one_places : (platform : Platform) → IsGuarded platform → (domain : ℕ) (packet : Sent) (one other : List Place) → GoesBy platform domain packet one → GoesBy platform domain packet other → one ≡ other
one_places platform guarded domain packet _ _ (GoesBy.Up f links source none own way) (GoesBy.Up g others also none' mine path) =
    let same : g ≡ f = one_sender g f (sym also ∙ source) in
    let one : others ≡ links = one_way platform guarded f others links (subst (λ (k : ℕ). IsWay platform k others) same path) way in
    sym (ap (λ (k : ℕ). from_function k others) same ∙ ap (from_function f) one)
one_places platform guarded domain packet _ _ (GoesBy.Up f links source none own way) (GoesBy.Across g peer line others also some mine listed held lets path) =
    let both : None ≡ Some peer = one_direct platform.ports f g packet.emission None (Some peer) (one_sender f g (sym source ∙ also)) none some in absurd cc
one_places platform guarded domain packet _ _ (GoesBy.Across f peer line links source some own listed held lets path) (GoesBy.Up g others also none mine way) =
    let both : None ≡ Some peer = one_direct platform.ports g f packet.emission None (Some peer) (one_sender g f (sym also ∙ source)) none some in absurd cc
one_places platform guarded domain packet _ _ (GoesBy.Across f peer line links source some own listed held lets path) (GoesBy.Across g peer' line' others also some' mine listed' held' lets' path') =
    let same : g ≡ f = one_sender g f (sym also ∙ source) in
    let peers : peer' ≡ peer = same_Some peer' peer (one_direct platform.ports g f packet.emission (Some peer') (Some peer) same some' some) in
    let lines : line' ≡ line =
    one_port platform guarded f peer line' line (head_of packet.emission).header listed' listed (subst (λ (k : ℕ). holds_bus line' (bus_of k) ≡ true) same held') held (lets' ∙ ap (λ (k : ℕ). Some k) peers) lets in
    let one : others ≡ links =
    one_path platform guarded (id_below line) f others links (subst (λ (k : ℕ). IsPath platform (id_below line) k others) same (subst (λ (r : DownstreamPort). IsPath platform (id_below r) g others) lines path')) path in
    sym (ap (λ (k : ℕ). across k g others) peers ∙ (ap (λ (k : ℕ). across peer k others) same ∙ ap (across peer f) one))
one_places platform guarded domain packet _ _ (GoesBy.Up f links source none own way) (GoesBy.Down g others also to mine path) = absurd (other_source f domain (sym source ∙ also))
one_places platform guarded domain packet _ _ (GoesBy.Across f peer line links source some own listed held lets path) (GoesBy.Down g others also to mine way) = absurd (other_source f domain (sym source ∙ also))
one_places platform guarded domain packet _ _ (GoesBy.Down f links source to own way) (GoesBy.Up g others also none mine path) = absurd (other_source g domain (sym also ∙ source))
one_places platform guarded domain packet _ _ (GoesBy.Down f links source to own way) (GoesBy.Across g peer line others also some mine listed held lets path) = absurd (other_source g domain (sym also ∙ source))
one_places platform guarded domain packet _ _ (GoesBy.Down f links source to own way) (GoesBy.Down g others also goes mine path) =
    let same : g ≡ f = one_function g f packet.emission.parties goes to in
    ap (from_host domain) (sym (one_way platform guarded f others links (subst (λ (k : ℕ). IsWay platform k others) same path) way))
