-- The places of a function's way follow each other as packets go: each stands once, and what leaves one for the next on the
-- way goes to the place before it.
use Rattle.std.proofs.Common.{◌≡◌, ◌≢◌, ◌⊎◌, inl, inr, ℕ, ◌<◌, ◌≤◌, ◌==◌, true, List, [], ◌∷◌, ◌++◌, All, Some, None, refl, sym, ap, ◌∙◌, subst, arith, append_assoc, ⊎_elim}
use Rattle.std.specs.Prelude.{⊤}
use Rattle.std.proofs.lemmas.List.Elements.{All-head, All-tail}
use Rattle.fab_types.specs.Id.{bus_of}
use Rattle.fab_types.specs.declared.place.Direction.{Direction}
use Rattle.fab_types.specs.declared.origin.Origin.{Origin}
use Rattle.fab_types.specs.declared.origin.Origin.TheVariants as origin
use Rattle.fab_types.specs.declared.place.Place.{Place}
use Rattle.fab_types.specs.declared.place.Place.TheVariants.{Outbox, Egress, Wire, Ingress}
use Rattle.fab_types.specs.declared.place.Way.{Way}
use Rattle.fab_types.specs.declared.place.Way.TheVariants.{Up, Down}
use Rattle.platform.specs.Platform.{Platform}
use Rattle.platform.specs.Owners.{is_function}
use Rattle.platform.specs.declared.parts.Switch.{Switch}
use Rattle.topology.proofs.Members.{found, some_passes}
use Rattle.std.proofs.lemmas.Bool.{eq-eqb}
use Rattle.platform.specs.Tree.{internal_bus}
use Rattle.guarded_routes.specs.Guarded.{IsFunctionOf, IsGuarded, is_below, top_id}
use Rattle.guarded_routes.specs.Links.{IsPath, IsWay, link_above}
use Rattle.guarded_routes.proofs.Finds.{some_is}
use Rattle.guarded_routes.proofs.Links.{all_before, joined, none_above, none_after_last}
use Rattle.guarded_routes.proofs.LinksBelow.{one_below_switch, way_holds}
use Rattle.guarded_routes.proofs.Nodes.{apart}
use Rattle.fabric_core.specs.Arrivals.{from_host as host_link}
use Rattle.fabric_core.specs.Events.{link_of}
use Rattle.fabric_core.specs.Trails.{In, across, down, from_function, from_host, places_down, places_on, places_up, up}
use Rattle.fabric_core.proofs.order.Trails.{Adjoin, AreDistinct, IsNot, adjoin_back, adjoin_front, not_append}

-- ---- lists of places

pub in_append : (r : Place) (xs ys : List Place) → In r (xs ++ ys) → In r xs ⊎ In r ys
in_append r [] ys at = inr at
in_append r (x ∷ xs) ys (inl e) = inl (inl e)
in_append r (x ∷ xs) ys (inr at) = again (in_append r xs ys at)
  where
    again : In r xs ⊎ In r ys → In r (x ∷ xs) ⊎ In r ys
    again (inl a) = inl (inr a)
    again (inr b) = inr b

pub target_in : (target source : Place) (xs : List Place) → Adjoin target source xs → In target xs
target_in target source _ (Adjoin.Here rest) = inl refl
target_in target source _ (Adjoin.Later x rest at) = inr (target_in target source rest at)

-- none of these is one of those
abbrev AreApart : List Place → List Place → Type 0
AreApart [] ys = ⊤
AreApart (x ∷ xs) ys = IsNot x ys × AreApart xs ys

apart_append : (xs zs ys : List Place) → AreApart xs ys → AreApart zs ys → AreApart (xs ++ zs) ys
apart_append [] zs ys a b = b
apart_append (x ∷ xs) zs ys a b = (a.0, apart_append xs zs ys a.1 b)

apart_from : (xs ys zs : List Place) → AreApart xs ys → AreApart xs zs → AreApart xs (ys ++ zs)
apart_from [] ys zs a b = tt
apart_from (x ∷ xs) ys zs a b = (not_append x ys zs a.0 b.0, apart_from xs ys zs a.1 b.1)

distinct_append : (xs ys : List Place) → AreDistinct xs → AreDistinct ys → AreApart xs ys → AreDistinct (xs ++ ys)
distinct_append [] ys a b c = b
distinct_append (x ∷ xs) ys a b c = (not_append x xs ys a.0 c.0, distinct_append xs ys a.1 b c.1)

-- the second list begins with what comes directly behind the end of the first
pub adjoin_joined : (one two target source : Place) (xs ys : List Place) → Adjoin target source ((xs ++ one ∷ two ∷ target ∷ []) ++ source ∷ ys)
adjoin_joined one two target source xs ys =
    subst (Adjoin target source) (sym (append_assoc xs (one ∷ two ∷ target ∷ []) (source ∷ ys)))
    (adjoin_front target source xs (one ∷ two ∷ target ∷ source ∷ ys) (Adjoin.Later one (two ∷ target ∷ source ∷ ys) (Adjoin.Later two (target ∷ source ∷ ys) (Adjoin.Here ys))))

-- ---- of one direction

lower_of : Place → ℕ
lower_of (Outbox o) = 0
lower_of (Egress d) = d.lower
lower_of (Wire d) = d.lower
lower_of (Ingress d) = d.lower

on_apart : (one other : Direction) → one.lower ≢ other.lower → AreApart (places_on one) (places_on other)
unfolding lower_of
on_apart one other ne =
    let no : (x y : Place) → lower_of x ≡ one.lower → lower_of y ≡ other.lower → x ≢ y = λ x y a b e. ne (sym a ∙ (ap lower_of e ∙ b)) in
    let row : (x : Place) → lower_of x ≡ one.lower → IsNot x (places_on other) = λ x a. (no x (Ingress other) a refl, (no x (Wire other) a refl, (no x (Egress other) a refl, tt))) in
    (row (Ingress one) refl, (row (Wire one) refl, (row (Egress one) refl, tt)))

on_distinct : (d : Direction) → AreDistinct (places_on d)
on_distinct d = (((λ e. cc), ((λ e. cc), tt)), (((λ e. cc), tt), (tt, tt)))

on_outbox : (d : Direction) (o : Origin) → AreApart (places_on d) (Outbox o ∷ [])
on_outbox d o = (((λ e. cc), tt), (((λ e. cc), tt), (((λ e. cc), tt), tt)))

-- where a place of a direction is, its direction is
pub data On (r : Place) (d : Direction) : Type 0 where
  AtIngress : r ≡ Ingress d → On r d
  AtWire : r ≡ Wire d → On r d
  AtEgress : r ≡ Egress d → On r d

on_of : (r : Place) (d : Direction) → In r (places_on d) → On r d
on_of r d (inl e) = On.AtIngress e
on_of r d (inr (inl e)) = On.AtWire e
on_of r d (inr (inr (inl e))) = On.AtEgress e
on_of r d (inr (inr (inr none))) = absurd none

ingress_on : (a d : Direction) → In (Ingress a) (places_on d) → a ≡ d
ingress_on a d at = by (on_of (Ingress a) d at)
  where
    by : On (Ingress a) d → a ≡ d
    by (On.AtIngress e) = cc
    by (On.AtWire e) = cc
    by (On.AtEgress e) = cc

wire_on : (a d : Direction) → In (Wire a) (places_on d) → a ≡ d
wire_on a d at = by (on_of (Wire a) d at)
  where
    by : On (Wire a) d → a ≡ d
    by (On.AtIngress e) = cc
    by (On.AtWire e) = cc
    by (On.AtEgress e) = cc

egress_on : (a d : Direction) → In (Egress a) (places_on d) → a ≡ d
egress_on a d at = by (on_of (Egress a) d at)
  where
    by : On (Egress a) d → a ≡ d
    by (On.AtIngress e) = cc
    by (On.AtWire e) = cc
    by (On.AtEgress e) = cc

outbox_on : (o : Origin) (d : Direction) → In (Outbox o) (places_on d) → ⊥
outbox_on o d at = by (on_of (Outbox o) d at)
  where
    by : On (Outbox o) d → ⊥
    by (On.AtIngress e) = cc
    by (On.AtWire e) = cc
    by (On.AtEgress e) = cc

sent_on : (a d : Direction) → In (Egress a) (places_on d) → Adjoin (Wire a) (Egress a) (places_on d)
sent_on a d at = subst (λ (x : Direction). Adjoin (Wire x) (Egress x) (places_on d)) (sym (egress_on a d at)) (Adjoin.Later (Ingress d) (Wire d ∷ Egress d ∷ []) (Adjoin.Here []))

received_on : (a d : Direction) → In (Wire a) (places_on d) → Adjoin (Ingress a) (Wire a) (places_on d)
received_on a d at = subst (λ (x : Direction). Adjoin (Ingress x) (Wire x) (places_on d)) (sym (wire_on a d at)) (Adjoin.Here (Egress d ∷ []))

outbox_is : (a o : Origin) → In (Outbox a) (Outbox o ∷ []) → a ≡ o
outbox_is a o (inl e) = cc
outbox_is a o (inr none) = absurd none

not_in_outbox : (r : Place) (o : Origin) → r ≢ Outbox o → In r (Outbox o ∷ []) → ⊥
not_in_outbox r o ne (inl e) = ne e
not_in_outbox r o ne (inr none) = none

-- ---- up

module _ (o : Origin) where
  up_in : (r : Place) (links : List ℕ) → r ≢ Outbox o → In r (places_up links ++ Outbox o ∷ []) → In r (places_up links)
  up_in r links ne at = by (in_append r (places_up links) (Outbox o ∷ []) at)
    where
      by : In r (places_up links) ⊎ In r (Outbox o ∷ []) → In r (places_up links)
      by (inl a) = a
      by (inr b) = absurd (not_in_outbox r o ne b)

  down_in : (r : Place) (links : List ℕ) → r ≢ Outbox o → In r (places_down links ++ Outbox o ∷ []) → In r (places_down links)
  down_in r links ne at = by (in_append r (places_down links) (Outbox o ∷ []) at)
    where
      by : In r (places_down links) ⊎ In r (Outbox o ∷ []) → In r (places_down links)
      by (inl a) = a
      by (inr b) = absurd (not_in_outbox r o ne b)

up_outbox : (o : Origin) (links : List ℕ) → In (Outbox o) (places_up links) → ⊥
up_outbox o [] at = at
up_outbox o (l ∷ ls) at = ⊎_elim (λ a. up_outbox o ls a) (λ b. outbox_on o (up l) b) (in_append (Outbox o) (places_up ls) (places_on (up l)) at)

down_outbox : (o : Origin) (links : List ℕ) → In (Outbox o) (places_down links) → ⊥
down_outbox o [] at = at
down_outbox o (l ∷ ls) at = ⊎_elim (λ a. outbox_on o (down l) a) (λ b. down_outbox o ls b) (in_append (Outbox o) (places_on (down l)) (places_down ls) at)

pub ingress_up : (a : Direction) (links : List ℕ) → In (Ingress a) (places_up links) → a.way ≡ Up
ingress_up a [] at = absurd at
ingress_up a (l ∷ ls) at = ⊎_elim (λ x. ingress_up a ls x) (λ x. ap (λ (d : Direction). d.way) (ingress_on a (up l) x)) (in_append (Ingress a) (places_up ls) (places_on (up l)) at)

pub ingress_down : (a : Direction) (links : List ℕ) → In (Ingress a) (places_down links) → a.way ≡ Down
ingress_down a [] at = absurd at
ingress_down a (l ∷ ls) at = ⊎_elim (λ x. ap (λ (d : Direction). d.way) (ingress_on a (down l) x)) (λ x. ingress_down a ls x) (in_append (Ingress a) (places_on (down l)) (places_down ls) at)

sent_up : (a : Direction) (links : List ℕ) → In (Egress a) (places_up links) → Adjoin (Wire a) (Egress a) (places_up links)
sent_up a [] at = absurd at
sent_up a (l ∷ ls) at = ⊎_elim (λ x. adjoin_back (Wire a) (Egress a) (places_up ls) (places_on (up l)) (sent_up a ls x)) (λ x. adjoin_front (Wire a) (Egress a) (places_up ls) (places_on (up l)) (sent_on a (up l) x)) (in_append (Egress a) (places_up ls) (places_on (up l)) at)

received_up : (a : Direction) (links : List ℕ) → In (Wire a) (places_up links) → Adjoin (Ingress a) (Wire a) (places_up links)
received_up a [] at = absurd at
received_up a (l ∷ ls) at = ⊎_elim (λ x. adjoin_back (Ingress a) (Wire a) (places_up ls) (places_on (up l)) (received_up a ls x)) (λ x. adjoin_front (Ingress a) (Wire a) (places_up ls) (places_on (up l)) (received_on a (up l) x)) (in_append (Wire a) (places_up ls) (places_on (up l)) at)

sent_down : (a : Direction) (links : List ℕ) → In (Egress a) (places_down links) → Adjoin (Wire a) (Egress a) (places_down links)
sent_down a [] at = absurd at
sent_down a (l ∷ ls) at = ⊎_elim (λ x. adjoin_back (Wire a) (Egress a) (places_on (down l)) (places_down ls) (sent_on a (down l) x)) (λ x. adjoin_front (Wire a) (Egress a) (places_on (down l)) (places_down ls) (sent_down a ls x)) (in_append (Egress a) (places_on (down l)) (places_down ls) at)

received_down : (a : Direction) (links : List ℕ) → In (Wire a) (places_down links) → Adjoin (Ingress a) (Wire a) (places_down links)
received_down a [] at = absurd at
received_down a (l ∷ ls) at = ⊎_elim (λ x. adjoin_back (Ingress a) (Wire a) (places_on (down l)) (places_down ls) (received_on a (down l) x)) (λ x. adjoin_front (Ingress a) (Wire a) (places_on (down l)) (places_down ls) (received_down a ls x)) (in_append (Wire a) (places_on (down l)) (places_down ls) at)

-- ---- each place stands once

abbrev IsBefore : ℕ → ℕ → Type 0
IsBefore bus link = bus_of link < bus

other_link : (one other : ℕ) → bus_of other < bus_of one → one ≢ other
other_link one other less = λ e. let same = ap bus_of e in absurd (omega (arith, less, same))

up_apart : (link : ℕ) (links : List ℕ) → All (IsBefore (bus_of link)) links → AreApart (places_up links) (places_on (up link))
up_apart link [] before = tt
up_apart link (l ∷ ls) before =
    apart_append (places_up ls) (places_on (up l)) (places_on (up link)) (up_apart link ls (All-tail (IsBefore (bus_of link)) l ls before))
    (on_apart (up l) (up link) (λ e. other_link link l (All-head (IsBefore (bus_of link)) l ls before) (sym e)))

down_apart : (link : ℕ) (links : List ℕ) → All (IsBefore (bus_of link)) links → AreApart (places_on (down link)) (places_down links)
down_apart link [] before = (tt, (tt, (tt, tt)))
down_apart link (l ∷ ls) before =
    apart_from (places_on (down link)) (places_on (down l)) (places_down ls) (on_apart (down link) (down l) (other_link link l (All-head (IsBefore (bus_of link)) l ls before)))
    (down_apart link ls (All-tail (IsBefore (bus_of link)) l ls before))

up_from_outbox : (o : Origin) (links : List ℕ) → AreApart (places_up links) (Outbox o ∷ [])
up_from_outbox o [] = tt
up_from_outbox o (l ∷ ls) = apart_append (places_up ls) (places_on (up l)) (Outbox o ∷ []) (up_from_outbox o ls) (on_outbox (up l) o)

down_from_outbox : (o : Origin) (links : List ℕ) → AreApart (places_down links) (Outbox o ∷ [])
down_from_outbox o [] = tt
down_from_outbox o (l ∷ ls) = apart_append (places_on (down l)) (places_down ls) (Outbox o ∷ []) (on_outbox (down l) o) (down_from_outbox o ls)

up_distinct : (platform : Platform) (last lower : ℕ) (links : List ℕ) → IsPath platform last lower links → AreDistinct (places_up links)
up_distinct platform last _ _ IsPath.AtLast = on_distinct (up last)
up_distinct platform last _ _ (IsPath.Above lower above links e falls way) =
    distinct_append (places_up links) (places_on (up lower)) (up_distinct platform last above links way) (on_distinct (up lower)) (up_apart lower links (all_before platform last (bus_of lower) above links way falls))

down_distinct : (platform : Platform) (lower : ℕ) (links : List ℕ) → IsWay platform lower links → AreDistinct (places_down links)
down_distinct platform _ _ IsPath.AtLast = on_distinct (down top_id)
down_distinct platform _ _ (IsPath.Above lower above links e falls way) =
    distinct_append (places_on (down lower)) (places_down links) (on_distinct (down lower)) (down_distinct platform above links way) (down_apart lower links (all_before platform top_id (bus_of lower) above links way falls))

path_distinct : (platform : Platform) (last function : ℕ) (links : List ℕ) → IsPath platform last function links → AreDistinct (from_function function links)
path_distinct platform last function links way =
    let o = origin.Function function in distinct_append (places_up links) (Outbox o ∷ []) (up_distinct platform last function links way) (tt, tt) (up_from_outbox o links)

pub function_distinct : (platform : Platform) (function : ℕ) (links : List ℕ) → IsWay platform function links → AreDistinct (from_function function links)
function_distinct platform function links way = path_distinct platform top_id function links way

pub host_distinct : (platform : Platform) (domain function : ℕ) (links : List ℕ) → IsWay platform function links → AreDistinct (from_host domain links)
host_distinct platform domain function links way =
    let o = origin.Host domain in distinct_append (places_down links) (Outbox o ∷ []) (down_distinct platform function links way) (tt, tt) (down_from_outbox o links)

-- ---- from link to link

-- a way begins with the link that it is of
data Begins (lower : ℕ) (links : List ℕ) : Type 0 where
  With : (rest : List ℕ) → links ≡ lower ∷ rest → Begins lower links

begins : (platform : Platform) (last lower : ℕ) (links : List ℕ) → IsPath platform last lower links → Begins lower links
begins platform last _ _ IsPath.AtLast = Begins.With [] refl
begins platform last _ _ (IsPath.Above lower above links e falls way) = Begins.With links refl

module _ (platform : Platform) (g : IsGuarded platform) where
  -- what rises goes to the link above, but from the last
  rises : (last lower above first : ℕ) (links : List ℕ) → link_above platform lower ≡ Some above → lower ≢ last → IsPath platform last first links → In (Ingress (up lower)) (places_up links) → Adjoin (Egress (up above)) (Ingress (up lower)) (places_up links)
  rises last lower above _ _ is not IsPath.AtLast at = absurd (not (ap (λ (d : Direction). d.lower) (ingress_on (up lower) (up last) at)))
  rises last lower above _ _ is not (IsPath.Above l a links e falls way) at =
      ⊎_elim (λ x. adjoin_back (Egress (up above)) (Ingress (up lower)) (places_up links) (places_on (up l)) (rises last lower above a links is not way x))
      (λ x. begin (begins platform last a links way) (ap (λ (d : Direction). d.lower) (ingress_on (up lower) (up l) x)))
      (in_append (Ingress (up lower)) (places_up links) (places_on (up l)) at)
    where
      here : (rest : List ℕ) → links ≡ a ∷ rest → lower ≡ l → Adjoin (Egress (up above)) (Ingress (up lower)) (places_up links ++ places_on (up l))
      here rest starts same =
          let next : above ≡ a = some_is above a (sym is ∙ (ap (link_above platform) same ∙ e)) in
          subst (λ (ls : List ℕ). Adjoin (Egress (up above)) (Ingress (up lower)) (places_up ls ++ places_on (up l))) (sym starts)
          (subst (λ (x : ℕ). Adjoin (Egress (up x)) (Ingress (up lower)) (places_up (a ∷ rest) ++ places_on (up l))) (sym next)
          (subst (λ (x : ℕ). Adjoin (Egress (up a)) (Ingress (up x)) (places_up (a ∷ rest) ++ places_on (up l))) (sym same)
          (adjoin_joined (Ingress (up a)) (Wire (up a)) (Egress (up a)) (Ingress (up l)) (places_up rest) (Wire (up l) ∷ Egress (up l) ∷ []))))

      begin : Begins a links → lower ≡ l → Adjoin (Egress (up above)) (Ingress (up lower)) (places_up links ++ places_on (up l))
      begin (Begins.With rest starts) same = here rest starts same

  not_top : (lower above : ℕ) → link_above platform lower ≡ Some above → lower ≢ top_id
  not_top lower above is same = let none : link_above platform lower ≡ None = ap (link_above platform) same ∙ none_above platform g in absurd cc

  enters_up : (o : Origin) (last first : ℕ) (links : List ℕ) → IsPath platform last first links → Adjoin (Egress (up first)) (Outbox o) (places_up links ++ Outbox o ∷ [])
  enters_up o last first links way = by (begins platform last first links way)
    where
      by : Begins first links → Adjoin (Egress (up first)) (Outbox o) (places_up links ++ Outbox o ∷ [])
      by (Begins.With rest is) =
          subst (λ (ls : List ℕ). Adjoin (Egress (up first)) (Outbox o) (places_up ls ++ Outbox o ∷ [])) (sym is)
          (adjoin_joined (Ingress (up first)) (Wire (up first)) (Egress (up first)) (Outbox o) (places_up rest) [])

  enters_down : (o : Origin) (first : ℕ) (links : List ℕ) → IsWay platform first links → Adjoin (Egress host_link) (Outbox o) (places_down links ++ Outbox o ∷ [])
  enters_down o _ _ IsPath.AtLast = adjoin_joined (Ingress host_link) (Wire host_link) (Egress host_link) (Outbox o) [] []
  enters_down o _ _ (IsPath.Above l a links e falls way) =
      subst (Adjoin (Egress host_link) (Outbox o)) (sym (append_assoc (places_on (down l)) (places_down links) (Outbox o ∷ [])))
      (adjoin_front (Egress host_link) (Outbox o) (places_on (down l)) (places_down links ++ Outbox o ∷ []) (enters_down o a links way))

  -- what falls to a function goes to the link below that has it below
  module _ (domain function : ℕ) (own : IsFunctionOf platform domain function) (lower above : ℕ) (is : link_above platform lower ≡ Some above) (holds : is_below platform lower function ≡ true) where
    abbrev HasBelow : ℕ → Type 0
    HasBelow link = is_below platform link function ≡ true

    abbrev Fallen : List Place → Type 0
    Fallen places = Adjoin (Egress (down lower)) (Ingress (down above)) places

    falls_in : (first : ℕ) (links : List ℕ) → IsWay platform first links → All HasBelow links → In (Ingress (down above)) (places_down links) → (above ≡ first) ⊎ Fallen (places_down links)
    falls_in _ _ IsPath.AtLast all at = inl (ap (λ (d : Direction). d.lower) (ingress_on (down above) (down top_id) at))
    falls_in _ _ (IsPath.Above l a links e falls way) all at =
        ⊎_elim (λ x. inl (ap (λ (d : Direction). d.lower) (ingress_on (down above) (down l) x))) (λ x. next (falls_in a links way (All-tail HasBelow l links all) x))
        (in_append (Ingress (down above)) (places_on (down l)) (places_down links) at)
      where
        begin : Begins a links → above ≡ a → Fallen (places_on (down l) ++ places_down links)
        begin (Begins.With rest starts) same =
            let one : lower ≡ l = one_below_switch platform g domain function lower l a own (is ∙ ap (λ (x : ℕ). Some x) same) e holds (All-head HasBelow l links all) in
            subst (λ (ls : List ℕ). Fallen (places_on (down l) ++ places_down ls)) (sym starts)
            (subst (λ (x : ℕ). Adjoin (Egress (down x)) (Ingress (down above)) (places_on (down l) ++ places_down (a ∷ rest))) (sym one)
            (subst (λ (x : ℕ). Adjoin (Egress (down l)) (Ingress (down x)) (places_on (down l) ++ places_down (a ∷ rest))) (sym same)
            (adjoin_joined (Ingress (down l)) (Wire (down l)) (Egress (down l)) (Ingress (down a)) [] (Wire (down a) ∷ Egress (down a) ∷ places_down rest))))

        next : (above ≡ a) ⊎ Fallen (places_down links) → (above ≡ l) ⊎ Fallen (places_on (down l) ++ places_down links)
        next (inl same) = inr (begin (begins platform top_id a links way) same)
        next (inr x) = inr (adjoin_front (Egress (down lower)) (Ingress (down above)) (places_on (down l)) (places_down links) x)

  -- the link above another is that of a switch
  pub above_switch : (lower above : ℕ) → link_above platform lower ≡ Some above → is_function platform.functions above ≡ true → ⊥
  above_switch lower above e listed =
      let j = joined platform g lower above e in
      let within = found (λ (s : Switch). internal_bus s == bus_of j.port.id) platform.switches j.over.switch j.over.on in
      apart platform g above listed (some_passes (λ (s : Switch). s.id == above) platform.switches j.over.switch within.0 (eq-eqb j.over.switch.id above j.is))

  -- the places of a path begin at its last link
  first_up : (last first : ℕ) (links : List ℕ) → IsPath platform last first links → (rest : List Place) × (places_up links ≡ Ingress (up last) ∷ rest)
  first_up last _ _ IsPath.AtLast = (Wire (up last) ∷ Egress (up last) ∷ [], refl)
  first_up last _ _ (IsPath.Above l a links e falls way) = let t = first_up last a links way in (t.0 ++ places_on (up l), ap (λ (xs : List Place). xs ++ places_on (up l)) t.1)

  -- and has no function but the first
  function_on_way : (lower : ℕ) → is_function platform.functions lower ≡ true → (last first : ℕ) (links : List ℕ) → IsPath platform last first links → In (Ingress (up lower)) (places_up links) → lower ≡ first
  function_on_way lower listed last _ _ IsPath.AtLast at = ap (λ (d : Direction). d.lower) (ingress_on (up lower) (up last) at)
  function_on_way lower listed last _ _ (IsPath.Above l a links e falls way) at =
      ⊎_elim (λ x. absurd (above_switch l a e (ap (is_function platform.functions) (sym (function_on_way lower listed last a links way x)) ∙ listed)))
      (λ x. ap (λ (d : Direction). d.lower) (ingress_on (up lower) (up l) x)) (in_append (Ingress (up lower)) (places_up links) (places_on (up l)) at)

  -- ---- on the whole way

  module _ (domain function : ℕ) (links : List ℕ) (own : IsFunctionOf platform domain function) (way : IsWay platform function links) where
    abbrev out_of : Origin
    out_of = origin.Function function

    pub function_sent : (a : Direction) → In (Egress a) (from_function function links) → Adjoin (Wire a) (Egress a) (from_function function links)
    function_sent a at = adjoin_back (Wire a) (Egress a) (places_up links) (Outbox out_of ∷ []) (sent_up a links (up_in out_of (Egress a) links (λ e. cc) at))

    pub function_received : (a : Direction) → In (Wire a) (from_function function links) → Adjoin (Ingress a) (Wire a) (from_function function links)
    function_received a at = adjoin_back (Ingress a) (Wire a) (places_up links) (Outbox out_of ∷ []) (received_up a links (up_in out_of (Wire a) links (λ e. cc) at))

    pub function_rises : (lower above : ℕ) → link_above platform lower ≡ Some above → In (Ingress (up lower)) (from_function function links) → Adjoin (Egress (up above)) (Ingress (up lower)) (from_function function links)
    function_rises lower above is at = adjoin_back (Egress (up above)) (Ingress (up lower)) (places_up links) (Outbox out_of ∷ []) (rises top_id lower above function links is (not_top lower above is) way (up_in out_of (Ingress (up lower)) links (λ e. cc) at))

    function_outbox : (a : Origin) → In (Outbox a) (from_function function links) → a ≡ out_of
    function_outbox a at = by (in_append (Outbox a) (places_up links) (Outbox out_of ∷ []) at)
      where
        by : In (Outbox a) (places_up links) ⊎ In (Outbox a) (Outbox out_of ∷ []) → a ≡ out_of
        by (inl x) = absurd (up_outbox a links x)
        by (inr x) = outbox_is a out_of x

    pub function_enters : (a : Origin) → In (Outbox a) (from_function function links) → Adjoin (Egress (link_of a)) (Outbox a) (from_function function links)
    function_enters a at = subst (λ (o : Origin). Adjoin (Egress (link_of o)) (Outbox o) (from_function function links)) (sym (function_outbox a at)) (enters_up out_of top_id function links way)

    pub function_ingress : (a : Direction) → In (Ingress a) (from_function function links) → a.way ≡ Up
    function_ingress a at = ingress_up a links (up_in out_of (Ingress a) links (λ e. cc) at)

    abbrev host : Origin
    host = origin.Host domain

    pub host_sent : (a : Direction) → In (Egress a) (from_host domain links) → Adjoin (Wire a) (Egress a) (from_host domain links)
    host_sent a at = adjoin_back (Wire a) (Egress a) (places_down links) (Outbox host ∷ []) (sent_down a links (down_in host (Egress a) links (λ e. cc) at))

    pub host_received : (a : Direction) → In (Wire a) (from_host domain links) → Adjoin (Ingress a) (Wire a) (from_host domain links)
    host_received a at = adjoin_back (Ingress a) (Wire a) (places_down links) (Outbox host ∷ []) (received_down a links (down_in host (Wire a) links (λ e. cc) at))

    host_outbox : (a : Origin) → In (Outbox a) (from_host domain links) → a ≡ host
    host_outbox a at = by (in_append (Outbox a) (places_down links) (Outbox host ∷ []) at)
      where
        by : In (Outbox a) (places_down links) ⊎ In (Outbox a) (Outbox host ∷ []) → a ≡ host
        by (inl x) = absurd (down_outbox a links x)
        by (inr x) = outbox_is a host x

    pub host_enters : (a : Origin) → In (Outbox a) (from_host domain links) → Adjoin (Egress (link_of a)) (Outbox a) (from_host domain links)
    host_enters a at = subst (λ (o : Origin). Adjoin (Egress (link_of o)) (Outbox o) (from_host domain links)) (sym (host_outbox a at)) (enters_down host function links way)

    pub host_ingress : (a : Direction) → In (Ingress a) (from_host domain links) → a.way ≡ Down
    host_ingress a at = ingress_down a links (down_in host (Ingress a) links (λ e. cc) at)

    pub host_falls : (lower above : ℕ) → link_above platform lower ≡ Some above → is_below platform lower function ≡ true → In (Ingress (down above)) (from_host domain links) → Adjoin (Egress (down lower)) (Ingress (down above)) (from_host domain links)
    host_falls lower above is holds at =
        adjoin_back (Egress (down lower)) (Ingress (down above)) (places_down links) (Outbox host ∷ [])
        (by (falls_in domain function own lower above is holds function links way (way_holds platform g domain function links own way) (down_in host (Ingress (down above)) links (λ e. cc) at)))
      where
        by : (above ≡ function) ⊎ Adjoin (Egress (down lower)) (Ingress (down above)) (places_down links) → Adjoin (Egress (down lower)) (Ingress (down above)) (places_down links)
        by (inl same) = absurd (above_switch lower above is (ap (is_function platform.functions) same ∙ own.listed))
        by (inr x) = x

    -- ---- the first place, and the functions on the way

    pub function_first : (rest : List Place) × (from_function function links ≡ Ingress (up top_id) ∷ rest)
    function_first = let t = first_up top_id function links way in (t.0 ++ Outbox out_of ∷ [], ap (λ (xs : List Place). xs ++ Outbox out_of ∷ []) t.1)

    pub host_first : (rest : List Place) × (from_host domain links ≡ Ingress (down function) ∷ rest)
    host_first = by (begins platform top_id function links way)
      where
        by : Begins function links → (rest : List Place) × (from_host domain links ≡ Ingress (down function) ∷ rest)
        by (Begins.With rest is) = (Wire (down function) ∷ Egress (down function) ∷ (places_down rest ++ Outbox host ∷ []), ap (λ (ls : List ℕ). places_down ls ++ Outbox host ∷ []) is)

    pub only_function : (lower : ℕ) → is_function platform.functions lower ≡ true → In (Ingress (up lower)) (from_function function links) → lower ≡ function
    only_function lower listed at = function_on_way lower listed top_id function links way (up_in out_of (Ingress (up lower)) links (λ e. cc) at)

    -- the way but its first link has no function
    pub further_link : (l above : ℕ) (rest : List ℕ) → link_above platform function ≡ Some above → IsWay platform above rest → In (Ingress (up l)) (places_up rest) → l ≢ function
    further_link l above rest e further at same =
        let here = function_on_way l (ap (is_function platform.functions) same ∙ own.listed) top_id above rest further at in
        above_switch function above e (ap (is_function platform.functions) (sym here ∙ same) ∙ own.listed)

-- a place on the way up is one of a link's
pub record IsUpPlace (r : Place) (links : List ℕ) : Type 0 where
  pub link : ℕ
  pub on : On r (up link)
  pub listed : In (Ingress (up link)) (places_up links)

pub in_front : (r : Place) (xs ys : List Place) → In r xs → In r (xs ++ ys)
in_front r [] ys at = absurd at
in_front r (x ∷ xs) ys (inl e) = inl e
in_front r (x ∷ xs) ys (inr at) = inr (in_front r xs ys at)

pub in_behind : (r : Place) (xs ys : List Place) → In r ys → In r (xs ++ ys)
in_behind r [] ys at = at
in_behind r (x ∷ xs) ys at = inr (in_behind r xs ys at)

pub up_place : (r : Place) (links : List ℕ) → In r (places_up links) → IsUpPlace r links
up_place r [] at = absurd at
up_place r (l ∷ ls) at =
    ⊎_elim (λ x. let u = up_place r ls x in record { link = u.link; on = u.on; listed = in_front (Ingress (up u.link)) (places_up ls) (places_on (up l)) u.listed })
    (λ x. record { link = l; on = on_of r (up l) x; listed = in_behind (Ingress (up l)) (places_up ls) (places_on (up l)) (inl refl) })
    (in_append r (places_up ls) (places_on (up l)) at)

-- ---- no place of a link is an outbox

not_on : (o : Origin) (d : Direction) → IsNot (Outbox o) (places_on d)
not_on o d = ((λ e. cc), ((λ e. cc), ((λ e. cc), tt)))

pub not_up : (o : Origin) (links : List ℕ) → IsNot (Outbox o) (places_up links)
not_up o [] = tt
not_up o (l ∷ ls) = not_append (Outbox o) (places_up ls) (places_on (up l)) (not_up o ls) (not_on o (up l))

pub not_down : (o : Origin) (links : List ℕ) → IsNot (Outbox o) (places_down links)
not_down o [] = tt
not_down o (l ∷ ls) = not_append (Outbox o) (places_on (down l)) (places_down ls) (not_on o (down l)) (not_down o ls)

-- ---- up to the port that lets a packet through, and on to the function below its peer

way_at : Place → Way
way_at (Outbox o) = Up
way_at (Egress d) = d.way
way_at (Wire d) = d.way
way_at (Ingress d) = d.way

ways_apart : (one other : Direction) → one.way ≢ other.way → AreApart (places_on one) (places_on other)
unfolding way_at
ways_apart one other ne =
    let no : (x y : Place) → way_at x ≡ one.way → way_at y ≡ other.way → x ≢ y = λ x y a b e. ne (sym a ∙ (ap way_at e ∙ b)) in
    let row : (x : Place) → way_at x ≡ one.way → IsNot x (places_on other) = λ x a. (no x (Ingress other) a refl, (no x (Wire other) a refl, (no x (Egress other) a refl, tt))) in
    (row (Ingress one) refl, (row (Wire one) refl, (row (Egress one) refl, tt)))

down_is_not_up : ◌≡◌ Down Up → ⊥
down_is_not_up e = cc

down_from_up : (peer : ℕ) (links : List ℕ) → AreApart (places_on (down peer)) (places_up links)
down_from_up peer [] = (tt, (tt, (tt, tt)))
down_from_up peer (l ∷ ls) = apart_from (places_on (down peer)) (places_up ls) (places_on (up l)) (down_from_up peer ls) (ways_apart (down peer) (up l) down_is_not_up)

-- what is of all links is of each that has a place among them
held_up : (P : ℕ → Type 0) (l : ℕ) (links : List ℕ) → All P links → In (Ingress (up l)) (places_up links) → P l
held_up P l [] all at = absurd at
held_up P l (x ∷ xs) all at =
    ⊎_elim (λ there. held_up P l xs (All-tail P x xs all) there) (λ here. subst P (sym (ap (λ (d : Direction). d.lower) (ingress_on (up l) (up x) here))) (All-head P x xs all))
    (in_append (Ingress (up l)) (places_up xs) (places_on (up x)) at)

module _ (platform : Platform) (g : IsGuarded platform) (domain function peer last : ℕ) (links : List ℕ) (own : IsFunctionOf platform domain function) (path : IsPath platform last function links) where
  abbrev box : Origin
  box = origin.Function function

  abbrev behind : List Place
  behind = from_function function links

  pub across_distinct : AreDistinct (across peer function links)
  across_distinct =
      distinct_append (places_on (down peer)) behind (on_distinct (down peer)) (path_distinct platform last function links path)
      (apart_from (places_on (down peer)) (places_up links) (Outbox box ∷ []) (down_from_up peer links) (on_outbox (down peer) box))

  -- behind the function's own link
  adjoins_behind : (target source : Place) → Adjoin target source (places_up links) → Adjoin target source (across peer function links)
  adjoins_behind target source at = adjoin_front target source (places_on (down peer)) behind (adjoin_back target source (places_up links) (Outbox box ∷ []) at)

  pub across_sent : (a : Direction) → In (Egress a) (across peer function links) → Adjoin (Wire a) (Egress a) (across peer function links)
  across_sent a at =
      ⊎_elim (λ x. adjoin_back (Wire a) (Egress a) (places_on (down peer)) behind (sent_on a (down peer) x)) (λ x. adjoins_behind (Wire a) (Egress a) (sent_up a links (up_in box (Egress a) links (λ e. cc) x)))
      (in_append (Egress a) (places_on (down peer)) behind at)

  pub across_received : (a : Direction) → In (Wire a) (across peer function links) → Adjoin (Ingress a) (Wire a) (across peer function links)
  across_received a at =
      ⊎_elim (λ x. adjoin_back (Ingress a) (Wire a) (places_on (down peer)) behind (received_on a (down peer) x)) (λ x. adjoins_behind (Ingress a) (Wire a) (received_up a links (up_in box (Wire a) links (λ e. cc) x)))
      (in_append (Wire a) (places_on (down peer)) behind at)

  across_outbox : (a : Origin) → In (Outbox a) (across peer function links) → a ≡ origin.Function function
  across_outbox a at =
      ⊎_elim (λ x. absurd (outbox_on a (down peer) x)) (λ x. ⊎_elim (λ y. absurd (up_outbox a links y)) (λ y. outbox_is a box y) (in_append (Outbox a) (places_up links) (Outbox box ∷ []) x))
      (in_append (Outbox a) (places_on (down peer)) behind at)

  pub across_enters : (a : Origin) → In (Outbox a) (across peer function links) → Adjoin (Egress (link_of a)) (Outbox a) (across peer function links)
  across_enters a at =
      subst (λ (o : Origin). Adjoin (Egress (link_of o)) (Outbox o) (across peer function links)) (sym (across_outbox a at))
      (adjoin_front (Egress (up function)) (Outbox box) (places_on (down peer)) behind (enters_up platform g box last function links path))

  -- what comes up stands on one of the links
  across_up : (l : ℕ) → In (Ingress (up l)) (across peer function links) → In (Ingress (up l)) (places_up links)
  across_up l at =
      ⊎_elim (λ x. absurd (down_is_not_up (sym (ap (λ (d : Direction). d.way) (ingress_on (up l) (down peer) x))))) (λ x. up_in box (Ingress (up l)) links (λ e. cc) x) (in_append (Ingress (up l)) (places_on (down peer)) behind at)

  pub across_above : (l : ℕ) → In (Ingress (up l)) (across peer function links) → bus_of last ≤ bus_of l
  across_above l at = held_up (λ (link : ℕ). bus_of last ≤ bus_of link) l links (none_after_last platform last function links path) (across_up l at)

  pub across_rises : (lower above : ℕ) → link_above platform lower ≡ Some above → lower ≢ last → In (Ingress (up lower)) (across peer function links) → Adjoin (Egress (up above)) (Ingress (up lower)) (across peer function links)
  across_rises lower above is not at = adjoins_behind (Egress (up above)) (Ingress (up lower)) (rises platform g last lower above function links is not path (across_up lower at))

  pub across_turns : Adjoin (Egress (down peer)) (Ingress (up last)) (across peer function links)
  across_turns =
      let t = first_up platform g last function links path in
      subst (Adjoin (Egress (down peer)) (Ingress (up last))) (sym (ap (λ (xs : List Place). places_on (down peer) ++ (xs ++ Outbox box ∷ [])) t.1))
      (Adjoin.Later (Ingress (down peer)) (Wire (down peer) ∷ Egress (down peer) ∷ Ingress (up last) ∷ (t.0 ++ Outbox box ∷ []))
      (Adjoin.Later (Wire (down peer)) (Egress (down peer) ∷ Ingress (up last) ∷ (t.0 ++ Outbox box ∷ [])) (Adjoin.Here (t.0 ++ Outbox box ∷ []))))

  -- what comes down stands on the link of the other function, which leads no further
  pub across_down : (a : ℕ) → In (Ingress (down a)) (across peer function links) → a ≡ peer
  across_down a at =
      ⊎_elim (λ x. ap (λ (d : Direction). d.lower) (ingress_on (down a) (down peer) x)) (λ x. absurd (down_is_not_up (ingress_up (down a) links (up_in box (Ingress (down a)) links (λ e. cc) x))))
      (in_append (Ingress (down a)) (places_on (down peer)) behind at)

pub not_across : (function peer : ℕ) (links : List ℕ) → IsNot (Outbox (origin.Function function)) (places_on (down peer) ++ places_up links)
not_across function peer links = let o = origin.Function function in not_append (Outbox o) (places_on (down peer)) (places_up links) (not_on o (down peer)) (not_up o links)
