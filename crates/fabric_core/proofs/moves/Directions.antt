-- Which direction is sent from an end: the one that says so, since no other is.
use Rattle.std.proofs.Common.{◌≡◌, ℕ, ◌⊎◌, inl, inr, Bool, true, false, cond, List, [], ◌∷◌, Option, Some, None, refl, sym, ap, ◌∙◌, eqb-true, eq-eqb}
use Rattle.std.specs.Prelude.{Contains}
use Rattle.std.proofs.lemmas.Bool.{and_from, and_parts}
use Rattle.std.proofs.lemmas.Option.{same_Some}
use Rattle.fab_types.specs.declared.place.Direction.{Direction}
use Rattle.fab_types.specs.declared.place.Way.{Way}
use Rattle.fab_types.specs.declared.place.Way.TheVariants.{Up, Down}
use Rattle.layout.specs.Laws.{IsPlatform}
use Rattle.platform.specs.Platform.{Platform}
use Rattle.topology.specs.declared.links.Link.{Link}
use Rattle.topology.specs.declared.nodes.LinkEnd.{LinkEnd}
use Rattle.topology.specs.Links.{links_of, sender_of, sending_end}
use Rattle.topology.proofs.Members.{cases_contained, here, later, nothing_contained}
use Rattle.topology.proofs.OwnEnds.{ends_apart, sender_link}
use Rattle.fabric_core.specs.MovesLeft.{direction_from, is_same_end}

same_end : (one other : LinkEnd) → is_same_end one other ≡ true → one ≡ other
same_end one other e =
    let both = and_parts _ _ e in
    ap (λ (n : ℕ). record { node = n; output = one.output }) (eqb-true one.node other.node both.0) ∙ ap (λ (k : ℕ). record { node = other.node; output = k }) (eqb-true one.output other.output both.1)

one_end : (one other : LinkEnd) → one ≡ other → is_same_end one other ≡ true
one_end one other same =
    and_from _ _ (eq-eqb one.node other.node (ap (λ (e : LinkEnd). e.node) same)) (eq-eqb one.output other.output (ap (λ (e : LinkEnd). e.output) same))

abbrev up : Link → Direction
up link = record { lower = link.lower; way = Up }

abbrev down : Link → Direction
down link = record { lower = link.lower; way = Down }

-- what is found is a direction of a link, and sent from there
record Found (links : List Link) (end : LinkEnd) (direction : Direction) : Type 0 where
  link : Link
  listed : Contains links link
  lower : link.lower ≡ direction.lower
  sent : sending_end direction.way link ≡ end

is_found : (links : List Link) (end : LinkEnd) (direction : Direction) → direction_from links end ≡ Some direction → Found links end direction
is_found [] end direction e = absurd cc
is_found (link ∷ links) end direction e = go (is_same_end link.below end) refl (is_same_end link.above end) refl e (λ rest. is_found links end direction rest)
  where
    go : (below : Bool) → is_same_end link.below end ≡ below → (above : Bool) → is_same_end link.above end ≡ above
        → cond below (Some (up link)) (cond above (Some (down link)) (direction_from links end)) ≡ Some direction → (direction_from links end ≡ Some direction → Found links end direction) → Found (link ∷ links) end direction
    go true b above a e further =
        let is : up link ≡ direction = same_Some (up link) direction e in
        record { link = link; listed = here link links; lower = ap (λ (d : Direction). d.lower) is; sent = ap (λ (d : Direction). sending_end d.way link) (sym is) ∙ same_end link.below end b }
    go false b true a e further =
        let is : down link ≡ direction = same_Some (down link) direction e in
        record { link = link; listed = here link links; lower = ap (λ (d : Direction). d.lower) is; sent = ap (λ (d : Direction). sending_end d.way link) (sym is) ∙ same_end link.above end a }
    go false b false a e further =
        let at = further e in
        record { link = at.link; listed = later link at.link links at.listed; lower = at.lower; sent = at.sent }

-- one that is sent from there is not missed
none_missed : (links : List Link) (end : LinkEnd) (link : Link) (way : Way) → Contains links link → sending_end way link ≡ end → direction_from links end ≡ None → ⊥
none_missed [] end link way within sent none = nothing_contained link within
none_missed (l ∷ links) end link way within sent none = go (is_same_end l.below end) refl (is_same_end l.above end) refl none (cases_contained l link links within) (λ rest e. none_missed links end link way rest sent e)
  where
    clash : (way : Way) → sending_end way l ≡ end → is_same_end l.below end ≡ false → is_same_end l.above end ≡ false → ⊥
    clash Up same b a = let one = one_end l.below end same in cc
    clash Down same b a = let one = one_end l.above end same in cc

    go : (below : Bool) → is_same_end l.below end ≡ below → (above : Bool) → is_same_end l.above end ≡ above → cond below (Some (up l)) (cond above (Some (down l)) (direction_from links end)) ≡ None → (l ≡ link) ⊎ Contains links link
        → (Contains links link → direction_from links end ≡ None → ⊥) → ⊥
    go true b above a none at further = absurd cc
    go false b true a none at further = absurd cc
    go false b false a none (inl same) further = clash way (ap (sending_end way) same ∙ sent) b a
    go false b false a none (inr rest) further = further rest none

module _ (platform : Platform) (laws : IsPlatform platform) where
  same_direction : (one other : Direction) → one.lower ≡ other.lower → one.way ≡ other.way → one ≡ other
  same_direction one other lower way =
      ap (λ (n : ℕ). record { lower = n; way = one.way }) lower ∙ ap (λ (w : Way). record { lower = other.lower; way = w }) way

  -- what is sent from an end in some direction is what is found there
  pub own_direction : (direction : Direction) (end : LinkEnd) → sender_of (links_of platform) direction ≡ Some end → direction_from (links_of platform) end ≡ Some direction
  own_direction direction end e = go (direction_from (links_of platform) end) refl
    where
      go : (o : Option Direction) → direction_from (links_of platform) end ≡ o → o ≡ Some direction
      go None none = let from = sender_link platform laws direction end e in absurd (none_missed (links_of platform) end from.0 direction.way from.1 from.3 none)
      go (Some other) found =
          let from = sender_link platform laws direction end e in
          let at = is_found (links_of platform) end other found in
          let same = ends_apart platform laws at.link from.0 other.way direction.way at.listed from.1 (at.sent ∙ sym from.3) in
          ap (λ (d : Direction). Some d) (same_direction other direction (sym at.lower ∙ (same.0 ∙ from.2)) same.1)
