use Rattle.std.proofs.Common.{◌≡◌, List, subst, sym}
use Rattle.std.proofs.lemmas.List.Kept.{AllPairs-filter}
use Rattle.platform.specs.declared.parts.Mapping.{Mapping}
use Rattle.platform.specs.Tables.{MapsOnce}
use Rattle.layout.specs.Views.{is_map_of}
use Rattle.layout.proofs.layout.Layout.start.Goals as goal

-- the domain's maps are some of the layout's
pub of-requires-clause-once : goal.of-requires-clause-once
of-requires-clause-once c =
    let P : List Mapping → Type 0 = λ maps. MapsOnce maps in
    subst P (sym c.in_ok-maps.ensures) (AllPairs-filter (λ (a b : Mapping). a.requester ≡ b.requester → a.page ≡ b.page → ⊥) (is_map_of c.args.self.now.ports c.args.domain) c.args.self.now.maps c.ports.ensures.laws.mapped_once)
