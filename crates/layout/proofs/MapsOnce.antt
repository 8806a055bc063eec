-- No page of a requester is mapped twice.
use Rattle.std.proofs.Common.{◌≡◌, ℕ, ◌==◌, ◌<◌, false, List, [], ◌∷◌, ◌++◌, length, get_or}
use Rattle.std.specs.Prelude.{◌&&◌}
use Rattle.std.proofs.lemmas.Bool.{eq-eqb}
use Rattle.std.proofs.lemmas.List.Quantifiers.{all_pairs_push}
use Rattle.platform.specs.declared.parts.Mapping.{Mapping}
use Rattle.layout_line.specs.declared.lines.MapText.{MapText}
use Rattle.layout.specs.Rules.{is_mapped, is_of_requester}
use Rattle.layout.specs.Additions.{map_line}
use Rattle.platform.specs.Tables.{MapsOnce}
use Rattle.platform.proofs.Bools.{and-both}
use Rattle.layout.proofs.Bools.{none-at}

-- a page that is not mapped is the page of no line
unmapped : (maps : List Mapping) (requester page : ℕ) → is_mapped maps requester page ≡ false → (k : ℕ) (d : Mapping) → k < length maps → (get_or maps k d).requester ≡ requester → (get_or maps k d).page ≡ page → ⊥
unfolding is_mapped
unmapped maps requester page free k d within same_requester same_page =
    let line : Mapping = get_or maps k d in
    let mapped = and-both (is_of_requester requester line) (line.page == page) (eq-eqb line.requester requester same_requester) (eq-eqb line.page page same_page) in
    let other = none-at (λ (x : Mapping). is_of_requester requester x && (x.page == page)) maps k d free within in
    cc

-- one more line, of a page that is not mapped yet
pub once-more : (maps : List Mapping) (line : MapText) → is_mapped maps line.requester line.page ≡ false → MapsOnce maps → MapsOnce (maps ++ map_line line ∷ [])
once-more maps line free once = all_pairs_push (λ (a b : Mapping). a.requester ≡ b.requester → a.page ≡ b.page → ⊥) maps (map_line line) once (unmapped maps line.requester line.page free)
