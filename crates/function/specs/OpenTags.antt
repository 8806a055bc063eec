-- The open Tags of a domain, as they are kept: for each of the 256 numbers a list (PCIe 4.0, 2.2.6.2).
use Rattle.std.specs.Prelude.{◌≡◌, ℕ, ◌+◌, ◌-◌, ◌<◌, true, List, [], ◌∷◌, length, map, All, Vec, vec_capacity}
use Rattle.std.specs.List.{flat_map}
use Rattle.function.specs.declared.tags.OpenTag.{OpenTag}
use Rattle.function.specs.declared.open_tags.OpenTags.TheInside.{Inside}
use Rattle.function.specs.Tags.{is_line}

-- what a clause sees of them: the Tags by rising number, and for how many more of each number there is room
pub record Tags : Type 0 where
  pub items : List OpenTag
  pub room : List ℕ

abbrev pub tags_of : Inside → Tags
tags_of t = record { items = flat_map (λ tags. tags.items) t.numbers.items; room = map (λ tags. vec_capacity tags - length tags.items) t.numbers.items }

-- from this number on, the Tags in the lists have the numbers of their lists
abbrev pub AreNumbered : {Z : Type 0} → ℕ → List (Vec OpenTag Z) → Type 0
AreNumbered number [] = Unit {0}
AreNumbered number (tags ∷ later) = All (λ open_tag. open_tag.tag ≡ number) tags.items × AreNumbered (number + 1) later

pub record AreTags (t : Inside) : Type 0 where
  pub all : length t.numbers.items ≡ 256
  pub numbered : AreNumbered 0 t.numbers.items
  pub lines : All (λ open_tag. is_line open_tag.usage ≡ true → open_tag.tag < 8) (flat_map (λ tags. tags.items) t.numbers.items)
  pub count : t.count ≡ length (flat_map (λ tags. tags.items) t.numbers.items)
