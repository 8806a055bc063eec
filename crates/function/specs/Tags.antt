-- The Tags that requesters have open (PCIe 4.0, 2.2.6.2), and those that the read lines of a program take.
use Rattle.std.specs.Prelude.{ℕ, ◌==◌, nat_le, Bool, true, false, ◌&&◌, not, List, [], ◌∷◌, Option, filter, option_map, unwrap_or, if◌then◌else◌}
use Rattle.std.specs.List.{list_any, find}
use Rattle.fab_types.specs.declared.origin.Origin.{Origin}
use Rattle.fab_types.specs.declared.origin.Origin.TheVariants.{Function}
use Rattle.fab_types.specs.Origins.{same_origin}
use Rattle.function.specs.declared.tags.OpenTag.{OpenTag}
use Rattle.function.specs.declared.tags.TagUse.{TagUse}
use Rattle.function.specs.declared.tags.TagUse.TheVariants.{Raw, Line}

abbrev pub is_open : List OpenTag → Origin → ℕ → Bool
is_open tags owner tag = list_any (λ open_tag. same_origin open_tag.owner owner && (open_tag.tag == tag)) tags

-- one more: behind those of its number and of lower ones
abbrev pub and_open : List OpenTag → OpenTag → List OpenTag
and_open [] opened = opened ∷ []
and_open (open_tag ∷ tags) opened = if nat_le open_tag.tag opened.tag then open_tag ∷ and_open tags opened else opened ∷ open_tag ∷ tags

-- all but this one
abbrev pub closed : List OpenTag → Origin → ℕ → List OpenTag
closed tags owner tag = filter (λ open_tag. not (same_origin open_tag.owner owner && (open_tag.tag == tag))) tags

-- what an open Tag was opened for
abbrev pub use_of : List OpenTag → Origin → ℕ → TagUse
use_of tags owner tag = unwrap_or (option_map (λ open_tag. open_tag.usage) (find (λ open_tag. same_origin open_tag.owner owner && (open_tag.tag == tag)) tags)) Raw

-- was it opened by a read line?
abbrev pub is_line : TagUse → Bool
is_line Raw = false
is_line (Line offset count) = true

-- does a read line of this function await its data?
abbrev pub awaits_line : List OpenTag → ℕ → Bool
awaits_line tags function = list_any (λ open_tag. same_origin open_tag.owner (Function function) && is_line open_tag.usage) tags

-- the Tags that read lines take
abbrev pub line_numbers : List ℕ
line_numbers = 0 ∷ 1 ∷ 2 ∷ 3 ∷ 4 ∷ 5 ∷ 6 ∷ 7 ∷ []

-- the lowest of them that the function doesn't have open
unfoldable pub free_tag : List OpenTag → ℕ → Option ℕ
free_tag tags function = find (λ tag. not (is_open tags (Function function) tag)) line_numbers
