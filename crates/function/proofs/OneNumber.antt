-- What holds of open Tags when the list of one number has changed.
use Rattle.std.proofs.Common.{◌≡◌, ◌<◌, ◌≤◌, ◌+◌, ◌-◌, ℕ, true, not, ◌&&◌, ◌==◌, Global, Vec, All, filter, get_or, length, length-set, set, sym, ◌∙◌, ap, arith, get_or-set_same, slice_index_or, vec_capacity}
use Rattle.std.specs.Vec.{with_item}
use Rattle.std.proofs.lemmas.List.{get_or-map}
use Rattle.std.proofs.lemmas.List.Elements.{All-filter, All-same}
use Rattle.fab_types.specs.declared.origin.Origin.{Origin}
use Rattle.fab_types.specs.Origins.{same_origin}
use Rattle.function.specs.declared.tags.OpenTag.{OpenTag}
use Rattle.function.specs.declared.open_tags.OpenTags.TheInside.{Inside}
use Rattle.function.specs.OpenTags.{AreTags, tags_of}
use Rattle.function.specs.Tags.{closed, is_line}
use Rattle.function.proofs.Numbers.{joined, joined-closed, joined-same, length-joined_set, numbered-at, numbered-set}

module _ (t : Inside) (are : AreTags t) (number : ℕ) (low : number < 256) (before after : Vec OpenTag Global) (read : before ≡ get_or t.numbers.items number before) where
  within : number < length t.numbers.items
  within = omega (arith, are.all, low)

  was : before.items ≡ (get_or t.numbers.items number before).items
  was = ap (λ (v : Vec OpenTag Global). v.items) read

  own : All (λ open_tag. open_tag.tag ≡ number) before.items
  own = All-same (λ (open_tag : OpenTag). open_tag.tag ≡ number) before.items _ was (numbered-at t.numbers.items 0 number number before are.numbered within (omega arith))

  -- with the same Tags in it
  module _ (same : after.items ≡ before.items) where
    pub joined_kept : joined (set t.numbers.items number after) ≡ joined t.numbers.items
    joined_kept = joined-same t.numbers.items number after before within (same ∙ was)

    pub tags_kept : AreTags (record { numbers = with_item t.numbers number after; count = t.count })
    tags_kept = record {
      all = length-set t.numbers.items number after ∙ are.all;
      numbered = numbered-set t.numbers.items 0 number number after are.numbered (omega arith) (All-same (λ (open_tag : OpenTag). open_tag.tag ≡ number) after.items before.items same own);
      lines = All-same (λ (open_tag : OpenTag). is_line open_tag.usage ≡ true → open_tag.tag < 8) _ _ joined_kept are.lines;
      count = are.count ∙ ap length (sym joined_kept);
    }

  pub has_room : length after.items + 1 ≤ vec_capacity after → 1 ≤ slice_index_or (tags_of (record { numbers = with_item t.numbers number after; count = t.count })).room number 0
  has_room free =
      let long = length-set t.numbers.items number after in
      let here = get_or-map (λ (v : Vec OpenTag Global). vec_capacity v - length v.items) (set t.numbers.items number after) number after 0 (omega (arith, long, within))
      ∙ ap (λ (v : Vec OpenTag Global). vec_capacity v - length v.items) (get_or-set_same t.numbers.items number after after within) in
      omega (arith, here, free)

  -- without those of an owner
  module _ (owner : Origin) (taken : ℕ) (without : after.items ≡ filter (λ open_tag. not (same_origin open_tag.owner owner)) before.items) (counted : length after.items + taken ≡ length before.items) where
    pub joined_without : joined (set t.numbers.items number after) ≡ closed (joined t.numbers.items) owner number
    joined_without = joined-closed t.numbers.items 0 number number after before owner are.numbered within (omega arith) (without ∙ ap (filter (λ (open_tag : OpenTag). not (same_origin open_tag.owner owner))) was)

    lengths : length (joined (set t.numbers.items number after)) + taken ≡ t.count
    lengths =
        let both = length-joined_set t.numbers.items number after before within in
        let here = ap length was in
        omega (arith, both, here, counted, are.count)

    pub taken_within : taken ≤ t.count
    taken_within = omega (arith, lengths)

    pub tags_without : AreTags (record { numbers = with_item t.numbers number after; count = t.count - taken })
    tags_without = record {
      all = length-set t.numbers.items number after ∙ are.all;
      numbered = numbered-set t.numbers.items 0 number number after are.numbered (omega arith)
          (All-same (λ (open_tag : OpenTag). open_tag.tag ≡ number) after.items _ without (All-filter (λ open_tag. not (same_origin open_tag.owner owner)) (λ open_tag. open_tag.tag ≡ number) before.items own));
      lines = All-same (λ (open_tag : OpenTag). is_line open_tag.usage ≡ true → open_tag.tag < 8) _ _ joined_without
          (All-filter (λ open_tag. not (same_origin open_tag.owner owner && (open_tag.tag == number))) (λ open_tag. is_line open_tag.usage ≡ true → open_tag.tag < 8) (joined t.numbers.items) are.lines);
      count = let sum = lengths in omega (arith, sum);
    }
