-- Whose a frame of memory is, by what a layout gives each domain.
use Rattle.std.specs.Prelude.{ℕ, ◌==◌, Bool, List, Option, find, option_map}
use Rattle.std.specs.List.{list_any}
use Rattle.platform.specs.Share.{Share}

-- is it a frame of memory of this domain?
abbrev pub owns_frame : ℕ → Share → Bool
owns_frame page share = list_any (λ k. k == page) share.frames

-- the first domain that has it
abbrev pub owner_of_frame : List Share → ℕ → Option ℕ
owner_of_frame shares page = option_map (λ share. share.domain) (find (owns_frame page) shares)
