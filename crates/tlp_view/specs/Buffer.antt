-- What a completion's buffer keeps of its bytes.
use Rattle.std.specs.Prelude.{◌≡◌, ◌≤◌, ◌<◌, ◌/◌, ◌%◌, ◌^◌, ℕ, List, [], length, take}
use Rattle.tlp_view.specs.declared.completion.CompletionHead.{CompletionHead}
use Rattle.tlp_view.specs.Spelling.{header}
use Rattle.tlp_view.specs.Completions.{completion, HeadFits}

-- the bytes begin with the header of a completion with so many bytes of payload
pub record IsBuffer (head : CompletionHead) (len : ℕ) (bytes : List ℕ) : Type 0 where
  pub fits : HeadFits head
  pub completer : head.completer < 2 ^ 16
  pub requester : head.requester < 2 ^ 16
  pub tag : head.tag < 2 ^ 8
  pub small : len ≤ 256
  pub whole : len % 4 ≡ 0
  pub long : length bytes ≡ 268
  pub front : take 12 bytes ≡ header (completion head (len / 4) []) []
