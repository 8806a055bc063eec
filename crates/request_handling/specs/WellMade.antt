-- What the domain's own packets keep to.
use Rattle.std.specs.Prelude.{◌≡◌, ◌≤◌, ℕ, List, None, length}
use Rattle.fab_types.specs.declared.head.Parties.{Parties}
use Rattle.fab_types.specs.declared.head.Parties.TheVariants.{Upward, Downward, Answer}
use Rattle.function.specs.Accesses.{IsAccess}
use Rattle.tlp_view.specs.Bytes.{packet_of}
use Rattle.tlp_view.specs.Malformed.{malformed}

-- Functions may send anything. What goes to a function writes its page, or reads at most 64 DW of it; answers
-- are well formed
abbrev pub IsWellMade : Parties → List ℕ → Type 0
IsWellMade (Upward function) bytes = Unit {0}
IsWellMade (Downward function) bytes = (malformed bytes ≡ None) × IsAccess (packet_of bytes)
IsWellMade (Answer answerer addressee) bytes = (malformed bytes ≡ None) × (length bytes ≤ 272)
