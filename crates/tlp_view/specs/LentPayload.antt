-- What a completion's buffer ends as, where its payload is lent.
use Rattle.std.specs.Prelude.{ℕ, List}
use Rattle.std.specs.Borrow.{Lends, MutBor, Fml, Array, u8}
use Rattle.tlp_view.specs.Packet.{Packet}
use Rattle.tlp_view.specs.Completions.{with_payload}
use Rattle.tlp_view.specs.contracts.completion.CplBuf.{the_row}

-- once the borrow r ends, the payload is what was written through r
abbrev pub LendsPayload : MutBor Packet → MutBor (List ℕ) → Fml
LendsPayload buffer r = Lends the_row (Array u8 0) buffer r (with_payload buffer.now)
