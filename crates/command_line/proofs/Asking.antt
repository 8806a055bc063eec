-- A request is for one thing alone.
use Rattle.std.proofs.Common.{◌≡◌, Some, subst}
use Rattle.command_line.specs.CommandLine.{Asked, IsAsked, asked_by}
use Rattle.command_line.specs.declared.request.Request.{Request}

-- what holds of the one thing holds of whatever the request is for
pub asked_alone : (P : Asked → Type 0) (request : Request) (one asked : Asked) → asked_by request ≡ Some one → P one → IsAsked request asked → P asked
asked_alone P request one asked e h is =
    let same : one ≡ asked = cc in
    subst P same h
