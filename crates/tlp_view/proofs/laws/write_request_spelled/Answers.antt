use Rattle.std.proofs.Common.{◌/◌, length}
use Rattle.tlp_view.specs.declared.kind.Kind.TheVariants.{MWr}
use Rattle.tlp_view.proofs.Requested.{request_spelled, write_made}
use Rattle.tlp_view.proofs.laws.write_request_spelled.Goals as goal

pub returns : goal.returns
returns c = λ head payload fits requester tag address small whole. request_spelled MWr head (length payload / 4) payload (write_made payload small whole) fits requester tag address
