use Rattle.std.proofs.Common.{[]}
use Rattle.tlp_view.specs.declared.kind.Kind.TheVariants.{MRd}
use Rattle.tlp_view.proofs.Requested.{request_spelled, read_made}
use Rattle.tlp_view.proofs.laws.read_request_spelled.Goals as goal

pub returns : goal.returns
returns c = λ head count fits requester tag address. request_spelled MRd head count [] (read_made count) fits requester tag address
