use Rattle.domain.proofs.Sending.{are_sent}
use Rattle.domain.proofs.laws.sent_packets_are_those_in_flight.Goals as goal

pub returns : goal.returns
returns c share journal state is = are_sent share journal state is
