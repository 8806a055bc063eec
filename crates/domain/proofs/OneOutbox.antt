-- Two packets that keep their order were put in one outbox, and the first is a posted one.
use Rattle.std.proofs.Common.{◌≡◌, ℕ, List, sym, ◌∙◌}
use Rattle.platform.specs.declared.parts.DownstreamPort.{DownstreamPort}
use Rattle.domain.specs.Orders.{DownFromHost, IsPosted, KeepOrder, UpFromFunction}
use Rattle.domain.specs.Sent.{Sent}

pub one_outbox : (ports : List DownstreamPort) (domain : ℕ) (first second : Sent) → KeepOrder ports domain first second → first.source ≡ second.source
one_outbox ports domain first second (UpFromFunction pair) = pair.first_source ∙ sym pair.second_source
one_outbox ports domain first second (DownFromHost pair) = pair.first_source ∙ sym pair.second_source

pub first_posted : (ports : List DownstreamPort) (domain : ℕ) (first second : Sent) → KeepOrder ports domain first second → IsPosted first.emission
first_posted ports domain first second (UpFromFunction pair) = pair.posted
first_posted ports domain first second (DownFromHost pair) = pair.posted
