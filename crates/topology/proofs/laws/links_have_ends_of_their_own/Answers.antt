use Rattle.topology.proofs.OwnEnds.{directions_apart, ends_apart}
use Rattle.topology.proofs.Standing.{link_found}
use Rattle.topology.proofs.laws.links_have_ends_of_their_own.Goals as goal

pub returns : goal.returns
returns c = record {
  found = λ platform link laws. link_found platform laws link;
  apart = λ platform one other way back laws. ends_apart platform laws one other way back;
  directions = λ platform one other end laws. directions_apart platform laws one other end;
}
