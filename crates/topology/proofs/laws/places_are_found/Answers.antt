use Rattle.topology.proofs.Found.{downstream_found, place_position, upstream_found}
use Rattle.topology.proofs.Standing.{ids_apart}
use Rattle.topology.proofs.laws.places_are_found.Goals as goal

pub returns : goal.returns
returns c = record {
  upstream = λ platform switch laws. upstream_found platform laws switch;
  downstream = λ platform port laws. downstream_found platform laws port;
  apart = λ platform switch port laws. ids_apart platform laws switch port;
  place = λ platform k d laws. place_position platform laws k d;
}
