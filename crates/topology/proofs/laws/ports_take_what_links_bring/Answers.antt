use Rattle.topology.proofs.Brought.{downstream_input, upstream_input}
use Rattle.topology.proofs.laws.ports_take_what_links_bring.Goals as goal

pub returns : goal.returns
returns c = record {
  upstream = λ platform switch laws. upstream_input platform laws switch;
  downstream = λ platform port laws. downstream_input platform laws port;
}
