use Rattle.topology.proofs.Rooted.{root_down, top_up}
use Rattle.topology.proofs.laws.root_sends_down.Goals as goal

pub returns : goal.returns
returns c = record {
  down = λ platform laws. root_down platform laws;
  up = λ platform laws. top_up platform laws;
}
