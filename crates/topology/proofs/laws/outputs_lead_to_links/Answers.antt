use Rattle.topology.proofs.Outputs.{function_up, output_at, output_place, lane_to, on_switch, own_node, switch_up}
use Rattle.topology.proofs.OwnEnds.{down_alone}
use Rattle.topology.proofs.laws.outputs_lead_to_links.Goals as goal

pub returns : goal.returns
returns c = record {
  up = λ platform switch laws. switch_up platform laws switch;
  function = λ platform function laws. function_up platform laws function;
  node = λ platform switch port laws. own_node platform laws switch port;
  output = λ platform port laws. output_place platform laws port;
  port = λ platform switch k d laws. output_at platform laws switch k d;
  below = λ platform port laws. lane_to platform laws port;
  alone = λ platform port direction laws. down_alone platform laws port direction;
  switch = λ platform port laws. on_switch platform laws port;
}
