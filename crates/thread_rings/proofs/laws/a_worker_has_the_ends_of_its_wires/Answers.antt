use Rattle.thread_rings.proofs.Shares.{dealt_ins, dealt_outs, many_ins, many_outs}
use Rattle.thread_rings.proofs.laws.a_worker_has_the_ends_of_its_wires.Goals as goal

pub returns : goal.returns
returns c = record { outs = dealt_outs; ins = dealt_ins; many_outs = many_outs; many_ins = many_ins }
