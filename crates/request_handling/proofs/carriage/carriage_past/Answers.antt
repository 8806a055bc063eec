use Rattle.std.proofs.Common.{◌∙◌, ap, sym}
use Rattle.std.specs.Prelude.{option_map}
use Rattle.tlp_view.specs.Packet.{Packet}
use Rattle.request_handling.specs.Dispositions.{handling}
use Rattle.request_handling.proofs.PastPort.{past_directly, past_port}
use Rattle.request_handling.proofs.Suiting.{all_suit}
use Rattle.request_handling.proofs.carriage.carriage_past.Goals as goal

pub returns-in-ToHost-clause-value : goal.returns-in-ToHost-clause-value
returns-in-ToHost-clause-value c = λ frames.
    ap (λ (t : Packet). option_map (handling c.args.start.now frames c.args.functions.now t) c.carried.result) (sym c.in-Some.ensures.1)
    ∙ c.carried.ensures.value frames c.args.functions.now
    ∙ past_port c.args.start.now frames c.args.functions.now c.args.function c.args.port.now c.args.packet.now c.in-Some.view.now _ c.in-Some.ensures.0 c.in-Some.ensures.1 c.packet_fate.ensures.value c.in-ToHost.is

pub returns-in-ToHost-clause-suits : goal.returns-in-ToHost-clause-suits
returns-in-ToHost-clause-suits c = all_suit c.args.packet.now c.in-Some.view.now c.carried.result c.in-Some.ensures.0 c.in-Some.ensures.1 c.carried.ensures.served

pub returns-in-Direct-clause-value : goal.returns-in-Direct-clause-value
returns-in-Direct-clause-value c = λ frames.
    ap (λ (t : Packet). option_map (handling c.args.start.now frames c.args.functions.now t) c.carried_directly.result) (sym c.in-Some.ensures.1)
    ∙ c.carried_directly.ensures.value frames
    ∙ past_directly c.args.start.now frames c.args.functions.now c.args.function c.in-Direct.peer c.args.port.now c.args.packet.now c.in-Some.view.now _ c.in-Some.ensures.0 c.in-Some.ensures.1 c.packet_fate.ensures.value c.in-Direct.is

pub returns-in-Direct-clause-suits : goal.returns-in-Direct-clause-suits
returns-in-Direct-clause-suits c = all_suit c.args.packet.now c.in-Some.view.now c.carried_directly.result c.in-Some.ensures.0 c.in-Some.ensures.1 c.carried_directly.ensures.served
