use Rattle.domain.proofs.PortAnswers.{port_replies}
use Rattle.domain.proofs.laws.ports_answer_by_completions.Goals as goal

pub returns : goal.returns
returns c share state place sender bytes made is e = port_replies share state place sender bytes made is e
