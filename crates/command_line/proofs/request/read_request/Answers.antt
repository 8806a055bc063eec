use Rattle.std.proofs.Common.{◌≡◌, ◌∙◌}
use Rattle.clap.specs.declared.error.kind.ErrorKind.TheVariants as kind
use Rattle.command_line.proofs.CommandWords.{asks_nothing, fails_for_memory, words_read}
use Rattle.command_line.proofs.request.read_request.Goals as goal

pub returns-in-Some : goal.returns-in-Some
returns-in-Some g c = record {
  asked = λ asked ask. c.in-Some.ensures ∙ words_read _ _ _ asked c.in_ok-definition.ensures c.in-Ok.ensures.matches ask.1;
}

pub returns-in-Ok : goal.returns-in-Ok
returns-in-Ok g c = record {
  asked = λ asked ask. absurd (asks_nothing _ asked c.in-None.ensures (words_read _ _ _ asked c.in_ok-definition.ensures c.in-Ok.ensures.matches ask.1));
}

pub returns-in-DisplayHelp : goal.returns-in-DisplayHelp
returns-in-DisplayHelp g c = record {
  asked = λ asked ask.
      let bad : kind.DisplayHelp ≡ kind.OutOfMemory =
      c.in-DisplayHelp.ensures ∙ fails_for_memory _ _ c.in-Err.error c.in_ok-definition.ensures c.in-Err.ensures.kinds ask.0 in
      absurd cc;
}

pub returns : goal.returns
returns g c = record {
  asked = λ asked ask. absurd (c.in_default.not-OutOfMemory (c.kind.ensures ∙ fails_for_memory _ _ c.in-Err.error c.in_ok-definition.ensures c.in-Err.ensures.kinds ask.0));
}
