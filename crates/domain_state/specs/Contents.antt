-- What the end of a packet may change in a state.
use Rattle.domain_state.specs.declared.effects.Contents.{Contents}
use Rattle.domain_state.specs.State.{Alone}

-- the state with this memory, these register pages and these counts
abbrev pub with_contents : Alone → Contents → Alone
with_contents s c = record { frames = c.memory; registers = c.registers; open_tags = s.open_tags; deliveries = s.deliveries; counts = c.counts; flight = s.flight }
