use Rattle.request_handling.proofs.WellMadeLemmas.{request_well}
use Rattle.domain.proofs.state.State.request.Goals as goal

pub emit_made-requires-clause-well_made : goal.emit_made-requires-clause-well_made
emit_made-requires-clause-well_made c = request_well c.args.parties c.args.packet.now c.bytes.result.now c.requires.made c.bytes.ensures.spelled c.bytes.ensures.small
