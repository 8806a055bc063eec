use Rattle.std.proofs.Common.{subst}
use Rattle.tlp_view.specs.View.{IsSound}
use Rattle.tlp_view.proofs.Sound.{IsSound-view}
use Rattle.tlp_view.proofs.view.TlpView.dw_length.Goals as goal

pub returns-clause-sound : goal.returns-clause-sound
returns-clause-sound c = subst IsSound c.self.view_is (IsSound-view c.self.inside.kind c.self.inside.bytes.now c.self.invariant)
