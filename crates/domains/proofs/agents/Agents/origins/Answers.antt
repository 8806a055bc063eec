use Rattle.std.proofs.Common.{◌≡◌, List, subst, sym}
use Rattle.std.specs.Prelude.{IfOk}
use Rattle.fab_types.specs.declared.origin.Origin.{Origin}
use Rattle.domains.specs.Agents.{AgentsView, AreFound}
use Rattle.domains.proofs.Viewing.{found_seen, origins_seen}
use Rattle.domains.proofs.agents.Agents.origins.Goals as goal

pub returns-clause-value : goal.returns-clause-value
returns-clause-value c = rw (← c.self.view_is)
    (subst (λ (os : List Origin). IfOk c.origins.result (λ origins. origins.items ≡ os)) (sym (origins_seen c.self.inside.outboxes)) c.origins.ensures.value)

pub returns-clause-found : goal.returns-clause-found
returns-clause-found c = subst (λ (agents : AgentsView). AreFound agents.outboxes) c.self.view_is (found_seen c.self.inside.outboxes c.origins.ensures.found)
