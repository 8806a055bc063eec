use Rattle.std.proofs.Common.{◌≡◌, ◌∙◌, refl, rules, sym}
use Rattle.thread_workers.proofs.Begins.{accepted_of, idle_of}
use Rattle.thread_workers.proofs.ends.serving.serve_there.Goals as goal

pub returns-then-ne-clause-served : goal.returns-then-ne-clause-served
returns-then-ne-clause-served c = λ locks. record {
  none = λ _. record {
    before = c.args.domain.now;
    after = c.args.domain.now;
    replays = c.journal.ensures.replays;
    idle = λ home. search rules;
  };
  same = record { held = refl; taken = refl; counts = (refl, refl) };
  places = refl;
}

pub returns-then-accepted-clause-served : goal.returns-then-accepted-clause-served
returns-then-accepted-clause-served c =
    let same : c.serve.new.ring.accepted ≡ c.args.begins.now.accepted = search rules in
    let idle = idle_of c.args.domain.now c.serve.new.domain c.args.begins.now c.serve.new.ring c.in-Ok.sent c.in-Ok.ensures.ok same in
    λ locks. record {
      none = λ _. record { before = c.args.domain.now; after = c.serve.new.domain; replays = c.journal.ensures.replays; idle = λ _. idle };
      same = record { held = idle.held.1 ∙ sym idle.held.0; taken = idle.taken; counts = idle.counts };
      places = refl;
    }

pub returns-else-accepted-clause-served : goal.returns-else-accepted-clause-served
returns-else-accepted-clause-served c = λ locks. record {
  before = c.args.domain.now;
  after = c.serve.new.domain;
  home = search rules;
  replays = c.journal.ensures.replays;
  sent = c.in-Ok.sent;
  accepts = accepted_of c.args.domain.now c.serve.new.domain c.args.begins.now c.serve.new.ring c.in-Ok.sent c.in-Ok.ensures.ok (search rules);
  places = c.args.outbox.now.places;
  put = c.put_answer.ensures.put;
}
