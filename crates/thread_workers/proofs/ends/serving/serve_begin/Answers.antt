use Rattle.std.proofs.Common.{rules}
use Rattle.thread_workers.proofs.Begins.{served_before}
use Rattle.thread_workers.proofs.ends.serving.serve_begin.Goals as goal

pub returns-clause-served : goal.returns-clause-served
returns-clause-served g c =
    served_before c.args.locks.now c.args.number c.serve_there.result c.args.outbox.now c.make_room.new.outbox c.serve_there.new.outbox c.args.begins.now c.serve_there.new.begins
    c.make_room.ensures.kept (search rules) (c.serve_there.ensures.served c.args.locks.now)
