use Rattle.std.proofs.Common.{rules, ◌-◌}
use Rattle.threads_command.specs.Begins.{begun_by}
use Rattle.threads_command.proofs.Finding.{found_new, none_of}
use Rattle.threads_command.proofs.begins.find.Goals as goal

pub returns-in_ok-push-in-Some-injector-clause-found : goal.returns-in_ok-push-in-Some-injector-clause-found
returns-in_ok-push-in-Some-injector-clause-found c =
    let given = c.in-Some-injector.ensures.given in
    let none = none_of c.place_in.result c.in_default.not-Some in
    found_new (begun_by c.args.running.now.origins c.args.begun.now) (begun_by c.injector.new.self.origins (record { injectors = c.push.new.self; refusals = c.args.begun.now.refusals }))
    c.args.origin.now given.0 c.in-Some-injector.injector (c.len.result - 1) (search rules) given.1 given.2 (search rules) (search rules)
