use Rattle.std.proofs.Common.{◌≡◌, List, ℕ, map, rules, subst}
use Rattle.std.proofs.lemmas.Map.Iter.{iter_end}
use Rattle.std.specs.Io.KnownBytes.{Appends}
use Rattle.std.specs.Map.Iter.{deref_pair}
use Rattle.threads_command.specs.Refusals.{refused_lines}
use Rattle.threads_command.proofs.Lines.{line_more}
use Rattle.threads_command.proofs.refusals.Refusals.write.Goals as goal

pub returns : goal.returns
returns g c =
    let e : map deref_pair c.loop-id.yielded ≡ c.args.self.now = search (rules, iter_end) in
    subst (λ (counts : List (ℕ × ℕ)). Appends (g.W.Write.contents c.args.out.now) (g.W.Write.contents c.loop-id.out) (refused_lines counts)) e c.loop-id.invariant

pub loop-id-preserved : goal.loop-id-preserved
loop-id-preserved g c = line_more deref_pair c.loop-id.yielded (c.in-Some.id, c.in-Some.count) _ _ _ c.loop-id.invariant c.in_ok-write_line.ensures
