use Rattle.std.proofs.Common.{◌∙◌, ap, sym}
use Rattle.std.proofs.lemmas.Bool.{false≢true}
use Rattle.platform.specs.declared.parts.Mapping.{Mapping}
use Rattle.platform.specs.Tables.{allows}
use Rattle.host_table.proofs.Membership.{allowed_target, no_target, key_of_fit, rights_of_fit, same_line}
use Rattle.host_table.proofs.table.HostTable.lookup.Goals as goal
use Rattle.host_table.proofs.table.HostTable.lookup.Goals.{in_default-via-in-Some+else-is_allowed, in_default-via-in_default}

pub returns-in-Some : goal.returns-in-Some
returns-in-Some c =
    let line = c.in-Some.line.now in
    let known = (c.groups.ensures.groups.exact line).0 c.in-Some.ensures.0 in
    c.answer.ensures ∙ sym (allowed_target c.args.self.now c.args.requester c.args.page c.args.access line c.groups.ensures.once known.0 known.1 c.in-Some.ensures.1 (sym c.if-is_allowed.ensures))

pub returns-in_default : goal.returns-in_default
returns-in_default c = sym (no_target c.args.self.now c.args.requester c.args.page c.args.access (λ other there fit.
    let key = key_of_fit c.args.requester c.args.page c.args.access other fit in
    elim c.in_default.branch [
      | in_default-via-in-Some+else-is_allowed w ↦
          let line = w.in-Some.line.now in
          let known = (c.groups.ensures.groups.exact line).0 w.in-Some.ensures.0 in
          let same = same_line c.args.self.now other line c.groups.ensures.once there known.0 (key.0 ∙ sym known.1) (key.1 ∙ sym w.in-Some.ensures.1) in
          let allowed = rights_of_fit c.args.requester c.args.page c.args.access other fit in
          false≢true (sym w.if-is_allowed.false ∙ w.is_allowed.ensures ∙ ap (λ (l : Mapping). allows l.rights c.args.access) (sym same) ∙ allowed)
      | in_default-via-in_default w ↦ w.in_default.ensures other ((c.groups.ensures.groups.exact other).1 (there, key.0)) key.1
    ]))
