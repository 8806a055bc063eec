use Rattle.std.proofs.Common.{rules, ◌≡◌, [], ◌∷◌}
use Rattle.findings_text.specs.Witnesses.{script_text}
use Rattle.inputs.specs.Files.{Adds}
use Rattle.commands.specs.ExplainScripts.{script_name}
use Rattle.commands.proofs.ScriptFiles.{wrote_script}
use Rattle.commands.proofs.explain_scripts.write_one.Goals as goal

pub returns-in-Ok-clause-ok : goal.returns-in-Ok-clause-ok
returns-in-Ok-clause-ok g c =
    let name = c.deref.result.now in
    let bytes = c.deref-2.result.now in
    let old = g.T.FileTaker.written c.args.taker.now in
    let new = g.T.FileTaker.written c.write_file.new.self in
    let named : name ≡ script_name c.args.folder.now c.args.witness.now c.args.number = search rules in
    let script : bytes ≡ script_text c.args.remarks.now c.args.witness.now = search rules in
    let wrote : Adds old new (record { name = name; bytes = bytes } ∷ []) = search rules in
    wrote_script c.args.folder.now c.args.remarks.now c.args.witness.now c.args.number name bytes old new named script wrote
