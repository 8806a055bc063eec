use Rattle.std.proofs.Common.{◌≡◌, List, ℕ, ap, rules, subst, sym, true}
use Rattle.attacks.specs.Controls.{is_clear}
use Rattle.attacks.specs.declared.findings.Witness.{Witness}
use Rattle.audit.specs.Landing.{Lands}
use Rattle.audit.specs.Telling.{witness_by}
use Rattle.audit.proofs.Trials.{landed}
use Rattle.audit.proofs.landing.witness_of.Goals as goal

pub returns : goal.returns
returns c =
    let with_bytes : List ℕ → Witness = λ (bytes : List ℕ). record {
      attacker = c.args.attacker;
      victim = c.args.victim;
      harm = c.args.attack.now.harm;
      function = c.args.attack.now.function;
      port = c.args.attack.now.port;
      control = c.args.attack.now.control;
      bytes = bytes;
    } in
    let same : with_bytes c.in_ok-bytes.bytes ≡ witness_by c.args.attacker c.args.victim c.args.attack.now = ap with_bytes c.in_ok-bytes.ensures in
    let clear : is_clear c.args.setting.now.layout.now.ports c.args.attack.now.port c.args.attack.now.control ≡ true = search rules in
    let found : c.in_ok-lands.field-0 ≡ true = search rules in
    (same, subst (Lands c.args.setting.now.layout.now) (sym same) (landed _ (witness_by c.args.attacker c.args.victim c.args.attack.now) c.in_ok-lands.field-0 c.requires.other clear found c.in_ok-lands.ensures))
