use Rattle.std.proofs.Common.{◌≡◌, Some, ap}
use Rattle.std.specs.Prelude.{is_some}
use Rattle.platform.proofs.OwnerLemmas.{owner_found}
use Rattle.layout.proofs.additions.owner_of_number.Goals as goal

pub unwrap-requires : goal.unwrap-requires
unwrap-requires c = ap is_some (owner_found c.args.ports.now c.args.domain c.find_owner.result c.find_owner.ensures c.requires)

pub returns : goal.returns
returns c = let e : c.find_owner.result ≡ Some c.args.domain = owner_found c.args.ports.now c.args.domain c.find_owner.result c.find_owner.ensures c.requires in cc
