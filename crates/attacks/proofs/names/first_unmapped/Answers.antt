use Rattle.std.proofs.Common.{◌≡◌, ◌∙◌, not, refl, sym, rules, tests}
use Rattle.std.specs.Prelude.{option_map}
use Rattle.std.proofs.lemmas.Iterator.{YieldsList-from_range}
use Rattle.std.proofs.lemmas.Iterator.Adapters.{option_map_id}
use Rattle.std.proofs.lemmas.Iterator.Search.{find_from_yields_List}
use Rattle.attacks.specs.Tries.{first_unmapped, is_mapped}
use Rattle.attacks.proofs.names.first_unmapped.Goals as goal

pub returns : goal.returns
returns c =
    let found : option_map (λ x. x) c.find.result ≡ first_unmapped c.args.maps.now c.args.requester =
    find_from_yields_List (λ page. not (is_mapped c.args.maps.now c.args.requester page)) _ _ c.find.result c.find.ensures.ran
    (YieldsList-from_range 1048576 1048640 64 refl refl)
    (λ x b q k. search (rules, tests)) in
    sym (option_map_id c.find.result) ∙ found
