use Rattle.std.proofs.Common.{sym, ap, ◌∙◌, []}
use Rattle.std.specs.Prelude.{option_map, slice_index_or}
use Rattle.request_handling.proofs.Places.{has_id, page_at}
use Rattle.request_handling.proofs.page.place.Goals as goal

pub returns-clause-page : goal.returns-clause-page
returns-clause-page c = page_at c.args.functions.now _ ∙ ap (option_map (λ i. (slice_index_or c.args.functions.now i (0, [])).1)) (sym c.place.ensures)

pub returns-clause-id : goal.returns-clause-id
returns-clause-id c = has_id c.args.functions.now c.args.id c.place.result c.place.ensures
