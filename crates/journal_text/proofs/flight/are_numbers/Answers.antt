use Rattle.std.proofs.Common.{rules}
use borrow.Author.Tests.{tests}
use Rattle.std.proofs.lemmas.Iterator.Splits.{YieldsList-from_slice_split}
use Rattle.std.proofs.lemmas.Iterator.Search.{all_from_yields_List}
use Rattle.text.specs.Text.{is_byte}
use Rattle.journal_text.specs.Reading.{is_number}
use Rattle.journal_text.proofs.flight.are_numbers.Goals as goal

pub returns : goal.returns
returns c =
    all_from_yields_List is_number _ _ _ c.all.ensures.ran
    (YieldsList-from_slice_split _ (is_byte 32) c.args.text.now c.split.ensures.rest c.split.ensures.done c.split.ensures.closure (λ x b q k. search (rules, tests)))
    (λ x b q k. search (rules, tests))
