use Rattle.text.specs.Text.{is_byte}
use Rattle.text.proofs.LineFeeds.{first_place, place_within}
use Rattle.text.proofs.lines.line_feed.Goals as goal

pub returns-clause-place : goal.returns-clause-place
returns-clause-place c = first_place (is_byte 10) c.args.text.now c.memchr.result c.memchr.ensures

pub returns-clause-within : goal.returns-clause-within
returns-clause-within c = place_within (is_byte 10) c.args.text.now c.memchr.result c.memchr.ensures
