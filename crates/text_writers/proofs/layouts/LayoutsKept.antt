-- Every platform that is read keeps the rules, and so is read from its own text.
use Rattle.std.proofs.Common.{◌≡◌, ℕ, Bool, true, false, cond, refl, sym, List, [], ◌∷◌, Option, Some, None, Ok, Err, arith}
use Rattle.std.specs.Prelude.{◌&&◌, Result}
use Rattle.std.specs.Str.{bytes_eq}
use Rattle.std.proofs.lemmas.Bool.{and_parts}
use Rattle.fab_types.specs.declared.faults.layout.LayoutCause.{LayoutCause}
use Rattle.fab_types.specs.declared.faults.layout.LayoutCause.TheVariants as cause
use Rattle.text.specs.Text.{is_comment, is_last, pieces}
use Rattle.platform.specs.declared.parts.LayoutVersion.{LayoutVersion}
use Rattle.platform.specs.Platform.{Platform, no_lines}
use Rattle.platform.specs.Tree.{has_root}
use Rattle.layout_line.specs.LayoutLines.{layout_line_of}
use Rattle.layout_line.specs.declared.lines.LayoutLine.{LayoutLine}
use Rattle.layout_line.specs.declared.lines.LayoutLine.TheVariants as line
use Rattle.layout.specs.Additions.{add, function_line, root_line, switch_line}
use Rattle.layout.specs.Laws.{IsPlatform}
use Rattle.layout.specs.Places.{IsWellPlaced}
use Rattle.layout.specs.Reading.{and_on, ended, fault_at, next_number, read_after, read_from, read_pieces, reading, unless_faulty, version_of, with_form, with_layout_line, with_line}
use Rattle.layout.specs.Rules.{fault_of}
use Rattle.layout.proofs.Keeping.{keeps-budget, keeps-credit, keeps-egress, keeps-frames, keeps-function, keeps-map, keeps-port, keeps-root, keeps-switch}
use Rattle.layout.proofs.Places.{places-function, places-root, places-switch}
use Rattle.text_writers.specs.LineRanges.{IsInRange}
use Rattle.text_writers.proofs.lines.LinesInRange.{layout_line_range}
use Rattle.text_writers.specs.HasLines.{HasLines}
use Rattle.text_writers.specs.LayoutTexts.{text_of}
use Rattle.text_writers.proofs.layouts.After.{text-read}
use Rattle.text_writers.proofs.layouts.InRange.{whole-in-range}
use Rattle.text_writers.proofs.layouts.RowsKept.{HasRows, rows-budget, rows-credit, rows-egress, rows-frames, rows-function, rows-map, rows-none, rows-port, rows-switch}
use Rattle.text_writers.proofs.layouts.WholeAdded.{whole-added}

record IsGood (p : Platform) : Type 0 where
  platform : IsPlatform p
  places : IsWellPlaced p
  rows : HasRows p

same-places : (p : Platform) → IsWellPlaced p → (q : Platform) → q.switches ≡ p.switches → q.functions ≡ p.functions → IsWellPlaced q
same-places p h q switches functions = record {
  apart = rw switches h.apart;
  top = rw switches h.top;
  functions = rw functions h.functions;
}

-- ---- one line more

line-keeps : (p : Platform) (l : LayoutLine) → IsInRange l → None ≡ fault_of p l → IsGood p → IsGood (add p l)
line-keeps p (line.Frames count) range none h = record { platform = keeps-frames p count h.platform none; places = same-places p h.places (add p (line.Frames count)) refl refl; rows = rows-frames p count h.rows }
line-keeps p (line.Root id) range none h = record { platform = keeps-root p id h.platform none; places = places-root p id h.places none; rows = rows-switch p (root_line id) h.platform h.rows }
line-keeps p (line.Switch switch) range none h = record { platform = keeps-switch p switch h.platform none; places = places-switch p switch h.platform h.places none; rows = rows-switch p (switch_line switch) h.platform h.rows }
line-keeps p (line.Port port) range none h = record { platform = keeps-port p port h.platform range.limit none; places = same-places p h.places (add p (line.Port port)) refl refl; rows = rows-port p port h.platform range none h.rows }
line-keeps p (line.Function function) range none h = record { platform = keeps-function p (function_line function) h.platform none; places = places-function p (function_line function) h.places none; rows = rows-function p (function_line function) h.rows }
line-keeps p (line.Map mapping) range none h = record { platform = keeps-map p mapping h.platform none; places = same-places p h.places (add p (line.Map mapping)) refl refl; rows = rows-map p mapping range h.rows }
line-keeps p (line.Budget budget) range none h = record { platform = keeps-budget p budget h.platform none; places = same-places p h.places (add p (line.Budget budget)) refl refl; rows = rows-budget p budget none h.rows }
line-keeps p (line.Credit credit) range none h = record { platform = keeps-credit p credit h.platform none; places = same-places p h.places (add p (line.Credit credit)) refl refl; rows = rows-credit p credit none h.rows }
line-keeps p (line.Egress egress) range none h = record { platform = keeps-egress p egress h.platform none; places = same-places p h.places (add p (line.Egress egress)) refl refl; rows = rows-egress p egress h.platform range.1 none h.rows }

good-at : (p q : Platform) → p ≡ q → IsGood p → IsGood q
good-at p q e h = rw e at h

unless-keeps : (p next : Platform) (l : LayoutLine) (o : Option LayoutCause) → fault_of p l ≡ o → IsInRange l → IsGood p → unless_faulty o (add p l) ≡ Ok next → IsGood next
unless-keeps p next l None e range h is = let same : add p l ≡ next = cc is in good-at (add p l) next same (line-keeps p l range (sym e) h)
unless-keeps p next l (Some refusal) e range h is = absurd cc

form-keeps : (p next : Platform) (text : List ℕ) (o : Option LayoutLine) → layout_line_of text ≡ o → IsGood p → with_form p o ≡ Ok next → IsGood next
unfolding with_layout_line
form-keeps p next text None e h is = absurd cc
form-keeps p next text (Some l) e h is = unless-keeps p next l (fault_of p l) refl (layout_line_range text l e) h is

comment-or : (p next : Platform) (text : List ℕ) (b : Bool) → IsGood p → cond b (Ok p) (with_form p (layout_line_of text)) ≡ Ok next → IsGood next
comment-or p next text true h is = let same : p ≡ next = cc is in good-at p next same h
comment-or p next text false h is = form-keeps p next text (layout_line_of text) refl h is

text-keeps : (p next : Platform) (text : List ℕ) → IsGood p → with_line p text ≡ Ok next → IsGood next
unfolding with_line
text-keeps p next text h is = comment-or p next text (is_comment text) h is

-- ---- all lines

record IsRead (q : Platform) : Type 0 where
  good : IsGood q
  root : has_root q.switches ≡ true

ended-keeps : (p q : Platform) (number : ℕ) (b : Bool) → IsGood p → (b ≡ true → has_root p.switches ≡ true) → cond b (Ok p) (Err (fault_at number cause.Line)) ≡ Ok q → IsRead q
ended-keeps p q number true h root is = let same : p ≡ q = cc is in record { good = good-at p q same h; root = rw same at (root refl) }
ended-keeps p q number false h root is = absurd cc

next-keeps : (p q : Platform) (number : ℕ) (text : List ℕ) (rest : List (List ℕ)) (r : Result Platform LayoutCause) → with_line p text ≡ r → IsGood p
    → ((next : Platform) → IsGood next → read_from next (next_number number) rest ≡ Ok q → IsRead q)
    → and_on number (λ next. read_from next (next_number number) rest) r ≡ Ok q → IsRead q
next-keeps p q number text rest (Ok next) e h more is = more next (text-keeps p next text h e) is
next-keeps p q number text rest (Err refusal) e h more is = absurd cc

line-or-end : (p q : Platform) (number : ℕ) (text : List ℕ) (rest : List (List ℕ)) (last : Bool) → IsGood p
    → ((next : Platform) → IsGood next → read_from next (next_number number) rest ≡ Ok q → IsRead q)
    → cond last (ended p number text) (and_on number (λ next. read_from next (next_number number) rest) (with_line p text)) ≡ Ok q → IsRead q
line-or-end p q number text rest true h more is = ended-keeps p q number (bytes_eq text [] && has_root p.switches) h (λ e. (and_parts (bytes_eq text []) (has_root p.switches) e).1) is
line-or-end p q number text rest false h more is = next-keeps p q number text rest (with_line p text) refl h more is

lines-keep : (lines : List (List ℕ)) (p q : Platform) (number : ℕ) → IsGood p → read_from p number lines ≡ Ok q → IsRead q
lines-keep [] p q number h is = absurd cc
lines-keep (text ∷ rest) p q number h is = line-or-end p q number text rest (is_last rest) h (λ next good. lines-keep rest next q (next_number number) good) is

none-good : (version : LayoutVersion) → IsGood (no_lines version)
none-good version = record {
  platform = record {
    limits = record { frames = omega arith; switches = omega arith; ports = λ bus. omega arith; functions = omega arith; maps = λ requester. omega arith; budgets = refl; credits = refl };
    apart = refl;
    nested = refl;
    owners = refl;
    windows = refl;
    hung = refl;
    levels = refl;
    placed = refl;
    alone = omega arith;
    free = refl;
    known = refl;
    home = refl;
    unshared = refl;
    mapped_once = λ i j d before below. absurd (omega arith);
    vectors = refl;
  };
  places = record { apart = refl; top = refl; functions = refl };
  rows = rows-none version;
}

first-or : (q : Platform) (version : LayoutVersion) (rest : List (List ℕ)) (last : Bool) → cond last (Err (fault_at 1 cause.Line)) (read_from (no_lines version) 2 rest) ≡ Ok q → IsRead q
first-or q version rest true is = absurd cc
first-or q version rest false is = lines-keep rest (no_lines version) q 2 (none-good version) is

version-or : (q : Platform) (o : Option LayoutVersion) (rest : List (List ℕ)) → read_after o rest ≡ Ok q → IsRead q
version-or q None rest is = absurd cc
version-or q (Some version) rest is = first-or q version rest (is_last rest) is

pieces-keep : (q : Platform) (lines : List (List ℕ)) → read_pieces lines ≡ Ok q → IsRead q
pieces-keep q [] is = absurd cc
pieces-keep q (first ∷ rest) is = version-or q (version_of first) rest is

reading-keeps : (text : List ℕ) (q : Platform) → reading text ≡ Ok q → IsRead q
unfolding reading
reading-keeps text q is = pieces-keep q (pieces text) is

has-lines : (q : Platform) → IsRead q → HasLines q
has-lines q h = record {
  root = h.root;
  order = h.good.rows.order;
  ports = h.good.rows.ports;
  maps = h.good.rows.maps;
  owners = h.good.rows.owners;
  budgets = h.good.rows.budgets;
  links = h.good.rows.links;
  credits = h.good.rows.credits;
}

-- ---- the laws

pub rules-kept : (text : List ℕ) (q : Platform) → reading text ≡ Ok q → IsPlatform q × IsWellPlaced q × HasLines q
rules-kept text q is = let h = reading-keeps text q is in (h.good.platform, h.good.places, has-lines q h)

pub own-text : (text : List ℕ) (q : Platform) → reading text ≡ Ok q → reading (text_of q) ≡ Ok q
own-text text q is =
    let h = reading-keeps text q is in
    let has = has-lines q h in
    text-read q (whole-in-range q h.good.platform has) (whole-added q h.good.platform h.good.places has) h.root
