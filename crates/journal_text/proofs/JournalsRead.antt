-- The text of a journal is read as that journal.
use Rattle.std.proofs.Common.{◌≡◌, ℕ, suc, ◌+◌, ◌*◌, ◌≤◌, ◌^◌, false, cond, refl, ap, sym, ◌∙◌, subst, List, [], ◌∷◌, ◌++◌, length, Option, Some, None, Ok, arith, append_assoc}
use Rattle.std.specs.Prelude.{codes, map, nat_lt, option_map}
use Rattle.std.specs.List.{All}
use Rattle.std.specs.Option.{option_map_or}
use Rattle.std.proofs.lemmas.Bool.{cond-false, cond-true, le-ltb}
use Rattle.platform.specs.Share.{Share}
use Rattle.text.specs.Text.{is_comment, is_last, pieces}
use Rattle.text.proofs.LineLemmas.{IsLine, pieces_line}
use Rattle.text.proofs.Pieces.{some-piece}
use Rattle.text.specs.Reading as lines
use Rattle.text.specs.Reading.{adds, and_on, before, read_from}
use Rattle.request_handling.specs.Emissions.{Emission}
use Rattle.domain_state.specs.State.{Alone, Change, start_state}
use Rattle.domain.specs.Machine.{aliens_in, change, replay, replay_from}
use Rattle.domain.specs.declared.entry.Entry.{Entry}
use Rattle.domain.specs.declared.entry.Entry.TheVariants as entry
use Rattle.domain.proofs.Accounting.{Accounted, accounted, goes_on, waiting}
use Rattle.journal_text.specs.Fields.{entry_of}
use Rattle.journal_text.specs.Journals.{IsReadBack, entry_lines, made_text, numbers_in_flight}
use Rattle.journal_text.specs.Legible.{IsDomain, IsLegible}
use Rattle.journal_text.specs.Notes.{in_flight_line, in_flight_text, note_text}
use Rattle.journal_text.specs.Reading.{is_in_flight, reading, said}
use Rattle.journal_text.specs.Words.{entry_text}
use Rattle.journal_text.specs.declared.read.JournalLine.{JournalLine}
use Rattle.journal_text.proofs.EntriesRead.{entry_read}
use Rattle.journal_text.proofs.FlightRead.{AreWide, in_flight_is, wide_from}
use Rattle.journal_text.proofs.Lines.{entry_is_line, in_flight_is_line, note_is_line}

-- what a line adds in the journal of a domain
abbrev added : ℕ → ℕ → List ℕ → Option (List JournalLine)
added domain = adds 16777216 (said domain)

-- ---- what each line adds

within : (domain number : ℕ) (line : List ℕ) → number ≤ 16777216 → added domain number line ≡ cond (is_comment line) (Some []) (said domain number line)
within domain number line below = cond-false (nat_lt 16777216 number) None (cond (is_comment line) (Some []) (said domain number line)) (le-ltb 16777216 number below)

no_comment : (domain : ℕ) (e : Entry) → is_comment (entry_text domain e) ≡ false
no_comment domain (entry.Submit function bytes) = refl
no_comment domain (entry.Tick function) = refl
no_comment domain (entry.Mmio access) = refl
no_comment domain (entry.Refuse number) = refl
no_comment domain (entry.Carry number) = refl
no_comment domain (entry.Deliver number) = refl
no_comment domain (entry.Alien place sender bytes) = refl

not_in_flight : (domain : ℕ) (e : Entry) → is_in_flight (entry_text domain e) ≡ false
not_in_flight domain (entry.Submit function bytes) = refl
not_in_flight domain (entry.Tick function) = refl
not_in_flight domain (entry.Mmio access) = refl
not_in_flight domain (entry.Refuse number) = refl
not_in_flight domain (entry.Carry number) = refl
not_in_flight domain (entry.Deliver number) = refl
not_in_flight domain (entry.Alien place sender bytes) = refl

entry_adds : (domain number : ℕ) (e : Entry) → IsDomain domain → IsLegible e → number ≤ 16777216 → added domain number (entry_text domain e) ≡ Some (record { number = number; entry = e } ∷ [])
entry_adds domain number e own is below =
    let text = entry_text domain e in
    within domain number text below
    ∙ cond-false (is_comment text) (Some []) (said domain number text) (no_comment domain e)
    ∙ cond-false (is_in_flight text) (Some []) (option_map (λ entry. record { number = number; entry = entry } ∷ []) (entry_of domain text)) (not_in_flight domain e)
    ∙ ap (option_map (λ entry. record { number = number; entry = entry } ∷ [])) (entry_read domain e own is)

note_adds : (domain number n : ℕ) (bytes : List ℕ) → number ≤ 16777216 → added domain number (note_text n bytes) ≡ Some []
note_adds domain number n bytes below = within domain number (note_text n bytes) below

in_flight_adds : (domain number n : ℕ) (numbers : List ℕ) → AreWide (n ∷ numbers) → number ≤ 16777216 → added domain number (in_flight_text (n ∷ numbers)) ≡ Some []
in_flight_adds domain number n numbers are below =
    let text = in_flight_text (n ∷ numbers) in
    within domain number text below
    ∙ cond-true (is_in_flight text) (Some []) (option_map (λ entry. record { number = number; entry = entry } ∷ []) (entry_of domain text)) (in_flight_is n numbers are)

-- ---- line by line

-- the text is read from this line on, and its entries are these
record AreRead (domain number : ℕ) (text : List ℕ) (entries : List Entry) : Type 0 where
  lines : List JournalLine
  read : read_from (added domain) number (pieces text) ≡ Ok lines
  are : map (λ line. line.entry) lines ≡ entries

line_read : (domain number : ℕ) (line rest : List ℕ) (items : List JournalLine) → IsLine line → added domain number line ≡ Some items
    → read_from (added domain) number (pieces (line ++ (10 ∷ rest))) ≡ before items (read_from (added domain) (number + 1) (pieces rest))
line_read domain number line rest items whole adds =
    let more = read_from (added domain) (number + 1) (pieces rest) in
    ap (read_from (added domain) number) (pieces_line line rest whole)
    ∙ cond-false (is_last (pieces rest)) _ (and_on number (added domain number line) more) (some-piece rest)
    ∙ ap (λ (o : Option (List JournalLine)). and_on number o more) adds

entry_on : (domain number : ℕ) (e : Entry) (line rest : List ℕ) (entries : List Entry) → IsLine line → added domain number line ≡ Some (record { number = number; entry = e } ∷ [])
    → AreRead domain (number + 1) rest entries → AreRead domain number (line ++ (10 ∷ rest)) (e ∷ entries)
entry_on domain number e line rest entries whole adds r = record {
  lines = record { number = number; entry = e } ∷ r.lines;
  read = line_read domain number line rest (record { number = number; entry = e } ∷ []) whole adds ∙ ap (before (record { number = number; entry = e } ∷ [])) r.read;
  are = ap (λ (es : List Entry). e ∷ es) r.are;
}

nothing_on : (domain number : ℕ) (line rest : List ℕ) (entries : List Entry) → IsLine line → added domain number line ≡ Some []
    → AreRead domain (number + 1) rest entries → AreRead domain number (line ++ (10 ∷ rest)) entries
nothing_on domain number line rest entries whole adds r = record {
  lines = r.lines;
  read = line_read domain number line rest [] whole adds ∙ ap (before []) r.read;
  are = r.are;
}

in_flight_read : (domain number : ℕ) (numbers : List ℕ) → AreWide numbers → number ≤ 16777216 → AreRead domain number (in_flight_line numbers) []
in_flight_read domain number [] are below = record { lines = []; read = refl; are = refl }
in_flight_read domain number (n ∷ numbers) are below =
    nothing_on domain number (in_flight_text (n ∷ numbers)) [] [] (in_flight_is_line (n ∷ numbers)) (in_flight_adds domain number n numbers are below) (record { lines = []; read = refl; are = refl })

-- the comment, if there is one, takes one line
made_on : (domain number n : ℕ) (made : Option Emission) (rest : List ℕ) (entries : List Entry) → number ≤ 16777216
    → ((next : ℕ) → next ≤ number + 1 → AreRead domain next rest entries) → AreRead domain number (made_text n made ++ rest) entries
made_on domain number n None rest entries below behind = behind number (omega arith)
made_on domain number n (Some e) rest entries below behind =
    subst (λ (text : List ℕ). AreRead domain number text entries) (sym (append_assoc (note_text n e.bytes) (codes "\n") rest))
    (nothing_on domain number (note_text n e.bytes) rest entries (note_is_line n e.bytes) (note_adds domain number n e.bytes below) (behind (number + 1) (omega arith)))

-- ---- the whole journal

some_is : (s t : Alone) → Some s ≡ Some t → s ≡ t
some_is s t e = cc

-- the text of an entry and of what follows it
abbrev after_entry : Share → Alone → List Entry → Option Change → List ℕ
after_entry share s entries o = option_map_or (λ c. made_text (length s.flight) c.emission ++ entry_lines share c.state entries) o []

entry_shown : (share : Share) (s : Alone) (e : Entry) (entries : List Entry) (c : Change) → change share s e ≡ Some c
    → entry_lines share s (e ∷ entries) ≡ entry_text share.domain e ++ (10 ∷ (made_text (length s.flight) c.emission ++ entry_lines share c.state entries))
entry_shown share s e entries c is =
    append_assoc (entry_text share.domain e) (codes "\n") (after_entry share s entries (change share s e))
    ∙ ap (λ (o : Option Change). entry_text share.domain e ++ (10 ∷ after_entry share s entries o)) is

entries_read : (share : Share) (t : Alone) (entries : List Entry) (s : Alone) (number : ℕ) → IsDomain share.domain → All IsLegible entries → length t.flight ≤ 2 ^ 64
    → number + 2 * length entries ≤ 16777216 → replay_from share (Some s) entries ≡ Some t → AreRead share.domain number (entry_lines share s entries) entries
entries_read share t [] s number own are small few e =
    let same : length s.flight ≡ length t.flight = ap (λ (u : Alone). length u.flight) (some_is s t e) in
    in_flight_read share.domain number (numbers_in_flight s) (wide_from 0 s.flight (omega (arith, same, small))) (omega (arith, few))
entries_read share t (x ∷ xs) s number own are small few e =
    goes_on share xs (change share s x) t
    (λ c is rest.
    subst (λ (text : List ℕ). AreRead share.domain number text (x ∷ xs)) (sym (entry_shown share s x xs c is))
    (entry_on share.domain number x (entry_text share.domain x) (made_text (length s.flight) c.emission ++ entry_lines share c.state xs) xs
    (entry_is_line share.domain x own (are 0 x (omega arith))) (entry_adds share.domain number x own (are 0 x (omega arith)) (omega (arith, few)))
    (made_on share.domain (number + 1) (length s.flight) c.emission (entry_lines share c.state xs) xs (omega (arith, few))
    (λ next near. entries_read share t xs c.state next own (λ k d below. are (suc k) d (omega (arith, below))) small (omega (arith, few, near)) rest)))) e

waiting_few : (flight : List (Option Emission)) → waiting flight ≤ length flight
waiting_few [] = omega arith
waiting_few (None ∷ flight) = omega (arith, waiting_few flight)
waiting_few (Some e ∷ flight) = omega (arith, waiting_few flight)

-- each begin leads to at most three packets, and each packet of another domain to two
flight_few : (share : Share) (s : Alone) (n m : ℕ) → Accounted share s n m → length s.flight ≤ 3 * n
flight_few share s n m a = omega (arith, a.entries_are, a.packets, waiting_few s.flight)

pub journal_read : (share : Share) (journal : List Entry) (s : Alone) → IsDomain share.domain → All IsLegible journal → 2 * length journal + 1 ≤ 16777216 → replay share journal ≡ Some s → IsReadBack share journal
unfolding reading lines.reading
journal_read share journal s own are few e =
    let held = flight_few share s (length journal) (aliens_in journal) (accounted share journal s e) in
    let r = entries_read share s journal (start_state share) 1 own are (omega (arith, held, few)) (omega (arith, few)) e in
    record { lines = r.lines; read = r.read; entries = r.are }
