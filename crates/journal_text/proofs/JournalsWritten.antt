-- A journal's text, of which the first entries are written.
use Rattle.std.proofs.Common.{◌≡◌, ℕ, arith, zero, suc, ◌+◌, ◌*◌, ◌<◌, ◌≤◌, add-one, drop, List, [], ◌∷◌, ◌++◌, length, Option, Some, None, refl, rules, sym, ap, ◌∙◌, subst, append_assoc}
use Rattle.std.proofs.Math.Seq.{drop-cons}
use Rattle.std.specs.Prelude.{IsSome, slice_index_or, OnOk, Result, Ok, Err, option_map}
use Rattle.std.specs.List.{All}
use Rattle.std.proofs.lemmas.List.Elements.{All-append}
use Rattle.std.specs.Option.{option_map_or}
use Rattle.std.specs.Io.KnownBytes.{Appends}
use Rattle.platform.specs.Share.{Share}
use Rattle.domain.specs.declared.entry.Entry.{Entry}
use Rattle.domain.specs.Domains.{DomainView}
use Rattle.domain.specs.Machine.{change, replay, replay_from}
use Rattle.domain.specs.Replays.{Follows}
use Rattle.domain.proofs.Accounting.{none_stays}
use Rattle.domain_state.specs.State.{Alone, Change, item_at, start_state}
use Rattle.request_handling.specs.Emissions.{Emission}
use Rattle.journal_text.specs.Journals.{IsReadBack, entry_lines, journal_text, made_text, numbers_in_flight}
use Rattle.journal_text.specs.Notes.{in_flight_line, note_line}
use Rattle.journal_text.specs.Legible.{EntryFits, IsDomain, IsLegible}
use Rattle.journal_text.specs.Words.{entry_line}
use Rattle.journal_text.proofs.JournalsRead.{journal_read}
use Rattle.journal_text.proofs.LegalEntries.{legal_is_legible}
use Rattle.journal_text.specs.Steps.{IsWritten}
use Rattle.journal_text.proofs.Making.{made_is_next}
use Rattle.reports.proofs.Writing.{joined, nothing}

-- Of the text of a journal this much stands in the writer: entries that are legible, and what is left is the text of
-- these entries from this state on, which are legal
pub record IsSoFar (before after : Option (List ℕ)) (share : Share) (all : List ℕ) (machine : DomainView) (done left : List Entry) : Type 0 where
  pub same : machine.share ≡ share
  pub end : Alone
  pub legal : replay_from share (Some machine.state) left ≡ Some end
  pub text : List ℕ
  pub written : Appends before after text
  pub rest : all ≡ text ++ entry_lines share machine.state left
  pub legible : All IsLegible done

legal_first : (share : Share) (o : Option Change) (left : List Entry) (end : Alone) → replay_from share (option_map (λ c. c.state) o) left ≡ Some end → IsSome o
legal_first share None left end h = absurd (none_stays share left end h)
legal_first share (Some c) left end h = search rules

-- the entry that is written next is legal
pub next_is_legal : (before after : Option (List ℕ)) (share : Share) (all : List ℕ) (machine : DomainView) (done left more : List Entry) (entry : Entry) → IsSoFar before after share all machine done left → left ≡ entry ∷ more
    → IsSome (change machine.share machine.state entry)
next_is_legal before after share all machine done left more entry far is =
    let legal : replay_from share (Some machine.state) (entry ∷ more) ≡ Some far.end = ap (replay_from share (Some machine.state)) (sym is) ∙ far.legal in
    let first : IsSome (change share machine.state entry) = legal_first share (change share machine.state entry) more far.end legal in
    subst (λ (s : Share). IsSome (change s machine.state entry)) (sym far.same) first

one : (entry : Entry) → IsLegible entry → All IsLegible (entry ∷ [])
one entry h zero d lt = h
one entry h (suc k) d lt = absurd (omega arith)

-- one entry more is written
pub one_more : (before mid after : Option (List ℕ)) (share : Share) (all : List ℕ) (machine next : DomainView) (done more_done left more : List Entry) (entry : Entry) → IsSoFar before mid share all machine done left → left ≡ entry ∷ more
    → more_done ≡ done ++ entry ∷ [] → IsWritten mid after machine entry next → IsSoFar before after share all next more_done more
one_more before mid after share all machine next done more_done left more entry far is joins w =
    let line = entry_line machine.share.domain entry ++ made_text (length machine.state.flight) w.made.emission in
    let step : change share machine.state entry ≡ Some w.made = subst (λ (s : Share). change s machine.state entry ≡ Some w.made) far.same w.step in
    let legal : replay_from share (Some machine.state) (entry ∷ more) ≡ Some far.end = ap (replay_from share (Some machine.state)) (sym is) ∙ far.legal in
    let domain : machine.share.domain ≡ share.domain = ap (λ (s : Share). s.domain) far.same in
    let whole : entry_lines share machine.state left ≡ line ++ entry_lines share w.made.state more =
    ap (entry_lines share machine.state) is
    ∙ (ap (λ (o : Option Change). entry_line share.domain entry ++ option_map_or (λ c. made_text (length machine.state.flight) c.emission ++ entry_lines share c.state more) o []) step
    ∙ (sym (append_assoc (entry_line share.domain entry) (made_text (length machine.state.flight) w.made.emission) (entry_lines share w.made.state more))
    ∙ ap (λ (d : ℕ). (entry_line d entry ++ made_text (length machine.state.flight) w.made.emission) ++ entry_lines share w.made.state more) (sym domain))) in
    record {
      same = w.share ∙ far.same;
      end = far.end;
      legal = subst (λ (s : Alone). replay_from share (Some s) more ≡ Some far.end) (sym w.state) (ap (λ (o : Option Change). replay_from share (option_map (λ c. c.state) o) more) (sym step) ∙ legal);
      text = far.text ++ line;
      written = joined before mid after far.text line far.written w.written;
      rest = far.rest ∙ (ap (λ (t : List ℕ). far.text ++ t) whole ∙ (sym (append_assoc far.text line (entry_lines share w.made.state more)) ∙ ap (λ (s : Alone). (far.text ++ line) ++ entry_lines share s more) (sym w.state)));
      legible = subst (All IsLegible) (sym joins) (All-append IsLegible done (entry ∷ []) far.legible (one entry w.legible));
    }

-- before the first one
pub at_first : (before : Option (List ℕ)) (share : Share) (machine : DomainView) (journal : List Entry) (end : Alone) → machine.share ≡ share → machine.state ≡ start_state share → replay share journal ≡ Some end
    → IsSoFar before before share (journal_text share journal) machine [] journal
at_first before share machine journal end same start legal = record {
  same = same;
  end = end;
  legal = ap (λ (s : Alone). replay_from share (Some s) journal) start ∙ legal;
  text = [];
  written = nothing before;
  rest = ap (λ (s : Alone). entry_lines share s journal) (sym start);
  legible = λ k d lt. absurd (omega arith);
}

-- behind the last one
at_last : (before mid after : Option (List ℕ)) (share : Share) (all : List ℕ) (machine : DomainView) (done left : List Entry) (numbers : List ℕ) → IsSoFar before mid share all machine done left → left ≡ []
    → numbers ≡ numbers_in_flight machine.state → Appends mid after (in_flight_line numbers) → Appends before after all
at_last before mid after share all machine done left numbers far is same w =
    let line : entry_lines share machine.state left ≡ in_flight_line numbers = ap (entry_lines share machine.state) is ∙ ap in_flight_line (sym same) in
    subst (λ (t : List ℕ). Appends before after t) (sym (far.rest ∙ ap (λ (t : List ℕ). far.text ++ t) line)) (joined before mid after far.text (in_flight_line numbers) far.written w)

pub ok_last : {E : Type 0} (answer : Result (Unit {0}) E) (before mid after : Option (List ℕ)) (share : Share) (all : List ℕ) (machine : DomainView) (done left : List Entry) (numbers : List ℕ) → IsSoFar before mid share all machine done left → left ≡ []
    → numbers ≡ numbers_in_flight machine.state → OnOk answer (Appends mid after (in_flight_line numbers)) → OnOk answer (Appends before after all)
ok_last (Ok ended) before mid after share all machine done left numbers far is same w = at_last before mid after share all machine done left numbers far is same w
ok_last (Err e) before mid after share all machine done left numbers far is same w = tt

-- what is written is read back
pub is_read_back : {E : Type 0} (answer : Result (Unit {0}) E) (before after : Option (List ℕ)) (share : Share) (all : List ℕ) (machine : DomainView) (done left journal : List Entry) (end : Alone) → IsSoFar before after share all machine done left
    → done ≡ journal → IsDomain share.domain → replay share journal ≡ Some end → OnOk answer (2 * length journal + 1 ≤ 16777216 → IsReadBack share journal)
is_read_back (Ok ended) before after share all machine done left journal end far is domain legal = λ few. journal_read share journal end domain (subst (All IsLegible) is far.legible) few legal
is_read_back (Err e) before after share all machine done left journal end far is domain legal = tt

-- what is left behind a place of a list
pub dropped : (es : List Entry) (i : ℕ) (entry : Entry) → i < length es → entry ≡ slice_index_or es i entry → drop i es ≡ entry ∷ drop (i + 1) es
dropped es i entry lt is = drop-cons es i entry lt ∙ (ap (λ (e : Entry). e ∷ drop (suc i) es) (sym is) ∙ ap (λ (k : ℕ). entry ∷ drop k es) (sym (add-one i)))

-- ---- one entry

some_bytes : (n : ℕ) (b : List ℕ) (o : Option Emission) → Some b ≡ option_map (λ e. e.bytes) o → note_line n b ≡ made_text n o
some_bytes n b None e = absurd cc
some_bytes n b (Some x) e =
    let same : b ≡ x.bytes = cc in
    ap (note_line n) same

no_bytes : (n : ℕ) (o : Option Emission) → None ≡ option_map (λ (e : Emission). e.bytes) o → [] ≡ made_text n o
no_bytes n None e = refl
no_bytes n (Some x) e = absurd cc

-- an entry was done and written, and its packet beside it
pub entry_written : (before mid after : Option (List ℕ)) (old new : DomainView) (entry : Entry) (note : List ℕ) → EntryFits entry → Follows old entry new → Appends before mid (entry_line old.share.domain entry) → Appends mid after note
    → ((o : Option Emission) → item_at new.state.flight (length old.state.flight) ≡ o → note ≡ made_text (length old.state.flight) o) → IsWritten before after old entry new
entry_written before mid after old new entry note fits f line more is =
    let made : Change = record { state = new.state; emission = f.emission } in
    let text = is f.emission (made_is_next old.share old.state entry made f.step) in
    record {
      share = f.share;
      made = made;
      step = f.step;
      state = refl;
      legible = legal_is_legible old.share old.state entry made fits f.step;
      written = joined before mid after (entry_line old.share.domain entry) (made_text (length old.state.flight) f.emission) line (subst (λ (t : List ℕ). Appends mid after t) text more);
    }

pub with_packet : {E : Type 0} (answer : Result (Unit {0}) E) (before mid after : Option (List ℕ)) (old new : DomainView) (entry : Entry) (bytes : List ℕ) → EntryFits entry → Follows old entry new → Appends before mid (entry_line old.share.domain entry)
    → Some bytes ≡ option_map (λ e. e.bytes) (item_at new.state.flight (length old.state.flight)) → OnOk answer (Appends mid after (note_line (length old.state.flight) bytes)) → OnOk answer (IsWritten before after old entry new)
with_packet (Err e) before mid after old new entry bytes fits f line is w = tt
with_packet (Ok ended) before mid after old new entry bytes fits f line is w =
    entry_written before mid after old new entry (note_line (length old.state.flight) bytes) fits f line w
    (λ o at. some_bytes (length old.state.flight) bytes o (is ∙ ap (option_map (λ (e : Emission). e.bytes)) at))

pub without_packet : (before mid : Option (List ℕ)) (old new : DomainView) (entry : Entry) → EntryFits entry → Follows old entry new → Appends before mid (entry_line old.share.domain entry)
    → None ≡ option_map (λ (e : Emission). e.bytes) (item_at new.state.flight (length old.state.flight)) → IsWritten before mid old entry new
without_packet before mid old new entry fits f line is =
    entry_written before mid mid old new entry [] fits f line (nothing mid)
    (λ o at. no_bytes (length old.state.flight) o (is ∙ ap (option_map (λ (e : Emission). e.bytes)) at))
