-- A journal that grows by a legal entry, and what a call that adds one makes of a domain.
use Rattle.std.proofs.Common.{◌≡◌, ℕ, ◌+◌, ◌*◌, ◌<◌, ◌^◌, List, [], ◌∷◌, ◌++◌, length, Option, Some, None, refl, sym, ap, ◌∙◌, subst, arith}
use Rattle.std.specs.Prelude.{option_map}
use Rattle.fab_types.specs.declared.faults.begin.SubmitFault.{SubmitFault}
use Rattle.fab_types.specs.declared.head.Parties.TheVariants.{Upward}
use Rattle.frame_log.specs.Descriptor.{Descriptor}
use Rattle.platform.specs.Share.{Share}
use Rattle.domain.specs.declared.entry.Entry.{Entry}
use Rattle.domain.specs.declared.entry.Entry.TheVariants.{Submit}
use Rattle.domain.specs.Domains.{DomainView, EndsBy, Makes, disposed}
use Rattle.request_handling.specs.declared.disposition.Disposition.{Disposition}
use Rattle.domain_state.specs.Ends.{conclude}
use Rattle.request_handling.specs.Heads.{descriptor_of}
use Rattle.domain.specs.Machine.{aliens_in, change, step_from, replay_from, replay, with_alien}
use Rattle.request_handling.specs.Emissions.{Emission}
use Rattle.domain_state.specs.State.{Alone, Change, item_at, start_state, with_emission}
use Rattle.domain.specs.Submits.{submit_fault, submitted, submit_unless}
use Rattle.domain.proofs.Accounting.{accounted, aliens_more, submit_budget, room_to_begin, room_to_end}

replay-push : (share : Share) (o : Option Alone) (es : List Entry) (e : Entry) → replay_from share o (es ++ e ∷ []) ≡ step_from share (replay_from share o es) e
replay-push share o [] e = refl
replay-push share o (x ∷ xs) e = replay-push share (step_from share o x) xs e

-- the state of a journal with one more entry
pub replays_more : (share : Share) (s t : Alone) (js js' : List Entry) (e : Entry) (o : Option Emission) → replay share js ≡ Some s → js' ≡ js ++ e ∷ []
    → change share s e ≡ Some (record { state = t; emission = o }) → replay share js' ≡ Some t
replays_more share s t js js' e o was grown made =
    ap (replay share) grown ∙ replay-push share (Some (start_state share)) js e ∙ ap (λ (r : Option Alone). step_from share r e) was ∙ ap (option_map (λ (c : Change). c.state)) made

-- a domain seen by its fields
pub makes_seen : (v w new : DomainView) (e : Entry) (sent : Option Descriptor) → v ≡ w → Makes v e new sent → Makes w e new sent
makes_seen v w new e sent same m = subst (λ (u : DomainView). Makes u e new sent) same m

-- ---- a packet that is submitted

abbrev pub upward : ℕ → List ℕ → Emission
upward f b = record { parties = Upward f; bytes = b }

pub submit_legal : (share : Share) (s t : Alone) (f : ℕ) (b : List ℕ) → submit_fault share s f b ≡ None → t ≡ with_emission (submitted s f b) (upward f b)
    → change share s (Submit f b) ≡ Some (record { state = t; emission = Some (upward f b) })
submit_legal share s t f b e is = ap (λ (o : Option SubmitFault). submit_unless o s f b) e ∙ ap (λ (s : Alone). Some (record { state = s; emission = Some (upward f b) })) (sym is)

-- the journal with a copy of the bytes
pub submit_copied : (js js' : List Entry) (f : ℕ) (b copy : List ℕ) → copy ≡ b → js' ≡ js ++ Submit f copy ∷ [] → js' ≡ js ++ Submit f b ∷ []
submit_copied js js' f b copy same grown = grown ∙ ap (λ (x : List ℕ). js ++ Submit f x ∷ []) same

-- the refusal of a domain, which it doesn't make
pub not_refused : (v w : DomainView) (f : ℕ) (b : List ℕ) (r : Option SubmitFault) → v ≡ w → r ≡ None → r ≡ submit_fault w.share w.state f b → submit_fault v.share v.state f b ≡ None
not_refused v w f b r same none is = subst (λ (u : DomainView). submit_fault u.share u.state f b ≡ None) (sym same) (sym is ∙ none)

pub journal_room : (share : Share) (s : Alone) (js : List Entry) (f : ℕ) (b : List ℕ) → replay share js ≡ Some s → submit_fault share s f b ≡ None → length js < 4 * share.budget + 3 * aliens_in js
journal_room share s js f b was none = room_to_begin share s (length js) (aliens_in js) (accounted share js s was) (submit_budget share s f b none)

pub makes_submit : (v : DomainView) (new : DomainView) (f : ℕ) (b : List ℕ) (frame : Descriptor) → submit_fault v.share v.state f b ≡ None → new.share ≡ v.share
    → new.state ≡ with_emission (submitted v.state f b) (upward f b) → new.journal ≡ v.journal ++ Submit f b ∷ []
    → frame ≡ descriptor_of v.share.domain (length v.state.flight) (upward f b) → Makes v (Submit f b) new (Some frame)
makes_submit v new f b frame none share state journal is = record {
  share = share;
  journal = journal;
  emission = Some (upward f b);
  step = submit_legal v.share v.state new.state f b none state;
  frame = ap (λ (d : Descriptor). Some d) is;
}

-- ---- a packet that ends

-- there is room for its entry
pub end_room : (share : Share) (s : Alone) (js : List Entry) (n : ℕ) (e : Emission) → replay share js ≡ Some s → item_at s.flight n ≡ Some e → length js < 4 * share.budget + 3 * aliens_in js
end_room share s js n e was is = room_to_end share s (length js) (aliens_in js) n e (accounted share js s was) is

-- no count passes its range
pub blocks_fit : (share : Share) (s : Alone) (js : List Entry) → replay share js ≡ Some s → length js < 2 ^ 63 → s.counts.blocked + 1 < 2 ^ 64
blocks_fit share s js was lt = let a = accounted share js s was in omega (arith, a.blocks, lt)

pub strays_fit : (share : Share) (s : Alone) (js : List Entry) → replay share js ≡ Some s → length js < 2 ^ 63 → s.counts.unexpected + 1 < 2 ^ 64
strays_fit share s js was lt = let a = accounted share js s was in omega (arith, a.strays, lt)

-- an entry of the domain's own packets needs no more room
pub room_stays : (entries budget : ℕ) (js js' : List Entry) (x : Entry) → js' ≡ js ++ x ∷ [] → with_alien x (aliens_in js) ≡ aliens_in js → entries ≡ 4 * budget + 3 * aliens_in js
    → entries ≡ 4 * budget + 3 * aliens_in js'
room_stays entries budget js js' x grown own is = is ∙ ap (λ (k : ℕ). 4 * budget + 3 * k) (sym (aliens_more js js' x grown ∙ own))

-- a domain seen by its fields
pub ends_seen : (v w : DomainView) (e : Entry) (n : ℕ) (d : Disposition) → v ≡ w → EndsBy w e n d → EndsBy v e n d
ends_seen v w e n d same h = subst (λ (u : DomainView). EndsBy u e n d) (sym same) h

-- the change that an end makes, by the state that it leaves
pub ended_so : (v : DomainView) (e : Entry) (n : ℕ) (d : Disposition) (t : Alone) (h : EndsBy v e n d) → ((x : Emission) → item_at v.state.flight n ≡ Some x → t ≡ (conclude v.state n x.bytes (disposed v.share v.state x d)).state)
    → change v.share v.state e ≡ Some (record { state = t; emission = (disposed v.share v.state h.emission d).reply })
ended_so v e n d t h is = h.step ∙ ap (λ (u : Alone). Some (record { state = u; emission = (disposed v.share v.state h.emission d).reply })) (sym (is h.emission h.waits))

pub makes_end : (v new : DomainView) (e : Entry) (o : Option Emission) (sent : Option Descriptor) → new.share ≡ v.share → new.journal ≡ v.journal ++ e ∷ []
    → change v.share v.state e ≡ Some (record { state = new.state; emission = o }) → sent ≡ option_map (descriptor_of v.share.domain (length v.state.flight)) o → Makes v e new sent
makes_end v new e o sent share journal step is = record { share = share; journal = journal; emission = o; step = step; frame = is }
