-- What went through ends is what their rings tally to, once they are taken back.
use Rattle.std.proofs.Common.{◌≡◌, ℕ, zero, suc, ◌<◌, List, [], ◌∷◌, ◌++◌, map, length, set, get_or, take, drop, sym, refl, ap, ◌∙◌, arith}
use Rattle.std.specs.Prelude.{replicate, reverse}
use Rattle.std.proofs.lemmas.List.{reverse-append}
use Rattle.rtrb.specs.Ring.{sent, received}
use Rattle.thread_rings.specs.Moved.{Flow, flow_of, no_flow, with_put, with_taken, put_back, taken_back}
use Rattle.thread_rings.specs.Names.{RingName}
use Rattle.thread_rings.specs.Returned.{with_tally, all_tallied}
use Rattle.thread_rings.specs.Wired.{Tags, no_tags, dealt, tags_of, out_tag, in_tag}
use Rattle.thread_rings.specs.declared.ends.Ends.{Ends}
use Rattle.thread_rings.specs.declared.ring_tally.RingTally.{RingTally}
use Rattle.thread_rings.specs.declared.wire.Wire.{Wire}

pub moved_out : {T : Type 0} (workers : List (Ends T)) (i : ℕ) (was is : Ends T) (items : List T) → i < length workers → was ≡ get_or workers i was → flow_of was ≡ with_put (flow_of is) items
    → map flow_of workers ≡ put_back (map flow_of (set workers i is)) i items
moved_out [] i was is items lt at took = absurd (omega arith)
moved_out {T = T} (w ∷ ws) zero was is items lt at took = ap (λ (f : Flow T). f ∷ map flow_of ws) (ap flow_of (sym at) ∙ took)
moved_out {T = T} (w ∷ ws) (suc i) was is items lt at took = ap (λ (l : List (Flow T)). flow_of w ∷ l) (moved_out ws i was is items (omega arith) at took)

pub moved_in : {T : Type 0} (workers : List (Ends T)) (i : ℕ) (was is : Ends T) (items : List T) → i < length workers → was ≡ get_or workers i was → flow_of was ≡ with_taken (flow_of is) items
    → map flow_of workers ≡ taken_back (map flow_of (set workers i is)) i items
moved_in [] i was is items lt at took = absurd (omega arith)
moved_in {T = T} (w ∷ ws) zero was is items lt at took = ap (λ (f : Flow T). f ∷ map flow_of ws) (ap flow_of (sym at) ∙ took)
moved_in {T = T} (w ∷ ws) (suc i) was is items lt at took = ap (λ (l : List (Flow T)). flow_of w ∷ l) (moved_in ws i was is items (omega arith) at took)

-- one tally more has what went through its ends
pub flow_more : {T : Type 0} (start old new : List (Flow T)) (was is : List (RingTally T)) (tally : RingTally T) (wire : Wire) (put taken : List T) → start ≡ all_tallied old (reverse was)
    → old ≡ taken_back (put_back new wire.from put) wire.to taken → tally.wire ≡ wire → sent tally.out ≡ put → received tally.taker.value ≡ taken → is ≡ was ++ tally ∷ []
    → start ≡ all_tallied new (reverse is)
flow_more {T = T} start old new was is tally wire put taken so moved w p t more =
    let one : taken_back (put_back new wire.from put) wire.to taken ≡ with_tally new tally = λ i. taken_back (put_back new (sym w i).from (sym p i)) (sym w i).to (sym t i) in
    let turned : reverse is ≡ tally ∷ reverse was = ap reverse more ∙ reverse-append was (tally ∷ []) in
    so ∙ ap (λ (l : List (Flow T)). all_tallied l (reverse was)) (moved ∙ one) ∙ sym (ap (all_tallied new) turned)

empty_map : {A B : Type 0} (f : A → B) (xs : List A) → map f xs ≡ [] → xs ≡ []
empty_map f [] e = refl
empty_map f (x ∷ xs) e = let n = ap length e in absurd (omega arith)

no_end : {T : Type 0} (ends : Ends T) → tags_of ends ≡ no_tags → flow_of ends ≡ no_flow
no_end {T = T} ends e =
    let outs = empty_map out_tag ends.outs.items (ap (λ (t : Tags). t.outs) e) in
    let ins = empty_map in_tag ends.ins.items (ap (λ (t : Tags). t.ins) e) in
    λ i. record { outs = map (λ o. sent o.producer) (outs i); ins = map (λ o. received o.consumer) (ins i) }

-- workers without ends have put and taken nothing
pub no_ends : {T : Type 0} (workers : List (Ends T)) (count : ℕ) → map tags_of workers ≡ replicate count no_tags → map flow_of workers ≡ replicate count no_flow
no_ends [] zero e = refl
no_ends [] (suc count) e = let n = ap length e in absurd (omega arith)
no_ends (w ∷ ws) zero e = let n = ap length e in absurd (omega arith)
no_ends {T = T} (w ∷ ws) (suc count) e =
    let first : tags_of w ≡ no_tags = ap (λ (l : List Tags). get_or l 0 no_tags) e in
    let rest : map tags_of ws ≡ replicate count no_tags = ap (λ (l : List Tags). drop 1 l) e in
    let f = no_end w first in let r = no_ends ws count rest in
    λ i. f i ∷ r i

-- once no ring is left to be taken back, the tallies have all that went through the workers' ends
pub all_back : {T : Type 0} (workers : List (Ends T)) (start : List (Flow T)) (rings : List (RingTally T)) (count : ℕ) (table : List (Wire × RingName)) (k : ℕ) → start ≡ all_tallied (map flow_of workers) (reverse rings)
    → map tags_of workers ≡ dealt count (take k table) → k ≡ 0 → start ≡ all_tallied (replicate count no_flow) (reverse rings)
all_back {T = T} workers start rings count table k so left none =
    so ∙ ap (λ (l : List (Flow T)). all_tallied l (reverse rings)) (no_ends workers count (left ∙ ap (λ (n : ℕ). dealt count (take n table)) none))
