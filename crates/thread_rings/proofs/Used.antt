-- An end that is used stays what it is, and what goes through it is added to its list.
use Rattle.std.proofs.Common.{◌≡◌, ℕ, ◌<◌, List, [], ◌∷◌, ◌++◌, map, length, set, get_or, sym, ap, ◌∙◌}
use Rattle.std.proofs.Math.Seq.{map-set_same}
use Rattle.std.proofs.lemmas.List.{map-set, get_or-map}
use Rattle.rtrb.specs.Ring.{sent, received, known_free, known_items}
use Rattle.thread_rings.specs.Wired.{out_tag, in_tag, tags_of}
use Rattle.thread_rings.specs.declared.ends.Ends.{Ends}
use Rattle.thread_rings.specs.declared.out_end.OutEnd.{OutEnd}
use Rattle.thread_rings.specs.declared.in_end.InEnd.{InEnd}

pub same_outs : {T : Type 0} (outs : List (OutEnd T)) (i : ℕ) (is d : OutEnd T) → out_tag is ≡ out_tag (get_or outs i d) → map out_tag (set outs i is) ≡ map out_tag outs
same_outs outs i is d e = map-set_same out_tag outs i is d e

pub same_ins : {T : Type 0} (ins : List (InEnd T)) (i : ℕ) (is d : InEnd T) → in_tag is ≡ in_tag (get_or ins i d) → map in_tag (set ins i is) ≡ map in_tag ins
same_ins ins i is d e = map-set_same in_tag ins i is d e

-- one more in a list of lists, at the place of the end that was used
more_at : {E T : Type 0} (f : E → List T) (ends : List E) (i : ℕ) (is was : E) (item : T) → i < length ends → f is ≡ f (get_or ends i was) ++ item ∷ []
    → map f (set ends i is) ≡ set (map f ends) i (get_or (map f ends) i [] ++ item ∷ [])
more_at {T = T} f ends i is was item lt e = map-set f ends i is ∙ ap (λ (l : List T). set (map f ends) i l) (e ∙ ap (λ (l : List T). l ++ item ∷ []) (sym (get_or-map f ends i was [] lt)))

pub put_at : {T : Type 0} (outs : List (OutEnd T)) (i : ℕ) (is was : OutEnd T) (item : T) → i < length outs → sent is.producer ≡ sent (get_or outs i was).producer ++ item ∷ []
    → map (λ e. sent e.producer) (set outs i is) ≡ set (map (λ e. sent e.producer) outs) i (get_or (map (λ e. sent e.producer) outs) i [] ++ item ∷ [])
put_at {T = T} outs i is was item lt e = more_at (λ (o : OutEnd T). sent o.producer) outs i is was item lt e

pub pulled_at : {T : Type 0} (ins : List (InEnd T)) (i : ℕ) (is was : InEnd T) (item : T) → i < length ins → received is.consumer ≡ received (get_or ins i was).consumer ++ item ∷ []
    → map (λ e. received e.consumer) (set ins i is) ≡ set (map (λ e. received e.consumer) ins) i (get_or (map (λ e. received e.consumer) ins) i [] ++ item ∷ [])
pulled_at {T = T} ins i is was item lt e = more_at (λ (o : InEnd T). received o.consumer) ins i is was item lt e

pub same_sent : {T : Type 0} (outs : List (OutEnd T)) (i : ℕ) (is d : OutEnd T) → sent is.producer ≡ sent (get_or outs i d).producer → map (λ e. sent e.producer) (set outs i is) ≡ map (λ e. sent e.producer) outs
same_sent {T = T} outs i is d e = map-set_same (λ (o : OutEnd T). sent o.producer) outs i is d e

pub same_received : {T : Type 0} (ins : List (InEnd T)) (i : ℕ) (is d : InEnd T) → received is.consumer ≡ received (get_or ins i d).consumer → map (λ e. received e.consumer) (set ins i is) ≡ map (λ e. received e.consumer) ins
same_received {T = T} ins i is d e = map-set_same (λ (o : InEnd T). received o.consumer) ins i is d e

-- how many places the end knows to be free
pub has_places : {T : Type 0} (outs : List (OutEnd T)) (i : ℕ) (d : OutEnd T) → i < length outs → get_or (map (λ e. known_free e.producer) outs) i 0 ≡ known_free (get_or outs i d).producer
has_places {T = T} outs i d lt = get_or-map (λ (o : OutEnd T). known_free o.producer) outs i d 0 lt

-- how many items the end knows to wait
pub has_items : {T : Type 0} (ins : List (InEnd T)) (i : ℕ) (d : InEnd T) → i < length ins → get_or (map (λ e. length (known_items e.consumer)) ins) i 0 ≡ length (known_items (get_or ins i d).consumer)
has_items {T = T} ins i d lt = get_or-map (λ (o : InEnd T). length (known_items o.consumer)) ins i d 0 lt

-- for callers: a worker that keeps its ends in their places leaves those of all workers as they were
pub same_tags : {T : Type 0} (workers : List (Ends T)) (i : ℕ) (is d : Ends T) → tags_of is ≡ tags_of (get_or workers i d) → map tags_of (set workers i is) ≡ map tags_of workers
same_tags workers i is d e = map-set_same tags_of workers i is d e
