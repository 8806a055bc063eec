-- What a domain says of its entry, said of the list that it stands in.
use Rattle.std.proofs.Common.{◌≡◌, ℕ, List, [], ◌∷◌, ◌++◌, length, Option, Some, None, refl, sym, ap, ◌∙◌, subst, slice_get, slice_set}
use Rattle.std.specs.Prelude.{Result, Ok, Err, IfOk, IfErr, IsSome, is_some, option_map}
use Rattle.frame_log.specs.Descriptor.{Descriptor}
use Rattle.frame_log.specs.declared.fault.FrameFault.{FrameFault}
use Rattle.frame_log.specs.declared.fault.FrameFault.TheVariants as fault
use Rattle.platform.specs.Share.{Share}
use Rattle.domain.specs.declared.entry.Entry.{Entry}
use Rattle.domain.specs.Domains.{DomainView, Emits as Emitting, IsRefused, Makes, is_emitting}
use Rattle.request_handling.specs.Heads.{descriptor_of}
use Rattle.domain.specs.Machine.{change}
use Rattle.request_handling.specs.Emissions.{Emission}
use Rattle.domain_state.specs.State.{Alone, Change}
use Rattle.domains.specs.Aliens.{answers}
use Rattle.domains.specs.Domains.{Emits, IsGivenBack, IsHome, Made, after, made_at, made_by, made_of, sent_by}

abbrev view : Share → Alone → List Entry → DomainView
view share s js = record { share = share; state = s; journal = js }

abbrev pub some : {A : Type 0} → A → Option A
some x = Some x

abbrev all : List DomainView → Option Descriptor → Made
all domains sent = record { domains = domains; sent = sent }

after_is : (old new : DomainView) (e : Entry) (o : Option Emission) → new.share ≡ old.share → new.journal ≡ old.journal ++ e ∷ [] → after old e (record { state = new.state; emission = o }) ≡ new
after_is old new e o share journal =
    sym (ap (λ (s : Share). view s new.state new.journal) share ∙ ap (λ (js : List Entry). view old.share new.state js) journal)

-- what the domain at a place made, all domains made
pub made_is : (ds : List DomainView) (i : ℕ) (d new : DomainView) (e : Entry) (sent : Option Descriptor) → slice_get ds i ≡ Some d → Makes d e new sent
    → made_at ds e (Some i) ≡ Some (all (slice_set ds i new) sent)
made_is ds i d new e sent at m =
    let c : Change = record { state = new.state; emission = m.emission } in
    ap (made_of ds i e) at ∙ ap (option_map (made_by ds i e d)) m.step
    ∙ ap (λ (x : DomainView). some (all (slice_set ds i x) (sent_by d c))) (after_is d new e m.emission m.share m.journal)
    ∙ ap (λ (x : Option Descriptor). some (all (slice_set ds i new) x)) (sym m.frame)

pub frame_made : {E : Type 0} (ds : List DomainView) (i : ℕ) (d new : DomainView) (e : Entry) (r : Result Descriptor E) → slice_get ds i ≡ Some d → IfOk r (λ frame. Makes d e new (Some frame))
    → IfOk r (λ frame. made_at ds e (Some i) ≡ Some (all (slice_set ds i new) (Some frame)))
frame_made ds i d new e (Ok frame) at h = made_is ds i d new e (Some frame) at h
frame_made ds i d new e (Err x) at h = tt

-- ---- the end of a packet

pub end_made : (ds : List DomainView) (i : ℕ) (d new : DomainView) (e : Entry) (frame : Descriptor) (r : Result (Option Descriptor) FrameFault) → slice_get ds i ≡ Some d
    → IfOk r (λ sent. (frame.domain ≡ d.share.domain) × Makes d e new sent) → IfOk r (λ sent. made_at ds e (Some i) ≡ Some (all (slice_set ds i new) sent))
end_made ds i d new e frame (Ok sent) at h = made_is ds i d new e sent at h.1
end_made ds i d new e frame (Err x) at h = tt

none_made : (ds : List DomainView) (i : ℕ) (d : DomainView) (e : Entry) → slice_get ds i ≡ Some d → change d.share d.state e ≡ None → made_at ds e (Some i) ≡ None
none_made ds i d e at illegal = ap (made_of ds i e) at ∙ ap (option_map (made_by ds i e d)) illegal

some_sent : (f : Emission → Descriptor) (o : Option Emission) → IsSome o → IsSome (option_map f o)
some_sent f None h = h
some_sent f (Some x) h = refl

emits_at : (ds : List DomainView) (i : ℕ) (d : DomainView) (e : Entry) → slice_get ds i ≡ Some d → Emitting d e → Emits (made_at ds e (Some i))
emits_at ds i d e at h =
    subst Emits (sym (ap (made_of ds i e) at ∙ ap (option_map (made_by ds i e d)) h.legal))
    (some_sent (descriptor_of d.share.domain (length d.state.flight)) h.made.emission h.emits)

given_by : (ds : List DomainView) (i : ℕ) (d : DomainView) (e : Entry) (frame : Descriptor) (f : FrameFault) → slice_get ds i ≡ Some d → d.share.domain ≡ frame.domain
    → IsRefused d e frame f → IsGivenBack (made_at ds e (Some i)) frame f
given_by ds i d e frame (fault.Stray given) at home h = (h.0, none_made ds i d e at (h.1 (sym home)))
given_by ds i d e frame (fault.NoMemory given) at home h = (h.0, emits_at ds i d e at h.2)

-- what the domain gave back, all gave back
pub given_back : {T : Type 0} (ds : List DomainView) (i : ℕ) (d : DomainView) (e : Entry) (frame : Descriptor) (r : Result T FrameFault) → slice_get ds i ≡ Some d → IsHome ds i frame.domain
    → IfErr r (λ f. IsRefused d e frame f) → IfErr r (λ f. IsGivenBack (made_at ds e (Some i)) frame f)
given_back ds i d e frame (Ok x) at home h = tt
given_back ds i d e frame (Err f) at home h = given_by ds i d e frame f at (home d at) h

-- ---- does an entry emit?

same_some : (f : Emission → Descriptor) (o : Option Emission) → is_some o ≡ is_some (option_map f o)
same_some f None = refl
same_some f (Some e) = refl

emitting_of : (ds : List DomainView) (i : ℕ) (d : DomainView) (e : Entry) (o : Option Change) → is_emitting o ≡ answers (option_map (made_by ds i e d) o)
emitting_of ds i d e None = refl
emitting_of ds i d e (Some c) = same_some (descriptor_of d.share.domain (length d.state.flight)) c.emission

-- the list emits where its domain does
pub emitting_at : (ds : List DomainView) (i : ℕ) (d : DomainView) (e : Entry) → slice_get ds i ≡ Some d → is_emitting (change d.share d.state e) ≡ answers (made_at ds e (Some i))
emitting_at ds i d e at = emitting_of ds i d e (change d.share d.state e) ∙ sym (ap (λ (o : Option DomainView). answers (made_of ds i e o)) at)
