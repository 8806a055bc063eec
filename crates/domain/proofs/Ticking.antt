-- A tick of a function is what the machine says of its entry.
use Rattle.std.proofs.Common.{◌≡◌, ℕ, ◌+◌, ◌*◌, ◌<◌, Bool, true, false, List, ◌∷◌, [], ◌++◌, length, Option, Some, None, refl, sym, ap, ◌∙◌, subst}
use Rattle.std.specs.Prelude.{IsSome, not, option_map}
use Rattle.fab_types.specs.declared.faults.begin.TickFault.{TickFault}
use Rattle.fab_types.specs.declared.faults.begin.TickFault.TheVariants.{NoFunction}
use Rattle.frame_log.specs.Descriptor.{Descriptor}
use Rattle.function.specs.declared.plan.Plan.{Plan}
use Rattle.function.specs.Plans.{plan_of}
use Rattle.host_memory.specs.Pages.{page_of}
use Rattle.platform.specs.Owners.{is_own_function}
use Rattle.platform.specs.Share.{Share}
use Rattle.domain.specs.declared.entry.Entry.{Entry}
use Rattle.domain.specs.declared.entry.Entry.TheVariants.{Tick}
use Rattle.domain.specs.Domains.{DomainView, Emits, Makes}
use Rattle.request_handling.specs.Heads.{descriptor_of}
use Rattle.domain.specs.Machine.{aliens_in, change, replay}
use Rattle.domain_state.specs.State.{Alone}
use Rattle.domain.specs.Ticks.{sent_by, tick_fault, tick_unless, ticks, ticks_by}
use Rattle.domain.proofs.Accounting.{accounted, passed, room_to_begin, tick_budget}
use Rattle.domain.proofs.Keeping.{makes_end, makes_seen}
use Rattle.domain.proofs.PageIds.{own_page_none}

-- the refusal of a domain, which it doesn't make
pub no_tick_fault : (v w : DomainView) (f : ℕ) (r : Option TickFault) → v ≡ w → r ≡ None → r ≡ tick_fault w.share w.state f → tick_fault v.share v.state f ≡ None
no_tick_fault v w f r same none is = subst (λ (u : DomainView). tick_fault u.share u.state f ≡ None) (sym same) (sym is ∙ none)

not_false : (b : Bool) → not b ≡ false → b ≡ true
not_false true e = refl
not_false false e = absurd cc

ticks_own : (share : Share) (s : Alone) (f : ℕ) → tick_fault share s f ≡ None → is_own_function share f ≡ true
ticks_own share s f e = not_false (is_own_function share f) (passed (not (is_own_function share f)) NoFunction _ e).0

-- a function that ticks has a page
pub has_plan : (share : Share) (journal : List Entry) (s : Alone) (f : ℕ) (r : Option Plan) → replay share journal ≡ Some s → tick_fault share s f ≡ None
    → r ≡ option_map (λ page. plan_of f page s.open_tags) (page_of s.registers f) → r ≡ None → ⊥
has_plan share journal s f r was none is nothing = own_page_none share journal s f s.open_tags r was (ticks_own share s f none) is nothing

pub tick_room : (share : Share) (s : Alone) (js : List Entry) (f : ℕ) → replay share js ≡ Some s → tick_fault share s f ≡ None → length js < 4 * share.budget + 3 * aliens_in js
tick_room share s js f was none = room_to_begin share s (length js) (aliens_in js) (accounted share js s was) (tick_budget share s f none)

abbrev some : {A : Type 0} → A → Option A
some x = Some x

some_is : {A : Type 0} (x y : A) → some x ≡ some y → x ≡ y
some_is x y e = cc

by_page : (s : Alone) (f : ℕ) (page : Option (List ℕ)) (plan : Plan) → option_map (λ bytes. plan_of f bytes s.open_tags) page ≡ Some plan → ticks s f page ≡ Some (ticks_by s f plan)
by_page s f None plan e = absurd cc
by_page s f (Some bytes) plan e = ap (λ (p : Plan). some (ticks_by s f p)) (some_is _ plan e)

pub tick_legal : (share : Share) (s t : Alone) (f : ℕ) (r : Option Plan) (plan : Plan) → tick_fault share s f ≡ None → r ≡ option_map (λ page. plan_of f page s.open_tags) (page_of s.registers f) → r ≡ Some plan
    → t ≡ (ticks_by s f plan).state → change share s (Tick f) ≡ Some (record { state = t; emission = sent_by f plan })
tick_legal share s t f r plan none is planned state =
    ap (λ (o : Option TickFault). tick_unless o s f) none ∙ by_page s f (page_of s.registers f) plan (sym is ∙ planned)
    ∙ ap (λ (u : Alone). some (record { state = u; emission = sent_by f plan })) (sym state)

pub makes_tick : (v w new : DomainView) (f : ℕ) (r : Option Plan) (plan : Plan) (domain : ℕ) (sent : Option Descriptor) → v ≡ w → tick_fault v.share v.state f ≡ None
    → r ≡ option_map (λ page. plan_of f page v.state.open_tags) (page_of v.state.registers f) → r ≡ Some plan → new.share ≡ v.share → new.journal ≡ v.journal ++ Tick f ∷ []
    → new.state ≡ (ticks_by v.state f plan).state → domain ≡ v.share.domain → sent ≡ option_map (descriptor_of domain (length v.state.flight)) (sent_by f plan) → Makes w (Tick f) new sent
makes_tick v w new f r plan domain sent same none is planned share journal state of is_sent =
    makes_seen v w new (Tick f) sent same
    (makes_end v new (Tick f) (sent_by f plan) sent share journal (tick_legal v.share v.state new.state f r plan none is planned state)
    (is_sent ∙ ap (λ (d : ℕ). option_map (descriptor_of d (length v.state.flight)) (sent_by f plan)) of))

-- a line that sends is one that emits
pub tick_emits : (v w : DomainView) (f : ℕ) (r : Option Plan) (plan : Plan) → v ≡ w → tick_fault v.share v.state f ≡ None
    → r ≡ option_map (λ page. plan_of f page v.state.open_tags) (page_of v.state.registers f) → r ≡ Some plan → IsSome (sent_by f plan) → Emits w (Tick f)
tick_emits v w f r plan same none is planned sends = subst (λ (u : DomainView). Emits u (Tick f)) same (record {
  made = ticks_by v.state f plan;
  legal = tick_legal v.share v.state (ticks_by v.state f plan).state f r plan none is planned refl;
  emits = sends;
})
