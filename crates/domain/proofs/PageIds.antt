-- A domain keeps a register page for each of its functions, and no other.
use Rattle.std.proofs.Common.{◌≡◌, ℕ, zero, suc, Bool, true, false, cond, ◌||◌, ◌&&◌, ◌==◌, List, [], ◌∷◌, Option, Some, None, refl, sym, ap, ◌∙◌, subst, slice_set, map}
use Rattle.std.specs.Prelude.{filter, option_map, slice_index_or}
use Rattle.std.specs.List.{find, list_any, position}
use Rattle.std.specs.Option.{IsSome, is_some}
use Rattle.std.proofs.lemmas.Bool.{eqb-true}
use Rattle.fab_types.specs.declared.faults.begin.MmioFault.{MmioFault}
use Rattle.fab_types.specs.declared.faults.begin.SubmitFault.{SubmitFault}
use Rattle.fab_types.specs.declared.faults.begin.TickFault.{TickFault}
use Rattle.fab_types.specs.declared.origin.Origin.{Origin}
use Rattle.fab_types.specs.declared.origin.Origin.TheVariants.{Function, Host}
use Rattle.fab_types.specs.declared.status.Status.{Status}
use Rattle.function.specs.declared.plan.Plan.{Plan}
use Rattle.function.specs.declared.tags.OpenTag.{OpenTag}
use Rattle.function.specs.declared.tags.TagUse.{TagUse}
use Rattle.function.specs.Accesses.{accessed}
use Rattle.function.specs.Closings.{closed_by}
use Rattle.function.specs.Plans.{page_after, plan_of}
use Rattle.function.specs.Registers.{first_page}
use Rattle.host_memory.specs.Pages.{page_of}
use Rattle.platform.specs.declared.parts.EndpointFunction.{EndpointFunction}
use Rattle.platform.specs.Owners.{bar_of, is_function, is_own_function}
use Rattle.platform.specs.Share.{Share}
use Rattle.tlp_view.specs.Bytes.{packet_of}
use Rattle.fab_types.specs.declared.host_access.HostAccess.{HostAccess}
use Rattle.request_handling.specs.declared.handling.Effect.{Effect}
use Rattle.request_handling.specs.declared.handling.Effect.TheVariants.{Leave, Block, Store, Add, Access}
use Rattle.request_handling.specs.declared.handling.Handling.{Handling}
use Rattle.domain.specs.declared.entry.Entry.{Entry}
use Rattle.domain.specs.declared.entry.Entry.TheVariants.{Submit, Tick, Mmio, Refuse, Carry, Deliver, Alien}
use Rattle.domain.specs.declared.receive.Reception.{Reception}
use Rattle.domain.specs.declared.receive.Reception.TheVariants.{Ends, Arrives}
use Rattle.domain.specs.Aliens.{received_if, reception_of}
use Rattle.request_handling.specs.Carries.{carriage_end, refusal_end}
use Rattle.domain.specs.Deliveries.{Arrival, arrival, arrival_by, arrived, recorded, unexpected}
use Rattle.domain_state.specs.Closings.{completed}
use Rattle.domain_state.specs.Ends.{done, replied}
use Rattle.domain_state.specs.HostAccesses.{mmio_fault, mmio_unless, mmio_with, tag_for}
use Rattle.domain.specs.Machine.{change, ended, replay, replay_from}
use Rattle.domain_state.specs.RegisterPages.{changed, changed_at}
use Rattle.request_handling.specs.Emissions.{Emission}
use Rattle.domain_state.specs.State.{Alone, Change, Delivery, emits_nothing, first_registers, item_at, start_state, without}
use Rattle.domain.specs.Submits.{submit_fault, submit_unless}
use Rattle.domain.specs.Ticks.{sent_by, tick_fault, tick_unless, ticked, ticks}
use Rattle.domain.proofs.Accounting.{goes_on}

abbrev some : {A : Type 0} → A → Option A
some x = Some x

some_is : {A : Type 0} (x y : A) → some x ≡ some y → x ≡ y
some_is x y e = cc

abbrev pub ids : List (ℕ × List ℕ) → List ℕ
ids pages = map (λ page. page.0) pages

-- ---- no entry changes whose pages there are

ids-set : (pages : List (ℕ × List ℕ)) (i : ℕ) (b : List ℕ) → ids (slice_set pages i ((slice_index_or pages i (0, [])).0, b)) ≡ ids pages
ids-set [] i b = refl
ids-set (page ∷ pages) zero b = refl
ids-set (page ∷ pages) (suc i) b = ap (λ (xs : List ℕ). page.0 ∷ xs) (ids-set pages i b)

ids-changed_at : (pages : List (ℕ × List ℕ)) (f : List ℕ → List ℕ) (o : Option ℕ) → ids (changed_at pages f o) ≡ ids pages
ids-changed_at pages f None = refl
ids-changed_at pages f (Some i) = ids-set pages i (f (slice_index_or pages i (0, [])).1)

ids-changed : (pages : List (ℕ × List ℕ)) (g : ℕ) (f : List ℕ → List ℕ) → ids (changed pages g f) ≡ ids pages
ids-changed pages g f = ids-changed_at pages f (position (λ page. page.0 == g) pages)

-- a change leaves the same pages
abbrev Same : Alone → Change → Type 0
Same s c = ids c.state.registers ≡ ids s.registers

replied_same : (s : Alone) (o : Option Emission) → (replied s o).registers ≡ s.registers
replied_same s None = refl
replied_same s (Some e) = refl

submit_same : (s : Alone) (f : ℕ) (b : List ℕ) (o : Option SubmitFault) (c : Change) → submit_unless o s f b ≡ Some c → Same s c
submit_same s f b None c h = subst (Same s) (some_is _ c h) refl
submit_same s f b (Some fault) c h = absurd cc

ticks_same : (s : Alone) (f : ℕ) (page : Option (List ℕ)) (c : Change) → ticks s f page ≡ Some c → Same s c
ticks_same s f None c h = absurd cc
ticks_same s f (Some page) c h =
    let plan = plan_of f page s.open_tags in
    subst (Same s) (some_is _ c h) (ap ids (replied_same (ticked s f plan) (sent_by f plan)) ∙ ids-changed s.registers f (page_after plan))

tick_same : (s : Alone) (f : ℕ) (o : Option TickFault) (c : Change) → tick_unless o s f ≡ Some c → Same s c
tick_same s f None c h = ticks_same s f (page_of s.registers f) c h
tick_same s f (Some fault) c h = absurd cc

mmio_with_same : (share : Share) (s : Alone) (x : HostAccess) (tag bar : Option ℕ) (c : Change) → mmio_with share s x tag bar ≡ Some c → Same s c
mmio_with_same share s x None bar c h = absurd cc
mmio_with_same share s x (Some tag) None c h = absurd cc
mmio_with_same share s x (Some tag) (Some bar) c h = subst (Same s) (some_is _ c h) refl

mmio_same : (share : Share) (s : Alone) (x : HostAccess) (o : Option MmioFault) (c : Change) → mmio_unless o share s x ≡ Some c → Same s c
mmio_same share s x None c h = mmio_with_same share s x (tag_for s.open_tags share.domain x.operation) (bar_of share.functions x.function) c h
mmio_same share s x (Some fault) c h = absurd cc

done_same : (s : Alone) (b : List ℕ) (d : Effect) → ids (done s b d).registers ≡ ids s.registers
done_same s b Leave = refl
done_same s b Block = refl
done_same s b (Store k first) = refl
done_same s b (Add k first) = refl
done_same s b (Access g) = ids-changed s.registers g (λ page. accessed page (packet_of b))

ended_same : (s : Alone) (n : ℕ) (o : Option Emission) (r : Option Handling) (c : Change) → ended s n o r ≡ Some c → Same s c
ended_same s n None r c h = absurd cc
ended_same s n (Some e) None c h = absurd cc
ended_same s n (Some e) (Some a) c h = subst (Same s) (some_is _ c h) (ap ids (replied_same (done (without s n) e.bytes a.effect) a.reply) ∙ done_same (without s n) e.bytes a.effect)

completed_same : (pages : List (ℕ × List ℕ)) (u : TagUse) (x : Origin) (status : Status) (b : List ℕ) → ids (completed pages u x status b) ≡ ids pages
completed_same pages u (Function f) status b = ids-changed pages f (λ page. closed_by page u status b)
completed_same pages u (Host d) status b = refl

arrived_same : (s : Alone) (d : Delivery) (b : Bool) → ids (cond b (recorded s d) (unexpected s)).registers ≡ ids s.registers
arrived_same s d true = completed_same s.registers _ d.owner d.status _
arrived_same s d false = refl

delivers_same : (s : Alone) (n : ℕ) (r : Option Arrival) (c : Change) → option_map (λ (a : Arrival). emits_nothing (arrived (without s n) a)) r ≡ Some c → Same s c
delivers_same s n None c h = absurd cc
delivers_same s n (Some a) c h = subst (Same s) (some_is _ c h) (arrived_same (without s n) a.delivery a.is_awaited)

received_same : (s : Alone) (b : List ℕ) (o : Option Reception) (c : Change) → received_if s b o ≡ Some c → Same s c
received_same s b None c h = absurd cc
received_same s b (Some (Ends a)) c h = subst (Same s) (some_is _ c h) (ap ids (replied_same (done s b a.effect) a.reply) ∙ done_same s b a.effect)
received_same s b (Some (Arrives a)) c h = subst (Same s) (some_is _ c h) (arrived_same s (arrival_by a b).delivery a.is_awaited)

change_same : (share : Share) (s : Alone) (entry : Entry) (c : Change) → change share s entry ≡ Some c → Same s c
change_same share s (Submit f b) c h = submit_same s f b (submit_fault share s f b) c h
change_same share s (Tick f) c h = tick_same s f (tick_fault share s f) c h
change_same share s (Mmio x) c h = mmio_same share s x (mmio_fault share s x) c h
change_same share s (Refuse n) c h = ended_same s n (item_at s.flight n) (refusal_end share (item_at s.flight n)) c h
change_same share s (Carry n) c h = ended_same s n (item_at s.flight n) (carriage_end share s.frames s.registers (item_at s.flight n)) c h
change_same share s (Deliver n) c h = delivers_same s n (arrival s.open_tags (item_at s.flight n)) c h
change_same share s (Alien place sender b) c h = received_same s b (reception_of share s place sender b) c h

same_from : (share : Share) (s : Alone) (journal : List Entry) (t : Alone) → replay_from share (Some s) journal ≡ Some t → ids t.registers ≡ ids s.registers
same_from share s [] t e = ap (λ (u : Alone). ids u.registers) (sym (some_is s t e))
same_from share s (x ∷ xs) t e = goes_on share xs (change share s x) t (λ c is rest. same_from share c.state xs t rest ∙ change_same share s x c is) e

-- ---- so a function of the domain has its page

found_page : (page : ℕ × List ℕ) (pages : List (ℕ × List ℕ)) (f : ℕ) (b : Bool) → (page.0 == f) ≡ b → ((page.0 == f) ≡ false → IsSome (page_of pages f)) → IsSome (option_map (λ p. p.1) (cond b (Some page) (find (λ p. p.0 == f) pages)))
found_page page pages f true e more = refl
found_page page pages f false e more = more e

has_page : (pages : List (ℕ × List ℕ)) (f : ℕ) → list_any (λ k. k == f) (ids pages) ≡ true → IsSome (page_of pages f)
has_page [] f h = absurd cc
has_page (page ∷ pages) f h = found_page page pages f (page.0 == f) refl (λ e. has_page pages f (ap (λ (b : Bool). b || list_any (λ k. k == f) (ids pages)) (sym e) ∙ h))

abbrev pages_for : List EndpointFunction → List (ℕ × List ℕ)
pages_for lines = map (λ line. (line.id, first_page line.id)) lines

one_listed : (own : ℕ → Bool) (line : EndpointFunction) (lines : List EndpointFunction) (f : ℕ) (rest : List EndpointFunction) (b c : Bool) → (line.id == f) ≡ b → own line.id ≡ c → own f ≡ true
    → ((line.id == f) || is_function lines f) ≡ true → (is_function lines f ≡ true → list_any (λ k. k == f) (ids (pages_for rest)) ≡ true) → list_any (λ k. k == f) (ids (pages_for (cond c (line ∷ rest) rest))) ≡ true
one_listed own line lines f rest true true e k o h more = ap (λ (b : Bool). b || list_any (λ k. k == f) (ids (pages_for rest))) e
one_listed own line lines f rest true false e k o h more = absurd (let same : line.id ≡ f = eqb-true line.id f e in let kept : own line.id ≡ true = ap own same ∙ o in cc)
one_listed own line lines f rest false true e k o h more = ap (λ (b : Bool). b || list_any (λ k. k == f) (ids (pages_for rest))) e ∙ more (ap (λ (b : Bool). b || is_function lines f) (sym e) ∙ h)
one_listed own line lines f rest false false e k o h more = more (ap (λ (b : Bool). b || is_function lines f) (sym e) ∙ h)

own_listed : (own : ℕ → Bool) (lines : List EndpointFunction) (f : ℕ) → own f ≡ true → is_function lines f ≡ true → list_any (λ k. k == f) (ids (pages_for (filter (λ line. own line.id) lines))) ≡ true
own_listed own [] f o h = absurd cc
own_listed own (line ∷ lines) f o h = one_listed own line lines f (filter (λ line. own line.id) lines) (line.id == f) (own line.id) refl refl o h (own_listed own lines f o)

and_left : (a b : Bool) → (a && b) ≡ true → a ≡ true
and_left true b e = refl
and_left false b e = absurd cc

-- in each state that a journal leaves
pub own_page : (share : Share) (journal : List Entry) (s : Alone) (f : ℕ) → replay share journal ≡ Some s → is_own_function share f ≡ true → IsSome (page_of s.registers f)
own_page share journal s f was own =
    let same : ids s.registers ≡ ids (first_registers share) = same_from share (start_state share) journal s was in
    let first = own_listed (is_own_function share) share.functions f own (and_left (is_function share.functions f) _ own) in
    has_page s.registers f (ap (λ (ks : List ℕ). list_any (λ k. k == f) ks) same ∙ first)

-- ---- and a BAR

found_bar : (line : EndpointFunction) (lines : List EndpointFunction) (f : ℕ) (b : Bool) → (line.id == f) ≡ b → ((line.id == f) ≡ false → IsSome (bar_of lines f))
    → IsSome (option_map (λ (l : EndpointFunction). l.bar) (cond b (Some line) (find (λ l. l.id == f) lines)))
found_bar line lines f true e more = refl
found_bar line lines f false e more = more e

has_bar : (lines : List EndpointFunction) (f : ℕ) → is_function lines f ≡ true → IsSome (bar_of lines f)
has_bar [] f h = absurd cc
has_bar (line ∷ lines) f h = found_bar line lines f (line.id == f) refl (λ e. has_bar lines f (ap (λ (b : Bool). b || is_function lines f) (sym e) ∙ h))

pub own_bar : (share : Share) (f : ℕ) → is_own_function share f ≡ true → IsSome (bar_of share.functions f)
own_bar share f own = has_bar share.functions f (and_left (is_function share.functions f) _ own)

absurd_page : (o : Option (List ℕ)) (f : ℕ) (tags : List OpenTag) → IsSome o → option_map (λ page. plan_of f page tags) o ≡ None → ⊥
absurd_page None f tags some none = cc
absurd_page (Some page) f tags some none = cc

-- so a function that the domain owns is never without one
pub own_bar_none : (share : Share) (f : ℕ) (owns : Bool) {r : Option ℕ} → owns ≡ is_own_function share f → owns ≡ true → r ≡ bar_of share.functions f → r ≡ None → ⊥
own_bar_none share f owns is own found none =
    let bar = own_bar share f (sym is ∙ own) in
    let nothing : is_some (bar_of share.functions f) ≡ false = ap is_some (sym found ∙ none) in
    cc

-- nor without a page
pub own_page_none : (share : Share) (journal : List Entry) (s : Alone) (f : ℕ) (tags : List OpenTag) (r : Option Plan) → replay share journal ≡ Some s → is_own_function share f ≡ true
    → r ≡ option_map (λ page. plan_of f page tags) (page_of s.registers f) → r ≡ None → ⊥
own_page_none share journal s f tags r was own is none =
    let page = own_page share journal s f was own in
    let nothing = sym is ∙ none in
    absurd_page (page_of s.registers f) f tags page nothing
