-- Where two runs from one start leave a domain the same journal, they leave it the same state.
use Rattle.std.proofs.Common.{◌≡◌, ℕ, ◌==◌, List, map, Option, Some, None, refl, sym, ap, ◌∙◌}
use Rattle.std.specs.Prelude.{option_map, slice_get}
use Rattle.std.specs.List.{position}
use Rattle.platform.specs.Share.{Share}
use Rattle.domain.specs.declared.entry.Entry.{Entry}
use Rattle.domain.specs.Domains.{DomainView}
use Rattle.domain.specs.Machine.{replay}
use Rattle.domain_state.specs.State.{Alone}
use Rattle.domains.specs.Agents.{AreReplayed}
use Rattle.domains.proofs.Lists.{get_map, position_map}
use Rattle.domains.specs.Domains.{domain_at, place_of}
use Rattle.fabric_core.specs.declared.event.Event.{Event}
use Rattle.fabric_core.specs.Comparisons.{AreEqual, IsRun, journal_of}
use Rattle.fabric_core.specs.Isolation.{domain_of}
use Rattle.fabric_core.specs.Runs.{share_of}
use Rattle.fabric_core.specs.World.{World}
use Rattle.fabric_core.proofs.runs.Begun.{run_grow}

-- ---- domains of the same shares

place_by_share : (ds : List DomainView) (d : ℕ) → place_of ds d ≡ position (λ (s : Share). s.domain == d) (map share_of ds)
unfolding place_of
place_by_share ds d = sym (position_map (λ (s : Share). s.domain == d) share_of ds)

same_place : (ds es : List DomainView) (d : ℕ) → map share_of es ≡ map share_of ds → place_of es d ≡ place_of ds d
same_place ds es d same = place_by_share es d ∙ ap (position (λ (s : Share). s.domain == d)) same ∙ sym (place_by_share ds d)

same_share : (ds es : List DomainView) (place : ℕ) → map share_of es ≡ map share_of ds → option_map share_of (slice_get es place) ≡ option_map share_of (slice_get ds place)
same_share ds es place same = sym (get_map share_of es place) ∙ ap (λ (ss : List Share). slice_get ss place) same ∙ get_map share_of ds place

some_same : {X : Type 0} (x y : X) → Some x ≡ Some y → x ≡ y
some_same x y same = cc

abbrev view : Share → Alone → List Entry → DomainView
view share state journal = record { share = share; state = state; journal = journal }

-- the journal leaves the state
same_view : (x y : DomainView) → y.share ≡ x.share → y.journal ≡ x.journal → replay x.share x.journal ≡ Some x.state → replay y.share y.journal ≡ Some y.state → y ≡ x
same_view x y share journal one other =
    let state : y.state ≡ x.state = some_same y.state x.state (sym other ∙ ap (λ (s : Share). replay s y.journal) share ∙ ap (replay x.share) journal ∙ one) in
    ap (λ (s : Share). view s y.state y.journal) share ∙ ap (λ (s : Alone). view x.share s y.journal) state ∙ ap (view x.share x.state) journal

same_found : (ds es : List DomainView) (place : ℕ) (o p : Option DomainView) → slice_get ds place ≡ o → slice_get es place ≡ p → AreReplayed ds → AreReplayed es → option_map share_of p ≡ option_map share_of o
    → option_map (λ (x : DomainView). x.journal) p ≡ option_map (λ (x : DomainView). x.journal) o → p ≡ o
same_found ds es place None None at to one other share journal = refl
same_found ds es place None (Some y) at to one other share journal = absurd cc
same_found ds es place (Some x) None at to one other share journal = absurd cc
same_found ds es place (Some x) (Some y) at to one other share journal =
    ap (λ (z : DomainView). Some z) (same_view x y (some_same y.share x.share share) (some_same y.journal x.journal journal) (one place x at) (other place y to))

same_at : (ds es : List DomainView) (o : Option ℕ) → AreReplayed ds → AreReplayed es → map share_of es ≡ map share_of ds
    → option_map (λ (x : DomainView). x.journal) (domain_at es o) ≡ option_map (λ (x : DomainView). x.journal) (domain_at ds o) → domain_at es o ≡ domain_at ds o
same_at ds es None one other same journal = refl
same_at ds es (Some place) one other same journal = same_found ds es place (slice_get ds place) (slice_get es place) refl refl one other (same_share ds es place same) journal

-- ---- two runs

same_shares : (start one other : World) (events others : List Event) → IsRun start events one → IsRun start others other → map share_of other.agents.domains ≡ map share_of one.agents.domains
same_shares start one other events others first second =
    (run_grow start other others second.outcomes second.run).shares ∙ sym (run_grow start one events first.outcomes first.run).shares

pub same_journals : (d : ℕ) (start one other : World) (events others : List Event) → IsRun start events one → IsRun start others other → AreReplayed one.agents.domains → AreReplayed other.agents.domains
    → journal_of d other ≡ journal_of d one → AreEqual d start events others one other
same_journals d start one other events others first second alone alone' journal =
    let ds = one.agents.domains in
    let es = other.agents.domains in
    let same = same_shares start one other events others first second in
    let there : domain_of other d ≡ domain_at es (place_of ds d) = ap (domain_at es) (same_place ds es d same) in
    record {
      runs = record { first = first; second = second };
      same = there ∙ same_at ds es (place_of ds d) alone alone' same (sym (ap (option_map (λ (x : DomainView). x.journal)) there) ∙ journal);
    }
