-- Where nothing was begun no domain has made a packet, and so none is out of turn.
use Rattle.std.proofs.Common.{◌≡◌, ℕ, List, [], Some, refl, sym, ap, ◌∙◌, subst}
use Rattle.std.specs.Prelude.{All, filter, slice_get}
use Rattle.std.specs.List.{range_with_len}
use Rattle.std.proofs.lemmas.List.Elements.{All-map}
use Rattle.std.proofs.lemmas.Option.{get_or_from_slice_get, slice_get_within}
use Rattle.fab_types.specs.declared.violation.Violation.{Violation}
use Rattle.frame_log.specs.Descriptor.{Descriptor}
use Rattle.platform.specs.Owners.{owns_port}
use Rattle.platform.specs.Platform.{Platform}
use Rattle.layout.specs.Views.{share_of_domain}
use Rattle.domain.specs.Consumed.{is_in_order}
use Rattle.domain.specs.Domains.{DomainView}
use Rattle.domain.specs.Sent.{Sent, sent}
use Rattle.domain.specs.declared.entry.Entry.{Entry}
use Rattle.domains.specs.Agents.{AgentsView, agents_of}
use Rattle.interconnect.specs.Starts.{start_of}
use Rattle.interconnect.specs.Views.{InterconnectView}
use Rattle.domains.specs.Domains.{fresh, starting_domains_among, starting_domains}
use Rattle.fabric_core.specs.Orders.{KeepWayOrder, KeepsWayOrder}
use Rattle.fabric_core.specs.World.{World, world_of, world_over}
use Rattle.fabric_core.proofs.soundness.Orderly.{world_new}

-- no entry was made
abbrev HasNone : DomainView → Type 0
HasNone d = d.journal ≡ []

none_made : (platform : Platform) → All HasNone (starting_domains platform)
unfolding starting_domains_among
none_made platform =
    All-map HasNone (λ (number : ℕ). fresh (share_of_domain platform number)) (filter (owns_port platform.ports) (range_with_len 1 31)) (λ k number less. refl)

none_listed : (d : DomainView) (n : ℕ) (packet : Sent) → d.journal ≡ [] → slice_get (sent d.share d.journal) n ≡ Some packet → ⊥
none_listed d n packet none listed = by (sym (ap (λ (j : List Entry). slice_get (sent d.share j) n) none) ∙ listed)
  where
    by : slice_get (sent d.share []) n ≡ Some packet → ⊥
    by e = cc

none_out : (p : Platform) (w : World) (d : DomainView) → d.journal ≡ [] → KeepsWayOrder p w d
none_out p w d none = record {
  ways = λ n packet listed posted has some. absurd (none_listed d n packet none listed);
  turns = λ n m pair some places goes. absurd (none_listed d n pair.first none pair.first_at);
  order = λ n m pair. ap (is_in_order n m) none;
}

order_start : (platform p : Platform) → KeepWayOrder p (world_of platform)
order_start platform p place d at =
    none_out p (world_of platform) d
    (subst HasNone (get_or_from_slice_get (starting_domains platform) place d d at) (none_made platform place d (slice_get_within (starting_domains platform) place d at)))

-- the parts of a new fabric
pub order_new : (platform : Platform) (h : InterconnectView) (agents : AgentsView) (violations : List Violation) (strays : List Descriptor) → h ≡ start_of platform → agents ≡ agents_of platform → violations ≡ [] → strays ≡ []
    → (p : Platform) → KeepWayOrder p (world_over h agents violations strays)
order_new platform h agents violations strays is_h is_agents none_reported none_stray p =
    subst (KeepWayOrder p) (sym (world_new platform h agents violations strays is_h is_agents none_reported none_stray)) (order_start platform p)
