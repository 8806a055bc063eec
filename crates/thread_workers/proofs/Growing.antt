-- One host of a list is changed.
use Rattle.std.proofs.Common.{◌≡◌, ◌∙◌, ℕ, List, map, set, get_or, ap}
use Rattle.std.proofs.lemmas.List.{set-get_or}
use Rattle.std.proofs.Math.Seq.{map-set_same}
use Rattle.thread_workers.specs.Hosts.{flushed, host_with_places, unserved}
use Rattle.thread_workers.specs.declared.host.domain_host.DomainHost.{DomainHost}

-- more places leave all hosts the same
pub same_hosts : (hosts : List DomainHost) (i : ℕ) (is d : DomainHost) → is ≡ host_with_places is.outbox.places (get_or hosts i d) → map (host_with_places 0) (set hosts i is) ≡ map (host_with_places 0) hosts
same_hosts hosts i is d e = map-set_same (host_with_places 0) hosts i is d (ap (host_with_places 0) e)

-- whose outbox it has stays
pub same_origins : (hosts : List DomainHost) (i : ℕ) (is d : DomainHost) → is.outbox.origin ≡ (get_or hosts i d).outbox.origin → map (λ h. h.outbox.origin) (set hosts i is) ≡ map (λ h. h.outbox.origin) hosts
same_origins hosts i is d e = map-set_same (λ (h : DomainHost). h.outbox.origin) hosts i is d e

-- one that stays as it is
pub same_host : (hosts : List DomainHost) (i : ℕ) (is d : DomainHost) → is ≡ get_or hosts i d → set hosts i is ≡ hosts
same_host hosts i is d e = ap (λ (h : DomainHost). set hosts i h) e ∙ set-get_or hosts i d

-- one of which no begin was accepted or refused
pub same_unserved : (hosts : List DomainHost) (i : ℕ) (is d : DomainHost) → unserved is ≡ unserved (get_or hosts i d) → map unserved (set hosts i is) ≡ map unserved hosts
same_unserved hosts i is d e = map-set_same unserved hosts i is d e

-- one whose held record went out
pub same_flushed : (hosts : List DomainHost) (i : ℕ) (is d : DomainHost) → flushed is ≡ flushed (get_or hosts i d) → map flushed (set hosts i is) ≡ map flushed hosts
same_flushed hosts i is d e = map-set_same flushed hosts i is d e
