-- The places of the stations that may be woken, and the watchpoints of a sweep.
use Rattle.std.proofs.Common.{◌≡◌, ◌⊎◌, inl, inr, ℕ, zero, suc, ◌+◌, ◌<◌, ◌≤◌, Bool, true, List, [], ◌∷◌, ◌++◌, length, map, get_or, take, Option, Some, None, refl, sym, ap, ◌∙◌, subst, arith}
use Rattle.std.specs.Prelude.{All, Contains, IfSome, slice_get, slice_index_or, option_map}
use Rattle.std.specs.List.{position}
use Rattle.std.proofs.lemmas.List.Quantifiers.{position-Some}
use Rattle.std.proofs.lemmas.List.{length-map}
use Rattle.std.proofs.lemmas.Option.{same_Some, slice_get-get_or, slice_get-map, slice_get_read}
use Rattle.fab_types.proofs.Taking.{take_all, take_next}
use Rattle.topology.specs.Topologies.{Tree}
use Rattle.fabric_core.specs.declared.station.Station.{Station}
use Rattle.sweeps.specs.Waking.{changes_outbox}
use Rattle.sweeps.specs.declared.site.How.{How}
use Rattle.sweeps.specs.declared.site.Site.{Site}
use Rattle.sweeps.specs.declared.watchpoint.Watchpoint.{Watchpoint}
use Rattle.sweeps.specs.Asleep.{AreWatchpoints, AreWithin, HasSite, IsOutboxAt, IsWatchpoint, Wakes, site_of, site_station, station_of, wakes_by}

-- ---- who is woken

module _ (how : How) (site : Site) (sites : List Site) where
  -- of the first so many sites those that are woken are listed
  pub record ListsSoFar (count : ℕ) (places : List ℕ) : Type 0 where
    pub listed : (other : ℕ) (s : Site) → other < count → slice_get sites other ≡ Some s → wakes_by how site s ≡ true → Contains places other
    pub within : All (λ place. place < length sites) places

-- ---- the watchpoints

module _ (sites : List Site) where
  pub record WatchpointsSoFar (count : ℕ) (watchpoints : List Watchpoint) : Type 0 where
    pub stations : map station_of watchpoints ≡ map site_station (take count sites)
    pub long : length watchpoints ≡ count
    pub each : (place : ℕ) (watchpoint : Watchpoint) → slice_get watchpoints place ≡ Some watchpoint → HasSite sites place watchpoint

  pub watchpoints_start : WatchpointsSoFar 0 []
  watchpoints_start = record { stations = refl; long = refl; each = λ place watchpoint at. absurd cc }

  -- an element of a list with one more behind
  either_behind : {X : Type 0} (xs : List X) (x y : X) (i : ℕ) → slice_get (xs ++ x ∷ []) i ≡ Some y → (slice_get xs i ≡ Some y) ⊎ ((i ≡ length xs) × (x ≡ y))
  either_behind [] x y zero at = inr (refl, same_Some x y at)
  either_behind [] x y (suc i) at = absurd cc
  either_behind (z ∷ xs) x y zero at = inl at
  either_behind (z ∷ xs) x y (suc i) at = again (either_behind xs x y i at)
    where
      again : (slice_get xs i ≡ Some y) ⊎ ((i ≡ length xs) × (x ≡ y)) → (slice_get xs i ≡ Some y) ⊎ ((suc i ≡ suc (length xs)) × (x ≡ y))
      again (inl was) = inl was
      again (inr last) = inr (ap suc last.0, last.1)

  map_behind : {X Y : Type 0} (f : X → Y) (xs : List X) (x : X) → map f (xs ++ x ∷ []) ≡ map f xs ++ f x ∷ []
  map_behind f [] x = refl
  map_behind {Y = Y} f (z ∷ xs) x = ap (λ (ys : List Y). f z ∷ ys) (map_behind f xs x)

  length_behind : {X : Type 0} (xs : List X) (x : X) → length (xs ++ x ∷ []) ≡ length xs + 1
  length_behind [] x = refl
  length_behind (z ∷ xs) x = let more = length_behind xs x in omega (arith, more)

  pub watchpoints_next : (count : ℕ) (old new : List Watchpoint) (site : Site) (watchpoint : Watchpoint) → count < length sites → site ≡ slice_index_or sites count site → IsWatchpoint site sites watchpoint → new ≡ old ++ watchpoint ∷ [] → WatchpointsSoFar count old → WatchpointsSoFar (count + 1) new
  watchpoints_next count old new site watchpoint less is of_site grown so_far = subst (WatchpointsSoFar (count + 1)) (sym grown) (record {
    stations = map_behind station_of old watchpoint
        ∙ (ap (λ (ss : List Station). ss ++ watchpoint.station ∷ []) so_far.stations
        ∙ (ap (λ (s : Station). map site_station (take count sites) ++ s ∷ []) of_site.station
        ∙ (sym (map_behind site_station (take count sites) site) ∙ ap (map site_station) (sym (take_next sites count site less is)))));
    long = length_behind old watchpoint ∙ ap (λ (n : ℕ). n + 1) so_far.long;
    each = λ place x at. go place x (either_behind old watchpoint x place at);
  })
    where
      go : (place : ℕ) (x : Watchpoint) → (slice_get old place ≡ Some x) ⊎ ((place ≡ length old) × (watchpoint ≡ x)) → HasSite sites place x
      go place x (inl was) = so_far.each place x was
      go place x (inr last) = record {
        site = site;
        at = ap (slice_get sites) (last.0 ∙ so_far.long) ∙ slice_get_read sites (length sites) count site refl less is;
        is = subst (IsWatchpoint site sites) last.1 of_site;
      }

pub watchpoints_whole : (sites : List Site) (count : ℕ) (watchpoints : List Watchpoint) → length sites ≤ count → WatchpointsSoFar sites count watchpoints → map station_of watchpoints ≡ map site_station sites
watchpoints_whole sites count watchpoints most so_far = so_far.stations ∙ ap (map site_station) (take_all sites count most)

-- ---- all of them

module _ (tree : Tree) (stations : List Station) where
  sites_are : (ss : List Station) → map site_station (map (site_of tree) ss) ≡ ss
  sites_are [] = refl
  sites_are (s ∷ ss) = ap (λ (xs : List Station). s ∷ xs) (sites_are ss)

  module _ (sites : List Site) (are : sites ≡ map (site_of tree) stations) (watchpoints : List Watchpoint) (same : map station_of watchpoints ≡ map site_station sites) (each : (place : ℕ) (watchpoint : Watchpoint) → slice_get watchpoints place ≡ Some watchpoint → HasSite sites place watchpoint) where
    pub stations_same : map station_of watchpoints ≡ stations
    stations_same = same ∙ (ap (map site_station) are ∙ sites_are stations)

    as_long : length watchpoints ≡ length sites
    as_long = sym (length-map watchpoints station_of) ∙ (ap length stations_same ∙ (sym (length-map stations (site_of tree)) ∙ ap length (sym are)))

    -- each site is that of its station
    own_site : (place : ℕ) (site : Site) → slice_get sites place ≡ Some site → site ≡ site_of tree site.station
    own_site place site at = go (slice_get stations place) refl
      where
        found : slice_get sites place ≡ option_map (site_of tree) (slice_get stations place)
        found = ap (λ (xs : List Site). slice_get xs place) are ∙ slice_get-map (site_of tree) stations place

        go : (o : Option Station) → slice_get stations place ≡ o → site ≡ site_of tree site.station
        go None e = let none : None ≡ Some site = sym (found ∙ ap (option_map (site_of tree)) e) ∙ at in absurd cc
        go (Some s) e =
            let same : site_of tree s ≡ site = same_Some (site_of tree s) site (sym (found ∙ ap (option_map (site_of tree)) e) ∙ at) in
            sym same ∙ ap (λ (x : Site). site_of tree x.station) same

    site_at : (place : ℕ) (watchpoint : Watchpoint) → (h : HasSite sites place watchpoint) → h.site ≡ site_of tree watchpoint.station
    site_at place watchpoint h = own_site place h.site h.at ∙ ap (site_of tree) (sym h.is.station)

    module _ (place other : ℕ) (watchpoint s : Watchpoint) (h : HasSite sites place watchpoint) (k : HasSite sites other s) where
      wakes_sites : (how : How) → wakes_by how (site_of tree watchpoint.station) (site_of tree s.station) ≡ true → wakes_by how h.site k.site ≡ true
      wakes_sites how wakes = ap (λ (x : Site). wakes_by how x k.site) (site_at place watchpoint h) ∙ (ap (wakes_by how (site_of tree watchpoint.station)) (site_at other s k) ∙ wakes)

      wakes_all : Wakes tree watchpoint s other
      wakes_all = record {
        taking = λ wakes. h.is.taking other k.site k.at (wakes_sites How.Taking wakes);
        freeing = λ wakes. h.is.freeing other k.site k.at (wakes_sites How.Freeing wakes);
        receiving = λ wakes. h.is.receiving other k.site k.at (wakes_sites How.Receiving wakes);
        updating = λ wakes. h.is.updating other k.site k.at (wakes_sites How.Updating wakes);
      }

    pub are_watchpoints : AreWatchpoints tree watchpoints
    are_watchpoints = λ place other watchpoint s at there. wakes_all place other watchpoint s (each place watchpoint at) (each other s there)

    pub are_within : All (AreWithin (length watchpoints)) watchpoints
    are_within = λ place default less.
        let watchpoint = slice_index_or watchpoints place default in
        let h = each place watchpoint (slice_get-get_or watchpoints place default less) in
        subst (λ (n : ℕ). AreWithin n watchpoint) (sym as_long) h.is.within

-- ---- the watchpoint that a search finds

first_passing : {X : Type 0} (p : X → Bool) (xs : List X) (k : ℕ) → position p xs ≡ Some k → (x : X) × (slice_get xs k ≡ Some x) × (p x ≡ true)
first_passing p [] k e = absurd cc
first_passing p (x ∷ xs) k e = let at = position-Some p (x ∷ xs) k x e in (get_or (x ∷ xs) k x, slice_get-get_or (x ∷ xs) k x at.0, at.1)

pub outbox_found : (watchpoints : List Watchpoint) (outbox : Station) (found : Option ℕ) → found ≡ position (λ (watchpoint : Watchpoint). changes_outbox outbox watchpoint.station) watchpoints → IfSome found (IsOutboxAt watchpoints outbox)
outbox_found watchpoints outbox None is = tt
outbox_found watchpoints outbox (Some place) is = let first = first_passing (λ (watchpoint : Watchpoint). changes_outbox outbox watchpoint.station) watchpoints place (sym is) in record { watchpoint = first.0; at = first.1; changes = first.2 }
