-- Visits that are cut short, and sweeps of watchpoints.
use Rattle.std.proofs.Common.{◌≡◌, ℕ, Bool, List, ◌++◌, map, take, slice_get, Some, sym, ap, ◌∙◌, subst}
use Rattle.std.specs.Prelude.{option_map}
use Rattle.std.specs.List.{flat_map}
use Rattle.std.proofs.lemmas.Option.{get_or_from_slice_get, slice_get-map, slice_get_within}
use Rattle.fabric_core.specs.declared.event.Event.{Event}
use Rattle.fabric_core.specs.declared.station.Station.{Station}
use Rattle.fabric_core.specs.Stations.{classes, events_at, others_at, taking}
use Rattle.fabric_core.specs.World.{World}
use Rattle.sweeps.specs.declared.watchpoint.Watchpoint.{Watchpoint}
use Rattle.sweeps.specs.Asleep.{receiving_at, station_of, updating_at}
use Rattle.sweeps.specs.Sweeps.{CutShort, Sweeps}
use Rattle.sweeps.proofs.Cutting.{cut_before, cut_behind, stations_cut}
use Rattle.sweeps.proofs.Sleeping.{others_split}

-- ---- the events of a station

module _ (s : Station) (w v : World) where
  -- where packets are taken
  pub cut_taking : CutShort (map (taking s) classes) w v → CutShort (events_at s) w v
  cut_taking cut = cut_before w v (map (taking s) classes) (others_at s) cut

  module _ (taken : Bool) (took : Sweeps (map (taking s) classes) w taken v) where
    cut_others : (u : World) → CutShort (receiving_at s ++ updating_at s) v u → CutShort (events_at s) w u
    cut_others u cut = cut_behind w v u (map (taking s) classes) (others_at s) taken took (subst (λ (es : List Event). CutShort es v u) (others_split s) cut)

    -- where one is received
    pub cut_receiving : (u : World) → CutShort (receiving_at s) v u → CutShort (events_at s) w u
    cut_receiving u cut = cut_others u (cut_before v u (receiving_at s) (updating_at s) cut)

    -- where credits are returned
    pub cut_updating : (u x : World) (received : Bool) → Sweeps (receiving_at s) v received u → CutShort (updating_at s) u x → CutShort (events_at s) w x
    cut_updating u x received got cut = cut_others x (cut_behind v u x (receiving_at s) (updating_at s) received got cut)

-- ---- a sweep

-- the watchpoints before one were visited, and there the sweep was cut short
pub watchpoints_cut : (w v u : World) (watchpoints : List Watchpoint) (i : ℕ) (watchpoint : Watchpoint) (m : Bool) → slice_get watchpoints i ≡ Some watchpoint → Sweeps (flat_map events_at (take i (map station_of watchpoints))) w m v → CutShort (events_at watchpoint.station) v u
    → CutShort (flat_map events_at (map station_of watchpoints)) w u
watchpoints_cut w v u watchpoints i watchpoint m at so_far cut =
    let stations = map station_of watchpoints in
    let there : slice_get stations i ≡ Some watchpoint.station = slice_get-map station_of watchpoints i ∙ ap (option_map station_of) at in
    stations_cut w v u stations i watchpoint.station m (slice_get_within stations i watchpoint.station there) (sym (get_or_from_slice_get stations i watchpoint.station watchpoint.station there)) so_far cut
