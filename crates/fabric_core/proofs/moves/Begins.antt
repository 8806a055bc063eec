-- A begin adds no more moves than a packet in an outbox has.
use Rattle.std.proofs.Common.{◌≡◌, ◌+◌, ◌≤◌, Option, Some, None, subst, arith}
use Rattle.std.specs.Prelude.{option_map, true}
use Rattle.std.proofs.lemmas.Option.{same_Some}
use Rattle.fab_types.specs.declared.origin.Origin.{Origin}
use Rattle.fab_types.specs.declared.origin.Origin.TheVariants.{Function, Host}
use Rattle.frame_log.specs.Descriptor.{Descriptor}
use Rattle.domain.specs.declared.entry.Entry.TheVariants as entry
use Rattle.domains.specs.Agents.{emitted, emitted_if}
use Rattle.domains.specs.Domains.{Made, made, made_at, place_of_function}
use Rattle.fabric_core.specs.declared.event.Event.{Event}
use Rattle.fabric_core.specs.declared.event.Event.TheVariants.{Arrive, Credit, Enter, Mmio, Pass, Root, Send, Submit, Take, Tick}
use Rattle.fabric_core.specs.Events.{effect, is_begin, link_of}
use Rattle.fabric_core.specs.MovesLeft.{moves_left}
use Rattle.fabric_core.specs.World.{World, with_agents}
use Rattle.fabric_core.proofs.moves.Ahead.{IsLaid, any_few}
use Rattle.fabric_core.proofs.moves.Boxes.{if_any, joined_waiting, waiting}

module _ (w : World) (laid : IsLaid w) where
  abbrev Bounded : World → Type 0
  Bounded v = moves_left v ≤ moves_left w + 330

  one_most : (origin : Origin) (sent : Option Descriptor) → if_any (waiting w.routes.switches w.agents.outboxes origin) sent ≤ 165
  one_most origin None = omega arith
  one_most origin (Some frame) = any_few w.routes.switches laid.few 4 (link_of origin) frame

  emits : (origin : Origin) (m : Made) → Bounded (with_agents w (emitted w.agents origin m))
  emits origin m =
      let more = joined_waiting w.routes.switches w.agents.outboxes origin m.sent in
      let most = one_most origin m.sent in
      omega (arith, more, most)

  begun : (origin : Origin) (o : Option Made) (v : World) → option_map (with_agents w) (emitted_if w.agents origin o) ≡ Some v → Bounded v
  begun origin None v e = absurd cc
  begun origin (Some m) v e = subst Bounded (same_Some _ v e) (emits origin m)

  pub begin_adds : (event : Event) → is_begin event ≡ true → (v : World) → effect w event ≡ Some v → Bounded v
  begin_adds (Submit function bytes) is v e = begun (Function function) (made_at w.agents.domains (entry.Submit function bytes) (place_of_function w.agents.domains function)) v e
  begin_adds (Tick function) is v e = begun (Function function) (made_at w.agents.domains (entry.Tick function) (place_of_function w.agents.domains function)) v e
  begin_adds (Mmio domain access) is v e = begun (Host domain) (made w.agents.domains domain (entry.Mmio access)) v e
  begin_adds (Enter origin class) is v e = absurd cc
  begin_adds (Pass port class) is v e = absurd cc
  begin_adds (Send direction class) is v e = absurd cc
  begin_adds (Take direction) is v e = absurd cc
  begin_adds (Credit direction) is v e = absurd cc
  begin_adds (Root class) is v e = absurd cc
  begin_adds (Arrive function class) is v e = absurd cc
