-- The rings of a fabric, before its parts are put together.
use Rattle.std.specs.Prelude.{◌≡◌, map, length, vec_len}
use Rattle.thread_plan.specs.Plans.{Tables}
use Rattle.thread_rings.specs.Wired.{tags_of}
use Rattle.port_threads.specs.Fabrics.{AreDealt}
use Rattle.port_threads.specs.declared.rings.Rings.{Rings}

-- each table is laid, and dealt to as many workers as there are
pub record AreRingsOf (tables : Tables) (rings : Rings) : Type 0 where
  pub links : AreDealt tables.links rings.links.made.value.items (map tags_of rings.links.ends.items)
  pub credits : AreDealt tables.credits rings.credits.made.value.items (map tags_of rings.credits.ends.items)
  pub pairs : AreDealt tables.pairs rings.pairs.made.value.items (map tags_of rings.pairs.ends.items)
  pub many_links : vec_len rings.links.ends ≡ length tables.workers
  pub many_credits : vec_len rings.credits.ends ≡ length tables.workers
  pub many_pairs : vec_len rings.pairs.ends ≡ length tables.workers
