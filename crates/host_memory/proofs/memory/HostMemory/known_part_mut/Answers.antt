use Rattle.std.proofs.Common.{◌∙◌, ℕ, List, Option, ap, arith, length, map, refl}
use Rattle.host_memory.specs.Pages.{written}
use Rattle.host_memory.specs.Memory.{page_at}
use Rattle.host_memory.proofs.Lending.{left_is, left_written, stands, whole}
use Rattle.host_memory.proofs.Placed.{part_bounds, range_long}
use Rattle.host_memory.proofs.Parts.{found_with_part, part_standing}
use Rattle.host_memory.proofs.memory.HostMemory.known_part_mut.Goals as goal

pub unwrap-at-requires : goal.unwrap-at-requires
unwrap-at-requires c =
    let found = rw c.deref.ensures.value at c.place.ensures in
    let there = rw (← c.self.view_is) at c.requires in
    found_with_part _ _ _ c.args.start c.args.end _ found there

pub invariant_of-self-lent : goal.invariant_of-self-lent
invariant_of-self-lent c = λ w.
    let found = rw (c.unwrap-at.ensures, c.deref.ensures.value) at c.place.ensures in
    let gave = c.place_of_page-place in
    left_is c.self.inside c.self.invariant gave.new.places gave.new.pages c.args.frame c.unwrap-at.result gave.result c.index_mut.result.now gave.ensures.placed
    (gave.ensures.same ∙ ap (map (page_at c.self.inside.pages.items)) c.deref_mut.ensures.value) (gave.ensures.as_many ∙ ap (length {A = Option ℕ}) c.deref_mut.ensures.value) gave.ensures.place
    c.index_mut.ensures.value found.0 found.1 c.args.start w

pub returns : goal.returns
returns c =
    let found = rw (c.unwrap-at.ensures, c.deref.ensures.value) at c.place.ensures in
    let gave = c.place_of_page-place in
    let same = gave.ensures.same ∙ ap (map (page_at c.self.inside.pages.items)) c.deref_mut.ensures.value in
    let as_many = gave.ensures.as_many ∙ ap (length {A = Option ℕ}) c.deref_mut.ensures.value in
    let there = rw (← c.self.view_is) at c.requires in
    let bounds = part_bounds _ c.args.start c.args.end there in
    let at_page = stands c.self.inside c.self.invariant gave.new.places gave.new.pages c.args.frame c.unwrap-at.result gave.result c.index_mut.result.now gave.ensures.placed same as_many gave.ensures.place c.index_mut.ensures.value found.0 found.1 in
    let long = whole c.self.inside c.self.invariant gave.new.places gave.new.pages c.args.frame c.unwrap-at.result gave.result c.index_mut.result.now gave.ensures.placed same as_many gave.ensures.place c.index_mut.ensures.value found.0 found.1 in (
      (
        refl,
        λ w.
            left_written c.self.inside c.self.invariant gave.new.places gave.new.pages c.args.frame c.unwrap-at.result gave.result c.index_mut.result.now gave.ensures.placed same as_many gave.ensures.place c.index_mut.ensures.value found.0 found.1 c.args.start w
            ∙ ap (λ (pages : List (ℕ × List ℕ)). written pages c.args.frame c.args.start w) c.self.view_is,
      ),
      record {
        writes_back = tt;
        part = rw (← c.self.view_is) (part_standing _ _ _ _ c.args.start c.args.end _ _ at_page there c.part_mut.ensures.part);
        size = rw c.part_mut.ensures.part (range_long c.index_mut.result.now.bytes c.args.start c.args.end bounds.0 (omega (arith, long, bounds.1)));
      },
    )
