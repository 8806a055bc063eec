use Rattle.std.proofs.Common.{◌≡◌, ◌+◌, ◌<◌, ◌≤◌, ◌∙◌, length, None, sym, ap, arith}
use Rattle.std.specs.List.{find, slice_get}
use Rattle.std.specs.Option.{option_copied}
use Rattle.bridge.specs.Windows.{megabyte_of, reaches}
use Rattle.bridge.proofs.Finding.{got}
use Rattle.bridge.proofs.Addresses.{none-below, none-past, entry-none, entry-some}
use Rattle.bridge.proofs.windows.WindowedPorts.port_near.Goals as goal

pub returns-in_err-place : goal.returns-in_err-place
returns-in_err-place c =
    let never = c.in_err-place.ensures in
    let less : megabyte_of c.args.address < c.self.inside.first = omega arith in
    let none : find (reaches (megabyte_of c.args.address)) c.args.self.now ≡ None = rw (← c.self.view_is) (none-below c.self.inside.ports.items c.self.inside.first (megabyte_of c.args.address) c.self.invariant.below less) in
    ap option_copied c.from_residual.ensures ∙ sym none

pub returns-in_err-entry : goal.returns-in_err-entry
returns-in_err-entry c =
    let there = c.in_ok-place.ensures in
    let long : length c.deref.result.now ≡ length c.self.inside.places.items = ap length c.deref.ensures.value in
    let out : length c.deref.result.now ≤ c.in_ok-place.place = c.in_err-entry.ensures.lookup.3 in
    let past : c.self.inside.first + length c.self.inside.places.items ≤ megabyte_of c.args.address = omega arith in
    let none : find (reaches (megabyte_of c.args.address)) c.args.self.now ≡ None = rw (← c.self.view_is) (none-past c.self.inside.ports.items (c.self.inside.first + length c.self.inside.places.items) (megabyte_of c.args.address) c.self.invariant.past past) in
    ap option_copied c.from_residual-in_err-entry.ensures ∙ sym none

pub returns-in_err-entry-2 : goal.returns-in_err-entry-2
returns-in_err-entry-2 c =
    let there = c.in_ok-place.ensures in
    let at : c.self.inside.first + c.in_ok-place.place ≡ megabyte_of c.args.address = omega arith in
    let lookup = rw c.deref.ensures.value at c.in_ok-entry.ensures.lookup in
    let none : find (reaches (megabyte_of c.args.address)) c.args.self.now ≡ None = rw (← c.self.view_is) (entry-none c.self.inside.ports.items c.self.inside.first (megabyte_of c.args.address) c.in_ok-place.place c.self.inside.places.items c.in_ok-entry.field-0.now c.self.invariant.places at lookup.3.0 lookup.1 c.in_err-entry-2.was) in
    ap option_copied c.from_residual-in_err-entry-2.ensures ∙ sym none

pub returns : goal.returns
returns c =
    let there = c.in_ok-place.ensures in
    let at : c.self.inside.first + c.in_ok-place.place ≡ megabyte_of c.args.address = omega arith in
    let lookup = rw c.deref.ensures.value at c.in_ok-entry.ensures.lookup in
    let found : find (reaches (megabyte_of c.args.address)) c.args.self.now ≡ slice_get c.args.self.now c.in_ok-entry-2.field-0 = rw (← c.self.view_is) (entry-some c.self.inside.ports.items c.self.inside.first (megabyte_of c.args.address) c.in_ok-place.place c.self.inside.places.items c.in_ok-entry.field-0.now c.self.invariant.places at lookup.3.0 lookup.1 c.in_ok-entry-2.field-0 c.in_ok-entry-2.was) in
    let ports : c.deref-2.result.now ≡ c.args.self.now = c.deref-2.ensures.value ∙ c.self.view_is in
    let lent : option_copied c.get-2.result ≡ slice_get c.args.self.now c.in_ok-entry-2.field-0 = rw (← ports) (got c.deref-2.result.now c.in_ok-entry-2.field-0 c.get-2.result c.get-2.ensures.lookup) in
    lent ∙ sym found
