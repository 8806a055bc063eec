-- The smallest layout is read.
use Rattle.std.proofs.Common.{◌≡◌, ◌⊎◌, Err, inl, inr, refl, sym, subst, true}
use Rattle.std.specs.Prelude.{is_ok}
use Rattle.text.specs.Text.{cut, decimal, hexadecimal, id_at, wide_decimal}
use Rattle.fab_types.specs.declared.faults.layout.LayoutCause.TheVariants as cause
use Rattle.fab_types.specs.declared.faults.layout.LayoutFault.{LayoutFault}
use Rattle.platform.specs.Tree.{domain_of, is_third_level, port_above_bus}
use Rattle.layout.specs.Reading.{is_reached, reading, with_layout_line, with_line}
use Rattle.layout.specs.Rules.{buses_meet, frames_fault, function_fault, has_bad_fields, has_full_table, has_vectors, is_foreign_frame, is_mapped, is_past_port_limits, map_fault, port_fault, port_fault_below, root_fault, windows_meet}
use Rattle.commands.specs.First.{first_text}

first_reads : is_ok (reading first_text) ≡ true
unfolding reading with_line with_layout_line cut decimal wide_decimal hexadecimal id_at frames_fault root_fault port_fault port_fault_below has_bad_fields is_past_port_limits buses_meet windows_meet has_vectors function_fault map_fault is_foreign_frame is_mapped has_full_table domain_of is_third_level port_above_bus
first_reads = refl

-- so it is refused only for want of memory
pub only_memory : (fault : LayoutFault) → ((fault.cause ≡ cause.NoMemory) × (is_reached (reading first_text) fault.line ≡ true)) ⊎ (reading first_text ≡ Err fault) → fault.cause ≡ cause.NoMemory
only_memory fault (inl memory) = memory.0
only_memory fault (inr refused) = absurd (let read : is_ok (reading first_text) ≡ true = first_reads in cc)
