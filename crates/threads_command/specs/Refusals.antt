-- How many begins of each function and host were refused.
use Rattle.std.specs.Prelude.{ℕ, ◌+◌, ◌-◌, ◌^◌, ◌==◌, min, ◌++◌, List, [], ◌∷◌, map, codes, if◌then◌else◌}
use Rattle.std.specs.BTreeMap.{insert_entry, is_at}
use Rattle.std.specs.Fmt.{decimal}
use Rattle.std.specs.List.{flat_map, fold}
use Rattle.std.specs.Map.{lookup}
use Rattle.std.specs.Option.{unwrap_or}
use Rattle.std.specs.Ordering.{nat_cmp}
use Rattle.fab_types.specs.Origins.{origin_id}
use Rattle.fab_types.specs.Texts.{id_text}
use Rattle.thread_staff.specs.declared.remains.Parts.{Parts}
use Rattle.thread_staff.specs.declared.remains.Parts.TheVariants as parts
use Rattle.thread_staff.specs.declared.remains.Remains.{Remains}
use Rattle.thread_workers.specs.declared.host.domain_host.DomainHost.{DomainHost}

-- IDs, by rising number, each with a count
abbrev pub Counts : Type 0
Counts = List (ℕ × ℕ)

abbrev pub count_of : Counts → ℕ → ℕ
count_of counts id = unwrap_or (lookup (is_at (nat_cmp id)) counts) 0

-- so many more of an ID; a count stops at what 64 bits hold
abbrev pub with_more : Counts → ℕ × ℕ → Counts
with_more counts more = insert_entry nat_cmp counts more.0 (min (count_of counts more.0 + more.1) (2 ^ 64 - 1))

abbrev pub all_added : Counts → Counts → Counts
all_added counts more = fold with_more counts more

-- ---- of workers

abbrev pub host_refusals : List DomainHost → Counts
host_refusals hosts = map (λ host. (origin_id host.outbox.origin, host.ends.begins.refused)) hosts

-- how many begins a worker had refused: its function's, or those of each domain's host
abbrev pub refused_in : Parts → Counts
refused_in (parts.Port left) = []
refused_in (parts.Function left) = (left.function, left.begins.refused) ∷ []
refused_in (parts.Host left) = host_refusals left.hosts.items

abbrev pub refused_by : Remains → Counts
refused_by remains = refused_in remains.parts

-- ---- their lines

abbrev pub refused_line : ℕ × ℕ → List ℕ
refused_line refused =
    if refused.1 == 0 then []
    else codes "refused " ++ id_text refused.0 ++ codes " " ++ decimal refused.1 ++ codes "\n"

abbrev pub refused_lines : Counts → List ℕ
refused_lines counts = flat_map refused_line counts
