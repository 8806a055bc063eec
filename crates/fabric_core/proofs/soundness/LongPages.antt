-- Pages of 4,096 bytes stay such pages, whatever is written to them.
use Rattle.std.proofs.Common.{◌≡◌, ℕ, zero, suc, ◌+◌, ◌*◌, ◌%◌, ◌==◌, ◌&&◌, Bool, true, false, cond, eqb, List, [], ◌∷◌, ◌++◌, length, take, drop, get_or, set, Option, Some, None, refl, ◌∙◌, arith}
use Rattle.std.specs.Prelude.{All, filter, option_map, slice_range}
use Rattle.std.specs.List.{AllByRecursion, find, position}
use Rattle.std.proofs.lemmas.List.{length-append, length-drop, length-replicate, length-set, length-take, length-take-le}
use Rattle.std.proofs.lemmas.List.Elements.{All-cons, All-head, All-map, All-nil, All-tail, All-weaker}
use Rattle.fab_types.specs.declared.status.Status.{Status}
use Rattle.function.specs.declared.plan.Plan.{Plan}
use Rattle.function.specs.declared.plan.Plan.TheVariants.{Nothing, Halt, Fault, Pass, Emit}
use Rattle.function.specs.declared.tags.TagUse.{TagUse}
use Rattle.function.specs.declared.tags.TagUse.TheVariants.{Raw, Line}
use Rattle.function.specs.Accesses.{accessed, place_of}
use Rattle.function.specs.Closings.{closed_by, filled, is_success}
use Rattle.fab_types.specs.Bytes.{overwritten}
use Rattle.function.specs.Plans.{page_after}
use Rattle.function.specs.Registers.{Row, first_page, has_byte, register_at, table, with_status, write_byte, write_bytes, write_page, write_register}
use Rattle.host_memory.specs.Additions.{added, added_to, sum_of}
use Rattle.host_memory.specs.Pages.{part_of, written, zeroed, zeros}
use Rattle.platform.specs.declared.parts.EndpointFunction.{EndpointFunction}
use Rattle.platform.specs.Owners.{is_own_function}
use Rattle.platform.specs.Share.{Share}
use Rattle.tlp_view.specs.Packet.{Packet}
use Rattle.tlp_view.specs.Runs.{is_write, runs}
use Rattle.domain_state.specs.Ends.{stored}
use Rattle.domain.specs.Machine.{change}
use Rattle.domain_state.specs.RegisterPages.{changed, changed_at}
use Rattle.fabric_core.specs.Soundness.{IsPage}
use Rattle.domain_state.specs.State.{first_registers}

-- ---- a page

-- a write over a list leaves it as long as it was
long_over : (page : List ℕ) (offset : ℕ) (bytes : List ℕ) → length (overwritten page offset bytes) ≡ length page
long_over page offset bytes =
    let front = take offset page in
    let back = drop (offset + length bytes) page in
    length-take-le (length page) (front ++ bytes ++ back)
    (omega (arith, length-append front (bytes ++ back), length-append (front ++ bytes) back, length-append front bytes, length-append bytes back, length-take offset page, length-drop (offset + length bytes) page))

long_started : (page : List ℕ) (b : Bool) → length (cond b (set (set (set page 4 1) 8 1) 12 0) (set (set page 4 0) 8 0)) ≡ length page
long_started page true = length-set (set (set page 4 1) 8 1) 12 0 ∙ (length-set (set page 4 1) 8 1 ∙ length-set page 4 1)
long_started page false = length-set (set page 4 0) 8 0 ∙ length-set page 4 0

-- what holds of nothing and of each image holds of the image of what is found
found_image : {X Y : Type 0} (P : Option Y → Type 0) (p : X → Bool) (f : X → Y) (xs : List X) → P None → AllByRecursion (λ (x : X). P (Some (f x))) xs → P (option_map f (find p xs))
found_image P p f [] none all = none
found_image P p f (x ∷ xs) none all = by (p x) (found_image P p f xs none all.1)
  where
    by : (b : Bool) → P (option_map f (find p xs)) → P (option_map f (cond b (Some x) (find p xs)))
    by true rest = all.0
    by false rest = rest

long_byte : (page : List ℕ) (offset value : ℕ) → length (write_byte page offset value) ≡ length page
unfolding register_at
long_byte page offset value =
    found_image (λ r. length (write_register r page offset value) ≡ length page) (has_byte offset) (λ (row : Row). row.register) table refl
    (refl, (long_started page (eqb (value % 2) 1), (refl, (refl, (length-set page offset value, (length-set page offset value, tt))))))

long_bytes : (bytes page : List ℕ) (offset : ℕ) → length (write_bytes page offset bytes) ≡ length page
long_bytes [] page offset = refl
long_bytes (byte ∷ bytes) page offset = long_bytes bytes (write_byte page offset byte) (offset + 1) ∙ long_byte page offset byte

long_page : (runs : List (ℕ × List ℕ)) (page : List ℕ) (first : ℕ) → length (write_page page first runs) ≡ length page
long_page [] page first = refl
long_page (run ∷ runs) page first = long_page runs (write_bytes page (first + run.0) run.1) first ∙ long_bytes run.1 page (first + run.0)

-- a page of 4,096 bytes stays one
abbrev pub Keeps : (List ℕ → List ℕ) → Type 0
Keeps change = (page : List ℕ) → length page ≡ 4096 → length (change page) ≡ 4096

pub keeps_access : (t : Packet) → Keeps (λ page. accessed page t)
keeps_access t page long = by (is_write t.kind)
  where
    by : (b : Bool) → length (cond b (write_page page (place_of t) (runs t)) page) ≡ 4096
    by true = long_page (runs t) page (place_of t) ∙ long
    by false = long

keeps_counter : (next : ℕ) (page : List ℕ) (b : Bool) → length page ≡ 4096 → length (cond b (set (set page 12 next) 8 2) (set page 12 next)) ≡ 4096
keeps_counter next page true long = length-set (set page 12 next) 8 2 ∙ (length-set page 12 next ∙ long)
keeps_counter next page false long = length-set page 12 next ∙ long

pub keeps_plan : (plan : Plan) → Keeps (page_after plan)
keeps_plan Nothing page long = long
keeps_plan Halt page long = length-set page 8 2 ∙ long
keeps_plan Fault page long = length-set page 8 3 ∙ long
keeps_plan Pass page long = keeps_counter (get_or page 12 0 + 1) page (eqb (get_or page 12 0 + 1) 16) long
keeps_plan (Emit packet opened) page long = keeps_counter (get_or page 12 0 + 1) page (eqb (get_or page 12 0 + 1) 16) long

keeps_fill : (offset : ℕ) (bytes : List ℕ) → Keeps (λ page. filled page offset bytes)
keeps_fill offset bytes page long =
    let buffer = slice_range page 1024 2048 in
    let front = take 1024 page in
    let new = overwritten buffer offset bytes in
    let back = drop 2048 page in
    omega (
      arith,
      long,
      length-append (front ++ new) back,
      length-append front new,
      length-append front (new ++ back),
      length-append new back,
      length-take-le 1024 page (omega (arith, long)),
      length-drop 2048 page,
      length-drop 1024 page,
      length-take 1024 (drop 1024 page),
      long_over buffer offset bytes,
    )

pub keeps_closing : (u : TagUse) (status : Status) (payload : List ℕ) → Keeps (λ page. closed_by page u status payload)
keeps_closing Raw status payload page long = long
keeps_closing (Line offset count) status payload page long = by (is_success status && (length payload == 4 * count))
  where
    by : (b : Bool) → length (cond b (filled page offset payload) (with_status page 3)) ≡ 4096
    by true = keeps_fill offset payload page long
    by false = length-set page 8 3 ∙ long

-- ---- pages

all_written : (pages : List (ℕ × List ℕ)) (k offset : ℕ) (bytes : List ℕ) → All IsPage pages → All IsPage (written pages k offset bytes)
all_written pages k offset bytes all =
    All-map IsPage (λ (page : ℕ × List ℕ). cond (page.0 == k) (page.0, overwritten page.1 offset bytes) page) pages
    (All-weaker IsPage (λ (page : ℕ × List ℕ). IsPage (cond (page.0 == k) (page.0, overwritten page.1 offset bytes) page)) (λ page long. by page (page.0 == k) long) pages all)
  where
    by : (page : ℕ × List ℕ) (b : Bool) → IsPage page → IsPage (cond b (page.0, overwritten page.1 offset bytes) page)
    by page true long = long_over page.1 offset bytes ∙ long
    by page false long = long

pub all_stored : (runs : List (ℕ × List ℕ)) (pages : List (ℕ × List ℕ)) (k first : ℕ) → All IsPage pages → All IsPage (stored pages k first runs)
all_stored [] pages k first all = all
all_stored (run ∷ runs) pages k first all = all_stored runs (written pages k (first + run.0) run.1) k first (all_written pages k (first + run.0) run.1 all)

all_added_to : (pages : List (ℕ × List ℕ)) (k first : ℕ) (operand : List ℕ) (old : Option (List ℕ)) → All IsPage pages → All IsPage (added_to pages k first operand old)
all_added_to pages k first operand None all = all
all_added_to pages k first operand (Some old) all = all_written pages k first (sum_of (length operand) old operand) all

pub all_added : (pages : List (ℕ × List ℕ)) (k first : ℕ) (operand : List ℕ) → All IsPage pages → All IsPage (added pages k first operand)
all_added pages k first operand all = all_added_to pages k first operand (part_of pages k first (first + length operand)) all

all_set : (pages : List (ℕ × List ℕ)) (i : ℕ) (f : List ℕ → List ℕ) → Keeps f → All IsPage pages → All IsPage (set pages i ((get_or pages i (0, [])).0, f (get_or pages i (0, [])).1))
all_set [] i f keeps all = All-nil IsPage
all_set (page ∷ pages) zero f keeps all = All-cons IsPage (page.0, f page.1) pages (keeps page.1 (All-head IsPage page pages all)) (All-tail IsPage page pages all)
all_set (page ∷ pages) (suc i) f keeps all = All-cons IsPage page _ (All-head IsPage page pages all) (all_set pages i f keeps (All-tail IsPage page pages all))

all_changed_at : (pages : List (ℕ × List ℕ)) (f : List ℕ → List ℕ) (o : Option ℕ) → Keeps f → All IsPage pages → All IsPage (changed_at pages f o)
all_changed_at pages f None keeps all = all
all_changed_at pages f (Some i) keeps all = all_set pages i f keeps all

pub all_changed : (pages : List (ℕ × List ℕ)) (function : ℕ) (f : List ℕ → List ℕ) → Keeps f → All IsPage pages → All IsPage (changed pages function f)
all_changed pages function f keeps all = all_changed_at pages f (position (λ (page : ℕ × List ℕ). page.0 == function) pages) keeps all

-- ---- at the start

pub long_zeroed : (numbers : List ℕ) → All IsPage (zeroed numbers)
unfolding zeros
long_zeroed numbers = All-map IsPage (λ (k : ℕ). (k, zeros 4096)) numbers (λ i k less. length-replicate {A = ℕ} 4096 0)

long_first : (id : ℕ) → length (first_page id) ≡ 4096
unfolding first_page
long_first id = let rest = length-replicate {A = ℕ} 4092 0 in omega (arith, rest)

pub long_registers : (share : Share) → All IsPage (first_registers share)
long_registers share = All-map IsPage (λ (line : EndpointFunction). (line.id, first_page line.id)) (filter (λ (line : EndpointFunction). is_own_function share line.id) share.functions) (λ i line less. long_first (get_or (filter (λ (line : EndpointFunction). is_own_function share line.id) share.functions) i line).id)
