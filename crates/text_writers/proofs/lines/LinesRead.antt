-- Each line of a layout is read back from its text.
use Rattle.std.proofs.Common.{◌≡◌, ℕ, ◌/◌, ◌%◌, ◌<◌, ◌^◌, ◌==◌, ◌&&◌, ◌||◌, Bool, true, false, refl, ap, ◌∙◌, List, [], ◌∷◌, ◌++◌, Some, arith}
use Rattle.std.specs.Prelude.{codes, option_and_then, option_map}
use Rattle.std.specs.Fmt.{decimal, digit_glyph, digits}
use Rattle.std.specs.Str.{bytes_eq}
use Rattle.std.proofs.lemmas.Bool.{cond-false}
use Rattle.std.proofs.lemmas.List.{append-nil}
use Rattle.fab_types.specs.Id.{bus_of}
use Rattle.fab_types.specs.Texts.{id_text}
use Rattle.text.specs.Text as text
use Rattle.text.specs.Words.{IsWord}
use Rattle.text.proofs.Ids.{id_read, id_word, spelled}
use Rattle.text.proofs.WordLemmas.{first}
use Rattle.layout_line.specs.declared.lines.BudgetText.{BudgetText}
use Rattle.layout_line.specs.declared.lines.CreditText.{CreditText}
use Rattle.layout_line.specs.declared.lines.EgressText.{EgressText}
use Rattle.layout_line.specs.declared.lines.FunctionText.{FunctionText}
use Rattle.layout_line.specs.declared.lines.MapText.{MapText}
use Rattle.layout_line.specs.declared.lines.PortText.{PortText}
use Rattle.layout_line.specs.declared.lines.SwitchText.{SwitchText}
use Rattle.layout_line.specs.declared.lines.TargetText.{TargetText}
use Rattle.layout_line.specs.declared.lines.TargetText.TheVariants as target
use Rattle.layout_line.specs.declared.lines.LayoutLine.{LayoutLine}
use Rattle.layout_line.specs.declared.lines.LayoutLine.TheVariants.{Frames, Root, Switch, Port, Function, Map, Budget, Credit, Egress}
use Rattle.layout_line.specs.LayoutLines.{budget_text, credit_fields, credit_text, egress_text, frames_text, function_text, layout_line_of, layout_line_of_word, map_fields, map_text, port_fields, port_text, rights_text, switch_below, switch_text, target_text}
use Rattle.text_writers.specs.LayoutLineTexts.{layout_line_text, rights_name, target_kind, target_name}
use Rattle.text_writers.specs.LineRanges.{IsCount, IsCreditLine, IsId, IsInRange, IsMapLine, IsPortLine, IsTarget}
use Rattle.text_writers.specs.Words.{hex_text, more_words}
use Rattle.text_writers.proofs.lines.Digits.{count_read, digits_word, hex_read, hex_word, page_read}
use Rattle.text_writers.proofs.lines.WrittenLines.{kind_word, name_word}

-- ---- an ID is no other word

-- its third character is a colon, so it is no word that has another there
and_none : (x : Bool) → (x && false) ≡ false
and_none true = refl
and_none false = refl

no_root : (id : ℕ) → id < 2 ^ 16 → bytes_eq (id_text id) (codes "root") ≡ false
no_root id small =
    ap (λ (t : List ℕ). bytes_eq t (codes "root")) (spelled id small)
    ∙ ap (λ (x : Bool). (digit_glyph false (bus_of id / 16) == 114) && x) (and_none (digit_glyph false (bus_of id % 16) == 111))
    ∙ and_none (digit_glyph false (bus_of id / 16) == 114)

-- ---- two fields

switch_words : (id above : List ℕ) → IsWord id → switch_text (id ++ more_words (above ∷ [])) ≡ option_and_then (λ i. switch_below i above) (text.id_at id)
switch_words id above word =
    first id (above ++ []) word _
    ∙ ap (λ (a : List ℕ). option_and_then (λ i. switch_below i a) (text.id_at id)) (append-nil above)

root_read : (id : ℕ) → IsId id → switch_text (id_text id ++ more_words (codes "root" ∷ [])) ≡ Some (Root id)
root_read id small =
    switch_words (id_text id) (codes "root") (id_word id small)
    ∙ ap (option_and_then (λ i. switch_below i (codes "root"))) (id_read id small)

below_read : (id above : ℕ) → IsId above → switch_below id (id_text above) ≡ Some (Switch (record { id = id; above = above }))
below_read id above small =
    cond-false (bytes_eq (id_text above) (codes "root")) (Some (Root id)) (option_map (λ port. Switch (record { id = id; above = port })) (text.id_at (id_text above))) (no_root above small)
    ∙ ap (option_map (λ port. Switch (record { id = id; above = port }))) (id_read above small)

switch_read : (switch : SwitchText) → IsId switch.id → IsId switch.above → switch_text (id_text switch.id ++ more_words (id_text switch.above ∷ [])) ≡ Some (Switch switch)
switch_read switch small small_above =
    switch_words (id_text switch.id) (id_text switch.above) (id_word switch.id small)
    ∙ ap (option_and_then (λ i. switch_below i (id_text switch.above))) (id_read switch.id small)
    ∙ below_read switch.id switch.above small_above

function_fields : (id bar : List ℕ) (function : FunctionText) → IsWord id → text.id_at id ≡ Some function.id → text.hexadecimal 8 8 bar ≡ Some function.bar
    → function_text (id ++ more_words (bar ∷ [])) ≡ Some (Function function)
function_fields id bar function word is_id is_bar = first id (bar ++ []) word _ ∙ rw (append-nil bar) (rw is_id (rw is_bar refl))

function_read : (function : FunctionText) → IsId function.id → function.bar < 2 ^ 32 → function_text (id_text function.id ++ more_words (hex_text 8 function.bar ∷ [])) ≡ Some (Function function)
function_read function small low =
    function_fields (id_text function.id) (hex_text 8 function.bar) function (id_word function.id small) (id_read function.id small) (hex_read 8 function.bar (omega (arith, low)))

budget_fields : (domain begins : List ℕ) (budget : BudgetText) → IsWord domain → text.decimal domain ≡ Some budget.domain → text.decimal begins ≡ Some budget.begins
    → budget_text (domain ++ more_words (begins ∷ [])) ≡ Some (Budget budget)
budget_fields domain begins budget word is_domain is_begins = first domain (begins ++ []) word _ ∙ rw (append-nil begins) (rw is_domain (rw is_begins refl))

budget_read : (budget : BudgetText) → IsCount budget.domain → IsCount budget.begins → budget_text (decimal budget.domain ++ more_words (decimal budget.begins ∷ [])) ≡ Some (Budget budget)
budget_read budget few some =
    budget_fields (decimal budget.domain) (decimal budget.begins) budget (digits_word 10 budget.domain) (count_read budget.domain few) (count_read budget.begins some)

egress_fields : (port vector : List ℕ) (egress : EgressText) → IsWord port → text.id_at port ≡ Some egress.port → text.hexadecimal 8 8 vector ≡ Some egress.vector
    → egress_text (port ++ more_words (vector ∷ [])) ≡ Some (Egress egress)
egress_fields port vector egress word is_port is_vector = first port (vector ++ []) word _ ∙ rw (append-nil vector) (rw is_port (rw is_vector refl))

egress_read : (egress : EgressText) → IsId egress.port → egress.vector < 2 ^ 32 → egress_text (id_text egress.port ++ more_words (hex_text 8 egress.vector ∷ [])) ≡ Some (Egress egress)
egress_read egress small low =
    egress_fields (id_text egress.port) (hex_text 8 egress.vector) egress (id_word egress.port small) (id_read egress.port small) (hex_read 8 egress.vector (omega (arith, low)))

frames_read : (count : ℕ) → IsCount count → frames_text (decimal count ++ more_words []) ≡ Some (Frames count)
frames_read count few = ap frames_text (append-nil (decimal count)) ∙ ap (option_map Frames) (count_read count few)

-- ---- seven fields

port_words : (a b c d e f g : List ℕ) → IsWord a → IsWord b → IsWord c → IsWord d → IsWord e → IsWord f
    → port_text (a ++ more_words (b ∷ c ∷ d ∷ e ∷ f ∷ g ∷ [])) ≡ port_fields a b c d e f g
port_words a b c d e f g is_a is_b is_c is_d is_e is_f =
    first a _ is_a _ ∙ first b _ is_b _ ∙ first c _ is_c _ ∙ first d _ is_d _ ∙ first e _ is_e _ ∙ first f _ is_f _
    ∙ ap (port_fields a b c d e f) (append-nil g)

port_are : (a b c d e f g : List ℕ) (port : PortText) → text.id_at a ≡ Some port.id → text.hexadecimal 2 2 b ≡ Some port.secondary → text.hexadecimal 2 2 c ≡ Some port.subordinate
    → text.hexadecimal 8 8 d ≡ Some port.base → text.hexadecimal 8 8 e ≡ Some port.limit → text.hexadecimal 2 2 f ≡ Some port.controls → text.decimal g ≡ Some port.owner
    → port_fields a b c d e f g ≡ Some (Port port)
port_are a b c d e f g port is_a is_b is_c is_d is_e is_f is_g = rw is_a (rw is_b (rw is_c (rw is_d (rw is_e (rw is_f (rw is_g refl))))))

port_read : (port : PortText) → IsPortLine port
    → port_text (id_text port.id ++ more_words (hex_text 2 port.secondary ∷ hex_text 2 port.subordinate ∷ hex_text 8 port.base ∷ hex_text 8 port.limit ∷ hex_text 2 port.controls ∷ decimal port.owner ∷ [])) ≡ Some (Port port)
port_read port is =
    port_words (id_text port.id) (hex_text 2 port.secondary) (hex_text 2 port.subordinate) (hex_text 8 port.base) (hex_text 8 port.limit) (hex_text 2 port.controls) (decimal port.owner)
    (id_word port.id is.id) (hex_word 2 port.secondary) (hex_word 2 port.subordinate) (hex_word 8 port.base) (hex_word 8 port.limit) (hex_word 2 port.controls)
    ∙ port_are (id_text port.id) (hex_text 2 port.secondary) (hex_text 2 port.subordinate) (hex_text 8 port.base) (hex_text 8 port.limit) (hex_text 2 port.controls) (decimal port.owner) port
    (id_read port.id is.id) (hex_read 2 port.secondary (omega (arith, is.secondary))) (hex_read 2 port.subordinate (omega (arith, is.subordinate))) (hex_read 8 port.base (omega (arith, is.base)))
    (hex_read 8 port.limit (omega (arith, is.limit))) (hex_read 2 port.controls (omega (arith, is.controls))) (count_read port.owner is.owner)

credit_words : (a b c d e f g : List ℕ) → IsWord a → IsWord b → IsWord c → IsWord d → IsWord e → IsWord f
    → credit_text (a ++ more_words (b ∷ c ∷ d ∷ e ∷ f ∷ g ∷ [])) ≡ credit_fields a b c d e f g
credit_words a b c d e f g is_a is_b is_c is_d is_e is_f =
    first a _ is_a _ ∙ first b _ is_b _ ∙ first c _ is_c _ ∙ first d _ is_d _ ∙ first e _ is_e _ ∙ first f _ is_f _
    ∙ ap (credit_fields a b c d e f) (append-nil g)

credit_are : (a b c d e f g : List ℕ) (credit : CreditText) → text.id_at a ≡ Some credit.id → text.decimal b ≡ Some credit.posted_headers → text.decimal c ≡ Some credit.posted_data
    → text.decimal d ≡ Some credit.non_posted_headers → text.decimal e ≡ Some credit.non_posted_data → text.decimal f ≡ Some credit.completion_headers → text.decimal g ≡ Some credit.completion_data
    → credit_fields a b c d e f g ≡ Some (Credit credit)
credit_are a b c d e f g credit is_a is_b is_c is_d is_e is_f is_g = rw is_a (rw is_b (rw is_c (rw is_d (rw is_e (rw is_f (rw is_g refl))))))

credit_read : (credit : CreditText) → IsCreditLine credit
    → credit_text (id_text credit.id ++ more_words (decimal credit.posted_headers ∷ decimal credit.posted_data ∷ decimal credit.non_posted_headers ∷ decimal credit.non_posted_data ∷ decimal credit.completion_headers ∷ decimal credit.completion_data ∷ [])) ≡ Some (Credit credit)
credit_read credit is =
    credit_words (id_text credit.id) (decimal credit.posted_headers) (decimal credit.posted_data) (decimal credit.non_posted_headers) (decimal credit.non_posted_data) (decimal credit.completion_headers) (decimal credit.completion_data)
    (id_word credit.id is.id) (digits_word 10 credit.posted_headers) (digits_word 10 credit.posted_data) (digits_word 10 credit.non_posted_headers) (digits_word 10 credit.non_posted_data) (digits_word 10 credit.completion_headers)
    ∙ credit_are (id_text credit.id) (decimal credit.posted_headers) (decimal credit.posted_data) (decimal credit.non_posted_headers) (decimal credit.non_posted_data) (decimal credit.completion_headers) (decimal credit.completion_data) credit
    (id_read credit.id is.id) (count_read credit.posted_headers is.posted_headers) (count_read credit.posted_data is.posted_data) (count_read credit.non_posted_headers is.non_posted_headers)
    (count_read credit.non_posted_data is.non_posted_data) (count_read credit.completion_headers is.completion_headers) (count_read credit.completion_data is.completion_data)

-- ---- mappings

map_words : (a b c d e : List ℕ) → IsWord a → IsWord b → IsWord c → IsWord d → map_text (a ++ more_words (b ∷ c ∷ d ∷ e ∷ [])) ≡ map_fields a b c d e
map_words a b c d e is_a is_b is_c is_d =
    first a _ is_a _ ∙ first b _ is_b _ ∙ first c _ is_c _ ∙ first d _ is_d _
    ∙ ap (map_fields a b c d) (append-nil e)

map_are : (a b c d e : List ℕ) (line : MapText) → text.id_at a ≡ Some line.requester → text.hexadecimal 1 13 b ≡ Some line.page → target_text c d ≡ Some line.target → rights_text e ≡ Some line.rights
    → map_fields a b c d e ≡ Some (Map line)
map_are a b c d e line is_a is_b is_target is_e =
    ap (option_and_then (λ id. option_and_then (λ page. option_and_then (λ t. option_and_then (λ r. Some (Map (record { requester = id; page = page; target = t; rights = r }))) (rights_text e)) (target_text c d)) (text.hexadecimal 1 13 b))) is_a
    ∙ ap (option_and_then (λ page. option_and_then (λ t. option_and_then (λ r. Some (Map (record { requester = line.requester; page = page; target = t; rights = r }))) (rights_text e)) (target_text c d))) is_b
    ∙ ap (option_and_then (λ t. option_and_then (λ r. Some (Map (record { requester = line.requester; page = line.page; target = t; rights = r }))) (rights_text e))) is_target
    ∙ ap (option_and_then (λ r. Some (Map (record { requester = line.requester; page = line.page; target = line.target; rights = r })))) is_e

target_read : (t : TargetText) → IsTarget t → target_text (target_kind t) (target_name t) ≡ Some t
target_read (target.Frame frame) few = ap (option_map target.Frame) (count_read frame few)
target_read (target.Peer peer) small = ap (option_map target.Peer) (id_read peer small)

rights_read : (read write : Bool) → (read || write) ≡ true → rights_text (rights_name read write) ≡ Some (record { read = read; write = write })
rights_read true true some = refl
rights_read true false some = refl
rights_read false true some = refl
rights_read false false some = absurd cc

map_read : (line : MapText) → IsMapLine line
    → map_text (id_text line.requester ++ more_words (digits 16 false line.page ∷ target_kind line.target ∷ target_name line.target ∷ rights_name line.rights.read line.rights.write ∷ [])) ≡ Some (Map line)
map_read line is =
    map_words (id_text line.requester) (digits 16 false line.page) (target_kind line.target) (target_name line.target) (rights_name line.rights.read line.rights.write)
    (id_word line.requester is.requester) (digits_word 16 line.page) (kind_word line.target) (name_word line.target is.target)
    ∙ map_are (id_text line.requester) (digits 16 false line.page) (target_kind line.target) (target_name line.target) (rights_name line.rights.read line.rights.write) line
    (id_read line.requester is.requester) (page_read line.page is.page) (target_read line.target is.target) (rights_read line.rights.read line.rights.write is.rights)

-- ---- each line

worded : (w rest : List ℕ) → IsWord w → layout_line_of (w ++ (32 ∷ rest)) ≡ layout_line_of_word w rest
worded w rest word = first w rest word (λ field. layout_line_of_word field.0 field.1)

pub layout_line_read : (line : LayoutLine) → IsInRange line → layout_line_of (layout_line_text line) ≡ Some line
layout_line_read (Frames count) is = worded (codes "frames") _ refl ∙ frames_read count is
layout_line_read (Root id) is = worded (codes "switch") _ refl ∙ root_read id is
layout_line_read (Switch switch) is = worded (codes "switch") _ refl ∙ switch_read switch is.0 is.1
layout_line_read (Port port) is = worded (codes "port") _ refl ∙ port_read port is
layout_line_read (Function function) is = worded (codes "function") _ refl ∙ function_read function is.0 is.1
layout_line_read (Map line) is = worded (codes "map") _ refl ∙ map_read line is
layout_line_read (Budget budget) is = worded (codes "budget") _ refl ∙ budget_read budget is.0 is.1
layout_line_read (Credit credit) is = worded (codes "credit") _ refl ∙ credit_read credit is
layout_line_read (Egress egress) is = worded (codes "egress") _ refl ∙ egress_read egress is.0 is.1
