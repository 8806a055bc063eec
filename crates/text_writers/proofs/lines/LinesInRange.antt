-- Each line that is read is in range.
use Rattle.std.proofs.Common.{◌≡◌, ℕ, ◌<◌, ◌^◌, ◌||◌, Bool, true, false, cond, refl, subst, List, Option, Some, None, arith}
use Rattle.std.specs.Prelude.{codes, option_and_then, option_map}
use Rattle.std.specs.Str.{bytes_eq}
use Rattle.text.specs.Text.{at_blank, decimal, hexadecimal, id_at}
use Rattle.layout_line.specs.declared.lines.RightsText.{RightsText}
use Rattle.layout_line.specs.declared.lines.TargetText.{TargetText}
use Rattle.layout_line.specs.declared.lines.TargetText.TheVariants as target
use Rattle.layout_line.specs.declared.lines.LayoutLine.{LayoutLine}
use Rattle.layout_line.specs.declared.lines.LayoutLine.TheVariants.{Frames, Root, Switch, Port, Function, Map, Budget, Credit, Egress}
use Rattle.layout_line.specs.LayoutLines.{budget_text, credit_fields, credit_text, egress_text, frames_text, function_text, layout_line_of, layout_line_of_word, map_fields, map_text, port_fields, port_text, rights_text, switch_below, switch_text, target_text}
use Rattle.text_writers.specs.LineRanges.{IsInRange, IsTarget}
use Rattle.text_writers.proofs.lines.ReadRanges.{count_small, hexadecimal_small, id_small, mapped-from}

-- what holds of every line that may be read
abbrev AreInRange : Option LayoutLine → Type 0
AreInRange o = (line : LayoutLine) → o ≡ Some line → IsInRange line

either : (b : Bool) (x y : Option LayoutLine) → AreInRange x → AreInRange y → AreInRange (cond b x y)
either true x y hx hy = hx
either false x y hx hy = hy

behind : {A : Type 0} (o : Option A) (f : A → Option LayoutLine) → ((x : A) → o ≡ Some x → AreInRange (f x)) → AreInRange (option_and_then f o)
behind None f h line e = absurd cc
behind (Some x) f h line e = h x refl line e

one : (line : LayoutLine) → IsInRange line → AreInRange (Some line)
one line is other e = let same : line ≡ other = cc in subst IsInRange same is

none : AreInRange None
none line e = absurd cc

mapped : {A : Type 0} (o : Option A) (f : A → LayoutLine) → ((x : A) → o ≡ Some x → IsInRange (f x)) → AreInRange (option_map f o)
mapped None f h line e = absurd cc
mapped (Some x) f h line e = one (f x) (h x refl) line e

frames_range : (rest : List ℕ) → AreInRange (frames_text rest)
frames_range rest = mapped (decimal rest) Frames (λ n e. count_small n rest e)

below_range : (id : ℕ) (above : List ℕ) → id < 2 ^ 16 → AreInRange (switch_below id above)
below_range id above low =
    either (bytes_eq above (codes "root")) (Some (Root id)) (option_map (λ port. Switch (record { id = id; above = port })) (id_at above)) (one (Root id) low)
    (mapped (id_at above) (λ port. Switch (record { id = id; above = port })) (λ port e. (low, id_small port above e)))

switch_range : (rest : List ℕ) → AreInRange (switch_text rest)
switch_range rest = behind (at_blank rest) _ (λ first e. behind (id_at first.0) _ (λ id e. below_range id first.1 (id_small id first.0 e)))

port_fields_range : (a b c d e f g : List ℕ) → AreInRange (port_fields a b c d e f g)
port_fields_range a b c d e f g =
    behind (id_at a) _ (λ id is_a. behind (hexadecimal 2 2 b) _ (λ secondary is_b. behind (hexadecimal 2 2 c) _ (λ subordinate is_c. behind (hexadecimal 8 8 d) _ (λ base is_d.
    behind (hexadecimal 8 8 e) _ (λ limit is_e. behind (hexadecimal 2 2 f) _ (λ controls is_f. behind (decimal g) _ (λ owner is_g.
    one (Port (record { id = id; secondary = secondary; subordinate = subordinate; base = base; limit = limit; controls = controls; owner = owner }))
    (record {
      id = id_small id a is_a;
      secondary = let low = hexadecimal_small 2 2 secondary b is_b in omega (arith, low);
      subordinate = let low = hexadecimal_small 2 2 subordinate c is_c in omega (arith, low);
      base = let low = hexadecimal_small 8 8 base d is_d in omega (arith, low);
      limit = let low = hexadecimal_small 8 8 limit e is_e in omega (arith, low);
      controls = let low = hexadecimal_small 2 2 controls f is_f in omega (arith, low);
      owner = count_small owner g is_g;
    }))))))))

port_range : (rest : List ℕ) → AreInRange (port_text rest)
port_range rest =
    behind (at_blank rest) _ (λ a e. behind (at_blank a.1) _ (λ b e. behind (at_blank b.1) _ (λ c e. behind (at_blank c.1) _ (λ d e. behind (at_blank d.1) _ (λ x e. behind (at_blank x.1) _ (λ f e.
    port_fields_range a.0 b.0 c.0 d.0 x.0 f.0 f.1))))))

function_range : (rest : List ℕ) → AreInRange (function_text rest)
function_range rest =
    behind (at_blank rest) _ (λ first e. behind (id_at first.0) _ (λ id is_id. behind (hexadecimal 8 8 first.1) _ (λ bar is_bar.
    one (Function (record { id = id; bar = bar })) (id_small id first.0 is_id, let low = hexadecimal_small 8 8 bar first.1 is_bar in omega (arith, low)))))

target_range : (word field : List ℕ) (t : TargetText) → target_text word field ≡ Some t → IsTarget t
target_range word field t h = go (bytes_eq word (codes "frame")) (bytes_eq word (codes "peer")) h
  where
    go : (frame peer : Bool) → cond frame (option_map target.Frame (decimal field)) (cond peer (option_map target.Peer (id_at field)) None) ≡ Some t → IsTarget t
    go true peer h = let m = mapped-from (decimal field) target.Frame t h in subst IsTarget m.gives (count_small m.it field m.is)
    go false true h = let m = mapped-from (id_at field) target.Peer t h in subst IsTarget m.gives (id_small m.it field m.is)
    go false false h = absurd cc

abbrev allows_some : RightsText → Bool
allows_some rights = rights.read || rights.write

rights_range : (field : List ℕ) (rights : RightsText) → rights_text field ≡ Some rights → allows_some rights ≡ true
rights_range field rights h = go (bytes_eq field (codes "r")) (bytes_eq field (codes "w")) (bytes_eq field (codes "rw")) h
  where
    same : (x : RightsText) → allows_some x ≡ true → Some x ≡ Some rights → allows_some rights ≡ true
    same x is e = let eq : x ≡ rights = cc in rw eq at is

    go : (r w rw_both : Bool) → cond r (Some (record { read = true; write = false })) (cond w (Some (record { read = false; write = true })) (cond rw_both (Some (record { read = true; write = true })) None)) ≡ Some rights → allows_some rights ≡ true
    go true w both h = same (record { read = true; write = false }) refl h
    go false true both h = same (record { read = false; write = true }) refl h
    go false false true h = same (record { read = true; write = true }) refl h
    go false false false h = absurd cc

map_fields_range : (a b c d e : List ℕ) → AreInRange (map_fields a b c d e)
map_fields_range a b c d e =
    behind (id_at a) _ (λ id is_a. behind (hexadecimal 1 13 b) _ (λ page is_b. behind (target_text c d) _ (λ t is_t. behind (rights_text e) _ (λ rights is_e.
    one (Map (record { requester = id; page = page; target = t; rights = rights }))
    (record {
      requester = id_small id a is_a;
      page = let low = hexadecimal_small 1 13 page b is_b in omega (arith, low);
      target = target_range c d t is_t;
      rights = rights_range e rights is_e;
    })))))

map_range : (rest : List ℕ) → AreInRange (map_text rest)
map_range rest =
    behind (at_blank rest) _ (λ a e. behind (at_blank a.1) _ (λ b e. behind (at_blank b.1) _ (λ c e. behind (at_blank c.1) _ (λ d e. map_fields_range a.0 b.0 c.0 d.0 d.1))))

budget_range : (rest : List ℕ) → AreInRange (budget_text rest)
budget_range rest =
    behind (at_blank rest) _ (λ first e. behind (decimal first.0) _ (λ domain is_domain. behind (decimal first.1) _ (λ begins is_begins.
    one (Budget (record { domain = domain; begins = begins })) (count_small domain first.0 is_domain, count_small begins first.1 is_begins))))

credit_fields_range : (a b c d e f g : List ℕ) → AreInRange (credit_fields a b c d e f g)
credit_fields_range a b c d e f g =
    behind (id_at a) _ (λ id is_a. behind (decimal b) _ (λ ph is_b. behind (decimal c) _ (λ pd is_c. behind (decimal d) _ (λ nph is_d.
    behind (decimal e) _ (λ npd is_e. behind (decimal f) _ (λ cplh is_f. behind (decimal g) _ (λ cpld is_g.
    one (Credit (record { id = id; posted_headers = ph; posted_data = pd; non_posted_headers = nph; non_posted_data = npd; completion_headers = cplh; completion_data = cpld }))
    (record {
      id = id_small id a is_a;
      posted_headers = count_small ph b is_b;
      posted_data = count_small pd c is_c;
      non_posted_headers = count_small nph d is_d;
      non_posted_data = count_small npd e is_e;
      completion_headers = count_small cplh f is_f;
      completion_data = count_small cpld g is_g;
    }))))))))

credit_range : (rest : List ℕ) → AreInRange (credit_text rest)
credit_range rest =
    behind (at_blank rest) _ (λ a e. behind (at_blank a.1) _ (λ b e. behind (at_blank b.1) _ (λ c e. behind (at_blank c.1) _ (λ d e. behind (at_blank d.1) _ (λ x e. behind (at_blank x.1) _ (λ f e.
    credit_fields_range a.0 b.0 c.0 d.0 x.0 f.0 f.1))))))

egress_range : (rest : List ℕ) → AreInRange (egress_text rest)
egress_range rest =
    behind (at_blank rest) _ (λ first e. behind (id_at first.0) _ (λ port is_port. behind (hexadecimal 8 8 first.1) _ (λ vector is_vector.
    one (Egress (record { port = port; vector = vector })) (id_small port first.0 is_port, let low = hexadecimal_small 8 8 vector first.1 is_vector in omega (arith, low)))))

word_range : (word rest : List ℕ) → AreInRange (layout_line_of_word word rest)
word_range word rest =
    either (bytes_eq word (codes "frames")) (frames_text rest) _ (frames_range rest)
    (either (bytes_eq word (codes "switch")) (switch_text rest) _ (switch_range rest)
    (either (bytes_eq word (codes "port")) (port_text rest) _ (port_range rest)
    (either (bytes_eq word (codes "function")) (function_text rest) _ (function_range rest)
    (either (bytes_eq word (codes "map")) (map_text rest) _ (map_range rest)
    (either (bytes_eq word (codes "budget")) (budget_text rest) _ (budget_range rest)
    (either (bytes_eq word (codes "credit")) (credit_text rest) _ (credit_range rest)
    (either (bytes_eq word (codes "egress")) (egress_text rest) None (egress_range rest) none)))))))

pub layout_line_range : (text : List ℕ) (line : LayoutLine) → layout_line_of text ≡ Some line → IsInRange line
layout_line_range text = behind (at_blank text) (λ first. layout_line_of_word first.0 first.1) (λ first e. word_range first.0 first.1)
