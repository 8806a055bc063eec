-- Where a bus leads, and that nothing goes directly where no port above controls egress.
use Rattle.std.proofs.Common.{◌≡◌, ℕ, ◌==◌, Bool, true, false, cond, List, [], ◌∷◌, Option, Some, None, refl, sym, subst, ap, ◌∙◌, if◌then◌else◌}
use Rattle.std.specs.Prelude.{◌&&◌, ◌||◌, option_map}
use Rattle.std.specs.List.{find}
use Rattle.std.proofs.lemmas.Bool.{eq-eqb, eqb-true, false≢true, true≢false}
use Rattle.fab_types.specs.Controls.{controls_egress}
use Rattle.platform.specs.declared.parts.DownstreamPort.{DownstreamPort}
use Rattle.platform.specs.declared.parts.EndpointFunction.{EndpointFunction}
use Rattle.platform.specs.Egress.{direct_above, direct_among, direct_at, holder_beside, let_to}
use Rattle.platform.specs.Owners.{bar_of, holds_address, holds_bus, is_function}
use Rattle.platform.specs.Buses.{bar_at, controls_egress_above, leads_to}
use Rattle.platform.proofs.Bools.{or-first, or-second}

or-later : (a b : Bool) → b ≡ true → (a || b) ≡ true
or-later true b h = refl
or-later false b h = h

found-here : (b : Bool) (line : EndpointFunction) (id : ℕ) (rest : Bool) (further : Option EndpointFunction) → option_map {U = ℕ} (λ (l : EndpointFunction). l.id) (cond b (Some line) further) ≡ Some id
    → (option_map {U = ℕ} (λ (l : EndpointFunction). l.id) further ≡ Some id → rest ≡ true) → ((line.id == id) || rest) ≡ true
found-here true line id rest further e later = let same : line.id ≡ id = cc in rw (eq-eqb line.id id same) refl
found-here false line id rest further e later = or-later (line.id == id) rest (later e)

-- what is found among the functions is one of them
pub found-is-function : (p : EndpointFunction → Bool) (functions : List EndpointFunction) (id : ℕ) → option_map {U = ℕ} (λ (l : EndpointFunction). l.id) (find p functions) ≡ Some id → is_function functions id ≡ true
found-is-function p [] id e = absurd cc
found-is-function p (line ∷ rest) id e = found-here (p line) line id (is_function rest id) (find p rest) e (found-is-function p rest id)

lets-none : (port : DownstreamPort) (other : Option DownstreamPort) → controls_egress port.controls ≡ false → let_to port other ≡ None
lets-none port None off = refl
lets-none port (Some other) off = rw off refl

at-none : (b : Bool) (port : DownstreamPort) (other : Option DownstreamPort) → controls_egress port.controls ≡ false → cond {A = Option ℕ} b None (let_to port other) ≡ None
at-none true port other off = refl
at-none false port other off = lets-none port other off

above-none : (b c : Bool) (direct : Option ℕ) → (b && c) ≡ false → (c ≡ false → direct ≡ None) → cond b direct None ≡ None
above-none true c direct h none = none h
above-none false c direct h none = refl

-- nothing goes directly from where no port above controls egress
pub nothing-direct : (ports : List DownstreamPort) (bus address : ℕ) (rest : List DownstreamPort) → controls_egress_above rest bus ≡ false → direct_among ports bus address rest ≡ None
nothing-direct ports bus address [] h = refl
nothing-direct ports bus address (port ∷ rest) h =
    let here : direct_above ports bus address port ≡ None = above-none (holds_bus port bus) (controls_egress port.controls) (direct_at ports address port) (or-first (holds_bus port bus && controls_egress port.controls) (controls_egress_above rest bus) h)
    (λ off. at-none (holds_address port address) port (holder_beside ports port address) off) in
    rw here (nothing-direct ports bus address rest (or-second (holds_bus port bus && controls_egress port.controls) (controls_egress_above rest bus) h))

-- where a bus leads to an ID, it is the function's
pub led-to : (found : Option EndpointFunction) (id : ℕ) → leads_to found id ≡ true → option_map {U = ℕ} (λ (line : EndpointFunction). line.id) found ≡ Some id
led-to None id e = absurd cc
led-to (Some line) id e = ap (λ (n : ℕ). Some n) (eqb-true line.id id e)

holds-here : (q : ℕ → Bool) (b : Bool) (line found : EndpointFunction) (further : Option EndpointFunction) → q line.id ≡ b → cond b (Some line) further ≡ Some found → (further ≡ Some found → q found.id ≡ true) → q found.id ≡ true
holds-here q true line found further is e later = let same : line ≡ found = cc in ap (λ (one : EndpointFunction). q one.id) (sym same) ∙ is
holds-here q false line found further is e later = later e

found-holds : (q : ℕ → Bool) (functions : List EndpointFunction) (found : EndpointFunction) → find (λ line. q line.id) functions ≡ Some found → q found.id ≡ true
found-holds q [] found e = absurd cc
found-holds q (line ∷ rest) found e = holds-here q (q line.id) line found (find (λ one. q one.id) rest) refl e (found-holds q rest found)

first-here : (q : ℕ → Bool) (b c : Bool) (line found : EndpointFunction) (further other : Option EndpointFunction) → q line.id ≡ b → (line.id == found.id) ≡ c → cond b (Some line) further ≡ Some found
    → (further ≡ Some found → q found.id ≡ true) → (further ≡ Some found → other ≡ Some found) → cond c (Some line) other ≡ Some found
first-here q true true line found further other is same e holds later = e
first-here q true false line found further other is apart e holds later = let same : line ≡ found = cc in absurd (true≢false (sym (eq-eqb line.id found.id (ap (λ (one : EndpointFunction). one.id) same)) ∙ apart))
first-here q false true line found further other is same e holds later = absurd (false≢true (sym is ∙ ap q (eqb-true line.id found.id same) ∙ holds e))
first-here q false false line found further other is apart e holds later = later e

-- what is found by a test of IDs is the first of its ID
pub found-first : (q : ℕ → Bool) (functions : List EndpointFunction) (found : EndpointFunction) → find (λ line. q line.id) functions ≡ Some found → find (λ line. line.id == found.id) functions ≡ Some found
found-first q [] found e = absurd cc
found-first q (line ∷ rest) found e =
    first-here q (q line.id) (line.id == found.id) line found (find (λ one. q one.id) rest) (find (λ one. one.id == found.id) rest) refl refl e (found-holds q rest found) (found-first q rest found)

bar-here : (b : Bool) (line : EndpointFunction) (id bar : ℕ) (functions : List EndpointFunction) → (line.id == id) ≡ b → (if b then Some line.bar else None) ≡ Some bar → find (λ one. one.id == line.id) functions ≡ Some line → bar_of functions id ≡ Some bar
bar-here true line id bar functions same e first =
    let known : find (λ one. one.id == id) functions ≡ Some line = subst (λ (n : ℕ). find (λ one. one.id == n) functions ≡ Some line) (eqb-true line.id id same) first in
    ap (option_map {U = ℕ} (λ (one : EndpointFunction). one.bar)) known ∙ e
bar-here false line id bar functions same e first = absurd cc

bar-of-found : (q : ℕ → Bool) (functions : List EndpointFunction) (found : Option EndpointFunction) (id bar : ℕ) → find (λ line. q line.id) functions ≡ found → bar_at found id ≡ Some bar → bar_of functions id ≡ Some bar
bar-of-found q functions None id bar e led = absurd cc
bar-of-found q functions (Some line) id bar e led = bar-here (line.id == id) line id bar functions refl led (found-first q functions line e)

-- the BAR of the function that a bus leads to is the one that is found
pub bar-led : (q : ℕ → Bool) (functions : List EndpointFunction) (id bar : ℕ) → bar_at (find (λ line. q line.id) functions) id ≡ Some bar → bar_of functions id ≡ Some bar
bar-led q functions id bar led = bar-of-found q functions (find (λ line. q line.id) functions) id bar refl led
