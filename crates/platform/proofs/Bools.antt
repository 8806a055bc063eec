-- Tests of two things at once, and of lists.
use Rattle.std.proofs.Common.{◌≡◌, Bool, true, false, cond, List, [], ◌∷◌, Option, Some, refl, sym, ap, ◌∙◌}
use Rattle.std.specs.Prelude.{◌&&◌, ◌||◌}
use Rattle.std.specs.List.{list_all, find}

pub and-first : (a b : Bool) → (a && b) ≡ true → a ≡ true
and-first true b h = refl
and-first false b h = h

pub and-second : (a b : Bool) → (a && b) ≡ true → b ≡ true
and-second true b h = h
and-second false b h = absurd cc

pub and-both : (a b : Bool) → a ≡ true → b ≡ true → (a && b) ≡ true
and-both true b h k = k
and-both false b h k = absurd cc

pub or-first : (a b : Bool) → (a || b) ≡ false → a ≡ false
or-first true b h = h
or-first false b h = refl

pub or-second : (a b : Bool) → (a || b) ≡ false → b ≡ false
or-second true b h = absurd cc
or-second false b h = h

found-here : {X : Type 0} (b c rest : Bool) (x y : X) (q : X → Bool) (further : Option X) → cond b (Some y) further ≡ Some x → c ≡ q y → c ≡ true → (further ≡ Some x → q x ≡ true) → q x ≡ true
found-here true c rest x y q further e is h later = let same : y ≡ x = cc in cc
found-here false c rest x y q further e is h later = later e

pub all-found : {X : Type 0} (p q : X → Bool) (xs : List X) (x : X) → find p xs ≡ Some x → list_all q xs ≡ true → q x ≡ true
all-found p q [] x e h = absurd cc
all-found p q (y ∷ ys) x e h = found-here (p y) (q y) (list_all q ys) x y q (find p ys) e refl (and-first (q y) (list_all q ys) h) (λ e. all-found p q ys x e (and-second (q y) (list_all q ys) h))

passes-here : {X : Type 0} (b : Bool) (p : X → Bool) (x y : X) (further : Option X) → cond b (Some y) further ≡ Some x → p y ≡ b → (further ≡ Some x → p x ≡ true) → p x ≡ true
passes-here true p x y further e here later = let same : y ≡ x = cc in ap p (sym same) ∙ here
passes-here false p x y further e here later = later e

pub found-passes : {X : Type 0} (p : X → Bool) (xs : List X) (x : X) → find p xs ≡ Some x → p x ≡ true
found-passes p [] x e = absurd cc
found-passes p (y ∷ ys) x e = passes-here (p y) p x y (find p ys) e refl (found-passes p ys x)

pub all-weaker : {X : Type 0} (p q : X → Bool) (xs : List X) → ((x : X) → p x ≡ true → q x ≡ true) → list_all p xs ≡ true → list_all q xs ≡ true
all-weaker p q [] w h = refl
all-weaker p q (x ∷ xs) w h = and-both (q x) (list_all q xs) (w x (and-first (p x) (list_all p xs) h)) (all-weaker p q xs w (and-second (p x) (list_all p xs) h))
