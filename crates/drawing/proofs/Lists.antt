-- Lists of which a loop has written the first items.
use Rattle.std.proofs.Common.{◌≡◌, ℕ, ◌+◌, ◌<◌, List, [], ◌∷◌, ◌++◌, length, take, Option, sym, ap, ◌∙◌, subst, append_assoc, Result, Ok, Err, OnOk}
use Rattle.std.specs.Prelude.{slice_index_or}
use Rattle.std.specs.Io.KnownBytes.{Appends}
use Rattle.std.proofs.KnownBytes.{Appends-trans}
use Rattle.std.proofs.lemmas.List.{append-nil, take_more}
use Rattle.drawing.specs.Elements.{AreInside, Element, Markup, each, end_tag, start_tag, text_of}
use Rattle.drawing.specs.declared.attribute.Attribute.{Attribute}
use Rattle.drawing.specs.declared.element.Tag.{Tag}

each_more : {X : Type 0} (f : X → Markup) (xs : List X) (x : X) → text_of (each f (xs ++ x ∷ [])) ≡ text_of (each f xs) ++ text_of (f x)
each_more f [] x = append-nil (text_of (f x))
each_more f (y ∷ ys) x = ap (λ (t : List ℕ). text_of (f y) ++ t) (each_more f ys x) ∙ sym (append_assoc (text_of (f y)) (text_of (each f ys)) (text_of (f x)))

taken : {X : Type 0} (xs : List X) (i : ℕ) (x : X) → i < length xs → x ≡ slice_index_or xs i x → take (i + 1) xs ≡ take i xs ++ x ∷ []
taken {X = X} xs i x lt is = take_more xs i x lt ∙ ap (λ (y : X). take i xs ++ y ∷ []) (sym is)

-- one item more was written
pub each_next : {X : Type 0} (f : X → Markup) (xs : List X) (i : ℕ) (x : X) (old mid new : Option (List ℕ)) → i < length xs → x ≡ slice_index_or xs i x
    → Appends old mid (text_of (each f (take i xs))) → Appends mid new (text_of (f x)) → Appends old new (text_of (each f (take (i + 1) xs)))
each_next {X = X} f xs i x old mid new lt is before now =
    let text : text_of (each f (take (i + 1) xs)) ≡ text_of (each f (take i xs)) ++ text_of (f x) = ap (λ (l : List X). text_of (each f l)) (taken xs i x lt is) ∙ each_more f (take i xs) x in
    subst (λ (l : List ℕ). Appends old new l) (sym text) (Appends-trans old mid new (text_of (each f (take i xs))) (text_of (f x)) before now)

each_inside_more : {X : Type 0} (width height : ℕ) (f : X → Markup) (xs : List X) (x : X) → AreInside width height (each f xs) → AreInside width height (f x) → AreInside width height (each f (xs ++ x ∷ []))
each_inside_more width height f [] x before now = (now, tt)
each_inside_more width height f (y ∷ ys) x before now = (before.0, each_inside_more width height f ys x before.1 now)

-- one item more lies inside
pub each_inside_next : {X : Type 0} (width height : ℕ) (f : X → Markup) (xs : List X) (i : ℕ) (x : X) → i < length xs → x ≡ slice_index_or xs i x
    → AreInside width height (each f (take i xs)) → AreInside width height (f x) → AreInside width height (each f (take (i + 1) xs))
each_inside_next {X = X} width height f xs i x lt is before now =
    subst (λ (l : List X). AreInside width height (each f l)) (sym (taken xs i x lt is)) (each_inside_more width height f (take i xs) x before now)

-- an element was written: how it begins, what stands inside, and how it ends
pub framed : {E : Type 0} (name : Tag) (attributes : List Attribute) (inside : Markup) (a b c d : Option (List ℕ)) (r : Result (Unit {0}) E)
    → Appends a b (start_tag name attributes) → Appends b c (text_of inside) → OnOk r (Appends c d (end_tag name)) → OnOk r (Appends a d (text_of (Element name attributes inside)))
framed name attributes inside a b c d (Ok done) begin within end =
    Appends-trans a c d (start_tag name attributes ++ text_of inside) (end_tag name) (Appends-trans a b c (start_tag name attributes) (text_of inside) begin within) end
framed name attributes inside a b c d (Err e) begin within end = tt
