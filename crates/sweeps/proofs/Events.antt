-- The events of a sweep, group by group.
use Rattle.std.proofs.Common.{◌≡◌, List, [], ◌++◌, ap, ◌∙◌}

pub grouped : {X : Type 0} (r s t u v w x a b c d e f : List X) → r ≡ [] → s ≡ r ++ a → t ≡ s ++ b → u ≡ t ++ c → v ≡ u ++ d → w ≡ v ++ e → x ≡ w ++ f
    → x ≡ a ++ b ++ c ++ d ++ e ++ f
grouped {X = X} r s t u v w x a b c d e f r_is s_is t_is u_is v_is w_is x_is =
    let first : s ≡ a = s_is ∙ ap (λ (l : List X). l ++ a) r_is in
    let second : t ≡ a ++ b = t_is ∙ ap (λ (l : List X). l ++ b) first in
    let third : u ≡ a ++ b ++ c = u_is ∙ ap (λ (l : List X). l ++ c) second in
    let fourth : v ≡ a ++ b ++ c ++ d = v_is ∙ ap (λ (l : List X). l ++ d) third in
    let fifth : w ≡ a ++ b ++ c ++ d ++ e = w_is ∙ ap (λ (l : List X). l ++ e) fourth in
    x_is ∙ ap (λ (l : List X). l ++ f) fifth
