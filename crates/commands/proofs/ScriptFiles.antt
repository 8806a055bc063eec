-- Files that are written one after another.
use Rattle.std.proofs.Common.{◌≡◌, ℕ, ◌+◌, ◌<◌, List, [], ◌∷◌, ◌++◌, length, take, Option, Some, None, sym, ap, subst, ◌∙◌, append_assoc, arith}
use Rattle.std.specs.Prelude.{slice_index_or}
use Rattle.std.specs.List.{flat_map}
use Rattle.std.proofs.lemmas.Grind.{flat_map-append}
use Rattle.std.proofs.lemmas.List.{append-nil, length-take-le}
use Rattle.fab_types.proofs.Taking.{take_next}
use Rattle.attacks.specs.declared.findings.Witness.{Witness}
use Rattle.findings_text.specs.Remarks.{Told}
use Rattle.findings_text.specs.Witnesses.{script_text}
use Rattle.inputs.specs.Files.{Adds, File}
use Rattle.commands.specs.ExplainScripts.{files_from, script_file, script_name}

pub none_added : (old : Option (List File)) → Adds old old []
none_added None = tt
none_added (Some fs) = sym (append-nil fs)

pub added : (old mid new : Option (List File)) (one two all : List File) → all ≡ one ++ two → Adds old mid one → Adds mid new two → Adds old new all
added None mid new one two all e a b = tt
added (Some xs) None new one two all e a b = absurd a
added (Some xs) (Some ys) None one two all e a b = absurd b
added (Some xs) (Some ys) (Some zs) one two all e a b =
    b ∙ (ap (λ (l : List File). l ++ two) a ∙ (append_assoc xs one two ∙ ap (λ (l : List File). xs ++ l) (sym e)))

-- one witness more
files_more : (folder : List ℕ) (told : Told) (n : ℕ) (ws : List Witness) (w : Witness) → files_from folder told n (ws ++ w ∷ []) ≡ files_from folder told n ws ++ script_file folder told w (n + length ws) ∷ []
files_more folder told n [] w = ap (λ (k : ℕ). script_file folder told w k ∷ []) (omega arith)
files_more folder told n (v ∷ ws) w =
    let same : n + 1 + length ws ≡ n + length (v ∷ ws) = omega arith in
    ap (λ (fs : List File). script_file folder told v n ∷ fs) (files_more folder told (n + 1) ws w ∙ ap (λ (k : ℕ). files_from folder told (n + 1) ws ++ script_file folder told w k ∷ []) same)

pub next_file : (folder : List ℕ) (told : Told) (ws : List Witness) (i : ℕ) (w : Witness) (old mid new : Option (List File)) → i < length ws → w ≡ slice_index_or ws i w
    → Adds old mid (files_from folder told 1 (take i ws)) → Adds mid new (script_file folder told w (i + 1) ∷ []) → Adds old new (files_from folder told 1 (take (i + 1) ws))
next_file folder told ws i w old mid new lt is before now =
    let taken : length (take i ws) ≡ i = length-take-le i ws (omega arith) in
    let count : 1 + length (take i ws) ≡ i + 1 = omega arith in
    let list : files_from folder told 1 (take (i + 1) ws) ≡ files_from folder told 1 (take i ws) ++ script_file folder told w (i + 1) ∷ [] =
    ap (files_from folder told 1) (take_next ws i w lt is)
    ∙ (files_more folder told 1 (take i ws) w ∙ ap (λ (k : ℕ). files_from folder told 1 (take i ws) ++ script_file folder told w k ∷ []) count) in
    added old mid new _ _ _ list before now

-- those of one item more
pub next_files : {X : Type 0} (f : X → List File) (xs : List X) (i : ℕ) (x : X) (old mid new : Option (List File)) → i < length xs → x ≡ slice_index_or xs i x
    → Adds old mid (flat_map f (take i xs)) → Adds mid new (f x) → Adds old new (flat_map f (take (i + 1) xs))
next_files {X = X} f xs i x old mid new lt is before now =
    let one : flat_map f (x ∷ []) ≡ f x = append-nil (f x) in
    let list : flat_map f (take (i + 1) xs) ≡ flat_map f (take i xs) ++ f x =
    ap (flat_map f) (take_next xs i x lt is) ∙ (flat_map-append f (take i xs) (x ∷ []) ∙ ap (λ (l : List File). flat_map f (take i xs) ++ l) one) in
    added old mid new _ _ _ list before now

-- the file of a witness, written under its name with its script
pub wrote_script : (folder : List ℕ) (told : Told) (w : Witness) (n : ℕ) (name bytes : List ℕ) (old new : Option (List File)) → name ≡ script_name folder w n → bytes ≡ script_text told w
    → Adds old new (record { name = name; bytes = bytes } ∷ []) → Adds old new (script_file folder told w n ∷ [])
wrote_script folder told w n name bytes old new named script wrote =
    subst (λ (text : List ℕ). Adds old new (record { name = script_name folder w n; bytes = text } ∷ [])) script
    (subst (λ (it : List ℕ). Adds old new (record { name = it; bytes = bytes } ∷ [])) named wrote)
