-- `part_mut` lends a part of the array as a slice. The borrow checker shows no write-back clause for a
-- part of an array, so this proof walks the code by hand.
use mathlib.Core.Path.{◌≡◌, refl, sym, ap, ◌∙◌}
use Prim.Native.Nat.{ℕ, ◌+◌, ◌-◌, ◌*◌, ◌≤◌}
use native.Mathlib.Omega.{arith}
use mathlib.Core.List.{List, [], ◌∷◌, ◌++◌, append_assoc}
use native.Mathlib.Nat.{mul-one}
use seplogic.Ra.Ura.{Ura}
use mir.Syntax.{named, w64}
use mir.Val.{Val, vptr, vint}
use base.Logic.{SProp, ent, sep, ex}
use base.Fml.{Fml, Lft, GName, Share, ftrue, flft}
use types.Logic.{Logic, sem}
use contract.Monad.{fact}
use contract.Running.{tables}
use types.Kit.{Item, ‵, ◌⊛◌, raw, given, some, later, ◌$◌, ◌∵◌, !, qed, by, move, keep, drop, split, split3, join, learn, fsplit, fsplit3, fjoin, use1, use2, await, pick, suffices, frame, done, updating, group, now, show, rewrite}
use denote.Array.{Array}
use denote.Builtin.{RefMutOf, usize, u8}
use denote.Exit.{yes, no}
use denote.Follow.{follows}
use denote.Memory.{mem}
use denote.Plain.{uint_vals, uint_Tells}
use denote.RattleType.{owns}
use denote.Ref.{MutRef, mut_vals, mut_Tells}
use denote.Signature.{plain}
use denote.Steps.{nothing, heard}
use denote.Triple.Walked.{says, Stays, stay_dropped, walk_of, ends_at, Goes-dropped, Goes-spent_ref}
use lib.ListN.{length, take, drop as drop_list, take-append-drop, length-drop, length-append}
use lib.Seq.{drop-drop, take_all}
use types.SemTy.{cells}
use types.Mut.{open_ref}
use types.Part.{agg}
use types.Run.{stop, fld, addr, bin, and_then, no_more, returns, enter}
use types.ByLocal.{alloc_all, pass_all, free_all, look_at, get, through, sets}
use denote.FollowSlice.{lends_Elements}
use denote.Slice.{MutSlice, Room, slice_val}
use borrow.Table.Elements.{at, at_mul, cut_app, join_app, length-take-le}
use Rattle.std.proofs.raw_atomic.Walks.{proved}
use Rattle.fab_types.specs.Bytes.{overwritten}
use Rattle.host_memory.proofs.PageMemory.{S, start, Left, elements_out, elements_in}
use Rattle.host_memory.specs.contracts.page.Page.part_mut as f
use Rattle.host_memory.proofs.page.Page.part_mut.Statement.{statement}
use Rattle.host_memory.proofs.page.Page.part_mut.Code as code

-- so many bytes from a place on between the rest are the bytes with that part overwritten
overwritten-middle : (s m : ℕ) (xs ws : List ℕ) → s + m ≤ length xs → length ws ≡ m → take s xs ++ (ws ++ drop_list m (drop_list s xs)) ≡ overwritten xs s ws
overwritten-middle s m xs ws le e =
    let all = take s xs ++ (ws ++ drop_list m (drop_list s xs)) in
    let both = length-append (take s xs) (ws ++ drop_list m (drop_list s xs)) in
    let inner = length-append ws (drop_list m (drop_list s xs)) in
    let front : length (take s xs) ≡ s = length-take-le s xs (omega arith) in
    let rest = length-drop m (drop_list s xs) in
    let later = length-drop s xs in
    sym (take_all (length xs) all (omega arith))
    ∙ ap (λ (ys : List ℕ). take (length xs) (take s xs ++ (ws ++ ys))) (drop-drop m s xs ∙ ap (λ (k : ℕ). drop_list (s + k) xs) (sym e))
    ∙ ap (take (length xs)) (sym (append_assoc (take s xs) ws (drop_list (s + length ws) xs)))

abbrev stayed : Stays f.ended.signature.params f.ended.kept
stayed = (stay_dropped (RefMutOf (0 ∷ []) tt (plain (λ _. S)) (λ _. tt)) no, (stay_dropped (plain (λ _. usize)) yes, (stay_dropped (plain (λ _. usize)) yes, tt)))

module _ {M : Type 1} {𝓤 : Ura M} (𝓛 : Logic 𝓤) where
  open 𝓛 use {H, A}

  module _ (κ : Lft) (q : Share) (b o : ℕ) (γ : GName) (d : S.Denot) (s m : ℕ) where
    abbrev p : ℕ
    p = start o

    abbrev front : List ℕ
    front = take s d.bytes

    abbrev mid : List ℕ
    mid = take m (drop_list s d.bytes)

    abbrev back : List ℕ
    back = drop_list m (drop_list s d.bytes)

    abbrev after : List ℕ → S.Denot
    after ws = record { bytes = overwritten d.bytes s ws }

    abbrev bytes : List ℕ → ℕ → Fml
    bytes ws = cells (mem u8) ws b

    abbrev past : ℕ → ℕ → ℕ
    past from = at from (mem u8).size

    abbrev from : ℕ
    from = past p (length front)

    abbrev Rest : SProp 𝓤
    Rest = sep 𝓤 (sem 𝓛 (bytes front p)) (sep 𝓤 (sem 𝓛 (bytes back (past from (length mid)))) (Left 𝓛 b o))

    put : s + m ≤ 4096 → length d.bytes ≡ 4096 → (ws : List ℕ) → length ws ≡ length mid
        → ent 𝓤 (sep 𝓤 (sem 𝓛 (bytes ws from)) Rest) (sem 𝓛 ((mem S).own_at (after ws) b o))
    put within long ws e =
        let count : length mid ≡ m = length-take-le m (drop_list s d.bytes) (omega (arith, length-drop s d.bytes)) in
        let same : front ++ (ws ++ back) ≡ (after ws).bytes = overwritten-middle s m d.bytes ws (omega arith) (e ∙ count) in
        let all = ap length same in
        let both = length-append front (ws ++ back) in
        let inner = length-append ws back in
        let first : length front ≡ s = length-take-le s d.bytes (omega arith) in
        let rest = length-drop m (drop_list s d.bytes) in
        let later = length-drop s d.bytes in
        qed 𝓛 (‵ (bytes ws from) ∷ ‵ (bytes front p) ∷ ‵ (bytes back (past from (length mid))) ∷ raw (Left 𝓛 b o) ∷ []) ∵
        rewrite ! 2 (λ (k : ℕ). ‵ (bytes back (past from k))) (sym e) refl $ move ! (0 ∷ 2 ∷ []) $
        use2 𝓛 (‵ (bytes (ws ++ back) from)) (join_app 𝓛 (mem u8) ws back b from) $ move ! (1 ∷ 0 ∷ []) $
        use2 𝓛 (‵ (bytes (front ++ (ws ++ back)) p)) (join_app 𝓛 (mem u8) front (ws ++ back) b p) $
        rewrite ! 0 (λ (l : List ℕ). ‵ (bytes l p)) same refl $
        by ! (elements_in 𝓛 b o (after ws) (omega arith))

    abbrev Lent : ℕ → ℕ → GName → SProp 𝓤
    Lent t k δ = sep 𝓤 (sem 𝓛 ((MutSlice (named 0) κ u8).own_val (record { ref_ptr = (b, t); ghost_name = δ; now = mid }) (slice_val (b, t) k ∷ []))) (sep 𝓤 (A.lft κ q) (sem 𝓛 (follows S (Array u8 0) γ δ after)))

    abbrev lent : ℕ → ℕ → GName → Item 𝓤
    lent t k δ = ‵ ((MutSlice (named 0) κ u8).own_val (record { ref_ptr = (b, t); ghost_name = δ; now = mid }) (slice_val (b, t) k ∷ [])) ⊛ ‵ (flft κ q) ⊛ ‵ (follows S (Array u8 0) γ δ after)

    lends : s + m ≤ 4096 → (vs : List Val)
        → ent 𝓤 (sep 𝓤 (sem 𝓛 ((MutRef (named 0) κ S).own_val (record { ref_ptr = (b, o); ghost_name = γ; now = d }) vs)) (A.lft κ q)) (H.⇛ (ex 𝓤 (Lent (s + p) m)))
    lends within vs =
        qed 𝓛 (‵ ((MutRef (named 0) κ S).own_val (record { ref_ptr = (b, o); ghost_name = γ; now = d }) vs) ∷ ‵ (flft κ q) ∷ []) ∵
        updating ! $ fsplit3 ! $ drop ! $ open_ref ! tt (mem S) {b = b} {o = o} $
        use1 𝓛 (given (length d.bytes ≡ 4096) (‵ (bytes d.bytes p) ⊛ raw (Left 𝓛 b o))) (elements_out 𝓛 b o d) $
        learn ! (λ long. split ! $
        let count : length mid ≡ m = length-take-le m (drop_list s d.bytes) (omega (arith, length-drop s d.bytes)) in
        let room : Room u8 (length mid) = (omega arith, omega arith) in
        let on : from ≡ s + p = at_mul p 1 (length front) ∙ ap (λ (k : ℕ). k * 1 + p) (length-take-le s d.bytes (omega arith)) ∙ ap (λ (k : ℕ). k + p) (mul-one s) in
        rewrite ! 0 (λ (l : List ℕ). ‵ (bytes l p)) (sym (take-append-drop s d.bytes)) refl $
        use1 𝓛 (‵ (bytes front p) ⊛ ‵ (bytes (drop_list s d.bytes) from)) (cut_app 𝓛 (mem u8) front (drop_list s d.bytes) b p) $ split ! $ move ! (1 ∷ []) $
        rewrite ! 0 (λ (l : List ℕ). ‵ (bytes l from)) (sym (take-append-drop m (drop_list s d.bytes))) refl $
        use1 𝓛 (‵ (bytes mid from) ⊛ ‵ (bytes back (past from (length mid)))) (cut_app 𝓛 (mem u8) mid back b from) $ split ! $
        -- [the part; the rest after it; the bytes before it; the struct's remains; the open borrow, in three entries]
        move ! (1 ∷ 3 ∷ []) $ join ! $ move ! (2 ∷ 0 ∷ []) $ join ! $ move ! (2 ∷ 3 ∷ 4 ∷ 1 ∷ 0 ∷ []) $ group ! 5 $
        use1 𝓛 (later (some (lent from (length mid))))
        (lends_Elements 𝓛 S u8 after (named 0) κ q b o b from γ mid room Rest (put within long) (S.coded.code d) (S.coded.code d)) $
        await ! tt $ pick ! (λ δ. rewrite ! 0 (λ (k : ℕ). lent from k δ) count refl $ rewrite ! 0 (λ (t : ℕ). lent t m δ) on refl $ now ! $ show ! (Lent (s + p) m) δ $ done !))

pub part_mut_spec : {M : Type 1} → statement M
part_mut_spec {M = M} 𝓤 𝓛 𝓜 𝓡 wired =
    let c = f.clauses 𝓛 𝓜.mem 𝓡.returns in let W = walk_of 𝓛 f.ended stayed c in let 𝓣 = tables 𝓤 𝓛.H 𝓜 𝓡 𝓡.env in
    proved 𝓛 f.ended stayed c 𝓜 𝓡 (Goes-spent_ref 𝓛 1 (0 ∷ []) tt (plain (λ _. S)), (Goes-dropped 𝓛 1 (plain (λ _. usize)) yes (λ κs x w. refl), (Goes-dropped 𝓛 1 (plain (λ _. usize)) yes (λ κs x w. refl), tt)))
    f.Key.name code.function (code.unfolded 𝓤 𝓛.H 𝓜 𝓡 wired)
    (λ κs. (mut_vals, (uint_vals w64, (uint_vals w64, tt)))) (λ κs. (mut_Tells (named 0) κs.0 S, (uint_Tells w64, (uint_Tells w64, tt)))) (λ κs qs bounds a g are.
    let κ = κs.0 in let q = qs.0 in let r = a.0 in let b = r.ref_ptr.0 in let o = r.ref_ptr.1 in let s = a.1.0 in let end = a.1.1.0 in
    let vs : List Val × (List Val × (List Val × Unit {0})) = (mut_vals r, (uint_vals w64 s, (uint_vals w64 end, tt))) in
    let y : W.Ghost = ((κs, qs, bounds, a, vs), g) in
    qed 𝓛 (((‵ (flft κ q) ⊛ ‵ ftrue) ⊛ ‵ (owns (MutRef (named 0) κ S ∷ usize ∷ usize ∷ []) a vs)) ∷ (raw (fact 𝓤 (s ≤ end)) ⊛ raw (fact 𝓤 (end ≤ 4096))) ∷ []) ∵
    move ! (1 ∷ []) $ split ! $ heard ! _ (λ low. heard ! _ (λ high.
    let m : ℕ = end - s in
    let within : s + m ≤ 4096 = omega arith in
    split ! $
    enter ! 𝓣.C 𝓣.Λ code.function (vptr b o ∷ vint w64 s ∷ vint w64 end ∷ []) _ $
    alloc_all ! (λ l. pass_all ! refl ((tt, tt), ((tt, record { fits = are.1.0.1 }), ((tt, record { fits = are.1.1.0.1 }), tt))) $
    sets ! (addr ! (through ! refl (fld ! refl (stop !)))) refl (tt, tt) $
    sets ! (bin ! (get ! refl) (get ! refl) tt) refl (tt, tt) $
    sets ! (bin ! (get ! refl) (get ! refl) low) refl (tt, record { fits = omega arith }) $
    sets ! (addr ! (through ! refl (stop !))) refl (tt, tt) $
    sets ! (agg ! (and_then ! (get ! refl) (and_then ! (get ! refl) (no_more !)))) refl (tt, (tt, (record { fits = omega arith }, tt))) $
    split ! $ move ! (2 ∷ []) $ fsplit ! $ move ! (0 ∷ 2 ∷ []) $
    use2 𝓛 (later (some (lent 𝓛 κ q b o r.ghost_name r.now s m (s + start o) m))) (lends 𝓛 κ q b o r.ghost_name r.now s m within (mut_vals r)) $
    await ! tt $ pick ! (λ δ.
    returns ! (look_at ! 0 refl) $ free_all ! refl $ keep ! (0 ∷ 2 ∷ []) $ split3 ! $
    suffices ! _ (ends_at 𝓛 f.ended stayed c y (slice_val (b, s + start o) m) (record { ref_ptr = (b, s + start o); ghost_name = δ; now = take m (drop_list s r.now.bytes) }) (tt, (tt, (tt, tt))) (tt, (tt, (tt, tt)))) $
    nothing ! $ nothing ! $ fjoin ! $ nothing ! $ fjoin ! $ nothing ! $ fjoin ! $ join ! $ move ! (1 ∷ 3 ∷ []) $ join ! $ join ! $ frame ! $ says ! refl $ done !)))))
