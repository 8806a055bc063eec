-- `part_mut` lends a part of a page inside an `Option`. The borrow checker shows no write-back clause for a slice that is
-- lent so, so this proof walks the code by hand.
use mathlib.Core.Path.{◌≡◌, refl, sym, ap, ◌∙◌}
use mathlib.Core.Bool.{Bool, true, false, not}
use Prim.Native.Nat.{ℕ, ◌+◌}
use mathlib.Core.List.{List, [], ◌∷◌}
use lib.ListN.{length}
use lib.Dec.{T, lit<}
use mir.Syntax.{named, w16, w64}
use mir.Val.{Val, vptr, of_list}
use base.Logic.{emp, id⊢}
use base.Fraction.{full_share}
use base.Fml.{Lft, ftrue, flft, fobs, fres}
use types.Match.{live}
use contract.Monad.{fact, fact_i}
use contract.Running.{tables}
use types.Kit.{Sq, prop, ‵, ◌⊛◌, raw, some, later, at_ret, ◌$◌, ◌∵◌, !, qed, move, keep, drop, split, join, fsplit, fsplit3, fjoin, feq_l, use0, use1, use2, use3, await, pick, suffices, frame, done, rewrite}
use types.Part.{agg, whole, sub}
use types.Run.{stop, fld, addr, of_opd, lit, and_then, no_more, returns, enter, first, branches, exec}
use types.ByLocal.{alloc_all, pass_all, free_all, look_at, get, get_in, through, sets, sets_last, lands_as, env}
use types.Tokens.{lft_new, lft_end}
use denote.Array.{Array}
use denote.Builtin.{RefMutOf, usize, u8, u16, bool}
use denote.Exit.{yes, no}
use denote.Follow.{follows, follows_by}
use denote.Laws.{shows, Is}
use denote.Lend.{lends_again, comes_back, LentAgain}
use denote.Plain.{uint_Makes, uint_vals, uint_Tells}
use denote.RattleType.{RattleType, owns}
use denote.Ref.{MutBor, MutRef, mut_vals, mut_Tells}
use denote.Signature.{plain}
use denote.Slice.{MutSlice, slice_val, mut_slice_vals}
use denote.Steps.{nothing, heard, owned, peeks, only}
use denote.Triple.Call.{calls_at}
use denote.Triple.Clauses.{lasts}
use denote.Triple.Spec.{triple_of}
use denote.Triple.Table.{framed}
use denote.Triple.Walked.{Stays, stay_dropped, walk_of, ends_at, Goes-dropped, Goes-spent_ref}
use denote.Struct.Laws as struct
use denote.Struct.Field.{u64-field}
use denote.Param.Laws as param
use denote.Param.Shared as shared
use Rattle.std.proofs.raw_atomic.Walks.{proved}
use Rattle.std.proofs.VecSteps.Element.{Some-of, none_of}
use Rattle.std.specs.Prelude.{Option, Some, None, IsSome, is_some}
use Rattle.std.specs.contracts.option.Option as OP
use Rattle.std.specs.contracts.ops.Range as span
use Rattle.std.proofs.ops.Range.TheLaws as span_laws
use Rattle.host_memory.specs.Pages.{part_of, written}
use Rattle.host_memory.specs.contracts.memory.HostMemory.{the_row as R}
use Rattle.host_memory.specs.contracts.memory.HostMemory.has_part as tested
use Rattle.host_memory.proofs.memory.HostMemory.has_part.Met.{met as test_met}
use Rattle.host_memory.specs.contracts.memory.HostMemory.known_part_mut as lent
use Rattle.host_memory.proofs.memory.HostMemory.known_part_mut.Met.{met as loan_met}
use Rattle.host_memory.specs.contracts.memory.HostMemory.part_mut as f
use Rattle.host_memory.proofs.memory.HostMemory.part_mut.Statement.{statement}
use Rattle.host_memory.proofs.memory.HostMemory.part_mut.Code as code

-- ---- a range by value

abbrev Span : RattleType
Span = span.the_row usize

abbrev word_laws : param.Laws usize
word_laws = param.of_field u64-field struct.u64-laws refl (shared.copy_shared u64-field struct.u64-copy)

abbrev span_val : Span.Denot → Val
span_val = struct.val (span.the_type usize) (span_laws.the_laws usize word_laws (param.field_told u64-field struct.u64-laws))

span_tells : (r : Span.Denot) (vs : List Val) → Is Span r vs → vs ≡ span_val r ∷ []
span_tells = struct.tells (span.the_type usize) (span_laws.the_laws usize word_laws (param.field_told u64-field struct.u64-laws))

-- ---- what the contract needs

abbrev Pages : Type 0
Pages = List (ℕ × List ℕ)

abbrev stayed : Stays f.ended.signature.params f.ended.kept
stayed = (stay_dropped (RefMutOf (0 ∷ []) tt (plain (λ _. R)) (λ _. tt)) no, (stay_dropped (plain (λ _. u16)) yes, (stay_dropped (plain (λ _. Span)) yes, tt)))

-- ---- what a test tells

yes_is : (u : Bool) → T u → u ≡ true
yes_is true t = refl
yes_is false t = absurd t

no_is : (u : Bool) → T (not u) → u ≡ false
no_is true t = absurd t
no_is false t = refl

none_is : (x : Option (List ℕ)) → is_some x ≡ false → None ≡ x
none_is None is = refl
none_is (Some part) is = cc

pub part_mut_spec : {M : Type 1} → statement M
unfolding follows_by
part_mut_spec {M = M} 𝓤 𝓛 𝓜 𝓡 wired =
    let c = f.clauses 𝓛 𝓜.mem 𝓡.returns in let W = walk_of 𝓛 f.ended stayed c in let 𝓣 = tables 𝓤 𝓛.H 𝓜 𝓡 𝓡.env in
    proved 𝓛 f.ended stayed c 𝓜 𝓡 (Goes-spent_ref 𝓛 1 (0 ∷ []) tt (plain (λ _. R)), (Goes-dropped 𝓛 1 (plain (λ _. u16)) yes (λ κs x w. refl), (Goes-dropped 𝓛 1 (plain (λ _. Span)) yes (λ κs x w. refl), tt)))
    f.Key.name code.function (code.unfolded 𝓤 𝓛.H 𝓜 𝓡 wired)
    (λ κs. (mut_vals, (uint_vals w16, (λ r. span_val r ∷ [], tt)))) (λ κs. (mut_Tells (named 0) κs.0 R, (uint_Tells w16, (span_tells, tt))))
    (λ κs qs bounds a g are.
    let κ = κs.0 in let q = qs.0 in let r = a.0 in let b = r.ref_ptr.0 in let o = r.ref_ptr.1 in let γ = r.ghost_name in let m = r.now in
    let k = a.1.0 in let range = a.1.1.0 in let s = range.start in let e = range.end in
    let fk = are.1.0.1 in let fs = are.1.1.0.1.1.0.1 in let fe = are.1.1.0.1.1.1.0.1 in
    let vs : List Val × (List Val × (List Val × Unit {0})) = (mut_vals r, (uint_vals w16 k, (span_val range ∷ [], tt))) in
    let y : W.Ghost = ((κs, qs, bounds, a, vs), g) in
    let Lent : RattleType = MutSlice (named 0) κ u8 in
    let Ref = λ (κ' : Lft) (x : MutBor Pages). (MutRef (named 0) κ' R).own_val x (vptr b o ∷ []) in
    let numbers : List Val × (List Val × (List Val × (List Val × Unit {0}))) = (mut_vals r, (uint_vals w16 k, (uint_vals w64 s, (uint_vals w64 e, tt)))) in
    -- the end where there is a part
    let some_out : (res : MutBor (List ℕ)) → part_of m k s e ≡ Some res.now → length res.now + s ≡ e
    → Sq 𝓛 (‵ (Lent.own_val res (mut_slice_vals res)) ∷ ‵ (flft κ q) ∷ ‵ (follows R (Array u8 0) γ res.ghost_name (written m k s)) ∷ []) (prop (W.post y (live 1 (of_list (mut_slice_vals res))))) = λ res there size.
    use1 𝓛 (‵ ((OP.the_row Lent).own_val (Some res) (live 1 (of_list (mut_slice_vals res)) ∷ []))) (Some-of 𝓛 Lent res (slice_val res.ref_ptr (length res.now))) $
    suffices ! _ (ends_at 𝓛 f.ended stayed c y (live 1 (of_list (mut_slice_vals res))) (Some res) (tt, (tt, (tt, tt))) (tt, (tt, (tt, tt)))) $
    nothing ! $ nothing ! $ fjoin ! $ nothing ! $ fjoin ! $ nothing ! $ fjoin ! $ join ! $ nothing ! $ move ! (2 ∷ 0 ∷ []) $ join ! $ join ! $ frame ! $
    use0 𝓛 (raw (fact 𝓤 (length res.now + s ≡ e))) (fact_i 𝓤 (length res.now + s ≡ e) (emp 𝓤) size) $
    use0 𝓛 (raw (fact 𝓤 (Some res.now ≡ part_of m k s e))) (fact_i 𝓤 (Some res.now ≡ part_of m k s e) (emp 𝓤) (sym there)) $ join ! $ move ! (1 ∷ 0 ∷ []) $ done ! in
    -- and where there is none
    let none_out : None ≡ part_of m k s e → Sq 𝓛 (‵ (fobs γ (R.coded.code m)) ∷ ‵ (flft κ q) ∷ []) (prop (W.post y (live 0 (of_list [])))) = λ none.
    use1 𝓛 (‵ (fres γ (R.coded.code m))) (𝓛.names.obs-res γ (R.coded.code m)) $ move ! (1 ∷ []) $
    use0 𝓛 (‵ ((OP.the_row Lent).own_val None (live 0 (of_list []) ∷ []))) (none_of 𝓛 Lent) $
    suffices ! _ (ends_at 𝓛 f.ended stayed c y (live 0 (of_list [])) None (tt, (tt, (tt, tt))) (tt, (tt, (tt, tt)))) $
    nothing ! $ nothing ! $ fjoin ! $ nothing ! $ fjoin ! $ nothing ! $ fjoin ! $ join ! $ nothing ! $ move ! (2 ∷ 0 ∷ []) $ join ! $ join ! $ frame ! $
    use0 𝓛 (raw (fact 𝓤 (Unit {0}))) (fact_i 𝓤 (Unit {0}) (emp 𝓤) tt) $
    use0 𝓛 (raw (fact 𝓤 (None ≡ part_of m k s e))) (fact_i 𝓤 (None ≡ part_of m k s e) (emp 𝓤) none) $ join ! $ move ! (1 ∷ 0 ∷ []) $ done ! in
    qed 𝓛 (((‵ (flft κ q) ⊛ ‵ ftrue) ⊛ ‵ (owns (MutRef (named 0) κ R ∷ u16 ∷ Span ∷ []) a vs)) ∷ ‵ ftrue ∷ []) ∵
    split ! $ split ! $ move ! (2 ∷ []) $ fsplit ! $ keep ! (0 ∷ 2 ∷ []) $
    enter ! _ _ _ _ _ $ alloc_all ! (λ l. pass_all ! refl ((tt, tt), ((tt, record { fits = fk }), ((tt, (record { fits = fs }, (record { fits = fe }, tt))), tt))) $
    -- [self; the token]
    sets ! (addr ! (through ! refl (stop !))) refl (tt, tt) $
    lft_new ! tt (λ α. move ! (1 ∷ 2 ∷ []) $
    use2 𝓛 (later (some (λ (δ : ℕ). ‵ (Ref (α ∷ []) (record r { ghost_name = δ })) ⊛ ‵ (LentAgain R κ (α ∷ []) q γ b o δ m))))
    (lends_again 𝓛 R (named 0) κ (α ∷ []) q γ b o (named 0) m) $ await ! tt $ pick ! (λ δ. split ! $
    -- [the loan; what the lender keeps; the token of α]
    let G = triple_of 𝓛 tested.signature (tested.spec 𝓛 𝓜.mem 𝓡.returns) in
    let z : G.Ghost = (((α ∷ [], tt), (full_share, tt), tt, (record r { ghost_name = δ }, (k, (s, (e, tt)))), numbers), tt) in
    nothing ! $ owned ! usize _ (uint_Makes 𝓛 w64) e _ (refl, fe) $ join ! $ owned ! usize _ (uint_Makes 𝓛 w64) s _ (refl, fs) $ join ! $ owned ! u16 _ (uint_Makes 𝓛 w16) k _ (refl, fk) $ join ! $
    move ! (1 ∷ 0 ∷ []) $ join ! $ nothing ! $ move ! (3 ∷ 0 ∷ []) $ join ! $ join ! $
    nothing ! $ move ! (1 ∷ 0 ∷ []) $ use2 𝓛 (raw (G.pre z)) (id⊢ 𝓤 _) $
    calls_at ! (framed 𝓤 𝓛.H 𝓜 (tables 𝓤 𝓛.H 𝓜 𝓡 𝓡.env)) G (test_met 𝓤 𝓛 𝓜 𝓡 (code.calls-host_memory::memory::HostMemory::has_part 𝓡.env wired)) z
    (and_then ! (get ! refl) (and_then ! (get ! refl) (and_then ! (get_in ! (fld ! refl (stop !)) (sub ! 0 refl (whole !))) (and_then ! (get_in ! (fld ! refl (stop !)) (sub ! 1 refl (whole !))) (no_more !))))) (λ v.
    use1 𝓛 (later (some (λ (u : Bool). ((‵ (flft (α ∷ []) full_share) ⊛ ‵ ftrue) ⊛ ‵ (bool.own_val u (v ∷ []))) ⊛
    some (λ (ws : Pages × (Unit {0} × (Unit {0} × (Unit {0} × Unit {0})))). ‵ (lasts tested.ended z.0.0 z.0.3 ws) ⊛ (raw (fact 𝓤 (u ≡ is_some (part_of m k s e))) ⊛ raw (fact 𝓤 (ws.0 ≡ m))))))) (id⊢ 𝓤 _) $
    await ! tt $ pick ! (λ u. split ! $ split ! $ split ! $ lft_end ! tt $ move ! (2 ∷ []) $ feq_l ! (λ is_u.
    lands_as ! (ap only is_u) refl (tt, tt) $
    move ! (2 ∷ []) $ pick ! (λ ws. split ! $ move ! (1 ∷ []) $ split ! $ heard ! _ (λ found. heard ! _ (λ same. fsplit ! $ fsplit ! $
    rewrite ! 0 (λ (x : Pages). ‵ (fres δ (R.coded.code x))) same refl $
    -- [the loan's last value; its borrow; nothing; α is over; nothing; what the lender keeps]
    move ! (3 ∷ 5 ∷ 0 ∷ []) $ use3 𝓛 (later (‵ (Ref κ r) ⊛ ‵ (flft κ q)))
    (comes_back 𝓛 R (named 0) κ (α ∷ []) q γ b o δ m m) $ await ! tt $ split ! $
    -- [self; the token; and what is left over]
    first ! $ branches ! (get ! refl)
    (λ t.
    sets ! (addr ! (through ! refl (stop !))) refl (tt, tt) $
    let there : IsSome (part_of m k s e) = sym found ∙ yes_is u t in
    let L = triple_of 𝓛 lent.signature (lent.spec 𝓛 𝓜.mem 𝓡.returns) in
    let x : L.Ghost = ((κs, qs, tt, (r, (k, (s, (e, tt)))), numbers), tt) in
    nothing ! $ owned ! usize _ (uint_Makes 𝓛 w64) e _ (refl, fe) $ join ! $ owned ! usize _ (uint_Makes 𝓛 w64) s _ (refl, fs) $ join ! $ owned ! u16 _ (uint_Makes 𝓛 w16) k _ (refl, fk) $ join ! $
    move ! (1 ∷ 0 ∷ []) $ join ! $ nothing ! $ move ! (2 ∷ 0 ∷ []) $ join ! $ join ! $
    use0 𝓛 (raw (fact 𝓤 (IsSome (part_of m k s e)))) (fact_i 𝓤 (IsSome (part_of m k s e)) (emp 𝓤) there) $ move ! (1 ∷ 0 ∷ []) $ use2 𝓛 (raw (L.pre x)) (id⊢ 𝓤 _) $
    calls_at ! (framed 𝓤 𝓛.H 𝓜 (tables 𝓤 𝓛.H 𝓜 𝓡 𝓡.env)) L (loan_met 𝓤 𝓛 𝓜 𝓡 (code.calls-host_memory::memory::HostMemory::known_part_mut 𝓡.env wired)) x
    (and_then ! (get ! refl) (and_then ! (get ! refl) (and_then ! (get_in ! (fld ! refl (stop !)) (sub ! 0 refl (whole !))) (and_then ! (get_in ! (fld ! refl (stop !)) (sub ! 1 refl (whole !))) (no_more !))))) (λ w.
    use1 𝓛 (later (some (λ (res : MutBor (List ℕ)). ((‵ (flft κ q) ⊛ ‵ ftrue) ⊛ ‵ (Lent.own_val res (w ∷ []))) ⊛
    some (λ (ls : Unit {0} × (Unit {0} × (Unit {0} × (Unit {0} × Unit {0})))). ‵ (lasts lent.ended x.0.0 x.0.3 ls) ⊛ (‵ (follows R (Array u8 0) γ res.ghost_name (written m k s)) ⊛ (raw (fact 𝓤 (part_of m k s e ≡ Some res.now)) ⊛ raw (fact 𝓤 (length res.now + s ≡ e)))))))) (id⊢ 𝓤 _) $
    await ! tt $ pick ! (λ res. split ! $ split ! $ split ! $
    -- [the token; nothing; the part; what the call says of it]
    move ! (2 ∷ []) $ peeks ! Lent _ (shows 𝓛 Lent) res (w ∷ []) (λ is.
    lands_as ! (ap only is.0.0) refl (tt, (tt, (record { fits = is.0.1.0 }, tt))) $
    rewrite ! 0 (λ (us : List Val). ‵ (Lent.own_val res us)) is.0.0 refl $
    move ! (3 ∷ []) $ pick ! (λ ls. split ! $ drop ! $ split ! $ move ! (1 ∷ []) $ split ! $ heard ! _ (λ part. heard ! _ (λ size.
    -- [how self follows; the part; the token]
    sets_last ! (agg ! (and_then ! (lit ! tt) (and_then ! (get ! refl) (no_more !)))) refl (tt, (record { fits = lit< tt }, ((tt, (record { fits = is.0.1.0 }, tt)), tt))) $
    exec ! 𝓣.C 𝓣.Λ (env code.Mir.locals l) code.Mir.t-4 (at_ret _ (W.post y)) $
    sets ! (of_opd ! (get ! refl)) refl (tt, (record { fits = lit< tt }, ((tt, (record { fits = is.0.1.0 }, tt)), tt))) $
    returns ! (look_at ! 0 refl) $ free_all ! refl $ keep ! (1 ∷ 2 ∷ 0 ∷ []) $ some_out res part size)))))))
    (λ t.
    sets_last ! (agg ! (and_then ! (lit ! tt) (no_more !))) refl (tt, (record { fits = lit< tt }, tt)) $
    exec ! 𝓣.C 𝓣.Λ (env code.Mir.locals l) code.Mir.t-4 (at_ret _ (W.post y)) $
    sets ! (of_opd ! (get ! refl)) refl (tt, (record { fits = lit< tt }, tt)) $
    returns ! (look_at ! 0 refl) $ free_all ! refl $ keep ! (0 ∷ 1 ∷ []) $ fsplit3 ! $ keep ! (1 ∷ 3 ∷ []) $ none_out (none_is (part_of m k s e) (sym found ∙ no_is u t)))))))))))))
