-- A struct whose one field is an array of bytes is those bytes side by side in memory, and back.
use mathlib.Core.Path.{◌≡◌}
use Prim.Native.Nat.{ℕ, zero, ◌+◌}
use mathlib.Core.List.{List, [], ◌∷◌}
use lib.ListN.{length}
use seplogic.Ra.Ura.{Ura}
use mir.Syntax.{Sym, Ty, w8, ty_int, ty_array, ty_struct}
use base.Logic.{SProp, ent, sep, guard}
use base.Fraction.{full_share}
use base.Fml.{ftrue, fsep, feq}
use prog.Memory.{align, up}
use types.Logic.{Logic, sem}
use types.SemTy.{cells}
use types.Kit.{‵, ◌⊛◌, raw, ◌$◌, ◌∵◌, !, qed, move, drop, split, fsplit, fjoin, use1, use2, done, feq_l, feq_i, check}
use denote.Array.{Array}
use denote.ArrayMemory.{Array-apart, Array-whole}
use denote.Builtin.{u8}
use denote.Index.{row, whole_in, whole_out}
use denote.Memory.{mem, part_at}
use denote.RattleType.{RattleType}
use denote.Steps.{nothing}
use denote.Struct.Field.{u8-field, array_field}
use denote.Struct.Laws.{u8-laws, array_laws}
use denote.Struct.Loose.{loosen}
use denote.Struct.Members.{Member, raw_tys}
use denote.Struct.Parts.{shape_of, Struct-left, left_Struct}
use denote.Struct.Struct.{Struct}

-- the struct of this name, with so many bytes
module _ (name : Sym) (n : ℕ) where
  abbrev pub array_ty : Ty
  array_ty = ty_array (ty_int w8) n

  -- where the array begins, in a struct at the offset o
  abbrev pub start : ℕ → ℕ
  start o = o + up (align array_ty) zero

  abbrev pub fields : List Member
  fields = record { row = Array u8 n; ty = array_ty } ∷ []

  abbrev pub Tuple : RattleType
  Tuple = Struct (shape_of name fields)

  module _ {M : Type 1} {𝓤 : Ura M} (𝓛 : Logic 𝓤) (b o : ℕ) where
    open 𝓛 use {H}

    -- what is left of the struct while its field is out
    abbrev pub Left : SProp 𝓤
    Left = H.left full_share (ty_struct [] (raw_tys fields)) (raw_tys fields) b o

    pub bytes_out : (xs : List ℕ) → ent 𝓤 (sem 𝓛 (part_at Tuple full_share (xs, tt) b o))
        (guard 𝓤 (length xs ≡ n) (sep 𝓤 (sem 𝓛 (cells (mem u8) xs b (start o))) Left))
    bytes_out xs =
        let lone = (loosen (array_field u8-field n) (array_laws u8-field u8-laws n)).single in
        qed 𝓛 (‵ (part_at Tuple full_share (xs, tt) b o) ∷ []) ∵
        use1 𝓛 (‵ (fsep (part_at (Array u8 n) full_share xs b (start o)) ftrue) ⊛ raw Left)
        (Struct-left 𝓛 full_share name fields (lone, tt) (xs, tt) b o) $
        split ! $ fsplit ! $ move ! (1 ∷ []) $ drop ! $
        use1 𝓛 (‵ (fsep (feq ℕ (length xs) n) (row u8 full_share xs b (start o))))
        (Array-apart 𝓛 u8 full_share tt n xs b (start o)) $ fsplit ! $ feq_l ! (λ long.
        use1 𝓛 (‵ (cells (mem u8) xs b (start o))) (whole_in 𝓛 u8 xs b (start o)) $
        check ! long $ done !)

    pub bytes_in : (xs : List ℕ) → length xs ≡ n
        → ent 𝓤 (sep 𝓤 (sem 𝓛 (cells (mem u8) xs b (start o))) Left) (sem 𝓛 (part_at Tuple full_share (xs, tt) b o))
    bytes_in xs long =
        qed 𝓛 (‵ (cells (mem u8) xs b (start o)) ∷ raw Left ∷ []) ∵
        use1 𝓛 (‵ (row u8 full_share xs b (start o))) (whole_out 𝓛 u8 xs b (start o)) $
        feq_i ! ℕ (length xs) n long $ fjoin ! $
        use1 𝓛 (‵ (part_at (Array u8 n) full_share xs b (start o)))
        (Array-whole 𝓛 u8 full_share n xs b (start o)) $
        nothing ! $ move ! (1 ∷ 0 ∷ []) $ fjoin ! $
        use2 𝓛 (‵ (part_at Tuple full_share (xs, tt) b o))
        (left_Struct 𝓛 full_share name fields (xs, tt) b o) $ done !
