-- A `Page` in memory is its bytes side by side, and back.
use mathlib.Core.Path.{◌≡◌, sym, subst}
use Prim.Native.Nat.{ℕ}
use lib.ListN.{length}
use seplogic.Ra.Ura.{Ura}
use base.Logic.{SProp, ent, sep, guard}
use base.Fraction.{full_share}
use base.Fml.{Fml}
use types.Logic.{Logic, sem}
use types.SemTy.{cells}
use denote.Builtin.{u8}
use denote.Memory.{mem, part_at}
use denote.RattleType.{RattleType}
use denote.Struct.Declared.{shape}
use denote.Struct.Recorded.{Recorded-part}
use denote.Struct.Struct.{Struct}
use Rattle.fab_types.proofs.ArrayMemory as array
use Rattle.host_memory.specs.contracts.page.Page.{the_row, the_type}

abbrev pub S : RattleType
S = the_row

abbrev n : ℕ
n = 4096

-- where the array begins, in a struct at the offset o
abbrev pub start : ℕ → ℕ
start = array.start the_type.name n

as_tuple : (v : S.Denot) (b o : ℕ) → part_at S full_share v b o ≡ part_at (array.Tuple the_type.name n) full_share (v.bytes, tt) b o
as_tuple v b o =
    let D = the_type in Recorded-part (Struct (shape D)) D.D D.to D.to_one full_share v b o

module _ {M : Type 1} {𝓤 : Ura M} (𝓛 : Logic 𝓤) (b o : ℕ) where
  -- what is left of the struct while its field is out
  abbrev pub Left : SProp 𝓤
  Left = array.Left the_type.name n 𝓛 b o

  abbrev pub Bytes : S.Denot → SProp 𝓤
  Bytes v = sep 𝓤 (sem 𝓛 (cells (mem u8) v.bytes b (start o))) Left

  pub elements_out : (v : S.Denot) → ent 𝓤 (sem 𝓛 ((mem S).own_at v b o)) (guard 𝓤 (length v.bytes ≡ n) (Bytes v))
  elements_out v = subst (λ (f : Fml). ent 𝓤 (sem 𝓛 f) (guard 𝓤 (length v.bytes ≡ n) (Bytes v))) (sym (as_tuple v b o)) (array.bytes_out the_type.name n 𝓛 b o v.bytes)

  pub elements_in : (v : S.Denot) → length v.bytes ≡ n → ent 𝓤 (Bytes v) (sem 𝓛 ((mem S).own_at v b o))
  elements_in v long = subst (λ (f : Fml). ent 𝓤 (Bytes v) (sem 𝓛 f)) (sym (as_tuple v b o)) (array.bytes_in the_type.name n 𝓛 b o v.bytes long)
