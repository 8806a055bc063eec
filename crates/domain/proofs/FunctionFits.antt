-- What a function does with a request fits the bytes of that.
use Rattle.std.proofs.Common.{◌≡◌, ℕ, Bool, true, false, cond, List, Option, Some, None, refl, subst, inr}
use Rattle.std.specs.Prelude.{◌&&◌, option_map}
use Rattle.fab_types.specs.declared.class.Class.{Class}
use Rattle.fab_types.specs.declared.class.Class.TheVariants.{Posted, NonPosted, Completion}
use Rattle.function.specs.Accesses.{IsAccess}
use Rattle.host_memory.specs.Pages.{page_of}
use Rattle.platform.specs.Share.{Share}
use Rattle.platform.specs.Owners.{bar_of}
use Rattle.tlp_view.specs.Bytes.{packet_of}
use Rattle.tlp_view.specs.Kinds.{class_of_kind}
use Rattle.tlp_view.specs.Malformed.{malformed}
use Rattle.request_handling.specs.declared.handling.Effect.{Effect}
use Rattle.request_handling.specs.declared.handling.Effect.TheVariants.{Leave, Block, Store, Add, Access}
use Rattle.request_handling.specs.declared.handling.Handling.{Handling}
use Rattle.request_handling.specs.Answers.{address_of, function_answer, function_refusal}
use Rattle.request_handling.specs.AtFunctions.{access_of, is_access, lies_in, or_discarded, request_at_function, unserved}
use Rattle.request_handling.specs.Emissions.{Emission}
use Rattle.request_handling.proofs.WellMadeLemmas.{is_an_access}
use Rattle.domain_state.specs.Ends.{BytesFit, EffectFits}

abbrev some : {A : Type 0} → A → Option A
some x = Some x

some_is : {A : Type 0} (x y : A) → some x ≡ some y → x ≡ y
some_is x y e = cc

abbrev pub Fits : List ℕ → Handling → Type 0
Fits b a = BytesFit b a.effect

-- what fits its bytes fits a packet in flight
pub effect_fits : (e : Emission) (d : Effect) → BytesFit e.bytes d → EffectFits e d
effect_fits e Leave h = tt
effect_fits e Block h = tt
effect_fits e (Store k first) h = h
effect_fits e (Add k first) h = h
effect_fits e (Access g) h = inr h

pub or_fits : (b : List ℕ) (o : Option Handling) → ((a : Handling) → o ≡ Some a → Fits b a) → Fits b (or_discarded o)
or_fits b None of = tt
or_fits b (Some a) of = of a refl

pub unserved_fits : (b : List ℕ) (class : Class) (e : Emission) → Fits b (unserved class e)
unserved_fits b Posted e = tt
unserved_fits b NonPosted e = tt
unserved_fits b Completion e = tt

pub either_fits : (b : List ℕ) (test : Bool) (x y : Handling) → (test ≡ true → Fits b x) → Fits b y → Fits b (cond test x y)
either_fits b true x y of_x of_y = of_x refl
either_fits b false x y of_x of_y = of_y

pub both-first : (a b : Bool) → (a && b) ≡ true → a ≡ true
both-first true b e = refl
both-first false b e = absurd cc

access_fits : (share : Share) (b : List ℕ) (g : ℕ) (page : Option (List ℕ)) (a : Handling) → malformed b ≡ None → IsAccess (packet_of b)
    → option_map (λ (bytes : List ℕ). record { effect = Access g; reply = function_answer share g bytes (packet_of b) }) page ≡ Some a → Fits b a
access_fits share b g None a good is e = absurd cc
access_fits share b g (Some bytes) a good is e = subst (Fits b) (some_is _ a e) (good, is)

pub at_function_fits : (share : Share) (registers : List (ℕ × List ℕ)) (g : ℕ) (b : List ℕ) → malformed b ≡ None → Fits b (request_at_function share registers g (packet_of b))
at_function_fits share registers g b good =
    let t = packet_of b in
    let lies = lies_in (bar_of share.functions g) (address_of t) in
    either_fits b (is_access t && lies) (or_discarded (access_of share registers g t)) (unserved (class_of_kind t.kind) (function_refusal share g t))
    (λ is. or_fits b (access_of share registers g t) (λ a made. access_fits share b g (page_of registers g) a good (is_an_access t (both-first (is_access t) lies is)) made))
    (unserved_fits b (class_of_kind t.kind) (function_refusal share g t))
