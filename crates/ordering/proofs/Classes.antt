-- The pass table and equality of classes.
use Rattle.std.proofs.Common.{◌≡◌, true, false, refl}
use Rattle.ordering.specs.Ordering.{Class, passes, same_class}

-- no packet passes one of its own class
pub passes-same_class : (c d : Class) → passes c d ≡ true → same_class c d ≡ false
passes-same_class Class.Posted Class.Posted e = cc
passes-same_class Class.NonPosted Class.NonPosted e = cc
passes-same_class Class.Completion Class.Completion e = cc
passes-same_class Class.Posted Class.NonPosted e = refl
passes-same_class Class.Posted Class.Completion e = refl
passes-same_class Class.NonPosted Class.Posted e = refl
passes-same_class Class.NonPosted Class.Completion e = refl
passes-same_class Class.Completion Class.Posted e = refl
passes-same_class Class.Completion Class.NonPosted e = refl

pub same_class_same : (c : Class) → same_class c c ≡ true
same_class_same Class.Posted = refl
same_class_same Class.NonPosted = refl
same_class_same Class.Completion = refl

pub same_class-true : (c d : Class) → same_class c d ≡ true → d ≡ c
same_class-true Class.Posted Class.Posted e = refl
same_class-true Class.NonPosted Class.NonPosted e = refl
same_class-true Class.Completion Class.Completion e = refl
same_class-true Class.Posted Class.NonPosted e = cc
same_class-true Class.Posted Class.Completion e = cc
same_class-true Class.NonPosted Class.Posted e = cc
same_class-true Class.NonPosted Class.Completion e = cc
same_class-true Class.Completion Class.Posted e = cc
same_class-true Class.Completion Class.NonPosted e = cc
