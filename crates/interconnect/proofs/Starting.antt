-- What a layout says of the start: the credits that its links begin with may be advertised.
use Rattle.std.proofs.Common.{◌≡◌, ℕ, ◌+◌, ◌<◌, ◌≤◌, Bool, true, false, cond, Option, Some, None, refl, arith, subst}
use Rattle.std.specs.Prelude.{◌==◌}
use Rattle.std.specs.List.{find, list_all}
use Rattle.std.proofs.lemmas.Bool.{leb-true}
use Rattle.credit.specs.Kinds.{Class, Kind}
use Rattle.credit.specs.Limits.{MayStart}
use Rattle.platform.specs.declared.parts.CreditLimits.{CreditLimits}
use Rattle.platform.specs.declared.parts.CreditLine.{CreditLine}
use Rattle.layout.specs.Laws.{is_good_credit}
use Rattle.platform.specs.Platform.{Platform}
use Rattle.layout.specs.Rules.{is_within}
use Rattle.platform.specs.Tree.{is_taken}
use Rattle.layout.specs.Views.{credits_of, limits_or_usual}
use Rattle.platform.proofs.Bools.{all-found, and-first, and-second}
use Rattle.interconnect.specs.Starts.{AreFew, counters_of}

pub few_may_start : (limits : CreditLimits) → AreFew limits → MayStart (counters_of limits)
few_may_start limits few (Kind.Headers Class.Posted) = few.posted_headers
few_may_start limits few (Kind.Headers Class.NonPosted) = few.non_posted_headers
few_may_start limits few (Kind.Headers Class.Completion) = few.completion_headers
few_may_start limits few (Kind.Data Class.Posted) = few.posted_data
few_may_start limits few (Kind.Data Class.NonPosted) = few.non_posted_data
few_may_start limits few (Kind.Data Class.Completion) = few.completion_data

below : (least most n : ℕ) → is_within least most n ≡ true → n < most + 1
below least most n h = let e : n ≤ most = leb-true _ _ (and-second _ _ h) in omega arith

good_are_few : (line : CreditLine) → is_good_credit line ≡ true → AreFew line.limits
good_are_few line h =
    let five = and-first _ _ h in
    let four = and-first _ _ five in
    let three = and-first _ _ four in
    let two = and-first _ _ three in
    record {
      posted_headers = below 1 127 _ (and-first _ _ two);
      posted_data = below 16 2047 _ (and-second _ _ two);
      non_posted_headers = below 1 127 _ (and-second _ _ three);
      non_posted_data = below 16 2047 _ (and-second _ _ four);
      completion_headers = below 1 127 _ (and-second _ _ five);
      completion_data = below 16 2047 _ (and-second _ _ h);
    }

found_are_few : (found : Option CreditLine) → ((line : CreditLine) → found ≡ Some line → is_good_credit line ≡ true) → AreFew (limits_or_usual found)
found_are_few None good = record { posted_headers = omega arith; posted_data = omega arith; non_posted_headers = omega arith; non_posted_data = omega arith; completion_headers = omega arith; completion_data = omega arith }
found_are_few (Some line) good = good_are_few line (good line refl)

given_are_few : (taken : Bool) (limits given : CreditLimits) → Some given ≡ cond taken (Some limits) None → AreFew limits → AreFew given
given_are_few true limits given e few = let same : limits ≡ given = cc in subst AreFew same few
given_are_few false limits given e few = absurd cc

-- each link's credits may be advertised
pub few : (platform : Platform) (lower : ℕ) (limits : CreditLimits) → list_all is_good_credit platform.credits ≡ true → Some limits ≡ credits_of platform lower → AreFew limits
few platform lower limits good e =
    let found : Option CreditLine = find (λ line. line.id == lower) platform.credits in
    given_are_few (is_taken platform.switches platform.functions lower) (limits_or_usual found) limits e
    (found_are_few found (λ line is. all-found (λ (l : CreditLine). l.id == lower) is_good_credit platform.credits line is good))
