use Rattle.std.proofs.Common.{arith, rules, tests, sym, length-take, ◌≡◌, take, true, false, None, Some}
use Rattle.std.proofs.lemmas.Iterator.{YieldsList-from_slice, IsFirst-from_position}
use Rattle.parts.specs.Search.{found_first, found_as}
use Rattle.parts.proofs.slots.first_index.Goals as goal

-- by each case of what `position` came to, so that the clause is seen with its case
pub returns-in-Some : goal.returns-in-Some
returns-in-Some g c = λ p h.
    let xs = take c.args.len c.args.slots.now in
    let at = IsFirst-from_position _ _ (Some c.in-Some.i) (λ x. p x ≡ true) (λ x. p x ≡ false) c.in-Some.ensures.ran (YieldsList-from_slice xs cc)
    (λ x q k. sym (h.each x true (search (rules, tests)))) (λ x q k. (search (rules, tests), sym (h.each x false (search (rules, tests))))) in
    found_as p xs c.in-Some.i _ (omega (arith, at.0, length-take c.args.len c.args.slots.now)) (found_first p xs (Some c.in-Some.i) at)

pub returns : goal.returns
returns g c = λ p h.
    let xs = take c.args.len c.args.slots.now in
    found_first p xs None
    (IsFirst-from_position _ _ None (λ x. p x ≡ true) (λ x. p x ≡ false) c.in-None.ensures.ran (YieldsList-from_slice xs cc)
    (λ x q k. sym (h.each x true (search (rules, tests)))) (λ x q k. (search (rules, tests), sym (h.each x false (search (rules, tests))))))
