-- `find` meets its contract: the first place is the one that `position` finds. Assumes nothing.
use Rattle.std.proofs.Common.{rules, tests, ◌≡◌, ◌≤◌, ◌+◌, ◌∙◌, ℕ, length, drop, eqb, ap, arith, length-drop}
use Rattle.std.proofs.lemmas.List.{take_all}
use Rattle.std.proofs.lemmas.Iterator.{YieldsList-from_slice}
use Rattle.std.proofs.lemmas.Iterator.Search.{position_from_yields_List}
use Rattle.circuits_text.specs.Reading.{before}
use Rattle.circuits_text.proofs.Split.{found_place, found_nowhere, before_within}
use Rattle.circuits_text.proofs.find.Goals as goal

pub returns-in-Some-clause-found : goal.returns-in-Some-clause-found
returns-in-Some-clause-found c =
    let rest = drop c.args.at c.args.s.now in
    let is : c.iter.result.rest.now ≡ rest = c.iter.ensures.rest ∙ take_all _ rest (omega (arith, length-drop c.args.at c.args.s.now)) in
    ap (λ (n : ℕ). c.args.at + n)
    (found_place c.args.c rest c.in-Some.n
    (position_from_yields_List (λ (b : ℕ). eqb b c.args.c) _ _ _ c.in-Some.ensures.ran (YieldsList-from_slice rest is) (λ x b q k. search (rules, tests))))

pub returns-in-None-clause-found : goal.returns-in-None-clause-found
returns-in-None-clause-found c =
    let rest = drop c.args.at c.args.s.now in
    let is : c.iter.result.rest.now ≡ rest = c.iter.ensures.rest ∙ take_all _ rest (omega (arith, length-drop c.args.at c.args.s.now)) in
    let all : length rest ≤ length (before c.args.c rest) =
    found_nowhere c.args.c rest
    (position_from_yields_List (λ (b : ℕ). eqb b c.args.c) _ _ _ c.in-None.ensures.ran (YieldsList-from_slice rest is) (λ x b q k. search (rules, tests))) in
    omega (arith, all, before_within c.args.c rest, length-drop c.args.at c.args.s.now)
