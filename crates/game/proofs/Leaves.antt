-- Leaves as lists of literals and as records: what passes between them.
use Rattle.std.proofs.Common.{◌≡◌, ℕ, Bool, true, false, ltb, List, [], ◌∷◌, refl, ap, ◌∙◌, arith}
use Rattle.std.proofs.lemmas.Bool.{ltb-true, and_parts}
use Rattle.formula.specs.declared.letter.Literal.{Literal}
use Rattle.game.specs.Records.{Side, Mark, Plus, Minus, Star, absent, has, Record, found, named, each_var, Above}
use Rattle.game.specs.Plays.{meets}
use Rattle.game.specs.Game.{sign, leaf_met}
use Rattle.game.specs.Leaves.{rising, each_literal, all_met, mark_from, sign_from, marked, literals, is_plain, all_plain}
use Rattle.game.proofs.Records.{each_same}
use Rattle.game.proofs.Merge.{above_absent, found_here, found_there}

sign_back : (b : Bool) → sign_from (mark_from b) ≡ b
sign_back true = refl
sign_back false = refl

pub literals_marked : (ls : List Literal) → literals (marked ls) ≡ ls
unfolding literals marked
literals_marked [] = refl
literals_marked (l ∷ ls) = rw (sign_back l.positive, literals_marked ls)

plain_from : (b : Bool) → is_plain (mark_from b) ≡ true
plain_from true = refl
plain_from false = refl

pub marked_plain : (ls : List Literal) → all_plain (marked ls) ≡ true
unfolding all_plain marked
marked_plain [] = refl
marked_plain (l ∷ ls) = rw (plain_from l.positive, marked_plain ls)

pub rising_above : (a : ℕ) (r : Record) → rising a (literals r) ≡ true → Above a r
unfolding literals rising
rising_above a [] h = tt
rising_above a (e ∷ r) h =
    let (l, rest) = and_parts (ltb a e.variable) (rising e.variable (literals r)) h in
    (ltb-true a e.variable l, rising_above e.variable r rest)

sign_of : (m : Mark) → sign (has m) ≡ sign_from m
sign_of Plus = refl
sign_of Minus = refl
sign_of Star = refl

-- a rising leaf is met as a record exactly where its literals are met
pub met_same : (S : Side) (v : ℕ → ℕ) (a : ℕ) (r : Record) → Above a r → leaf_met S v r ≡ all_met S v (literals r)
unfolding each_var literals each_literal
met_same S v a [] up = refl
met_same S v a (e ∷ r) up =
    let here : meets S v e.variable (sign (found (e ∷ r) e.variable)) ≡ meets S v e.variable (sign_from e.mark)
    = ap (meets S v e.variable) (ap sign (found_here e r e.variable refl) ∙ sign_of e.mark) in
    let rest : each_var (λ x. meets S v x (sign (found (e ∷ r) x))) r ≡ leaf_met S v r
    = each_same _ _ r (λ x n. ap (λ f. meets S v x (sign f)) (found_there e r x (λ q. not_named x q n))) in
    let more : leaf_met S v r ≡ all_met S v (literals r) = met_same S v e.variable r up.1 in
    rw (here, rest, more)
  where
    not_named : (x : ℕ) → e.variable ≡ x → named r x ≡ true → ⊥
    not_named x q n = let f : found r x ≡ absent = above_absent e.variable x r (omega arith) up.1 in let z : ◌≡◌ {A = ℕ} 0 1 = cc in omega arith
