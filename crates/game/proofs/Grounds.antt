-- A ground that keeps the law: what its derivations show. The clause ground and the cube ground keep it.
use Rattle.std.proofs.Common.{◌≡◌, ℕ, ◌≤◌, Bool, true, false, cond, not, ◌&&◌, eqb, List, [], ◌∷◌, length, sym, refl, ◌∙◌, subst, inl, inr, arith}
use Rattle.std.proofs.lemmas.Bool.{and_parts, and_from, or_cases, or_left, or_right, eqb-true, ne_eqb, not_from_false, and_left, and_right}
use Rattle.formula.specs.declared.letter.Letter.TheVariants.{Universal, Existential}
use Rattle.formula.specs.declared.letter.Literal.{Literal}
use Rattle.formula.specs.Formula.{Formula, row_bound, WellFormed}
use Rattle.game.specs.Records.{Side, Record}
use Rattle.game.specs.Rules.{Origin, Leaf, Resolve, Reduce, Step, origin_of, marks_of, Allowed, Derivation}
use Rattle.game.specs.Plays.{all_steps, wholly, Fair, Lowest, Verdict, LeafMet, is_leaf, meets_leaf, witness}
use Rattle.game.specs.Game.{value, leaf_met, Order, LawOnRecords, Run}
use Rattle.game.specs.Prefix.{meeting_value}
use Rattle.game.specs.Leaves.{rising, each_literal, literals, all_plain}
use Rattle.game.specs.Grounds.{Ground, leaf_over, side_of, order_of, KeepsLaw, admitted_record, calculus_of, WonWithWitness, EmptyRecordWins, some_literal, some_row, each_row, same_sign, same_literal, has_literal, row_false, clause_ground, cube_ground, GroundsRight}
use Rattle.game.proofs.Leaves.{rising_above, met_same}
use Rattle.game.proofs.Prefix.{prefix_ordered}
use Rattle.game.proofs.Leaf.{witness_in_words}
use Rattle.game.proofs.Game.{all_looked_at, leaf_from, own_side_wins, played_out}

-- the parts of what it is to be the record of an admitted leaf
record Admitted (G : Ground) (r : Record) : Type 0 where
  leaf : leaf_over G.formula (literals r) ≡ true
  rises : rising 0 (literals r) ≡ true
  admits : G.admits (literals r) ≡ true

admitted_parts : (G : Ground) (r : Record) → admitted_record G r ≡ true → Admitted G r
admitted_parts G r a =
    let (plain, rest) = and_parts (all_plain r) (leaf_over G.formula (literals r) && G.admits (literals r)) a in
    let (leaf, adm) = and_parts (leaf_over G.formula (literals r)) (G.admits (literals r)) rest in
    let (bound, up) = and_parts (row_bound (order_of G) (literals r)) (rising 0 (literals r)) leaf in
    record { leaf = leaf; rises = up; admits = adm }

law_on_records : (G : Ground) → KeepsLaw G → LawOnRecords (side_of G) G.formula.size (admitted_record G) G.won
law_on_records G law r p a long full met =
    let h : Admitted G r = admitted_parts G r a in
    law (literals r) p h.leaf h.admits long full (sym (met_same (side_of G) (value p) 0 r (rising_above 0 r h.rises)) ∙ met)

leaf_told : (h : Origin) → is_leaf h ≡ true → h ≡ Leaf
leaf_told Leaf e = refl
leaf_told (Resolve p i j) e = let z : ◌≡◌ {A = ℕ} 0 1 = cc in absurd (omega arith)
leaf_told (Reduce j) e = let z : ◌≡◌ {A = ℕ} 0 1 = cc in absurd (omega arith)

module _ (G : Ground) (formed : WellFormed G.formula) (law : KeepsLaw G) (D : List Step)
    (ok : Derivation (side_of G) (calculus_of G) D) (u : ℕ) (lo : 1 ≤ u) (hi : u ≤ length D) (e : marks_of D u ≡ []) where
  ordered : Order (side_of G) G.formula.size (order_of G) × Fair (side_of G)
  ordered = prefix_ordered G.own G.formula.blocks G.formula.size formed.in_size formed.once

  played : (p : List ℕ) → Run (side_of G) D all_steps u G.formula.size (order_of G) [] p → WonWithWitness G D u p
  played p r =
      let S : Side = side_of G in
      let end : Verdict D all_steps u = all_looked_at D u lo hi e in
      let m : LeafMet (side_of G) D all_steps u (value p) × (G.won p ≡ true)
      = played_out (side_of G) ordered.1 (calculus_of G) D ok all_steps u end G.formula.size (order_of G) ordered.0 G.won (law_on_records G law) p r in
      let w : ℕ = witness (side_of G) D all_steps u (value p) in
      let low : Lowest (meets_leaf (side_of G) D all_steps (value p)) u w = witness_in_words (side_of G) D all_steps u (value p) m.0 in
      let (told, whole) = and_parts (is_leaf (origin_of D w)) (wholly (side_of G) D (value p) w) low.passes in
      let o : origin_of D w ≡ Leaf = leaf_told (origin_of D w) told in
      let adm : admitted_record G (marks_of D w) ≡ true
      = subst (λ h. Allowed (side_of G) (calculus_of G) D w h (marks_of D w)) o (ok w low.low (let b = low.high in omega arith)) in
      let h : Admitted G (marks_of D w) = admitted_parts G (marks_of D w) adm in
      let as_leaf : wholly (side_of G) D (value p) w ≡ leaf_met (side_of G) (value p) (marks_of D w)
      = leaf_from (side_of G) ordered.1 (calculus_of G) D ok all_steps u hi G.formula.size (order_of G) ordered.0 (value p) w low.low (let b = low.high in omega arith) o in
      record {
        lowest_met = low;
        admitted = h.admits;
        met = sym (met_same (side_of G) (value p) 0 (marks_of D w) (rising_above 0 (marks_of D w) h.rises)) ∙ sym as_leaf ∙ whole;
        won = m.1;
      }

pub empty_record_wins : EmptyRecordWins
empty_record_wins = record {
  wins = λ G formed law D ok u lo hi e.
      let o = ordered G formed law D ok u lo hi e in
      own_side_wins (side_of G) o.1 (calculus_of G) D ok u lo hi e G.formula.size (order_of G) o.0 G.won (law_on_records G law);
  played = played;
}

-- ---- the two grounds

same_sign_true : (a b : Bool) → same_sign a b ≡ true → a ≡ b
same_sign_true true true h = refl
same_sign_true true false h = cc
same_sign_true false true h = cc
same_sign_true false false h = refl

-- what holds of every literal of ls holds of each that ls has
of_each : (f : ℕ → Bool → Bool) (ls : List Literal) (l : Literal) → has_literal ls l ≡ true
    → each_literal (λ k. f k.variable k.positive) ls ≡ true → f l.variable l.positive ≡ true
unfolding some_literal each_literal
of_each f [] l h e = cc
of_each f (k ∷ ls) l h e =
    let (a, b) = and_parts (f k.variable k.positive) (each_literal (λ k. f k.variable k.positive) ls) e in
    elim (or_cases (same_literal l k) (some_literal (same_literal l) ls) h) [
      | inl s ↦
          let (v, g) = and_parts (eqb l.variable k.variable) (same_sign l.positive k.positive) s in
          let ev : l.variable ≡ k.variable = eqb-true _ _ v in
          let eg : l.positive ≡ k.positive = same_sign_true _ _ g in
          rw (ev, eg) a
      | inr s ↦ of_each f ls l s b
    ]

false_met : (v : ℕ) (s : Bool) → eqb v (meeting_value Universal s) ≡ eqb v (cond s 0 1)
false_met v true = refl
false_met v false = refl

-- a row whose literals are all among those of a met leaf is false
row_is_false : (p : List ℕ) (ls r : List Literal) → each_literal (has_literal ls) r ≡ true
    → each_literal (λ k. eqb (value p k.variable) (meeting_value Universal k.positive)) ls ≡ true → row_false p r ≡ true
unfolding each_literal
row_is_false p ls [] h met = refl
row_is_false p ls (l ∷ r) h met =
    let (a, b) = and_parts (has_literal ls l) (each_literal (has_literal ls) r) h in
    and_from _ _ (sym (false_met _ l.positive) ∙ of_each (λ x s. eqb (value p x) (meeting_value Universal s)) ls l a met) (row_is_false p ls r b met)

some_is_false : (p : List ℕ) (ls : List Literal) (rs : List (List Literal))
    → some_row (λ r. each_literal (has_literal r) ls && each_literal (has_literal ls) r) rs ≡ true
    → each_literal (λ k. eqb (value p k.variable) (meeting_value Universal k.positive)) ls ≡ true → some_row (row_false p) rs ≡ true
unfolding some_row
some_is_false p ls [] h met = h
some_is_false p ls (r ∷ rs) h met = elim (or_cases _ _ h) [
  | inl s ↦ or_left _ _ (row_is_false p ls r (and_parts (each_literal (has_literal r) ls) (each_literal (has_literal ls) r) s).1 met)
  | inr s ↦ or_right _ _ (some_is_false p ls rs s met)
]

pub clause_law : (F : Formula) → KeepsLaw (clause_ground F)
clause_law F ls p leaf adm long full met = some_is_false p ls F.rows (and_parts (leaf_over F ls) _ adm).1 met

true_not_false : (v : ℕ) (s : Bool) → eqb v (meeting_value Existential s) ≡ true → eqb v (cond s 0 1) ≡ false
true_not_false v true h = let e : v ≡ 1 = eqb-true v 1 h in ne_eqb v 0 (λ z. omega arith)
true_not_false v false h = let e : v ≡ 0 = eqb-true v 0 h in ne_eqb v 1 (λ z. omega arith)

-- a row with one of the literals of a met leaf is not false
row_not_false : (p : List ℕ) (ls r : List Literal) → some_literal (has_literal ls) r ≡ true
    → each_literal (λ k. eqb (value p k.variable) (meeting_value Existential k.positive)) ls ≡ true → row_false p r ≡ false
unfolding each_literal some_literal
row_not_false p ls [] h met = sym h
row_not_false p ls (l ∷ r) h met = elim (or_cases (has_literal ls l) (some_literal (has_literal ls) r) h) [
  | inl s ↦ and_left _ _ (true_not_false _ l.positive (of_each (λ x s. eqb (value p x) (meeting_value Existential s)) ls l s met))
  | inr s ↦ and_right _ _ (row_not_false p ls r s met)
]

none_is_false : (p : List ℕ) (ls : List Literal) (rs : List (List Literal)) → each_row (λ r. some_literal (has_literal ls) r) rs ≡ true
    → each_literal (λ k. eqb (value p k.variable) (meeting_value Existential k.positive)) ls ≡ true → each_row (λ r. not (row_false p r)) rs ≡ true
unfolding each_row
none_is_false p ls [] h met = refl
none_is_false p ls (r ∷ rs) h met =
    let (a, b) = and_parts (some_literal (has_literal ls) r) (each_row (λ r. some_literal (has_literal ls) r) rs) h in
    and_from _ _ (not_from_false _ (row_not_false p ls r a met)) (none_is_false p ls rs b met)

pub cube_law : (F : Formula) → KeepsLaw (cube_ground F)
cube_law F ls p leaf adm long full met = none_is_false p ls F.rows (and_parts (leaf_over F ls) _ adm).1 met

pub grounds_right : GroundsRight
grounds_right = record {
  clause_law = clause_law;
  cube_law = cube_law;
  clause_false = λ F formed D ok u lo hi e. empty_record_wins.wins (clause_ground F) formed (clause_law F) D ok u lo hi e;
  cube_true = λ F formed D ok u lo hi e. empty_record_wins.wins (cube_ground F) formed (cube_law F) D ok u lo hi e;
}
