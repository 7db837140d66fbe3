-- Steps that the rules allow leave a derivation over the ground.
use Rattle.std.proofs.Common.{◌≡◌, ℕ, pred, ◌+◌, ◌≤◌, true, ◌&&◌, List, [], ◌∷◌, length, Ok, sym, subst, inl, inr, arith}
use Rattle.std.proofs.lemmas.Bool.{cases_eq, and_parts, and_from}
use Rattle.std.proofs.lemmas.List.{get_or_push, length_push}
use Rattle.formula.specs.declared.letter.Literal.{Literal}
use Rattle.formula.specs.Formula.{row_bound}
use Rattle.game.specs.Records.{Record, IsRecord, Above}
use Rattle.game.specs.Rules.{Origin, Leaf, Resolve, Reduce, Step, no_step, marks_of, Resolvent, Reduct, Allowed}
use Rattle.game.specs.Leaves.{rising, marked, all_plain}
use Rattle.game.specs.Functions.{resolve_rule, reduce_rule}
use Rattle.game.specs.Grounds.{Ground, leaf_over, side_of, order_of, admitted_record, calculus_of}
use Rattle.game.specs.Steps.{entered, Sound, StepsEnter}
use Rattle.game.proofs.Growth.{growth, same_step}
use Rattle.game.proofs.Leaves.{literals_marked, marked_plain}
use Rattle.game.proofs.RulesAgree.{rules_agree, pivot_opponents}

module _ (G : Ground) (D : List Step) (s : Sound G D) where
  one_more : (o : Origin) (r : Record) → Allowed (side_of G) (calculus_of G) D (length D + 1) o r → IsRecord (side_of G) r → Sound G (entered D o r)
  one_more o r a up =
      record {
        derives = growth.one_more (side_of G) (calculus_of G) D s.derives (record { origin = o; marks = r }) a;
        records = λ k lo hi. elim (cases_eq k (length D + 1)) [
          | inl q ↦ subst (λ (t : Step). IsRecord (side_of G) t.marks) (sym (get_or_push D (record { origin = o; marks = r }) no_step (pred k) (omega arith))) up
          | inr d ↦
              let le : k ≤ length D = omega (arith, length_push D (record { origin = o; marks = r })) in
              subst (λ (t : Step). IsRecord (side_of G) t.marks) (sym (same_step D (record { origin = o; marks = r } ∷ []) k lo le)) (s.records k lo le)
        ];
      }

  by_leaf : (ls : List Literal) → leaf_over G.formula ls ≡ true → G.admits ls ≡ true → Sound G (entered D Leaf (marked ls))
  by_leaf ls leaf adm =
      let up : rising 0 ls ≡ true = (and_parts (row_bound (order_of G) ls) (rising 0 ls) leaf).1 in
      let a : admitted_record G (marked ls) ≡ true
      = and_from (all_plain (marked ls)) _ (marked_plain ls)
      (subst (λ (k : List Literal). (leaf_over G.formula k && G.admits k) ≡ true) (sym (literals_marked ls)) (and_from _ _ leaf adm)) in
      one_more Leaf (marked ls) a (rules_agree.leaf_is (side_of G) ls up)

  by_resolve : (p i j : ℕ) → 1 ≤ i → i ≤ length D → 1 ≤ j → j ≤ length D
      → (out : Record) → resolve_rule (side_of G) p (marks_of D i) (marks_of D j) ≡ Ok out → Sound G (entered D (Resolve p i j) out)
  by_resolve p i j li hi lj hj out e =
      let ri : IsRecord (side_of G) (marks_of D i) = s.records i li hi in
      let rj : IsRecord (side_of G) (marks_of D j) = s.records j lj hj in
      let h : Resolvent (side_of G) p (marks_of D i) (marks_of D j) out × Above 0 out
      = (rules_agree.resolves (side_of G) p (marks_of D i) (marks_of D j) out ri.rises rj.rises).0 e in
      one_more (Resolve p i j) out
      (record {
        first_there = li;
        first_before = omega arith;
        second_there = lj;
        second_before = omega arith;
        may = pivot_opponents (side_of G) p (marks_of D i) (marks_of D j) out h.0;
        joins = h.0.joins;
      })
      (rules_agree.resolved_is (side_of G) p (marks_of D i) (marks_of D j) out ri rj e)

  by_reduce : (j : ℕ) → 1 ≤ j → j ≤ length D
      → (out : Record) → reduce_rule (side_of G) (marks_of D j) ≡ Ok out → Sound G (entered D (Reduce j) out)
  by_reduce j lj hj out e =
      let rj : IsRecord (side_of G) (marks_of D j) = s.records j lj hj in
      let h : Reduct (side_of G) (marks_of D j) out × Above 0 out = (rules_agree.reduces (side_of G) (marks_of D j) out rj.rises).0 e in
      one_more (Reduce j) out (record { there = lj; before = omega arith; reduct = h.0 })
      (rules_agree.reduced_is (side_of G) (marks_of D j) out rj e)

pub steps_enter : StepsEnter
steps_enter = record {
  none = λ G. record { derives = λ k lo hi. absurd (omega arith); records = λ k lo hi. absurd (omega arith) };
  leaf = by_leaf;
  resolve = by_resolve;
  reduce = by_reduce;
}
