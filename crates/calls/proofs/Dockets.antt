-- The dockets that calls lead to: what the tests of a call say in the words of the rules, and how a fact is shown of all such dockets.
use Rattle.std.proofs.Common.{◌≡◌, ℕ, ◌+◌, ◌<◌, ◌≤◌, Bool, true, false, cond, not, ◌&&◌, leb, ◌↔◌, List, length, Ok, Err, Result, refl, arith}
use Rattle.std.proofs.lemmas.Bool.{and_parts, and_from, not-true, ltb-true, leb-true, lt-ltb, le-leb}
use Rattle.refusal.specs.declared.Layer.{Layer}
use Rattle.refusal.specs.declared.Layer.TheVariants.{Docket as any_layer}
use Rattle.formula.specs.declared.letter.Literal.{Literal}
use Rattle.formula.specs.Prefix.{order}
use Rattle.formula.specs.Formula.{row_bound}
use Rattle.game.specs.declared.record.Origin.{Origin}
use Rattle.game.specs.declared.record.Origin.TheVariants.{Leaf, Resolve, Reduce}
use Rattle.game.specs.Records.{Record, some_var, over, Above}
use Rattle.game.specs.Rules.{marks_of, Resolves, Reduces, Allowed}
use Rattle.game.specs.Leaves.{rising, marked, all_plain}
use Rattle.game.specs.Functions.{opponents, pivot_marks, opponents_agree, clashes_above, resolved, resolve_rule, reduced, reduce_rule}
use Rattle.game.specs.Grounds.{Ground, leaf_over, side_of, admitted_record, calculus_of}
use Rattle.game.specs.Steps.{entered, Sound}
use Rattle.game.proofs.Leaves.{literals_marked, marked_plain}
use Rattle.game.proofs.RulesAgree.{rules_agree}
use Rattle.game.proofs.Steps.{steps_enter}
use Rattle.ground.specs.Admits.{admits_leaf}
use Rattle.calls.specs.Tests.{AllHold}
use Rattle.calls.specs.Dockets.{Docket, opened, all_marks, same_size, has_step, room_tests, with_step, leaf_tests, resolve_tests, reduce_tests, close_tests}
use Rattle.calls.specs.Runs.{Acts, by_leaf, by_resolve, by_reduce, by_close, Reached, new, acted}
use Rattle.calls.specs.Exact.{MayEnter}
use Rattle.calls.proofs.Tests.{after}

-- ---- what single tests say

-- a test that stands before an answer
answered : {A E : Type 0} (b : Bool) (x : Result A E) (e : E) (a : A) → cond b x (Err e) ≡ Ok a → (b ≡ true) × (x ≡ Ok a)
answered true x e a h = (refl, h)
answered false x e a h = let z : ◌≡◌ {A = ℕ} 0 1 = cc in absurd (omega arith)

pub has_step_told : (D : Docket) (k : ℕ) → (has_step D k ≡ true) ↔ ((1 ≤ k) × (k ≤ length D.steps))
has_step_told D k = (
  λ h. let (lo, hi) = and_parts (leb 1 k) (leb k (length D.steps)) h in (leb-true _ _ lo, leb-true _ _ hi),
  λ h. and_from _ _ (le-leb _ _ h.0) (le-leb _ _ h.1),
)

-- the two tests of the room say, in every layer, that the tables hold one more step with the record r
pub room_told : (layer : Layer) (D : Docket) (r : Record) → AllHold (room_tests layer D r)
    ↔ ((length D.steps < D.step_room) × (length (all_marks D.steps) + length r ≤ D.mark_room))
room_told layer D r = (
  λ t. (ltb-true _ _ t.0, leb-true _ _ t.1.0),
  λ f. (lt-ltb _ _ f.0, (le-leb _ _ f.1, tt)),
)

-- ---- the tests of a call, and the rules

-- a step that a call enters: it may be entered, and the steps are sound with it
pub record Accepted (G : Ground) (D : Docket) (o : Origin) (r : Record) : Type 0 where
  pub may : MayEnter G D o r
  pub sound : Sound G (entered D.steps o r)

-- From the tests to the rules: the step of a call that passes its tests is accepted. And back: a step that may be entered passes the
-- tests of its call, and its record is the one that the call makes.
module _ (G : Ground) (D : Docket) (s : Sound G D.steps) where
  may_enter : (o : Origin) (r : Record) → same_size G.formula G D ≡ true → AllHold (room_tests any_layer D r)
      → Allowed (side_of G) (calculus_of G) D.steps (length D.steps + 1) o r → Above 0 r → MayEnter G D o r
  may_enter o r same room allowed up =
      let fits = (room_told any_layer D r).0 room in
      record { sizes = same; allowed = allowed; rises = up; step_fits = fits.0; marks_fit = fits.1 }

  room_back : {o : Origin} {r : Record} → MayEnter G D o r → AllHold (room_tests any_layer D r)
  room_back {o} {r} m = (room_told any_layer D r).1 (m.step_fits, m.marks_fit)

  pub leaf_accepted : (ls : List Literal) → AllHold (leaf_tests G.formula G D ls) → Accepted G D Leaf (marked ls)
  leaf_accepted ls (same, (bound, (up, (adm, room)))) =
      let (leaf, admits) = and_parts (leaf_over G.formula ls) (G.admits ls) adm in
      let allowed : admitted_record G (marked ls) ≡ true = and_from (all_plain (marked ls)) _ (marked_plain ls) (rw (literals_marked ls) adm) in
      record {
        may = may_enter Leaf (marked ls) same room allowed (rules_agree.leaf_is (side_of G) ls up).rises;
        sound = steps_enter.leaf G D.steps s ls leaf admits;
      }

  pub leaf_back : (ls : List Literal) → MayEnter G D Leaf (marked ls) → AllHold (leaf_tests G.formula G D ls)
  leaf_back ls m =
      let adm : admits_leaf G ls ≡ true = rw (literals_marked ls) at (and_parts (all_plain (marked ls)) _ m.allowed).1 in
      let (leaf, _) = and_parts (leaf_over G.formula ls) (G.admits ls) adm in
      let (bound, up) = and_parts (row_bound (order G.formula.blocks) ls) (rising 0 ls) leaf in
      (m.sizes, (bound, (up, (adm, room_back m))))

  pub resolve_accepted : (p i j : ℕ) → AllHold (resolve_tests G.formula G D p i j)
      → Accepted G D (Resolve p i j) (resolved p (marks_of D.steps i) (marks_of D.steps j))
  resolve_accepted p i j (same, (there, (theirs, (marks, (agree, (above, room)))))) =
      let (ti, tj) = and_parts (has_step D i) (has_step D j) there in
      let (li, hi) = (has_step_told D i).0 ti in
      let (lj, hj) = (has_step_told D j).0 tj in
      let r : Record = marks_of D.steps i in
      let q : Record = marks_of D.steps j in
      let e : resolve_rule (side_of G) p r q ≡ Ok (resolved p r q) = rw (theirs, marks, agree, above) in
      let (rule, up) = (rules_agree.resolves (side_of G) p r q (resolved p r q) (s.records i li hi).rises (s.records j lj hj).rises).0 e in
      record {
        may = may_enter (Resolve p i j) (resolved p r q) same room
            (record {
              first_there = li;
              first_before = omega arith;
              second_there = lj;
              second_before = omega arith;
              may = theirs;
              joins = rule.joins;
            })
            up;
        sound = steps_enter.resolve G D.steps s p i j li hi lj hj (resolved p r q) e;
      }

  pub resolve_back : (p i j : ℕ) (out : Record) → MayEnter G D (Resolve p i j) out
      → AllHold (resolve_tests G.formula G D p i j) × (resolved p (marks_of D.steps i) (marks_of D.steps j) ≡ out)
  resolve_back p i j out m =
      let a : Resolves (side_of G) (calculus_of G) D.steps (length D.steps + 1) p i j out = m.allowed in
      let r : Record = marks_of D.steps i in
      let q : Record = marks_of D.steps j in
      let hi : i ≤ length D.steps = omega arith in
      let hj : j ≤ length D.steps = omega arith in
      let (not_own, _) = and_parts (not ((side_of G).mine p)) (leb 1 ((side_of G).level p)) a.may in
      let e : resolve_rule (side_of G) p r q ≡ Ok out
      = (rules_agree.resolves (side_of G) p r q out (s.records i a.first_there hi).rises (s.records j a.second_there hj).rises).1
      (record { theirs = not-true ((side_of G).mine p) not_own; joins = a.joins }, m.rises) in
      let (theirs, e₁) = answered (opponents (side_of G) p) _ _ out e in
      let (marks, e₂) = answered (pivot_marks p r q) _ _ out e₁ in
      let (agree, e₃) = answered (opponents_agree (side_of G) p r q) _ _ out e₂ in
      let (above, e₄) = answered (clashes_above (side_of G) p r q) _ _ out e₃ in
      let is : resolved p r q ≡ out = cc in
      let there : (has_step D i && has_step D j) ≡ true
      = and_from _ _ ((has_step_told D i).1 (a.first_there, hi)) ((has_step_told D j).1 (a.second_there, hj)) in
      ((m.sizes, (there, (theirs, (marks, (agree, (above, rw is (room_back m))))))), is)

  pub reduce_accepted : (j : ℕ) → AllHold (reduce_tests G.formula G D j)
      → Accepted G D (Reduce j) (reduced (side_of G) (marks_of D.steps j))
  reduce_accepted j (same, (there, (tail, room))) =
      let (lj, hj) = (has_step_told D j).0 there in
      let r : Record = marks_of D.steps j in
      let out : Record = reduced (side_of G) r in
      let e : reduce_rule (side_of G) r ≡ Ok out = rw tail in
      let (rule, up) = (rules_agree.reduces (side_of G) r out (s.records j lj hj).rises).0 e in
      record {
        may = may_enter (Reduce j) out same room (record { there = lj; before = omega arith; reduct = rule }) up;
        sound = steps_enter.reduce G D.steps s j lj hj out e;
      }

  pub reduce_back : (j : ℕ) (out : Record) → MayEnter G D (Reduce j) out
      → AllHold (reduce_tests G.formula G D j) × (reduced (side_of G) (marks_of D.steps j) ≡ out)
  reduce_back j out m =
      let a : Reduces (side_of G) D.steps (length D.steps + 1) j out = m.allowed in
      let r : Record = marks_of D.steps j in
      let hj : j ≤ length D.steps = omega arith in
      let e : reduce_rule (side_of G) r ≡ Ok out = (rules_agree.reduces (side_of G) r out (s.records j a.there hj).rises).1 (a.reduct, m.rises) in
      let (tail, e₁) = answered (some_var (over (side_of G) r) r) _ _ out e in
      let is : reduced (side_of G) r ≡ out = cc in
      ((m.sizes, ((has_step_told D j).1 (a.there, hj), (tail, rw is (room_back m)))), is)

-- ---- what holds of every docket that calls lead to

-- over sound steps, one call: what holds of the docket, and with an accepted step, holds after it
pub acts_keep : (G : Ground) (P : Docket → Type 0) {D E : Docket} → Sound G D.steps → P D
    → ((o : Origin) (r : Record) → Accepted G D o r → P (with_step D o r)) → Acts G D E → P E
acts_keep G P {D} s here more (by_leaf ls) =
    after P (leaf_tests G.formula G D ls) D _ here (λ t. more _ _ (leaf_accepted G D s ls t))
acts_keep G P {D} s here more (by_resolve p i j) =
    after P (resolve_tests G.formula G D p i j) D _ here (λ t. more _ _ (resolve_accepted G D s p i j t))
acts_keep G P {D} s here more (by_reduce j) =
    after P (reduce_tests G.formula G D j) D _ here (λ t. more _ _ (reduce_accepted G D s j t))
acts_keep G P {D} s here more by_close = after P (close_tests G.formula G D) D _ here (λ t. here)

-- the steps are a derivation over the ground, and the marks of each are a record
pub sound_reached : {G : Ground} {D : Docket} → Reached G D → Sound G D.steps
sound_reached {G} (new n a b) = steps_enter.none G
sound_reached {G} (acted r a) = acts_keep G (λ E. Sound G E.steps) (sound_reached r) (sound_reached r) (λ o m t. t.sound) a

-- what holds of new dockets, and stays when a step is entered that may be, holds of every docket that calls lead to
module _ (G : Ground) (P : Docket → Type 0) (start : (n a b : ℕ) → P (opened n a b))
    (more : (D : Docket) → Reached G D → P D → (o : Origin) (r : Record) → MayEnter G D o r → P (with_step D o r)) where
  pub every_reached : {D : Docket} → Reached G D → P D
  every_reached (new n a b) = start n a b
  every_reached (acted {D} r a) = acts_keep G P (sound_reached r) (every_reached r) (λ o m t. more D r (every_reached r) o m t.may) a
