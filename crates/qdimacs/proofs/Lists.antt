-- Formulas and rows that grow by one, and answers that were accepted. Assumes nothing.
use Rattle.std.proofs.Common.{◌≡◌, ℕ, ◌<◌, Bool, true, false, cond, not, ◌&&◌, ◌||◌, eqb, leb, List, [], ◌∷◌, ◌++◌, length, Some, None, Ok, Err, Option, Result, sym, refl, ap, ◌∙◌, arith}
use Rattle.std.proofs.lemmas.List.{flat_map_more}
use Rattle.std.proofs.lemmas.Bool.{and_parts, and_from, or_parts, or_from, not-true, not_from_false, ne_eqb, eqb-false, leb-false}
use Rattle.refusal.specs.declared.Reason.{Reason}
use Rattle.refusal.specs.declared.Reason.TheVariants.{VariableOutOfRange, BadBlock, TooMany, Unbound, VariableTwice, WrongRowCount}
use Rattle.formula.specs.declared.letter.Letter.{Letter}
use Rattle.formula.specs.declared.letter.Letter.TheVariants.{Universal, Existential}
use Rattle.formula.specs.declared.letter.Literal.{Literal}
use Rattle.formula.specs.Prefix.{Block, PrefixModel, same_letter, has_var, order, in_range, ends_in, bound, no_block, unbindable, unnameable, bind, end_block, with_var, with_block}
use Rattle.formula.specs.Matrix.{MatrixModel, names, all_literals, literal_count, complete, forbidden, add_literal, end_row, with_literal, with_row}
use Rattle.formula.specs.Formula.{distinct, alternating, none_empty, row_distinct, row_bound, rows_good}
use Rattle.formula.proofs.Blocks.{has_append, bindable}

pub no_ok : {X E : Type 0} {x : X} {f : E} → ◌≡◌ {A = Result X E} (Err f) (Ok x) → ⊥
no_ok e = let z : ◌≡◌ {A = ℕ} 0 1 = cc in absurd (omega arith)

pub no_some : {X : Type 0} {x : X} → ◌≡◌ {A = Option X} (Some x) None → ⊥
no_some e = let z : ◌≡◌ {A = ℕ} 0 1 = cc in absurd (omega arith)

pub same_ok : {X E : Type 0} {x y : X} → ◌≡◌ {A = Result X E} (Ok x) (Ok y) → x ≡ y
same_ok e = cc

-- ---- lists that grow by one

pub order_push : (bs : List Block) (b : Block) → order (bs ++ b ∷ []) ≡ order bs ++ b.vars
order_push bs b = sym (flat_map_more (λ (c : Block). c.vars) [] bs b)

pub literals_push : (done : List (List Literal)) (row : List Literal) → all_literals (done ++ row ∷ []) ≡ all_literals done ++ row
literals_push done row = sym (flat_map_more (λ (r : List Literal). r) [] done row)

pub distinct_push : (xs : List ℕ) (x : ℕ) → distinct xs ≡ true → has_var xs x ≡ false → distinct (xs ++ x ∷ []) ≡ true
distinct_push [] x once new = refl
distinct_push (z ∷ xs) x once new =
    let both = and_parts (not (has_var xs z)) (distinct xs) once in
    let apart = or_parts (eqb z x) (has_var xs x) new in
    and_from (not (has_var (xs ++ x ∷ []) z)) (distinct (xs ++ x ∷ []))
    (not_from_false _ (has_append xs (x ∷ []) z ∙ or_from _ _ (not-true _ both.0) (or_from (eqb x z) false (ne_eqb x z (λ s. eqb-false z x apart.0 (sym s))) refl)))
    (distinct_push xs x both.1 apart.1)

pub same_letter_sym : (k l : Letter) → same_letter k l ≡ same_letter l k
same_letter_sym Universal Universal = refl
same_letter_sym Universal Existential = refl
same_letter_sym Existential Universal = refl
same_letter_sym Existential Existential = refl

pub alternating_push : (bs : List Block) (b : Block) → alternating bs ≡ true → ends_in b.letter bs ≡ false → alternating (bs ++ b ∷ []) ≡ true
alternating_push [] b turns other = refl
alternating_push (c ∷ []) b turns other =
    and_from (not (same_letter c.letter b.letter)) true (not_from_false _ (same_letter_sym c.letter b.letter ∙ other)) refl
alternating_push (c ∷ d ∷ bs) b turns other =
    let both = and_parts (not (same_letter c.letter d.letter)) (alternating (d ∷ bs)) turns in
    and_from _ _ both.0 (alternating_push (d ∷ bs) b both.1 other)

pub filled_push : (bs : List Block) (b : Block) → none_empty bs ≡ true → (length b.vars ≡ 0 → ⊥) → none_empty (bs ++ b ∷ []) ≡ true
filled_push [] b full some = and_from (not (eqb (length b.vars) 0)) true (not_from_false _ (ne_eqb _ 0 some)) refl
filled_push (c ∷ bs) b full some =
    let both = and_parts (not (eqb (length c.vars) 0)) (none_empty bs) full in
    and_from _ _ both.0 (filled_push bs b both.1 some)

pub row_bound_push : (vars : List ℕ) (ls : List Literal) (l : Literal) → row_bound vars ls ≡ true → has_var vars l.variable ≡ true → row_bound vars (ls ++ l ∷ []) ≡ true
row_bound_push vars [] l all one = and_from _ true one refl
row_bound_push vars (k ∷ ls) l all one =
    let both = and_parts (has_var vars k.variable) (row_bound vars ls) all in
    and_from _ _ both.0 (row_bound_push vars ls l both.1 one)

pub names_append : (ks ls : List Literal) (x : ℕ) → names (ks ++ ls) x ≡ (names ks x || names ls x)
names_append [] ls x = refl
names_append (k ∷ ks) ls x = ap (λ b. eqb k.variable x || b) (names_append ks ls x) ∙ by (eqb k.variable x) (names ks x) (names ls x)
  where
    by : (a b c : Bool) → (a || (b || c)) ≡ ((a || b) || c)
    by true b c = refl
    by false b c = refl

pub row_distinct_push : (ls : List Literal) (l : Literal) → row_distinct ls ≡ true → names ls l.variable ≡ false → row_distinct (ls ++ l ∷ []) ≡ true
row_distinct_push [] l once new = refl
row_distinct_push (k ∷ ls) l once new =
    let both = and_parts (not (names ls k.variable)) (row_distinct ls) once in
    let apart = or_parts (eqb k.variable l.variable) (names ls l.variable) new in
    and_from (not (names (ls ++ l ∷ []) k.variable)) (row_distinct (ls ++ l ∷ []))
    (
    not_from_false _
    (
    names_append ls (l ∷ []) k.variable
    ∙ or_from _ _ (not-true _ both.0) (or_from (eqb l.variable k.variable) false (ne_eqb _ _ (λ s. eqb-false k.variable l.variable apart.0 (sym s))) refl)
    )
    )
    (row_distinct_push ls l both.1 apart.1)

pub rows_good_push : (vars : List ℕ) (rs : List (List Literal)) (r : List Literal) → rows_good vars rs ≡ true → row_bound vars r ≡ true → row_distinct r ≡ true → rows_good vars (rs ++ r ∷ []) ≡ true
rows_good_push vars [] r all named once = and_from (row_bound vars r && row_distinct r) true (and_from _ _ named once) refl
rows_good_push vars (s ∷ rs) r all named once =
    let both = and_parts (row_bound vars s && row_distinct s) (rows_good vars rs) all in
    and_from _ _ both.0 (rows_good_push vars rs r both.1 named once)

-- ---- answers that were accepted, taken apart

pub bound_one : (x : ℕ) (p q : PrefixModel) → bind x p ≡ Ok q → (in_range p.size x ≡ true) × (bound p x ≡ false) × (q ≡ with_var x p)
bound_one x p q e = by (unbindable x p) refl e
  where
    by : (o : Option Reason) → unbindable x p ≡ o → elim o as (λ _. Result PrefixModel Reason) [ Some r ↦ Err r | None ↦ Ok (with_var x p) ] ≡ Ok q
        → (in_range p.size x ≡ true) × (bound p x ≡ false) × (q ≡ with_var x p)
    by (Some r) is h = absurd (no_ok h)
    by None is h = let fine = bindable x p is in (fine.0, fine.1, sym (same_ok h))

pub ended_block : (l : Letter) (p q : PrefixModel) → end_block l p ≡ Ok q → (length p.begun ≡ 0 → ⊥) × (q ≡ with_block l p)
ended_block l p q e = by (no_block l p) e
  where
    full : (t : Bool) → eqb (length p.begun) 0 ≡ t → cond t (Err BadBlock) (Ok (with_block l p)) ≡ Ok q → (length p.begun ≡ 0 → ⊥) × (q ≡ with_block l p)
    full true is h = absurd (no_ok h)
    full false is h = (eqb-false _ 0 is, sym (same_ok h))

    by : (o : Option Reason) → elim o as (λ _. Result PrefixModel Reason) [ Some r ↦ Err r | None ↦ cond (eqb (length p.begun) 0) (Err BadBlock) (Ok (with_block l p)) ] ≡ Ok q
        → (length p.begun ≡ 0 → ⊥) × (q ≡ with_block l p)
    by (Some r) h = absurd (no_ok h)
    by None h = full (eqb (length p.begun) 0) refl h

pub nameable : (x : ℕ) (p : PrefixModel) → unnameable x p ≡ None → bound p x ≡ true
nameable x p fine = by (in_range p.size x) (bound p x) refl fine
  where
    by : (a b : Bool) → bound p x ≡ b → cond a (cond b None (Some Unbound)) (Some VariableOutOfRange) ≡ None → bound p x ≡ true
    by true true is h = is
    by true false is h = absurd (no_some h)
    by false b is h = absurd (no_some h)

abbrev Added : Literal → MatrixModel → MatrixModel → Type 0
Added l m n = (names m.begun l.variable ≡ false) × (literal_count m < 16384) × (n ≡ with_literal l m)

pub added_literal : (l : Literal) (m n : MatrixModel) → add_literal l m ≡ Ok n → Added l m n
added_literal l m n e = by (forbidden l m) refl e
  where
    once : (a b c : Bool) → names m.begun l.variable ≡ c → cond a (Some WrongRowCount) (cond b (cond c (Some VariableTwice) None) (Some VariableOutOfRange)) ≡ None → names m.begun l.variable ≡ false
    once true b c is h = absurd (no_some h)
    once false true true is h = absurd (no_some h)
    once false true false is h = is
    once false false c is h = absurd (no_some h)

    room : (t : Bool) → leb 16384 (literal_count m) ≡ t → names m.begun l.variable ≡ false → cond t (Err TooMany) (Ok (with_literal l m)) ≡ Ok n → Added l m n
    room true is new h = absurd (no_ok h)
    room false is new h = (new, leb-false 16384 _ is, sym (same_ok h))

    by : (o : Option Reason) → forbidden l m ≡ o
        → elim o as (λ _. Result MatrixModel Reason) [ Some r ↦ Err r | None ↦ cond (leb 16384 (literal_count m)) (Err TooMany) (Ok (with_literal l m)) ] ≡ Ok n → Added l m n
    by (Some r) is h = absurd (no_ok h)
    by None is h = room (leb 16384 (literal_count m)) refl (once (complete m) (leb l.variable 1024) (names m.begun l.variable) refl is) h

pub ended_row : (m n : MatrixModel) → end_row m ≡ Ok n → (length m.rows < m.due) × (n ≡ with_row m)
ended_row m n e = by (complete m) refl e
  where
    by : (t : Bool) → complete m ≡ t → cond t (Err WrongRowCount) (Ok (with_row m)) ≡ Ok n → (length m.rows < m.due) × (n ≡ with_row m)
    by true is h = absurd (no_ok h)
    by false is h = (leb-false _ _ is, sym (same_ok h))
