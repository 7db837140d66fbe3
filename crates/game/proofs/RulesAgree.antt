-- The functions of the rules say what the rules say, variable by variable.
use Rattle.std.proofs.Common.{◌≡◌, ℕ, ◌<◌, Bool, true, false, cond, not, ◌&&◌, ◌||◌, eqb, ltb, leb, List, [], ◌∷◌, Ok, Err, sym, refl, ap, ◌∙◌, inl, inr, arith}
use Rattle.std.proofs.lemmas.Bool.{cases_Bool, cases_eq, eq-eqb, ne_eqb, ltb-true, lt-ltb, leb-true, le-leb, and_parts, and_from, or_left, or_right, not-true, not_from_false, both_ways}
use Rattle.refusal.specs.declared.Reason.TheVariants.{PivotNotOpponents, PivotMarks, OpponentClash, OwnClash, EmptyTail}
use Rattle.formula.specs.declared.letter.Literal.{Literal}
use Rattle.game.specs.Records.{Side, Mark, Plus, Minus, Star, Found, absent, has, Record, found, is_there, named, some_var, over, Above, IsRecord}
use Rattle.game.specs.Rules.{same_plain, Merged, neither, first, second, both_plus, both_minus, clash, Joins, Resolvent, Reduct}
use Rattle.game.specs.Leaves.{rising, mark_from, marked}
use Rattle.game.specs.Functions.{joined_mark, merge, resolved, opponents, is_plus, is_minus, pivot_marks, agree, opponents_agree, clashes_above, resolve_rule, reduced, reduce_rule, RulesAgree}
use Rattle.game.proofs.Records.{each_at, each_from, some_at, some_from}
use Rattle.game.proofs.Merge.{joined, Merges, merges, kept_above, kept_found, rising_same}

-- ---- what the tests say of one variable

-- a variable fits: it does not clash, or it is own and above the pivot
abbrev fits : Bool → Bool → Found → Found → Bool
fits mine above a b = agree a b || (mine && above)

fits_from : (mine above same : Bool) → (mine || same) ≡ true → (not mine || (same || above)) ≡ true → (same || (mine && above)) ≡ true
fits_from true above true t o = refl
fits_from true above false t o = o
fits_from false above true t o = refl
fits_from false above false t o = t

theirs_from : (mine above same : Bool) → (same || (mine && above)) ≡ true → (mine || same) ≡ true
theirs_from true above same h = refl
theirs_from false above true h = refl
theirs_from false above false h = h

own_from : (mine above same : Bool) → (same || (mine && above)) ≡ true → (not mine || (same || above)) ≡ true
own_from true above true h = refl
own_from true above false h = h
own_from false above same h = refl

-- marks that clash, of an own variable above the pivot
apart : (S : Side) (p x : ℕ) (m n : Mark) → same_plain m n ≡ false → (S.mine x && ltb (S.level p) (S.level x)) ≡ true
    → Merged (S.mine x) (S.level p < S.level x) (has m) (has n) (has Star)
apart S p x m n d h =
    let (own, up) = and_parts (S.mine x) (ltb (S.level p) (S.level x)) h in
    clash d own (ltb-true (S.level p) (S.level x) up)

-- where a variable fits, what the merge makes of it is what the rule says
joined_right : (S : Side) (p x : ℕ) (a b : Found) → fits (S.mine x) (ltb (S.level p) (S.level x)) a b ≡ true
    → Merged (S.mine x) (S.level p < S.level x) a b (joined a b)
joined_right S p x absent absent h = neither
joined_right S p x absent (has n) h = second
joined_right S p x (has m) absent h = first
joined_right S p x (has Plus) (has Plus) h = both_plus
joined_right S p x (has Minus) (has Minus) h = both_minus
joined_right S p x (has Plus) (has Minus) h = apart S p x Plus Minus refl h
joined_right S p x (has Plus) (has Star) h = apart S p x Plus Star refl h
joined_right S p x (has Minus) (has Plus) h = apart S p x Minus Plus refl h
joined_right S p x (has Minus) (has Star) h = apart S p x Minus Star refl h
joined_right S p x (has Star) (has Plus) h = apart S p x Star Plus refl h
joined_right S p x (has Star) (has Minus) h = apart S p x Star Minus refl h
joined_right S p x (has Star) (has Star) h = apart S p x Star Star refl h

-- and the other way: what the rule allows fits, and is what the merge makes
merged_fits : (S : Side) (p x : ℕ) {a b c : Found} → Merged (S.mine x) (S.level p < S.level x) a b c
    → fits (S.mine x) (ltb (S.level p) (S.level x)) a b ≡ true
merged_fits S p x neither = refl
merged_fits S p x first = refl
merged_fits S p x second = refl
merged_fits S p x both_plus = refl
merged_fits S p x both_minus = refl
merged_fits S p x (clash {m = m} {n = n} d own up) = or_right (same_plain m n) _ (rw (own, lt-ltb (S.level p) (S.level x) up))

apart_star : (m n : Mark) → same_plain m n ≡ false → joined_mark m n ≡ Star
apart_star Plus Plus d = cc
apart_star Plus Minus d = refl
apart_star Plus Star d = refl
apart_star Minus Plus d = refl
apart_star Minus Minus d = cc
apart_star Minus Star d = refl
apart_star Star Plus d = refl
apart_star Star Minus d = refl
apart_star Star Star d = refl

merged_joined : {mine : Bool} {above : Type 0} {a b c : Found} → Merged mine above a b c → c ≡ joined a b
merged_joined neither = refl
merged_joined first = refl
merged_joined second = refl
merged_joined both_plus = refl
merged_joined both_minus = refl
merged_joined (clash {m = m} {n = n} d own up) = ap has (sym (apart_star m n d))

-- a star that is new stands on an own variable
merged_star : {mine : Bool} {above : Type 0} {a b c : Found} → Merged mine above a b c
    → (a ≡ has Star → mine ≡ true) → (b ≡ has Star → mine ≡ true) → c ≡ has Star → mine ≡ true
merged_star neither f g e = cc
merged_star first f g e = f e
merged_star second f g e = g e
merged_star both_plus f g e = cc
merged_star both_minus f g e = cc
merged_star (clash d own up) f g e = own

plus_there : (a : Found) → is_plus a ≡ true → a ≡ has Plus
plus_there absent h = cc
plus_there (has Plus) h = refl
plus_there (has Minus) h = cc
plus_there (has Star) h = cc

minus_there : (a : Found) → is_minus a ≡ true → a ≡ has Minus
minus_there absent h = cc
minus_there (has Plus) h = cc
minus_there (has Minus) h = refl
minus_there (has Star) h = cc

-- ---- a chain of tests that ends well

all_passed : (a b c d : Bool) (x out : Record)
    → cond a (cond b (cond c (cond d (Ok x) (Err OwnClash)) (Err OpponentClash)) (Err PivotMarks)) (Err PivotNotOpponents) ≡ Ok out
    → (a ≡ true) × (b ≡ true) × (c ≡ true) × (d ≡ true) × (x ≡ out)
all_passed true true true true x out e = (refl, refl, refl, refl, cc)
all_passed true true true false x out e = let z : ◌≡◌ {A = ℕ} 0 1 = cc in absurd (omega arith)
all_passed true true false d x out e = let z : ◌≡◌ {A = ℕ} 0 1 = cc in absurd (omega arith)
all_passed true false c d x out e = let z : ◌≡◌ {A = ℕ} 0 1 = cc in absurd (omega arith)
all_passed false b c d x out e = let z : ◌≡◌ {A = ℕ} 0 1 = cc in absurd (omega arith)

passed : (a : Bool) (x out : Record) → cond a (Ok x) (Err EmptyTail) ≡ Ok out → (a ≡ true) × (x ≡ out)
passed true x out e = (refl, cc)
passed false x out e = let z : ◌≡◌ {A = ℕ} 0 1 = cc in absurd (omega arith)

-- ---- resolve

-- a pivot that the rule takes is bound and the opponent's
pub pivot_opponents : (S : Side) (p : ℕ) (r s out : Record) → Resolvent S p r s out → opponents S p ≡ true
pivot_opponents S p r s out h = and_from _ _ (not_from_false (S.mine p) h.theirs) (le-leb 1 (S.level p) h.joins.bound)

module _ (S : Side) (p : ℕ) (r s : Record) (rr : Above 0 r) (rs : Above 0 s) where
  both : Merges 0 r s (merge r s)
  both = merges r 0 s rr rs

  -- every variable but the pivot fits, from the two tests over the first record
  fits_at : opponents_agree S p r s ≡ true → clashes_above S p r s ≡ true → (x : ℕ) → (x ≡ p → ⊥)
      → fits (S.mine x) (ltb (S.level p) (S.level x)) (found r x) (found s x) ≡ true
  fits_at t o x d = elim (cases_Bool (named r x)) [
    | inl n ↦ fits_from (S.mine x) (ltb (S.level p) (S.level x)) (agree (found r x) (found s x)) (rw (ne_eqb x p d) at (each_at _ r t x n)) (each_at _ r o x n)
    | inr n ↦ unnamed (found r x) n
  ]
    where
      unnamed : (a : Found) → is_there a ≡ false → fits (S.mine x) (ltb (S.level p) (S.level x)) a (found s x) ≡ true
      unnamed absent n = refl
      unnamed (has m) n = cc

  resolved_rises : Above 0 (resolved p r s)
  resolved_rises = kept_above _ 0 _ both.rises

  gone : found (resolved p r s) p ≡ absent
  gone = kept_found (λ y. not (eqb y p)) (merge r s) p ∙ rw (eq-eqb p p refl)

  others_at : (x : ℕ) → (x ≡ p → ⊥) → found (resolved p r s) x ≡ joined (found r x) (found s x)
  others_at x d = kept_found (λ y. not (eqb y p)) (merge r s) x ∙ rw (ne_eqb x p d) (both.marks x)

  resolved_right : (out : Record) → resolve_rule S p r s ≡ Ok out → Resolvent S p r s out × Above 0 out
  resolved_right out e =
      let t = all_passed (opponents S p) (pivot_marks p r s) (opponents_agree S p r s) (clashes_above S p r s) (resolved p r s) out e in
      let (theirs, low) = and_parts (not (S.mine p)) (leb 1 (S.level p)) t.0 in
      let (plus, minus) = and_parts (is_plus (found r p)) (is_minus (found s p)) t.1 in
      rw (← t.4) (
        record {
          theirs = not-true (S.mine p) theirs;
          joins = record {
            bound = leb-true 1 (S.level p) low;
            plus_first = plus_there (found r p) plus;
            minus_second = minus_there (found s p) minus;
            pivot_gone = gone;
            others = λ x d. rw (others_at x d) (joined_right S p x (found r x) (found s x) (fits_at t.2 t.3 x d));
          };
        },
        resolved_rises,
      )

  -- a rising record that the rule allows is the merged one
  resolved_is_it : (out : Record) → Joins S p r s out → Above 0 out → out ≡ resolved p r s
  resolved_is_it out j up =
      rising_same 0 out (resolved p r s) up resolved_rises (λ x. elim (cases_eq x p) [
        | inl q ↦ rw q (j.pivot_gone ∙ sym gone)
        | inr d ↦ merged_joined (j.others x d) ∙ sym (others_at x d)
      ])

  resolved_back : (out : Record) → Resolvent S p r s out × Above 0 out → resolve_rule S p r s ≡ Ok out
  resolved_back out h =
      let j : Joins S p r s out = h.0.joins in
      let a : opponents S p ≡ true = pivot_opponents S p r s out h.0 in
      let b : pivot_marks p r s ≡ true = rw (j.plus_first, j.minus_second) in
      let c : opponents_agree S p r s ≡ true = each_from _ r (λ x n. elim (cases_eq x p) [
        | inl q ↦ or_left _ _ (eq-eqb x p q)
        | inr d ↦ or_right _ _ (theirs_from (S.mine x) (ltb (S.level p) (S.level x)) (agree (found r x) (found s x)) (merged_fits S p x (j.others x d)))
      ]) in
      let d : clashes_above S p r s ≡ true = each_from _ r (λ x n. elim (cases_eq x p) [
        | inl q ↦ or_left _ _ (not_from_false _ (ap S.mine q ∙ h.0.theirs))
        | inr ne ↦ own_from (S.mine x) (ltb (S.level p) (S.level x)) (agree (found r x) (found s x)) (merged_fits S p x (j.others x ne))
      ]) in
      rw (a, b, c, d) (ap Ok (sym (resolved_is_it out j h.1)))

-- ---- the tests for a clash, in words

unnamed_agree : (a b : Found) → is_there a ≡ false → agree a b ≡ true
unnamed_agree absent b n = refl
unnamed_agree (has m) b n = cc

module _ (S : Side) (p : ℕ) (r s : Record) where
  opponents_told : opponents_agree S p r s ≡ true → (x : ℕ) → (x ≡ p → ⊥) → S.mine x ≡ false → agree (found r x) (found s x) ≡ true
  opponents_told t x d theirs = elim (cases_Bool (named r x)) [
    | inl n ↦ rw (ne_eqb x p d, theirs) at (each_at _ r t x n)
    | inr n ↦ unnamed_agree (found r x) (found s x) n
  ]

  opponents_back : ((x : ℕ) → (x ≡ p → ⊥) → S.mine x ≡ false → agree (found r x) (found s x) ≡ true) → opponents_agree S p r s ≡ true
  opponents_back h = each_from _ r (λ x n. elim (cases_eq x p) [
    | inl q ↦ or_left _ _ (eq-eqb x p q)
    | inr d ↦ elim (cases_Bool (S.mine x)) [
      | inl own ↦ or_right (eqb x p) _ (or_left (S.mine x) _ own)
      | inr theirs ↦ or_right (eqb x p) _ (or_right (S.mine x) _ (h x d theirs))
    ]
  ])

  clashes_told : clashes_above S p r s ≡ true → (x : ℕ) → S.mine x ≡ true → agree (found r x) (found s x) ≡ false → S.level p < S.level x
  clashes_told t x own apart' = elim (cases_Bool (named r x)) [
    | inl n ↦ ltb-true (S.level p) (S.level x) (rw (own, apart') at (each_at _ r t x n))
    | inr n ↦ absurd (both_ways (agree (found r x) (found s x)) apart' (unnamed_agree (found r x) (found s x) n))
  ]

  clashes_back : ((x : ℕ) → S.mine x ≡ true → agree (found r x) (found s x) ≡ false → S.level p < S.level x) → clashes_above S p r s ≡ true
  clashes_back h = each_from _ r (λ x n. elim (cases_Bool (S.mine x)) [
    | inr theirs ↦ or_left _ _ (not_from_false (S.mine x) theirs)
    | inl own ↦ elim (cases_Bool (agree (found r x) (found s x))) [
      | inl same ↦ or_right (not (S.mine x)) _ (or_left (agree (found r x) (found s x)) _ same)
      | inr apart' ↦ or_right (not (S.mine x)) _ (or_right (agree (found r x) (found s x)) _ (lt-ltb (S.level p) (S.level x) (h x own apart')))
    ]
  ])

-- ---- reduce

module _ (S : Side) (r : Record) (rises : Above 0 r) where
  rest_at : (x : ℕ) → found (reduced S r) x ≡ cond (over S r x) absent (found r x)
  rest_at x = kept_found _ r x ∙ elim (cases_Bool (over S r x)) [ inl t ↦ rw t | inr t ↦ rw t ]

  reduced_rises : Above 0 (reduced S r)
  reduced_rises = kept_above _ 0 _ rises

  reduced_right : (out : Record) → reduce_rule S r ≡ Ok out → Reduct S r out × Above 0 out
  reduced_right out e =
      let t = passed (some_var (over S r) r) (reduced S r) out e in
      rw (← t.1) (record { some_tail = some_at (over S r) r t.0; rest = rest_at }, reduced_rises)

  reduced_is_it : (out : Record) → Reduct S r out → Above 0 out → out ≡ reduced S r
  reduced_is_it out h up = rising_same 0 out (reduced S r) up reduced_rises (λ x. h.rest x ∙ sym (rest_at x))

  reduced_back : (out : Record) → Reduct S r out × Above 0 out → reduce_rule S r ≡ Ok out
  reduced_back out h =
      let (x, n, o) = h.0.some_tail in
      let t : some_var (over S r) r ≡ true = some_from (over S r) r x n o in
      rw t (ap Ok (sym (reduced_is_it out h.0 h.1)))

-- ---- records come of records

resolved_is : (S : Side) (p : ℕ) (r s out : Record) → IsRecord S r → IsRecord S s → resolve_rule S p r s ≡ Ok out → IsRecord S out
resolved_is S p r s out hr hs e =
    let h : Resolvent S p r s out × Above 0 out = resolved_right S p r s hr.rises hs.rises out e in
    record {
      rises = h.1;
      own_stars = λ x star. elim (cases_eq x p) [
        | inl q ↦ let gone : found out p ≡ absent = h.0.joins.pivot_gone in let there : found out p ≡ has Star = (rw q at star) in cc
        | inr d ↦ merged_star (h.0.joins.others x d) (hr.own_stars x) (hs.own_stars x) star
      ];
    }

reduced_is : (S : Side) (r out : Record) → IsRecord S r → reduce_rule S r ≡ Ok out → IsRecord S out
reduced_is S r out hr e =
    let h : Reduct S r out × Above 0 out = reduced_right S r hr.rises out e in
    record {
      rises = h.1;
      own_stars = λ x star. elim (cases_Bool (over S r x)) [
        | inl t ↦ let gone : found out x ≡ absent = h.0.rest x ∙ rw t in cc
        | inr t ↦ hr.own_stars x (sym (h.0.rest x ∙ rw t) ∙ star)
      ];
    }

marked_above : (a : ℕ) (ls : List Literal) → rising a ls ≡ true → Above a (marked ls)
unfolding rising marked
marked_above a [] h = tt
marked_above a (l ∷ ls) h =
    let (up, rest) = and_parts (ltb a l.variable) (rising l.variable ls) h in
    (ltb-true a l.variable up, marked_above l.variable ls rest)

mark_plain : (b : Bool) → mark_from b ≡ Star → ⊥
mark_plain true e = let z : ◌≡◌ {A = ℕ} 0 1 = cc in omega arith
mark_plain false e = let z : ◌≡◌ {A = ℕ} 0 1 = cc in omega arith

no_star : (ls : List Literal) (x : ℕ) → found (marked ls) x ≡ has Star → ⊥
unfolding found marked
no_star [] x e = let z : ◌≡◌ {A = ℕ} 0 1 = cc in omega arith
no_star (l ∷ ls) x e = elim (cases_Bool (eqb l.variable x)) [
  | inl t ↦ mark_plain l.positive (let h : has (mark_from l.positive) ≡ has Star = (rw t at e) in cc)
  | inr t ↦ no_star ls x (rw t at e)
]

pub rules_agree : RulesAgree
rules_agree = record {
  resolves = λ S p r s out rr rs. (resolved_right S p r s rr rs out, resolved_back S p r s rr rs out);
  reduces = λ S r out rr. (reduced_right S r rr out, reduced_back S r rr out);
  opponents_in_words = λ S p r s. (opponents_told S p r s, opponents_back S p r s);
  clashes_in_words = λ S p r s. (clashes_told S p r s, clashes_back S p r s);
  resolved_only = λ S p r s a b rr rs ha ua hb ub. resolved_is_it S p r s rr rs a ha.joins ua ∙ sym (resolved_is_it S p r s rr rs b hb.joins ub);
  reduced_only = λ S r a b rr ha ua hb ub. reduced_is_it S r rr a ha ua ∙ sym (reduced_is_it S r rr b hb ub);
  leaf_is = λ S ls up. record { rises = marked_above 0 ls up; own_stars = λ x star. absurd (no_star ls x star) };
  resolved_is = resolved_is;
  reduced_is = reduced_is;
}
