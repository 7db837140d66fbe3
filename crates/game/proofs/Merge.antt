-- Merging two rising records, keeping part of one, and what a rising record is told by.
use Rattle.std.proofs.Common.{◌≡◌, ℕ, zero, suc, ◌<◌, ◌≤◌, Bool, cond, [], ◌∷◌, length, get_or, sym, refl, ◌∙◌, inl, inr, arith}
use Rattle.std.proofs.lemmas.Bool.{cases_Bool, cases_eq, eq-eqb, ne_eqb, lt-ltb, le-ltb, cases_order}
use Rattle.game.specs.Records.{Found, absent, has, Entry, Record, found, Above}
use Rattle.game.specs.Functions.{joined_mark, merge_from, merge, kept}
use Rattle.game.specs.Theorems.{EntriesFound}

-- what is above a is not a, and not below it
pub above_less : (a b : ℕ) (r : Record) → b ≤ a → Above a r → Above b r
above_less a b [] le h = tt
above_less a b (e ∷ r) le h = (omega arith, h.1)

pub above_absent : (a x : ℕ) (r : Record) → x ≤ a → Above a r → found r x ≡ absent
unfolding found
above_absent a x [] le h = refl
above_absent a x (e ∷ r) le h =
    rw (ne_eqb e.variable x (λ q. let l = h.0 in omega arith)) (above_absent e.variable x r (let l = h.0 in omega arith) h.1)

-- the mark of a variable in the merged list
abbrev pub joined : Found → Found → Found
joined absent b = b
joined (has m) absent = has m
joined (has m) (has n) = has (joined_mark m n)

pub found_here : (e : Entry) (r : Record) (x : ℕ) → e.variable ≡ x → found (e ∷ r) x ≡ has e.mark
unfolding found
found_here e r x q = rw (eq-eqb e.variable x q)

pub found_there : (e : Entry) (r : Record) (x : ℕ) → (e.variable ≡ x → ⊥) → found (e ∷ r) x ≡ found r x
unfolding found
found_there e r x d = rw (ne_eqb e.variable x d)

joined_absent : (f : Found) → joined f absent ≡ f
joined_absent absent = refl
joined_absent (has m) = refl

-- the three ways of a merge
module _ (e d : Entry) (rest : Record → Record) (s : Record) where
  from_less : e.variable < d.variable → merge_from e rest (d ∷ s) ≡ e ∷ rest (d ∷ s)
  unfolding merge_from
  from_less l = rw (lt-ltb e.variable d.variable l, merge_from)

  from_more : d.variable < e.variable → merge_from e rest (d ∷ s) ≡ d ∷ merge_from e rest s
  unfolding merge_from
  from_more l = rw (le-ltb e.variable d.variable (omega arith), lt-ltb d.variable e.variable l, merge_from)

  from_same : e.variable ≡ d.variable → merge_from e rest (d ∷ s) ≡ record { variable = e.variable; mark = joined_mark e.mark d.mark } ∷ rest s
  unfolding merge_from
  from_same q = rw (le-ltb e.variable d.variable (omega arith), le-ltb d.variable e.variable (omega arith), merge_from)

-- merging, above a: rising, and each variable's mark
pub record Merges (a : ℕ) (r s out : Record) : Type 0 where
  pub rises : Above a out
  pub marks : (x : ℕ) → found out x ≡ joined (found r x) (found s x)

module _ (e : Entry) (r : Record) (rest : Record → Record)
    (ih : (a : ℕ) (s : Record) → Above a r → Above a s → Merges a r s (rest s)) where
  into : (a : ℕ) (s : Record) → Above a (e ∷ r) → Above a s → Merges a (e ∷ r) s (merge_from e rest s)
  unfolding merge_from found
  into a [] he hs =
      let m : Merges e.variable r [] (rest []) = ih e.variable [] he.1 tt in
      record {
        rises = (he.0, m.rises);
        marks = λ x. elim (cases_eq e.variable x) [
          | inl q ↦ rw (found_here e (rest []) x q, found_here e r x q)
          | inr n ↦ rw (found_there e (rest []) x n, found_there e r x n) (m.marks x)
        ];
      }
  into a (d ∷ s) he hs = elim (cases_order e.variable d.variable) [
    | inl q ↦
        let m : Merges e.variable r s (rest s) = ih e.variable s he.1 (rw q hs.1) in
        rw (from_same e d rest s q) (record {
          rises = (he.0, m.rises);
          marks = λ x. elim (cases_eq e.variable x) [
            | inl h ↦ rw (eq-eqb e.variable x h, eq-eqb d.variable x (sym q ∙ h))
            | inr n ↦ rw (ne_eqb e.variable x n, ne_eqb d.variable x (λ z. n (q ∙ z))) (m.marks x)
          ];
        })
    | inr o ↦ elim o [
      | inl l ↦
          let m : Merges e.variable r (d ∷ s) (rest (d ∷ s)) = ih e.variable (d ∷ s) he.1 (l, hs.1) in
          rw (from_less e d rest s l) (record {
            rises = (he.0, m.rises);
            marks = λ x. elim (cases_eq e.variable x) [
              | inl h ↦ let z : found (d ∷ s) x ≡ absent = above_absent e.variable x (d ∷ s) (omega arith) (l, hs.1) in rw (eq-eqb e.variable x h, z)
              | inr n ↦ rw (ne_eqb e.variable x n) (m.marks x)
            ];
          })
      | inr l ↦
          let m : Merges d.variable (e ∷ r) s (merge_from e rest s) = into d.variable s (l, he.1) hs.1 in
          rw (from_more e d rest s l) (record {
            rises = (hs.0, m.rises);
            marks = λ x. elim (cases_eq d.variable x) [
              | inl h ↦ let z : found (e ∷ r) x ≡ absent = above_absent d.variable x (e ∷ r) (omega arith) (l, he.1) in rw (eq-eqb d.variable x h, z)
              | inr n ↦ rw (ne_eqb d.variable x n) (m.marks x)
            ];
          })
    ]
  ]

pub merges : (r : Record) (a : ℕ) (s : Record) → Above a r → Above a s → Merges a r s (merge r s)
unfolding merge found
merges [] a s hr hs = record { rises = hs; marks = λ x. refl }
merges (e ∷ r) a s hr hs = into e r (merge r) (merges r) a s hr hs

-- what is kept of a record
pub kept_above : (f : ℕ → Bool) (a : ℕ) (r : Record) → Above a r → Above a (kept f r)
unfolding kept
kept_above f a [] h = tt
kept_above f a (e ∷ r) h = elim (cases_Bool (f e.variable)) [
  | inl t ↦ rw t (h.0, kept_above f e.variable r h.1)
  | inr t ↦ rw t (kept_above f a r (above_less e.variable a r (let l = h.0 in omega arith) h.1))
]

pub kept_found : (f : ℕ → Bool) (r : Record) (x : ℕ) → found (kept f r) x ≡ cond (f x) (found r x) absent
unfolding kept found
kept_found f [] x = elim (cases_Bool (f x)) [ inl t ↦ rw t | inr t ↦ rw t ]
kept_found f (e ∷ r) x = elim (cases_eq e.variable x) [
  | inl q ↦ elim (cases_Bool (f x)) [
    | inl t ↦ rw (q, t, eq-eqb x x refl)
    | inr t ↦ rw (q, t) (kept_found f r x ∙ rw t)
  ]
  | inr d ↦ elim (cases_Bool (f e.variable)) [
    | inl t ↦ rw (t, ne_eqb e.variable x d) (kept_found f r x)
    | inr t ↦ rw (t, ne_eqb e.variable x d) (kept_found f r x)
  ]
]

entry_above : (a : ℕ) (r : Record) → Above a r → (i : ℕ) → i < length r → (d : Entry) → a < (get_or r i d).variable
entry_above a [] h i l d = absurd (omega arith)
entry_above a (e ∷ r) h zero l d = h.0
entry_above a (e ∷ r) h (suc i) l d = let up : e.variable < (get_or r i d).variable = entry_above e.variable r h.1 i (omega arith) d in let b = h.0 in omega arith

entry_found : (a : ℕ) (r : Record) → Above a r → (i : ℕ) → i < length r → (d : Entry) → found r (get_or r i d).variable ≡ has (get_or r i d).mark
entry_found a [] h i l d = absurd (omega arith)
entry_found a (e ∷ r) h zero l d = found_here e r e.variable refl
entry_found a (e ∷ r) h (suc i) l d =
    let up : e.variable < (get_or r i d).variable = entry_above e.variable r h.1 i (omega arith) d in
    found_there e r (get_or r i d).variable (λ q. omega arith) ∙ entry_found e.variable r h.1 i (omega arith) d

pub entries_found : EntriesFound
entries_found = entry_found 0

-- a rising record is told by the marks that are found in it
pub rising_same : (a : ℕ) (r s : Record) → Above a r → Above a s → ((x : ℕ) → found r x ≡ found s x) → r ≡ s
unfolding found
rising_same a [] [] hr hs h = refl
rising_same a [] (d ∷ s) hr hs h = let f = found_here d s d.variable refl in let e = h d.variable in cc
rising_same a (e ∷ r) [] hr hs h = let f = found_here e r e.variable refl in let z = h e.variable in cc
rising_same a (e ∷ r) (d ∷ s) hr hs h =
    let fe : found (e ∷ r) e.variable ≡ has e.mark = found_here e r e.variable refl in
    let fd : found (d ∷ s) d.variable ≡ has d.mark = found_here d s d.variable refl in
    elim (cases_order e.variable d.variable) [
      | inl q ↦
          let m : e.mark ≡ d.mark = let z = h e.variable in let fd' : found (d ∷ s) e.variable ≡ has d.mark = found_here d s e.variable (sym q) in cc in
          let t : r ≡ s = rising_same e.variable r s hr.1 (rw q hs.1) (rest q) in
          λ i. record { variable = q i; mark = m i } ∷ t i
      | inr o ↦ elim o [
        | inl l ↦ let z : found (d ∷ s) e.variable ≡ absent = above_absent e.variable e.variable (d ∷ s) (omega arith) (l, hs.1) in let y = h e.variable in cc
        | inr l ↦ let z : found (e ∷ r) d.variable ≡ absent = above_absent d.variable d.variable (e ∷ r) (omega arith) (l, hr.1) in let y = h d.variable in cc
      ]
    ]
  where
    rest : e.variable ≡ d.variable → (x : ℕ) → found r x ≡ found s x
    rest q x = elim (cases_eq e.variable x) [
      | inl g ↦ above_absent e.variable x r (omega arith) hr.1 ∙ sym (above_absent d.variable x s (omega arith) hs.1)
      | inr n ↦ sym (found_there e r x n) ∙ h x ∙ found_there d s x (λ g. n (q ∙ g))
    ]
