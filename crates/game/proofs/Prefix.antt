-- The order of a prefix's blocks is an order of the side's variables.
use Rattle.std.proofs.Common.{◌≡◌, ℕ, zero, suc, ◌+◌, ◌<◌, ◌≤◌, Bool, true, false, not, eqb, leb, ◌⊎◌, List, [], ◌∷◌, ◌++◌, sym, refl, ◌∙◌, subst, inl, inr, arith}
use Rattle.std.proofs.lemmas.Bool.{cases_Bool, eqb-true, eq-eqb, or_cases, or_left, or_right, and_parts, leb-true, not-true, both_ways}
use Rattle.formula.specs.declared.letter.Letter.{Letter}
use Rattle.formula.specs.declared.letter.Letter.TheVariants.{Universal, Existential}
use Rattle.formula.specs.Prefix.{Block, has_var, order, level_from, owner, in_range, all_in_range}
use Rattle.formula.specs.Formula.{distinct}
use Rattle.game.specs.Records.{Side}
use Rattle.game.specs.Game.{In, Laid}
use Rattle.game.specs.Prefix.{owned_by, meeting_value, side, PrefixOrdered}

-- variables of 1 to n, no one twice
abbrev Once : ℕ → List ℕ → Type 0
Once n [] = Unit {0}
Once n (x ∷ xs) = (1 ≤ x) × (x ≤ n) × (In x xs → ⊥) × Once n xs

pub in_from : (zs : List ℕ) (x : ℕ) → has_var zs x ≡ true → In x zs
in_from [] x h = let z : ◌≡◌ {A = ℕ} 0 1 = cc in omega arith
in_from (z ∷ zs) x h = elim (or_cases (eqb z x) (has_var zs x) h) [ inl e ↦ inl (sym (eqb-true z x e)) | inr k ↦ inr (in_from zs x k) ]

pub from_in : (zs : List ℕ) (x : ℕ) → In x zs → has_var zs x ≡ true
from_in [] x i = absurd i
from_in (z ∷ zs) x (inl e) = or_left (eqb z x) (has_var zs x) (eq-eqb z x (sym e))
from_in (z ∷ zs) x (inr i) = or_right (eqb z x) (has_var zs x) (from_in zs x i)

in_left : (xs ys : List ℕ) (z : ℕ) → In z xs → In z (xs ++ ys)
in_left [] ys z i = absurd i
in_left (x ∷ xs) ys z (inl e) = inl e
in_left (x ∷ xs) ys z (inr i) = inr (in_left xs ys z i)

in_right : (xs ys : List ℕ) (z : ℕ) → In z ys → In z (xs ++ ys)
in_right [] ys z i = i
in_right (x ∷ xs) ys z i = inr (in_right xs ys z i)

pub in_cases : (xs ys : List ℕ) (z : ℕ) → In z (xs ++ ys) → In z xs ⊎ In z ys
in_cases [] ys z i = inr i
in_cases (x ∷ xs) ys z (inl e) = inl (inl e)
in_cases (x ∷ xs) ys z (inr i) = elim (in_cases xs ys z i) [ inl j ↦ inl (inr j) | inr j ↦ inr j ]

apart : (n : ℕ) (xs ys : List ℕ) → Once n (xs ++ ys) → (z : ℕ) → In z xs → In z ys → ⊥
apart n [] ys h z i j = i
apart n (x ∷ xs) ys h z (inl e) j = h.2 (subst (λ k. In k (xs ++ ys)) e (in_right xs ys z j))
apart n (x ∷ xs) ys h z (inr i) j = apart n xs ys h.3 z i j

once_right : (n : ℕ) (xs ys : List ℕ) → Once n (xs ++ ys) → Once n ys
once_right n [] ys h = h
once_right n (x ∷ xs) ys h = once_right n xs ys h.3

once_from : (n : ℕ) (xs : List ℕ) → all_in_range n xs ≡ true → distinct xs ≡ true → Once n xs
once_from n [] range apart = tt
once_from n (x ∷ xs) range apart =
    let (here, rest) = and_parts (in_range n x) (all_in_range n xs) range in
    let (low, high) = and_parts (leb 1 x) (leb x n) here in
    let (new, others) = and_parts (not (has_var xs x)) (distinct xs) apart in
    (leb-true 1 x low, leb-true x n high, (λ i. both_ways (has_var xs x) (not-true _ new) (from_in xs x i)), once_from n xs rest others)

-- a bound variable's level is at least the first
level_least : (l : ℕ) (F : List Block) (x : ℕ) → In x (order F) → l ≤ level_from l F x
level_least l [] x i = absurd i
level_least l (b ∷ F) x i = elim (in_cases b.vars (order F) x i) [
  | inl j ↦ rw (from_in b.vars x j) (omega arith)
  | inr j ↦ let h : l + 1 ≤ level_from (l + 1) F x = level_least (l + 1) F x j in grind arith
]

level_there : (l : ℕ) (F : List Block) (x : ℕ) → 1 ≤ level_from l F x → In x (order F)
level_there l [] x h = absurd (omega arith)
level_there l (b ∷ F) x h = elim (cases_Bool (has_var b.vars x)) [
  | inl t ↦ in_left b.vars (order F) x (in_from b.vars x t)
  | inr t ↦ in_right b.vars (order F) x (level_there (l + 1) F x (rw t at h))
]

mine_level : (own : Letter) (l : ℕ) → 1 ≤ l → (F : List Block) (x : ℕ) → owned_by own (owner F x) ≡ true → 1 ≤ level_from l F x
mine_level own l lo [] x h = let z : ◌≡◌ {A = ℕ} 0 1 = cc in absurd (omega arith)
mine_level own l lo (b ∷ F) x h = elim (cases_Bool (has_var b.vars x)) [
  | inl t ↦ rw t lo
  | inr t ↦ rw t (mine_level own (l + 1) (omega arith) F x (rw t at h))
]

module _ (S : Side) (n : ℕ) where
  -- one block's variables before the rest
  block_laid : (l : ℕ) (vs ws : List ℕ) → ((x : ℕ) → In x vs → S.level x ≡ l) → ((z : ℕ) → In z ws → l ≤ S.level z)
      → Once n (vs ++ ws) → Laid S n ws → Laid S n (vs ++ ws)
  block_laid l [] ws here later once rest = rest
  block_laid l (x ∷ vs) ws here later once rest = (
    once.0,
    once.1,
    once.2,
    (λ z i. rw (here x (inl refl)) (elim (in_cases vs ws z i) [ inl j ↦ let e : S.level z ≡ l = here z (inr j) in omega arith | inr j ↦ later z j ])),
    block_laid l vs ws (λ z i. here z (inr i)) later once.3 rest,
  )

  laid_from : (l : ℕ) (F : List Block) → ((x : ℕ) → In x (order F) → S.level x ≡ level_from l F x) → Once n (order F) → Laid S n (order F)
  laid_from l [] same once = tt
  laid_from l (b ∷ F) same once =
      block_laid l b.vars (order F)
      (λ x i. same x (in_left b.vars (order F) x i) ∙ rw (from_in b.vars x i))
      (λ z i. let h : l + 1 ≤ level_from (l + 1) F z = level_least (l + 1) F z i in let e : S.level z ≡ level_from (l + 1) F z = rest z i in omega arith)
      once (laid_from (l + 1) F rest (once_right n b.vars (order F) once))
    where
      rest : (x : ℕ) → In x (order F) → S.level x ≡ level_from (l + 1) F x
      rest x i = same x (in_right b.vars (order F) x i) ∙ elim (cases_Bool (has_var b.vars x)) [
        | inl t ↦ absurd (apart n b.vars (order F) once x (in_from b.vars x t) i)
        | inr t ↦ rw t
      ]

small : (own : Letter) (b : Bool) → meeting_value own b < 2
small Universal true = omega arith
small Universal false = omega arith
small Existential true = omega arith
small Existential false = omega arith

covers : (own : Letter) (n : ℕ) → n < 2 → (n ≡ meeting_value own true) ⊎ (n ≡ meeting_value own false)
covers Universal zero h = inl refl
covers Universal (suc n) h = inr (omega arith)
covers Existential zero h = inr refl
covers Existential (suc n) h = inl (omega arith)

pub prefix_ordered : PrefixOrdered
prefix_ordered own blocks n range apart = (
  record {
    laid = laid_from (side own blocks) n 1 blocks (λ x i. refl) (once_from n (order blocks) range apart);
    all_there = level_there 1 blocks;
    bound_there = level_least 1 blocks;
    mine_bound = mine_level own 1 (omega arith) blocks;
  },
  record { small = small own; covers = covers own },
)
