-- The two sides of a game do not both win it.
use Rattle.std.proofs.Common.{◌≡◌, ℕ, Bool, true, false, not, ◌⊎◌, List, [], ◌∷◌, MatchBool, refl, ap, ◌∙◌, inl, inr}
use Rattle.std.proofs.lemmas.Bool.{cases_Bool, and_parts, or_cases, both_ways, not-true}
use Rattle.formula.specs.declared.letter.Letter.{Letter}
use Rattle.formula.specs.declared.letter.Letter.TheVariants.{Universal, Existential}
use Rattle.formula.specs.declared.letter.Literal.{Literal}
use Rattle.formula.specs.Prefix.{Block, same_letter, has_var, order, owner}
use Rattle.game.specs.Records.{Side}
use Rattle.game.specs.Game.{put, Wins, In, no_values}
use Rattle.game.specs.Prefix.{owned_by, side}
use Rattle.game.specs.Grounds.{some_row, each_row, row_false, some_false, none_false, NeverBoth}
use Rattle.game.proofs.Prefix.{from_in, in_cases}

when_true : (b : Bool) (P Q : Type 0) → b ≡ true → MatchBool b P Q → P
when_true true P Q e h = h
when_true false P Q e h = absurd (both_ways false refl e)

when_false : (b : Bool) (P Q : Type 0) → b ≡ false → MatchBool b P Q → Q
when_false true P Q e h = absurd (both_ways true e refl)
when_false false P Q e h = h

-- each variable is one side's, and no play is won by both
module _ (S T : Side) (w l : List ℕ → Bool) (one : (p : List ℕ) → w p ≡ true → l p ≡ true → ⊥) where
  not_both : (xs : List ℕ) → ((x : ℕ) → In x xs → S.mine x ≡ not (T.mine x)) → (p : List ℕ) → Wins S w xs p → Wins T l xs p → ⊥
  unfolding Wins
  not_both [] split p a b = one p a b
  not_both (x ∷ xs) split p a b = elim (cases_Bool (T.mine x)) [
    | inl t ↦
        let both = when_false (S.mine x) _ _ (split x (inl refl) ∙ ap not t) a in
        elim (when_true (T.mine x) (Wins T l xs (put p x 0) ⊎ Wins T l xs (put p x 1)) _ t b) [
          | inl h ↦ not_both xs (λ y i. split y (inr i)) (put p x 0) both.0 h
          | inr h ↦ not_both xs (λ y i. split y (inr i)) (put p x 1) both.1 h
        ]
    | inr t ↦
        let both = when_false (T.mine x) _ _ t b in
        elim (when_true (S.mine x) (Wins S w xs (put p x 0) ⊎ Wins S w xs (put p x 1)) _ (split x (inl refl) ∙ ap not t) a) [
          | inl h ↦ not_both xs (λ y i. split y (inr i)) (put p x 0) h both.0
          | inr h ↦ not_both xs (λ y i. split y (inr i)) (put p x 1) h both.1
        ]
  ]

letters_split : (l : Letter) → same_letter Universal l ≡ not (same_letter Existential l)
letters_split Universal = refl
letters_split Existential = refl

owners_split : (blocks : List Block) (x : ℕ) → In x (order blocks) → owned_by Universal (owner blocks x) ≡ not (owned_by Existential (owner blocks x))
owners_split [] x i = absurd i
owners_split (b ∷ bs) x i = elim (cases_Bool (has_var b.vars x)) [
  | inl t ↦ rw t (letters_split b.letter)
  | inr t ↦ elim (in_cases b.vars (order bs) x i) [
    | inl j ↦ absurd (both_ways (has_var b.vars x) t (from_in b.vars x j))
    | inr j ↦ rw t (owners_split bs x j)
  ]
]

rows_split : (f : List Literal → Bool) (rs : List (List Literal)) → some_row f rs ≡ true → each_row (λ r. not (f r)) rs ≡ true → ⊥
unfolding some_row each_row
rows_split f [] a b = both_ways false refl a
rows_split f (r ∷ rs) a b =
    let (here, rest) = and_parts (not (f r)) (each_row (λ r. not (f r)) rs) b in
    elim (or_cases (f r) (some_row f rs) a) [
      | inl t ↦ both_ways (f r) (not-true (f r) here) t
      | inr t ↦ rows_split f rs t rest
    ]

pub never_both : NeverBoth
never_both F a b =
    not_both (side Universal F.blocks) (side Existential F.blocks) (some_false F) (none_false F)
    (λ p. rows_split (row_false p) F.rows) (order F.blocks) (owners_split F.blocks) (no_values F.size) a b
