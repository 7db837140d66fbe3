-- Blocks as they are kept: levels, one variable more, one block more. Assumes nothing.
use Rattle.std.proofs.Common.{◌≡◌, ℕ, zero, suc, ◌+◌, ◌-◌, ◌<◌, ◌≤◌, true, false, cond, not, ◌||◌, eqb, List, [], ◌∷◌, ◌++◌, length, get_or, set, replicate, Some, None, Ok, Err, sym, refl, ap, ◌∙◌, ⊎_elim, arith}
use Rattle.std.specs.List.{slice_get}
use Rattle.std.proofs.Math.Bool.{or_assoc}
use Rattle.std.proofs.lemmas.Bool.Decides.{nat_tests}
use Rattle.std.proofs.lemmas.List.{get_or-replicate, get_or-set_same, get_or-set_other, length-set, flat_map_more}
use Rattle.std.proofs.lemmas.Bool.{cases_eq, eqb-true, false≢true, and_from}
use Rattle.std.specs.Option.{option_map, option_map_or}
use Rattle.refusal.specs.declared.Reason.TheVariants.{BadBlock, TooMany}
use Rattle.formula.specs.declared.letter.Letter.{Letter}
use Rattle.formula.specs.declared.letter.Letter.TheVariants.{Universal}
use Rattle.formula.specs.Sections.{Section, items_of}
use Rattle.formula.specs.Prefix.{Block, has_var, order, level_from, level, in_range, blocks_in, with_begun, LevelsTold, all_in_range, marked, PrefixModel, with_block, bound, unbindable, no_block, end_block, ends_in, same_letter, owner}

-- ---- membership

pub has_append : (xs ys : List ℕ) (x : ℕ) → has_var (xs ++ ys) x ≡ (has_var xs x || has_var ys x)
has_append [] ys x = refl
has_append (z ∷ xs) ys x = ap (λ b. eqb z x || b) (has_append xs ys x) ∙ sym (or_assoc (eqb z x) (has_var xs x) (has_var ys x))

pub has_push_same : (xs : List ℕ) (x : ℕ) → has_var (xs ++ x ∷ []) x ≡ true
has_push_same xs x = grind (arith, nat_tests, has_append)

pub has_push_other : (xs : List ℕ) (y x : ℕ) → (y ≡ x → ⊥) → has_var (xs ++ y ∷ []) x ≡ has_var xs x
has_push_other xs y x other = grind (arith, nat_tests, has_append)

-- ---- levels

-- a variable has level 0 exactly if no block has it
pub level_zero : (l : ℕ) (bs : List Block) (x : ℕ) → 1 ≤ l → eqb (level_from l bs x) 0 ≡ not (has_var (order bs) x)
level_zero l [] x low = refl
level_zero l (b ∷ bs) x low = grind (arith, nat_tests, level_zero (l + 1) bs x (omega arith), has_append b.vars (order bs) x)

-- the level of a variable in one block more
pub level_push : (l : ℕ) (bs : List Block) (b : Block) (x : ℕ)
    → level_from l (bs ++ b ∷ []) x ≡ cond (has_var (order bs) x) (level_from l bs x) (cond (has_var b.vars x) (l + length bs) 0)
level_push l [] b x = grind arith
level_push l (c ∷ bs) b x = grind (arith, nat_tests, level_push (l + 1) bs b x, has_append c.vars (order bs) x)

-- a level counts only complete blocks where no further one is begun
pub level_closed : (bs : List Block) (x : ℕ) → level (with_begun bs []) x ≡ level bs x
level_closed bs x = grind (arith, nat_tests, level_push 1 bs (record { letter = Universal; vars = [] }) x, level_zero 1 bs x (omega arith))

-- ---- what is out of range, is not bound

pub none_out_of_range : (n : ℕ) (xs : List ℕ) (x : ℕ) → all_in_range n xs ≡ true → in_range n x ≡ false → has_var xs x ≡ false
none_out_of_range n [] x all out = refl
none_out_of_range n (z ∷ xs) x all out = grind (arith, nat_tests, none_out_of_range n xs x)

pub range_push : (n : ℕ) (xs : List ℕ) (x : ℕ) → all_in_range n xs ≡ true → in_range n x ≡ true → all_in_range n (xs ++ x ∷ []) ≡ true
range_push n [] x all one = and_from (in_range n x) true one refl
range_push n (z ∷ xs) x all one = grind (arith, nat_tests, range_push n xs x)

-- ---- the variables of the blocks

-- the variables of the complete blocks, as they were bound
pub order_kept : (ss : List (Section Letter ℕ)) → order (blocks_in ss) ≡ items_of ss
order_kept [] = refl
order_kept (s ∷ ss) = ap (λ l. s.items ++ l) (order_kept ss)

module _ (bs : List Block) (begun : List ℕ) where
  -- a level is 0 exactly if the variable is unbound
  pub level_unbound : (x : ℕ) → eqb (level (with_begun bs begun) x) 0 ≡ not (has_var (order bs ++ begun) x)
  level_unbound x =
      level_zero 1 (with_begun bs begun) x (omega arith)
      ∙ ap (λ l. not (has_var l x)) (sym (flat_map_more (λ (b : Block). b.vars) [] bs (record { letter = Universal; vars = begun })))

  pub level_out : (n x : ℕ) → all_in_range n (order bs ++ begun) ≡ true → in_range n x ≡ false → level (with_begun bs begun) x ≡ 0
  level_out n x all out = eqb-true _ 0 (level_unbound x ∙ ap not (none_out_of_range n (order bs ++ begun) x all out))

-- ---- no variable is bound

pub no_levels : LevelsTold (replicate 1025 0) [] []
no_levels x h = get_or-replicate 1025 x 0 0 h

-- ---- how many are bound: no more than there are variables

marked_few : (ms : List ℕ) → marked ms ≤ length ms
marked_few [] = omega arith
marked_few (m ∷ ms) = grind (arith, nat_tests, marked_few ms)

pub marked_set : (ms : List ℕ) (i y : ℕ) → i < length ms → get_or ms i 0 ≡ 0 → (y ≡ 0 → ⊥) → marked (set ms i y) ≡ marked ms + 1
marked_set [] i y low zero-there some = absurd (omega arith)
marked_set (m ∷ ms) zero y low zero-there some = grind (arith, nat_tests)
marked_set (m ∷ ms) (suc i) y low zero-there some = grind (arith, nat_tests, marked_set ms i y)

pub marked_none : (n : ℕ) → marked (replicate n 0) ≡ 0
marked_none zero = refl
marked_none (suc n) = marked_none n

-- variable 0 has no mark, nor has x: so one is missing
pub mark_left : (ms : List ℕ) (n x : ℕ) → length ms ≡ n + 1 → 1 ≤ x → x ≤ n → get_or ms 0 0 ≡ 0 → get_or ms x 0 ≡ 0 → marked ms < n
mark_left ms n x size low high first there =
    let one = marked_set ms 0 1 (omega arith) first (λ e. omega arith) in
    let two = marked_set (set ms 0 1) x 1 (omega (arith, length-set ms 0 1)) (get_or-set_other ms 0 x 1 0 (λ e. omega arith) ∙ there) (λ e. omega arith) in
    omega (arith, one, two, marked_few (set (set ms 0 1) x 1), length-set (set ms 0 1) x 1, length-set ms 0 1)

-- ---- one variable more, and one block more

module _ (levels : List ℕ) (bs : List Block) (begun : List ℕ) (told : LevelsTold levels bs begun) where
  pub var_levels : (x : ℕ) → length levels ≡ 1025 → x < 1025 → has_var (order bs ++ begun) x ≡ false
      → LevelsTold (set levels x (length bs + 1)) bs (begun ++ x ∷ [])
  var_levels x size fits new z h =
      let here = level_push 1 bs (record { letter = Universal; vars = begun ++ x ∷ [] }) z in
      let before = level_push 1 bs (record { letter = Universal; vars = begun }) z in
      let there = told z h in
      let free = has_append (order bs) begun x in
      ⊎_elim
      (λ (same : z ≡ x). let is = get_or-set_same levels x (length bs + 1) 0 (omega arith) in grind (arith, nat_tests, has_push_same begun x))
      (λ (other : z ≡ x → ⊥). let is = get_or-set_other levels x z (length bs + 1) 0 other in grind (arith, nat_tests, has_push_other begun x z))
      (cases_eq z x)

  pub block_levels : (l : Letter) → LevelsTold levels (bs ++ record { letter = l; vars = begun } ∷ []) []
  block_levels l x h =
      let before = level_push 1 bs (record { letter = Universal; vars = begun }) x in
      let after = level_push 1 bs (record { letter = l; vars = begun }) x in
      told x h ∙ before ∙ sym after ∙ sym (level_closed (bs ++ record { letter = l; vars = begun } ∷ []) x)

-- ---- what the refusals rest on

pub bindable : (x : ℕ) (p : PrefixModel) → unbindable x p ≡ None → (in_range p.size x ≡ true) × (bound p x ≡ false)
bindable x p fine = grind (arith, nat_tests)

pub blocks_fit : (l : Letter) (p : PrefixModel) → no_block l p ≡ None → length p.blocks < 64
blocks_fit l p fine = grind (arith, nat_tests)

pub no_block_full : (l : Letter) (p : PrefixModel) → ends_in l p.blocks ≡ false → 64 ≤ length p.blocks → no_block l p ≡ Some TooMany
no_block_full l p other full = grind (arith, nat_tests)

pub no_block_none : (l : Letter) (p : PrefixModel) → ends_in l p.blocks ≡ false → length p.blocks < 64 → no_block l p ≡ None
no_block_none l p other room = grind (arith, nat_tests)

pub block_empty : (l : Letter) (p : PrefixModel) → no_block l p ≡ None → length p.begun ≡ 0 → end_block l p ≡ Err BadBlock
block_empty l p fine none = grind (arith, nat_tests)

pub block_ended : (l : Letter) (p : PrefixModel) → no_block l p ≡ None → (length p.begun ≡ 0 → ⊥) → end_block l p ≡ Ok (with_block l p)
block_ended l p fine some = grind (arith, nat_tests)

-- ---- the last block

pub ends_in_push : (l : Letter) (bs : List Block) (b : Block) → ends_in l (bs ++ b ∷ []) ≡ same_letter l b.letter
ends_in_push l [] b = refl
ends_in_push l (c ∷ []) b = refl
ends_in_push l (c ∷ d ∷ bs) b = ends_in_push l (d ∷ bs) b

ends_more : (l : Letter) (s : Section Letter ℕ) (ss : List (Section Letter ℕ))
    → ends_in l (blocks_in (s ∷ ss)) ≡ option_map_or (same_letter l) (option_map (λ (t : Section Letter ℕ). t.head) (slice_get (s ∷ ss) (length ss))) false
ends_more l s [] = refl
ends_more l s (t ∷ ss) = ends_more l t ss

-- the letter of the last block
pub ends_in_last : (l : Letter) (ss : List (Section Letter ℕ))
    → ends_in l (blocks_in ss) ≡ option_map_or (same_letter l) (option_map (λ (t : Section Letter ℕ). t.head) (slice_get ss (length ss - 1))) false
ends_in_last l [] = refl
ends_in_last l (s ∷ ss) =
    ends_more l s ss
    ∙ ap (λ n. option_map_or (same_letter l) (option_map (λ (t : Section Letter ℕ). t.head) (slice_get (s ∷ ss) n)) false) {x = length ss} {y = suc (length ss) - 1} (omega arith)

-- ---- level and owner by the marks

-- the level of a variable of the blocks counts one of them
level_within : (l : ℕ) (bs : List Block) (x : ℕ) → has_var (order bs) x ≡ true → (l ≤ level_from l bs x) × (level_from l bs x < l + length bs)
level_within l [] x there = absurd (false≢true there)
level_within l (b ∷ bs) x there = grind (arith, nat_tests, level_within (l + 1) bs x, has_append b.vars (order bs) x)

level_none : (bs : List Block) (x : ℕ) → has_var (order bs) x ≡ false → level bs x ≡ 0
level_none bs x out = grind (arith, nat_tests, level_zero 1 bs x (omega arith))

-- a mark that counts a complete block is the level; any other says that there is none
module _ (bs : List Block) (begun : List ℕ) (x : ℕ) where
  told_by : level (with_begun bs begun) x ≡ cond (has_var (order bs) x) (level bs x) (cond (has_var begun x) (1 + length bs) 0)
  told_by = level_push 1 bs (record { letter = Universal; vars = begun }) x

  pub mark_low : level (with_begun bs begun) x ≤ length bs → level bs x ≡ level (with_begun bs begun) x
  mark_low low = grind (arith, nat_tests, told_by, level_none bs x)

  pub mark_high : length bs < level (with_begun bs begun) x → level bs x ≡ 0
  mark_high high = grind (arith, nat_tests, told_by, level_none bs x, level_within 1 bs x)

-- a level of 0 says that nobody owns the variable; any other names its block, which has the owner's letter
pub owner_none : (bs : List Block) (x : ℕ) → has_var (order bs) x ≡ false → owner bs x ≡ None
owner_none [] x out = refl
owner_none (b ∷ bs) x out = grind (arith, nat_tests, owner_none bs x, has_append b.vars (order bs) x)

pub owner_zero : (bs : List Block) (x : ℕ) → level bs x ≡ 0 → owner bs x ≡ None
owner_zero bs x e = grind (arith, nat_tests, owner_none bs x, level_zero 1 bs x (omega arith))

-- the block that a level counts, the first having the number l
owner_in : (l : ℕ) (bs : List Block) (x k : ℕ) → has_var (order bs) x ≡ true → level_from l bs x ≡ l + k
    → owner bs x ≡ option_map (λ (b : Block). b.letter) (slice_get bs k)
owner_in l [] x k there is = absurd (false≢true there)
owner_in l (b ∷ bs) x zero there is = grind (arith, nat_tests, level_within (l + 1) bs x, has_append b.vars (order bs) x)
owner_in l (b ∷ bs) x (suc k) there is = grind (arith, nat_tests, owner_in (l + 1) bs x k, has_append b.vars (order bs) x)

-- a variable of the blocks: its level counts a block, which has its owner's letter
pub level_found : (l : ℕ) (bs : List Block) (x : ℕ) → has_var (order bs) x ≡ true
    → (l ≤ level_from l bs x) × (level_from l bs x < l + length bs) × (owner bs x ≡ option_map (λ (b : Block). b.letter) (slice_get bs (level_from l bs x - l)))
level_found l bs x there =
    let within = level_within l bs x there in
    (within.0, within.1, owner_in l bs x _ there (omega (arith, within.0)))

pub owner_some : (bs : List Block) (x : ℕ) → (level bs x ≡ 0 → ⊥) → (level bs x ≤ length bs) × (owner bs x ≡ option_map (λ (b : Block). b.letter) (slice_get bs (level bs x - 1)))
owner_some bs x some =
    let there : has_var (order bs) x ≡ true = grind (arith, nat_tests, level_zero 1 bs x (omega arith)) in
    let found = level_found 1 bs x there in
    (omega (arith, found.1), found.2)

letters_in : (ss : List (Section Letter ℕ)) (k : ℕ)
    → option_map (λ (b : Block). b.letter) (slice_get (blocks_in ss) k) ≡ option_map (λ (s : Section Letter ℕ). s.head) (slice_get ss k)
letters_in [] k = refl
letters_in (s ∷ ss) zero = refl
letters_in (s ∷ ss) (suc k) = letters_in ss k

pub owner_at : (ss : List (Section Letter ℕ)) (x k : ℕ) → level (blocks_in ss) x ≡ k + 1
    → owner (blocks_in ss) x ≡ option_map (λ (s : Section Letter ℕ). s.head) (slice_get ss k)
owner_at ss x k is =
    let place : level (blocks_in ss) x - 1 ≡ k = omega (arith, is) in
    (owner_some (blocks_in ss) x (λ none. omega (arith, is, none))).1
    ∙ ap (λ n. option_map (λ (b : Block). b.letter) (slice_get (blocks_in ss) n)) place ∙ letters_in ss k
