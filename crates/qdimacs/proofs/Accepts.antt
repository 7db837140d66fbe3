-- What is written is read: a text that writes a well-formed formula is accepted, and leaves that formula. Assumes nothing.
use Rattle.std.proofs.Common.{◌≡◌, ℕ, zero, suc, ◌+◌, ◌<◌, ◌≤◌, min, Bool, true, false, not, ◌&&◌, ◌||◌, eqb, leb, List, [], ◌∷◌, ◌++◌, map, length, ℤ, pos, Some, None, Ok, Err, Option, Result, sym, refl, ap, ◌∙◌, ap₂, ⊎_elim, arith}
use Rattle.std.specs.List.{flat_map}
use Rattle.std.proofs.lemmas.List.{append_assoc, append-nil, length-append, length_push, map-append}
use Rattle.std.proofs.lemmas.Bool.{and_parts, and_from, or_parts, or_from, not-true, ne_eqb, eqb-false, le-leb, leb-true, both_ways, cases_Bool, cond-true, cond-false}
use Rattle.std.proofs.lemmas.Bool.Decides.{nat_tests}
use Rattle.refusal.specs.declared.Reason.{Reason}
use Rattle.formula.specs.declared.letter.Letter.{Letter}
use Rattle.formula.specs.declared.letter.Letter.TheVariants.{Universal, Existential}
use Rattle.formula.specs.declared.letter.Literal.{Literal}
use Rattle.formula.specs.Prefix.{Block as BlockModel, PrefixModel, same_letter, has_var, order, ends_in, in_range, all_in_range, bound, with_var, no_block, bind, unnameable}
use Rattle.formula.specs.Matrix.{MatrixModel, names, all_literals, no_rows, literal_count, with_literal, with_row}
use Rattle.formula.specs.Formula.{Formula, WellFormed, distinct, alternating, none_empty, row_bound, row_distinct, rows_good}
use Rattle.formula.proofs.Blocks.{has_append, none_out_of_range, no_block_none, block_ended}
use Rattle.words.specs.Text.{Lexeme, letter, number_of, body, tokens_from}
use Rattle.qdimacs.specs.declared.phase.Phase.{Phase}
use Rattle.qdimacs.specs.declared.phase.Phase.TheVariants.{Variables, RowCount, Blocks, Block, Rows, Row}
use Rattle.qdimacs.specs.declared.phase.Move.{Move}
use Rattle.qdimacs.specs.declared.phase.Move.TheVariants.{Variables as VariableCount, Head, Open, Bind, EndBlock, Add, EndRow}
use Rattle.qdimacs.specs.declared.phase.Fault.{Fault}
use Rattle.qdimacs.specs.Moves.{bad_head, counted as as_move, decide, row_number}
use Rattle.qdimacs.specs.Reading.{State, Outcome, nothing, in_phase, with_matrix, in_block, opened, apply, step, lacks, stopped, run, reading, left_formula}
use Rattle.qdimacs.specs.Grammar.{Writes, letter_byte, literal_number, zero_word, variable_word, literal_word, head_words, block_words, row_words, formula_words}
use Rattle.qdimacs.specs.Refused.{bare}
use Rattle.qdimacs.proofs.Lists.{no_some, order_push, literals_push, same_letter_sym}

-- ---- lists of variables

-- where no variable stands twice, none stands before itself
pub distinct_new : (xs ys : List ℕ) (x : ℕ) → distinct (xs ++ x ∷ ys) ≡ true → has_var xs x ≡ false
distinct_new [] ys x once = refl
distinct_new (z ∷ xs) ys x once =
    let both = and_parts (not (has_var (xs ++ x ∷ ys) z)) (distinct (xs ++ x ∷ ys)) once in
    let apart = or_parts (has_var xs z) (has_var (x ∷ ys) z) (sym (has_append xs (x ∷ ys) z) ∙ not-true (has_var (xs ++ x ∷ ys) z) both.0) in
    let other = or_parts (eqb x z) (has_var ys z) apart.1 in
    or_from (eqb z x) (has_var xs x) (ne_eqb z x (λ same. eqb-false x z other.0 (sym same))) (distinct_new xs ys x both.1)

pub range_append : (n : ℕ) (xs ys : List ℕ) → all_in_range n (xs ++ ys) ≡ true → (all_in_range n xs ≡ true) × (all_in_range n ys ≡ true)
range_append n [] ys all = (refl, all)
range_append n (x ∷ xs) ys all =
    let both = and_parts (in_range n x) (all_in_range n (xs ++ ys)) all in
    let rest = range_append n xs ys both.1 in
    (and_from (in_range n x) (all_in_range n xs) both.0 rest.0, rest.1)

-- a variable that stands in the list is in range
pub range_at : (n : ℕ) (xs : List ℕ) (x : ℕ) → all_in_range n xs ≡ true → has_var xs x ≡ true → in_range n x ≡ true
range_at n xs x all there =
    ⊎_elim (λ is. is) (λ out. absurd (both_ways (has_var xs x) (none_out_of_range n xs x all out) there)) (cases_Bool (in_range n x))

-- ---- lists of literals, by their variables

abbrev pub variables_of : List Literal → List ℕ
variables_of row = map (λ (l : Literal). l.variable) row

-- a row names the variables that its literals have
pub names_are : (row : List Literal) (x : ℕ) → names row x ≡ has_var (variables_of row) x
names_are [] x = refl
names_are (l ∷ row) x = ap (λ b. eqb l.variable x || b) (names_are row x)

pub row_distinct_is : (row : List Literal) → row_distinct row ≡ distinct (variables_of row)
row_distinct_is [] = refl
row_distinct_is (l ∷ row) = cc (names_are row l.variable, row_distinct_is row)

-- where no variable stands twice in the row, a literal's variable is new there
pub row_new : (row rest : List Literal) (l : Literal) → row_distinct (row ++ l ∷ rest) ≡ true → names row l.variable ≡ false
row_new row rest l once =
    names_are row l.variable
    ∙ distinct_new (variables_of row) (variables_of rest) l.variable
    (sym (row_distinct_is (row ++ l ∷ rest) ∙ ap distinct (map-append (λ (k : Literal). k.variable) row (l ∷ rest))) ∙ once)

-- ---- lists of blocks

-- where neighbours differ, the block before does not have the letter of the next
pub ends_other : (done bs : List BlockModel) (b : BlockModel) → alternating (done ++ b ∷ bs) ≡ true → ends_in b.letter done ≡ false
ends_other [] bs b differ = refl
ends_other (c ∷ []) bs b differ =
    same_letter_sym b.letter c.letter
    ∙ not-true (same_letter c.letter b.letter) (and_parts (not (same_letter c.letter b.letter)) (alternating (b ∷ bs)) differ).0
ends_other (c ∷ d ∷ done) bs b differ =
    ends_other (d ∷ done) bs b (and_parts (not (same_letter c.letter d.letter)) (alternating (d ∷ (done ++ b ∷ bs))) differ).1

-- ---- the words alone, without their places

-- the state that the words lead to, if each is possible where it stands
abbrev pub after : State → List Lexeme → Option State
after s [] = Some s
after s (t ∷ ts) = elim (step s t) [ Ok n ↦ after n ts | Err f ↦ None ]

-- one word that is possible
pub after_ok : (s n : State) (t : Lexeme) (ts : List Lexeme) → step s t ≡ Ok n → after s (t ∷ ts) ≡ after n ts
after_ok s n t ts e = ap (λ (r : Result State Fault). elim r as (λ _. Option State) [ Ok k ↦ after k ts | Err f ↦ None ]) e

-- a word that does something where it stands, and what that does
reads : (s n : State) (t : Lexeme) (move : Move) (ts : List Lexeme) → decide s.phase t ≡ Ok move → apply s move ≡ Ok n → after s (t ∷ ts) ≡ after n ts
reads s n t move ts is done =
    after_ok s n t ts (ap (λ (r : Result Move Fault). elim r as (λ _. Result State Fault) [ Ok m ↦ apply s m | Err f ↦ Err f ]) is ∙ done)

-- ---- the head

abbrev with_blocks : ℕ → List BlockModel → MatrixModel → State
with_blocks n done M = record { phase = Blocks; prefix = record { size = n; blocks = done; begun = [] }; matrix = M }

reads_head : (n m : ℕ) (ts : List Lexeme) → n ≤ 1024 → m ≤ 4096 → after nothing (head_words n m ++ ts) ≡ after (with_blocks n [] (no_rows m)) ts
reads_head n m ts few less =
    let named = in_phase Variables nothing in
    let counted = in_phase (RowCount n) nothing in
    let kept : min n 1024 ≡ n = omega arith in
    let due : min m 4096 ≡ m = omega arith in
    reads named counted (number_of (pos n)) (VariableCount n) (number_of (pos m) ∷ ts) (ap (as_move VariableCount) (cond-true _ (Ok n) (Err bad_head) (le-leb n 1024 few))) refl
    ∙ reads counted (with_blocks n [] (no_rows m)) (number_of (pos m)) (Head n m) ts (ap (as_move (Head n)) (cond-true _ (Ok m) (Err bad_head) (le-leb m 4096 less)))
    (ap₂ (λ (k d : ℕ). Ok (with_blocks k [] (no_rows d))) kept due)

-- ---- the blocks

-- where a block may begin, its letter opens it
opens : (l : Letter) → decide Blocks (letter (letter_byte l)) ≡ Ok (Open l)
opens Universal = refl
opens Existential = refl

-- a variable in range that is not bound yet
binds : (x : ℕ) (p : PrefixModel) → in_range p.size x ≡ true → bound p x ≡ false → bind x p ≡ Ok (with_var x p)
binds x p low new =
    ap (λ (o : Option Reason). elim o as (λ _. Result PrefixModel Reason) [ Some r ↦ Err r | None ↦ Ok (with_var x p) ])
    (cond-true (in_range p.size x) _ _ low ∙ cond-false (bound p x) _ _ new)

module _ (n : ℕ) (M : MatrixModel) where
  abbrev in_a_block : Letter → List BlockModel → List ℕ → State
  in_a_block l done part = record { phase = Block l; prefix = record { size = n; blocks = done; begun = part }; matrix = M }

  -- the variables of a block that are still to come, and the block's end; `later` are the variables of later blocks
  reads_vars : (vars : List ℕ) (l : Letter) (done : List BlockModel) (part later : List ℕ) (ts : List Lexeme)
      → no_block l (record { size = n; blocks = done; begun = [] }) ≡ None → (length part + length vars ≡ 0 → ⊥) → all_in_range n vars ≡ true
      → distinct ((order done ++ part) ++ (vars ++ later)) ≡ true
      → after (in_a_block l done part) (map variable_word vars ++ zero_word ∷ ts)
      ≡ after (with_blocks n (done ++ record { letter = l; vars = part ++ vars } ∷ []) M) ts
  reads_vars [] l done part later ts fine some low once =
      reads (in_a_block l done part) (with_blocks n (done ++ record { letter = l; vars = part } ∷ []) M) zero_word (EndBlock l) ts refl
      (ap (in_block Blocks (in_a_block l done part)) (block_ended l (in_a_block l done part).prefix fine (λ e. some (omega arith))))
      ∙ ap (λ v. after (with_blocks n (done ++ record { letter = l; vars = v } ∷ []) M) ts) (sym (append-nil part))
  reads_vars (x ∷ vars) l done part later ts fine some low once =
      let was = in_a_block l done part in
      let now = in_a_block l done (part ++ x ∷ []) in
      let both = and_parts (in_range n x) (all_in_range n vars) low in
      let above = leb-true 1 x (and_parts (leb 1 x) (leb x n) both.0).0 in
      let grouped : (order done ++ part) ++ x ∷ (vars ++ later) ≡ (order done ++ (part ++ x ∷ [])) ++ (vars ++ later) = simp append_assoc in
      reads was now (variable_word x) (Bind x) (map variable_word vars ++ zero_word ∷ ts) (cond-false (eqb x 0) _ _ (ne_eqb x 0 (λ e. omega arith)))
      (ap (in_block (Block l) was) (binds x was.prefix both.0 (distinct_new (order done ++ part) (vars ++ later) x once)))
      ∙ reads_vars vars l done (part ++ x ∷ []) later ts fine (λ e. omega (arith, length_push part x)) both.1 (sym (ap distinct grouped) ∙ once)
      ∙ ap (λ v. after (with_blocks n (done ++ record { letter = l; vars = v } ∷ []) M) ts) (append_assoc part (x ∷ []) vars)

  -- a whole block, where its letter may follow
  reads_block : (b : BlockModel) (done : List BlockModel) (later : List ℕ) (ts : List Lexeme)
      → ends_in b.letter done ≡ false → length done < 64 → (length b.vars ≡ 0 → ⊥) → all_in_range n b.vars ≡ true
      → distinct (order done ++ (b.vars ++ later)) ≡ true
      → after (with_blocks n done M) (letter (letter_byte b.letter) ∷ (map variable_word b.vars ++ zero_word ∷ ts)) ≡ after (with_blocks n (done ++ b ∷ []) M) ts
  reads_block b done later ts other room some low once =
      let fine = no_block_none b.letter (record { size = n; blocks = done; begun = [] }) other room in
      reads (with_blocks n done M) (in_a_block b.letter done []) (letter (letter_byte b.letter)) (Open b.letter) (map variable_word b.vars ++ zero_word ∷ ts)
      (opens b.letter) (ap (opened b.letter (with_blocks n done M)) fine)
      ∙ reads_vars b.vars b.letter done [] later ts fine (λ e. some (omega arith)) low (ap (λ l. distinct (l ++ (b.vars ++ later))) (append-nil (order done)) ∙ once)

  -- all blocks that are still to come
  reads_blocks : (bs done : List BlockModel) (ts : List Lexeme)
      → length done + length bs ≤ 64 → alternating (done ++ bs) ≡ true → none_empty bs ≡ true → all_in_range n (order bs) ≡ true
      → distinct (order done ++ order bs) ≡ true
      → after (with_blocks n done M) (flat_map block_words bs ++ ts) ≡ after (with_blocks n (done ++ bs) M) ts
  reads_blocks [] done ts few differ filled low once = ap (λ l. after (with_blocks n l M) ts) (sym (append-nil done))
  reads_blocks (b ∷ bs) done ts few differ filled low once =
      let some = and_parts (not (eqb (length b.vars) 0)) (none_empty bs) filled in
      let range = range_append n b.vars (order bs) low in
      let more : done ++ b ∷ bs ≡ (done ++ b ∷ []) ++ bs = simp append_assoc in
      let ordered : order done ++ (b.vars ++ order bs) ≡ order (done ++ b ∷ []) ++ order bs = simp (order_push, append_assoc) in
      let words : block_words b ++ flat_map block_words bs ++ ts ≡ letter (letter_byte b.letter) ∷ (map variable_word b.vars ++ zero_word ∷ (flat_map block_words bs ++ ts)) = simp append_assoc in
      ap (after (with_blocks n done M)) words
      ∙ reads_block b done (order bs) (flat_map block_words bs ++ ts) (ends_other done bs b differ) (omega arith) (eqb-false (length b.vars) 0 (not-true _ some.0)) range.0 once
      ∙ reads_blocks bs (done ++ b ∷ []) ts (omega (arith, length_push done b)) (sym (ap alternating more) ∙ differ) some.1 range.1 (sym (ap distinct ordered) ∙ once)
      ∙ ap (λ l. after (with_blocks n l M) ts) (sym more)

-- ---- the rows

-- the number of a literal, whose variable is not 0, adds that literal
literal_move : (v : ℕ) (sign : Bool) → 1 ≤ v → row_number (literal_number (record { variable = v; positive = sign })) ≡ Add (record { variable = v; positive = sign })
literal_move zero sign low = absurd (omega arith)
literal_move (suc k) true low = cond-false _ _ _ (ne_eqb (suc k) 0 (λ e. omega arith))
literal_move (suc k) false low = refl

-- a row may name a variable that is bound
may_name : (x : ℕ) (p : PrefixModel) → in_range p.size x ≡ true → bound p x ≡ true → unnameable x p ≡ None
may_name x p low there = cond-true (in_range p.size x) _ _ low ∙ cond-true (bound p x) _ _ there

-- a literal is added where a row is due, its variable is bound and new in the row, and there is room
adds : (l : Literal) (s : State) → unnameable l.variable s.prefix ≡ None → length s.matrix.rows < s.matrix.due → l.variable ≤ 1024
    → names s.matrix.begun l.variable ≡ false → literal_count s.matrix < 16384
    → apply s (Add l) ≡ Ok (with_matrix Row (with_literal l s.matrix) s)
adds l s free more low new room = grind (arith, nat_tests)

-- a row ends where one is due
ends : (s : State) → length s.matrix.rows < s.matrix.due → apply s EndRow ≡ Ok (with_matrix Rows (with_row s.matrix) s)
ends s more = grind (arith, nat_tests)

-- what is due after these rows, where ph was due before them
abbrev last_phase : Phase → List (List Literal) → Phase
last_phase ph [] = ph
last_phase ph (row ∷ rows) = last_phase Rows rows

-- where this is due, a number is a part of a row
abbrev Numbers : Phase → Type 0
Numbers ph = (z : ℤ) → decide ph (number_of z) ≡ Ok (row_number z)

module _ (n m : ℕ) (blocks : List BlockModel) where
  abbrev in_rows : Phase → List (List Literal) → List Literal → State
  in_rows ph done part = record { phase = ph; prefix = record { size = n; blocks = blocks; begun = [] }; matrix = record { due = m; rows = done; begun = part } }

  -- where all rows are there, nothing is lacking
  lacks_nothing : (rows : List (List Literal)) (ph : Phase) (all : List (List Literal)) → lacks (in_rows ph all []) ≡ None → m ≤ length all
      → lacks (in_rows (last_phase ph rows) all []) ≡ None
  lacks_nothing [] ph all full there = full
  lacks_nothing (row ∷ rows) ph all full there = lacks_nothing rows Rows all (cond-true _ _ _ (le-leb m (length all) there)) there

  module _ (few : n ≤ 1024) (in_size : all_in_range n (order blocks) ≡ true) where
    -- the literals of a row that are still to come, and the row's end
    reads_row : (row : List Literal) (ph : Phase) (done : List (List Literal)) (part : List Literal) (ts : List Lexeme) → Numbers ph
        → row_bound (order blocks) row ≡ true → row_distinct (part ++ row) ≡ true → length done < m
        → length (all_literals done) + length part + length row ≤ 16384
        → after (in_rows ph done part) (map literal_word row ++ zero_word ∷ ts) ≡ after (in_rows Rows (done ++ (part ++ row) ∷ []) []) ts
    reads_row [] ph done part ts here there once more room =
        reads (in_rows ph done part) (in_rows Rows (done ++ part ∷ []) []) zero_word EndRow ts (here (pos 0)) (ends (in_rows ph done part) more)
        ∙ ap (λ p. after (in_rows Rows (done ++ p ∷ []) []) ts) (sym (append-nil part))
    reads_row (l ∷ row) ph done part ts here there once more room =
        let was = in_rows ph done part in
        let both = and_parts (has_var (order blocks) l.variable) (row_bound (order blocks) row) there in
        let low = range_at n (order blocks) l.variable in_size both.0 in
        let within = and_parts (leb 1 l.variable) (leb l.variable n) low in
        let above = leb-true 1 l.variable within.0 in
        let below = leb-true l.variable n within.1 in
        let free = may_name l.variable was.prefix low (ap (λ v. has_var v l.variable) (append-nil (order blocks)) ∙ both.0) in
        reads was (in_rows Row done (part ++ l ∷ [])) (literal_word l) (Add l) (map literal_word row ++ zero_word ∷ ts)
        (here (literal_number l) ∙ ap Ok (literal_move l.variable l.positive above))
        (adds l was free more (omega arith) (row_new part row l once) (omega arith))
        ∙ reads_row row Row done (part ++ l ∷ []) ts (λ z. refl) both.1 (ap row_distinct (append_assoc part (l ∷ []) row) ∙ once) more (omega (arith, length_push part l))
        ∙ ap (λ p. after (in_rows Rows (done ++ p ∷ []) []) ts) (append_assoc part (l ∷ []) row)

    -- all rows that are still to come
    reads_rows : (rows : List (List Literal)) (ph : Phase) (done : List (List Literal)) → Numbers ph
        → rows_good (order blocks) rows ≡ true → length done + length rows ≤ m → length (all_literals done) + length (all_literals rows) ≤ 16384
        → after (in_rows ph done []) (flat_map row_words rows) ≡ Some (in_rows (last_phase ph rows) (done ++ rows) [])
    reads_rows [] ph done here good due room = ap (λ l. Some (in_rows ph l [])) (sym (append-nil done))
    reads_rows (row ∷ rows) ph done here good due room =
        let both = and_parts (row_bound (order blocks) row && row_distinct row) (rows_good (order blocks) rows) good in
        let this = and_parts (row_bound (order blocks) row) (row_distinct row) both.0 in
        let later = length-append row (all_literals rows) in
        let so_far = ap length (literals_push done row) ∙ length-append (all_literals done) row in
        ap (after (in_rows ph done [])) (append_assoc (map literal_word row) (zero_word ∷ []) (flat_map row_words rows))
        ∙ reads_row row ph done [] (flat_map row_words rows) here this.0 this.1 (omega arith) (omega arith)
        ∙ reads_rows rows Rows (done ++ row ∷ []) (λ z. refl) both.1 (omega (arith, length_push done row)) (omega arith)
        ∙ ap (λ l. Some (in_rows (last_phase Rows rows) l [])) (append_assoc done (row ∷ []) rows)

-- ---- a whole text

-- words that lead to a state: the reading goes through them to that state, and looks there for what is lacking
run_after : (end : ℕ) (ts : List (ℕ × Lexeme)) (s last : State) → after s (bare ts) ≡ Some last → run end s ts ≡ stopped last end (lacks last)
run_after end [] s last e = ap (λ k. stopped k end (lacks k)) {x = s} {y = last} cc
run_after end (t ∷ ts) s last e = by (λ n. run_after end ts n last) (step s t.1) e
  where
    by : ((n : State) → after n (bare ts) ≡ Some last → run end n ts ≡ stopped last end (lacks last))
        → (r : Result State Fault) → elim r as (λ _. Option State) [ Ok n ↦ after n (bare ts) | Err f ↦ None ] ≡ Some last
        → elim r as (λ _. Outcome) [ Ok n ↦ run end n ts | Err f ↦ stopped s t.0 (Some f) ] ≡ stopped last end (lacks last)
    by more (Ok n) h = more n h
    by more (Err f) h = absurd (no_some (sym h))

-- where the words of a formula lead to: to a state that holds the formula, and lacks nothing
pub record Read (F : Formula) : Type 0 where
  pub last : State
  pub words : after nothing (formula_words F) ≡ Some last
  pub full : lacks last ≡ None
  pub holds : left_formula last ≡ F

pub reads_formula : (F : Formula) → WellFormed F → Read F
reads_formula F f =
    let n = F.size in
    let m = F.due in
    let due : length F.rows ≡ m = f.announced in
    record {
      last = in_rows n m F.blocks (last_phase Blocks F.rows) F.rows [];
      words = reads_head n m (flat_map block_words F.blocks ++ flat_map row_words F.rows) f.variables f.few_rows
          ∙ reads_blocks n (no_rows m) F.blocks [] (flat_map row_words F.rows) (omega arith) f.letters f.filled f.in_size f.once
          ∙ reads_rows n m F.blocks f.variables f.in_size F.rows Blocks [] (λ z. refl) f.rows_are (omega arith) (omega arith);
      full = lacks_nothing n m F.blocks F.rows Blocks F.rows (cond-true _ _ _ (le-leb m (length F.rows) (omega arith))) (omega arith);
      holds = refl;
    }

-- a text that writes a formula is accepted, and the formula is what is left
pub accepts : (text : List ℕ) (F : Formula) → Writes text F → ((reading text).refusal ≡ None) × (left_formula (reading text).left ≡ F)
accepts text F w =
    let r = reads_formula F w.formula in
    let is : reading text ≡ record { left = r.last; refusal = None }
    = cond-true _ _ _ (le-leb (length text) 65536 w.short)
    ∙ run_after (length text) (tokens_from text (body text)) nothing r.last (ap (after nothing) w.words ∙ r.words) ∙ ap (stopped r.last (length text)) r.full in
    (ap (λ (o : Outcome). o.refusal) is, ap (λ (o : Outcome). left_formula o.left) is ∙ r.holds)
