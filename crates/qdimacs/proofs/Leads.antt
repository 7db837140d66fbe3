-- The words that are read lead from good states to good states, and the state tells the words. Assumes nothing.
use Rattle.std.proofs.Common.{◌≡◌, ℕ, zero, suc, ◌≤◌, min, Bool, true, false, cond, not, ◌||◌, eqb, leb, List, [], ◌∷◌, ◌++◌, map, length, ℤ, pos, negsuc, Some, None, Ok, Err, codes, Option, Result, sym, refl, ap, ◌∙◌, subst, ap₂, arith}
use Rattle.std.specs.List.{flat_map}
use Rattle.std.specs.Str.{bytes_eq}
use Rattle.std.proofs.lemmas.Slice.Eq.{bytes_eq-Decides}
use Rattle.std.proofs.lemmas.List.{append_assoc, append-nil, flat_map_more, map_push, length-append, length_push}
use Rattle.std.proofs.lemmas.Bool.{eqb-true, ne_eqb, leb-true}
use Rattle.refusal.specs.declared.Reason.{Reason}
use Rattle.refusal.specs.declared.Reason.TheVariants.{WrongRowCount, BadBlock, TooMany, TextTooLong}
use Rattle.refusal.specs.declared.Layer.TheVariants.{Text, Row as RowLayer}
use Rattle.formula.specs.declared.letter.Letter.{Letter}
use Rattle.formula.specs.declared.letter.Letter.TheVariants.{Universal, Existential}
use Rattle.formula.specs.declared.letter.Literal.{Literal}
use Rattle.formula.specs.Prefix.{PrefixModel, unbound, has_var, order, all_in_range, no_block, bind, end_block, with_block, unnameable, bound, ends_in}
use Rattle.formula.specs.Matrix.{MatrixModel, no_rows, complete, all_literals, add_literal, end_row, with_row}
use Rattle.formula.specs.Formula.{distinct, rows_good, row_bound, complete_part, WellFormed}
use Rattle.formula.proofs.Blocks.{range_push, blocks_fit}
use Rattle.words.specs.Text.{Lexeme, letter, number_of, stray, printable, body, tokens_from}
use Rattle.qdimacs.specs.declared.phase.Phase.{Phase}
use Rattle.qdimacs.specs.declared.phase.Phase.TheVariants.{Start, Format, Variables, RowCount, Blocks, Block, Rows, Row}
use Rattle.qdimacs.specs.declared.phase.Move.{Move}
use Rattle.qdimacs.specs.declared.phase.Move.TheVariants.{Problem, Format as Named, Variables as VariableCount, Head, Open, Bind, EndBlock, Add, EndRow}
use Rattle.qdimacs.specs.declared.phase.Fault.{Fault}
use Rattle.qdimacs.specs.Moves.{misplaced, not_a_number, foreign_byte, bad_head, counted, due, row_number}
use Rattle.qdimacs.specs.Reading.{State, apply, step, by_layer, in_block, in_row, opened, named, lacks, run, stopped, reading, nothing, Outcome, left_formula}
use Rattle.qdimacs.specs.Grammar.{letter_byte, literal_word, variable_word, zero_word, head_words, block_words, row_words, formula_words, Writes}
use Rattle.qdimacs.specs.Refused.{bare}
use Rattle.qdimacs.specs.Written.{complete_words, written, written_by, Good, Sound}
use Rattle.qdimacs.proofs.Lists.{no_ok, no_some, same_ok, order_push, literals_push, distinct_push, alternating_push, filled_push, row_bound_push, row_distinct_push, rows_good_push, bound_one, ended_block, nameable, added_literal, ended_row}

abbrev st : Phase → PrefixModel → MatrixModel → State
st ph p m = record { phase = ph; prefix = p; matrix = m }

-- the word t leads on from words that were read, to the state n
pub record Next (front : List Lexeme) (t : Lexeme) (n : State) : Type 0 where
  pub good : Good n.phase n.prefix n.matrix
  pub words : written_by n ≡ front ++ t ∷ []

not_zero : (k : ℕ) → eqb (suc k) 0 ≡ false
not_zero k = ne_eqb (suc k) 0 (λ e. omega arith)

-- what a move gives, after a decision
abbrev moved : State → Result Move Fault → Result State Fault
moved s r = elim r as (λ _. Result State Fault) [ Ok move ↦ apply s move | Err f ↦ Err f ]

-- a stray word whose bytes are looked at first
clean : (s n : State) (bs : List ℕ) (r : Result Move Fault) → moved s (cond (not (printable bs)) (Err foreign_byte) r) ≡ Ok n → moved s r ≡ Ok n
clean s n bs r e = by (not (printable bs)) e
  where
    by : (t : Bool) → moved s (cond t (Err foreign_byte) r) ≡ Ok n → moved s r ≡ Ok n
    by true h = absurd (no_ok h)
    by false h = h

-- ---- the head

at_start : (p : PrefixModel) (m : MatrixModel) (b : ℕ) (n : State) → Good Start p m → step (st Start p m) (letter b) ≡ Ok n → Next [] (letter b) n
at_start p m b n g e = by (eqb b 112) refl e
  where
    by : (t : Bool) → eqb b 112 ≡ t → moved (st Start p m) (cond t (Ok Problem) (Err misplaced)) ≡ Ok n → Next [] (letter b) n
    by false is h = absurd (no_ok h)
    by true is h =
        subst (Next [] (letter b)) (same_ok h)
        (record { good = record { begun = g.begun; sound = g.sound }; words = ap (λ c. letter c ∷ []) (sym (eqb-true b 112 is)) })

at_format : (p : PrefixModel) (m : MatrixModel) (bs : List ℕ) (n : State) → Good Format p m → step (st Format p m) (stray bs) ≡ Ok n → Next (letter 112 ∷ []) (stray bs) n
at_format p m bs n g e = by (bytes_eq bs (codes "cnf")) refl (clean (st Format p m) n bs (due Format (stray bs)) e)
  where
    by : (t : Bool) → bytes_eq bs (codes "cnf") ≡ t → moved (st Format p m) (cond t (Ok Named) (Err misplaced)) ≡ Ok n → Next (letter 112 ∷ []) (stray bs) n
    by false is h = absurd (no_ok h)
    by true is h =
        subst (Next (letter 112 ∷ []) (stray bs)) (same_ok h)
        (record { good = record { begun = g.begun; sound = g.sound }; words = ap (λ c. letter 112 ∷ stray c ∷ []) (sym ((bytes_eq-Decides bs (codes "cnf")).0 is)) })

at_variables : (p : PrefixModel) (m : MatrixModel) (k : ℕ) (n : State) → Good Variables p m → step (st Variables p m) (number_of (pos k)) ≡ Ok n
    → Next (letter 112 ∷ stray (codes "cnf") ∷ []) (number_of (pos k)) n
at_variables p m k n g e = by (leb k 1024) refl e
  where
    by : (t : Bool) → leb k 1024 ≡ t → moved (st Variables p m) (counted VariableCount (cond t (Ok k) (Err bad_head))) ≡ Ok n → Next (letter 112 ∷ stray (codes "cnf") ∷ []) (number_of (pos k)) n
    by false is h = absurd (no_ok h)
    by true is h =
        subst (Next (letter 112 ∷ stray (codes "cnf") ∷ []) (number_of (pos k))) (same_ok h)
        (record { good = record { begun = (g.begun.0, g.begun.1, leb-true k 1024 is); sound = g.sound }; words = refl })

-- nothing is read but the head
head_sound : (k j : ℕ) → k ≤ 1024 → j ≤ 4096 → Sound (unbound k) (no_rows j)
head_sound k j few less = record {
  variables = few;
  few_blocks = omega arith;
  letters = refl;
  filled = refl;
  in_size = refl;
  once = refl;
  few_rows = less;
  rows_due = omega arith;
  few_literals = omega arith;
  rows_are = refl;
  row_bound_is = refl;
  row_once = refl;
}

at_count : (c : ℕ) (p : PrefixModel) (m : MatrixModel) (j : ℕ) (n : State) → Good (RowCount c) p m → step (st (RowCount c) p m) (number_of (pos j)) ≡ Ok n
    → Next (letter 112 ∷ stray (codes "cnf") ∷ number_of (pos c) ∷ []) (number_of (pos j)) n
at_count c p m j n g e = by (leb j 4096) refl e
  where
    by : (t : Bool) → leb j 4096 ≡ t → moved (st (RowCount c) p m) (counted (Head c) (cond t (Ok j) (Err bad_head))) ≡ Ok n
        → Next (letter 112 ∷ stray (codes "cnf") ∷ number_of (pos c) ∷ []) (number_of (pos j)) n
    by false is h = absurd (no_ok h)
    by true is h =
        let vars : c ≡ min c 1024 = omega (arith, g.begun.2) in
        let rows : j ≡ min j 4096 = omega (arith, leb-true j 4096 is) in
        subst (Next (letter 112 ∷ stray (codes "cnf") ∷ number_of (pos c) ∷ []) (number_of (pos j)))
        (ap₂ (λ a b. st Blocks (unbound a) (no_rows b)) vars rows ∙ same_ok h)
        (record { good = record { begun = (refl, refl, refl); sound = head_sound c j g.begun.2 (leb-true j 4096 is) }; words = refl })

-- ---- blocks

-- the letter of a block that may follow is not its neighbour's
no_like : (l : Letter) (p : PrefixModel) → no_block l p ≡ None → ends_in l p.blocks ≡ false
no_like l p fine = by (ends_in l p.blocks) (leb 64 (length p.blocks)) fine
  where
    by : (a b : Bool) → cond a (Some BadBlock) (cond b (Some TooMany) None) ≡ None → a ≡ false
    by true b h = absurd (no_some h)
    by false b h = refl

-- the words of one block more, where no row is read yet
block_written : (l : Letter) (p : PrefixModel) (m : MatrixModel) → m.rows ≡ [] → complete_words (with_block l p) m ≡ written (Block l) p m ++ zero_word ∷ []
block_written l p m none =
    let head = head_words p.size m.due in
    let blocks = flat_map block_words p.blocks in
    let open_block = letter (letter_byte l) ∷ map variable_word p.begun in
    let bare : (k : PrefixModel) → complete_words k m ≡ head_words k.size m.due ++ flat_map block_words k.blocks
    = λ k. ap (λ (rs : List (List Literal)). head_words k.size m.due ++ (flat_map block_words k.blocks ++ flat_map row_words rs)) none
    ∙ ap (λ ts. head_words k.size m.due ++ ts) (append-nil (flat_map block_words k.blocks)) in
    bare (with_block l p)
    ∙ ap (λ ts. head ++ ts) (sym (flat_map_more block_words [] p.blocks (record { letter = l; vars = p.begun })))
    ∙ sym (append_assoc head blocks (open_block ++ zero_word ∷ []))
    ∙ sym (append_assoc (head ++ blocks) open_block (zero_word ∷ []))
    ∙ ap (λ ts. (ts ++ open_block) ++ zero_word ∷ []) (sym (bare p))

module _ (p : PrefixModel) (m : MatrixModel) (n : State) where
  -- a letter opens a block
  opens : (l : Letter) (b : ℕ) → b ≡ letter_byte l → Good Blocks p m → opened l (st Blocks p m) (no_block l p) ≡ Ok n → Next (complete_words p m) (letter b) n
  opens l b is g e = by (no_block l p) refl e
    where
      by : (o : Option Reason) → no_block l p ≡ o → opened l (st Blocks p m) o ≡ Ok n → Next (complete_words p m) (letter b) n
      by (Some r) why h = absurd (no_ok h)
      by None fine h =
          subst (Next (complete_words p m) (letter b)) (same_ok h)
          (record {
            good = record { begun = (fine, g.begun.1, g.begun.2); sound = g.sound };
            words = ap₂ (λ c v. complete_words p m ++ letter c ∷ map variable_word v) (sym is) g.begun.0;
          })

  at_blocks : (b : ℕ) → Good Blocks p m → step (st Blocks p m) (letter b) ≡ Ok n → Next (complete_words p m) (letter b) n
  at_blocks b g e = by (eqb b 97) refl (eqb b 101) refl e
    where
      by : (t : Bool) → eqb b 97 ≡ t → (u : Bool) → eqb b 101 ≡ u
          → moved (st Blocks p m) (cond t (Ok (Open Universal)) (cond u (Ok (Open Existential)) (Err not_a_number))) ≡ Ok n → Next (complete_words p m) (letter b) n
      by true is u _ h = opens Universal b (eqb-true b 97 is) g h
      by false _ true is h = opens Existential b (eqb-true b 101 is) g h
      by false _ false _ h = absurd (no_ok h)

  -- a variable of the block that is being read
  at_variable : (l : Letter) (x : ℕ) → Good (Block l) p m → in_block (Block l) (st (Block l) p m) (bind x p) ≡ Ok n
      → Next (written (Block l) p m) (variable_word x) n
  at_variable l x g e = by (bind x p) refl e
    where
      by : (r : Result PrefixModel Reason) → bind x p ≡ r → in_block (Block l) (st (Block l) p m) r ≡ Ok n → Next (written (Block l) p m) (variable_word x) n
      by (Err r) why h = absurd (no_ok h)
      by (Ok q) is h =
          let f = bound_one x p q is in
          let vars = append_assoc (order p.blocks) p.begun (x ∷ []) in
          let s = g.sound in
          subst (Next (written (Block l) p m) (variable_word x)) (ap (λ (k : PrefixModel). st (Block l) k m) (sym f.2) ∙ same_ok h)
          (record {
            good = record {
              begun = g.begun;
              sound = record {
                variables = s.variables;
                few_blocks = s.few_blocks;
                letters = s.letters;
                filled = s.filled;
                in_size = ap (all_in_range p.size) (sym vars) ∙ range_push p.size (order p.blocks ++ p.begun) x s.in_size f.0;
                once = ap distinct (sym vars) ∙ distinct_push (order p.blocks ++ p.begun) x s.once f.1;
                few_rows = s.few_rows;
                rows_due = s.rows_due;
                few_literals = s.few_literals;
                rows_are = s.rows_are;
                row_bound_is = s.row_bound_is;
                row_once = s.row_once;
              };
            };
            words = ap (λ ts. complete_words p m ++ letter (letter_byte l) ∷ ts) (map_push variable_word p.begun x)
                ∙ sym (append_assoc (complete_words p m) (letter (letter_byte l) ∷ map variable_word p.begun) (variable_word x ∷ []));
          })

  -- the end of the block that is being read
  at_block_end : (l : Letter) → Good (Block l) p m → in_block Blocks (st (Block l) p m) (end_block l p) ≡ Ok n → Next (written (Block l) p m) zero_word n
  at_block_end l g e = by (end_block l p) refl e
    where
      by : (r : Result PrefixModel Reason) → end_block l p ≡ r → in_block Blocks (st (Block l) p m) r ≡ Ok n → Next (written (Block l) p m) zero_word n
      by (Err r) why h = absurd (no_ok h)
      by (Ok q) is h =
          let f = ended_block l p q is in
          let s = g.sound in
          let none = g.begun.1 in
          let vars = order_push p.blocks (record { letter = l; vars = p.begun }) in
          subst (Next (written (Block l) p m) zero_word) (ap (λ (k : PrefixModel). st Blocks k m) (sym f.1) ∙ same_ok h)
          (record {
            good = record {
              begun = (refl, none, g.begun.2);
              sound = record {
                variables = s.variables;
                few_blocks = omega (arith, length_push p.blocks (record { letter = l; vars = p.begun }), blocks_fit l p g.begun.0);
                letters = alternating_push p.blocks (record { letter = l; vars = p.begun }) s.letters (no_like l p g.begun.0);
                filled = filled_push p.blocks (record { letter = l; vars = p.begun }) s.filled f.0;
                in_size = ap (all_in_range p.size) (append-nil _ ∙ vars) ∙ s.in_size;
                once = ap distinct (append-nil _ ∙ vars) ∙ s.once;
                few_rows = s.few_rows;
                rows_due = s.rows_due;
                few_literals = s.few_literals;
                rows_are = ap (rows_good (order (p.blocks ++ record { letter = l; vars = p.begun } ∷ []))) none;
                row_bound_is = ap (row_bound (order (p.blocks ++ record { letter = l; vars = p.begun } ∷ []))) g.begun.2;
                row_once = s.row_once;
              };
            };
            words = block_written l p m none;
          })

-- ---- rows

-- the words of the complete rows and of the row that is being read
abbrev row_front : PrefixModel → MatrixModel → List Lexeme
row_front p m = complete_words p m ++ map literal_word m.begun

row_written : (p : PrefixModel) (m : MatrixModel) → complete_words p (with_row m) ≡ row_front p m ++ zero_word ∷ []
row_written p m =
    let head = head_words p.size m.due in
    let blocks = flat_map block_words p.blocks in
    let rows = flat_map row_words m.rows in
    let begun = map literal_word m.begun in
    ap (λ ts. head ++ ts)
    (sym (flat_map_more row_words blocks m.rows m.begun) ∙ sym (append_assoc (blocks ++ rows) begun (zero_word ∷ [])))
    ∙ sym (append_assoc head ((blocks ++ rows) ++ begun) (zero_word ∷ []))
    ∙ ap (λ ts. ts ++ zero_word ∷ []) (sym (append_assoc head (blocks ++ rows) begun))

module _ (ph : Phase) (p : PrefixModel) (m : MatrixModel) (n : State) (s : Sound p m) (closed : p.begun ≡ []) where
  -- the end of a row
  at_row_end : in_row Rows (st ph p m) (end_row m) ≡ Ok n → Next (row_front p m) zero_word n
  at_row_end e = by (end_row m) refl e
    where
      by : (r : Result MatrixModel Reason) → end_row m ≡ r → in_row Rows (st ph p m) r ≡ Ok n → Next (row_front p m) zero_word n
      by (Err r) why h = absurd (no_ok h)
      by (Ok q) is h =
          let f = ended_row m q is in
          subst (Next (row_front p m) zero_word) (ap (λ (k : MatrixModel). st Rows p k) (sym f.1) ∙ same_ok h)
          (record {
            good = record {
              begun = (closed, refl);
              sound = record {
                variables = s.variables;
                few_blocks = s.few_blocks;
                letters = s.letters;
                filled = s.filled;
                in_size = s.in_size;
                once = s.once;
                few_rows = s.few_rows;
                rows_due = omega (arith, length_push m.rows m.begun, f.0);
                few_literals = omega (arith, ap length (literals_push m.rows m.begun), length-append (all_literals m.rows) m.begun, s.few_literals);
                rows_are = rows_good_push (order p.blocks) m.rows m.begun s.rows_are s.row_bound_is s.row_once;
                row_bound_is = refl;
                row_once = refl;
              };
            };
            words = row_written p m;
          })

  -- a literal of a row
  at_literal : (l : Literal) → apply (st ph p m) (Add l) ≡ Ok n → Next (row_front p m) (literal_word l) n
  at_literal l e = due_row (complete m) e
    where
      by : bound p l.variable ≡ true → (r : Result MatrixModel Reason) → add_literal l m ≡ r → in_row Row (st ph p m) r ≡ Ok n → Next (row_front p m) (literal_word l) n
      by there (Err r) why h = absurd (no_ok h)
      by there (Ok q) is h =
          let f = added_literal l m q is in
          subst (Next (row_front p m) (literal_word l)) (ap (λ (k : MatrixModel). st Row p k) (sym f.2) ∙ same_ok h)
          (record {
            good = record {
              begun = closed;
              sound = record {
                variables = s.variables;
                few_blocks = s.few_blocks;
                letters = s.letters;
                filled = s.filled;
                in_size = s.in_size;
                once = s.once;
                few_rows = s.few_rows;
                rows_due = s.rows_due;
                few_literals = omega (arith, length_push m.begun l, f.1);
                rows_are = s.rows_are;
                row_bound_is = row_bound_push (order p.blocks) m.begun l s.row_bound_is
                    (ap (λ v. has_var v l.variable) (sym (append-nil (order p.blocks)) ∙ ap (λ v. order p.blocks ++ v) (sym closed)) ∙ there);
                row_once = row_distinct_push m.begun l s.row_once f.0;
              };
            };
            words = ap (λ ts. complete_words p m ++ ts) (map_push literal_word m.begun l) ∙ sym (append_assoc (complete_words p m) (map literal_word m.begun) (literal_word l ∷ []));
          })

      allowed : (o : Option Reason) → unnameable l.variable p ≡ o → named l (st ph p m) o ≡ Ok n → Next (row_front p m) (literal_word l) n
      allowed (Some r) why h = absurd (no_ok h)
      allowed None fine h = by (nameable l.variable p fine) (add_literal l m) refl h

      due_row : (t : Bool) → cond t (Err (by_layer RowLayer WrongRowCount)) (named l (st ph p m) (unnameable l.variable p)) ≡ Ok n → Next (row_front p m) (literal_word l) n
      due_row true h = absurd (no_ok h)
      due_row false h = allowed (unnameable l.variable p) refl h

  -- a number where a row may begin, or goes on
  at_number : (z : ℤ) → apply (st ph p m) (row_number z) ≡ Ok n → Next (row_front p m) (number_of z) n
  at_number (pos zero) e = at_row_end e
  at_number (pos (suc k)) e =
      let l : Literal = record { variable = suc k; positive = true } in
      at_literal l (ap (λ t. apply (st ph p m) (cond t EndRow (Add l))) (sym (not_zero k)) ∙ e)
  at_number (negsuc k) e = at_literal (record { variable = suc k; positive = false }) e

-- nothing of a row is read
no_row : (p : PrefixModel) (m : MatrixModel) → m.begun ≡ [] → row_front p m ≡ complete_words p m
no_row p m none = ap (λ ls. complete_words p m ++ map literal_word ls) none ∙ append-nil (complete_words p m)

-- ---- any word

pub next : (ph : Phase) (p : PrefixModel) (m : MatrixModel) (t : Lexeme) (n : State) → Good ph p m → step (st ph p m) t ≡ Ok n → Next (written ph p m) t n
next Start p m (letter b) n g e = at_start p m b n g e
next Start p m (number_of z) n g e = absurd (no_ok e)
next Start p m (stray bs) n g e = absurd (no_ok (clean (st Start p m) n bs (due Start (stray bs)) e))
next Format p m (letter b) n g e = absurd (no_ok e)
next Format p m (number_of z) n g e = absurd (no_ok e)
next Format p m (stray bs) n g e = at_format p m bs n g e
next Variables p m (letter b) n g e = absurd (no_ok e)
next Variables p m (number_of (pos k)) n g e = at_variables p m k n g e
next Variables p m (number_of (negsuc k)) n g e = absurd (no_ok e)
next Variables p m (stray bs) n g e = absurd (no_ok (clean (st Variables p m) n bs (due Variables (stray bs)) e))
next (RowCount c) p m (letter b) n g e = absurd (no_ok e)
next (RowCount c) p m (number_of (pos k)) n g e = at_count c p m k n g e
next (RowCount c) p m (number_of (negsuc k)) n g e = absurd (no_ok e)
next (RowCount c) p m (stray bs) n g e = absurd (no_ok (clean (st (RowCount c) p m) n bs (due (RowCount c) (stray bs)) e))
next Blocks p m (letter b) n g e = at_blocks p m n b g e
next Blocks p m (number_of z) n g e = subst (λ ts. Next ts (number_of z) n) (no_row p m g.begun.2) (at_number Blocks p m n g.sound g.begun.0 z e)
next Blocks p m (stray bs) n g e = absurd (no_ok (clean (st Blocks p m) n bs (due Blocks (stray bs)) e))
next (Block l) p m (letter b) n g e = absurd (no_ok e)
next (Block l) p m (number_of (pos zero)) n g e = at_block_end p m n l g e
next (Block l) p m (number_of (pos (suc k))) n g e =
    at_variable p m n l (suc k) g (ap (λ t. moved (st (Block l) p m) (cond t (Ok (EndBlock l)) (Ok (Bind (suc k))))) (sym (not_zero k)) ∙ e)
next (Block l) p m (number_of (negsuc k)) n g e = absurd (no_ok e)
next (Block l) p m (stray bs) n g e = absurd (no_ok (clean (st (Block l) p m) n bs (due (Block l) (stray bs)) e))
next Rows p m (letter b) n g e = late (eqb b 97 || eqb b 101) e
  where
    late : (t : Bool) → moved (st Rows p m) (cond t (Err misplaced) (Err not_a_number)) ≡ Ok n → Next (written Rows p m) (letter b) n
    late true h = absurd (no_ok h)
    late false h = absurd (no_ok h)
next Rows p m (number_of z) n g e = subst (λ ts. Next ts (number_of z) n) (no_row p m g.begun.1) (at_number Rows p m n g.sound g.begun.0 z e)
next Rows p m (stray bs) n g e = absurd (no_ok (clean (st Rows p m) n bs (due Rows (stray bs)) e))
next Row p m (letter b) n g e = absurd (no_ok e)
next Row p m (number_of z) n g e = at_number Row p m n g.sound g.begun z e
next Row p m (stray bs) n g e = absurd (no_ok (clean (st Row p m) n bs (due Row (stray bs)) e))

-- ---- all words

-- nothing is read
pub start_good : Good Start (unbound 0) (no_rows 0)
start_good = record { begun = (refl, refl); sound = head_sound 0 0 (omega arith) (omega arith) }

-- all words were read, and nothing is lacking
pub record Ended (front : List Lexeme) (ts : List Lexeme) (left : State) : Type 0 where
  pub words : written_by left ≡ front ++ ts
  pub good : Good left.phase left.prefix left.matrix
  pub full : lacks left ≡ None

run_ended : (stop : ℕ) (ts : List (ℕ × Lexeme)) (s : State) → Good s.phase s.prefix s.matrix → (run stop s ts).refusal ≡ None
    → Ended (written_by s) (bare ts) (run stop s ts).left
run_ended stop [] s g e = by (lacks s) refl e
  where
    by : (o : Option Fault) → lacks s ≡ o → (stopped s stop o).refusal ≡ None → Ended (written_by s) [] (stopped s stop o).left
    by None is h = record { words = sym (append-nil (written_by s)); good = g; full = is }
    by (Some f) is h = absurd (no_some h)
run_ended stop (t ∷ ts) s g e = by (λ k. run_ended stop ts k) (step s t.1) refl e
  where
    goes : Result State Fault → Outcome
    goes r = elim r as (λ _. Outcome) [ Ok k ↦ run stop k ts | Err f ↦ stopped s t.0 (Some f) ]

    by : ((k : State) → Good k.phase k.prefix k.matrix → (run stop k ts).refusal ≡ None → Ended (written_by k) (bare ts) (run stop k ts).left)
        → (r : Result State Fault) → step s t.1 ≡ r → (goes r).refusal ≡ None → Ended (written_by s) (t.1 ∷ bare ts) (goes r).left
    by more (Err f) is h = absurd (no_some h)
    by more (Ok k) is h =
        let one = next s.phase s.prefix s.matrix t.1 k g is in
        let all = more k one.good h in
        record {
          words = all.words ∙ ap (λ (l : List Lexeme). l ++ bare ts) one.words ∙ append_assoc (written_by s) (t.1 ∷ []) (bare ts);
          good = all.good;
          full = all.full;
        }

-- ---- a whole text

all_rows : (m : MatrixModel) → cond (complete m) None (Some (by_layer RowLayer WrongRowCount)) ≡ None → m.due ≤ length m.rows
all_rows m full = by (complete m) refl full
  where
    by : (t : Bool) → complete m ≡ t → cond t None (Some (by_layer RowLayer WrongRowCount)) ≡ None → m.due ≤ length m.rows
    by true is h = leb-true m.due _ is
    by false is h = absurd (no_some h)

-- a sound formula of which nothing is begun and nothing is missing is well-formed
well : (p : PrefixModel) (m : MatrixModel) → Sound p m → p.begun ≡ [] → m.due ≤ length m.rows → WellFormed (complete_part p m)
well p m s closed all =
    let vars = sym (append-nil (order p.blocks)) ∙ ap (λ v. order p.blocks ++ v) (sym closed) in
    record {
      variables = s.variables;
      few_blocks = s.few_blocks;
      letters = s.letters;
      filled = s.filled;
      in_size = ap (all_in_range p.size) vars ∙ s.in_size;
      once = ap distinct vars ∙ s.once;
      announced = omega (arith, s.rows_due);
      few_rows = s.few_rows;
      few_literals = omega (arith, s.few_literals);
      rows_are = s.rows_are;
    }

-- where nothing is lacking, the words write the formula that is left, and it is well-formed
whole : (ph : Phase) (p : PrefixModel) (m : MatrixModel) → Good ph p m → lacks (st ph p m) ≡ None
    → (written ph p m ≡ formula_words (complete_part p m)) × WellFormed (complete_part p m)
whole Start p m g full = absurd (no_some full)
whole Format p m g full = absurd (no_some full)
whole Variables p m g full = absurd (no_some full)
whole (RowCount c) p m g full = absurd (no_some full)
whole (Block l) p m g full = absurd (no_some full)
whole Row p m g full = absurd (no_some full)
whole Blocks p m g full = (refl, well p m g.sound g.begun.0 (all_rows m full))
whole Rows p m g full = (refl, well p m g.sound g.begun.0 (all_rows m full))

-- the text is accepted: it writes the formula that is left
pub accepted : (text : List ℕ) → (reading text).refusal ≡ None → Writes text (left_formula (reading text).left)
accepted text e = by (leb (length text) 65536) refl e
  where
    outcome : Bool → Outcome
    outcome t = cond t (run (length text) nothing (tokens_from text (body text))) (stopped nothing 0 (Some (by_layer Text TextTooLong)))

    by : (t : Bool) → leb (length text) 65536 ≡ t → (outcome t).refusal ≡ None → Writes text (left_formula (outcome t).left)
    by false is h = absurd (no_some h)
    by true is h =
        let end = run_ended (length text) (tokens_from text (body text)) nothing start_good h in
        let left = (run (length text) nothing (tokens_from text (body text))).left in
        let f = whole left.phase left.prefix left.matrix end.good end.full in
        record { short = leb-true _ 65536 is; words = sym end.words ∙ f.0; formula = f.1 }
