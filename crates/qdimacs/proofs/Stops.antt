-- A refused text: the words before the place write what is left, and no well-formed formula goes on from there. Assumes nothing.
use Rattle.std.proofs.Common.{◌≡◌, ℕ, List, [], ◌∷◌, ◌++◌, length, Some, None, Ok, Err, Option, Result, sym, refl, ap, ◌∙◌, subst}
use Rattle.std.specs.Result.{result_err}
use Rattle.std.proofs.lemmas.List.{append_assoc, map_push}
use Rattle.std.proofs.lemmas.Bool.{le-leb, cond-true}
use Rattle.refusal.specs.declared.Refusal.{Refusal}
use Rattle.formula.specs.Formula.{Formula, WellFormed}
use Rattle.words.specs.Text.{Lexeme, body, tokens_from}
use Rattle.qdimacs.specs.declared.phase.Fault.{Fault}
use Rattle.qdimacs.specs.Reading.{State, Outcome, nothing, step, lacks, stopped, run, reading, at_place}
use Rattle.qdimacs.specs.Refused.{bare, place_of, GoesOn, Stops, Stopped}
use Rattle.qdimacs.specs.Written.{written_by, Good, Sound}
use Rattle.qdimacs.proofs.Accepts.{after, reads_formula}
use Rattle.qdimacs.proofs.Leads.{next, start_good}
use Rattle.qdimacs.proofs.Lists.{no_some}

same_some : {X : Type 0} {x y : X} → ◌≡◌ {A = Option X} (Some x) (Some y) → x ≡ y
same_some e = cc

-- words, and then further words
after_more : (xs ys : List Lexeme) (s n : State) → after s xs ≡ Some n → after s (xs ++ ys) ≡ after n ys
after_more [] ys s n e = ap (λ k. after k ys) (same_some e)
after_more (t ∷ xs) ys s n e = by (λ k. after_more xs ys k n) (step s t) e
  where
    by : ((k : State) → after k xs ≡ Some n → after k (xs ++ ys) ≡ after n ys) → (r : Result State Fault)
        → elim r as (λ _. Option State) [ Ok k ↦ after k xs | Err f ↦ None ] ≡ Some n
        → elim r as (λ _. Option State) [ Ok k ↦ after k (xs ++ ys) | Err f ↦ None ] ≡ after n ys
    by more (Ok k) h = more k h
    by more (Err f) h = absurd (no_some (sym h))

-- what stops at a place, with the words so far in front
pub record At (all : List (ℕ × Lexeme)) (stop : ℕ) (r : Refusal) (left : State) : Type 0 where
  pub before : List (ℕ × Lexeme)
  pub rest : List (ℕ × Lexeme)
  pub words : all ≡ before ++ rest
  pub place : r.place ≡ place_of stop rest
  pub read : written_by left ≡ bare before
  pub sound : Sound left.prefix left.matrix
  pub no_way : (F : Formula) → WellFormed F → GoesOn (bare before) rest F → ⊥

module _ (stop : ℕ) (all : List (ℕ × Lexeme)) (r : Refusal) where
  -- the text ends here, and something is lacking
  at_end : (front : List (ℕ × Lexeme)) (s : State) → all ≡ front ++ [] → Good s.phase s.prefix s.matrix → written_by s ≡ bare front
      → after nothing (bare front) ≡ Some s → (stopped s stop (lacks s)).refusal ≡ Some r → At all stop r (stopped s stop (lacks s)).left
  at_end front s is g words leads e = by (lacks s) refl e
    where
      by : (o : Option Fault) → lacks s ≡ o → (stopped s stop o).refusal ≡ Some r → At all stop r (stopped s stop o).left
      by None full h = absurd (no_some (sym h))
      by (Some f) lack h = record {
        before = front;
        rest = [];
        words = is;
        place = ap (λ (k : Refusal). k.place) (sym (same_some h));
        read = words;
        sound = g.sound;
        no_way = λ F w same.
            let full = reads_formula F w in
            let last = same_some (sym leads ∙ ap (after nothing) (sym same) ∙ full.words) in
            no_some (sym lack ∙ ap lacks last ∙ full.full);
      }

  -- a word is refused
  at_word : (front ts : List (ℕ × Lexeme)) (t : ℕ × Lexeme) (s : State) (f : Fault) → all ≡ front ++ t ∷ ts → Good s.phase s.prefix s.matrix
      → written_by s ≡ bare front → after nothing (bare front) ≡ Some s → step s t.1 ≡ Err f → ◌≡◌ {A = Option Refusal} (Some (at_place f t.0)) (Some r) → At all stop r s
  at_word front ts t s f is g words leads refused h = record {
    before = front;
    rest = t ∷ ts;
    words = is;
    place = ap (λ (k : Refusal). k.place) (sym (same_some h));
    read = words;
    sound = g.sound;
    no_way = λ F w goes.
        let full = reads_formula F w in
        let none = ap (λ (k : Result State Fault). elim k as (λ _. Option State) [ Ok n ↦ after n goes.0 | Err e ↦ None ]) refused in
        no_some (sym full.words ∙ ap (after nothing) goes.1 ∙ after_more (bare front) (t.1 ∷ goes.0) nothing s leads ∙ none);
  }

  run_stops : (ts front : List (ℕ × Lexeme)) (s : State) → all ≡ front ++ ts → Good s.phase s.prefix s.matrix → written_by s ≡ bare front
      → after nothing (bare front) ≡ Some s → (run stop s ts).refusal ≡ Some r → At all stop r (run stop s ts).left
  run_stops [] front s is g words leads e = at_end front s is g words leads e
  run_stops (t ∷ ts) front s is g words leads e = by (λ n. run_stops ts (front ++ t ∷ []) n) (step s t.1) refl e
    where
      goes : Result State Fault → Outcome
      goes k = elim k as (λ _. Outcome) [ Ok n ↦ run stop n ts | Err f ↦ stopped s t.0 (Some f) ]

      by : ((n : State) → all ≡ (front ++ t ∷ []) ++ ts → Good n.phase n.prefix n.matrix → written_by n ≡ bare (front ++ t ∷ [])
          → after nothing (bare (front ++ t ∷ [])) ≡ Some n → (run stop n ts).refusal ≡ Some r → At all stop r (run stop n ts).left)
          → (k : Result State Fault) → step s t.1 ≡ k → (goes k).refusal ≡ Some r → At all stop r (goes k).left
      by more (Err f) why h = at_word front ts t s f is g words leads why h
      by more (Ok n) did h =
          let one = next s.phase s.prefix s.matrix t.1 n g did in
          let longer = map_push (λ (k : ℕ × Lexeme). k.1) front t in
          let step_on = ap (λ (k : Result State Fault). elim k as (λ _. Option State) [ Ok m ↦ Some m | Err e ↦ None ]) did in
          more n
          (is ∙ sym (append_assoc front (t ∷ []) ts))
          one.good
          (one.words ∙ ap (λ (l : List Lexeme). l ++ t.1 ∷ []) words ∙ sym longer)
          (ap (after nothing) longer ∙ after_more (bare front) (t.1 ∷ []) nothing s leads ∙ step_on)
          h

-- a text that is refused, and is not too long
pub stops : {X : Type 0} (text : List ℕ) (r : Result X Refusal) → result_err r ≡ (reading text).refusal → Stopped text r (reading text).left
stops text r why short e is =
    let reads : reading text ≡ run (length text) nothing (tokens_from text (body text)) = cond-true _ _ _ (le-leb (length text) 65536 short) in
    let refused = ap (λ (o : Outcome). o.refusal) (sym reads) ∙ sym why ∙ ap result_err is in
    let at = run_stops (length text) (tokens_from text (body text)) e (tokens_from text (body text)) [] nothing refl start_good refl refl refused in
    subst (λ (o : Outcome). Stops text e o.left) (sym reads)
    (record { before = at.before; rest = at.rest; words = at.words; place = at.place; read = at.read; sound = at.sound; no_way = at.no_way })
