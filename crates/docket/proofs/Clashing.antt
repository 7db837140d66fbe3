-- A test of the variables of one record by their marks in two, made in a walk over both.
use Rattle.std.proofs.Common.{◌≡◌, ℕ, ◌<◌, Bool, true, false, ◌&&◌, ◌||◌, [], ◌∷◌, map, refl, sym, ap, ap₂, ◌∙◌, inl, inr, arith}
use Rattle.std.specs.List.{list_all}
use Rattle.std.proofs.lemmas.Bool.{cases_order, lt-ltb, le-ltb}
use Rattle.table.specs.declared.join.Meeting.{Meeting}
use Rattle.table.specs.declared.join.Meeting.TheVariants.{First, Second, Both}
use Rattle.table.specs.Joins.{meetings_from, meetings}
use Rattle.game.specs.declared.record.Entry.{Entry}
use Rattle.game.specs.Records.{Record, Found, absent, has, found, named, is_there, each_var, Above}
use Rattle.game.specs.Functions.{agree}
use Rattle.game.proofs.Merge.{above_absent, above_less, found_here, found_there}
use Rattle.game.proofs.Records.{each_same}
use Rattle.docket.proofs.Joining.{variable_of}

-- a variable of the later entries is not the first one's
later : (e : Entry) (r : Record) (x : ℕ) → Above e.variable r → named r x ≡ true → e.variable ≡ x → ⊥
later e r x up there same =
    let none : named r x ≡ false = ap is_there (above_absent e.variable x r (omega (arith, same)) up) in
    let z : ◌≡◌ {A = Bool} true false = sym there ∙ none in cc

each_marked : (h : ℕ → Found → Bool) (a : ℕ) (r : Record) → Above a r → list_all (λ (e : Entry). h e.variable (has e.mark)) r ≡ each_var (λ x. h x (found r x)) r
unfolding each_var
each_marked h a [] up = refl
each_marked h a (e ∷ r) up =
    ap₂ (λ b c. b && c) (ap (h e.variable) (sym (found_here e r e.variable refl)))
    (each_marked h e.variable r up.1
    ∙ each_same (λ x. h x (found r x)) (λ x. h x (found (e ∷ r) x)) r (λ x there. ap (h x) (sym (found_there e r x (later e r x up.1 there)))))

-- tests that agree above a agree on entries above it
all_above : (f g : Entry → Bool) (a : ℕ) (r : Record) → Above a r → ((e : Entry) → a < e.variable → f e ≡ g e) → list_all f r ≡ list_all g r
all_above f g a [] up same = refl
all_above f g a (e ∷ r) up same = ap₂ (λ b c. b && c) (same e up.0) (all_above f g a r (above_less e.variable a r (let l = up.0 in omega arith) up.1) same)

-- the test holds where the second record does not name the variable
module _ (h : ℕ → Found → Found → Bool) (alone : (x : ℕ) (f : Found) → h x f absent ≡ true) where
  -- so a walk tests those that both name
  abbrev pub met : Meeting Entry → Bool
  met (First e) = true
  met (Second d) = true
  met (Both e d) = h e.variable (has e.mark) (has d.mark)

  -- an entry of the first record against the second
  abbrev against : Record → Entry → Bool
  against s e = h e.variable (has e.mark) (found s e.variable)

  seconds : (s : Record) → list_all met (map Second s) ≡ true
  seconds [] = refl
  seconds (d ∷ s) = seconds s

  none_against : (r : Record) → list_all (against []) r ≡ true
  unfolding found
  none_against [] = refl
  none_against (e ∷ r) = rw (alone e.variable (has e.mark)) (none_against r)

  module _ (e : Entry) (r : Record) (up : Above e.variable r) (ih : (s : Record) (b : ℕ) → Above b s → list_all met (meetings variable_of r s) ≡ list_all (against s) r) where
    from : (s : Record) (b : ℕ) → Above b s → list_all met (meetings_from variable_of e (meetings variable_of r) s) ≡ list_all (against s) (e ∷ r)
    unfolding meetings_from
    from [] b down = ih [] 0 tt ∙ none_against r ∙ sym (none_against (e ∷ r))
    from (d ∷ s) b down = elim (cases_order e.variable d.variable) [
      | inl q ↦
          let here : found (d ∷ s) e.variable ≡ has d.mark = found_here d s e.variable (sym q) in
          let rest : list_all (against s) r ≡ list_all (against (d ∷ s)) r
          = all_above (against s) (against (d ∷ s)) e.variable r up (λ x over. ap (h x.variable (has x.mark)) (sym (found_there d s x.variable (λ z. omega (arith, q, z))))) in
          rw (le-ltb e.variable d.variable (omega arith), le-ltb d.variable e.variable (omega arith), meetings_from, here)
          (ap (λ c. h e.variable (has e.mark) (has d.mark) && c) (ih s d.variable down.1 ∙ rest))
      | inr o ↦ elim o [
        | inl l ↦
            let here : found (d ∷ s) e.variable ≡ absent = above_absent e.variable e.variable (d ∷ s) (omega arith) (l, down.1) in
            rw (lt-ltb e.variable d.variable l, meetings_from, here, alone e.variable (has e.mark)) (ih (d ∷ s) b down)
        | inr l ↦
            let rest : list_all (against s) (e ∷ r) ≡ list_all (against (d ∷ s)) (e ∷ r)
            = all_above (against s) (against (d ∷ s)) d.variable (e ∷ r) (l, up) (λ x over. ap (h x.variable (has x.mark)) (sym (found_there d s x.variable (λ z. omega (arith, z))))) in
            rw (le-ltb e.variable d.variable (omega arith), lt-ltb d.variable e.variable l, meetings_from) (from s d.variable down.1 ∙ rest)
      ]
    ]

  all_met : (r : Record) (a : ℕ) → Above a r → (s : Record) (b : ℕ) → Above b s → list_all met (meetings variable_of r s) ≡ list_all (against s) r
  unfolding meetings
  all_met [] a up s b down = seconds s
  all_met (e ∷ r) a up s b down = from e r up.1 (all_met r e.variable up.1) s b down

  pub walked : (r s : Record) → Above 0 r → Above 0 s → list_all met (meetings variable_of r s) ≡ each_var (λ x. h x (found r x) (found s x)) r
  walked r s up down = all_met r 0 up s 0 down ∙ each_marked (λ x f. h x f (found s x)) 0 r up

-- the tests of a resolve are such tests
pub opponents_alone : (a b : Bool) (f : Found) → (a || (b || agree f absent)) ≡ true
opponents_alone true b f = refl
opponents_alone false true f = refl
opponents_alone false false absent = refl
opponents_alone false false (has m) = refl

pub clashes_alone : (a c : Bool) (f : Found) → (a || (agree f absent || c)) ≡ true
clashes_alone true c f = refl
clashes_alone false c absent = refl
clashes_alone false c (has m) = refl
