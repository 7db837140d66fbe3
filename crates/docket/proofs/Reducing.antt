-- What a reduce goes by, and what it appends: the parent's record without its tail.
use Rattle.std.proofs.Common.{◌≡◌, ℕ, Bool, true, ltb, length, ap, ◌∙◌, ap₂}
use Rattle.game.specs.Records.{Side, Record, ceiling, over, some_var}
use Rattle.game.specs.Functions.{kept, reduced}
use Rattle.game.proofs.Merge.{kept_above}
use Rattle.docket.specs.Sides.{stays}
use Rattle.docket.specs.Stored.{rises}
use Rattle.docket.proofs.Staying.{some_goes}
use Rattle.docket.proofs.Steps.{rises_above, above_rises}

-- S is the side that the code asks and T the game's; h is the ceiling that was found in `cut`, which is the record r
module _ (S T : Side) (h : ℕ) (cut r : Record) (same_side : S ≡ T) (same : cut ≡ r) (is : h ≡ ceiling S cut) where
  pub made : kept (stays S h) cut ≡ reduced T r
  made = ap (λ (n : ℕ). kept (stays S n) cut) is ∙ ap₂ (λ (U : Side) (l : Record). reduced U l) same_side same

  pub tail_told : (n : ℕ) → n ≡ length (kept (stays S h) cut) → ltb n (length cut) ≡ some_var (over T r) r
  tail_told n long = ap₂ (λ m (l : Record). ltb m (length l)) (long ∙ ap length made) same ∙ some_goes (over T r) r

pub kept_rises : (f : ℕ → Bool) (r : Record) → rises 0 r ≡ true → rises 0 (kept f r) ≡ true
kept_rises f r up = above_rises 0 (kept f r) (kept_above f 0 r (rises_above 0 r up))
