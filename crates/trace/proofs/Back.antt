-- What is written is read back. Assumes nothing.
use Rattle.std.proofs.Common.{◌≡◌, ℕ, zero, suc, ◌+◌, ◌-◌, ◌*◌, ◌%◌, ◌<◌, ◌^◌, Bool, true, false, List, [], ◌∷◌, ◌++◌, length, take, drop, Ok, Some, refl, ap, ap₂, ◌∙◌, arith}
use Rattle.std.proofs.lemmas.List.{length-append}
use Rattle.std.proofs.lemmas.Bool.{lt-ltb, le-ltb, le-leb, eq-eqb, ne_eqb}
use Rattle.std.proofs.Math.Seq.{take-append_seam, drop-append_seam}
use Rattle.std.proofs.lemmas.Nat.{from_le_bytes-to_le_bytes_2, from_le_bytes-to_le_bytes_4}
use Rattle.std.specs.Int.{w32, to_le_bytes, from_le_bytes}
use Rattle.formula.specs.declared.letter.Literal.{Literal}
use Rattle.trace.specs.Format.{Saying, leaf, resolve, reduce, ending, literal_of, literals, known, payload_of, record_in}
use Rattle.trace.specs.Encoding.{number_of, literal_bytes, kind_of, payload_bytes, FitsSigned, AllFit, Fits, ToldBack}

-- a literal comes back from its number
back : (v : ℕ) (s : Bool) → FitsSigned (record { variable = v; positive = s })
    → (number_of (record { variable = v; positive = s }) < 2 ^ 32) × (literal_of (number_of (record { variable = v; positive = s })) ≡ record { variable = v; positive = s })
back v true fits = (omega (arith, fits.1), rw (lt-ltb v 2147483648 fits.1, le-leb 1 v fits.0) refl)
back zero false fits = (omega arith, refl)
back (suc n) false fits =
    rw (ne_eqb (suc n) 0 (λ q. omega (arith, q)))
    (omega (arith, fits), rw (le-ltb (4294967296 - suc n) 2147483648 (omega (arith, fits))) (ap (λ (k : ℕ). record { variable = k; positive = false }) (omega (arith, fits))))

-- and a list of them from its bytes
all_back : (ls : List Literal) → AllFit ls → literals (literal_bytes ls) ≡ ls
all_back [] fits = refl
all_back (l ∷ ls) fits =
    let one = back l.variable l.positive fits.0 in
    ap₂ (λ (k : Literal) (ks : List Literal). k ∷ ks) (ap literal_of (from_le_bytes-to_le_bytes_4 (number_of l) one.0) ∙ one.1) (all_back ls fits.1)

long : (ls : List Literal) → length (literal_bytes ls) ≡ 4 * length ls
long [] = refl
long (l ∷ ls) = omega (arith, long ls)

-- a record of a kind with its payload, in what stands before anything
framed : (kind : ℕ) (p rest : List ℕ) (r : Saying) → known kind ≡ true → payload_of kind p ≡ Some r → record_in (length p + 4) kind (p ++ rest) ≡ Ok (r, rest)
framed kind p rest r is says =
    let n : length p + 4 - 4 ≡ length p = omega arith in
    let front : take (length p + 4 - 4) (p ++ rest) ≡ p = ap (λ k. take k (p ++ rest)) n ∙ take-append_seam p rest in
    let behind : drop (length p + 4 - 4) (p ++ rest) ≡ rest = ap (λ k. drop k (p ++ rest)) n ∙ drop-append_seam p rest in
    rw (le-ltb (length (p ++ rest) + 4) (length p + 4) (omega (arith, length-append p rest)), is, le-ltb (length p + 4) 4 (omega arith), front, says, behind) refl

is_known : (r : Saying) → (kind_of r < 2 ^ 16) × (known (kind_of r) ≡ true)
is_known (leaf ls) = (omega arith, refl)
is_known (resolve p i j) = (omega arith, refl)
is_known (reduce i) = (omega arith, refl)
is_known ending = (omega arith, refl)

short : (r : Saying) → Fits r → length (payload_bytes r) + 4 < 2 ^ 16
short (leaf ls) fits = omega (arith, long ls, fits.0)
short (resolve p i j) fits = omega arith
short (reduce i) fits = omega arith
short ending fits = omega arith

number_back : (n : ℕ) → n < 2 ^ 32 → from_le_bytes w32 (to_le_bytes w32 n) ≡ n
number_back n low = from_le_bytes-to_le_bytes_4 n low

says : (r : Saying) → Fits r → payload_of (kind_of r) (payload_bytes r) ≡ Some r
says (leaf ls) fits =
    let fours : length (literal_bytes ls) % 4 ≡ 0 = omega (arith, long ls) in
    rw (eq-eqb (length (literal_bytes ls) % 4) 0 fours) (ap (λ (l : List Literal). Some (leaf l)) (all_back ls fits.1))
says (resolve p i j) fits = ap₂ (λ a (b : ℕ × ℕ). Some (resolve a b.0 b.1)) (number_back p fits.0) (ap₂ (λ a b. (a, b)) (number_back i fits.1) (number_back j fits.2))
says (reduce i) fits = ap (λ a. Some (reduce a)) (number_back i fits)
says ending fits = refl

pub told_back : ToldBack
told_back r rest fits =
    ap₂ (λ n k. record_in n k (payload_bytes r ++ rest)) (from_le_bytes-to_le_bytes_2 (length (payload_bytes r) + 4) (short r fits)) (from_le_bytes-to_le_bytes_2 (kind_of r) (is_known r).0)
    ∙ framed (kind_of r) (payload_bytes r) rest r (is_known r).1 (says r fits)
