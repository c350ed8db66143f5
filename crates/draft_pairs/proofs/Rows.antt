-- Laws of pairs as rows of five digits.
--     Digits, digits                           five numbers below 2 to the power of 64; an array of five u64 is such
--     row_alone                                a number and four digits that are 0
--     row_number, row_renumbered               the first digit is the pair's number; another first digit
--     row_holds                                a token is in the set where its digit has its bit
--     row_room, row_with                       a token that is not in: its bit added to its digit
--     members_kept, members_below              the tokens of a set below a bound are all, where none is above it; as a range filtered
--     members_set                              a pair's set has the members that the pair has as a number
--     agree_apart                              rows that agree below a digit compare as that digit where it differs
use mathlib.Core.Path.{◌≡◌, refl, sym, ap, ap₂, ◌∙◌}
use mathlib.Core.Bool.{Bool, true, false, cond}
use mathlib.Core.List.{List, [], ◌∷◌, ◌++◌, append-nil}
use mathlib.Core.Logic.{by_cases}
use Prim.Native.Nat.{ℕ, zero, suc, ◌+◌, ◌*◌, ◌-◌, ◌/◌, ◌%◌, ◌^◌, ◌<◌, ◌≤◌}
use native.Mathlib.Decide.{dec_lt}
use native.Mathlib.Nat.{le_of_lt, add_assoc, add-mul, add-zero, add-suc, mul_assoc, one-mul, zero-add}
use native.Mathlib.Omega.{arith}
use borrow.Author.Rules.{elem_Fits}
use borrow.Author.Tests.{lt-ltb, le-ltb}
use denote.Array.{Array}
use denote.Laws.{Is}
use denote.Plain.{UInt}
use lib.Arith.{digits_lt}
use lib.Dec.{ltb, eqb}
use lib.ListN.{length, get_or, set, take, drop, length-drop}
use lib.Pow.{pow-add, shl_exact, shr-shr, high, low, field, mod-mod-pow}
use lib.Seq.{get_or-drop, set_split, set-get_or}
use mir.Syntax.{w64}
use mir.Val.{Val}
use Rattle.std.specs.List.{filter, range_with_len}
use Rattle.laws.specs.Sets.{below, keep}
use Rattle.laws.proofs.Booleans.{cond_false}
use Rattle.laws.proofs.Sets.{keep_agrees, keep_append, below_lt}
use Rattle.draft_pairs.specs.TokenSets.{holds, with, members}
use Rattle.draft_pairs.specs.Pairs.{pair, number_in, set_in}
use Rattle.draft_pairs.proofs.TokenSets.{number_pair, set_pair, pair_parts, with_bound}
use Rattle.draft_pairs.specs.Rows.{value_from, row_value}

pub record Digits (row : List ℕ) : Type 0 where
  pub long : length row ≡ 5
  pub small : (k : ℕ) → get_or row k 0 < 2 ^ 64

pub digits : {row : List ℕ} {vs : List Val} → Is (Array (UInt w64) 5) row vs → Digits row
digits {row} p = record { long = p.1.0.1; small = λ k. (elem_Fits w64 w64 row p.0 k p.1.1 tt).fits }

-- ---- the value of a list of digits
value_append : (v : ℕ) (l k : List ℕ) → value_from v (l ++ k) ≡ value_from (value_from v l) k
unfolding value_from
value_append v [] k = refl
value_append v (w ∷ l) k = value_append (v * 2 ^ 64 + w) l k

place_more : (n : ℕ) → 2 ^ (64 * suc n) ≡ 2 ^ 64 * 2 ^ (64 * n)
place_more n = let e : 64 * suc n ≡ 64 + 64 * n = omega arith in ap (λ k. 2 ^ k) e ∙ pow-add 2 64 (64 * n)

carried : (B P v w z : ℕ) → (v * B + w) * P + z ≡ v * (B * P) + ((0 * B + w) * P + z)
carried B P v w z = let e : 0 * B + w ≡ w = omega arith in omega (arith, add-mul (v * B) w P, mul_assoc v B P, ap (λ n. n * P) e)

value_high : (v : ℕ) (l : List ℕ) → value_from v l ≡ v * 2 ^ (64 * length l) + value_from 0 l
unfolding value_from
value_high v [] = omega arith
value_high v (w ∷ l) =
    value_high _ l
    ∙ carried (2 ^ 64) (2 ^ (64 * length l)) v w (value_from 0 l)
    ∙ ap₂ (λ P z. v * P + z) (sym (place_more (length l))) (sym (value_high (0 * 2 ^ 64 + w) l))

value_below : (l : List ℕ) → ((i : ℕ) → get_or l i 0 < 2 ^ 64) → value_from 0 l < 2 ^ (64 * length l)
unfolding value_from
value_below [] small = omega arith
value_below (w ∷ l) small = rw (value_high (0 * 2 ^ 64 + w) l, place_more (length l)) (digits_lt (omega (arith, small 0)) (value_below l (λ i. small (suc i))))

-- ---- a row by one of its digits
-- what is above digit k, x in its place, what is below it
abbrev around : List ℕ → ℕ → ℕ → ℕ
around row k x = (value_from 0 (take k row) * 2 ^ 64 + x) * 2 ^ (64 * (4 - k)) + value_from 0 (drop (suc k) row)

module _ (row : List ℕ) (long : length row ≡ 5) (k : ℕ) (h : k < 5) where
  rest_length : length (drop (suc k) row) ≡ 4 - k
  rest_length = omega (arith, length-drop (suc k) row)

  row_replaced : (x : ℕ) → row_value (set row k x) ≡ around row k x
  unfolding value_from
  row_replaced x =
      let v = value_from 0 (take k row) * 2 ^ 64 + x in
      let rest = drop (suc k) row in
      ap (value_from 0) (set_split row k x (rw long h)) ∙ value_append 0 (take k row) (x ∷ rest) ∙ value_high v rest ∙ ap (λ n. v * 2 ^ (64 * n) + value_from 0 rest) rest_length

  row_digit : row_value row ≡ around row k (get_or row k 0)
  row_digit = ap row_value (sym (set-get_or row k 0)) ∙ row_replaced (get_or row k 0)

  rest_below : ((i : ℕ) → get_or row i 0 < 2 ^ 64) → value_from 0 (drop (suc k) row) < 2 ^ (64 * (4 - k))
  rest_below small = rw rest_length at (value_below (drop (suc k) row) (λ i. rw get_or-drop (small (suc k + i))))

added : (U w d P z : ℕ) → (U + (w + d)) * P + z ≡ (U + w) * P + z + d * P
added U w d P z = let e : U + (w + d) ≡ U + w + d = omega arith in omega (arith, ap (λ n. n * P) e, add-mul (U + w) d P)

-- ---- the digits of a number
holds_low : (m v t : ℕ) → t < m → holds (v % 2 ^ m) t ≡ holds v t
unfolding holds
holds_low m v t h =
    let i = m - t - 1 in
    let e : m ≡ i + 1 + t = omega arith in
    ap (λ k. eqb k 1) (ap (λ n. v % 2 ^ n / 2 ^ t % 2) e ∙ ap (λ k. k % 2) (field v (i + 1) t) ∙ mod-mod-pow (v / 2 ^ t) i 1)

holds_high : (v m j : ℕ) → holds v (m + j) ≡ holds (v / 2 ^ m) j
unfolding holds
holds_high v m j = ap (λ k. eqb (k % 2) 1) (sym (shr-shr v m j))

with_clear : (t set : ℕ) → holds set t ≡ false → with t set ≡ set + 2 ^ t
unfolding with
with_clear t set clear = sym (cond_false set clear refl)

-- ---- the pair of a row
row_parts : (row : List ℕ) → length row ≡ 5 → (n : ℕ) → row_value (set row 0 n) ≡ pair n (value_from 0 (drop 1 row))
unfolding pair value_from
row_parts row long n = row_replaced row long 0 (omega arith) n ∙ ap (λ m. m * 2 ^ 256 + value_from 0 (drop 1 row)) (zero-add n)

pub row_alone : (n : ℕ) → row_value (n ∷ 0 ∷ 0 ∷ 0 ∷ 0 ∷ []) ≡ pair n 0
unfolding value_from
row_alone n = row_parts (0 ∷ 0 ∷ 0 ∷ 0 ∷ 0 ∷ []) refl n

pair_more : (n s d : ℕ) → pair n (s + d) ≡ pair n s + d
unfolding pair
pair_more n s d = sym (add_assoc (n * 2 ^ 256) s d)

module _ {row : List ℕ} (p : Digits row) where
  row_pair : row_value row ≡ pair (get_or row 0 0) (value_from 0 (drop 1 row))
  row_pair = ap row_value (sym (set-get_or row 0 0)) ∙ row_parts row p.long (get_or row 0 0)

  set_small : value_from 0 (drop 1 row) < 2 ^ 256
  set_small = rest_below row p.long 0 (omega arith) p.small

  pub row_number : get_or row 0 0 ≡ number_in (row_value row)
  row_number = sym (ap number_in row_pair ∙ number_pair (get_or row 0 0) (value_from 0 (drop 1 row)) set_small)

  pub row_renumbered : (n : ℕ) → row_value (set row 0 n) ≡ pair n (set_in (row_value row))
  row_renumbered n = row_parts row p.long n ∙ ap (pair n) (sym (ap set_in row_pair ∙ set_pair (get_or row 0 0) (value_from 0 (drop 1 row)) set_small))

  digit_holds : (k : ℕ) → k < 5 → (j : ℕ) → j < 64 → holds (row_value row) (64 * (4 - k) + j) ≡ holds (get_or row k 0) j
  digit_holds k h j l =
      let m = 64 * (4 - k) in
      let above = value_from 0 (take k row) in
      let v = above * 2 ^ 64 + get_or row k 0 in
      holds_high (row_value row) m j
      ∙ ap (λ n. holds n j) (ap (λ n. n / 2 ^ m) (row_digit row p.long k h) ∙ high v m (rest_below row p.long k h p.small))
      ∙ sym (holds_low 64 v j l)
      ∙ ap (λ n. holds n j) (low above 64 (p.small k))

  -- the digit and the bit of a token
  module _ (t : ℕ) (h : t < 256) where
    pub row_holds : holds (get_or row (4 - t / 64) 0) (t % 64) ≡ holds (set_in (row_value row)) t
    unfolding set_in
    row_holds =
        let k = 4 - t / 64 in
        let e : t ≡ 64 * (4 - k) + t % 64 = omega arith in
        sym (holds_low 256 (row_value row) t h ∙ ap (holds (row_value row)) e ∙ digit_holds k (omega arith) (t % 64) (omega arith))

    -- 2 to the power of the bit, as the code has it
    one_bit : 1 * 2 ^ (t % 64) % 2 ^ 64 ≡ 2 ^ (t % 64)
    one_bit = shl_exact 1 (t % 64) 64 (omega arith) (omega arith) ∙ one-mul (2 ^ (t % 64))

    module _ (clear : holds (set_in (row_value row)) t ≡ false) where
      pub row_room : get_or row (4 - t / 64) 0 + 1 * 2 ^ (t % 64) % 2 ^ 64 < 2 ^ 64
      row_room =
          let w = get_or row (4 - t / 64) 0 in
          rw (one_bit, ← with_clear (t % 64) w (row_holds ∙ clear)) (with_bound 64 (t % 64) w (omega arith) (p.small (4 - t / 64)))

      pub row_with : row_value (set row (4 - t / 64) (get_or row (4 - t / 64) 0 + 1 * 2 ^ (t % 64) % 2 ^ 64)) ≡ pair (number_in (row_value row)) (with t (set_in (row_value row)))
      row_with =
          let k = 4 - t / 64 in
          let w = get_or row k 0 in
          let d = 2 ^ (t % 64) in
          let number = number_in (row_value row) in
          let tokens = set_in (row_value row) in
          let e : t % 64 + 64 * (4 - k) ≡ t = omega arith in
          row_replaced row p.long k (omega arith) (w + 1 * d % 2 ^ 64)
          ∙ ap (λ n. around row k (w + n)) one_bit
          ∙ added (value_from 0 (take k row) * 2 ^ 64) w d (2 ^ (64 * (4 - k))) (value_from 0 (drop (suc k) row))
          ∙ ap₂ ◌+◌ (sym (row_digit row p.long k (omega arith))) (sym (pow-add 2 (t % 64) (64 * (4 - k))) ∙ ap (λ n. 2 ^ n) e)
          ∙ ap (λ v. v + 2 ^ t) (sym (pair_parts (row_value row)))
          ∙ sym (pair_more number tokens (2 ^ t))
          ∙ ap (pair number) (sym (with_clear t tokens clear))

-- ---- the tokens of a set, below a bound
range_last : (a n : ℕ) → range_with_len a (suc n) ≡ range_with_len a n ++ ((a + n) ∷ [])
range_last a zero = ap (λ k. k ∷ []) (sym (add-zero a))
range_last a (suc n) =
    let e : a + 1 + n ≡ a + suc n = omega arith in
    ap (λ l. a ∷ l) (range_last (a + 1) n ∙ ap (λ k. range_with_len (a + 1) n ++ (k ∷ [])) e)

range_below : (n : ℕ) → range_with_len 0 n ≡ below n
range_below zero = refl
range_below (suc n) = range_last 0 n ∙ ap₂ (λ l k. l ++ (k ∷ [])) (range_below n) (zero-add n)

module _ (f : ℕ → Bool) where
  filtered : (l : List ℕ) → filter f l ≡ keep f l
  filtered [] = refl
  filtered (t ∷ l) = ap (λ k. cond (f t) (t ∷ k) k) (filtered l)

  kept_beyond : (m n : ℕ) → ((t : ℕ) → f t ≡ true → t < m) → keep f (below (m + n)) ≡ keep f (below m)
  kept_beyond m zero h = ap (λ k. keep f (below k)) (add-zero m)
  kept_beyond m (suc n) h =
      let kept = keep f (below (m + n)) in
      ap (λ k. keep f (below k)) (add-suc m n) ∙ keep_append f (below (m + n)) ((m + n) ∷ []) ∙ ap (λ l. kept ++ l) (none (f (m + n)) refl)
      ∙ append-nil kept ∙ kept_beyond m n h
    where
      none : (b : Bool) → f (m + n) ≡ b → cond b ((m + n) ∷ []) [] ≡ []
      none true g = absurd (let l = h (m + n) g in omega arith)
      none false g = refl

pub members_kept : (set tokens : ℕ) → tokens ≤ 256 → ((t : ℕ) → holds set t ≡ true → t < tokens) → keep (holds set) (below tokens) ≡ members set
unfolding members
members_kept set tokens h bound =
    let e : tokens + (256 - tokens) ≡ 256 = omega arith in
    sym (kept_beyond (holds set) tokens (256 - tokens) bound) ∙ ap (λ n. keep (holds set) (below n)) e

pub members_below : (set tokens : ℕ) → tokens ≤ 256 → ((t : ℕ) → holds set t ≡ true → t < tokens) → filter (holds set) (range_with_len 0 tokens) ≡ members set
members_below set tokens h bound = filtered (holds set) (range_with_len 0 tokens) ∙ ap (keep (holds set)) (range_below tokens) ∙ members_kept set tokens h bound

pub members_set : (k : ℕ) → members (set_in k) ≡ members k
unfolding members set_in
members_set k = keep_agrees (λ t. holds (k % 2 ^ 256) t) (λ t. holds k t) (below 256) (λ t m. holds_low 256 k t (below_lt 256 t m))

-- ---- rows compared
-- rows that agree below digit k, the first the lower there
apart : {a b : List ℕ} → Digits a → Digits b → (k : ℕ) → k < 5 → take k a ≡ take k b → get_or a k 0 < get_or b k 0 → row_value a < row_value b
apart {a} {b} p q k h same less =
    let P = 2 ^ (64 * (4 - k)) in
    let above = value_from 0 (take k b) * 2 ^ 64 in
    let z = value_from 0 (drop (suc k) a) in
    let g : (above + get_or a k 0) * P + z < (above + get_or b k 0) * P = digits_lt {q = above + get_or a k 0} {m = above + get_or b k 0} {r = z} {c = P} (omega arith) (rest_below a p.long k h p.small) in
    rw (row_digit a p.long k h, row_digit b q.long k h, ap (value_from 0) same) (omega (arith, g))

pub agree_apart : {a b : List ℕ} → Digits a → Digits b → (k : ℕ) → k < 5 → take k a ≡ take k b → (get_or a k 0 ≡ get_or b k 0 → ⊥) → ltb (get_or a k 0) (get_or b k 0) ≡ ltb (row_value a) (row_value b)
agree_apart {a} {b} p q k h same differ =
    let x = get_or a k 0 in
    let y = get_or b k 0 in
    by_cases (dec_lt x y)
    (λ l. lt-ltb x y l ∙ sym (lt-ltb (row_value a) (row_value b) (apart p q k h same l)))
    (λ g. le-ltb x y (omega arith) ∙ sym (le-ltb (row_value a) (row_value b) (le_of_lt (apart q p k h (sym same) (omega arith)))))
