-- An answer as one number of 64 bits. The top three bits say how the rest is laid out: 0, accepted, with the value
-- in the other 61; 1, the number in bits 7 to 0, the value in bits 31 to 8, and of an accepted instant, whose number
-- is 0, the status in bits 33 and 32 and the count in bits 44 to 34; 2, 3, 4 and 7, the numbers 13, 14, 15 and 18, whose
-- value may be as large as a slice's count of words, with the value in the other 61; 5, settings counted, whose number is
-- 0, those of status 0 in bits 13 to 0, of 1 in bits 27 to 14, of 2 in bits 41 to 28.
--     Reply                      accepted with a value, refused by number with a value, an instant accepted with its
--                                status and count, or settings counted by their statuses
--     reply                      the answer with a number and a value
--     number_of, value_of          the table's number and value; 0 where the table has none
--     status_of, count_of         the status and count of an accepted instant; 0 where no instant was accepted
--     settings_of                how many settings end with a status; 0 where none were counted
--     is_wide                     the numbers that may have a large value
--     Fits                       the parts have room
--     packed                     the number that is returned
--     number_in, value_in, status_in, count_in, settings_in
--                                what a caller reads off it, as include/score.h does
--     Reads                      a caller reads this answer off a number
--     Exact                      the caller reads what was answered
use Rattle.std.specs.Prelude.{◌≡◌, Bool, cond, ◌&&◌, ◌||◌, ℕ, zero, suc, ◌+◌, ◌*◌, ◌-◌, ◌/◌, ◌%◌, ◌^◌, ◌<◌, ◌≤◌, eqb, leb}

pub data Reply : Type 0 where
  accepted : ℕ → Reply
  refused : ℕ → ℕ → Reply
  settled : ℕ → ℕ → Reply
  counted : ℕ → ℕ → ℕ → Reply

-- by the table's number, 0 being accepted
abbrev pub reply : ℕ → ℕ → Reply
reply zero v = accepted v
reply (suc n) v = refused (suc n) v

abbrev pub number_of : Reply → ℕ
number_of (accepted v) = 0
number_of (refused n v) = n
number_of (settled s c) = 0
number_of (counted q c a) = 0

abbrev pub value_of : Reply → ℕ
value_of (accepted v) = v
value_of (refused n v) = v
value_of (settled s c) = 0
value_of (counted q c a) = 0

abbrev pub status_of : Reply → ℕ
status_of (accepted v) = 0
status_of (refused n v) = 0
status_of (settled s c) = s
status_of (counted q c a) = 0

abbrev pub count_of : Reply → ℕ
count_of (accepted v) = 0
count_of (refused n v) = 0
count_of (settled s c) = c
count_of (counted q c a) = 0

abbrev pub settings_of : Reply → ℕ → ℕ
settings_of (accepted v) n = 0
settings_of (refused m v) n = 0
settings_of (settled s c) n = 0
settings_of (counted q c a) n = cond (eqb n 0) q (cond (eqb n 1) c (cond (eqb n 2) a 0))

abbrev pub is_wide : ℕ → Bool
is_wide n = (leb 13 n && leb n 15) || eqb n 18

abbrev pub Fits : Reply → Type 0
Fits (accepted v) = v < 2 ^ 61
Fits (refused n v) = (1 ≤ n) × (n < 2 ^ 8) × (v < cond (is_wide n) (2 ^ 61) (2 ^ 24))
Fits (settled s c) = (s < 4) × (c < 2 ^ 11)
Fits (counted q c a) = (q < 2 ^ 14) × (c < 2 ^ 14) × (a < 2 ^ 14)

unfoldable pub packed : Reply → ℕ
packed (accepted v) = v
packed (refused n v) = cond (is_wide n) ((n - 11) * 2 ^ 61 + v) (2 ^ 61 + v * 2 ^ 8 + n)
packed (settled s c) = 2 ^ 61 + s * 2 ^ 32 + c * 2 ^ 34
packed (counted q c a) = 5 * 2 ^ 61 + a * 2 ^ 28 + c * 2 ^ 14 + q

abbrev pub layout : ℕ → ℕ
layout answer = answer / 2 ^ 61

unfoldable pub number_in : ℕ → ℕ
number_in answer = cond (eqb (layout answer) 0 || eqb (layout answer) 5) 0 (cond (eqb (layout answer) 1) (answer % 2 ^ 8) (layout answer + 11))

unfoldable pub value_in : ℕ → ℕ
value_in answer = cond (eqb (layout answer) 1) (answer / 2 ^ 8 % 2 ^ 24) (cond (eqb (layout answer) 5) 0 (answer % 2 ^ 61))

unfoldable pub status_in : ℕ → ℕ
status_in answer = cond (eqb (layout answer) 1) (answer / 2 ^ 32 % 2 ^ 2) 0

unfoldable pub count_in : ℕ → ℕ
count_in answer = cond (eqb (layout answer) 1) (answer / 2 ^ 34 % 2 ^ 11) 0

unfoldable pub settings_in : ℕ → ℕ → ℕ
settings_in answer status = cond (eqb (layout answer) 5 && leb status 2) (answer / 2 ^ (14 * status) % 2 ^ 14) 0

pub record Reads (answer : ℕ) (r : Reply) : Type 0 where
  pub number : number_in answer ≡ number_of r
  pub value : value_in answer ≡ value_of r
  pub status : status_in answer ≡ status_of r
  pub count : count_in answer ≡ count_of r
  pub settings : (status : ℕ) → settings_in answer status ≡ settings_of r status

abbrev pub Exact : Type 0
Exact = (r : Reply) → Fits r → Reads (packed r) r
