-- The caller reads what was answered.
--     none_beyond     no settings end with a status beyond 2
--     exact           the claim of specs/Answer
use mathlib.Core.Path.{◌≡◌, refl, sym, ap, ◌∙◌}
use Prim.Native.Nat.{ℕ, zero, suc, ◌+◌, ◌*◌, ◌-◌, ◌/◌, ◌%◌, ◌^◌, ◌<◌, ◌≤◌}
use native.Mathlib.Omega.{arith}
use mathlib.Core.Bool.{Bool, true, false, cond}
use borrow.Author.Tests.{ne_eqb, lt-leb}
use Rattle.score_answer.specs.Answer.{accepted, refused, settled, counted, is_wide, packed, settings_of, number_in, value_in, status_in, count_in, settings_in, Reads, Exact}
use Rattle.score_answer.proofs.Widths.{wide_layout}

-- what is read of layout 1
record Short (a n v s c : ℕ) : Type 0 where
  number : number_in a ≡ n
  value : value_in a ≡ v
  status : status_in a ≡ s
  count : count_in a ≡ c
  settings : (t : ℕ) → settings_in a t ≡ 0

short_read : (n v s c a : ℕ) → n < 2 ^ 8 → v < 2 ^ 24 → s < 2 ^ 2 → c < 2 ^ 11 → a ≡ 2 ^ 61 + c * 2 ^ 34 + s * 2 ^ 32 + v * 2 ^ 8 + n → Short a n v s c
unfolding number_in value_in status_in count_in settings_in
short_read n v s c a hn hv hs hc e =
    let l : a / 2 ^ 61 ≡ 1 = omega arith in
    let m : a % 2 ^ 8 ≡ n = omega arith in
    let dv : a / 2 ^ 8 ≡ (2 ^ 29 + c * 2 ^ 2 + s) * 2 ^ 24 + v = omega arith in
    let ds : a / 2 ^ 32 ≡ (2 ^ 27 + c) * 2 ^ 2 + s = omega arith in
    let dc : a / 2 ^ 34 ≡ 2 ^ 16 * 2 ^ 11 + c = omega arith in
    let rv : ((2 ^ 29 + c * 2 ^ 2 + s) * 2 ^ 24 + v) % 2 ^ 24 ≡ v = omega arith in
    let rs : ((2 ^ 27 + c) * 2 ^ 2 + s) % 2 ^ 2 ≡ s = omega arith in
    let rc : (2 ^ 16 * 2 ^ 11 + c) % 2 ^ 11 ≡ c = omega arith in
    record {
      number = rw l m;
      value = rw l (ap (λ x. x % 2 ^ 24) dv ∙ rv);
      status = rw l (ap (λ x. x % 2 ^ 2) ds ∙ rs);
      count = rw l (ap (λ x. x % 2 ^ 11) dc ∙ rc);
      settings = λ t. rw l;
    }

accepted_read : (v : ℕ) → v < 2 ^ 61 → Reads v (accepted v)
unfolding number_in value_in status_in count_in settings_in
accepted_read v h =
    let l : v / 2 ^ 61 ≡ 0 = omega arith in
    let m : v % 2 ^ 61 ≡ v = omega arith in
    record { number = rw l; value = rw l m; status = rw l; count = rw l; settings = λ t. rw l }

long_read : (l v a n : ℕ) → 2 ≤ l → l ≤ 7 → (l ≡ 5 → ⊥) → v < 2 ^ 61 → a ≡ l * 2 ^ 61 + v → l + 11 ≡ n → Reads a (refused n v)
unfolding number_in value_in status_in count_in settings_in
long_read l v a n hl hm ne hv e en =
    let d : a / 2 ^ 61 ≡ l = omega arith in
    let m : a % 2 ^ 61 ≡ v = omega arith in
    let z = ne_eqb l 0 (λ z. omega arith) in
    let o = ne_eqb l 1 (λ z. omega arith) in
    let f = ne_eqb l 5 ne in
    record { number = rw (d, z, o, f) en; value = rw (d, o, f) m; status = rw (d, o); count = rw (d, o); settings = λ t. rw (d, f) }

pub none_beyond : (q c a n : ℕ) → 2 < n → settings_of (counted q c a) n ≡ 0
none_beyond q c a n h = rw (ne_eqb n 0 (λ z. omega arith), ne_eqb n 1 (λ z. omega arith), ne_eqb n 2 (λ z. omega arith))

-- what is read of layout 5
module _ (q c a n : ℕ) (hq : q < 2 ^ 14) (hc : c < 2 ^ 14) (ha : a < 2 ^ 14) (e : n ≡ 5 * 2 ^ 61 + a * 2 ^ 28 + c * 2 ^ 14 + q) where
  fifth : n / 2 ^ 61 ≡ 5
  fifth = omega arith

  counted_at : (t : ℕ) → settings_in n t ≡ settings_of (counted q c a) t
  unfolding settings_in
  counted_at zero = let r : n / 2 ^ 0 % 2 ^ 14 ≡ q = omega arith in rw fifth r
  counted_at (suc zero) =
      let d : n / 2 ^ 14 ≡ (5 * 2 ^ 33 + a) * 2 ^ 14 + c = omega arith in
      let r : ((5 * 2 ^ 33 + a) * 2 ^ 14 + c) % 2 ^ 14 ≡ c = omega arith in
      rw fifth (ap (λ x. x % 2 ^ 14) d ∙ r)
  counted_at (suc (suc zero)) =
      let d : n / 2 ^ 28 ≡ 5 * 2 ^ 19 * 2 ^ 14 + a = omega arith in
      let r : (5 * 2 ^ 19 * 2 ^ 14 + a) % 2 ^ 14 ≡ a = omega arith in
      rw fifth (ap (λ x. x % 2 ^ 14) d ∙ r)
  counted_at (suc (suc (suc t))) = let m = suc (suc (suc t)) in rw (fifth, lt-leb m 2 (omega arith)) (sym (none_beyond q c a m (omega arith)))

  counted_read : Reads n (counted q c a)
  unfolding number_in value_in status_in count_in
  counted_read = record { number = rw fifth; value = rw fifth; status = rw fifth; count = rw fifth; settings = counted_at }

pub exact : Exact
unfolding packed
exact (accepted v) f = accepted_read v f
exact (refused n v) f = go (is_wide n) refl f.2
  where
    go : (b : Bool) → is_wide n ≡ b → v < cond b (2 ^ 61) (2 ^ 24) → Reads (packed (refused n v)) (refused n v)
    go true e h = let w = wide_layout n e in long_read (n - 11) v (packed (refused n v)) n (omega (arith, w.0)) (omega (arith, w.1)) (λ z. w.2 (omega (arith, w.0))) h (rw e) (omega (arith, w.0))
    go false e h =
        let q : packed (refused n v) ≡ 2 ^ 61 + v * 2 ^ 8 + n = rw e in
        let r = short_read n v 0 0 (packed (refused n v)) f.1 h (omega arith) (omega arith) (omega arith) in
        record { number = r.number; value = r.value; status = r.status; count = r.count; settings = r.settings }
exact (settled s c) f =
    let r = short_read 0 0 s c (packed (settled s c)) (omega arith) (omega arith) f.0 f.1 (omega arith) in
    record { number = r.number; value = r.value; status = r.status; count = r.count; settings = r.settings }
exact (counted q c a) f = counted_read q c a (packed (counted q c a)) f.0 f.1 f.2 (omega arith)
