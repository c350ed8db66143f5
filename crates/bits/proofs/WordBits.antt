-- The bits of words, in their bytes: bit (i mod 8) of byte i div 8 is bit (i mod 32) of word i div 32.
--     bytes_bit        in the bytes of words
--     put_front_beyond, put_front_bit     in a buffer of zeros with words written from its front: nothing beyond them
use mathlib.Core.Path.{◌≡◌, sym, ap, ap₂, ◌∙◌}
use mathlib.Core.List.{List, [], ◌∷◌}
use mathlib.Core.Logic.{by_cases}
use Prim.Native.Nat.{ℕ, suc, ◌+◌, ◌*◌, ◌-◌, ◌/◌, ◌%◌, ◌^◌, ◌<◌, ◌≤◌}
use native.Mathlib.Decide.{dec_lt}
use native.Mathlib.Omega.{arith}
use lib.ListN.{length, get_or, drop, get_or-append, get_or-eq_default}
use lib.Seq.{get_or-append-add, get_or-drop}
use Rattle.bits.specs.Bits.{bit_at, bytes_of}
use Rattle.bits.proofs.Bits.{bit_none, bit_low, bit_shifted}
use Rattle.bits.proofs.Bytes.{put_front, bytes_of_length}

-- bit j of the byte of w from bit b on
byte_bit : (w b j : ℕ) → j < 8 → bit_at (w / 2 ^ b % 2 ^ 8) j ≡ bit_at w (b + j)
byte_bit w b j h = sym (bit_low (w / 2 ^ b) h) ∙ bit_shifted w b j

pub bytes_bit : (ws : List ℕ) (i : ℕ) → i < 32 * length ws → bit_at (get_or (bytes_of ws) (i / 8) 0) (i % 8) ≡ bit_at (get_or ws (i / 32) 0) (i % 32)
unfolding bytes_of
bytes_bit [] i h = absurd (omega arith)
bytes_bit (w ∷ ws) i h = by_cases (dec_lt i 32) first (λ g. rest g (bytes_bit ws (i - 32) (omega arith)))
  where
    -- in byte k of the first word
    in_byte : (k m : ℕ) → i / 8 ≡ k → m ≡ i % 32 → i < 32 → bit_at (get_or (bytes_of (w ∷ ws)) k 0) (i % 8) ≡ bit_at w m → bit_at (get_or (bytes_of (w ∷ ws)) (i / 8) 0) (i % 8) ≡ bit_at (get_or (w ∷ ws) (i / 32) 0) (i % 32)
    in_byte k m p q l e =
        let z : 0 ≡ i / 32 = omega arith in
        ap (λ x. bit_at (get_or (bytes_of (w ∷ ws)) x 0) (i % 8)) p ∙ e ∙ ap₂ (λ x y. bit_at (get_or (w ∷ ws) x 0) y) z q

    first : i < 32 → bit_at (get_or (bytes_of (w ∷ ws)) (i / 8) 0) (i % 8) ≡ bit_at (get_or (w ∷ ws) (i / 32) 0) (i % 32)
    first l = by_cases (dec_lt i 16)
        (λ a. by_cases (dec_lt i 8)
        (λ b. in_byte 0 (i % 8) (omega arith) (omega arith) l (sym (bit_low w {n = 8} (omega arith))))
        (λ b. in_byte 1 (8 + i % 8) (omega arith) (omega arith) l (byte_bit w 8 (i % 8) (omega arith))))
        (λ a. by_cases (dec_lt i 24)
        (λ b. in_byte 2 (16 + i % 8) (omega arith) (omega arith) l (byte_bit w 16 (i % 8) (omega arith)))
        (λ b. in_byte 3 (24 + i % 8) (omega arith) (omega arith) l (byte_bit w 24 (i % 8) (omega arith))))

    rest : (i < 32 → ⊥) → bit_at (get_or (bytes_of ws) ((i - 32) / 8) 0) ((i - 32) % 8) ≡ bit_at (get_or ws ((i - 32) / 32) 0) ((i - 32) % 32) → bit_at (get_or (bytes_of (w ∷ ws)) (i / 8) 0) (i % 8) ≡ bit_at (get_or (w ∷ ws) (i / 32) 0) (i % 32)
    rest g e =
        let p : i / 8 ≡ suc (suc (suc (suc ((i - 32) / 8)))) = omega arith in
        let q : i % 8 ≡ (i - 32) % 8 = omega arith in
        let r : suc ((i - 32) / 32) ≡ i / 32 = omega arith in
        let t : (i - 32) % 32 ≡ i % 32 = omega arith in
        ap₂ (λ x y. bit_at (get_or (bytes_of (w ∷ ws)) x 0) y) p q ∙ e ∙ ap₂ (λ x y. bit_at (get_or (w ∷ ws) x 0) y) r t

-- a buffer of zeros with words written from its front
module _ (ws s : List ℕ) (zeros : (k : ℕ) → get_or s k 0 ≡ 0) where
  pub put_front_beyond : (k : ℕ) → 4 * length ws ≤ k → get_or (put_front ws s) k 0 ≡ 0
  put_front_beyond k h =
      let e : k ≡ length (bytes_of ws) + (k - length (bytes_of ws)) = omega (arith, bytes_of_length ws) in
      ap (λ n. get_or (put_front ws s) n 0) e
      ∙ get_or-append-add (bytes_of ws) (drop (4 * length ws) s) (k - length (bytes_of ws)) 0
      ∙ get_or-drop (4 * length ws) s (k - length (bytes_of ws)) 0
      ∙ zeros (4 * length ws + (k - length (bytes_of ws)))

  pub put_front_bit : (i : ℕ) → bit_at (get_or (put_front ws s) (i / 8) 0) (i % 8) ≡ bit_at (get_or ws (i / 32) 0) (i % 32)
  put_front_bit i = by_cases (dec_lt i (32 * length ws))
      (λ l. ap (λ x. bit_at x (i % 8)) (get_or-append (bytes_of ws) (drop (4 * length ws) s) 0 (i / 8) (omega (arith, bytes_of_length ws))) ∙ bytes_bit ws i l)
      (λ g. ap (λ x. bit_at x (i % 8)) (put_front_beyond (i / 8) (omega arith)) ∙ bit_none (i % 8) ∙ sym (ap (λ x. bit_at x (i % 32)) (get_or-eq_default ws 0 (omega arith)) ∙ bit_none (i % 32)))
