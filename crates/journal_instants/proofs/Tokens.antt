-- Laws of the tokens of words of a kind, as flags.
--     tokens_append    of words after words
--     tokens_none      of no words
--     tokens_more      a word of the kind brings its own
--     tokens_other     a word of another kind brings none
--     tokens_all       past the last word: of all
use mathlib.Core.Path.{◌≡◌, refl, sym, ap, ap₂, subst, ◌∙◌}
use mathlib.Core.Bool.{Bool, true, false}
use mathlib.Core.List.Memᴰ
use mathlib.Core.List.{List, [], ◌∷◌, ◌++◌, append-nil, map, map-append, Memᴰ}
use mathlib.Core.Logic.{⊎_elim}
use Prim.Native.Nat.{ℕ, ◌+◌, ◌<◌, ◌≤◌}
use borrow.Author.Tests.{eq-eqb, ne_eqb}
use native.Mathlib.Numerals.{add-one}
use native.Mathlib.Omega.{arith}
use lib.Dec.{eqb}
use lib.ListN.{length, get_or, take, set, replicate, length-set, length-replicate}
use lib.Seq.{take-suc, take_all}
use Rattle.laws.specs.Sets.{Same, keep}
use Rattle.laws.proofs.Sets.{on_cons, on_append, keep_append}
use Rattle.words.specs.Word.{kind}
use Rattle.flags.specs.Flags.{set_of, flags_of}
use Rattle.flags.proofs.Flags.{set_kept, set_here, set_cases, set_of_none, flags_of_length, flags_of_member, member_flags_of, flags_settled, flags_of_same}
use Rattle.journal_form.specs.Form.{token_of}
use Rattle.journal_instants.specs.Instants.{tokens_of}

no_flags : (n : ℕ) → replicate n false ≡ flags_of n []
no_flags n = flags_settled n [] (replicate n false) (length-replicate n false) (λ i h. (λ m. rw (set_of_none n) at m, λ m. absurd (Memᴰ.not-nil m)))

one_more : (n : ℕ) (l : List ℕ) (t : ℕ) → set (flags_of n l) t true ≡ flags_of n (t ∷ l)
one_more n l t = flags_settled n (t ∷ l) (set (flags_of n l) t true) (length-set (flags_of n l) t true ∙ flags_of_length n l) (λ i h. (to i, from i h))
  where
    to : (i : ℕ) → Memᴰ i (set_of (set (flags_of n l) t true)) → Memᴰ i (t ∷ l)
    to i m = ⊎_elim (λ (e : i ≡ t). Memᴰ.head e) (λ (k : Memᴰ i (set_of (flags_of n l))). Memᴰ.tail (flags_of_member n l k)) (set_cases (flags_of n l) t m)

    from : (i : ℕ) → i < n → Memᴰ i (t ∷ l) → Memᴰ i (set_of (set (flags_of n l) t true))
    from i h m =
        ⊎_elim
        (λ (e : i ≡ t). subst (λ j. Memᴰ j (set_of (set (flags_of n l) t true))) (sym e) (set_here (flags_of n l) t (omega (arith, flags_of_length n l))))
        (λ (k : Memᴰ i l). set_kept (flags_of n l) t (member_flags_of n l h k))
        (Memᴰ.cases_cons m)

last_first : (l : List ℕ) (t : ℕ) → Same (t ∷ l) (l ++ (t ∷ []))
last_first l t x = (
  on_cons {P = λ y. Memᴰ y (l ++ (t ∷ []))} (Memᴰ.append_right l (Memᴰ.head refl)) (λ y m. Memᴰ.append_left (t ∷ []) m) x,
  on_append {P = λ y. Memᴰ y (t ∷ l)} l (λ y m. Memᴰ.tail m) (on_cons {P = λ y. Memᴰ y (t ∷ l)} (Memᴰ.head refl) (λ y m. absurd (Memᴰ.not-nil m))) x,
)

pub tokens_append : (kd : ℕ) (l m : List ℕ) → tokens_of kd (l ++ m) ≡ tokens_of kd l ++ tokens_of kd m
unfolding tokens_of
tokens_append kd l m =
    let f : ℕ → Bool = λ w. eqb (kind w) kd in
    ap (map token_of) (keep_append f l m) ∙ map-append token_of (keep f l) (keep f m)

module _ (kd : ℕ) (ws : List ℕ) where
  pub tokens_none : replicate 256 false ≡ flags_of 256 (tokens_of kd (take 0 ws))
  unfolding tokens_of
  tokens_none = no_flags 256

  pub tokens_all : (k : ℕ) → length ws ≤ k → flags_of 256 (tokens_of kd (take k ws)) ≡ flags_of 256 (tokens_of kd ws)
  tokens_all k h = ap (λ l. flags_of 256 (tokens_of kd l)) (take_all k ws h)

  module _ (k : ℕ) {w : ℕ} {flags : List Bool} (lt : k < length ws) (word : w ≡ get_or ws k 0) (told : flags ≡ flags_of 256 (tokens_of kd (take k ws))) where
    split : tokens_of kd (take (k + 1) ws) ≡ tokens_of kd (take k ws) ++ tokens_of kd (w ∷ [])
    split = rw (add-one k, take-suc ws k 0 lt, ← word) (tokens_append kd (take k ws) (w ∷ []))

    own : kind w ≡ kd → tokens_of kd (w ∷ []) ≡ token_of w ∷ []
    unfolding tokens_of
    own e = rw (eq-eqb (kind w) kd e)

    none : (kind w ≡ kd → ⊥) → tokens_of kd (w ∷ []) ≡ []
    unfolding tokens_of
    none h = rw (ne_eqb (kind w) kd h)

    pub tokens_more : {t : ℕ} → kind w ≡ kd → t ≡ token_of w → set flags t true ≡ flags_of 256 (tokens_of kd (take (k + 1) ws))
    tokens_more e token =
        ap₂ (λ f u. set f u true) told token
        ∙ one_more 256 (tokens_of kd (take k ws)) (token_of w)
        ∙ flags_of_same 256 (last_first (tokens_of kd (take k ws)) (token_of w))
        ∙ ap (flags_of 256) (sym (split ∙ ap (λ l. tokens_of kd (take k ws) ++ l) (own e)))

    pub tokens_other : (kind w ≡ kd → ⊥) → flags ≡ flags_of 256 (tokens_of kd (take (k + 1) ws))
    tokens_other h = told ∙ ap (flags_of 256) (sym (split ∙ ap (λ l. tokens_of kd (take k ws) ++ l) (none h) ∙ append-nil (tokens_of kd (take k ws))))
