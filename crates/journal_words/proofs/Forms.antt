-- What a good form says of the words of a list or journal.
--     words_of            the words of a kind; of_kind, of_another, one word more
--     up_to_instant, up_to_another   one word more before the next instant word
--     Follows            what a word has that may follow another
--     good_step          of a good form each word follows the one before
--     After              a word of an instant, with the input and output tokens up to it that a later one must exceed
--     Part               the words of an instant after such a word: tokens rise, inputs before outputs
--     good_part          those up to the next instant word
--     good_inputs        the input tokens of each instant rise
--     WellFormed         the words of one instant, as the form asks of a list or of a journal
--     good_instants      those of each instant of a good form
--     good_whole         a good form has whole words
--     good_words         the instants of a good form, one after the other, are its words
--     bytes_words        bytes that are whole words are the bytes of their words
use mathlib.Core.Path.{◌≡◌, refl, sym, ap, ap₂, subst⁻¹, ◌∙◌}
use mathlib.Core.Bool.{Bool, true, false, cond, ◌&&◌, ◌||◌}
use mathlib.Core.List.{List, [], ◌∷◌, ◌++◌, map, flatten, Memᴰ}
use mathlib.Core.Logic.{◌⊎◌, inl, inr, ⊎_elim}
use Prim.Native.Nat.{ℕ, suc, ◌+◌, ◌*◌, ◌/◌, ◌%◌, ◌^◌, ◌<◌}
use native.Mathlib.Omega.{arith}
use borrow.Author.Tests.{eqb-true, eq-eqb, ne_eqb, ltb-true}
use lib.Dec.{eqb, ltb}
use lib.ListN.{length, get_or}
use lib.Pow.{shr_mod, shr-shr, split}
use Rattle.laws.specs.Sets.{keep}
use Rattle.laws.proofs.Booleans.{true_is_false, and_both}
use Rattle.laws.proofs.Sets.{Within, on_cons, on_map, on_keep}
use Rattle.words.specs.Word.{joined, words, field, kind}
use Rattle.format.specs.Format.{clear, is_word}
use Rattle.bits.specs.Bits.{bytes_of}
use Rattle.journal_form.specs.Form.{Good, Bytes, Word, token_of, status_in, is_instant, rises, may_follow, first_against, form_of}
use Rattle.journal_instants.specs.Instants.{up_to, instants_in, tokens_of, inputs_in, input_lists}
use Rattle.journal_words.specs.History.{instant_word, instant_words, RisingBelow}
use Rattle.journal_words.specs.Formed.{Formed}
use Rattle.journal_words.proofs.Rising.{none_rising, one_rising, more_rising}

abbrev pub words_of : ℕ → List ℕ → List ℕ
words_of k ws = keep (λ w. eqb (kind w) k) ws

pub of_kind : (k w : ℕ) (ws : List ℕ) → kind w ≡ k → words_of k (w ∷ ws) ≡ w ∷ words_of k ws
of_kind k w ws e = rw (eq-eqb (kind w) k e)

pub of_another : (k w : ℕ) (ws : List ℕ) → (kind w ≡ k → ⊥) → words_of k (w ∷ ws) ≡ words_of k ws
of_another k w ws n = rw (ne_eqb (kind w) k n)

pub up_to_instant : (w : ℕ) (ws : List ℕ) → kind w ≡ 12 → up_to (w ∷ ws) ≡ []
unfolding up_to
up_to_instant w ws e = rw (eq-eqb (kind w) 12 e)

pub up_to_another : (w : ℕ) (ws : List ℕ) → (kind w ≡ 12 → ⊥) → up_to (w ∷ ws) ≡ w ∷ up_to ws
unfolding up_to
up_to_another w ws n = rw (ne_eqb (kind w) 12 n)

record HasForm (k named w : ℕ) : Type 0 where
  kind_is : kind w ≡ k
  is_clear : clear named w ≡ true

has_form : (k named w : ℕ) → is_word k named w ≡ true → HasForm k named w
unfolding is_word
has_form k named w e = let b = and_both (eqb (kind w) k) (clear named w) e in record { kind_is = eqb-true (kind w) k b.0; is_clear = b.1 }

or_cases : (a b : Bool) → (a || b) ≡ true → (a ≡ true) ⊎ (b ≡ true)
or_cases true b e = inl refl
or_cases false b e = inr e

-- of two words of a kind, the later one has the higher token
record Rises (k last w : ℕ) : Type 0 where
  kind_is : kind last ≡ k
  higher : token_of last < token_of w

rises_so : (k last w : ℕ) → rises k last w ≡ true → Rises k last w
rises_so k last w e = let b = and_both (eqb (kind last) k) (ltb (token_of last) (token_of w)) e in record { kind_is = eqb-true (kind last) k b.0; higher = ltb-true (token_of last) (token_of w) b.1 }

data Follows (journal : Bool) (T last w : ℕ) : Type 0 where
  instant : HasForm 12 2 w → status_in w < cond journal 3 1 → Follows journal T last w
  input : HasForm 13 8 w → token_of w < T → (kind last ≡ 12) ⊎ Rises 13 last w → Follows journal T last w
  output : journal ≡ true → HasForm 14 8 w → token_of w < T → ((kind last ≡ 12) ⊎ (kind last ≡ 13)) ⊎ Rises 14 last w → Follows journal T last w

module _ (journal : Bool) (T : ℕ) where
  follows : (last w : ℕ) → may_follow journal T last w ≡ true → Follows journal T last w
  unfolding may_follow
  follows last w e =
      ⊎_elim (λ h. ⊎_elim starts brings (or_cases _ _ h)) sends (or_cases _ _ e)
    where
      starts : (is_word 12 2 w && ltb (status_in w) (cond journal 3 1)) ≡ true → Follows journal T last w
      starts h = let b = and_both (is_word 12 2 w) (ltb (status_in w) (cond journal 3 1)) h in instant (has_form 12 2 w b.0) (ltb-true (status_in w) (cond journal 3 1) b.1)

      brings : (is_word 13 8 w && ltb (token_of w) T && (is_instant last || rises 13 last w)) ≡ true → Follows journal T last w
      brings h =
          let b = and_both (is_word 13 8 w && ltb (token_of w) T) (is_instant last || rises 13 last w) h in
          let a = and_both (is_word 13 8 w) (ltb (token_of w) T) b.0 in
          input (has_form 13 8 w a.0) (ltb-true (token_of w) T a.1)
          (⊎_elim (λ (i : is_instant last ≡ true). inl (eqb-true (kind last) 12 i)) (λ (r : rises 13 last w ≡ true). inr (rises_so 13 last w r)) (or_cases (is_instant last) (rises 13 last w) b.1))

      sends : (journal && is_word 14 8 w && ltb (token_of w) T && (is_instant last || eqb (kind last) 13 || rises 14 last w)) ≡ true → Follows journal T last w
      sends h =
          let b = and_both (journal && is_word 14 8 w && ltb (token_of w) T) (is_instant last || eqb (kind last) 13 || rises 14 last w) h in
          let a = and_both (journal && is_word 14 8 w) (ltb (token_of w) T) b.0 in
          let j = and_both journal (is_word 14 8 w) a.0 in
          output j.0 (has_form 14 8 w j.1) (ltb-true (token_of w) T a.1)
          (⊎_elim
          (λ (s : (is_instant last || eqb (kind last) 13) ≡ true).
          inl (⊎_elim (λ (i : is_instant last ≡ true). inl (eqb-true (kind last) 12 i)) (λ (r : eqb (kind last) 13 ≡ true). inr (eqb-true (kind last) 13 r)) (or_cases (is_instant last) (eqb (kind last) 13) s)))
          (λ (r : rises 14 last w ≡ true). inr (rises_so 14 last w r))
          (or_cases (is_instant last || eqb (kind last) 13) (rises 14 last w) b.1))

  good_step : (k last w : ℕ) (ws : List ℕ) → first_against journal T k last (w ∷ ws) ≡ Good → Follows journal T last w × (first_against journal T (suc k) w ws ≡ Good)
  unfolding first_against
  good_step k last w ws = go (may_follow journal T last w) refl
    where
      go : (b : Bool) → may_follow journal T last w ≡ b → cond b (first_against journal T (suc k) w ws) (Word k) ≡ Good → Follows journal T last w × (first_against journal T (suc k) w ws ≡ Good)
      go true e g = (follows last w e, g)
      go false e g = absurd (let z : ◌≡◌ {A = ℕ} 0 1 = cc in omega arith)

data After (T last : ℕ) : List ℕ → List ℕ → Type 0 where
  instant : kind last ≡ 12 → After T last [] []
  input : kind last ≡ 13 → token_of last < T → After T last (token_of last ∷ []) []
  output : kind last ≡ 14 → token_of last < T → After T last [] (token_of last ∷ [])

record Part (journal : Bool) (T : ℕ) (p q ws : List ℕ) : Type 0 where
  inputs : RisingBelow T (p ++ map token_of (words_of 13 ws))
  outputs : RisingBelow T (q ++ map token_of (words_of 14 ws))
  in_order : words_of 13 ws ++ words_of 14 ws ≡ ws
  late : (t : ℕ) → q ≡ t ∷ [] → words_of 13 ws ≡ []
  silent : journal ≡ false → words_of 14 ws ≡ []
  cleared : Within (λ w. clear 8 w ≡ true) ws

module _ (journal : Bool) (T : ℕ) where
  nil_part : {last : ℕ} {p q : List ℕ} → After T last p q → Part journal T p q []
  nil_part (instant e) = record { inputs = none_rising; outputs = none_rising; in_order = refl; late = λ t z. refl; silent = λ z. refl; cleared = λ w m. elim m [ ] }
  nil_part (input e h) = record { inputs = one_rising h; outputs = none_rising; in_order = refl; late = λ t z. refl; silent = λ z. refl; cleared = λ w m. elim m [ ] }
  nil_part (output e h) = record { inputs = none_rising; outputs = one_rising h; in_order = refl; late = λ t z. refl; silent = λ z. refl; cleared = λ w m. elim m [ ] }

  module _ (last w : ℕ) (ws : List ℕ) where
    -- an input word before words of an instant
    input_part : {p q : List ℕ} → After T last p q → HasForm 13 8 w → (kind last ≡ 12) ⊎ Rises 13 last w → Part journal T (token_of w ∷ []) [] ws → Part journal T p q (w ∷ ws)
    input_part {p} {q} a f o r =
        let here : words_of 13 (w ∷ ws) ≡ w ∷ words_of 13 ws = of_kind 13 w ws f.kind_is in
        let other : words_of 14 (w ∷ ws) ≡ words_of 14 ws = of_another 14 w ws (λ e. omega (arith, f.kind_is)) in
        let s = sorted a o in
        record {
          inputs = subst⁻¹ (λ l. RisingBelow T (p ++ map token_of l)) here s.0;
          outputs = subst⁻¹ (λ l. RisingBelow T (q ++ map token_of l)) other (subst⁻¹ (λ l. RisingBelow T (l ++ map token_of (words_of 14 ws))) s.1 r.outputs);
          in_order = ap₂ ◌++◌ here other ∙ ap (λ l. w ∷ l) r.in_order;
          late = λ t e. absurd (let z : ◌≡◌ {A = List ℕ} [] (t ∷ []) = sym s.1 ∙ e in let y : ◌≡◌ {A = ℕ} 0 1 = cc in omega arith);
          silent = λ e. other ∙ r.silent e;
          cleared = on_cons f.is_clear r.cleared;
        }
      where
        sorted : {p q : List ℕ} → After T last p q → (kind last ≡ 12) ⊎ Rises 13 last w → RisingBelow T (p ++ map token_of (w ∷ words_of 13 ws)) × (q ≡ [])
        sorted (instant e) o = (r.inputs, refl)
        sorted (input e h) (inl z) = absurd (omega arith)
        sorted (input e h) (inr s) = (more_rising s.higher r.inputs, refl)
        sorted (output e h) (inl z) = absurd (omega arith)
        sorted (output e h) (inr s) = absurd (omega (arith, s.kind_is))

    -- an output word before words of an instant
    output_part : {p q : List ℕ} → After T last p q → journal ≡ true → HasForm 14 8 w → ((kind last ≡ 12) ⊎ (kind last ≡ 13)) ⊎ Rises 14 last w → Part journal T [] (token_of w ∷ []) ws → Part journal T p q (w ∷ ws)
    output_part {p} {q} a j f o r =
        let here : words_of 14 (w ∷ ws) ≡ w ∷ words_of 14 ws = of_kind 14 w ws f.kind_is in
        let nothing : words_of 13 ws ≡ [] = r.late (token_of w) refl in
        let other : words_of 13 (w ∷ ws) ≡ [] = of_another 13 w ws (λ e. omega (arith, f.kind_is)) ∙ nothing in
        let s = sorted a o in
        record {
          inputs = subst⁻¹ (λ l. RisingBelow T (p ++ map token_of l)) other (nil_part a).inputs;
          outputs = subst⁻¹ (λ l. RisingBelow T (q ++ map token_of l)) here s;
          in_order = ap₂ ◌++◌ other here ∙ ap (λ l. w ∷ l) (ap (λ l. l ++ words_of 14 ws) (sym nothing) ∙ r.in_order);
          late = λ t e. other;
          silent = λ e. absurd (true_is_false j e);
          cleared = on_cons f.is_clear r.cleared;
        }
      where
        sorted : {p q : List ℕ} → After T last p q → ((kind last ≡ 12) ⊎ (kind last ≡ 13)) ⊎ Rises 14 last w → RisingBelow T (q ++ map token_of (w ∷ words_of 14 ws))
        sorted (instant e) o = r.outputs
        sorted (input e h) o = r.outputs
        sorted (output e h) (inl (inl z)) = absurd (omega arith)
        sorted (output e h) (inl (inr z)) = absurd (omega arith)
        sorted (output e h) (inr s) = more_rising s.higher r.outputs

  good_part : (ws : List ℕ) (k last : ℕ) {p q : List ℕ} → After T last p q → first_against journal T k last ws ≡ Good → Part journal T p q (up_to ws)
  unfolding up_to
  good_part [] k last a g = nil_part a
  good_part (w ∷ ws) k last {p} {q} a g = let s = good_step journal T k last w ws g in go s.0 (λ p q b. good_part ws (suc k) w b s.1)
    where
      go : Follows journal T last w → ((p q : List ℕ) → After T w p q → Part journal T p q (up_to ws)) → Part journal T p q (up_to (w ∷ ws))
      go (instant f h) rest = subst⁻¹ (Part journal T p q) (up_to_instant w ws f.kind_is) (nil_part a)
      go (input f h o) rest = subst⁻¹ (Part journal T p q) (up_to_another w ws (λ e. omega (arith, f.kind_is))) (input_part last w (up_to ws) a f o (rest _ _ (input f.kind_is h)))
      go (output j f h o) rest = subst⁻¹ (Part journal T p q) (up_to_another w ws (λ e. omega (arith, f.kind_is))) (output_part last w (up_to ws) a j f o (rest _ _ (output f.kind_is h)))

  -- each instant is an instant word and its part
  record Led (ws : List ℕ) : Type 0 where
    word : ℕ
    rest : List ℕ
    is : ws ≡ word ∷ rest
    form : HasForm 12 2 word
    status : status_in word < cond journal 3 1
    part : Part journal T [] [] rest

  good_led : (ws : List ℕ) (k last : ℕ) → first_against journal T k last ws ≡ Good → Within Led (instants_in ws)
  unfolding instants_in
  good_led [] k last g = λ x m. elim m [ ]
  good_led (w ∷ ws) k last g = let s = good_step journal T k last w ws g in go s.0 s.1 (good_led ws (suc k) w s.1)
    where
      skip : (kind w ≡ 12 → ⊥) → Within Led (instants_in ws) → Within Led (instants_in (w ∷ ws))
      skip n = subst⁻¹ (Within Led) (rw (ne_eqb (kind w) 12 n))

      go : Follows journal T last w → first_against journal T (suc k) w ws ≡ Good → Within Led (instants_in ws) → Within Led (instants_in (w ∷ ws))
      go (instant f h) g later =
          subst⁻¹ (Within Led) (rw (eq-eqb (kind w) 12 f.kind_is))
          (on_cons (record { word = w; rest = up_to ws; is = refl; form = f; status = h; part = good_part ws (suc k) w (instant f.kind_is) g }) later)
      go (input f h o) g later = skip (λ e. omega (arith, f.kind_is)) later
      go (output j f h o) g later = skip (λ e. omega (arith, f.kind_is)) later

-- the form of bytes is that of their words
record GoodBytes (journal : Bool) (T : ℕ) (bytes : List ℕ) : Type 0 where
  whole : length bytes % 4 ≡ 0
  words_good : first_against journal T 0 0 (words bytes) ≡ Good

good_bytes : (journal : Bool) (T : ℕ) (bytes : List ℕ) → form_of journal T bytes ≡ Good → GoodBytes journal T bytes
unfolding form_of
good_bytes journal T bytes = go (eqb (length bytes % 4) 0) refl
  where
    go : (b : Bool) → eqb (length bytes % 4) 0 ≡ b → cond b (first_against journal T 0 0 (words bytes)) Bytes ≡ Good → GoodBytes journal T bytes
    go true e g = record { whole = eqb-true (length bytes % 4) 0 e; words_good = g }
    go false e g = absurd (let z : ◌≡◌ {A = ℕ} 0 1 = cc in omega arith)

led_inputs : {journal : Bool} {T : ℕ} {ws : List ℕ} → Led journal T ws → RisingBelow T (inputs_in ws)
unfolding tokens_of
led_inputs {journal} {T} {ws} l =
    subst⁻¹ (λ x. RisingBelow T (inputs_in x)) l.is
    (subst⁻¹ (λ x. RisingBelow T (map token_of x)) (of_another 13 l.word l.rest (λ e. omega (arith, l.form.kind_is))) l.part.inputs)

pub good_inputs : (journal : Bool) (T : ℕ) (bytes : List ℕ) → form_of journal T bytes ≡ Good → (l : List ℕ) → Memᴰ l (input_lists bytes) → RisingBelow T l
unfolding input_lists
good_inputs journal T bytes g =
    on_map (RisingBelow T) inputs_in (instants_in (words bytes)) (λ ws m. led_inputs (good_led journal T (words bytes) 0 0 (good_bytes journal T bytes g).words_good ws m))

-- ---- the words themselves

pub record WellFormed (journal : Bool) (T : ℕ) (ws : List ℕ) : Type 0 where
  pub formed : Formed T ws
  pub status : status_in (get_or ws 0 0) < cond journal 3 1
  pub silent : journal ≡ false → tokens_of 14 ws ≡ []

-- a word of 32 bits with no unnamed bit is its kind and its lowest bits
instant_rebuilt : (w : ℕ) → HasForm 12 2 w → w < 2 ^ 32 → instant_word (status_in w) ≡ w
unfolding field
instant_rebuilt w f h = by_parts w (w / 2 ^ 2) (w / 2 ^ 2 / 2 ^ 26) (split w 2) (split (w / 2 ^ 2) 26) (eqb-true (field w 2 26) 0 f.is_clear)
    (shr-shr w 2 26 ∙ sym (shr_mod {n = w} 4 28 h) ∙ f.kind_is)
  where
    by_parts : (w d e : ℕ) → d * 2 ^ 2 + w % 2 ^ 2 ≡ w → e * 2 ^ 26 + d % 2 ^ 26 ≡ d → d % 2 ^ 26 ≡ 0 → e ≡ 12 → instant_word (status_in w) ≡ w
    by_parts w d e p q r s = omega arith

token_rebuilt : (k w : ℕ) → kind w ≡ k → clear 8 w ≡ true → w < 2 ^ 32 → k * 2 ^ 28 + token_of w ≡ w
unfolding field
token_rebuilt k w e c h = omega (arith, eqb-true (field w 8 20) 0 c)

tokens_rebuilt : (k : ℕ) (ws : List ℕ) → Within (λ w. k * 2 ^ 28 + token_of w ≡ w) ws → map (λ t. k * 2 ^ 28 + t) (map token_of ws) ≡ ws
tokens_rebuilt k [] h = refl
tokens_rebuilt k (w ∷ ws) h = ap₂ ◌∷◌ (h w (Memᴰ.head refl)) (tokens_rebuilt k ws (λ x m. h x (Memᴰ.tail m)))

kind_rebuilt : (k : ℕ) (ws : List ℕ) → Within (λ w. w < 2 ^ 32) ws → Within (λ w. clear 8 w ≡ true) ws → map (λ t. k * 2 ^ 28 + t) (map token_of (words_of k ws)) ≡ words_of k ws
kind_rebuilt k ws small cleared =
    tokens_rebuilt k (words_of k ws)
    (on_keep {P = λ w. k * 2 ^ 28 + token_of w ≡ w} (λ w. eqb (kind w) k) ws (λ w m e. token_rebuilt k w (eqb-true (kind w) k e) (cleared w m) (small w m)))

led_formed : {journal : Bool} {T : ℕ} {ws : List ℕ} → Led journal T ws → Within (λ w. w < 2 ^ 32) ws → WellFormed journal T ws
unfolding tokens_of instant_words
led_formed {journal} {T} {ws} l = subst⁻¹ (λ x. Within (λ w. w < 2 ^ 32) x → WellFormed journal T x) l.is formed
  where
    later : (k : ℕ) → (12 ≡ k → ⊥) → words_of k (l.word ∷ l.rest) ≡ words_of k l.rest
    later k n = of_another k l.word l.rest (λ e. n (sym l.form.kind_is ∙ e))

    formed : Within (λ w. w < 2 ^ 32) (l.word ∷ l.rest) → WellFormed journal T (l.word ∷ l.rest)
    formed small =
        let rest_small : Within (λ w. w < 2 ^ 32) l.rest = λ w m. small w (Memᴰ.tail m) in
        let p = l.part in
        let ins : inputs_in (l.word ∷ l.rest) ≡ inputs_in l.rest = ap (map token_of) (later 13 (λ e. omega arith)) in
        let outs : tokens_of 14 (l.word ∷ l.rest) ≡ tokens_of 14 l.rest = ap (map token_of) (later 14 (λ e. omega arith)) in
        record {
          formed = record {
            is =
                ap₂ ◌∷◌ (sym (instant_rebuilt l.word l.form (small l.word (Memᴰ.head refl))))
                (sym (ap₂ ◌++◌ (kind_rebuilt 13 l.rest rest_small p.cleared) (kind_rebuilt 14 l.rest rest_small p.cleared) ∙ p.in_order))
                ∙ sym (ap₂ (instant_words (status_in l.word)) ins outs);
            inputs = subst⁻¹ (RisingBelow T) ins p.inputs;
            outputs = subst⁻¹ (RisingBelow T) outs p.outputs;
          };
          status = l.status;
          silent = λ e. outs ∙ ap (map token_of) (p.silent e);
        }

words_small : (bytes : List ℕ) → ((i : ℕ) → get_or bytes i 0 < 2 ^ 8) → Within (λ w. w < 2 ^ 32) (words bytes)
unfolding words
words_small [] h = λ w m. elim m [ ]
words_small (a ∷ []) h = λ w m. elim m [ ]
words_small (a ∷ b ∷ []) h = λ w m. elim m [ ]
words_small (a ∷ b ∷ c ∷ []) h = λ w m. elim m [ ]
words_small (a ∷ b ∷ c ∷ d ∷ s) h =
    on_cons {P = λ w. w < 2 ^ 32} (omega (arith, h 0, h 1, h 2, h 3)) (words_small s (λ i. h (suc (suc (suc (suc i))))))

up_to_within : {P : ℕ → Type 0} (ws : List ℕ) → Within P ws → Within P (up_to ws)
unfolding up_to
up_to_within [] h = h
up_to_within {P} (w ∷ ws) h = go (is_instant w) (up_to_within ws (λ x m. h x (Memᴰ.tail m)))
  where
    go : (b : Bool) → Within P (up_to ws) → Within P (cond b [] (w ∷ up_to ws))
    go true later = λ x m. elim m [ ]
    go false later = on_cons (h w (Memᴰ.head refl)) later

instants_within : {P : ℕ → Type 0} (ws : List ℕ) → Within P ws → Within (Within P) (instants_in ws)
unfolding instants_in
instants_within [] h = λ x m. elim m [ ]
instants_within {P} (w ∷ ws) h = go (is_instant w) (instants_within ws rest)
  where
    rest : Within P ws
    rest x m = h x (Memᴰ.tail m)

    go : (b : Bool) → Within (Within P) (instants_in ws) → Within (Within P) (cond b ((w ∷ up_to ws) ∷ instants_in ws) (instants_in ws))
    go true later = on_cons {P = Within P} (on_cons (h w (Memᴰ.head refl)) (up_to_within ws rest)) later
    go false later = later

pub good_instants : (journal : Bool) (T : ℕ) (bytes : List ℕ) → form_of journal T bytes ≡ Good → ((i : ℕ) → get_or bytes i 0 < 2 ^ 8) → (ws : List ℕ) → Memᴰ ws (instants_in (words bytes)) → WellFormed journal T ws
good_instants journal T bytes g small ws m =
    led_formed (good_led journal T (words bytes) 0 0 (good_bytes journal T bytes g).words_good ws m) (instants_within (words bytes) (words_small bytes small) ws m)

-- whatever its form: the words before the first instant, then the instants
up_to_joined : (ws : List ℕ) → up_to ws ++ flatten (instants_in ws) ≡ ws
unfolding up_to instants_in flatten
up_to_joined [] = refl
up_to_joined (w ∷ ws) = go (is_instant w) (up_to_joined ws)
  where
    go : (b : Bool) → up_to ws ++ flatten (instants_in ws) ≡ ws → cond b [] (w ∷ up_to ws) ++ flatten (cond b ((w ∷ up_to ws) ∷ instants_in ws) (instants_in ws)) ≡ w ∷ ws
    go true later = ap (λ l. w ∷ l) later
    go false later = ap (λ l. w ∷ l) later

-- the first word starts an instant
good_start : (journal : Bool) (T k last : ℕ) (ws : List ℕ) → kind last ≡ 0 → first_against journal T k last ws ≡ Good → up_to ws ≡ []
unfolding up_to
good_start journal T k last [] z g = refl
good_start journal T k last (w ∷ ws) z g = go (good_step journal T k last w ws g).0
  where
    go : Follows journal T last w → up_to (w ∷ ws) ≡ []
    go (instant f h) = up_to_instant w ws f.kind_is
    go (input f h (inl e)) = absurd (omega arith)
    go (input f h (inr r)) = absurd (omega (arith, r.kind_is))
    go (output j f h (inl (inl e))) = absurd (omega arith)
    go (output j f h (inl (inr e))) = absurd (omega arith)
    go (output j f h (inr r)) = absurd (omega (arith, r.kind_is))

no_kind : kind 0 ≡ 0
unfolding field
no_kind = refl

pub good_words : (journal : Bool) (T : ℕ) (bytes : List ℕ) → form_of journal T bytes ≡ Good → words bytes ≡ flatten (instants_in (words bytes))
good_words journal T bytes g =
    sym (up_to_joined (words bytes))
    ∙ ap (λ l. l ++ flatten (instants_in (words bytes))) (good_start journal T 0 0 (words bytes) no_kind (good_bytes journal T bytes g).words_good)

pub good_whole : (journal : Bool) (T : ℕ) (bytes : List ℕ) → form_of journal T bytes ≡ Good → length bytes % 4 ≡ 0
good_whole journal T bytes g = (good_bytes journal T bytes g).whole

-- the bytes of a word joined from four
digits : (a b c d w : ℕ) → a < 2 ^ 8 → b < 2 ^ 8 → c < 2 ^ 8 → d < 2 ^ 8 → joined a b c d ≡ w → (w % 2 ^ 8 ≡ a) × (w / 2 ^ 8 % 2 ^ 8 ≡ b) × (w / 2 ^ 16 % 2 ^ 8 ≡ c) × (w / 2 ^ 24 % 2 ^ 8 ≡ d)
digits a b c d w ha hb hc hd e = (omega arith, omega arith, omega arith, omega arith)

pub bytes_words : (bytes : List ℕ) → ((i : ℕ) → get_or bytes i 0 < 2 ^ 8) → length bytes % 4 ≡ 0 → bytes_of (words bytes) ≡ bytes
unfolding words bytes_of
bytes_words [] h e = refl
bytes_words (a ∷ []) h e = absurd (omega arith)
bytes_words (a ∷ b ∷ []) h e = absurd (omega arith)
bytes_words (a ∷ b ∷ c ∷ []) h e = absurd (omega arith)
bytes_words (a ∷ b ∷ c ∷ d ∷ s) h e =
    let x = digits a b c d (joined a b c d) (h 0) (h 1) (h 2) (h 3) refl in
    ap₂ ◌∷◌ x.0 (ap₂ ◌∷◌ x.1 (ap₂ ◌∷◌ x.2 (ap₂ ◌∷◌ x.3 (bytes_words s (λ i. h (suc (suc (suc (suc i))))) (omega arith)))))
