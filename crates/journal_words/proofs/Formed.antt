-- The words of instants, one after the other, have a good form.
--     words_formed       the words of an instant from its status, inputs and outputs are well formed
--     words_inputs, words_outputs     and give its inputs and outputs back
--     formed_good        well-formed words, one instant after the other, have a good form
--     formed_words       they are the words of their bytes
--     formed_instants    and the instants in them are those
--     form_exact         a form is good exactly if bytes are whole words, and these well-formed words one after the other
use mathlib.Core.Path.{◌≡◌, refl, sym, ap, ap₂, subst⁻¹, ◌∙◌}
use mathlib.Core.Bool.{Bool, true, false, cond, ◌||◌}
use mathlib.Core.List.{List, [], ◌∷◌, ◌++◌, map, flatten, append_assoc, append-nil, Memᴰ}
use Prim.Native.Nat.{ℕ, suc, ◌+◌, ◌*◌, ◌%◌, ◌^◌, ◌<◌, ◌≤◌}
use native.Mathlib.Omega.{arith}
use borrow.Author.Tests.{eq-eqb, ne_eqb, lt-ltb}
use lib.Dec.{eqb}
use lib.ListN.{length, get_or}
use Rattle.laws.specs.Rising.{Rising, one, more}
use Rattle.laws.proofs.Sets.{Within, on_cons, on_append, on_map}
use Rattle.words.specs.Word.{words, field, kind}
use Rattle.format.specs.Format.{is_word}
use Rattle.bits.specs.Bits.{bytes_of}
use Rattle.bits.proofs.Bytes.{bytes_of_length, words_bytes}
use Rattle.journal_form.specs.Form.{Good, token_of, status_in, is_instant, rises, may_follow, first_against, form_of}
use Rattle.journal_instants.specs.Instants.{up_to, instants_in, tokens_of, inputs_in}
use Rattle.journal_words.specs.History.{instant_word, input_word, output_word, instant_words, RisingBelow}
use Rattle.journal_words.proofs.Forms.{words_of, of_another, up_to_instant, up_to_another, WellFormed, good_whole, good_words, good_instants}

-- ---- a word with a token or a status

word_kind : (k t : ℕ) → k < 16 → t < 2 ^ 28 → kind (k * 2 ^ 28 + t) ≡ k
unfolding field
word_kind k t hk ht = omega arith

word_token : (k t : ℕ) → t < 2 ^ 8 → token_of (k * 2 ^ 28 + t) ≡ t
unfolding field
word_token k t h = omega arith

word_clear : (k t : ℕ) → t < 2 ^ 8 → field (k * 2 ^ 28 + t) 8 20 ≡ 0
unfolding field
word_clear k t h = omega arith

status_read : (s : ℕ) → s < 4 → status_in (instant_word s) ≡ s
unfolding field
status_read s h = omega arith

status_clear : (s : ℕ) → s < 4 → field (instant_word s) 2 26 ≡ 0
unfolding field
status_clear s h = omega arith

few_statuses : (journal : Bool) (s : ℕ) → s < cond journal 3 1 → s < 3
few_statuses true s h = h
few_statuses false s h = omega arith

-- ---- what is read off the words of an instant

kept : (k i : ℕ) (l ws : List ℕ) → i < 16 → Within (λ t. t < 2 ^ 8) l → k ≡ i → map token_of (words_of k (map (λ t. i * 2 ^ 28 + t) l ++ ws)) ≡ l ++ map token_of (words_of k ws)
kept k i [] ws hi h e = refl
kept k i (t ∷ l) ws hi h e =
    let ht : t < 2 ^ 8 = h t (Memᴰ.head refl) in
    rw (eq-eqb (kind (i * 2 ^ 28 + t)) k (word_kind i t hi (omega arith) ∙ sym e))
    (ap₂ ◌∷◌ (word_token i t ht) (kept k i l ws hi (λ u m. h u (Memᴰ.tail m)) e))

passed : (k i : ℕ) (l ws : List ℕ) → i < 16 → Within (λ t. t < 2 ^ 8) l → (k ≡ i → ⊥) → map token_of (words_of k (map (λ t. i * 2 ^ 28 + t) l ++ ws)) ≡ map token_of (words_of k ws)
passed k i [] ws hi h n = refl
passed k i (t ∷ l) ws hi h n =
    let ht : t < 2 ^ 8 = h t (Memᴰ.head refl) in
    rw (ne_eqb (kind (i * 2 ^ 28 + t)) k (λ e. n (sym e ∙ word_kind i t hi (omega arith))))
    (passed k i l ws hi (λ u m. h u (Memᴰ.tail m)) n)

module _ (T : ℕ) (few : T ≤ 256) where
  small : {l : List ℕ} → RisingBelow T l → Within (λ t. t < 2 ^ 8) l
  small r t m = let h : t < T = r.below t m in omega arith

  module _ (s : ℕ) (inputs outputs : List ℕ) (hs : s < 3) (hi : RisingBelow T inputs) (ho : RisingBelow T outputs) where
    words_read : (k : ℕ) → (k ≡ 12 → ⊥) → tokens_of k (instant_words s inputs outputs) ≡ map token_of (words_of k (map input_word inputs ++ (map output_word outputs ++ [])))
    unfolding tokens_of instant_words
    words_read k n =
        ap (map token_of)
        (of_another k (instant_word s) (map input_word inputs ++ map output_word outputs) (λ e. n (sym e ∙ word_kind 12 s (omega arith) (omega arith)))
        ∙ ap (λ l. words_of k (map input_word inputs ++ l)) (sym (append-nil (map output_word outputs))))

    pub words_inputs : inputs_in (instant_words s inputs outputs) ≡ inputs
    words_inputs =
        words_read 13 (λ e. omega arith)
        ∙ kept 13 13 inputs (map output_word outputs ++ []) (omega arith) (small hi) refl
        ∙ ap (λ l. inputs ++ l) (passed 13 14 outputs [] (omega arith) (small ho) (λ e. omega arith))
        ∙ append-nil inputs

    pub words_outputs : tokens_of 14 (instant_words s inputs outputs) ≡ outputs
    words_outputs =
        words_read 14 (λ e. omega arith)
        ∙ passed 14 13 inputs (map output_word outputs ++ []) (omega arith) (small hi) (λ e. omega arith)
        ∙ kept 14 14 outputs [] (omega arith) (small ho) refl
        ∙ append-nil outputs

    pub words_formed : (journal : Bool) → s < cond journal 3 1 → (journal ≡ false → outputs ≡ []) → WellFormed journal T (instant_words s inputs outputs)
    unfolding instant_words
    words_formed journal h silent =
        let read = status_read s (omega arith) in
        record {
          formed = record {
            is = sym (ap₂ (λ x y. x y) (ap₂ instant_words read words_inputs) words_outputs);
            inputs = subst⁻¹ (RisingBelow T) words_inputs hi;
            outputs = subst⁻¹ (RisingBelow T) words_outputs ho;
          };
          status = subst⁻¹ (λ x. x < cond journal 3 1) read h;
          silent = λ e. words_outputs ∙ silent e;
        }

-- ---- the form of such words

module _ (journal : Bool) (T : ℕ) (few : T ≤ 256) where
  step_good : (k last w : ℕ) (ws : List ℕ) → may_follow journal T last w ≡ true → first_against journal T (suc k) w ws ≡ Good → first_against journal T k last (w ∷ ws) ≡ Good
  unfolding first_against
  step_good k last w ws e g = rw e g

  instant_follows : (last s : ℕ) → s < cond journal 3 1 → may_follow journal T last (instant_word s) ≡ true
  unfolding may_follow is_word
  instant_follows last s h =
      let few : s < 3 = few_statuses journal s h in
      rw (word_kind 12 s (omega arith) (omega arith), status_clear s (omega arith), status_read s (omega arith), lt-ltb s (cond journal 3 1) h)

  module _ (last t : ℕ) (h : t < T) where
    input_follows : (is_instant last || rises 13 last (input_word t)) ≡ true → may_follow journal T last (input_word t) ≡ true
    unfolding may_follow is_word
    input_follows e = rw (e, word_kind 13 t (omega arith) (omega arith), word_clear 13 t (omega arith), word_token 13 t (omega arith), lt-ltb t T h)

    output_follows : journal ≡ true → (is_instant last || eqb (kind last) 13 || rises 14 last (output_word t)) ≡ true → may_follow journal T last (output_word t) ≡ true
    unfolding may_follow is_word
    output_follows j e = rw (e, j, word_kind 14 t (omega arith) (omega arith), word_clear 14 t (omega arith), word_token 14 t (omega arith), lt-ltb t T h)

  module _ (rest : List ℕ) (anew : (k last : ℕ) → first_against journal T k last rest ≡ Good) where
    outputs_after : (k u : ℕ) {l : List ℕ} → journal ≡ true → Rising (u ∷ l) → Within (λ t. t < T) (u ∷ l) → first_against journal T k (output_word u) (map output_word l ++ rest) ≡ Good
    outputs_after k u j one below = anew k (output_word u)
    outputs_after k u j (more {m = t} {l = l} lt r) below =
        let ht : t < T = below t (Memᴰ.tail (Memᴰ.head refl)) in
        step_good k (output_word u) (output_word t) (map output_word l ++ rest)
        (output_follows (output_word u) t ht j (rw (word_kind 14 u (omega arith) (omega arith), word_token 14 u (omega arith), word_token 14 t (omega arith), lt-ltb u t lt)))
        (outputs_after (suc k) t j r (λ x m. below x (Memᴰ.tail m)))

    outputs_good : (k last : ℕ) (l : List ℕ) → (journal ≡ false → l ≡ []) → RisingBelow T l → (is_instant last || eqb (kind last) 13) ≡ true → first_against journal T k last (map output_word l ++ rest) ≡ Good
    outputs_good k last [] silent r e = anew k last
    outputs_good k last (t ∷ l) silent r e =
        let ht : t < T = r.below t (Memᴰ.head refl) in
        let speaks : journal ≡ true = go journal refl in
        step_good k last (output_word t) (map output_word l ++ rest) (output_follows last t ht speaks (rw e)) (outputs_after (suc k) t speaks r.rises r.below)
      where
        go : (b : Bool) → journal ≡ b → journal ≡ true
        go true j = j
        go false j = absurd (let z : t ∷ l ≡ [] = silent j in let y : ◌≡◌ {A = ℕ} 0 1 = cc in omega arith)

    module _ (outputs : List ℕ) (silent : journal ≡ false → outputs ≡ []) (ho : RisingBelow T outputs) where
      inputs_after : (k u : ℕ) {l : List ℕ} → Rising (u ∷ l) → Within (λ t. t < T) (u ∷ l) → first_against journal T k (input_word u) (map input_word l ++ (map output_word outputs ++ rest)) ≡ Good
      inputs_after k u one below =
          let hu : u < T = below u (Memᴰ.head refl) in
          outputs_good k (input_word u) outputs silent ho (rw (word_kind 13 u (omega arith) (omega arith)))
      inputs_after k u (more {m = t} {l = l} lt r) below =
          let ht : t < T = below t (Memᴰ.tail (Memᴰ.head refl)) in
          step_good k (input_word u) (input_word t) (map input_word l ++ (map output_word outputs ++ rest))
          (input_follows (input_word u) t ht (rw (word_kind 13 u (omega arith) (omega arith), word_token 13 u (omega arith), word_token 13 t (omega arith), lt-ltb u t lt)))
          (inputs_after (suc k) t r (λ x m. below x (Memᴰ.tail m)))

      inputs_good : (k s : ℕ) (l : List ℕ) → s < 3 → RisingBelow T l → first_against journal T k (instant_word s) (map input_word l ++ (map output_word outputs ++ rest)) ≡ Good
      inputs_good k s [] hs r = outputs_good k (instant_word s) outputs silent ho (rw (word_kind 12 s (omega arith) (omega arith)))
      inputs_good k s (t ∷ l) hs r =
          let ht : t < T = r.below t (Memᴰ.head refl) in
          step_good k (instant_word s) (input_word t) (map input_word l ++ (map output_word outputs ++ rest))
          (input_follows (instant_word s) t ht (rw (word_kind 12 s (omega arith) (omega arith)))) (inputs_after (suc k) t r.rises r.below)

      instant_good : (k last s : ℕ) (inputs : List ℕ) → s < cond journal 3 1 → RisingBelow T inputs → first_against journal T k last (instant_words s inputs outputs ++ rest) ≡ Good
      unfolding instant_words
      instant_good k last s inputs hs r =
          step_good k last (instant_word s) ((map input_word inputs ++ map output_word outputs) ++ rest) (instant_follows last s hs)
          (rw (append_assoc (map input_word inputs) (map output_word outputs) rest) (inputs_good (suc k) s inputs (few_statuses journal s hs) r))

  joined_good : (es : List (List ℕ)) → Within (WellFormed journal T) es → (k last : ℕ) → first_against journal T k last (flatten es) ≡ Good
  unfolding flatten first_against
  joined_good [] h k last = refl
  joined_good (e ∷ es) h k last =
      let f = h e (Memᴰ.head refl) in
      subst⁻¹ (λ x. first_against journal T k last (x ++ flatten es) ≡ Good) f.formed.is
      (instant_good (flatten es) (joined_good es (λ x m. h x (Memᴰ.tail m))) (tokens_of 14 e) f.silent f.formed.outputs k last (status_in (get_or e 0 0)) (inputs_in e) f.status f.formed.inputs)

-- ---- the instants in such words

up_to_others : (l ws : List ℕ) → Within (λ w. kind w ≡ 12 → ⊥) l → up_to (l ++ ws) ≡ l ++ up_to ws
up_to_others [] ws h = refl
up_to_others (w ∷ l) ws h = up_to_another w (l ++ ws) (h w (Memᴰ.head refl)) ∙ ap (λ k. w ∷ k) (up_to_others l ws (λ x m. h x (Memᴰ.tail m)))

instants_others : (l ws : List ℕ) → Within (λ w. kind w ≡ 12 → ⊥) l → instants_in (l ++ ws) ≡ instants_in ws
unfolding instants_in
instants_others [] ws h = refl
instants_others (w ∷ l) ws h = rw (ne_eqb (kind w) 12 (h w (Memᴰ.head refl))) (instants_others l ws (λ x m. h x (Memᴰ.tail m)))

flatten_within : {P : ℕ → Type 0} (es : List (List ℕ)) → Within (Within P) es → Within P (flatten es)
unfolding flatten
flatten_within [] h = λ x m. elim m [ ]
flatten_within (e ∷ es) h = on_append e (h e (Memᴰ.head refl)) (flatten_within es (λ x m. h x (Memᴰ.tail m)))

module _ (journal : Bool) (T : ℕ) (few : T ≤ 256) where
  -- what holds of every word with a small token holds of those after the instant word
  on_tokens : (P : ℕ → Type 0) {inputs outputs : List ℕ} → ((t : ℕ) → t < 2 ^ 8 → P (input_word t)) → ((t : ℕ) → t < 2 ^ 8 → P (output_word t)) →
      RisingBelow T inputs → RisingBelow T outputs → Within P (map input_word inputs ++ map output_word outputs)
  on_tokens P {inputs} {outputs} f g hi ho =
      on_append (map input_word inputs) (on_map P input_word inputs (λ t m. f t (small T few hi t m))) (on_map P output_word outputs (λ t m. g t (small T few ho t m)))

  formed_small : {ws : List ℕ} → WellFormed journal T ws → Within (λ w. w < 2 ^ 32) ws
  unfolding instant_words
  formed_small {ws} f =
      let hs = few_statuses journal (status_in (get_or ws 0 0)) f.status in
      subst⁻¹ (Within (λ w. w < 2 ^ 32)) f.formed.is
      (on_cons {P = λ w. w < 2 ^ 32} (omega arith) (on_tokens (λ w. w < 2 ^ 32) (λ t h. omega arith) (λ t h. omega arith) f.formed.inputs f.formed.outputs))

  record Apart (e : List ℕ) (es : List (List ℕ)) : Type 0 where
    starts : up_to (e ++ flatten es) ≡ []
    instants : instants_in (e ++ flatten es) ≡ e ∷ es

  words_apart : (s : ℕ) (inputs outputs : List ℕ) (es : List (List ℕ)) → s < 3 → RisingBelow T inputs → RisingBelow T outputs → up_to (flatten es) ≡ [] → instants_in (flatten es) ≡ es → Apart (instant_words s inputs outputs) es
  unfolding instant_words instants_in
  words_apart s inputs outputs es hs hi ho u i =
      let is : kind (instant_word s) ≡ 12 = word_kind 12 s (omega arith) (omega arith) in
      let l : List ℕ = map input_word inputs ++ map output_word outputs in
      let others : Within (λ w. kind w ≡ 12 → ⊥) l = on_tokens (λ w. kind w ≡ 12 → ⊥) (λ t h e. omega (arith, word_kind 13 t (omega arith) (omega arith))) (λ t h e. omega (arith, word_kind 14 t (omega arith) (omega arith))) hi ho in
      record {
        starts = up_to_instant (instant_word s) (l ++ flatten es) is;
        instants =
            rw (eq-eqb (kind (instant_word s)) 12 is)
            (ap₂ (λ x y. (instant_word s ∷ x) ∷ y) (up_to_others l (flatten es) others ∙ ap (λ k. l ++ k) u ∙ append-nil l) (instants_others l (flatten es) others ∙ i));
      }

  joined_instants : (es : List (List ℕ)) → Within (WellFormed journal T) es → (up_to (flatten es) ≡ []) × (instants_in (flatten es) ≡ es)
  unfolding flatten up_to instants_in
  joined_instants [] h = (refl, refl)
  joined_instants (e ∷ es) h =
      let f = h e (Memᴰ.head refl) in
      let later = joined_instants es (λ x m. h x (Memᴰ.tail m)) in
      let a : Apart e es = subst⁻¹ (λ x. Apart x es) f.formed.is (words_apart (status_in (get_or e 0 0)) (inputs_in e) (tokens_of 14 e) es (few_statuses journal (status_in (get_or e 0 0)) f.status) f.formed.inputs f.formed.outputs later.0 later.1) in
      (a.starts, a.instants)

  module _ (es : List (List ℕ)) (formed : Within (WellFormed journal T) es) where
    pub formed_words : words (bytes_of (flatten es)) ≡ flatten es
    formed_words = words_bytes (flatten es) (flatten_within es (λ e m. formed_small (formed e m)))

    pub formed_good : form_of journal T (bytes_of (flatten es)) ≡ Good
    unfolding form_of
    formed_good =
        let whole : length (bytes_of (flatten es)) % 4 ≡ 0 = omega (arith, bytes_of_length (flatten es)) in
        rw (whole, formed_words) (joined_good journal T few es formed 0 0)

    pub formed_instants : instants_in (words (bytes_of (flatten es))) ≡ es
    formed_instants = ap instants_in formed_words ∙ (joined_instants es formed).1

  -- bytes are whole words, and these well-formed words one after the other
  pub record Lists (bytes : List ℕ) : Type 0 where
    pub whole : length bytes % 4 ≡ 0
    pub entries : List (List ℕ)
    pub formed : (ws : List ℕ) → Memᴰ ws entries → WellFormed journal T ws
    pub are : words bytes ≡ flatten entries

  pub form_exact : (bytes : List ℕ) → ((i : ℕ) → get_or bytes i 0 < 2 ^ 8) → (form_of journal T bytes ≡ Good → Lists bytes) × (Lists bytes → form_of journal T bytes ≡ Good)
  unfolding form_of
  form_exact bytes small = (
    λ g. record { whole = good_whole journal T bytes g; entries = instants_in (words bytes); formed = good_instants journal T bytes g small; are = good_words journal T bytes g },
    λ l. rw (l.whole, l.are) (joined_good journal T few l.entries l.formed 0 0),
  )
