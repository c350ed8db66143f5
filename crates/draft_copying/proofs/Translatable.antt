-- What is known of a draft that may be translated, by its bytes.
--     agents_many, roots_many      it has as many agents and procedures as the head says
--     root_read, root_below        the root of a procedure, read as a score's, is one of the agents
--     token_few                    the token of a watch is one of 256
--     body_below                   its body has a lower number
use mathlib.Core.Path.{◌≡◌, refl, sym, subst, ◌∙◌}
use mathlib.Core.List.{List, Memᴰ}
use Prim.Native.Nat.{ℕ, ◌<◌}
use native.Mathlib.Omega.{arith}
use lib.ListN.{length, length-map, length-take, length-drop}
use Rattle.tcc.specs.Score.{root_of, tokens_of}
use Rattle.tcc.proofs.Multiset.{part_lower}
use Rattle.format.specs.Decode.{sizes, decode}
use Rattle.draft_language.specs.Draft as draft
use Rattle.draft_language.specs.Draft.{draft_agent_at, whens}
use Rattle.draft_language.specs.declared.DraftAgent.TheVariants.{Watch}
use Rattle.draft_language.proofs.Whens.{when_is, whens_many}
use Rattle.draft_format.specs.DraftFile.{decode_draft}
use Rattle.draft_format.specs.Translatable.{Translatable}

pub root_read : (s : List ℕ) (p : ℕ) → root_of (decode s) p ≡ draft.root_of (decode_draft s) p
unfolding decode decode_draft
root_read s p = refl

module _ {s : List ℕ} (ok : Translatable s) where
  pub agents_many : length (decode_draft s).agents ≡ (sizes s).agents
  unfolding decode_draft
  agents_many = simp (length-map, length-take, length-drop) (omega (arith, ok.whole))

  pub roots_many : length (decode_draft s).roots ≡ (sizes s).procedures
  unfolding decode_draft
  roots_many = simp (length-map, length-take, length-drop) (omega (arith, ok.whole))

  pub root_below : (p : ℕ) {root : ℕ} → p < (sizes s).procedures → root ≡ root_of (decode s) p → root < (sizes s).agents
  root_below p h is =
      let known = ok.lawful.roots_known p (omega (arith, roots_many)) in
      omega (arith, known, is ∙ root_read s p, whens_many (decode_draft s), agents_many)

  module _ (i : ℕ) {t b : ℕ} (e : draft_agent_at (decode_draft s) i ≡ Watch t b) where
    pub token_few : t < 256
    token_few =
        let known : t < (decode_draft s).tokens = ok.lawful.tokens_known i t (subst (λ a. Memᴰ t (tokens_of a)) (sym (when_is (decode_draft s) i e)) (Memᴰ.head refl)) in
        omega (arith, ok.lawful.tokens_at_most)

    pub body_below : b < i
    body_below = part_lower (whens (decode_draft s)) ok.lawful i (when_is (decode_draft s) i e) b (Memᴰ.head refl)
