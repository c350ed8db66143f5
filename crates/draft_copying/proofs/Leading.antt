-- Laws of what a reference leads to.
--     Going                         a reference is followed through watches
--     going_on, going_ends          past a watch, at an agent that is none
--     ends_agent, target_agent      it ends at an agent of the draft that is no watch
use mathlib.Core.Path.{◌≡◌, refl, sym, ap, ◌∙◌, subst⁻¹}
use mathlib.Core.List.{List}
use Prim.Native.Nat.{ℕ, zero, suc, ◌^◌, ◌<◌}
use native.Mathlib.Omega.{arith}
use Rattle.tcc.specs.declared.Agent.{Agent}
use Rattle.format.specs.Decode.{sizes}
use Rattle.draft_language.specs.Draft.{draft_agent_at}
use Rattle.draft_language.specs.declared.DraftAgent.{DraftAgent}
use Rattle.draft_language.specs.declared.DraftAgent.TheVariants.{Plain, Watch}
use Rattle.draft_pairs.specs.TokenSets.{with}
use Rattle.draft_pairs.specs.Pairs.{pair, number_in, set_in}
use Rattle.draft_pairs.proofs.TokenSets.{with_bound, number_pair, set_pair, set_bound}
use Rattle.draft_plain.specs.Places.{target}
use Rattle.draft_plain.proofs.Places.{KnownAgent, target_plain, target_watch}
use Rattle.draft_format.specs.DraftFile.{decode_draft}
use Rattle.draft_format.specs.Translatable.{Translatable}
use Rattle.draft_copying.proofs.Translatable.{agents_many, token_few, body_below}

-- agent i under the set of a pair leads to what the reference leads to under the set of the first pair
pub record Going (s : List ℕ) (reference under i row : ℕ) : Type 0 where
  pub known : i < (sizes s).agents
  pub same : target (decode_draft s) i (set_in row) ≡ target (decode_draft s) reference (set_in under)

module _ {s : List ℕ} (ok : Translatable s) {reference under i row : ℕ} (g : Going s reference under i row) where
  pub going_on : {t b next : ℕ} → draft_agent_at (decode_draft s) i ≡ Watch t b → next ≡ pair (number_in row) (with t (set_in row)) → Going s reference under b next
  going_on {t} {b} {next} e is =
      let bound : with t (set_in row) < 2 ^ 256 = with_bound 256 t (set_in row) (token_few ok i e) (set_bound row) in
      let added : set_in next ≡ with t (set_in row) = ap set_in is ∙ set_pair (number_in row) (with t (set_in row)) bound in
      record {
        known = omega (arith, body_below ok i e, g.known);
        same = ap (target (decode_draft s) b) added ∙ sym (target_watch (decode_draft s) ok.lawful i (set_in row) t b e) ∙ g.same;
      }

  pub going_ends : {a : Agent} {end : ℕ} → draft_agent_at (decode_draft s) i ≡ Plain a → end ≡ pair i (set_in row) → end ≡ target (decode_draft s) reference (set_in under)
  going_ends {a} e is = is ∙ sym (target_plain (decode_draft s) i (set_in row) a e) ∙ g.same

module _ {s : List ℕ} (ok : Translatable s) where
  -- n bounds the agents
  ends_agent : (n i set : ℕ) → i < n → i < (sizes s).agents → set < 2 ^ 256 → KnownAgent (decode_draft s) (target (decode_draft s) i set)
  ends_agent zero i set h known bound = absurd (omega arith)
  ends_agent (suc n) i set h known bound = go (draft_agent_at (decode_draft s) i) refl (λ b u. ends_agent n b u)
    where
      go : (w : DraftAgent) → draft_agent_at (decode_draft s) i ≡ w →
          ((b u : ℕ) → b < n → b < (sizes s).agents → u < 2 ^ 256 → KnownAgent (decode_draft s) (target (decode_draft s) b u)) → KnownAgent (decode_draft s) (target (decode_draft s) i set)
      go (Plain a) e body =
          let number : number_in (pair i set) ≡ i = number_pair i set bound in
          let here : KnownAgent (decode_draft s) (pair i set) = record { known = omega (arith, number, agents_many ok); written = a; is_written = ap (draft_agent_at (decode_draft s)) number ∙ e } in
          subst⁻¹ (KnownAgent (decode_draft s)) (target_plain (decode_draft s) i set a e) here
      go (Watch t b) e body =
          subst⁻¹ (KnownAgent (decode_draft s)) (target_watch (decode_draft s) ok.lawful i set t b e)
          (body b (with t set) (omega (arith, body_below ok i e)) (omega (arith, body_below ok i e)) (with_bound 256 t set (token_few ok i e) bound))

  pub target_agent : (i set : ℕ) → i < (sizes s).agents → set < 2 ^ 256 → KnownAgent (decode_draft s) (target (decode_draft s) i set)
  target_agent i set = ends_agent (suc i) i set (omega arith)
