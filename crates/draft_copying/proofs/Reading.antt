-- What is known where copying has entered a pair and knows what it leads to.
--     procedure_leads      a procedure's pair leads to its root
--     Reading              the pair is entered, and is that of an agent
--     reading_below        what it refers to is the draft's
--     reading_led          where it leads is led to
--     reading_copied       the pair is copied once all that is
use mathlib.Core.Path.{◌≡◌, refl, sym, ap, ◌∙◌, subst, subst⁻¹}
use mathlib.Core.List.{List, [], ◌∷◌, Memᴰ}
use Prim.Native.Nat.{ℕ}
use Rattle.std.specs.Prelude.{Option, Some}
use Rattle.laws.proofs.Sets.{Within}
use Rattle.tcc.specs.Score.{root_of}
use Rattle.format.specs.Decode.{sizes, decode}
use Rattle.draft_language.specs.Draft.{draft_agent_at}
use Rattle.draft_pairs.specs.Pairs.{pair, number_in, set_in}
use Rattle.draft_pairs.proofs.TokenSets.{number_pair, set_bound}
use Rattle.draft_plain.specs.Places.{procedure_at, target, leads_to}
use Rattle.draft_plain.specs.Led.{Led}
use Rattle.draft_plain.proofs.Places.{KnownAgent, leads_procedure}
use Rattle.draft_format.specs.DraftFile.{decode_draft}
use Rattle.draft_format.specs.Translatable.{Translatable}
use Rattle.draft_copying.specs.declared.targets.References.{References}
use Rattle.draft_copying.proofs.Translatable.{root_read}
use Rattle.draft_copying.specs.Referring.{references_of}
use Rattle.draft_copying.proofs.Referring.{leads_by, RefersBelow, refers_leads, refers_below}
use Rattle.draft_copying.specs.Copied.{CopiedTo}
use Rattle.draft_copying.proofs.Copies.{AllCopied, Entering, entered_led, copied_all}

pub procedure_leads : (s : List ℕ) (p under : ℕ) {row root : ℕ} → row ≡ pair (procedure_at p) (set_in under) → root ≡ root_of (decode s) p → leads_to (decode_draft s) row ≡ target (decode_draft s) root (set_in row) ∷ []
procedure_leads s p under {row} {root} is named =
    leads_procedure (decode_draft s) row refl p (ap number_in is ∙ number_pair (procedure_at p) (set_in under) (set_bound under))
    ∙ ap (λ i. target (decode_draft s) i (set_in row) ∷ []) (sym (named ∙ root_read s p))

pub record Reading (s : List ℕ) (key row count : ℕ) (before : List (List ℕ)) (n : ℕ) (after : List (List ℕ)) (refers : References) : Type 0 where
  pub ok : Translatable s
  pub entering : Entering (decode_draft s) key row count before (Some n) after
  pub agent : KnownAgent (decode_draft s) row
  pub is : refers ≡ references_of (draft_agent_at (decode_draft s) (number_in row))

module _ {s : List ℕ} {key row count n : ℕ} {before after : List (List ℕ)} {refers x : References} (g : Reading s key row count before n after refers) (e : refers ≡ x) where
  leads : leads_to (decode_draft s) row ≡ leads_by (decode_draft s) (set_in row) x
  leads = refers_leads g.ok g.agent g.is ∙ ap (leads_by (decode_draft s) (set_in row)) e

  pub reading_below : RefersBelow (sizes s).agents (sizes s).procedures x
  reading_below = subst (RefersBelow (sizes s).agents (sizes s).procedures) e (refers_below g.ok g.agent g.is)

  pub reading_led : Within (Led (decode_draft s)) (leads_by (decode_draft s) (set_in row) x)
  reading_led m y = entered_led g.entering m (subst⁻¹ (Memᴰ m) leads y)

  pub reading_copied : {end : List (List ℕ)} (last : Option ℕ) → AllCopied (decode_draft s) (leads_by (decode_draft s) (set_in row) x) n after last end → CopiedTo (decode_draft s) key count before last end
  reading_copied last c = copied_all g.entering last leads c
