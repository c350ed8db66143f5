-- `asked_by`: what a next and an unless ask for; another agent asks for none.
--     named     the token of an unless is one of 256
use Rattle.std.proofs.Common.{◌≡◌, refl, sym, ap, ◌∙◌, ℕ, ◌<◌}
use mathlib.Core.Path.{subst⁻¹}
use mathlib.Core.List.{Memᴰ}
use Rattle.tcc.specs.declared.Agent.TheVariants.{Unless}
use Rattle.draft_language.specs.declared.DraftAgent.{DraftAgent}
use Rattle.draft_language.specs.declared.DraftAgent.TheVariants.{Plain}
use Rattle.draft_pairs.specs.Pairs.{pair, set_in}
use Rattle.draft_pairs.specs.Rows.{row_value}
use Rattle.draft_gathering.specs.Asking.{tokens_named, asked_by}
use Rattle.draft_gathering.proofs.Members.{pair_first, pair_added}
use Rattle.draft_gathering.proofs.AskedSets.{asks_nothing}
use Rattle.draft_gathering.proofs.asked.asked_by.Goals as goal

named : {written : DraftAgent} {token body : ℕ} → ((t : ℕ) → Memᴰ t (tokens_named written) → t < 256) → written ≡ Plain (Unless token body) → token < 256
named {token = token} few is = few token (subst⁻¹ (λ w. Memᴰ token (tokens_named w)) is (Memᴰ.head refl))

pub returns-in_default : goal.returns-in_default
returns-in_default c = c.row_of.ensures ∙ pair_first 0 ∙ sym (ap (asked_by _) c.in_default.is)

pub with_token-own-requires : goal.with_token-own-requires
with_token-own-requires c = named c.requires (c.in-Plain.is ∙ ap Plain c.in-Unless.is)

pub returns-in-Next : goal.returns-in-Next
returns-in-Next c =
    let set = set_in (row_value c.args.row) in
    c.renumbered.ensures ∙ pair_first set ∙ sym (ap (asked_by set) (c.in-Plain.is ∙ ap Plain c.in-Next.is))

pub returns-in-Unless : goal.returns-in-Unless
returns-in-Unless c =
    let row = row_value c.args.row in
    let is = c.in-Plain.is ∙ ap Plain c.in-Unless.is in
    c.renumbered-in-Unless.ensures ∙ ap (λ v. pair 0 (set_in v)) c.with_token-own.ensures ∙ pair_added row c.in-Unless.token (named c.requires is) ∙ sym (ap (asked_by (set_in row)) is)

pub returns-in_default-agent : goal.returns-in_default-agent
returns-in_default-agent c =
    let set = set_in (row_value c.args.row) in
    c.row_of-in_default-agent.ensures ∙ pair_first 0 ∙ sym (ap (asked_by set) c.in-Plain.is ∙ asks_nothing set c.in-Plain.agent c.in_default-agent.not-Next c.in_default-agent.not-Unless)
