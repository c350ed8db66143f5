-- `may_follow`: an instant word, an input word or an output word.
use Rattle.journal_form.proofs.Against.{follows}
use Rattle.journal_form.proofs.may_follow.Goals as goal

pub returns : goal.returns
returns c =
    let a = c.args in
    follows a.journal a.tokens a.last a.w
    c.statuses.ensures
    c.starts.ensures
    c.is_instant-first.ensures
    c.has_token.ensures
    c.rises.ensures
    c.bits-input.ensures
    c.has_token-2.ensures
    c.rises-2.ensures
