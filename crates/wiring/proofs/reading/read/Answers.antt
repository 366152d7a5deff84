-- `reading::read` meets its contract: each answer is the case that the answers before it lead to.
use mathlib.Core.Path.{sym, ◌∙◌}
use Rattle.wiring.proofs.Opened.{unformed, unsound, sound}
use Rattle.wiring.proofs.reading.read.Goals as goal

pub returns-in_default-clause-refusal : goal.returns-in_default-clause-refusal
returns-in_default-clause-refusal c = unformed _ (sym c.in_default.ensures.formed)

pub returns-in_default-ask_wiring-clause-refusal : goal.returns-in_default-ask_wiring-clause-refusal
returns-in_default-ask_wiring-clause-refusal c =
    let form = c.in-Some.ensures in
    unsound _ (sym form.formed) form.parts (sym c.ask_wiring.ensures ∙ c.in_default-ask_wiring.is)

pub returns-clause-refusal : goal.returns-clause-refusal
returns-clause-refusal c =
    let form = c.in-Some.ensures in
    sound _ (sym form.formed) form.parts (sym c.ask_wiring.ensures ∙ c.in-Sound.is)
