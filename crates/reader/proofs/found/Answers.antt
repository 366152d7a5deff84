-- `found` meets its contract: a step that is no field has no value.
use mathlib.Core.Path.{sym, ap, ◌∙◌}
use Rattle.reader.specs.Inner.Found.{found_in}
use Rattle.reader.proofs.Places.{none_found}
use Rattle.reader.proofs.found.Goals as goal

pub returns-in_default : goal.returns-in_default
returns-in_default c =
    let args = c.args in
    none_found args.file.now args.step c.in_default.not-Next

pub returns : goal.returns
returns c = c.value.ensures ∙ ap (found_in _) (sym c.in-Next.is)
